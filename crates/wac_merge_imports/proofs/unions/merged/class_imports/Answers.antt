use Rattle.std.proofs.Common.{◌≡◌, ℕ, suc, ◌<◌, List, [], ◌∷◌, ◌++◌, Option, Some, None, IsSome, take, slice_get, get_or, length, refl, sym, ap, ◌∙◌, subst, arith, add-one}
use Rattle.std.proofs.lemmas.List.{take_all}
use Rattle.std.proofs.lemmas.Option.{slice_get_read, slice_get_within, slice_get-get_or}
use Rattle.wac_types_collection.specs.collection.Collection.{Collection}
use Rattle.wac_types_shapes.specs.primitives.Name.{Name, find_name}
use Rattle.wac_types_shapes.specs.declared.shapes.component.ItemKind.{ItemKind}
use Rattle.wac_merge_classes.specs.terms.Merge.{import_entries}
use Rattle.wac_merge_classes.specs.entries.Classes.{Entry}
use Rattle.wac_merge_imports.specs.unions.MergedClasses.{AreImports, IsClassKind}
use Rattle.wac_merge_classes.specs.terms.Writing.{IsGiven}
use Rattle.wac_merge_imports.proofs.lemmas.unions.AssembledItemsFirst.{first-member}
use Rattle.wac_merge_classes.proofs.lemmas.terms.Found.{some_same}
use Rattle.wac_merge_resources.specs.renaming.MadeOf.{IsKindMadeOf}
use Rattle.wac_merge_resources.proofs.lemmas.renaming.OneIds.{stay_twice}
use Rattle.wac_merge_imports.specs.unions.WritingSteps.{AreImportsMadeOf, in_parts, outside}
use Rattle.wac_merge_imports.proofs.lemmas.unions.OneIds.{imports-long, imports-made-more}
use Rattle.wac_merge_tables.proofs.lemmas.made.Extending.{extended_twice}
use Rattle.wac_merge_resources.proofs.lemmas.renaming.StillRenamed.{still_can_all}
use Rattle.wac_merge_imports.proofs.lemmas.fitting.FittingClasses.{contains-at}
use Rattle.wac_merge_imports.proofs.lemmas.unions.ImportKinds.{namesake, still-given, imports-more, imported-once}
use Rattle.wac_merge_imports.proofs.unions.merged.class_imports.Goals as goal

pub bounds-positions-number : goal.bounds-positions-number
bounds-positions-number c =
    let order = c.args.order.now in
    let k : ℕ = get_or order c.loop-i.i 0 in
    let low = c.requires.each k (contains-at order c.loop-i.i k (slice_get-get_or order c.loop-i.i 0 c.loop-i-test.true)) in
    omega (arith, low, c.requires.classes.positioned, ap length c.positions-positions.ensures)

pub bounds-entries-positions : goal.bounds-entries-positions
bounds-entries-positions c =
    let es = c.args.asked.now.entries.now in
    let order = c.args.order.now in
    let k : ℕ = get_or order c.loop-i.i 0 in
    let low = c.requires.each k (contains-at order c.loop-i.i k (slice_get-get_or order c.loop-i.i 0 c.loop-i-test.true)) in
    let w = namesake es c.args.asked.now.classes.now.numbers.items c.args.asked.now.classes.now.positions.items c.args.asked.now.classes.now.names c.requires.classes k low in
    subst (λ (l : List ℕ). get_or l k 0 < length es) (sym c.positions-positions.ensures) (slice_get_within es (get_or c.args.asked.now.classes.now.positions.items k 0) w.entry w.there)

pub class_kind-requires-clause-known : goal.class_kind-requires-clause-known
class_kind-requires-clause-known c = still_can_all c.args.merged.now c.loop-i.merged c.loop-i.invariant.extended c.law.ensures c.args.asked.now.types.now c.args.became.now c.requires.known

pub returns-in_err-kind-clause-extended : goal.returns-in_err-kind-clause-extended
returns-in_err-kind-clause-extended c = extended_twice c.args.merged.now c.loop-i.merged c.class_kind.new.merged c.loop-i.invariant.extended c.class_kind.ensures.extended

pub returns-in_err-put_item-clause-extended : goal.returns-in_err-put_item-clause-extended
returns-in_err-put_item-clause-extended c = extended_twice c.args.merged.now c.loop-i.merged c.class_kind.new.merged c.loop-i.invariant.extended c.class_kind.ensures.extended

pub class_kind-requires-clause-held : goal.class_kind-requires-clause-held
class_kind-requires-clause-held c =
    let es = c.args.asked.now.entries.now in
    let order = c.args.order.now in
    let i : ℕ = c.loop-i.i in
    let k : ℕ = get_or order i 0 in
    let at : slice_get order i ≡ Some k = slice_get-get_or order i 0 c.loop-i-test.true in
    let low = c.requires.each k (contains-at order i k at) in
    let w = namesake es c.args.asked.now.classes.now.numbers.items c.args.asked.now.classes.now.positions.items c.args.asked.now.classes.now.names c.requires.classes k low in
    let p : ℕ = get_or c.args.asked.now.classes.now.positions.items k 0 in
    let e : Entry = c.index-entries-positions.result in
    let read : slice_get es p ≡ Some e = slice_get_read es (length es) p e refl (slice_get_within es p w.entry w.there) (c.index-entries-positions.is ∙ ap (λ (l : List ℕ). get_or es (get_or l k 0) e) c.positions-positions.ensures) in
    let same : w.entry ≡ e = some_same w.entry e (sym w.there ∙ read) in
    c.requires.held p e read

pub class_kind-requires-clause-given : goal.class_kind-requires-clause-given
class_kind-requires-clause-given c =
    let es = c.args.asked.now.entries.now in
    let order = c.args.order.now in
    let i : ℕ = c.loop-i.i in
    let k : ℕ = get_or order i 0 in
    let at : slice_get order i ≡ Some k = slice_get-get_or order i 0 c.loop-i-test.true in
    let low = c.requires.each k (contains-at order i k at) in
    let w = namesake es c.args.asked.now.classes.now.numbers.items c.args.asked.now.classes.now.positions.items c.args.asked.now.classes.now.names c.requires.classes k low in
    let p : ℕ = get_or c.args.asked.now.classes.now.positions.items k 0 in
    let e : Entry = c.index-entries-positions.result in
    let read : slice_get es p ≡ Some e = slice_get_read es (length es) p e refl (slice_get_within es p w.entry w.there) (c.index-entries-positions.is ∙ ap (λ (l : List ℕ). get_or es (get_or l k 0) e) c.positions-positions.ensures) in
    let same : w.entry ≡ e = some_same w.entry e (sym w.there ∙ read) in
    still-given c.args.merged.now c.loop-i.merged c.loop-i.invariant.extended e.kind (slice_get c.args.written.now k)
    (subst (λ (v : Entry). IsGiven c.args.merged.now v.kind (slice_get c.args.written.now k)) same (c.requires.given p k w.class w.entry w.there w.numbered w.member))

-- what is not there is none
none-unless : (o : Option ItemKind) → (IsSome o → ⊥) → o ≡ None
none-unless None h = refl
none-unless (Some k) h = absurd (h refl)

pub put_item-requires : goal.put_item-requires
put_item-requires c =
    let es = c.args.asked.now.entries.now in
    let order = c.args.order.now in
    let i : ℕ = c.loop-i.i in
    let k : ℕ = get_or order i 0 in
    let at : slice_get order i ≡ Some k = slice_get-get_or order i 0 c.loop-i-test.true in
    let low = c.requires.each k (contains-at order i k at) in
    let w = namesake es c.args.asked.now.classes.now.numbers.items c.args.asked.now.classes.now.positions.items c.args.asked.now.classes.now.names c.requires.classes k low in
    let p : ℕ = get_or c.args.asked.now.classes.now.positions.items k 0 in
    let e : Entry = c.index-entries-positions.result in
    let read : slice_get es p ≡ Some e = slice_get_read es (length es) p e refl (slice_get_within es p w.entry w.there) (c.index-entries-positions.is ∙ ap (λ (l : List ℕ). get_or es (get_or l k 0) e) c.positions-positions.ensures) in
    let same : w.entry ≡ e = some_same w.entry e (sym w.there ∙ read) in
    none-unless (find_name c.loop-i.imports c.name.result.now) (λ some. imported-once c.args.asked.now.types.now es c.args.became.now.parts.now c.args.became.now.bindings.now c.args.became.now.fresh.now c.args.written.now order c.requires.once c.loop-i.merged i k p c.loop-i.imports w at c.loop-i.invariant.imports
    (λ j l at_j. c.requires.each l (contains-at order j l at_j))
    (subst (λ (n : Name). IsSome (find_name c.loop-i.imports n)) (c.name.ensures ∙ ap (λ (v : Entry). v.name) (sym same)) some))

pub loop-i-preserved : goal.loop-i-preserved
loop-i-preserved c =
    let es = c.args.asked.now.entries.now in
    let order = c.args.order.now in
    let i : ℕ = c.loop-i.i in
    let k : ℕ = get_or order i 0 in
    let at : slice_get order i ≡ Some k = slice_get-get_or order i 0 c.loop-i-test.true in
    let low = c.requires.each k (contains-at order i k at) in
    let w = namesake es c.args.asked.now.classes.now.numbers.items c.args.asked.now.classes.now.positions.items c.args.asked.now.classes.now.names c.requires.classes k low in
    let p : ℕ = get_or c.args.asked.now.classes.now.positions.items k 0 in
    let e : Entry = c.index-entries-positions.result in
    let read : slice_get es p ≡ Some e = slice_get_read es (length es) p e refl (slice_get_within es p w.entry w.there) (c.index-entries-positions.is ∙ ap (λ (l : List ℕ). get_or es (get_or l k 0) e) c.positions-positions.ensures) in
    let same : w.entry ≡ e = some_same w.entry e (sym w.there ∙ read) in
    let t = c.args.asked.now.types.now in
    let ps = c.args.became.now.parts.now in
    let bs = c.args.became.now.bindings.now in
    let f = c.args.became.now.fresh.now in
    let ws = c.args.written.now in
    let n = c.args.became.now.named.now in
    let l : ItemKind = c.in_ok-kind.kind in
    let m : Collection = c.class_kind.new.merged in
    let kind : IsClassKind t m ps bs f ws k w.entry l = subst (λ (v : Entry). IsClassKind t m ps bs f ws k v l) (sym same) c.in_ok-kind.ensures.kind in
    let inserted : c.put_item.new.items ≡ c.loop-i.imports ++ (w.entry.name, l) ∷ [] = c.in_ok-put_item.ensures ∙ ap (λ (n : Name). c.loop-i.imports ++ (n, l) ∷ []) (c.name.ensures ∙ ap (λ (v : Entry). v.name) (sym same)) in
    record {
      extended = extended_twice c.args.merged.now c.loop-i.merged m c.loop-i.invariant.extended c.class_kind.ensures.extended;
      made = c.in_ok-kind.ensures.made;
      once = rw add-one (subst (λ (is : List (Name × ItemKind)). AreImportsMadeOf t m (outside t c.args.became.now) n c.class_kind.new.renamed.made es c.args.asked.now.classes.now.positions.items (take (suc i) order) (import_entries is)) (sym inserted)
          (imports-made-more t c.loop-i.merged m c.class_kind.ensures.extended (in_parts t c.args.became.now) n c.loop-i.renamed.made c.class_kind.new.renamed.made c.in_ok-kind.ensures.stay (outside t c.args.became.now) es c.args.asked.now.classes.now.positions.items order i k p c.loop-i.imports w.entry.name w.entry l at
          (slice_get-get_or c.args.asked.now.classes.now.positions.items k 0 (omega (arith, low, c.requires.classes.positioned))) w.there
          (sym (imports-long c.loop-i.imports) ∙ c.loop-i.invariant.imports.counted) c.loop-i.invariant.once
          (subst (λ (v : Entry). IsKindMadeOf t m (outside t c.args.became.now) n c.class_kind.new.renamed.made v.kind l) (sym same) c.in_ok-kind.ensures.once)));
      stay = stay_twice c.args.renamed.now.made c.loop-i.renamed.made c.class_kind.new.renamed.made c.loop-i.invariant.stay c.in_ok-kind.ensures.stay;
      imports = rw add-one (subst (λ (is : List (Name × ItemKind)). AreImports t m es ps bs f ws (take (suc i) order) (import_entries is)) (sym inserted)
          (imports-more t es ps bs f ws order c.requires.once c.loop-i.merged m c.class_kind.ensures.extended i k p c.loop-i.imports l w at
          (λ v rest plain are. first-member es w.class plain c.args.asked.now.classes.now.numbers.items c.args.asked.now.classes.now.positions.items c.args.asked.now.classes.now.names c.requires.classes k p w.entry v rest w.numbered (slice_get-get_or c.args.asked.now.classes.now.positions.items k 0 (omega (arith, low, c.requires.classes.positioned))) w.there are)
          kind c.loop-i.invariant.imports));
    }

pub offset_bounds-positions-number : goal.offset_bounds-positions-number
offset_bounds-positions-number c =
    let order = c.args.order.now in
    let k : ℕ = get_or order c.loop-i.i 0 in
    let low = c.requires.each k (contains-at order c.loop-i.i k (slice_get-get_or order c.loop-i.i 0 c.loop-i-test.true)) in
    let within : k < length c.positions-positions.result.now = omega (arith, low, c.requires.classes.positioned, ap length c.positions-positions.ensures) in
    omega arith

pub offset_bounds-entries-positions : goal.offset_bounds-entries-positions
offset_bounds-entries-positions c =
    let es = c.args.asked.now.entries.now in
    let order = c.args.order.now in
    let k : ℕ = get_or order c.loop-i.i 0 in
    let low = c.requires.each k (contains-at order c.loop-i.i k (slice_get-get_or order c.loop-i.i 0 c.loop-i-test.true)) in
    let w = namesake es c.args.asked.now.classes.now.numbers.items c.args.asked.now.classes.now.positions.items c.args.asked.now.classes.now.names c.requires.classes k low in
    let within : get_or c.positions-positions.result.now k 0 < length es = subst (λ (l : List ℕ). get_or l k 0 < length es) (sym c.positions-positions.ensures) (slice_get_within es (get_or c.args.asked.now.classes.now.positions.items k 0) w.entry w.there) in
    omega arith

pub returns-clause-once : goal.returns-clause-once
returns-clause-once c =
    let order = c.args.order.now in
    subst (λ (o : List ℕ). AreImportsMadeOf c.args.asked.now.types.now c.loop-i.merged (outside c.args.asked.now.types.now c.args.became.now) c.args.became.now.named.now c.loop-i.renamed.made c.args.asked.now.entries.now c.args.asked.now.classes.now.positions.items o (import_entries c.loop-i.imports)) (take_all c.loop-i.i order (omega arith)) c.loop-i.invariant.once

pub returns-clause-made : goal.returns-clause-made
returns-clause-made c = c.loop-i.invariant.made

pub returns-clause-stay : goal.returns-clause-stay
returns-clause-stay c = c.loop-i.invariant.stay
