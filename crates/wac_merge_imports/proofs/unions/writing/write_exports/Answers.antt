use Rattle.std.proofs.Common.{ℕ, Option, ◌≡◌, ◌<◌, List, [], take, length, slice_get, refl, sym, ap, subst, arith, add-one}
use Rattle.std.proofs.lemmas.List.{take_all}
use Rattle.std.proofs.lemmas.Option.{slice_get_read}
use Rattle.wac_types_shapes.specs.primitives.Name.{Name}
use Rattle.wac_types_shapes.specs.shapes.Named.{names_of}
use Rattle.wac_types_shapes.specs.declared.shapes.component.ItemKind.{ItemKind}
use Rattle.wac_types_shapes.proofs.lemmas.shapes.Names.{find_name-at, none_before, take_at}
use Rattle.wac_types_collection.specs.collection.Collection.{Collection}
use Rattle.wac_merge_classes.specs.terms.Became.{became}
use Rattle.wac_merge_resources.specs.renaming.MadeOf.{AreMade, IsKindMadeOf}
use Rattle.wac_merge_tables.specs.made.Made.{StayMade}
use Rattle.wac_merge_resources.specs.declared.renaming.became.Became.{Became}
use Rattle.wac_merge_tables.specs.declared.made.made.Made.{Made}
use Rattle.wac_merge_resources.proofs.lemmas.renaming.OneIds.{stay_twice}
use Rattle.wac_merge_imports.specs.unions.WritingSteps.{AreItemsMadeOf, AreWrittenItems, in_parts}
use Rattle.wac_merge_resources.specs.declared.renaming.renamer.Renaming.{Renaming}
use Rattle.wac_merge_classes.specs.declared.terms.parts.Export.{Export}
use Rattle.wac_merge_classes.specs.declared.terms.parts.Union.{Union}
use Rattle.wac_merge_classes.proofs.lemmas.terms.Found.{one_some}
use Rattle.wac_merge_tables.proofs.lemmas.made.Extending.{extended_none, extended_twice}
use Rattle.wac_merge_unions.proofs.lemmas.uniting.SameNames.{none_alike, push_alike}
use Rattle.wac_merge_imports.proofs.lemmas.unions.OneIds.{items-made-more}
use Rattle.wac_merge_imports.proofs.lemmas.unions.WritingItems.{items-more, items-none}
use Rattle.wac_merge_imports.proofs.lemmas.unions.WritingUnions.{renamed-alike, still-can}
use Rattle.wac_merge_imports.proofs.unions.writing.write_exports.Goals as goal

pub loop-i-init : goal.loop-i-init
loop-i-init c =
    let t = c.args.renaming.now.types.now in
    let m = c.args.merged.now in
    let b = c.args.renaming.now.became.now in
    let count = length c.args.next.now.unions.now.unions.items in
    record {
      extended = extended_none m;
      right = λ s p q r.
          let memo = c.args.renamed.now.made in
          c.forget.ensures.right m s (subst (λ (a : Collection). AreMade a s.became.now.named.now m memo) (sym p) (subst (λ (z : Became). AreMade t z.named.now m memo) (sym q) c.requires.made));
      written = subst (λ (ks : List (Name × ItemKind)). AreWrittenItems t m b count c.args.next.now.written.now c.args.next.now.union [] ks) (sym c.in_ok-items.ensures.empty) (items-none t m b count c.args.next.now.written.now c.args.next.now.union);
      once = subst (λ (ks : List (Name × ItemKind)). AreItemsMadeOf t m (in_parts t b) b.named.now c.forget.new.self.made [] ks) (sym c.in_ok-items.ensures.empty) tt;
      stay = subst (StayMade c.args.renamed.now.made) (sym c.forget.ensures.made) (λ f e is. is);
      names = ap names_of c.in_ok-items.ensures.empty;
    }

pub write_export-requires-clause-writing : goal.write_export-requires-clause-writing
write_export-requires-clause-writing c =
    still-can c.args.merged.now c.loop-i.merged c.loop-i.invariant.extended c.law.ensures c.args.renaming.now.types.now c.args.next.now.unions.now.unions.items c.args.renaming.now.became.now c.args.next.now.written.now c.args.next.now.union c.requires.writing

pub write_export-requires-clause-right : goal.write_export-requires-clause-right
write_export-requires-clause-right c =
    let before : Renaming = record { alloc = c.args.renaming.now.alloc; types = c.args.renaming.now.types; became = c.args.renaming.now.became; part = c.loop-i.part } in
    let now : Renaming = record { alloc = c.args.renaming.now.alloc; types = c.args.renaming.now.types; became = c.args.renaming.now.became; part = c.begin.new.part } in
    c.begin.ensures.right c.args.renaming.now.types.now c.loop-i.merged c.args.renaming.now.became.now (c.loop-i.invariant.right before refl refl refl).made c.loop-i.invariant.right now refl refl refl

pub write_export-requires-clause-export : goal.write_export-requires-clause-export
write_export-requires-clause-export c =
    let us = c.args.next.now.unions.now.unions.items in
    let u = c.args.next.now.union in
    let x : Union = c.index.result.now in
    let count = c.requires.writing.counted in
    let low : u < length us = omega (arith, count) in
    (x, slice_get_read us (length us) u x refl low c.index.ensures, find_name-at x.exports c.loop-i.i c.entry_at.result.0.now c.entry_at.result.1.now c.law-2.ensures c.entry_at.ensures)

pub returns-in_err-item-clause-extended : goal.returns-in_err-item-clause-extended
returns-in_err-item-clause-extended c = extended_twice c.args.merged.now c.loop-i.merged c.write_export.new.merged c.loop-i.invariant.extended c.write_export.ensures.extended

pub returns-in_err-put_item-clause-extended : goal.returns-in_err-put_item-clause-extended
returns-in_err-put_item-clause-extended c = extended_twice c.args.merged.now c.loop-i.merged c.write_export.new.merged c.loop-i.invariant.extended c.write_export.ensures.extended

pub put_item-requires : goal.put_item-requires
put_item-requires c =
    let es : List (Name × Export) = c.index.result.now.exports in
    let i = c.loop-i.i in
    let n : Name = c.entry_at.result.0.now in
    none_alike (take i es) c.loop-i.items n (sym c.loop-i.invariant.names) (none_before es i n c.entry_at.result.1.now c.law-2.ensures c.entry_at.ensures)

pub loop-i-preserved : goal.loop-i-preserved
loop-i-preserved c =
    let t = c.args.renaming.now.types.now in
    let now = c.loop-i.merged in
    let more = c.write_export.new.merged in
    let b = c.args.renaming.now.became.now in
    let count = length c.args.next.now.unions.now.unions.items in
    let es : List (Name × Export) = c.index.result.now.exports in
    let i = c.loop-i.i in
    let n : Name = c.entry_at.result.0.now in
    let e : Export = c.entry_at.result.1.now in
    let renaming : Renaming = record { alloc = c.args.renaming.now.alloc; types = c.args.renaming.now.types; became = c.args.renaming.now.became; part = c.begin.new.part } in
    let v = c.loop-i.invariant in
    let step : StayMade c.loop-i.renamed.made c.write_export.new.renamed.made = subst (λ (made : Made). StayMade made c.write_export.new.renamed.made) c.begin.ensures.made c.in_ok-item.ensures.stay in
    record {
      extended = extended_twice c.args.merged.now now more v.extended c.write_export.ensures.extended;
      right = λ s p q r. renamed-alike more c.write_export.new.renamed renaming s (sym p) (sym q) (sym r) c.in_ok-item.ensures.right;
      written = rw (add-one, take_at es i (n, e) c.entry_at.ensures, c.in_ok-put_item.ensures)
          (items-more t now more b count c.args.next.now.written.now c.args.next.now.union (take i es) c.loop-i.items n e c.in_ok-item.item c.write_export.ensures.extended v.written c.in_ok-item.ensures.written);
      once = rw (add-one, take_at es i (n, e) c.entry_at.ensures, c.in_ok-put_item.ensures)
          (items-made-more t now more c.write_export.ensures.extended (in_parts t b) b.named.now c.loop-i.renamed.made c.write_export.new.renamed.made step (take i es) c.loop-i.items n e c.in_ok-item.item v.once
          (subst (λ (p : Option ℕ). IsKindMadeOf t more (became t b.parts.now b.bindings.now b.fresh.now p) b.named.now c.write_export.new.renamed.made e.kind c.in_ok-item.item) c.begin.ensures.part c.in_ok-item.ensures.once));
      stay = stay_twice c.args.renamed.now.made c.loop-i.renamed.made c.write_export.new.renamed.made v.stay step;
      names = rw (add-one, take_at es i (n, e) c.entry_at.ensures, c.in_ok-put_item.ensures) (push_alike c.loop-i.items (take i es) n c.in_ok-item.item e v.names);
    }

pub returns-clause-made : goal.returns-clause-made
returns-clause-made c =
    let s : Renaming = record { alloc = c.args.renaming.now.alloc; types = c.args.renaming.now.types; became = c.args.renaming.now.became; part = c.loop-i.part } in
    (c.loop-i.invariant.right s refl refl refl).made

pub returns-clause-written : goal.returns-clause-written
returns-clause-written c x there =
    let us = c.args.next.now.unions.now.unions.items in
    let u = c.args.next.now.union in
    let y : Union = c.index.result.now in
    let held = c.requires.writing.counted in
    let low : u < length us = omega (arith, held) in
    let same : y ≡ x = one_some (slice_get us u) y x (slice_get_read us (length us) u y refl low c.index.ensures) there in
    subst (λ (z : Union). AreWrittenItems c.args.renaming.now.types.now c.loop-i.merged c.args.renaming.now.became.now (length us) c.args.next.now.written.now u z.exports c.loop-i.items) same
    (subst (λ (es : List (Name × Export)). AreWrittenItems c.args.renaming.now.types.now c.loop-i.merged c.args.renaming.now.became.now (length us) c.args.next.now.written.now u es c.loop-i.items) (take_all c.loop-i.i y.exports (omega arith)) c.loop-i.invariant.written)

pub returns-clause-once : goal.returns-clause-once
returns-clause-once c x there =
    let us = c.args.next.now.unions.now.unions.items in
    let u = c.args.next.now.union in
    let y : Union = c.index.result.now in
    let held = c.requires.writing.counted in
    let low : u < length us = omega (arith, held) in
    let same : y ≡ x = one_some (slice_get us u) y x (slice_get_read us (length us) u y refl low c.index.ensures) there in
    let t = c.args.renaming.now.became.now.named.now in
    subst (λ (z : Union). AreItemsMadeOf c.args.renaming.now.types.now c.loop-i.merged (in_parts c.args.renaming.now.types.now c.args.renaming.now.became.now) t c.loop-i.renamed.made z.exports c.loop-i.items) same
    (subst (λ (es : List (Name × Export)). AreItemsMadeOf c.args.renaming.now.types.now c.loop-i.merged (in_parts c.args.renaming.now.types.now c.args.renaming.now.became.now) t c.loop-i.renamed.made es c.loop-i.items) (take_all c.loop-i.i y.exports (omega arith)) c.loop-i.invariant.once)

pub returns-clause-stay : goal.returns-clause-stay
returns-clause-stay c = c.loop-i.invariant.stay
