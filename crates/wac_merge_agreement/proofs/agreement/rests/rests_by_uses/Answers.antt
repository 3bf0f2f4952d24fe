use Rattle.std.proofs.Common.{◌≡◌, ◌<◌, ℕ, List, [], Some, length, map, slice_get, get_or, refl, ap, sym, ◌∙◌, subst, arith, add-one}
use Rattle.std.specs.Prelude.{◌↔◌}
use Rattle.std.specs.BTreeSet.{BTreeSet}
use Rattle.std.proofs.Math.ListN.{length-set}
use Rattle.std.proofs.lemmas.Option.{slice_get-get_or, slice_get_read, slice_get_within}
use Rattle.wac_merge_classes.proofs.lemmas.terms.Found.{get_map}
use Rattle.wac_types_collection.specs.collection.Collection.{holds_type}
use Rattle.wac_types_shapes.specs.shapes.Kinds.{kind_type}
use Rattle.wac_types_shapes.specs.declared.shapes.component.ItemKind.{ItemKind}
use Rattle.wac_edges.specs.cycles.Cycles.{IsStep}
use Rattle.wac_merge_classes.specs.entries.Classes.{Entry, by_names, class_names}
use Rattle.wac_merge_tables.specs.private.tables.Nodes.{a_type}
use Rattle.wac_edges.specs.private.cycles.Numbers.{Has}
use Rattle.wac_merge_agreement.specs.private.agreement.Resting.{KindUses}
use Rattle.wac_merge_agreement.proofs.lemmas.agreement.RestSets.{leads_next, none_leads}
use Rattle.wac_merge_agreement.proofs.lemmas.agreement.RestUses.{UsesLead, kind_leads, no_bindings, no_item, rest_by_uses}
use Rattle.wac_merge_agreement.proofs.agreement.rests.rests_by_uses.Goals as goal

pub loop-i-init : goal.loop-i-init
loop-i-init c = record {
  counted = c.in_ok-rests.ensures.counted ∙ (ap length c.positions.ensures ∙ c.requires.classes.positioned);
  leads = none_leads [] c.args.types.now c.args.entries.now (map no_item c.args.entries.now) c.args.classes.now.numbers.items c.args.classes.now.names no_bindings c.in_ok-rests.rests.items c.in_ok-rests.ensures.empty;
}

pub used_by-requires : goal.used_by-requires
used_by-requires c =
    let e : Entry = c.index-entries-i.result in
    let at = slice_get_read c.args.entries.now (length c.args.entries.now) c.loop-i.i e refl c.loop-i-test.true c.index-entries-i.is in
    ap (λ (k : ItemKind). holds_type c.args.types.now (kind_type k)) c.kind-kind.ensures ∙ c.requires.held c.loop-i.i e at

pub index_mut-requires : goal.index_mut-requires
index_mut-requires c =
    let e : Entry = c.index-entries-i.result in
    let i : ℕ = c.loop-i.i in
    let k : ℕ = get_or c.numbers-numbers.result.now i 0 in
    let at = slice_get_read c.args.entries.now (length c.args.entries.now) i e refl c.loop-i-test.true c.index-entries-i.is in
    let number : slice_get c.args.classes.now.numbers.items i ≡ Some k =
    ap (λ l. slice_get l i) (sym c.numbers-numbers.ensures) ∙ slice_get-get_or c.numbers-numbers.result.now i 0 (omega (arith, ap length c.numbers-numbers.ensures, c.requires.classes.counted, c.loop-i-test.true)) in
    let w = c.requires.classes.numbered i k e at number in
    let within : k < length (class_names by_names c.args.entries.now) = slice_get_within (class_names by_names c.args.entries.now) k w.0 w.1 in
    omega (arith, within, c.loop-i.invariant.counted)

pub loop-i-preserved : goal.loop-i-preserved
loop-i-preserved c =
    let e : Entry = c.index-entries-i.result in
    let i : ℕ = c.loop-i.i in
    let k : ℕ = get_or c.numbers-numbers.result.now i 0 in
    let sets : List (BTreeSet ℕ) = c.loop-i.rests.items in
    let m : BTreeSet ℕ = c.index_mut.result.now in
    let new : BTreeSet ℕ = c.put_others.new.others in
    let more : List ℕ = c.in_ok-used.used.keys in
    let at = slice_get_read c.args.entries.now (length c.args.entries.now) i e refl c.loop-i-test.true c.index-entries-i.is in
    let number : slice_get c.args.classes.now.numbers.items i ≡ Some k =
    ap (λ l. slice_get l i) (sym c.numbers-numbers.ensures) ∙ slice_get-get_or c.numbers-numbers.result.now i 0 (omega (arith, ap length c.numbers-numbers.ensures, c.requires.classes.counted, c.loop-i-test.true)) in
    let w = c.requires.classes.numbered i k e at number in
    let within : k < length (class_names by_names c.args.entries.now) = slice_get_within (class_names by_names c.args.entries.now) k w.0 w.1 in
    let known : slice_get sets k ≡ Some m = slice_get_read sets (length sets) k m refl (omega (arith, within, c.loop-i.invariant.counted)) c.index_mut.ensures.value in
    record {
      counted = length-set sets k new ∙ c.loop-i.invariant.counted;
      leads = rw add-one
          (leads_next [] c.args.types.now c.args.entries.now (map no_item c.args.entries.now) c.args.classes.now.numbers.items c.args.classes.now.names no_bindings i k e (a_type 0) sets m new more at
          (get_map no_item c.args.entries.now i e at) number known
          (kind_leads c.args.types.now c.args.classes.now.names e.kind more
          (subst (λ (y : ItemKind). (b : ℕ) → Has more b ↔ KindUses c.args.types.now c.args.classes.now.names y b) c.kind-kind.ensures c.in_ok-used.ensures))
          c.in_ok-put_others.ensures c.loop-i.invariant.leads);
    }

pub returns-clause-rests : goal.returns-clause-rests
returns-clause-rests c a b =
    let es = c.args.entries.now in
    let all : c.loop-i.i ≡ length es = omega (arith, c.loop-i-test.false, c.loop-i.auto.i-end) in
    let l = subst (λ (n : ℕ). IsStep c.loop-i.rests.items a b ↔ UsesLead c.args.types.now es c.args.classes.now.numbers.items c.args.classes.now.names n a b) all (c.loop-i.invariant.leads a b) in
    let r = rest_by_uses c.args.types.now es c.args.classes.now.numbers.items c.args.classes.now.positions.items c.args.classes.now.names c.requires.classes c.law.ensures c.requires.held c.requires.none a b in
    (λ h. r.0 (l.0 h), λ h. l.1 (r.1 h))
