use Rattle.std.proofs.Common.{◌==◌, List, length, map, refl, sym, ◌∙◌, subst, string_bytes, inr}
use Rattle.std.proofs.lemmas.Bool.{and_parts, eqb-true}
use Rattle.wac_merge_classes.specs.entries.Classes.{by_names}
use Rattle.wac_merge_classes.specs.terms.Faults.{Disagrees, disagree}
use Rattle.wac_merge_classes.specs.terms.NoDisagreement.{HasNoDisagreement}
use Rattle.wac_merge_agreement.specs.private.agreement.Compared.{AreCompared}
use Rattle.wac_merge_agreement.specs.declared.agreement.compared.Disagreement.{Disagreement}
use Rattle.wac_merge_agreement.proofs.lemmas.agreement.Single.{single-agree, single-agreed}
use Rattle.wac_merge_tables.specs.private.tables.NodeViews.{item_view}
use Rattle.wac_merge_tables.specs.declared.tables.nodes.Item.{Item}
use Rattle.wac_merge.proofs.FaultLemmas.{pair_of}
use Rattle.wac_merge.proofs.aggregator.agreed_rests.Goals as goal

pub rests_by_uses-requires-clause-none : goal.rests_by_uses-requires-clause-none
rests_by_uses-requires-clause-none c =
    let both = and_parts (length c.args.classes.now.positions.items == length c.args.entries.now) (length c.args.types.now.resources == 0) (sym c.are_single.ensures ∙ c.if-are_single.true) in
    eqb-true (length c.args.types.now.resources) 0 both.1

pub returns-then-are_single-clause-agree : goal.returns-then-are_single-clause-agree
returns-then-are_single-clause-agree c =
    let es = c.args.entries.now in
    let both = and_parts (length c.args.classes.now.positions.items == length es) (length c.args.types.now.resources == 0) (sym c.are_single.ensures ∙ c.if-are_single.true) in
    single-agree c.args.types.now es (sym c.requires.classes.positioned ∙ eqb-true (length c.args.classes.now.positions.items) (length es) both.0)

pub returns-then-are_single-clause-agreed : goal.returns-then-are_single-clause-agreed
returns-then-are_single-clause-agreed c =
    let es = c.args.entries.now in
    let both = and_parts (length c.args.classes.now.positions.items == length es) (length c.args.types.now.resources == 0) (sym c.are_single.ensures ∙ c.if-are_single.true) in
    single-agreed c.args.types.now es (sym c.requires.classes.positioned ∙ eqb-true (length c.args.classes.now.positions.items) (length es) both.0)

pub first_pair-requires-clause-items : goal.first_pair-requires-clause-items
first_pair-requires-clause-items c =
    subst (λ (xs : List Item). AreCompared c.entry_items.new.nodes c.args.types.now c.args.entries.now (map item_view xs)) (sym c.as_slice-items.ensures.value) c.in_ok-items.ensures.items

pub returns-in-Some-clause-fault : goal.returns-in-Some-clause-fault
returns-in-Some-clause-fault c =
    let t = c.args.types.now in
    let es = c.args.entries.now in
    let d = c.in-Some.pair in
    let has = pair_of (λ (x : Disagreement). Disagrees by_names t es x.first x.second (string_bytes x.export)) (HasNoDisagreement by_names t es) c.in_ok-pair.field-0 d c.in_ok-pair.ensures.first c.in-Some.is in
    inr (disagree d.first d.second (string_bytes d.export), refl, has)

pub rests-requires-clause-items : goal.rests-requires-clause-items
rests-requires-clause-items c =
    subst (λ (xs : List Item). AreCompared c.entry_items.new.nodes c.args.types.now c.args.entries.now (map item_view xs)) (sym c.as_slice-items.ensures.value) c.in_ok-items.ensures.items
