use Rattle.std.proofs.Common.{◌≡◌, [], true}
use Rattle.wac_types_collection.specs.collection.Collection.{and_maybe, case_values, holds_value}
use Rattle.wac_merge_tables.proofs.lemmas.tables.TaskOpenings.{each_case}
use Rattle.wac_merge_resources.specs.private.renaming.RenamingSteps.{AllStay, IsReady, Stays}
use Rattle.wac_merge_resources.proofs.lemmas.renaming.Staying.{cases_further, fails}
use Rattle.wac_merge_resources.proofs.renaming.renamer.Renamed.cases_stay.Goals as goal

pub optional_stays-requires-clause-held : goal.optional_stays-requires-clause-held
optional_stays-requires-clause-held c = each_case (λ v. holds_value c.args.renaming.now.types.now v ≡ true) c.args.cases.now c.loop-i.i c.value_at.result.now c.value_at.ensures c.requires.held

pub optional_stays-requires-clause-ready : goal.optional_stays-requires-clause-ready
optional_stays-requires-clause-ready c = each_case (IsReady c.args.self.now) c.args.cases.now c.loop-i.i c.value_at.result.now c.value_at.ensures c.requires.ready

pub loop-i-preserved : goal.loop-i-preserved
loop-i-preserved c = cases_further (Stays c.args.renaming.now c.args.self.now) c.args.cases.now c.loop-i.i c.value_at.result.now c.value_at.ensures c.loop-i.invariant (c.optional_stays.ensures.0 c.if-not-optional_stays.false)

pub returns-then-not-optional_stays : goal.returns-then-not-optional_stays
returns-then-not-optional_stays c =
    let s = c.args.renaming.now in
    let memo = c.args.self.now in
    let v = c.value_at.result.now in
    fails (AllStay s memo (case_values c.args.cases.now)) (AllStay s memo (and_maybe v [])) c.optional_stays.result c.optional_stays.ensures c.if-not-optional_stays.true (each_case (Stays s memo) c.args.cases.now c.loop-i.i v c.value_at.ensures)
