use Rattle.std.proofs.Common.{◌≡◌, true}
use Rattle.wac_types_collection.specs.collection.Collection.{holds_value, seconds}
use Rattle.wac_merge_tables.proofs.lemmas.tables.TaskOpenings.{each_field}
use Rattle.wac_merge_resources.specs.private.renaming.RenamingSteps.{AllStay, IsReady, Stays}
use Rattle.wac_merge_resources.proofs.lemmas.renaming.Staying.{fails, fields_further}
use Rattle.wac_merge_resources.proofs.renaming.renamer.Renamed.fields_stay.Goals as goal

pub stays-requires-clause-held : goal.stays-requires-clause-held
stays-requires-clause-held c = each_field (λ v. holds_value c.args.renaming.now.types.now v ≡ true) c.args.fields.now c.loop-i.i c.value_at.result.now c.value_at.ensures c.requires.held

pub stays-requires-clause-ready : goal.stays-requires-clause-ready
stays-requires-clause-ready c = each_field (IsReady c.args.self.now) c.args.fields.now c.loop-i.i c.value_at.result.now c.value_at.ensures c.requires.ready

pub loop-i-preserved : goal.loop-i-preserved
loop-i-preserved c = fields_further (Stays c.args.renaming.now c.args.self.now) c.args.fields.now c.loop-i.i c.value_at.result.now c.value_at.ensures c.loop-i.invariant (c.stays.ensures.0 c.if-not-stays.false)

pub returns-then-not-stays : goal.returns-then-not-stays
returns-then-not-stays c =
    let s = c.args.renaming.now in
    let memo = c.args.self.now in
    let v = c.value_at.result.now in
    fails (AllStay s memo (seconds c.args.fields.now)) (Stays s memo v) c.stays.result c.stays.ensures c.if-not-stays.true (each_field (Stays s memo) c.args.fields.now c.loop-i.i v c.value_at.ensures)
