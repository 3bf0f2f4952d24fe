use Rattle.std.proofs.Common.{◌≡◌, true, ap}
use Rattle.std.specs.Option.{option_map}
use Rattle.wac_types_collection.specs.collection.Collection.{holds_value}
use Rattle.wac_merge_resources.specs.private.renaming.RenamingSteps.{IsBecome, IsReady}
use Rattle.wac_merge_tables.proofs.lemmas.tables.TaskOpenings.{each_field}
use Rattle.wac_merge_resources.proofs.lemmas.renaming.RenamingLoops.{beside_further, new_beside}
use Rattle.wac_merge_resources.proofs.renaming.renamer.Renamed.fields.Goals as goal

pub part-value-requires-clause-held : goal.part-value-requires-clause-held
part-value-requires-clause-held c = each_field (λ v. holds_value c.args.renaming.now.types.now v ≡ true) c.args.fields.now c.loop-i.i c.entry_at.result.1.now (ap (option_map (λ e. e.1)) c.entry_at.ensures) c.requires.held

pub part-value-requires-clause-ready : goal.part-value-requires-clause-ready
part-value-requires-clause-ready c = each_field (IsReady c.args.self.now) c.args.fields.now c.loop-i.i c.entry_at.result.1.now (ap (option_map (λ e. e.1)) c.entry_at.ensures) c.requires.ready

pub put-requires : goal.put-requires
put-requires c = new_beside (IsBecome c.args.renaming.now c.args.self.now) c.args.fields.now c.loop-i.renamed c.loop-i.i c.entry_at.result.0.now c.entry_at.result.1.now c.law.ensures c.entry_at.ensures c.loop-i.invariant

pub loop-i-preserved : goal.loop-i-preserved
loop-i-preserved c =
    beside_further (IsBecome c.args.renaming.now c.args.self.now) c.args.fields.now c.loop-i.i c.entry_at.result.0.now c.entry_at.result.1.now c.part-value.result c.loop-i.renamed c.put.new.named c.entry_at.ensures c.in_ok-put.ensures c.loop-i.invariant c.part-value.ensures
