use Rattle.std.proofs.Common.{◌≡◌, true}
use Rattle.wac_types_collection.specs.collection.Collection.{holds_value, seconds}
use Rattle.wac_merge_tables.proofs.lemmas.tables.TaskOpenings.{first_of}
use Rattle.wac_merge_resources.specs.private.renaming.RenamingSteps.{IsReady}
use Rattle.wac_merge_resources.proofs.renaming.renamer.Renamed.func_stays.Goals as goal

pub optional_stays-requires-clause-held : goal.optional_stays-requires-clause-held
optional_stays-requires-clause-held c = let x = c.args.func.now in first_of (λ v. holds_value c.args.renaming.now.types.now v ≡ true) x.result (seconds x.params) c.requires.held

pub optional_stays-requires-clause-ready : goal.optional_stays-requires-clause-ready
optional_stays-requires-clause-ready c = let x = c.args.func.now in first_of (IsReady c.args.self.now) x.result (seconds x.params) c.requires.ready
