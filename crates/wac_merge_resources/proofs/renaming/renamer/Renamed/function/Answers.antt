use Rattle.std.proofs.Common.{◌≡◌, true, refl}
use Rattle.wac_types_collection.specs.collection.Collection.{holds_value, seconds}
use Rattle.wac_merge_tables.proofs.lemmas.tables.TaskOpenings.{first_of, rest_of}
use Rattle.wac_merge_resources.specs.private.renaming.RenamingSteps.{IsReady}
use Rattle.wac_merge_resources.proofs.renaming.renamer.Renamed.function.Goals as goal

pub fields-requires-clause-held : goal.fields-requires-clause-held
fields-requires-clause-held c = let x = c.args.func.now in rest_of (λ v. holds_value c.args.renaming.now.types.now v ≡ true) x.result (seconds x.params) c.requires.held

pub fields-requires-clause-ready : goal.fields-requires-clause-ready
fields-requires-clause-ready c = let x = c.args.func.now in rest_of (IsReady c.args.self.now) x.result (seconds x.params) c.requires.ready

pub optional-requires-clause-held : goal.optional-requires-clause-held
optional-requires-clause-held c = let x = c.args.func.now in first_of (λ v. holds_value c.args.renaming.now.types.now v ≡ true) x.result (seconds x.params) c.requires.held

pub optional-requires-clause-ready : goal.optional-requires-clause-ready
optional-requires-clause-ready c = let x = c.args.func.now in first_of (IsReady c.args.self.now) x.result (seconds x.params) c.requires.ready

pub returns : goal.returns
returns c = record { params = c.in_ok-fields.ensures; result = c.optional.ensures; sort = refl }
