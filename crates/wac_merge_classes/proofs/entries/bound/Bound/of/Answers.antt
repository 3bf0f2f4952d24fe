use Rattle.wac_merge_classes.proofs.lemmas.entries.Places.{exports_held, imports_held, world_exports_held}
use Rattle.wac_merge_classes.proofs.entries.bound.Bound.of.Goals as goal

pub put_own-requires : goal.put_own-requires
put_own-requires c = exports_held c.args.types.now c.law.ensures c.in-Interface.id c.index-it.result.now c.index-it.ensures

pub put_listed-requires : goal.put_listed-requires
put_listed-requires c = imports_held c.args.types.now c.law.ensures c.in-Imports.id c.index-world.result.now c.index-world.ensures

pub put_listed-requires-in-Exports : goal.put_listed-requires-in-Exports
put_listed-requires-in-Exports c = imports_held c.args.types.now c.law.ensures c.in-Exports.id c.index-world-in-Exports.result.now c.index-world-in-Exports.ensures

pub put_listed-requires-in-Exports-2 : goal.put_listed-requires-in-Exports-2
put_listed-requires-in-Exports-2 c = world_exports_held c.args.types.now c.law.ensures c.in-Exports.id c.index-world-in-Exports.result.now c.index-world-in-Exports.ensures
