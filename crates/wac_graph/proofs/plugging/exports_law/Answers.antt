use Rattle.std.proofs.Common.{sym, subst}
use Rattle.wac_types_shapes.specs.shapes.Named.{NoNameTwice}
use Rattle.wac_graph.proofs.lemmas.plugs.Each.{listed-exports}
use Rattle.wac_graph.proofs.lemmas.plugs.Worlds.{world-within}
use Rattle.wac_graph.proofs.plugging.exports_law.Goals as goal

pub index-requires-2 : goal.index-requires-2
index-requires-2 c = world-within c.args.graph.now c.args.id c.index.result.now c.ty-world.result c.types.result.now c.law.ensures c.index.ensures c.ty-world.ensures c.types.ensures

pub returns : goal.returns
returns c = subst NoNameTwice (sym (listed-exports c.args.graph.now c.args.id c.index.result.now c.ty-world.result c.types.result.now c.index-2.result.now c.index.ensures c.ty-world.ensures c.types.ensures c.index-2.ensures)) c.law-2.ensures
