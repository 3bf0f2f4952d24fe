use Rattle.std.proofs.Common.{sym, subst}
use Rattle.wac_encode_imports.specs.private.Imports.{AreImported}
use Rattle.wac_graph_encode.proofs.lemmas.encoding.TellLemmas.{tell-held, tell-merged, tell-ordered, tell-bound, tell-agreed, tell-clean, begins-root}
use Rattle.wac_graph_encode.proofs.lemmas.encoding.RootCosts.{told-total}
use Rattle.wac_graph_encode.proofs.encoding.writer.tell_imports.Goals as goal

pub tell_graph-requires-clause-finished : goal.tell_graph-requires-clause-finished
tell_graph-requires-clause-finished c = (c.requires.placed.merged).finished

pub tell_graph-requires-clause-held : goal.tell_graph-requires-clause-held
tell_graph-requires-clause-held c = tell-held c.args.reader.now c.args.imports.now c.requires.placed c.types.result.now c.types.ensures c.law-2.ensures

pub tell_graph-requires-clause-merged : goal.tell_graph-requires-clause-merged
tell_graph-requires-clause-merged c = tell-merged c.args.reader.now c.args.imports.now c.requires.placed c.types.result.now c.types.ensures

pub tell_graph-requires-clause-ordered : goal.tell_graph-requires-clause-ordered
tell_graph-requires-clause-ordered c = tell-ordered c.args.reader.now c.args.imports.now c.requires.placed c.types.result.now c.types.ensures c.requires.ordered

pub tell_graph-requires-clause-bound : goal.tell_graph-requires-clause-bound
tell_graph-requires-clause-bound c = tell-bound c.args.reader.now c.args.imports.now c.requires.placed c.types.result.now c.types.ensures c.requires.binds

pub tell_graph-requires-clause-agreed : goal.tell_graph-requires-clause-agreed
tell_graph-requires-clause-agreed c = tell-agreed c.args.reader.now c.args.imports.now c.requires.placed c.types.result.now c.types.ensures c.requires.agreed

pub tell_graph-requires-clause-clean : goal.tell_graph-requires-clause-clean
tell_graph-requires-clause-clean c = tell-clean c.args.reader.now c.args.imports.now c.requires.placed c.types.result.now c.types.ensures c.requires.bound

pub tell_graph-requires-clause-imported : goal.tell_graph-requires-clause-imported
tell_graph-requires-clause-imported c = subst (λ ps. AreImported c.args.imports.now.merge.merge ps c.args.state.now) (sym c.as_slice.ensures.value) c.requires.imported

pub returns-clause-cost : goal.returns-clause-cost
returns-clause-cost c = told-total c.args.reader.now c.args.imports.now c.requires.placed c.types.result.now c.types.ensures c.args.state.now c.tell_graph.new.state c.requires.imported c.in_ok-tell_graph.ensures.told c.in_ok-tell_graph.ensures.cost

pub returns-clause-begins : goal.returns-clause-begins
returns-clause-begins c = begins-root c.args.reader.now c.args.imports.now c.requires.placed c.types.result.now c.types.ensures (record { counted = c.law.ensures.counted; earlier = c.law.ensures.earlier; bounds_counted = c.law.ensures.instances_counted; bounds_earlier = c.law.ensures.instances_earlier; types_counted = c.law.ensures.types_counted; types_earlier = c.law.ensures.types_earlier }) c.args.state.now c.tell_graph.new.state c.requires.imported c.in_ok-tell_graph.ensures.told
