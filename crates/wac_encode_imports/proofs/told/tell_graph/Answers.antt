use Rattle.std.proofs.lemmas.Result.{on_ok_weaker}
use Rattle.wac_encode_imports.proofs.Telling.{graph-told, root-imports}
use Rattle.wac_encode_imports.proofs.told.tell_graph.Goals as goal

pub tell_all-requires-clause-teller : goal.tell_all-requires-clause-teller
tell_all-requires-clause-teller c = record {
  finished = c.requires.finished;
  ordered = c.law.ensures;
  once = c.names_law.ensures.interfaces;
  held = c.requires.held;
  merged = c.requires.merged;
  acyclic = c.requires.ordered;
  bound = c.requires.bound;
  agreed = c.requires.agreed;
  clean = c.requires.clean;
  closed = c.in_ok-closed.ensures;
  counted = c.requires.imported.imports.placed;
}

pub tell_all-requires-clause-imports : goal.tell_all-requires-clause-imports
tell_all-requires-clause-imports c = root-imports c.args.merge.now.merge c.args.places.now c.args.state.now c.requires.imported

pub returns-clause-cost : goal.returns-clause-cost
returns-clause-cost c = on_ok_weaker c.tell_all.result (λ paid. paid c.requires.imported.beside c.requires.imported.root) c.tell_all.ensures.cost

pub returns-clause-told : goal.returns-clause-told
returns-clause-told c = graph-told c.tell_all.result c.args.state.now c.tell_all.new.state c.tell_all.ensures.binds c.requires.imported (record {
  finished = c.requires.finished;
  ordered = c.law.ensures;
  once = c.names_law.ensures.interfaces;
  held = c.requires.held;
  merged = c.requires.merged;
  acyclic = c.requires.ordered;
  bound = c.requires.bound;
  agreed = c.requires.agreed;
  clean = c.requires.clean;
  closed = c.in_ok-closed.ensures;
  counted = c.requires.imported.imports.placed;
})
