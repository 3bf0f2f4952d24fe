use Rattle.std.proofs.Common.{subst, sym}
use Rattle.std.specs.Prelude.{Contains}
use Rattle.std.proofs.lemmas.Result.{on_ok_weaker}
use Rattle.wac_edges.specs.Edge.{AreOnce}
use Rattle.wac_graph_fields.proofs.DependencyLemmas.{brings_ends, brings_no_alias, brought_added}
use Rattle.wac_graph_fields.proofs.dependencies.add_dependencies.Goals as goal

pub add_all-requires-clause-absent : goal.add_all-requires-clause-absent
add_all-requires-clause-absent c e h stands =
    c.requires.bare e stands (brings_ends c.args.types.now c.args.nodes.now c.args.ty c.args.id e ((c.in_ok-brought.ensures.edges e).0 (subst (λ xs. Contains xs e) c.as_slice.ensures.value h)))

pub add_all-requires-clause-once : goal.add_all-requires-clause-once
add_all-requires-clause-once c = subst AreOnce (sym c.as_slice.ensures.value) c.in_ok-brought.ensures.once

pub add_all-requires-clause-no_alias : goal.add_all-requires-clause-no_alias
add_all-requires-clause-no_alias c e h =
    brings_no_alias c.args.types.now c.args.nodes.now c.args.ty c.args.id e ((c.in_ok-brought.ensures.edges e).0 (subst (λ xs. Contains xs e) c.as_slice.ensures.value h))

pub returns-clause-ok : goal.returns-clause-ok
returns-clause-ok c =
    on_ok_weaker c.add_all.result (λ so e. brought_added c.args.types.now c.args.nodes.now c.args.ty c.args.id c.args.edges.now c.add_all.new.self c.in_ok-brought.brought.items c.as_slice.result.now c.as_slice.ensures.value c.in_ok-brought.ensures.edges e (so e)) c.add_all.ensures.ok
