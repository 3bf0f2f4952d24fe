use Rattle.std.proofs.Common.{◌∙◌, ℕ, sym, arith}
use Rattle.std.specs.Map.{lookup}
use Rattle.std.proofs.lemmas.List.{at_drop_all}
use Rattle.wac_graph_model.specs.declared.nodes.packages.PackageId.{PackageId}
use Rattle.wac_graph_model.specs.meaning.Means.{same_package}
use Rattle.wac_graph_reader.proofs.lemmas.reading.ComponentLemmas.{found_next, not_next}
use Rattle.wac_graph_reader.proofs.reading.components.find.Goals as goal

abbrev none : PackageId × ℕ
none = (record { slot = 0; generation = 0 }, 0)

pub loop-found-preserved : goal.loop-found-preserved
loop-found-preserved c = not_next c.args.id c.args.entries.now c.loop-found.found-index none c.loop-found-test.true c.loop-found.invariant (sym c.eq.ensures ∙ c.if-eq.false)

pub returns-then-eq : goal.returns-then-eq
returns-then-eq c = found_next c.args.id c.args.entries.now c.loop-found.found-index none c.loop-found-test.true c.loop-found.invariant (sym c.eq.ensures ∙ c.if-eq.true)

pub returns : goal.returns
returns c = sym (c.loop-found.invariant ∙ at_drop_all (lookup (same_package c.args.id)) c.args.entries.now c.loop-found.found-index (omega (arith, c.loop-found-test.false)))
