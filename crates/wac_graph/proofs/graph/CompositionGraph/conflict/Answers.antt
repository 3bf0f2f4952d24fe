use Rattle.std.proofs.Common.{refl, ap, sym, ◌∙◌, string_bytes, Some}
use Rattle.wac_graph_reader.proofs.lemmas.writing.ConflictLemmas.{named_first}
use Rattle.wac_graph_reader.proofs.lemmas.writing.EncodingLemmas.{package_now}
use Rattle.wac_graph.proofs.graph.CompositionGraph.conflict.Goals as goal

pub returns : goal.returns
returns c = (
  c.in_ok-package.«package»,
  string_bytes c.in_ok-name.name,
  refl,
  named_first c.args.self.now c.args.n c.args.position c.args.import c.in_ok-package.«package» (string_bytes c.in_ok-name.name) c.requires.first c.requires.lowest c.imports_at.result.now c.imports_at.ensures (c.name_at.ensures ∙ ap Some (sym c.in_ok-name.ensures.ok)) c.package_of.result.1.now (package_now c.args.self.now c.args.n c.package_of.result.0 c.package_of.result.1.now c.package_of.ensures.owner c.package_of.ensures.registered) c.in_ok-package.ensures,
)
