use Rattle.std.proofs.Common.{rules, ◌∙◌, ap, sym}
use Rattle.std.proofs.lemmas.Bool.{false≢true}
use denote.Enum.Bare.{same_true, true_same}
use Rattle.wac_binary.specs.contracts.sorts.Sort.{the_type}
use Rattle.wac_graph_model.specs.meaning.Means.{sort_of_kind}
use Rattle.wac_graph_model.specs.nodes.Nodes.{node_of}
use Rattle.wac_graph_model.proofs.lemmas.nodes.NodeLemmas.{text_read}
use Rattle.wac_graph_reader.proofs.lemmas.writing.NamingLemmas.{none_there, named_there, name_there}
use Rattle.wac_graph_reader.specs.private.reading.Inside.{fields_of}
use Rattle.wac_graph_reader.proofs.reading.reader.GraphReader.is_named.Goals as goal

pub returns-in_default : goal.returns-in_default
returns-in_default c = rw (← c.self.view_is) ((λ f. absurd (false≢true f)), (λ h. absurd (none_there (fields_of c.self.inside) c.args.n c.args.sort (sym c.in_default.ensures) h)))

pub returns-then-is_some : goal.returns-then-is_some
returns-then-is_some c = rw (← c.self.view_is) (
  (λ yes. named_there (fields_of c.self.inside) c.args.n c.args.sort c.in-Some.node.now (sym c.in-Some.ensures) (sym (text_read c.name.result (node_of c.in-Some.node.now).name c.name.ensures) ∙ sym c.is_some.ensures ∙ c.if-is_some.true) (sym (c.sort_of.ensures ∙ ap sort_of_kind c.item_kind.ensures) ∙ same_true the_type (search rules) c.sort_of.result c.args.sort (sym c.eq.ensures ∙ yes))),
  (λ h. let (some, sorted) = name_there (fields_of c.self.inside) c.args.n c.args.sort c.in-Some.node.now (sym c.in-Some.ensures) h in c.eq.ensures ∙ true_same the_type c.sort_of.result c.args.sort (c.sort_of.ensures ∙ ap sort_of_kind c.item_kind.ensures ∙ sorted)),
)

pub returns-else-is_some : goal.returns-else-is_some
returns-else-is_some c = rw (← c.self.view_is) (
  (λ yes. absurd (false≢true (sym c.if-is_some.false ∙ yes))),
  (λ h. let (some, sorted) = name_there (fields_of c.self.inside) c.args.n c.args.sort c.in-Some.node.now (sym c.in-Some.ensures) h in c.is_some.ensures ∙ text_read c.name.result (node_of c.in-Some.node.now).name c.name.ensures ∙ some),
)
