use Rattle.std.proofs.Common.{sym, ◌∙◌}
use Rattle.indexmap.proofs.CallerLemmas.{insert_entry-new}
use Rattle.wac_types.specs.contracts.comparison.classes.NodePartialEq.TheImpl as NodeEq
use Rattle.wac_types.proofs.lemmas.comparison.Equal.{same_node}
use Rattle.wac_types.proofs.lemmas.comparison.Joining.{node_found, node_new}
use Rattle.wac_types.proofs.comparison.classes.Classes.position.Goals as goal

pub returns-in-Some-clause-adds : goal.returns-in-Some-clause-adds
returns-in-Some-clause-adds c = node_found (NodeEq.eq-value).it same_node c.args.self.now.links.entries c.args.node _ _ _ (sym c.in-Some.ensures.key) c.in-Some.ensures.entry

pub returns-in-None-clause-adds : goal.returns-in-None-clause-adds
returns-in-None-clause-adds c =
    node_new c.args.self.now.links.entries c.insert.new.self.entries c.args.node c.len-next.result c.len-next.ensures.len
    (rw c.unwrap.ensures at c.insert.ensures.entries ∙ insert_entry-new (NodeEq.eq-value).it c.args.self.now.links c.args.node _ (sym c.in-None.ensures.value))
