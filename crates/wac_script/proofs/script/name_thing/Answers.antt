use Rattle.std.proofs.Common.{sym, subst, inl, inr, refl}
use Rattle.wac_script.specs.Naming.{NamesThing}
use Rattle.wac_script.proofs.RunLemmas.{not-there, not-a-node}
use Rattle.wac_script.proofs.script.name_thing.Goals as goal

pub returns-in_default-clause-named : goal.returns-in_default-clause-named
returns-in_default-clause-named c = not-a-node c.args.label.now c.args.thing c.args.graph.now c.in_default.not-Node

pub returns-then-not-has_node-clause-named : goal.returns-then-not-has_node-clause-named
returns-then-not-has_node-clause-named c = subst (λ t. NamesThing c.args.label.now t c.args.graph.now c.args.graph.now) (sym c.in-Node.is)
    (inr (not-there _ c.has_node.result c.has_node.ensures c.if-not-has_node.true, refl))

pub returns-clause-named : goal.returns-clause-named
returns-clause-named c = subst (λ t. NamesThing c.args.label.now t c.args.graph.now c.set_node_name.new.self) (sym c.in-Node.is) (inl c.in_ok-set_node_name.ensures.step)
