use Rattle.std.proofs.Common.{Contains, sym, subst}
use Rattle.wac_merge_tables.specs.private.tables.NodeViews.{item_view}
use Rattle.wac_merge_tables.specs.private.tables.Nodes.{tree_at, type_of}
use Rattle.wac_merge_agreement.specs.private.agreement.Reach.{IsOfClass, Reaches}
use Rattle.wac_merge_agreement.proofs.lemmas.agreement.RestSets.{instance_has, once_there, there_if_held}
use Rattle.wac_merge_agreement.proofs.agreement.rests.instance_leads.Goals as goal

pub wide_uses-requires : goal.wide_uses-requires
wide_uses-requires c = there_if_held c.args.types.now c.args.id c.requires.held

pub put_used-requires : goal.put_used-requires
put_used-requires c = λ k h. once_there c.args.types.now c.law.ensures c.args.id k (subst (λ is. Contains is k) c.in_ok-used.ensures h)

pub returns : goal.returns
returns c =
    instance_has c.args.types.now c.args.classes.now.names c.args.id c.in_ok-used.used.keys (λ b. Reaches (IsOfClass b) (tree_at c.args.nodes.now (type_of (item_view c.args.item)))) c.in_ok-numbers.numbers.keys c.put_used.new.numbers.keys
    c.in_ok-used.ensures (rw (sym c.type_of.ensures) c.in_ok-numbers.ensures) c.in_ok-put_used.ensures
