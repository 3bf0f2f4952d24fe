use Rattle.std.proofs.Common.{ap, ◌∙◌}
use Rattle.wac_graph_model.specs.nodes.Graph.{alias}
use Rattle.wac_graph_model.specs.nodes.Nodes.{satisfied, unnamed}
use Rattle.wac_graph_model.proofs.lemmas.nodes.NodeLemmas.{there}
use Rattle.wac_graph_fields.proofs.AliasLemmas.{already, aliased, invariant_aliased, before_reserve, vacant_before, alias_stands, alias_made}
use Rattle.wac_graph.specs.private.Inside.{fields_of}
use Rattle.wac_graph.proofs.CheckedLemmas.{found_export}
use Rattle.wac_graph.proofs.graph.CompositionGraph.alias_at.Goals as goal

pub index-requires : goal.index-requires
index-requires c = there c.self.inside.nodes.slots c.args.instance.0 (rw (← c.self.view_is) at c.requires.instance)

pub returns-in-Some-clause-step : goal.returns-in-Some-clause-step
returns-in-Some-clause-step c =
    rw (← c.self.view_is)
    (λ name has.
    let f = found_export (fields_of c.self.inside) c.self.invariant c.args.instance c.index.result.now name c.args.position c.args.item_kind c.index.ensures has in
    already (fields_of c.self.inside) c.args.instance c.index.result.now f.i f.it c.args.position c.in-Some.alias.0 c.args.item_kind name c.index.ensures f.is f.at f.found c.in-Some.ensures.some)

pub invariant_of-self-2 : goal.invariant_of-self-2
invariant_of-self-2 c =
    let f = found_export (fields_of c.self.inside) c.self.invariant c.args.instance c.index.result.now c.requires.export.0 c.args.position c.args.item_kind c.index.ensures (rw (← c.self.view_is) at c.requires.export.1) in
    invariant_aliased (fields_of c.self.inside) c.self.invariant c.law.ensures c.args.instance c.index.result.now f.i f.it c.args.position c.vacant_key-number.result c.args.item_kind c.requires.export.0 c.insert_reserved.new.self c.add.new.self _
    c.index.ensures f.is f.at f.found c.in_default.ensures.none
    (vacant_before (fields_of c.self.inside) c.reserve.new.self c.vacant_key-number.result c.in_ok-reserve.ensures.rest_kept c.vacant_key-number.ensures.vacant)
    (before_reserve (fields_of c.self.inside) c.reserve.new.self c.insert_reserved.new.self c.vacant_key-number.result c.insert_reserved.result _ c.in_ok-reserve.ensures.rest_kept c.vacant_key-number.ensures.value c.insert_reserved.ensures.key c.insert_reserved.ensures.updates)
    (λ j. ap (λ k. satisfied k j) c.new_node.ensures.kind) c.in_ok-add.ensures.ok (c.new_node.ensures.node ∙ ap (λ owner. unnamed alias owner c.args.item_kind) c.package-owner.ensures)

pub returns-clause-step : goal.returns-clause-step
returns-clause-step c =
    rw (← c.self.view_is)
    (λ name has.
    let f = found_export (fields_of c.self.inside) c.self.invariant c.args.instance c.index.result.now name c.args.position c.args.item_kind c.index.ensures has in
    aliased (fields_of c.self.inside) c.args.instance c.index.result.now f.i f.it c.args.position c.vacant_key-number.result c.args.item_kind name c.insert_reserved.new.self c.add.new.self _
    c.index.ensures f.is f.at f.found c.in_default.ensures.none
    (c.vacant_key-number.ensures.value ∙ ap (λ s. s.vacant_key) c.in_ok-reserve.ensures.rest_kept)
    (vacant_before (fields_of c.self.inside) c.reserve.new.self c.vacant_key-number.result c.in_ok-reserve.ensures.rest_kept c.vacant_key-number.ensures.vacant)
    (before_reserve (fields_of c.self.inside) c.reserve.new.self c.insert_reserved.new.self c.vacant_key-number.result c.insert_reserved.result _ c.in_ok-reserve.ensures.rest_kept c.vacant_key-number.ensures.value c.insert_reserved.ensures.key c.insert_reserved.ensures.updates)
    c.in_ok-add.ensures.ok (c.new_node.ensures.node ∙ ap (λ owner. unnamed alias owner c.args.item_kind) c.package-owner.ensures))

pub returns-in-Some-clause-there : goal.returns-in-Some-clause-there
returns-in-Some-clause-there c = rw (← c.self.view_is) (alias_stands (fields_of c.self.inside) c.self.invariant c.args.instance.0 c.in-Some.alias.0 c.args.position c.in-Some.ensures.some)

pub returns-clause-there : goal.returns-clause-there
returns-clause-there c =
    alias_made (fields_of c.self.inside) c.insert_reserved.new.self c.add.new.self c.vacant_key-number.result _
    (before_reserve (fields_of c.self.inside) c.reserve.new.self c.insert_reserved.new.self c.vacant_key-number.result c.insert_reserved.result _ c.in_ok-reserve.ensures.rest_kept c.vacant_key-number.ensures.value c.insert_reserved.ensures.key c.insert_reserved.ensures.updates)
