use Rattle.std.proofs.Common.{sym, ap, ◌∙◌, Ok, nat_eq}
use Rattle.std.specs.List.{list_any}
use Rattle.wac_graph_model.specs.nodes.Nodes.{satisfied}
use Rattle.wac_graph_fields.proofs.AliasLemmas.{before_reserve, vacant_before}
use Rattle.wac_graph_fields.proofs.InvariantLemmas.{invariant_instance}
use Rattle.wac_graph_fields.specs.private.Fields.{graph_of}
use Rattle.wac_graph_fields.proofs.StepLemmas.{instantiated, instance_shape}
use Rattle.wac_graph.specs.private.Inside.{fields_of}
use Rattle.wac_graph_model.proofs.lemmas.nodes.ValidLemmas.{instance_is_there, valid_instantiated}
use Rattle.wac_graph.proofs.graph.CompositionGraph.instantiate.Goals as goal

pub invariant_of-self-2 : goal.invariant_of-self-2
invariant_of-self-2 c =
    invariant_instance (fields_of c.self.inside) c.self.invariant c.insert_reserved.new.self c.vacant_key-number.result _
    (vacant_before (fields_of c.self.inside) c.reserve.new.self c.vacant_key-number.result c.in_ok-reserve.ensures.rest_kept c.vacant_key-number.ensures.vacant)
    (before_reserve (fields_of c.self.inside) c.reserve.new.self c.insert_reserved.new.self c.vacant_key-number.result c.insert_reserved.result _ c.in_ok-reserve.ensures.rest_kept c.vacant_key-number.ensures.value c.insert_reserved.ensures.key c.insert_reserved.ensures.updates)
    (λ i. ap (λ k. satisfied k i) c.new_node.ensures.kind ∙ ap (λ ks. list_any (nat_eq i) ks) c.new.ensures.empty)
    c.args.id c.in-Some.«package».now (c.new_node.ensures.node ∙ instance_shape c.args.id c.instance_type.result c.in-Some.«package».now c.instance_type.ensures) (sym (rw c.deref.ensures.value at c.in-Some.ensures))

pub returns-clause-step : goal.returns-clause-step
returns-clause-step c =
    rw (← c.self.view_is)
    (instantiated (fields_of c.self.inside) c.insert_reserved.new.self c.vacant_key-number.result c.args.id c.in-Some.«package».now _ (c.new_node.ensures.node ∙ instance_shape c.args.id c.instance_type.result c.in-Some.«package».now c.instance_type.ensures) (rw c.deref.ensures.value at c.in-Some.ensures)
    (c.vacant_key-number.ensures.value ∙ ap (λ s. s.vacant_key) c.in_ok-reserve.ensures.rest_kept)
    (vacant_before (fields_of c.self.inside) c.reserve.new.self c.vacant_key-number.result c.in_ok-reserve.ensures.rest_kept c.vacant_key-number.ensures.vacant)
    (before_reserve (fields_of c.self.inside) c.reserve.new.self c.insert_reserved.new.self c.vacant_key-number.result c.insert_reserved.result _ c.in_ok-reserve.ensures.rest_kept c.vacant_key-number.ensures.value c.insert_reserved.ensures.key c.insert_reserved.ensures.updates))

pub returns-clause-there : goal.returns-clause-there
returns-clause-there c = instance_is_there c.args.self.now (graph_of (record (fields_of c.self.inside) { nodes = c.insert_reserved.new.self })) c.args.id (Ok (record { 0 = c.vacant_key-number.result })) c.requires (returns-clause-step c)

pub returns-clause-valid : goal.returns-clause-valid
returns-clause-valid c = valid_instantiated c.args.self.now _ c.args.id (Ok (record { 0 = c.vacant_key-number.result })) c.requires (returns-clause-step c)
