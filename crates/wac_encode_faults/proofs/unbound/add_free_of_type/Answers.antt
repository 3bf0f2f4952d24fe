use Rattle.std.proofs.Common.{ap, sym, ◌∙◌}
use Rattle.std.proofs.lemmas.Result.{on_ok_weaker}
use Rattle.indexmap.specs.IndexSet.{insert_key}
use Rattle.wac_types_shapes.specs.contracts.shapes.component.InterfaceIdPartialEq.TheImpl as IdEq
use Rattle.wac_encode_faults.proofs.Binding.{one_there, one_interface_free}
use Rattle.wac_encode_faults.proofs.NoResources.{nothing_free}
use Rattle.wac_encode_faults.proofs.unbound.add_free_of_type.Goals as goal

pub returns-then-holds_no_resource : goal.returns-then-holds_no_resource
returns-then-holds_no_resource c = nothing_free c.args.types.now c.law.ensures (sym c.holds_no_resource.ensures ∙ c.if-holds_no_resource.true) c.args.ty c.requires c.args.found.now.keys

pub add_free-requires-clause-other : goal.add_free-requires-clause-other
add_free-requires-clause-other c = λ i is. c.in_default.not-Interface i is

pub add_free_of_interfaces-requires : goal.add_free_of_interfaces-requires
add_free_of_interfaces-requires c =
    one_there c.args.types.now c.args.ty c.in-Interface.id c.insert.new.self.keys c.in-Interface.is (c.in_ok-insert.ensures.keys ∙ ap (λ l. insert_key (IdEq.ghosts).eq l c.in-Interface.id) c.new-interfaces.ensures.empty) c.requires

pub returns : goal.returns
returns c =
    on_ok_weaker c.add_free_of_interfaces.result (λ added.
    one_interface_free c.args.types.now c.args.ty c.in-Interface.id c.insert.new.self.keys c.args.found.now.keys c.add_free_of_interfaces.new.found.keys c.in-Interface.is
    (c.in_ok-insert.ensures.keys ∙ ap (λ l. insert_key (IdEq.ghosts).eq l c.in-Interface.id) c.new-interfaces.ensures.empty) added)
    c.add_free_of_interfaces.ensures
