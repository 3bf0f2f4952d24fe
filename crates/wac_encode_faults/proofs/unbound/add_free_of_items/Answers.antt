use Rattle.std.proofs.Common.{sym, ◌∙◌}
use Rattle.std.proofs.lemmas.Result.{on_ok_weaker}
use Rattle.wac_encode_faults.proofs.Binding.{items_free}
use Rattle.wac_encode_faults.proofs.FreeSets.{interfaces_held, interfaces_same}
use Rattle.wac_encode_faults.proofs.NoResources.{nothing_free_in_items}
use Rattle.wac_encode_faults.proofs.unbound.add_free_of_items.Goals as goal

pub returns-then-holds_no_resource : goal.returns-then-holds_no_resource
returns-then-holds_no_resource c = nothing_free_in_items c.args.types.now c.law.ensures (sym c.holds_no_resource.ensures ∙ c.if-holds_no_resource.true) c.args.items.now c.requires c.args.found.now.keys

pub add_free_of_interfaces-requires : goal.add_free_of_interfaces-requires
add_free_of_interfaces-requires c = interfaces_held c.args.types.now c.args.items.now c.new-interfaces.result.keys c.add_interfaces.new.found.keys c.new-interfaces.ensures.empty c.in_ok-add_interfaces.ensures c.requires

pub returns : goal.returns
returns c =
    on_ok_weaker c.add_free_of_interfaces.result (λ added.
    items_free c.args.types.now c.args.items.now c.add_interfaces.new.found.keys c.args.found.now.keys c.add_free_of_others.new.resources.keys c.add_free_of_interfaces.new.found.keys
    (interfaces_same c.args.items.now c.new-interfaces.result.keys c.add_interfaces.new.found.keys c.new-interfaces.ensures.empty c.in_ok-add_interfaces.ensures) c.in_ok-add_free_of_others.ensures added)
    c.add_free_of_interfaces.ensures
