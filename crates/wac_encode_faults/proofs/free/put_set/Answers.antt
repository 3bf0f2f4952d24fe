use Rattle.wac_types_collection.proofs.lemmas.wide.Members.{at_in}
use Rattle.wac_encode_faults.proofs.FreeSets.{own_held, set_made, sets_next}
use Rattle.wac_encode_faults.proofs.free.put_set.Goals as goal

pub index-interface-requires : goal.index-interface-requires
index-interface-requires c = c.requires.there c.interface_at-id.result (at_in c.args.order.now.keys c.args.position c.interface_at-id.result c.interface_at-id.ensures)

pub add_free_of_others-requires : goal.add_free_of_others-requires
add_free_of_others-requires c =
    own_held c.args.types.now c.law.ensures c.interface_at-id.result c.index-interface.result.now (c.requires.there c.interface_at-id.result (at_in c.args.order.now.keys c.args.position c.interface_at-id.result c.interface_at-id.ensures)) c.index-interface.ensures

pub remove_own-requires : goal.remove_own-requires
remove_own-requires c =
    own_held c.args.types.now c.law.ensures c.interface_at-id.result c.index-interface.result.now (c.requires.there c.interface_at-id.result (at_in c.args.order.now.keys c.args.position c.interface_at-id.result c.interface_at-id.ensures)) c.index-interface.ensures

pub returns-in-Ok : goal.returns-in-Ok
returns-in-Ok c =
    sets_next c.args.types.now c.args.roots.now.keys c.args.order.now.keys c.args.position c.interface_at-id.result c.take_children.new.sets.entries c.insert.new.self.entries c.remove_own.new.found c.interface_at-id.ensures
    c.in_ok-found.ensures.sets c.in-Ok.ensures.updates.0
    (set_made c.args.types.now c.interface_at-id.result c.index-interface.result.now c.in_ok-found.found.keys c.add_free_of_others.new.resources.keys c.remove_own.new.found.keys c.index-interface.ensures
    (c.in_ok-found.ensures.free c.interface_at-id.result c.interface_at-id.ensures) c.in_ok-add_free_of_others.ensures c.remove_own.ensures)
