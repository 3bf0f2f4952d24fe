use Rattle.wac_types_collection.proofs.lemmas.wide.Members.{at_in}
use Rattle.wac_encode_faults.proofs.FreeSets.{inside_taken, sets_taken}
use Rattle.wac_encode_faults.proofs.free.take_children.Goals as goal

pub find_children-requires : goal.find_children-requires
find_children-requires c = c.requires.there c.interface_at-id.result (at_in c.args.order.now.keys c.args.position c.interface_at-id.result c.interface_at-id.ensures)

pub returns-clause-free : goal.returns-clause-free
returns-clause-free c =
    inside_taken c.args.types.now c.args.roots.now.keys c.args.order.now.keys c.args.position c.interface_at-id.result c.interface_at-id.ensures c.in_ok-children.children.keys c.args.sets.now.entries c.new-found.result.keys
    c.add_children.new.found.keys c.new-found.ensures.empty c.in_ok-children.ensures c.requires.sorted c.requires.sets c.in_ok-add_children.ensures.added

pub returns-clause-sets : goal.returns-clause-sets
returns-clause-sets c =
    sets_taken c.args.types.now c.args.roots.now.keys c.args.order.now.keys c.args.position c.interface_at-id.result c.interface_at-id.ensures c.args.last.now.entries c.args.sets.now.entries c.add_children.new.sets.entries
    c.requires.last c.requires.sets c.in_ok-add_children.ensures.kept
