use Rattle.std.proofs.Common.{◌≡◌, None, cond}
use Rattle.std.specs.Map.{lookup}
use Rattle.wac_types_shapes.specs.keys.Key.{Key, same_key}
use Rattle.wac_graph_fields.specs.private.Slots.{vacant_of, key_of}
use Rattle.wac_graph_fields.proofs.SlotLemmas.{keyed_freed, if_held}
use Rattle.wac_graph_fields.proofs.slots.take_package.Goals as goal

pub returns-clause-keyed : goal.returns-clause-keyed
returns-clause-keyed c =
    let (p, is, taken) = if_held c.args.slots.now.items c.args.id (λ p. (k : Key) → lookup (same_key k) c.take_key.new.names.entries ≡ cond (same_key (key_of p) k) None (lookup (same_key k) c.args.names.now.entries)) c.requires.there (rw c.deref.ensures.value at c.take_key.ensures.taken) in
    keyed_freed c.args.slots.now.items (vacant_of c.args.vacant.now) c.args.id c.free.new.slots.items (vacant_of c.free.new.vacant) c.requires.there c.free.ensures.freed p is c.args.names.now.entries c.take_key.new.names.entries c.requires.keyed taken
