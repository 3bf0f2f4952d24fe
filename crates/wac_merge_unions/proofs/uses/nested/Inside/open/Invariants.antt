use Rattle.std.proofs.Common.{◌≡◌, Vec, Some, map, slice_get, take}
use Rattle.std.specs.Global.{Global}
use Rattle.wac_types_shapes.specs.declared.shapes.component.InterfaceId.{InterfaceId}
use Rattle.wac_merge_unions.specs.uses.Using.{AreKnown, ArePlaced}
use Rattle.wac_merge_unions.proofs.uses.nested.Inside.open.Given as goal

abbrev pub invariant-loop-j : goal.invariant-loop-j
invariant-loop-j l = record {
  placed : (v : Vec InterfaceId Global) → slice_get l.fn.self.users.items l.fn.position ≡ Some v
      → ArePlaced l.asked.types.now l.merged l.position l.fn.self.interfaces.items (map (λ (v : Vec InterfaceId Global). v.items) l.fn.self.users.items) v.items (take l.j l.listed) l.self.interfaces.items (map (λ (v : Vec InterfaceId Global). v.items) l.self.users.items) l.places.items;
  known : AreKnown l.position l.self.interfaces.items (map (λ (v : Vec InterfaceId Global). v.items) l.self.users.items) l.known.entries;
  inner : l.self.inner ≡ l.fn.self.inner;
}
