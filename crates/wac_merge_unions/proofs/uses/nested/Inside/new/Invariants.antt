use Rattle.std.proofs.Common.{◌≡◌, ◌≤◌, ℕ, Vec, length, map}
use Rattle.std.specs.Global.{Global}
use Rattle.wac_types_shapes.specs.declared.shapes.component.InterfaceId.{InterfaceId}
use Rattle.wac_merge_unions.specs.uses.Using.{AreInside, left_inside}
use Rattle.wac_merge_unions.proofs.uses.nested.Inside.new.Given as goal

abbrev pub invariant-loop-position : goal.invariant-loop-position
invariant-loop-position l = record {
  inside : AreInside l.asked.types.now l.merged l.fn.id l.users l.inside.interfaces.items (map (λ (v : Vec InterfaceId Global). v.items) l.inside.users.items) (map (λ (v : Vec ℕ Global). v.items) l.inside.inner.items);
  opened : length l.inside.inner.items ≡ l.position;
  within : l.position ≤ length l.inside.interfaces.items;
}

abbrev pub decreases-loop-position : goal.decreases-loop-position
decreases-loop-position l = left_inside l.merged l.inside.interfaces.items l.position
