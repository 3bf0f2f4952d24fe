-- The way out of a part, without the enclosing parts that bind nothing. Only contracts inside the merge cite this file.
use Rattle.std.specs.Prelude.{ℕ, ◌≡◌, List, [], length, Option, Some, None, slice_get}
use Rattle.wac_types_shapes.specs.primitives.Tree.{Leaf}
use Rattle.wac_types_shapes.specs.declared.shapes.component.ResourceId.{ResourceId}
use Rattle.wac_merge_classes.specs.declared.terms.parts.Part.{Part}

-- An enclosing part is the next on the way out if it binds something or is outermost.
-- Otherwise the next is that on the way out of the enclosing part.
pub data LeadsOut (ps : List Part) (bounds : List (List (ResourceId × Leaf))) : Option ℕ → Option ℕ → Type 0 where
  outermost : LeadsOut ps bounds None None
  binding : (p : ℕ) → ((x : Part) → slice_get ps p ≡ Some x → slice_get bounds p ≡ Some [] → x.outer ≡ None) → LeadsOut ps bounds (Some p) (Some p)
  beyond : (p : ℕ) (x : Part) (q : ℕ) → slice_get ps p ≡ Some x → slice_get bounds p ≡ Some [] → LeadsOut ps bounds x.outer (Some q) → LeadsOut ps bounds (Some p) (Some q)

-- The next part on the way out is known for the first parts.
abbrev pub HaveWays : List Part → List (List (ResourceId × Leaf)) → List (Option ℕ) → Type 0
HaveWays ps bounds ws = (p : ℕ) (x : Part) (w : Option ℕ) → slice_get ps p ≡ Some x → slice_get ws p ≡ Some w → LeadsOut ps bounds x.outer w

-- The next part on the way out is known for each part.
pub record AreOutward (ps : List Part) (bounds : List (List (ResourceId × Leaf))) (ws : List (Option ℕ)) : Type 0 where
  pub counted : length ws ≡ length ps
  pub ways : HaveWays ps bounds ws
