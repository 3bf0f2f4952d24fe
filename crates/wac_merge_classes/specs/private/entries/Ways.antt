-- The way out of a scope, without the enclosing scopes that bind nothing. Only contracts inside the merge cite this
-- file.
use Rattle.std.specs.Prelude.{ℕ, ◌+◌, ◌≡◌, List, [], length, Option, Some, None, slice_get}
use Rattle.wac_types_shapes.specs.primitives.Tree.{Leaf}
use Rattle.wac_types_shapes.specs.declared.shapes.component.ResourceId.{ResourceId}
use Rattle.wac_merge_classes.specs.declared.entries.outward.Outward.{Outward}
use Rattle.wac_merge_classes.specs.declared.entries.scopes.Scope.{Scope}

-- The nearest enclosing scope that binds something, else the outermost, and how many scopes out it is.
pub data LeadsOut (ss : List Scope) (bs : List (List (ResourceId × Leaf))) : Option ℕ → Option Outward → Type 0 where
  outermost : LeadsOut ss bs None None
  binding : (p : ℕ) → ((s : Scope) → slice_get ss p ≡ Some s → slice_get bs p ≡ Some [] → s.parent ≡ None) → LeadsOut ss bs (Some p) (Some (record { position = p; out = 1 }))
  beyond : (p : ℕ) (s : Scope) (w : Outward) → slice_get ss p ≡ Some s → slice_get bs p ≡ Some [] → LeadsOut ss bs s.parent (Some w) → LeadsOut ss bs (Some p) (Some (record { position = w.position; out = w.out + 1 }))

-- The first scopes have their next scopes on the way out.
abbrev pub HaveWays : List Scope → List (List (ResourceId × Leaf)) → List (Option Outward) → Type 0
HaveWays ss bs ws = (i : ℕ) (s : Scope) (w : Option Outward) → slice_get ss i ≡ Some s → slice_get ws i ≡ Some w → LeadsOut ss bs s.parent w

-- Each scope has its next scope on the way out.
pub record AreOutward (ss : List Scope) (bs : List (List (ResourceId × Leaf))) (ws : List (Option Outward)) : Type 0 where
  pub counted : length ws ≡ length ss
  pub ways : HaveWays ss bs ws
