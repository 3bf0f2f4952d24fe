-- How resources are named while scopes are walked outward. Only contracts inside the merge cite this file.
use Rattle.std.specs.Prelude.{ℕ, ◌+◌, ◌≡◌, ◌≤◌, Bool, true, false, List, length, Option, Some, None, slice_get}
use Rattle.std.specs.Option.{option_map}
use Rattle.wac_types_shapes.specs.primitives.Tree.{Leaf, Place, exported}
use Rattle.wac_types_collection.specs.collection.Collection.{Collection}
use Rattle.wac_types_collection.specs.collection.Held.{Names}
use Rattle.wac_types_collection.specs.subtyping.Called.{Called, bound_at, of_class, itself, resource_name}
use Rattle.wac_types_shapes.specs.declared.shapes.component.ResourceId.{ResourceId}
use Rattle.wac_merge_classes.specs.declared.entries.scopes.Opener.{Opener}
use Rattle.wac_merge_classes.specs.declared.entries.scopes.Scope.{Scope}
use Rattle.wac_merge_classes.specs.entries.Scopes.{binds, called_in}
use Rattle.wac_merge_classes.specs.entries.Places.{find_resource}

-- For each scope, what it binds.
pub record AreBound (c : Collection) (ss : List Scope) (bs : List (List (ResourceId × Leaf))) : Type 0 where
  pub counted : length bs ≡ length ss
  pub found : (i : ℕ) (s : Scope) (b : List (ResourceId × Leaf)) → slice_get ss i ≡ Some s → slice_get bs i ≡ Some b → (r : ResourceId) → find_resource b r ≡ binds c s.opener r

-- The name of a resource as seen from n scopes further in.
abbrev pub out_by : ℕ → Called → Called
out_by n (bound_at l name) = bound_at (record { out = l.out + n; side = l.side; path = l.path }) name
out_by n (of_class k path name) = of_class k path name
out_by n (itself r name) = itself r name

-- Seen from `position`, which is `out` scopes out of `start`, the resource has the same name but for the scopes
-- between.
pub record IsOut (c : Collection) (ss : List Scope) (start out position : ℕ) (r : ResourceId) : Type 0 where
  pub near : out + position ≤ start
  pub same : (root : Opener → Names Called) → called_in c root ss start r ≡ option_map (out_by out) (called_in c root ss position r)

-- A resource is named by the first class that binds it, else by itself.
abbrev pub by_first : Collection → ResourceId → Option (ℕ × List Place) → Called
by_first c r (Some b) = of_class b.0 b.1 (resource_name c r)
by_first c r None = itself r (resource_name c r)

-- Past the outermost scope of an instance a resource is named by where the class binds it, seen from `out` scopes in. Else,
-- and past the outermost scope of another item, by the first class that binds it, else by itself.
abbrev pub past : Collection → ResourceId → Bool → ℕ → Option (List Place) → Option (ℕ × List Place) → Called
past c r true out (Some path) first = bound_at (record { out = out; side = exported; path = path }) (resource_name c r)
past c r true out None first = by_first c r first
past c r false out path first = by_first c r first
