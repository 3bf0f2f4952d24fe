-- How resources are named in a scope of an entry. Only contracts inside the merge cite this file.
use Rattle.std.specs.Prelude.{ℕ, ◌≡◌, ◌<◌, length, Option, Some, None, List, slice_get}
use Rattle.wac_types_shapes.specs.primitives.Name.{Name, option_case}
use Rattle.wac_types_collection.specs.collection.Collection.{Collection}
use Rattle.wac_types_collection.specs.collection.Held.{Names}
use Rattle.wac_types_collection.specs.subtyping.Called.{Called}
use Rattle.wac_types_shapes.specs.declared.shapes.component.ItemKind.{ItemKind}
use Rattle.wac_merge_trees.specs.declared.coding.calls.Calls.{Calls}
use Rattle.wac_merge_classes.specs.declared.entries.scopes.Scope.{Scope}
use Rattle.wac_merge_classes.specs.entries.Classes.{Entry, by_names, class_names}
use Rattle.wac_merge_classes.specs.entries.Agreement.{called_outside}
use Rattle.wac_merge_classes.specs.entries.Bindings.{AreBindings}
use Rattle.wac_merge_classes.specs.entries.Scopes.{AreNested, AreScopes, called_in, called_in_root, opened_by}
use Rattle.wac_merge_classes.specs.private.entries.Walking.{AreBound}
use Rattle.wac_merge_classes.specs.private.entries.Ways.{AreOutward}

-- How resources are named in a scope of an entry, or outside its scopes.
abbrev pub names_of : Collection → List Entry → Name → ItemKind → List Scope → Option ℕ → Names Called
names_of c es class kind ss None = called_outside by_names c es
names_of c es class kind ss (Some i) = called_in c (called_in_root by_names c es class kind) ss i

-- How a resource that is no alias is named.
abbrev pub names_in : Collection → Calls → Names Called
names_in c s r = option_case (slice_get (class_names by_names s.entries.now) s.class) None (λ class. names_of c s.entries.now class s.kind s.scopes.now s.scope r)

-- The scope, if there is one, is one of the first n.
abbrev pub IsScopeOf : ℕ → Option ℕ → Type 0
IsScopeOf n None = Unit {0}
IsScopeOf n (Some i) = i < n

-- The number is that of a class, and the bindings and scopes are those of the entries and the item.
pub record AreNamed (c : Collection) (s : Calls) : Type 0 where
  pub name : Name
  pub class : slice_get (class_names by_names s.entries.now) s.class ≡ Some name
  pub bindings : AreBindings c s.entries.now s.bindings.now
  pub scopes : AreScopes c (opened_by s.kind) s.scopes.now
  pub nested : AreNested c s.known.now s.scopes.now
  pub bound : AreBound c s.scopes.now s.bound.now
  pub outward : AreOutward s.scopes.now s.bound.now s.outward.now
  pub within : IsScopeOf (length s.scopes.now) s.scope
