-- The names under which classes bind resources. Only contracts inside the merge cite this file.
use Rattle.std.specs.Prelude.{ℕ, ◌≡◌, ◌⊎◌, ◌↔◌, Bool, true, false, is_some, List, [], ◌∷◌, Some, slice_get, Contains}
use Rattle.wac_types_shapes.specs.primitives.Name.{Name, find_name, option_case}
use Rattle.wac_types_shapes.specs.primitives.Tree.{named}
use Rattle.wac_types_collection.specs.collection.Collection.{Collection, interface_exports}
use Rattle.wac_types_shapes.specs.declared.shapes.component.ResourceId.{ResourceId}
use Rattle.wac_types_shapes.specs.declared.shapes.component.ItemKind.{ItemKind}
use Rattle.wac_types_shapes.specs.declared.shapes.component.ItemKind.TheVariants as kind
use Rattle.wac_types_shapes.specs.declared.shapes.component.«Type».TheVariants as ty
use Rattle.wac_merge_classes.specs.entries.Bindings.{ClassBindings, path_in}
use Rattle.wac_merge_classes.specs.entries.Classes.{Entry, by_names, class_names}
use Rattle.wac_merge_imports.specs.unions.MergedScope.{BindsUnder}

-- The item is a resource that the class with this number binds under the name.
abbrev pub ItemBinds : ClassBindings → ℕ → Name → ItemKind → Type 0
ItemBinds b k n x = (r : ResourceId) × (x ≡ kind.TypeItem (ty.Resource r)) × (path_in b k r ≡ Some (named n ∷ []))

-- The exports of an instance.
abbrev pub instance_exports : Collection → ItemKind → List (Name × ItemKind)
instance_exports c (kind.Instance i) = interface_exports c i
instance_exports c k = []

-- A set of names.
abbrev pub NameSet : Type 0
NameSet = List (Name × Unit {0})

-- The name is in the set.
abbrev pub IsAmong : NameSet → Name → Type 0
IsAmong ns n = is_some (find_name ns n) ≡ true

-- To the names come those of the items that are resources which the class binds under these names, and other names under which it binds one.
pub record AddsNames (b : ClassBindings) (k : ℕ) (items : List (Name × ItemKind)) (old new : NameSet) : Type 0 where
  pub kept : (n : Name) → IsAmong old n → IsAmong new n
  pub bound : (n : Name) → IsAmong new n → IsAmong old n ⊎ ((r : ResourceId) × (path_in b k r ≡ Some (named n ∷ [])))
  pub there : (n : Name) (x : ItemKind) → Contains items (n, x) → ItemBinds b k n x → IsAmong new n

-- Whether the set of the class with this number has the name.
abbrev pub is_bound_name : List NameSet → ℕ → Name → Bool
is_bound_name all k n = option_case (slice_get all k) false (λ ns. is_some (find_name ns n))

-- The set of each class has the names under which the class binds a resource.
abbrev pub AreBoundNames : Collection → List Entry → List NameSet → Type 0
AreBoundNames c es all = (k : ℕ) (class n : Name) → slice_get (class_names by_names es) k ≡ Some class
    → (is_bound_name all k n ≡ true) ↔ BindsUnder by_names c es class n
