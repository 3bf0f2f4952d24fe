-- The uses that merged imports have of earlier ones.
use Rattle.std.specs.Prelude.{ℕ, ◌≡◌, ◌<◌, ◌↔◌, Bool, true, false, is_some, List, [], ◌∷◌, ◌++◌, take, Option, Some, None, slice_get}
use Rattle.wac_types_shapes.specs.primitives.Name.{Name, find_name, option_case}
use Rattle.wac_types_shapes.specs.declared.shapes.component.Interface.{Interface}
use Rattle.wac_types_shapes.specs.declared.shapes.component.InterfaceId.{InterfaceId}
use Rattle.wac_types_shapes.specs.declared.shapes.component.UsedType.{UsedType}
use Rattle.wac_types_shapes.specs.declared.shapes.component.ItemKind.{ItemKind}
use Rattle.wac_types_shapes.specs.declared.shapes.component.ItemKind.TheVariants as kind
use Rattle.wac_types_collection.specs.collection.Collection.{Collection, item_at}
use Rattle.wac_types_collection.specs.collection.Uses.{is_listed_as_used, is_there, is_used_by_id}
use Rattle.wac_merge_classes.specs.entries.Classes.{Entry, NameRules, imported_as, members}
use Rattle.wac_merge_classes.specs.terms.Merge.{Merged, import_under, listed_resource}
use Rattle.wac_merge_unions.specs.uses.United.{instances_of, listed_by}

-- The interface of an instance, before other interfaces.
abbrev pub with_instance : ItemKind → List InterfaceId → List InterfaceId
with_instance (kind.Instance i) is = i ∷ is
with_instance k is = is

-- The interfaces of the instances among entries.
abbrev pub instances : List Entry → List InterfaceId
instances [] = []
instances (e ∷ es) = with_instance e.kind (instances es)

-- The uses of these interfaces, in order.
abbrev pub uses_of : Collection → List InterfaceId → List (Name × UsedType)
uses_of c [] = []
uses_of c (i ∷ is) = option_case (item_at c.interfaces i.0) [] (λ it. it.uses) ++ uses_of c is

abbrev pub instance_of : Option ItemKind → Option InterfaceId
instance_of (Some (kind.Instance i)) = Some i
instance_of o = None

-- The interface of the import to which an interface was merged, if it is among these imports.
abbrev pub imported_interface : NameRules → Collection → List Entry → List Entry → InterfaceId → Option InterfaceId
imported_interface rules c es imports i = option_case (item_at c.interfaces i.0) None (λ it. option_case it.id None (λ id. instance_of (import_under imports (imported_as rules es id))))

-- An own resource is exported under a name.
abbrev pub lists_resource : Collection → List (Name × ItemKind) → Name → Bool
lists_resource m listed n = option_case (find_name listed n) false (λ k. is_some (listed_resource m k))

-- The use with another interface, under the same name.
abbrev pub of_interface : InterfaceId → UsedType → UsedType
of_interface i u = record { interface = i; name = u.name }

-- A use is left out of an interface with these exports for one of five reasons.
-- - The used interface is not merged into an earlier import.
-- - An own resource has the name.
-- - That import has no id.
-- - That import exports no type under the name there.
-- - The interface exports something else under the name.
pub data IsLeftOut (rules : NameRules) (c : Collection) (es : List Entry) (m : Collection) (imports : List Entry) (listed : List (Name × ItemKind)) (n : Name) (u : UsedType) : Type 0 where
  not_before : imported_interface rules c es imports u.interface ≡ None → IsLeftOut rules c es m imports listed n u
  hides : lists_resource m listed n ≡ true → IsLeftOut rules c es m imports listed n u
  has_no_id : (i : InterfaceId) → imported_interface rules c es imports u.interface ≡ Some i → is_used_by_id m (of_interface i u) ≡ false → IsLeftOut rules c es m imports listed n u
  lists_none : (i : InterfaceId) → imported_interface rules c es imports u.interface ≡ Some i → is_there m (n, of_interface i u) ≡ false → IsLeftOut rules c es m imports listed n u
  differs : (i : InterfaceId) → imported_interface rules c es imports u.interface ≡ Some i → is_there m (n, of_interface i u) ≡ true → is_listed_as_used m listed (n, of_interface i u) ≡ false → IsLeftOut rules c es m imports listed n u

-- A use is kept as one of the import to which the used interface was merged.
-- That import has an id and exports a type. An export of the name is that type, and no own resource.
pub record IsKept (rules : NameRules) (c : Collection) (es : List Entry) (m : Collection) (imports : List Entry) (listed : List (Name × ItemKind)) (n : Name) (u v : UsedType) : Type 0 where
  pub before : imported_interface rules c es imports u.interface ≡ Some v.interface
  pub named : v.name ≡ u.name
  pub own : lists_resource m listed n ≡ false
  pub identified : is_used_by_id m v ≡ true
  pub there : is_there m (n, v) ≡ true
  pub alike : is_listed_as_used m listed (n, v) ≡ true

-- The use at a position is kept, and all earlier ones of its name are left out.
pub record IsFirstKept (rules : NameRules) (c : Collection) (es : List Entry) (m : Collection) (imports : List Entry) (listed : List (Name × ItemKind)) (us : List (Name × UsedType)) (k : ℕ) (n : Name) (v : UsedType) : Type 0 where
  pub use_there : UsedType
  pub at : slice_get us k ≡ Some (n, use_there)
  pub kept : IsKept rules c es m imports listed n use_there v
  pub first : (j : ℕ) (u : UsedType) → j < k → slice_get us j ≡ Some (n, u) → IsLeftOut rules c es m imports listed n u

-- Of these uses the first of each name that is not left out is kept, in order.
pub record AreKept (rules : NameRules) (c : Collection) (es : List Entry) (m : Collection) (imports : List Entry) (listed : List (Name × ItemKind)) (us kept : List (Name × UsedType)) : Type 0 where
  pub each : (n : Name) (v : UsedType) → ((p : ℕ) × (slice_get kept p ≡ Some (n, v))) ↔ ((k : ℕ) × IsFirstKept rules c es m imports listed us k n v)
  pub ordered : (p q k l : ℕ) (n o : Name) (v w : UsedType) → slice_get kept p ≡ Some (n, v) → slice_get kept q ≡ Some (o, w)
      → IsFirstKept rules c es m imports listed us k n v → IsFirstKept rules c es m imports listed us l o w → p < q → k < l

-- An interface is that of the import at a position, or of an instance inside it, and it unites these interfaces.
-- The import unites those of its class's entries, an instance inside those that these export under its name.
pub data StandsIn (rules : NameRules) (c : Collection) (es : List Entry) (m : Merged) (p : ℕ) : InterfaceId → List InterfaceId → Type 0 where
  as_import : (e : Entry) (w : InterfaceId) → slice_get m.imports p ≡ Some e → e.kind ≡ kind.Instance w → StandsIn rules c es m p w (instances (members rules es e.name))
  inside : (w v : InterfaceId) (is : List InterfaceId) (it : Interface) (n : Name) → StandsIn rules c es m p w is → item_at m.types.interfaces w.0 ≡ Some it → find_name it.exports n ≡ Some (kind.Instance v)
      → StandsIn rules c es m p v (instances_of (listed_by c is n))

-- Each import that is an instance has the uses of the interfaces that it unites, redirected to earlier imports.
-- So has each instance inside it.
abbrev pub KeepsUses : NameRules → Collection → List Entry → Merged → Type 0
KeepsUses rules c es m = (p : ℕ) (w : InterfaceId) (is : List InterfaceId) (it : Interface) → StandsIn rules c es m p w is → item_at m.types.interfaces w.0 ≡ Some it
    → AreKept rules c es m.types (take p m.imports) it.exports (uses_of c is) it.uses
