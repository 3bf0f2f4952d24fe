-- The order of type items: each comes after those that name a type which it is made of.
use Rattle.std.specs.Prelude.{ℕ, ◌<◌, ◌≡◌, ◌&&◌, ◌==◌, not, Bool, true, false, List, [], ◌∷◌, Option, Some, None, slice_get}
use Rattle.wac_types_shapes.specs.primitives.Name.{Name}
use Rattle.wac_types_shapes.specs.declared.shapes.component.ItemKind.{ItemKind}
use Rattle.wac_types_shapes.specs.declared.shapes.component.ItemKind.TheVariants as kind
use Rattle.wac_types_shapes.specs.declared.shapes.component.ValueType.TheVariants as val
use Rattle.wac_types_shapes.specs.declared.shapes.component.«Type».{«Type» as AnyType}
use Rattle.wac_types_shapes.specs.declared.shapes.component.«Type».TheVariants as ty
use Rattle.wac_types_collection.specs.collection.Collection.{Collection, interface_exports, kind_types}
use Rattle.wac_types_collection.specs.collection.Aliases.{type_resolved}
use Rattle.wac_types_collection.specs.reach.Reach.{IsIn, mentions}

-- The types of which a type is made, and that are written in its scope or in one inside it. A component type sees
-- nothing outside it, so its types are not among them.
abbrev pub made_of : Collection → AnyType → List AnyType
made_of c (ty.Func f) = mentions c (ty.Func f)
made_of c (ty.Value v) = mentions c (ty.Value v)
made_of c (ty.Interface i) = kind_types (interface_exports c i)
made_of c (ty.Resource r) = []
made_of c (ty.World w) = []
made_of c (ty.Module m) = []

-- The type is made of the other one, directly or not. Aliases are resolved.
pub data IsMadeOf (c : Collection) (t : AnyType) : AnyType → Type 0 where
  at_once : (u : AnyType) → IsIn u (made_of c t) → IsMadeOf c t (type_resolved c u)
  further : (u v : AnyType) → IsMadeOf c t u → IsIn v (made_of c u) → IsMadeOf c t (type_resolved c v)

-- The type, if it has an id. Primitive types and handles have none.
abbrev pub with_id : AnyType → Option AnyType
with_id (ty.Value (val.Primitive p)) = None
with_id (ty.Value (val.Own r)) = None
with_id (ty.Value (val.Borrow r)) = None
with_id (ty.Value (val.Defined d)) = Some (ty.Value (val.Defined d))
with_id (ty.Resource r) = Some (ty.Resource r)
with_id (ty.Func f) = Some (ty.Func f)
with_id (ty.Interface i) = Some (ty.Interface i)
with_id (ty.World w) = Some (ty.World w)
with_id (ty.Module m) = Some (ty.Module m)

-- The type that an item names: that of a type item, with its aliases resolved.
abbrev pub named_type : Collection → ItemKind → Option AnyType
named_type c (kind.TypeItem t) = with_id (type_resolved c t)
named_type c (kind.Func f) = None
named_type c (kind.Instance i) = None
named_type c (kind.Component w) = None
named_type c (kind.Module m) = None
named_type c (kind.Value v) = None

-- The item at this position names the type.
abbrev pub NamesAt : Collection → List (Name × ItemKind) → ℕ → AnyType → Type 0
NamesAt c es p t = (e : Name × ItemKind) × (slice_get es p ≡ Some e) × (named_type c e.1 ≡ Some t)

-- The item at this position is the first that names the type.
pub record IsFirstName (c : Collection) (es : List (Name × ItemKind)) (p : ℕ) (t : AnyType) : Type 0 where
  pub names : NamesAt c es p t
  pub first : (q : ℕ) → q < p → NamesAt c es q t → ⊥

-- The item at this position is a type item of the type.
abbrev pub IsTypeItemAt : List (Name × ItemKind) → ℕ → AnyType → Type 0
IsTypeItemAt es p t = (n : Name) × (slice_get es p ≡ Some (n, kind.TypeItem t))

-- The type item at p reaches the one at q: its type is made of one that the item at q is the first to name.
pub record Reaches (c : Collection) (es : List (Name × ItemKind)) (p q : ℕ) : Type 0 where
  pub type : AnyType
  pub there : IsTypeItemAt es p type
  pub part : AnyType
  pub made : IsMadeOf c (type_resolved c type) part
  pub named : IsFirstName c es q part

-- The item at p is the first of those left that reaches none of those left.
pub record IsNext (reaches : ℕ → ℕ → Type 0) (left : ℕ → Bool) (p : ℕ) : Type 0 where
  pub here : left p ≡ true
  pub free : (q : ℕ) → left q ≡ true → reaches p q → ⊥
  pub before : (q : ℕ) → q < p → left q ≡ true → (r : ℕ) × (left r ≡ true) × reaches q r

-- The items that are left, one after another, each the next then.
abbrev pub Takes : (ℕ → ℕ → Type 0) → (ℕ → Bool) → List ℕ → Type 0
Takes reaches left [] = (p : ℕ) → left p ≡ false
Takes reaches left (p ∷ ps) = IsNext reaches left p × Takes reaches (λ q. left q && not (q == p)) ps
