-- The graph of types and type items; private functions alone cite this. A type is a node by its position among those
-- that were found, and an item by its own position after these.
use Rattle.std.specs.Prelude.{ℕ, ◌+◌, ◌-◌, ◌<◌, ◌≡◌, ◌↔◌, ◌⊎◌, ltb, if◌then◌else◌, Bool, true, false, List, [], ◌∷◌, ◌++◌, replicate, length, Option, Some, None, slice_get, slice_index_or}
use Rattle.wac_types_shapes.specs.primitives.Name.{Name}
use Rattle.wac_types_shapes.specs.shapes.Kinds.{kind_type}
use Rattle.wac_types_shapes.specs.declared.shapes.component.ItemKind.{ItemKind}
use Rattle.wac_types_shapes.specs.declared.shapes.component.ItemKind.TheVariants as kind
use Rattle.wac_types_shapes.specs.declared.shapes.component.«Type».{«Type» as AnyType}
use Rattle.wac_types_collection.specs.collection.Collection.{Collection, holds_type}
use Rattle.wac_types_collection.specs.collection.Aliases.{type_resolved}
use Rattle.wac_types_collection.specs.reach.Reach.{IsIn}
use Rattle.wac_edges.specs.declared.node.NodeId.{NodeId}
use Rattle.wac_edges.specs.Order.{Edges, IsEdge}
use Rattle.wac_encode_order.specs.private.TypeItems.{made_of, NamesAt, IsFirstName, IsTypeItemAt}

-- The items are of the collection.
abbrev pub AreHeld : Collection → List (Name × ItemKind) → Type 0
AreHeld c es = (k : ℕ) (e : Name × ItemKind) → slice_get es k ≡ Some e → holds_type c (kind_type e.1) ≡ true

-- The type of a type item.
abbrev pub listed_type : ItemKind → Option AnyType
listed_type (kind.TypeItem t) = Some t
listed_type (kind.Func f) = None
listed_type (kind.Instance i) = None
listed_type (kind.Component w) = None
listed_type (kind.Module m) = None
listed_type (kind.Value v) = None

-- The types of the first n type items are among these.
abbrev pub HaveItems : Collection → List (Name × ItemKind) → ℕ → List AnyType → Type 0
HaveItems c es n ts = (p : ℕ) (t : AnyType) → p < n → IsTypeItemAt es p t → IsIn (type_resolved c t) ts

-- The types are of the collection.
abbrev pub AllHeld : Collection → List AnyType → Type 0
AllHeld c ts = (t : AnyType) → IsIn t ts → holds_type c t ≡ true

-- The types of the type items were found, and those that they are made of. Aliases are resolved.
pub record AreReached (c : Collection) (es : List (Name × ItemKind)) (ts : List AnyType) : Type 0 where
  pub items : (p : ℕ) (t : AnyType) → IsTypeItemAt es p t → IsIn (type_resolved c t) ts
  pub parts : (t u : AnyType) → IsIn t ts → IsIn u (made_of c t) → IsIn (type_resolved c u) ts
  pub held : AllHeld c ts

-- The node is the type, or the item that is the first to name it.
abbrev pub IsSource : Collection → List (Name × ItemKind) → List AnyType → AnyType → ℕ → Type 0
IsSource c es ts t a = (slice_get ts a ≡ Some t) ⊎ ((q : ℕ) × IsFirstName c es q t × (a ≡ length ts + q))

-- The node a is one that the types come from of which the type is made.
abbrev pub IsPartOf : Collection → List (Name × ItemKind) → List AnyType → AnyType → ℕ → Type 0
IsPartOf c es ts t a = (u : AnyType) × IsIn u (made_of c t) × IsSource c es ts (type_resolved c u) a

-- A type comes after the sources of the types of which it is made.
abbrev pub TypeComesAfter : Collection → List (Name × ItemKind) → List AnyType → ℕ → ℕ → Type 0
TypeComesAfter c es ts a b = (t : AnyType) × (slice_get ts b ≡ Some t) × IsPartOf c es ts t a

-- The type item at position p comes after its type.
abbrev pub ItemComesAfter : Collection → List (Name × ItemKind) → List AnyType → ℕ → ℕ → ℕ → Type 0
ItemComesAfter c es ts p a b = (t : AnyType) × IsTypeItemAt es p t × (slice_get ts a ≡ Some (type_resolved c t)) × (b ≡ length ts + p)

-- Something holds of a number below n.
abbrev pub Below : ℕ → (ℕ → Type 0) → Type 0
Below n P = (i : ℕ) × (i < n) × P i

-- The node b comes after the node a.
abbrev pub ComesBefore : Collection → List (Name × ItemKind) → List AnyType → ℕ → ℕ → Type 0
ComesBefore c es ts a b = TypeComesAfter c es ts a b ⊎ Below (length es) (λ p. ItemComesAfter c es ts p a b)

-- Edges are added between the nodes for which P holds.
abbrev pub Adds : Edges → Edges → (ℕ → ℕ → Type 0) → Type 0
Adds old new P = (a b : NodeId) → IsEdge new a b ↔ (IsEdge old a b ⊎ P a.0 b.0)

-- The first of the first n items to name the type, or none.
abbrev pub IsFirst : Collection → List (Name × ItemKind) → ℕ → AnyType → Option ℕ → Type 0
IsFirst c es n t None = (q : ℕ) → q < n → NamesAt c es q t → ⊥
IsFirst c es n t (Some q) = IsFirstName c es q t

-- For each type, the first of the first n items to name it.
pub record AreNamed (c : Collection) (es : List (Name × ItemKind)) (ts : List AnyType) (n : ℕ) (named : List (Option ℕ)) : Type 0 where
  pub long : length named ≡ length ts
  pub first : (k : ℕ) (t : AnyType) (o : Option ℕ) → slice_get ts k ≡ Some t → slice_get named k ≡ Some o → IsFirst c es n t o

-- Whether the flag at this position is set.
abbrev pub is_set : List Bool → ℕ → Bool
is_set flags p = slice_index_or flags p false

-- All types are left, and the items that are chosen.
abbrev pub flags : List AnyType → List Bool → List Bool
flags ts chosen = replicate (length ts) true ++ chosen

-- The nodes that are items, by their positions.
abbrev pub items_of : ℕ → List NodeId → List ℕ
items_of n [] = []
items_of n (m ∷ ms) = if ltb m.0 n then items_of n ms else ((m.0 - n) ∷ items_of n ms)
