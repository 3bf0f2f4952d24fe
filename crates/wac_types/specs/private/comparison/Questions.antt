-- Questions: whether a type of one collection is a subtype of a type of the other.
use Rattle.std.specs.Prelude.{ℕ, ◌<◌, ◌≡◌, Bool, true, false, not, None, List, ◌⊎◌}
use Rattle.std.specs.List.{AllByRecursion}
use Rattle.wac_types.specs.declared.comparison.questions.Question.{Question}
use Rattle.wac_types_shapes.specs.declared.shapes.component.«Type».{«Type» as AnyType}
use Rattle.wac_types_shapes.specs.declared.shapes.component.«Type».TheVariants as ty
use Rattle.wac_types_collection.specs.collection.Collection.{Collection, holds_type}
use Rattle.wac_types_collection.specs.collection.Aliases.{target_of}
use Rattle.wac_types_collection.specs.subtyping.Subtype.{Sub, type_tree}
use Rattle.wac_types.specs.private.comparison.Weights.{type_weight}

-- Two collections, in the order of the check.
abbrev pub in_order : Bool → Collection → Collection → Collection × Collection
in_order false x y = (x, y)
in_order true x y = (y, x)

-- The collection of a question's first type.
abbrev pub first_of_pair : Bool → Collection × Collection → Collection
first_of_pair false p = p.0
first_of_pair true p = p.1

-- The collection of a question's second type.
abbrev pub second_of_pair : Bool → Collection × Collection → Collection
second_of_pair t p = first_of_pair (not t) p

-- The type is not an alias of a value type.
abbrev pub IsEnd : Collection → AnyType → Type 0
IsEnd c (ty.Value v) = target_of c v ≡ None
IsEnd c t = Unit {0}

-- The type is a subtype only of equal types.
abbrev pub IsPlainType : AnyType → Type 0
IsPlainType (ty.Interface i) = ⊥
IsPlainType (ty.World w) = ⊥
IsPlainType (ty.Module m) = ⊥
IsPlainType t = Unit {0}

-- The type is of the collection, and is not an alias.
abbrev pub IsAskable : Collection → AnyType → Type 0
IsAskable c t = (holds_type c t ≡ true) × IsEnd c t

module _ (p : Collection × Collection) where
  -- Both types of the question are of their collections, and neither is an alias.
  abbrev pub IsAskableQuestion : Question → Type 0
  IsAskableQuestion q = IsAskable (first_of_pair q.turned p) q.first × IsAskable (second_of_pair q.turned p) q.second

  -- The answer is yes: the first type is a subtype of the second.
  abbrev pub IsYes : Question → Type 0
  IsYes q = Sub (type_tree (first_of_pair q.turned p) q.first) (type_tree (second_of_pair q.turned p) q.second)

  -- The answer is yes, if one of the types is lighter than n.
  abbrev pub IsYesBelow : ℕ → Question → Type 0
  IsYesBelow n q = (type_weight (first_of_pair q.turned p) q.first < n) ⊎ (type_weight (second_of_pair q.turned p) q.second < n) → IsYes q

-- All these types are of the collection.
abbrev pub AreHeld : Collection → List AnyType → Type 0
AreHeld c ts = AllByRecursion (λ t. holds_type c t ≡ true) ts

-- All these types are lighter than n.
abbrev pub AreBelow : Collection → ℕ → List AnyType → Type 0
AreBelow c n ts = AllByRecursion (λ t. type_weight c t < n) ts
