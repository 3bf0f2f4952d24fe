-- Questions settle a fact: if it holds, the answer to the new ones is yes; if the answer to all is yes, it holds.
use Rattle.std.specs.Prelude.{ℕ, ◌≤◌, ◌≡◌, ◌↔◌, Bool, true, not, List, ◌++◌, ◌⊎◌}
use Rattle.std.specs.List.{AllByRecursion, Contains}
use Rattle.wac_types.specs.declared.comparison.questions.Question.{Question}
use Rattle.wac_types.specs.declared.comparison.questions.Asked.{Asked}
use Rattle.wac_types.specs.declared.comparison.classes.Node.{Node}
use Rattle.wac_types_shapes.specs.declared.shapes.component.ValueType.{ValueType}
use Rattle.wac_types_shapes.specs.declared.shapes.component.«Type».{«Type» as AnyType}
use Rattle.wac_types_shapes.specs.declared.shapes.component.«Type».TheVariants as ty
use Rattle.wac_types_collection.specs.collection.Collection.{Collection, holds_type}
use Rattle.wac_types_collection.specs.subtyping.Subtype.{type_tree}
use Rattle.wac_types.specs.private.comparison.Compare.{value_in}
use Rattle.wac_types.specs.private.comparison.Weights.{type_weight}
use Rattle.wac_types.specs.private.comparison.Questions.{in_order, IsEnd, IsYes, IsYesBelow, IsPlainType, IsAskableQuestion, AreBelow}
use Rattle.wac_types.specs.private.comparison.Classes.{AreLinked, AreSame}

-- Each question that is noted as not about equality was asked.
abbrev pub AreAsked : Asked → Type 0
AreAsked s = AllByRecursion (Contains s.questions.items) s.others.keys

-- Types in one class are equal if all answers are yes, and the noted questions were asked.
abbrev pub AreJoined : Collection × Collection → Asked → Type 0
AreJoined p s = AreLinked p s.questions.items s.classes.links.entries × AreAsked s

-- The added questions settle E. If E holds, the answer to each is yes.
-- If the answer to all questions about types lighter than n is yes, E holds.
pub record Settles (p : Collection × Collection) (n : ℕ) (old new : Asked) (E : Type 0) : Type 0 where
  pub added : List Question
  pub grown : new.questions.items ≡ old.questions.items ++ added
  pub asked : AllByRecursion (IsAskableQuestion p) added
  pub joined : AreJoined p old → AreJoined p new
  pub complete : E → AllByRecursion (IsYes p) added
  pub sound : AreJoined p old → AllByRecursion (IsYesBelow p n) new.questions.items → E

-- The added questions settle E, a fact about these types of both collections.
pub record Asks (turned : Bool) (x y : Collection) (xs ys : List AnyType) (old new : Asked) (E : Type 0) : Type 0 where
  pub settles : (n : ℕ) → AreBelow x n xs ⊎ AreBelow y n ys → Settles (in_order turned x y) n old new E

-- The added questions settle E, which compares these two types and is about the types that they mention.
pub record RestsOn (turned : Bool) (x y : Collection) (a b : AnyType) (old new : Asked) (E : Type 0) : Type 0 where
  pub settles : (n : ℕ) → (type_weight x a ≤ n) ⊎ (type_weight y b ≤ n) → Settles (in_order turned x y) n old new E

-- The type e is at the end of the aliases of t.
pub record HasEnd (c : Collection) (t e : AnyType) : Type 0 where
  pub end : IsEnd c e
  pub held : holds_type c e ≡ true
  pub is : type_tree c t ≡ type_tree c e
  pub weight : type_weight c t ≡ type_weight c e

-- The value types v and w are equal if and only if a and b are, which are of their collections and not heavier.
pub record Tells (x y : Collection) (v w a b : ValueType) : Type 0 where
  pub first : holds_type x (ty.Value a) ≡ true
  pub second : holds_type y (ty.Value b) ≡ true
  pub same : (value_in x v ≡ value_in y w) ↔ (value_in x a ≡ value_in y b)
  pub lighter_first : type_weight x (ty.Value a) ≤ type_weight x (ty.Value v)
  pub lighter_second : type_weight y (ty.Value b) ≤ type_weight y (ty.Value w)

-- The first type of a question as a node.
abbrev pub first_node : Question → Node
first_node q = record { turned = q.turned; ty = q.first }

-- The second type of a question as a node.
abbrev pub second_node : Question → Node
second_node q = record { turned = not q.turned; ty = q.second }

-- No question was added.
abbrev pub AsksTheSame : Asked → Asked → Type 0
AsksTheSame old new = (new.questions.items ≡ old.questions.items) × (new.others.keys ≡ old.others.keys) × (new.classes.links.entries ≡ old.classes.links.entries)

-- A question that is not about equality was added, unless it was asked before.
pub record Puts (old new : Asked) (q : Question) : Type 0 where
  pub added : List Question
  pub grown : new.questions.items ≡ old.questions.items ++ added
  pub only : AllByRecursion (λ r. r ≡ q) added
  pub classes : new.classes ≡ old.classes
  pub asked : AreAsked old → AreAsked new
  pub there : AreAsked old → Contains new.questions.items q

-- A question whether two types are equal was added, unless its answer follows from earlier ones.
pub record PutsPlain (old new : Asked) (q : Question) : Type 0 where
  pub added : List Question
  pub grown : new.questions.items ≡ old.questions.items ++ added
  pub only : AllByRecursion (λ r. r ≡ q) added
  pub joined : (p : Collection × Collection) → IsPlainType q.first → IsPlainType q.second → AreJoined p old → AreJoined p new
  pub same : (p : Collection × Collection) → IsPlainType q.first → IsPlainType q.second → AreJoined p old → AreSame p new.questions.items (first_node q) (second_node q)
