-- What a table has stays while it grows.
use Rattle.std.proofs.Common.{◌≡◌, ℕ, zero, suc, ◌<◌, ◌≤◌, List, [], ◌∷◌, ◌++◌, length, Option, Some, None, Result, Ok, Err, IfOk, OnOk, ◌⊎◌, inl, inr, refl, ap, sym, ◌∙◌, subst, append_assoc, length-append, arith}
use Rattle.std.specs.Prelude.{slice_get}
use Rattle.std.specs.Borrow.{Bor}
use Rattle.std.specs.List.{AllByRecursion}
use Rattle.std.specs.declared.alloc.AllocError.{AllocError}
use Rattle.wac_types_shapes.specs.primitives.Name.{Name, option_case}
use Rattle.wac_types_shapes.specs.primitives.Tree.{TypeTree, absent}
use Rattle.wac_types_collection.specs.subtyping.Called.{Called}
use Rattle.wac_types_shapes.specs.declared.shapes.component.«Type».{«Type» as AnyType}
use Rattle.wac_types_shapes.specs.declared.shapes.component.ValueType.{ValueType}
use Rattle.wac_merge_trees.specs.declared.coding.memo.Memo.{Memo}
use Rattle.wac_merge_tables.specs.private.tables.Nodes.{Node, mentions, node_tree, tree_to, tree_at, IsTable, Added}
use Rattle.wac_merge_trees.specs.private.coding.Coding.{IsGrown, HasTree, IsRight, HasOption, AreParts, AreFields, AreCases}
use Rattle.wac_merge_classes.proofs.lemmas.entries.Lists.{zip_all}
use Rattle.wac_merge_tables.proofs.lemmas.tables.NodeLaws.{same_tree, deep, grown}

all_of : {P Q : ℕ → Type 0} → ((m : ℕ) → P m → Q m) → (ns : List ℕ) → AllByRecursion P ns → AllByRecursion Q ns
all_of f [] h = tt
all_of f (n ∷ ns) h = (f n h.0, all_of f ns h.1)

-- a node's tree, by those of the nodes that it mentions
pub node_at : (ns : List Node) → IsTable ns → (i : ℕ) (n : Node) → slice_get ns i ≡ Some n → tree_at ns i ≡ node_tree (tree_at ns) n
node_at ns table i n is =
    ap (λ o. option_case o absent (node_tree (tree_to i ns))) is
    ∙ same_tree (tree_to i ns) (tree_at ns) n (all_of (λ m (low : m < i). deep ns table i (suc m) m low (omega arith)) (mentions n) (table.lower i n is))

nothing_behind : (ns : List Node) → ns ++ [] ≡ ns
nothing_behind [] = refl
nothing_behind (n ∷ ns) = ap (λ r. n ∷ r) (nothing_behind ns)

pub grown_not : (ns : List Node) → IsGrown ns ns
grown_not ns = record { more = []; is = sym (nothing_behind ns); trees = λ i low. refl }

pub grown_none : (old new : List Node) → new ≡ old → IsGrown old new
grown_none old new e = subst (IsGrown old) (sym e) (grown_not old)

pub longer : (old new : List Node) → IsGrown old new → length old ≤ length new
longer old new g = let e = ap (λ (ns : List Node). length ns) g.is in omega (arith, length-append old g.more, e)

pub grown_twice : (a b c : List Node) → IsGrown a b → IsGrown b c → IsGrown a c
grown_twice a b c g h = record {
  more = g.more ++ h.more;
  is = h.is ∙ (ap (λ ns. ns ++ h.more) g.is ∙ append_assoc a g.more h.more);
  trees = λ i low. let l = longer a b g in h.trees i (omega (arith, l, low)) ∙ g.trees i low;
}

pub grown_added : (old new : List Node) (n : Node) → IsTable old → (new ≡ old) ⊎ (new ≡ old ++ n ∷ []) → IsGrown old new
grown_added old new n table (inl e) = grown_none old new e
grown_added old new n table (inr e) = record { more = n ∷ []; is = e; trees = λ i low. ap (λ ns. tree_at ns i) e ∙ grown old (n ∷ []) table (suc i) i low }

within : (ns : List Node) (i : ℕ) (n : Node) → slice_get ns i ≡ Some n → i < length ns
within [] i n is = cc
within (m ∷ ns) zero n is = omega arith
within (m ∷ ns) (suc i) n is = let h = within ns i n is in omega arith

pub added_tree : (old new : List Node) (n : Node) (i : ℕ) → IsTable old → IsTable new → AllByRecursion (λ m. m < length old) (mentions n) → Added old n new i
    → HasTree new (node_tree (tree_at old) n) i
added_tree old new n i table after low added =
    let g = grown_added old new n table added.1 in
    record {
      there = within new i n added.0;
      is = node_at new after i n added.0 ∙ same_tree (tree_at new) (tree_at old) n (all_of g.trees (mentions n) low);
    }

pub tree_grown : (old new : List Node) (t : TypeTree Called) (i : ℕ) → IsGrown old new → HasTree old t i → HasTree new t i
tree_grown old new t i g h = let l = longer old new g in let low : i < length old = h.there in record { there = omega (arith, l, low); is = g.trees i h.there ∙ h.is }

pub tree_same : (ns : List Node) (t u : TypeTree Called) (i : ℕ) → t ≡ u → HasTree ns t i → HasTree ns u i
tree_same ns t u i e h = record { there = h.there; is = h.is ∙ e }

pub right_grown : (t : AnyType → TypeTree Called) (memo : Memo) (old new : List Node) → IsGrown old new → IsRight t memo old → IsRight t memo new
right_grown t memo old new g r = record {
  defined = λ d n is. tree_grown old new _ n g (r.defined d n is);
  funcs = λ f n is. tree_grown old new _ n g (r.funcs f n is);
}

module _ (t : ValueType → TypeTree Called) (old new : List Node) (g : IsGrown old new) where
  pub option_grown : (v : Option ValueType) (i : Option ℕ) → HasOption old t v i → HasOption new t v i
  option_grown None None h = tt
  option_grown None (Some i) h = h
  option_grown (Some v) None h = h
  option_grown (Some v) (Some i) h = tree_grown old new (t v) i g h

  pub parts_grown : (vs : List ValueType) (is : List ℕ) → AreParts old t vs is → AreParts new t vs is
  parts_grown vs is h = zip_all (λ v i. HasTree old (t v) i) (λ v i. HasTree new (t v) i) (λ v i k. tree_grown old new (t v) i g k) vs is h

  pub fields_grown : (fs : List (Name × ValueType)) (es : List (Bor (List ℕ) × ℕ)) → AreFields old t fs es → AreFields new t fs es
  fields_grown fs es h = zip_all _ _ (λ f e (k : (e.0.now ≡ f.0) × HasTree old (t f.1) e.1). (k.0, tree_grown old new (t f.1) e.1 g k.1)) fs es h

  pub cases_grown : (fs : List (Name × Option ValueType)) (es : List (Bor (List ℕ) × Option ℕ)) → AreCases old t fs es → AreCases new t fs es
  cases_grown fs es h = zip_all _ _ (λ f e (k : (e.0.now ≡ f.0) × HasOption old t f.1 e.1). (k.0, option_grown f.1 e.1 k.1)) fs es h

-- ---- what a call answers
pub answer_same : (r : Result ℕ AllocError) (ns : List Node) (t u : TypeTree Called) → t ≡ u → IfOk r (λ n. HasTree ns t n) → IfOk r (λ n. HasTree ns u n)
answer_same (Ok n) ns t u e h = tree_same ns t u n e h
answer_same (Err x) ns t u e h = h

pub moved_by : (mid ms ns : List Node) (t : TypeTree Called) (i j : ℕ) → ms ≡ ns → i ≡ j → HasTree ns t j → IsGrown mid ns → HasTree ms t i × IsGrown mid ms
moved_by mid ms ns t i j a b h g = (subst (λ (l : List Node). HasTree l t i) (sym a) (subst (λ k. HasTree ns t k) (sym b) h), subst (λ (l : List Node). IsGrown mid l) (sym a) g)

pub on_ok : {A E : Type 0} (P : Type 0) (r : Result A E) → P → OnOk r P
on_ok P (Ok x) p = p
on_ok P (Err e) p = tt
