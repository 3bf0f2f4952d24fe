-- The trees of the items of a component type's sides, as far as they are written.
use Rattle.std.specs.List.{list_any}
use Rattle.std.proofs.Common.{ℕ, ◌≡◌, ◌&&◌, ◌||◌, Bool, true, false, if◌then◌else◌, List, [], ◌∷◌, ◌++◌, map, Option, Some, None, Contains, refl, ap, sym, ◌∙◌, subst, inl, inr}
use Rattle.std.proofs.Math.Path.{fun_ext}
use Rattle.std.proofs.lemmas.List.Folds.{list_any-append}
use Rattle.wac_types_shapes.specs.primitives.Name.{Name, same_name, find_name, option_case}
use Rattle.wac_types_shapes.proofs.lemmas.shapes.Names.{same_name-true, same_name-refl, same_name-from}
use Rattle.wac_types_shapes.specs.primitives.Tree.{Side, imported, exported, named, Tree, absent, instance_item, component}
use Rattle.wac_types_shapes.specs.shapes.Named.{NoNameTwice}
use Rattle.wac_types_shapes.specs.declared.shapes.component.InterfaceId.{InterfaceId}
use Rattle.wac_types_shapes.specs.declared.shapes.component.ItemKind.{ItemKind}
use Rattle.wac_types_shapes.specs.declared.shapes.component.ItemKind.TheVariants as kind
use Rattle.wac_types_collection.specs.collection.Collection.{Collection}
use Rattle.wac_types_collection.specs.collection.Held.{items_under}
use Rattle.wac_types_collection.specs.collection.Bound.{Bindings, same_side, held_item}
use Rattle.wac_types_collection.proofs.lemmas.wide.Members.{in_first, in_rest, in_left, in_right}
use Rattle.wac_binary.specs.HasMeaning.{IsFree}
use Rattle.wac_binary.specs.Unfold.{with_item}
use Rattle.wac_encode_stacks.specs.Good.{Good, innermost}
use Rattle.wac_encode_stacks.specs.Listed.{on_side, other}
use Rattle.wac_encode_scopes.specs.declared.state.State.{State}
use Rattle.wac_encode_scopes.specs.States.{stack}
use Rattle.wac_encode_faults.specs.Sides.{Sides, all_imports, import_bindings, side_bindings}
use Rattle.wac_encode_faults.specs.Free.{SideItem}
use Rattle.wac_encode_faults.specs.Trees.{item_trees, additional_tree, additional_trees, side_trees, sides_tree}
use Rattle.wac_encode_interfaces.specs.private.Written.{side_item, is_under, bound_so_far, listed_so_far, IsItemOf, IsWritten, AddsToSide}
use Rattle.wac_encode_interfaces.proofs.Bound.{true-false, no-some, both-true, true-both, same-sides, side-itself, any-in, in-any, found-in, items_of_side}

-- trees by name

under-append : {A : Type 0} (g : Name × A → Tree) (es : List (Name × A)) (ts : List (Name × Tree)) (n : Name) → items_under (map (λ e. (e.0, g e)) es ++ ts) n ≡ option_case (find_name es n) (items_under ts n) (λ k. g (n, k))
under-append g [] ts n = refl
under-append g (e ∷ es) ts n = by (same_name n e.0) refl (under-append g es ts n)
  where
    by : (b : Bool) → same_name n e.0 ≡ b → items_under (map (λ x. (x.0, g x)) es ++ ts) n ≡ option_case (find_name es n) (items_under ts n) (λ k. g (n, k))
        → (if b then g e else items_under (map (λ x. (x.0, g x)) es ++ ts) n) ≡ option_case (if b then Some e.1 else find_name es n) (items_under ts n) (λ k. g (n, k))
    by true same rest = ap (λ x. g (x, e.1)) (sym (same_name-true n e.0 same))
    by false same rest = rest

under-none : {A : Type 0} (g : Name × A → Tree) (es : List (Name × A)) (n : Name) → items_under (map (λ e. (e.0, g e)) es) n ≡ option_case (find_name es n) absent (λ k. g (n, k))
under-none g [] n = refl
under-none g (e ∷ es) n = by (same_name n e.0) refl (under-none g es n)
  where
    by : (b : Bool) → same_name n e.0 ≡ b → items_under (map (λ x. (x.0, g x)) es) n ≡ option_case (find_name es n) absent (λ k. g (n, k))
        → (if b then g e else items_under (map (λ x. (x.0, g x)) es) n) ≡ option_case (if b then Some e.1 else find_name es n) absent (λ k. g (n, k))
    by true same rest = ap (λ x. g (x, e.1)) (sym (same_name-true n e.0 same))
    by false same rest = rest

module _ {A : Type 0} where
  find-left : (xs ys : List (Name × A)) (n : Name) → find_name (xs ++ ys) n ≡ None → find_name xs n ≡ None
  find-left [] ys n h = refl
  find-left (x ∷ xs) ys n h = by (same_name n x.0) h (λ k. find-left xs ys n k)
    where
      by : (b : Bool) → (if b then Some x.1 else find_name (xs ++ ys) n) ≡ None → (find_name (xs ++ ys) n ≡ None → find_name xs n ≡ None) → (if b then Some x.1 else find_name xs n) ≡ None
      by true h more = h
      by false h more = more h

  once-left : (xs ys : List (Name × A)) → NoNameTwice (xs ++ ys) → NoNameTwice xs
  once-left [] ys h = tt
  once-left (x ∷ xs) ys h = (find-left xs ys x.0 h.0, once-left xs ys h.1)

  once-right : (xs ys : List (Name × A)) → NoNameTwice (xs ++ ys) → NoNameTwice ys
  once-right [] ys h = h
  once-right (x ∷ xs) ys h = once-right xs ys h.1

  -- A name of the second list is none of the first.
  once-apart : (xs ys : List (Name × A)) (n : Name) (k : A) → NoNameTwice (xs ++ ys) → Contains ys (n, k) → find_name xs n ≡ None
  once-apart [] ys n k h there = refl
  once-apart (x ∷ xs) ys n k h there = by (same_name n x.0) refl (once-apart xs ys n k h.1 there)
    where
      none-some : (o : Option A) → o ≡ None → o ≡ Some k → ⊥
      none-some o a b = no-some k (sym a ∙ b)

      by : (b : Bool) → same_name n x.0 ≡ b → find_name xs n ≡ None → (if b then Some x.1 else find_name xs n) ≡ None
      by true same rest =
          let found = found-in (xs ++ ys) n k h.1 (in_right xs ys (n, k) there) in
          absurd (none-some (find_name (xs ++ ys) n) (ap (find_name (xs ++ ys)) (same_name-true n x.0 same) ∙ h.0) found)
      by false same rest = rest

-- The tree of an item, in the end.
abbrev pub final_tree : Collection → Sides → Side → Name → ItemKind → Bool → Tree
final_tree c s side n k true = additional_tree c (side_bindings c s side) k
final_tree c s side n k false = held_item c (side_bindings c s side) side (named n ∷ []) k

module _ (c : Collection) (s : Sides) (imports_once : NoNameTwice (all_imports s)) (exports_once : NoNameTwice s.exports) where
  pub under-name : (side : Side) (n : Name) (k : ItemKind) (additional : Bool) → IsItemOf s side n k additional → items_under (side_trees c s side) n ≡ final_tree c s side n k additional
  under-name imported n k false item =
      let found = found-in s.imports n k (once-left s.imports s.additional imports_once) item in
      under-append (λ e. held_item c (import_bindings c s) imported (named e.0 ∷ []) e.1) s.imports (additional_trees c (import_bindings c s) s.additional) n
      ∙ ap (λ (o : Option ItemKind). option_case o (items_under (additional_trees c (import_bindings c s) s.additional) n) (λ j. held_item c (import_bindings c s) imported (named n ∷ []) j)) found
  under-name imported n k true item =
      let none = once-apart s.imports s.additional n k imports_once item in
      let found = found-in s.additional n k (once-right s.imports s.additional imports_once) item in
      under-append (λ e. held_item c (import_bindings c s) imported (named e.0 ∷ []) e.1) s.imports (additional_trees c (import_bindings c s) s.additional) n
      ∙ ap (λ (o : Option ItemKind). option_case o (items_under (additional_trees c (import_bindings c s) s.additional) n) (λ j. held_item c (import_bindings c s) imported (named n ∷ []) j)) none
      ∙ under-none (λ e. additional_tree c (import_bindings c s) e.1) s.additional n
      ∙ ap (λ (o : Option ItemKind). option_case o absent (λ j. additional_tree c (import_bindings c s) j)) found
  under-name exported n k false item =
      let found = found-in s.exports n k exports_once item in
      under-none (λ e. held_item c (side_bindings c s exported) exported (named e.0 ∷ []) e.1) s.exports n
      ∙ ap (λ (o : Option ItemKind). option_case o absent (λ j. held_item c (side_bindings c s exported) exported (named n ∷ []) j)) found
  under-name exported n k true item = absurd item

-- what is listed so far

under-itself : (side : Side) (n : Name) → is_under side n (side_item side n) ≡ true
under-itself side n = true-both (same_side side side) (same_name n n) (side-itself side) (same_name-refl n)

under-is : (side : Side) (n : Name) (x : SideItem) → is_under side n x ≡ true → x ≡ side_item side n
under-is side n x h =
    let (sides, names) = both-true (same_side x.side side) (same_name x.name n) h in
    let a = same-sides x.side side sides in
    let b = same_name-true x.name n names in
    (λ i. record { side = a i; name = b i })

bool-of : (b : Bool) → (b ≡ true → ⊥) → b ≡ false
bool-of true h = absurd (h refl)
bool-of false h = refl

other-side : (side : Side) (n k : Name) → is_under (other side) k (side_item side n) ≡ false
other-side imported n k = refl
other-side exported n k = refl

listed-more : (c : Collection) (s : Sides) (xs : List SideItem) (x : SideItem) (side : Side) (n : Name) (b : Bool) → is_under side n x ≡ b
    → listed_so_far c s (xs ++ x ∷ []) side n ≡ (if list_any (is_under side n) xs || b then items_under (side_trees c s side) n else absent)
listed-more c s xs x side n b h =
    ap (λ z. if z then items_under (side_trees c s side) n else absent)
    (list_any-append (is_under side n) xs (x ∷ []) ∙ ap (λ z. list_any (is_under side n) xs || z) (or-false (is_under side n x) ∙ h))
  where
    or-false : (b : Bool) → (b || false) ≡ b
    or-false true = refl
    or-false false = refl

or-none : (b : Bool) → (b || false) ≡ b
or-none true = refl
or-none false = refl

or-one : (b : Bool) → (b || true) ≡ true
or-one true = refl
or-one false = refl

-- A new item's name is free.
pub not-listed : (c : Collection) (s : Sides) (xs : List SideItem) (side : Side) (n : Name) → (Contains xs (side_item side n) → ⊥) → listed_so_far c s xs side n ≡ absent
not-listed c s xs side n new =
    ap (λ z. if z then items_under (side_trees c s side) n else absent)
    (bool-of (list_any (is_under side n) xs) (λ h. let (x, there, at) = any-in (is_under side n) xs h in new (subst (Contains xs) (under-is side n x at) there)))

-- One more item with its final tree.
pub listed-this : (c : Collection) (s : Sides) (xs : List SideItem) (side : Side) (n : Name) (items : Name → Tree) (t : Tree) → ((k : Name) → items k ≡ listed_so_far c s xs side k) → t ≡ items_under (side_trees c s side) n
    → (k : Name) → with_item items n t k ≡ listed_so_far c s (xs ++ side_item side n ∷ []) side k
listed-this c s xs side n items t before is k = by (same_name k n) refl
  where
    by : (b : Bool) → same_name k n ≡ b → (if b then t else items k) ≡ listed_so_far c s (xs ++ side_item side n ∷ []) side k
    by true same =
        let name = same_name-true k n same in
        is ∙ ap (items_under (side_trees c s side)) (sym name)
        ∙ sym (listed-more c s xs (side_item side n) side k true (ap (λ (m : Name). is_under side m (side_item side n)) name ∙ under-itself side n)
        ∙ ap (λ z. if z then items_under (side_trees c s side) k else absent) (or-one (list_any (is_under side k) xs)))
    by false same =
        let differ : is_under side k (side_item side n) ≡ false = bool-of (is_under side k (side_item side n)) (λ h. true-false (same_name k n) (same_name-from k n (ap (λ (x : SideItem). x.name) (sym (under-is side k (side_item side n) h)))) same) in
        before k ∙ sym (listed-more c s xs (side_item side n) side k false differ ∙ ap (λ z. if z then items_under (side_trees c s side) k else absent) (or-none (list_any (is_under side k) xs)))

pub listed-that : (c : Collection) (s : Sides) (xs : List SideItem) (side : Side) (n : Name) (k : Name) → listed_so_far c s xs (other side) k ≡ listed_so_far c s (xs ++ side_item side n ∷ []) (other side) k
listed-that c s xs side n k = sym (listed-more c s xs (side_item side n) (other side) k false (other-side side n k) ∙ ap (λ z. if z then items_under (side_trees c s (other side)) k else absent) (or-none (list_any (is_under (other side) k) xs)))

both-sides : (P : Side → Type 0) (side : Side) → P side → P (other side) → (x : Side) → P x
both-sides P imported a b imported = a
both-sides P imported a b exported = b
both-sides P exported a b imported = b
both-sides P exported a b exported = a

-- The item is written next.
pub written-next : (c : Collection) (b : Bool) (s : Sides) (xs : List SideItem) (side : Side) (n : Name) (m : Bindings) (t : Tree) (old new : State)
    → IsWritten c b s xs old → AddsToSide c b side n m t old new → m ≡ bound_so_far c s (xs ++ side_item side n ∷ []) → t ≡ items_under (side_trees c s side) n → IsWritten c b s (xs ++ side_item side n ∷ []) new
written-next c b s xs side n m t old new was adds bound is = record {
  around = adds.around;
  content = adds.content;
  good = subst (λ (k : Bindings). Good c (k ∷ []) (stack b new)) bound adds.good;
  listed = both-sides (λ x. (k : Name) → on_side x (innermost (stack b new)) k ≡ listed_so_far c s (xs ++ side_item side n ∷ []) x k) side
      (λ k. ap (λ (items : Name → Tree). items k) adds.this ∙ listed-this c s xs side n (on_side side (innermost (stack b old))) t (was.listed side) is k)
      (λ k. ap (λ (items : Name → Tree). items k) adds.that ∙ was.listed (other side) k ∙ listed-that c s xs side n k);
}

-- all items

find-none : (es : List (Name × ItemKind)) (n : Name) → ((e : Name × ItemKind) → Contains es e → e.0 ≡ n → ⊥) → find_name es n ≡ None
find-none [] n others = refl
find-none (e ∷ es) n others = by (same_name n e.0) refl (find-none es n (λ x there. others x (in_rest e x es there)))
  where
    by : (b : Bool) → same_name n e.0 ≡ b → find_name es n ≡ None → (if b then Some e.1 else find_name es n) ≡ None
    by true same rest = absurd (others e (in_first e es) (sym (same_name-true n e.0 same)))
    by false same rest = rest

none-there : (c : Collection) (s : Sides) (side : Side) (n : Name) → ((e : Name × ItemKind) → Contains (items_of_side c s side) e → e.0 ≡ n → ⊥) → items_under (side_trees c s side) n ≡ absent
none-there c s imported n others =
    under-append (λ e. held_item c (import_bindings c s) imported (named e.0 ∷ []) e.1) s.imports (additional_trees c (import_bindings c s) s.additional) n
    ∙ ap (λ (o : Option ItemKind). option_case o (items_under (additional_trees c (import_bindings c s) s.additional) n) (λ j. held_item c (import_bindings c s) imported (named n ∷ []) j)) (find-none s.imports n (λ e there. others e (in_left s.imports s.additional e there)))
    ∙ under-none (λ e. additional_tree c (import_bindings c s) e.1) s.additional n
    ∙ ap (λ (o : Option ItemKind). option_case o absent (λ j. additional_tree c (import_bindings c s) j)) (find-none s.additional n (λ e there. others e (in_right s.imports s.additional e there)))
none-there c s exported n others =
    under-none (λ e. held_item c (side_bindings c s exported) exported (named e.0 ∷ []) e.1) s.exports n
    ∙ ap (λ (o : Option ItemKind). option_case o absent (λ j. held_item c (side_bindings c s exported) exported (named n ∷ []) j)) (find-none s.exports n others)

-- If all items of a side are written, their trees are those of the side.
pub all-listed : (c : Collection) (s : Sides) (xs : List SideItem) (side : Side) → ((e : Name × ItemKind) → Contains (items_of_side c s side) e → Contains xs (side_item side e.0)) → (n : Name) → listed_so_far c s xs side n ≡ items_under (side_trees c s side) n
all-listed c s xs side all n = by (list_any (is_under side n) xs) refl
  where
    by : (b : Bool) → list_any (is_under side n) xs ≡ b → (if b then items_under (side_trees c s side) n else absent) ≡ items_under (side_trees c s side) n
    by true h = refl
    by false h = sym (none-there c s side n (λ e there name.
        true-false (list_any (is_under side n) xs) (in-any (is_under side n) xs (side_item side n) (subst (λ (m : Name). Contains xs (side_item side m)) name (all e there)) (under-itself side n)) h))

-- If all items of both sides are written, the component type has the tree of the sides.
pub all-written : (c : Collection) (b : Bool) (s : Sides) (xs : List SideItem) (st : State) → IsWritten c b s xs st
    → ((side : Side) (e : Name × ItemKind) → Contains (items_of_side c s side) e → Contains xs (side_item side e.0))
    → component ((innermost (stack b st)).imports) ((innermost (stack b st)).exports) ≡ sides_tree c s
all-written c b s xs st was all =
    let ins = fun_ext (λ n. was.listed imported n ∙ all-listed c s xs imported (all imported) n) in
    let outs = fun_ext (λ n. was.listed exported n ∙ all-listed c s xs exported (all exported) n) in
    (λ i. component (ins i) (outs i))
