-- Unions of items: by name, where nothing is fresh, and where something is.
use Rattle.std.proofs.Common.{◌≡◌, ℕ, Bool, true, false, cond, List, [], ◌∷◌, map, Option, Some, None, refl, sym, ap, ◌∙◌, inl, inr}
use Rattle.std.proofs.Math.Path.{fun_ext}
use Rattle.std.proofs.lemmas.Bool.{cases_Bool, false≢true}
use Rattle.std.specs.List.{AllByRecursion}
use Rattle.wac_types_shapes.specs.primitives.Name.{Name, same_name, find_name, option_case}
use Rattle.wac_types_shapes.specs.primitives.Tree.{TypeTree, Tree, absent, fresh, type_equal, instance, instance_item}
use Rattle.wac_types_collection.specs.collection.Collection.{Collection}
use Rattle.wac_types_collection.specs.collection.Held.{items_under}
use Rattle.wac_types_shapes.specs.declared.shapes.component.ItemKind.{ItemKind}
use Rattle.wac_types_shapes.proofs.lemmas.shapes.Names.{same_name-true}
use Rattle.wac_merge_classes.specs.terms.Union.{union, union_all}
use Rattle.wac_merge_classes.specs.terms.Unions.{part_lists, listed_under}
use Rattle.wac_merge_classes.specs.declared.terms.parts.Part.{Part}

-- ---- items by name

-- the item under a name is that of what is listed there
pub items_found : {L : Type 0} (h : Name → ItemKind → TypeTree L) (es : List (Name × ItemKind)) (n : Name) → items_under (map (λ e. (e.0, h e.0 e.1)) es) n ≡ option_case (find_name es n) absent (h n)
items_found h [] n = refl
items_found h (e ∷ es) n = elim (cases_Bool (same_name n e.0)) [
  | inl t ↦
      ap (λ b. cond b (h e.0 e.1) (items_under (map (λ x. (x.0, h x.0 x.1)) es) n)) t
      ∙ (ap (λ m. h m e.1) (sym (same_name-true n e.0 t))
      ∙ sym (ap (λ b. option_case (cond b (Some e.1) (find_name es n)) absent (h n)) t))
  | inr f ↦
      ap (λ b. cond b (h e.0 e.1) (items_under (map (λ x. (x.0, h x.0 x.1)) es) n)) f
      ∙ (items_found h es n
      ∙ sym (ap (λ b. option_case (cond b (Some e.1) (find_name es n)) absent (h n)) f))
]

-- ---- unions

pub union_absent : (t : Tree) → union t absent ≡ t
union_absent absent = refl
union_absent t = refl

-- a union of instances is one by name
pub union_instances : {A : Type 0} (g : A → Name → Tree) (a : A) (rest : List A) → union_all (map (λ x. instance (g x)) (a ∷ rest)) ≡ instance (λ n. union_all (map (λ x. g x n) (a ∷ rest)))
union_instances g a [] = ap instance (fun_ext (λ n. sym (union_absent (g a n))))
union_instances g a (b ∷ rest) = ap (union (instance (g a))) (union_instances g b rest)

-- a union of items that are instances is the union of the instances
pub union_instance_items : {A : Type 0} (g : A → Tree) (a : A) (rest : List A) → union_all (map (λ x. instance_item (g x)) (a ∷ rest)) ≡ instance_item (union_all (map g (a ∷ rest)))
union_instance_items g a [] = ap instance_item (sym (union_absent (g a)))
union_instance_items g a (b ∷ rest) = ap (union (instance_item (g a))) (union_instance_items g b rest)

-- parts that list nothing under a name add nothing there
pub union_listed : (c : Collection) (ps : List Part) (n : Name) (h : ℕ → ItemKind → Tree) (parts : List ℕ)
    → union_all (map (λ p. option_case (find_name (part_lists c ps p) n) absent (h p)) parts) ≡ union_all (map (λ l. h l.0 l.1) (listed_under c ps parts n))
union_listed c ps n h [] = refl
union_listed c ps n h (p ∷ parts) = by (find_name (part_lists c ps p) n) (union_listed c ps n h parts) where
  by : (o : Option ItemKind) → union_all (map (λ q. option_case (find_name (part_lists c ps q) n) absent (h q)) parts) ≡ union_all (map (λ l. h l.0 l.1) (listed_under c ps parts n))
      → union (option_case o absent (h p)) (union_all (map (λ q. option_case (find_name (part_lists c ps q) n) absent (h q)) parts))
      ≡ union_all (map (λ l. h l.0 l.1) (option_case o (listed_under c ps parts n) (λ k. (p, k) ∷ listed_under c ps parts n)))
  by None e = e
  by (Some k) e = ap (union (h p k)) e

-- ---- fresh items

abbrev pub is_fresh : Tree → Bool
is_fresh fresh = true
is_fresh t = false

-- the union of two items, neither of which is fresh, is not
union_stale : (t u : Tree) → is_fresh t ≡ false → is_fresh u ≡ false → is_fresh (union t u) ≡ false
union_stale absent u a b = b
union_stale (type_equal t) fresh a b = b
union_stale (instance f) (instance g) a b = refl
union_stale (instance_item t) (instance_item u) a b = refl
union_stale t u a b = a

pub all_stale : {A : Type 0} (g : A → Tree) (xs : List A) → AllByRecursion (λ x. is_fresh (g x) ≡ false) xs → is_fresh (union_all (map g xs)) ≡ false
all_stale g [] h = refl
all_stale g (x ∷ xs) h = union_stale (g x) (union_all (map g xs)) h.0 (all_stale g xs h.1)

-- a type item is what it was, if the others are not fresh
pub union_type : (t u : Tree) → is_fresh u ≡ false → union (type_equal t) u ≡ type_equal t
union_type t fresh h = absurd (false≢true (sym h))
union_type t u h = refl
