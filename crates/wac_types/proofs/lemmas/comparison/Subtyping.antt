-- Subtyping of items from that of their types, and of what is listed name by name.
use Rattle.std.proofs.Common.{ℕ, not, Bool, true, false, cond, List, [], ◌∷◌, ◌≡◌, ◌≢◌, ◌↔◌, ◌≤◌, ◌+◌, length, refl, ap, sym, ◌∙◌, Some, None, arith, slice_get}
use Rattle.std.specs.List.{AllByRecursion}
use Rattle.wac_types_shapes.specs.primitives.Name.{Name, same_name, find_name, option_case}
use Rattle.wac_types_shapes.specs.shapes.Named.{NoNameTwice}
use Rattle.wac_types.specs.declared.comparison.questions.Asked.{Asked}
use Rattle.wac_types_shapes.specs.declared.shapes.component.World.{World}
use Rattle.wac_types_shapes.specs.declared.shapes.component.FuncTypeId.{FuncTypeId}
use Rattle.wac_types_shapes.specs.declared.shapes.component.«Type».{«Type» as AnyType}
use Rattle.wac_types_shapes.specs.declared.shapes.component.«Type».TheVariants as ty
use Rattle.wac_types_shapes.specs.declared.shapes.component.ItemKind.{ItemKind}
use Rattle.wac_types_shapes.specs.declared.shapes.component.ItemKind.TheVariants as kind
use Rattle.wac_types_collection.specs.collection.Collection.{Collection, size, kind_types, used_types, world_mentions, holds_type}
use Rattle.wac_types_shapes.specs.shapes.Kinds.{kind_type}
use Rattle.wac_types_shapes.specs.primitives.Tree.{TypeTree, absent, instance, component, type_equal, instance_item, component_item, module_item}
use Rattle.wac_types_collection.specs.collection.Held.{func_tree, unfolded_to}
use Rattle.wac_types_collection.specs.subtyping.Subtype.{Sub, IsPlain, by_name, resource_names, type_tree, kind_tree, listed_in}
use Rattle.wac_types.specs.private.comparison.Compare.{world_in, Offers}
use Rattle.wac_types.specs.private.comparison.Questions.{AreHeld}
use Rattle.wac_types.specs.private.comparison.Settling.{Asks}
use Rattle.wac_types_shapes.proofs.lemmas.shapes.Names.{find_name-at, find_position}
use Rattle.wac_types_collection.proofs.lemmas.collection.Steady.{all_left, all_right}
use Rattle.wac_types_collection.proofs.lemmas.subtyping.Relation.{plain_sub, plain_same}
use Rattle.wac_types.proofs.lemmas.comparison.Asking.{swapped}
use Rattle.wac_types.proofs.lemmas.comparison.Values.{plain_held, sub_to, asks_now, asks_iff, asks_of, asks_then}
use Rattle.wac_types.proofs.lemmas.comparison.Agreeing.{among}
use Rattle.wac_types.proofs.lemmas.comparison.Offers.{OffersUnder, OffersBelow, goes, goes_back, ends, offered_at, stops, lacks}

module _ {L : Type 0} where
  pub of_instances : (xs ys : Name → TypeTree L) → Sub (instance xs) (instance ys) → (n : Name) → ys n ≢ absent → Sub (xs n) (ys n)
  of_instances xs ys (Sub.same _ p) = absurd p
  of_instances xs ys (Sub.instances _ _ f) = f

  pub of_components : (xi xe yi ye : Name → TypeTree L) → Sub (component xi xe) (component yi ye) → ((n : Name) → xi n ≢ absent → Sub (yi n) (xi n)) × ((n : Name) → ye n ≢ absent → Sub (xe n) (ye n))
  of_components xi xe yi ye (Sub.same _ p) = absurd p
  of_components xi xe yi ye (Sub.components _ _ _ _ f g) = (f, g)

  pub of_type_items : (a b : TypeTree L) → Sub (type_equal a) (type_equal b) → Sub a b × Sub b a
  of_type_items a b (Sub.same _ p) = absurd p
  of_type_items a b (Sub.type_items _ _ s t) = (s, t)

  pub of_instance_items : (a b : TypeTree L) → Sub (instance_item a) (instance_item b) → Sub a b
  of_instance_items a b (Sub.same _ p) = absurd p
  of_instance_items a b (Sub.instance_items _ _ s) = s

  pub of_component_items : (a b : TypeTree L) → Sub (component_item a) (component_item b) → Sub a b
  of_component_items a b (Sub.same _ p) = absurd p
  of_component_items a b (Sub.component_items _ _ s) = s

  pub of_module_items : (a b : TypeTree L) → Sub (module_item a) (module_item b) → Sub a b
  of_module_items a b (Sub.same _ p) = absurd p
  of_module_items a b (Sub.module_items _ _ s) = s

  -- items of plain types go by them
  pub plain_items : (make : TypeTree L → TypeTree L) (u v : TypeTree L) → IsPlain u → IsPlain (make u) → (make u ≡ make v → u ≡ v) → Sub u v ↔ Sub (make u) (make v)
  plain_items make u v p q inj = (λ h. plain_same (make u) (make v) q (ap make (plain_sub u v p h)), λ h. plain_same u v p (inj (plain_sub (make u) (make v) q h)))

pub func_plain : (c : Collection) (f : FuncTypeId) → IsPlain (type_tree c (ty.Func f))
unfolding type_tree
func_plain c f = plain_held (func_tree (λ v. unfolded_to by_name c (size c) (resource_names c) (ty.Value v))) (λ g. tt) (slice_get c.funcs f.0)

-- the other way round
pub asks_turned : {E : Type 0} (t : Bool) (x y : Collection) (ps qs : List AnyType) (o k : Asked) → Asks (not t) y x qs ps o k E → Asks t x y ps qs o k E
asks_turned false x y ps qs o k w = record { settles = λ n b. w.settles n (swapped b) }
asks_turned true x y ps qs o k w = record { settles = λ n b. w.settles n (swapped b) }

-- an item stands for something
pub kind_there : (c : Collection) (k : ItemKind) → kind_tree c k ≢ absent
kind_there c (kind.TypeItem f) e = cc
kind_there c _ e = cc

-- the tree under a name, from what is found under it
listed_at : (c : Collection) (es : List (Name × ItemKind)) (n : Name) → listed_in c es n ≡ option_case (find_name es n) absent (kind_tree c)
listed_at c [] n = refl
listed_at c (e ∷ es) n = by (same_name n e.0) (listed_at c es n)
  where
    by : (b : Bool) → listed_in c es n ≡ option_case (find_name es n) absent (kind_tree c) → cond b (kind_tree c e.1) (listed_in c es n) ≡ option_case (cond b (Some e.1) (find_name es n)) absent (kind_tree c)
    by true r = refl
    by false r = r

pub listed_some : (c : Collection) (es : List (Name × ItemKind)) (n : Name) (k : ItemKind) → find_name es n ≡ Some k → listed_in c es n ≡ kind_tree c k
listed_some c es n k h = listed_at c es n ∙ ap (λ o. option_case o absent (kind_tree c)) h

module _ (c d : Collection) (xs ys : List (Name × ItemKind)) where
  abbrev pub ItemsBelow : ℕ → Type 0
  ItemsBelow i = OffersBelow find_name absent (kind_tree c) (kind_tree d) Sub i xs ys

  abbrev ItemsOffer : Type 0
  ItemsOffer = OffersUnder find_name absent (kind_tree c) (kind_tree d) Sub xs ys

  offers_from : ItemsOffer → Offers c xs d ys
  offers_from o n there = sub_to _ _ _ _ (listed_at c xs n) (listed_at d ys n) (o n (λ e. there (listed_at d ys n ∙ e)))

  offers_to : Offers c xs d ys → ItemsOffer
  offers_to o n there = sub_to _ _ _ _ (sym (listed_at c xs n)) (sym (listed_at d ys n)) (o n (λ e. there (sym (listed_at d ys n) ∙ e)))

  module _ (once : NoNameTwice ys) where
    -- a name that the first lack
    pub item_lacks : (i : ℕ) (n : Name) (y : ItemKind) → slice_get ys i ≡ Some (n, y) → find_name xs n ≡ None → Offers c xs d ys → ⊥
    item_lacks i n y at none o = lacks find_name absent (kind_tree c) (kind_tree d) Sub xs ys (λ j m z. find_name-at ys j m z once) (kind_there d) (λ t. plain_sub absent t tt) i n y at none (offers_to o)

    -- an item that is no subtype
    pub item_stops : (i : ℕ) (n : Name) (x y : ItemKind) → slice_get ys i ≡ Some (n, y) → find_name xs n ≡ Some x → (Sub (kind_tree c x) (kind_tree d y) → ⊥) → Offers c xs d ys → ⊥
    item_stops i n x y at found fails o = stops find_name absent (kind_tree c) (kind_tree d) Sub xs ys (λ j m z. find_name-at ys j m z once) (kind_there d) i n x y at found fails (offers_to o)

-- what is found under a name stands in the list
pub found_among : (P : AnyType → Type 0) (es : List (Name × ItemKind)) (n : Name) (v : ItemKind) → find_name es n ≡ Some v → AllByRecursion P (kind_types es) → AllByRecursion P (kind_type v ∷ [])
found_among P es n v f h = let p = find_position es n v f in among P kind_types (λ e. kind_type e.1) (λ _ _. refl) es p.0 (n, v) p.2 h

-- each item is held where all are
pub found_held : (c : Collection) (es : List (Name × ItemKind)) (n : Name) (k : ItemKind) → find_name es n ≡ Some k → AreHeld c (kind_types es) → holds_type c (kind_type k) ≡ true
found_held c es n k at h = (found_among (λ t. holds_type c t ≡ true) es n k at h).0

pub item_held : (c : Collection) (es : List (Name × ItemKind)) (i : ℕ) (n : Name) (k : ItemKind) → slice_get es i ≡ Some (n, k) → AreHeld c (kind_types es) → holds_type c (kind_type k) ≡ true
item_held c es i n k at h = (among (λ t. holds_type c t ≡ true) kind_types (λ e. kind_type e.1) (λ _ _. refl) es i (n, k) at h).0

module _ {t : Bool} {x y : Collection} (xs ys : List (Name × ItemKind)) where
  pub asks_no_offer : {o : Asked} → Asks t x y (kind_types xs) (kind_types ys) o o (ItemsBelow x y xs ys 0)
  asks_no_offer = asks_now (λ j lt. absurd (omega (arith, lt)))

  pub asks_offer : (i : ℕ) (n : Name) (a b : ItemKind) {o l k : Asked} → slice_get ys i ≡ Some (n, b) → find_name xs n ≡ Some a
      → Asks t x y (kind_types xs) (kind_types ys) o l (ItemsBelow x y xs ys i) → Asks t x y (kind_type a ∷ []) (kind_type b ∷ []) l k (Sub (kind_tree x a) (kind_tree y b))
      → Asks t x y (kind_types xs) (kind_types ys) o k (ItemsBelow x y xs ys (i + 1))
  asks_offer i n a b at found s r = asks_iff
      (λ h. goes find_name absent (kind_tree x) (kind_tree y) Sub xs ys i n a b at found h.0 h.1) (goes_back find_name absent (kind_tree x) (kind_tree y) Sub xs ys i n a b at found)
      (asks_then s (asks_of (kind_types xs) (kind_types ys) (λ P. found_among P xs n a found) (λ P. among P kind_types (λ e. kind_type e.1) (λ _ _. refl) ys i (n, b) at) r))

  pub asks_offers : (i : ℕ) {o k : Asked} → NoNameTwice ys → length ys ≤ i → Asks t x y (kind_types xs) (kind_types ys) o k (ItemsBelow x y xs ys i) → Asks t x y (kind_types xs) (kind_types ys) o k (Offers x xs y ys)
  asks_offers i once le s = asks_iff (λ h. offers_from x y xs ys (ends find_name absent (kind_tree x) (kind_tree y) Sub xs ys (find_position ys) i le h))
      (λ o j lt e at. offered_at find_name absent (kind_tree x) (kind_tree y) Sub xs ys (λ j m z. find_name-at ys j m z once) (kind_there y) (offers_to x y xs ys o) j e.0 e.1 at) s

world_parts : (P : AnyType → Type 0) (w : World) → AllByRecursion P (world_mentions w) → AllByRecursion P (kind_types w.imports) × AllByRecursion P (kind_types w.exports)
world_parts P w h =
    let r = all_right P (used_types w.uses) _ h in
    (all_left P (kind_types w.imports) (kind_types w.exports) r, all_right P (kind_types w.imports) (kind_types w.exports) r)

pub imports_held : (c : Collection) (w : World) → AreHeld c (world_mentions w) → AreHeld c (kind_types w.imports)
imports_held c w h = (world_parts (λ t. holds_type c t ≡ true) w h).0

pub exports_held : (c : Collection) (w : World) → AreHeld c (world_mentions w) → AreHeld c (kind_types w.exports)
exports_held c w h = (world_parts (λ t. holds_type c t ≡ true) w h).1

pub asks_worlds : {t : Bool} {x y : Collection} {o l k : Asked} (w v : World) → Asks t x y (kind_types w.imports) (kind_types v.imports) o l (Offers y v.imports x w.imports)
    → Asks t x y (kind_types w.exports) (kind_types v.exports) l k (Offers x w.exports y v.exports) → Asks t x y (world_mentions w) (world_mentions v) o k (Sub (world_in x w) (world_in y v))
asks_worlds w v i e = asks_iff (λ h. Sub.components _ _ _ _ h.0 h.1) (of_components _ _ _ _) (asks_then
    (asks_of (world_mentions w) (world_mentions v) (λ P h. (world_parts P w h).0) (λ P h. (world_parts P v h).0) i)
    (asks_of (world_mentions w) (world_mentions v) (λ P h. (world_parts P w h).1) (λ P h. (world_parts P v h).1) e))
