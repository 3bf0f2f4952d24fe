-- Two lists have the same item under each name if each entry of either is one of the other.
use Rattle.std.proofs.Common.{Bool, true, false, ◌&&◌, cond, List, [], ◌∷◌, ◌≡◌, refl, ap, sym, ◌∙◌, Option, Some, None, inl, inr, Decides}
use Rattle.std.proofs.lemmas.Bool.{cases_Bool}
use Rattle.std.proofs.lemmas.Option.{same_Some}
use Rattle.wac_types_shapes.specs.primitives.Name.{Name, same_name, find_name, option_case}
use Rattle.wac_types_shapes.specs.shapes.Named.{NoNameTwice}
use Rattle.wac_types_shapes.specs.declared.shapes.component.ItemKind.{ItemKind}
use Rattle.wac_types_shapes.specs.declared.shapes.component.Interface.{Interface}
use Rattle.wac_types_shapes.specs.declared.shapes.component.InterfaceId.{InterfaceId}
use Rattle.wac_types_shapes.specs.declared.shapes.component.World.{World}
use Rattle.wac_types_shapes.specs.declared.shapes.component.WorldId.{WorldId}
use Rattle.wac_types_shapes.proofs.lemmas.shapes.Names.{same_name-true, same_name-refl}
use Rattle.wac_types_collection.specs.collection.Collection.{Collection, item_at, interface_exports, world_exports}
use Rattle.wac_types_collection.specs.collection.Uses.{same_item}
use Rattle.wac_types_collection.specs.collection.Package.{HaveSameExports}
use Rattle.wac_types_collection.specs.private.collection.Exports.{has_entry, are_among, have_same_items}
use Rattle.wac_types_collection.proofs.lemmas.collection.Ids.{same_item-true, same_item-refl}

both_true : (a b : Bool) → (a && b) ≡ true → (a ≡ true) × (b ≡ true)
both_true true b h = (refl, h)
both_true false b h = cc

and_true : (a b : Bool) → a ≡ true → b ≡ true → (a && b) ≡ true
and_true a b p q = ap (λ x. x && b) p ∙ q

no_some : (k : ItemKind) → None ≡ Some k → ⊥
no_some k h = cc

-- the item that the test passes, and the test of an item that is there
item_there : (o : Option ItemKind) (k : ItemKind) → option_case o false (λ x. same_item x k) ≡ true → o ≡ Some k
item_there None k h = cc
item_there (Some x) k h = ap Some (same_item-true x k h)

test_passes : (o : Option ItemKind) (k : ItemKind) → o ≡ Some k → option_case o false (λ x. same_item x k) ≡ true
test_passes o k h = ap (λ (p : Option ItemKind). option_case p false (λ x. same_item x k)) h ∙ same_item-refl k

-- what is found in the first list is found in the second
abbrev Finds : List (Name × ItemKind) → List (Name × ItemKind) → Type 0
Finds xs ys = (n : Name) (k : ItemKind) → find_name xs n ≡ Some k → find_name ys n ≡ Some k

finds : (xs ys : List (Name × ItemKind)) → are_among xs ys ≡ true → Finds xs ys
finds [] ys h n k e = absurd (no_some k e)
finds (x ∷ xs) ys h n k e =
    let both = both_true (has_entry ys x) (are_among xs ys) h in
    elim (cases_Bool (same_name n x.0)) [
      | inl t ↦
          let item : x.1 ≡ k = same_Some x.1 k (sym (ap (λ b. cond b (Some x.1) (find_name xs n)) t) ∙ e) in
          ap (find_name ys) (same_name-true n x.0 t) ∙ item_there (find_name ys x.0) x.1 both.0 ∙ ap Some item
      | inr f ↦ finds xs ys both.1 n k (sym (ap (λ b. cond b (Some x.1) (find_name xs n)) f) ∙ e)
    ]

-- what is found behind the first entry is found in the whole list
later : (x : Name × ItemKind) (xs : List (Name × ItemKind)) (n : Name) (k : ItemKind) → find_name xs x.0 ≡ None → find_name xs n ≡ Some k → find_name (x ∷ xs) n ≡ Some k
later x xs n k once e = elim (cases_Bool (same_name n x.0)) [
  | inl t ↦
      let none : find_name xs n ≡ None = ap (find_name xs) (same_name-true n x.0 t) ∙ once in
      absurd (no_some k (sym none ∙ e))
  | inr f ↦ ap (λ b. cond b (Some x.1) (find_name xs n)) f ∙ e
]

are_found : (xs ys : List (Name × ItemKind)) → NoNameTwice xs → Finds xs ys → are_among xs ys ≡ true
are_found [] ys once f = refl
are_found (x ∷ xs) ys once f =
    let first : find_name ys x.0 ≡ Some x.1 = f x.0 x.1 (ap (λ b. cond b (Some x.1) (find_name xs x.0)) (same_name-refl x.0)) in
    and_true (has_entry ys x) (are_among xs ys) (test_passes (find_name ys x.0) x.1 first) (are_found xs ys once.1 (λ n k e. f n k (later x xs n k once.0 e)))

same_option : (o p : Option ItemKind) → ((k : ItemKind) → o ≡ Some k → p ≡ Some k) → ((k : ItemKind) → p ≡ Some k → o ≡ Some k) → o ≡ p
same_option None None f g = refl
same_option (Some k) p f g = sym (f k refl)
same_option None (Some k) f g = g k refl

same_items : (xs ys : List (Name × ItemKind)) (r : Bool) → NoNameTwice xs → NoNameTwice ys → r ≡ have_same_items xs ys → Decides r ((n : Name) → find_name xs n ≡ find_name ys n)
same_items xs ys r once twice is = (told, tells) where
  told : r ≡ true → (n : Name) → find_name xs n ≡ find_name ys n
  told h n =
      let both = both_true (are_among xs ys) (are_among ys xs) (sym is ∙ h) in
      same_option (find_name xs n) (find_name ys n) (finds xs ys both.0 n) (finds ys xs both.1 n)

  tells : ((n : Name) → find_name xs n ≡ find_name ys n) → r ≡ true
  tells f = is ∙ and_true (are_among xs ys) (are_among ys xs) (are_found xs ys once (λ n k e. sym (f n) ∙ e)) (are_found ys xs twice (λ n k e. f n ∙ e))

-- so the test tells whether an interface and a world have the same exports
pub same_exports : (c : Collection) (i : InterfaceId) (w : WorldId) (x : Interface) (y : World) (r : Bool) → item_at c.interfaces i.0 ≡ Some x → item_at c.worlds w.0 ≡ Some y → NoNameTwice x.exports → NoNameTwice y.exports
    → r ≡ have_same_items x.exports y.exports → Decides r (HaveSameExports c i w)
same_exports c i w x y r at here once twice is =
    let listed : interface_exports c i ≡ x.exports = ap (λ o. option_case o [] (λ (z : Interface). z.exports)) at in
    let world : world_exports c w ≡ y.exports = ap (λ o. option_case o [] (λ (z : World). z.exports)) here in
    let same = same_items x.exports y.exports r once twice is in
    (λ h n. ap (λ es. find_name es n) listed ∙ same.0 h n ∙ sym (ap (λ es. find_name es n) world), λ f. same.1 (λ n. sym (ap (λ es. find_name es n) listed) ∙ f n ∙ ap (λ es. find_name es n) world))
