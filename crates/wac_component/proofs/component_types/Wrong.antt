-- Wrong types of the samples, under each choice of names.
use Rattle.std.proofs.Common.{◌≡◌, ℕ, zero, suc, List, [], ◌∷◌, None, refl, true, false, Bool, ap, sym, ◌∙◌}
use Rattle.wac_component.proofs.component_types.Cases.{same_name-true}
use Rattle.std.proofs.Common.{if◌then◌else◌}
use Rattle.wac_component.proofs.component_types.Terms.{context_after, at, export_of, item_in, of_type, eqr, fn, IsValid, apart_numbers, leaf_names, first_name, a, b, f, g, i, j, q, r, x, y, path, path2, own_type, defined}
use Rattle.wac_types_shapes.specs.primitives.Name.{Name, same_name}
use Rattle.wac_types_shapes.specs.primitives.Tree.{Side, imported, exported, Place, position, named, Leaf, Tree, absent, resource, own, component, fresh, type_equal}
use Rattle.wac_component.specs.Parts.{Part, export_part}
use Rattle.wac_component.specs.Context.{items_named}
use Rattle.wac_component.specs.Open.{bound_here, nowhere, resource_at}
use Rattle.wac_component.specs.ResourceNames.{component_type, IsComponentType}
use Rattle.std.proofs.lemmas.Bool.{eqb-true}
use Rattle.std.proofs.Common.{subst, ◌⊎◌, inl, inr, ⊎_elim, length}
use Rattle.wac_component.proofs.component_types.Resources.{again, two, transparent, twice, apart}
use Rattle.wac_component.proofs.component_types.Arguments.{larger, handed, called, returned}
use Rattle.wac_component.specs.ResourceNames.{equal_path, equal_place, is_export_at, is_export_at_from, seen_inside, seen_inside_from, named_first, resource_in}

-- What a listed resource says of its name.

pub fresh_if : (t : Bool) (l : Leaf) → fresh ≡ (if t then fresh else type_equal (resource l)) → t ≡ true
fresh_if true l h = refl
fresh_if false l h = cc h

pub equal_if : (t : Bool) (k l : Leaf) → type_equal (resource k) ≡ (if t then fresh else type_equal (resource l)) → k ≡ l
equal_if true k l h = cc h
equal_if false k l h = cc h

if_true : (t u : Bool) → (if t then u else false) ≡ true → (t ≡ true) × (u ≡ true)
if_true true u h = (refl, h)
if_true false u h = cc h

place_true : (p q : Place) → equal_place p q ≡ true → p ≡ q
place_true (position m) (position n) h = ap position (eqb-true m n h)
place_true (named m) (named n) h = ap named (same_name-true m n h)
place_true (position m) (named n) h = cc h
place_true (named m) (position n) h = cc h

path_true : (p q : List Place) → equal_path p q ≡ true → p ≡ q
path_true [] [] h = refl
path_true (p ∷ ps) (q ∷ qs) h = let e = if_true (equal_place p q) (equal_path ps qs) h in λ k. place_true p q e.0 k ∷ path_true ps qs e.1 k
path_true [] (q ∷ qs) h = cc h
path_true (p ∷ ps) [] h = cc h

pub export_true : (l : Leaf) (q : List Place) → is_export_at l q ≡ true → l ≡ bound_here exported q
export_true l q h = by_parts l.out l.side l.path h
  where
    by_parts : (o : ℕ) (s : Side) (p : List Place) → is_export_at_from o s p q ≡ true → record { out = o; side = s; path = p } ≡ bound_here exported q
    by_parts zero exported p h = λ k. bound_here exported (path_true p q h k)
    by_parts zero imported p h = cc h
    by_parts (suc o) s p h = cc h

pub seen_inside_true : (n m : Name) (l : Leaf) → is_export_at (seen_inside n l) (path m) ≡ true → l ≡ bound_here exported (path2 n m)
seen_inside_true n m l h = by_parts l.out l.side l.path h
  where
    by_name : (k : Name) (p : Place) (ps : List Place) (t : Bool) → same_name k n ≡ t → is_export_at (if t then bound_here exported (p ∷ ps) else record { out = 1; side = exported; path = named k ∷ p ∷ ps }) (path m) ≡ true → bound_here exported (named k ∷ p ∷ ps) ≡ bound_here exported (path2 n m)
    by_name k p ps true e h = λ i. bound_here exported (named (same_name-true k n e i) ∷ path_true (p ∷ ps) (path m) h i)
    by_name k p ps false e h = cc h

    by_parts : (o : ℕ) (s : Side) (p : List Place) → is_export_at (seen_inside_from n o s p) (path m) ≡ true → record { out = o; side = s; path = p } ≡ bound_here exported (path2 n m)
    by_parts zero exported (named k ∷ p ∷ ps) h = by_name k p ps (same_name k n) refl h
    by_parts zero exported [] h = cc h
    by_parts zero exported (named k ∷ []) h = cc h
    by_parts zero exported (position k ∷ ps) h = cc h
    by_parts zero imported p h = cc h
    by_parts (suc o) s p h = cc h

-- Names are not the same.
a_b : bound_here exported (path a) ≡ bound_here exported (path b) → ⊥
a_b h = differ (ap (λ l. first_name l.path) h)
  where
    differ : ◌≡◌ {A = ℕ} 97 98 → ⊥
    differ = apart_numbers 97 98 refl

-- 1. The resource that is imported and exported again is no new one.
pub again_wrong : (im ex : Name → Tree) → ex r ≡ fresh → IsComponentType (context_after again) (component im ex) → ⊥
again_wrong im ex e h = cc (sym e ∙ ap (λ t. export_of t r []) (h.1 nowhere))

-- The name that a choice gives to a resource.
abbrev pub name_of : List Part → List (List Place) → List Place → Leaf
name_of ps paths p = named_first nowhere paths (items_named (context_after ps).exports) (bound_here exported p)

-- 2. The two names are of one resource.
pub two_wrong : (im ex : Name → Tree) → ex a ≡ fresh → ex b ≡ fresh → IsComponentType (context_after two) (component im ex) → ⊥
two_wrong im ex ea eb h =
    let l = name_of two h.0 (position 1 ∷ position 0 ∷ []) in
    a_b (sym (export_true l (path a) (fresh_if (is_export_at l (path a)) l (sym ea ∙ ap (λ t. export_of t a []) (h.1 nowhere)))) ∙ export_true l (path b) (fresh_if (is_export_at l (path b)) l (sym eb ∙ ap (λ t. export_of t b []) (h.1 nowhere))))

-- 3. What is exported with `sub` is not the other resource.
pub transparent_wrong : (im ex : Name → Tree) → ex a ≡ fresh → ex b ≡ fresh → IsComponentType (context_after transparent) (component im ex) → ⊥
transparent_wrong im ex ea eb h =
    let l = name_of transparent h.0 (position 0 ∷ []) in
    a_b (sym (export_true l (path a) (fresh_if (is_export_at l (path a)) l (sym ea ∙ ap (λ t. export_of t a []) (h.1 nowhere)))) ∙ export_true l (path b) (fresh_if (is_export_at l (path b)) l (sym eb ∙ ap (λ t. export_of t b []) (h.1 nowhere))))

-- 5. The two exports are one instance.
pub twice_wrong : (im ex : Name → Tree) → item_in (ex a) r ≡ fresh → item_in (ex b) r ≡ fresh → IsComponentType (context_after twice) (component im ex) → ⊥
twice_wrong im ex ea eb h =
    let l = name_of twice h.0 (position 1 ∷ position 0 ∷ []) in
    a_b2 (sym (seen_inside_true a r l (fresh_if (is_export_at (seen_inside a l) (path r)) (seen_inside a l) (sym ea ∙ ap (λ t. export_of t a (r ∷ [])) (h.1 nowhere)))) ∙ seen_inside_true b r l (fresh_if (is_export_at (seen_inside b l) (path r)) (seen_inside b l) (sym eb ∙ ap (λ t. export_of t b (r ∷ [])) (h.1 nowhere))))
  where
    a_b2 : bound_here exported (path2 a r) ≡ bound_here exported (path2 b r) → ⊥
    a_b2 e = a_b (ap (λ l. bound_here exported (named (first_name l.path ∷ []) ∷ [])) e)

-- 8. The instance that is passed on has no more than was asked for.
pub larger_wrong : (im ex : Name → Tree) → item_in (ex y) f ≡ fn (at imported 1 (path2 i r)) → IsComponentType (context_after larger) (component im ex) → ⊥
larger_wrong im ex e h = cc (sym e ∙ ap (λ t. export_of t y (f ∷ [])) (h.1 nowhere))

-- 10. The function that is passed on is over the argument's resource.
pub called_wrong : (im ex : Name → Tree) → ex g ≡ fn (at imported 0 (path r)) → IsComponentType (context_after called) (component im ex) → ⊥
called_wrong im ex e h = i_r (ap (λ t. first_name (leaf_names t)) (sym e ∙ ap (λ t. export_of t g []) (h.1 nowhere)))
  where
    i_r : ◌≡◌ {A = ℕ} 114 105 → ⊥
    i_r = apart_numbers 114 105 refl

-- 11. What comes back is the resource that was given.
pub returned_wrong : (im ex : Name → Tree) → ex a ≡ fresh → item_in (ex j) y ≡ fresh → IsComponentType (context_after returned) (component im ex) → ⊥
returned_wrong im ex ea ej h =
    let l = name_of returned h.0 (position 0 ∷ []) in
    a_j (ap (λ l. first_name l.path) (sym (export_true l (path a) (fresh_if (is_export_at l (path a)) l (sym ea ∙ ap (λ t. export_of t a []) (h.1 nowhere)))) ∙ seen_inside_true j y l (fresh_if (is_export_at (seen_inside j l) (path y)) (seen_inside j l) (sym ej ∙ ap (λ t. export_of t j (y ∷ [])) (h.1 nowhere)))))
  where
    a_j : ◌≡◌ {A = ℕ} 97 106 → ⊥
    a_j = apart_numbers 97 106 refl

-- 4. A type over a resource that no export lists: no type.
abbrev pub hiding : List Part
hiding = defined ∷ own_type 0 ∷ export_part a of_type 1 None ∷ []

pub hiding_valid : IsValid hiding
hiding_valid = assumption refl

-- A resource that no path leads to has no name.
not_found : (z : Leaf) (paths : List (List Place)) (ex : Name → Tree) (l : Leaf) → ((q : List Place) → is_export_at (resource_in ex q) l.path ≡ false) → named_first z paths ex l ≡ z
not_found z [] ex l h = refl
not_found z (q ∷ qs) ex l h = rw (h q) (not_found z qs ex l h)

hiding_none : (p : List Place) → is_export_at (resource_in (items_named (context_after hiding).exports) p) (position 0 ∷ []) ≡ false
hiding_none [] = refl
hiding_none (position k ∷ p) = refl
hiding_none (named n ∷ p) = by_test (same_name n a)
  where
    at_end : (q : List Place) → is_export_at (resource_at (type_equal (own (bound_here exported (position 0 ∷ [])))) q) (position 0 ∷ []) ≡ false
    at_end [] = refl
    at_end (x ∷ q) = refl

    by_test : (t : Bool) → is_export_at (resource_at (if t then type_equal (own (bound_here exported (position 0 ∷ []))) else absent) p) (position 0 ∷ []) ≡ false
    by_test true = at_end p
    by_test false = refl

pub hiding_wrong : (t : Tree) → IsComponentType (context_after hiding) t → ⊥
hiding_wrong t h = no_place (ap length_of (sym (kept nowhere) ∙ same_item ∙ kept (bound_here exported (path a))))
  where
    length_of : Tree → ℕ
    length_of (type_equal (own l)) = length l.path
    length_of _ = 0

    same_item : export_of (component_type nowhere h.0 (context_after hiding)) a [] ≡ export_of (component_type (bound_here exported (path a)) h.0 (context_after hiding)) a []
    same_item = ap (λ t. export_of t a []) (sym (h.1 nowhere) ∙ h.1 (bound_here exported (path a)))

    kept : (z : Leaf) → export_of (component_type z h.0 (context_after hiding)) a [] ≡ type_equal (own z)
    kept z = ap (λ l. type_equal (own l)) (not_found z h.0 (items_named (context_after hiding).exports) (bound_here exported (position 0 ∷ [])) hiding_none)

    no_place : ◌≡◌ {A = ℕ} 0 1 → ⊥
    no_place = apart_numbers 0 1 refl

-- A path that names a resource leads to it.
pub found : (paths : List (List Place)) (ex : Name → Tree) (l : Leaf) (p : List Place) → named_first nowhere paths ex l ≡ bound_here exported p → (nowhere ≡ bound_here exported p) ⊎ (is_export_at (resource_in ex p) l.path ≡ true)
found [] ex l p h = inl h
found (q ∷ qs) ex l p h = by_test (found qs ex l p) (is_export_at (resource_in ex q) l.path) refl h
  where
    by_test : (named_first nowhere qs ex l ≡ bound_here exported p → (nowhere ≡ bound_here exported p) ⊎ (is_export_at (resource_in ex p) l.path ≡ true)) → (t : Bool) → is_export_at (resource_in ex q) l.path ≡ t → (if t then bound_here exported q else named_first nowhere qs ex l) ≡ bound_here exported p → (nowhere ≡ bound_here exported p) ⊎ (is_export_at (resource_in ex p) l.path ≡ true)
    by_test again_ true e k = inr (subst (λ z. is_export_at (resource_in ex z) l.path ≡ true) (ap (λ z. z.path) k) e)
    by_test again_ false e k = again_ k

seen_outside : (n : Name) (p : List Place) (l : Leaf) → at exported 1 p ≡ seen_inside n l → l ≡ bound_here exported p
seen_outside n p l h = by_parts l.out l.side l.path h
  where
    by_name : (k : Name) (q : Place) (qs : List Place) (t : Bool) → at exported 1 p ≡ (if t then bound_here exported (q ∷ qs) else at exported 1 (named k ∷ q ∷ qs)) → bound_here exported (named k ∷ q ∷ qs) ≡ bound_here exported p
    by_name k q qs true h = absurd (apart_numbers 1 0 refl (ap (λ l. l.out) h))
    by_name k q qs false h = ap (λ l. bound_here exported l.path) (sym h)

    by_parts : (o : ℕ) (s : Side) (q : List Place) → at exported 1 p ≡ seen_inside_from n o s q → record { out = o; side = s; path = q } ≡ bound_here exported p
    by_parts zero exported (named k ∷ q ∷ qs) h = by_name k q qs (same_name k n) h
    by_parts zero exported [] h = ap (λ l. bound_here exported l.path) (sym h)
    by_parts zero exported (named k ∷ []) h = ap (λ l. bound_here exported l.path) (sym h)
    by_parts zero exported (position k ∷ ps) h = ap (λ l. bound_here exported l.path) (sym h)
    by_parts zero imported q h = cc (ap (λ l. l.side) h)
    by_parts (suc o) s q h = cc (ap (λ l. l.out) h)

-- 6. The two instances have two resources.
pub apart_wrong : (im ex : Name → Tree) → item_in (ex a) r ≡ fresh → item_in (ex b) r ≡ eqr exported 1 (path2 a r) → IsComponentType (context_after apart) (component im ex) → ⊥
apart_wrong im ex ea eb h = ⊎_elim (λ e. no_name (ap (λ l. first_name l.path) e)) (λ e. cc e) (found h.0 (items_named (context_after apart).exports) (bound_here exported (position 3 ∷ path r)) (path2 a r) (seen_outside b (path2 a r) l (equal_if (is_export_at (seen_inside b l) (path r)) (at exported 1 (path2 a r)) (seen_inside b l) (sym eb ∙ ap (λ t. export_of t b (r ∷ [])) (h.1 nowhere)))))
  where
    l : Leaf
    l = name_of apart h.0 (position 3 ∷ path r)

    no_name : ◌≡◌ {A = ℕ} 0 97 → ⊥
    no_name = apart_numbers 0 97 refl

-- 9. The component as an argument gives back what it was given.
pub handed_wrong : (im ex : Name → Tree) → item_in (ex i) b ≡ fresh → item_in (ex i) a ≡ fresh → IsComponentType (context_after handed) (component im ex) → ⊥
handed_wrong im ex eb ea h =
    let l = name_of handed h.0 (position 2 ∷ position 2 ∷ []) in
    b_a (ap (λ l. second_name l.path) (sym (seen_inside_true i b l (fresh_if (is_export_at (seen_inside i l) (path b)) (seen_inside i l) (sym eb ∙ ap (λ t. export_of t i (b ∷ [])) (h.1 nowhere)))) ∙ seen_inside_true i a l (fresh_if (is_export_at (seen_inside i l) (path a)) (seen_inside i l) (sym ea ∙ ap (λ t. export_of t i (a ∷ [])) (h.1 nowhere)))))
  where
    second_name : List Place → ℕ
    second_name (p ∷ q) = first_name q
    second_name [] = 0

    b_a : ◌≡◌ {A = ℕ} 98 97 → ⊥
    b_a = apart_numbers 98 97 refl
