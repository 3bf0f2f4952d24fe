-- Names of additional imports: which are there twice.
use Rattle.std.proofs.Common.{ℕ, zero, suc, ◌+◌, ◌≤◌, Bool, true, false, if◌then◌else◌, List, [], ◌∷◌, ◌++◌, length, take, Contains, Option, Some, None, IsSome, ◌≡◌, inl, inr, refl, ap, sym, ◌∙◌, subst, flat_map, slice_get}
use Rattle.std.specs.List.{IsDistinct, AllByRecursion}
use Rattle.std.proofs.lemmas.List.{take_all, append-nil}
use Rattle.std.proofs.lemmas.Map.Keys.{IsDistinct-head, IsDistinct-tail}
use Rattle.wac_types_shapes.specs.primitives.Name.{Name, same_name, find_name, option_case}
use Rattle.wac_types_shapes.specs.shapes.Named.{NoNameTwice}
use Rattle.wac_types_shapes.proofs.lemmas.shapes.Names.{same_name-true, same_name-refl, taken}
use Rattle.wac_types_shapes.specs.contracts.shapes.component.InterfaceIdPartialEq.TheImpl as IdEq
use Rattle.wac_types_shapes.specs.declared.shapes.component.Interface.{Interface}
use Rattle.wac_types_shapes.specs.declared.shapes.component.InterfaceId.{InterfaceId}
use Rattle.wac_types_shapes.specs.declared.shapes.component.ItemKind.{ItemKind}
use Rattle.wac_types_shapes.specs.declared.shapes.component.ItemKind.TheVariants as kind
use Rattle.wac_types_collection.specs.collection.Collection.{Collection, item_at}
use Rattle.wac_encode_faults.specs.Sides.{under_id}
use Rattle.wac_encode_faults.specs.Faults.{HasNameTwice, of_import, of_additional}
use Rattle.wac_encode_faults.specs.private.Search.{IsIdOf, named, sides_of, IsNamedAgain, IsNoImport}
use Rattle.wac_types_collection.proofs.lemmas.wide.Members.{in_none, in_first, in_rest, in_right, in_parts, in_one, at_in, in_flat, flat_in, flat_joined}
use Rattle.wac_types_collection.proofs.lemmas.wide.Once.{id_itself}
use Rattle.wac_encode_faults.proofs.Dependencies.{AllBefore, all_before}

-- ---- names in a list
module _ {V : Type 0} where
  found_in : (es : List (Name × V)) (n : Name) → IsSome (find_name es n) → (v : V) × Contains es (n, v)
  found_in [] n h = cc
  found_in (e ∷ es) n h = by (same_name n e.0) refl h (found_in es n)
    where
      by : (b : Bool) → same_name n e.0 ≡ b → IsSome (if b then Some e.1 else find_name es n) → (IsSome (find_name es n) → (v : V) × Contains es (n, v)) → (v : V) × Contains (e ∷ es) (n, v)
      by true same _ _ = (e.1, subst (λ (z : Name). Contains (e ∷ es) (z, e.1)) (sym (same_name-true n e.0 same)) (in_first e es))
      by false _ g rest = let (v, there) = rest g in (v, in_rest e (n, v) es there)

  in_found : (es : List (Name × V)) (n : Name) (v : V) → Contains es (n, v) → find_name es n ≡ None → ⊥
  in_found [] n v h none = in_none (n, v) h
  in_found (e ∷ es) n v h none = by (same_name n e.0) refl none (in_found es n v)
    where
      by : (b : Bool) → same_name n e.0 ≡ b → (if b then Some e.1 else find_name es n) ≡ None → (Contains es (n, v) → find_name es n ≡ None → ⊥) → ⊥
      by true _ wrong _ = cc
      by false other g rest = elim (in_parts e (n, v) es h) [
        | inl same ↦ let is : true ≡ false = sym (same_name-refl n) ∙ ap (same_name n) (ap (λ (z : Name × V). z.0) same) ∙ other in cc
        | inr w ↦ rest w g
      ]

  -- A list in which no name is there twice does not go on with a name that it has.
  pub twice_last : (es : List (Name × V)) (n : Name) (v : V) → IsSome (find_name es n) → NoNameTwice (es ++ (n, v) ∷ []) → ⊥
  twice_last [] n v h once = let no : false ≡ true = h in cc
  twice_last (e ∷ es) n v h once = by (same_name n e.0) refl h (λ k. twice_last es n v k once.1)
    where
      by : (b : Bool) → same_name n e.0 ≡ b → IsSome (if b then Some e.1 else find_name es n) → (IsSome (find_name es n) → ⊥) → ⊥
      by true same _ _ =
          in_found (es ++ (n, v) ∷ []) n v (in_right es ((n, v) ∷ []) (n, v) (in_first (n, v) [])) (ap (find_name (es ++ (n, v) ∷ [])) (same_name-true n e.0 same) ∙ once.0)
      by false _ k rest = rest k

  none_first : (es fs : List (Name × V)) (n : Name) → find_name (es ++ fs) n ≡ None → find_name es n ≡ None
  none_first [] fs n h = refl
  none_first (e ∷ es) fs n h = by (same_name n e.0) h (none_first es fs n)
    where
      by : (b : Bool) → (if b then Some e.1 else find_name (es ++ fs) n) ≡ None → (find_name (es ++ fs) n ≡ None → find_name es n ≡ None) → (if b then Some e.1 else find_name es n) ≡ None
      by true k rest = k
      by false k rest = rest k

  -- So is its beginning.
  pub once_first : (es fs : List (Name × V)) → NoNameTwice (es ++ fs) → NoNameTwice es
  once_first [] fs h = tt
  once_first (e ∷ es) fs h = (none_first es fs e.0 h.0, once_first es fs h.1)

  named_once : (es : List (Name × V)) (n : Name) (v w : V) → NoNameTwice es → Contains es (n, v) → Contains es (n, w) → v ≡ w
  named_once [] n v w once h g = absurd (in_none (n, v) h)
  named_once (e ∷ es) n v w once h g = elim (in_parts e (n, v) es h) [
    | inl p ↦ elim (in_parts e (n, w) es g) [
      | inl q ↦ ap (λ (z : Name × V). z.1) p ∙ sym (ap (λ (z : Name × V). z.1) q)
      | inr q ↦ absurd (in_found es n w q (ap (find_name es) (ap (λ (z : Name × V). z.0) p) ∙ once.0))
    ]
    | inr p ↦ elim (in_parts e (n, w) es g) [
      | inl q ↦ absurd (in_found es n v p (ap (find_name es) (ap (λ (z : Name × V). z.0) q) ∙ once.0))
      | inr q ↦ named_once es n v w once.1 p q
    ]
  ]

item_first : (e : Name × ItemKind) → Contains (e ∷ []) e
item_first e = in_first e []

item_one : (e x : Name × ItemKind) → Contains (e ∷ []) x → x ≡ e
item_one e x h = in_one e x h

item_none : (x : Name × ItemKind) → Contains [] x → ⊥
item_none x h = in_none x h

name_first : (e : Name × InterfaceId) → Contains (e ∷ []) e
name_first e = in_first e []

name_one : (e x : Name × InterfaceId) → Contains (e ∷ []) x → x ≡ e
name_one e x h = in_one e x h

name_none : (x : Name × InterfaceId) → Contains [] x → ⊥
name_none x h = in_none x h

-- ---- an interface under its id
abbrev pub under_of : InterfaceId → Option Name → List (Name × ItemKind)
under_of i d = option_case d [] (λ id. (id, kind.Instance i) ∷ [])

abbrev pub under_in : InterfaceId → Option Interface → List (Name × ItemKind)
under_in i o = option_case o [] (λ it. under_of i it.id)

abbrev named_of : InterfaceId → Option Name → List (Name × InterfaceId)
named_of i d = option_case d [] (λ id. (id, i) ∷ [])

abbrev named_in : InterfaceId → Option Interface → List (Name × InterfaceId)
named_in i o = option_case o [] (λ it. named_of i it.id)

abbrev id_in : Option Interface → Option Name
id_in o = option_case o None (λ it. it.id)

one_name : (a b : Name) → Some a ≡ Some b → a ≡ b
one_name a b e = cc

one_instance : (i j : InterfaceId) → kind.Instance j ≡ kind.Instance i → j ≡ i
one_instance i j e = cc

module _ (i : InterfaceId) (n : Name) where
  id_under_of : (d : Option Name) → d ≡ Some n → Contains (under_of i d) (n, kind.Instance i) × Contains (named_of i d) (n, i)
  id_under_of None e = cc
  id_under_of (Some id) e =
      let same : id ≡ n = one_name id n e in
      (subst (λ (z : Name). Contains (under_of i (Some z)) (n, kind.Instance i)) (sym same) (item_first (n, kind.Instance i)), subst (λ (z : Name). Contains (named_of i (Some z)) (n, i)) (sym same) (name_first (n, i)))

  id_under_in : (o : Option Interface) → id_in o ≡ Some n → Contains (under_in i o) (n, kind.Instance i) × Contains (named_in i o) (n, i)
  id_under_in None e = cc
  id_under_in (Some it) e = id_under_of it.id e

  under_is_of : (j : InterfaceId) (d : Option Name) → Contains (under_of i d) (n, kind.Instance j) → (j ≡ i) × (d ≡ Some n)
  under_is_of j None g = absurd (item_none (n, kind.Instance j) g)
  under_is_of j (Some id) g =
      let same = item_one (id, kind.Instance i) (n, kind.Instance j) g in
      (one_instance i j (ap (λ (z : Name × ItemKind). z.1) same), ap Some (sym (ap (λ (z : Name × ItemKind). z.0) same)))

  under_is_in : (j : InterfaceId) (o : Option Interface) → Contains (under_in i o) (n, kind.Instance j) → (j ≡ i) × (id_in o ≡ Some n)
  under_is_in j None g = absurd (item_none (n, kind.Instance j) g)
  under_is_in j (Some it) g = under_is_of j it.id g

  named_is_of : (j : InterfaceId) (d : Option Name) → Contains (named_of i d) (n, j) → (j ≡ i) × (d ≡ Some n)
  named_is_of j None g = absurd (name_none (n, j) g)
  named_is_of j (Some id) g =
      let same = name_one (id, i) (n, j) g in
      (ap (λ (z : Name × InterfaceId). z.1) same, ap Some (sym (ap (λ (z : Name × InterfaceId). z.0) same)))

  named_is_in : (j : InterfaceId) (o : Option Interface) → Contains (named_in i o) (n, j) → (j ≡ i) × (id_in o ≡ Some n)
  named_is_in j None g = absurd (name_none (n, j) g)
  named_is_in j (Some it) g = named_is_of j it.id g

module _ (c : Collection) (i : InterfaceId) where
  id_under : (n : Name) → IsIdOf c n i → Contains (under_id c i) (n, kind.Instance i) × Contains (named c i) (n, i)
  id_under n h = id_under_in i n (item_at c.interfaces i.0) h

  under_is : (n : Name) (j : InterfaceId) → Contains (under_id c i) (n, kind.Instance j) → (j ≡ i) × IsIdOf c n i
  under_is n j h = under_is_in i n j (item_at c.interfaces i.0) h

  named_is : (n : Name) (j : InterfaceId) → Contains (named c i) (n, j) → (j ≡ i) × IsIdOf c n i
  named_is n j h = named_is_in i n j (item_at c.interfaces i.0) h

-- ---- no interface stands twice
not_behind : (i : InterfaceId) (is : List InterfaceId) → AllByRecursion (λ z. (IdEq.ghosts).eq i z ≡ false) is → Contains is i → ⊥
not_behind i [] all h = in_none i h
not_behind i (j ∷ is) all h = elim (in_parts j i is h) [
  | inl same ↦ let is : true ≡ false = sym (id_itself i) ∙ ap ((IdEq.ghosts).eq i) same ∙ all.0 in cc
  | inr w ↦ not_behind i is all.1 w
]

pub before_is_other : (is : List InterfaceId) (p : ℕ) (i j : InterfaceId) → IsDistinct (IdEq.ghosts).eq is → slice_get is p ≡ Some i → Contains (take p is) j → i ≡ j → ⊥
before_is_other [] p i j once at h same = cc
before_is_other (x ∷ is) zero i j once at h same = in_none j h
before_is_other (x ∷ is) (suc p) i j once at h same = elim (in_parts x j (take p is) h) [
  | inl first ↦ not_behind x is (IsDistinct-head (IdEq.ghosts).eq x is once) (subst (Contains is) (same ∙ first) (at_in is p i at))
  | inr w ↦ before_is_other is p i j (IsDistinct-tail (IdEq.ghosts).eq x is once) at w same
]

take_in : (is : List InterfaceId) (p : ℕ) (j : InterfaceId) → Contains (take p is) j → Contains is j
take_in [] zero j h = absurd (in_none j h)
take_in [] (suc p) j h = absurd (in_none j h)
take_in (x ∷ is) zero j h = absurd (in_none j h)
take_in (x ∷ is) (suc p) j h = elim (in_parts x j (take p is) h) [ inl e ↦ subst (λ z. Contains (z ∷ is) j) e (in_first j is) | inr w ↦ in_rest x j is (take_in is p j w) ]

-- ---- all of them
module _ (c : Collection) (imports : List (Name × ItemKind)) (is : List InterfaceId) where
  pub twice_at : (p : ℕ) (i : InterfaceId) (names : List (Name × InterfaceId)) → IsDistinct (IdEq.ghosts).eq is → slice_get is p ≡ Some i → names ≡ flat_map (named c) (take p is) → IsNamedAgain c imports names i
      → HasNameTwice (sides_of c imports is)
  twice_at p i names once at all (n, id, inl some) =
      let (k, there) = found_in imports n some in
      of_import n k i there (in_flat (under_id c) is i (n, kind.Instance i) (at_in is p i at) (id_under c i n id).0)
  twice_at p i names once at all (n, id, inr some) =
      let (j, there) = found_in names n some in
      let (k, before, here) = flat_in (named c) (take p is) (n, j) (subst (λ l. Contains l (n, j)) all there) in
      let (same, other_id) = named_is c k n j here in
      of_additional n i k
      (in_flat (under_id c) is i (n, kind.Instance i) (at_in is p i at) (id_under c i n id).0)
      (in_flat (under_id c) is k (n, kind.Instance k) (take_in is p k before) (id_under c k n other_id).0)
      (before_is_other is p i k once at before)

  pub names_next : (p : ℕ) (i : InterfaceId) (names now : List (Name × InterfaceId)) → slice_get is p ≡ Some i → names ≡ flat_map (named c) (take p is) → now ≡ names ++ named c i → now ≡ flat_map (named c) (take (p + 1) is)
  names_next p i names now at was grown =
      grown ∙ ap (λ l. l ++ named c i) was ∙ ap (λ l. flat_map (named c) (take p is) ++ l) (sym (append-nil (named c i))) ∙ sym (flat_joined (named c) (take p is) (i ∷ [])) ∙ ap (flat_map (named c)) (taken is p i at)

  pub not_twice : (p : ℕ) (names : List (Name × InterfaceId)) → length is ≤ p → names ≡ flat_map (named c) (take p is) → NoNameTwice names → AllBefore (IsNoImport c imports) is p → HasNameTwice (sides_of c imports is) → ⊥
  not_twice p names past was once before (of_import n k i there more) =
      let (j, among, here) = flat_in (under_id c) is (n, kind.Instance i) more in
      let (same, id) = under_is c j n i here in
      in_found imports n k there (all_before (IsNoImport c imports) is p j past before among n id)
  not_twice p names past was once before (of_additional n i j first second other) =
      let (a, a_in, a_here) = flat_in (under_id c) is (n, kind.Instance i) first in
      let (b, b_in, b_here) = flat_in (under_id c) is (n, kind.Instance j) second in
      let (a_same, a_id) = under_is c a n i a_here in
      let (b_same, b_id) = under_is c b n j b_here in
      let all : names ≡ flat_map (named c) is = was ∙ ap (flat_map (named c)) (take_all p is past) in
      let here : (x : InterfaceId) → Contains is x → IsIdOf c n x → Contains names (n, x) = λ x among id. subst (λ l. Contains l (n, x)) (sym all) (in_flat (named c) is x (n, x) among (id_under c x n id).1) in
      other (a_same ∙ named_once names n a b once (here a a_in a_id) (here b b_in b_id) ∙ sym b_same)
