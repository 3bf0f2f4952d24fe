-- No name is there twice among all imports of a component type without a fault.
use Rattle.std.specs.List.{IsDistinct, AllByRecursion, flat_map}
use Rattle.std.proofs.Common.{◌≡◌, Bool, true, false, if◌then◌else◌, inl, inr, List, [], ◌∷◌, ◌++◌, Option, Some, None, Contains, refl, ap, sym, ◌∙◌, subst}
use Rattle.std.proofs.lemmas.Map.Keys.{IsDistinct-head, IsDistinct-tail}
use Rattle.wac_types_shapes.specs.primitives.Name.{Name, same_name, find_name, option_case}
use Rattle.wac_types_shapes.proofs.lemmas.shapes.Names.{same_name-true, same_name-refl}
use Rattle.wac_types_shapes.specs.shapes.Named.{NoNameTwice}
use Rattle.wac_types_shapes.specs.contracts.shapes.component.InterfaceIdPartialEq.TheImpl as IdEq
use Rattle.wac_types_shapes.specs.declared.shapes.component.Interface.{Interface}
use Rattle.wac_types_shapes.specs.declared.shapes.component.InterfaceId.{InterfaceId}
use Rattle.wac_types_shapes.specs.declared.shapes.component.ItemKind.{ItemKind}
use Rattle.wac_types_shapes.specs.declared.shapes.component.ItemKind.TheVariants as kind
use Rattle.wac_types_collection.specs.collection.Collection.{Collection, item_at}
use Rattle.wac_types_collection.proofs.lemmas.wide.Members.{in_none, in_first, in_rest, in_left, in_right, in_parts, flat_in}
use Rattle.wac_types_collection.proofs.lemmas.wide.Once.{id_itself}
use Rattle.wac_encode_faults.specs.declared.fault.WriteFault.TheVariants as fault
use Rattle.wac_encode_faults.specs.Faults.{of_import, of_additional, twice}
use Rattle.wac_encode_faults.specs.Sides.{under_id}
use Rattle.wac_encode_interfaces.specs.declared.sides.Sides.{Sides as GivenSides}
use Rattle.wac_encode_interfaces.specs.private.Given.{sides_of}
use Rattle.wac_encode_interfaces.specs.private.Ready.{AreSidesClean}
use Rattle.wac_encode_interfaces.proofs.Begun.{under-instance}

-- names in a list

module _ {V : Type 0} where
  not-found : (es : List (Name × V)) (n : Name) → ((v : V) → Contains es (n, v) → ⊥) → find_name es n ≡ None
  not-found [] n h = refl
  not-found (e ∷ es) n h = by (same_name n e.0) refl (not-found es n (λ v there. h v (in_rest e (n, v) es there)))
    where
      by : (b : Bool) → same_name n e.0 ≡ b → find_name es n ≡ None → (if b then Some e.1 else find_name es n) ≡ None
      by true same rest = absurd (h e.1 (subst (λ (z : Name). Contains (e ∷ es) (z, e.1)) (sym (same_name-true n e.0 same)) (in_first e es)))
      by false other rest = rest

  none-both : (xs ys : List (Name × V)) (n : Name) → find_name xs n ≡ None → find_name ys n ≡ None → find_name (xs ++ ys) n ≡ None
  none-both [] ys n g h = h
  none-both (e ∷ xs) ys n g h = by (same_name n e.0) g (λ k. none-both xs ys n k h)
    where
      by : (b : Bool) → (if b then Some e.1 else find_name xs n) ≡ None → (find_name xs n ≡ None → find_name (xs ++ ys) n ≡ None) → (if b then Some e.1 else find_name (xs ++ ys) n) ≡ None
      by true k rest = k
      by false k rest = rest k

  once-both : (xs ys : List (Name × V)) → NoNameTwice xs → NoNameTwice ys → ((n : Name) (v w : V) → Contains xs (n, v) → Contains ys (n, w) → ⊥) → NoNameTwice (xs ++ ys)
  once-both [] ys g h apart = h
  once-both (e ∷ xs) ys g h apart = (
    none-both xs ys e.0 g.0 (not-found ys e.0 (λ w there. apart e.0 e.1 w (in_first e xs) there)),
    once-both xs ys g.1 h (λ n v w k l. apart n v w (in_rest e (n, v) xs k) l),
  )

-- additional imports

not-after : (i : InterfaceId) (is : List InterfaceId) → AllByRecursion (λ z. (IdEq.ghosts).eq i z ≡ false) is → Contains is i → ⊥
not-after i [] all h = in_none i h
not-after i (j ∷ is) all h = elim (in_parts j i is h) [
  | inl same ↦ let no : true ≡ false = sym (id_itself i) ∙ ap ((IdEq.ghosts).eq i) same ∙ all.0 in cc
  | inr w ↦ not-after i is all.1 w
]

under-one : (c : Collection) (i : InterfaceId) → NoNameTwice (under_id c i)
under-one c i = by (item_at c.interfaces i.0)
  where
    by-id : (d : Option Name) → NoNameTwice {V = ItemKind} (option_case d [] (λ id. (id, kind.Instance i) ∷ []))
    by-id None = tt
    by-id (Some id) = (refl, tt)

    by : (o : Option Interface) → NoNameTwice {V = ItemKind} (option_case o [] (λ it. option_case it.id [] (λ id. (id, kind.Instance i) ∷ [])))
    by None = tt
    by (Some it) = by-id it.id

-- No two interfaces have one name.
abbrev AreApart : Collection → List InterfaceId → Type 0
AreApart c is = (n : Name) (i j : InterfaceId) → Contains (flat_map (under_id c) is) (n, kind.Instance i) → Contains (flat_map (under_id c) is) (n, kind.Instance j) → (i ≡ j → ⊥) → ⊥

module _ (c : Collection) where
  under-once : (is : List InterfaceId) → IsDistinct (IdEq.ghosts).eq is → AreApart c is → NoNameTwice (flat_map (under_id c) is)
  under-once [] once apart = tt
  under-once (i ∷ is) once apart =
      let rest = flat_map (under_id c) is in
      once-both (under_id c i) rest (under-one c i)
      (under-once is (IsDistinct-tail (IdEq.ghosts).eq i is once) (λ n a b g h. apart n a b (in_right (under_id c i) rest (n, kind.Instance a) g) (in_right (under_id c i) rest (n, kind.Instance b) h)))
      (λ n v w g h.
      let found = flat_in (under_id c) is (n, w) h in
      let first = subst (λ (k : ItemKind). Contains (under_id c i) (n, k)) (under-instance c i (n, v) g) g in
      let second = subst (λ (k : ItemKind). Contains rest (n, k)) (under-instance c found.0 (n, w) found.2) h in
      apart n i found.0 (in_left (under_id c i) rest (n, kind.Instance i) first) (in_right (under_id c i) rest (n, kind.Instance found.0) second)
      (λ same. not-after i is (IsDistinct-head (IdEq.ghosts).eq i is once) (subst (Contains is) (sym same) found.1)))

  -- If no interface is additional twice, no name is there twice.
  pub joined-once : (x : GivenSides) → NoNameTwice x.imports.now → IsDistinct (IdEq.ghosts).eq x.additional.now → AreSidesClean c (sides_of c x) → NoNameTwice (x.imports.now ++ flat_map (under_id c) x.additional.now)
  joined-once x imports once clean =
      let all = flat_map (under_id c) x.additional.now in
      once-both x.imports.now all imports
      (under-once x.additional.now once (λ n i j g h other. clean fault.InterfaceTwice (twice (of_additional n i j g h other))))
      (λ n v w g h.
      let found = flat_in (under_id c) x.additional.now (n, w) h in
      clean fault.InterfaceTwice (twice (of_import n v found.0 g (subst (λ (k : ItemKind). Contains all (n, k)) (under-instance c found.0 (n, w) found.2) h))))
