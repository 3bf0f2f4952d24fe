-- An interface and the same with what it and the instances inside use bind the same, and list the same names.
use Rattle.std.proofs.Common.{◌≡◌, inl, inr, ℕ, suc, Bool, true, false, cond, List, [], ◌∷◌, length, map, Option, Some, None, slice_get, refl, sym, ap, ◌∙◌, subst, arith}
use Rattle.std.proofs.lemmas.Bool.{cases_Bool, false≢true}
use Rattle.wac_types_shapes.specs.primitives.Name.{Name, find_name, option_case, same_name}
use Rattle.wac_types_shapes.specs.declared.shapes.component.Interface.{Interface}
use Rattle.wac_types_shapes.specs.declared.shapes.component.InterfaceId.{InterfaceId}
use Rattle.wac_types_shapes.specs.declared.shapes.component.ResourceId.{ResourceId}
use Rattle.wac_types_shapes.specs.declared.shapes.component.UsedType.{UsedType}
use Rattle.wac_types_shapes.specs.declared.shapes.component.ItemKind.{ItemKind}
use Rattle.wac_types_shapes.specs.declared.shapes.component.ItemKind.TheVariants as kind
use Rattle.wac_types_shapes.proofs.lemmas.shapes.Names.{same_name-true}
use Rattle.wac_types_shapes.specs.primitives.Tree.{named}
use Rattle.wac_types_collection.specs.collection.Bound.{own_name}
use Rattle.wac_types_collection.specs.collection.Collection.{Collection, interface_exports, item_at}
use Rattle.wac_merge_classes.specs.entries.Binding.{kind_binds}
use Rattle.wac_merge_classes.specs.entries.Classes.{by_names, is_instance, same_track}
use Rattle.wac_merge_classes.specs.terms.Merge.{listed_resource, own_resource}
use Rattle.wac_merge_classes.proofs.lemmas.terms.Found.{no_some, one_some, some_same}
use Rattle.wac_merge_unions.specs.uses.United.{instances_of, listed_by}
use Rattle.wac_merge_unions.specs.uses.Using.{IsKindUsing, IsUsing, with}
use Rattle.wac_merge_unions.proofs.lemmas.uses.NestedAlike.{maps-same, the-instance}

-- what is read of an item under a name is the same in lists of the same names, if it is at each position
read-same : {A : Type 0} (F : ItemKind → A) (d : A) (n : Name) (xs ys : List (Name × ItemKind)) → length ys ≡ length xs
    → ((j : ℕ) (a b : Name × ItemKind) → slice_get xs j ≡ Some a → slice_get ys j ≡ Some b → (b.0 ≡ a.0) × (F b.1 ≡ F a.1)) → option_case (find_name ys n) d F ≡ option_case (find_name xs n) d F
read-same F d n [] [] count each = refl
read-same F d n [] (y ∷ ys) count each = absurd (omega (arith, count))
read-same F d n (x ∷ xs) [] count each = absurd (omega (arith, count))
read-same F d n (x ∷ xs) (y ∷ ys) count each =
    ap (λ b. option_case (cond b (Some y.1) (find_name ys n)) d F) (ap (same_name n) (each 0 x y refl refl).0)
    ∙ by (same_name n x.0) (each 0 x y refl refl).1 (read-same F d n xs ys (omega (arith, count)) (λ j a b here there. each (suc j) a b here there)) where
      by : (b : Bool) → F y.1 ≡ F x.1 → option_case (find_name ys n) d F ≡ option_case (find_name xs n) d F → option_case (cond b (Some y.1) (find_name ys n)) d F ≡ option_case (cond b (Some x.1) (find_name xs n)) d F
      by true one rest = one
      by false one rest = rest

-- what is found in one of two lists of the same names stands at the same position in the other
find-both : (n : Name) (xs ys : List (Name × ItemKind)) → length ys ≡ length xs → ((j : ℕ) (a b : Name × ItemKind) → slice_get xs j ≡ Some a → slice_get ys j ≡ Some b → b.0 ≡ a.0) → (l : ItemKind) → find_name ys n ≡ Some l
    → (j : ℕ) × (k : ItemKind) × (find_name xs n ≡ Some k) × (slice_get xs j ≡ Some (n, k)) × (slice_get ys j ≡ Some (n, l))
find-both n [] [] count each l found = absurd (no_some l found)
find-both n [] (y ∷ ys) count each l found = absurd (omega (arith, count))
find-both n (x ∷ xs) [] count each l found = absurd (omega (arith, count))
find-both n (x ∷ xs) (y ∷ ys) count each l found = by (same_name n y.0) refl found (find-both n xs ys (omega (arith, count)) (λ j a b here there. each (suc j) a b here there) l) where
  by : (b : Bool) → same_name n y.0 ≡ b → cond b (Some y.1) (find_name ys n) ≡ Some l
      → (find_name ys n ≡ Some l → (j : ℕ) × (k : ItemKind) × (find_name xs n ≡ Some k) × (slice_get xs j ≡ Some (n, k)) × (slice_get ys j ≡ Some (n, l)))
      → (j : ℕ) × (k : ItemKind) × (find_name (x ∷ xs) n ≡ Some k) × (slice_get (x ∷ xs) j ≡ Some (n, k)) × (slice_get (y ∷ ys) j ≡ Some (n, l))
  by true is f rest =
      let name : n ≡ y.0 = same_name-true n y.0 is in
      let also : y.0 ≡ x.0 = each 0 x y refl refl in
      let here : same_name n x.0 ≡ true = ap (same_name n) (sym also) ∙ is in
      let value : y.1 ≡ l = some_same y.1 l f in
      let both : n ≡ x.0 = name ∙ also in
      let back = sym both in
      let back-y = sym name in
      (0, x.1, ap (λ b. cond b (Some x.1) (find_name xs n)) here, (λ i. Some (back i, x.1)), (λ i. Some (back-y i, value i)))
  by false is f rest =
      let r = rest f in
      let here : same_name n x.0 ≡ false = ap (same_name n) (sym (each 0 x y refl refl)) ∙ is in
      (suc r.0, r.1, ap (λ b. cond b (Some x.1) (find_name xs n)) here ∙ r.2, r.3, r.4)

module _ (c m : Collection) (uses : List InterfaceId → List (Name × ItemKind) → List (Name × UsedType)) where
  -- at each position stands the same name, and what reads nothing of instances reads the same
  each-same : {A : Type 0} (F : ItemKind → A) (none : A) → ((k : InterfaceId) → F (kind.Instance k) ≡ none) → (xs ys : List (Name × ItemKind))
      → ((j : ℕ) (a b : Name × ItemKind) → slice_get xs j ≡ Some a → slice_get ys j ≡ Some b → is_instance a.1 ≡ false → b ≡ a)
      → ((j : ℕ) (a b : Name × ItemKind) → slice_get xs j ≡ Some a → slice_get ys j ≡ Some b → is_instance a.1 ≡ true → (b.0 ≡ a.0) × (is_instance b.1 ≡ true))
      → (j : ℕ) (a b : Name × ItemKind) → slice_get xs j ≡ Some a → slice_get ys j ≡ Some b → (b.0 ≡ a.0) × (F b.1 ≡ F a.1)
  each-same F none plain xs ys others alike j a b a-at b-at = elim (cases_Bool (is_instance a.1)) [
    | inl is ↦
        let two = alike j a b a-at b-at is in
        let k = the-instance a.1 is in
        let l = the-instance b.1 two.1 in
        (two.0, ap F l.1 ∙ (plain l.0 ∙ sym (ap F k.1 ∙ plain k.0)))
    | inr not ↦
        let one = others j a b a-at b-at not in
        (ap (λ (x : Name × ItemKind). x.0) one, ap (λ (x : Name × ItemKind). F x.1) one)
  ]

  pub exports-named : (i w : InterfaceId) (is : List InterfaceId) → IsUsing c m uses i w is → map (λ e. e.0) (interface_exports m w) ≡ map (λ e. e.0) (interface_exports m i)
  exports-named i w is (with _ _ _ it exports at there own counted others alike inner) =
      ap (λ o. map (λ (e : Name × ItemKind). e.0) (option_case o [] (λ (x : Interface). x.exports))) there
      ∙ (maps-same (λ (e : Name × ItemKind). e.0) it.exports exports counted (λ j a b here also. (each-same (λ k. true) true (λ k. refl) it.exports exports others alike j a b here also).0)
      ∙ sym (ap (λ o. map (λ (e : Name × ItemKind). e.0) (option_case o [] (λ (x : Interface). x.exports))) at))

  pub binds-same : (i w : InterfaceId) (is : List InterfaceId) → IsUsing c m uses i w is → (class : Name) (r : ResourceId) → kind_binds by_names m class (kind.Instance w) r ≡ kind_binds by_names m class (kind.Instance i) r
  binds-same i w is (with _ _ _ it exports at there own counted others alike inner) class r =
      let under = λ (id : Name) (o : Option Name). cond (same_track (by_names.track id) (by_names.track class)) (option_case o None (λ n. Some (named n ∷ []))) None in
      let F = λ (x : Interface). option_case x.id None (λ id. under id (own_name m x.uses x.exports r)) in
      ap (λ o. option_case o None F) there ∙ (ap (λ o. option_case it.id None (λ id. under id o)) (own r) ∙ sym (ap (λ o. option_case o None F) at))

  pub resource-same : (i w : InterfaceId) (is : List InterfaceId) → IsUsing c m uses i w is → (id n : Name) → own_resource m id n (kind.Instance w) ≡ own_resource m id n (kind.Instance i)
  resource-same i w is (with _ _ _ it exports at there own counted others alike inner) id n =
      let under = λ (x : Option ResourceId) (text : Name). cond (same_name id text) x None in
      let F = λ (x : Interface). option_case x.id None (under (option_case (find_name x.exports n) None (listed_resource m))) in
      let same : option_case (find_name exports n) None (listed_resource m) ≡ option_case (find_name it.exports n) None (listed_resource m) =
      read-same (listed_resource m) None n it.exports exports counted (each-same (listed_resource m) None (λ k. refl) it.exports exports others alike) in
      ap (λ o. option_case o None F) there ∙ (ap (λ x. option_case it.id None (under x)) same ∙ sym (ap (λ o. option_case o None F) at))

  -- the interface that it was, and what it lists now
  pub using-there : (i w : InterfaceId) (is : List InterfaceId) → IsUsing c m uses i w is → (it : Interface) × (exports : List (Name × ItemKind)) × (item_at m.interfaces i.0 ≡ Some it) × (item_at m.interfaces w.0 ≡ Some (record { id = it.id; uses = uses is exports; exports = exports }))
  using-there i w is (with _ _ _ it exports at there own counted others alike inner) = (it, exports, at, there)

  plain-using : (is : List InterfaceId) (k l : ItemKind) → is_instance k ≡ false → l ≡ k → IsKindUsing c m uses is k l
  plain-using is (kind.Instance i) l plain same = absurd (false≢true (sym plain))
  plain-using is (kind.TypeItem t) l plain same = same
  plain-using is (kind.Func f) l plain same = same
  plain-using is (kind.Component w) l plain same = same
  plain-using is (kind.Module y) l plain same = same
  plain-using is (kind.Value v) l plain same = same

  -- what is listed under a name was listed under it
  pub found-using : (i w : InterfaceId) (is : List InterfaceId) (it : Interface) (n : Name) (l : ItemKind) → IsUsing c m uses i w is → item_at m.interfaces w.0 ≡ Some it → find_name it.exports n ≡ Some l
      → (was : Interface) × (k : ItemKind) × (item_at m.interfaces i.0 ≡ Some was) × (find_name was.exports n ≡ Some k) × IsKindUsing c m uses (instances_of (listed_by c is n)) k l
  found-using i w is it n l (with _ _ _ was exports at there own counted others alike inner) it-at found =
      let using : Interface = record { id = was.id; uses = uses is exports; exports = exports } in
      let one : it ≡ using = one_some (item_at m.interfaces w.0) it using it-at there in
      let p = find-both n was.exports exports counted (λ j a b here also. (each-same (λ k. true) true (λ k. refl) was.exports exports others alike j a b here also).0) l (ap (λ (x : Interface). find_name x.exports n) (sym one) ∙ found) in
      let js = instances_of (listed_by c is n) in
      elim (cases_Bool (is_instance p.1)) [
        | inl is-instance ↦
            let two = alike p.0 (n, p.1) (n, l) p.3 p.4 is-instance in
            let k = the-instance p.1 is-instance in
            let v = the-instance l two.1 in
            let that : IsKindUsing c m uses js (kind.Instance k.0) (kind.Instance v.0) = inner p.0 n k.0 v.0 (p.3 ∙ ap (λ z. Some (n, z)) k.1) (p.4 ∙ ap (λ z. Some (n, z)) v.1) in
            (was, p.1, at, p.2, subst (λ z. IsKindUsing c m uses js z l) (sym k.1) (subst (IsKindUsing c m uses js (kind.Instance k.0)) (sym v.1) that))
        | inr plain ↦ (was, p.1, at, p.2, plain-using js p.1 l plain (ap (λ (x : Name × ItemKind). x.1) (others p.0 (n, p.1) (n, l) p.3 p.4 plain)))
      ]

  -- what became an instance with uses was one
  pub using-instance : (is : List InterfaceId) (b : ItemKind) (w : InterfaceId) → IsKindUsing c m uses is b (kind.Instance w) → (i : InterfaceId) × (b ≡ kind.Instance i) × IsUsing c m uses i w is
  using-instance is (kind.Instance i) w h = (i, refl, h)
  using-instance is (kind.TypeItem t) w h = absurd (false≢true (sym (ap is_instance h)))
  using-instance is (kind.Func g) w h = absurd (false≢true (sym (ap is_instance h)))
  using-instance is (kind.Component x) w h = absurd (false≢true (sym (ap is_instance h)))
  using-instance is (kind.Module y) w h = absurd (false≢true (sym (ap is_instance h)))
  using-instance is (kind.Value v) w h = absurd (false≢true (sym (ap is_instance h)))
