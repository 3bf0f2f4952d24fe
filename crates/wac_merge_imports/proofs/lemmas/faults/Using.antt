-- An interface with uses has the free resources and the faults of the one without.
use Rattle.std.proofs.Common.{◌≡◌, ℕ, Bool, true, false, List, [], length, slice_get, Contains, Option, Some, None, refl, sym, ap, ◌∙◌, subst, arith}
use Rattle.std.proofs.lemmas.Bool.{false≢true}
use Rattle.wac_types_shapes.specs.primitives.Name.{Name, option_case}
use Rattle.wac_types_shapes.specs.shapes.Kinds.{kind_type}
use Rattle.wac_types_shapes.specs.declared.shapes.component.Interface.{Interface}
use Rattle.wac_types_shapes.specs.declared.shapes.component.InterfaceId.{InterfaceId}
use Rattle.wac_types_shapes.specs.declared.shapes.component.ItemKind.{ItemKind}
use Rattle.wac_types_shapes.specs.declared.shapes.component.ItemKind.TheVariants as kind
use Rattle.wac_types_shapes.specs.declared.shapes.component.ResourceId.{ResourceId}
use Rattle.wac_types_shapes.specs.declared.shapes.component.UsedType.{UsedType}
use Rattle.wac_types_shapes.specs.declared.shapes.component.«Type».{«Type» as AnyType}
use Rattle.wac_types_shapes.specs.declared.shapes.component.«Type».TheVariants as ty
use Rattle.wac_types_collection.specs.collection.Collection.{Collection, interface_exports, item_at}
use Rattle.wac_types_collection.specs.collection.Bound.{own_name}
use Rattle.wac_types_collection.proofs.lemmas.wide.Members.{at_in, in_at, in_none}
use Rattle.wac_encode_faults.specs.declared.fault.WriteFault.{WriteFault}
use Rattle.wac_encode_faults.specs.Faults.{IsFaultInside, IsInside, IsListed, IsTypeFault, import_fault, in_item, listed_fault, listed_items}
use Rattle.wac_encode_faults.specs.Faults as faults
use Rattle.wac_encode_faults.specs.Free.{IsFree, in_export, in_part, parts}
use Rattle.wac_encode_faults.specs.Free as free
use Rattle.wac_merge_classes.specs.entries.Classes.{is_instance}
use Rattle.wac_merge_classes.proofs.lemmas.entries.Lists.{some-at}
use Rattle.wac_merge_classes.proofs.lemmas.terms.Found.{no_some, one_some}
use Rattle.wac_merge_unions.specs.uses.United.{instances_of, listed_by}
use Rattle.wac_merge_unions.specs.uses.Using.{IsKindUsing, IsUsing, with}
use Rattle.wac_merge_imports.proofs.lemmas.faults.FaultsComing.{of_interface}

the_instance : (k : ItemKind) → is_instance k ≡ true → (i : InterfaceId) × (k ≡ kind.Instance i)
the_instance (kind.Instance i) t = (i, refl)
the_instance k t = absurd (false≢true t)

one_interface : (i j : InterfaceId) → ty.Interface i ≡ ty.Interface j → i ≡ j
one_interface i j e = cc

module _ (c m : Collection) (uses : List InterfaceId → List (Name × ItemKind) → List (Name × UsedType)) where
  -- What an interface with uses is made of.
  record IsMade (i w : InterfaceId) (is : List InterfaceId) : Type 0 where
    pub before : Interface
    pub exports : List (Name × ItemKind)
    pub there : item_at m.interfaces i.0 ≡ Some before
    pub here : item_at m.interfaces w.0 ≡ Some (record { id = before.id; uses = uses is exports; exports = exports })
    pub own : (r : ResourceId) → own_name m (uses is exports) exports r ≡ own_name m before.uses before.exports r
    pub counted : length exports ≡ length before.exports
    pub others : (j : ℕ) (a b : Name × ItemKind) → slice_get before.exports j ≡ Some a → slice_get exports j ≡ Some b → is_instance a.1 ≡ false → b ≡ a
    pub instances : (j : ℕ) (a b : Name × ItemKind) → slice_get before.exports j ≡ Some a → slice_get exports j ≡ Some b → is_instance a.1 ≡ true → (b.0 ≡ a.0) × (is_instance b.1 ≡ true)
    pub inner : (j : ℕ) (n : Name) (k l : InterfaceId) → slice_get before.exports j ≡ Some (n, kind.Instance k) → slice_get exports j ≡ Some (n, kind.Instance l) → IsUsing c m uses k l (instances_of (listed_by c is n))

  made : (i w : InterfaceId) (is : List InterfaceId) → IsUsing c m uses i w is → IsMade i w is
  made i w is (with _ _ _ it exports there here own counted others instances inner) = record {
    before = it;
    exports = exports;
    there = there;
    here = here;
    own = own;
    counted = counted;
    others = others;
    instances = instances;
    inner = inner;
  }

  -- an export: the same one, or an instance with uses
  data IsExportOf (i : InterfaceId) (n : Name) (k : ItemKind) : Type 0 where
    same_one : Contains (interface_exports m i) (n, k) → IsExportOf i n k
    with_uses : (j l : InterfaceId) (js : List InterfaceId) → k ≡ kind.Instance l → Contains (interface_exports m i) (n, kind.Instance j) → IsUsing c m uses j l js → IsExportOf i n k

  exports_are : (i : InterfaceId) (it : Interface) → item_at m.interfaces i.0 ≡ Some it → interface_exports m i ≡ it.exports
  exports_are i it there = ap (λ (o : Option Interface). option_case o [] (λ x. x.exports)) there

  export_of : (i w : InterfaceId) (is : List InterfaceId) (x : IsMade i w is) (n : Name) (k : ItemKind) → Contains x.exports (n, k) → IsExportOf i n k
  export_of i w is x n k h =
      let b = in_at x.exports (n, k) h in
      let low = b.1 in
      let as_many = x.counted in
      let a = some-at x.before.exports b.0 (omega (arith, low, as_many)) in
      by b.0 a.0 a.1 b.2 (is_instance (a.0).1) refl
    where
      listed : (e : Name × ItemKind) → Contains x.before.exports e → Contains (interface_exports m i) e
      listed e h = subst (λ l. Contains l e) (sym (exports_are i x.before x.there)) h

      by : (j : ℕ) (a : Name × ItemKind) → slice_get x.before.exports j ≡ Some a → slice_get x.exports j ≡ Some (n, k) → (b : Bool) → is_instance a.1 ≡ b → IsExportOf i n k
      by j a at on false plain =
          let same : (n, k) ≡ a = x.others j a (n, k) at on plain in
          same_one (listed (n, k) (subst (λ e. Contains x.before.exports e) (sym same) (at_in x.before.exports j a at)))
      by j a at on true is_one =
          let names = x.instances j a (n, k) at on is_one in
          let old = the_instance a.1 is_one in
          let new = the_instance k names.1 in
          let this : a ≡ (n, kind.Instance old.0) = λ d. (sym names.0 d, old.1 d) in
          let there : slice_get x.before.exports j ≡ Some (n, kind.Instance old.0) = at ∙ ap Some this in
          with_uses old.0 new.0 (instances_of (listed_by c is n)) new.1 (listed (n, kind.Instance old.0) (at_in x.before.exports j (n, kind.Instance old.0) there))
          (x.inner j n old.0 new.0 there (on ∙ ap (λ y. Some (n, y)) new.1))

  -- ---- free resources

  free_before : (t : AnyType) (r : ResourceId) → IsFree m t r → (i w : InterfaceId) (is : List InterfaceId) → t ≡ ty.Interface w → IsUsing c m uses i w is → IsFree m (ty.Interface i) r
  free_before _ _ (free.itself q) i w is e using = cc
  free_before t r (in_part _ s _ there more) i w is e using = absurd (in_none s (subst (λ z. Contains (parts m z) s) e there))
  free_before _ r (in_export v it n k _ there listed own more) i w is e using =
      let x = made i w is using in
      let here = ap (λ (z : InterfaceId). item_at m.interfaces z.0) (sym (one_interface v w e)) ∙ there in
      let same : it ≡ record { id = x.before.id; uses = uses is x.exports; exports = x.exports } = one_some (item_at m.interfaces w.0) it _ here x.here in
      by x (subst (λ (z : Interface). own_name m z.uses z.exports r ≡ None) same own) (export_of i w is x n k (subst (λ (z : Interface). Contains z.exports (n, k)) same listed))
      (λ j l js same inner. free_before (kind_type k) r more j l js (ap kind_type same) inner)
    where
      in_before : (x : IsMade i w is) → own_name m (uses is x.exports) x.exports r ≡ None → (l : ItemKind) → Contains (interface_exports m i) (n, l) → IsFree m (kind_type l) r → IsFree m (ty.Interface i) r
      in_before x own l h is_free = in_export i x.before n l r x.there (subst (λ es. Contains es (n, l)) (exports_are i x.before x.there) h) (sym (x.own r) ∙ own) is_free

      by : (x : IsMade i w is) → own_name m (uses is x.exports) x.exports r ≡ None → IsExportOf i n k → ((j l : InterfaceId) (js : List InterfaceId) → k ≡ kind.Instance l → IsUsing c m uses j l js → IsFree m (ty.Interface j) r)
          → IsFree m (ty.Interface i) r
      by x own (same_one h) deeper = in_before x own k h more
      by x own (with_uses j l js same h inner) deeper = in_before x own (kind.Instance j) h (deeper j l js same inner)

  -- ---- faults

  listed_before : (i w : InterfaceId) (is : List InterfaceId) → IsUsing c m uses i w is → (n : Name) (k : ItemKind) → Contains (interface_exports m w) (n, k) → IsExportOf i n k
  listed_before i w is using n k h =
      let x = made i w is using in
      export_of i w is x n k (subst (λ l. Contains l (n, k)) (exports_are w (record { id = x.before.id; uses = uses is x.exports; exports = x.exports }) x.here) h)

  fault_before : (s t : AnyType) (g : WriteFault) → IsInside m s t → IsTypeFault m s g → (i w : InterfaceId) (is : List InterfaceId) → t ≡ ty.Interface w → IsUsing c m uses i w is → IsFaultInside m (ty.Interface i) g
  fault_before s t g (faults.itself _ _ same) h i w is e using =
      let f = of_interface m s g h w (same ∙ e) in
      by f.0 f.2 (f.1).0 (listed_before i w is using (f.1).0 f.0 (f.1).1)
    where
      by : (k : ItemKind) → listed_fault k ≡ Some g → (n : Name) → IsExportOf i n k → IsFaultInside m (ty.Interface i) g
      by k fault n (same_one h) = (ty.Interface i, faults.itself _ _ refl, faults.of_listed (ty.Interface i) g (k, (n, h), fault))
      by k fault n (with_uses j l js same h inner) = absurd (no_some g (sym (ap listed_fault same) ∙ fault))
  fault_before s t g (in_item _ _ k listed more) h i w is e using =
      by (λ j l js same inner. fault_before s (kind_type k) g more h j l js (ap kind_type same) inner) (listed_before i w is using listed.0 k (subst (λ z. Contains (listed_items m z) (listed.0, k)) e listed.1))
    where
      by : ((j l : InterfaceId) (js : List InterfaceId) → k ≡ kind.Instance l → IsUsing c m uses j l js → IsFaultInside m (ty.Interface j) g) → IsExportOf i listed.0 k → IsFaultInside m (ty.Interface i) g
      by within (same_one there) = (s, in_item s (ty.Interface i) k (listed.0, there) more, h)
      by within (with_uses j l js same there inner) =
          let deeper = within j l js same inner in
          (deeper.0, in_item deeper.0 (ty.Interface i) (kind.Instance j) (listed.0, there) deeper.1, deeper.2)

  -- ---- items

  pub kind_free : (is : List InterfaceId) (a b : ItemKind) → IsKindUsing c m uses is a b → (r : ResourceId) → IsFree m (kind_type b) r → IsFree m (kind_type a) r
  kind_free is (kind.Instance i) (kind.Instance w) using r h = free_before (ty.Interface w) r h i w is refl using
  kind_free is a b using r h = subst (λ k. IsFree m (kind_type k) r) using h

  pub kind_fault : (is : List InterfaceId) (a b : ItemKind) → IsKindUsing c m uses is a b → (g : WriteFault) → IsFaultInside m (kind_type b) g → IsFaultInside m (kind_type a) g
  kind_fault is (kind.Instance i) (kind.Instance w) using g h = fault_before h.0 (ty.Interface w) g h.1 h.2 i w is refl using
  kind_fault is a b using g h = subst (λ k. IsFaultInside m (kind_type k) g) using h

  pub kind_own : (is : List InterfaceId) (a b : ItemKind) → IsKindUsing c m uses is a b → (g : WriteFault) → import_fault b ≡ Some g → import_fault a ≡ Some g
  kind_own is (kind.Instance i) (kind.Instance w) using g h = absurd (no_some g h)
  kind_own is a b using g h = subst (λ k. import_fault k ≡ Some g) using h
