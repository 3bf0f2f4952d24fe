-- The interfaces of a merge list what those list that they unite, in order of first appearance.
use Rattle.std.proofs.Common.{◌≡◌, inl, inr, ℕ, suc, Bool, true, false, List, [], ◌∷◌, ◌++◌, fold, map, length, take, slice_get, ◌&&◌, ◌<◌, Option, Some, None, refl, sym, ap, ◌∙◌, subst, arith}
use Rattle.std.specs.Prelude.{◌⊎◌}
use Rattle.std.specs.List.{AllZip}
use Rattle.std.specs.Option.{MatchOption}
use Rattle.std.proofs.lemmas.Bool.{and_parts, false≢true}
use Rattle.std.proofs.lemmas.List.{append_assoc, append-nil}
use Rattle.std.proofs.lemmas.Option.{MatchOption-at_some, slice_get_within}
use Rattle.wac_types_shapes.specs.primitives.Name.{Name, find_name, option_case, same_name}
use Rattle.wac_types_shapes.proofs.lemmas.shapes.Names.{same_name-true}
use Rattle.wac_types_shapes.specs.declared.shapes.component.Interface.{Interface}
use Rattle.wac_types_shapes.specs.declared.shapes.component.InterfaceId.{InterfaceId}
use Rattle.wac_types_shapes.specs.declared.shapes.component.ResourceId.{ResourceId}
use Rattle.wac_types_shapes.specs.declared.shapes.component.UsedType.{UsedType}
use Rattle.wac_types_shapes.specs.declared.shapes.component.ItemKind.{ItemKind}
use Rattle.wac_types_shapes.specs.declared.shapes.component.ItemKind.TheVariants as kind
use Rattle.wac_types_shapes.specs.declared.shapes.component.«Type».{«Type» as AnyType}
use Rattle.wac_types_shapes.specs.declared.shapes.component.«Type».TheVariants as ty
use Rattle.wac_types_collection.specs.collection.Collection.{Collection, interface_exports, item_at}
use Rattle.wac_types_collection.specs.subtyping.Subtype.{IsSubtype}
use Rattle.wac_merge_classes.specs.entries.Classes.{Entry, by_names, canonical, class_names, is_instance, members, names_instance, same_class}
use Rattle.wac_merge_classes.proofs.lemmas.entries.Canonical.{members-alike}
use Rattle.wac_merge_classes.proofs.lemmas.entries.ClassFacts.{class-refl}
use Rattle.wac_merge_classes.proofs.lemmas.entries.Lists.{any-found, some-at}
use Rattle.wac_merge_classes.specs.terms.Became.{became, whole_in}
use Rattle.wac_merge_classes.specs.terms.Merge.{IsMerge, Merged, names_behind}
use Rattle.wac_merge_classes.specs.terms.Unions.{IsExport, IsInner, instances_in, listed_under, part, part_lists, united}
use Rattle.wac_merge_classes.specs.terms.Writing.{IsWrittenAs, IsWrittenExport, written_at}
use Rattle.wac_merge_classes.specs.declared.terms.parts.Export.{Export}
use Rattle.wac_merge_classes.specs.declared.terms.parts.Part.{Part}
use Rattle.wac_merge_classes.specs.declared.terms.parts.Union.{Union}
use Rattle.wac_merge_classes.proofs.lemmas.terms.Found.{get_map, no_some, one_some, some_same}
use Rattle.wac_merge_imports.proofs.lemmas.fitting.MergedBindingsClasses.{filter-has}
use Rattle.wac_merge_trees.proofs.lemmas.trees.UnionTreesOwn.{zip_none, zip_some}
use Rattle.wac_merge_trees.proofs.lemmas.trees.UnionTreesParts.{all_at, zip_map}
use Rattle.wac_merge_trees.proofs.lemmas.trees.UnionTreesWritten.{written_name, written_other, written_own}
use Rattle.wac_merge_unions.specs.uses.KeptUses.{instances}
use Rattle.wac_merge_unions.specs.uses.United.{instances_of, listed_by}
use Rattle.wac_merge_unions.specs.uses.Using.{IsKindUsing, IsUsing, uses_among}
use Rattle.wac_merge_unions.proofs.lemmas.uses.ClassFolds.{mapped_at}
use Rattle.wac_merge_unions.proofs.lemmas.uses.NestedBinds.{exports-named, found-using, using-instance, using-there}
use Rattle.wac_merge_imports.specs.unions.MergedClasses.{class_roots, with_root}
use Rattle.wac_merge_imports.specs.unions.OneId.{HasOneIdEach}
use Rattle.wac_edges.proofs.ArrangedLaws.{at_in, in_contains}
use Rattle.wac_merge_agreement.proofs.lemmas.agreement.OrderLaws.{order_each}
use Rattle.wac_merge.specs.Listed.{AreListedInOrder, Unites, as_import, inside, interface_in, united_interfaces}
use Rattle.wac_merge.proofs.OrderOnce.{order_only}
use Rattle.wac_merge.proofs.UsedBefore.{canonical-class, instances-alike}

-- ---- interfaces of items

abbrev pub AreAll : Bool → List ItemKind → Type 0
AreAll b ks = (j : ℕ) (k : ItemKind) → slice_get ks j ≡ Some k → is_instance k ≡ b

-- instances are united, all of them
all-united : (ks : List ItemKind) (before : List InterfaceId) → AreAll true ks → fold with_root before ks ≡ before ++ instances_of ks
all-united [] before each = sym (append-nil before)
all-united (kind.Instance i ∷ ks) before each = all-united ks (before ++ i ∷ []) (λ j k at. each (suc j) k at) ∙ append_assoc before (i ∷ []) (instances_of ks)
all-united (k ∷ ks) before each = absurd (false≢true (each 0 k refl))

pub first-instances : (ks : List ItemKind) → AreAll true ks → instances_of ks ≡ united_interfaces ks
first-instances [] each = refl
first-instances (kind.Instance i ∷ ks) each = refl
first-instances (k ∷ ks) each = absurd (false≢true (each 0 k refl))

-- of type items the first
plain-root : (i : InterfaceId) (k : ItemKind) → is_instance k ≡ false → with_root (i ∷ []) k ≡ i ∷ []
plain-root i (kind.Instance j) h = absurd (false≢true (sym h))
plain-root i (kind.TypeItem (ty.Resource r)) h = refl
plain-root i (kind.TypeItem (ty.Func f)) h = refl
plain-root i (kind.TypeItem (ty.Value v)) h = refl
plain-root i (kind.TypeItem (ty.Interface j)) h = refl
plain-root i (kind.TypeItem (ty.World w)) h = refl
plain-root i (kind.TypeItem (ty.Module y)) h = refl
plain-root i (kind.Func f) h = refl
plain-root i (kind.Component w) h = refl
plain-root i (kind.Module y) h = refl
plain-root i (kind.Value v) h = refl

one-united : (i : InterfaceId) (ks : List ItemKind) → AreAll false ks → fold with_root (i ∷ []) ks ≡ i ∷ []
one-united i [] each = refl
one-united i (k ∷ ks) each = ap (λ is. fold with_root is ks) (plain-root i k (each 0 k refl)) ∙ one-united i ks (λ j l at. each (suc j) l at)

-- an item in which there is an interface
in-kind : (k : ItemKind) (v : InterfaceId) → interface_in k ≡ Some v → (k ≡ kind.Instance v) ⊎ (k ≡ kind.TypeItem (ty.Interface v))
in-kind (kind.Instance i) v e = inl (ap kind.Instance (some_same i v e))
in-kind (kind.TypeItem (ty.Interface i)) v e = inr (ap (λ x. kind.TypeItem (ty.Interface x)) (some_same i v e))
in-kind (kind.TypeItem (ty.Resource r)) v e = absurd (no_some v e)
in-kind (kind.TypeItem (ty.Func f)) v e = absurd (no_some v e)
in-kind (kind.TypeItem (ty.Value w)) v e = absurd (no_some v e)
in-kind (kind.TypeItem (ty.World w)) v e = absurd (no_some v e)
in-kind (kind.TypeItem (ty.Module y)) v e = absurd (no_some v e)
in-kind (kind.Func f) v e = absurd (no_some v e)
in-kind (kind.Component w) v e = absurd (no_some v e)
in-kind (kind.Module y) v e = absurd (no_some v e)
in-kind (kind.Value w) v e = absurd (no_some v e)

-- ---- what was written

module _ (c m : Collection) (g : ResourceId → ResourceId) (o : Option InterfaceId) (n : Name) (j : InterfaceId) where
  -- as an instance
  from-instance : (k : ItemKind) → IsWrittenAs c m g o n k (kind.Instance j) → (i : InterfaceId) × (k ≡ kind.Instance i) × (o ≡ Some j)
  from-instance (kind.Instance i) h = (i, refl, h)
  from-instance (kind.TypeItem (ty.Resource r)) h = absurd h
  from-instance (kind.TypeItem (ty.Func x)) h = absurd h
  from-instance (kind.TypeItem (ty.Value v)) h = absurd h
  from-instance (kind.TypeItem (ty.Interface i)) h = absurd h
  from-instance (kind.TypeItem (ty.World w)) h = absurd h
  from-instance (kind.TypeItem (ty.Module y)) h = absurd h
  from-instance (kind.Func x) h = absurd h
  from-instance (kind.Component w) h = absurd h
  from-instance (kind.Module y) h = absurd h
  from-instance (kind.Value v) h = absurd h

  -- as an interface
  from-interface : (k : ItemKind) → IsWrittenAs c m g o n k (kind.TypeItem (ty.Interface j)) → (i : InterfaceId) × (k ≡ kind.TypeItem (ty.Interface i)) × (o ≡ Some j)
  from-interface (kind.Instance i) h = absurd h
  from-interface (kind.TypeItem (ty.Resource r)) h = absurd h
  from-interface (kind.TypeItem (ty.Func x)) h = absurd h
  from-interface (kind.TypeItem (ty.Value v)) h = absurd h
  from-interface (kind.TypeItem (ty.Interface i)) h = (i, refl, h)
  from-interface (kind.TypeItem (ty.World w)) h = absurd h
  from-interface (kind.TypeItem (ty.Module y)) h = absurd h
  from-interface (kind.Func x) h = absurd h
  from-interface (kind.Component w) h = absurd h
  from-interface (kind.Module y) h = absurd h
  from-interface (kind.Value v) h = absurd h

-- an interface stayed what it was
using-interface : (c m : Collection) (uses : List InterfaceId → List (Name × ItemKind) → List (Name × UsedType)) (is : List InterfaceId) (b : ItemKind) (t : AnyType) → IsKindUsing c m uses is b (kind.TypeItem t) → b ≡ kind.TypeItem t
using-interface c m uses is (kind.Instance i) t h = absurd (false≢true (ap is_instance h))
using-interface c m uses is (kind.TypeItem s) t h = sym h
using-interface c m uses is (kind.Func f) t h = sym h
using-interface c m uses is (kind.Component x) t h = sym h
using-interface c m uses is (kind.Module y) t h = sym h
using-interface c m uses is (kind.Value v) t h = sym h

-- an interface is itself, or the same with uses
abbrev pub IsItselfUsing : Collection → Collection → InterfaceId → InterfaceId → Type 0
IsItselfUsing c m i w = (i ≡ w) ⊎ ((uses : List InterfaceId → List (Name × ItemKind) → List (Name × UsedType)) × (is : List InterfaceId) × IsUsing c m uses i w is)

-- and so an item
abbrev IsItemUsing : Collection → Collection → ItemKind → ItemKind → Type 0
IsItemUsing c m k l = (k ≡ l) ⊎ ((uses : List InterfaceId → List (Name × ItemKind) → List (Name × UsedType)) × (is : List InterfaceId) × IsKindUsing c m uses is k l)

item-type : (c m : Collection) (k : ItemKind) (t : AnyType) → IsItemUsing c m k (kind.TypeItem t) → k ≡ kind.TypeItem t
item-type c m k t (inl same) = same
item-type c m k t (inr (uses, is, h)) = using-interface c m uses is k t h

item-instance : (c m : Collection) (k : ItemKind) (w : InterfaceId) → IsItemUsing c m k (kind.Instance w) → (i : InterfaceId) × (k ≡ kind.Instance i) × IsItselfUsing c m i w
item-instance c m k w (inl same) = (w, same, inl refl)
item-instance c m k w (inr (uses, is, h)) = let i = using-instance c m uses is k w h in (i.0, i.1, inr (uses, is, i.2))

-- an interface in an item
item-in : (c m : Collection) (k l : ItemKind) (w : InterfaceId) → IsItemUsing c m k l → interface_in l ≡ Some w → (i : InterfaceId) × (interface_in k ≡ Some i) × IsItselfUsing c m i w
item-in c m k l w h inner = elim (in-kind l w inner) [
  | inl is ↦ let i = item-instance c m k w (subst (IsItemUsing c m k) is h) in (i.0, ap interface_in i.1, i.2)
  | inr is ↦ (w, ap interface_in (item-type c m k (ty.Interface w) (subst (IsItemUsing c m k) is h)), inl refl)
]

-- one interface lists what another does, with uses inside
pub record IsListedAs (c m : Collection) (y it : Interface) : Type 0 where
  pub names : map (λ (e : Name × ItemKind). e.0) it.exports ≡ map (λ (e : Name × ItemKind). e.0) y.exports
  pub found : (n : Name) (l : ItemKind) → find_name it.exports n ≡ Some l → (k : ItemKind) × (find_name y.exports n ≡ Some k) × IsItemUsing c m k l

listed-as : (c m : Collection) (i w : InterfaceId) → IsItselfUsing c m i w → (it : Interface) → item_at m.interfaces w.0 ≡ Some it → (y : Interface) × (item_at m.interfaces i.0 ≡ Some y) × IsListedAs c m y it
listed-as c m i w (inl same) it at = (it, ap (λ (x : InterfaceId). item_at m.interfaces x.0) same ∙ at, record { names = refl; found = λ n l found. (l, found, inl refl) })
listed-as c m i w (inr (uses, is, h)) it at =
    let x = using-there c m uses i w is h in (
      x.0,
      x.2,
      record {
        names = sym (ap (λ o. map (λ (e : Name × ItemKind). e.0) (option_case o [] (λ (y : Interface). y.exports))) at)
            ∙ (exports-named c m uses i w is h ∙ ap (λ o. map (λ (e : Name × ItemKind). e.0) (option_case o [] (λ (y : Interface). y.exports))) x.2);
        found = λ n l found.
            let f = found-using c m uses i w is it n l h at found in
            let one : f.0 ≡ x.0 = one_some (item_at m.interfaces i.0) f.0 x.0 f.2 x.2 in
            (f.1, ap (λ (y : Interface). find_name y.exports n) (sym one) ∙ f.3, inr (uses, instances_of (listed_by c is n), f.4));
      },
    )

-- ---- the parts of unions

-- a part is of an interface
abbrev pub IsPartOf : List Part → InterfaceId → ℕ → Type 0
IsPartOf ps i q = (o : Option ℕ) × (u : ℕ) × (slice_get ps q ≡ Some (part i o u))

module _ (c : Collection) (ps : List Part) where
  part-exports : (i : InterfaceId) (q : ℕ) → IsPartOf ps i q → interface_exports c i ≡ part_lists c ps q
  part-exports i q w = sym (ap (λ o. option_case o [] (λ (y : Part). interface_exports c y.interface)) w.2)

  -- what the parts list under a name is what their interfaces do
  parts-list : (n : Name) (is : List InterfaceId) (qs : List ℕ) → AllZip (IsPartOf ps) is qs → listed_by c is n ≡ map (λ l. l.1) (listed_under c ps qs n)
  parts-list n [] [] z = refl
  parts-list n [] (q ∷ qs) z = absurd z
  parts-list n (i ∷ is) [] z = absurd z
  parts-list n (i ∷ is) (q ∷ qs) z =
      ap (λ xs. option_case (find_name xs n) (listed_by c is n) (λ k. k ∷ listed_by c is n)) (part-exports i q z.0)
      ∙ by (find_name (part_lists c ps q) n) (parts-list n is qs z.1)
    where
      by : (o : Option ItemKind) → listed_by c is n ≡ map (λ l. l.1) (listed_under c ps qs n)
          → option_case o (listed_by c is n) (λ k. k ∷ listed_by c is n) ≡ map (λ l. l.1) (option_case o (listed_under c ps qs n) (λ k. (q, k) ∷ listed_under c ps qs n))
      by None rest = rest
      by (Some k) rest = ap (λ l. k ∷ l) rest

  root-parts : (u : ℕ) (is : List InterfaceId) (qs : List ℕ) → AllZip (λ i q. slice_get ps q ≡ Some (part i None u)) is qs → AllZip (IsPartOf ps) is qs
  root-parts u [] [] z = tt
  root-parts u [] (q ∷ qs) z = absurd z
  root-parts u (i ∷ is) [] z = absurd z
  root-parts u (i ∷ is) (q ∷ qs) z = ((None, u, z.0), root-parts u is qs z.1)

  inner-parts : (u : ℕ) (xs : List (ℕ × InterfaceId)) (qs : List ℕ) → AllZip (λ x q. slice_get ps q ≡ Some (part x.1 (Some x.0) u)) xs qs → AllZip (IsPartOf ps) (map (λ x. x.1) xs) qs
  inner-parts u [] [] z = tt
  inner-parts u [] (q ∷ qs) z = absurd z
  inner-parts u (x ∷ xs) [] z = absurd z
  inner-parts u (x ∷ xs) (q ∷ qs) z = ((Some x.0, u, z.0), inner-parts u xs qs z.1)

instances-in : (ls : List (ℕ × ItemKind)) → instances_of (map (λ l. l.1) ls) ≡ map (λ x. x.1) (instances_in ls)
instances-in [] = refl
instances-in ((p, kind.Instance i) ∷ ls) = ap (λ is. i ∷ is) (instances-in ls)
instances-in ((p, k) ∷ ls) = instances-in ls

-- what stands under a name in the second stands under it in the first
pub zip-back : {A B : Type 0} (R : Name × A → Name × B → Type 0) (named : (x : Name × A) (y : Name × B) → R x y → x.0 ≡ y.0) (xs : List (Name × A)) (ys : List (Name × B)) → AllZip R xs ys → (n : Name) (b : B) → find_name ys n ≡ Some b
    → (a : A) × (find_name xs n ≡ Some a) × R (n, a) (n, b)
zip-back {A} {B} R named xs ys z n b at = by (find_name xs n) refl where
  by : (o : Option A) → find_name xs n ≡ o → (a : A) × (find_name xs n ≡ Some a) × R (n, a) (n, b)
  by None is = absurd (no_some b (sym (zip_none R named xs ys z n is) ∙ at))
  by (Some a) is =
      let w = zip_some R named xs ys z n a is in
      (a, is, subst (λ y. R (n, a) (n, y)) (one_some (find_name ys n) w.0 b w.1 at) w.2)

-- ---- interfaces of the merge and the unions that they are

module _ (c : Collection) (es : List Entry) (m : Merged) (g : IsMerge by_names c es m) (h : HasOneIdEach c es m) where
  -- an interface of the merge lists what the union of interfaces became
  pub record IsUnionOf (w : InterfaceId) (is : List InterfaceId) : Type 0 where
    pub number : ℕ
    pub union : Union
    pub there : slice_get h.us number ≡ Some union
    pub parts : AllZip (IsPartOf h.ps) is union.parts.items
    pub bare : InterfaceId
    pub written : slice_get h.written.ws number ≡ Some bare
    pub itself : IsItselfUsing c m.types bare w

  module _ (w : InterfaceId) (is : List InterfaceId) (a : IsUnionOf w is) (it : Interface) (at : item_at m.types.interfaces w.0 ≡ Some it) where
    abbrev pub IsExported : Name × Export → Name × ItemKind → Type 0
    IsExported = IsWrittenExport c m.types h.ps h.bs h.f h.written.ws a.number

    -- what it listed before uses were added
    pub before : (y : Interface) × (item_at m.types.interfaces (a.bare).0 ≡ Some y) × IsListedAs c m.types y it
    before = listed-as c m.types a.bare w a.itself it at

    abbrev pub bare-exports : List (Name × ItemKind)
    bare-exports = (before.0).exports

    pub exports-are : AllZip IsExported a.union.exports bare-exports
    exports-are =
        let x = h.written.written.written a.number a.union a.there in
        let bare : x.0 ≡ a.bare = one_some (slice_get h.written.ws a.number) x.0 a.bare x.2 a.written in
        let one : x.1 ≡ before.0 = one_some (item_at m.types.interfaces (a.bare).0) x.1 before.0 (ap (λ (i : InterfaceId). item_at m.types.interfaces i.0) (sym bare) ∙ x.3) before.1 in
        subst (AllZip IsExported a.union.exports) (ap (λ (y : Interface). y.exports) one) x.6

    -- type items are what they were
    pub type-listed : (n : Name) (t : AnyType) → find_name it.exports n ≡ Some (kind.TypeItem t) → find_name bare-exports n ≡ Some (kind.TypeItem t)
    type-listed n t found = let f = before.2.found n (kind.TypeItem t) found in f.1 ∙ ap Some (item-type c m.types f.0 t f.2)

    names-are : map (λ e. e.0) it.exports ≡ names_behind [] (map (interface_exports c) is)
    names-are =
        before.2.names
        ∙ (sym (zip_map IsExported (λ e. e.0) (λ e. e.0) (λ x y z. z.0) a.union.exports bare-exports exports-are)
        ∙ (h.unions.unions.ordered a.number a.union a.there
        ∙ ap (names_behind []) (sym (zip_map (IsPartOf h.ps) (interface_exports c) (part_lists c h.ps) (part-exports c h.ps) is a.union.parts.items a.parts))))

    -- so does one that it lists
    module _ (n : Name) (e : Export) (k : ItemKind) (listed : IsExport c h.us h.ps a.number n (listed_under c h.ps a.union.parts.items n) e) where
      pub first-is : listed_by c is n ≡ e.kind ∷ map (λ l. l.1) listed.more
      first-is = parts-list c h.ps n is a.union.parts.items a.parts ∙ ap (map (λ l. l.1)) listed.first

      inner-of : (v w : InterfaceId) → IsItselfUsing c m.types v w → (x : ℕ × InterfaceId) (xs : List (ℕ × InterfaceId)) → united (listed_under c h.ps a.union.parts.items n) ≡ x ∷ xs → written_at h.written.ws e.inner ≡ Some v
          → united_interfaces (listed_by c is n) ≡ map (λ y. y.1) (x ∷ xs) → IsUnionOf w (united_interfaces (listed_by c is n))
      inner-of v w itself x xs all given lists =
          let i : IsInner h.us h.ps a.number (x ∷ xs) e.inner = subst (λ ls. IsInner h.us h.ps a.number ls e.inner) all listed.inner in
          record {
            number = i.0;
            union = i.1;
            there = i.4;
            parts = subst (λ is. AllZip (IsPartOf h.ps) is (i.1).parts.items) (sym lists) (inner-parts c h.ps i.0 (x ∷ xs) (i.1).parts.items i.5);
            bare = v;
            written = ap (written_at h.written.ws) (sym i.2) ∙ given;
            itself = itself;
          }

      inner-instance : (v w : InterfaceId) → IsItselfUsing c m.types v w → (i : InterfaceId) → e.kind ≡ kind.Instance i → written_at h.written.ws e.inner ≡ Some v → IsUnionOf w (united_interfaces (listed_by c is n))
      inner-instance v w itself i is-kind given =
          inner-of v w itself (e.part, i) (instances_in listed.more) (ap united listed.first ∙ ap (λ z. united ((e.part, z) ∷ listed.more)) is-kind) given
          (ap united_interfaces first-is ∙ (ap (λ z. united_interfaces (z ∷ map (λ l. l.1) listed.more)) is-kind ∙ ap (λ js. i ∷ js) (instances-in listed.more)))

      inner-interface : (v w : InterfaceId) → IsItselfUsing c m.types v w → (i : InterfaceId) → e.kind ≡ kind.TypeItem (ty.Interface i) → written_at h.written.ws e.inner ≡ Some v → IsUnionOf w (united_interfaces (listed_by c is n))
      inner-interface v w itself i is-kind given =
          inner-of v w itself (e.part, i) [] (ap united listed.first ∙ ap (λ z. united ((e.part, z) ∷ listed.more)) is-kind) given
          (ap united_interfaces first-is ∙ ap (λ z. united_interfaces (z ∷ map (λ l. l.1) listed.more)) is-kind)

      inner-is : (v : InterfaceId) → interface_in k ≡ Some v → IsExported (n, e) (n, k) → (u : InterfaceId) → IsItselfUsing c m.types v u → IsUnionOf u (united_interfaces (listed_by c is n))
      inner-is v inner w u itself = by e.is_own refl where
        none : (r : ResourceId) → k ≡ kind.TypeItem (ty.Resource r) → ⊥
        none r is-k = no_some v (sym (ap interface_in is-k) ∙ inner)

        by : (b : Bool) → e.is_own ≡ b → IsUnionOf u (united_interfaces (listed_by c is n))
        by true own = let o = written_own c m.types h.us h.ps h.bs h.f h.written.ws a.number n n e k w own in absurd (none o.0 o.2)
        by false own =
            let o = written_other c m.types h.us h.ps h.bs h.f h.written.ws a.number n n e k w own in
            let r = became c h.ps h.bs h.f (Some e.part) in
            elim (in-kind k v inner) [
              | inl is-k ↦
                  let f = from-instance c m.types r (written_at h.written.ws e.inner) n v e.kind (subst (λ z. IsWrittenAs c m.types r (written_at h.written.ws e.inner) n e.kind z) is-k o) in
                  inner-instance v u itself f.0 f.1 f.2
              | inr is-k ↦
                  let f = from-interface c m.types r (written_at h.written.ws e.inner) n v e.kind (subst (λ z. IsWrittenAs c m.types r (written_at h.written.ws e.inner) n e.kind z) is-k o) in
                  inner-interface v u itself f.0 f.1 f.2
            ]

    inside-is : (n : Name) (k : ItemKind) (v : InterfaceId) → find_name it.exports n ≡ Some k → interface_in k ≡ Some v → IsUnionOf v (united_interfaces (listed_by c is n))
    inside-is n k v found inner =
        let f = before.2.found n k found in
        let i = item-in c m.types f.0 k v f.2 inner in
        let z = zip-back IsExported (written_name c m.types h.us h.ps h.bs h.f h.written.ws a.number) a.union.exports bare-exports exports-are n f.0 f.1 in
        let x = MatchOption-at_some _ (λ e. IsExport c h.us h.ps a.number n (listed_under c h.ps a.union.parts.items n) e) z.0 z.1 (h.unions.unions.exported a.number a.union n a.there) in
        inner-is n z.0 f.0 x i.0 i.1 z.2 v i.2

  -- ---- imports

  -- the class of an import, and what became of it before uses were added
  pub record IsOfClass (p : ℕ) (x : Entry) : Type 0 where
    pub number : ℕ
    pub class : Name
    pub ordered : slice_get g.order p ≡ Some number
    pub placed : slice_get h.order p ≡ Some number
    pub known : slice_get (class_names by_names es) number ≡ Some class
    pub named : x.name ≡ canonical by_names es class
    pub alike : members by_names es class ≡ members by_names es x.name
    pub first : Entry
    pub bare : slice_get h.bare p ≡ Some first
    pub using : IsKindUsing c m.types (uses_among by_names c es m.types (take p m.imports)) (instances (members by_names es first.name)) first.kind x.kind

  pub of-class : (p : ℕ) (x : Entry) → slice_get m.imports p ≡ Some x → IsOfClass p x
  of-class p x at =
      let within = slice_get_within m.imports p x at in
      let count = g.count in
      let k = some-at g.order p (omega (arith, within, count)) in
      let low : k.0 < length (class_names by_names es) = (order_each by_names es c g.order g.written k.0).0 (in_contains g.order k.0 (at_in g.order p k.0 k.1)) in
      let class = some-at (class_names by_names es) k.0 low in
      let name : x.name ≡ canonical by_names es class.0 = g.names p k.0 class.0 x k.1 class.1 at in
      let one : same_class by_names es class.0 x.name ≡ true = subst (λ z. same_class by_names es class.0 z ≡ true) (sym name) (canonical-class es class.0) in
      let counted = h.using.counted in
      let b = some-at h.bare p (omega (arith, within, counted)) in
      record {
        number = k.0;
        class = class.0;
        ordered = k.1;
        placed = ap (λ (o : List ℕ). slice_get o p) (sym (order_only c es g.order g.written h.order h.ordered)) ∙ k.1;
        known = class.1;
        named = name;
        alike = members-alike es class.0 x.name es one;
        first = b.0;
        bare = b.1;
        using = h.using.kinds p b.0 x b.1 at;
      }

  module _ (p : ℕ) (x : Entry) (at : slice_get m.imports p ≡ Some x) (o : IsOfClass p x) where
    abbrev kinds : List ItemKind
    kinds = map (λ (y : Entry). y.kind) (members by_names es o.class)

    -- an interface lists what the union of the class became
    abbrev pub IsOfUnion : InterfaceId → Type 0
    IsOfUnion w = (u : IsUnionOf w (united_interfaces (map (λ (y : Entry). y.kind) (members by_names es x.name)))) × (u.number ≡ o.number)

    pub members-like : (b : Bool) → is_instance x.kind ≡ b → AreAll b kinds
    members-like b is j k k-at =
        let e = mapped_at (λ (y : Entry). y.kind) (members by_names es o.class) j k k-at in
        let sub = all_at (λ (member : Entry). IsSubtype m.types x.kind c member.kind) (members by_names es o.class) j e.0 (g.subtypes p o.number o.class x o.ordered o.known at) e.1 in
        ap is_instance (sym e.2) ∙ (instances-alike m.types c x.kind e.0.kind sub ∙ is)

    -- the union of the class
    as-union : (w bare : InterfaceId) → slice_get h.written.ws o.number ≡ Some bare → class_roots es o.class ≡ united_interfaces kinds
        → IsItselfUsing c m.types bare w → IsOfUnion w
    as-union w bare written roots itself =
        let low = slice_get_within (class_names by_names es) o.number o.class o.known in
        let counted = h.unions.rooted.counted in
        let r = some-at h.unions.roots o.number (omega (arith, low, counted)) in
        let u = h.unions.unions.rooted o.number r.0 r.1 in
        let all = ap (λ (ys : List Entry). united_interfaces (map (λ (y : Entry). y.kind) ys)) o.alike in
        let are = h.unions.rooted.each o.number o.class r.0 o.known r.1 ∙ (roots ∙ all) in (
          record {
            number = o.number;
            union = u.0;
            there = u.1;
            parts = subst (λ is. AllZip (IsPartOf h.ps) is (u.0).parts.items) are (root-parts c h.ps o.number r.0 (u.0).parts.items u.2);
            bare = bare;
            written = written;
            itself = itself;
          },
          refl,
        )

    abbrev Became : ItemKind → Entry → Option ResourceId → Type 0
    Became k e q = MatchOption q (IsWrittenAs c m.types (became c h.ps h.bs h.f None) (slice_get h.written.ws o.number) e.name e.kind k) (λ r. k ≡ kind.TypeItem (ty.Resource r))

    from-given : (i : InterfaceId) (e : Entry) (q : Option ResourceId) → Became (kind.Instance i) e q → slice_get h.written.ws o.number ≡ Some i
    from-given i e None w = (from-instance c m.types (became c h.ps h.bs h.f None) (slice_get h.written.ws o.number) e.name i e.kind w).2
    from-given i e (Some r) w = absurd (false≢true (sym (ap is_instance w)))

    pub as-instance : (w : InterfaceId) → x.kind ≡ kind.Instance w → IsOfUnion w
    as-instance w is =
        let uses = uses_among by_names c es m.types (take p m.imports) in
        let js = instances (members by_names es (o.first).name) in
        let b = using-instance c m.types uses js (o.first).kind w (subst (IsKindUsing c m.types uses js (o.first).kind) is o.using) in
        let z = h.written.imported.each p o.number o.class o.first o.placed o.known o.bare in
        let given = from-given b.0 z.1 (whole_in h.f o.number) (subst (λ k. Became k z.1 (whole_in h.f o.number)) b.1 z.6) in
        let all = members-like true (ap is_instance is) in
        as-union w b.0 given (all-united kinds [] all ∙ first-instances kinds all) (inr (uses, js, b.2))

    -- ---- type items

    member-at : (i : ℕ) (e : Entry) → slice_get es i ≡ Some e → same_class by_names es o.class e.name ≡ true → (j : ℕ) × (slice_get (members by_names es o.class) j ≡ Some e)
    member-at i e e-at one = filter-has (λ (y : Entry). same_class by_names es o.class y.name) es i e e-at one

    none-named : AreAll false kinds → names_instance es o.class ≡ false
    none-named plain = by (names_instance es o.class) refl where
      by : (b : Bool) → names_instance es o.class ≡ b → b ≡ false
      by false t = refl
      by true t =
          let w = any-found (λ (e : Entry). same_name e.name o.class && is_instance e.kind) es t in
          let both = and_parts (same_name (w.1).name o.class) (is_instance (w.1).kind) w.3 in
          let named = same_name-true (w.1).name o.class both.0 in
          let j = member-at w.0 w.1 w.2 (subst (λ n. same_class by_names es o.class n ≡ true) (sym named) (class-refl by_names es o.class)) in
          absurd (false≢true (sym (plain j.0 (w.1).kind (get_map (λ (y : Entry). y.kind) (members by_names es o.class) j.0 w.1 j.1)) ∙ both.1))

    interface-given : (w : InterfaceId) (e : Entry) (q : Option ResourceId) → Became (kind.TypeItem (ty.Interface w)) e q → (i : InterfaceId) × (e.kind ≡ kind.TypeItem (ty.Interface i)) × (slice_get h.written.ws o.number ≡ Some w)
    interface-given w e None z = from-interface c m.types (became c h.ps h.bs h.f None) (slice_get h.written.ws o.number) e.name w e.kind z
    interface-given w e (Some r) z = absurd (no_some w (sym (ap interface_in z)))

    as-interface : (w : InterfaceId) → x.kind ≡ kind.TypeItem (ty.Interface w) → IsOfUnion w
    as-interface w is =
        let z = h.written.imported.each p o.number o.class o.first o.placed o.known o.bare in
        let j = member-at z.0 z.1 z.2 z.3 in
        by (members by_names es o.class) refl j.0 z.1 j.1
      where
        plain : AreAll false kinds
        plain = members-like false (ap is_instance is)

        bare : (o.first).kind ≡ kind.TypeItem (ty.Interface w)
        bare =
            let uses = uses_among by_names c es m.types (take p m.imports) in
            let js = instances (members by_names es (o.first).name) in
            using-interface c m.types uses js (o.first).kind (ty.Interface w) (subst (IsKindUsing c m.types uses js (o.first).kind) is o.using)

        by : (xs : List Entry) → members by_names es o.class ≡ xs → (j : ℕ) (y : Entry) → slice_get xs j ≡ Some y → IsOfUnion w
        by [] all j y y-at = absurd (no_some y y-at)
        by (e ∷ more) all j y y-at =
            let f = h.written.imported.firsts p o.number o.class o.first e more o.placed o.known o.bare (none-named plain) all in
            let given = interface-given w e (whole_in h.f o.number) (subst (λ k. Became k e (whole_in h.f o.number)) bare f) in
            let lists : kinds ≡ kind.TypeItem (ty.Interface given.0) ∷ map (λ (y : Entry). y.kind) more = ap (map (λ (y : Entry). y.kind)) all ∙ ap (λ k. k ∷ map (λ (y : Entry). y.kind) more) given.1 in
            let rest : AreAll false (map (λ (y : Entry). y.kind) more) = λ l k k-at. plain (suc l) k (ap (λ (ks : List ItemKind). slice_get ks (suc l)) lists ∙ k-at) in
            as-union w w given.2 (ap (fold with_root []) lists ∙ (one-united given.0 (map (λ (y : Entry). y.kind) more) rest ∙ sym (ap united_interfaces lists))) (inl refl)

    import-is : (w : InterfaceId) → interface_in x.kind ≡ Some w → IsOfUnion w
    import-is w inner = elim (in-kind x.kind w inner) [
      | inl is ↦ as-instance w is
      | inr is ↦ as-interface w is
    ]

  united-is : (w : InterfaceId) (is : List InterfaceId) → Unites by_names c es m w is → IsUnionOf w is
  united-is w is (as_import p e x at inner) = (import-is p e at (of-class p e at) w inner).0
  united-is w is (inside x v js it n k around at found inner) = inside-is x js (united-is x js around) it at n k w found inner

  pub listed-in-order : AreListedInOrder by_names c es m
  listed-in-order w is it united at = names-are w is (united-is w is united) it at
