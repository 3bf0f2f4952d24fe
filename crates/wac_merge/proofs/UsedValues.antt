-- A used value type is what is listed under its name, where both are of one definition and have one content.
use Rattle.std.proofs.Common.{◌≡◌, inl, inr, ℕ, zero, suc, Bool, true, false, cond, List, [], ◌∷◌, map, slice_get, Option, Some, None, refl, sym, ap, ◌∙◌, subst}
use Rattle.std.specs.List.{AllZip}
use Rattle.std.proofs.lemmas.Bool.{cases_Bool, eq-eqb, false≢true}
use Rattle.std.proofs.lemmas.Option.{MatchOption-at_some}
use Rattle.wac_types_shapes.specs.primitives.Name.{Name, find_name, option_case, same_name}
use Rattle.wac_types_shapes.proofs.lemmas.shapes.Names.{same_name-true}
use Rattle.wac_types_shapes.specs.declared.shapes.component.DefinedType.{DefinedType}
use Rattle.wac_types_shapes.specs.declared.shapes.component.DefinedType.TheVariants as def
use Rattle.wac_types_shapes.specs.declared.shapes.component.DefinedTypeId.{DefinedTypeId}
use Rattle.wac_types_shapes.specs.declared.shapes.component.Interface.{Interface}
use Rattle.wac_types_shapes.specs.declared.shapes.component.InterfaceId.{InterfaceId}
use Rattle.wac_types_shapes.specs.declared.shapes.component.ItemKind.{ItemKind}
use Rattle.wac_types_shapes.specs.declared.shapes.component.ItemKind.TheVariants as kind
use Rattle.wac_types_shapes.specs.declared.shapes.component.ResourceId.{ResourceId}
use Rattle.wac_types_shapes.specs.declared.shapes.component.UsedType.{UsedType}
use Rattle.wac_types_shapes.specs.declared.shapes.component.ValueType.{ValueType}
use Rattle.wac_types_shapes.specs.declared.shapes.component.ValueType.TheVariants as val
use Rattle.wac_types_shapes.specs.declared.shapes.component.«Type».TheVariants as ty
use Rattle.wac_types_collection.specs.collection.Aliases.{aliased, handle_resolved, target_of, value_resolved, value_resolved_in}
use Rattle.wac_types_collection.specs.collection.Collection.{Collection, IsWellFormed, holds_value, interface_exports, item_at, size}
use Rattle.wac_types_collection.specs.collection.Uses.{is_listed_as_used, name_there, primitive_number, same_type_item, same_value, used_item}
use Rattle.wac_types_collection.proofs.lemmas.collection.Chains.{value_ends}
use Rattle.wac_types_collection.proofs.lemmas.collection.Ends.{end_no_alias}
use Rattle.wac_merge_classes.specs.entries.Classes.{Entry, by_names, is_instance, members}
use Rattle.wac_merge_classes.specs.terms.Became.{became}
use Rattle.wac_merge_classes.specs.terms.Merge.{IsMerge, Merged}
use Rattle.wac_merge_classes.specs.terms.Unions.{IsExport, listed_under, part}
use Rattle.wac_merge_classes.specs.terms.Values.{definition, listed_value}
use Rattle.wac_merge_classes.specs.terms.Writing.{IsWrittenAs, IsWrittenExport, written_at}
use Rattle.wac_merge_classes.specs.declared.terms.parts.Export.{Export}
use Rattle.wac_merge_classes.specs.declared.terms.parts.Part.{Part}
use Rattle.wac_merge_classes.proofs.lemmas.terms.Found.{get_map, no_some, one_some, some_same}
use Rattle.wac_merge_trees.proofs.lemmas.trees.UnionTreesOwn.{found_place}
use Rattle.wac_merge_trees.proofs.lemmas.trees.UnionTreesParts.{at_contains, contains_at}
use Rattle.wac_merge_trees.proofs.lemmas.trees.UnionTreesWritten.{written_name, written_other, written_own}
use Rattle.wac_merge_unions.specs.uses.KeptUses.{of_interface}
use Rattle.wac_merge_unions.specs.uses.United.{instances_of, listed_by}
use Rattle.wac_merge_resources.specs.values.NamedTypes.{ListsOne, named_type}
use Rattle.wac_merge_resources.specs.renaming.MadeOf.{other_name}
use Rattle.wac_merge_imports.specs.unions.OneId.{Became, HasOneIdEach, another, at_end, in_union, kind_values}
use Rattle.wac_merge.specs.Listed.{united_interfaces}
use Rattle.wac_merge.specs.UsedValues.{ListsDefinition}
use Rattle.wac_merge.proofs.ListedInOrder.{AreAll, IsPartOf, IsUnionOf, as-instance, bare-exports, before, exports-are, first-instances, first-is, members-like, of-class, type-listed, zip-back}

-- ---- the ends of aliases

abbrev is_defined : ValueType → Bool
is_defined (val.Defined d) = true
is_defined v = false

definition-is : (v : ValueType) (d : DefinedTypeId) → definition v ≡ Some d → v ≡ val.Defined d
definition-is (val.Defined e) d h = ap val.Defined (some_same e d h)
definition-is (val.Primitive p) d h = absurd (no_some d h)
definition-is (val.Own r) d h = absurd (no_some d h)
definition-is (val.Borrow r) d h = absurd (no_some d h)

aliased-other : (y : DefinedType) (e : DefinedTypeId) → aliased y ≡ Some (val.Defined e) → other_name y ≡ Some e
aliased-other (def.Alias v) e h = ap (λ z. other_name (def.Alias z)) (some_same v (val.Defined e) h)
aliased-other y e h = absurd (no_some (val.Defined e) h)

aliased-none : (y : DefinedType) → aliased y ≡ None → other_name y ≡ None
aliased-none (def.Alias v) h = absurd (no_some v (sym h))
aliased-none y h = refl

module _ (c : Collection) where
  another-is : (d e : DefinedTypeId) → target_of c (val.Defined d) ≡ Some (val.Defined e) → another c d ≡ Some e
  another-is d e h = by (item_at c.defined d.0) refl h where
    by : (o : Option DefinedType) → item_at c.defined d.0 ≡ o → option_case o None aliased ≡ Some (val.Defined e) → another c d ≡ Some e
    by None at h = absurd (no_some (val.Defined e) h)
    by (Some y) at h = ap (λ o. option_case o None other_name) at ∙ aliased-other y e h

  no-other : (d : DefinedTypeId) → target_of c (val.Defined d) ≡ None → another c d ≡ None
  no-other d h = by (item_at c.defined d.0) refl h where
    by : (o : Option DefinedType) → item_at c.defined d.0 ≡ o → option_case o None aliased ≡ None → another c d ≡ None
    by None at h = ap (λ o. option_case o None other_name) at
    by (Some y) at h = ap (λ o. option_case o None other_name) at ∙ aliased-none y h

-- what a value type became its end became
module _ (c : Collection) (B : ValueType → ValueType → Type 0) (a : DefinedTypeId) (w : ValueType) (step : (d e : DefinedTypeId) → another c d ≡ Some e → B (val.Defined d) w → B (val.Defined e) w) where
  plain-end : (n : ℕ) (t : ValueType) → is_defined t ≡ false → target_of c t ≡ None → value_resolved_in n c t ≡ val.Defined a → ⊥
  plain-end n t plain none is = false≢true (sym plain ∙ ap is_defined (sym (value_ends n c t none) ∙ is))

  next-end : (n : ℕ) (v t : ValueType) → ((u : ValueType) → B u w → value_resolved_in n c u ≡ val.Defined a → B (val.Defined a) w) → target_of c v ≡ Some t → B v w → value_resolved_in n c t ≡ val.Defined a → B (val.Defined a) w
  next-end n (val.Defined d) (val.Defined e) rest to h is = rest (val.Defined e) (step d e (another-is c d e to) h) is
  next-end n (val.Defined d) (val.Primitive p) rest to h is = absurd (plain-end n (val.Primitive p) refl refl is)
  next-end n (val.Defined d) (val.Own r) rest to h is = absurd (plain-end n (val.Own r) refl refl is)
  next-end n (val.Defined d) (val.Borrow r) rest to h is = absurd (plain-end n (val.Borrow r) refl refl is)
  next-end n (val.Primitive p) t rest to h is = absurd (no_some t to)
  next-end n (val.Own r) t rest to h is = absurd (no_some t to)
  next-end n (val.Borrow r) t rest to h is = absurd (no_some t to)

  one-end : (n : ℕ) (v : ValueType) (o : Option ValueType) → ((u : ValueType) → B u w → value_resolved_in n c u ≡ val.Defined a → B (val.Defined a) w) → target_of c v ≡ o → B v w → option_case o v (λ t. value_resolved_in n c t) ≡ val.Defined a → B (val.Defined a) w
  one-end n v None rest to h is = subst (λ z. B z w) is h
  one-end n v (Some t) rest to h is = next-end n v t rest to h is

  at-its-end : (n : ℕ) (v : ValueType) → B v w → value_resolved_in n c v ≡ val.Defined a → B (val.Defined a) w
  at-its-end zero v h is = subst (λ z. B z w) is h
  at-its-end (suc n) v h is = one-end n v (target_of c v) (at-its-end n) refl h is

value-itself : (v : ValueType) → same_value v v ≡ true
value-itself (val.Primitive p) = eq-eqb (primitive_number p) (primitive_number p) refl
value-itself (val.Own r) = eq-eqb r.0 r.0 refl
value-itself (val.Borrow r) = eq-eqb r.0 r.0 refl
value-itself (val.Defined d) = eq-eqb d.0 d.0 refl

-- ---- lists

-- what stands under a name in both stands at one position
same-place : {A B : Type 0} (R : Name × A → Name × B → Type 0) (named : (x : Name × A) (y : Name × B) → R x y → x.0 ≡ y.0) (xs : List (Name × A)) (ys : List (Name × B)) → AllZip R xs ys → (n : Name) (a : A) (b : B) → find_name xs n ≡ Some a → find_name ys n ≡ Some b
    → (i : ℕ) × (slice_get xs i ≡ Some (n, a)) × (slice_get ys i ≡ Some (n, b))
same-place R named [] ys z n a b x-at y-at = absurd (no_some a x-at)
same-place R named (x ∷ xs) [] z n a b x-at y-at = absurd z
same-place R named (x ∷ xs) (y ∷ ys) z n a b x-at y-at = elim (cases_Bool (same_name n x.0)) [
  | inl t ↦
      let name = same_name-true n x.0 t in
      let also : same_name n y.0 ≡ true = ap (same_name n) (sym (named x y z.0)) ∙ t in
      let first : x.1 ≡ a = some_same x.1 a (sym (ap (λ o. cond o (Some x.1) (find_name xs n)) t) ∙ x-at) in
      let second : y.1 ≡ b = some_same y.1 b (sym (ap (λ o. cond o (Some y.1) (find_name ys n)) also) ∙ y-at) in
      (0, ap Some (λ i. (sym name i, first i)), ap Some (λ i. (sym (name ∙ named x y z.0) i, second i)))
  | inr f ↦
      let also : same_name n y.0 ≡ false = ap (same_name n) (sym (named x y z.0)) ∙ f in
      let w = same-place R named xs ys z.1 n a b (sym (ap (λ o. cond o (Some x.1) (find_name xs n)) f) ∙ x-at) (sym (ap (λ o. cond o (Some y.1) (find_name ys n)) also) ∙ y-at) in
      (suc w.0, w.1, w.2)
]

pub zip-first : {A B : Type 0} (R : A → B → Type 0) (xs : List A) (ys : List B) → AllZip R xs ys → (i : ℕ) (x : A) → slice_get xs i ≡ Some x → (y : B) × (slice_get ys i ≡ Some y) × R x y
zip-first R [] ys z i x at = absurd (no_some x at)
zip-first R (a ∷ xs) [] z i x at = absurd z
zip-first R (a ∷ xs) (b ∷ ys) z zero x at = (b, refl, subst (λ t. R t b) (some_same a x at) z.0)
zip-first R (a ∷ xs) (b ∷ ys) z (suc i) x at = zip-first R xs ys z.1 i x at

pub all-instances-at : (ks : List ItemKind) → AreAll true ks → (j : ℕ) (i : InterfaceId) → slice_get ks j ≡ Some (kind.Instance i) → slice_get (instances_of ks) j ≡ Some i
all-instances-at [] each j i at = absurd (no_some (kind.Instance i) at)
all-instances-at (kind.Instance k ∷ ks) each zero i at = ap (λ z. slice_get (instances_of (z ∷ [])) 0) (some_same (kind.Instance k) (kind.Instance i) at)
all-instances-at (kind.Instance k ∷ ks) each (suc j) i at = all-instances-at ks (λ l x x-at. each (suc l) x x-at) j i at
all-instances-at (k ∷ ks) each j i at = absurd (false≢true (each 0 k refl))

-- ---- what was written

-- as a value type
module _ (c m : Collection) (g : ResourceId → ResourceId) (o : Option InterfaceId) (n : Name) (w : ValueType) where
  from-value : (k : ItemKind) → IsWrittenAs c m g o n k (kind.TypeItem (ty.Value w)) → (v : ValueType) × (k ≡ kind.TypeItem (ty.Value v))
  from-value (kind.Instance i) h = absurd h
  from-value (kind.TypeItem (ty.Resource r)) h = absurd h
  from-value (kind.TypeItem (ty.Func x)) h = absurd h
  from-value (kind.TypeItem (ty.Value v)) h = (v, refl)
  from-value (kind.TypeItem (ty.Interface i)) h = absurd h
  from-value (kind.TypeItem (ty.World x)) h = absurd h
  from-value (kind.TypeItem (ty.Module y)) h = absurd h
  from-value (kind.Func x) h = absurd h
  from-value (kind.Component x) h = absurd h
  from-value (kind.Module y) h = absurd h
  from-value (kind.Value v) h = absurd h

abbrev is_value_item : ItemKind → Bool
is_value_item (kind.TypeItem (ty.Value v)) = true
is_value_item k = false

pub held-interface : (m : Collection) (i : InterfaceId) (n : Name) (k : ItemKind) → find_name (interface_exports m i) n ≡ Some k → (it : Interface) × (item_at m.interfaces i.0 ≡ Some it) × (find_name it.exports n ≡ Some k)
held-interface m i n k at = by (item_at m.interfaces i.0) refl at where
  by : (o : Option Interface) → item_at m.interfaces i.0 ≡ o → find_name (option_case o [] (λ (it : Interface). it.exports)) n ≡ Some k → (it : Interface) × (item_at m.interfaces i.0 ≡ Some it) × (find_name it.exports n ≡ Some k)
  by None is at = absurd (no_some k at)
  by (Some it) is at = (it, is, at)

module _ (c : Collection) (es : List Entry) (m : Merged) (well : IsWellFormed c) (g : IsMerge by_names c es m) (h : HasOneIdEach c es m) where
  abbrev Mention : ValueType → ValueType → Type 0
  Mention = Became c m.types es h.bare h.us h.written.ws h.positions h.order

  -- what is listed became of a definition that is one named type with that of the member
  record IsListedOnce (d a : DefinedTypeId) : Type 0 where
    first : DefinedTypeId
    mention : Mention (val.Defined first) (val.Defined a)
    last : another c first ≡ None
    named : named_type h.t first ≡ named_type h.t d

  module _ (p : ℕ) (n : Name) (d a : DefinedTypeId) (l : ListsDefinition c es m p n d a) where
    abbrev kinds : List ItemKind
    kinds = map (λ (y : Entry). y.kind) (members by_names es l.entry.name)

    abbrev Item : ItemKind
    Item = kind.TypeItem (ty.Value (val.Defined a))

    all-instances : AreAll true kinds
    all-instances =
        let o = of-class c es m g h p l.entry l.at in
        subst (λ (ys : List Entry). AreAll true (map (λ (y : Entry). y.kind) ys)) o.alike (members-like c es m g h p l.entry l.at o true (ap is_instance l.is))

    union-is : IsUnionOf c es m g h l.interface (united_interfaces kinds)
    union-is = (as-instance c es m g h p l.entry l.at (of-class c es m g h p l.entry l.at) l.interface l.is).0

    module _ (u : IsUnionOf c es m g h l.interface (united_interfaces kinds)) where
      -- what the member lists is one named type with what stands under the name in the union
      lists-one : ListsOne c u.union.exports (interface_exports c l.of) h.t
      lists-one =
          let k = at_contains (members by_names es l.entry.name) l.member l.among in
          let there : slice_get kinds k.0 ≡ Some (kind.Instance l.of) = get_map (λ (y : Entry). y.kind) (members by_names es l.entry.name) k.0 l.member k.1 ∙ ap Some l.instance in
          let of : slice_get (united_interfaces kinds) k.0 ≡ Some l.of = ap (λ (is : List InterfaceId). slice_get is k.0) (sym (first-instances kinds all-instances)) ∙ all-instances-at kinds all-instances k.0 l.of there in
          let q = zip-first (IsPartOf h.ps) (united_interfaces kinds) u.union.parts.items u.parts k.0 l.of of in
          let x = part l.of (q.2).0 (q.2).1 in
          let y = h.unions.unions.placed u.number q.0 u.union u.there (contains_at u.union.parts.items k.0 q.0 q.1) in
          let in-union : x.union ≡ u.number = ap (λ (z : Part). z.union) (one_some (slice_get h.ps q.0) x y.0 (q.2).2 y.1) ∙ y.2 in
          h.united q.0 x u.union (q.2).2 (ap (slice_get h.us) in-union ∙ u.there)

      module _ (it : Interface) (it-at : item_at m.types.interfaces l.interface.0 ≡ Some it) (it-lists : find_name it.exports n ≡ Some Item) (e : Export) (found : find_name u.union.exports n ≡ Some e) where
        abbrev Exported : Name × Export → Name × ItemKind → Type 0
        Exported = IsWrittenExport c m.types h.ps h.bs h.f h.written.ws u.number

        from-first : (v : ValueType) → e.kind ≡ kind.TypeItem (ty.Value v) → IsListedOnce d a
        from-first v is =
            let x = MatchOption-at_some _ (λ (y : Export). IsExport c h.us h.ps u.number n (listed_under c h.ps u.union.parts.items n) y) e found (h.unions.unions.exported u.number u.union n u.there) in
            let first = first-is c es m g h l.interface (united_interfaces kinds) u it it-at n e Item x in
            let w = l.each e.kind (contains_at (listed_by c (united_interfaces kinds) n) 0 e.kind (ap (λ (ks : List ItemKind). slice_get ks 0) first)) in
            let ends : value_resolved c v ≡ val.Defined w.0 = definition-is (value_resolved c v) w.0 (ap (listed_value c) (sym is) ∙ w.1) in
            let place = same-place Exported (written_name c m.types h.us h.ps h.bs h.f h.written.ws u.number) u.union.exports (bare-exports c es m g h l.interface (united_interfaces kinds) u it it-at) (exports-are c es m g h l.interface (united_interfaces kinds) u it it-at) n e Item found (type-listed c es m g h l.interface (united_interfaces kinds) u it it-at n (ty.Value (val.Defined a)) it-lists) in
            let s = before c es m g h l.interface (united_interfaces kinds) u it it-at in
            let start : Mention v (val.Defined a) = in_union v (val.Defined a) u.number place.0 u.union u.bare s.0 (n, e) (n, Item) u.there u.written s.1 place.1 place.2
            (0, ap (λ k. slice_get (kind_values c k) 0) is, refl) in
            let f = found_place (interface_exports c l.of) n l.item l.listed in
            let one = lists-one f.0 n l.item f.1 e w.0 d found w.1 l.definition in
            record {
              first = w.0;
              mention = at-its-end c Mention w.0 (val.Defined a) (λ k end is before. at_end (val.Defined end) (val.Defined a) k end before is refl) (size c) v start ends;
              last = no-other c w.0 (subst (λ z. target_of c z ≡ None) ends (end_no_alias c well v (holds_value c v) refl));
              named = one.1 ∙ sym one.2;
            }

        from-export : Exported (n, e) (n, Item) → IsListedOnce d a
        from-export w = by e.is_own refl where
          by : (b : Bool) → e.is_own ≡ b → IsListedOnce d a
          by true own = absurd (false≢true (sym (ap is_value_item (written_own c m.types h.us h.ps h.bs h.f h.written.ws u.number n n e Item w own).2)))
          by false own =
              let v = from-value c m.types (became c h.ps h.bs h.f (Some e.part)) (written_at h.written.ws e.inner) n (val.Defined a) e.kind (written_other c m.types h.us h.ps h.bs h.f h.written.ws u.number n n e Item w own) in
              from-first v.0 v.1

    listed-once : IsListedOnce d a
    listed-once =
        let u = union-is in
        let it = held-interface m.types l.interface n Item l.merged in
        let z = zip-back (IsWrittenExport c m.types h.ps h.bs h.f h.written.ws u.number) (written_name c m.types h.us h.ps h.bs h.f h.written.ws u.number) u.union.exports (bare-exports c es m g h l.interface (united_interfaces kinds) u it.0 it.1) (exports-are c es m g h l.interface (united_interfaces kinds) u it.0 it.1) n Item (type-listed c es m g h l.interface (united_interfaces kinds) u it.0 it.1 n (ty.Value (val.Defined a)) it.2) in
        from-export u it.0 it.1 it.2 z.0 z.1 z.2

  pub used-value : (p q : ℕ) (n : Name) (u : UsedType) (d a b : DefinedTypeId) (x : DefinedType) (lists : ListsDefinition c es m p n d a) (there : ListsDefinition c es m q (name_there n u) d b)
      → item_at m.types.defined a.0 ≡ Some x → item_at m.types.defined b.0 ≡ Some x → is_listed_as_used m.types (interface_exports m.types lists.interface) (n, of_interface there.interface u) ≡ true
  used-value p q n u d a b x lists there at_a at_b =
      let f = listed-once p n d a lists in
      let s = listed-once q (name_there n u) d b there in
      let one : a ≡ b = h.one f.first s.first a b x f.mention s.mention f.last s.last (f.named ∙ sym s.named) at_a at_b in
      ap (λ o. option_case o true (λ k. option_case (used_item m.types n (of_interface there.interface u)) false (λ used. same_type_item m.types k used))) lists.merged
      ∙ (ap (λ o. option_case o false (λ used. same_type_item m.types (kind.TypeItem (ty.Value (val.Defined a))) used)) there.merged
      ∙ (ap (λ z. same_type_item m.types (kind.TypeItem (ty.Value (val.Defined a))) (kind.TypeItem (ty.Value (val.Defined z)))) (sym one)
      ∙ value-itself (handle_resolved m.types (value_resolved m.types (val.Defined a)))))
