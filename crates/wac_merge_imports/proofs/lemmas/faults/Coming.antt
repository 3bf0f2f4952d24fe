-- What is free in the interface that a union became is what something free in the interface of a part became.
use Rattle.std.proofs.Common.{◌≡◌, ℕ, suc, Bool, true, false, List, [], ◌∷◌, length, slice_get, Contains, Option, Some, None, refl, sym, ap, ◌∙◌, subst, arith, inl, inr}
use Rattle.std.specs.List.{AllZip}
use Rattle.std.proofs.lemmas.Option.{MatchOption-at_some}
use Rattle.wac_types_shapes.specs.primitives.Name.{Name, find_name, option_case}
use Rattle.wac_types_shapes.specs.shapes.Kinds.{kind_type}
use Rattle.wac_types_shapes.specs.declared.shapes.component.Interface.{Interface}
use Rattle.wac_types_shapes.specs.declared.shapes.component.InterfaceId.{InterfaceId}
use Rattle.wac_types_shapes.specs.declared.shapes.component.ItemKind.{ItemKind}
use Rattle.wac_types_shapes.specs.declared.shapes.component.ItemKind.TheVariants as kind
use Rattle.wac_types_shapes.specs.declared.shapes.component.ResourceId.{ResourceId}
use Rattle.wac_types_shapes.specs.declared.shapes.component.«Type».{«Type» as AnyType}
use Rattle.wac_types_shapes.specs.declared.shapes.component.«Type».TheVariants as ty
use Rattle.wac_types_collection.specs.collection.Collection.{Collection, holds_type, interface_exports, item_at}
use Rattle.wac_types_collection.specs.collection.Held.{resolved, source_of}
use Rattle.wac_types_collection.specs.collection.Bound.{own_name}
use Rattle.wac_types_collection.proofs.lemmas.wide.Members.{in_none, in_first, in_rest, in_parts, at_in, in_at}
use Rattle.wac_encode_faults.specs.Free.{parts, IsFree, in_part, in_export}
use Rattle.wac_encode_faults.specs.Free as free
use Rattle.wac_merge_classes.specs.declared.terms.fresh.Fresh.{Fresh}
use Rattle.wac_merge_classes.specs.declared.terms.parts.Export.{Export}
use Rattle.wac_merge_classes.specs.declared.terms.parts.Part.{Part}
use Rattle.wac_merge_classes.specs.declared.terms.parts.Union.{Union}
use Rattle.wac_merge_classes.specs.entries.Bindings.{ClassBindings}
use Rattle.wac_merge_classes.specs.entries.Classes.{Entry}
use Rattle.wac_merge_classes.specs.terms.Became.{became, became_in_class, became_to, own_in, own_of_part}
use Rattle.wac_merge_classes.specs.terms.Renaming.{AreEnds, IsRenamed}
use Rattle.wac_merge_classes.specs.terms.Unions.{IsExport, IsInner, AreParts, instances_in, listed_under, part, part_lists, united}
use Rattle.wac_merge_classes.specs.terms.Writing.{IsAliasOf, IsWrittenAs, IsWrittenExport, written_at}
use Rattle.wac_merge_classes.proofs.lemmas.entries.Opening.{below}
use Rattle.wac_merge_classes.proofs.lemmas.terms.Found.{find_at, no_some, one_some}
use Rattle.wac_merge_trees.proofs.lemmas.trees.UnionTreesHeld.{interface_there, listed_held}
use Rattle.wac_merge_trees.proofs.lemmas.trees.UnionTreesOwn.{alias_resolved}
use Rattle.wac_merge_trees.proofs.lemmas.trees.UnionTreesWritten.{written_other, written_own}
use Rattle.wac_merge_imports.proofs.lemmas.fitting.Fitting.{AreMerged}
use Rattle.wac_merge_imports.proofs.lemmas.fitting.FittingOwn.{itself-no-alias, no-value, zip-right}
use Rattle.wac_merge_imports.proofs.lemmas.fitting.FittingParts.{own-listed, part-owns}
use Rattle.wac_merge_imports.proofs.lemmas.fitting.FittingSteps.{enough, in-part-around, in-part-own}
use Rattle.wac_merge_imports.proofs.lemmas.faults.FreeTrees.{IsOfValues, end_of, renamed_free}
use Rattle.wac_merge_imports.proofs.lemmas.faults.ListedOnce.{export_found}

-- ---- what is free in a type of a form

module _ (c : Collection) where
  -- nothing in a world or a core module
  pub none_of_world : (t : AnyType) (r : ResourceId) → IsFree c t r → ((q : ResourceId) → t ≡ ty.Resource q → ⊥) → ((i : InterfaceId) → t ≡ ty.Interface i → ⊥) → parts c t ≡ [] → ⊥
  none_of_world _ _ (free.itself q) other never none = other q refl
  none_of_world t r (in_part _ u _ there more) other never none = in_none u (subst (λ z. Contains z u) none there)
  none_of_world _ r (in_export i it n k _ there listed own more) other never none = never i refl

  -- an interface's own resource is not free in it
  pub not_own : (t : AnyType) (r : ResourceId) → IsFree c t r → (i : InterfaceId) (it : Interface) → t ≡ ty.Interface i → item_at c.interfaces i.0 ≡ Some it → own_name c it.uses it.exports r ≡ None
  not_own _ _ (free.itself q) i it e at = cc
  not_own t r (in_part _ u _ there more) i it e at = absurd (in_none u (subst (λ z. Contains (parts c z) u) e there))
  not_own _ r (in_export j jt n k _ there listed own more) i it e at =
      let same : jt ≡ it = one_some (item_at c.interfaces j.0) jt it there (ap (λ (x : InterfaceId). item_at c.interfaces x.0) (one j i e) ∙ at) in
      subst (λ (x : Interface). own_name c x.uses x.exports r ≡ None) same own
    where
      one : (a b : InterfaceId) → ty.Interface a ≡ ty.Interface b → a ≡ b
      one a b e = cc

-- ---- what is listed by a part

-- the parts that export a name
pub listed_from : (c : Collection) (ps : List Part) (qs : List ℕ) (n : Name) (e : ℕ × ItemKind) → Contains (listed_under c ps qs n) e → Contains qs e.0 × (find_name (part_lists c ps e.0) n ≡ Some e.1)
listed_from c ps [] n e h = absurd (in_none e h)
listed_from c ps (p ∷ qs) n e h = by (λ more. let x = listed_from c ps qs n e more in (in_rest p e.0 qs x.0, x.1)) (find_name (part_lists c ps p) n) refl h where
  by : (Contains (listed_under c ps qs n) e → Contains (p ∷ qs) e.0 × (find_name (part_lists c ps e.0) n ≡ Some e.1))
      → (o : Option ItemKind) → find_name (part_lists c ps p) n ≡ o → Contains (option_case o (listed_under c ps qs n) (λ k. (p, k) ∷ listed_under c ps qs n)) e
      → Contains (p ∷ qs) e.0 × (find_name (part_lists c ps e.0) n ≡ Some e.1)
  by later None is h = later h
  by later (Some k) is h = elim (in_parts (p, k) e (listed_under c ps qs n) h) [
    | inl same ↦ (subst (λ (x : ℕ × ItemKind). Contains (p ∷ qs) x.0) (sym same) (in_first p qs), subst (λ (x : ℕ × ItemKind). find_name (part_lists c ps x.0) n ≡ Some x.1) (sym same) is)
    | inr more ↦ later more
  ]

-- an item of the interface, whether an instance of it or a type item
abbrev pub IsOfInterface : ItemKind → InterfaceId → Type 0
IsOfInterface k i = kind_type k ≡ ty.Interface i

instances_from : (ls : List (ℕ × ItemKind)) (e : ℕ × InterfaceId) → Contains (instances_in ls) e → (k : ItemKind) × Contains ls (e.0, k) × IsOfInterface k e.1
instances_from [] e h = absurd (in_none e h)
instances_from ((p, kind.Instance i) ∷ ls) e h = elim (in_parts (p, i) e (instances_in ls) h) [
  | inl same ↦ (kind.Instance e.1, subst (λ (x : ℕ × InterfaceId). Contains ((p, kind.Instance i) ∷ ls) (x.0, kind.Instance x.1)) (sym same) (in_first (p, kind.Instance i) ls), refl)
  | inr more ↦ let x = instances_from ls e more in (x.0, in_rest (p, kind.Instance i) (e.0, x.0) ls x.1, x.2)
]
instances_from ((p, kind.TypeItem t) ∷ ls) e h = let x = instances_from ls e h in (x.0, in_rest (p, kind.TypeItem t) (e.0, x.0) ls x.1, x.2)
instances_from ((p, kind.Func t) ∷ ls) e h = let x = instances_from ls e h in (x.0, in_rest (p, kind.Func t) (e.0, x.0) ls x.1, x.2)
instances_from ((p, kind.Component t) ∷ ls) e h = let x = instances_from ls e h in (x.0, in_rest (p, kind.Component t) (e.0, x.0) ls x.1, x.2)
instances_from ((p, kind.Module t) ∷ ls) e h = let x = instances_from ls e h in (x.0, in_rest (p, kind.Module t) (e.0, x.0) ls x.1, x.2)
instances_from ((p, kind.Value t) ∷ ls) e h = let x = instances_from ls e h in (x.0, in_rest (p, kind.Value t) (e.0, x.0) ls x.1, x.2)

united_from : (ls : List (ℕ × ItemKind)) (e : ℕ × InterfaceId) → Contains (united ls) e → (k : ItemKind) × Contains ls (e.0, k) × IsOfInterface k e.1
united_from [] e h = absurd (in_none e h)
united_from ((p, kind.Instance i) ∷ ls) e h = instances_from ((p, kind.Instance i) ∷ ls) e h
united_from ((p, kind.TypeItem (ty.Interface i)) ∷ ls) e h = elim (in_parts (p, i) e [] h) [
  | inl same ↦ (kind.TypeItem (ty.Interface e.1), subst (λ (x : ℕ × InterfaceId). Contains ((p, kind.TypeItem (ty.Interface i)) ∷ ls) (x.0, kind.TypeItem (ty.Interface x.1))) (sym same) (in_first (p, kind.TypeItem (ty.Interface i)) ls), refl)
  | inr none ↦ absurd (in_none e none)
]
united_from ((p, kind.TypeItem (ty.Resource t)) ∷ ls) e h = absurd (in_none e h)
united_from ((p, kind.TypeItem (ty.Func t)) ∷ ls) e h = absurd (in_none e h)
united_from ((p, kind.TypeItem (ty.Value t)) ∷ ls) e h = absurd (in_none e h)
united_from ((p, kind.TypeItem (ty.World t)) ∷ ls) e h = absurd (in_none e h)
united_from ((p, kind.TypeItem (ty.Module t)) ∷ ls) e h = absurd (in_none e h)
united_from ((p, kind.Func t) ∷ ls) e h = absurd (in_none e h)
united_from ((p, kind.Component t) ∷ ls) e h = absurd (in_none e h)
united_from ((p, kind.Module t) ∷ ls) e h = absurd (in_none e h)
united_from ((p, kind.Value t) ∷ ls) e h = absurd (in_none e h)

module _ (c m : Collection) (es : List Entry) (roots : List (List InterfaceId)) (us : List Union) (ps : List Part) (bs : ClassBindings) (f : Fresh) (ids : List (Option Name)) (ws : List InterfaceId)
    (merged : AreMerged c m es roots us ps bs f ids ws) (ends : (o : Option ℕ) → AreEnds c m (became c ps bs f o)) where
  -- What is free in the interface of a part of a union, and what it became there.
  pub record Comes (u : ℕ) (q : ResourceId) : Type 0 where
    pub place : ℕ
    pub part_there : Part
    pub at : slice_get ps place ≡ Some part_there
    pub of_union : part_there.union ≡ u
    pub resource : ResourceId
    pub is_free : IsFree c (ty.Interface part_there.interface) resource
    pub becomes : became c ps bs f (Some place) resource ≡ q

  -- the union does not bind the resource
  abbrev IsOutside : ℕ → ResourceId → Type 0
  IsOutside u q = (l : Name) → own_in f u l ≡ Some q → ⊥

  pub exports_are : (o : ℕ) (y : Part) (it : Interface) → slice_get ps o ≡ Some y → item_at c.interfaces (y.interface).0 ≡ Some it → part_lists c ps o ≡ it.exports
  exports_are o y it at here = ap (λ (z : Option Part). option_case z [] (λ x. interface_exports c x.interface)) at ∙ ap (λ (z : Option Interface). option_case z [] (λ x. x.exports)) here

  pub name_is : (y : Part) (it : Interface) (s : ResourceId) → item_at c.interfaces (y.interface).0 ≡ Some it → own_of_part c y s ≡ own_name c it.uses it.exports s
  name_is y it s here = ap (λ (z : Option Interface). option_case z None (λ x. own_name c x.uses x.exports s)) here

  pub part_interface : (o : ℕ) (y : Part) → slice_get ps o ≡ Some y → (it : Interface) × (item_at c.interfaces (y.interface).0 ≡ Some it)
  part_interface o y at = interface_there c y.interface (merged.unions.held o y at)

  -- an item that a part lists
  module _ (o : ℕ) (y : Part) (at : slice_get ps o ≡ Some y) (n : Name) (k : ItemKind) (listed : find_name (part_lists c ps o) n ≡ Some k) where
    pub item_held : holds_type c (kind_type k) ≡ true
    item_held =
        let it = part_interface o y at in
        listed_held c merged.source y.interface it.0 n k it.1 (ap (λ xs. find_name xs n) (sym (exports_are o y it.0 at it.1)) ∙ listed)

    from_item : (s q : ResourceId) → IsFree c (kind_type k) s → became c ps bs f (Some o) s ≡ q → IsOutside y.union q → Comes y.union q
    from_item s q is becomes outside = let it = part_interface o y at in by it.0 it.1 where
      by : (it : Interface) → item_at c.interfaces (y.interface).0 ≡ Some it → Comes y.union q
      by it here = own (own_name c it.uses it.exports s) refl where
        own : (l : Option Name) → own_name c it.uses it.exports s ≡ l → Comes y.union q
        own None none =
            let w = find_at it.exports n k (ap (λ xs. find_name xs n) (sym (exports_are o y it at here)) ∙ listed) in
            record {
              place = o;
              part_there = y;
              at = at;
              of_union = refl;
              resource = s;
              is_free = in_export y.interface it n k s here (at_in it.exports w.0 (n, k) w.1) none is;
              becomes = becomes;
            }
        own (Some l) named =
            let new = part-owns c ps merged.listed o y it at here m roots us bs f merged.unions merged.fresh s l named in
            absurd (outside l (new.1 ∙ ap Some (sym (in-part-own c ps bs f o y at o s new.0 l (name_is y it s here ∙ named) new.1) ∙ becomes)))

  -- around an inner part
  around_inner : (p o : ℕ) (y : Part) → slice_get ps p ≡ Some y → y.outer ≡ Some o → (s : ResourceId) → own_of_part c y s ≡ None → became c ps bs f (Some p) s ≡ became c ps bs f (Some o) s
  around_inner p o y at outer s none =
      let below = merged.unions.around p o y at outer in
      in-part-around c ps bs f p y at p s none
      ∙ ap (λ (w : Option ℕ). option_case w (became_in_class bs f y.union s) (λ i. became_to p c ps bs f i s)) outer
      ∙ enough c ps bs f merged.unions.around p (suc o) o below (omega arith) s

  module _ (u : ℕ) (x : Union) (at : slice_get us u ≡ Some x) (n : Name) where
    abbrev listed : List (ℕ × ItemKind)
    listed = listed_under c ps x.parts.items n

    pub listed_part : (e : ℕ × ItemKind) → Contains listed e → (y : Part) × (slice_get ps e.0 ≡ Some y) × (y.union ≡ u) × (find_name (part_lists c ps e.0) n ≡ Some e.1)
    listed_part e h =
        let l = listed_from c ps x.parts.items n e h in
        let p = merged.unions.placed u e.0 x at l.0 in
        (p.0, p.1, p.2, l.1)

    comes_from : (e : ℕ × ItemKind) → Contains listed e → (s q : ResourceId) → IsFree c (kind_type e.1) s → became c ps bs f (Some e.0) s ≡ q → IsOutside u q → Comes u q
    comes_from e h s q is becomes outside =
        let p = listed_part e h in
        subst (λ z. Comes z q) p.2 (from_item e.0 p.0 p.1 n e.1 p.3 s q is becomes (subst (λ z. IsOutside z q) (sym p.2) outside))

    module _ (e : Export) (export : IsExport c us ps u n listed e) where
      -- the item that it was made of
      pub first_listed : Contains listed (e.part, e.kind)
      first_listed = subst (λ l. Contains l (e.part, e.kind)) (sym export.first) (in_first (e.part, e.kind) export.more)

      -- the union of what lies in it
      pub inner_union : (j : InterfaceId) → written_at ws e.inner ≡ Some j → (v : ℕ) × (z : Union) × (slice_get us v ≡ Some z) × (slice_get ws v ≡ Some j) × AreParts ps v (united listed) z.parts.items
      inner_union j given = go (united listed) refl export.inner where
        go : (is : List (ℕ × InterfaceId)) → united listed ≡ is → IsInner us ps u is e.inner
            → (v : ℕ) × (z : Union) × (slice_get us v ≡ Some z) × (slice_get ws v ≡ Some j) × AreParts ps v (united listed) z.parts.items
        go [] same none = absurd (no_some j (sym (ap (written_at ws) none) ∙ given))
        go (i ∷ is) same w = (w.0, w.1, w.4, sym (ap (written_at ws) w.2) ∙ given, subst (λ l. AreParts ps w.0 l (w.1).parts.items) (sym same) w.5)

      -- the item that each of its parts is the interface of
      pub outer_item : (v : ℕ) (z : Union) → slice_get us v ≡ Some z → AreParts ps v (united listed) z.parts.items → (p : ℕ) (y : Part) → slice_get ps p ≡ Some y → y.union ≡ v
          → (o : ℕ) × (k : ItemKind) × Contains listed (o, k) × IsOfInterface k y.interface × (y.outer ≡ Some o)
      outer_item v z at_v are p y at_p of =
          let w = merged.unions.within p y at_p in
          let one : w.0 ≡ z = one_some (slice_get us v) w.0 z (ap (slice_get us) (sym of) ∙ w.1) at_v in
          let place = in_at z.parts.items p (subst (λ (t : Union). Contains t.parts.items p) one w.2) in
          let i = zip-right (λ (i : ℕ × InterfaceId) (q : ℕ). slice_get ps q ≡ Some (part i.1 (Some i.0) v)) (united listed) z.parts.items place.0 p are place.2 in
          let this : y ≡ part (i.0).1 (Some (i.0).0) v = one_some (slice_get ps p) y (part (i.0).1 (Some (i.0).0) v) at_p i.2 in
          let from = united_from listed i.0 (at_in (united listed) place.0 i.0 i.1) in
          ((i.0).0, from.0, from.1, from.2 ∙ ap (λ (t : Part). ty.Interface t.interface) (sym this), ap (λ (t : Part). t.outer) this)

      -- What is free in what lies in the union under this name.
      from_inner : (j : InterfaceId) → written_at ws e.inner ≡ Some j → (q : ResourceId) → IsOutside u q → ((v : ℕ) (y : Union) → slice_get us v ≡ Some y → slice_get ws v ≡ Some j → Comes v q) → Comes u q
      from_inner j given q outside inner =
          let v = inner_union j given in
          let comes = inner v.0 v.1 v.2 v.3 in
          let y = comes.part_there in
          let s = comes.resource in
          let from = outer_item v.0 v.1 v.2 v.4 comes.place y comes.at comes.of_union in
          let it = part_interface comes.place y comes.at in
          let none = name_is y it.0 s it.1 ∙ not_own c (ty.Interface y.interface) s comes.is_free y.interface it.0 refl it.1 in
          let around = around_inner comes.place from.0 y comes.at from.4 s none in
          comes_from (from.0, from.1) from.2 s q (subst (λ t. IsFree c t s) (sym from.3) comes.is_free) (sym around ∙ comes.becomes) outside

      abbrev becoming : ResourceId → ResourceId
      becoming = became c ps bs f (Some e.part)

      module _ (q : ResourceId) (outside : IsOutside u q) where
        abbrev Deeper : ItemKind → Type 0
        Deeper k = (j : InterfaceId) → kind_type k ≡ ty.Interface j → (v : ℕ) (y : Union) → slice_get us v ≡ Some y → slice_get ws v ≡ Some j → Comes v q

        from_alias : (r a : ResourceId) → e.kind ≡ kind.TypeItem (ty.Resource r) → IsAliasOf m n (becoming (resolved c r)) a → IsFree m (ty.Resource a) q → Comes u q
        from_alias r a is w more =
            let there = subst (λ k. Contains listed (e.part, k)) is first_listed in
            let p = listed_part (e.part, kind.TypeItem (ty.Resource r)) there in
            let held = below r.0 (length c.resources) (item_held e.part p.0 p.1 n (kind.TypeItem (ty.Resource r)) p.3) in
            let end = ends (Some e.part) r held in
            let plain = no-value (source_of (slice_get m.resources (becoming (resolved c r)).0)) (itself-no-alias m merged.target (becoming (resolved c r)) end.0 end.1) in
            let through : resolved m a ≡ becoming (resolved c r) = alias_resolved m a (becoming (resolved c r)) _ w.there w.is refl plain in
            comes_from (e.part, kind.TypeItem (ty.Resource r)) there (resolved c r) q (free.itself r) (sym (end_of m (ty.Resource a) q more a refl ∙ through)) outside

        from_values : (k : ItemKind) (t : AnyType) → e.kind ≡ k → IsOfValues (kind_type k) → IsOfValues t → IsRenamed c m becoming (kind_type k) t → IsFree m t q → Comes u q
        from_values k t is of_k of_t w more =
            let r = renamed_free c m merged.target becoming (kind_type k) t w of_k of_t q more in
            comes_from (e.part, k) (subst (λ z. Contains listed (e.part, z)) is first_listed) r.0 q r.1 r.2 outside

        from_written : (a k : ItemKind) → e.kind ≡ a → IsWrittenAs c m becoming (written_at ws e.inner) n a k → IsFree m (kind_type k) q → Deeper k → Comes u q
        from_written (kind.TypeItem (ty.Resource r)) (kind.TypeItem (ty.Resource a)) is w more deeper = from_alias r a is w more
        from_written (kind.TypeItem (ty.Interface i)) (kind.TypeItem (ty.Interface j)) is w more deeper = from_inner j w q outside (deeper j refl)
        from_written (kind.TypeItem (ty.Func g)) (kind.TypeItem (ty.Func h)) is w more deeper = from_values (kind.TypeItem (ty.Func g)) (ty.Func h) is tt tt w more
        from_written (kind.TypeItem (ty.Value g)) (kind.TypeItem (ty.Value h)) is w more deeper = from_values (kind.TypeItem (ty.Value g)) (ty.Value h) is tt tt w more
        from_written (kind.TypeItem (ty.World g)) (kind.TypeItem (ty.World h)) is w more deeper = absurd (none_of_world m (ty.World h) q more (λ r e. cc) (λ i e. cc) refl)
        from_written (kind.TypeItem (ty.Module g)) (kind.TypeItem (ty.Module h)) is w more deeper = absurd (none_of_world m (ty.Module h) q more (λ r e. cc) (λ i e. cc) refl)
        from_written (kind.Func g) (kind.Func h) is w more deeper = from_values (kind.Func g) (ty.Func h) is tt tt w more
        from_written (kind.Instance i) (kind.Instance j) is w more deeper = from_inner j w q outside (deeper j refl)
        from_written (kind.Component g) (kind.Component h) is w more deeper = absurd (none_of_world m (ty.World h) q more (λ r e. cc) (λ i e. cc) refl)
        from_written (kind.Module g) (kind.Module h) is w more deeper = absurd (none_of_world m (ty.Module h) q more (λ r e. cc) (λ i e. cc) refl)
        from_written (kind.Value g) (kind.Value h) is w more deeper = from_values (kind.Value g) (ty.Value h) is tt tt w more
        from_written a k is w more deeper = absurd w

  one_interface : (i j : InterfaceId) → ty.Interface i ≡ ty.Interface j → i ≡ j
  one_interface i j e = cc

  -- ---- what a union became

  -- what an export of the interface was made of
  pub export_of : (u : ℕ) (x : Union) → slice_get us u ≡ Some x → (w : InterfaceId) → slice_get ws u ≡ Some w → (it : Interface) → item_at m.interfaces w.0 ≡ Some it → (n : Name) (k : ItemKind) → Contains it.exports (n, k)
      → (o : Name) × (e : Export) × IsExport c us ps u o (listed_under c ps x.parts.items o) e × IsWrittenExport c m ps bs f ws u (o, e) (n, k)
  export_of u x at w given it here n k listed =
      let made = merged.written.written u x at in
      let same_w : made.0 ≡ w = one_some (slice_get ws u) made.0 w made.2 given in
      let same : made.1 ≡ it = one_some (item_at m.interfaces w.0) made.1 it (ap (λ (z : InterfaceId). item_at m.interfaces z.0) (sym same_w) ∙ made.3) here in
      let zip : AllZip (IsWrittenExport c m ps bs f ws u) x.exports it.exports = subst (λ (z : Interface). AllZip (IsWrittenExport c m ps bs f ws u) x.exports z.exports) same made.6 in
      let place = in_at it.exports (n, k) listed in
      let from = zip-right (IsWrittenExport c m ps bs f ws u) x.exports it.exports place.0 (n, k) zip place.2 in
      let o = (from.0).0 in
      let e = (from.0).1 in
      let found = export_found c roots us ps merged.unions u x at place.0 o e from.1 in
      (o, e, MatchOption-at_some (listed_under c ps x.parts.items o ≡ []) (λ e. IsExport c us ps u o (listed_under c ps x.parts.items o) e) e found (merged.unions.exported u x o at), from.2)

  -- what is free in it
  pub comes_of : (t : AnyType) (q : ResourceId) → IsFree m t q → (w : InterfaceId) → t ≡ ty.Interface w → (u : ℕ) (x : Union) → slice_get us u ≡ Some x → slice_get ws u ≡ Some w → Comes u q
  comes_of _ _ (free.itself r) w e u x at given = cc
  comes_of t q (in_part _ s _ there more) w e u x at given = absurd (in_none s (subst (λ z. Contains (parts m z) s) e there))
  comes_of _ r (in_export i it n k _ there listed own more) w e u x at given =
      let here : item_at m.interfaces w.0 ≡ Some it = ap (λ (z : InterfaceId). item_at m.interfaces z.0) (sym (one_interface i w e)) ∙ there in
      let from = export_of u x at w given it here n k listed in
      exported from.0 from.1 from.2 from.3 here (λ j same v z at_v given_v. comes_of (kind_type k) r more j same v z at_v given_v)
    where
      exported : (o : Name) (y : Export) → IsExport c us ps u o (listed_under c ps x.parts.items o) y → IsWrittenExport c m ps bs f ws u (o, y) (n, k) → item_at m.interfaces w.0 ≡ Some it
          → ((j : InterfaceId) → kind_type k ≡ ty.Interface j → (v : ℕ) (z : Union) → slice_get us v ≡ Some z → slice_get ws v ≡ Some j → Comes v r) → Comes u r
      exported o y export written here deeper = by y.is_own refl where
        outside : IsOutside u r
        outside l is = no_some l (sym own ∙ own-listed c m us ps bs f ids ws merged.target merged.fresh merged.written u it (record { from = x; at = at; id = w; given = given; there = here }) r l is)

        by : (b : Bool) → y.is_own ≡ b → Comes u r
        by true is =
            let z = written_own c m us ps bs f ws u o n y k written is in
            let end : r ≡ resolved m z.0 = end_of m (kind_type k) r more z.0 (ap kind_type z.2) in
            absurd (outside o (z.1 ∙ ap Some (sym (end ∙ (merged.fresh.own u o z.0 z.1).itself))))
        by false is =
            from_written u x at o y export r outside y.kind k refl (written_other c m us ps bs f ws u o n y k written is) more deeper
