-- What a teller's calls record is true.
use Rattle.std.proofs.Common.{ℕ, zero, suc, if◌then◌else◌, ◌≡◌, ◌+◌, ◌<◌, inl, inr, Bool, true, false, List, [], ◌∷◌, ◌++◌, length, Option, Some, None, slice_get, Contains, refl, ap, sym, ◌∙◌, subst, arith}
use Rattle.std.proofs.lemmas.Option.{slice_get_within}
use Rattle.std.proofs.lemmas.Result.{on_ok_weaker}
use Rattle.std.specs.Borrow.{Bor}
use Rattle.std.specs.Global.{Global}
use Rattle.std.specs.Option.{MatchOption, option_copied, option_map}
use Rattle.std.specs.Prelude.{OnOk, Result, nat_lt, string_bytes}
use Rattle.std.specs.declared.string.String.{String}
use Rattle.wac_types_shapes.specs.primitives.Name.{Name, option_case, same_name}
use Rattle.wac_types_shapes.specs.primitives.Tree.{Place, position, named, resource}
use Rattle.wac_types_shapes.specs.shapes.Kinds.{kind_type}
use Rattle.wac_types_shapes.specs.shapes.Named.{named_at}
use Rattle.wac_types_shapes.proofs.lemmas.shapes.Names.{same_name-from, same_name-true}
use Rattle.wac_types_shapes.specs.declared.shapes.component.DefinedTypeId.{DefinedTypeId}
use Rattle.wac_types_shapes.specs.declared.shapes.component.Interface.{Interface}
use Rattle.wac_types_shapes.specs.declared.shapes.component.InterfaceId.{InterfaceId}
use Rattle.wac_types_shapes.specs.declared.shapes.component.ItemKind.{ItemKind}
use Rattle.wac_types_shapes.specs.declared.shapes.component.ItemKind.TheVariants as kind
use Rattle.wac_types_shapes.specs.declared.shapes.component.ResourceId.{ResourceId}
use Rattle.wac_types_shapes.specs.declared.shapes.component.ValueType.{ValueType}
use Rattle.wac_types_shapes.specs.declared.shapes.component.ValueType.TheVariants as val
use Rattle.wac_types_shapes.specs.declared.shapes.component.«Type».TheVariants as ty
use Rattle.wac_types_collection.specs.collection.Aliases.{value_resolved}
use Rattle.wac_types_collection.specs.collection.Collection.{Collection, IsWellFormed, HasInterface, holds_type, holds_value, item_at, size}
use Rattle.wac_types_collection.proofs.lemmas.collection.Chains.{end_held}
use Rattle.wac_types_collection.proofs.lemmas.wide.Members.{at_in, in_at}
use Rattle.wac_types_collection.specs.subtyping.CalledViews.{path_view}
use Rattle.wac_merge.specs.MergedPlaces.{IsRootPlace}
use Rattle.wac_merge_classes.specs.entries.Binding.{binding_class}
use Rattle.wac_merge_classes.specs.entries.Classes.{Entry, by_names, imported_as}
use Rattle.wac_merge_classes.specs.terms.Merge.{IsMerge, Merged, import_entries}
use Rattle.wac_merge_classes.proofs.lemmas.entries.Opening.{below}
use Rattle.wac_merge_classes.proofs.lemmas.terms.Found.{find_at}
use Rattle.wac_types_collection.specs.collection.Bound.{Bindings}
use Rattle.wac_binary.specs.declared.sorts.Sort.{Sort}
use Rattle.wac_binary.specs.Unfold.{Scope}
use Rattle.wac_encode_faults.specs.Free.{IsUnbound}
use Rattle.wac_encode_stacks.specs.Good.{Good, Stands, innermost}
use Rattle.wac_encode_stacks.specs.Scopes.{Open, Stack, at_type, at_export, bind_at, envs, export_at, index_at, listed, scope_of}
use Rattle.wac_encode_scopes.specs.declared.scope.Scope.{Scope as TheScope}
use Rattle.wac_encode_scopes.specs.declared.state.State.{State}
use Rattle.wac_encode_scopes.specs.Books.{opened}
use Rattle.wac_encode_scopes.specs.private.Closed.{AreApartItems, SaysApart}
use Rattle.wac_encode_scopes.specs.Contents.{content_of}
use Rattle.wac_encode_scopes.specs.States.{RecordsHere, outward, stack}
use Rattle.wac_encode_scopes.specs.private.Telling.{definition_in, definition_of, is_one_of}
use Rattle.wac_encode_scopes.proofs.ApartBits.{does-not-depend}
use Rattle.wac_encode_imports.specs.declared.told.Others.{Others}
use Rattle.wac_encode_imports.specs.declared.told.Teller.{Teller}
use Rattle.wac_encode_interfaces.specs.private.Imports.{RefersToImport}
use Rattle.wac_encode_imports.specs.private.Imports.{AreImported, merged_bindings}
use Rattle.wac_encode_imports.specs.private.ToldGraph.{IsTold}
use Rattle.wac_encode_imports.specs.private.Told.{BindsAll, BindsBelow, BindsOne, ChangesRecords, HasImports, AreOthers, HaveExports, IsDefinitionAt, IsGood, IsImportOf, IsTeller, IsTypeImport, KeepsGood, ReferToImports, bound_below, end_bindings, told_in}
use Rattle.wac_encode_imports.proofs.Bound.{no-some, one-some}
use Rattle.wac_encode_imports.proofs.Members.{export-held}
use Rattle.wac_encode_imports.proofs.Placed.{bound-place, entry-import, entry-member, member-import, unbound-place}
use Rattle.wac_encode_imports.proofs.Records.{below-all, below-next, below-none, below-unbound, bound-good, exported-good, indexed-good, none-changed, one-changed, same-scope, then-changed, unbound-good}
use Rattle.wac_encode_imports.proofs.Stands.{IsBoundBut, IsBoundThere, bound-low, bound-stands, bound-there, type-stands-at}
use Rattle.wac_encode_imports.proofs.Stood.{at-path}

no-empty : {A : Type 0} (n : Name) (path : List Place) → [] ≡ named n ∷ path → A
no-empty n path h = cc

one-name : (m n : Name) (rest : List Place) → named m ∷ [] ≡ named n ∷ rest → m ≡ n
one-name m n rest h = cc

-- resources

module _ (t : Teller) (r : ResourceId) (s new : State) (imports : HasImports t s) where
  -- Nothing changes if no class binds the resource.
  pub binds-none : binding_class by_names t.merge.now.merge.types t.merge.now.entries r ≡ None → BindsOne t r s s
  binds-none none = record {
    bound = λ is m good unbound. unbound-good t.types.now m s s good (end_bindings t is) r unbound (unbound-place t.types.now t.merge.now.entries t.merge.now.merge is.merged is.acyclic is.bound r none);
    changes = none-changed s;
  }

  module _ (p : ℕ) (path : List Place) (h : IsRootPlace by_names t.merge.now.entries t.merge.now.merge r p path) (place : Sort × ℕ) (placed : slice_get t.places.now p ≡ Some place) where
    there : (is : IsTeller t) → IsBoundThere t.types.now is.ordered is.once t.merge.now.entries is.held is.agreed t.merge.now.merge is.merged is.acyclic is.bound (innermost (stack false s)) p place.1 path
    there is = bound-there t.types.now is.ordered is.once t.merge.now.entries is.held is.agreed t.merge.now.merge is.merged is.acyclic is.bound r p path h (innermost (stack false s)) place.1 (imports p h.entry place h.there placed)

    leaf-is : (is : IsTeller t) → end_bindings t is r ≡ Some (at-path (position p ∷ path))
    leaf-is is = (bound-place t.types.now t.merge.now.entries t.merge.now.merge is.merged is.acyclic is.bound r p path h).1

    -- The type index of the import itself refers to the resource.
    pub binds-type : path ≡ [] → RecordsHere false (bind_at r (at_type place.1)) s new → BindsOne t r s new
    binds-type empty records = record {
      bound = λ is m good unbound. bound-good t.types.now m s new good (end_bindings t is) r unbound (at-path (position p ∷ path)) (at_type place.1) records (leaf-is is) (by is (there is));
      changes = one-changed (bind_at r (at_type place.1)) s new records;
    }
      where
        by : (is : IsTeller t) → IsBoundThere t.types.now is.ordered is.once t.merge.now.entries is.held is.agreed t.merge.now.merge is.merged is.acyclic is.bound (innermost (stack false s)) p place.1 path
            → Stands (innermost (stack false s)) (resource (at-path (position p ∷ path))) (at_type place.1)
        by is (inl (e, at)) = subst (λ (y : List Place). Stands (innermost (stack false s)) (resource (at-path (position p ∷ y))) (at_type place.1)) (sym e) at
        by is (inr (n, e, at)) = no-empty n [] (sym empty ∙ e)

    -- The instance exports the resource.
    pub binds-export : (n : Name) (rest : List Place) → path ≡ named n ∷ rest → RecordsHere false (bind_at r (at_export place.1 n)) s new → BindsOne t r s new
    binds-export n rest name records = record {
      bound = λ is m good unbound. bound-good t.types.now m s new good (end_bindings t is) r unbound (at-path (position p ∷ path)) (at_export place.1 n) records (leaf-is is) (by is (there is));
      changes = one-changed (bind_at r (at_export place.1 n)) s new records;
    }
      where
        by : (is : IsTeller t) → IsBoundThere t.types.now is.ordered is.once t.merge.now.entries is.held is.agreed t.merge.now.merge is.merged is.acyclic is.bound (innermost (stack false s)) p place.1 path
            → Stands (innermost (stack false s)) (resource (at-path (position p ∷ path))) (at_export place.1 n)
        by is (inl (e, at)) = no-empty n rest (sym e ∙ name)
        by is (inr (q, e, at)) =
            let same = one-name q n rest (sym e ∙ name) in
            subst (λ (y : List Place). Stands (innermost (stack false s)) (resource (at-path (position p ∷ y))) (at_export place.1 n)) (sym e)
            (subst (λ (z : Name). Stands (innermost (stack false s)) (resource (at-path (position p ∷ (named q ∷ [])))) (at_export place.1 z)) same at)

-- what is found of a resource

module _ (t : Teller) (r : ResourceId) (found : Option (ℕ × Bor (List (String Global)))) (finds : MatchOption found (binding_class by_names t.merge.now.merge.types t.merge.now.entries r ≡ None) (λ b. IsRootPlace by_names t.merge.now.entries t.merge.now.merge r b.0 (path_view b.1.now))) where
  pub found-none : found ≡ None → binding_class by_names t.merge.now.merge.types t.merge.now.entries r ≡ None
  found-none is = subst (λ (o : Option (ℕ × Bor (List (String Global)))). MatchOption o (binding_class by_names t.merge.now.merge.types t.merge.now.entries r ≡ None) (λ b. IsRootPlace by_names t.merge.now.entries t.merge.now.merge r b.0 (path_view b.1.now))) is finds

  pub found-place : (p : ℕ) (path : Bor (List (String Global))) → found ≡ Some (p, path) → IsRootPlace by_names t.merge.now.entries t.merge.now.merge r p (path_view path.now)
  found-place p path is = subst (λ (o : Option (ℕ × Bor (List (String Global)))). MatchOption o (binding_class by_names t.merge.now.merge.types t.merge.now.entries r ≡ None) (λ b. IsRootPlace by_names t.merge.now.entries t.merge.now.merge r b.0 (path_view b.1.now))) is finds

  pub found-low : IsTeller t → (p : ℕ) (path : Bor (List (String Global))) → found ≡ Some (p, path) → p < length t.places.now
  found-low is p path at =
      let place = found-place p path at in
      let within = slice_get_within (t.merge.now.merge).imports p place.entry place.there in
      let counted = is.counted in
      omega (arith, within, counted)

-- the first name of a path

pub first-none : (path : List (String Global)) (o : Option (Bor (String Global))) → option_copied o ≡ slice_get path 0 → o ≡ None → path_view path ≡ []
first-none [] o h is = refl
first-none (s ∷ path) o h is = no-some s (ap option_copied (sym is) ∙ h)

pub first-some : (path : List (String Global)) (o : Option (Bor (String Global))) → option_copied o ≡ slice_get path 0 → (b : Bor (String Global)) → o ≡ Some b → (rest : List Place) × (path_view path ≡ named (string_bytes b.now) ∷ rest)
first-some [] o h b is = no-some b.now (sym h ∙ ap option_copied is)
first-some (s ∷ path) o h b is = let same : s ≡ b.now = one-some s b.now (sym h ∙ ap option_copied is) in (path_view path, ap (λ (x : String Global). named (string_bytes x) ∷ path_view path) same)

-- value types

module _ (t : Teller) (s new : State) where
  pub tells-export : (d : DefinedTypeId) (i : ℕ) (n : Name) → IsDefinitionAt t d (at_export i n) s → RecordsHere false (export_at d (at_export i n)) s new → KeepsGood t s new
  tells-export d i n at records = record {
    good = λ is good. let x = at is in exported-good t.types.now (end_bindings t is) s new good d (at_export i n) x.0 records x.1 x.2 x.3;
    changes = one-changed (export_at d (at_export i n)) s new records;
  }

  pub tells-type : (d : DefinedTypeId) (i : ℕ) → IsDefinitionAt t d (at_type i) s → RecordsHere false (index_at (ty.Value (val.Defined d)) listed i) s new → KeepsGood t s new
  tells-type d i at records = record {
    good = λ is good. let x = at is in indexed-good t.types.now (end_bindings t is) s new good d i x.0 records x.1 x.2 x.3;
    changes = one-changed (index_at (ty.Value (val.Defined d)) listed i) s new records;
  }

pub tells-nothing : (t : Teller) (s : State) → KeepsGood t s s
tells-nothing t s = record { good = λ is good. good; changes = none-changed s }

-- the definition of an item

definition-value : (u : ValueType) (d : DefinedTypeId) → definition_of u ≡ Some d → u ≡ val.Defined d
definition-value (val.Defined e) d h = ap val.Defined (one-some e d h)
definition-value (val.Primitive p) d h = no-some d h
definition-value (val.Own r) d h = no-some d h
definition-value (val.Borrow r) d h = no-some d h

definition-is : (c : Collection) (n : Name) (k : ItemKind) (d : DefinedTypeId) → definition_in c (n, k) ≡ Some d → (v : ValueType) × (k ≡ kind.TypeItem (ty.Value v)) × (value_resolved c v ≡ val.Defined d)
definition-is c n (kind.TypeItem (ty.Value v)) d h = (v, refl, definition-value (value_resolved c v) d h)
definition-is c n (kind.TypeItem (ty.Resource x)) d h = no-some d h
definition-is c n (kind.TypeItem (ty.Func x)) d h = no-some d h
definition-is c n (kind.TypeItem (ty.Interface x)) d h = no-some d h
definition-is c n (kind.TypeItem (ty.World x)) d h = no-some d h
definition-is c n (kind.TypeItem (ty.Module x)) d h = no-some d h
definition-is c n (kind.Func x) d h = no-some d h
definition-is c n (kind.Instance x) d h = no-some d h
definition-is c n (kind.Component x) d h = no-some d h
definition-is c n (kind.Module x) d h = no-some d h
definition-is c n (kind.Value x) d h = no-some d h

definition-held : (c : Collection) → IsWellFormed c → (v : ValueType) (d : DefinedTypeId) → value_resolved c v ≡ val.Defined d → holds_value c v ≡ true → holds_value c (val.Defined d) ≡ true
definition-held c wf v d resolves held = subst (λ (u : ValueType). holds_value c u ≡ true) resolves (end_held c wf (size c) v held)

-- entries

-- The interface of an entry is of the collection.
pub entry-interface : (t : Teller) → IsTeller t → (e : Entry) → Contains t.merge.now.entries e → (id : InterfaceId) → e.kind ≡ kind.Instance id → HasInterface t.types.now id
entry-interface t is e within id is_instance =
    let at = in_at t.merge.now.entries e within in
    below id.0 (length t.types.now.interfaces) (subst (λ (k : ItemKind). holds_type t.types.now (kind_type k) ≡ true) is_instance (is.held at.0 e at.2))

-- the definition of an item of an instance that may be recorded

kept-if : (o : Option DefinedTypeId) (test : DefinedTypeId → Bool) (d : DefinedTypeId) → option_case o None (λ q. if test q then Some q else None) ≡ Some d → (o ≡ Some d) × (test d ≡ true)
kept-if None test d h = no-some d h
kept-if (Some q) test d h = by (test q) refl h
  where
    by : (b : Bool) → test q ≡ b → (if b then Some q else None) ≡ Some d → (Some q ≡ Some d) × (test d ≡ true)
    by true is e = (e, sym (ap test (one-some q d e)) ∙ is)
    by false is e = no-some d e

pub told-none : (c : Collection) (test : DefinedTypeId → Bool) (e : Name × ItemKind) → definition_in c e ≡ None → told_in c test e ≡ None
told-none c test e none = ap (λ (o : Option DefinedTypeId). option_case o None (λ d. if test d then Some d else None)) none

pub told-some : (c : Collection) (test : DefinedTypeId → Bool) (e : Name × ItemKind) (d : DefinedTypeId) → definition_in c e ≡ Some d → (b : Bool) → test d ≡ b → told_in c test e ≡ (if b then Some d else None)
told-some c test e d is b tested =
    ap (λ (o : Option DefinedTypeId). option_case o None (λ q. if test q then Some q else None)) is
    ∙ ap (λ (x : Bool). if x then Some d else None) tested

module _ (t : Teller) (s : State) (imports : HasImports t s) (e : Entry) (within : Contains t.merge.now.entries e) (p : ℕ) (of : IsImportOf t e p) (place : Sort × ℕ) (placed : slice_get t.places.now p ≡ Some place) where
  abbrev c : Collection
  c = t.types.now

  refers : RefersToImport (t.merge.now.merge).types (merged_bindings t.merge.now.merge) (innermost (stack false s)) (position p) (of.entry).kind place.1
  refers = imports p of.entry place of.there placed

  -- The own resources of each entry of the class, but for the import's others, are bound to its exports.
  bound-but : (sets : List Others) → AreOthers t sets → (others : Others) → slice_get sets p ≡ Some others → (is : IsTeller t)
      → IsBoundBut c is.ordered is.once t.merge.now.entries is.held is.agreed t.merge.now.merge is.merged is.acyclic is.bound p of.entry of.there (is_one_of others.resources.keys)
  bound-but sets are others at_p is j y id it at_y is_y has r n own left =
      let m = member-import c t.merge.now.entries t.merge.now.merge is.merged is.acyclic p of.entry of.there j y at_y in
      let of_y : IsImportOf t y p = record { entry = of.entry; there = of.there; named = m.2 } in
      are.noted m.0 y m.1 p others of_y at_p id it is_y has r n own left is

  -- The instance that is imported for an entry exports the entry's value types in which none of the others is free.
  pub entry-exports : (sets : List Others) → AreOthers t sets → (others : Others) → slice_get sets p ≡ Some others → (id : InterfaceId) (it : Interface) → e.kind ≡ kind.Instance id → item_at c.interfaces id.0 ≡ Some it
      → (test : DefinedTypeId → Bool) → AreApartItems c it.exports (is_one_of others.resources.keys) test → HaveExports t test it place.1 s
  entry-exports sets are others at_p id it is_instance has test apart n k d found told is =
      let these = is_one_of others.resources.keys in
      let x = kept-if (definition_in c (n, k)) test d told in
      let at = in_at t.merge.now.entries e within in
      let v = definition-is c n k d x.0 in
      let found_v = found ∙ ap Some v.1 in
      let holds = definition-held c is.ordered v.0 d v.2 (export-held c is.ordered id it n (kind.TypeItem (ty.Value v.0)) has found_v) in
      let member = entry-member c t.merge.now.entries t.merge.now.merge is.merged is.acyclic at.0 e at.2 p of.entry of.there of.named in
      let f = find_at it.exports n k found in
      let says : SaysApart c these d true = subst (SaysApart c these d) x.1 (apart (n, k) d (at_in it.exports f.0 (n, k) f.1) x.0) in
      bound-stands c is.ordered is.once t.merge.now.entries is.held is.agreed t.merge.now.merge is.merged is.acyclic is.bound p of.entry of.there (innermost (stack false s)) place.1 refers member.0 e member.1 id it is_instance has
      these (bound-but sets are others at_p is) n v.0 d found_v v.2 holds (does-not-depend c these d says)
      (λ unbound. is.clean is.merged e within (subst (λ (q : ItemKind). IsUnbound c (end_bindings t is) (kind_type q)) (sym is_instance) unbound))

  -- The type item that is imported for an entry names the entry's value type.
  pub entry-type : IsTypeImport t e.kind place.1 s
  entry-type n d definition is =
      let at = in_at t.merge.now.entries e within in
      let v = definition-is c n e.kind d definition in
      let holds = definition-held c is.ordered v.0 d v.2 (subst (λ (k : ItemKind). holds_type c (kind_type k) ≡ true) v.1 (is.held at.0 e at.2)) in
      let member = entry-member c t.merge.now.entries t.merge.now.merge is.merged is.acyclic at.0 e at.2 p of.entry of.there of.named in
      type-stands-at c is.ordered is.once t.merge.now.entries is.held is.agreed t.merge.now.merge is.merged is.acyclic is.bound p of.entry of.there (innermost (stack false s)) place.1 refers member.0 e member.1 v.0 d v.1 v.2 holds
      (λ unbound. is.clean is.merged e within (subst (λ (k : ItemKind). IsUnbound c (end_bindings t is) (kind_type k)) (sym v.1) unbound))

-- names that are found among imports

one-under : (i : ℕ) (n : Name) (es : List (Name × ItemKind)) (p : ℕ) (v : ItemKind) → named_at i n es ≡ Some (p, v) → (j : ℕ) × (p ≡ i + j) × (slice_get (import_entries es) j ≡ Some (record { name = n; kind = v }))
one-under i n [] p v h = cc
one-under i n (e ∷ es) p v h = split (same_name n e.0) refl h (one-under (suc i) n es p v) where
  split : (b : Bool) → same_name n e.0 ≡ b → (if b then Some (i, e.1) else named_at (suc i) n es) ≡ Some (p, v)
      → (named_at (suc i) n es ≡ Some (p, v) → (j : ℕ) × (p ≡ suc i + j) × (slice_get (import_entries es) j ≡ Some (record { name = n; kind = v })))
      → (j : ℕ) × (p ≡ i + j) × (slice_get (import_entries (e ∷ es)) j ≡ Some (record { name = n; kind = v }))
  split true is h _ =
      let both : ◌≡◌ {A = ℕ × ItemKind} (i, e.1) (p, v) = cc in
      let here : i ≡ p = ap (λ (x : ℕ × ItemKind). x.0) both in
      let kind : e.1 ≡ v = ap (λ (x : ℕ × ItemKind). x.1) both in
      let name : e.0 ≡ n = sym (same_name-true n e.0 is) in
      (0, omega (arith, here), λ k. Some (record { name = name k; kind = kind k }))
  split false _ h more = let (j, at, there) = more h in (suc j, omega (arith, at), there)

none-under : (i : ℕ) (n : Name) (es : List (Name × ItemKind)) → named_at i n es ≡ None → (p : ℕ) (e : Entry) → slice_get (import_entries es) p ≡ Some e → e.name ≡ n → ⊥
none-under i n [] h p e at same = cc
none-under i n (x ∷ es) h p e at is_name = split p at (same_name n x.0) refl h (λ q none stands. none-under (suc i) n es none q e stands is_name) where
  split : (p : ℕ) → slice_get (import_entries (x ∷ es)) p ≡ Some e → (b : Bool) → same_name n x.0 ≡ b → (if b then Some (i, x.1) else named_at (suc i) n es) ≡ None
      → ((q : ℕ) → named_at (suc i) n es ≡ None → slice_get (import_entries es) q ≡ Some e → ⊥) → ⊥
  split p at true is h more = cc
  split zero at false is h more =
      let same : ◌≡◌ {A = Entry} (record { name = x.0; kind = x.1 }) e = cc in
      let other : same_name n x.0 ≡ true = same_name-from n x.0 (sym (ap (λ (y : Entry). y.name) same ∙ is_name)) in
      cc
  split (suc q) at false is h more = more q h at

-- what stays after other records

pub still-imports : (t : Teller) (s new : State) → ChangesRecords s new → HasImports t s → HasImports t new
still-imports t s new x imports p e place there placed =
    subst (λ (w : Scope). RefersToImport (t.merge.now.merge).types (merged_bindings t.merge.now.merge) w (position p) e.kind place.1) (sym (same-scope s new x)) (imports p e place there placed)

pub still-exports : (t : Teller) (test : DefinedTypeId → Bool) (it : Interface) (i : ℕ) (s new : State) → ChangesRecords s new → HaveExports t test it i s → HaveExports t test it i new
still-exports t test it i s new x exports n k d found definition is =
    let at = exports n k d found definition is in
    (at.0, at.1, at.2, subst (λ (w : Scope). Stands w at.0 (at_export i n)) (sym (same-scope s new x)) at.3)

-- one step after another

pub keeps-then : (t : Teller) (a b d : State) → KeepsGood t a b → KeepsGood t b d → KeepsGood t a d
keeps-then t a b d x y = record { good = λ is good. y.good is (x.good is good); changes = then-changed a b d x.changes y.changes }

pub binds-then : (t : Teller) (a b d : State) → BindsAll t a b → KeepsGood t b d → BindsAll t a d
binds-then t a b d x y = record { bound = λ is good. y.good is (x.bound is good); changes = then-changed a b d x.changes y.changes }

pub binds-first : (t : Teller) (s : State) → BindsBelow t 0 s s
binds-first t s = record { bound = λ is good. subst (λ (m : Bindings). IsGood t m s) (sym (below-none (end_bindings t is))) good; changes = none-changed s }

pub binds-next : (t : Teller) (n k : ℕ) (a b d : State) → k ≡ n + 1 → BindsBelow t n a b → BindsOne t (record { 0 = n }) b d → BindsBelow t k a d
binds-next t n k a b d one x y = record {
  bound = λ is good. subst (λ (m : Bindings). IsGood t m d) (below-next (end_bindings t is) n k one) (y.bound is (bound_below (end_bindings t is) n) (x.bound is good) (below-unbound (end_bindings t is) n));
  changes = then-changed a b d x.changes y.changes;
}

pub binds-all : (t : Teller) (n : ℕ) (a b : State) → nat_lt n (length t.types.now.resources) ≡ false → BindsBelow t n a b → BindsAll t a b
binds-all t n a b past x = record {
  bound = λ is good. subst (λ (m : Bindings). IsGood t m b)
      (below-all (end_bindings t is) n (length t.types.now.resources)
      (bound-low t.types.now is.ordered is.once t.merge.now.entries is.held is.agreed t.merge.now.merge is.merged is.acyclic is.bound) past) (x.bound is good);
  changes = x.changes;
}

-- the root of a merge

one-open : (c : Collection) (os : Stack) (o : Open) → Good c [] (os ++ o ∷ []) → ⊥
one-open c [] o h = h
one-open c (x ∷ os) o h = h

none-open : (c : Collection) (b : Bool) (ss : List TheScope) → Good c [] (outward b ss) → ss ≡ []
none-open c b [] h = refl
none-open c b (s ∷ ss) h = absurd (one-open c (outward b ss) (opened b s) h)

-- Both books of a root have its indexes.
pub one-scope : (c : Collection) (m : Bindings) (s : State) → Good c (m ∷ []) (stack true s) → innermost (stack true s) ≡ innermost (stack false s)
one-scope c m s good =
    let alone = none-open c true s.around.items good.1 in
    ap (λ (ss : List TheScope). scope_of (content_of s.here.content) (envs (outward true ss))) alone ∙ sym (ap (λ (ss : List TheScope). scope_of (content_of s.here.content) (envs (outward false ss))) alone)

pub root-imports : (m : Merged) (places : List (Sort × ℕ)) (s : State) → AreImported m places s → ReferToImports m places s
root-imports m places s are p e place stands placed =
    subst (λ (w : Scope). RefersToImport m.types (merged_bindings m) w (position p) e.kind place.1) (one-scope m.types (merged_bindings m) s are.good) (are.refers p e place stands placed)

-- what is told in the end

all-told : (t : Teller) (s new : State) → AreImported t.merge.now.merge t.places.now s → BindsAll t s new → (is : IsTeller t) → IsTold t.types.now t.merge.now.entries (is.merged).order s new
all-told t s new are x is = record { good = x.bound is (are.beside t.types.now); change = (x.changes).change; records = (x.changes).records }

pub graph-told : {A E : Type 0} {t : Teller} (r : Result A E) (s new : State) → OnOk r (BindsAll t s new) → AreImported t.merge.now.merge t.places.now s → IsTeller t
    → OnOk r ((merged : IsMerge by_names t.types.now t.merge.now.entries t.merge.now.merge) → IsTold t.types.now t.merge.now.entries merged.order s new)
graph-told {t = t} r s new told are is = on_ok_weaker r (λ x merged. all-told t s new are x (record is { merged = merged })) told

-- the import of an entry

module _ (t : Teller) (e : Entry) (within : Contains t.merge.now.entries e) (canonical : Name) (is_name : canonical ≡ imported_as by_names t.merge.now.entries e.name) (imports : List (Name × ItemKind)) (are : import_entries imports ≡ (t.merge.now.merge).imports)
    (found : Option (ℕ × Bor ItemKind)) (finds : option_map (λ p. (p.0, p.1.now)) found ≡ named_at 0 canonical imports) where
  -- The import of the entry's class is found.
  pub never-missed : IsTeller t → found ≡ None → ⊥
  never-missed is none =
      let at = in_at t.merge.now.entries e within in
      let x = entry-import t.types.now t.merge.now.entries t.merge.now.merge is.merged is.acyclic at.0 e at.2 in
      none-under 0 canonical imports (sym finds ∙ ap (option_map (λ p. (p.0, p.1.now))) none) x.0 x.1 (ap (λ es. slice_get es x.0) are ∙ x.2) (x.3 ∙ sym is_name)

  module _ (position : ℕ) (k : Bor ItemKind) (is_there : found ≡ Some (position, k)) where
    import-there : slice_get (t.merge.now.merge).imports position ≡ Some (record { name = canonical; kind = k.now })
    import-there =
        let w = one-under 0 canonical imports position k.now (sym finds ∙ ap (option_map (λ p. (p.0, p.1.now))) is_there) in
        let here : w.0 ≡ position = (let n = w.1 in omega (arith, n)) in
        ap (λ es. slice_get es position) (sym are) ∙ ap (slice_get (import_entries imports)) (sym here) ∙ w.2

    pub import-of : IsImportOf t e position
    import-of = record { entry = record { name = canonical; kind = k.now }; there = import-there; named = is_name }
