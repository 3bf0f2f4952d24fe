-- What a class of entries binds under a name is what its import answers.
use Rattle.std.proofs.Common.{◌≡◌, ℕ, zero, suc, Bool, true, cond, List, [], ◌∷◌, slice_get, Option, Some, None, is_some, IsSome, refl, sym, ap, ◌∙◌, subst, inl, inr, arith}
use Rattle.std.specs.List.{AllZip}
use Rattle.std.proofs.lemmas.Bool.{cases_Bool}
use Rattle.std.proofs.lemmas.Option.{slice_get_within}
use Rattle.wac_types_shapes.specs.primitives.Name.{Name, same_name, option_case}
use Rattle.wac_types_shapes.specs.primitives.Tree.{Place, named}
use Rattle.wac_types_collection.specs.collection.Collection.{Collection, item_at}
use Rattle.wac_types_shapes.specs.declared.shapes.component.Interface.{Interface}
use Rattle.wac_types_shapes.specs.declared.shapes.component.InterfaceId.{InterfaceId}
use Rattle.wac_types_shapes.specs.declared.shapes.component.ResourceId.{ResourceId}
use Rattle.wac_types_shapes.specs.declared.shapes.component.«Type».TheVariants as ty
use Rattle.wac_types_shapes.specs.declared.shapes.component.ItemKind.{ItemKind}
use Rattle.wac_types_shapes.specs.declared.shapes.component.ItemKind.TheVariants as kind
use Rattle.wac_types_shapes.proofs.lemmas.shapes.Names.{same_name-from, same_name-refl, same_name-true}
use Rattle.wac_merge_classes.specs.declared.terms.fresh.Fresh.{Fresh}
use Rattle.wac_merge_classes.specs.declared.terms.parts.Export.{Export}
use Rattle.wac_merge_classes.specs.declared.terms.parts.Part.{Part}
use Rattle.wac_merge_classes.specs.declared.terms.parts.Union.{Union}
use Rattle.wac_merge_classes.specs.terms.Became.{own_in}
use Rattle.wac_merge_classes.specs.entries.Binding.{class_binds}
use Rattle.wac_merge_classes.specs.entries.Bindings.{ClassBindings}
use Rattle.wac_merge_classes.specs.entries.Classes.{Entry, by_names, canonical, class_names, members}
use Rattle.wac_merge_classes.specs.terms.Merge.{bound_resource, import_under, listed_resource, own_resource}
use Rattle.wac_merge_imports.specs.unions.MergedScope.{BindsAsClasses, BindsUnder, IsBoundAs}
use Rattle.wac_merge_classes.specs.private.terms.MergedKinds.{AreMergedKinds, IsMergedKind, as_instance, as_other, as_resource}
use Rattle.wac_merge_classes.specs.terms.Unions.{part}
use Rattle.wac_merge_classes.specs.terms.Writing.{IsWrittenExport}
use Rattle.wac_merge_imports.proofs.lemmas.unions.Assembled.{AreAssembled}
use Rattle.wac_merge_imports.proofs.lemmas.unions.AssembledKinds.{merged-kinds}
use Rattle.wac_merge_classes.proofs.lemmas.terms.Found.{no_some, one_some, some_same}
use Rattle.wac_merge_classes.proofs.lemmas.entries.ClassFacts.{class-of_same, class-refl}
use Rattle.wac_merge_classes.proofs.lemmas.entries.ClassPaths.{newest-class}
use Rattle.wac_merge_imports.proofs.lemmas.fitting.Fitting.{AreMerged}
use Rattle.wac_merge_imports.proofs.lemmas.fitting.FittingClasses.{instances-own}
use Rattle.wac_merge_imports.proofs.lemmas.fitting.FittingOwn.{itself-no-alias}
use Rattle.wac_merge_classes.proofs.lemmas.entries.Lists.{some-at}
use Rattle.wac_merge_imports.proofs.lemmas.fitting.MergedBindings.{import-at, no-instance, on-track, one-import}
use Rattle.wac_merge_trees.proofs.lemmas.trees.MergedSubtypesLists.{zip_found}
use Rattle.wac_merge_classes.proofs.lemmas.terms.Alike.{binds_alike}
use Rattle.wac_merge_classes.proofs.lemmas.terms.OwnResources.{bound-some, own-same}
use Rattle.wac_merge_resources.proofs.lemmas.renaming.FreshAdding.{some-of}
use Rattle.wac_merge_imports.proofs.lemmas.unions.KeptBindings.{binds-kept}

-- ---- what is imported and listed under a name

-- the only import of a name stands under it
import-alone : (xs : List Entry) (p : ℕ) (e : Entry) → slice_get xs p ≡ Some e → ((q : ℕ) (x : Entry) → slice_get xs q ≡ Some x → x.name ≡ e.name → q ≡ p) → import_under xs e.name ≡ Some e.kind
import-alone [] p e at once = absurd (no_some e at)
import-alone (x ∷ xs) zero e at once =
    let same : x ≡ e = some_same x e at in
    ap (λ b. cond b (Some x.kind) (import_under xs e.name)) (same_name-from e.name x.name (ap (λ (y : Entry). y.name) (sym same))) ∙ ap (λ (y : Entry). Some y.kind) same
import-alone (x ∷ xs) (suc p) e at once = elim (cases_Bool (same_name e.name x.name)) [
  | inl t ↦ let first = once 0 x refl (sym (same_name-true e.name x.name t)) in absurd (omega (arith, first))
  | inr f ↦
      ap (λ b. cond b (Some x.kind) (import_under xs e.name)) f
      ∙ import-alone xs p e at (λ q y there name. let same = once (suc q) y there name in omega (arith, same))
]

one-name : (a b : Name) → named a ∷ [] ≡ named b ∷ [] → a ≡ b
one-name a b e = cc

not-bare : (n : Name) (path : List Place) → path ≡ named n ∷ [] → path ≡ [] → ⊥
not-bare n path e none = cc

module _ (c m : Collection) (es : List Entry) (roots : List (List InterfaceId)) (us : List Union) (ps : List Part) (bs : ClassBindings) (f : Fresh) (ids : List (Option Name)) (ws : List InterfaceId)
    (merged : AreMerged c m es roots us ps bs f ids ws) (order : List ℕ) (imports : List Entry) (are : AreMergedKinds c es roots f m ids ws order imports) where
  abbrev answer : Name → Name → Option ResourceId
  answer id n = bound_resource (record { types = m; imports = imports }) id n

  module _ (k : ℕ) (class : Name) (known : slice_get (class_names by_names es) k ≡ Some class) where
    -- ---- the import of a class

    abbrev id : Name
    id = canonical by_names es class

    imported : (x : Entry) × IsMergedKind es roots f m ws k class x.kind × (import_under imports id ≡ Some x.kind)
    imported =
        let p = are.each k (slice_get_within (class_names by_names es) k class known) in
        let less = slice_get_within order p.0 k p.1 in
        let count = are.count in
        let x = some-at imports p.0 (omega (arith, less, count)) in
        let there = import-at c m es roots us ps bs f ids ws merged order imports are in
        let once = one-import c m es roots us ps bs f ids ws merged order imports are in (
          x.0,
          are.kinds p.0 k class x.0 p.1 known x.1,
          ap (import_under imports) (sym (are.names p.0 k class x.0 p.1 known x.1))
              ∙ import-alone imports p.0 x.0 x.1 (λ q y at name. once q p.0 y x.0 (there q y at) (there p.0 x.0 x.1) (class-of_same by_names es y.name (x.0).name name)),
        )

    module _ (w : InterfaceId) (is : List InterfaceId) (rooted : slice_get roots k ≡ Some is) (given : slice_get ws k ≡ Some w) where
      -- the union of the class's interfaces, and the interface that it became
      record IsUnited : Type 0 where
        pub union : Union
        pub at : slice_get us k ≡ Some union
        pub parts : AllZip (λ i q. slice_get ps q ≡ Some (part i None k)) is union.parts.items
        pub interface : Interface
        pub there : item_at m.interfaces w.0 ≡ Some interface
        pub identified : slice_get ids k ≡ Some interface.id
        pub exports : AllZip (IsWrittenExport c m ps bs f ws k) union.exports interface.exports

      united : IsUnited
      united =
          let u = (merged.unions).rooted k is rooted in
          let x = (merged.written).written k u.0 u.1 in
          let same : x.0 ≡ w = one_some (slice_get ws k) x.0 w x.2 given in
          record { union = u.0; at = u.1; parts = u.2; interface = x.1; there = ap (λ (i : InterfaceId). item_at m.interfaces i.0) (sym same) ∙ x.3; identified = x.5; exports = x.6 }

      -- ---- its own resources are answered

      own-written : (n : Name) (e : Export) (l : ItemKind) → e.is_own ≡ true → IsWrittenExport c m ps bs f ws k (n, e) (n, l) → (q : ResourceId) × (own_in f k n ≡ Some q) × (l ≡ kind.TypeItem (ty.Resource q))
      own-written n e l own h = (subst (λ (b : Bool). IsWrittenExport c m ps bs f ws k (n, record e { is_own = b }) (n, l)) own h).1

      own-answered : (n : Name) (q : ResourceId) → own_in f k n ≡ Some q → slice_get ids k ≡ Some (Some id) → own_resource m id n (kind.Instance w) ≡ Some q
      own-answered n q own has =
          let u = united in
          let e = ((merged.fresh).listed k u.union n u.at).0 (ap is_some own) in
          let z = zip_found c m ps bs f ws k (u.union).exports (u.interface).exports u.exports n e.0 e.1 in
          let o = own-written n e.0 z.0 e.2 z.2 in
          let same : o.0 ≡ q = one_some (own_in f k n) o.0 q o.1 own in
          let new = (merged.fresh).own k n q own in
          own-same m id n w u.interface u.there id (some_same (u.interface).id (Some id) (sym u.identified ∙ has)) (same_name-refl id)
          ∙ ap (λ (o : Option ItemKind). option_case o None (listed_resource m)) (z.1 ∙ ap Some (o.2 ∙ ap (λ (x : ResourceId). kind.TypeItem (ty.Resource x)) same))
          ∙ ap (λ b. cond b None (Some q)) (itself-no-alias m merged.target q new.there new.itself)

    -- ---- the import of the class has them

    answers : (n : Name) (r : ResourceId) → class_binds by_names c es class r ≡ Some (named n ∷ []) → IsSome (answer id n)
    answers n r binds = by (imported.0).kind imported.1 imported.2 where
      by : (y : ItemKind) → IsMergedKind es roots f m ws k class y → import_under imports id ≡ Some y → IsSome (answer id n)
      by y (as_instance w is rooted instances given) under =
          let o = instances-own c m roots us ps bs f merged.listed merged.unions merged.fresh es k class is rooted instances r (named n ∷ []) binds in
          let has = are.tracked k class known (on-track c m es roots us ps bs f ids ws merged order imports are class is r (named n ∷ []) instances binds) in
          let own = ap (own_in f k) (one-name n o.name o.is) ∙ o.own in
          ap is_some (bound-some (record { types = m; imports = imports }) id n (kind.Instance w) under ∙ own-answered w is rooted given n o.resource own has)
      by y (as_resource q none is) under =
          absurd (not-bare n (named n ∷ []) refl (no-instance c m es roots us ps bs f ids ws merged order imports are class (members by_names es class) r (named n ∷ []) none binds))
      by y (as_other z none fresh plain itself) under =
          absurd (not-bare n (named n ∷ []) refl (no-instance c m es roots us ps bs f ids ws merged order imports are class (members by_names es class) r (named n ∷ []) none binds))

-- ---- all of it

pub bound-is : (c m : Collection) (es : List Entry) (roots : List (List InterfaceId)) (us : List Union) (ps : List Part) (bs : ClassBindings) (f : Fresh) (ids : List (Option Name)) (ws : List InterfaceId) (order : List ℕ) (imports : List Entry)
    → AreAssembled c m es roots us ps bs f ids ws order imports → BindsAsClasses by_names c es (record { types = m; imports = imports })
bound-is c m es roots us ps bs f ids ws order imports all = record { binds = λ k class n known. (to class n, from k class n known); same = same } where
  same : (class : Name) (r : ResourceId) → class_binds by_names m es class r ≡ class_binds by_names c es class r
  same = binds-kept c m all.merged.source all.extended.kept es all.held

  -- under the canonical name of the class it binds the same
  canonical-same : (class : Name) (r : ResourceId) → class_binds by_names m es (canonical by_names es class) r ≡ class_binds by_names c es class r
  canonical-same class r =
      same (canonical by_names es class) r
      ∙ sym (binds_alike c es class (canonical by_names es class) (newest-class es class class es (class-refl by_names es class)) r)

  to : (class n : Name) → (q : ResourceId) × IsBoundAs by_names es (record { types = m; imports = imports }) (canonical by_names es class) n q → BindsUnder by_names c es class n
  to class n (q, (found, (r, binds))) = (r, sym (canonical-same class r) ∙ binds)

  from : (k : ℕ) (class n : Name) → slice_get (class_names by_names es) k ≡ Some class → BindsUnder by_names c es class n → (q : ResourceId) × IsBoundAs by_names es (record { types = m; imports = imports }) (canonical by_names es class) n q
  from k class n known (r, binds) =
      let are = merged-kinds c m es roots us ps bs f ids ws order imports all in
      let q = some-of (bound_resource (record { types = m; imports = imports }) (canonical by_names es class) n) (answers c m es roots us ps bs f ids ws all.merged order imports are k class known n r binds) in
      (q.0, (q.1, (r, canonical-same class r ∙ binds)))
