-- All of a merge, from what its steps answer.
use Rattle.std.proofs.Common.{◌≡◌, ℕ, ◌<◌, true, List, Vec, [], ◌∷◌, fold, length, map, slice_get, Option, Some, None, refl, sym, ◌∙◌, subst, arith}
use Rattle.std.specs.Global.{Global}
use Rattle.std.specs.List.{AllByRecursion}
use Rattle.std.proofs.lemmas.Option.{slice_get_within}
use Rattle.wac_types_shapes.specs.primitives.Name.{Name}
use Rattle.wac_types_collection.specs.collection.Collection.{Collection, HasInterface, IsWellFormed, holds_type, item_at, item_of}
use Rattle.wac_types_shapes.specs.shapes.Kinds.{kind_type}
use Rattle.wac_types_collection.specs.collection.Uses.{IsSound}
use Rattle.wac_types_collection.specs.declared.collection.collection.Held.{Held}
use Rattle.wac_types_shapes.specs.declared.shapes.component.Interface.{Interface}
use Rattle.wac_types_shapes.specs.declared.shapes.component.InterfaceId.{InterfaceId}
use Rattle.wac_types_shapes.specs.declared.shapes.component.ItemKind.{ItemKind}
use Rattle.wac_types_shapes.specs.declared.shapes.component.ItemKind.TheVariants as kind
use Rattle.wac_types_shapes.specs.declared.shapes.component.«Type».TheVariants as ty
use Rattle.wac_merge_classes.specs.entries.Agreement.{AllMembersAgree}
use Rattle.wac_merge_classes.specs.terms.Became.{AreBoundParts, AreFresh}
use Rattle.wac_merge_classes.specs.entries.Bindings.{AreBindings, AreHeld, ClassBindings}
use Rattle.wac_merge_classes.specs.entries.Classes.{Entry, by_names, class_names, members, same_class}
use Rattle.wac_merge_classes.specs.terms.Merge.{IsMerge}
use Rattle.wac_merge_imports.specs.unions.MergedClasses.{AreAgreed, AreRoots, with_root}
use Rattle.wac_merge_resources.specs.private.renaming.RenamedTypes.{CanRenameAll}
use Rattle.wac_merge_resources.specs.private.renaming.Ways.{AreOutward}
use Rattle.wac_types_collection.specs.private.subtyping.Extended.{IsExtended}
use Rattle.wac_merge_classes.specs.terms.Unions.{AreUnions}
use Rattle.wac_merge_classes.specs.terms.Writing.{AreWritten, IsGiven}
use Rattle.wac_merge_resources.specs.declared.renaming.became.Became.{Became}
use Rattle.wac_merge_classes.specs.declared.terms.fresh.Fresh.{Fresh}
use Rattle.wac_merge_classes.specs.declared.terms.parts.Part.{Part}
use Rattle.wac_merge_classes.specs.declared.terms.parts.Union.{Union}
use Rattle.wac_merge_imports.proofs.lemmas.unions.Assembled.{AreAssembled, AreDeep}
use Rattle.wac_merge_imports.proofs.lemmas.unions.AssembledItems.{imports-are}
use Rattle.wac_merge_imports.proofs.lemmas.unions.AssembledKinds.{merged-kinds, none-disagrees}
use Rattle.wac_merge_imports.proofs.lemmas.unions.AssembledLists.{count, listed, names}
use Rattle.wac_merge_imports.proofs.lemmas.unions.AssembledSubtypes.{subtypes, equal}
use Rattle.wac_merge_imports.proofs.lemmas.fitting.BecameEnds.{became-ends}
use Rattle.wac_merge_classes.proofs.lemmas.entries.ClassFacts.{class-refl}
use Rattle.wac_merge_unions.proofs.lemmas.uses.ClassFolds.{mapped_at}
use Rattle.wac_merge_classes.proofs.lemmas.terms.Found.{no_some}
use Rattle.wac_merge_tables.proofs.lemmas.made.Extending.{same_interface}
use Rattle.wac_merge_classes.proofs.lemmas.entries.Lists.{some-at}
use Rattle.wac_merge_classes.proofs.lemmas.terms.Found.{get_map}
use Rattle.wac_merge_imports.proofs.lemmas.fitting.MergedBindingsAgreed.{names-agree}
use Rattle.wac_merge_imports.proofs.lemmas.fitting.MergedBindingsClasses.{filter-at}
use Rattle.wac_merge_classes.proofs.lemmas.entries.Opening.{below}
use Rattle.wac_merge_unions.proofs.lemmas.uniting.UnionLists.{all_from, all_push}
use Rattle.wac_merge_imports.proofs.lemmas.unions.WritingItems.{still-all-exported}

-- two entries of a class agree under the first's name
pub agreed-pairs : (c : Collection) (es : List Entry) → AllMembersAgree by_names c es → AreAgreed c es
agreed-pairs c es agreed i j a b less at there one = agreed a.name i j a b at there (class-refl by_names es a.name) one

-- ---- what is united is held

root-held : (c : Collection) (is : List InterfaceId) (k : ItemKind) → AllByRecursion (HasInterface c) is → holds_type c (kind_type k) ≡ true → AllByRecursion (HasInterface c) (with_root is k)
root-held c is (kind.Instance i) all held = all_push (HasInterface c) is i all (below i.0 (length c.interfaces) held)
root-held c [] (kind.TypeItem (ty.Interface i)) all held = (below i.0 (length c.interfaces) held, tt)
root-held c (x ∷ xs) (kind.TypeItem (ty.Interface i)) all held = all
root-held c [] (kind.TypeItem (ty.Resource r)) all held = all
root-held c (x ∷ xs) (kind.TypeItem (ty.Resource r)) all held = all
root-held c [] (kind.TypeItem (ty.Func f)) all held = all
root-held c (x ∷ xs) (kind.TypeItem (ty.Func f)) all held = all
root-held c [] (kind.TypeItem (ty.Value v)) all held = all
root-held c (x ∷ xs) (kind.TypeItem (ty.Value v)) all held = all
root-held c [] (kind.TypeItem (ty.World w)) all held = all
root-held c (x ∷ xs) (kind.TypeItem (ty.World w)) all held = all
root-held c [] (kind.TypeItem (ty.Module y)) all held = all
root-held c (x ∷ xs) (kind.TypeItem (ty.Module y)) all held = all
root-held c is (kind.Func f) all held = all
root-held c is (kind.Component w) all held = all
root-held c is (kind.Module y) all held = all
root-held c is (kind.Value v) all held = all

fold-held : (c : Collection) (ks : List ItemKind) (is : List InterfaceId) → AllByRecursion (HasInterface c) is → AllByRecursion (λ k. holds_type c (kind_type k) ≡ true) ks → AllByRecursion (HasInterface c) (fold with_root is ks)
fold-held c [] is all held = all
fold-held c (k ∷ ks) is all held = fold-held c ks (with_root is k) (root-held c is k all held.0) held.1

members-held : (c : Collection) (es : List Entry) (class : Name) → AreHeld c es → AllByRecursion (λ k. holds_type c (kind_type k) ≡ true) (map (λ e. e.kind) (members by_names es class))
members-held c es class held = all_from (λ k. holds_type c (kind_type k) ≡ true) (map (λ e. e.kind) (members by_names es class)) (λ j k at.
    let (e, there, same) = mapped_at (λ (e : Entry). e.kind) (members by_names es class) j k at in
    let w = filter-at (λ (e : Entry). same_class by_names es class e.name) es j e there in
    subst (λ (l : ItemKind). holds_type c (kind_type l) ≡ true) same (held w.1 e w.2))

pub roots-held : (c : Collection) (es : List Entry) (vs : List (Vec InterfaceId Global)) → AreRoots es (map (λ v. v.items) vs) → AreHeld c es → AllByRecursion (λ v. AllByRecursion (HasInterface c) v.items) vs
roots-held c es vs are held = all_from (λ v. AllByRecursion (HasInterface c) v.items) vs (λ k v at.
    let view = λ (x : Vec InterfaceId Global). x.items in
    let here : slice_get (map view vs) k ≡ Some v.items = get_map view vs k v at in
    let (class, known) = some-at (class_names by_names es) k (omega (arith, slice_get_within (map view vs) k v.items here, are.counted)) in
    subst (AllByRecursion (HasInterface c)) (sym (are.each k class v.items known here)) (fold-held c (map (λ e. e.kind) (members by_names es class)) [] tt (members-held c es class held)))

-- ---- what was written stays

held-at : (xs : List (Held Interface)) (i : ℕ) (it : Interface) → item_at xs i ≡ Some it → i < length xs
held-at xs i it at = by (slice_get xs i) refl at where
  by : (o : Option (Held Interface)) → slice_get xs i ≡ o → item_of o ≡ Some it → i < length xs
  by None is e = absurd (no_some it e)
  by (Some h) is e = slice_get_within xs i h is

pub still-written-all : (c m more : Collection) → IsExtended m more → (us : List Union) (ps : List Part) (bs : ClassBindings) (f : Fresh) (ids : List (Option Name)) (ws : List InterfaceId) → AreWritten c m us ps bs f ids ws → AreWritten c more us ps bs f ids ws
still-written-all c m more x us ps bs f ids ws h = record {
  written = λ u y at.
      let w = h.written u y at in
      (w.0, w.1, w.2, same_interface m more x w.0 (held-at m.interfaces (w.0).0 w.1 w.3) ∙ w.3, w.4, w.5, still-all-exported m more x c ps bs f ws u y.exports (w.1).exports w.6);
}

-- what lies in an item is given by what was written
pub written-given : (c m : Collection) (es : List Entry) (roots : List (List InterfaceId)) (us : List Union) (ps : List Part) (bs : ClassBindings) (f : Fresh) (ids : List (Option Name)) (ws : List InterfaceId)
    → length roots ≡ length (class_names by_names es) → AreUnions c roots us ps → AreWritten c m us ps bs f ids ws → (k : ℕ) (class : Name) (e : ItemKind) → slice_get (class_names by_names es) k ≡ Some class → IsGiven m e (slice_get ws k)
written-given c m es roots us ps bs f ids ws counted unions written k class e known = by e where
  root : (is : List InterfaceId) × (slice_get roots k ≡ Some is)
  root = some-at roots k (omega (arith, slice_get_within (class_names by_names es) k class known, counted))

  there : (j : InterfaceId) × (slice_get ws k ≡ Some j) × HasInterface m j
  there =
      let u = unions.rooted k root.0 root.1 in
      let w = written.written k u.0 u.1 in
      (w.0, w.2, held-at m.interfaces (w.0).0 w.1 w.3)

  by : (e : ItemKind) → IsGiven m e (slice_get ws k)
  by (kind.Instance i) = there
  by (kind.TypeItem (ty.Interface i)) = there
  by (kind.TypeItem (ty.Resource r)) = tt
  by (kind.TypeItem (ty.Func g)) = tt
  by (kind.TypeItem (ty.Value v)) = tt
  by (kind.TypeItem (ty.World w)) = tt
  by (kind.TypeItem (ty.Module y)) = tt
  by (kind.Func g) = tt
  by (kind.Component w) = tt
  by (kind.Module y) = tt
  by (kind.Value v) = tt

-- types may be renamed in each part
pub can-rename-all : (c m : Collection) (es : List Entry) (roots : List (List InterfaceId)) (us : List Union) (b : Became) → IsWellFormed c → IsSound c → IsExtended c m → AreBindings c es b.bindings.now
    → length roots ≡ length (class_names by_names es) → AreUnions c roots us b.parts.now → AreFresh c us b.bindings.now b.fresh.now m → AreHeld c es → AllMembersAgree by_names c es → AreBoundParts c b.parts.now b.bound.now → AreOutward b.parts.now b.bound.now b.outward.now → CanRenameAll m c b
can-rename-all c m es roots us b wf sound extended bindings counted unions fresh held agreed bound outward = record {
  extended = extended;
  ends = λ part is. became-ends c m es roots us b.parts.now b.bindings.now b.fresh.now wf sound extended bindings counted unions fresh (names-agree c es (none-disagrees c es (agreed-pairs c es agreed))) part;
  bound = bound;
  outward = outward;
  around = unions.around;
}

-- ---- all of it

pub merge-is : (c m : Collection) (es : List Entry) (roots : List (List InterfaceId)) (us : List Union) (ps : List Part) (bs : ClassBindings) (f : Fresh) (ids : List (Option Name)) (ws : List InterfaceId) (order : List ℕ) (imports : List Entry)
    → AreAssembled c m es roots us ps bs f ids ws order imports → AreDeep c m → AllMembersAgree by_names c es → IsMerge by_names c es (record { types = m; imports = imports })
merge-is c m es roots us ps bs f ids ws order imports all deep agreed = record {
  order = order;
  written = all.ordered;
  count = count c m es roots us ps bs f ids ws order imports all;
  names = names c m es roots us ps bs f ids ws order imports all;
  items = imports-are c m es roots us ps bs f ids ws order imports all deep (merged-kinds c m es roots us ps bs f ids ws order imports all);
  listed = listed c m es roots us ps bs f ids ws order imports all;
  subtypes = subtypes c m es roots us ps bs f ids ws order imports all deep agreed;
  equal = equal c m es roots us ps bs f ids ws order imports all deep agreed;
}
