-- Where all of a merge is made, its collection holds each import.
use Rattle.std.proofs.Common.{◌≡◌, ℕ, ◌<◌, nat_lt, true, List, length, Option, Some, None, slice_get, refl, sym, subst, arith}
use Rattle.std.specs.Option.{MatchOption}
use Rattle.std.proofs.lemmas.Option.{slice_get_within}
use Rattle.wac_types_shapes.specs.primitives.Name.{Name}
use Rattle.wac_types_shapes.specs.shapes.Kinds.{kind_type}
use Rattle.wac_types_collection.specs.collection.Collection.{Collection, HasInterface, holds_type}
use Rattle.wac_types_shapes.specs.declared.shapes.component.InterfaceId.{InterfaceId}
use Rattle.wac_types_shapes.specs.declared.shapes.component.ModuleTypeId.{ModuleTypeId}
use Rattle.wac_types_shapes.specs.declared.shapes.component.ResourceId.{ResourceId}
use Rattle.wac_types_shapes.specs.declared.shapes.component.WorldId.{WorldId}
use Rattle.wac_types_shapes.specs.declared.shapes.component.«Type».TheVariants as ty
use Rattle.wac_types_shapes.specs.declared.shapes.component.ItemKind.{ItemKind}
use Rattle.wac_types_shapes.specs.declared.shapes.component.ItemKind.TheVariants as kind
use Rattle.wac_merge_classes.specs.entries.Bindings.{AreHeld, ClassBindings}
use Rattle.wac_merge_classes.specs.entries.Classes.{Entry, by_names, class_names}
use Rattle.wac_merge_classes.proofs.lemmas.entries.Lists.{some-at}
use Rattle.wac_merge_classes.specs.terms.Became.{became, whole_in}
use Rattle.wac_merge_classes.specs.terms.Writing.{IsGiven, IsWrittenAs}
use Rattle.wac_merge_classes.specs.declared.terms.fresh.Fresh.{Fresh}
use Rattle.wac_merge_classes.specs.declared.terms.parts.Part.{Part}
use Rattle.wac_merge_classes.specs.declared.terms.parts.Union.{Union}
use Rattle.wac_merge_classes.proofs.lemmas.terms.Found.{one_some}
use Rattle.wac_merge_tables.proofs.lemmas.made.Extending.{still_holds}
use Rattle.wac_merge_trees.proofs.lemmas.trees.UnionTreesParts.{contains_at}
use Rattle.wac_merge_imports.proofs.lemmas.unions.Assembled.{AreAssembled}
use Rattle.wac_merge_imports.proofs.lemmas.unions.AssembledMerge.{written-given}

low-true : (i n : ℕ) → i < n → nat_lt i n ≡ true
low-true i n low = grind (arith, low)

module _ (c m : Collection) (es : List Entry) (roots : List (List InterfaceId)) (us : List Union) (ps : List Part) (bs : ClassBindings) (f : Fresh) (ids : List (Option Name)) (ws : List InterfaceId) (order : List ℕ) (imports : List Entry)
    (all : AreAssembled c m es roots us ps bs f ids ws order imports) where
  -- the interface that is given
  given-held : (o : Option InterfaceId) (i : InterfaceId) → (j : InterfaceId) × (o ≡ Some j) × HasInterface m j → o ≡ Some i → holds_type m (ty.Interface i) ≡ true
  given-held o i (j, at, low) is = subst (λ (k : InterfaceId). holds_type m (ty.Interface k) ≡ true) (one_some o j i at is) (low-true j.0 (length m.interfaces) low)

  world-held : (w v : WorldId) → holds_type c (ty.World w) ≡ true → w ≡ v → holds_type m (ty.World v) ≡ true
  world-held w v held same = subst (λ (k : WorldId). holds_type m (ty.World k) ≡ true) same (still_holds c m all.extended (ty.World w) held)

  module-held : (w v : ModuleTypeId) → holds_type c (ty.Module w) ≡ true → w ≡ v → holds_type m (ty.Module v) ≡ true
  module-held w v held same = subst (λ (k : ModuleTypeId). holds_type m (ty.Module k) ≡ true) same (still_holds c m all.extended (ty.Module w) held)

  -- what an item became
  written-held : (g : ResourceId → ResourceId) (o : Option InterfaceId) (n : Name) (k l : ItemKind) → IsGiven m k o → holds_type c (kind_type k) ≡ true → IsWrittenAs c m g o n k l → holds_type m (kind_type l) ≡ true
  written-held g o n (kind.TypeItem (ty.Resource q)) (kind.TypeItem (ty.Resource a)) given held w = low-true a.0 (length m.resources) w.there
  written-held g o n (kind.TypeItem (ty.Interface i)) (kind.TypeItem (ty.Interface j)) given held w = given-held o j given w
  written-held g o n (kind.TypeItem (ty.Func x)) (kind.TypeItem (ty.Func y)) given held w = w.held
  written-held g o n (kind.TypeItem (ty.Value x)) (kind.TypeItem (ty.Value y)) given held w = w.held
  written-held g o n (kind.TypeItem (ty.World x)) (kind.TypeItem (ty.World y)) given held w = world-held x y held w
  written-held g o n (kind.TypeItem (ty.Module x)) (kind.TypeItem (ty.Module y)) given held w = module-held x y held w
  written-held g o n (kind.Func x) (kind.Func y) given held w = w.held
  written-held g o n (kind.Instance i) (kind.Instance j) given held w = given-held o j given w
  written-held g o n (kind.Component x) (kind.Component y) given held w = world-held x y held w
  written-held g o n (kind.Module x) (kind.Module y) given held w = module-held x y held w
  written-held g o n (kind.Value x) (kind.Value y) given held w = w.held
  written-held g o n k l given held w = absurd w

  -- what a class became
  class-held : (k i : ℕ) (class : Name) (e : Entry) (l : ItemKind) → slice_get (class_names by_names es) k ≡ Some class → slice_get es i ≡ Some e
      → (o : Option ResourceId) → whole_in f k ≡ o → MatchOption o (IsWrittenAs c m (became c ps bs f None) (slice_get ws k) e.name e.kind l) (λ q. l ≡ kind.TypeItem (ty.Resource q)) → holds_type m (kind_type l) ≡ true
  class-held k i class e l known there None is h =
      let given = written-given c m es roots us ps bs f ids ws all.merged.counted all.merged.unions all.merged.written k class e.kind known in
      written-held (became c ps bs f None) (slice_get ws k) e.name e.kind l given (all.held i e there) h
  class-held k i class e l known there (Some q) is h =
      let new = all.merged.fresh.whole k q is in
      subst (λ (x : ItemKind). holds_type m (kind_type x) ≡ true) (sym h) (low-true q.0 (length m.resources) (new.2).there)

  pub imports-held : AreHeld m imports
  imports-held p e at =
      let counted = all.imported.counted in
      let less = slice_get_within imports p e at in
      let k = some-at order p (omega (arith, less, counted)) in
      let class = some-at (class_names by_names es) k.0 ((all.each k.0).0 (contains_at order p k.0 k.1)) in
      let w = all.imported.each p k.0 class.0 e k.1 class.1 at in
      class-held k.0 w.0 class.0 w.1 e.kind class.1 w.2 (whole_in f k.0) refl w.6
