-- What is known once all of a merge is made.
use Rattle.std.proofs.Common.{◌≡◌, ℕ, ◌<◌, ◌↔◌, List, Option, Some, length, slice_get}
use Rattle.std.specs.Prelude.{Contains}
use Rattle.wac_types_shapes.specs.primitives.Name.{Name}
use Rattle.wac_types_collection.specs.collection.Collection.{Collection}
use Rattle.wac_types_collection.specs.collection.Bound.{by_place}
use Rattle.wac_types_collection.specs.collection.Uses.{IsSound}
use Rattle.wac_types_shapes.specs.declared.shapes.component.InterfaceId.{InterfaceId}
use Rattle.wac_types_collection.specs.subtyping.Called.{by_binding}
use Rattle.wac_types_collection.specs.subtyping.Subtype.{by_name}
use Rattle.wac_types_collection.specs.subtyping.TreeLaws.{IsDeepEnough}
use Rattle.wac_merge_classes.specs.entries.Bindings.{AreHeld, ClassBindings}
use Rattle.wac_merge_classes.specs.entries.Classes.{Entry, by_names, class_names}
use Rattle.wac_merge_classes.specs.terms.ClassOrder.{IsWrittenOrder}
use Rattle.wac_merge_imports.specs.unions.MergedClasses.{AreAgreed, AreIds, AreImports, AreRoots}
use Rattle.wac_types_collection.specs.private.subtyping.Extended.{IsExtended}
use Rattle.wac_merge_classes.specs.declared.terms.fresh.Fresh.{Fresh}
use Rattle.wac_merge_classes.specs.declared.terms.parts.Part.{Part}
use Rattle.wac_merge_classes.specs.declared.terms.parts.Union.{Union}
use Rattle.wac_merge_imports.proofs.lemmas.fitting.Fitting.{AreMerged}

pub record AreAssembled (c m : Collection) (es : List Entry) (roots : List (List InterfaceId)) (us : List Union) (ps : List Part) (bs : ClassBindings) (f : Fresh) (ids : List (Option Name)) (ws : List InterfaceId) (order : List ℕ) (imports : List Entry) : Type 0 where
  pub merged : AreMerged c m es roots us ps bs f ids ws
  pub extended : IsExtended c m
  pub sound : IsSound c
  pub held : AreHeld c es
  pub agreed : AreAgreed c es
  pub rooted : AreRoots es roots
  pub identified : AreIds c es us ps ids
  pub imported : AreImports c m es ps bs f ws order imports
  pub ordered : IsWrittenOrder by_names c es order
  pub each : (k : ℕ) → (Contains order k ↔ k < length (class_names by_names es))
  pub once : (i j k : ℕ) → slice_get order i ≡ Some k → slice_get order j ≡ Some k → i ≡ j

-- each unfolding is deep enough
pub record AreDeep (c m : Collection) : Type 1 where
  pub placed : IsDeepEnough (by_place c) c
  pub merged_placed : IsDeepEnough (by_place m) m
  pub bound : IsDeepEnough (by_binding c) c
  pub named : IsDeepEnough by_name c
  pub merged_named : IsDeepEnough by_name m
