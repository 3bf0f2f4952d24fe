-- What is looked up of what classes bind is what they bind.
use Rattle.std.proofs.Common.{◌≡◌, ℕ, suc, Bool, true, false, List, [], ◌∷◌, Option, Some, None, refl, sym, ◌∙◌}
use Rattle.std.specs.Prelude.{◌↔◌}
use Rattle.std.proofs.lemmas.Bool.{false≢true}
use Rattle.wac_types_shapes.specs.primitives.Name.{Name, option_case}
use Rattle.wac_types_collection.specs.collection.Collection.{Collection}
use Rattle.wac_types_shapes.specs.declared.shapes.component.ResourceId.{ResourceId}
use Rattle.wac_merge_classes.specs.entries.Binding.{binding_from, class_binds}
use Rattle.wac_merge_classes.specs.entries.Bindings.{AreBindings, ClassBindings}
use Rattle.wac_merge_classes.specs.entries.Classes.{Entry, by_names, class_names}
use Rattle.wac_merge_classes.specs.terms.Merge.{Merged, bound_resource}
use Rattle.wac_merge_classes.proofs.lemmas.terms.Found.{no_some}
use Rattle.wac_merge_imports.specs.unions.MergedScope.{BindsUnder, IsBoundAs}

-- ---- bindings are those of a collection in which classes bind the same
module _ (c m : Collection) (es : List Entry) (same : (class : Name) (r : ResourceId) → class_binds by_names m es class r ≡ class_binds by_names c es class r) where
  from-kept : (k : ℕ) (classes : List Name) (r : ResourceId) → binding_from by_names m es k classes r ≡ binding_from by_names c es k classes r
  from-kept k [] r = refl
  from-kept k (class ∷ rest) r =
      let here = same class r in
      let later = from-kept (suc k) rest r in
      (λ i. option_case (here i) (later i) (λ path. Some (k, path)))

  pub bindings-kept : (b : ClassBindings) → AreBindings c es b → AreBindings m es b
  bindings-kept b are = record {
    paths = λ k n r at. are.paths k n r at ∙ sym (same n r);
    firsts = λ r. are.firsts r ∙ sym (from-kept 0 (class_names by_names es) r);
  }

-- ---- what the import of an id binds
module _ (es : List Entry) (m : Merged) (id n : Name) (t : Bool) (binds : (t ≡ true) ↔ BindsUnder by_names m.types es id n) where
  pub bound-own : t ≡ true → (o : Option ResourceId) → o ≡ bound_resource m id n → (q : ResourceId) → (o ≡ Some q) ↔ IsBoundAs by_names es m id n q
  bound-own is o own q = (λ h. (sym own ∙ h, binds.0 is), λ (h, w). own ∙ h)

  pub bound-nothing : t ≡ false → (q : ResourceId) → (None ≡ Some q) ↔ IsBoundAs by_names es m id n q
  bound-nothing is q = (λ h. absurd (no_some q h), λ (h, w). absurd (false≢true (sym is ∙ binds.1 w)))
