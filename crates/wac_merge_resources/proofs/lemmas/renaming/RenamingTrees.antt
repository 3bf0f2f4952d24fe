-- The trees of types whose resources became others.
use Rattle.std.proofs.Common.{◌≡◌, ℕ, suc, ◌<◌, length, Option, Some, None, true, nat_lt, refl, ap, sym, ◌∙◌, subst, arith}
use Rattle.std.specs.Prelude.{slice_get}
use Rattle.std.specs.List.{AllByRecursion}
use Rattle.wac_types_shapes.specs.primitives.Name.{option_case}
use Rattle.wac_types_shapes.specs.primitives.Tree.{TypeTree, absent, own, borrow}
use Rattle.wac_types_collection.specs.collection.Collection.{Collection, HasResource, defined_values, func_values, holds_type, item_at, item_of, size}
use Rattle.wac_types_collection.specs.collection.Held.{Naming, Names, defined_tree, func_tree, of_held, resolved, unfolded}
use Rattle.wac_types_collection.specs.collection.Bound.{by_place, held_tree}
use Rattle.wac_types_collection.specs.subtyping.Subtype.{by_name, resource_names, type_tree}
use Rattle.wac_types_collection.specs.subtyping.TreeLaws.{IsDeepEnough}
use Rattle.wac_types_collection.specs.declared.collection.collection.Held.{Held}
use Rattle.wac_types_shapes.specs.declared.shapes.component.DefinedType.{DefinedType}
use Rattle.wac_types_shapes.specs.declared.shapes.component.DefinedType.TheVariants as def
use Rattle.wac_types_shapes.specs.declared.shapes.component.DefinedTypeId.{DefinedTypeId}
use Rattle.wac_types_shapes.specs.declared.shapes.component.FuncType.{FuncType}
use Rattle.wac_types_shapes.specs.declared.shapes.component.FuncTypeId.{FuncTypeId}
use Rattle.wac_types_shapes.specs.declared.primitives.component.PrimitiveType.{PrimitiveType}
use Rattle.wac_types_shapes.specs.declared.shapes.component.ResourceId.{ResourceId}
use Rattle.wac_types_shapes.specs.declared.shapes.component.ValueType.{ValueType}
use Rattle.wac_types_shapes.specs.declared.shapes.component.ValueType.TheVariants as val
use Rattle.wac_types_shapes.specs.declared.shapes.component.«Type».TheVariants as ty
use Rattle.wac_merge_classes.specs.terms.Renaming.{AreEnds, IsRenamed}
use Rattle.wac_merge_resources.specs.private.renaming.RenamingSteps.{FieldsGoTogether, GoTogether, HaveOneShape, IsRenamedValue}
use Rattle.wac_merge_resources.proofs.lemmas.renaming.RenamingShapes.{func_all, func_same, shape_all, shape_same}
use Rattle.wac_merge_tables.proofs.lemmas.made.Extending.{within_held}

low_tested : (a b : ℕ) → a < b → nat_lt a b ≡ true
low_tested a b h = grind (arith, h)

pub tested_low : (a b : ℕ) → nat_lt a b ≡ true → a < b
tested_low a b h = grind (arith, h)

-- ---- values
pub primitive_renamed : (c m : Collection) (f : ResourceId → ResourceId) (p : PrimitiveType) → IsRenamedValue c m f (val.Primitive p) (val.Primitive p)
unfolding type_tree held_tree
primitive_renamed c m f p = record { held = refl; placed = λ n around fits. refl; named = refl }

module _ (c m : Collection) (f : ResourceId → ResourceId) (ends : AreEnds c m f) (r q : ResourceId) (h : HasResource c r) (is : q ≡ f (resolved c r)) where
  end_is : resolved m q ≡ f (resolved c r)
  end_is = ap (resolved m) is ∙ (ends r h).1

  end_low : q.0 < length m.resources
  end_low = subst (HasResource m) (sym is) (ends r h).0

  name_is : resource_names m (resolved m q) ≡ resource_names c (resolved c r)
  name_is = ap (resource_names m) end_is ∙ (ends r h).2

  pub own_renamed : IsRenamedValue c m f (val.Own r) (val.Own q)
  unfolding type_tree held_tree
  own_renamed = record {
    held = low_tested q.0 (length m.resources) end_low;
    placed = λ n around fits. ap (λ o. option_case o absent own) (ap around end_is ∙ fits r h);
    named = ap (λ o. option_case o absent own) name_is;
  }

  pub borrow_renamed : IsRenamedValue c m f (val.Borrow r) (val.Borrow q)
  unfolding type_tree held_tree
  borrow_renamed = record {
    held = low_tested q.0 (length m.resources) end_low;
    placed = λ n around fits. ap (λ o. option_case o absent borrow) (ap around end_is ∙ fits r h);
    named = ap (λ o. option_case o absent borrow) name_is;
  }

-- ---- definitions and function types
held_is : {A L : Type 0} (t : A → TypeTree L) (o : Option (Held A)) (x : A) → item_of o ≡ Some x → of_held t o ≡ t x
held_is t None x e = cc
held_is t (Some h) x e = let same : h.item ≡ x = cc in ap t same

module _ {L : Type 0} (naming : Naming L) (c : Collection) (deep : IsDeepEnough naming c) (n : Names L) where
  defined_is : (d : DefinedTypeId) (x : DefinedType) → item_at c.defined d.0 ≡ Some x → unfolded naming c n (ty.Value (val.Defined d)) ≡ defined_tree (λ v. unfolded naming c n (ty.Value v)) x
  defined_is d x at =
      sym (deep (suc (suc (size c))) (omega arith) n (ty.Value (val.Defined d)) (low_tested d.0 (length c.defined) (within_held c.defined d.0 x at)))
      ∙ held_is (defined_tree (λ v. unfolded naming c n (ty.Value v))) (slice_get c.defined d.0) x at

  func_is : (f : FuncTypeId) (x : FuncType) → item_at c.funcs f.0 ≡ Some x → unfolded naming c n (ty.Func f) ≡ func_tree (λ v. unfolded naming c n (ty.Value v)) x
  func_is f x at =
      sym (deep (suc (suc (size c))) (omega arith) n (ty.Func f) (low_tested f.0 (length c.funcs) (within_held c.funcs f.0 x at)))
      ∙ held_is (func_tree (λ v. unfolded naming c n (ty.Value v))) (slice_get c.funcs f.0) x at

-- a depth that is enough for both namings
pub record AreWhole (c : Collection) : Type 0 where
  pub named : IsDeepEnough by_name c
  pub placed : IsDeepEnough (by_place c) c

module _ (c m : Collection) (f : ResourceId → ResourceId) (wc : AreWhole c) (wm : AreWhole m) where
  -- a definition became another whose value types are what its own became
  pub defined_renamed : (d e : DefinedTypeId) (x y : DefinedType) → item_at c.defined d.0 ≡ Some x → item_at m.defined e.0 ≡ Some y → HaveOneShape (IsRenamedValue c m f) x y → IsRenamedValue c m f (val.Defined d) (val.Defined e)
  unfolding type_tree held_tree
  defined_renamed d e x y at there shape = record {
    held = low_tested e.0 (length m.defined) (within_held m.defined e.0 y there);
    placed = λ n around fits.
        defined_is (by_place m) m wm.placed around e y there
        ∙ shape_same (IsRenamedValue c m f) (λ v. unfolded (by_place m) m around (ty.Value v)) (λ v. unfolded (by_place c) c n (ty.Value v)) (λ v w r. r.placed n around fits) x y shape
        ∙ sym (defined_is (by_place c) c wc.placed n d x at);
    named =
        defined_is by_name m wm.named (resource_names m) e y there
        ∙ shape_same (IsRenamedValue c m f) (λ v. unfolded by_name m (resource_names m) (ty.Value v)) (λ v. unfolded by_name c (resource_names c) (ty.Value v)) (λ v w r. r.named) x y shape
        ∙ sym (defined_is by_name c wc.named (resource_names c) d x at);
  }

  -- so did a function type
  pub func_renamed : (g k : FuncTypeId) (x y : FuncType) → item_at c.funcs g.0 ≡ Some x → item_at m.funcs k.0 ≡ Some y → FieldsGoTogether (IsRenamedValue c m f) x.params y.params → GoTogether (IsRenamedValue c m f) x.result y.result → y.is_async ≡ x.is_async
      → IsRenamed c m f (ty.Func g) (ty.Func k)
  unfolding type_tree held_tree
  func_renamed g k x y at there fields result same = record {
    held = low_tested k.0 (length m.funcs) (within_held m.funcs k.0 y there);
    placed = λ n around fits.
        func_is (by_place m) m wm.placed around k y there
        ∙ func_same (IsRenamedValue c m f) (λ v. unfolded (by_place m) m around (ty.Value v)) (λ v. unfolded (by_place c) c n (ty.Value v)) (λ v w r. r.placed n around fits) x y fields result same
        ∙ sym (func_is (by_place c) c wc.placed n g x at);
    named =
        func_is by_name m wm.named (resource_names m) k y there
        ∙ func_same (IsRenamedValue c m f) (λ v. unfolded by_name m (resource_names m) (ty.Value v)) (λ v. unfolded by_name c (resource_names c) (ty.Value v)) (λ v w r. r.named) x y fields result same
        ∙ sym (func_is by_name c wc.named (resource_names c) g x at);
  }

module _ (c m : Collection) (f : ResourceId → ResourceId) (wc : AreWhole c) where
  -- an alias became what its end became
  pub alias_renamed : (d : DefinedTypeId) (v w : ValueType) → item_at c.defined d.0 ≡ Some (def.Alias v) → IsRenamedValue c m f v w → IsRenamedValue c m f (val.Defined d) w
  unfolding type_tree held_tree
  alias_renamed d v w at r = record {
    held = r.held;
    placed = λ n around fits. r.placed n around fits ∙ sym (defined_is (by_place c) c wc.placed n d (def.Alias v) at);
    named = r.named ∙ sym (defined_is by_name c wc.named (resource_names c) d (def.Alias v) at);
  }

-- what mentions renamed values alone mentions held ones
module _ (c m : Collection) (f : ResourceId → ResourceId) where
  pub shape_held : (x y : DefinedType) → HaveOneShape (IsRenamedValue c m f) x y → AllByRecursion (λ v. holds_type m (ty.Value v) ≡ true) (defined_values y)
  shape_held x y shape = shape_all (IsRenamedValue c m f) (λ v. holds_type m (ty.Value v) ≡ true) (λ v w r. r.held) x y shape

  pub func_held : (x y : FuncType) → FieldsGoTogether (IsRenamedValue c m f) x.params y.params → GoTogether (IsRenamedValue c m f) x.result y.result → AllByRecursion (λ v. holds_type m (ty.Value v) ≡ true) (func_values y)
  func_held x y fields result = func_all (IsRenamedValue c m f) (λ v. holds_type m (ty.Value v) ≡ true) (λ v w r. r.held) x y fields result
