-- The lowest fault of an item of the root.
use Rattle.std.proofs.Common.{Option, Some, None, ◌≡◌, ◌⊎◌, inl, inr, refl, ap, sym, ◌∙◌, subst}
use Rattle.wac_types_shapes.specs.primitives.Name.{option_case}
use Rattle.wac_types_shapes.specs.shapes.Kinds.{kind_type}
use Rattle.wac_types_shapes.specs.declared.shapes.component.InterfaceId.{InterfaceId}
use Rattle.wac_types_shapes.specs.declared.shapes.component.ItemKind.{ItemKind}
use Rattle.wac_types_shapes.specs.declared.shapes.component.World.{World}
use Rattle.wac_types_shapes.specs.declared.shapes.component.WorldId.{WorldId}
use Rattle.wac_types_shapes.specs.declared.shapes.component.«Type».{«Type» as AnyType}
use Rattle.wac_types_shapes.specs.declared.shapes.component.«Type».TheVariants as ty
use Rattle.wac_types_collection.specs.collection.Bound.{Bindings}
use Rattle.wac_types_collection.specs.collection.Collection.{Collection, item_at}
use Rattle.wac_encode_faults.specs.declared.fault.WriteFault.{WriteFault}
use Rattle.wac_encode_faults.specs.declared.fault.WriteFault.TheVariants as fault
use Rattle.wac_encode_faults.specs.Faults.{IsLowest, import_fault, definition_fault, IsFaultInside, IsSidesFault, IsImportFault, own, unbound, inside, IsDefinedFault, IsDefinitionFault}
use Rattle.wac_encode_faults.specs.Free.{IsUnbound}
use Rattle.wac_encode_faults.specs.Sides.{Sides, interface_sides, completed_sides, defined_sides}
use Rattle.wac_encode_faults.specs.private.Search.{lower_of}
use Rattle.wac_encode_faults.proofs.Lowest.{lowest_same, lowest_itself, lowest_of_both}

module _ (c : Collection) (root : Bindings) where
  pub lowest_import : (k : ItemKind) (a b : Option WriteFault) → IsLowest (λ f. IsUnbound c root (kind_type k) × (fault.UnboundResource ≡ f)) a → IsLowest (IsFaultInside c (kind_type k)) b
      → IsLowest (IsImportFault c root k) (lower_of (lower_of (import_fault k) a) b)
  lowest_import k a b first second =
      lowest_same (λ f. ((import_fault k ≡ Some f) ⊎ (IsUnbound c root (kind_type k) × (fault.UnboundResource ≡ f))) ⊎ IsFaultInside c (kind_type k) f) (IsImportFault c root k) (lower_of (lower_of (import_fault k) a) b) (λ f. (to f, from f))
      (lowest_of_both (λ f. (import_fault k ≡ Some f) ⊎ (IsUnbound c root (kind_type k) × (fault.UnboundResource ≡ f))) (IsFaultInside c (kind_type k)) (lower_of (import_fault k) a) b
      (lowest_of_both (λ f. import_fault k ≡ Some f) (λ f. IsUnbound c root (kind_type k) × (fault.UnboundResource ≡ f)) (import_fault k) a (lowest_itself (import_fault k)) first) second)
    where
      to : (f : WriteFault) → ((import_fault k ≡ Some f) ⊎ (IsUnbound c root (kind_type k) × (fault.UnboundResource ≡ f))) ⊎ IsFaultInside c (kind_type k) f → IsImportFault c root k f
      to f (inl (inl e)) = own f e
      to f (inl (inr (h, same))) = subst (IsImportFault c root k) same (unbound h)
      to f (inr h) = inside f h

      from : (f : WriteFault) → IsImportFault c root k f → ((import_fault k ≡ Some f) ⊎ (IsUnbound c root (kind_type k) × (fault.UnboundResource ≡ f))) ⊎ IsFaultInside c (kind_type k) f
      from _ (own f e) = inl (inl e)
      from _ (unbound h) = inl (inr (h, refl))
      from _ (inside f h) = inr h

  pub lowest_definition : (t : AnyType) (o : Option WriteFault) → IsLowest (IsDefinedFault c root t (defined_sides c t)) o → IsLowest (IsDefinitionFault c root t) (lower_of (definition_fault c t) o)
  lowest_definition t o low = lowest_of_both (λ f. definition_fault c t ≡ Some f) (IsDefinedFault c root t (defined_sides c t)) (definition_fault c t) o (lowest_itself (definition_fault c t)) low

  -- of a type that is a component type as a definition
  pub defined_as : (t : AnyType) (s : Sides) (o : Option WriteFault) → defined_sides c t ≡ Some s → IsLowest (IsSidesFault c s) o → IsLowest (IsDefinedFault c root t (defined_sides c t)) o
  defined_as t s o is low = subst (λ d. IsLowest (IsDefinedFault c root t d) o) (sym is) low

  -- of any other type
  pub defined_plain : (t : AnyType) (o : Option WriteFault) → ((i : InterfaceId) → t ≡ ty.Interface i → ⊥) → ((w : WorldId) → t ≡ ty.World w → ⊥) → IsLowest (λ f. IsUnbound c root t × (fault.UnboundResource ≡ f)) o
      → IsLowest (IsDefinedFault c root t (defined_sides c t)) o
  defined_plain t o not_interface not_world low =
      subst (λ d. IsLowest (IsDefinedFault c root t d) o) (sym (no_sides t not_interface not_world))
      (lowest_same (λ f. IsUnbound c root t × (fault.UnboundResource ≡ f)) (λ f. IsUnbound c root t × (f ≡ fault.UnboundResource)) o (λ f. (λ h. (h.0, sym h.1), λ h. (h.0, sym h.1))) low)
    where
      no_sides : (u : AnyType) → ((i : InterfaceId) → u ≡ ty.Interface i → ⊥) → ((w : WorldId) → u ≡ ty.World w → ⊥) → defined_sides c u ≡ None
      no_sides (ty.Interface i) first second = absurd (first i refl)
      no_sides (ty.World w) first second = absurd (second w refl)
      no_sides (ty.Resource r) first second = refl
      no_sides (ty.Func r) first second = refl
      no_sides (ty.Value r) first second = refl
      no_sides (ty.Module r) first second = refl

pub interface_defined : (c : Collection) (t : AnyType) (i : InterfaceId) → t ≡ ty.Interface i → defined_sides c t ≡ Some (interface_sides c i)
interface_defined c t i is = ap (defined_sides c) is

pub world_defined : (c : Collection) (t : AnyType) (w : WorldId) (x : World) → t ≡ ty.World w → item_at c.worlds w.0 ≡ Some x → defined_sides c t ≡ Some (completed_sides c x)
world_defined c t w x is at = ap (defined_sides c) is ∙ ap (λ (o : Option World). option_case o None (λ x. Some (completed_sides c x))) at
