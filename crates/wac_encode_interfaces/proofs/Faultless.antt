-- Items of which no fault is the lowest.
use Rattle.std.proofs.Common.{◌≡◌, Option, Some, None, inl, inr, refl}
use Rattle.wac_types_shapes.specs.primitives.Tree.{Leaf}
use Rattle.wac_types_shapes.specs.shapes.Kinds.{kind_type}
use Rattle.wac_types_shapes.specs.declared.shapes.component.«Type».{«Type» as AnyType}
use Rattle.wac_types_collection.specs.collection.Collection.{Collection}
use Rattle.wac_types_collection.specs.collection.Bound.{Bindings}
use Rattle.wac_encode_faults.specs.declared.fault.WriteFault.{WriteFault}
use Rattle.wac_encode_faults.specs.declared.fault.WriteFault.TheVariants as fault
use Rattle.wac_encode_faults.specs.declared.faults.Role.TheVariants as role
use Rattle.wac_encode_faults.specs.Faults.{IsImportFault, IsDefinedFault, import_fault, definition_fault}
use Rattle.wac_encode_faults.specs.Free.{IsUnbound}
use Rattle.wac_encode_faults.specs.Sides.{Sides, defined_sides}
use Rattle.wac_encode_interfaces.specs.private.Clean.{BindsFree, AreCleanOrBound, IsImportOfNoFault, IsDefinitionOfNoFault}

never-some : (o : Option WriteFault) → ((f : WriteFault) → o ≡ Some f → ⊥) → o ≡ None
never-some None h = refl
never-some (Some f) h = absurd (h f refl)

never-none : (o : Option Leaf) → (o ≡ None → ⊥) → (l : Leaf) × (o ≡ Some l)
never-none None h = absurd (h refl)
never-none (Some l) h = (l, refl)

binds-free : (c : Collection) (m : Bindings) (t : AnyType) → (IsUnbound c m t → ⊥) → BindsFree c m t
binds-free c m t h r free = never-none (m r) (λ (miss : m r ≡ None). h (r, free, miss))

pub import_of_none : IsImportOfNoFault
import_of_none c root k none = record {
  own = never-some (import_fault k) (λ f is. none f (IsImportFault.own f is));
  inside = λ f is. none f (IsImportFault.inside f is);
  bound = binds-free c root (kind_type k) (λ is. none fault.UnboundResource (IsImportFault.unbound is));
}

parts-of-none : (c : Collection) (root : Bindings) (t : AnyType) (o : Option Sides) → ((f : WriteFault) → IsDefinedFault c root t o f → ⊥) → AreCleanOrBound c root t o
parts-of-none c root t None h = binds-free c root t (λ is. h fault.UnboundResource (is, refl))
parts-of-none c root t (Some s) h = h

pub definition_of_none : IsDefinitionOfNoFault
definition_of_none c root k none = record {
  own = never-some (definition_fault c (kind_type k)) (λ f is. none f (inl is));
  parts = parts-of-none c root (kind_type k) (defined_sides c (kind_type k)) (λ f is. none f (inr is));
}
