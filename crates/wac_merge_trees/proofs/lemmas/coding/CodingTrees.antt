-- The trees of held types, one id unfolded.
use Rattle.std.proofs.Common.{◌≡◌, ℕ, suc, ◌<◌, length, Option, Some, None, true, nat_lt, refl, ap, sym, ◌∙◌, arith}
use Rattle.std.specs.Prelude.{slice_get}
use Rattle.wac_types_shapes.specs.primitives.Name.{option_case}
use Rattle.wac_types_shapes.specs.primitives.Tree.{TypeTree, absent, resource, primitive, own, borrow}
use Rattle.wac_types_collection.specs.subtyping.Called.{Called, by_binding}
use Rattle.wac_types_collection.specs.collection.Collection.{Collection, size, item_at, item_of, HasDefined, HasFunc}
use Rattle.wac_types_collection.specs.collection.Held.{Names, resolved, defined_tree, func_tree, module_tree, of_held, unfolded}
use Rattle.wac_types_collection.specs.subtyping.TreeLaws.{IsDeepEnough}
use Rattle.wac_types_collection.specs.declared.collection.collection.Held.{Held}
use Rattle.wac_types_shapes.specs.declared.primitives.component.PrimitiveType.{PrimitiveType}
use Rattle.wac_types_shapes.specs.declared.shapes.component.ResourceId.{ResourceId}
use Rattle.wac_types_shapes.specs.declared.shapes.component.DefinedType.{DefinedType}
use Rattle.wac_types_shapes.specs.declared.shapes.component.DefinedTypeId.{DefinedTypeId}
use Rattle.wac_types_shapes.specs.declared.shapes.component.FuncType.{FuncType}
use Rattle.wac_types_shapes.specs.declared.shapes.component.FuncTypeId.{FuncTypeId}
use Rattle.wac_types_shapes.specs.declared.shapes.core_types.ModuleType.{ModuleType}
use Rattle.wac_types_shapes.specs.declared.shapes.component.ModuleTypeId.{ModuleTypeId}
use Rattle.wac_types_shapes.specs.declared.shapes.component.ValueType.TheVariants as val
use Rattle.wac_types_shapes.specs.declared.shapes.component.«Type».{«Type» as AnyType}
use Rattle.wac_types_shapes.specs.declared.shapes.component.«Type».TheVariants as ty
use Rattle.wac_merge_trees.specs.private.coding.Coding.{tree_in, values_of}

-- what it is in full
pub tree_is : (c : Collection) (m : Names Called) (t : AnyType) → tree_in c m t ≡ unfolded (by_binding c) c m t
unfolding tree_in
tree_is c m t = refl

pub resource_is : (c : Collection) (m : Names Called) (r : ResourceId) (x : Called) → m (resolved c r) ≡ Some x → tree_in c m (ty.Resource r) ≡ resource x
unfolding tree_in
resource_is c m r x e = ap (λ o. option_case o absent resource) e

pub primitive_is : (c : Collection) (m : Names Called) (p : PrimitiveType) → tree_in c m (ty.Value (val.Primitive p)) ≡ primitive p
unfolding tree_in
primitive_is c m p = refl

pub own_is : (c : Collection) (m : Names Called) (r : ResourceId) (x : Called) → m (resolved c r) ≡ Some x → tree_in c m (ty.Value (val.Own r)) ≡ own x
unfolding tree_in
own_is c m r x e = ap (λ o. option_case o absent own) e

pub borrow_is : (c : Collection) (m : Names Called) (r : ResourceId) (x : Called) → m (resolved c r) ≡ Some x → tree_in c m (ty.Value (val.Borrow r)) ≡ borrow x
unfolding tree_in
borrow_is c m r x e = ap (λ o. option_case o absent borrow) e

held_is : {A B : Type 0} (t : A → TypeTree B) (o : Option (Held A)) (x : A) → item_of o ≡ Some x → of_held t o ≡ t x
held_is t None x e = cc
held_is t (Some h) x e = ap t (inner e) where
  inner : item_of (Some h) ≡ Some x → h.item ≡ x
  inner e = cc

low_tested : (a b : ℕ) → a < b → nat_lt a b ≡ true
low_tested a b h = grind arith

pub defined_is : (c : Collection) (m : Names Called) → IsDeepEnough (by_binding c) c → (d : DefinedTypeId) (x : DefinedType) → HasDefined c d → item_at c.defined d.0 ≡ Some x
    → tree_in c m (ty.Value (val.Defined d)) ≡ defined_tree (values_of (tree_in c m)) x
unfolding tree_in
defined_is c m deep d x held at =
    sym (deep (suc (suc (size c))) (omega arith) m (ty.Value (val.Defined d)) (low_tested d.0 (length c.defined) held))
    ∙ held_is (defined_tree (λ v. unfolded (by_binding c) c m (ty.Value v))) (slice_get c.defined d.0) x at

pub func_is : (c : Collection) (m : Names Called) → IsDeepEnough (by_binding c) c → (f : FuncTypeId) (x : FuncType) → HasFunc c f → item_at c.funcs f.0 ≡ Some x
    → tree_in c m (ty.Func f) ≡ func_tree (values_of (tree_in c m)) x
unfolding tree_in
func_is c m deep f x held at =
    sym (deep (suc (suc (size c))) (omega arith) m (ty.Func f) (low_tested f.0 (length c.funcs) held))
    ∙ held_is (func_tree (λ v. unfolded (by_binding c) c m (ty.Value v))) (slice_get c.funcs f.0) x at

pub module_is : (c : Collection) (m : Names Called) (k : ModuleTypeId) (x : ModuleType) → item_at c.modules k.0 ≡ Some x → tree_in c m (ty.Module k) ≡ module_tree x
unfolding tree_in
module_is c m k x at = held_is module_tree (slice_get c.modules k.0) x at
