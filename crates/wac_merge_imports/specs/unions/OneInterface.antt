-- Each plain interface has one id in the merged collection.
use Rattle.std.specs.Prelude.{ℕ, ◌≡◌, List, [], ◌∷◌, Some, slice_get}
use Rattle.wac_types_shapes.specs.primitives.Name.{Name, find_name}
use Rattle.wac_types_shapes.specs.declared.shapes.component.DefinedType.{DefinedType}
use Rattle.wac_types_shapes.specs.declared.shapes.component.DefinedTypeId.{DefinedTypeId}
use Rattle.wac_types_shapes.specs.declared.shapes.component.FuncType.{FuncType}
use Rattle.wac_types_shapes.specs.declared.shapes.component.Interface.{Interface}
use Rattle.wac_types_shapes.specs.declared.shapes.component.InterfaceId.{InterfaceId}
use Rattle.wac_types_shapes.specs.declared.shapes.component.ItemKind.{ItemKind}
use Rattle.wac_types_shapes.specs.declared.shapes.component.ItemKind.TheVariants as kind
use Rattle.wac_types_shapes.specs.declared.primitives.component.PrimitiveType.{PrimitiveType}
use Rattle.wac_types_shapes.specs.declared.shapes.component.ValueType.{ValueType}
use Rattle.wac_types_shapes.specs.declared.shapes.component.ValueType.TheVariants as val
use Rattle.wac_types_shapes.specs.declared.shapes.component.«Type».TheVariants as ty
use Rattle.wac_types_collection.specs.collection.Collection.{Collection, defined_values, func_values, item_at}
use Rattle.wac_merge_classes.specs.entries.Classes.{Entry, by_names, class_names, members}
use Rattle.wac_merge_classes.specs.terms.Merge.{Merged, class_id, instance_id}

-- A value type that contains no handle.
pub data HasNoHandle (c : Collection) : ValueType → Type 0 where
  primitive : (v : ValueType) (p : PrimitiveType) → v ≡ val.Primitive p → HasNoHandle c v
  defined : (v : ValueType) (d : DefinedTypeId) (y : DefinedType) → v ≡ val.Defined d → item_at c.defined d.0 ≡ Some y → ((i : ℕ) (w : ValueType) → slice_get (defined_values y) i ≡ Some w → HasNoHandle c w) → HasNoHandle c v

-- A function whose value types contain no handle, or a value type without a handle as a type item.
abbrev pub IsPlainItem : Collection → ItemKind → Type 0
IsPlainItem c (kind.Func f) = (x : FuncType) → item_at c.funcs f.0 ≡ Some x → (i : ℕ) (v : ValueType) → slice_get (func_values x) i ≡ Some v → HasNoHandle c v
IsPlainItem c (kind.TypeItem (ty.Value v)) = HasNoHandle c v
IsPlainItem c k = ⊥

-- An interface without uses that exports only functions and value types without handles.
pub record IsPlain (c : Collection) (i : InterfaceId) : Type 0 where
  pub interface : Interface
  pub there : item_at c.interfaces i.0 ≡ Some interface
  pub unused : interface.uses ≡ []
  pub items : (n : Name) (k : ItemKind) → find_name interface.exports n ≡ Some k → IsPlainItem c k

-- The class has a single entry, an instance of this interface, and keeps its id.
pub record IsAlone (c : Collection) (es : List Entry) (class : Name) (i : InterfaceId) : Type 0 where
  pub member : Entry
  pub only : members by_names es class ≡ member ∷ []
  pub instance : member.kind ≡ kind.Instance i
  pub own : class_id by_names c es class ≡ instance_id c (kind.Instance i)

-- Classes whose single entry is an instance of one plain interface are imported with one interface.
abbrev pub AreOfOneInterface : Collection → List Entry → List ℕ → Merged → Type 0
AreOfOneInterface c es order m = (p q k l : ℕ) (a b : Name) (x y : Entry) (i : InterfaceId)
    → slice_get order p ≡ Some k → slice_get (class_names by_names es) k ≡ Some a → slice_get m.imports p ≡ Some x
    → slice_get order q ≡ Some l → slice_get (class_names by_names es) l ≡ Some b → slice_get m.imports q ≡ Some y
    → IsPlain c i → IsAlone c es a i → IsAlone c es b i → x.kind ≡ y.kind
