-- The type of an item, and the item whose type a type item is.
use Rattle.wac_types_shapes.specs.declared.shapes.component.«Type».{«Type» as AnyType}
use Rattle.wac_types_shapes.specs.declared.shapes.component.«Type».TheVariants as ty
use Rattle.wac_types_shapes.specs.declared.shapes.component.ItemKind.{ItemKind}
use Rattle.wac_types_shapes.specs.declared.shapes.component.ItemKind.TheVariants as kind

-- The type of an import or export.
abbrev pub kind_type : ItemKind → AnyType
kind_type (kind.TypeItem t) = t
kind_type (kind.Func f) = ty.Func f
kind_type (kind.Instance i) = ty.Interface i
kind_type (kind.Component w) = ty.World w
kind_type (kind.Module m) = ty.Module m
kind_type (kind.Value v) = ty.Value v

-- The item of this type, if items have such types; else the type item.
abbrev pub promoted_type : AnyType → ItemKind
promoted_type (ty.Func f) = kind.Func f
promoted_type (ty.Interface i) = kind.Instance i
promoted_type (ty.World w) = kind.Component w
promoted_type (ty.Module m) = kind.Module m
promoted_type t = kind.TypeItem t

-- The item whose type a type item is; any other item itself.
abbrev pub promoted : ItemKind → ItemKind
promoted (kind.TypeItem t) = promoted_type t
promoted k = k
