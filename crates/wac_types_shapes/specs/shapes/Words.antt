-- The sort of a type and the kind of an item, in words.
use Rattle.std.specs.Prelude.{ℕ, List, codes}
use Rattle.wac_types_shapes.specs.declared.shapes.component.«Type».{«Type» as AnyType}
use Rattle.wac_types_shapes.specs.declared.shapes.component.«Type».TheVariants as ty
use Rattle.wac_types_shapes.specs.declared.shapes.component.ItemKind.{ItemKind}
use Rattle.wac_types_shapes.specs.declared.shapes.component.ItemKind.TheVariants as kind

-- The sort of a type, in words.
abbrev pub type_text : AnyType → List ℕ
type_text (ty.Resource r) = codes "resource"
type_text (ty.Func f) = codes "function type"
type_text (ty.Value v) = codes "value type"
type_text (ty.Interface i) = codes "interface"
type_text (ty.World w) = codes "world"
type_text (ty.Module m) = codes "module type"

-- The kind of an item, in words.
abbrev pub kind_text : ItemKind → List ℕ
kind_text (kind.TypeItem t) = type_text t
kind_text (kind.Func f) = codes "function"
kind_text (kind.Instance i) = codes "instance"
kind_text (kind.Component w) = codes "component"
kind_text (kind.Module m) = codes "module"
kind_text (kind.Value v) = codes "value"
