-- Items that are no scopes; private functions alone cite this.
use Rattle.std.specs.Prelude.{Option, Some, None}
use Rattle.wac_types_shapes.specs.declared.shapes.component.ItemKind.{ItemKind}
use Rattle.wac_types_shapes.specs.declared.shapes.component.ItemKind.TheVariants as kind
use Rattle.wac_types_shapes.specs.declared.shapes.component.«Type».{«Type» as AnyType}
use Rattle.wac_types_shapes.specs.declared.shapes.component.«Type».TheVariants as ty

-- The type of a function, or of a type item of a function type, a value type or a resource.
abbrev pub plain_type : ItemKind → Option AnyType
plain_type (kind.TypeItem (ty.Resource r)) = Some (ty.Resource r)
plain_type (kind.TypeItem (ty.Func f)) = Some (ty.Func f)
plain_type (kind.TypeItem (ty.Value v)) = Some (ty.Value v)
plain_type (kind.TypeItem (ty.Interface i)) = None
plain_type (kind.TypeItem (ty.World w)) = None
plain_type (kind.TypeItem (ty.Module m)) = None
plain_type (kind.Func f) = Some (ty.Func f)
plain_type (kind.Instance i) = None
plain_type (kind.Component w) = None
plain_type (kind.Module m) = None
plain_type (kind.Value v) = None
