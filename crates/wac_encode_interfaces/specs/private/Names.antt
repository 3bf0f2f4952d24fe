-- What a type item names; private functions alone cite this.
use Rattle.std.specs.Prelude.{ℕ, Bool, List, Option, Some, None}
use Rattle.wac_types_shapes.specs.declared.shapes.component.ItemKind.{ItemKind}
use Rattle.wac_types_shapes.specs.declared.shapes.component.ItemKind.TheVariants as kind
use Rattle.wac_types_shapes.specs.declared.shapes.component.«Type».{«Type» as AnyType}
use Rattle.wac_types_shapes.specs.declared.shapes.component.«Type».TheVariants as ty
use Rattle.wac_types_collection.specs.collection.Collection.{Collection}
use Rattle.wac_types_collection.specs.collection.Aliases.{value_resolved}
use Rattle.wac_types_collection.specs.collection.Bound.{Bindings}
use Rattle.wac_binary.specs.Unfold.{Bound}
use Rattle.wac_encode_stacks.specs.Good.{At, Good, IsHeld, innermost, top}
use Rattle.wac_encode_scopes.specs.declared.state.State.{State}
use Rattle.wac_encode_scopes.specs.States.{stack}
use Rattle.wac_encode_interfaces.specs.private.Items.{IsTypeIndex}

-- If the item is a type item, the type index in the innermost scope refers to its type.
abbrev pub NamesType : Collection → Bool → State → ItemKind → ℕ → Type 0
NamesType c b s (kind.TypeItem a) k = IsTypeIndex c b s a k
NamesType c b s _ k = Unit {0}

-- If the item is an instance, the instance index in the innermost scope refers to one of its interface's type, under all
-- bindings under which the scopes are good.
abbrev pub HasInstance : Collection → Bool → State → ItemKind → ℕ → Type 0
HasInstance c b s (kind.Instance i) j = (ms : List Bindings) → Good c ms (stack b s) → (x : Bound) × IsHeld c (top ms) (ty.Interface i) x.type × At ((innermost (stack b s)).instances) j x
HasInstance c b s k j = Unit {0}

-- The type under which a type item is recorded: its type, without aliases. None is recorded for a resource or a core module.
abbrev pub recorded_type : Collection → ItemKind → Option AnyType
recorded_type c (kind.TypeItem (ty.Value v)) = Some (ty.Value (value_resolved c v))
recorded_type c (kind.TypeItem (ty.Func f)) = Some (ty.Func f)
recorded_type c (kind.TypeItem (ty.Interface i)) = Some (ty.Interface i)
recorded_type c (kind.TypeItem (ty.World w)) = Some (ty.World w)
recorded_type c _ = None
