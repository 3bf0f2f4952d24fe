-- The trees of interfaces, whole or with their types only.
use Rattle.std.specs.Prelude.{◌≡◌, Bool, true, false}
use Rattle.wac_types_shapes.specs.primitives.Tree.{Leaf, Tree, moved}
use Rattle.wac_types_shapes.specs.declared.shapes.component.InterfaceId.{InterfaceId}
use Rattle.wac_types_shapes.specs.declared.shapes.component.«Type».TheVariants as ty
use Rattle.wac_types_collection.specs.collection.Collection.{Collection}
use Rattle.wac_types_collection.specs.collection.Bound.{Bindings, held_tree}
use Rattle.wac_encode_stacks.specs.Good.{Carries}
use Rattle.wac_encode_faults.specs.Trees.{types_tree}

-- The instance type of an interface, with its types only or whole.
abbrev pub interface_tree : Collection → Bool → Bindings → InterfaceId → Tree
interface_tree c true m i = types_tree c m i
interface_tree c false m i = held_tree c m (ty.Interface i)

-- The instance type has the tree t under m, and under each m' to which f carries m the tree t with its leaves mapped by f.
-- So m binds each resource that it mentions.
abbrev pub IsInterfaceHeld : Collection → Bool → Bindings → InterfaceId → Tree → Type 0
IsInterfaceHeld c types_only m i t = (f : Leaf → Leaf) (m' : Bindings) → Carries f m m' → interface_tree c types_only m' i ≡ moved f t
