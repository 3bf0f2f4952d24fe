-- The trees of types whose free resources are bound.
use Rattle.std.specs.Prelude.{◌≡◌, Some}
use Rattle.wac_types_shapes.specs.primitives.Tree.{Leaf, Tree}
use Rattle.wac_types_shapes.specs.shapes.Named.{NoNameTwice}
use Rattle.wac_types_shapes.specs.declared.shapes.component.Interface.{Interface}
use Rattle.wac_types_shapes.specs.declared.shapes.component.InterfaceId.{InterfaceId}
use Rattle.wac_types_shapes.specs.declared.shapes.component.ResourceId.{ResourceId}
use Rattle.wac_types_shapes.specs.declared.shapes.component.«Type».{«Type» as AnyType}
use Rattle.wac_types_collection.specs.collection.Collection.{Collection, IsWellFormed, item_at}
use Rattle.wac_types_collection.specs.collection.Bound.{Bindings, held_tree}
use Rattle.wac_encode_stacks.specs.Good.{IsHeld}
use Rattle.wac_encode_faults.specs.Free.{IsFree}

-- A type has a tree under bindings if and only if they have each of its free resources, where no interface exports a name twice.
-- Under other bindings that agree on them it has the same tree.
pub record TreesByFree : Type 0 where
  pub held : (c : Collection) (m : Bindings) (a : AnyType) → ((r : ResourceId) → IsFree c a r → (l : Leaf) × (m r ≡ Some l)) → IsHeld c m a (held_tree c m a)
  pub agree : (c : Collection) (m n : Bindings) (a : AnyType) → ((r : ResourceId) → IsFree c a r → m r ≡ n r) → held_tree c m a ≡ held_tree c n a
  pub bound : (c : Collection) → IsWellFormed c → ((i : InterfaceId) (it : Interface) → item_at c.interfaces i.0 ≡ Some it → NoNameTwice it.exports)
      → (m : Bindings) (a : AnyType) (t : Tree) → IsHeld c m a t → (r : ResourceId) → IsFree c a r → (l : Leaf) × (m r ≡ Some l)
