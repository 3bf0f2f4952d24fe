-- What a call on a graph leaves valid: the ids of nodes and packages, and what the collection holds.
use Rattle.std.specs.Prelude.{◌≡◌, ℕ, true, IsSome, List, length, nat_lt}
use Rattle.wac_types_collection.specs.collection.Collection.{holds_type}
use Rattle.wac_types_collection.specs.collection.Package.{PackageParts, HoldsPackage}
use Rattle.wac_types_shapes.specs.declared.shapes.component.«Type».{«Type» as AnyType}
use Rattle.wac_edges.specs.declared.node.NodeId.{NodeId}
use Rattle.wac_graph_model.specs.declared.nodes.packages.PackageId.{PackageId}
use Rattle.wac_graph_model.specs.nodes.Graph.{Graph, node_at, package_at}

-- Each position of the old list is one of the new list.
abbrev pub KeepsPositions : {A : Type 0} → List A → List A → Type 0
KeepsPositions old new = (i : ℕ) → nat_lt i (length old) ≡ true → nat_lt i (length new) ≡ true

-- Each id that is valid in the old graph is valid in the new one, and each package of its collection is one of the new.
--
-- `types` speaks of every type. The fields after `made` say the same of the ids of each sort.
pub record KeepsValid (old new : Graph) : Type 0 where
  pub nodes : (n : NodeId) → IsSome (node_at old n) → IsSome (node_at new n)
  pub packages : (id : PackageId) → IsSome (package_at old id) → IsSome (package_at new id)
  pub types : (t : AnyType) → holds_type old.types t ≡ true → holds_type new.types t ≡ true
  pub made : (p : PackageParts) → HoldsPackage old.types p → HoldsPackage new.types p
  pub resources : KeepsPositions old.types.resources new.types.resources
  pub funcs : KeepsPositions old.types.funcs new.types.funcs
  pub defined : KeepsPositions old.types.defined new.types.defined
  pub interfaces : KeepsPositions old.types.interfaces new.types.interfaces
  pub worlds : KeepsPositions old.types.worlds new.types.worlds
  pub modules : KeepsPositions old.types.modules new.types.modules
