-- An interface with a resource, and a function that takes it, that is imported.
use Rattle.std.proofs.Common.{◌≡◌, [], ◌∷◌, length, refl, ap, ◌∙◌, sym, subst, Some, None, Ok, false}
use Rattle.std.specs.Prelude.{IsSomeAnd, codes}
use Rattle.wac_types_collection.specs.collection.Collection.{Collection, item_at, with_resource, with_func, with_interface}
use Rattle.wac_types_shapes.specs.declared.shapes.component.FuncType.{FuncType}
use Rattle.wac_types_shapes.specs.declared.shapes.component.FuncTypeId.{FuncTypeId}
use Rattle.wac_types_shapes.specs.declared.shapes.component.Interface.{Interface}
use Rattle.wac_types_shapes.specs.declared.shapes.component.InterfaceId.{InterfaceId}
use Rattle.wac_types_shapes.specs.declared.shapes.component.ItemKind.TheVariants as kind
use Rattle.wac_types_shapes.specs.declared.shapes.component.Resource.{Resource}
use Rattle.wac_types_shapes.specs.declared.shapes.component.ResourceId.{ResourceId}
use Rattle.wac_types_shapes.specs.declared.shapes.component.«Type».TheVariants as ty
use Rattle.wac_types_shapes.specs.declared.shapes.component.ValueType.TheVariants as val
use Rattle.wac_edges.specs.declared.node.NodeId.{NodeId}
use Rattle.wac_graph_model.specs.nodes.Graph.{Graph, import, node_at}
use Rattle.wac_graph_model.specs.nodes.Steps.{Adds, Imports, import_node}
use Rattle.wac_graph_model.proofs.lemmas.nodes.StaysLemmas.{import-stays}
use Rattle.wac_demo.specs.Composed.{IsResourceImport}
use Rattle.wac_demo.proofs.Following.{item-last}

module _ (g0 g1 g2 g3 g4 : Graph) (r : ResourceId) (x : Resource) (f : FuncTypeId) (y : FuncType) (i : InterfaceId) (it : Interface) (n : NodeId)
    (resource_added : Adds g0 (Ok r) g1 (λ id types. (id.0 ≡ length g0.types.resources) × (types ≡ with_resource g0.types x)))
    (func_added : Adds g1 (Ok f) g2 (λ id types. (id.0 ≡ length g1.types.funcs) × (types ≡ with_func g1.types y)))
    (interface_added : Adds g2 (Ok i) g3 (λ id types. (id.0 ≡ length g2.types.interfaces) × (types ≡ with_interface g2.types it)))
    (imported : Imports g3 (codes "n:p/i") (kind.Instance i) (Ok n) g4) where
  last_types : g4.types ≡ with_interface g2.types it
  last_types = ap (λ (g : Graph). g.types) imported.2.2 ∙ interface_added.0.1

  func_types : g4.types ≡ with_interface (with_func g1.types y) it
  func_types = last_types ∙ ap (λ (t : Collection). with_interface t it) func_added.0.1

  all_types : g4.types ≡ with_interface (with_func (with_resource g0.types x) y) it
  all_types = func_types ∙ ap (λ (t : Collection). with_interface (with_func t y) it) resource_added.0.1

  interface_there : item_at g4.types.interfaces i.0 ≡ Some it
  interface_there = ap (λ (t : Collection). item_at t.interfaces i.0) last_types ∙ ap (λ k. item_at (with_interface g2.types it).interfaces k) interface_added.0.0 ∙ item-last g2.types.interfaces (record { item = it; before = _ })

  func_there : item_at g4.types.funcs f.0 ≡ Some y
  func_there = ap (λ (t : Collection). item_at t.funcs f.0) func_types ∙ ap (λ k. item_at (with_func g1.types y).funcs k) func_added.0.0 ∙ item-last g1.types.funcs (record { item = y; before = _ })

  resource_there : item_at g4.types.resources r.0 ≡ Some x
  resource_there = ap (λ (t : Collection). item_at t.resources r.0) all_types ∙ ap (λ k. item_at (with_resource g0.types x).resources k) resource_added.0.0 ∙ item-last g0.types.resources (record { item = x; before = _ })

  node_there : node_at g4 n ≡ Some (import_node (codes "n:p/i") (kind.Instance i))
  node_there = (import-stays g3 g4 (codes "n:p/i") (kind.Instance i) n imported).0

  -- the interface is imported with them
  pub imports-it : x ≡ record { name = codes "r"; alias = None } → y ≡ record { params = (codes "x", val.Own r) ∷ []; result = None; is_async = false }
      → (it.id ≡ Some (codes "n:p/i")) × (it.uses ≡ []) × (it.exports ≡ (codes "r", kind.TypeItem (ty.Resource r)) ∷ (codes "f", kind.Func f) ∷ []) → IsResourceImport g4
  imports-it is_resource is_func is_interface = (
    n,
    i,
    r,
    kind.Func f,
    subst (λ o. IsSomeAnd o (λ node. (node.kind ≡ import (codes "n:p/i")) × (node.item_kind ≡ kind.Instance i))) (sym node_there) (refl, refl),
    subst (λ o. IsSomeAnd o (λ (z : Interface). (z.id ≡ Some (codes "n:p/i")) × (z.uses ≡ []) × (z.exports ≡ (codes "r", kind.TypeItem (ty.Resource r)) ∷ (codes "f", kind.Func f) ∷ []))) (sym interface_there) is_interface,
    resource_there ∙ ap (λ (z : Resource). Some z) is_resource,
    func_there ∙ ap (λ (z : FuncType). Some z) is_func,
  )
