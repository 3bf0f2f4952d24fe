-- An interface that uses a type of another interface, and is defined.
use Rattle.std.proofs.Common.{◌≡◌, [], ◌∷◌, length, ap, ◌∙◌, sym, subst, Some, None, Ok}
use Rattle.std.specs.Prelude.{IsSomeAnd, codes, List}
use Rattle.wac_types_shapes.specs.primitives.Name.{Name}
use Rattle.wac_types_collection.specs.collection.Collection.{Collection, item_at, with_defined, with_interface}
use Rattle.wac_types_shapes.specs.declared.shapes.component.DefinedType.{DefinedType}
use Rattle.wac_types_shapes.specs.declared.shapes.component.DefinedType.TheVariants as def
use Rattle.wac_types_shapes.specs.declared.shapes.component.DefinedTypeId.{DefinedTypeId}
use Rattle.wac_types_shapes.specs.declared.shapes.component.Enum.{Enum}
use Rattle.wac_types_shapes.specs.declared.shapes.component.Interface.{Interface}
use Rattle.wac_types_shapes.specs.declared.shapes.component.InterfaceId.{InterfaceId}
use Rattle.wac_types_shapes.specs.declared.shapes.component.ItemKind.{ItemKind}
use Rattle.wac_types_shapes.specs.declared.shapes.component.ItemKind.TheVariants as kind
use Rattle.wac_types_shapes.specs.declared.shapes.component.«Type».TheVariants as ty
use Rattle.wac_types_shapes.specs.declared.shapes.component.UsedType.{UsedType}
use Rattle.wac_edges.specs.declared.node.NodeId.{NodeId}
use Rattle.wac_graph_model.specs.nodes.Definitions.{definition_node}
use Rattle.wac_graph_model.specs.nodes.Graph.{Graph, node_at}
use Rattle.wac_graph_model.specs.nodes.Stays.{Stays}
use Rattle.wac_graph_model.specs.nodes.Steps.{Adds, Defines}
use Rattle.wac_graph_model.proofs.lemmas.nodes.StaysLemmas.{stays-trans, interface-stays, definition-stays}
use Rattle.wac_demo.specs.Composed.{IsInterfaceOf, IsPlainFunction, IsUserDefinition, item_of}
use Rattle.wac_demo.proofs.Following.{item-last}

-- the interface that was added has its parts
interface-is : (types : Collection) (i : InterfaceId) (it : Interface) (id : Name) (uses : List (Name × UsedType)) (exports : List (Name × ItemKind)) → item_at types.interfaces i.0 ≡ Some it
    → (it.id ≡ Some id) × (it.uses ≡ uses) × (it.exports ≡ exports) → IsInterfaceOf types i id uses exports
interface-is types i it id uses exports there parts = subst (λ o. IsSomeAnd o (λ (x : Interface). (x.id ≡ Some id) × (x.uses ≡ uses) × (x.exports ≡ exports))) (sym there) parts

-- a plain function is one still after these are added
plain-stays : (c : Collection) (d : DefinedType) (x y : Interface) (k : ItemKind) → IsPlainFunction c k → IsPlainFunction (with_interface (with_interface (with_defined c d) x) y) k
plain-stays c d x y (kind.Func f) h = h
plain-stays c d x y (kind.TypeItem t) h = absurd h
plain-stays c d x y (kind.Instance i) h = absurd h
plain-stays c d x y (kind.Component w) h = absurd h
plain-stays c d x y (kind.Module m) h = absurd h
plain-stays c d x y (kind.Value v) h = absurd h

module _ (g1 g2 g3 g4 g5 : Graph) (f : ItemKind) (t : DefinedTypeId) (cases : Enum) (j : InterfaceId) (used : Interface) (i : InterfaceId) (user : Interface) (n : NodeId)
    (plain : IsPlainFunction g1.types f)
    (enum_added : Adds g1 (Ok t) g2 (λ id types. (id.0 ≡ length g1.types.defined) × (types ≡ with_defined g1.types (def.Enum cases))))
    (used_added : Adds g2 (Ok j) g3 (λ id types. (id.0 ≡ length g2.types.interfaces) × (types ≡ with_interface g2.types used)))
    (user_added : Adds g3 (Ok i) g4 (λ id types. (id.0 ≡ length g3.types.interfaces) × (types ≡ with_interface g3.types user)))
    (defines : Defines g4 (codes "d") (ty.Interface i) (Ok n) g5) where
  types_last : g5.types ≡ with_interface g3.types user
  types_last = ap (λ (g : Graph). g.types) defines.7 ∙ user_added.0.1

  types_used : g5.types ≡ with_interface (with_interface g2.types used) user
  types_used = types_last ∙ ap (λ (c : Collection). with_interface c user) used_added.0.1

  types_all : g5.types ≡ with_interface (with_interface (with_defined g1.types (def.Enum cases)) used) user
  types_all = types_used ∙ ap (λ (c : Collection). with_interface (with_interface c used) user) enum_added.0.1

  user_there : item_at g5.types.interfaces i.0 ≡ Some user
  user_there = ap (λ (c : Collection). item_at c.interfaces i.0) types_last ∙ ap (λ k. item_at (with_interface g3.types user).interfaces k) user_added.0.0 ∙ item-last g3.types.interfaces (record { item = user; before = _ })

  used_before : item_at g3.types.interfaces j.0 ≡ Some used
  used_before = ap (λ (c : Collection). item_at c.interfaces j.0) used_added.0.1 ∙ ap (λ k. item_at (with_interface g2.types used).interfaces k) used_added.0.0 ∙ item-last g2.types.interfaces (record { item = used; before = _ })

  defined_last : (node_at g5 n ≡ Some (definition_node (codes "d") (ty.Interface i))) × Stays g4 g5
  defined_last = definition-stays g4 g5 (codes "d") (ty.Interface i) n defines

  used_there : item_at g5.types.interfaces j.0 ≡ Some used
  used_there = (stays-trans g3 g4 g5 (interface-stays g3 g4 user (Ok i) user_added) defined_last.1).interfaces j.0 used used_before

  enum_there : item_at g5.types.defined t.0 ≡ Some (def.Enum cases)
  enum_there = ap (λ (c : Collection). item_at c.defined t.0) types_all ∙ ap (λ k. item_at (with_defined g1.types (def.Enum cases)).defined k) enum_added.0.0 ∙ item-last g1.types.defined (record { item = def.Enum cases; before = _ })

  -- the interface that uses the type is defined
  pub defines-it : cases.0 ≡ codes "a" ∷ [] → (used.id ≡ Some (codes "n:p/j")) × (used.uses ≡ []) × (used.exports ≡ (codes "t", item_of t) ∷ (codes "g", f) ∷ [])
      → (user.id ≡ Some (codes "n:p/i")) × (user.uses ≡ (codes "t", record { interface = j; name = None }) ∷ []) × (user.exports ≡ (codes "t", item_of t) ∷ []) → IsUserDefinition g5
  defines-it is_enum is_used is_user = (
    n,
    i,
    j,
    t,
    f,
    defined_last.0,
    interface-is g5.types i user (codes "n:p/i") ((codes "t", record { interface = j; name = None }) ∷ []) ((codes "t", item_of t) ∷ []) user_there is_user,
    interface-is g5.types j used (codes "n:p/j") [] ((codes "t", item_of t) ∷ (codes "g", f) ∷ []) used_there is_used,
    enum_there ∙ ap (λ (names : List Name). Some (def.Enum (record { 0 = names }))) is_enum,
    subst (λ (c : Collection). IsPlainFunction c f) (sym types_all) (plain-stays g1.types (def.Enum cases) used user f plain),
  )
