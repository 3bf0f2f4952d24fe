-- Steps of `plug` from the calls that it makes.
use Rattle.std.proofs.Common.{◌≡◌, refl, subst, Ok, Err, IsSome, inl, inr}
use Rattle.std.specs.Prelude.{IsErrAnd}
use Rattle.wac_types_shapes.specs.primitives.Name.{Name}
use Rattle.wac_graph_model.specs.declared.nodes.errors.AliasError.TheVariants as alias_error
use Rattle.wac_graph_model.specs.declared.nodes.errors.ExportError.{ExportError}
use Rattle.wac_graph_model.specs.declared.nodes.errors.InstantiationArgumentError.{InstantiationArgumentError}
use Rattle.wac_edges.specs.declared.node.NodeId.{NodeId}
use Rattle.wac_graph_model.specs.nodes.Graph.{Graph, node_at}
use Rattle.wac_graph_model.specs.nodes.Steps.{Aliases, SetsArgument, Exports}
use Rattle.wac_graph.specs.plugs.Matching.{Match}
use Rattle.wac_graph.specs.plugs.Plugging.{Answer, Wires, PassesOn, Keeps}
use Rattle.wac_graph.specs.declared.plugs.errors.PlugError.TheVariants.{OutOfMemory}
use Rattle.wac_graph.specs.plugs.Refusals.{of_argument, of_export}
use Rattle.wac_graph.proofs.lemmas.plugs.Order.{exit-is}
use Rattle.wac_graph.proofs.lemmas.plugs.Steps.{alias-keeps, argument-keeps, export-keeps, keeps-trans, some-of}

module _ (plug socket : NodeId) (old mid new : Graph) (m : Match) (alias : NodeId) (given taken : Name) (is_given : given ≡ m.export) (is_taken : taken ≡ m.import)
    (there : IsSome (node_at old plug)) (aliased : Aliases old plug given (Ok alias) mid) where
  pub aliased-keeps : Keeps old mid
  aliased-keeps = alias-keeps old mid plug given alias there aliased

  pub wires-made : SetsArgument mid socket taken alias (Ok tt) new → Wires plug socket old m (Ok tt) new
  wires-made set = inr (alias, mid, subst (λ n. Aliases old plug n (Ok alias) mid) is_given aliased, (Ok tt, subst (λ n. SetsArgument mid socket n alias (Ok tt) new) is_taken set, refl))

  pub wires-refused : (e : InstantiationArgumentError) (r : Answer) → SetsArgument mid socket taken alias (Err e) new → IsErrAnd r (λ y. y ≡ of_argument e) → Wires plug socket old m r new
  wires-refused e r set is = inr (alias, mid, subst (λ n. Aliases old plug n (Ok alias) mid) is_given aliased, (Err e, subst (λ n. SetsArgument mid socket n alias (Err e) new) is_taken set, exit-is r (of_argument e) is))

  pub wires-keeps : IsSome (node_at old socket) → IsSome (node_at mid alias) → SetsArgument mid socket taken alias (Ok tt) new → Keeps old new
  wires-keeps socket_there alias_there set = keeps-trans old mid new aliased-keeps (argument-keeps mid new socket taken alias (aliased-keeps.nodes socket socket_there) alias_there set)

module _ (socket : NodeId) (old mid new : Graph) (name : Name) (alias : NodeId) (there : IsSome (node_at old socket)) (aliased : Aliases old socket name (Ok alias) mid) (alias_there : IsSome (node_at mid alias)) where
  pub passes-made : Exports mid alias name (Ok tt) new → PassesOn socket old name (Ok tt) new
  passes-made set = inr (alias, mid, aliased, (Ok tt, set, refl, alias_there))

  pub passes-refused : (e : ExportError) (r : Answer) → Exports mid alias name (Err e) new → IsErrAnd r (λ y. y ≡ of_export e) → PassesOn socket old name r new
  passes-refused e r set is = inr (alias, mid, aliased, (Err e, set, exit-is r (of_export e) is, alias_there))

  pub passes-keeps : Exports mid alias name (Ok tt) new → Keeps old new
  passes-keeps set = keeps-trans old mid new (alias-keeps old mid socket name alias there aliased) (export-keeps mid new alias name alias_there set)

-- without memory for a name its alias is not made
pub passes-none : (socket : NodeId) (old : Graph) (name : Name) → IsSome (node_at old socket) → PassesOn socket old name (Err OutOfMemory) old
passes-none socket old name there =
    let n = some-of (node_at old socket) there in
    inl (alias_error.OutOfMemory, rw n.1 refl, refl)

pub wires-none : (plug socket : NodeId) (old : Graph) (m : Match) → IsSome (node_at old plug) → Wires plug socket old m (Err OutOfMemory) old
wires-none plug socket old m there =
    let n = some-of (node_at old plug) there in
    inl (alias_error.OutOfMemory, rw n.1 refl, refl)
