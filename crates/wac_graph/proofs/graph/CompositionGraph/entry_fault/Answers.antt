use Rattle.std.proofs.Common.{◌≡◌, true, None, ap, sym, subst}
use Rattle.std.specs.Prelude.{Result, Ok, Err, OnOk}
use Rattle.std.proofs.lemmas.Result.{IfOk-weaker}
use Rattle.wac_types_shapes.specs.shapes.Kinds.{kind_type}
use Rattle.wac_types_collection.specs.collection.Collection.{Collection, holds_type}
use Rattle.wac_encode_faults.specs.private.BoundTypes.{AreBoundTypes}
use Rattle.wac_encode_faults.specs.declared.faults.Role.{Role}
use Rattle.wac_encode_faults.specs.Faults.{HasFault, IsLowest}
use Rattle.wac_graph_model.specs.nodes.Graph.{Graph, node_at}
use Rattle.wac_graph_model.specs.causes.TypeFaults.{class_bindings, role_of}
use Rattle.wac_edges.specs.Edge.{node_number}
use Rattle.wac_graph.proofs.graph.CompositionGraph.entry_fault.Goals as goal

-- what holds anyway holds on success
always : {T E P : Type 0} (r : Result T E) → P → OnOk r P
always (Ok x) p = p
always (Err e) p = tt

pub is_faultless-requires-clause-held : goal.is_faultless-requires-clause-held
is_faultless-requires-clause-held c =
    let types : c.self.inside.types ≡ c.args.self.now.types = ap (λ (h : Graph). h.types) c.self.view_is in
    subst (λ t. holds_type t (kind_type c.args.entry.kind) ≡ true) (sym types) c.requires.held

pub is_faultless-requires-clause-types : goal.is_faultless-requires-clause-types
is_faultless-requires-clause-types c =
    let types : c.self.inside.types ≡ c.args.self.now.types = ap (λ (h : Graph). h.types) c.self.view_is in
    subst (λ (t : Collection). AreBoundTypes t c.args.bound.now.keys c.args.faultless.now) (sym types) c.requires.faultless

pub lowest_fault-requires : goal.lowest_fault-requires
lowest_fault-requires c =
    let types : c.self.inside.types ≡ c.args.self.now.types = ap (λ (h : Graph). h.types) c.self.view_is in
    subst (λ t. holds_type t (kind_type c.args.entry.kind) ≡ true) (sym types) c.requires.held

pub returns-then-branch-clause-lowest : goal.returns-then-branch-clause-lowest
returns-then-branch-clause-lowest c =
    let g = c.args.self.now in
    let types : c.self.inside.types ≡ g.types = ap (λ (h : Graph). h.types) c.self.view_is in
    subst (λ (t : Collection). IsLowest (HasFault t (class_bindings g) (role_of (node_at g (node_number c.args.entry.node))) c.args.entry.kind) None) types
    (c.in_ok-is_faultless.ensures.faultless c.if-branch.true (role_of (node_at g (node_number c.args.entry.node))) (class_bindings g) c.requires.bound)

pub returns-then-branch-clause-faultless : goal.returns-then-branch-clause-faultless
returns-then-branch-clause-faultless c =
    let types : c.self.inside.types ≡ c.args.self.now.types = ap (λ (h : Graph). h.types) c.self.view_is in
    subst (λ (t : Collection). AreBoundTypes t c.args.bound.now.keys c.is_faultless.new.self) types c.in_ok-is_faultless.ensures.types

pub returns-clause-lowest : goal.returns-clause-lowest
returns-clause-lowest c =
    let g = c.args.self.now in
    let root = class_bindings g in
    let types : c.self.inside.types ≡ g.types = ap (λ (h : Graph). h.types) c.self.view_is in
    IfOk-weaker c.lowest_fault.result _ _
    (λ o low. subst (λ (r : Role). IsLowest (HasFault g.types root r c.args.entry.kind) o) c.role_at.ensures
    (subst (λ (t : Collection). IsLowest (HasFault t root c.role_at.result c.args.entry.kind) o) types (low root c.requires.bound))) c.lowest_fault.ensures

pub returns-clause-faultless : goal.returns-clause-faultless
returns-clause-faultless c =
    let types : c.self.inside.types ≡ c.args.self.now.types = ap (λ (h : Graph). h.types) c.self.view_is in
    always c.lowest_fault.result (subst (λ (t : Collection). AreBoundTypes t c.args.bound.now.keys c.is_faultless.new.self) types c.in_ok-is_faultless.ensures.types)
