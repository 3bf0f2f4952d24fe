-- The step of `import`.
use Rattle.std.proofs.Common.{◌≡◌, ℕ, ap, ◌∙◌, sym, subst, Option, Some, None, IfSome, IsSome, is_some, true, false, Ok, String, Global, string_bytes, [], ◌∷◌, ◌++◌}
use Rattle.std.specs.Map.{lookup}
use Rattle.std.specs.Str.{bytes_eq}
use Rattle.std.specs.String.{string_eq}
use Rattle.std.specs.Option.{option_map}
use Rattle.std.specs.HashMap.{HashMap}
use Rattle.std.specs.declared.hash.FoldHasher.{FoldHasher}
use Rattle.std.specs.declared.hash.BuildHasherDefault.{BuildHasherDefault}
use Rattle.indexmap.specs.IndexMap.{insert_entry}
use Rattle.slab.specs.Slab.{Slab, get, Updates}
use Rattle.wac_types_shapes.specs.primitives.Name.{Name, find_name}
use Rattle.wac_types_collection.specs.collection.Collection.{holds_type}
use Rattle.wac_types_shapes.specs.shapes.Kinds.{kind_type}
use Rattle.wac_types_shapes.specs.declared.shapes.component.ItemKind.{ItemKind}
use Rattle.wac_graph_model.specs.declared.nodes.node.Node.{Node}
use Rattle.wac_edges.specs.declared.node.NodeId.{NodeId}
use Rattle.wac_graph_model.specs.declared.nodes.node.NodeKind.TheVariants as code
use Rattle.wac_graph_model.specs.nodes.Graph.{node_at, import_name, IsImportOf}
use Rattle.wac_graph_model.specs.nodes.ExternName.{IsImportName}
use Rattle.wac_graph_model.specs.nodes.Nodes.{node_of, names_of, kind_of, satisfied}
use Rattle.wac_graph_fields.specs.private.Fields.{Fields, graph_of, Invariant}
use Rattle.wac_graph_model.specs.nodes.Steps.{Imports, IsFreeImport, AddsNode, import_node}
use Rattle.wac_graph_model.proofs.lemmas.nodes.NodeLemmas.{get-nodes_of, lookup_text, text_last}
use Rattle.wac_graph_fields.proofs.InvariantLemmas.{invariant_import}
use Rattle.wac_graph_fields.proofs.StepLemmas.{adds_node}

abbrev Names : Type 0
Names = HashMap (String Global) NodeId (BuildHasherDefault FoldHasher)

-- a new import is of its kind, with its text, and has no argument
pub import_shape : (node : Node) (own : String Global) (name : Name) (kind : ItemKind) → node_of node ≡ import_node (string_bytes own) kind → string_bytes own ≡ name → node_of node ≡ import_node name kind
import_shape node own name kind is own_is = is ∙ ap (λ t. import_node t kind) own_is

pub import_bare : (node : Node) (own : String Global) → node.kind ≡ code.Import own → (i : ℕ) → satisfied node.kind i ≡ false
import_bare node own is i = ap (λ k. satisfied k i) is

module _ (a : Fields) (v : Invariant a) (name : Name) where
  -- the name is that of the node that is found
  pub imported_already : (n : NodeId) → Some n ≡ lookup (λ k. bytes_eq name (string_bytes k)) a.imports.entries → IsImportOf (graph_of a) name n
  imported_already n at = v.importing name n (lookup_text a.imports.entries name ∙ sym at)

  pub not_imported : lookup (λ k. bytes_eq name (string_bytes k)) a.imports.entries ≡ None → IsFreeImport (graph_of a) name
  not_imported absent n h = some_none (lookup (λ k. bytes_eq name (string_bytes k)) a.imports.entries) n absent (sym (lookup_text a.imports.entries name) ∙ v.named name n h) where
    some_none : (o : Option NodeId) (x : NodeId) → o ≡ None → o ≡ Some x → ⊥
    some_none o x p q = cc

  module _ (kind : ItemKind) (key : String Global) (node : Node) (number : ℕ) (nodes : Slab Node) (names : Names) (key_is : string_bytes key ≡ name) (shape : node_of node ≡ import_node name kind)
      (absent : lookup (λ k. bytes_eq name (string_bytes k)) a.imports.entries ≡ None) (vacant : get a.nodes number ≡ None) (u : Updates a.nodes nodes number (Some node)) where
    pub imported : number ≡ a.nodes.vacant_key → IsImportName name → Imports (graph_of a) name kind (Ok (record { 0 = number })) (graph_of (record a { nodes = nodes; imports = names }))
    imported next valid = (
      not_imported absent,
      valid,
      subst (λ n. AddsNode (graph_of a) (record { 0 = number }) n (graph_of (record a { nodes = nodes; imports = names }))) shape (adds_node a nodes number node next vacant u),
    )

    pub invariant_imported : ((i : ℕ) → satisfied node.kind i ≡ false) → holds_type a.types (kind_type kind) ≡ true → names.entries ≡ insert_entry string_eq a.imports.entries key (record { 0 = number }) → Invariant (record a { nodes = nodes; imports = names })
    invariant_imported bare held last = invariant_import a v nodes number node vacant u bare name kind names shape held (sym_lookup ∙ absent) listed where
      sym_lookup : find_name (names_of a.imports.entries) name ≡ lookup (λ k. bytes_eq name (string_bytes k)) a.imports.entries
      sym_lookup = lookup_text a.imports.entries name

      listed : names_of names.entries ≡ names_of a.imports.entries ++ (name, record { 0 = number }) ∷ []
      listed = ap names_of last ∙ text_last a.imports.entries key (record { 0 = number }) (rw key_is absent) ∙ ap (λ t. names_of a.imports.entries ++ (t, record { 0 = number }) ∷ []) key_is

    pub import_is_there : IsSome (node_at (graph_of (record a { nodes = nodes; imports = names })) (record { 0 = number }))
    import_is_there = ap is_some (get-nodes_of nodes.slots number ∙ ap (option_map node_of) u.changed)

-- the name of a node
pub name_there : (a : Fields) (id : NodeId) (n : Node) (name : Option Name) → get a.nodes id.0 ≡ Some n → name ≡ import_name (kind_of n.kind) → IfSome (node_at (graph_of a) id) (λ node. name ≡ import_name node.kind)
name_there a id n name had is = subst (λ o. IfSome o (λ node. name ≡ import_name node.kind)) (sym (get-nodes_of a.nodes.slots id.0 ∙ ap (option_map node_of) had)) is
