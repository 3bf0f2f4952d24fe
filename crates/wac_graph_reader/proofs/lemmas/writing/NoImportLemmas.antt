-- Nothing is imported exactly where no node is an import.
use Rattle.std.proofs.Common.{◌≡◌, List, [], ◌∷◌, None, Some, Option, String, ap, refl, length}
use Rattle.std.specs.Global.{Global}
use Rattle.std.specs.Prelude.{string_bytes}
use Rattle.wac_types_shapes.specs.primitives.Name.{Name, find_name}
use Rattle.wac_types_shapes.proofs.lemmas.shapes.Names.{same_name-refl}
use Rattle.wac_edges.specs.declared.node.NodeId.{NodeId}
use Rattle.wac_graph_model.specs.nodes.Graph.{IsImportOf}
use Rattle.wac_graph_model.specs.nodes.Nodes.{names_of}
use Rattle.wac_graph_fields.specs.private.Fields.{Fields, graph_of, Invariant}

none_of : {A : Type 0} (xs : List A) → length xs ≡ 0 → xs ≡ []
none_of [] h = λ i. []
none_of (x ∷ xs) h = cc

-- no node is an import
pub no_import : (a : Fields) → Invariant a → length a.imports.entries ≡ 0 → (name : Name) (n : NodeId) → IsImportOf (graph_of a) name n → ⊥
no_import a v none name n is = nothing (find_name (names_of a.imports.entries) name) (ap (λ es. find_name (names_of es) name) (none_of a.imports.entries none)) (v.named name n is) where
  nothing : (o : Option NodeId) → o ≡ None → o ≡ Some n → ⊥
  nothing o p q = cc

-- an import that stands under a name is found under it
first_found : (e : String Global × NodeId) (es : List (String Global × NodeId)) → find_name (names_of (e ∷ es)) (string_bytes e.0) ≡ Some e.1
first_found e es = rw (same_name-refl (string_bytes e.0))

-- so where no node is an import nothing is imported
pub none_imported : (a : Fields) → Invariant a → ((name : Name) (n : NodeId) → IsImportOf (graph_of a) name n → ⊥) → length a.imports.entries ≡ 0
none_imported a v none = empty a.imports.entries (λ name n found. none name n (v.importing name n found)) where
  empty : (es : List (String Global × NodeId)) → ((name : Name) (n : NodeId) → find_name (names_of es) name ≡ Some n → ⊥) → length es ≡ 0
  empty [] nothing = refl
  empty (e ∷ es) nothing = absurd (nothing (string_bytes e.0) e.1 (first_found e es))
