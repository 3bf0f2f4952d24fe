-- A function that is imported, exported and named.
use Rattle.std.proofs.Common.{◌≡◌, ℕ, zero, suc, ◌<◌, true, List, [], ◌∷◌, length, refl, ap, ◌∙◌, sym, subst, nat_lt, arith, Some, Ok, IsSome}
use Rattle.std.specs.Prelude.{IfSome, IsSomeAnd, ◌++◌}
use Rattle.std.specs.FinMap as map
use Rattle.wac_types_shapes.specs.shapes.Kinds.{kind_type}
use Rattle.wac_types_shapes.specs.primitives.Name.{Name}
use Rattle.wac_types_collection.specs.collection.Collection.{Collection, item_at, holds_type}
use Rattle.wac_types_collection.specs.declared.collection.collection.Held.{Held}
use Rattle.wac_types_shapes.specs.declared.shapes.component.ItemKind.{ItemKind}
use Rattle.wac_types_shapes.specs.declared.shapes.component.ItemKind.TheVariants as kind
use Rattle.wac_edges.specs.declared.node.NodeId.{NodeId}
use Rattle.wac_graph_model.specs.nodes.Graph.{Graph, GraphNode, import, node_at, export_at}
use Rattle.wac_graph_model.specs.nodes.Steps.{Imports, Exports, SetsName, import_node}
use Rattle.wac_graph_model.proofs.lemmas.nodes.Added.{insert_same}
use Rattle.wac_graph_model.proofs.lemmas.nodes.NodeLemmas.{find_new}
use Rattle.wac_graph_model.proofs.lemmas.nodes.StaysLemmas.{import-stays}
use Rattle.wac_demo.specs.Composed.{IsPlainFunction, PassesFunction}
use Rattle.wac_demo.proofs.Following.{there-is}

within : {A : Type 0} (xs : List (Held A)) (i : ℕ) (x : A) → item_at xs i ≡ Some x → i < length xs
within [] i x h = cc
within (y ∷ ys) zero x h = omega arith
within (y ∷ ys) (suc i) x h = let below : i < length ys = within ys i x h in omega (arith, below)

is-less : (i n : ℕ) → i < n → nat_lt i n ≡ true
is-less i n h = grind (arith, h)

-- a plain function is held
pub plain-held : (types : Collection) (k : ItemKind) → IsPlainFunction types k → holds_type types (kind_type k) ≡ true
plain-held types (kind.Func f) h = is-less f.0 (length types.funcs) (within types.funcs f.0 _ h)
plain-held types (kind.TypeItem t) h = absurd h
plain-held types (kind.Instance i) h = absurd h
plain-held types (kind.Component w) h = absurd h
plain-held types (kind.Module m) h = absurd h
plain-held types (kind.Value v) h = absurd h

module _ (g1 g2 : Graph) (f : ItemKind) (n : NodeId) (imported : Name) (plain : IsPlainFunction g1.types f) (step : Imports g1 imported f (Ok n) g2) where
  there : node_at g2 n ≡ Some (import_node imported f)
  there = (import-stays g1 g2 imported f n step).0

  pub import-there : IsSome (node_at g2 n)
  import-there = there-is (node_at g2 n) _ there

  module _ (g3 : Graph) (exported : Name) (passed : Exports g2 n exported (Ok tt) g3) where
    abbrev with_export : GraphNode
    with_export = record (import_node imported f) { export_name = Some exported }

    exported-as : g3 ≡ record g2 { nodes = map.insert g2.nodes n.0 with_export; exports = g2.exports ++ (exported, n) ∷ [] }
    exported-as = subst (λ o. IfSome o (λ x. g3 ≡ record g2 { nodes = map.insert g2.nodes n.0 (record x { export_name = Some exported }); exports = g2.exports ++ (exported, n) ∷ [] })) there passed.2

    exported-there : node_at g3 n ≡ Some with_export
    exported-there = ap (λ (g : Graph). node_at g n) exported-as ∙ insert_same g2.nodes n.0 with_export

    pub export-there : IsSome (node_at g3 n)
    export-there = there-is (node_at g3 n) _ exported-there

    module _ (g4 : Graph) (name : Name) (named : SetsName g3 n name (Ok tt) g4) where
      named-as : g4 ≡ record g3 { nodes = map.insert g3.nodes n.0 (record with_export { name = Some name }) }
      named-as = subst (λ o. IfSome o (λ x. g4 ≡ record g3 { nodes = map.insert g3.nodes n.0 (record x { name = Some name }) })) exported-there named

      named-there : node_at g4 n ≡ Some (record with_export { name = Some name })
      named-there = ap (λ (g : Graph). node_at g n) named-as ∙ insert_same g3.nodes n.0 (record with_export { name = Some name })

      same-types : g1.types ≡ g4.types
      same-types = sym (ap (λ (g : Graph). g.types) named-as ∙ ap (λ (g : Graph). g.types) exported-as ∙ ap (λ (g : Graph). g.types) step.2.2)

      -- the function that is imported is passed on under its other name
      pub passes-it : PassesFunction g4 imported exported name
      passes-it = (
        n,
        subst (λ o. IsSomeAnd o (λ node. (node.kind ≡ import imported) × IsPlainFunction g4.types node.item_kind × (node.name ≡ Some name))) (sym named-there)
            (refl, subst (λ types. IsPlainFunction types f) same-types plain, refl),
        ap (λ (g : Graph). export_at g exported) named-as ∙ ap (λ (g : Graph). export_at g exported) exported-as ∙ find_new g2.exports exported n passed.0,
      )
