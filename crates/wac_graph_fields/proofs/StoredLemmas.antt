-- Stored nodes that define types.
use Rattle.std.proofs.Common.{ℕ, zero, suc, ◌<◌, List, [], ◌∷◌, length, get_or, arith, Option, None, ◌≡◌}
use Rattle.std.specs.Prelude.{IsSomeAnd}
use Rattle.std.specs.Option.{option_map}
use Rattle.slab.specs.Slab.{Slab}
use Rattle.wac_types_shapes.specs.declared.shapes.component.«Type».{«Type» as AnyType}
use Rattle.wac_types_shapes.specs.declared.shapes.component.ItemKind.TheVariants.{TypeItem}
use Rattle.wac_graph_model.specs.declared.nodes.node.Node.{Node}
use Rattle.wac_graph_model.specs.nodes.Graph.{definition}
use Rattle.wac_graph_model.specs.nodes.Nodes.{node_of}
use Rattle.wac_graph_fields.specs.private.Stored.{DefinesAt}

-- a node that defines a type is one of the slots
pub defines_within : (nodes : Slab Node) (t : AnyType) (q : ℕ) → DefinesAt nodes t q → q < length nodes.slots
defines_within nodes t q h = by_slot nodes.slots q h where
  by_slot : (xs : List (Option Node)) (k : ℕ) → IsSomeAnd (option_map node_of (get_or xs k None)) (λ x. (x.kind ≡ definition) × (x.item_kind ≡ TypeItem t)) → k < length xs
  by_slot [] k h = absurd h
  by_slot (x ∷ xs) zero h = omega arith
  by_slot (x ∷ xs) (suc k) h = let small = by_slot xs k h in omega (arith, small)
