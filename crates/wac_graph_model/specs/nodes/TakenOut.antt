-- The exports of a graph without those of some nodes.
use Rattle.std.specs.Prelude.{ℕ, zero, suc, Bool, List, length, Option, Some, None, slice_get, if◌then◌else◌, swap_remove}
use Rattle.wac_types_shapes.specs.primitives.Name.{Name}
use Rattle.wac_edges.specs.declared.node.NodeId.{NodeId}

-- Without the entry at the position, if its node goes: the last entry takes its place.
abbrev pub taken_at : (NodeId → Bool) → ℕ → Option (Name × NodeId) → List (Name × NodeId) → List (Name × NodeId)
taken_at gone k None es = es
taken_at gone k (Some e) es = if gone e.1 then swap_remove es k e else es

-- Without the entries of such nodes among the first k, removed from the last to the first.
abbrev pub taken_below : (NodeId → Bool) → ℕ → List (Name × NodeId) → List (Name × NodeId)
taken_below gone zero es = es
taken_below gone (suc k) es = taken_below gone k (taken_at gone k (slice_get es k) es)

-- The exports without the entries of such nodes.
abbrev pub without : (NodeId → Bool) → List (Name × NodeId) → List (Name × NodeId)
without gone es = taken_below gone (length es) es
