-- The edges of a table rise, unless one that falls was added.
use Rattle.std.proofs.Common.{◌≡◌, ◌<◌, ◌↔◌, ◌⊎◌, ◌||◌, ℕ, Bool, false, nat_le, leb-false, List, [], Option, Some, None, option_map, slice_index_or, sym, ap, ◌∙◌, subst, inl, inr}
use Rattle.std.specs.FinSet.{contains}
use Rattle.std.proofs.lemmas.Bool.{or_parts}
use Rattle.slab.specs.Slab.{Slab, get}
use Rattle.wac_edges.specs.declared.edges.Edge.{Edge}
use Rattle.wac_edges.specs.declared.records.Record.{Record}
use Rattle.wac_edges.specs.Order.{Edges}
use Rattle.wac_edges.specs.private.Ready.{AllRise}
use Rattle.wac_edges.specs.private.Records.{Table, HasEdge, RiseUnless, edge_at}
use Rattle.wac_edges.proofs.SetLemmas.{the_set, in_table}

-- an empty table
pub rise_none : (falls : Bool) (s : Slab Record) → s.slots ≡ [] → RiseUnless falls (get s)
rise_none falls s empty = record { up = λ still e has. absurd (absent has.0 e has.1) } where
  vacant : (k : ℕ) → get s k ≡ None
  vacant k = ap (λ (l : List (Option Record)). slice_index_or l k None) empty

  absent : (k : ℕ) (e : Edge) → edge_at (get s) k ≡ Some e → ⊥
  absent k e at = let wrong : None ≡ Some e = sym (ap (option_map (λ (r : Record). r.edge)) (vacant k)) ∙ at in cc

-- one edge more
pub rise_with : (falls : Bool) (t u : Table) (edge : Edge) → RiseUnless falls t → ((e : Edge) → HasEdge u e ↔ (HasEdge t e ⊎ (e ≡ edge))) → RiseUnless (falls || nat_le edge.target.0 edge.source.0) u
rise_with falls t u edge rise edges = record { up = λ still e has. at e still ((edges e).0 has) } where
  at : (e : Edge) → (falls || nat_le edge.target.0 edge.source.0) ≡ false → HasEdge t e ⊎ (e ≡ edge) → e.source.0 < e.target.0
  at e still (inl was) = rise.up (or_parts falls (nat_le edge.target.0 edge.source.0) still).0 e was
  at e still (inr same) = subst (λ (v : Edge). v.source.0 < v.target.0) (sym same) (leb-false edge.target.0 edge.source.0 (or_parts falls (nat_le edge.target.0 edge.source.0) still).1)

-- one edge less
pub rise_without : (falls : Bool) (t u : Table) (key : ℕ) → RiseUnless falls t → ((e : Edge) → HasEdge u e ↔ (HasEdge t e × (edge_at t key ≡ Some e → ⊥))) → RiseUnless falls u
rise_without falls t u key rise edges = record { up = λ still e has. rise.up still e ((edges e).0 has).0 }

-- where the edges of all records rise, those of the set do
pub set_rises : (s : Slab Record) (edges : Edges) → the_set s ≡ edges → ((e : Edge) → HasEdge (get s) e → e.source.0 < e.target.0) → AllRise edges
set_rises s edges is rise = λ e has. rise e (in_table s e (ap (λ (v : Edges). contains v e) is ∙ has))
