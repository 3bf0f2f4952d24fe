-- Component indexes that are found by slots. Only private functions use this definition.
use Rattle.std.specs.Prelude.{ℕ, ◌≡◌, ◌<◌, ◌+◌, List, Some, slice_get, slice_index_or}
use Rattle.wac_graph_model.specs.declared.nodes.packages.PackageId.{PackageId}

-- Each entry's slot has a position, and a slot's position is that of an entry with this slot.
pub record AreSlotted (entries : List (PackageId × ℕ)) (places : List ℕ) : Type 0 where
  pub noted : (k : ℕ) (e : PackageId × ℕ) → slice_get entries k ≡ Some e → 0 < slice_index_or places e.0.slot 0
  pub found : (slot place : ℕ) → slice_index_or places slot 0 ≡ place + 1 → (e : PackageId × ℕ) × (slice_get entries place ≡ Some e) × (e.0.slot ≡ slot)
