-- The search that gives numbers their ranks. No public contract cites this.
use Rattle.std.specs.Prelude.{ℕ, ◌≡◌, length}
use Rattle.wac_edges.specs.declared.cycles.ranks.Search.{Search}
use Rattle.wac_edges.specs.private.cycles.Numbers.{AreBelow}

-- The search is about the numbers less than count.
pub record IsAmong (count : ℕ) (s : Search) : Type 0 where
  pub placed : length s.places.items ≡ count
  pub ranked : length s.ranks.items ≡ count
  pub members : AreBelow count s.members.items
  pub pending : AreBelow count s.pending.items
