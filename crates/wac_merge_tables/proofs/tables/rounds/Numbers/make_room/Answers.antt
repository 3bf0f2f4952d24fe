use Rattle.std.proofs.Common.{rules, ◌≤◌, length, refl, ap, ◌∙◌}
use Rattle.wac_merge_tables.specs.private.tables.Numbers.{number_at}
use Rattle.wac_merge_tables.proofs.lemmas.tables.PutNumbers.{same_room}
use Rattle.wac_merge_tables.proofs.tables.rounds.Numbers.make_room.Goals as goal

pub returns-clause-same : goal.returns-clause-same
returns-clause-same c =
    let old = c.self.inside.puts.items in
    let long : length old ≤ c.in-Some.count = search rules in
    λ k. same_room c.self.inside.round old c.resize.new.self.items c.in-Some.count _ _ refl long c.in_ok-resize.ensures.items c.self.invariant.begun k ∙ ap (λ l. number_at l k) c.self.view_is
