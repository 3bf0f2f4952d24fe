use Rattle.std.proofs.Common.{◌≡◌, ◌<◌, nat_eq, cond, length, map, Some, refl, ap, ◌∙◌, arith}
use Rattle.wac_merge_tables.specs.private.tables.Numbers.{number_at, number_in}
use Rattle.wac_merge_tables.specs.declared.tables.rounds.Put.{Put}
use Rattle.wac_merge_tables.proofs.lemmas.tables.PutNumbers.{map_length, put_at}
use Rattle.wac_merge_tables.proofs.tables.rounds.Numbers.put.Goals as goal

pub returns-clause-put : goal.returns-clause-put
returns-clause-put c =
    let round = c.self.inside.round in
    let puts = c.self.inside.puts.items in
    let p : Put = record { round = round; number = c.in-Ok.number } in
    let long = ap length c.self.view_is in
    let within : c.args.position < length puts = omega (arith, c.in_ok-make_room.ensures.there, long, map_length (number_in round) puts) in
    let same : c.in-Ok.number ≡ c.args.number = c.in-Ok.ensures.1 in
    λ k. put_at round puts c.args.position p refl within k ∙ ap (λ n. cond (nat_eq c.args.position k) (Some n) (number_at (map (number_in round) puts) k)) same ∙ ap (λ o. cond (nat_eq c.args.position k) (Some c.args.number) o) (ap (λ l. number_at l k) c.self.view_is ∙ c.make_room.ensures.same k)
