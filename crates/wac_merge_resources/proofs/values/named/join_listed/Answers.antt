use Rattle.std.proofs.Common.{sym, ◌∙◌}
use Rattle.wac_merge_resources.specs.values.NamedTypes.{no_join, one_join}
use Rattle.wac_merge_resources.proofs.lemmas.values.Joining.{listed-one, none-listed}
use Rattle.wac_merge_resources.proofs.values.named.join_listed.Goals as goal

pub returns-in_default-clause-one : goal.returns-in_default-clause-one
returns-in_default-clause-one c = none-listed c.args.types.now c.args.union.now.exports c.args.name.now c.args.kind c.args.named.now (λ d is. c.in_default.not-Some d (c.listed_value.ensures ∙ is))

pub returns-in_default-clause-along : goal.returns-in_default-clause-along
returns-in_default-clause-along c = no_join

pub returns-clause-one : goal.returns-clause-one
returns-clause-one c =
    listed-one c.args.types.now c.args.union.now.exports c.args.name.now c.args.kind c.join.new.self c.standing-first.result c.in-Some.value (sym c.listed_value.ensures ∙ c.in-Some.is) c.standing-first.ensures.first
    c.in_ok-join.ensures.one

pub returns-clause-along : goal.returns-clause-along
returns-clause-along c =
    one_join c.args.named.now c.join.new.self c.standing-first.result c.in-Some.value no_join (sym c.listed_value.ensures ∙ c.in-Some.is, c.standing-first.ensures.found) c.in_ok-join.ensures.joined c.in_ok-join.ensures.only
