use Rattle.std.proofs.Common.{ap, sym, ◌∙◌}
use Rattle.semver.specs.OrderLaws.{same_text}
use Rattle.wac_types_shapes.specs.primitives.Name.{find_name}
use Rattle.wac_types_shapes.proofs.lemmas.shapes.Names.{find_name-at}
use Rattle.wac_types_shapes.proofs.lemmas.shapes.Loops.{entry_at}
use Rattle.wac_types.proofs.comparison.comparison.item_near.Goals as goal

pub returns-then-eq : goal.returns-then-eq
returns-then-eq c =
    let at = entry_at c.args.items.now c.args.index c.name_at.result.now c.value_at.result.now c.name_at.ensures c.value_at.ensures in
    sym (find_name-at c.args.items.now c.args.index c.name_at.result.now c.value_at.result.now c.law.ensures at) ∙ ap (find_name c.args.items.now) (same_text _ _ (sym c.eq.ensures ∙ c.if-eq.true))
