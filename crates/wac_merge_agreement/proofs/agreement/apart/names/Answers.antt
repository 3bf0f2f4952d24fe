use Rattle.wac_merge_tables.specs.declared.tables.nodes.Item.TheVariants as item
use Rattle.wac_merge_agreement.specs.declared.agreement.apart.Level.{Level}
use Rattle.wac_merge_agreement.proofs.lemmas.agreement.Descending.{names_further}
use Rattle.wac_merge_agreement.proofs.agreement.apart.names.Goals as goal

pub loop-level-preserved : goal.loop-level-preserved
loop-level-preserved c =
    let none : Level = record { first = item.Type 0; second = item.Type 0; interface = record { 0 = 0 }; passed = 0 } in
    names_further c.args.types.now c.args.levels.now c.loop-level.level-index none c.index.result.now c.name_at-name.result.now c.in_ok-from_str.field-0 c.loop-level.names.items c.push.new.self.items c.loop-level-test.true c.index.ensures c.name_at-name.ensures
    c.in_ok-push.ensures.items c.in_ok-from_str.ensures.ok c.loop-level.invariant
