use Rattle.wac_merge_tables.proofs.lemmas.made.Extending.{extended_twice}
use Rattle.wac_merge_resources.proofs.lemmas.renaming.FreshAdding.{are-fresh}
use Rattle.wac_merge_resources.proofs.renaming.adding.add_fresh.Goals as goal

pub returns-in_err-whole-clause-extended : goal.returns-in_err-whole-clause-extended
returns-in_err-whole-clause-extended c = extended_twice c.args.merged.now c.add_all_own.new.merged c.add_all_whole.new.merged c.add_all_own.ensures.extended c.add_all_whole.ensures.extended

pub returns-clause-extended : goal.returns-clause-extended
returns-clause-extended c = extended_twice c.args.merged.now c.add_all_own.new.merged c.add_all_whole.new.merged c.add_all_own.ensures.extended c.add_all_whole.ensures.extended

pub returns-clause-fresh : goal.returns-clause-fresh
returns-clause-fresh c =
    are-fresh c.args.types.now c.args.merged.now c.add_all_own.new.merged c.add_all_whole.new.merged c.args.unions.now c.args.bindings.now
    (record { own = c.in_ok-own.own; whole = c.in_ok-whole.whole })
    c.requires.extended c.add_all_own.ensures.extended c.add_all_whole.ensures.extended c.law.ensures
    c.in_ok-own.ensures.own
    c.in_ok-whole.ensures.right c.in_ok-whole.ensures.all
