use Rattle.wac_merge_trees.proofs.lemmas.coding.CodingGrowth.{grown_not, grown_twice}
use Rattle.wac_merge_agreement.proofs.agreement.compared.number_all.Goals as goal

pub loop-i-init : goal.loop-i-init
loop-i-init c = record { grown = grown_not c.args.nodes.now; known = c.requires.known; marks = c.requires.marks }

pub number_world-requires-clause-held : goal.number_world-requires-clause-held
number_world-requires-clause-held c = c.requires.worlds c.loop-i.i _ c.loop-i-test.true

pub loop-i-preserved : goal.loop-i-preserved
loop-i-preserved c = record {
  grown = grown_twice c.args.nodes.now c.loop-i.nodes c.number_world.new.nodes c.loop-i.invariant.grown c.number_world.ensures.grown;
  known = c.in_ok-number_world.ensures.known;
  marks = c.in_ok-number_world.ensures.marks;
}

pub returns-in_err-number_world-clause-grown : goal.returns-in_err-number_world-clause-grown
returns-in_err-number_world-clause-grown c = grown_twice c.args.nodes.now c.loop-i.nodes c.number_world.new.nodes c.loop-i.invariant.grown c.number_world.ensures.grown

pub returns-then-is_none-clause-grown : goal.returns-then-is_none-clause-grown
returns-then-is_none-clause-grown c = grown_twice c.args.nodes.now c.loop-i.nodes c.number_world.new.nodes c.loop-i.invariant.grown c.number_world.ensures.grown
