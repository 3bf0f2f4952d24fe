use Rattle.wac_types.proofs.lemmas.comparison.Opened.{opened_lists, opened_options}
use Rattle.wac_types.proofs.comparison.comparison.Comparison.opened.Goals as goal

pub returns-in-List-List : goal.returns-in-List-List
returns-in-List-List c = opened_lists _ _ c.law.ensures c.law-2.ensures _ _ _ _ _ _ c.in-Defined-Defined.is-0 c.in-Defined-Defined.is-1 c.index.ensures c.index-2.ensures _ _ c.in-List-List.is-0 c.in-List-List.is-1

pub returns-in-Option-Option : goal.returns-in-Option-Option
returns-in-Option-Option c = opened_options _ _ c.law.ensures c.law-2.ensures _ _ _ _ _ _ c.in-Defined-Defined.is-0 c.in-Defined-Defined.is-1 c.index.ensures c.index-2.ensures _ _ c.in-Option-Option.is-0 c.in-Option-Option.is-1
