use Rattle.std.proofs.Common.{sym, refl, ◌∙◌}
use Rattle.wac_merge_trees.specs.private.coding.CallsView.{names_in}
use Rattle.wac_merge_trees.proofs.lemmas.coding.CodingGrowth.{grown_not}
use Rattle.wac_merge_trees.proofs.coding.listings.world_number.Goals as goal

pub returns-in-Some-clause-same : goal.returns-in-Some-clause-same
returns-in-Some-clause-same c = record { defined = refl; funcs = refl }

pub returns-in-Some-clause-grown : goal.returns-in-Some-clause-grown
returns-in-Some-clause-grown c = grown_not c.args.nodes.now

pub returns-in-Some-clause-number : goal.returns-in-Some-clause-number
returns-in-Some-clause-number c =
    let s = c.args.source.now in
    c.requires.known c.args.id c.in-Some.number (sym c.known_number.ensures ∙ c.in-Some.is) (names_in s.types.now s.calls.now)

pub inner_component-requires-clause-unknown : goal.inner_component-requires-clause-unknown
inner_component-requires-clause-unknown c = sym c.known_number.ensures ∙ c.in-None.is
