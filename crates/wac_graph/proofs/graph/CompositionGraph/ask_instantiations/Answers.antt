use Rattle.std.proofs.Common.{◌≡◌, ◌++◌, ◌∙◌, ap, arith, subst, take}
use Rattle.std.specs.List.{flat_map}
use Rattle.std.proofs.lemmas.List.{take_all}
use Rattle.wac_graph_fields.specs.private.EntriesLeft.{entries_of, asked_at, all_asked_by, all_with_used, AsksAlike}
use Rattle.wac_graph_reader.proofs.lemmas.writing.AskingWalk.{nothing_asked}
use Rattle.wac_graph.proofs.OpenLemmas.{listed_asked, open_asked}
use Rattle.wac_graph.proofs.graph.CompositionGraph.ask_instantiations.Goals as goal

pub loop-n-init : goal.loop-n-init
loop-n-init c = record { right = c.requires.right; settled = c.requires.settled; stands = nothing_asked c.args.self.now.types (asked_at c.args.self.now) (entries_of c.args.asking.now) }

pub loop-n-preserved : goal.loop-n-preserved
loop-n-preserved c =
    let g = c.args.self.now in
    record {
      right = c.in_ok-ask_unset.ensures.right;
      settled = c.in_ok-ask_unset.ensures.settled;
      stands = listed_asked g.types (asked_at g) (entries_of c.args.asking.now) (entries_of c.loop-n.asking) (entries_of c.ask_unset.new.asking) c.args.instantiations.now c.loop-n.n-index c.loop-n-test.true c.loop-n.invariant.stands c.in_ok-ask_unset.ensures.stands;
    }

pub returns-clause-stands : goal.returns-clause-stands
returns-clause-stands c =
    let g = c.args.self.now in
    let old = entries_of c.args.asking.now in
    let all : flat_map (asked_at g) (take c.loop-n.n-index c.args.instantiations.now) ≡ all_asked_by g =
    ap (flat_map (asked_at g)) (take_all c.loop-n.n-index c.args.instantiations.now (omega (arith, c.loop-n-test.false)) ∙ c.requires.instantiations) ∙ open_asked g in
    subst (λ es. AsksAlike g.types (old ++ all_with_used g.types es) (entries_of c.loop-n.asking)) all c.loop-n.invariant.stands
