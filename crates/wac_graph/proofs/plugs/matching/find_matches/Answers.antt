use Rattle.std.proofs.Common.{◌<◌, ◌≤◌, Vec, Global, length, refl, ap, ◌∙◌, sym, subst, IfSome, arith}
use Rattle.std.proofs.lemmas.Option.{slice_get_within}
use Rattle.wac_types_shapes.specs.shapes.Named.{NoNameTwice}
use Rattle.wac_graph.proofs.lemmas.plugs.Each.{world-exports, world-imports}
use Rattle.wac_graph.specs.declared.plugs.matching.Pair.{Pair}
use Rattle.wac_types_collection.specs.collection.Collection.{world_imports, world_exports}
use Rattle.wac_graph.specs.plugs.Matching.{AreMatches}
use Rattle.wac_graph.specs.private.plugs.Pairs.{matches_at, AreWithin}
use Rattle.wac_graph.proofs.lemmas.plugs.Pairs.{within-more}
use Rattle.wac_graph.proofs.lemmas.plugs.Listing.{match-more, match-none, all-matched}
use Rattle.wac_graph.proofs.lemmas.plugs.Worlds.{listed-held, one-held}
use Rattle.wac_graph.proofs.plugs.matching.find_matches.Goals as goal
use Rattle.wac_graph.proofs.plugs.matching.find_matches.Goals.{in-Some+in_ok-push, in_default}

pub find_match-requires-clause-imports : goal.find_match-requires-clause-imports
find_match-requires-clause-imports c = (listed-held c.args.types.now c.law.ensures c.args.socket.0 c.index-2.result.now c.index-2.ensures).0

pub find_match-requires-clause-kind : goal.find_match-requires-clause-kind
find_match-requires-clause-kind c =
    one-held c.args.types.now c.index.result.now.exports c.loop-i.i (c.entry_at.result.0.now, c.entry_at.result.1.now) (listed-held c.args.types.now c.law.ensures c.args.plug.0 c.index.result.now c.index.ensures).1 c.entry_at.ensures

pub loop-i-preserved : goal.loop-i-preserved
loop-i-preserved c =
    let exports = c.index.result.now.exports in
    let imports = c.index-2.result.now.imports in
    record {
      firsts = c.find_match.ensures.firsts;
      matched = elim c.match-branch-3.branch [
        | in-Some+in_ok-push w ↦
            match-more c.args.types.now imports exports c.loop-i.i (c.entry_at.result.0.now, c.entry_at.result.1.now) c.entry_at.ensures c.in_ok-import.field-0 c.in_ok-import.ensures.found c.loop-i.pairs.items c.loop-i.invariant.matched
            w.in-Some.import (record { export = c.loop-i.i; import = w.in-Some.import }) c.match-branch-3.pairs.items w.in-Some.is refl (ap (λ (v : Vec Pair Global). v.items) w.pairs-is ∙ w.in_ok-push.ensures.items)
        | in_default w ↦
            rw w.pairs-is (match-none c.args.types.now imports exports c.loop-i.i (c.entry_at.result.0.now, c.entry_at.result.1.now) c.entry_at.ensures c.in_ok-import.field-0 c.in_ok-import.ensures.found c.loop-i.pairs.items c.loop-i.invariant.matched w.in_default.is)
      ];
      within = elim c.match-branch-3.branch [
        | in-Some+in_ok-push w ↦
            within-more exports imports c.loop-i.pairs.items c.match-branch-3.pairs.items (record { export = c.loop-i.i; import = w.in-Some.import }) c.loop-i.invariant.within
            (slice_get_within exports c.loop-i.i (c.entry_at.result.0.now, c.entry_at.result.1.now) c.entry_at.ensures, subst (λ o. IfSome o (λ j. j < length imports)) w.in-Some.is c.in_ok-import.ensures.within)
            (ap (λ (v : Vec Pair Global). v.items) w.pairs-is ∙ w.in_ok-push.ensures.items)
        | in_default w ↦ rw w.pairs-is c.loop-i.invariant.within
      ];
    }

pub returns-clause-named : goal.returns-clause-named
returns-clause-named c = subst NoNameTwice (sym (world-exports c.args.types.now c.args.plug c.index.result.now c.index.ensures)) c.law-2.ensures

pub returns-clause-asked : goal.returns-clause-asked
returns-clause-asked c = subst NoNameTwice (sym (world-imports c.args.types.now c.args.socket c.index-2.result.now c.index-2.ensures)) c.law-3.ensures

pub returns-clause-matches : goal.returns-clause-matches
returns-clause-matches c =
    let past : length c.index.result.now.exports ≤ c.loop-i.i = omega (arith, c.loop-i-test.false, c.len-i-end.ensures) in
    subst (λ l. AreMatches c.args.types.now (world_imports c.args.types.now c.args.socket) (world_exports c.args.types.now c.args.plug) (matches_at l (world_imports c.args.types.now c.args.socket) c.loop-i.pairs.items)) (sym (world-exports c.args.types.now c.args.plug c.index.result.now c.index.ensures))
    (subst (λ l. AreMatches c.args.types.now (world_imports c.args.types.now c.args.socket) (world_exports c.args.types.now c.args.plug) (matches_at c.index.result.now.exports l c.loop-i.pairs.items)) (sym (world-imports c.args.types.now c.args.socket c.index-2.result.now c.index-2.ensures))
    (all-matched c.args.types.now c.args.socket c.args.plug c.index-2.result.now c.index.result.now c.loop-i.i (matches_at c.index.result.now.exports c.index-2.result.now.imports c.loop-i.pairs.items) c.index-2.ensures c.index.ensures past c.loop-i.invariant.matched))

pub returns-clause-within : goal.returns-clause-within
returns-clause-within c =
    subst (λ l. AreWithin l (world_imports c.args.types.now c.args.socket) c.loop-i.pairs.items) (sym (world-exports c.args.types.now c.args.plug c.index.result.now c.index.ensures))
    (subst (λ l. AreWithin c.index.result.now.exports l c.loop-i.pairs.items) (sym (world-imports c.args.types.now c.args.socket c.index-2.result.now c.index-2.ensures)) c.loop-i.invariant.within)
