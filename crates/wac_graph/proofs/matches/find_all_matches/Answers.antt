use Rattle.std.proofs.Common.{◌≡◌, ◌<◌, ◌∙◌, false, List, [], length, replicate, map, get_or, slice_get, refl, ap, sym, subst, Some, IfSome, arith}
use Rattle.std.proofs.lemmas.Option.{slice_get-get_or}
use Rattle.wac_types_shapes.specs.primitives.Name.{Name}
use Rattle.wac_types_shapes.specs.shapes.Named.{NoNameTwice}
use Rattle.wac_types_shapes.specs.declared.shapes.component.ItemKind.{ItemKind}
use Rattle.wac_types_collection.specs.collection.Collection.{world_imports, world_exports}
use Rattle.wac_graph_model.specs.declared.nodes.packages.PackageId.{PackageId}
use Rattle.wac_graph.specs.plugs.Matching.{exports_of_package}
use Rattle.wac_graph.specs.plugs.Precedence.{named_by, taken_after}
use Rattle.wac_graph.specs.private.plugs.Pairs.{matches_at, AreWithin}
use Rattle.wac_graph.specs.private.plugs.Ready.{plugs_at}
use Rattle.wac_graph.specs.private.plugs.Tracks.{AreFirsts}
use Rattle.wac_graph.proofs.lemmas.plugs.Each.{world-imports, world-exports, listed-imports, listed-exports}
use Rattle.wac_graph.proofs.lemmas.plugs.Worlds.{world-within}
use Rattle.wac_graph.proofs.lemmas.plugs.Finding.{none-so-far, all-plugs}
use Rattle.wac_graph.proofs.lemmas.plugs.Collecting.{none-taken, none-ready, found-matches, found-within, now-taken, lost-there, now-ready, now-so-far, now-named, all-named}
use Rattle.wac_graph.proofs.matches.find_all_matches.Goals as goal

pub index-requires-2 : goal.index-requires-2
index-requires-2 c = world-within c.args.graph.now c.args.socket c.index.result.now c.ty-importing.result c.types-types.result.now c.law.ensures c.index.ensures c.ty-importing.ensures c.types-types.ensures

pub loop-i-init : goal.loop-i-init
loop-i-init c = record {
  firsts = tt;
  so_far = ([], none-taken c.index-2.result.now.imports c.in_ok-taken.taken.items (c.in_ok-taken.ensures.items_if_clones_equal (λ y same. same) ∙ ap (λ n. replicate n false) c.len.ensures), rw (c.new-wired.ensures.items, c.new-passed.ensures.items) (none-so-far c.args.graph.now c.args.socket c.args.plugs.now));
  ready = none-ready c.args.graph.now c.args.socket c.new-wired.result.items c.new-wired.ensures.items;
  named = λ i id below at. absurd (omega (arith, below));
}

pub index-requires-in-loop-i : goal.index-requires-in-loop-i
index-requires-in-loop-i c =
    let g = c.args.graph.now in
    let t = c.types-types.result.now in
    let w = c.ty-importing.result in
    let x = c.index-2.result.now in
    let asked = listed-imports g c.args.socket c.index.result.now w t x c.index.ensures c.ty-importing.ensures c.types-types.ensures c.index-2.ensures in
    let plugs = c.args.plugs.now in
    let i = c.loop-i.i in
    let first : PackageId = record { slot = 0; generation = 0 } in
    let plug = get_or plugs i first in
    let at : slice_get plugs i ≡ Some plug = slice_get-get_or plugs i first c.loop-i-test.true in
    c.requires.plugs i plug at

pub find_matches-requires-clause-firsts : goal.find_matches-requires-clause-firsts
find_matches-requires-clause-firsts c = subst (λ l. IfSome c.loop-i.firsts (AreFirsts l)) (sym (world-imports c.types-types.result.now c.ty-importing.result c.index-2.result.now c.index-2.ensures)) c.loop-i.invariant.firsts

pub divide-requires : goal.divide-requires
divide-requires c = λ k p here.
    let g = c.args.graph.now in
    let t = c.types-types.result.now in
    let w = c.ty-importing.result in
    let x = c.index-2.result.now in
    let asked = listed-imports g c.args.socket c.index.result.now w t x c.index.ensures c.ty-importing.ensures c.types-types.ensures c.index-2.ensures in
    let old : AreWithin (world_exports t c.ty-exporting.result) (world_imports t w) c.in_ok-pairs.pairs.items = c.in_ok-pairs.ensures.within in
    let low : p.import < length (world_imports t w) = (old k p (ap (λ l. slice_get l k) (sym c.deref.ensures.value) ∙ here)).1 in
    let same : length (world_imports t w) ≡ length x.imports = ap (λ (l : List (Name × ItemKind)). length l) (world-imports t w x c.index-2.ensures) in
    omega (arith, low, same, (c.loop-i.invariant.so_far.1).long)

pub index-requires-in-loop-i-2 : goal.index-requires-in-loop-i-2
index-requires-in-loop-i-2 c =
    let g = c.args.graph.now in
    let t = c.types-types.result.now in
    let w = c.ty-importing.result in
    let x = c.index-2.result.now in
    let asked = listed-imports g c.args.socket c.index.result.now w t x c.index.ensures c.ty-importing.ensures c.types-types.ensures c.index-2.ensures in
    let plugs = c.args.plugs.now in
    let i = c.loop-i.i in
    let first : PackageId = record { slot = 0; generation = 0 } in
    let plug = get_or plugs i first in
    let at : slice_get plugs i ≡ Some plug = slice_get-get_or plugs i first c.loop-i-test.true in
    world-within g plug c.index-in-loop-i.result.now c.ty-exporting.result t c.law.ensures c.index-in-loop-i.ensures c.ty-exporting.ensures c.types-types.ensures

pub pass_over-requires : goal.pass_over-requires
pass_over-requires c =
    let g = c.args.graph.now in
    let t = c.types-types.result.now in
    let w = c.ty-importing.result in
    let x = c.index-2.result.now in
    let asked = listed-imports g c.args.socket c.index.result.now w t x c.index.ensures c.ty-importing.ensures c.types-types.ensures c.index-2.ensures in
    let plugs = c.args.plugs.now in
    let i = c.loop-i.i in
    let first : PackageId = record { slot = 0; generation = 0 } in
    let plug = get_or plugs i first in
    let at : slice_get plugs i ≡ Some plug = slice_get-get_or plugs i first c.loop-i-test.true in
    let v = c.ty-exporting.result in
    let y = c.index-in-loop-i-2.result.now in
    let listed : exports_of_package g plug ≡ y.exports = listed-exports g plug c.index-in-loop-i.result.now v t y c.index-in-loop-i.ensures c.ty-exporting.ensures c.types-types.ensures c.index-in-loop-i-2.ensures in
    let ps = c.deref.result.now in
    let within = found-within g t w v x y c.types-types.ensures c.index-2.ensures c.index-in-loop-i-2.ensures c.in_ok-pairs.pairs.items ps c.deref.ensures.value c.in_ok-pairs.ensures.within in
    let matches = found-matches g t w v x y c.types-types.ensures c.index-2.ensures c.index-in-loop-i-2.ensures c.in_ok-pairs.pairs.items ps c.deref.ensures.value c.in_ok-pairs.ensures.matches in
    let named : NoNameTwice y.exports = subst NoNameTwice (world-exports t v y c.index-in-loop-i-2.ensures) c.in_ok-pairs.ensures.named in
    let names = c.loop-i.invariant.so_far.0 in
    let agree = c.loop-i.invariant.so_far.1 in
    lost-there g c.args.socket plug y.exports x.imports listed asked c.law-3.ensures named ps within matches names c.loop-i.taken.items agree c.deref-in-loop-i.result.now (c.deref-in-loop-i.ensures.value ∙ c.in_ok-won.ensures.lost)

pub loop-i-preserved : goal.loop-i-preserved
loop-i-preserved c =
    let g = c.args.graph.now in
    let t = c.types-types.result.now in
    let w = c.ty-importing.result in
    let x = c.index-2.result.now in
    let asked = listed-imports g c.args.socket c.index.result.now w t x c.index.ensures c.ty-importing.ensures c.types-types.ensures c.index-2.ensures in
    let plugs = c.args.plugs.now in
    let i = c.loop-i.i in
    let first : PackageId = record { slot = 0; generation = 0 } in
    let plug = get_or plugs i first in
    let at : slice_get plugs i ≡ Some plug = slice_get-get_or plugs i first c.loop-i-test.true in
    let v = c.ty-exporting.result in
    let y = c.index-in-loop-i-2.result.now in
    let listed : exports_of_package g plug ≡ y.exports = listed-exports g plug c.index-in-loop-i.result.now v t y c.index-in-loop-i.ensures c.ty-exporting.ensures c.types-types.ensures c.index-in-loop-i-2.ensures in
    let ps = c.deref.result.now in
    let within = found-within g t w v x y c.types-types.ensures c.index-2.ensures c.index-in-loop-i-2.ensures c.in_ok-pairs.pairs.items ps c.deref.ensures.value c.in_ok-pairs.ensures.within in
    let matches = found-matches g t w v x y c.types-types.ensures c.index-2.ensures c.index-in-loop-i-2.ensures c.in_ok-pairs.pairs.items ps c.deref.ensures.value c.in_ok-pairs.ensures.matches in
    let named : NoNameTwice y.exports = subst NoNameTwice (world-exports t v y c.index-in-loop-i-2.ensures) c.in_ok-pairs.ensures.named in
    let names = c.loop-i.invariant.so_far.0 in
    let agree = c.loop-i.invariant.so_far.1 in
    let won_is = c.in_ok-won.ensures.won in
    let lost_is = c.deref-in-loop-i.ensures.value ∙ c.in_ok-won.ensures.lost in
    let there = c.requires.plugs i plug at in
    record {
      firsts = subst (λ l. IfSome c.find_matches.new.firsts (AreFirsts l)) (world-imports t w x c.index-2.ensures) c.find_matches.ensures.firsts;
      so_far = (
        taken_after names (matches_at y.exports x.imports ps),
        now-taken g c.args.socket plug y.exports x.imports listed asked c.law-3.ensures named ps within matches names c.loop-i.taken.items agree c.divide.new.taken.items c.in_ok-won.ensures.marked,
        now-so-far g c.args.socket plug y.exports x.imports listed asked c.law-3.ensures named ps within matches names c.loop-i.taken.items agree c.in_ok-won.field-0.won won_is plugs i c.loop-i.wired.items c.keep.new.wired.items (map named_by c.loop-i.passed.items) (map named_by c.pass_over.new.passed.items) c.deref-in-loop-i.result.now at c.in_ok-keep.ensures lost_is c.in_ok-pass_over.ensures c.loop-i.invariant.so_far.2,
      );
      ready = now-ready g c.args.socket plug y.exports x.imports listed asked c.law-3.ensures named ps within matches names c.loop-i.taken.items agree c.in_ok-won.field-0.won won_is c.loop-i.wired.items c.keep.new.wired.items there c.loop-i.invariant.ready c.in_ok-keep.ensures;
      named = now-named g plugs i plug y.exports at listed named c.loop-i.invariant.named;
    }

pub returns-clause-matched : goal.returns-clause-matched
returns-clause-matched c =
    let so_far = c.loop-i.invariant.so_far in
    all-plugs c.args.graph.now c.args.socket c.args.plugs.now c.loop-i.i so_far.0 (plugs_at c.args.graph.now c.args.socket c.loop-i.wired.items) (map named_by c.loop-i.passed.items) c.loop-i-test.false so_far.2

pub returns-clause-named : goal.returns-clause-named
returns-clause-named c = all-named c.args.graph.now c.args.plugs.now c.loop-i.i c.loop-i-test.false c.loop-i.invariant.named
