use Rattle.std.proofs.Common.{◌≡◌, ◌+◌, ◌-◌, ℕ, refl, ◌∙◌, arith}
use Rattle.std.proofs.Math.ListN.{length-set}
use Rattle.std.proofs.lemmas.Option.{slice_get_within}
use Rattle.wac_merge_trees.proofs.lemmas.coding.CodingGrowth.{grown_not, grown_twice}
use Rattle.wac_merge_trees.proofs.lemmas.coding.OpenedItems.{known-grown, listings-more}
use Rattle.wac_merge_trees.proofs.coding.listings.listings.Goals as goal

pub loop-position-init : goal.loop-position-init
loop-position-init c = record {
  counted = c.in_ok-listings.ensures ∙ c.len-position.ensures;
  within = omega (arith, c.len-position.ensures);
  grown = grown_not c.args.nodes.now;
  listings = λ i t xs le at there. (let lt = slice_get_within c.args.source.now.calls.now.scopes.now i t at in absurd (omega (arith, le, lt, c.len-position.ensures)));
}

pub listing_at-requires-clause-known : goal.listing_at-requires-clause-known
listing_at-requires-clause-known c =
    let s = c.args.source.now in
    known-grown c.args.nodes.now c.loop-position.nodes s.types.now s.calls.now.known.now c.loop-position.invariant.grown c.requires.known

pub loop-position-preserved : goal.loop-position-preserved
loop-position-preserved c =
    let s = c.args.source.now in
    let position : ℕ = c.loop-position.position in
    let next : position ≡ position - 1 + 1 = omega arith in
    record {
      counted = length-set c.loop-position.listings.items (position - 1) c.in_ok-items.items ∙ c.loop-position.invariant.counted;
      within = omega (arith, c.loop-position.invariant.within);
      grown = grown_twice c.args.nodes.now c.loop-position.nodes c.listing_at.new.nodes c.loop-position.invariant.grown c.listing_at.ensures.grown;
      listings = listings-more c.loop-position.nodes c.listing_at.new.nodes s.types.now s.calls.now (position - 1) position c.loop-position.listings.items _ c.in_ok-items.items c.listing_at.ensures.grown next c.loop-position.invariant.listings
          c.in_ok-items.ensures.items refl;
    }
