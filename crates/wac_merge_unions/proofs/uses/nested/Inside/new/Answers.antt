use Rattle.std.proofs.Common.{ℕ, Vec, sym, ◌∙◌, arith, add-one}
use Rattle.std.specs.Global.{Global}
use Rattle.wac_merge_classes.proofs.lemmas.terms.Found.{mapped_length}
use Rattle.wac_merge_unions.proofs.lemmas.uses.Inside.{inside-next, opened-counted, opened-smaller, opened-within}
use Rattle.wac_merge_unions.proofs.uses.nested.Inside.new.Goals as goal

pub open-requires-clause-there : goal.open-requires-clause-there
open-requires-clause-there c i at = let a = c.loop-position.invariant.inside in a.are.held i (a.bare c.loop-position.position i at)

pub loop-position-smaller : goal.loop-position-smaller
loop-position-smaller c = rw add-one (opened-smaller c.args.asked.now.types.now c.args.merged.now c.args.id c.args.users.now c.law.ensures c.loop-position.position _ _ _ _ _ _ c.loop-position.invariant.inside c.in_ok-open.ensures)

pub loop-position-preserved : goal.loop-position-preserved
loop-position-preserved c =
    let t = c.args.asked.now.types.now in
    let m = c.args.merged.now in
    let q = c.loop-position.position in
    let inv = c.loop-position.invariant in
    let o = c.in_ok-open.ensures in
    let old = mapped_length (λ (v : Vec ℕ Global). v.items) c.loop-position.inside.inner.items in
    let new = mapped_length (λ (v : Vec ℕ Global). v.items) c.open.new.self.inner.items in
    record {
      inside = inside-next t m c.args.id c.args.users.now c.law-2.ensures _ _ _ inv.inside _ _ _ q (sym (old ∙ inv.opened)) o;
      opened = let one = opened-counted t m q _ _ _ _ _ _ o in omega (arith, one, old, new, inv.opened);
      within = let more = opened-within t m q _ _ _ _ _ _ o in omega (arith, more);
    }
