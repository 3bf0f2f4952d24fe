use Rattle.std.proofs.Common.{◌≡◌, ◌-◌, ◌<◌, List, length, ◌∙◌, subst, arith}
use Rattle.std.specs.Prelude.{slice_index}
use Rattle.wac_edges.specs.declared.edges.Edge.{Edge}
use Rattle.wac_edges.specs.private.Ready.{leading}
use Rattle.wac_edges.proofs.ReadyLemmas.{released_next}
use Rattle.wac_edges.proofs.order.release.Goals as goal

pub loop-edge-preserved : goal.loop-edge-preserved
loop-edge-preserved c =
    let counts = c.loop-edge.counts in
    let counted = c.loop-edge.invariant.3 in
    let e = c.in-Some.edge in
    let rest = c.next.new.self.left in (
      tt,
      tt,
      c.release_one.auto.counts ∙ c.loop-edge.invariant.2,
      λ q low.
          let small : q < length counts = omega (arith, low, c.loop-edge.auto.counts) in
          rw c.in_ok-release_one.ensures.counted (released_next counts e rest q small ∙ subst (λ (es : List Edge). slice_index counts q - leading es q ≡ slice_index c.args.counts.now q - leading c.args.walk.left q) c.in-Some.ensures.steps.0 (counted q low)),
      c.in_ok-release_one.ensures.ready,
    )
