use Rattle.std.proofs.Common.{◌≡◌, suc, ◌+◌, ◌<◌, List, [], ◌∷◌, ◌++◌, get_or, take, length, sym, subst, ap, ◌∙◌, add-one, arith}
use Rattle.std.proofs.lemmas.List.{length-append}
use Rattle.std.proofs.lemmas.Option.{slice_get-get_or}
use Rattle.wac_types_shapes.specs.primitives.Tree.{Leaf}
use Rattle.wac_types_shapes.specs.declared.shapes.component.ResourceId.{ResourceId}
use Rattle.wac_merge_classes.specs.terms.Became.{AreBoundParts}
use Rattle.wac_merge_resources.proofs.lemmas.renaming.BecameWalks.{bounds-more, no-part}
use Rattle.wac_merge_resources.proofs.renaming.became.part_bounds.Goals as goal

pub of-requires : goal.of-requires
of-requires c =
    let ps = c.args.parts.now in
    let i = c.loop-p.p in
    let x = get_or ps i no-part in
    let h : x.interface.0 < length c.args.types.now.interfaces = c.requires i x (slice_get-get_or ps i no-part c.loop-p-test.true) in
    grind (arith, h)

pub loop-p-preserved : goal.loop-p-preserved
loop-p-preserved c =
    let t = c.args.types.now in
    let ps = c.args.parts.now in
    let i = c.loop-p.p in
    let bounds : List (List (ResourceId × Leaf)) = c.loop-p.bounds.items in
    let m : List (ResourceId × Leaf) = c.in_ok-of.field-0 in
    let items : c.push.new.self.items ≡ bounds ++ m ∷ [] = c.in_ok-push.ensures.items in
    record {
      counted = ap length items ∙ (length-append bounds (m ∷ []) ∙ ap (λ n. n + 1) c.loop-p.invariant.counted);
      bound = rw add-one (subst (λ (l : List (List (ResourceId × Leaf))). AreBoundParts t (take (suc i) ps) l) (sym items)
          (bounds-more t ps bounds i (get_or ps i no-part) m c.loop-p.invariant.counted c.loop-p.invariant.bound (slice_get-get_or ps i no-part c.loop-p-test.true) c.in_ok-of.ensures));
    }
