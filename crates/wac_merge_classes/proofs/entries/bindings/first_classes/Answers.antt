use Rattle.std.proofs.Common.{◌≡◌, Some, slice_get, length, refl, sym, ap, ◌∙◌, add-one}
use Rattle.std.proofs.lemmas.Option.{slice_get_read}
use Rattle.wac_types_shapes.specs.primitives.Name.{first_some}
use Rattle.wac_merge_classes.specs.entries.Bindings.{numbered}
use Rattle.wac_merge_classes.proofs.lemmas.entries.ClassPaths.{first-more}
use Rattle.wac_merge_classes.proofs.entries.bindings.first_classes.Goals as goal

pub loop-k-preserved : goal.loop-k-preserved
loop-k-preserved c =
    let classes = c.args.classes.now in
    let k = c.loop-k.k in
    let m = c.index-classes-k.result in
    let at : slice_get classes k ≡ Some m = slice_get_read classes (length classes) k m refl c.loop-k-test.true c.index-classes-k.is in
    rw add-one (λ r. c.in_ok-put_numbers.ensures r ∙ ap (λ o. first_some o (numbered k m r)) (c.loop-k.invariant r) ∙ sym (first-more classes k m r at))
