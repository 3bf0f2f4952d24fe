use Rattle.std.proofs.Common.{List, is_some, sym, ap, ◌∙◌, subst, arith, add-one}
use Rattle.std.proofs.lemmas.List.{take_all}
use Rattle.wac_types_shapes.specs.primitives.Tree.{Leaf}
use Rattle.wac_types_shapes.specs.declared.shapes.component.ResourceId.{ResourceId}
use Rattle.wac_merge_classes.specs.entries.Bindings.{numbered}
use Rattle.wac_merge_classes.specs.entries.Places.{Adds, find_resource}
use Rattle.wac_merge_classes.proofs.lemmas.entries.ClassPaths.{find-plain, numbers-more, plain-put}
use Rattle.wac_merge_classes.proofs.lemmas.entries.Places.{only-new, only-there}
use Rattle.wac_merge_classes.proofs.entries.bindings.put_numbers.Goals as goal
use Rattle.wac_merge_classes.proofs.entries.bindings.put_numbers.Goals.{then-not-contains_key+in_ok-insert, else-not-contains_key}

pub loop-i-preserved : goal.loop-i-preserved
loop-i-preserved c =
    let q = c.resource_at-resource.result in
    let k = c.args.number in
    let old = c.loop-i.firsts.entries in
    let new = c.if-not-contains_key.firsts.entries in
    let there = ap is_some (find-plain old q) ∙ sym c.contains_key.ensures in
    rw add-one (numbers-more k c.args.bound.now c.loop-i.i q c.args.firsts.now.entries old new c.resource_at-resource.ensures c.loop-i.invariant
    (elim c.if-not-contains_key.branch [
      | then-not-contains_key+in_ok-insert w ↦ only-new old new q k (there ∙ w.if-not-contains_key.true)
          (λ r. (λ j. find_resource (w.firsts-is j).entries r) ∙ plain-put old w.insert.new.self.entries q k w.in_ok-insert.ensures.updates.0 r)
      | else-not-contains_key w ↦ λ r. (λ j. find_resource (w.firsts-is j).entries r) ∙ only-there old q k (there ∙ w.if-not-contains_key.false) r
    ]))

pub returns : goal.returns
returns c =
    subst (λ (l : List (ResourceId × Leaf)). Adds c.args.firsts.now.entries (numbered c.args.number l) c.loop-i.firsts.entries)
    (take_all c.loop-i.i c.args.bound.now (omega arith)) c.loop-i.invariant
