use Rattle.std.proofs.Common.{◌+◌, take, List, sym, subst}
use Rattle.wac_types_shapes.specs.primitives.Tree.{Leaf}
use Rattle.wac_types_shapes.specs.declared.shapes.component.ResourceId.{ResourceId}
use Rattle.wac_merge_classes.specs.private.entries.Walking.{AreBound}
use Rattle.wac_merge_classes.proofs.lemmas.entries.Walking.{bound-more}
use Rattle.wac_merge_classes.proofs.entries.naming.bound_in.Goals as goal

pub loop-position-preserved : goal.loop-position-preserved
loop-position-preserved c =
    let t = c.args.types.now in
    let ss = c.args.scopes.now in
    let n = c.loop-position.position in
    subst (λ (bs : List (List (ResourceId × Leaf))). AreBound t (take (n + 1) ss) bs) (sym {A = List (List (ResourceId × Leaf))} c.in_ok-push.ensures.items)
    (bound-more t ss c.loop-position.bound.items n c.scope.result c.in_ok-of.field-0 c.loop-position.invariant c.scope.ensures c.in_ok-of.ensures)
