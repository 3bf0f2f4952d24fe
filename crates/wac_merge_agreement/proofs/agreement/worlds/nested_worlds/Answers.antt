use Rattle.std.proofs.Common.{subst, sym}
use Rattle.std.specs.Global.{Global}
use Rattle.std.specs.Prelude.{Vec}
use Rattle.wac_types_collection.specs.reach.Reach.{AreClosed}
use Rattle.wac_types_shapes.specs.declared.shapes.component.WorldId.{WorldId}
use Rattle.wac_merge_agreement.specs.private.agreement.Worlds.{AreAmong, AreWorlds}
use Rattle.wac_merge_agreement.proofs.lemmas.agreement.Unmarked.{worlds_held}
use Rattle.wac_merge_agreement.proofs.lemmas.agreement.Leading.{if_ok}
use Rattle.wac_merge_agreement.proofs.agreement.worlds.nested_worlds.Goals as goal

pub returns : goal.returns
returns c =
    let ts = c.as_slice.result.now in
    let closed : AreClosed c.args.types.now ts = subst (AreClosed c.args.types.now) (sym c.as_slice.ensures.types) c.in_ok-reach_from.ensures.closed in
    if_ok (λ (worlds : Vec WorldId Global). AreAmong ts worlds.items) (λ (worlds : Vec WorldId Global). AreWorlds c.args.types.now worlds.items) c.worlds_among.result
    (λ worlds among. worlds_held c.args.types.now ts closed worlds.items among) c.worlds_among.ensures
