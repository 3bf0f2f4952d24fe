use Rattle.std.proofs.Common.{subst, sym}
use Rattle.std.proofs.lemmas.Option.{slice_get-get_or}
use Rattle.std.proofs.lemmas.List.Sorted.{All-permutation}
use Rattle.std.proofs.lemmas.List.Elements.{All-nil}
use Rattle.wac_types_collection.specs.reach.Reach.{IsIn}
use Rattle.wac_types_shapes.specs.declared.shapes.component.«Type».TheVariants as ty
use Rattle.wac_merge_agreement.specs.private.agreement.Worlds.{AreAmong}
use Rattle.wac_merge_agreement.proofs.lemmas.agreement.Unmarked.{at_in}
use Rattle.wac_merge_agreement.proofs.agreement.worlds.worlds_among.Goals as goal

pub loop-i-init : goal.loop-i-init
loop-i-init c = subst (AreAmong c.args.found.now) (sym c.new-worlds.ensures.items) (All-nil (λ w. IsIn (ty.World w) c.args.found.now))

pub loop-i-preserved : goal.loop-i-preserved
loop-i-preserved c =
    let ts = c.args.found.now in
    c.in_ok-put_world.ensures ts (at_in ts c.loop-i.i _ (slice_get-get_or ts c.loop-i.i _ c.loop-i-test.true)) c.loop-i.invariant

pub returns : goal.returns
returns c = All-permutation (λ w. IsIn (ty.World w) c.args.found.now) c.loop-i.worlds.items c.sort_unstable.new.self.items c.sort_unstable.ensures.permutation c.loop-i.invariant
