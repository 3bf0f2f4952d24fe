use Rattle.std.proofs.Common.{Contains, sym, subst}
use Rattle.wac_types_shapes.specs.declared.shapes.component.«Type».{«Type» as AnyType}
use Rattle.wac_encode_interfaces.specs.private.Worlds.{HaveWorlds, written_in}
use Rattle.wac_encode_interfaces.specs.declared.worlds.WorldTypes.{WorldTypes}
use Rattle.wac_encode_interfaces.specs.private.InnerTypes.{AreCleanTypes, IsInnerFirst}
use Rattle.wac_encode_interfaces.specs.private.Paid.{WeighNoMore}
use Rattle.wac_encode_interfaces.proofs.Written.{if-ok}
use Rattle.wac_encode_interfaces.proofs.WorldsAhead.{given-worlds}
use Rattle.wac_encode_interfaces.proofs.Heavy.{heavy-root}
use Rattle.wac_encode_interfaces.proofs.Answered.{not-large}
use Rattle.std.specs.Prelude.{List}
use Rattle.wac_encode_interfaces.proofs.ahead.world_types.Goals as goal

pub types_inside-requires : goal.types_inside-requires
types_inside-requires c = λ t h. (c.requires.held t h, c.requires.clean t h)

pub write_worlds-requires-clause-sorted : goal.write_worlds-requires-clause-sorted
write_worlds-requires-clause-sorted c = subst (IsInnerFirst c.args.types.now) (sym c.as_slice.ensures.keys) c.in_ok-order.ensures.sorted

pub write_worlds-requires-clause-clean : goal.write_worlds-requires-clause-clean
write_worlds-requires-clause-clean c = subst (AreCleanTypes c.args.types.now) (sym c.as_slice.ensures.keys) c.in_ok-order.ensures.clean

pub returns-clause-there : goal.returns-clause-there
returns-clause-there c =
    if-ok (λ (ws : WorldTypes). (t : AnyType) → Contains c.as_slice.result.now t → HaveWorlds c.args.types.now (written_in ws) t) (λ ws. (t : AnyType) → Contains c.args.roots.now t → HaveWorlds c.args.types.now (written_in ws) t) c.write_worlds.result
    (λ ws have. given-worlds c.args.types.now (written_in ws) c.as_slice.result.now c.args.roots.now have (λ t h. subst (λ l. Contains l t) (sym c.as_slice.ensures.keys) (c.in_ok-order.ensures.roots t h))) c.write_worlds.ensures.there

pub returns-in_err-order-clause-small : goal.returns-in_err-order-clause-small
returns-in_err-order-clause-small c =
    λ h. absurd (not-large c.from_residual.result c.from_residual.ensures.1 h)

pub returns-clause-small : goal.returns-clause-small
returns-clause-small c =
    λ h. heavy-root c.args.types.now c.args.roots.now c.as_slice.result.now (subst (λ (ts : List AnyType). WeighNoMore c.args.types.now c.args.roots.now ts) (sym c.as_slice.ensures.keys) c.in_ok-order.ensures.light) (c.write_worlds.ensures.small h)
