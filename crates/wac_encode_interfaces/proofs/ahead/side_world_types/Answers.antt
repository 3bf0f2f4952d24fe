use Rattle.std.proofs.Common.{Contains, sym, ◌∙◌, subst}
use Rattle.wac_types_shapes.specs.declared.shapes.component.«Type».{«Type» as AnyType}
use Rattle.wac_encode_interfaces.specs.declared.worlds.WorldTypes.{WorldTypes}
use Rattle.wac_encode_interfaces.specs.private.Given.{HaveSidesWorlds}
use Rattle.wac_encode_interfaces.specs.private.Worlds.{HaveWorlds, written_in}
use Rattle.wac_encode_interfaces.proofs.Written.{if-ok}
use Rattle.wac_encode_interfaces.proofs.RootTypes.{roots-held, roots-clean, roots-worlds}
use Rattle.wac_encode_interfaces.proofs.Answered.{not-large}
use Rattle.std.specs.Prelude.{List}
use Rattle.wac_encode_interfaces.specs.private.Paid.{IsHeavy}
use Rattle.wac_encode_interfaces.proofs.ahead.side_world_types.Goals as goal

pub side_roots-requires : goal.side_roots-requires
side_roots-requires c = c.requires.held.additional

pub world_types-requires-clause-held : goal.world_types-requires-clause-held
world_types-requires-clause-held c = λ t h. roots-held c.args.types.now c.law.ensures c.args.sides.now c.requires.held t (subst (λ l. Contains l t) (c.as_slice.ensures.value ∙ c.in_ok-roots.ensures) h)

pub world_types-requires-clause-clean : goal.world_types-requires-clause-clean
world_types-requires-clause-clean c = λ t h. roots-clean c.args.types.now c.args.sides.now c.requires.named c.requires.clean t (subst (λ l. Contains l t) (c.as_slice.ensures.value ∙ c.in_ok-roots.ensures) h)

pub returns-clause-there : goal.returns-clause-there
returns-clause-there c =
    if-ok (λ (ws : WorldTypes). (t : AnyType) → Contains c.as_slice.result.now t → HaveWorlds c.args.types.now (written_in ws) t) (λ ws. HaveSidesWorlds c.args.types.now (written_in ws) c.args.sides.now) c.world_types.result
    (λ ws have. roots-worlds c.args.types.now (written_in ws) c.args.sides.now (λ t h. have t (subst (λ l. Contains l t) (sym (c.as_slice.ensures.value ∙ c.in_ok-roots.ensures)) h))) c.world_types.ensures.there

pub returns-in_err-roots-clause-small : goal.returns-in_err-roots-clause-small
returns-in_err-roots-clause-small c =
    λ h. absurd (not-large c.from_residual.result c.from_residual.ensures.1 h)

pub returns-clause-small : goal.returns-clause-small
returns-clause-small c =
    λ h. subst (λ (ts : List AnyType). IsHeavy c.args.types.now ts) (c.as_slice.ensures.value ∙ c.in_ok-roots.ensures) (c.world_types.ensures.small h)
