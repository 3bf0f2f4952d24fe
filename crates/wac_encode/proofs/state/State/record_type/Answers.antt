use Rattle.wac_encode_stacks.specs.Scopes.{index_at, listed}
use Rattle.wac_encode_scopes.proofs.Stepped.{all-none}
use Rattle.wac_encode.specs.declared.state.State.{State}
use Rattle.wac_encode.proofs.Results.{on-three}
use Rattle.wac_encode.proofs.ToldItems.{tells-again, tells-type, type-stands}
use Rattle.wac_encode.proofs.state.State.record_type.Goals as goal

pub returns-then-is_listed-clause-tells : goal.returns-then-is_listed-clause-tells
returns-then-is_listed-clause-tells c = tells-again c.args.types.now c.args.merged c.args.ty c.recorded_type-end.result c.args.index (c.is_listed.ensures.yes c.if-is_listed.true).0 c.args.self.now c.requires.recordable c.recorded_type-end.ensures (c.is_listed.ensures.yes c.if-is_listed.true).1

pub returns-then-is_listed-clause-types : goal.returns-then-is_listed-clause-types
returns-then-is_listed-clause-types c = all-none c.args.self.now.scopes

pub returns-clause-tells : goal.returns-clause-tells
returns-clause-tells c =
    let old = c.args.self.now in
    let new : State = record { scopes = c.record.new.self } in
    on-three c.record.result (λ goes records at. tells-type c.beside_law.ensures.goes_on_beside c.args.types.now c.args.merged c.args.ty c.recorded_type-end.result c.args.index (index_at c.recorded_type-end.result listed c.args.index) old new c.requires.recordable c.recorded_type-end.ensures c.requires.stands
    (goes c.args.types.now (type-stands c.bringing_law.ensures.good_once c.args.types.now c.law.ensures c.args.merged c.args.ty c.recorded_type-end.result c.args.index old c.recorded_type-end.ensures c.requires.recordable c.requires.stands)) records at) c.record.ensures.goes c.record.ensures.records c.record.ensures.recorded
