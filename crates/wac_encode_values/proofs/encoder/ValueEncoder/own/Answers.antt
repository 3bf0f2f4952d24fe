use Rattle.wac_types_shapes.specs.declared.shapes.component.ValueType.TheVariants as val
use Rattle.wac_types_shapes.specs.declared.shapes.component.«Type».TheVariants as ty
use Rattle.wac_binary.specs.declared.types.ComponentValType.TheVariants.{Index}
use Rattle.wac_encode_stacks.specs.Scopes.{defined}
use Rattle.wac_encode_scopes.specs.States.{IsRecordedAt}
use Rattle.wac_encode_scopes.proofs.Stepped.{goes-none, all-none}
use Rattle.wac_encode_values.specs.private.Values.{IsWrittenAs}
use Rattle.wac_encode_values.proofs.Ready.{on-ok, if-ok, end-itself, own-bound, own-written, indexed-written, recorded-written}
use Rattle.wac_encode_scopes.proofs.Paying.{pays-nothing}
use Rattle.wac_encode_values.proofs.Covered.{end-own, own-covers}
use Rattle.wac_encode_values.proofs.encoder.ValueEncoder.own.Goals as goal

pub returns-in-Some-clause-goes : goal.returns-in-Some-clause-goes
returns-in-Some-clause-goes c = goes-none c.still_law.ensures c.args.self.now.merged c.args.state.now c.args.self.now.types.now

pub returns-in-Some-clause-written : goal.returns-in-Some-clause-written
returns-in-Some-clause-written c =
    let t = c.args.self.now.types.now in
    own-written t c.args.self.now.merged c.args.state.now c.args.resource c.resolve_resource-end.result (Index c.in-Some.index) c.resolve_resource-end.ensures.end c.resolve_resource-end.ensures.no_alias
    (indexed-written c.step_law.ensures.is_recorded t c.args.self.now.merged c.args.state.now (val.Own c.resolve_resource-end.result) c.index.result c.in-Some.index c.in-Some.is c.index.ensures.some)

pub returns-in-Some-clause-types : goal.returns-in-Some-clause-types
returns-in-Some-clause-types c = all-none c.args.state.now

pub own-requires : goal.own-requires
own-requires c = own-bound c.part_law.ensures.handles_are_bound c.args.self.now.types.now c.args.self.now.merged c.args.state.now c.args.resource c.resolve_resource-end.result c.resolve_resource-end.ensures.end c.requires

pub returns-in-None-clause-goes : goal.returns-in-None-clause-goes
returns-in-None-clause-goes c = on-ok c.own.result (λ h. h c.args.self.now.types.now (end-itself c.args.self.now.types.now c.resolve_resource-end.result c.resolve_resource-end.ensures.no_alias)) c.own.ensures.goes

pub returns-in-None-clause-written : goal.returns-in-None-clause-written
returns-in-None-clause-written c =
    let t = c.args.self.now.types.now in
    let b = c.args.self.now.merged in
    let end = c.resolve_resource-end.result in
    if-ok (IsRecordedAt b c.own.new.self (ty.Value (val.Own end)) defined) (λ i. IsWrittenAs t b c.own.new.self (val.Own c.args.resource) (Index i)) c.own.result
    (λ i h. own-written t b c.own.new.self c.args.resource end (Index i) c.resolve_resource-end.ensures.end c.resolve_resource-end.ensures.no_alias (recorded-written c.step_law.ensures.is_recorded t b c.own.new.self (val.Own end) defined i h)) c.own.ensures.recorded

pub returns-in-Some-clause-paid : goal.returns-in-Some-clause-paid
returns-in-Some-clause-paid c held ts covers priced = pays-nothing c.args.self.now.types.now c.args.self.now.merged ts c.args.state.now

pub returns-in-None-clause-paid : goal.returns-in-None-clause-paid
returns-in-None-clause-paid c held ts covers priced =
    let t = c.args.self.now.types.now in
    let end = c.resolve_resource-end.result in
    let law = c.weight_law.ensures in
    c.own.ensures.paid t (end-own t c.args.resource end c.resolve_resource-end.ensures.held held c.resolve_resource-end.ensures.no_alias) (c.index.ensures.none c.in-None.is) ts (own-covers law.covers_mention law.covers_resource t ts c.args.resource end c.resolve_resource-end.ensures.end covers) priced
