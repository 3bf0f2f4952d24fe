use Rattle.std.proofs.Common.{ap, sym, ◌∙◌}
use Rattle.std.proofs.lemmas.Bool.{eq-eqb, ne_eqb}
use Rattle.wac_encode_stacks.specs.Scopes.{at_type, bind_at}
use Rattle.wac_encode_scopes.proofs.Stepped.{all-none}
use Rattle.wac_types_shapes.specs.declared.shapes.component.ResourceId.{ResourceId}
use Rattle.std.specs.Prelude.{◌==◌}
use Rattle.wac_encode.specs.declared.state.State.{State}
use Rattle.wac_encode.proofs.Results.{on-both}
use Rattle.wac_encode.proofs.ToldItems.{tells-alias, tells-bound, tells-resource}
use Rattle.wac_encode.proofs.state.State.bind_resource.Goals as goal

pub returns-then-end-resource-clause-tells : goal.returns-then-end-resource-clause-tells
returns-then-end-resource-clause-tells c = tells-alias c.args.types.now c.args.merged c.args.resource c.args.index c.args.self.now (ap (λ (q : ResourceId). q.0 == c.args.resource.0) (sym c.resolve_resource-end.ensures.end) ∙ ne_eqb c.resolve_resource-end.result.0 c.args.resource.0 c.if-end-resource.true)

pub returns-then-end-resource-clause-types : goal.returns-then-end-resource-clause-types
returns-then-end-resource-clause-types c = all-none c.args.self.now.scopes

pub returns-then-is_bound-clause-tells : goal.returns-then-is_bound-clause-tells
returns-then-is_bound-clause-tells c = tells-bound c.args.types.now c.args.merged c.args.resource c.args.index c.args.self.now (c.is_bound.ensures.bound c.if-is_bound.true)

pub returns-then-is_bound-clause-types : goal.returns-then-is_bound-clause-types
returns-then-is_bound-clause-types c = all-none c.args.self.now.scopes

pub returns-clause-tells : goal.returns-clause-tells
returns-clause-tells c =
    let old = c.args.self.now in
    let new : State = record { scopes = c.bind_type.new.self } in
    on-both c.bind_type.result (λ binds records. tells-resource c.args.types.now c.args.merged c.args.resource c.args.index (bind_at c.args.resource (at_type c.args.index)) old new c.requires.held (ap (λ (q : ResourceId). q.0 == c.args.resource.0) (sym c.resolve_resource-end.ensures.end) ∙ eq-eqb c.resolve_resource-end.result.0 c.args.resource.0 c.if-end-resource.false) (c.is_bound.ensures.unbound c.if-is_bound.false) c.requires.stands binds records) c.bind_type.ensures.binds c.bind_type.ensures.recorded
