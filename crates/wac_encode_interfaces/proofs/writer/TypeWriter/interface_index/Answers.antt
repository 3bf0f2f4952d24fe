use Rattle.std.specs.Prelude.{Bool, []}
use Rattle.std.proofs.Common.{sym, subst}
use Rattle.wac_types_shapes.specs.declared.shapes.component.«Type».TheVariants as ty
use Rattle.wac_encode_scopes.proofs.Stepped.{goes-none}
use Rattle.wac_encode_interfaces.specs.private.Ready.{IsInterfaceAt}
use Rattle.wac_encode_interfaces.proofs.Written.{indexed-at}
use Rattle.wac_encode_interfaces.proofs.Answered.{pays-any}
use Rattle.wac_encode_scopes.specs.private.Paid.{interface_cost}
use Rattle.wac_encode_interfaces.proofs.writer.TypeWriter.interface_index.Goals as goal

pub returns-in-Some-clause-goes : goal.returns-in-Some-clause-goes
returns-in-Some-clause-goes c = goes-none c.still_law.ensures c.args.self.now.merged c.args.state.now c.args.self.now.types.now

pub returns-in-Some-clause-is : goal.returns-in-Some-clause-is
returns-in-Some-clause-is c =
    subst (λ (whole : Bool). IsInterfaceAt c.args.self.now.types.now c.args.self.now.merged c.args.state.now whole c.args.interface c.in-Some.index) (sym c.if-not-types_only.true)
    (indexed-at c.step_law.ensures.stands_recorded c.args.self.now.types.now c.args.self.now.merged c.args.state.now (ty.Interface c.args.interface) c.index.result c.in-Some.index c.in-Some.is c.index.ensures.some)

pub returns-in-Some-clause-paid : goal.returns-in-Some-clause-paid
returns-in-Some-clause-paid c may priced =
    pays-any c.args.self.now.types.now c.args.self.now.merged [] (interface_cost c.args.self.now.types.now c.args.interface) c.args.state.now
