use Rattle.std.specs.List.{IsDistinct}
use Rattle.std.proofs.Common.{◌≡◌, sym, ◌∙◌, subst, refl}
use Rattle.std.proofs.lemmas.Result.{IfOk-weaker}
use Rattle.wac_types_shapes.specs.contracts.shapes.component.InterfaceIdPartialEq.TheImpl as IdEq
use Rattle.wac_types_collection.specs.wide.Wide.{AreThere}
use Rattle.wac_encode_scopes.specs.private.Components.{ComponentHasMeaning, component_tree}
use Rattle.wac_encode_faults.specs.private.Ids.{HaveIds}
use Rattle.wac_encode_faults.specs.Sides.{Sides, id_or_empty, interface_sides}
use Rattle.wac_encode_faults.specs.Trees.{sides_tree}
use Rattle.wac_encode_interfaces.specs.private.Definitions.{HaveWorldsInside}
use Rattle.wac_encode_interfaces.specs.private.Ready.{AreSidesClean}
use Rattle.wac_encode_interfaces.specs.private.Worlds.{written_in}
use Rattle.wac_encode_interfaces.proofs.DefinedSides.{none-items, one-items, interface-sides, one-sides, worlds-given}
use Rattle.wac_encode_interfaces.proofs.DefinitionCosts.{interface-definition-less, sized-more}
use Rattle.wac_encode_interfaces.proofs.Answered.{interface-holds, interface-there, none-sized}
use Rattle.std.specs.Prelude.{◌*◌}
use Rattle.wac_types_shapes.specs.declared.shapes.component.«Type».TheVariants as ty
use Rattle.wac_types_weight.specs.Weight.{weight}
use Rattle.wac_encode_interfaces.specs.private.Paid.{SizedWithin, sides_cost}
use Rattle.wac_encode_interfaces.proofs.writer.TypeWriter.interface_definition.Goals as goal

pub component_type-requires-clause-held : goal.component_type-requires-clause-held
component_type-requires-clause-held c =
    let types = c.args.self.now.types.now in
    record {
      imports = none-items types c.new-imports.result c.new-imports.ensures;
      exports = one-items types c.args.interface (id_or_empty types c.args.interface) c.in_ok-exports.exports c.requires.held c.in_ok-exports.ensures;
      additional = subst (AreThere types) (sym c.as_slice.ensures.keys) c.in_ok-additional.ensures.there;
    }

pub component_type-requires-clause-once : goal.component_type-requires-clause-once
component_type-requires-clause-once c = subst (IsDistinct (IdEq.ghosts).eq) (sym c.as_slice.ensures.keys) c.as_slice.ensures.unique

pub component_type-requires-clause-clean : goal.component_type-requires-clause-clean
component_type-requires-clause-clean c =
    let types = c.args.self.now.types.now in
    let same = interface-sides types c.args.interface c.new-imports.result c.as_slice.result.now c.in_ok-exports.exports c.new-uses.result c.in_ok-additional.additional.keys c.new-imports.ensures c.new-uses.ensures c.in_ok-exports.ensures c.as_slice.ensures.keys c.in_ok-additional.ensures.interfaces in
    subst (AreSidesClean types) (sym same) (c.requires.clean (interface_sides types c.args.interface) refl)

pub component_type-requires-clause-worlds : goal.component_type-requires-clause-worlds
component_type-requires-clause-worlds c =
    let types = c.args.self.now.types.now in
    let ws = written_in c.args.self.now.worlds.now in
    let same = interface-sides types c.args.interface c.new-imports.result c.as_slice.result.now c.in_ok-exports.exports c.new-uses.result c.in_ok-additional.additional.keys c.new-imports.ensures c.new-uses.ensures c.in_ok-exports.ensures c.as_slice.ensures.keys c.in_ok-additional.ensures.interfaces in
    worlds-given types ws _ (subst (HaveIds types) (sym c.as_slice.ensures.keys) c.in_ok-additional.ensures.named) (subst (HaveWorldsInside types ws) (sym same) (c.requires.worlds (interface_sides types c.args.interface) refl))

pub returns-clause-is : goal.returns-clause-is
returns-clause-is c =
    let types = c.args.self.now.types.now in
    let same = interface-sides types c.args.interface c.new-imports.result c.as_slice.result.now c.in_ok-exports.exports c.new-uses.result c.in_ok-additional.additional.keys c.new-imports.ensures c.new-uses.ensures c.in_ok-exports.ensures c.as_slice.ensures.keys c.in_ok-additional.ensures.interfaces in
    IfOk-weaker c.component_type.result _ _
    (λ ds h s is. subst (λ (z : Sides). ComponentHasMeaning ds × (component_tree ds ≡ sides_tree types z)) (same ∙ one-sides (interface_sides types c.args.interface) s is) h) c.component_type.ensures.meaning

pub returns-in_err-additional-clause-small : goal.returns-in_err-additional-clause-small
returns-in_err-additional-clause-small c =
    none-sized 17 (64 * weight c.args.self.now.types.now (ty.Interface c.args.interface)) c.from_residual.result c.from_residual.ensures.1

pub returns-in_err-exports-clause-small : goal.returns-in_err-exports-clause-small
returns-in_err-exports-clause-small c =
    none-sized 17 (64 * weight c.args.self.now.types.now (ty.Interface c.args.interface)) c.from_residual-in_err-exports.result c.from_residual-in_err-exports.ensures.1

pub returns-clause-small : goal.returns-clause-small
returns-clause-small c =
    let types = c.args.self.now.types.now in
    let same = interface-sides c.args.self.now.types.now c.args.interface c.new-imports.result c.as_slice.result.now c.in_ok-exports.exports c.new-uses.result c.in_ok-additional.additional.keys c.new-imports.ensures c.new-uses.ensures c.in_ok-exports.ensures c.as_slice.ensures.keys c.in_ok-additional.ensures.interfaces in
    let it = interface-there types c.args.interface c.requires.held in
    sized-more 17 (sides_cost types (interface_sides types c.args.interface)) (64 * weight c.args.self.now.types.now (ty.Interface c.args.interface)) c.component_type.result
    (interface-definition-less c.weight_law.ensures.scope_weighs_its_parts c.weight_law.ensures.near_is_least c.weight_law.ensures.uses_are_less types c.law.ensures c.args.interface c.requires.held (interface-holds types c.args.interface c.requires.held) it.0 it.1 c.in_ok-additional.additional.keys c.in_ok-additional.ensures.interfaces
    c.as_slice.ensures.unique)
    (subst (λ (s : Sides). SizedWithin 0 (sides_cost types s) c.component_type.result) same c.component_type.ensures.small)
