use Rattle.wac_encode_interfaces.proofs.Refused.{keeps-same, keeps-begun}
use Rattle.wac_encode_interfaces.proofs.Answered.{exit-large, interface-there, large-of, not-large}
use Rattle.std.specs.Prelude.{◌≤◌, ◌+◌, ◌*◌, ℕ, length, Option}
use Rattle.std.specs.List.{sum_by}
use Rattle.std.proofs.Common.{ap, sym, subst}
use Rattle.wac_types_shapes.specs.primitives.Name.{Name, option_case}
use Rattle.wac_types_shapes.specs.declared.shapes.component.Interface.{Interface}
use Rattle.wac_types_shapes.specs.declared.shapes.component.ItemKind.{ItemKind}
use Rattle.wac_encode_scopes.specs.Books.{opened}
use Rattle.wac_encode_scopes.specs.private.Interfaces.{own_items}
use Rattle.wac_encode_scopes.specs.private.Paid.{charge}
use Rattle.wac_encode_interfaces.proofs.writer.TypeWriter.open_level.Goals as goal

pub returns-in_err-open_interface-clause-kept : goal.returns-in_err-open_interface-clause-kept
returns-in_err-open_interface-clause-kept c = keeps-same c.args.state.now c.open_interface.new.self c.in_err-open_interface.ensures.refused

pub returns-in_err-order-clause-kept : goal.returns-in_err-order-clause-kept
returns-in_err-order-clause-kept c = keeps-begun c.args.self.now.types.now c.args.self.now.merged c.args.interface c.args.state.now c.open_interface.new.self c.requires.held c.in_ok-open_interface.ensures.begins

pub returns-clause-kept : goal.returns-clause-kept
returns-clause-kept c = keeps-begun c.args.self.now.types.now c.args.self.now.merged c.args.interface c.args.state.now c.open_interface.new.self c.requires.held c.in_ok-open_interface.ensures.begins

pub returns-clause-charged : goal.returns-clause-charged
returns-clause-charged c =
    let it = interface-there c.args.self.now.types.now c.args.interface c.requires.held in
    subst (λ (n : ℕ). charge c.args.self.now.types.now c.args.self.now.merged (opened c.args.self.now.merged c.open_interface.new.self.here) ≤ n)
    (sym (ap (λ (o : Option Interface). option_case o 0 (λ x. sum_by (λ (e : Name × ItemKind). 12 * (1 + length e.0)) (own_items c.args.self.now.types.now x.uses x.exports))) it.1))
    (c.in_ok-open_interface.ensures.begins_paid it.0 it.1)

pub returns-in_err-open_interface-clause-room : goal.returns-in_err-open_interface-clause-room
returns-in_err-open_interface-clause-room c =
    λ h. c.in_err-open_interface.ensures.room (large-of _ (exit-large _ c.from_residual.result c.from_residual.ensures.1 h))

pub returns-in_err-order-clause-room : goal.returns-in_err-order-clause-room
returns-in_err-order-clause-room c =
    λ h. absurd (not-large c.from_residual-in_err-order.result c.from_residual-in_err-order.ensures.1 h)
