use Rattle.std.proofs.Common.{sym, ap, ◌∙◌, refl, subst}
use Rattle.wac_encode_scopes.proofs.Stepped.{goes-none}
use Rattle.wac_encode_interfaces.specs.private.Parts.{type_interface}
use Rattle.wac_encode_interfaces.proofs.Writes.{interface-is, has-recorded, has-none}
use Rattle.wac_encode_interfaces.proofs.Refused.{err-of}
use Rattle.wac_encode_interfaces.proofs.Answered.{exit-room, no-room-of, pays-any}
use Rattle.std.specs.Prelude.{ℕ, []}
use Rattle.wac_types_shapes.specs.shapes.Kinds.{kind_type}
use Rattle.wac_encode_scopes.specs.private.Paid.{HasNoRoom, IsPaid, interface_cost}
use Rattle.wac_encode_interfaces.specs.private.Paid.{MayHold, inside_cost}
use Rattle.wac_encode_interfaces.proofs.writer.TypeWriter.write_interface_of.Goals as goal

pub returns-in-None-clause-goes : goal.returns-in-None-clause-goes
returns-in-None-clause-goes c = goes-none c.still_law.ensures c.args.self.now.merged c.args.state.now c.args.self.now.types.now

pub returns-in-None-clause-has : goal.returns-in-None-clause-has
returns-in-None-clause-has c = has-none c.args.self.now.merged c.args.state.now c.args.item (ap type_interface (sym c.ty.ensures) ∙ sym c.interface_in.ensures ∙ c.in-None.is)

pub interface_index-requires-clause-held : goal.interface_index-requires-clause-held
interface_index-requires-clause-held c = c.requires.held c.in-Some.interface (sym c.ty.ensures ∙ interface-is c.ty.result c.in-Some.interface (sym c.interface_in.ensures ∙ c.in-Some.is))

pub interface_index-requires-clause-ready : goal.interface_index-requires-clause-ready
interface_index-requires-clause-ready c = c.requires.ready c.in-Some.interface (sym c.ty.ensures ∙ interface-is c.ty.result c.in-Some.interface (sym c.interface_in.ensures ∙ c.in-Some.is))

pub interface_index-requires-clause-worlds : goal.interface_index-requires-clause-worlds
interface_index-requires-clause-worlds c = c.requires.worlds c.in-Some.interface (sym c.ty.ensures ∙ interface-is c.ty.result c.in-Some.interface (sym c.interface_in.ensures ∙ c.in-Some.is))

pub returns-in_ok-interface_index-in-Some-clause-has : goal.returns-in_ok-interface_index-in-Some-clause-has
returns-in_ok-interface_index-in-Some-clause-has c =
    let there = c.in_ok-interface_index-in-Some.ensures.recorded refl in
    has-recorded c.args.self.now.merged c.interface_index.new.state c.args.item c.in-Some.interface (ap type_interface (sym c.ty.ensures) ∙ sym c.interface_in.ensures ∙ c.in-Some.is) (there.0, c.in_ok-interface_index-in-Some.field-0, there.1)

pub returns-in_err-interface_index-in-Some-clause-refused : goal.returns-in_err-interface_index-in-Some-clause-refused
returns-in_err-interface_index-in-Some-clause-refused c = err-of _ c.in_err-interface_index-in-Some.ensures.refused

pub returns-in-None-clause-paid : goal.returns-in-None-clause-paid
returns-in-None-clause-paid c may priced =
    pays-any c.args.self.now.types.now c.args.self.now.merged [] (inside_cost c.args.self.now.types.now (kind_type c.args.item)) c.args.state.now

pub returns-in_err-interface_index-in-Some-clause-paid : goal.returns-in_err-interface_index-in-Some-clause-paid
returns-in_err-interface_index-in-Some-clause-paid c may priced =
    exit-room c.args.self.now.types.now c.args.self.now.merged [] (inside_cost c.args.self.now.types.now (kind_type c.args.item)) c.args.state.now c.interface_index.new.state _ c.from_residual.result c.from_residual.ensures.1
    (λ is. subst (λ (n : ℕ). HasNoRoom c.args.self.now.types.now c.args.self.now.merged [] n c.args.state.now) (sym (ap (inside_cost c.args.self.now.types.now) (sym c.ty.ensures ∙ interface-is c.ty.result c.in-Some.interface (sym c.interface_in.ensures ∙ c.in-Some.is)))) (no-room-of c.args.self.now.types.now c.args.self.now.merged [] (interface_cost c.args.self.now.types.now c.in-Some.interface) c.args.state.now _ is (c.in_err-interface_index-in-Some.ensures.paid (subst (MayHold c.args.self.now.merged c.args.state.now.here.content) (sym c.ty.ensures ∙ interface-is c.ty.result c.in-Some.interface (sym c.interface_in.ensures ∙ c.in-Some.is)) may) priced)))

pub returns-in_ok-interface_index-in-Some-clause-paid : goal.returns-in_ok-interface_index-in-Some-clause-paid
returns-in_ok-interface_index-in-Some-clause-paid c may priced =
    subst (λ (n : ℕ). IsPaid c.args.self.now.types.now c.args.self.now.merged [] n c.args.state.now c.interface_index.new.state) (sym (ap (inside_cost c.args.self.now.types.now) (sym c.ty.ensures ∙ interface-is c.ty.result c.in-Some.interface (sym c.interface_in.ensures ∙ c.in-Some.is)))) (c.in_ok-interface_index-in-Some.ensures.paid (subst (MayHold c.args.self.now.merged c.args.state.now.here.content) (sym c.ty.ensures ∙ interface-is c.ty.result c.in-Some.interface (sym c.interface_in.ensures ∙ c.in-Some.is)) may) priced)
