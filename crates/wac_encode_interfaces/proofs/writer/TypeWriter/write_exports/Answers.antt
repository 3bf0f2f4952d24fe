use Rattle.std.proofs.Common.{ℕ, ◌≡◌, ◌+◌, length, sym, arith, refl}
use Rattle.wac_encode_interfaces.specs.private.Worlds.{written_in}
use Rattle.wac_encode_interfaces.proofs.Positions.{ordered-as}
use Rattle.wac_encode_interfaces.proofs.Sided.{clean-steps, exports-held}
use Rattle.wac_encode_scopes.proofs.Paying.{memory-answer}
use Rattle.wac_binary.specs.declared.fault.BinaryFault.TheVariants.{OutOfMemory}
use Rattle.wac_encode_interfaces.specs.private.Paid.{side_total}
use Rattle.wac_types_shapes.specs.primitives.Tree.{exported}
use Rattle.wac_encode_interfaces.proofs.writer.TypeWriter.write_exports.Goals as goal

pub side_positions-requires-clause-held : goal.side_positions-requires-clause-held
side_positions-requires-clause-held c = exports-held c.args.self.now.types.now c.args.self.now.merged (written_in c.args.self.now.worlds.now) c.args.parts.now c.requires.planned

pub side_positions-requires-clause-ordered : goal.side_positions-requires-clause-ordered
side_positions-requires-clause-ordered c = clean-steps c.args.self.now.types.now c.args.self.now.merged (written_in c.args.self.now.worlds.now) c.args.parts.now c.requires.planned c.args.steps.now c.requires.steps

pub write_side-requires-clause-order : goal.write_side-requires-clause-order
write_side-requires-clause-order c =
    let last : length c.args.parts.now.exports.now + 0 ≡ length c.args.parts.now.exports.now = omega arith in
    ordered-as c.args.steps.now c.len-first.result (length c.args.parts.now.imports.now) (length c.args.parts.now.exports.now + 0) (length c.args.parts.now.exports.now) c.in_ok-order.order.items c.as_slice.result.now c.len-first.ensures last (sym c.as_slice.ensures.value) c.in_ok-order.ensures

pub returns-in_err-order-clause-paid : goal.returns-in_err-order-clause-paid
returns-in_err-order-clause-paid c ts covers priced =
    memory-answer c.args.self.now.types.now c.args.self.now.merged ts (side_total c.args.self.now.types.now c.args.parts.now exported) c.args.state.now _ OutOfMemory c.from_residual.result c.from_residual.ensures.1 refl
