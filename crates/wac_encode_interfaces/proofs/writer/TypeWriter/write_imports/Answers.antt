use Rattle.std.proofs.Common.{ℕ, ◌≡◌, ◌+◌, ◌-◌, List, length, ap, sym, ◌∙◌, subst, arith, refl}
use Rattle.wac_types_shapes.specs.primitives.Tree.{imported}
use Rattle.wac_encode_interfaces.specs.private.Worlds.{written_in}
use Rattle.wac_encode_interfaces.specs.private.Ordered.{IsOrdered}
use Rattle.wac_encode_interfaces.proofs.Sided.{clean-steps, listed-held, listed-fit}
use Rattle.wac_encode_scopes.proofs.Paying.{memory-answer}
use Rattle.wac_binary.specs.declared.fault.BinaryFault.TheVariants.{OutOfMemory}
use Rattle.wac_encode_interfaces.specs.private.Paid.{side_total}
use Rattle.wac_encode_interfaces.proofs.writer.TypeWriter.write_imports.Goals as goal

pub side_positions-requires-clause-held : goal.side_positions-requires-clause-held
side_positions-requires-clause-held c = listed-held c.args.self.now.types.now c.args.self.now.merged (written_in c.args.self.now.worlds.now) c.args.parts.now c.requires.planned

pub side_positions-requires-clause-ordered : goal.side_positions-requires-clause-ordered
side_positions-requires-clause-ordered c = clean-steps c.args.self.now.types.now c.args.self.now.merged (written_in c.args.self.now.worlds.now) c.args.parts.now c.requires.planned c.args.steps.now c.requires.steps

pub returns-in_err-order-clause-paid : goal.returns-in_err-order-clause-paid
returns-in_err-order-clause-paid c ts covers priced =
    memory-answer c.args.self.now.types.now c.args.self.now.merged ts (side_total c.args.self.now.types.now c.args.parts.now imported) c.args.state.now _ OutOfMemory c.from_residual.result c.from_residual.ensures.1 refl
