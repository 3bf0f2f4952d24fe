use Rattle.wac_encode_interfaces.specs.private.Worlds.{written_in}
use Rattle.wac_encode_interfaces.proofs.Written.{on-ok}
use Rattle.wac_encode_interfaces.proofs.Sided.{begins, turn, both-written}
use Rattle.wac_encode_interfaces.proofs.Answered.{alone-after, exit-room, first-no-room, no-room-of, priced-alone}
use Rattle.wac_encode_scopes.proofs.Paying.{then-answer}
use Rattle.std.specs.Prelude.{◌+◌}
use Rattle.wac_types_shapes.specs.primitives.Tree.{imported, exported}
use Rattle.wac_encode_interfaces.specs.private.Paid.{side_total}
use Rattle.wac_encode_interfaces.proofs.writer.TypeWriter.write_sides.Goals as goal

pub write_imports-requires-clause-begins : goal.write_imports-requires-clause-begins
write_imports-requires-clause-begins c = begins c.args.self.now.types.now c.args.self.now.merged (written_in c.args.self.now.worlds.now) c.args.parts.now c.requires.planned c.args.steps.now c.requires.steps c.args.state.now c.requires.begins

pub write_exports-requires-clause-begins : goal.write_exports-requires-clause-begins
write_exports-requires-clause-begins c = turn c.args.self.now.types.now c.args.self.now.merged (written_in c.args.self.now.worlds.now) c.args.parts.now c.requires.planned c.args.steps.now c.requires.steps c.args.state.now c.write_imports.new.state c.requires.begins c.in_ok-write_imports.ensures.writes

pub returns-clause-writes : goal.returns-clause-writes
returns-clause-writes c =
    on-ok c.write_exports.result (λ h. both-written c.args.self.now.types.now c.args.self.now.merged (written_in c.args.self.now.worlds.now) c.args.parts.now c.requires.planned c.args.steps.now c.requires.steps c.args.state.now c.write_imports.new.state c.write_exports.new.state c.requires.begins c.in_ok-write_imports.ensures.writes h) c.write_exports.ensures.writes

pub returns-in_err-write_imports-clause-paid : goal.returns-in_err-write_imports-clause-paid
returns-in_err-write_imports-clause-paid c ts covers priced =
    exit-room c.args.self.now.types.now c.args.self.now.merged ts (side_total c.args.self.now.types.now c.args.parts.now imported + side_total c.args.self.now.types.now c.args.parts.now exported) c.args.state.now c.write_imports.new.state _ c.from_residual.result c.from_residual.ensures.1
    (λ is. first-no-room c.args.self.now.types.now c.args.self.now.merged ts (side_total c.args.self.now.types.now c.args.parts.now imported) (side_total c.args.self.now.types.now c.args.parts.now exported) c.args.state.now (no-room-of c.args.self.now.types.now c.args.self.now.merged ts (side_total c.args.self.now.types.now c.args.parts.now imported) c.args.state.now _ is (c.in_err-write_imports.ensures.paid ts covers priced)))

pub returns-clause-paid : goal.returns-clause-paid
returns-clause-paid c ts covers priced =
    then-answer c.args.self.now.types.now c.args.self.now.merged ts (side_total c.args.self.now.types.now c.args.parts.now imported) (side_total c.args.self.now.types.now c.args.parts.now exported) c.args.state.now c.write_imports.new.state c.write_exports.new.state c.write_exports.result (c.in_ok-write_imports.ensures.paid ts covers priced) (c.write_exports.ensures.paid ts covers (priced-alone c.args.self.now.merged c.write_imports.new.state (alone-after c.args.self.now.types.now c.args.self.now.merged ts (side_total c.args.self.now.types.now c.args.parts.now imported) c.args.state.now c.write_imports.new.state (c.in_ok-write_imports.ensures.paid ts covers priced) c.requires.begins.around)))
