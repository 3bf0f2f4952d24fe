use Rattle.std.proofs.Common.{ap, ◌∙◌}
use Rattle.std.specs.Prelude.{Err}
use Rattle.wac_encode_interfaces.proofs.JoinedOnce.{joined-once}
use Rattle.wac_encode_interfaces.proofs.component_type.all_imports.Goals as goal

pub unreachable-requires : goal.unreachable-requires
unreachable-requires c =
    c.join_imports.ensures.name_twice (c.in-Err-NameTwice.is ∙ ap Err c.in-Err-NameTwice.field-0-is) (joined-once c.args.types.now c.args.sides.now c.law.ensures c.requires.once c.requires.clean)
