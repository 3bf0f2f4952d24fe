use Rattle.std.proofs.Common.{Err, ap, ◌∙◌}
use Rattle.wac_types_shapes.specs.primitives.Name.{find_name}
use Rattle.wac_merge_classes.proofs.lemmas.entries.Numbers.{more-pushed, more-there, some-there}
use Rattle.wac_merge_classes.proofs.entries.classes.put.Goals as goal

pub returns-in-Ok : goal.returns-in-Ok
returns-in-Ok c = rw c.in-Ok.ensures.inserted (more-pushed c.args.names.now c.args.name.now)

pub returns-in-Err-NameTwice : goal.returns-in-Err-NameTwice
returns-in-Err-NameTwice c =
    let there = some-there (find_name c.args.names.now c.args.name.now) (c.insert.ensures.name_twice.0 (c.in-Err-NameTwice.is ∙ ap Err c.in-Err-NameTwice.field-0-is)) in
    rw c.in-Err-NameTwice.ensures.refused (more-there c.args.names.now c.args.name.now there)
