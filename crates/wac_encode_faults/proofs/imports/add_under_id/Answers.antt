use Rattle.std.proofs.Common.{Some, ap, sym, ◌∙◌}
use Rattle.wac_encode_faults.proofs.Joined.{under_twice}
use Rattle.wac_encode_faults.proofs.imports.add_under_id.Goals as goal

pub returns-clause-name_twice : goal.returns-clause-name_twice
returns-clause-name_twice c is once =
    under_twice c.args.types.now c.args.id c.index.result.now c.as_str.result.now c.args.all.now c.index.ensures (c.in-Some.is ∙ ap Some (sym c.as_str.ensures)) (c.insert.ensures.name_twice.0 is) once
