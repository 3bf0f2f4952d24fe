use Rattle.std.proofs.Common.{◌++◌, arith}
use Rattle.std.proofs.lemmas.Grind.{common_steps}
use Rattle.wac_types_shapes.specs.shapes.Named.{by_bytes}
use Rattle.wac_types_shapes.proofs.lemmas.shapes.Names.{nothing_there}
use Rattle.wac_types_shapes.proofs.lemmas.shapes.Parts.{once_behind}
use Rattle.wac_types_shapes.proofs.shapes.named.Named.insert.Goals as goal

pub invariant_of-self-then-len-lt-FEW : goal.invariant_of-self-then-len-lt-FEW
invariant_of-self-then-len-lt-FEW g c =
    once_behind _ c.args.self.now (by_bytes c.push.new.self.items ++ c.self.inside.rest) c.args.name.now c.args.value c.self.view_is c.self.invariant
    (nothing_there c.get.result _ c.in_default.not-Some c.get.ensures) (grind (arith, common_steps))

pub invariant_of-self-2 : goal.invariant_of-self-2
invariant_of-self-2 g c =
    once_behind _ c.args.self.now (by_bytes c.self.inside.few.items ++ c.put.new.self) c.args.name.now c.args.value c.self.view_is c.self.invariant
    (nothing_there c.get.result _ c.in_default.not-Some c.get.ensures) (grind (arith, common_steps))
