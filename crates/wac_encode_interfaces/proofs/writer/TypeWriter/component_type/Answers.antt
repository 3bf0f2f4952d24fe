use Rattle.std.specs.Prelude.{IfOk}
use Rattle.std.proofs.Common.{◌≡◌, refl, subst}
use Rattle.wac_encode_scopes.specs.private.Components.{ComponentHasMeaning, component_tree}
use Rattle.wac_encode_faults.specs.Sides.{Sides}
use Rattle.wac_encode_interfaces.specs.private.Given.{sides_of}
use Rattle.wac_encode_faults.specs.Trees.{sides_tree}
use Rattle.wac_encode_interfaces.specs.private.Worlds.{written_in}
use Rattle.wac_encode_interfaces.proofs.Begun.{joined-held, planned-parts, parted-are}
use Rattle.wac_encode_interfaces.proofs.Answered.{none-sized}
use Rattle.wac_encode_interfaces.specs.private.Paid.{SizedWithin, sides_cost}
use Rattle.wac_encode_interfaces.proofs.writer.TypeWriter.component_type.Goals as goal

pub item_owners-requires-clause-imports : goal.item_owners-requires-clause-imports
item_owners-requires-clause-imports c = joined-held c.args.self.now.types.now (written_in c.args.self.now.worlds.now) c.args.sides.now c.requires.held c.requires.clean c.requires.worlds c.in_ok-imports.imports c.in_ok-imports.ensures

pub component_of-requires-clause-planned : goal.component_of-requires-clause-planned
component_of-requires-clause-planned c = planned-parts c.args.self.now.types.now (written_in c.args.self.now.worlds.now) c.args.sides.now c.requires.held c.requires.clean c.requires.worlds _ refl refl c.in_ok-imports.ensures refl c.law.ensures c.law-2.ensures c.in_ok-owners.ensures

pub returns-clause-meaning : goal.returns-clause-meaning
returns-clause-meaning c =
    subst (λ (s : Sides). IfOk c.component_of.result (λ ds. ComponentHasMeaning ds × (component_tree ds ≡ sides_tree c.args.self.now.types.now s))) (parted-are c.args.self.now.types.now c.args.sides.now c.in_ok-imports.imports c.in_ok-imports.ensures) c.component_of.ensures.meaning

pub returns-in_err-imports-clause-small : goal.returns-in_err-imports-clause-small
returns-in_err-imports-clause-small c =
    none-sized 0 (sides_cost c.args.self.now.types.now (sides_of c.args.self.now.types.now c.args.sides.now)) c.from_residual.result c.from_residual.ensures.1

pub returns-in_err-owners-clause-small : goal.returns-in_err-owners-clause-small
returns-in_err-owners-clause-small c =
    none-sized 0 (sides_cost c.args.self.now.types.now (sides_of c.args.self.now.types.now c.args.sides.now)) c.from_residual-in_err-owners.result c.from_residual-in_err-owners.ensures.1

pub returns-clause-small : goal.returns-clause-small
returns-clause-small c =
    subst (λ (s : Sides). SizedWithin 0 (sides_cost c.args.self.now.types.now s) c.component_of.result) (parted-are c.args.self.now.types.now c.args.sides.now c.in_ok-imports.imports c.in_ok-imports.ensures) c.component_of.ensures.small
