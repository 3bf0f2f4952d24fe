use Rattle.std.proofs.Common.{[], sym, ◌∙◌}
use Rattle.std.proofs.lemmas.Result.{on_ok_weaker}
use Rattle.wac_encode_imports.proofs.Telling.{tells-nothing, tells-type}
use Rattle.wac_types_shapes.specs.declared.shapes.component.ValueType.TheVariants as val
use Rattle.wac_types_shapes.specs.declared.shapes.component.«Type».TheVariants as ty
use Rattle.wac_encode_stacks.specs.Scopes.{listed}
use Rattle.wac_encode_imports.proofs.ToldCosts.{tells-same, tells-typed}
use Rattle.wac_encode_imports.proofs.told.Teller.tell_type.Goals as goal

pub returns-in_default-clause-keeps : goal.returns-in_default-clause-keeps
returns-in_default-clause-keeps c = tells-nothing c.args.self.now c.args.state.now

pub returns-then-is_listed-clause-keeps : goal.returns-then-is_listed-clause-keeps
returns-then-is_listed-clause-keeps c = tells-nothing c.args.self.now c.args.state.now

pub returns-clause-keeps : goal.returns-clause-keeps
returns-clause-keeps c =
    on_ok_weaker c.record.result
    (λ records. tells-type c.args.self.now c.args.state.now c.record.new.self c.in-Some.definition c.args.index (c.requires [] c.in-Some.definition (sym (c.definition_in.ensures []) ∙ c.in-Some.is)) records)
    c.record.ensures.records

pub returns-in_default-clause-cost : goal.returns-in_default-clause-cost
returns-in_default-clause-cost c = tells-same c.args.self.now.types.now c.args.state.now

pub returns-then-is_listed-clause-cost : goal.returns-then-is_listed-clause-cost
returns-then-is_listed-clause-cost c = tells-same c.args.self.now.types.now c.args.state.now

pub returns-clause-cost : goal.returns-clause-cost
returns-clause-cost c =
    on_ok_weaker c.record.result (λ records. tells-typed c.args.self.now.types.now (ty.Value (val.Defined c.in-Some.definition)) listed c.args.index c.args.state.now c.record.new.self records) c.record.ensures.records
