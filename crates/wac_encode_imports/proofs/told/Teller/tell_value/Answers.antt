use Rattle.std.proofs.Common.{◌*◌, length, subst, arith, false}
use Rattle.std.proofs.lemmas.Result.{on_ok_weaker}
use Rattle.wac_types_shapes.specs.primitives.Name.{Name}
use Rattle.wac_encode_stacks.specs.Scopes.{at_export, export_at}
use Rattle.wac_encode_scopes.specs.States.{RecordsHere}
use Rattle.wac_encode_imports.proofs.Telling.{tells-export, tells-nothing}
use Rattle.wac_encode_imports.proofs.ToldCosts.{tells-same, tells-more, tells-exported}
use Rattle.wac_encode_imports.proofs.told.Teller.tell_value.Goals as goal

pub returns-in_default-clause-keeps : goal.returns-in_default-clause-keeps
returns-in_default-clause-keeps c = tells-nothing c.args.self.now c.args.state.now

pub returns-then-not-branch-clause-keeps : goal.returns-then-not-branch-clause-keeps
returns-then-not-branch-clause-keeps c = tells-nothing c.args.self.now c.args.state.now

pub returns-clause-keeps : goal.returns-clause-keeps
returns-clause-keeps c =
    on_ok_weaker c.tell.result
    (λ records. tells-export c.args.self.now c.args.state.now c.tell.new.self c.in-Some.definition c.args.index c.args.name.now (c.requires c.in-Some.definition c.in-Some.is)
    (subst (λ (n : Name). RecordsHere false (export_at c.in-Some.definition (at_export c.args.index n)) c.args.state.now c.tell.new.self) c.in_ok-name.ensures records))
    c.tell.ensures.recorded

pub returns-in_default-clause-cost : goal.returns-in_default-clause-cost
returns-in_default-clause-cost c = tells-more c.args.self.now.types.now 0 (2 * length c.args.name.now) c.args.state.now c.args.state.now (omega arith) (tells-same c.args.self.now.types.now c.args.state.now)

pub returns-then-not-branch-clause-cost : goal.returns-then-not-branch-clause-cost
returns-then-not-branch-clause-cost c = tells-more c.args.self.now.types.now 0 (2 * length c.args.name.now) c.args.state.now c.args.state.now (omega arith) (tells-same c.args.self.now.types.now c.args.state.now)

pub returns-clause-cost : goal.returns-clause-cost
returns-clause-cost c =
    on_ok_weaker c.tell.result
    (λ records. tells-exported c.args.self.now.types.now c.in-Some.definition c.args.index c.args.name.now c.args.state.now c.tell.new.self
    (subst (λ (n : Name). RecordsHere false (export_at c.in-Some.definition (at_export c.args.index n)) c.args.state.now c.tell.new.self) c.in_ok-name.ensures records))
    c.tell.ensures.recorded
