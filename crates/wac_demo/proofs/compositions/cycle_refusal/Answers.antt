-- The instance is there and on a cycle, and what is refused is that.
use Rattle.std.proofs.Common.{IfErr, IfSome, subst}
use Rattle.std.specs.Prelude.{codes}
use Rattle.std.specs.Result.{IsErrAnd}
use Rattle.wac_graph_model.specs.causes.Cause.{AnswersFor, Cause, Stands, cause_of}
use Rattle.wac_demo.specs.Composed.{IsCycle}
use Rattle.wac_demo.proofs.Cycling.{is_refused, cycle_answer, own-cycle, made-there, own-argument}
use Rattle.wac_demo.proofs.compositions.cycle_refusal.Goals as goal

pub set_instantiation_argument-requires-clause-instantiation :
    goal.set_instantiation_argument-requires-clause-instantiation
set_instantiation_argument-requires-clause-instantiation c = made-there c.register.new.graph c.instantiate.new.self c.in_ok-package.package (codes "my:package") (codes "i") c.in_ok-instance.instance c.in_ok-node.node c.in_ok-package.ensures.registered c.in_ok-node.ensures.step

pub set_instantiation_argument-requires-clause-argument :
    goal.set_instantiation_argument-requires-clause-argument
set_instantiation_argument-requires-clause-argument c = made-there c.register.new.graph c.instantiate.new.self c.in_ok-package.package (codes "my:package") (codes "i") c.in_ok-instance.instance c.in_ok-node.node c.in_ok-package.ensures.registered c.in_ok-node.ensures.step

pub unwrap_err-requires : goal.unwrap_err-requires
unwrap_err-requires c =
    let graph = c.set_instantiation_argument.new.self in
    let own : IsCycle graph = own-argument c.register.new.graph c.instantiate.new.self c.in_ok-package.package (codes "my:package") (codes "i") c.in_ok-instance.instance c.in_ok-node.node c.in_ok-package.ensures.registered c.in_ok-node.ensures.step graph c.in_ok-set_instantiation_argument.ensures.step in
    is_refused graph c.default.result own.0 (own-cycle graph own.0 (codes "i") own.2) c.encode.result c.encode.ensures.refused

pub returns : goal.returns
returns c =
    let graph = c.set_instantiation_argument.new.self in
    let own : IsCycle graph = own-argument c.register.new.graph c.instantiate.new.self c.in_ok-package.package (codes "my:package") (codes "i") c.in_ok-instance.instance c.in_ok-node.node c.in_ok-package.ensures.registered c.in_ok-node.ensures.step graph c.in_ok-set_instantiation_argument.ensures.step in
    let answers = subst (λ r. (cause : Cause) → Stands graph c.default.result cause → IsErrAnd r (AnswersFor cause)) c.unwrap_err.ensures c.encode.ensures.refused in
    let named = subst (λ r. IfErr r (λ e. IfSome (cause_of e) (Stands graph c.default.result))) c.unwrap_err.ensures c.encode.ensures.cause in
    (graph, own, cycle_answer graph c.default.result own.0 (own-cycle graph own.0 (codes "i") own.2) c.unwrap_err.result named answers)
