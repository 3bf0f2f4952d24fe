use Rattle.std.proofs.Common.{[], ◌∷◌}
use Rattle.std.specs.Prelude.{codes}
use Rattle.wac_graph_model.specs.nodes.Graph.{node_at}
use Rattle.wac_demo.proofs.Following.{instance-there, there-is, given-there, gives-export}
use Rattle.wac_demo.proofs.compositions.readme.Goals as goal

pub alias_instance_export-requires : goal.alias_instance_export-requires
alias_instance_export-requires c = there-is (node_at c.instantiate.new.self c.in_ok-giver.giver) _ (instance-there c.register.new.graph c.instantiate.new.self c.in_ok-first.first (codes "my:package1") [] ((codes "a", c.in_ok-function.function) ∷ []) c.in_ok-giver.giver c.in_ok-first.ensures.registered c.in_ok-giver.ensures.step).0.2

pub set_instantiation_argument-requires-clause-instantiation :
    goal.set_instantiation_argument-requires-clause-instantiation
set_instantiation_argument-requires-clause-instantiation c = there-is (node_at c.instantiate-2.new.self c.in_ok-taker.taker) _ (instance-there c.register-2.new.graph c.instantiate-2.new.self c.in_ok-second.second (codes "my:package2") ((codes "b", c.in_ok-function.function) ∷ []) [] c.in_ok-taker.taker c.in_ok-second.ensures.registered c.in_ok-taker.ensures.step).0.2

pub set_instantiation_argument-requires-clause-argument :
    goal.set_instantiation_argument-requires-clause-argument
set_instantiation_argument-requires-clause-argument c =
    given-there c.register.new.graph c.instantiate.new.self c.alias_instance_export.new.self c.register-2.new.graph c.instantiate-2.new.self c.instantiate-2.new.self c.in_ok-first.first c.in_ok-second.second
    (codes "my:package1") (codes "a") (codes "my:package2") (codes "b") [] ((codes "a", c.in_ok-function.function) ∷ []) ((codes "b", c.in_ok-function.function) ∷ []) [] c.in_ok-giver.giver c.in_ok-a.a c.in_ok-taker.taker
    c.in_ok-first.ensures.registered c.in_ok-giver.ensures.step c.in_ok-a.ensures.step c.in_ok-a.ensures.there c.register-2.ensures.stays c.in_ok-second.ensures.registered c.in_ok-taker.ensures.step

pub returns : goal.returns
returns c =
    let means = c.in_ok-encode.ensures.means in (
      means.0,
      c.default.result,
      c.set_instantiation_argument.new.self,
      means.1,
      c.default.ensures,
      means.4,
      gives-export c.register.new.graph c.instantiate.new.self c.alias_instance_export.new.self c.register-2.new.graph c.instantiate-2.new.self c.set_instantiation_argument.new.self c.in_ok-first.first c.in_ok-second.second
          (codes "my:package1") (codes "a") (codes "my:package2") (codes "b") [] ((codes "a", c.in_ok-function.function) ∷ []) ((codes "b", c.in_ok-function.function) ∷ []) [] c.in_ok-giver.giver c.in_ok-a.a c.in_ok-taker.taker
          c.in_ok-first.ensures.registered c.in_ok-giver.ensures.step c.in_ok-a.ensures.step c.in_ok-a.ensures.there c.register-2.ensures.stays c.in_ok-second.ensures.registered c.in_ok-taker.ensures.step c.in_ok-set_instantiation_argument.ensures.step,
    )
