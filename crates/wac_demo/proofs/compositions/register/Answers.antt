use Rattle.std.proofs.Common.{ap, ◌∙◌}
use Rattle.wac_types_collection.specs.collection.Package.{PackageParts}
use Rattle.wac_graph_model.proofs.lemmas.nodes.StaysLemmas.{stays-trans, world-stays, made-stays, registered-stays}
use Rattle.wac_demo.proofs.Following.{registered-is}
use Rattle.wac_demo.proofs.compositions.register.Goals as goal

pub returns-in_err-bytes-clause-stays : goal.returns-in_err-bytes-clause-stays
returns-in_err-bytes-clause-stays c = world-stays _ _ _ _ c.add_world.ensures.added

pub returns-in_err-package-clause-stays : goal.returns-in_err-package-clause-stays
returns-in_err-package-clause-stays c = stays-trans _ _ _ (world-stays _ _ _ _ c.add_world.ensures.added) (made-stays _ _ _ _ c.new_package.ensures.added)

pub returns-in_err-register_package-clause-stays :
    goal.returns-in_err-register_package-clause-stays
returns-in_err-register_package-clause-stays c =
    stays-trans _ _ _ (world-stays _ _ _ _ c.add_world.ensures.added) (stays-trans _ _ _ (made-stays _ _ _ _ c.new_package.ensures.added) (registered-stays _ _ _ _ c.register_package.ensures.step))

pub returns-clause-registered : goal.returns-clause-registered
returns-clause-registered c =
    registered-is c.args.graph.now c.add_world.new.self c.new_package.new.self c.register_package.new.self c.in_ok-new.field-0 c.in_ok-world.world c.in_ok-package.package c.in_ok-register_package.field-0 _ _ _
    c.in_ok-world.ensures.added c.in_ok-new.ensures.built.2 c.in_ok-new.ensures.built.3
    (ap (λ (p : PackageParts). p.name) c.in_ok-package.ensures.built) (ap (λ (p : PackageParts). p.version) c.in_ok-package.ensures.built)
    (ap (λ (p : PackageParts). p.bytes) c.in_ok-package.ensures.built ∙ c.in_ok-bytes.ensures.items) (ap (λ (p : PackageParts). p.world) c.in_ok-package.ensures.built)
    (stays-trans _ _ _ (made-stays _ _ _ _ c.new_package.ensures.added) (registered-stays _ _ _ _ c.register_package.ensures.step))
    c.in_ok-register_package.ensures.step

pub returns-clause-stays : goal.returns-clause-stays
returns-clause-stays c =
    stays-trans _ _ _ (world-stays _ _ _ _ c.add_world.ensures.added) (stays-trans _ _ _ (made-stays _ _ _ _ c.new_package.ensures.added) (registered-stays _ _ _ _ c.register_package.ensures.step))
