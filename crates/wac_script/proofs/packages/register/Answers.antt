use Rattle.std.proofs.Common.{◌∙◌, ap, length, Ok, Err}
use Rattle.wac_types_collection.specs.collection.Package.{PackageParts}
use Rattle.std.specs.Option.{option_map}
use Rattle.semver.specs.Identifiers.{parts_of}
use Rattle.wac_types_collection.specs.collection.Package.{with_instance_of}
use Rattle.wac_script.specs.labels.Things.{things_of, cores_of}
use Rattle.wac_script.specs.Steps.{with_types, package_parts}
use Rattle.wac_script.proofs.StepLemmas.{grown, parts-of-ref, registered-as}
use Rattle.wac_script.proofs.RefuseLemmas.{package-words, package-type, error-for}
use Rattle.wac_script.proofs.packages.register.Goals as goal

pub returns-in_err-bytes : goal.returns-in_err-bytes
returns-in_err-bytes c = package-words (things_of c.args.labels.now) (cores_of c.args.labels.now) c.args.bytes.items c.args.graph.now c.args.words c.from_residual.result (c.in_err-bytes.field-0).0 c.from_residual.ensures.1 c.in_err-bytes.ensures (λ none v b w k. none b k.1)

pub returns-in_err-number : goal.returns-in_err-number
returns-in_err-number c = package-words (things_of c.args.labels.now) (cores_of c.args.labels.now) c.args.bytes.items c.args.graph.now c.args.words c.from_residual-in_err-number.result (c.in_err-number.field-0).0 c.from_residual-in_err-number.ensures.1 c.in_err-number.ensures (λ none v b w k. none v k.0)

pub returns-in_err-world : goal.returns-in_err-world
returns-in_err-world c = package-words (things_of c.args.labels.now) (cores_of c.args.labels.now) c.args.bytes.items c.args.graph.now c.args.words c.from_residual-in_err-world.result (c.in_err-world.field-0).0 c.from_residual-in_err-world.ensures.1 c.in_err-world.ensures (λ none v b w k. none w k.2)

pub returns-in_err-parts : goal.returns-in_err-parts
returns-in_err-parts c = package-type (things_of c.args.labels.now) (cores_of c.args.labels.now) c.args.bytes.items c.args.graph.now c.new_package.new.self c.args.words c.from_residual-in_err-parts.result (c.in_err-parts.field-0).0 c.from_residual-in_err-parts.ensures.1
    (option_map parts_of c.in_ok-number.number, c.in_ok-bytes.bytes.items, c.in_ok-world.world, (c.in_ok-number.ensures, c.in_ok-bytes.ensures, c.in_ok-world.ensures), error-for PackageParts _ _ c.in_err-parts.ensures.fault, c.in_err-parts.ensures.added)

pub returns-in-Ok : goal.returns-in-Ok
returns-in-Ok c =
    let types = with_instance_of c.args.graph.now.types c.in_ok-world.world in
    let interfaces = length c.args.graph.now.types.interfaces in (
      option_map parts_of c.in_ok-number.number,
      c.in_ok-bytes.bytes.items,
      c.in_ok-world.world,
      (c.in_ok-number.ensures, c.in_ok-bytes.ensures, c.in_ok-world.ensures),
      c.in_ok-parts.ensures.fault,
      registered-as c.new_package.new.self (with_types c.args.graph.now types) c.register_package.new.self _ (package_parts c.args.words.name.now (option_map parts_of c.in_ok-number.number) c.in_ok-bytes.bytes.items c.in_ok-world.world interfaces) (Ok c.in-Ok.id)
          (grown c.args.graph.now c.new_package.new.self types c.in_ok-parts.ensures.added.0 c.in_ok-parts.ensures.added.1)
          (c.in_ok-parts.ensures.built ∙ ap (λ v. package_parts c.args.words.name.now v c.in_ok-bytes.bytes.items c.in_ok-world.world interfaces) (parts-of-ref c.as_ref.result c.in_ok-number.number c.as_ref.ensures.value))
          c.in-Ok.ensures.step,
    )

pub returns : goal.returns
returns c =
    let types = with_instance_of c.args.graph.now.types c.in_ok-world.world in
    let interfaces = length c.args.graph.now.types.interfaces in (
      option_map parts_of c.in_ok-number.number,
      c.in_ok-bytes.bytes.items,
      c.in_ok-world.world,
      (c.in_ok-number.ensures, c.in_ok-bytes.ensures, c.in_ok-world.ensures),
      c.in_ok-parts.ensures.fault,
      registered-as c.new_package.new.self (with_types c.args.graph.now types) c.register_package.new.self _ (package_parts c.args.words.name.now (option_map parts_of c.in_ok-number.number) c.in_ok-bytes.bytes.items c.in_ok-world.world interfaces) (Err c.in-Err.source)
          (grown c.args.graph.now c.new_package.new.self types c.in_ok-parts.ensures.added.0 c.in_ok-parts.ensures.added.1)
          (c.in_ok-parts.ensures.built ∙ ap (λ v. package_parts c.args.words.name.now v c.in_ok-bytes.bytes.items c.in_ok-world.world interfaces) (parts-of-ref c.as_ref.result c.in_ok-number.number c.as_ref.ensures.value))
          c.in-Err.ensures.step,
    )
