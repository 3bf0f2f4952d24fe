use Rattle.std.proofs.Common.{◌≡◌, length, subst}
use Rattle.wac_encode_faults.specs.private.Owners.{AddsSideOwners, AddsSuppliers, AddsItemSteps, KindUses}
use Rattle.wac_types_shapes.specs.shapes.Kinds.{kind_type}
use Rattle.wac_encode_faults.specs.Free.{IsFree}
use Rattle.wac_encode_faults.proofs.Depending.{steps_depend}
use Rattle.wac_encode_faults.proofs.cycle.add_dependencies.Goals as goal

pub returns : goal.returns
returns c =
    let first : c.len-first.result ≡ length c.args.imports.now = c.len-first.ensures in
    steps_depend c.args.types.now c.args.uses.now c.args.own c.args.imports.now c.args.exports.now c.law.ensures c.law-2.ensures c.new-owners.result.entries c.new-suppliers.result.entries c.new-owners.ensures.empty c.new-suppliers.ensures.empty
    c.add_import_dependencies.new.owners.entries c.add_import_dependencies.new.suppliers.entries c.in_ok-add_import_dependencies.ensures.owners c.in_ok-add_import_dependencies.ensures.suppliers c.args.targets.now c.add_import_dependencies.new.targets c.requires.empty
    c.in_ok-add_import_dependencies.ensures.steps c.add_export_dependencies.new.owners.entries c.add_export_dependencies.new.suppliers.entries
    (subst (λ n. AddsSideOwners c.args.types.now c.args.uses.now n c.args.exports.now c.add_import_dependencies.new.owners.entries c.add_export_dependencies.new.owners.entries) first c.in_ok-add_export_dependencies.ensures.owners)
    (subst (λ n. AddsSuppliers c.args.types.now n c.args.exports.now c.add_import_dependencies.new.suppliers.entries c.add_export_dependencies.new.suppliers.entries) first c.in_ok-add_export_dependencies.ensures.suppliers)
    c.add_export_dependencies.new.targets
    (subst (λ n. AddsItemSteps (KindUses c.args.types.now) (λ k. IsFree c.args.types.now (kind_type k)) n c.args.exports.now c.add_export_dependencies.new.suppliers.entries c.add_export_dependencies.new.owners.entries
    c.add_import_dependencies.new.targets c.add_export_dependencies.new.targets) first c.in_ok-add_export_dependencies.ensures.steps)
