-- Worked examples: which texts may be exported.
use Rattle.std.proofs.Common.{codes, [], None, refl, inl, arith}
use Rattle.wac_names.specs.Text.{has}
use Rattle.wac_names.specs.Kind.{label, url, joined}
use Rattle.wac_names.specs.Grammar.{IsKind}
use Rattle.wac_names.specs.declared.fault.NameFault.TheVariants.{NotExportable, Empty}
use Rattle.wac_graph_model.specs.nodes.ExternName.{IsExportName, HasExportFault, unnamed, unexportable}

-- a label
pub export_of_a_label : IsExportName (codes "a")
unfolding joined IsKind
export_of_a_label = (label (codes "a"), record { allowed = (codes "a", [], inl (omega arith, refl), refl, tt, refl); makes = refl }, tt)

-- a url
pub no_export_of_a_url : HasExportFault (codes "url=<u>") NotExportable
unfolding joined IsKind has
no_export_of_a_url = unexportable (url (codes "u") None) (record { allowed = ((refl, refl), tt); makes = refl }) (λ x. x) refl

-- the empty text
pub no_export_of_nothing : HasExportFault [] Empty
no_export_of_nothing = unnamed (record { fault_of = inl (refl, refl) })
