-- What the merge of a graph's imports keeps of them. Only private functions use this definition.
use Rattle.wac_merge_classes.specs.entries.Classes.{by_names}
use Rattle.wac_merge_imports.specs.unions.EntryFaults.{HasFaultsOfEntries}
use Rattle.wac_merge_imports.specs.unions.MergedScope.{BindsAsClasses}
use Rattle.wac_merge.specs.Aggregate.{Aggregate}
use Rattle.wac_merge.specs.MergedPlaces.{MentionsBefore}
use Rattle.wac_graph_model.specs.nodes.Graph.{Graph}
use Rattle.wac_graph_model.specs.nodes.OuterImports.{outer_entries}

-- The merge binds the resources that the classes of the graph's imports bind, in order, and has no fault that they have not.
pub record KeepsImports (g : Graph) (a : Aggregate) : Type 0 where
  pub binds : BindsAsClasses by_names g.types (outer_entries g) a.merge
  pub before : MentionsBefore by_names a.merge
  pub faults : HasFaultsOfEntries by_names g.types (outer_entries g) a.merge
