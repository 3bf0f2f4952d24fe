use Rattle.wac_types_collection.specs.collection.Collection.{func_values}
use Rattle.wac_types_shapes.specs.declared.shapes.component.FuncTypeId.{FuncTypeId}
use Rattle.wac_merge_tables.proofs.lemmas.made.Behind.{func_behind, memory_alone}
use Rattle.wac_merge_tables.proofs.made.made.add_func.Goals as goal

pub returns-in-Ok-clause-extended : goal.returns-in-Ok-clause-extended
returns-in-Ok-clause-extended c = (func_behind c.args.merged.now c.add_func_type.new.self c.args.func c.in-Ok.id c.growth_keeps_trees.ensures c.in-Ok.ensures.added.0 c.in-Ok.ensures.added.1).extended

pub returns-in-Ok-clause-added : goal.returns-in-Ok-clause-added
returns-in-Ok-clause-added c = func_behind c.args.merged.now c.add_func_type.new.self c.args.func c.in-Ok.id c.growth_keeps_trees.ensures c.in-Ok.ensures.added.0 c.in-Ok.ensures.added.1

pub out_of_memory-requires : goal.out_of_memory-requires
out_of_memory-requires c = memory_alone FuncTypeId c.args.merged.now (func_values c.args.func) c.in-Err.fault c.requires.held c.in-Err.ensures.fault
