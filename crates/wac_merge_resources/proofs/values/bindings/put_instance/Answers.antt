use Rattle.wac_merge_classes.proofs.lemmas.entries.Places.{uses_held}
use Rattle.wac_merge_resources.proofs.values.bindings.put_instance.Goals as goal

pub used_values-requires : goal.used_values-requires
used_values-requires c = uses_held c.args.types.now c.law.ensures c.args.id c.index-it.result.now c.index-it.ensures
