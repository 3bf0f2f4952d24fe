use Rattle.std.proofs.Common.{◌∷◌, [], map, ap, ◌∙◌}
use Rattle.std.proofs.lemmas.List.{map-append}
use Rattle.wac_types_collection.proofs.lemmas.subtyping.Telling.{bytes}
use Rattle.wac_merge_tables.proofs.lemmas.tables.TaskOpenings.{labels_take}
use Rattle.wac_merge_trees.proofs.coding.coder.names.Goals as goal

pub loop-i-preserved : goal.loop-i-preserved
loop-i-preserved c =
    ap (map bytes) c.in_ok-push.ensures.items
    ∙ map-append bytes c.loop-i.names.items (c.name_at.result ∷ [])
    ∙ labels_take (map bytes c.loop-i.names.items) c.args.labels.now c.loop-i.i c.name_at.result.now c.name_at.ensures c.loop-i.invariant
