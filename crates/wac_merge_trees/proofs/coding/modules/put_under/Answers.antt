use Rattle.std.proofs.Common.{◌≡◌, ◌∙◌, sym, ap, string_bytes, Some}
use Rattle.std.specs.BTreeMap.{insert_entry}
use Rattle.std.specs.Map.{lookup, remove_entry}
use Rattle.std.specs.String.{string_cmp}
use Rattle.wac_types_shapes.proofs.lemmas.shapes.Under.{on_ok}
use Rattle.wac_merge_trees.proofs.lemmas.coding.CodingModules.{is_text, AreItems, items_found, items_new, puts_under, full_under}
use Rattle.wac_merge_trees.proofs.coding.modules.put_under.Goals as goal
use Rattle.wac_merge_trees.proofs.coding.modules.put_under.Goals.{in-Some, in-None}

pub returns-clause-put : goal.returns-clause-put
returns-clause-put c =
    let old = c.args.modules.now.entries in
    let m = string_bytes c.args.source in
    let found : c.remove.result ≡ lookup (is_text m) old = c.remove.ensures.value ∙ ap (λ n. lookup (is_text n) old) c.as_str.ensures.value in
    let left : c.remove.new.self.entries ≡ remove_entry (is_text m) old = c.remove.ensures.entries ∙ ap (λ n. remove_entry (is_text n) old) c.as_str.ensures.value in
    let items : AreItems old m c.match-remove.items =
    elim c.match-remove.branch [
      | in-Some w ↦ items_found old m c.match-remove.items (sym found ∙ w.in-Some.is ∙ ap Some (sym w.items-is))
      | in-None w ↦ items_new old m c.match-remove.items (sym found ∙ w.in-None.is) (ap (λ i. i.entries) w.items-is ∙ w.new-items.ensures.empty)
    ] in
    on_ok c.put-2.result
    (λ is. puts_under old c.put-2.new.map.entries c.args.source c.args.name c.args.item c.match-remove.items c.put.new.map items c.in_ok-put.ensures (is ∙ ap (λ l. insert_entry string_cmp l c.args.source c.put.new.map) left))
    c.put-2.ensures

pub returns-clause-full : goal.returns-clause-full
returns-clause-full c =
    let old = c.args.modules.now.entries in
    let left : c.remove.new.self.entries ≡ remove_entry (is_text (string_bytes c.args.source)) old = c.remove.ensures.entries ∙ ap (λ n. remove_entry (is_text n) old) c.as_str.ensures.value in
    on_ok c.put-2.result
    (λ is. full_under old c.put-2.new.map.entries c.args.source c.args.name c.args.item c.match-remove.items.entries c.put.new.map c.in_ok-put.ensures (is ∙ ap (λ l. insert_entry string_cmp l c.args.source c.put.new.map) left))
    c.put-2.ensures
