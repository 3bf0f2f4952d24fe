use Rattle.std.proofs.Common.{◌≡◌, [], List, length, take, rules, refl, ap, sym, ◌∙◌, subst, arith}
use Rattle.std.proofs.Math.Seq.{take-length}
use Rattle.std.specs.List.Sorted.{IsPermutation}
use Rattle.std.proofs.lemmas.List.Sorted.{IsPermutation-trans}
use Rattle.wac_types_shapes.specs.primitives.Name.{Name}
use Rattle.wac_types_shapes.specs.declared.shapes.component.ItemKind.{ItemKind}
use Rattle.wac_merge_tables.specs.declared.tables.nodes.Item.{Item}
use Rattle.wac_merge_tables.specs.declared.tables.nodes.Item.TheVariants as item
use Rattle.wac_types_collection.proofs.lemmas.subtyping.Telling.{Borrowed}
use Rattle.wac_merge_trees.specs.private.coding.Coding.{source_tree}
use Rattle.wac_merge_trees.proofs.lemmas.coding.CodingListing.{as_many}
use Rattle.wac_merge_trees.proofs.lemmas.coding.SortedEntries.{AreEntries, entries_next, lists_sorted, sorted_by_name, written_back}
use Rattle.wac_merge_trees.proofs.coding.listing.entries.Goals as goal

pub loop-i-init : goal.loop-i-init
loop-i-init c = subst (λ (es : List (Borrowed × Item)). AreEntries c.args.nodes.now (source_tree c.args.source.now) [] es) (sym c.in_ok-entries.ensures.items) tt

pub bounds-items-i : goal.bounds-items-i
bounds-items-i c =
    let many = as_many c.args.nodes.now (source_tree c.args.source.now) c.args.kinds.now c.args.items.now c.requires in
    omega (arith, many)

pub loop-i-preserved : goal.loop-i-preserved
loop-i-preserved c =
    entries_next c.args.nodes.now (source_tree c.args.source.now) c.args.kinds.now c.args.items.now c.loop-i.i c.name_at.result.now (item.«Type» 0) c.name_at.result c.loop-i.entries.items c.push.new.self.items
    c.name_at.ensures c.requires refl c.in_ok-push.ensures.items c.loop-i.invariant

pub returns-clause-lists : goal.returns-clause-lists
returns-clause-lists c =
    let kinds = c.args.kinds.now in
    let es = c.loop-i.entries.items in
    let moved = c.exchange_all.new.entries in
    let fs = c.sort_unstable_by.new.self.items in
    let value = c.as_mut_slice.ensures.value in
    let long : length moved ≡ length es = c.exchange_all.auto.entries ∙ ap length value in
    let same = written_back c.loop-i.entries.len moved es long (sym c.as_mut_slice.ensures.len ∙ ap length value) in
    let first : IsPermutation es moved = subst (λ (xs : List (Borrowed × Item)). IsPermutation xs moved) value c.exchange_all.ensures in
    let next : IsPermutation moved fs = subst (λ (xs : List (Borrowed × Item)). IsPermutation xs fs) same c.sort_unstable_by.ensures.permutation in
    let many : c.loop-i.i ≡ length kinds = omega (arith, c.len-i-end.ensures) in
    let all : take c.loop-i.i kinds ≡ kinds = ap (λ n. take n kinds) many ∙ take-length kinds in
    lists_sorted c.args.nodes.now (source_tree c.args.source.now) kinds c.loop-i.entries.items c.sort_unstable_by.new.self.items c.law.ensures
    (subst (λ (ks : List (Name × ItemKind)). AreEntries c.args.nodes.now (source_tree c.args.source.now) ks c.loop-i.entries.items) all c.loop-i.invariant)
    (IsPermutation-trans es moved fs first next)
    (sorted_by_name c.sort_unstable_by.new.self.items c.sort_unstable_by.ensures.sorted (λ a r f' k. search rules))
