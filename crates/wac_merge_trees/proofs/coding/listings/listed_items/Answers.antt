use Rattle.std.proofs.Common.{◌≡◌, length, take, [], subst, sym, ap, ◌∙◌, arith}
use Rattle.wac_types_shapes.specs.declared.shapes.component.ItemKind.{ItemKind}
use Rattle.wac_types_shapes.specs.primitives.Name.{Name}
use Rattle.std.specs.Prelude.{List}
use Rattle.std.proofs.Math.Seq.{take-length}
use Rattle.wac_merge_tables.specs.declared.tables.nodes.Item.{Item}
use Rattle.wac_merge_trees.specs.private.coding.Coding.{source_tree}
use Rattle.wac_merge_trees.specs.private.coding.ItemCoding.{AreItems}
use Rattle.wac_merge_trees.proofs.lemmas.coding.CodingGrowth.{grown_not, grown_twice}
use Rattle.wac_merge_trees.proofs.lemmas.coding.OpenedItems.{known-grown, listings-grown, items-more, opens-at, listed-held}
use Rattle.wac_merge_trees.proofs.coding.listings.listed_items.Goals as goal

pub loop-i-init : goal.loop-i-init
loop-i-init c = record {
  grown = grown_not c.args.nodes.now;
  right = record { defined = λ d n is. (let none = c.clear.ensures.defined d in cc); funcs = λ f n is. (let none = c.clear.ensures.funcs f in cc) };
  items = subst (λ (xs : List Item). AreItems c.args.nodes.now (source_tree c.args.source.now) [] xs) (sym c.in_ok-items.ensures.items) tt;
}

pub listed_item-requires-clause-held : goal.listed_item-requires-clause-held
listed_item-requires-clause-held c = listed-held c.args.source.now.types.now c.args.kinds.now c.loop-i.i c.value_at-kind.result.now c.requires.held c.value_at-kind.ensures

pub listed_item-requires-clause-right : goal.listed_item-requires-clause-right
listed_item-requires-clause-right c = c.loop-i.invariant.right

pub listed_item-requires-clause-opened : goal.listed_item-requires-clause-opened
listed_item-requires-clause-opened c = opens-at c.args.source.now.calls.now c.args.kinds.now c.loop-i.i c.value_at-kind.result.now c.value_at-kind.ensures c.requires.opened

pub listed_item-requires-clause-known : goal.listed_item-requires-clause-known
listed_item-requires-clause-known c =
    let s = c.args.source.now in
    known-grown c.args.nodes.now c.loop-i.nodes s.types.now s.calls.now.known.now c.loop-i.invariant.grown c.requires.known

pub listed_item-requires-clause-listings : goal.listed_item-requires-clause-listings
listed_item-requires-clause-listings c =
    let s = c.args.source.now in
    listings-grown c.args.nodes.now c.loop-i.nodes s.types.now s.calls.now c.args.listings.now c.loop-i.invariant.grown c.requires.listings

pub returns-in_err-listed_item-clause-grown : goal.returns-in_err-listed_item-clause-grown
returns-in_err-listed_item-clause-grown c = grown_twice c.args.nodes.now c.loop-i.nodes c.listed_item.new.nodes c.loop-i.invariant.grown c.listed_item.ensures.grown

pub returns-in_err-push-clause-grown : goal.returns-in_err-push-clause-grown
returns-in_err-push-clause-grown c = grown_twice c.args.nodes.now c.loop-i.nodes c.listed_item.new.nodes c.loop-i.invariant.grown c.listed_item.ensures.grown

pub loop-i-preserved : goal.loop-i-preserved
loop-i-preserved c = record {
  grown = grown_twice c.args.nodes.now c.loop-i.nodes c.listed_item.new.nodes c.loop-i.invariant.grown c.listed_item.ensures.grown;
  right = c.in_ok-listed_item.ensures.right;
  items = items-more (source_tree c.args.source.now) c.loop-i.nodes c.listed_item.new.nodes c.args.kinds.now c.loop-i.i c.value_at-kind.result.now c.loop-i.items.items c.push.new.self.items c.in_ok-listed_item.field-0 c.listed_item.ensures.grown
      c.value_at-kind.ensures c.in_ok-push.ensures.items c.loop-i.invariant.items c.in_ok-listed_item.ensures.item;
}

pub returns-clause-grown : goal.returns-clause-grown
returns-clause-grown c = c.loop-i.invariant.grown

pub returns-clause-items : goal.returns-clause-items
returns-clause-items c =
    let many : c.loop-i.i ≡ length c.args.kinds.now = omega (arith, c.len-i-end.ensures) in
    subst (λ (es : List (Name × ItemKind)). AreItems c.loop-i.nodes (source_tree c.args.source.now) es c.loop-i.items.items) (ap (λ n. take n c.args.kinds.now) many ∙ take-length c.args.kinds.now) c.loop-i.invariant.items
