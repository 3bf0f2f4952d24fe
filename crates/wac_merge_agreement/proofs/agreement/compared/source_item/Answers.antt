use Rattle.std.proofs.Common.{Global, ◌≡◌, ◌∙◌, refl, sym, ap, subst, List, Some, false, length, arith}
use Rattle.std.specs.Prelude.{slice_get, Vec}
use Rattle.std.proofs.lemmas.Option.{slice_get_read}
use Rattle.wac_types_shapes.specs.primitives.Name.{Name}
use Rattle.wac_merge_classes.specs.entries.Classes.{by_names, class_names, is_instance}
use Rattle.wac_merge_trees.specs.private.coding.Coding.{source_tree}
use Rattle.wac_merge_agreement.specs.private.agreement.Compared.{IsItemOf}
use Rattle.wac_merge_trees.specs.private.coding.ItemCoding.{HasItem}
use Rattle.wac_merge_trees.specs.private.coding.Listings.{at_scope, AreListings}
use Rattle.wac_merge_tables.specs.private.tables.NodeViews.{item_view}
use Rattle.wac_merge_trees.specs.declared.coding.coder.Source.{Source}
use Rattle.wac_merge_tables.specs.declared.tables.nodes.Item.{Item as AnItem}
use Rattle.wac_merge_classes.specs.declared.entries.scopes.Opener.TheVariants as opener
use Rattle.wac_merge_trees.proofs.lemmas.coding.CodingGrowth.{grown_twice}
use Rattle.wac_merge_trees.proofs.lemmas.coding.OpenedItems.{known-grown}
use Rattle.wac_merge_agreement.proofs.lemmas.agreement.Leading.{if_ok}
use Rattle.wac_merge_agreement.proofs.lemmas.agreement.Sources as source
use Rattle.wac_merge_agreement.proofs.agreement.compared.source_item.Goals as goal

pub index-requires : goal.index-requires
index-requires c =
    let s = c.args.source.now in
    let some = source.root_within s.types.now s.calls.now c.requires.named c.in-Instance.id c.in-Instance.is in
    omega (arith, some, c.in_ok-listings.ensures.counted, c.in_ok-listings.listings.ok.0)

pub scope_instance-requires-clause-items : goal.scope_instance-requires-clause-items
scope_instance-requires-clause-items c =
    let s = c.args.source.now in
    let ls = c.in_ok-listings.listings.items in
    let xs = c.index.result.now in
    let some = source.root_within s.types.now s.calls.now c.requires.named c.in-Instance.id c.in-Instance.is in
    let at : slice_get ls 0 ≡ Some xs = slice_get_read ls (length ls) 0 xs refl (omega (arith, some, c.in_ok-listings.ensures.counted)) c.index.ensures in
    let types : c.with-inside.result.types.now ≡ s.types.now = ap (λ (x : Source). x.types.now) c.with-inside.ensures in
    let calls : c.with-inside.result.calls.now ≡ at_scope s.calls.now 0 = ap (λ (x : Source). x.calls.now) c.with-inside.ensures ∙ c.at-calls.ensures in
    source.items_with c.listings.new.nodes s.types.now c.with-inside.result.types.now (at_scope s.calls.now 0) c.with-inside.result.calls.now c.in-Instance.id xs.items c.as_slice-items.result.now types calls c.as_slice-items.ensures.value
    (source.root_items s.types.now s.calls.now c.requires.named c.listings.new.nodes ls c.in-Instance.id xs c.in-Instance.is c.in_ok-listings.ensures.listings at)

pub returns-in-Instance-clause-item : goal.returns-in-Instance-clause-item
returns-in-Instance-clause-item c =
    let s = c.args.source.now in
    let types : c.with-inside.result.types.now ≡ s.types.now = ap (λ (x : Source). x.types.now) c.with-inside.ensures in
    let calls : c.with-inside.result.calls.now ≡ at_scope s.calls.now 0 = ap (λ (x : Source). x.calls.now) c.with-inside.ensures ∙ c.at-calls.ensures in
    λ name class. source.of_instance s.types.now s.calls.now c.requires.named name class c.scope_instance.new.nodes c.in-Instance.id c.in_ok-number.number c.in-Instance.is c.requires.held
    (source.tree_with c.scope_instance.new.nodes s.types.now c.with-inside.result.types.now (at_scope s.calls.now 0) c.with-inside.result.calls.now (opener.Interface c.in-Instance.id) c.in_ok-number.number types calls c.in_ok-number.ensures.number)

pub listed_item-requires : goal.listed_item-requires
listed_item-requires c =
    let s = c.args.source.now in
    let plain = source.not_instance s.calls.now.kind c.in_default.not-Instance in
    record {
      held = c.requires.held;
      named = c.requires.named;
      known = known-grown c.args.nodes.now c.listings.new.nodes s.types.now s.calls.now.known.now c.in_ok-listings.ensures.grown c.requires.known;
      right = source.right_new (source_tree s) c.clear.new.self c.listings.new.nodes c.clear.ensures.defined c.clear.ensures.funcs;
      around = source.around s.types.now s.calls.now c.requires.named plain c.requires.outermost;
      opened = source.opens s.types.now s.calls.now c.requires.named c.requires.outermost;
      counted = ap (λ (l : List (Vec AnItem Global)). length l) c.as_slice.ensures.value ∙ c.in_ok-listings.ensures.counted;
      listings = source.inner s.types.now s.calls.now c.requires.named c.listings.new.nodes c.as_slice.result.now
          (subst (λ (l : List (Vec AnItem Global)). AreListings c.listings.new.nodes s.types.now s.calls.now 0 l) (sym c.as_slice.ensures.value) c.in_ok-listings.ensures.listings);
    }

pub returns : goal.returns
returns c =
    let s = c.args.source.now in
    let ns = c.listed_item.new.nodes in
    let plain : is_instance s.calls.now.kind ≡ false = source.not_instance s.calls.now.kind c.in_default.not-Instance in
    record {
      grown = grown_twice c.args.nodes.now c.listings.new.nodes ns c.in_ok-listings.ensures.grown c.listed_item.ensures.grown;
      item = if_ok (λ (x : AnItem). HasItem ns (source_tree s) s.calls.now.kind (item_view x))
          (λ (x : AnItem). (name : Name) → slice_get (class_names by_names s.calls.now.entries.now) s.calls.now.class ≡ Some name → IsItemOf ns s.types.now s.calls.now.entries.now name s.calls.now.kind (item_view x)) c.listed_item.result
          (λ x h name class. source.of_plain s.types.now s.calls.now c.requires.named name class ns (item_view x) plain c.requires.outermost h) c.listed_item.ensures.item;
    }
