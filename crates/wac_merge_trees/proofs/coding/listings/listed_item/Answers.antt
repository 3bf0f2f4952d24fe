use Rattle.std.proofs.Common.{rules, ◌≡◌, ◌<◌, true, List, length, sym, refl, ap, ◌∙◌, subst}
use Rattle.wac_types_collection.specs.collection.Collection.{holds_type}
use Rattle.wac_types_shapes.specs.shapes.Kinds.{kind_type}
use Rattle.wac_types_shapes.specs.declared.shapes.component.«Type».{«Type» as AnyType}
use Rattle.wac_types_shapes.specs.declared.shapes.component.«Type».TheVariants as ty
use Rattle.wac_merge_trees.specs.declared.coding.calls.Calls.{Calls}
use Rattle.wac_merge_trees.specs.declared.coding.coder.Source.{Source}
use Rattle.wac_merge_classes.specs.declared.entries.scopes.Opener.{Opener}
use Rattle.wac_merge_classes.specs.declared.entries.scopes.Opener.TheVariants as opener
use Rattle.wac_merge_trees.specs.private.coding.CallsView.{names_in}
use Rattle.wac_merge_trees.specs.private.coding.Coding.{source_tree}
use Rattle.wac_merge_trees.specs.private.coding.Listings.{at_scope, AreOpen}
use Rattle.wac_merge_classes.specs.entries.Scopes.{opened_by_type, scope_tree}
use Rattle.wac_merge_classes.proofs.lemmas.entries.Opening.{opened-kind}
use Rattle.wac_merge_trees.proofs.lemmas.coding.CodingGrowth.{right_grown, tree_same}
use Rattle.wac_merge_trees.proofs.lemmas.coding.CodingMemo.{same_right}
use Rattle.wac_merge_trees.proofs.lemmas.coding.Opened.{interface-is, inner-names, interface-listed, listed-within, listing-read, interface-opens, world-opens}
use Rattle.wac_merge_trees.proofs.coding.listings.listed_item.Goals as goal

-- ---- an interface

pub position-position-requires : goal.position-position-requires
position-position-requires c = c.requires.opened (opener.Interface c.in-Interface.id) (interface-listed c.args.kind c.in-Interface.id (sym c.ty.ensures ∙ c.in-Interface.is)) refl

pub offset_bounds-listings-position : goal.offset_bounds-listings-position
offset_bounds-listings-position c =
    let lt : c.position-position.result < length c.args.listings.now = listed-within c.args.source.now.calls.now c.position-position.result (length c.args.listings.now) _ c.requires.counted c.position-position.ensures in
    search rules

pub bounds-listings-position : goal.bounds-listings-position
bounds-listings-position c = listed-within c.args.source.now.calls.now c.position-position.result (length c.args.listings.now) _ c.requires.counted c.position-position.ensures

pub scope_instance-requires-clause-items : goal.scope_instance-requires-clause-items
scope_instance-requires-clause-items c =
    let s = c.args.source.now in
    let lt = listed-within s.calls.now c.position-position.result (length c.args.listings.now) _ c.requires.counted c.position-position.ensures in
    listing-read c.args.nodes.now s.types.now s.calls.now c.position-position.result (opener.Interface c.in-Interface.id) c.args.listings.now c.index-listings-position.result c.as_slice-items.result.now c.with-inside.result
    c.requires.listings c.position-position.ensures lt c.index-listings-position.is c.as_slice-items.ensures.value (ap (λ (x : Source). x.types.now) c.with-inside.ensures) (ap (λ (x : Source). x.calls.now) c.with-inside.ensures ∙ c.at-calls.ensures)

pub returns-in_ok-number-in-Interface-clause-right : goal.returns-in_ok-number-in-Interface-clause-right
returns-in_ok-number-in-Interface-clause-right c =
    same_right (source_tree c.args.source.now) c.scope_instance.new.nodes c.args.memo.now c.scope_instance.new.memo c.scope_instance.ensures.same
    (right_grown (source_tree c.args.source.now) c.args.memo.now c.args.nodes.now c.scope_instance.new.nodes c.scope_instance.ensures.grown c.requires.right)

pub returns-in_ok-number-in-Interface-clause-item : goal.returns-in_ok-number-in-Interface-clause-item
returns-in_ok-number-in-Interface-clause-item c =
    let s = c.args.source.now in
    let t = s.types.now in
    let id = c.in-Interface.id in
    let is : kind_type c.args.kind ≡ ty.Interface id = sym c.ty.ensures ∙ c.in-Interface.is in
    let held : holds_type t (ty.Interface id) ≡ true = subst (λ (a : AnyType). holds_type t a ≡ true) is c.requires.held in
    let names = inner-names t s.calls.now c.requires.named c.requires.around (opener.Interface id) c.position-position.result c.position-position.ensures in
    let same =
    ap (λ (x : Source). scope_tree x.types.now (names_in x.types.now x.calls.now) (opener.Interface id)) c.with-inside.ensures
    ∙ (ap (λ (x : Calls). scope_tree t (names_in t x) (opener.Interface id)) c.at-calls.ensures
    ∙ (interface-is t (names_in t s.calls.now) c.trees_are_whole.ensures.bound (names_in t (at_scope s.calls.now c.position-position.result)) id held names
    ∙ ap (source_tree s) (sym is))) in
    c.opened_item.ensures c.scope_instance.new.nodes (source_tree s) (interface-opens c.args.kind id is) (tree_same c.scope_instance.new.nodes _ _ c.in_ok-number-in-Interface.number same c.in_ok-number-in-Interface.ensures.number)

-- ---- a world

pub world_number-requires-clause-held : goal.world_number-requires-clause-held
world_number-requires-clause-held c = subst (λ (a : AnyType). holds_type c.args.source.now.types.now a ≡ true) (sym c.ty.ensures ∙ c.in-World.is) c.requires.held

pub world_number-requires-clause-opened : goal.world_number-requires-clause-opened
world_number-requires-clause-opened c = subst (λ (os : List Opener). AreOpen c.args.source.now.calls.now os) (opened-kind c.args.kind ∙ ap opened_by_type (sym c.ty.ensures ∙ c.in-World.is)) c.requires.opened

pub returns-in_ok-number-in-World-clause-right : goal.returns-in_ok-number-in-World-clause-right
returns-in_ok-number-in-World-clause-right c =
    same_right (source_tree c.args.source.now) c.world_number.new.nodes c.args.memo.now c.world_number.new.memo c.world_number.ensures.same
    (right_grown (source_tree c.args.source.now) c.args.memo.now c.args.nodes.now c.world_number.new.nodes c.world_number.ensures.grown c.requires.right)

pub returns-in_ok-number-in-World-clause-item : goal.returns-in_ok-number-in-World-clause-item
returns-in_ok-number-in-World-clause-item c =
    let t = source_tree c.args.source.now in
    let ns = c.world_number.new.nodes in
    let is : kind_type c.args.kind ≡ ty.World c.in-World.id = sym c.ty.ensures ∙ c.in-World.is in
    c.opened_item-in-World.ensures ns t (world-opens c.args.kind c.in-World.id is) (tree_same ns _ _ c.in_ok-number-in-World.number (ap t (sym is)) c.in_ok-number-in-World.ensures.number)
