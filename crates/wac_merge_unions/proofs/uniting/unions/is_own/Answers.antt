use Rattle.std.proofs.Common.{◌≡◌, ◌∙◌, ap, sym, true, false, ℕ, get_or, is_some, slice_get, Some}
use Rattle.std.proofs.lemmas.Option.{get_or_from_slice_get}
use Rattle.wac_types_collection.specs.collection.Collection.{item_at}
use Rattle.wac_types_shapes.specs.declared.shapes.component.ItemKind.{ItemKind}
use Rattle.wac_types_shapes.specs.declared.shapes.component.ItemKind.TheVariants as kind
use Rattle.wac_types_shapes.specs.declared.shapes.component.«Type».TheVariants as ty
use Rattle.wac_types_shapes.proofs.lemmas.shapes.Names.{element_at}
use Rattle.wac_merge_classes.specs.declared.terms.parts.Part.{Part}
use Rattle.wac_merge_classes.specs.terms.Unions.{is_own_of}
use Rattle.wac_merge_unions.specs.private.uniting.UnionSteps.{IsHeldListing}
use Rattle.wac_merge_classes.proofs.lemmas.entries.Lists.{any-at}
use Rattle.wac_merge_unions.proofs.lemmas.uniting.UnionLists.{all_at}
use Rattle.wac_merge_unions.proofs.lemmas.uniting.UnionPlaces.{own_is, any_next}
use Rattle.wac_merge_unions.proofs.uniting.unions.is_own.Goals as goal

pub returns-then-is_some : goal.returns-then-is_some
returns-then-is_some c =
    let t = c.args.types.now in
    let ps = c.args.parts.now in
    let n = c.args.name.now in
    let ls = c.args.listed.now in
    let i = c.loop-index.index in
    let d : ℕ × ItemKind = (0, kind.TypeItem (ty.Resource (record { 0 = 0 }))) in
    let l : ℕ × ItemKind = get_or ls i d in
    let at : slice_get ls i ≡ Some l = element_at ls i d c.loop-index-test.true in
    let h = all_at (IsHeldListing t ps) ls i l c.requires at in
    let read = get_or_from_slice_get ps l.0 h.0.0 _ h.0.1 in
    let own = own_is t ps n l h.0.0 c.index.result.now h.0.1 (ap (λ (x : Part). item_at t.interfaces x.interface.0) (sym read) ∙ c.index.ensures) in
    let yes : is_own_of t ps n l ≡ true = own ∙ ap is_some (sym c.own_resource.ensures) ∙ sym c.is_some.ensures ∙ c.if-is_some.true in
    sym (any-at (is_own_of t ps n) ls i l at yes)

pub loop-index-preserved : goal.loop-index-preserved
loop-index-preserved c =
    let t = c.args.types.now in
    let ps = c.args.parts.now in
    let n = c.args.name.now in
    let ls = c.args.listed.now in
    let i = c.loop-index.index in
    let d : ℕ × ItemKind = (0, kind.TypeItem (ty.Resource (record { 0 = 0 }))) in
    let l : ℕ × ItemKind = get_or ls i d in
    let at : slice_get ls i ≡ Some l = element_at ls i d c.loop-index-test.true in
    let h = all_at (IsHeldListing t ps) ls i l c.requires at in
    let read = get_or_from_slice_get ps l.0 h.0.0 _ h.0.1 in
    let own = own_is t ps n l h.0.0 c.index.result.now h.0.1 (ap (λ (x : Part). item_at t.interfaces x.interface.0) (sym read) ∙ c.index.ensures) in
    let no : is_own_of t ps n l ≡ false = own ∙ ap is_some (sym c.own_resource.ensures) ∙ sym c.is_some.ensures ∙ c.if-is_some.false in
    any_next (is_own_of t ps n) ls i l at c.loop-index.invariant no
