use Rattle.std.proofs.Common.{◌≡◌, ◌∙◌, [], take, ap, sym, subst, add-one, get_or, slice_get, Some, arith}
use Rattle.std.proofs.lemmas.Option.{slice_get-get_or, get_or_from_slice_get}
use Rattle.wac_types_shapes.specs.primitives.Name.{option_case}
use Rattle.wac_types_shapes.specs.shapes.Named.{NoNameTwice}
use Rattle.wac_types_collection.specs.collection.Collection.{item_at, interface_exports}
use Rattle.wac_types_shapes.proofs.lemmas.shapes.Names.{take_at}
use Rattle.wac_merge_classes.specs.declared.terms.parts.Part.{Part}
use Rattle.wac_merge_classes.specs.terms.Unions.{part_lists}
use Rattle.wac_merge_unions.specs.private.uniting.UnionSteps.{with_all_listed, IsHeldPart}
use Rattle.wac_merge_unions.proofs.lemmas.uniting.UnionLists.{all_at, all_push}
use Rattle.wac_merge_unions.proofs.lemmas.uniting.UnionGroups.{grouped_push}
use Rattle.wac_merge_unions.proofs.uniting.grouped.Grouped.group.Goals as goal

pub loop-index-preserved : goal.loop-index-preserved
loop-index-preserved c =
    let t = c.args.types.now in
    let ps = c.args.parts.now in
    let xs = c.args.members.now in
    let i = c.loop-index.index in
    let p = get_or xs i 0 in
    let at : slice_get xs i ≡ Some p = slice_get-get_or xs i 0 (omega (arith, c.loop-index-test.true)) in
    let h = all_at (IsHeldPart t ps) xs i p c.requires at in
    let read = get_or_from_slice_get ps p h.0 _ h.1 in
    let lists : part_lists t ps p ≡ c.index.result.now.exports =
    ap (λ o. option_case o [] (λ (x : Part). interface_exports t x.interface)) h.1
    ∙ ap (λ o. option_case o [] (λ it. it.exports)) (ap (λ (x : Part). item_at t.interfaces x.interface.0) (sym read) ∙ c.index.ensures) in
    rw (add-one, take_at xs i p at) (
      c.in_ok-put_all.ensures ∙ ap (with_all_listed c.loop-index.self p) (sym lists) ∙ ap (λ gs. with_all_listed gs p (part_lists t ps p)) c.loop-index.invariant.0 ∙ sym (grouped_push t ps [] (take i xs) p),
      all_push (λ q. NoNameTwice (part_lists t ps q)) (take i xs) p c.loop-index.invariant.1 (subst NoNameTwice (sym lists) c.law.ensures),
    )
