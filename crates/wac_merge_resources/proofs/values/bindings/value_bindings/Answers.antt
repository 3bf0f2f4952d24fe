use Rattle.std.proofs.Common.{◌≡◌, ℕ, List, Some, slice_get, get_or, length, refl, sym, ap, ◌∙◌, subst, arith, add-one}
use Rattle.std.proofs.lemmas.List.{take_all}
use Rattle.std.proofs.lemmas.Option.{slice_get_read, slice_get-get_or}
use Rattle.wac_types_collection.specs.collection.Collection.{holds_type}
use Rattle.wac_types_shapes.specs.shapes.Kinds.{kind_type}
use Rattle.wac_types_shapes.specs.declared.shapes.component.ItemKind.{ItemKind}
use Rattle.wac_merge_classes.specs.entries.Classes.{Entry}
use Rattle.wac_merge_classes.specs.private.terms.ValueBindings.{find_value}
use Rattle.wac_merge_resources.specs.private.values.Listings.{better, listed_by, seen}
use Rattle.wac_merge_resources.proofs.lemmas.values.Seen.{are-bindings, none-seen, seen-step}
use Rattle.wac_merge_resources.proofs.values.bindings.value_bindings.Goals as goal

pub loop-i-init : goal.loop-i-init
loop-i-init c d = ap (λ t. find_value t d) c.new-table.ensures ∙ sym (none-seen c.args.types.now c.args.entries.now d)

pub put_member-requires : goal.put_member-requires
put_member-requires c =
    let es = c.args.entries.now in
    let i : ℕ = c.loop-i.i in
    let e : Entry = c.index-entries-i.result in
    let at : slice_get es i ≡ Some e = slice_get_read es (length es) i e refl c.loop-i-test.true c.index-entries-i.is in
    ap (λ (k : ItemKind). holds_type c.args.types.now (kind_type k)) c.kind.ensures ∙ c.requires.held i e at

pub loop-i-preserved : goal.loop-i-preserved
loop-i-preserved c =
    let types = c.args.types.now in
    let es = c.args.entries.now in
    let i : ℕ = c.loop-i.i in
    let numbers : List ℕ = c.args.classes.now.numbers.items in
    let k : ℕ = get_or c.numbers-numbers.result.now i 0 in
    let e : Entry = c.index-entries-i.result in
    let at : slice_get es i ≡ Some e = slice_get_read es (length es) i e refl c.loop-i-test.true c.index-entries-i.is in
    let number : slice_get numbers i ≡ Some k =
    ap (λ l. slice_get l i) (sym c.numbers-numbers.ensures) ∙ slice_get-get_or c.numbers-numbers.result.now i 0 (omega (arith, ap length c.numbers-numbers.ensures, c.requires.classes.counted)) in
    let w = c.requires.classes.numbered i k e at number in
    rw add-one (λ d. c.in_ok-put_member.ensures d ∙ (λ j. better (c.loop-i.invariant d j) (listed_by types k (c.kind.ensures j) d)) ∙ sym (seen-step types es i k e at w d))

pub returns : goal.returns
returns c =
    let es = c.args.entries.now in
    are-bindings c.args.types.now es c.loop-i.table
    (λ d. subst (λ (l : List Entry). find_value c.loop-i.table d ≡ seen c.args.types.now es l d) (take_all c.loop-i.i es (omega arith)) (c.loop-i.invariant d))
