use Rattle.std.proofs.Common.{◌≡◌, ◌++◌, List, ℕ, Some, length, slice_get, get_or, arith, refl, sym, ap, ◌∙◌, subst, append-nil}
use Rattle.std.proofs.lemmas.Option.{slice_get-get_or, slice_get_read}
use Rattle.wac_types_shapes.specs.declared.shapes.component.ItemKind.{ItemKind}
use Rattle.wac_types_shapes.specs.declared.shapes.component.ItemKind.TheVariants as kind
use Rattle.wac_merge_classes.specs.entries.Classes.{Entry}
use Rattle.wac_merge_classes.proofs.lemmas.entries.Lists.{some-at}
use Rattle.wac_merge_classes.proofs.lemmas.terms.OrderGroups.{IsOther, grouping_new, grouping_same, is_other, where_of}
use Rattle.wac_merge_agreement.proofs.agreement.order.grouped.Goals.{in-Instance+in_ok-push-in-Instance, in-TypeItem+in_ok-push-in-TypeItem, in_default+in_ok-push-in_default}
use Rattle.wac_merge_agreement.proofs.agreement.order.grouped.Goals as goal

pub loop-i-preserved-then-numbers-i : goal.loop-i-preserved-then-numbers-i
loop-i-preserved-then-numbers-i c =
    let es = c.args.entries.now in
    let i : ℕ = c.loop-i.i in
    let k : ℕ = get_or c.numbers-numbers.result.now i 0 in
    let w = some-at es i c.loop-i-test.true in
    let number : slice_get c.args.classes.now.numbers.items i ≡ Some k =
    ap (λ l. slice_get l i) (sym c.numbers-numbers.ensures) ∙ slice_get-get_or c.numbers-numbers.result.now i 0 (omega (arith, ap length c.numbers-numbers.ensures, c.requires.classes.counted, c.loop-i-test.true)) in
    grouping_same es i k c.loop-i.begun w.0 c.loop-i.instances.items c.loop-i.type_items.items c.loop-i.others.items w.1 (c.requires.classes.numbered i k w.0 w.1 number) c.if-numbers-i.true c.loop-i.invariant

pub loop-i-preserved : goal.loop-i-preserved
loop-i-preserved c =
    let es = c.args.entries.now in
    let i : ℕ = c.loop-i.i in
    let e : Entry = c.index-entries-i.result in
    let k : ℕ = get_or c.numbers-numbers.result.now i 0 in
    let begun : ℕ = c.loop-i.begun in
    let a : List ℕ = c.loop-i.instances.items in
    let b : List ℕ = c.loop-i.type_items.items in
    let d : List ℕ = c.loop-i.others.items in
    let at = slice_get_read es (length es) i e refl c.loop-i-test.true c.index-entries-i.is in
    let number : slice_get c.args.classes.now.numbers.items i ≡ Some k =
    ap (λ l. slice_get l i) (sym c.numbers-numbers.ensures) ∙ slice_get-get_or c.numbers-numbers.result.now i 0 (omega (arith, ap length c.numbers-numbers.ensures, c.requires.classes.counted, c.loop-i-test.true)) in
    let class = c.requires.classes.numbered i k e at number in
    elim c.match-kind.branch [
      | in-Instance+in_ok-push-in-Instance w ↦
          let is : e.kind ≡ kind.Instance w.in-Instance.field-0 = sym c.kind.ensures ∙ w.in-Instance.is in
          grouping_new es i k begun e a b d c.match-kind.instances.items c.match-kind.type_items.items c.match-kind.others.items at class c.if-numbers-i.false c.loop-i.invariant
          (ap (λ v. v.items) w.instances-is ∙ (w.in_ok-push-in-Instance.ensures.items ∙ ap (λ (x : ItemKind). a ++ where_of 0 x begun) (sym is)))
          (ap (λ v. v.items) w.type_items-is ∙ (sym (append-nil b) ∙ ap (λ (x : ItemKind). b ++ where_of 1 x begun) (sym is)))
          (ap (λ v. v.items) w.others-is ∙ (sym (append-nil d) ∙ ap (λ (x : ItemKind). d ++ where_of 2 x begun) (sym is)))
      | in-TypeItem+in_ok-push-in-TypeItem w ↦
          let is : e.kind ≡ kind.TypeItem w.in-TypeItem.field-0 = sym c.kind.ensures ∙ w.in-TypeItem.is in
          grouping_new es i k begun e a b d c.match-kind.instances.items c.match-kind.type_items.items c.match-kind.others.items at class c.if-numbers-i.false c.loop-i.invariant
          (ap (λ v. v.items) w.instances-is ∙ (sym (append-nil a) ∙ ap (λ (x : ItemKind). a ++ where_of 0 x begun) (sym is)))
          (ap (λ v. v.items) w.type_items-is ∙ (w.in_ok-push-in-TypeItem.ensures.items ∙ ap (λ (x : ItemKind). b ++ where_of 1 x begun) (sym is)))
          (ap (λ v. v.items) w.others-is ∙ (sym (append-nil d) ∙ ap (λ (x : ItemKind). d ++ where_of 2 x begun) (sym is)))
      | in_default+in_ok-push-in_default w ↦
          let other = subst (λ (x : ItemKind). IsOther x begun) c.kind.ensures (is_other c.kind.result begun w.in_default.not-Instance w.in_default.not-TypeItem) in
          grouping_new es i k begun e a b d c.match-kind.instances.items c.match-kind.type_items.items c.match-kind.others.items at class c.if-numbers-i.false c.loop-i.invariant
          (ap (λ v. v.items) w.instances-is ∙ (sym (append-nil a) ∙ ap (λ (l : List ℕ). a ++ l) (sym other.first)))
          (ap (λ v. v.items) w.type_items-is ∙ (sym (append-nil b) ∙ ap (λ (l : List ℕ). b ++ l) (sym other.second)))
          (ap (λ v. v.items) w.others-is ∙ (w.in_ok-push-in_default.ensures.items ∙ ap (λ (l : List ℕ). d ++ l) (sym other.third)))
    ]
