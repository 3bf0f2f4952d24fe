use Rattle.std.proofs.Common.{◌≡◌, ℕ, List, [], length, Option, Some, slice_get, refl, subst, ap, ◌∙◌, arith, add-one}
use Rattle.std.proofs.lemmas.List.{take_all}
use Rattle.std.proofs.lemmas.Option.{slice_get_read}
use Rattle.wac_types_shapes.specs.declared.shapes.component.ItemKind.{ItemKind}
use Rattle.wac_types_shapes.specs.declared.shapes.component.ResourceId.{ResourceId}
use Rattle.wac_merge_classes.specs.entries.Bindings.{first_in}
use Rattle.wac_merge_classes.specs.entries.Classes.{Entry}
use Rattle.wac_merge_resources.specs.private.renaming.FreshSteps.{IsWhole}
use Rattle.wac_merge_classes.specs.entries.Places.{resource_itself}
use Rattle.wac_merge_tables.proofs.lemmas.made.Extending.{extended_none, extended_twice}
use Rattle.wac_merge_resources.proofs.lemmas.renaming.FreshAdding.{whole-none}
use Rattle.wac_merge_resources.proofs.lemmas.renaming.FreshClasses.{first-counted, first-whole, seen-more}
use Rattle.wac_merge_resources.proofs.renaming.adding.add_all_whole.Goals as goal

pub loop-i-init : goal.loop-i-init
loop-i-init c =
    let m = c.args.merged.now in
    record {
      extended = extended_none m;
      counted = c.in_ok-whole.ensures.counted ∙ (ap length c.positions.ensures ∙ c.requires.classes.positioned);
      right = whole-none m c.args.types.now m c.args.bindings.now c.in_ok-whole.whole.items c.in_ok-whole.ensures.none;
      seen = λ j e r k at is first. cc;
    }

pub add_whole-requires-clause-counted : goal.add_whole-requires-clause-counted
add_whole-requires-clause-counted c =
    first-counted c.args.types.now c.args.entries.now c.args.bindings.now c.requires.bindings c.loop-i.whole.items c.loop-i.invariant.counted

pub returns-in_err-add_whole-clause-extended : goal.returns-in_err-add_whole-clause-extended
returns-in_err-add_whole-clause-extended c = extended_twice c.args.merged.now c.loop-i.merged c.add_whole.new.merged c.loop-i.invariant.extended c.add_whole.ensures.extended

pub loop-i-preserved : goal.loop-i-preserved
loop-i-preserved c =
    let t = c.args.types.now in
    let bs = c.args.bindings.now in
    let es = c.args.entries.now in
    let i = c.loop-i.i in
    let m = c.args.merged.now in
    let ws : List (Option ResourceId) = c.loop-i.whole.items in
    let more : List (Option ResourceId) = c.add_whole.new.whole.items in
    let e : Entry = c.index-entries-i.result in
    let v = c.loop-i.invariant in
    let at : slice_get es i ≡ Some e = slice_get_read es (length es) i e refl c.loop-i-test.true c.index-entries-i.is in
    let put = subst (λ (k : ItemKind). (r : ResourceId) (n : ℕ) → resource_itself t k ≡ Some r → first_in bs r ≡ Some (n, []) → IsWhole more n) c.kind.ensures c.in_ok-add_whole.ensures.put in
    record {
      extended = extended_twice m c.loop-i.merged c.add_whole.new.merged v.extended c.add_whole.ensures.extended;
      counted = c.in_ok-add_whole.ensures.counted ∙ v.counted;
      right = c.in_ok-add_whole.ensures.right m v.extended v.right;
      seen = rw add-one (seen-more t bs es i e ws more at c.in_ok-add_whole.ensures.stay put v.seen);
    }

pub returns-clause-extended : goal.returns-clause-extended
returns-clause-extended c = c.loop-i.invariant.extended

pub returns-clause-right : goal.returns-clause-right
returns-clause-right c = c.loop-i.invariant.right

pub returns-clause-all : goal.returns-clause-all
returns-clause-all c =
    let t = c.args.types.now in
    let bs = c.args.bindings.now in
    let es = c.args.entries.now in
    let ws : List (Option ResourceId) = c.loop-i.whole.items in
    first-whole t es bs c.requires.bindings ws
    (subst (λ (l : List Entry). (j : ℕ) (e : Entry) (r : ResourceId) (k : ℕ) → slice_get l j ≡ Some e → resource_itself t e.kind ≡ Some r → first_in bs r ≡ Some (k, []) → IsWhole ws k)
    (take_all c.loop-i.i es (omega arith)) c.loop-i.invariant.seen)
