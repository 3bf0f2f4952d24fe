use Rattle.std.proofs.Common.{◌≡◌, ℕ, true, List, Some, slice_get, get_or, length, refl, sym, ap, ◌∙◌, subst, arith}
use Rattle.std.proofs.Math.ListN.{length-set}
use Rattle.std.proofs.lemmas.Option.{slice_get_read, slice_get_within, slice_get-get_or}
use Rattle.wac_types_shapes.specs.shapes.Kinds.{kind_type}
use Rattle.wac_types_shapes.specs.declared.shapes.component.ItemKind.{ItemKind}
use Rattle.wac_types_collection.specs.collection.Collection.{holds_type}
use Rattle.wac_merge_classes.specs.entries.Classes.{Entry, by_names, class_names}
use Rattle.wac_merge_classes.proofs.lemmas.entries.Lists.{some-at}
use Rattle.wac_merge_imports.specs.private.unions.BoundNames.{AddsNames, NameSet, instance_exports}
use Rattle.wac_merge_imports.proofs.lemmas.unions.BoundNames.{AreNamesTo, names-all, names-begin, names-next}
use Rattle.wac_merge_imports.proofs.unions.bound.BoundNames.new.Goals as goal

pub loop-i-init : goal.loop-i-init
loop-i-init c = record {
  counted = c.in_ok-names.ensures.counted ∙ ap length c.positions.ensures ∙ c.requires.classes.positioned;
  names = names-begin c.args.types.now c.args.bindings.now c.args.entries.now c.args.classes.now.numbers.items c.in_ok-names.names.items c.in_ok-names.ensures.empty;
}

pub index_mut-requires : goal.index_mut-requires
index_mut-requires c =
    let es = c.args.entries.now in
    let i : ℕ = c.loop-i.i in
    let numbers : List ℕ = c.args.classes.now.numbers.items in
    let k : ℕ = get_or c.numbers-numbers.result.now i 0 in
    let (e, at) = some-at es i c.loop-i-test.true in
    let number : slice_get numbers i ≡ Some k =
    ap (λ l. slice_get l i) (sym c.numbers-numbers.ensures) ∙ slice_get-get_or c.numbers-numbers.result.now i 0 (omega (arith, ap length c.numbers-numbers.ensures, c.requires.classes.counted)) in
    let w = c.requires.classes.numbered i k e at number in
    omega (arith, slice_get_within (class_names by_names es) k w.0 w.1, c.loop-i.invariant.counted)

pub put_member-requires : goal.put_member-requires
put_member-requires c =
    let es = c.args.entries.now in
    let i : ℕ = c.loop-i.i in
    let e : Entry = c.index-entries-i.result in
    let at : slice_get es i ≡ Some e = slice_get_read es (length es) i e refl c.loop-i-test.true c.index-entries-i.is in
    subst (λ (x : ItemKind). holds_type c.args.types.now (kind_type x) ≡ true) (sym c.kind-kind.ensures) (c.requires.held i e at)

pub loop-i-preserved : goal.loop-i-preserved
loop-i-preserved c =
    let t = c.args.types.now in
    let b = c.args.bindings.now in
    let es = c.args.entries.now in
    let i : ℕ = c.loop-i.i in
    let numbers : List ℕ = c.args.classes.now.numbers.items in
    let k : ℕ = get_or c.numbers-numbers.result.now i 0 in
    let all : List NameSet = c.loop-i.names.items in
    let e : Entry = c.index-entries-i.result in
    let old : NameSet = c.index_mut.result.now in
    let new : NameSet = c.put_member.new.names in
    let at : slice_get es i ≡ Some e = slice_get_read es (length es) i e refl c.loop-i-test.true c.index-entries-i.is in
    let number : slice_get numbers i ≡ Some k =
    ap (λ l. slice_get l i) (sym c.numbers-numbers.ensures) ∙ slice_get-get_or c.numbers-numbers.result.now i 0 (omega (arith, ap length c.numbers-numbers.ensures, c.requires.classes.counted)) in
    let w = c.requires.classes.numbered i k e at number in
    let within = slice_get_within (class_names by_names es) k w.0 w.1 in
    let known : slice_get all k ≡ Some old = slice_get_read all (length all) k old refl (omega (arith, within, c.loop-i.invariant.counted)) c.index_mut.ensures.value in
    let adds : AddsNames b k (instance_exports t e.kind) old new = subst (λ (x : ItemKind). AddsNames b k (instance_exports t x) old new) c.kind-kind.ensures c.in_ok-put_member.ensures in
    record {
      counted = length-set all k new ∙ c.loop-i.invariant.counted;
      names = names-next t b es numbers i k e all old new at number known adds c.loop-i.invariant.names;
    }

pub returns : goal.returns
returns c =
    let t = c.args.types.now in
    let b = c.args.bindings.now in
    let es = c.args.entries.now in
    let k = c.args.classes.now in
    let all : List NameSet = c.loop-i.names.items in
    let last : c.loop-i.i ≡ length es = omega arith in
    names-all t es k.numbers.items k.positions.items k.names c.requires.classes b c.requires.bindings all c.loop-i.invariant.counted
    (subst (λ (i : ℕ). AreNamesTo t b es k.numbers.items i all) last c.loop-i.invariant.names)
