use Rattle.std.specs.Prelude.{◌≡◌, List, Some, length, slice_get, true}
use Rattle.std.proofs.Common.{refl, ap, ◌∙◌, sym, subst, arith}
use Rattle.std.proofs.lemmas.Option.{slice_get_read}
use Rattle.wac_types_shapes.specs.shapes.Kinds.{kind_type}
use Rattle.wac_types_shapes.specs.declared.shapes.component.ItemKind.{ItemKind}
use Rattle.wac_types_collection.specs.collection.Collection.{holds_type}
use Rattle.wac_merge_classes.specs.entries.Classes.{Entry}
use Rattle.wac_encode_tests.proofs.RootMerges.{no-fault-first, no-fault-last, no-fault-next}
use Rattle.wac_encode_tests.proofs.merged.assert_no_faults.Goals as goal

pub class_resources-bound-requires : goal.class_resources-bound-requires
class_resources-bound-requires g c = c.requires.finished

pub loop-i-init : goal.loop-i-init
loop-i-init g c = no-fault-first c.args.items.now.types (c.args.merge.now).entries

pub assert_no_fault-requires-clause-held : goal.assert_no_fault-requires-clause-held
assert_no_fault-requires-clause-held g c =
    let t = c.args.items.now.types in
    let es = c.entries-entries.result.now in
    let e = c.index-entries-i.result in
    let at : slice_get es c.loop-i.i ≡ Some e = slice_get_read es (length es) c.loop-i.i e refl c.loop-i-test.true c.index-entries-i.is in
    subst (λ (k : ItemKind). holds_type t (kind_type k) ≡ true) (sym c.kind-item.ensures) (c.requires.entries c.loop-i.i e (sym (ap (λ (xs : List Entry). slice_get xs c.loop-i.i) c.entries-entries.ensures) ∙ at))

pub loop-i-preserved : goal.loop-i-preserved
loop-i-preserved g c =
    let es = c.entries-entries.result.now in
    let e = c.index-entries-i.result in
    let at : slice_get es c.loop-i.i ≡ Some e = slice_get_read es (length es) c.loop-i.i e refl c.loop-i-test.true c.index-entries-i.is in
    no-fault-next c.args.items.now.types (c.args.merge.now).entries c.loop-i.i e c.kind-item.result (sym (ap (λ (xs : List Entry). slice_get xs c.loop-i.i) c.entries-entries.ensures) ∙ at) c.kind-item.ensures c.assert_no_fault.ensures c.loop-i.invariant

pub returns : goal.returns
returns g c =
    let past = c.loop-i-test.false in
    let counted : length c.entries-entries.result.now ≡ length (c.args.merge.now).entries = ap length c.entries-entries.ensures in
    no-fault-last c.args.items.now.types (c.args.merge.now).entries c.loop-i.i (omega (arith, past, counted)) c.loop-i.invariant
