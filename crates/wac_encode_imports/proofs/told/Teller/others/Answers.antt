use Rattle.std.proofs.Common.{◌≡◌, ◌≤◌, ◌+◌, List, Some, length, slice_get, refl, ap, sym, ◌∙◌, arith}
use Rattle.std.proofs.lemmas.Option.{slice_get_read}
use Rattle.wac_merge_classes.specs.entries.Classes.{Entry}
use Rattle.wac_encode_imports.proofs.Noted.{others-all, others-first, others-next}
use Rattle.wac_encode_imports.proofs.told.Teller.others.Goals as goal

pub loop-i-init : goal.loop-i-init
loop-i-init c = others-first c.args.self.now c.in_ok-others.others.items c.in_ok-others.ensures

pub note-requires-clause-counted : goal.note-requires-clause-counted
note-requires-clause-counted c = c.loop-i.invariant.counted

pub loop-i-preserved : goal.loop-i-preserved
loop-i-preserved c =
    let es = c.entries-entries.result.now in
    let e = c.index-entries-i.result in
    let at : slice_get es c.loop-i.i ≡ Some e = slice_get_read es (length es) c.loop-i.i e refl c.loop-i-test.true c.index-entries-i.is in
    others-next c.args.self.now c.loop-i.i (c.loop-i.i + 1) e c.loop-i.others.items c.note.new.others.items refl (ap (λ (xs : List Entry). slice_get xs c.loop-i.i) (sym c.entries-entries.ensures) ∙ at) c.loop-i.invariant c.in_ok-note.ensures

pub returns : goal.returns
returns c =
    let past : length c.args.self.now.merge.now.entries ≤ c.loop-i.i = (let f = c.loop-i-test.false in let n = ap length c.entries-entries.ensures in omega (arith, f, n)) in
    others-all c.args.self.now c.loop-i.i c.loop-i.others.items past c.loop-i.invariant
