use Rattle.std.proofs.Common.{◌≡◌, ◌+◌, ◌*◌, List, Some, length, slice_get, take, refl, ap, sym, ◌∙◌, subst, arith}
use Rattle.std.proofs.lemmas.Option.{slice_get_read}
use Rattle.std.specs.List.{sum_by}
use Rattle.std.proofs.lemmas.List.Sums.{sum_by-take-le}
use Rattle.wac_types_shapes.specs.shapes.Kinds.{kind_type}
use Rattle.wac_types_weight.specs.Text.{entry_weight}
use Rattle.wac_merge_classes.specs.entries.Classes.{Entry}
use Rattle.wac_encode_imports.specs.declared.told.Others.{Others}
use Rattle.wac_encode_imports.specs.private.Told.{AreOthers}
use Rattle.wac_encode_imports.proofs.Telling.{keeps-then, still-imports, tells-nothing}
use Rattle.wac_encode_imports.proofs.ToldCosts.{tells-same, tells-more, tells-then, taken-more}
use Rattle.wac_encode_imports.proofs.told.Teller.tell_entries.Goals as goal

pub loop-i-init : goal.loop-i-init
loop-i-init c = (tells-nothing c.args.self.now c.args.state.now, tells-same c.args.self.now.types.now c.args.state.now)

pub tell_entry-requires-clause-imports : goal.tell_entry-requires-clause-imports
tell_entry-requires-clause-imports c = still-imports c.args.self.now c.args.state.now c.loop-i.state c.loop-i.invariant.0.changes c.requires.imports

pub tell_entry-requires-clause-others : goal.tell_entry-requires-clause-others
tell_entry-requires-clause-others c = subst (λ (sets : List Others). AreOthers c.args.self.now sets) (sym c.as_slice-others.ensures.value) c.in_ok-found.ensures

pub loop-i-preserved : goal.loop-i-preserved
loop-i-preserved c =
    let t = c.args.self.now.types.now in
    let es = c.args.self.now.merge.now.entries in
    let cost = λ (e : Entry). entry_weight t (kind_type e.kind) in
    let e = c.index-entries-i.result in
    let read : slice_get c.entries-entries.result.now c.loop-i.i ≡ Some e = slice_get_read c.entries-entries.result.now (length c.entries-entries.result.now) c.loop-i.i e refl c.loop-i-test.true c.index-entries-i.is in
    let next = taken-more cost es c.loop-i.i e (ap (λ (xs : List Entry). slice_get xs c.loop-i.i) (sym c.entries-entries.ensures) ∙ read) in (
      keeps-then c.args.self.now c.args.state.now c.loop-i.state c.tell_entry.new.state c.loop-i.invariant.0 c.in_ok-tell_entry.ensures.keeps,
      tells-more t (2 * sum_by cost (take c.loop-i.i es) + 2 * cost e) (2 * sum_by cost (take (c.loop-i.i + 1) es)) c.args.state.now c.tell_entry.new.state (omega (arith, next))
          (tells-then t (2 * sum_by cost (take c.loop-i.i es)) (2 * cost e) c.args.state.now c.loop-i.state c.tell_entry.new.state c.loop-i.invariant.0.changes.records.content c.loop-i.invariant.1 c.in_ok-tell_entry.ensures.cost),
    )

pub returns-clause-keeps : goal.returns-clause-keeps
returns-clause-keeps c = c.loop-i.invariant.0

pub returns-clause-cost : goal.returns-clause-cost
returns-clause-cost c =
    let t = c.args.self.now.types.now in
    let es = c.args.self.now.merge.now.entries in
    let cost = λ (e : Entry). entry_weight t (kind_type e.kind) in
    let less = sum_by-take-le cost es c.loop-i.i in
    tells-more t (2 * sum_by cost (take c.loop-i.i es)) (2 * sum_by cost es) c.args.state.now c.loop-i.state (omega (arith, less)) c.loop-i.invariant.1
