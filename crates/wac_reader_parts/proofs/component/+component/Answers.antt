use Rattle.std.proofs.Common.{◌≡◌, ◌-◌, ◌<◌, ◌++◌, ◌∷◌, [], length, Ok, ap, sym, ◌∙◌, arith}
use Rattle.std.proofs.lemmas.Result.{err_from_is_err_and}
use Rattle.wac_component.specs.declared.parts.Part.TheVariants.{Component}
use Rattle.wac_component.specs.Parts.{Part, parts}
use Rattle.wac_component.specs.PartViews.{part_of, parts_of_entries}
use Rattle.wac_component.specs.Reading.{sections, parts_at}
use Rattle.wac_reader_parts.proofs.Components.{no_preamble, shorter, goes_on, ends, is_done, not_empty, empty}
use Rattle.wac_reader_parts.proofs.Contents.{appended, nested_section, section_fails}
use Rattle.wac_reader_parts.proofs.Views.{nested_is}
use Rattle.wac_reader_parts.proofs.component.+component.Goals as goal

pub component-returns-in_err-rest : goal.component-returns-in_err-rest
component-returns-in_err-rest t c =
    let p = err_from_is_err_and c.from_residual.result c.from_residual.ensures.1 in
    rw (p.1, p.2) (no_preamble c.in_err-rest.field-0.0 c.args.depth (c.args.depth - 1) c.args.bytes.now (omega (arith, c.if-depth-eq0.false)) c.in_err-rest.ensures)

pub component-returns-in_err-rest-2 : goal.component-returns-in_err-rest-2
component-returns-in_err-rest-2 t c =
    let p = err_from_is_err_and c.from_residual-in_err-rest-2.result c.from_residual-in_err-rest-2.ensures.1 in
    let some : 0 < length c.loop-rest.rest.now = not_empty (length c.loop-rest.rest.now) c.is_empty.result c.is_empty.ensures c.loop-rest-test.true in
    rw (p.1, p.2) (ends c.in_err-rest-2.field-0.0 (c.args.depth - 1) (parts_of_entries c.loop-rest.entries.items) c.loop-rest.rest.now (parts_at c.args.depth c.args.bytes.now) some c.in_err-rest-2.ensures c.loop-rest.invariant)

pub component-loop-rest-smaller : goal.component-loop-rest-smaller
component-loop-rest-smaller t c = shorter (c.args.depth - 1) (parts_of_entries c.loop-rest.entries.items) (parts_of_entries c.section.new.entries.items) c.loop-rest.rest.now c.in_ok-rest-2.rest.now c.in_ok-rest-2.ensures

pub component-loop-rest-preserved : goal.component-loop-rest-preserved
component-loop-rest-preserved t c =
    let some : 0 < length c.loop-rest.rest.now = not_empty (length c.loop-rest.rest.now) c.is_empty.result c.is_empty.ensures c.loop-rest-test.true in
    goes_on (c.args.depth - 1) (parts_of_entries c.loop-rest.entries.items) (parts_of_entries c.section.new.entries.items) c.loop-rest.rest.now c.in_ok-rest-2.rest.now (parts_at c.args.depth c.args.bytes.now) some c.in_ok-rest-2.ensures c.loop-rest.invariant

pub component-returns : goal.component-returns
component-returns t c =
    let none : length c.loop-rest.rest.now ≡ 0 = empty (length c.loop-rest.rest.now) c.is_empty.result c.is_empty.ensures c.loop-rest-test.false in
    is_done (c.args.depth - 1) (parts_of_entries c.loop-rest.entries.items) c.loop-rest.rest.now (parts_at c.args.depth c.args.bytes.now) none c.loop-rest.invariant

pub contents-returns-in_ok-inner-in-4 : goal.contents-returns-in_ok-inner-in-4
contents-returns-in_ok-inner-in-4 t c =
    let front = parts_of_entries c.args.entries.now.items in
    appended _ c.add-in-4.result (front ++ part_of (Component c.in_ok-inner-in-4.inner) ∷ []) _
    (nested_section c.args.depth c.args.id front c.args.bytes.now (parts (parts_of_entries c.in_ok-inner-in-4.inner.items)) c.in-4.is c.in_ok-inner-in-4.ensures ∙ ap (λ (x : Part). Ok (front ++ x ∷ [])) (sym (nested_is c.in_ok-inner-in-4.inner)))
    c.add-in-4.ensures

pub section-returns-in-Err : goal.section-returns-in-Err
section-returns-in-Err t c =
    section_fails c.before-in-Err.result c.in-Err.fault (sections c.args.depth (parts_at c.args.depth)) (parts_of_entries c.args.entries.now.items) c.args.bytes.now c.in_ok-id.rest.now c.in_ok-inside.inside.now c.in_ok-inside.after.now c.in_ok-id.id c.in_ok-id.ensures c.in_ok-inside.ensures c.before-in-Err.ensures c.in-Err.ensures
