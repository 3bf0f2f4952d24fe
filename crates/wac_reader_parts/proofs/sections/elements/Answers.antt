use Rattle.std.proofs.Common.{◌≡◌, ◌++◌, ◌∷◌, []}
use Rattle.std.proofs.lemmas.Result.{err_from_is_err_and}
use Rattle.std.proofs.lemmas.List.{map_push}
use Rattle.wac_component.specs.Numbers.{vector_at}
use Rattle.wac_component.specs.PartViews.{part_of, parts_of_entries}
use Rattle.wac_reader_parts.specs.private.Fronts.{behind}
use Rattle.wac_reader_parts.specs.private.Sections.{element_at}
use Rattle.wac_reader_parts.proofs.Loop.{goes_on, ends, is_done}
use Rattle.wac_reader_parts.proofs.Fronts.{starts_behind}
use Rattle.wac_reader_parts.proofs.sections.elements.Goals as goal

pub loop-init : goal.loop-init
loop-init c = starts_behind (element_at c.args.depth c.args.kind) (parts_of_entries c.args.entries.now.items) c.in_ok-count.count c.args.bytes.now c.in_ok-count.start.now c.in_ok-count.ensures

pub returns-in_err-part : goal.returns-in_err-part
returns-in_err-part c =
    let p = err_from_is_err_and c.from_residual-in_err-part.result c.from_residual-in_err-part.ensures.1 in
    rw (p.1, p.2) (ends (element_at c.args.depth c.args.kind) c.in_err-part.field-0.0 (parts_of_entries c.loop.entries.items) c.in_ok-count.count c.loop.counter c.loop.rest.now (behind (parts_of_entries c.args.entries.now.items) (vector_at (element_at c.args.depth c.args.kind) c.args.bytes.now)) c.loop-test.true c.in_err-part.ensures c.loop.invariant)

pub loop-preserved : goal.loop-preserved
loop-preserved c =
    let e : parts_of_entries c.push.new.self.items ≡ parts_of_entries c.loop.entries.items ++ part_of c.in_ok-part.part ∷ [] = rw c.in_ok-push.ensures.items (map_push _ c.loop.entries.items _) in
    rw e (goes_on (element_at c.args.depth c.args.kind) (parts_of_entries c.loop.entries.items) c.in_ok-count.count c.loop.counter c.loop.rest.now (part_of c.in_ok-part.part) c.in_ok-part.after.now (behind (parts_of_entries c.args.entries.now.items) (vector_at (element_at c.args.depth c.args.kind) c.args.bytes.now)) c.loop-test.true c.in_ok-part.ensures c.loop.invariant)

pub returns : goal.returns
returns c = is_done (element_at c.args.depth c.args.kind) (parts_of_entries c.loop.entries.items) c.in_ok-count.count c.loop.counter c.loop.rest.now (behind (parts_of_entries c.args.entries.now.items) (vector_at (element_at c.args.depth c.args.kind) c.args.bytes.now)) c.loop-test.false c.loop.invariant
