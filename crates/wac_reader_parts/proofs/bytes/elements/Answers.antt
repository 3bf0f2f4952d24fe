use Rattle.std.proofs.Common.{◌≡◌, ◌++◌, ◌∷◌, [], map}
use Rattle.std.proofs.lemmas.Result.{err_from_is_err_and}
use Rattle.std.proofs.lemmas.List.{map_push}
use Rattle.wac_component.specs.Reader.{all_at}
use Rattle.wac_reader_parts.proofs.Loop.{goes_on, ends, is_done}
use Rattle.wac_reader_parts.proofs.bytes.elements.Goals as goal

pub returns-in_err-element : goal.returns-in_err-element
returns-in_err-element g c =
    let p = err_from_is_err_and c.from_residual-in_err-element.result c.from_residual-in_err-element.ensures.1 in
    rw (p.1, p.2) (ends g.T.Read.reader c.in_err-element.field-0.0 (map g.T.Read.value c.loop.elements.items) c.args.count c.loop.counter c.loop.rest.now (all_at g.T.Read.reader c.args.count c.args.bytes.now) c.loop-test.true c.in_err-element.ensures c.loop.invariant)

pub loop-preserved : goal.loop-preserved
loop-preserved g c =
    let e : map g.T.Read.value c.push.new.self.items ≡ map g.T.Read.value c.loop.elements.items ++ g.T.Read.value c.in_ok-element.element ∷ [] = rw c.in_ok-push.ensures.items (map_push _ c.loop.elements.items c.in_ok-element.element) in
    rw e (goes_on g.T.Read.reader (map g.T.Read.value c.loop.elements.items) c.args.count c.loop.counter c.loop.rest.now (g.T.Read.value c.in_ok-element.element) c.in_ok-element.next.now (all_at g.T.Read.reader c.args.count c.args.bytes.now) c.loop-test.true c.in_ok-element.ensures c.loop.invariant)

pub returns : goal.returns
returns g c = is_done g.T.Read.reader (map g.T.Read.value c.loop.elements.items) c.args.count c.loop.counter c.loop.rest.now (all_at g.T.Read.reader c.args.count c.args.bytes.now) c.loop-test.false c.loop.invariant
