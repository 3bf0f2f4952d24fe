use Rattle.std.proofs.Common.{◌≡◌, ◌++◌, ◌∷◌, [], map, refl, slice_index_or, arith}
use Rattle.std.proofs.lemmas.Result.{err_from_is_err_and}
use Rattle.std.proofs.lemmas.List.{map_push}
use Rattle.wac_component.specs.Reader.{each_at}
use Rattle.wac_component.specs.CoreViews.{operand_of}
use Rattle.wac_reader_parts.specs.declared.canons.OperandKind.TheVariants as k
use Rattle.wac_reader_parts.specs.private.Canons.{reader_of}
use Rattle.wac_reader_parts.proofs.EachLoop.{each_goes_on, each_ends, each_done}
use Rattle.wac_reader_parts.proofs.canons.operands.Goals as goal

pub returns-in_err-operand : goal.returns-in_err-operand
returns-in_err-operand c =
    let p = err_from_is_err_and c.from_residual.result c.from_residual.ensures.1 in
    rw (p.1, p.2) (each_ends reader_of c.args.kinds.now c.in_err-operand.field-0.0 (map operand_of c.loop-kind.operands.items) c.loop-kind.kind-index k.«Type» (slice_index_or c.args.kinds.now c.loop-kind.kind-index k.«Type») c.loop-kind.rest.now (each_at (map reader_of c.args.kinds.now) c.args.bytes.now) c.loop-kind-test.true refl c.in_err-operand.ensures c.loop-kind.invariant)

pub loop-kind-preserved : goal.loop-kind-preserved
loop-kind-preserved c =
    let e : map operand_of c.push.new.self.items ≡ map operand_of c.loop-kind.operands.items ++ operand_of c.in_ok-operand.operand ∷ [] = rw c.in_ok-push.ensures.items (map_push _ c.loop-kind.operands.items c.in_ok-operand.operand) in
    rw e (each_goes_on reader_of c.args.kinds.now (map operand_of c.loop-kind.operands.items) c.loop-kind.kind-index k.«Type» (slice_index_or c.args.kinds.now c.loop-kind.kind-index k.«Type») c.loop-kind.rest.now (operand_of c.in_ok-operand.operand) c.in_ok-operand.next.now (each_at (map reader_of c.args.kinds.now) c.args.bytes.now) c.loop-kind-test.true refl c.in_ok-operand.ensures c.loop-kind.invariant)

pub returns : goal.returns
returns c = each_done reader_of c.args.kinds.now (map operand_of c.loop-kind.operands.items) c.loop-kind.kind-index c.loop-kind.rest.now (each_at (map reader_of c.args.kinds.now) c.args.bytes.now) (omega (arith, c.loop-kind-test.false)) c.loop-kind.invariant
