use Rattle.std.proofs.Common.{◌+◌, ◌*◌, length, take, sym, ◌∙◌, arith}
use Rattle.std.proofs.lemmas.List.Sums.{sum_by-take-le}
use Rattle.wac_types_shapes.specs.primitives.Name.{Name}
use Rattle.wac_types_shapes.specs.declared.shapes.component.ItemKind.{ItemKind}
use Rattle.wac_types_weight.specs.Weight.{named_part, named_parts}
use Rattle.wac_types_shapes.proofs.lemmas.shapes.Names.{find_name-at}
use Rattle.wac_encode_scopes.specs.private.Closed.{is_closed_in}
use Rattle.wac_encode_imports.proofs.Telling.{keeps-then, still-exports, tells-nothing}
use Rattle.wac_encode_imports.proofs.ToldCosts.{tells-same, tells-more, tells-then, taken-more}
use Rattle.wac_encode_imports.proofs.told.Teller.tell_values.Goals as goal

pub loop-i-init : goal.loop-i-init
loop-i-init c = (tells-nothing c.args.self.now c.args.state.now, tells-same c.args.self.now.types.now c.args.state.now)

pub tell_value-requires : goal.tell_value-requires
tell_value-requires c = λ d is.
    let it = c.args.interface.now in
    let n = c.entry_at.result.0.now in
    let k = c.entry_at.result.1.now in
    still-exports c.args.self.now (is_closed_in c.args.apart.now) it c.args.index c.args.state.now c.loop-i.state c.loop-i.invariant.0.changes c.requires n k d (find_name-at it.exports c.loop-i.i n k c.law.ensures c.entry_at.ensures) (sym (c.told_in-definition.ensures n) ∙ is)

pub loop-i-preserved : goal.loop-i-preserved
loop-i-preserved c =
    let t = c.args.self.now.types.now in
    let es = c.args.interface.now.exports in
    let next = taken-more (λ (e : Name × ItemKind). named_part e) es c.loop-i.i (c.entry_at.result.0.now, c.entry_at.result.1.now) c.entry_at.ensures in (
      keeps-then c.args.self.now c.args.state.now c.loop-i.state c.tell_value.new.state c.loop-i.invariant.0 c.in_ok-tell_value.ensures.keeps,
      tells-more t (2 * named_parts (take c.loop-i.i es) + 2 * length c.entry_at.result.0.now) (2 * named_parts (take (c.loop-i.i + 1) es)) c.args.state.now c.tell_value.new.state (omega (arith, next))
          (tells-then t (2 * named_parts (take c.loop-i.i es)) (2 * length c.entry_at.result.0.now) c.args.state.now c.loop-i.state c.tell_value.new.state c.loop-i.invariant.0.changes.records.content c.loop-i.invariant.1 c.in_ok-tell_value.ensures.cost),
    )

pub returns-clause-keeps : goal.returns-clause-keeps
returns-clause-keeps c = c.loop-i.invariant.0

pub returns-clause-cost : goal.returns-clause-cost
returns-clause-cost c =
    let es = c.args.interface.now.exports in
    let less = sum_by-take-le (λ (e : Name × ItemKind). named_part e) es c.loop-i.i in
    tells-more c.args.self.now.types.now (2 * named_parts (take c.loop-i.i es)) (2 * named_parts es) c.args.state.now c.loop-i.state (omega (arith, less)) c.loop-i.invariant.1
