use Rattle.std.proofs.Common.{◌≡◌, ◌∙◌, ap, sym, Some, below_more}
use Rattle.wac_types_shapes.specs.primitives.Name.{Name}
use Rattle.wac_types_shapes.specs.primitives.Tree.{TypeTree}
use Rattle.wac_types.specs.private.comparison.Compare.{value_in, entry_in}
use Rattle.wac_types_shapes.proofs.lemmas.shapes.Names.{ne-false}
use Rattle.wac_types.proofs.lemmas.comparison.Agreeing.{get_map}
use Rattle.wac_types.proofs.comparison.comparison.Comparison.have_same_fields.Goals as goal

pub loop-i-preserved : goal.loop-i-preserved
loop-i-preserved c =
    let x = c.args.self.first.now in
    let y = c.args.self.second.now in
    let names = ne-false _ _ _ c.ne.ensures c.if-ne.false in
    let values = c.is_same_flat.ensures c.if-not-is_same_flat.false in
    let same : (let u : Name × TypeTree Name = (c.entry_at.result.0.now, value_in x c.entry_at.result.1.now) in u ≡ (c.entry_at-in-loop-i.result.0.now, value_in y c.entry_at-in-loop-i.result.1.now)) = λ i. (names i, values i) in
    below_more _ _ c.loop-i.invariant (get_map (entry_in x) c.args.vs.now c.loop-i.i _ c.entry_at.ensures ∙ ap Some same ∙ sym (get_map (entry_in y) c.args.ws.now c.loop-i.i _ c.entry_at-in-loop-i.ensures))
