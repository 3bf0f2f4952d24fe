use Rattle.std.proofs.Common.{List, ap, sym, ◌∙◌, arith, add-one}
use Rattle.std.proofs.lemmas.List.{take_all}
use Rattle.wac_types_shapes.specs.primitives.Name.{Name}
use Rattle.wac_types_shapes.specs.declared.shapes.component.UsedType.{UsedType}
use Rattle.wac_merge_unions.specs.uses.Using.{keep_from, use_in, with_use}
use Rattle.wac_merge_unions.proofs.lemmas.uses.KeptUses.{folded-next, used-at}
use Rattle.wac_merge_unions.proofs.uses.uses.put_uses.Goals as goal

pub kept_use-requires-clause-held : goal.kept_use-requires-clause-held
kept_use-requires-clause-held c = used-at c.args.asked.now.types.now c.args.used.now c.loop-i.i (c.entry_at.result.0.now, c.entry_at.result.1.now) c.requires.held c.entry_at.ensures

pub loop-i-preserved : goal.loop-i-preserved
loop-i-preserved c =
    let a = c.args.asked.now in
    let p = c.args.place.now in
    let e : Name × UsedType = (c.entry_at.result.0.now, c.entry_at.result.1.now) in
    let f = λ (kept : List (Name × UsedType)) (x : Name × UsedType). with_use kept x.0 (use_in a p x) in
    rw add-one (c.in_ok-put_use.ensures ∙ (ap (λ o. with_use c.loop-i.uses e.0 o) c.in_ok-kept.ensures
    ∙ (ap (λ us. f us e) c.loop-i.invariant ∙ sym (folded-next f c.args.uses.now c.args.used.now c.loop-i.i e c.entry_at.ensures))))

pub returns : goal.returns
returns c = c.loop-i.invariant ∙ ap (keep_from c.args.asked.now c.args.place.now c.args.uses.now) (take_all c.loop-i.i c.args.used.now (omega arith))
