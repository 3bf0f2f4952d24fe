use Rattle.std.proofs.Common.{◌≡◌, List, [], Some, slice_get, get_or, take, ap, sym, ◌∙◌, arith, add-one}
use Rattle.std.proofs.lemmas.List.{take_all}
use Rattle.std.proofs.lemmas.List.Sums.{fold-append}
use Rattle.std.proofs.lemmas.Option.{slice_get-get_or}
use Rattle.wac_types_shapes.specs.primitives.Name.{Name}
use Rattle.wac_types_shapes.specs.declared.shapes.component.Interface.{Interface}
use Rattle.wac_types_shapes.specs.declared.shapes.component.InterfaceId.{InterfaceId}
use Rattle.wac_types_shapes.specs.declared.shapes.component.UsedType.{UsedType}
use Rattle.wac_merge_classes.proofs.lemmas.entries.Places.{uses_held}
use Rattle.wac_merge_unions.specs.uses.KeptUses.{uses_of}
use Rattle.wac_merge_unions.specs.uses.Using.{keep_from, use_in, with_use}
use Rattle.wac_merge_unions.proofs.lemmas.uses.KeptUses.{uses-next}
use Rattle.wac_merge_unions.proofs.uses.uses.kept_uses.Goals as goal

pub put_uses-requires-clause-held : goal.put_uses-requires-clause-held
put_uses-requires-clause-held c = uses_held c.args.asked.now.types.now c.law.ensures (get_or c.args.interfaces.now c.loop-i.i (record { 0 = 0 })) c.index-interface.result.now c.index-interface.ensures

pub loop-i-preserved : goal.loop-i-preserved
loop-i-preserved c =
    let a = c.args.asked.now in
    let p = c.args.place.now in
    let t = a.types.now in
    let is = c.args.interfaces.now in
    let i : InterfaceId = get_or is c.loop-i.i (record { 0 = 0 }) in
    let it : Interface = c.index-interface.result.now in
    let at : slice_get is c.loop-i.i ≡ Some i = slice_get-get_or is c.loop-i.i (record { 0 = 0 }) c.loop-i-test.true in
    let f = λ (kept : List (Name × UsedType)) (x : Name × UsedType). with_use kept x.0 (use_in a p x) in
    rw add-one (c.in_ok-put_uses.ensures ∙ (ap (λ us. keep_from a p us it.uses) c.loop-i.invariant
    ∙ sym (ap (keep_from a p []) (uses-next t is c.loop-i.i i it at c.index-interface.ensures) ∙ fold-append f [] (uses_of t (take c.loop-i.i is)) it.uses)))

pub returns : goal.returns
returns c =
    let a = c.args.asked.now in
    c.loop-i.invariant ∙ ap (λ is. keep_from a c.args.place.now [] (uses_of a.types.now is)) (take_all c.loop-i.i c.args.interfaces.now (omega arith))
