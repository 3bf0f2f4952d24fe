use Rattle.std.proofs.Common.{◌≡◌, ◌++◌, ◌≤◌, List, [], ◌∷◌, Some, slice_get, get_or, length, refl, ap, ◌∙◌, arith, add-one}
use Rattle.std.proofs.lemmas.Option.{slice_get-get_or}
use Rattle.wac_types_shapes.specs.declared.shapes.component.Interface.{Interface}
use Rattle.wac_types_shapes.specs.declared.shapes.component.InterfaceId.{InterfaceId}
use Rattle.wac_merge_unions.proofs.lemmas.uses.KeptUses.{uses-next}
use Rattle.wac_merge_unions.proofs.lemmas.uses.StaysBare.{uses-none}
use Rattle.wac_merge_unions.proofs.uses.imports.use_others.Goals as goal

none-long : {A : Type 0} (xs : List A) → length xs ≤ 0 → xs ≡ []
none-long [] low = refl
none-long (x ∷ xs) low = absurd (omega (arith, low))

pub loop-i-preserved : goal.loop-i-preserved
loop-i-preserved c =
    let t = c.args.types.now in
    let is = c.args.users.now in
    let i : InterfaceId = get_or is c.loop-i.i (record { 0 = 0 }) in
    let it : Interface = c.index.result.now in
    let at : slice_get is c.loop-i.i ≡ Some i = slice_get-get_or is c.loop-i.i (record { 0 = 0 }) c.loop-i-test.true in
    let few = c.if-len-gt0.false in
    let empty = none-long it.uses (omega (arith, few, c.len.ensures)) in
    rw add-one (uses-next t is c.loop-i.i i it at c.index.ensures ∙ (ap (λ l. l ++ it.uses) c.loop-i.invariant ∙ empty))

pub returns-then-len-gt0-clause-some : goal.returns-then-len-gt0-clause-some
returns-then-len-gt0-clause-some c none =
    let is = c.args.users.now in
    let i : InterfaceId = get_or is c.loop-i.i (record { 0 = 0 }) in
    let it : Interface = c.index.result.now in
    let at : slice_get is c.loop-i.i ≡ Some i = slice_get-get_or is c.loop-i.i (record { 0 = 0 }) c.loop-i-test.true in
    let empty = ap length (uses-none c.args.types.now is c.loop-i.i i it none at c.index.ensures) in
    let some = c.if-len-gt0.true in
    absurd (omega (arith, some, c.len.ensures, empty))
