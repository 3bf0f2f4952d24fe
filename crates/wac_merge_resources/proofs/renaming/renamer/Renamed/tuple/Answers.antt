use Rattle.std.specs.List.{AllZip}
use Rattle.std.proofs.Common.{◌≡◌, List, Result, Ok, Err, IfOk, refl, sym, subst}
use Rattle.wac_types_shapes.specs.declared.shapes.component.DefinedType.{DefinedType}
use Rattle.wac_types_shapes.specs.declared.shapes.component.DefinedType.TheVariants as def
use Rattle.wac_types_shapes.specs.declared.shapes.component.ValueType.{ValueType}
use Rattle.wac_merge_resources.specs.private.renaming.RenamingSteps.{HaveOneShape, IsBecome, tuples}
use Rattle.wac_merge_resources.proofs.renaming.renamer.Renamed.tuple.Goals as goal

-- a tuple of parts that go together
tuple-ok : {E : Type 0} (R : ValueType → ValueType → Type 0) (vs ws : List ValueType) (r : Result DefinedType E) → AllZip R vs ws → IfOk r (λ d. d ≡ def.Tuple ws) → IfOk r (λ d. HaveOneShape R (def.Tuple vs) d)
tuple-ok R vs ws (Ok d) zip is = tuples vs ws refl is zip
tuple-ok R vs ws (Err e) zip is = tt

pub returns : goal.returns
returns c =
    let R = IsBecome c.args.renaming.now c.args.self.now in
    let slice = c.as_slice.result.now in
    tuple-ok R c.args.values.now slice c.tuple.result (subst (λ (ws : List ValueType). AllZip R c.args.values.now ws) (sym c.as_slice.ensures.value) c.in_ok-parts.ensures) c.tuple.ensures
