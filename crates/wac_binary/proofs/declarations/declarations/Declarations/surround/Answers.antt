use Rattle.std.proofs.Common.{[], ◌∷◌, ◌++◌, sym, arith, ◌+◌}
use Rattle.std.specs.Prelude.{slice_set, slice_index}
use Rattle.wac_binary.specs.Items.{decls, type_decl}
use Rattle.wac_binary.specs.private.declarations.DeclView.{scope_def}
use Rattle.wac_binary.specs.private.declarations.WrittenDecls.{DeclState}
use Rattle.wac_binary.proofs.lemmas.declarations.AnswerLaws.{out_of_memory, refuted}
use Rattle.wac_binary.proofs.lemmas.declarations.DeclLaws.{written_type, declarations_kept, type_kept, type_more, type_same, fits_before}
use Rattle.wac_binary.proofs.declarations.declarations.Declarations.surround.Goals as goal

pub returns-then-not-has_room-clause-too_large : goal.returns-then-not-has_room-clause-too_large
returns-then-not-has_room-clause-too_large c = refuted c.has_room.result c.has_room.ensures.room c.if-not-has_room.true (λ f. f)

pub overflow_cast-result : goal.overflow_cast-result
overflow_cast-result c =
    omega (arith, fits_before c.self.invariant (type_decl (scope_def c.args.scope (decls c.args.inner))) c.number-types.result (sym c.number-types.ensures.is) c.number-types.ensures.small (rw c.self.view_is (c.has_room.ensures.room.0 c.if-not-has_room.false)))

-- what is kept, with the type at the end
snoc : (c : goal.After-drop-self-inside-3) → DeclState (c.args.self.now ++ type_decl (scope_def c.args.scope (decls c.args.inner)) ∷ []) c.in_ok-bytes.bytes (c.self.inside.count + 1) (slice_set c.self.inside.counts c.number-types.result (slice_index c.self.inside.counts c.number-types.result + 1))
snoc c =
    let s = type_more c.self.invariant (type_decl (scope_def c.args.scope (decls c.args.inner))) c.number-types.result (sym c.number-types.ensures.is) c.number-types.ensures.small c.self.told (rw c.self.view_is (c.has_room.ensures.room.0 c.if-not-has_room.false)) c.has_room.ensures.in_format in
    type_same (rw c.self.view_is at s) c.in_ok-bytes.ensures

pub invariant_of-self-inside : goal.invariant_of-self-inside
invariant_of-self-inside c = (written_type (snoc c), tt)

pub invariant_of-self : goal.invariant_of-self
invariant_of-self c = type_kept (snoc c.before) _

pub returns-clause-appended : goal.returns-clause-appended
returns-clause-appended c = declarations_kept (snoc c.before) _

pub returns-clause-fits : goal.returns-clause-fits
returns-clause-fits c = rw (declarations_kept (snoc c.before) _) (snoc c.before).fits

pub returns-clause-too_large : goal.returns-clause-too_large
returns-clause-too_large c = (snoc c.before).fits

pub returns-in_err-bytes-clause-too_large :
    goal.returns-in_err-bytes-clause-too_large
returns-in_err-bytes-clause-too_large c = out_of_memory c.from_residual.result _ c.from_residual.ensures.1 (c.has_room.ensures.room.0 c.if-not-has_room.false)
