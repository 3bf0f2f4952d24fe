use Rattle.std.proofs.Common.{[], ◌∷◌, ◌++◌, ◌∙◌, sym, arith, ◌+◌}
use Rattle.std.specs.Prelude.{slice_set, slice_index}
use Rattle.wac_binary.specs.private.declarations.DeclView.{decl_of}
use Rattle.wac_binary.specs.private.declarations.WrittenDecls.{DeclState}
use Rattle.wac_binary.proofs.lemmas.declarations.AnswerLaws.{on_err, out_of_memory, refuted}
use Rattle.wac_binary.proofs.lemmas.declarations.DeclLaws.{written_type, declarations_kept, type_kept, type_more, type_same, fits_before}
use Rattle.wac_binary.proofs.declarations.declarations.Declarations.append.Goals as goal

pub returns-then-not-has_room-clause-too_large : goal.returns-then-not-has_room-clause-too_large
returns-then-not-has_room-clause-too_large c = refuted c.has_room.result c.has_room.ensures.room c.if-not-has_room.true (λ f. f)

pub invariant_of-self : goal.invariant_of-self
invariant_of-self c = type_kept (type_same c.self.invariant c.in_err-append.ensures.refused) _

pub returns-in_err-append-clause-refused :
    goal.returns-in_err-append-clause-refused
returns-in_err-append-clause-refused c = on_err _ (declarations_kept (type_same c.self.invariant c.in_err-append.ensures.refused) _ ∙ c.self.view_is)

pub overflow_cast-result : goal.overflow_cast-result
overflow_cast-result c =
    omega (arith, fits_before c.self.invariant (decl_of c.args.d.now) c.number-at.result (c.requires ∙ sym c.number-at.ensures.is) c.number-at.ensures.small (rw c.self.view_is (c.has_room.ensures.room.0 c.if-not-has_room.false)))

-- what is kept, with one declaration more
snoc : (c : goal.In_ok-append) → DeclState (c.args.self.now ++ decl_of c.args.d.now ∷ []) c.append.new.self (c.self.inside.count + 1) (slice_set c.self.inside.counts c.number-at.result (slice_index c.self.inside.counts c.number-at.result + 1))
snoc c =
    rw (← c.self.view_is, c.in_ok-append.ensures.written)
    (type_more c.self.invariant (decl_of c.args.d.now) c.number-at.result (c.requires ∙ sym c.number-at.ensures.is) c.number-at.ensures.small c.self.told (rw c.self.view_is (c.has_room.ensures.room.0 c.if-not-has_room.false)) c.has_room.ensures.in_format)

pub invariant_of-self-inside-2 : goal.invariant_of-self-inside-2
invariant_of-self-inside-2 c = (written_type (snoc c), tt)

pub invariant_of-self-2 : goal.invariant_of-self-2
invariant_of-self-2 c = type_kept (snoc c.before) _

pub returns-clause-appended : goal.returns-clause-appended
returns-clause-appended c = declarations_kept (snoc c.before) _

pub returns-clause-fits : goal.returns-clause-fits
returns-clause-fits c = rw (declarations_kept (snoc c.before) _) (snoc c.before).fits

pub returns-clause-too_large : goal.returns-clause-too_large
returns-clause-too_large c = (snoc c.before).fits

pub returns-in_err-append-clause-too_large : goal.returns-in_err-append-clause-too_large
returns-in_err-append-clause-too_large c = out_of_memory c.from_residual.result _ c.from_residual.ensures.1 (c.has_room.ensures.room.0 c.if-not-has_room.false)
