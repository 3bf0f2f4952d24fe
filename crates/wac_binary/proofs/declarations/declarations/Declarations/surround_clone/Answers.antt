use Rattle.wac_binary.proofs.lemmas.declarations.AnswerLaws.{out_of_memory, refuted}
use Rattle.wac_binary.proofs.declarations.declarations.Declarations.surround_clone.Goals as goal

pub returns-then-not-has_room-clause-too_large : goal.returns-then-not-has_room-clause-too_large
returns-then-not-has_room-clause-too_large c = refuted c.has_room.result c.has_room.ensures.room c.if-not-has_room.true (λ f. f)

pub returns-in_err-inner-clause-too_large :
    goal.returns-in_err-inner-clause-too_large
returns-in_err-inner-clause-too_large c = out_of_memory c.from_residual.result _ c.from_residual.ensures.1 (c.has_room.ensures.room.0 c.if-not-has_room.false)

pub returns-clause-appended : goal.returns-clause-appended
returns-clause-appended c = rw (← c.in_ok-inner.ensures.cases) c.surround.ensures.appended

pub returns-clause-too_large : goal.returns-clause-too_large
returns-clause-too_large c = rw (← c.in_ok-inner.ensures.cases) c.surround.ensures.too_large
