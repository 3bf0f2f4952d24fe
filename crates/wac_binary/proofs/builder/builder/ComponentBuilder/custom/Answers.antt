use Rattle.std.proofs.Common.{◌∙◌, refl, arith}
use Rattle.wac_binary.specs.Items.{custom}
use Rattle.wac_binary.proofs.lemmas.builder.WrittenLaws.{written_of, items_kept, state_kept, with_custom, custom_fits, state_begun, state_same, room, alone_room}
use Rattle.wac_binary.proofs.lemmas.declarations.AnswerLaws.{on_err, out_of_memory, too_large}
use Rattle.wac_binary.proofs.builder.builder.ComponentBuilder.custom.Goals as goal

pub returns-in_err-size-clause-too_large : goal.returns-in_err-size-clause-too_large
returns-in_err-size-clause-too_large c =
    let e = c.in_err-size.ensures.too_large in
    too_large c.from_residual.result _ _ c.from_residual.ensures.1 e.0 (λ f. e.1 (omega arith, alone_room c.self.invariant (custom c.args.name.now c.args.bytes.now) refl (rw c.self.view_is f)))

pub invariant_of-self : goal.invariant_of-self
invariant_of-self c = state_kept (state_same c.self.invariant _ _ c.in_err-begin.ensures.refused refl) _

pub returns-in_err-begin-clause-refused : goal.returns-in_err-begin-clause-refused
returns-in_err-begin-clause-refused c = on_err _ (items_kept (state_same c.self.invariant _ _ c.in_err-begin.ensures.refused refl) _ ∙ c.self.view_is)

pub returns-in_err-begin-clause-too_large : goal.returns-in_err-begin-clause-too_large
returns-in_err-begin-clause-too_large c = out_of_memory c.from_residual-in_err-begin.result _ c.from_residual-in_err-begin.ensures.1 (rw (← c.self.view_is) (custom_fits c.self.invariant (custom c.args.name.now c.args.bytes.now) refl refl c.in_ok-size.ensures.room.1))

pub put_alone-requires-clause-last : goal.put_alone-requires-clause-last
put_alone-requires-clause-last c = rw c.deref.ensures.value (room c.self.invariant)

pub invariant_of-self-in_err-put_alone : goal.invariant_of-self-in_err-put_alone
invariant_of-self-in_err-put_alone c = state_kept (state_same (state_begun c.self.invariant) _ _ (c.in_err-put_alone.ensures.refused ∙ c.in_ok-begin.ensures.begun) refl) _

pub returns-in_err-put_alone-clause-refused : goal.returns-in_err-put_alone-clause-refused
returns-in_err-put_alone-clause-refused c = on_err _ (items_kept (state_same (state_begun c.self.invariant) _ _ (c.in_err-put_alone.ensures.refused ∙ c.in_ok-begin.ensures.begun) refl) _ ∙ c.self.view_is)

pub returns-in_err-put_alone-clause-too_large : goal.returns-in_err-put_alone-clause-too_large
returns-in_err-put_alone-clause-too_large c = out_of_memory c.from_residual-in_err-put_alone.result _ c.from_residual-in_err-put_alone.ensures.1 (rw (← c.self.view_is) (custom_fits c.self.invariant (custom c.args.name.now c.args.bytes.now) refl refl c.in_ok-size.ensures.room.1))

pub invariant_of-self-inside-2 : goal.invariant_of-self-inside-2
invariant_of-self-inside-2 c = (written_of (with_custom c.self.invariant (custom c.args.name.now c.args.bytes.now) c.args.self.now c.begin.new.bytes.items c.put_alone.new.bytes.items c.deref.result.now c.self.view_is c.in_ok-begin.ensures.begun c.deref.ensures.value c.in_ok-put_alone.ensures.bytes c.in_ok-size.ensures.room.1 c.in_ok-size.ensures.in_format refl refl), tt)

pub invariant_of-self-2 : goal.invariant_of-self-2
invariant_of-self-2 c = state_kept (with_custom c.self.invariant (custom c.args.name.now c.args.bytes.now) c.args.self.now c.begin.new.bytes.items c.put_alone.new.bytes.items c.deref.result.now c.self.view_is c.in_ok-begin.ensures.begun c.deref.ensures.value c.in_ok-put_alone.ensures.bytes c.in_ok-size.ensures.room.1 c.in_ok-size.ensures.in_format refl refl) _

pub returns-clause-appended : goal.returns-clause-appended
returns-clause-appended c = items_kept (with_custom c.self.invariant (custom c.args.name.now c.args.bytes.now) c.args.self.now c.begin.new.bytes.items c.put_alone.new.bytes.items c.deref.result.now c.self.view_is c.in_ok-begin.ensures.begun c.deref.ensures.value c.in_ok-put_alone.ensures.bytes c.in_ok-size.ensures.room.1 c.in_ok-size.ensures.in_format refl refl) _

pub returns-clause-fits : goal.returns-clause-fits
returns-clause-fits c =
    let s = (with_custom c.self.invariant (custom c.args.name.now c.args.bytes.now) c.args.self.now c.begin.new.bytes.items c.put_alone.new.bytes.items c.deref.result.now c.self.view_is c.in_ok-begin.ensures.begun c.deref.ensures.value c.in_ok-put_alone.ensures.bytes c.in_ok-size.ensures.room.1 c.in_ok-size.ensures.in_format refl refl) in
    rw (items_kept s _) s.fits

pub returns-clause-too_large : goal.returns-clause-too_large
returns-clause-too_large c = (with_custom c.self.invariant (custom c.args.name.now c.args.bytes.now) c.args.self.now c.begin.new.bytes.items c.put_alone.new.bytes.items c.deref.result.now c.self.view_is c.in_ok-begin.ensures.begun c.deref.ensures.value c.in_ok-put_alone.ensures.bytes c.in_ok-size.ensures.room.1 c.in_ok-size.ensures.in_format refl refl).fits
