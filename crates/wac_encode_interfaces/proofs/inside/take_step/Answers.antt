use Rattle.std.proofs.Common.{◌≡◌, true, refl, sym, subst}
use Rattle.std.specs.Prelude.{Result, Ok, Err, OnOk}
use Rattle.wac_types_collection.specs.collection.Collection.{holds_type}
use Rattle.wac_encode_interfaces.specs.private.InnerTypes.{step_type, TakesStep}
use Rattle.wac_encode_interfaces.proofs.inside.take_step.Goals as goal

on-both : {T E P Q R : Type 0} (r : Result T E) → (P → Q → R) → OnOk r P → OnOk r Q → OnOk r R
on-both (Ok x) f p q = f p q
on-both (Err e) f p q = tt

pub enter-requires : goal.enter-requires
enter-requires c = subst (λ s. holds_type c.args.types.now (step_type s) ≡ true) c.in-Enter.is c.requires

pub returns-in-Enter : goal.returns-in-Enter
returns-in-Enter c =
    on-both c.enter.result (λ known new.
    subst (λ s. TakesStep c.args.types.now s c.args.done.now.keys c.args.pending.now.items c.args.done.now.keys c.enter.new.pending.items) (sym c.in-Enter.is) (refl, known, new))
    c.enter.ensures.known c.enter.ensures.new

pub returns-in_ok-insert-in-Leave : goal.returns-in_ok-insert-in-Leave
returns-in_ok-insert-in-Leave c =
    subst (λ s. TakesStep c.args.types.now s c.args.done.now.keys c.args.pending.now.items c.insert.new.self.keys c.args.pending.now.items) (sym c.in-Leave.is)
    (c.in_ok-insert-in-Leave.ensures.keys, refl)
