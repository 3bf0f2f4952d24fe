use Rattle.std.proofs.Common.{refl, sym, subst}
use Rattle.wac_types_collection.specs.collection.Collection.{HasInterface}
use Rattle.wac_types_collection.proofs.lemmas.wide.Once.{inserted}
use Rattle.wac_types_collection.proofs.lemmas.wide.WideWalk.{on_ok_both}
use Rattle.wac_encode_faults.specs.private.Order.{id_of, TakesUse}
use Rattle.wac_encode_faults.proofs.uses.take_step.Goals as goal

pub enter-requires : goal.enter-requires
enter-requires c = subst (λ s. HasInterface c.args.types.now (id_of s)) c.in-Enter.is c.requires

pub returns-in-Enter : goal.returns-in-Enter
returns-in-Enter c =
    on_ok_both c.enter.result (λ known new.
    subst (λ s. TakesUse c.args.types.now s c.args.done.now.keys c.args.pending.now.items c.args.done.now.keys c.enter.new.pending.items) (sym c.in-Enter.is) (refl, known, new))
    c.enter.ensures.known c.enter.ensures.new

pub returns-in_ok-insert-in-Leave : goal.returns-in_ok-insert-in-Leave
returns-in_ok-insert-in-Leave c =
    subst (λ s. TakesUse c.args.types.now s c.args.done.now.keys c.args.pending.now.items c.insert.new.self.keys c.args.pending.now.items) (sym c.in-Leave.is)
    (inserted c.args.done.now.keys c.insert.new.self.keys c.in-Leave.id c.in_ok-insert-in-Leave.ensures.keys, refl)
