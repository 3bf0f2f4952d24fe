use Rattle.std.proofs.Common.{refl, sym, subst}
use Rattle.wac_types_collection.specs.collection.Collection.{HasInterface}
use Rattle.wac_encode_faults.specs.private.Order.{id_of, Takes}
use Rattle.wac_types_collection.proofs.lemmas.wide.Once.{inserted}
use Rattle.wac_encode_faults.proofs.Ordering.{on_ok_three}
use Rattle.wac_encode_faults.proofs.order.take_step.Goals as goal

pub enter-requires : goal.enter-requires
enter-requires c = subst (λ s. HasInterface c.args.types.now (id_of s)) c.in-Enter.is c.requires.there

pub returns-in-Enter-clause-takes : goal.returns-in-Enter-clause-takes
returns-in-Enter-clause-takes c =
    on_ok_three c.enter.result (λ seen known new.
    subst (λ s. Takes c.args.types.now s c.args.done.now.keys c.args.seen.now.keys c.args.pending.now.items c.args.done.now.keys c.enter.new.seen.keys c.enter.new.pending.items) (sym c.in-Enter.is) (refl, seen, known, new))
    c.enter.ensures.seen c.enter.ensures.known c.enter.ensures.new

pub returns-in_ok-insert-in-Leave-clause-takes : goal.returns-in_ok-insert-in-Leave-clause-takes
returns-in_ok-insert-in-Leave-clause-takes c =
    subst (λ s. Takes c.args.types.now s c.args.done.now.keys c.args.seen.now.keys c.args.pending.now.items c.insert.new.self.keys c.args.seen.now.keys c.args.pending.now.items) (sym c.in-Leave.is)
    (inserted c.args.done.now.keys c.insert.new.self.keys c.in-Leave.id c.in_ok-insert-in-Leave.ensures.keys, refl, refl)
