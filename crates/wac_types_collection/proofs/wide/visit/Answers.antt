use Rattle.std.proofs.Common.{◌≡◌, true, false, not, refl, ap, sym, ◌∙◌}
use Rattle.std.proofs.lemmas.Result.{on_ok_weaker}
use Rattle.wac_types_collection.proofs.lemmas.wide.Once.{inserted}
use Rattle.wac_types_collection.proofs.lemmas.wide.WideWalk.{on_ok_both}
use Rattle.wac_types_collection.proofs.wide.visit.Goals as goal

pub returns-then-not-branch-clause-seen : goal.returns-then-not-branch-clause-seen
returns-then-not-branch-clause-seen c = inserted c.args.seen.now.keys c.insert.new.self.keys c.args.id c.in_ok-insert.ensures.keys

pub returns-then-not-branch-clause-known : goal.returns-then-not-branch-clause-known
returns-then-not-branch-clause-known c = λ e. (refl, refl)

pub returns-then-not-branch-clause-new : goal.returns-then-not-branch-clause-new
returns-then-not-branch-clause-new c = λ e. let wrong : false ≡ true = sym c.if-not-branch.true ∙ c.in_ok-insert.ensures.added ∙ ap not e in cc

pub returns-clause-seen : goal.returns-clause-seen
returns-clause-seen c = on_ok_weaker c.enter.result (λ used. inserted c.args.seen.now.keys c.insert.new.self.keys c.args.id c.in_ok-insert.ensures.keys) c.enter.ensures.used

pub returns-clause-known : goal.returns-clause-known
returns-clause-known c = on_ok_weaker c.enter.result (λ used e. let wrong : true ≡ false = sym c.if-not-branch.false ∙ c.in_ok-insert.ensures.added ∙ ap not e in cc) c.enter.ensures.used

pub returns-clause-new : goal.returns-clause-new
returns-clause-new c = on_ok_both c.enter.result (λ used pending e. (used, pending)) c.enter.ensures.used c.enter.ensures.pending
