-- The names read so far are the texts, and the first text that is none is a fault.
use Rattle.std.proofs.Common.{arith, ap, ◌∙◌}
use Rattle.std.proofs.lemmas.List.{take_all}
use Rattle.wac_names.specs.private.validation.Views.{name_texts, texts}
use Rattle.wac_names.proofs.lemmas.validation.NamingFacts.{named-all, named-more, names-more, unnamed-first}
use Rattle.wac_names.proofs.validation.naming.names_of.Goals as goal

pub loop-text-init : goal.loop-text-init
loop-text-init c = (ap name_texts c.in_ok-names.ensures.items, λ k h. absurd (omega arith))

pub returns-in-Err : goal.returns-in-Err
returns-in-Err c = record {
  same = tt;
  named = tt;
  fault = unnamed-first c.one_answer.ensures c.args.written.now c.loop-text.text-index _ c.in-Err.fault c.unnamed.result (omega arith) c.loop-text.invariant.1 c.in-Err.ensures.fault c.unnamed.ensures;
}

pub loop-text-preserved : goal.loop-text-preserved
loop-text-preserved c = (
  ap name_texts c.in_ok-push-in-Ok.ensures.items
      ∙ names-more c.loop-text.names.items c.in-Ok.name c.args.written.now c.loop-text.text-index _ (omega arith) c.loop-text.invariant.0 c.in-Ok.ensures.ok.0,
  named-more c.args.written.now c.loop-text.text-index _ _ (omega arith) c.loop-text.invariant.1 c.in-Ok.ensures.ok.1,
)

pub returns-clause-same : goal.returns-clause-same
returns-clause-same c = c.loop-text.invariant.0 ∙ ap texts (take_all c.loop-text.text-index c.args.written.now (omega arith))

pub returns-clause-named : goal.returns-clause-named
returns-clause-named c = named-all c.args.written.now (λ j h. c.loop-text.invariant.1 j (omega arith))
