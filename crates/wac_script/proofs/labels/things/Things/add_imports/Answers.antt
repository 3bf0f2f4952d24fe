use Rattle.std.proofs.Common.{ap, sym, inr, refl, ◌∙◌}
use Rattle.std.proofs.lemmas.Bool.{false≢true}
use Rattle.wac_script.specs.labels.Things.{things_of, cores_of}
use Rattle.wac_script.specs.labels.Cores.{TakesImport}
use Rattle.wac_script.specs.private.Listed.{importing}
use Rattle.wac_script.proofs.ListLemmas.{walk-begin, walk-step, walk-end}
use Rattle.wac_script.proofs.ReadLemmas.{exit, left-begin, left-step, left-stuck, left-end}
use Rattle.wac_script.proofs.CoreLemmas.{takes-once}
use Rattle.wac_script.proofs.labels.things.Things.add_imports.Goals as goal

pub loop-word-init : goal.loop-word-init
loop-word-init c = record {
  reached = walk-begin (TakesImport (things_of c.args.self.now) (cores_of c.args.self.now)) c.args.words.now _ _ refl;
  left = left-begin (TakesImport (things_of c.args.self.now) (cores_of c.args.self.now)) c.args.words.now _ _ refl;
}

pub loop-word-preserved : goal.loop-word-preserved
loop-word-preserved c = record {
  reached = walk-step (TakesImport (things_of c.args.self.now) (cores_of c.args.self.now)) c.args.words.now c.loop-word.word-index _ _ (importing c.loop-word.source c.loop-word.ty) _ c.loop-word-test.true c.in_ok-source.ensures c.loop-word.invariant.reached;
  left = left-step (TakesImport (things_of c.args.self.now) (cores_of c.args.self.now)) c.args.words.now c.loop-word.word-index _ _ (importing c.loop-word.source c.loop-word.ty) _ (takes-once (things_of c.args.self.now) (cores_of c.args.self.now)) c.loop-word-test.true c.in_ok-source.ensures c.loop-word.invariant.left;
}

pub returns : goal.returns
returns c = (
  importing c.loop-word.source c.loop-word.ty,
  walk-end (TakesImport (things_of c.args.self.now) (cores_of c.args.self.now)) c.args.words.now c.loop-word.word-index _ (importing c.loop-word.source c.loop-word.ty) c.loop-word-test.false c.loop-word.invariant.reached,
  c.if-source.false,
  refl,
)

pub returns-in_err-source : goal.returns-in_err-source
returns-in_err-source c = exit _ _ c.from_residual.result (c.in_err-source.field-0).0 c.from_residual.ensures.1 c.in_err-source.ensures (λ none m h. left-stuck (TakesImport (things_of c.args.self.now) (cores_of c.args.self.now)) c.args.words.now c.loop-word.word-index _ _ (importing c.loop-word.source c.loop-word.ty) c.loop-word-test.true none c.loop-word.invariant.left h.0 h.1)

pub returns-then-source : goal.returns-then-source
returns-then-source c = inr (λ m h. false≢true (sym h.2 ∙ ap (λ x. x.is_next) (left-end (TakesImport (things_of c.args.self.now) (cores_of c.args.self.now)) c.args.words.now c.loop-word.word-index _ (importing c.loop-word.source c.loop-word.ty) h.0 c.loop-word-test.false c.loop-word.invariant.left h.1) ∙ c.if-source.true))
