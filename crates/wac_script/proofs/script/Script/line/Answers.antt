use Rattle.wac_script.specs.Runs.{state_of}
use Rattle.std.proofs.Common.{refl, inl, sym, subst}
use Rattle.wac_script.specs.lines.Words.{spelled, AreWords}
use Rattle.wac_script.proofs.RunLemmas.{text-runs}
use Rattle.wac_script.proofs.script.Script.line.Goals as goal

pub returns-in_default : goal.returns-in_default
returns-in_default c = inl (refl, refl)

pub returns : goal.returns
returns c = text-runs c.args.number c.args.line.now (spelled c.deref.result.now) c.args.bytes.items (state_of c.args.self.now) (state_of c.run_words.new.self) c.run_words.result
    (subst (λ ws. AreWords c.args.line.now (spelled ws)) (sym c.deref.ensures.value) c.in-Ok.ensures) c.run_words.ensures
