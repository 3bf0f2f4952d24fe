use Rattle.std.proofs.Common.{◌+◌, ◌-◌, ◌∙◌, ◌∷◌, ◌++◌, inl, sym, ap, length, take, drop, length-drop, arith}
use Rattle.std.proofs.lemmas.Bool.{false≢true}
use Rattle.std.proofs.lemmas.List.{take_all}
use Rattle.std.specs.Cmp.Lexicographic.{bytes_decides}
use Rattle.wac_script.specs.lines.Words.{spelled}
use Rattle.wac_script.proofs.WordLemmas.{mark-here, mark-later}
use Rattle.wac_script.proofs.lines.words.halves.Goals as goal

pub returns-then-eq : goal.returns-then-eq
returns-then-eq c =
    let n = c.loop-i.i + 1 in
    let rest = take_all (length c.args.words.now - n) (drop n c.args.words.now) (omega (arith, length-drop n c.args.words.now)) in
    let same = (bytes_decides _ _).0 (sym c.eq.ensures ∙ c.if-eq.true) in (
      c.loop-i.invariant,
      inl (mark-here c.args.mark.now c.args.words.now c.loop-i.i _ c.loop-i-test.true same
          ∙ ap (λ ws. spelled (take c.loop-i.i c.args.words.now) ++ c.args.mark.now ∷ spelled ws) (sym rest)),
    )

pub loop-i-preserved : goal.loop-i-preserved
loop-i-preserved c = mark-later c.args.mark.now c.args.words.now c.loop-i.i _ c.loop-i-test.true
    (λ same. false≢true (sym c.if-eq.false ∙ c.eq.ensures ∙ (bytes_decides _ _).1 same)) c.loop-i.invariant
