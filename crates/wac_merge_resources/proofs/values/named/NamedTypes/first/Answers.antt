use Rattle.std.proofs.Common.{refl, sym, ◌∙◌, arith}
use Rattle.wac_merge_resources.specs.values.NamedTypes.{earlier_of}
use Rattle.wac_merge_resources.proofs.lemmas.values.Joins.{first-goes, first-stops, one-there}
use Rattle.wac_merge_resources.proofs.values.named.NamedTypes.first.Goals as goal

pub back-init : goal.back-init
back-init c = refl

pub back-preserved : goal.back-preserved
back-preserved c = sym (first-goes (earlier_of c.args.self.now) c.back.first c.in-Some.earlier (sym c.link.ensures ∙ c.in-Some.is) (omega (arith, c.if-earlier-first.false))) ∙ c.back.invariant

pub returns-in_default : goal.returns-in_default
returns-in_default c = sym (first-stops (earlier_of c.args.self.now) c.back.first (λ e is. absurd (c.in_default.not-Some e (c.link.ensures ∙ is)))) ∙ c.back.invariant

pub returns-then-earlier-first : goal.returns-then-earlier-first
returns-then-earlier-first c =
    sym (first-stops (earlier_of c.args.self.now) c.back.first (one-there (earlier_of c.args.self.now) c.back.first c.in-Some.earlier (sym c.link.ensures ∙ c.in-Some.is) (omega (arith, c.if-earlier-first.true)))) ∙ c.back.invariant
