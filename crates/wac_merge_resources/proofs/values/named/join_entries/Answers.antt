use Rattle.std.proofs.Common.{◌≡◌, ℕ, Some, length, slice_get, ◌⊎◌, refl, sym, ◌∙◌, ap, subst, arith}
use Rattle.std.proofs.lemmas.Option.{slice_get_read}
use Rattle.wac_merge_classes.specs.entries.Classes.{Entry}
use Rattle.wac_merge_classes.specs.terms.Values.{listed_value}
use Rattle.wac_merge_resources.specs.values.NamedTypes.{AreAllOne, IsAskedWith, IsClassed, class_value, no_join}
use Rattle.wac_merge_resources.proofs.lemmas.values.Links.{joins-for, joins-then}
use Rattle.wac_merge_resources.proofs.lemmas.values.Joining.{item-last, within}
use Rattle.wac_merge_resources.proofs.values.named.join_entries.Goals as goal

pub loop-i-init : goal.loop-i-init
loop-i-init c = record { stay = λ a b o. o; one = λ j e low at. absurd (omega (arith, low)); along = no_join }

pub loop-i-preserved : goal.loop-i-preserved
loop-i-preserved c =
    let t = c.args.types.now in
    let es = c.args.entries.now in
    let ns = c.args.numbers.now in
    let qs = c.args.positions.now in
    let i : ℕ = c.loop-i.i in
    let e : Entry = c.index-entries-i.result in
    let at : slice_get es i ≡ Some e = slice_get_read es (length es) i e refl c.loop-i-test.true c.index-entries-i.is in
    record {
      stay = λ a b o. c.in_ok-join_entry.ensures.stay a b (c.loop-i.invariant.stay a b o);
      one =
          item-last es (λ j (f : Entry). AreAllOne (IsAskedWith t f.kind (class_value t es ns qs j)) c.join_entry.new.named) i e at
          (λ a b p. c.in_ok-join_entry.ensures.one a b (ap (listed_value t) c.kind.ensures ∙ p.0, subst (λ o. (a ≡ b) ⊎ (o ≡ Some a)) (sym c.class_value-class.ensures) p.1))
          (λ j f low f-at a b p. c.in_ok-join_entry.ensures.stay a b (c.loop-i.invariant.one j f low f-at a b p));
      along =
          joins-then (IsClassed t es ns qs) c.args.named.now c.loop-i.named c.join_entry.new.named c.loop-i.invariant.along
          (joins-for (IsAskedWith t c.kind.result c.class_value-class.result) (IsClassed t es ns qs) c.loop-i.named c.join_entry.new.named
          (λ a b p. (i, e, at, (sym (ap (listed_value t) c.kind.ensures) ∙ p.0, subst (λ o. (a ≡ b) ⊎ (o ≡ Some a)) c.class_value-class.ensures p.1))) c.in_ok-join_entry.ensures.along);
    }

pub returns-clause-one : goal.returns-clause-one
returns-clause-one c a b (i, e, at, with) = c.loop-i.invariant.one i e (omega (arith, within c.args.entries.now i e at)) at a b with
