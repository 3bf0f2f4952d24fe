-- What is kept of the names before decides of each whether it clashes.
use Rattle.std.proofs.Common.{ℕ, ◌<◌, Option, sym, subst, arith, string_bytes}
use Rattle.wac_names.specs.Clash.{Clash}
use Rattle.wac_names.specs.NameView.{text_of}
use Rattle.wac_names.specs.private.validation.Earlier.{alike_at, AreOrdered, HasPosition}
use Rattle.wac_names.specs.validation.Valid.{at}
use Rattle.wac_names.specs.private.validation.Views.{name_texts}
use Rattle.wac_names.specs.declared.validation.earlier.Alike.{Alike}
use Rattle.wac_names.proofs.lemmas.validation.EarlierFacts.{found, more, remembers-nothing}
use Rattle.wac_names.proofs.lemmas.validation.NamingFacts.{none_of}
use Rattle.wac_names.proofs.lemmas.validation.ViewFacts.{length-names}
use Rattle.wac_names.proofs.validation.clashes.first_clash.Goals as goal

pub loop-second-init : goal.loop-second-init
loop-second-init c = remembers-nothing (name_texts c.args.names.now) (alike_at c.in_ok-earlier.earlier) (λ q. c.in_ok-earlier.ensures q)

pub clashing-requires-clause-within : goal.clashing-requires-clause-within
clashing-requires-clause-within c = λ i p.
    let h : i < c.loop-second.second = (c.loop-second.invariant.own i c.deref.result.now (subst (λ (o : Option Alike). HasPosition o i) c.at-alike.ensures p)).0 in
    omega arith

pub clashing-requires-clause-ordered : goal.clashing-requires-clause-ordered
clashing-requires-clause-ordered c = subst AreOrdered (sym c.at-alike.ensures) (c.loop-second.invariant.ordered c.deref.result.now)

pub returns-in-Some : goal.returns-in-Some
returns-in-Some c =
    found c.one_answer.ensures c.args.names.now c.loop-second.second c.index-names-second.result (alike_at c.loop-second.earlier) c.at-alike.result c.deref.result.now (string_bytes c.in_ok-key.key) c.in-Some.first
    c.loop-second.invariant (omega arith) c.index-names-second.is c.in_ok-key.ensures c.deref.ensures c.at-alike.ensures c.in-Some.ensures

pub loop-second-preserved : goal.loop-second-preserved
loop-second-preserved c =
    let none : (i : ℕ) → HasPosition c.at-alike.result i → ¬ Clash (at (name_texts c.args.names.now) i) (text_of c.index-names-second.result) = none_of c.clashing.result _ _ c.in_default.is c.clashing.ensures in
    more c.one_answer.ensures c.args.names.now c.loop-second.second c.index-names-second.result (alike_at c.loop-second.earlier) (alike_at c.put.new.self) c.at-alike.result c.deref.result.now
    (string_bytes c.in_ok-key.key) c.with_position.result c.loop-second.invariant (omega arith) c.index-names-second.is c.in_ok-key.ensures c.deref.ensures c.at-alike.ensures none c.with_position.ensures
    (λ r. c.in_ok-put.ensures r)

pub returns : goal.returns
returns c = λ i j a b. c.loop-second.invariant.apart i j a (omega (arith, length-names c.args.names.now, b))
