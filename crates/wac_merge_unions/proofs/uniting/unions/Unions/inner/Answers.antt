use Rattle.std.proofs.Common.{◌≡◌, ◌≢◌, ◌∙◌, [], ℕ, length, map, List, Some, inr, sym, subst, arith}
use Rattle.wac_types_shapes.specs.declared.shapes.component.InterfaceId.{InterfaceId}
use Rattle.wac_merge_classes.specs.terms.Unions.{IsInner}
use Rattle.wac_merge_unions.specs.private.uniting.UnionSteps.{AreKnown, inside_part, IsPushed}
use Rattle.wac_merge_unions.proofs.lemmas.uniting.UnionPlaces.{keeps_from, push_extends, put_inner}
use Rattle.wac_merge_unions.proofs.lemmas.uniting.KnownUnions.{known_at, known_put, known_still, some_pairs}
use Rattle.wac_merge_unions.proofs.uniting.unions.Unions.inner.Goals as goal

pub returns-in-Some-clause-inner : goal.returns-in-Some-clause-inner
returns-in-Some-clause-inner c =
    let us = c.args.self.now.unions.items in
    let ps = c.args.self.now.parts.items in
    let u = c.args.position in
    let v : ℕ = c.in-Some.union.now in
    subst (λ (l : List (ℕ × InterfaceId)). IsInner us ps u l (Some v)) c.as_slice.ensures.value (known_at us ps u c.args.known.now.entries c.as_slice.result.now c.in-Some.field-0-1.now v c.in-Some.field-0-0 (sym c.in-Some.ensures.key) c.in-Some.ensures.entry c.requires.known)

pub returns-clause-united : goal.returns-clause-united
returns-clause-united c =
    let us = c.args.self.now.unions.items in
    let ps = c.args.self.now.parts.items in
    let is = c.args.interfaces.items in
    let vs = c.push_inner.new.self.unions.items in
    let qs = c.push_inner.new.self.parts.items in
    let pushed : IsPushed us ps (map (inside_part (length us)) is) vs qs = subst (λ (l : List (ℕ × InterfaceId)). IsPushed us ps (map (inside_part (length us)) l) vs qs) c.as_slice-2.ensures.value c.in_ok-push_inner.ensures in
    inr (some_pairs c.args.interfaces.len is (omega (arith, c.args.interfaces.ok.0)) (sym c.is_empty.ensures ∙ c.if-is_empty.false), pushed)

pub returns-clause-inner : goal.returns-clause-inner
returns-clause-inner c =
    let us = c.args.self.now.unions.items in
    let ps = c.args.self.now.parts.items in
    let is = c.args.interfaces.items in
    let vs = c.push_inner.new.self.unions.items in
    let qs = c.push_inner.new.self.parts.items in
    let pushed : IsPushed us ps (map (inside_part (length us)) is) vs qs = subst (λ (l : List (ℕ × InterfaceId)). IsPushed us ps (map (inside_part (length us)) l) vs qs) c.as_slice-2.ensures.value c.in_ok-push_inner.ensures in
    let some : is ≢ [] = some_pairs c.args.interfaces.len is (omega (arith, c.args.interfaces.ok.0)) (sym c.is_empty.ensures ∙ c.if-is_empty.false) in
    let number : c.len-union.result ≡ length us = omega (arith, c.len-union.ensures, c.args.self.now.unions.ok.0) in
    subst (λ (n : ℕ). IsInner vs qs c.args.position is (Some n)) (sym number) (put_inner us vs ps qs c.args.position is c.requires.within some pushed)

pub returns-clause-known : goal.returns-clause-known
returns-clause-known c =
    let us = c.args.self.now.unions.items in
    let ps = c.args.self.now.parts.items in
    let is = c.args.interfaces.items in
    let vs = c.push_inner.new.self.unions.items in
    let qs = c.push_inner.new.self.parts.items in
    let u = c.args.position in
    let known = c.args.known.now.entries in
    let pushed : IsPushed us ps (map (inside_part (length us)) is) vs qs = subst (λ (l : List (ℕ × InterfaceId)). IsPushed us ps (map (inside_part (length us)) l) vs qs) c.as_slice-2.ensures.value c.in_ok-push_inner.ensures in
    let some : is ≢ [] = some_pairs c.args.interfaces.len is (omega (arith, c.args.interfaces.ok.0)) (sym c.is_empty.ensures ∙ c.if-is_empty.false) in
    let number : c.len-union.result ≡ length us = omega (arith, c.len-union.ensures, c.args.self.now.unions.ok.0) in
    let new : IsInner vs qs u is (Some c.len-union.result) = subst (λ (n : ℕ). IsInner vs qs u is (Some n)) (sym number) (put_inner us vs ps qs u is c.requires.within some pushed) in
    let more = push_extends us vs ps qs (map (inside_part (length us)) is) pushed in
    let still = known_still us vs ps qs u known (keeps_from us vs more.0) more.1 c.requires.known in
    subst (λ es. AreKnown vs qs u es) (sym c.in_ok-insert.ensures.entries) (known_put vs qs u known c.args.interfaces c.len-union.result new still)
