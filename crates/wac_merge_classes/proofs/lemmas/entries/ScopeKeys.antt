-- `==` tells scopes apart.
use Rattle.std.proofs.Common.{◌≡◌, ℕ, true, nat_eq, List, get_or, slice_get, position, Option, Some, None, refl, sym, ap, ◌∙◌, subst, eq-eqb}
use Rattle.std.proofs.lemmas.Bool.{eqb-true, and_parts as both}
use Rattle.std.proofs.lemmas.List.Quantifiers.{position-Some}
use Rattle.std.proofs.lemmas.Option.{slice_get-get_or}
use Rattle.std.specs.Option.{option_eq}
use Rattle.wac_merge_classes.specs.contracts.entries.scopes.OpenerPartialEq.TheImpl as OpenerEq
use Rattle.wac_merge_classes.specs.contracts.entries.scopes.ScopePartialEq.TheImpl as ScopeEq
use Rattle.wac_merge_classes.specs.declared.entries.scopes.Opener.{Opener}
use Rattle.wac_merge_classes.specs.declared.entries.scopes.Opener.TheVariants as opener
use Rattle.wac_merge_classes.specs.declared.entries.scopes.Scope.{Scope}
use Rattle.wac_types_collection.proofs.lemmas.subtyping.Telling.{and_true}

same-opener : (a b : Opener) → (OpenerEq.ghosts).eq a b ≡ true → a ≡ b
same-opener (opener.Interface i) (opener.Interface j) e = ap (λ n. opener.Interface (record { 0 = n })) (eqb-true i.0 j.0 e)
same-opener (opener.Imports i) (opener.Imports j) e = ap (λ n. opener.Imports (record { 0 = n })) (eqb-true i.0 j.0 e)
same-opener (opener.Exports i) (opener.Exports j) e = ap (λ n. opener.Exports (record { 0 = n })) (eqb-true i.0 j.0 e)
same-opener _ _ e = cc e

opener-itself : (a : Opener) → (OpenerEq.ghosts).eq a a ≡ true
opener-itself (opener.Interface i) = eq-eqb i.0 i.0 refl
opener-itself (opener.Imports w) = eq-eqb w.0 w.0 refl
opener-itself (opener.Exports w) = eq-eqb w.0 w.0 refl

same-parent : (a b : Option ℕ) → option_eq nat_eq a b ≡ true → a ≡ b
same-parent None None e = refl
same-parent None (Some j) e = cc e
same-parent (Some i) None e = cc e
same-parent (Some i) (Some j) e = ap (λ n. Some n) (eqb-true i j e)

parent-itself : (a : Option ℕ) → option_eq nat_eq a a ≡ true
parent-itself None = refl
parent-itself (Some i) = eq-eqb i i refl

pub same-scope : (a b : Scope) → (ScopeEq.ghosts).eq a b ≡ true → a ≡ b
same-scope a b e =
    let h = both ((OpenerEq.ghosts).eq a.opener b.opener) (option_eq nat_eq a.parent b.parent) e in
    let o = same-opener a.opener b.opener h.0 in
    let p = same-parent a.parent b.parent h.1 in
    (λ i. record { opener = o i; parent = p i })

pub scope-itself : (a : Scope) → (ScopeEq.ghosts).eq a a ≡ true
scope-itself a = and_true ((OpenerEq.ghosts).eq a.opener a.opener) (option_eq nat_eq a.parent a.parent) (opener-itself a.opener) (parent-itself a.parent)

-- a scope that is found at a position stands there
pub scope-found : (s : Scope) (keys ss : List Scope) (i : ℕ) → keys ≡ ss → position ((ScopeEq.ghosts).eq s) keys ≡ Some i → slice_get ss i ≡ Some s
scope-found s keys ss i same is =
    let found = position-Some ((ScopeEq.ghosts).eq s) keys i s is in
    subst (λ (l : List Scope). slice_get l i ≡ Some s) same (slice_get-get_or keys i s found.0 ∙ ap (λ x. Some x) (sym (same-scope s (get_or keys i s) found.1)))
