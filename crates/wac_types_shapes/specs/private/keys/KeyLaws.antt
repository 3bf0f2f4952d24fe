-- Laws of keys: equality of keys is equality of their parts, and their order is total.
use Rattle.std.proofs.Common.{◌≡◌, ◌&&◌, Bool, true, false, Option, Some, None, refl, ap}
use Rattle.std.proofs.lemmas.Bool.{eqb-true}
use Rattle.std.specs.Option.{option_eq, option_cmp}
use Rattle.std.specs.Ordering.{ordering_then, ordering_reverse, eq_by_cmp}
use Rattle.std.specs.Cmp.{IsTotalOrder, IsEquivalence, IsPartialOrder, nat_cmp_total, nat_eq_equiv, on_total, on_equiv, then_total, and_equiv, both_ways, Equal-is, po}
use Rattle.std.specs.Cmp.Lexicographic.{nat_list_cmp_total, nat_list_eq_equiv, options_total, options_equiv}
use Rattle.std.specs.FinMap.{IsAntisymmetric, nat_cmp-IsAntisymmetric, slice_cmp-IsAntisymmetric}
use Rattle.std.specs.declared.cmp.Ordering.{Ordering}
use Rattle.std.specs.declared.cmp.Ordering.TheVariants.{Less, Equal, Greater}
use Rattle.semver.specs.OrderLaws.{pre_total, build_total, pre-anti, build-anti, same_text}
use Rattle.wac_types_shapes.specs.keys.Key.{VersionParts, Key, same_version, same_key, version_cmp, key_cmp, key_writes}

-- Equality of versions is an equivalence.
pub same_version_equiv : IsEquivalence same_version
same_version_equiv =
    and_equiv (on_equiv (λ v. v.0) nat_eq_equiv) (and_equiv (on_equiv (λ v. v.1) nat_eq_equiv) (and_equiv (on_equiv (λ v. v.2) nat_eq_equiv)
    (and_equiv (on_equiv (λ v. v.3) nat_list_eq_equiv) (on_equiv (λ v. v.4) nat_list_eq_equiv))))

-- Equality of keys is an equivalence.
pub same_key_equiv : IsEquivalence same_key
same_key_equiv = and_equiv (on_equiv (λ k. k.0) nat_list_eq_equiv) (on_equiv (λ k. k.1) (options_equiv same_version_equiv))

-- The order of versions is total.
pub version_total : IsTotalOrder version_cmp
version_total =
    then_total (on_total (λ v. v.0) nat_cmp_total) (then_total (on_total (λ v. v.1) nat_cmp_total) (then_total (on_total (λ v. v.2) nat_cmp_total)
    (then_total (on_total (λ v. v.3) pre_total) (on_total (λ v. v.4) build_total))))

-- The order of keys is total.
pub key_total : IsTotalOrder key_cmp
key_total = then_total (on_total (λ k. k.0) nat_list_cmp_total) (on_total (λ k. k.1) (options_total version_total))

-- If a comparison by two parts is `Equal`, the first part is.
then_first : (r s : Ordering) → ordering_then r s ≡ Equal → r ≡ Equal
then_first Less s e = cc e
then_first Equal s e = refl
then_first Greater s e = cc e

-- If a comparison by two parts is `Equal`, the second part is.
then_second : (r s : Ordering) → ordering_then r s ≡ Equal → s ≡ Equal
then_second Less s e = cc e
then_second Equal s e = e
then_second Greater s e = cc e

-- Versions that compare as `Equal` are equal.
pub version-anti : IsAntisymmetric version_cmp
version-anti a b e =
    let e1 = then_second _ _ e in
    let e2 = then_second _ _ e1 in
    let e3 = then_second _ _ e2 in
    let p = nat_cmp-IsAntisymmetric a.0 b.0 (then_first _ _ e) in
    let q = nat_cmp-IsAntisymmetric a.1 b.1 (then_first _ _ e1) in
    let r = nat_cmp-IsAntisymmetric a.2 b.2 (then_first _ _ e2) in
    let s = pre-anti a.3 b.3 (then_first _ _ e3) in
    let t = build-anti a.4 b.4 (then_second _ _ e3) in
    (λ i. (p i, q i, r i, s i, t i))

-- Optional versions that compare as `Equal` are equal.
versions-anti : IsAntisymmetric (option_cmp version_cmp)
versions-anti None None e = refl
versions-anti None (Some b) e = cc e
versions-anti (Some a) None e = cc e
versions-anti (Some a) (Some b) e = ap Some (version-anti a b e)

-- Keys that compare as `Equal` are equal.
pub key-anti : IsAntisymmetric key_cmp
key-anti a b e =
    let p = slice_cmp-IsAntisymmetric nat_cmp-IsAntisymmetric a.0 b.0 (then_first _ _ e) in
    let q = versions-anti a.1 b.1 (then_second _ _ e) in
    (λ i. (p i, q i))

-- If a conjunction is true, both sides are.
both : (p q : Bool) → (p && q) ≡ true → (p ≡ true) × (q ≡ true)
both true q e = (refl, e)
both false q e = cc e

-- Versions that are the same are equal.
pub same_version-true : (a b : VersionParts) → same_version a b ≡ true → a ≡ b
same_version-true a b e =
    let e0 = both _ _ e in
    let e1 = both _ _ e0.1 in
    let e2 = both _ _ e1.1 in
    let e3 = both _ _ e2.1 in
    let p = eqb-true a.0 b.0 e0.0 in
    let q = eqb-true a.1 b.1 e1.0 in
    let r = eqb-true a.2 b.2 e2.0 in
    let s = same_text a.3 b.3 e3.0 in
    let t = same_text a.4 b.4 e3.1 in
    (λ i. (p i, q i, r i, s i, t i))

-- Optional versions that are the same are equal.
same_versions-true : (a b : Option VersionParts) → option_eq same_version a b ≡ true → a ≡ b
same_versions-true None None e = refl
same_versions-true None (Some b) e = cc e
same_versions-true (Some a) None e = cc e
same_versions-true (Some a) (Some b) e = ap Some (same_version-true a b e)

-- Keys that are the same are equal.
pub same_key-true : (a b : Key) → same_key a b ≡ true → a ≡ b
same_key-true a b e =
    let h = both _ _ e in
    let p = same_text a.0 b.0 h.0 in
    let q = same_versions-true a.1 b.1 h.1 in
    (λ i. (p i, q i))

-- An ordering that is its own reverse is `Equal`.
self-equal : (r : Ordering) → r ≡ ordering_reverse r → r ≡ Equal
self-equal Less e = cc e
self-equal Equal e = refl
self-equal Greater e = cc e

-- Two keys are the same if and only if they compare as `Equal`.
pub key_ties : (a b : Key) → same_key a b ≡ eq_by_cmp key_cmp a b
key_ties a b = both_ways (same_key a b) (eq_by_cmp key_cmp a b)
    (λ e. rw (same_key-true a b e) ((Equal-is (key_cmp b b)).1 (self-equal (key_cmp b b) (key_total.antisymm b b))))
    (λ e. rw (key-anti a b ((Equal-is (key_cmp a b)).0 e)) (same_key_equiv.refl b))

-- Equality and order of keys agree.
pub key_po : IsPartialOrder same_key (λ a b. Some (key_cmp a b))
key_po = po key_total key_ties

-- Keys that are the same have the same hash input.
pub same_key_writes : (a b : Key) → same_key a b ≡ true → key_writes a ≡ key_writes b
same_key_writes a b e = ap key_writes (same_key-true a b e)
