-- Each text has one version at most, and versions are in a total order.
use Rattle.std.proofs.Common.{◌≡◌, ℕ, List, ◌∷◌, ◌++◌, Option, Some, None, refl, sym, ap, ◌∙◌, append_assoc}
use Rattle.std.specs.Cmp.{IsTotalOrder, nat_cmp_total, on_total, then_total}
use Rattle.std.specs.FinMap.{nat_cmp-IsAntisymmetric}
use Rattle.std.specs.Ordering.{ordering_then}
use Rattle.std.specs.declared.cmp.Ordering.{Ordering}
use Rattle.std.specs.declared.cmp.Ordering.TheVariants.{Less, Equal, Greater}
use Rattle.semver.specs.Identifiers.{parts_text}
use Rattle.semver.specs.OrderLaws.{build-anti, build_total, pre-anti, pre_total}
use Rattle.semver.specs.Parse.{Parts}
use Rattle.semver.proofs.Grammar.{version_parts-sound}
use Rattle.wac_names.specs.Kind.{joined, package_text}
use Rattle.wac_names.specs.Reading.{read_version}
use Rattle.wac_names.specs.Track.{HasVersion, IsVersioned, VersionLaws, version_cmp}
use Rattle.wac_names.proofs.TrackFacts.{read-version, version-had, version-read}

-- a version that a text has is the one that is read
had-version : (s : List ℕ) (x : Option Parts) → HasVersion s x → x ≡ read_version s
had-version s (Some p) h = sym (read-version s h.0 p h.1).0
had-version s None h = none (read_version s) refl
  where
    none : (o : Option Parts) → read_version s ≡ o → None ≡ o
    none None e = refl
    none (Some p) e = absurd (h (_, p, version-read s p e))

total : IsTotalOrder version_cmp
total = then_total (on_total (λ (p : Parts). p.0) nat_cmp_total) (then_total (on_total (λ (p : Parts). p.1) nat_cmp_total)
    (then_total (on_total (λ (p : Parts). p.2) nat_cmp_total) (then_total (on_total (λ (p : Parts). p.3) pre_total) (on_total (λ (p : Parts). p.4) build_total))))

-- what a sum of two comparisons says of each
first : (r s : Ordering) → ordering_then r s ≡ Equal → r ≡ Equal
first Less s e = cc
first Equal s e = refl
first Greater s e = cc

second : (r s : Ordering) → ordering_then r s ≡ Equal → s ≡ Equal
second Less s e = cc
second Equal s e = e
second Greater s e = cc

tie : (x y : Parts) → version_cmp x y ≡ Equal → x ≡ y
tie x y e =
    let e1 = second _ _ e in
    let e2 = second _ _ e1 in
    let e3 = second _ _ e2 in
    let major : x.0 ≡ y.0 = nat_cmp-IsAntisymmetric _ _ (first _ _ e) in
    let minor : x.1 ≡ y.1 = nat_cmp-IsAntisymmetric _ _ (first _ _ e1) in
    let patch : x.2 ≡ y.2 = nat_cmp-IsAntisymmetric _ _ (first _ _ e2) in
    let pre : x.3 ≡ y.3 = pre-anti _ _ (first _ _ e3) in
    let build : x.4 ≡ y.4 = build-anti _ _ (second _ _ e3) in
    λ i. (major i, minor i, patch i, pre i, build i)

-- the text of an interface name with a version
versioned-text : (s name : List ℕ) (p : Parts) → IsVersioned s name p → name ++ 64 ∷ parts_text p ≡ s
unfolding joined
versioned-text s name p v =
    let text = (version_parts-sound v.version p v.reads).0 in
    ap (λ (l : List ℕ). l ++ 64 ∷ parts_text p) (sym v.named)
    ∙ (append_assoc (package_text v.of) (47 ∷ v.interface_name) (64 ∷ parts_text p)
    ∙ (ap (λ (l : List ℕ). package_text v.of ++ 47 ∷ (v.interface_name ++ 64 ∷ l)) text ∙ v.kind.makes))

same : (s t name : List ℕ) (p : Parts) → IsVersioned s name p → IsVersioned t name p → s ≡ t
same s t name p v w = sym (versioned-text s name p v) ∙ versioned-text t name p w

pub laws : VersionLaws
laws = record {
  some = λ s. (read_version s, version-had s);
  one = λ s x y h g. had-version s x h ∙ sym (had-version s y g);
  total = total;
  tie = tie;
  same = same;
}
