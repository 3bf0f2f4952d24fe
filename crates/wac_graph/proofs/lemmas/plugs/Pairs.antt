-- Matches by their positions: what they name, one by one.
use Rattle.std.proofs.Common.{◌≡◌, ℕ, zero, suc, ◌≤◌, ◌+◌, List, [], ◌∷◌, ◌++◌, ◌<◌, length, slice_get, refl, ap, ◌∙◌, sym, subst, Option, Some, arith}
use Rattle.std.specs.Option.{option_map}
use Rattle.std.proofs.lemmas.List.{length-map, map-append}
use Rattle.std.proofs.lemmas.Option.{slice_get-map}
use Rattle.wac_types_shapes.specs.primitives.Name.{Name}
use Rattle.wac_types_shapes.specs.shapes.Named.{named_at, NoNameTwice}
use Rattle.wac_types_shapes.proofs.lemmas.shapes.Names.{named_at-at}
use Rattle.wac_types_shapes.specs.declared.shapes.component.ItemKind.{ItemKind}
use Rattle.wac_types_collection.specs.collection.Collection.{Collection}
use Rattle.wac_types_collection.specs.subtyping.Subtype.{IsSubtype}
use Rattle.wac_graph.specs.declared.plugs.matching.Pair.{Pair}
use Rattle.wac_graph.specs.plugs.Matching.{IsTarget, IsMatch}
use Rattle.wac_graph.specs.private.plugs.Pairs.{name_at, match_at, matches_at, IsWithin, AreWithin}

-- the name of what stands at a position
pub name-there : (es : List (Name × ItemKind)) (i : ℕ) (e : Name × ItemKind) → slice_get es i ≡ Some e → name_at es i ≡ e.0
name-there es i e at = rw at refl

-- an export matches the import at its target's position
pub is-match : (types : Collection) (imports : List (Name × ItemKind)) (name : Name) (kind : ItemKind) (i : ℕ) (t : Name × ItemKind) → slice_get imports i ≡ Some t → IsTarget imports name t → IsSubtype types kind types t.1
    → IsMatch types imports (name, kind) (record { export = name; import = name_at imports i })
is-match types imports name kind i t at target fits = (refl, (t.1, subst (λ n. IsTarget imports name (n, t.1)) (sym (name-there imports i t at)) target, fits))

module _ (exports imports : List (Name × ItemKind)) where
  -- one more of them
  pub named-more : (ps new : List Pair) (p : Pair) → new ≡ ps ++ p ∷ [] → matches_at exports imports new ≡ matches_at exports imports ps ++ match_at exports imports p ∷ []
  named-more ps new p is = ap (matches_at exports imports) is ∙ map-append (match_at exports imports) ps (p ∷ [])

  within-after : (ps : List Pair) (p : Pair) → AreWithin exports imports ps → IsWithin exports imports p → AreWithin exports imports (ps ++ p ∷ [])
  within-after [] p are is zero q at = let same : p ≡ q = cc in subst (IsWithin exports imports) same is
  within-after [] p are is (suc k) q at = cc
  within-after (x ∷ ps) p are is zero q at = are 0 q at
  within-after (x ∷ ps) p are is (suc k) q at = within-after ps p (λ j r h. are (suc j) r h) is k q at

  pub within-more : (ps new : List Pair) (p : Pair) → AreWithin exports imports ps → IsWithin exports imports p → new ≡ ps ++ p ∷ [] → AreWithin exports imports new
  within-more ps new p are one is = subst (AreWithin exports imports) (sym is) (within-after ps p are one)

  -- there are as many
  pub as-many : (ps : List Pair) → length (matches_at exports imports ps) ≡ length ps
  as-many ps = length-map ps (match_at exports imports)

  pub past : (ps : List Pair) (i : ℕ) → length ps ≤ i → length (matches_at exports imports ps) ≤ i
  past ps i h = subst (λ n. n ≤ i) (sym (as-many ps)) h

-- the match at positions
pub match-there : (exports imports : List (Name × ItemKind)) (ps : List Pair) (i : ℕ) (p : Pair) → slice_get ps i ≡ Some p → slice_get (matches_at exports imports ps) i ≡ Some (match_at exports imports p)
match-there exports imports ps i p at = slice_get-map (match_at exports imports) ps i ∙ ap (option_map (match_at exports imports)) at

-- what stands at a position of a list that names nothing twice is found there by its name
pub entry-there : (es : List (Name × ItemKind)) (i : ℕ) → i < length es → (e : Name × ItemKind) × (slice_get es i ≡ Some e)
entry-there [] i h = absurd (omega (arith, h))
entry-there (e ∷ es) zero h = (e, refl)
entry-there (e ∷ es) (suc i) h = entry-there es i (omega (arith, h))

pub named-there : (es : List (Name × ItemKind)) (i : ℕ) (e : Name × ItemKind) → NoNameTwice es → slice_get es i ≡ Some e → named_at 0 (name_at es i) es ≡ Some (i, e.1)
named-there es i e once at =
    let z : 0 + i ≡ i = omega arith in
    ap (λ (n : Name). named_at 0 n es) (name-there es i e at) ∙ named_at-at es 0 i e.0 e.1 once at ∙ ap (λ (k : ℕ). some_at k) z where
      some_at : ℕ → Option (ℕ × ItemKind)
      some_at k = Some (k, e.1)
