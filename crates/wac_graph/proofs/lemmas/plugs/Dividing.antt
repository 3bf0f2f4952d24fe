-- Matches are divided one after another.
use Rattle.std.proofs.Common.{◌≡◌, ◌≤◌, ◌+◌, ℕ, suc, Bool, true, false, cond, List, [], ◌∷◌, ◌++◌, length, drop, get_or, set, slice_get, string_bytes, refl, ap, ◌∙◌, sym, subst, Option, Some, None, append_assoc, map, arith}
use Rattle.std.specs.Option.{option_map}
use Rattle.std.proofs.lemmas.List.{append-nil, drop_all, length-set, map-append}
use Rattle.wac_types_shapes.specs.primitives.Name.{Name, option_case}
use Rattle.wac_types_shapes.specs.declared.shapes.component.ItemKind.{ItemKind}
use Rattle.wac_types_shapes.proofs.lemmas.shapes.Loops.{drop_at}
use Rattle.wac_graph.specs.declared.plugs.matching.Pair.{Pair}
use Rattle.wac_graph_model.specs.declared.nodes.packages.PackageId.{PackageId}
use Rattle.wac_graph.specs.declared.plugs.precedence.PassedOver.{PassedOver}
use Rattle.wac_graph.specs.plugs.Precedence.{PlugMatch, each_of, named_by}
use Rattle.wac_graph.specs.private.plugs.Pairs.{name_at, matches_at}
use Rattle.wac_graph.specs.private.plugs.Taking.{won, lost, marked}

-- the first of the rest
rest-at : {A : Type 0} (xs : List A) (i : ℕ) (x : A) → slice_get xs i ≡ Some x → drop i xs ≡ x ∷ drop (i + 1) xs
rest-at xs i x at = let place : suc i ≡ i + 1 = omega arith in drop_at xs i x at ∙ ap (λ k. x ∷ drop k xs) place

-- one more is put behind those so far
one-behind : {A : Type 0} (old new : List A) (x : A) (rest before total : List A) → new ≡ old ++ x ∷ [] → before ≡ x ∷ rest → old ++ before ≡ total → new ++ rest ≡ total
one-behind old new x rest before total is first h = ap (λ l. l ++ rest) is ∙ append_assoc old (x ∷ []) rest ∙ ap (λ l. old ++ l) (sym first) ∙ h

module _ (ps : List Pair) (i : ℕ) (p : Pair) (at : slice_get ps i ≡ Some p) (taken : List Bool) where
  -- a match whose import is taken
  module _ (t : get_or taken p.import false ≡ true) where
    won-old : won taken (drop i ps) ≡ won taken (drop (i + 1) ps)
    won-old = ap (won taken) (rest-at ps i p at) ∙ ap (λ b. cond b (won taken (drop (i + 1) ps)) (p ∷ won (set taken p.import true) (drop (i + 1) ps))) t

    lost-old : lost taken (drop i ps) ≡ p ∷ lost taken (drop (i + 1) ps)
    lost-old = ap (lost taken) (rest-at ps i p at) ∙ ap (λ b. cond b (p ∷ lost taken (drop (i + 1) ps)) (lost (set taken p.import true) (drop (i + 1) ps))) t

    marked-old : marked taken (drop i ps) ≡ marked taken (drop (i + 1) ps)
    marked-old = ap (marked taken) (rest-at ps i p at) ∙ ap (λ b. cond b (marked taken (drop (i + 1) ps)) (marked (set taken p.import true) (drop (i + 1) ps))) t

  -- a match that wins
  module _ (f : get_or taken p.import false ≡ false) where
    won-new : won taken (drop i ps) ≡ p ∷ won (set taken p.import true) (drop (i + 1) ps)
    won-new = ap (won taken) (rest-at ps i p at) ∙ ap (λ b. cond b (won taken (drop (i + 1) ps)) (p ∷ won (set taken p.import true) (drop (i + 1) ps))) f

    lost-new : lost taken (drop i ps) ≡ lost (set taken p.import true) (drop (i + 1) ps)
    lost-new = ap (lost taken) (rest-at ps i p at) ∙ ap (λ b. cond b (p ∷ lost taken (drop (i + 1) ps)) (lost (set taken p.import true) (drop (i + 1) ps))) f

    marked-new : marked taken (drop i ps) ≡ marked (set taken p.import true) (drop (i + 1) ps)
    marked-new = ap (marked taken) (rest-at ps i p at) ∙ ap (λ b. cond b (marked taken (drop (i + 1) ps)) (marked (set taken p.import true) (drop (i + 1) ps))) f

-- the matches so far are divided
abbrev pub HasDivided : List Pair → List Bool → ℕ → List Pair → List Pair → List Bool → Type 0
HasDivided ps start i w l taken = (w ++ won taken (drop i ps) ≡ won start ps) × (l ++ lost taken (drop i ps) ≡ lost start ps) × (marked taken (drop i ps) ≡ marked start ps) × (length taken ≡ length start)

module _ (ps : List Pair) (start : List Bool) (i : ℕ) (p : Pair) (at : slice_get ps i ≡ Some p) (w l : List Pair) (taken : List Bool) (so_far : HasDivided ps start i w l taken) where
  -- a match that does not win
  pub lost-next : get_or taken p.import false ≡ true → (new : List Pair) → new ≡ l ++ p ∷ [] → HasDivided ps start (i + 1) w new taken
  lost-next t new is = (
    ap (λ k. w ++ k) (sym (won-old ps i p at taken t)) ∙ so_far.0,
    one-behind l new p (lost taken (drop (i + 1) ps)) (lost taken (drop i ps)) (lost start ps) is (lost-old ps i p at taken t) so_far.1,
    sym (marked-old ps i p at taken t) ∙ so_far.2,
    so_far.3,
  )

  -- a match that wins
  pub won-next : get_or taken p.import false ≡ false → (new : List Pair) → new ≡ w ++ p ∷ [] → (now : List Bool) → now ≡ set taken p.import true → HasDivided ps start (i + 1) new l now
  won-next f new is now set_is = subst (HasDivided ps start (i + 1) new l) (sym set_is) (
    one-behind w new p (won (set taken p.import true) (drop (i + 1) ps)) (won taken (drop i ps)) (won start ps) is (won-new ps i p at taken f) so_far.0,
    ap (λ k. l ++ k) (sym (lost-new ps i p at taken f)) ∙ so_far.1,
    sym (marked-new ps i p at taken f) ∙ so_far.2,
    length-set taken p.import true ∙ so_far.3,
  )

-- all matches are divided
pub all-divided : (ps : List Pair) (start : List Bool) (i : ℕ) (w l : List Pair) (taken : List Bool) → length ps ≤ i → HasDivided ps start i w l taken → (w ≡ won start ps) × (l ≡ lost start ps) × (taken ≡ marked start ps)
all-divided ps start i w l taken past h = (
  sym (ap (λ k. w ++ won taken k) (drop_all i ps past) ∙ append-nil w) ∙ h.0,
  sym (ap (λ k. l ++ lost taken k) (drop_all i ps past) ∙ append-nil l) ∙ h.1,
  sym (ap (marked taken) (drop_all i ps past)) ∙ h.2,
)

-- the name at a position, as it is read
pub name-read : (es : List (Name × ItemKind)) (i : ℕ) (n : Name) → option_map (λ e. e.0) (slice_get es i) ≡ Some n → name_at es i ≡ n
name-read es i n h = by (slice_get es i) h where
  by : (o : Option (Name × ItemKind)) → option_map (λ e. e.0) o ≡ Some n → option_case o [] (λ e. e.0) ≡ n
  by None h = cc
  by (Some e) h = cc

-- the matches so far are appended to those that are passed over
abbrev pub HasPassed : List (Name × ItemKind) → List (Name × ItemKind) → PackageId → List Pair → ℕ → List PassedOver → List PlugMatch → Type 0
HasPassed exports imports plug ps i passed total = map named_by passed ++ each_of plug (matches_at exports imports (drop i ps)) ≡ total

module _ (exports imports : List (Name × ItemKind)) (plug : PackageId) (ps : List Pair) (i : ℕ) where
  pub passed-next : (p : Pair) (passed new : List PassedOver) (o : PassedOver) (total : List PlugMatch) → slice_get ps i ≡ Some p → new ≡ passed ++ o ∷ [] → o.plug ≡ plug → string_bytes o.export ≡ name_at exports p.export
      → string_bytes o.import ≡ name_at imports p.import → HasPassed exports imports plug ps i passed total → HasPassed exports imports plug ps (i + 1) new total
  passed-next p passed new o total at is plug_is export_is import_is h =
      let rest : List PlugMatch = each_of plug (matches_at exports imports (drop (i + 1) ps)) in
      let first : each_of plug (matches_at exports imports (drop i ps)) ≡ named_by o ∷ rest =
      ap (λ k. each_of plug (matches_at exports imports k)) (rest-at ps i p at) ∙ (λ k. record { plug = sym plug_is k; match = record { export = sym export_is k; import = sym import_is k } } ∷ rest) in
      one-behind (map named_by passed) (map named_by new) (named_by o) rest (each_of plug (matches_at exports imports (drop i ps))) total (ap (map named_by) is ∙ map-append named_by passed (o ∷ [])) first h

  pub all-passed : (passed : List PassedOver) (total : List PlugMatch) → length ps ≤ i → HasPassed exports imports plug ps i passed total → map named_by passed ≡ total
  all-passed passed total past h = sym (ap (λ k. map named_by passed ++ each_of plug (matches_at exports imports k)) (drop_all i ps past) ∙ append-nil (map named_by passed)) ∙ h
