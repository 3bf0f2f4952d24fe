-- Matches can be wired: their exports and imports are there and fit, and no export matches twice.
use Rattle.std.proofs.Common.{◌≡◌, ◌≢◌, ℕ, suc, ◌+◌, cond, List, [], ◌∷◌, slice_get, refl, ap, ◌∙◌, sym, subst, Option, Some, None, inl, inr}
use Rattle.std.specs.Prelude.{MatchOption}
use Rattle.std.specs.List.{AllByRecursion}
use Rattle.std.proofs.lemmas.Bool.{cases_Bool}
use Rattle.wac_types_shapes.specs.primitives.Name.{Name, find_name}
use Rattle.wac_types_shapes.specs.shapes.Named.{named_at, NoNameTwice}
use Rattle.wac_types_shapes.proofs.lemmas.shapes.Names.{find_position, named_at-at, none_behind, same_name-false}
use Rattle.wac_types_shapes.specs.declared.shapes.component.ItemKind.{ItemKind}
use Rattle.wac_types_collection.specs.collection.Collection.{Collection}
use Rattle.wac_graph.specs.plugs.Matching.{Match, IsFirstOnTrack, IsTarget, AreMatches}
use Rattle.wac_graph.specs.plugs.Precedence.{is_taken, winning}
use Rattle.wac_graph.proofs.lemmas.plugs.Deciding.{IsWirable, AreWirable}
use Rattle.wac_graph.proofs.lemmas.plugs.Winning.{all-winning}

first-there : (imports : List (Name × ItemKind)) (name : Name) (t : Name × ItemKind) → IsFirstOnTrack imports name t → (j : ℕ) × (slice_get imports j ≡ Some t)
first-there [] name t h = absurd h
first-there (i ∷ imports) name t (inl h) = (0, ap (λ (x : Name × ItemKind). Some x) (sym h.1))
first-there (i ∷ imports) name t (inr h) = let r = first-there imports name t h.1 in (suc r.0, r.1)

target-there : (imports : List (Name × ItemKind)) (name : Name) (t : Name × ItemKind) → IsTarget imports name t → (j : ℕ) × (slice_get imports j ≡ Some t)
target-there imports name t h = by (find_name imports name) refl h where
  by : (o : Option ItemKind) → find_name imports name ≡ o → MatchOption o (IsFirstOnTrack imports name t) (λ kind. t ≡ (name, kind)) → (j : ℕ) × (slice_get imports j ≡ Some t)
  by None is w = first-there imports name t w
  by (Some kind) is w = let r = find_position imports name kind is in (r.0, r.2 ∙ ap (λ (x : Name × ItemKind). Some x) (sym w))

-- exports that match have names of the list
matched-names : (types : Collection) (imports es : List (Name × ItemKind)) (ms : List Match) (n : Name) → find_name es n ≡ None → AreMatches types imports es ms → AllByRecursion (λ o. o.export ≢ n) ms
matched-names types imports [] ms n none h = subst (AllByRecursion (λ (o : Match). o.export ≢ n)) (sym h) tt
matched-names types imports (e ∷ es) ms n none (inl h) = matched-names types imports es ms n (none_behind e es n none).1 h.1
matched-names types imports (e ∷ es) ms n none (inr h) =
    let behind = none_behind e es n none in
    subst (AllByRecursion (λ (o : Match). o.export ≢ n)) (sym h.2)
    ((λ same. same_name-false n e.0 behind.0 (sym same ∙ h.3.0)), matched-names types imports es h.1 n behind.1 h.4)

module _ (types : Collection) (imports exports : List (Name × ItemKind)) (once : NoNameTwice imports) where
  wirable-from : (es : List (Name × ItemKind)) (ms : List Match) → ((k : ℕ) (e : Name × ItemKind) → slice_get es k ≡ Some e → (j : ℕ) × (named_at 0 e.0 exports ≡ Some (j, e.1))) → NoNameTwice es → AreMatches types imports es ms → AreWirable types exports imports ms
  wirable-from [] ms there once_es h = subst (AreWirable types exports imports) (sym h) tt
  wirable-from (e ∷ es) ms there once_es (inl h) = wirable-from es ms (λ k x at. there (suc k) x at) once_es.1 h.1
  wirable-from (e ∷ es) ms there once_es (inr h) =
      let export = there 0 e refl in
      let target = target-there imports e.0 (h.0.import, h.3.1.0) h.3.1.1 in
      let one : IsWirable types exports imports h.0 = record {
        given = (export.0, e.1);
        taken = (0 + target.0, h.3.1.0);
        exported = ap (λ n. named_at 0 n exports) h.3.0 ∙ export.1;
        imported = named_at-at imports 0 target.0 h.0.import h.3.1.0 once target.1;
        fits = h.3.1.2;
      } in
      subst (AreWirable types exports imports) (sym h.2)
      (one, subst (λ n. AllByRecursion (λ (o : Match). o.export ≢ n) h.1) (sym h.3.0) (matched-names types imports es h.1 e.0 once_es.0 h.4), wirable-from es h.1 (λ k x at. there (suc k) x at) once_es.1 h.4)

  pub wirable : NoNameTwice exports → (ms : List Match) → AreMatches types imports exports ms → AreWirable types exports imports ms
  wirable once_exports ms h = wirable-from exports ms (λ k e at. (0 + k, named_at-at exports 0 k e.0 e.1 once_exports at)) once_exports h

-- and so can those that win
pub wirable-winning : (types : Collection) (imports exports : List (Name × ItemKind)) (taken : List Name) (ms : List Match) → AreWirable types exports imports ms → AreWirable types exports imports (winning taken ms)
wirable-winning types imports exports taken [] h = tt
wirable-winning types imports exports taken (m ∷ ms) h = elim (cases_Bool (is_taken taken m.import)) [
  | inl t ↦ subst (AreWirable types exports imports) (sym (ap (λ b. cond b (winning taken ms) (m ∷ winning (m.import ∷ taken) ms)) t)) (wirable-winning types imports exports taken ms h.2)
  | inr f ↦
      subst (AreWirable types exports imports) (sym (ap (λ b. cond b (winning taken ms) (m ∷ winning (m.import ∷ taken) ms)) f))
      (h.0, all-winning (λ o. o.export ≢ m.export) (m.import ∷ taken) ms h.1, wirable-winning types imports exports (m.import ∷ taken) ms h.2)
]
