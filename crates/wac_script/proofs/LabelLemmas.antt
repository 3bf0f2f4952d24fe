-- Facts about labels.
use Rattle.std.proofs.Common.{◌≡◌, ◌∙◌, ◌⊎◌, ap, sym, subst, inl, inr, Option, Some, None, Result, Ok, Err}
use Rattle.std.specs.Prelude.{MatchResult}
use Rattle.std.specs.Option.{option_map}
use Rattle.std.specs.Result.{IsErrAnd}
use Rattle.wac_types_shapes.specs.primitives.Name.{Name, find_name}
use Rattle.wac_script.specs.declared.labels.faults.WordError.{WordError}
use Rattle.wac_script.specs.declared.labels.things.Labelled.{Labelled}
use Rattle.wac_script.specs.declared.labels.things.Thing.{Thing}
use Rattle.wac_script.specs.labels.Things.{Labelling, IsThing, IsWordMemory}

-- A label stands for one thing.
pub one-thing : (labels : Labelling) (label : Name) (t u : Thing) → IsThing labels label t → IsThing labels label u → t ≡ u
one-thing labels label t u h k = let same : Some t ≡ Some u = sym h ∙ k in cc

-- A label of nothing stands for no thing.
pub no-thing : (labels : Labelling) (label : Name) → None ≡ find_name labels label → (t : Thing) → IsThing labels label t → ⊥
no-thing labels label none t h = let e : None ≡ Some t = ap (option_map (λ (l : Labelled). l.thing)) none ∙ h in cc

-- A label of another thing stands for no such thing.
pub other-thing : {I : Type 0} (kind : I → Thing) (labels : Labelling) (label : Name) (t : Thing) → IsThing labels label t → ((i : I) → t ≡ kind i → ⊥)
    → (i : I) → IsThing labels label (kind i) → ⊥
other-thing kind labels label t is other i h = other i (one-thing labels label t (kind i) is h)

-- A label of no thing is handed on.
pub thing-exit : {I : Type 0} (kind : I → Thing) (P : I → Type 0) (labels : Labelling) (label : Name) (r : Result I WordError) (e : WordError)
    → IsErrAnd r (λ x. x ≡ e) → IsWordMemory e ⊎ ((t : Thing) → IsThing labels label t → ⊥)
    → MatchResult r P (λ x. IsWordMemory x ⊎ ((i : I) → IsThing labels label (kind i) → ⊥))
thing-exit {I = I} kind P labels label (Ok i) e h reason = absurd h
thing-exit {I = I} kind P labels label (Err x) e h reason =
    subst (λ y. IsWordMemory y ⊎ ((i : I) → IsThing labels label (kind i) → ⊥)) (sym h) (elim reason [ inl m ↦ inl m | inr lacks ↦ inr (λ i. lacks (kind i)) ])
