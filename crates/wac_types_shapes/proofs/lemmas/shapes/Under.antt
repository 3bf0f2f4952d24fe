-- What is known of a value that may be there, and of an answer.
use Rattle.std.proofs.Common.{ℕ, IsSome, ◌≡◌, refl, sym, ap, ◌∙◌, subst, List, Option, Some, None, Result, OnOk, MutBor}
use Rattle.std.proofs.lemmas.Result.{on_ok_weaker}
use Rattle.std.specs.Option.{option_map, option_copied_mut}
use Rattle.wac_types_shapes.specs.primitives.Name.{Name, find_name}
use Rattle.wac_types_shapes.specs.shapes.Named.{named_at}
use Rattle.wac_types_shapes.proofs.lemmas.shapes.Parts.{found_from}

pub on_ok : {T E P Q : Type 0} (r : Result T E) → (P → Q) → OnOk r P → OnOk r Q
on_ok r f h = on_ok_weaker r f h

-- where a name is not found there is nothing under it
pub nothing_under : {V : Type 0} (es : List (Name × V)) (j : ℕ) (n : Name) → named_at j n es ≡ None → find_name es n ≡ None
nothing_under es j n h = found_from es j n ∙ ap (option_map (λ p. p.1)) h

pub now_is : {W : Type 0} (o : Option (MutBor W)) (x : MutBor W) (p : Option W) (w : W) → option_copied_mut o ≡ p → o ≡ Some x → p ≡ Some w → x.now ≡ w
now_is o x p w value is at =
    let some : Some x.now ≡ Some w = sym (ap option_copied_mut is) ∙ value ∙ at in
    cc

pub none_mapped : {A B : Type 0} (f : A → B) (o : Option A) (p : Option B) → ((x : A) → o ≡ Some x → ⊥) → option_map f o ≡ p → p ≡ None
none_mapped f None p n e = sym e
none_mapped f (Some x) p n e = absurd (n x refl)

pub not_some : {A : Type 0} (o : Option A) → o ≡ None → IsSome o → ⊥
not_some o e h = let P : Option _ → Type 0 = IsSome in let no = subst P e h in cc
