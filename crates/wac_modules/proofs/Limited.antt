-- The limits of the first items of a list, and of all.
use Rattle.std.specs.Prelude.{ℕ, zero, suc, ◌≡◌, ◌≤◌, ◌+◌, List, [], ◌∷◌, length, take, Some, None, slice_get}
use Rattle.std.specs.List.{AllByRecursion}
use Rattle.std.proofs.Common.{sym, subst, arith, add-one}
use Rattle.wac_types_shapes.specs.declared.shapes.core_types.CoreExtern.{CoreExtern}
use Rattle.wac_types_shapes.specs.declared.shapes.core_types.ModuleType.{ModuleType}
use Rattle.wac_modules.specs.private.Limits.{HasLimits}

abbrev pub Limited : {A : Type 0} → List (A × CoreExtern) → Type 0
Limited es = AllByRecursion (λ e. HasLimits e.1) es

-- The limits of all items of a core module.
pub record HaveLimits (m : ModuleType) : Type 0 where
  pub imports : Limited m.imports
  pub exports : Limited m.exports

pub limits-first : {A : Type 0} (es : List (A × CoreExtern)) → Limited (take 0 es)
limits-first [] = tt
limits-first (e ∷ es) = tt

limits-one : {A : Type 0} (es : List (A × CoreExtern)) (i : ℕ) (e : A × CoreExtern) → slice_get es i ≡ Some e → Limited (take i es) → HasLimits e.1 → Limited (take (suc i) es)
limits-one [] i e at all one = let no : None ≡ Some e = at in cc
limits-one (x ∷ es) zero e at all one = (subst (λ z. HasLimits z.1) (some-is e x at) one, tt)
  where
    some-is : {A : Type 0} (u v : A × CoreExtern) → Some v ≡ Some u → u ≡ v
    some-is u v h = cc
limits-one (x ∷ es) (suc i) e at all one = (all.0, limits-one es i e at all.1 one)

pub limits-next : {A : Type 0} (es : List (A × CoreExtern)) (i : ℕ) (e : A × CoreExtern) → slice_get es i ≡ Some e → Limited (take i es) → HasLimits e.1 → Limited (take (i + 1) es)
limits-next es i e at all one = subst (λ (n : ℕ). Limited (take n es)) (sym (add-one i)) (limits-one es i e at all one)

pub limits-all : {A : Type 0} (es : List (A × CoreExtern)) (n : ℕ) → length es ≤ n → Limited (take n es) → Limited es
limits-all [] n le all = tt
limits-all (e ∷ es) zero le all = absurd (omega (arith, le))
limits-all (e ∷ es) (suc n) le all = (all.0, limits-all es n (omega (arith, le)) all.1)
