-- The lowest of faults that are there.
use Rattle.std.proofs.Common.{ℕ, zero, suc, ◌≤◌, ◌≡◌, ◌⊎◌, inl, inr, refl, ap, sym, ◌∙◌, subst, Bool, true, false, IsTrue, cond, if◌then◌else◌, nat_lt, Option, Some, None, arith}
use Rattle.std.specs.Prelude.{◌↔◌}
use Rattle.wac_encode_faults.specs.declared.fault.WriteFault.{WriteFault}
use Rattle.wac_encode_faults.specs.Faults.{fault_rank, IsLowest}
use Rattle.wac_encode_faults.specs.declared.fault.WriteFault.TheVariants as fault
use Rattle.wac_encode_faults.specs.private.Search.{lower_of}

-- of the same faults the same one is the lowest
pub lowest_same : (P Q : WriteFault → Type 0) (o : Option WriteFault) → ((f : WriteFault) → P f ↔ Q f) → IsLowest P o → IsLowest Q o
lowest_same P Q None both low = λ f q. low f ((both f).1 q)
lowest_same P Q (Some f) both low = ((both f).0 low.0, λ other q. low.1 other ((both other).1 q))

-- of a fault alone
pub lowest_itself : (o : Option WriteFault) → IsLowest (λ f. o ≡ Some f) o
lowest_itself None = λ f e. cc
lowest_itself (Some f) = (refl, λ other e. below other e)
  where
    below : (other : WriteFault) → Some f ≡ Some other → fault_rank f ≤ fault_rank other
    below other e = let same : f ≡ other = cc in let ranks = ap fault_rank same in omega (arith, ranks)

-- the lower of two is the lowest of all that either is of
pub lowest_of_both : (P Q : WriteFault → Type 0) (a b : Option WriteFault) → IsLowest P a → IsLowest Q b → IsLowest (λ f. P f ⊎ Q f) (lower_of a b)
lowest_of_both P Q None None p q = λ f h. elim h [ inl x ↦ p f x | inr y ↦ q f y ]
lowest_of_both P Q None (Some g) p q = (inr q.0, λ other h. elim h [ inl x ↦ absurd (p other x) | inr y ↦ q.1 other y ])
lowest_of_both P Q (Some f) None p q = (inl p.0, λ other h. elim h [ inl x ↦ p.1 other x | inr y ↦ absurd (q other y) ])
lowest_of_both P Q (Some f) (Some g) p q = by (nat_lt (fault_rank g) (fault_rank f)) refl
  where
    by : (b : Bool) → nat_lt (fault_rank g) (fault_rank f) ≡ b → IsLowest (λ f. P f ⊎ Q f) (cond b (Some g) (Some f))
    by true is = (inr q.0, λ other h. elim h [ inl x ↦ below other (p.1 other x) | inr y ↦ q.1 other y ])
      where
        below : (other : WriteFault) → fault_rank f ≤ fault_rank other → fault_rank g ≤ fault_rank other
        below other l = let less : nat_lt (fault_rank g) (fault_rank f) ≡ true = is in grind arith
    by false is = (inl p.0, λ other h. elim h [ inl x ↦ p.1 other x | inr y ↦ below other (q.1 other y) ])
      where
        below : (other : WriteFault) → fault_rank g ≤ fault_rank other → fault_rank f ≤ fault_rank other
        below other l = let not_less : nat_lt (fault_rank g) (fault_rank f) ≡ false = is in grind arith

-- no two faults are of one rank
by_rank : ℕ → WriteFault
by_rank zero = fault.UnboundResource
by_rank (suc zero) = fault.UnboundResource
by_rank (suc (suc zero)) = fault.ModuleAsType
by_rank (suc (suc (suc zero))) = fault.UnnamedDefinition
by_rank (suc (suc (suc (suc zero)))) = fault.NestedItem
by_rank (suc (suc (suc (suc (suc zero))))) = fault.ValueItem
by_rank (suc (suc (suc (suc (suc (suc zero)))))) = fault.ValueItem
by_rank (suc (suc (suc (suc (suc (suc (suc zero))))))) = fault.UnlistedDependency
by_rank (suc (suc (suc (suc (suc (suc (suc (suc zero)))))))) = fault.InterfaceTwice
by_rank (suc (suc (suc (suc (suc (suc (suc (suc (suc n))))))))) = fault.TypesUseEachOther

of_rank : (f : WriteFault) → by_rank (fault_rank f) ≡ f
unfolding by_rank
of_rank fault.UnboundResource = refl
of_rank fault.ModuleAsType = refl
of_rank fault.UnnamedDefinition = refl
of_rank fault.NestedItem = refl
of_rank fault.ValueItem = refl
of_rank fault.UnlistedDependency = refl
of_rank fault.InterfaceTwice = refl
of_rank fault.TypesUseEachOther = refl

-- and no two are the lowest
pub one_lowest : (P : WriteFault → Type 0) (f g : WriteFault) → IsLowest P (Some f) → IsLowest P (Some g) → f ≡ g
one_lowest P f g p q =
    let up = p.1 g q.0 in
    let down = q.1 f p.0 in
    let same : fault_rank f ≡ fault_rank g = omega (arith, up, down) in
    sym (of_rank f) ∙ ap by_rank same ∙ of_rank g

-- a fault that is there or not is the lowest of itself
pub only_fault : (P : Type 0) (f : WriteFault) → P → IsLowest (λ g. P × (f ≡ g)) (Some f)
only_fault P f p = ((p, refl), λ other h. let ranks = ap fault_rank h.1 in omega (arith, ranks))

pub no_fault : (P : Type 0) (f : WriteFault) → (P → ⊥) → IsLowest (λ g. P × (f ≡ g)) None
no_fault P f none g h = none h.0

-- a fault that is there if a flag is true
pub lowest_if : (P : Type 0) (f : WriteFault) (b : Bool) (o : Option WriteFault) → IsTrue b ↔ P → o ≡ (if b then Some f else None) → IsLowest (λ g. P × (f ≡ g)) o
lowest_if P f b o decided is = subst (IsLowest (λ g. P × (f ≡ g))) (sym is) (by b decided)
  where
    never : false ≡ true → ⊥
    never e = cc

    by : (b : Bool) → IsTrue b ↔ P → IsLowest (λ g. P × (f ≡ g)) (if b then Some f else None)
    by true decided = only_fault P f (decided.0 refl)
    by false decided = no_fault P f (λ p. never (decided.1 p))
