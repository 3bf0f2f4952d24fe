-- What is left to be written of chunks around one another.
use Rattle.std.proofs.Common.{◌≡◌, ℕ, List, [], ◌∷◌, ◌++◌, ap, sym, ◌∙◌, append_assoc, append-nil, arith}
use Rattle.std.specs.Borrow.{Bor}
use Rattle.wac_binary.specs.private.declarations.Chunks.{outer_bytes}

-- the innermost chunk's bytes come first
pub outer_snoc : (xs : List (Bor (List ℕ))) (x : Bor (List ℕ)) → outer_bytes (xs ++ x ∷ []) ≡ x.now ++ outer_bytes xs
outer_snoc [] x = sym (append-nil x.now)
outer_snoc (y ∷ ys) x = ap (λ t. t ++ y.now) (outer_snoc ys x) ∙ append_assoc x.now (outer_bytes ys) y.now

-- once the bytes before a chunk are written, the chunk and those after it are left
pub one_inner : (out before inner after rest : List ℕ) → (out ++ before) ++ (inner ++ (after ++ rest)) ≡ out ++ ((before ++ (inner ++ after)) ++ rest)
one_inner out before inner after rest = grind (arith, append_assoc)
