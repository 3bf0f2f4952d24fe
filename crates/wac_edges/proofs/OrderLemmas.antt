use Rattle.std.proofs.Common.{◌≡◌, ℕ, zero, suc, Bool, false, not, ◌&&◌, List, [], ◌∷◌, refl, arith, eqb}
use Rattle.std.specs.Prelude.{slice_set}
use Rattle.std.proofs.Math.Bool.{and-false, and-true}
use Rattle.std.proofs.lemmas.Bool.Decides.{nat_tests}
use Rattle.std.proofs.Math.Path.{fun_ext}
use Rattle.wac_edges.specs.declared.node.NodeId.{NodeId}
use Rattle.wac_edges.specs.Edge.{is_left}
use Rattle.wac_edges.specs.Order.{without}
use Rattle.wac_edges.specs.private.Ready.{is_set}

pub flag_after : (flags : List Bool) (n m : ℕ) → is_set (slice_set flags n false) m ≡ (is_set flags m && not (eqb m n))
flag_after [] n m = refl
flag_after (b ∷ flags) zero zero = grind (arith, nat_tests, and-false b)
flag_after (b ∷ flags) zero (suc m) = grind (arith, nat_tests, and-true (is_set flags m))
flag_after (b ∷ flags) (suc n) zero = grind (arith, nat_tests, and-true b)
flag_after (b ∷ flags) (suc n) (suc m) = grind (arith, nat_tests, flag_after flags n m)

-- a node that is written is left no more
pub flags_after : (flags : List Bool) (n : NodeId) → is_left (slice_set flags n.0 false) ≡ without (is_left flags) n
flags_after flags n = fun_ext (λ m. flag_after flags n.0 m.0)
