-- What is new under a path of one name.
use Rattle.std.proofs.Common.{◌≡◌, ℕ, ◌<◌, ◌≤◌, List, [], ◌∷◌, length, get_or, ap, arith}
use Rattle.std.specs.Prelude.{string_bytes}
use Rattle.std.specs.declared.string.String.{String}
use Rattle.wac_types_collection.specs.subtyping.CalledViews.{path_view}
use Rattle.wac_merge_classes.specs.terms.Became.{new_at, own_in}
use Rattle.wac_merge_classes.specs.declared.terms.fresh.Fresh.{Fresh}

pub new-under : (f : Fresh) (k : ℕ) {A : Type 0} (path : List (String A)) (s : String A) → 1 ≤ length path → length path < 2 → s ≡ get_or path 0 s → own_in f k (string_bytes s) ≡ new_at f k (path_view path)
new-under f k [] s low high is = absurd (omega (arith, low))
new-under f k (x ∷ []) s low high is = ap (λ y. own_in f k (string_bytes y)) is
new-under f k (x ∷ y ∷ path) s low high is = absurd (omega (arith, high))
