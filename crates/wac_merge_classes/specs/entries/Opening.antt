-- What is known while the scopes of an item are found. Only contracts inside the merge cite this file.
use Rattle.std.specs.Prelude.{ℕ, zero, suc, ◌+◌, ◌≡◌, ◌<◌, true, List, [], ◌∷◌, map, Option, Some, None, Contains, slice_get}
use Rattle.indexmap.specs.IndexSet.{insert_all}
use Rattle.wac_types_collection.specs.collection.Collection.{Collection, holds_type}
use Rattle.wac_types_collection.specs.subtyping.Ranks.{type_rank}
use Rattle.wac_merge_classes.specs.contracts.entries.scopes.ScopePartialEq.TheImpl as ScopeEq
use Rattle.wac_merge_classes.specs.declared.entries.scopes.Opener.{Opener}
use Rattle.wac_merge_classes.specs.declared.entries.scopes.Scope.{Scope}
use Rattle.wac_merge_classes.specs.entries.Scopes.{opener_type, listed_in, opened, number_of, unknown, IsBelow, ComesFrom, inside}

-- The scopes after these were appended, except those that were already there.
abbrev pub with_opened : List Scope → Option ℕ → List Opener → List Scope
with_opened ss parent os = insert_all (ScopeEq.ghosts).eq ss (map (inside parent) os)

-- The scopes directly inside the scope at position n were appended, except the sides of worlds with a number.
abbrev pub Opens : Collection → List (Option ℕ) → List Scope → ℕ → List Scope → Type 0
Opens c known ss n more = (s : Scope) → slice_get ss n ≡ Some s → more ≡ with_opened ss (Some n) (unknown known (opened (listed_in c s.opener)))

-- The collection holds the type that opens the scope at position n.
abbrev pub IsHeldAt : Collection → List Scope → ℕ → Type 0
IsHeldAt c ss n = (s : Scope) → slice_get ss n ≡ Some s → holds_type c (opener_type s.opener) ≡ true

-- The scopes of an item, of which the first n were searched.
pub record AreOpened (c : Collection) (known : List (Option ℕ)) (roots : List Opener) (n : ℕ) (ss : List Scope) : Type 0 where
  pub rooted : (j : ℕ) (o : Opener) → slice_get roots j ≡ Some o → (s : Scope) × (slice_get ss j ≡ Some s) × (s.opener ≡ o) × (s.parent ≡ None)
  pub nested : (i : ℕ) (s : Scope) (o : Opener) → i < n → slice_get ss i ≡ Some s → Contains (opened (listed_in c s.opener)) o → number_of known (opener_type o) ≡ None → Contains ss (inside (Some i) o)
  pub around : (i : ℕ) (s : Scope) → slice_get ss i ≡ Some s → IsBelow i s.parent
  pub held : (i : ℕ) → IsHeldAt c ss i
  pub source : (i : ℕ) (s : Scope) → slice_get ss i ≡ Some s → ComesFrom c roots ss i s.opener s.parent

-- The sum of f over these openers.
abbrev pub total : (Opener → ℕ) → List Opener → ℕ
total f [] = 0
total f (o ∷ os) = f o + total f os

-- The number of scopes in one, itself included, down to depth k.
abbrev pub count_to : ℕ → Collection → Opener → ℕ
count_to zero c o = 0
count_to (suc k) c o = suc (total (λ p. count_to k c p) (opened (listed_in c o)))

-- The number of scopes in one. The depth is bounded because a type mentions only types added before it.
unfoldable pub count_in : Collection → Opener → ℕ
count_in c o = count_to (type_rank c (opener_type o)) c o

-- The number of scopes in those from position n on.
unfoldable pub left_from : Collection → List Scope → ℕ → ℕ
left_from c [] n = 0
left_from c (s ∷ ss) zero = count_in c s.opener + left_from c ss zero
left_from c (s ∷ ss) (suc n) = left_from c ss n
