-- Instance types that are open over the scopes of a state; private functions alone cite this.
use Rattle.std.specs.Prelude.{ℕ, zero, suc, ◌≡◌, Bool, true, not, List, [], ◌∷◌, ◌++◌, length}
use Rattle.std.specs.List.{AllZip, AllByRecursion}
use Rattle.wac_binary.specs.Items.{decls}
use Rattle.wac_binary.specs.HasMeaning.{ImportNothing}
use Rattle.wac_encode_stacks.specs.Scopes.{Stack, opening}
use Rattle.wac_encode_stacks.specs.private.Beside.{all_written_as}
use Rattle.wac_encode_scopes.specs.declared.encodable.Encodable.{Encodable}
use Rattle.wac_encode_scopes.specs.declared.scope.Scope.{Scope}
use Rattle.wac_encode_scopes.specs.declared.state.State.{State}
use Rattle.wac_encode_scopes.specs.Contents.{AddsTypes, IsInstanceType, declarations_of}
use Rattle.wac_encode_scopes.specs.States.{stack}

-- An open instance type that imports nothing.
abbrev pub IsLevelContent : Encodable → Type 0
IsLevelContent x = IsInstanceType x × ImportNothing (decls (declarations_of x))

-- n open instance types without records, inside a stack.
abbrev pub opens : ℕ → Stack → Stack
opens zero st = st
opens (suc n) st = opening true ∷ opens n st

-- n instance types are open inside the innermost scope of old. Types alone were appended to the scopes of old since. What is
-- recorded of the other collection is unchanged.
pub record AreLevels (b : Bool) (n : ℕ) (old new : State) : Type 0 where
  pub base : List Scope
  pub levels : List Scope
  pub around : new.around.items ≡ base ++ levels
  pub count : suc (length levels) ≡ n
  pub types : AllZip (λ s t. AddsTypes s.content t.content) (old.around.items ++ old.here ∷ []) base
  pub contents : AllByRecursion (λ s. IsLevelContent s.content) levels
  pub here : IsLevelContent new.here.content
  pub other : stack (not b) new ≡ all_written_as (stack b new) (opens n (stack (not b) old))
