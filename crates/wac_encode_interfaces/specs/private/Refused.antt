-- What a call that fails leaves of the open scopes.
use Rattle.std.specs.Prelude.{◌≡◌, List, [], ◌∷◌, ◌++◌}
use Rattle.std.specs.List.{AllZip}
use Rattle.wac_binary.specs.Items.{Decl, Item}
use Rattle.wac_encode_scopes.specs.declared.encodable.Encodable.{Encodable}
use Rattle.wac_encode_scopes.specs.declared.encodable.Encodable.TheVariants.{Builder, Instance, Component}
use Rattle.wac_encode_scopes.specs.declared.scope.Scope.{Scope}
use Rattle.wac_encode_scopes.specs.declared.state.State.{State}

-- The second content begins with the first.
abbrev pub BeginsWith : Encodable → Encodable → Type 0
BeginsWith (Builder xs) (Builder ys) = (more : List Item) × (ys ≡ xs ++ more)
BeginsWith (Instance ds) (Instance es) = (more : List Decl) × (es ≡ ds ++ more)
BeginsWith (Component ds) (Component es) = (more : List Decl) × (es ≡ ds ++ more)
BeginsWith _ _ = ⊥

-- The open scopes, the outermost first.
abbrev pub open_scopes : State → List Scope
open_scopes s = s.around.items ++ s.here ∷ []

-- The scopes are still open, the outermost first. Each has its content, and perhaps more after it. Others may be open inside them.
pub record AreStillOpen (ss : List Scope) (s : State) : Type 0 where
  pub kept : List Scope
  pub inner : List Scope
  pub scopes : open_scopes s ≡ kept ++ inner
  pub contents : AllZip (λ x y. BeginsWith x.content y.content) ss kept

-- All scopes are still open, with what they had.
abbrev pub KeepsScopes : State → State → Type 0
KeepsScopes old new = AreStillOpen (open_scopes old) new
