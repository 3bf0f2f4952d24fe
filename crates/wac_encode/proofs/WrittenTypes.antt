-- The indexes of types that are written.
use Rattle.std.proofs.Common.{ℕ, ◌≡◌, Bool, false, [], ◌∷◌, refl, sym, subst}
use Rattle.wac_types_shapes.specs.primitives.Tree.{Tree}
use Rattle.wac_types_shapes.specs.declared.shapes.component.InterfaceId.{InterfaceId}
use Rattle.wac_types_shapes.specs.declared.shapes.component.WorldId.{WorldId}
use Rattle.wac_types_shapes.specs.declared.shapes.component.ModuleTypeId.{ModuleTypeId}
use Rattle.wac_types_shapes.specs.declared.shapes.component.ValueType.{ValueType}
use Rattle.wac_types_shapes.specs.declared.shapes.component.«Type».{«Type» as AnyType}
use Rattle.wac_types_shapes.specs.declared.shapes.component.«Type».TheVariants as ty
use Rattle.wac_types_collection.specs.collection.Collection.{Collection}
use Rattle.wac_types_collection.specs.collection.Bound.{Bindings, held_tree}
use Rattle.wac_binary.specs.Unfold.{Scope}
use Rattle.wac_binary.specs.declared.types.ComponentValType.{ComponentValType}
use Rattle.wac_encode_faults.specs.Trees.{definition_tree}
use Rattle.wac_encode_stacks.specs.Good.{At, Means, innermost}
use Rattle.wac_encode_stacks.specs.private.Laws.{IsItsTree}
use Rattle.wac_encode_scopes.specs.States.{stack, IsTypeAt}
use Rattle.wac_encode_values.specs.private.Values.{IsWrittenAs}
use Rattle.wac_encode_interfaces.specs.declared.worlds.WorldTypes.{WorldTypes}
use Rattle.wac_encode_interfaces.specs.declared.writer.TypeWriter.{TypeWriter}
use Rattle.wac_encode_interfaces.specs.private.Definitions.{IsDefinitionAt}
use Rattle.wac_encode_interfaces.specs.private.Imports.{IsModuleAt}
use Rattle.wac_encode_interfaces.specs.private.Ready.{IsInterfaceAt}
use Rattle.wac_encode.specs.declared.state.State.{State}
use Rattle.wac_encode.specs.Root.{component_scope, IsStateFor, RefersToType}
use Rattle.wac_encode.proofs.Roots.{innermost-is}

module _ (c : Collection) (b : Bool) (m : Bindings) (s : State) (h : IsStateFor c b m s) where
  at-component : (k : ℕ) (t : Tree) → At ((innermost (stack b s.scopes)).types) k t → At ((component_scope s).types) k t
  at-component k t at = subst (λ (w : Scope). At w.types k t) (innermost-is b s.scopes h.root) at

  pub type-refers : IsItsTree → (a : AnyType) (k : ℕ) → IsTypeAt c b s.scopes a k → At ((component_scope s).types) k (held_tree c m a)
  type-refers tree a k is =
      let at = is (m ∷ []) h.good in
      at-component k (held_tree c m a) (subst (λ (t : Tree). At ((innermost (stack b s.scopes)).types) k t) (sym (tree c m a at.0 at.1)) at.3)

  pub interface-refers : IsItsTree → (i : InterfaceId) (k : ℕ) → IsInterfaceAt c b s.scopes false i k → RefersToType c m (ty.Interface i) s k
  interface-refers tree i k is =
      let at = is (m ∷ []) h.good in
      at-component k (held_tree c m (ty.Interface i)) (subst (λ (t : Tree). At ((innermost (stack b s.scopes)).types) k t) (sym (tree c m (ty.Interface i) at.0 at.1)) at.3)

  pub module-refers : IsItsTree → (x : ModuleTypeId) (k : ℕ) → IsModuleAt c b s.scopes x k → RefersToType c m (ty.Module x) s k
  module-refers tree x k at =
      subst (λ (w : Scope). At w.core_types k (held_tree c m (ty.Module x))) (innermost-is b s.scopes h.root)
      (subst (λ (t : Tree). At ((innermost (stack b s.scopes)).core_types) k t) (sym (tree c m (ty.Module x) at.0 (at.1 m))) at.3)

  pub definition-refers : (a : AnyType) (k : ℕ) → IsDefinitionAt c b s.scopes a k → At ((component_scope s).types) k (definition_tree c m a)
  definition-refers a k is = at-component k (definition_tree c m a) (is (m ∷ []) h.good).1

  pub value-means : IsItsTree → (v : ValueType) (x : ComponentValType) → IsWrittenAs c b s.scopes v x → Means (component_scope s) (held_tree c m (ty.Value v)) x
  value-means tree v x is =
      let at = is (m ∷ []) h.good in
      subst (λ (w : Scope). Means w (held_tree c m (ty.Value v)) x) (innermost-is b s.scopes h.root)
      (subst (λ (t : Tree). Means (innermost (stack b s.scopes)) t x) (sym (tree c m (ty.Value v) at.0 at.1)) at.2)

-- types that are defined as they are

plain-tree : (c : Collection) (m : Bindings) (a : AnyType) → ((i : InterfaceId) → a ≡ ty.Interface i → ⊥) → ((w : WorldId) → a ≡ ty.World w → ⊥) → definition_tree c m a ≡ held_tree c m a
unfolding definition_tree
plain-tree c m (ty.Interface i) one two = absurd (one i refl)
plain-tree c m (ty.World w) one two = absurd (two w refl)
plain-tree c m (ty.Resource r) one two = refl
plain-tree c m (ty.Func f) one two = refl
plain-tree c m (ty.Value v) one two = refl
plain-tree c m (ty.Module x) one two = refl

refers-plain : (c : Collection) (m : Bindings) (a : AnyType) (s : State) (k : ℕ) → ((x : ModuleTypeId) → a ≡ ty.Module x → ⊥) → At ((component_scope s).types) k (held_tree c m a) → RefersToType c m a s k
refers-plain c m (ty.Module x) s k three at = absurd (three x refl)
refers-plain c m (ty.Resource r) s k three at = at
refers-plain c m (ty.Func f) s k three at = at
refers-plain c m (ty.Value v) s k three at = at
refers-plain c m (ty.Interface i) s k three at = at
refers-plain c m (ty.World w) s k three at = at

pub plain-refers : (c : Collection) (m : Bindings) (a : AnyType) (s : State) (k : ℕ) → ((i : InterfaceId) → a ≡ ty.Interface i → ⊥) → ((w : WorldId) → a ≡ ty.World w → ⊥) → ((x : ModuleTypeId) → a ≡ ty.Module x → ⊥)
    → At ((component_scope s).types) k (definition_tree c m a) → RefersToType c m a s k
plain-refers c m a s k one two three at = refers-plain c m a s k three (subst (λ (t : Tree). At ((component_scope s).types) k t) (plain-tree c m a one two) at)

pub refers-as : (c : Collection) (m : Bindings) (a t : AnyType) (s : State) (k : ℕ) → a ≡ t → RefersToType c m t s k → RefersToType c m a s k
refers-as c m a t s k is h = subst (λ (x : AnyType). RefersToType c m x s k) (sym is) h

-- a writer of the same collection

pub to-writer : (w : TypeWriter) (c : Collection) (b : Bool) (x : WorldTypes) → w.types.now ≡ c → w.merged ≡ b → w.worlds.now ≡ x → (P : Collection → Bool → WorldTypes → Type 0) → P c b x → P w.types.now w.merged w.worlds.now
to-writer w c b x types merged worlds P h =
    subst (λ (z : Collection). P z w.merged w.worlds.now) (sym types) (subst (λ (z : Bool). P c z w.worlds.now) (sym merged) (subst (λ (z : WorldTypes). P c b z) (sym worlds) h))

pub from-writer : (w : TypeWriter) (c : Collection) (b : Bool) → w.types.now ≡ c → w.merged ≡ b → (P : Collection → Bool → Type 0) → P w.types.now w.merged → P c b
from-writer w c b types merged P h = subst (λ (z : Collection). P z b) types (subst (λ (z : Bool). P w.types.now z) merged h)
