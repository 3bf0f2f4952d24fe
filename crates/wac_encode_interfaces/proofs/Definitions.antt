-- Definitions that are component types, or types as they are.
use Rattle.std.proofs.Common.{ℕ, ◌≡◌, Bool, List, [], ◌∷◌, Option, Some, None, refl, ap, sym, ◌∙◌, subst, inl, inr}
use Rattle.std.proofs.Math.Path.{fun_ext}
use Rattle.wac_types_shapes.specs.primitives.Name.{Name, option_case}
use Rattle.wac_types_shapes.specs.primitives.Tree.{Side, imported, exported, Tree, absent, component, component_item}
use Rattle.wac_types_shapes.specs.declared.shapes.component.InterfaceId.{InterfaceId}
use Rattle.wac_types_shapes.specs.declared.shapes.component.ItemKind.TheVariants as kind
use Rattle.wac_types_shapes.specs.declared.shapes.component.World.{World}
use Rattle.wac_types_shapes.specs.declared.shapes.component.WorldId.{WorldId}
use Rattle.wac_types_shapes.specs.declared.shapes.component.«Type».{«Type» as AnyType}
use Rattle.wac_types_shapes.specs.declared.shapes.component.«Type».TheVariants as ty
use Rattle.wac_types_collection.specs.collection.Collection.{Collection, item_at}
use Rattle.wac_types_collection.specs.collection.Held.{items_under}
use Rattle.wac_types_collection.specs.collection.Bound.{Bindings, held_tree}
use Rattle.wac_binary.specs.declared.sorts.Description.TheVariants as e
use Rattle.wac_binary.specs.Items.{Decl}
use Rattle.wac_binary.specs.HasMeaning.{IsFree}
use Rattle.wac_binary.specs.Unfold.{with_item}
use Rattle.wac_encode_stacks.specs.Scopes.{env, envs, scope_of}
use Rattle.wac_encode_stacks.specs.Good.{At, Good, innermost, nothing_bound, top}
use Rattle.wac_encode_stacks.specs.private.Laws.{IsItsTree}
use Rattle.wac_encode_stacks.specs.Listed.{on_side}
use Rattle.wac_encode_scopes.specs.declared.encodable.Encodable.{Encodable}
use Rattle.wac_encode_scopes.specs.declared.encodable.Encodable.TheVariants.{Component}
use Rattle.wac_encode_scopes.specs.declared.scope.Scope.{Scope as OpenScope}
use Rattle.wac_encode_scopes.specs.declared.state.State.{State}
use Rattle.wac_encode_scopes.specs.Books.{opened}
use Rattle.wac_encode_scopes.specs.private.Components.{ComponentHasMeaning, component_tree, DefinesComponent}
use Rattle.wac_encode_scopes.specs.Contents.{content_of}
use Rattle.wac_encode_scopes.specs.private.Listing.{ListsItem}
use Rattle.wac_encode_scopes.specs.States.{outward, stack, Goes, KeepsRecords}
use Rattle.wac_encode_faults.specs.declared.fault.WriteFault.TheVariants as fault
use Rattle.wac_encode_faults.specs.Faults.{IsDefinedFault, definition_fault, unnamed}
use Rattle.wac_encode_faults.specs.Sides.{Sides, interface_sides, completed_sides}
use Rattle.wac_encode_faults.specs.Trees.{sides_tree, world_definition, definition_tree}
use Rattle.wac_encode_interfaces.specs.private.Definitions.{IsDefinable, IsOfDefinition, IsDefinitionAt}
use Rattle.wac_encode_interfaces.specs.private.Items.{IsItemReady, IsTypeIndex, IsTypeOf}
use Rattle.wac_encode_interfaces.specs.private.Worlds.{Worlds}
use Rattle.wac_encode_interfaces.specs.private.Defined.{HasDefinition, HasDefinedSides, IsComponentOf, exporting_one, IsDefinition, IsScopeType, IsPlainType}
use Rattle.wac_encode_interfaces.proofs.Adding.{side-kept}
use Rattle.wac_encode_scopes.proofs.FreeAgreeing.{held-free}
use Rattle.wac_encode_interfaces.proofs.DefinedSides.{world-defined}
use Rattle.wac_encode_interfaces.proofs.Faultless.{definition_of_none}
use Rattle.wac_encode_interfaces.proofs.WorldsAhead.{no-scope}

-- ---- a component type that exports one component

start-empty : (b : Bool) (st : State) → st.here.content ≡ Component [] → (side : Side) → on_side side (innermost (stack b st)) ≡ (λ n. absent)
start-empty b st content side = ap (λ (x : Encodable). on_side side (scope_of (content_of x) (envs (outward b st.around.items)))) content ∙ none side
  where
    none : (y : Side) → on_side y (scope_of (content_of (Component [])) (envs (outward b st.around.items))) ≡ (λ n. absent)
    none imported = refl
    none exported = refl

same-items : (s t : State) → s.around ≡ t.around → s.around.items ≡ t.around.items
same-items s t h = cc

under-one : (n : Name) (t : Tree) → with_item (λ k. absent) n t ≡ items_under ((n, t) ∷ [])
under-one n t = fun_ext (λ k. refl)

none-some : (w : WorldId) → None ≡ Some w → ⊥
none-some w h = cc

-- What is known after the export.
pub record ExportsOne (c : Collection) (b : Bool) (n : Name) (t : Tree) (st : State) : Type 0 where
  pub good : Good c (nothing_bound ∷ []) (stack b st)
  pub tree : component ((innermost (stack b st)).imports) ((innermost (stack b st)).exports) ≡ exporting_one n t

pub exports-one : (c : Collection) (b : Bool) (n : Name) (ds : List Decl) (start mid end : State) (k p : ℕ) → ComponentHasMeaning ds → Good c (nothing_bound ∷ []) (stack b start) → start.here.content ≡ Component []
    → DefinesComponent b None ds start mid k → ListsItem exported n (e.Component k) mid end p → KeepsRecords mid end → ExportsOne c b n (component_tree ds) end
exports-one c b n ds start mid end k p means good content defines lists keeps =
    let goes = defines c means (λ i is m. absurd (none-some i is)) in
    let on = goes.0.onward (nothing_bound ∷ []) good in
    let at = goes.1 nothing_bound [] good in
    let none : (side : Side) → on_side side (innermost (stack b mid)) ≡ (λ k. absent) = λ side. side-kept side (innermost (stack b start)) (innermost (stack b mid)) on.1.0 ∙ start-empty b start content side in
    let free : IsFree ((innermost (stack b mid)).exports n) = subst (λ (items : Name → Tree). IsFree (items n)) (sym (none exported)) tt in
    let step = lists c b nothing_bound [] (component_item (component_tree ds)) on.0 free (tt, at) in
    let around = same-items end mid keeps.0 in
    let this : (innermost (stack b end)).exports ≡ with_item ((innermost (stack b mid)).exports) n (component_item (component_tree ds)) =
    subst (λ (ss : List OpenScope). (env (opened b end.here) (envs (outward b ss))).exports ≡ with_item ((innermost (stack b mid)).exports) n (component_item (component_tree ds))) (sym around) step.0.this in
    let that : (innermost (stack b end)).imports ≡ (innermost (stack b mid)).imports =
    subst (λ (ss : List OpenScope). (env (opened b end.here) (envs (outward b ss))).imports ≡ (innermost (stack b mid)).imports) (sym around) step.0.that in
    let imports = that ∙ none imported in
    let exports = this ∙ ap (λ (items : Name → Tree). with_item items n (component_item (component_tree ds))) (none exported) ∙ under-one n (component_item (component_tree ds)) in
    record {
      good = subst (λ (ss : List OpenScope). Good c (nothing_bound ∷ []) (opened b end.here ∷ outward b ss)) (sym around) step.0.good;
      tree = (λ i. component (imports i) (exports i));
    }

-- ---- the trees of definitions

pub world-named : (c : Collection) (w : WorldId) (x : World) → item_at c.worlds w.0 ≡ Some x → x.id ≡ None → definition_fault c (ty.World w) ≡ None → ⊥
world-named c w x at none h =
    let wrong : Some fault.UnnamedDefinition ≡ None = sym (ap (λ (o : Option World). option_case o None (λ it. unnamed it.id)) at ∙ ap unnamed none) ∙ h in
    cc

world-tree : (c : Collection) (m : Bindings) (w : WorldId) (x : World) (n : Name) → item_at c.worlds w.0 ≡ Some x → x.id ≡ Some n → definition_tree c m (ty.World w) ≡ exporting_one n (sides_tree c (completed_sides c x))
unfolding definition_tree
world-tree c m w x n at id =
    ap (λ (o : Option World). option_case o absent (world_definition c)) at
    ∙ ap (λ (o : Option Name). component (λ _. absent) (items_under (option_case o [] (λ i. (i, component_item (sides_tree c (completed_sides c x))) ∷ [])))) id

pub world-is : (c : Collection) (w : WorldId) (x : World) (n : Name) (inner ds : List Decl) → item_at c.worlds w.0 ≡ Some x → x.id ≡ Some n → HasDefinedSides c (ty.World w) inner → IsComponentOf (exporting_one n (component_tree inner)) ds → IsDefinition c (ty.World w) ds
world-is c w x n inner ds at id has is = record {
  sort = tt;
  is = λ m. (is.0, is.1 ∙ ap (exporting_one n) (has (completed_sides c x) (world-defined c w x at)).1 ∙ sym (world-tree c m w x n at id));
}

pub world-means : (c : Collection) (w : WorldId) (x : World) (inner : List Decl) → item_at c.worlds w.0 ≡ Some x → HasDefinedSides c (ty.World w) inner → ComponentHasMeaning inner
world-means c w x inner at has = (has (completed_sides c x) (world-defined c w x at)).0

pub interface-is : (c : Collection) (i : InterfaceId) (ds : List Decl) → HasDefinedSides c (ty.Interface i) ds → IsDefinition c (ty.Interface i) ds
unfolding definition_tree
interface-is c i ds has = record { sort = tt; is = λ m. has (interface_sides c i) refl }

-- ---- what the writer of a definition needs

pub has-definition : (c : Collection) (b : Bool) (ws : Worlds) (s : State) (a : AnyType) → IsDefinable c b ws s a → HasDefinition c ws a
has-definition c b ws s a h = record {
  held = h.held;
  named = (definition_of_none c (top h.bindings) (kind.TypeItem a) h.clean).own;
  clean = λ t is f fault. h.clean f (inr (subst (λ (o : Option Sides). IsDefinedFault c (top h.bindings) a o f) (sym is) fault));
  worlds = h.worlds;
}

pub is-plain : (a : AnyType) → ((i : InterfaceId) → a ≡ ty.Interface i → ⊥) → ((w : WorldId) → a ≡ ty.World w → ⊥) → IsPlainType a
is-plain (ty.Interface i) one two = one i refl
is-plain (ty.World w) one two = two w refl
is-plain (ty.Resource r) one two = tt
is-plain (ty.Func f) one two = tt
is-plain (ty.Value v) one two = tt
is-plain (ty.Module m) one two = tt

pub plain-ready : (c : Collection) (b : Bool) (ws : Worlds) (s : State) (a : AnyType) → IsPlainType a → IsDefinable c b ws s a → IsItemReady c b ws s (kind.TypeItem a)
plain-ready c b ws s (ty.Interface i) plain h = absurd plain
plain-ready c b ws s (ty.World w) plain h = absurd plain
plain-ready c b ws s (ty.Module m) plain h = absurd (h.clean fault.ModuleAsType (inl refl))
plain-ready c b ws s (ty.Resource r) plain h = record {
  held = h.held;
  ready = (h.bindings, h.good, (held_tree c (top h.bindings) (ty.Resource r), held-free c (top h.bindings) (ty.Resource r) (definition_of_none c (top h.bindings) (kind.TypeItem (ty.Resource r)) h.clean).parts));
  writable = refl;
  worlds = no-scope c ws (ty.Resource r) refl (λ w is. cc);
  interface = tt;
}
plain-ready c b ws s (ty.Func f) plain h = record {
  held = h.held;
  ready = (h.bindings, h.good, (held_tree c (top h.bindings) (ty.Func f), held-free c (top h.bindings) (ty.Func f) (definition_of_none c (top h.bindings) (kind.TypeItem (ty.Func f)) h.clean).parts));
  writable = refl;
  worlds = no-scope c ws (ty.Func f) refl (λ w is. cc);
  interface = tt;
}
plain-ready c b ws s (ty.Value v) plain h = record {
  held = h.held;
  ready = (h.bindings, h.good, (held_tree c (top h.bindings) (ty.Value v), held-free c (top h.bindings) (ty.Value v) (definition_of_none c (top h.bindings) (kind.TypeItem (ty.Value v)) h.clean).parts));
  writable = refl;
  worlds = no-scope c ws (ty.Value v) refl (λ w is. cc);
  interface = tt;
}

-- ---- what its index refers to

plain-tree : (c : Collection) (m : Bindings) (a : AnyType) → IsPlainType a → held_tree c m a ≡ definition_tree c m a
unfolding definition_tree
plain-tree c m (ty.Interface i) plain = absurd plain
plain-tree c m (ty.World w) plain = absurd plain
plain-tree c m (ty.Resource r) plain = refl
plain-tree c m (ty.Func f) plain = refl
plain-tree c m (ty.Value v) plain = refl
plain-tree c m (ty.Module i) plain = refl

plain-of : (a : AnyType) (t : Tree) → IsPlainType a → IsTypeOf a t → IsOfDefinition a t
plain-of (ty.Interface i) t plain h = absurd plain
plain-of (ty.World w) t plain h = absurd plain
plain-of (ty.Resource r) t plain h = h
plain-of (ty.Func f) t plain h = h
plain-of (ty.Value v) t plain h = h
plain-of (ty.Module i) t plain h = h

component-of : (a : AnyType) (ds : List Decl) → IsScopeType a → IsOfDefinition a (component_tree ds)
component-of (ty.Interface i) ds h = tt
component-of (ty.World w) ds h = tt
component-of (ty.Resource r) ds h = absurd h
component-of (ty.Func f) ds h = absurd h
component-of (ty.Value v) ds h = absurd h
component-of (ty.Module i) ds h = absurd h

pub plain-at : IsItsTree → (c : Collection) (b : Bool) (s : State) (a : AnyType) (k : ℕ) → IsPlainType a → IsTypeIndex c b s a k → IsDefinitionAt c b s a k
plain-at law c b s a k plain h ms good =
    let (t, held, of, at) = h ms good in
    let is : t ≡ definition_tree c (top ms) a = sym (law c (top ms) a t held) ∙ plain-tree c (top ms) a plain in
    (subst (IsOfDefinition a) is (plain-of a t plain of), subst (λ (x : Tree). At ((innermost (stack b s)).types) k x) is at)

component-there : (c : Collection) (b : Bool) (ds : List Decl) (old new : State) (k : ℕ) (ms : List Bindings) → Good c ms (stack b old) → ComponentHasMeaning ds → DefinesComponent b None ds old new k → At ((innermost (stack b new)).types) k (component_tree ds)
component-there c b ds old new k [] good means defines = absurd good
component-there c b ds old new k (m ∷ ms) good means defines = (defines c means (λ i is n. absurd (none-some i is))).1 m ms good

pub component-goes : (c : Collection) (b : Bool) (a : AnyType) (ds : List Decl) (old new : State) (k : ℕ) → IsDefinition c a ds → DefinesComponent b None ds old new k → Goes c b old new
component-goes c b a ds old new k is defines = (defines c (is.is nothing_bound).0 (λ i no n. absurd (none-some i no))).0

pub component-at : (c : Collection) (b : Bool) (ws : Worlds) (a : AnyType) (ds : List Decl) (old new : State) (k : ℕ) → IsDefinable c b ws old a → IsDefinition c a ds → DefinesComponent b None ds old new k → IsDefinitionAt c b new a k
component-at c b ws a ds old new k ready is defines ms good =
    let (means, tree) = is.is (top ms) in
    (subst (IsOfDefinition a) tree (component-of a ds is.sort), subst (λ (x : Tree). At ((innermost (stack b new)).types) k x) tree (component-there c b ds old new k ready.bindings ready.good means defines))
