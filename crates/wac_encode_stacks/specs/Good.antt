-- The invariant of a stack of open scopes: it holds between any two steps of a type encoder.
use Rattle.std.specs.Prelude.{ℕ, ◌≡◌, ◌≤◌, Bool, true, false, List, [], ◌∷◌, ◌++◌, Option, Some, None, slice_get}
use Rattle.wac_types_shapes.specs.primitives.Name.{option_case}
use Rattle.wac_types_shapes.specs.declared.shapes.component.ResourceId.{ResourceId}
use Rattle.wac_types_shapes.specs.declared.shapes.component.DefinedTypeId.{DefinedTypeId}
use Rattle.wac_types_shapes.specs.declared.shapes.component.ValueType.TheVariants as val
use Rattle.wac_types_shapes.specs.declared.shapes.component.«Type».{«Type» as AnyType}
use Rattle.wac_types_shapes.specs.declared.shapes.component.«Type».TheVariants as ty
use Rattle.wac_types_shapes.specs.primitives.Tree.{Leaf, Tree, named, resource, primitive, further_out, out_by, taken_from, items_in, moved}
use Rattle.wac_types_collection.specs.collection.Collection.{Collection}
use Rattle.wac_types_collection.specs.collection.Bound.{Bindings, held_tree}
use Rattle.wac_binary.specs.declared.types.ComponentValType.{ComponentValType}
use Rattle.wac_binary.specs.declared.types.ComponentValType.TheVariants.{Primitive, Index}
use Rattle.wac_binary.specs.Unfold.{Scope, Bound, scope_at, bound_type}
use Rattle.wac_binary.specs.HasMeaning.{IsValue, IsFunction, IsInstance, IsComponent}
use Rattle.wac_encode_stacks.specs.Scopes.{root, ContentHasMeaning, Where, at_type, at_export, Indexed, Open, Stack, env, envs}
use Rattle.wac_binary.specs.Items.{Item}

-- The element at index i is x.
abbrev pub At : {A : Type 0} → List A → ℕ → A → Type 0
At xs i x = slice_get xs i ≡ Some x

-- The indexes of e refer to the same types and instances in f, and f has no fewer modules and components.
pub record Keeps (e f : Scope) : Type 0 where
  pub core_types : (i : ℕ) (t : Tree) → At e.core_types i t → At f.core_types i t
  pub types : (i : ℕ) (t : Tree) → At e.types i t → At f.types i t
  pub instances : (i : ℕ) (b : Bound) → At e.instances i b → At f.instances i b
  pub modules : e.modules ≤ f.modules
  pub components : e.components ≤ f.components

-- The indexes of e keep their meaning in f, and f has the same imports and exports.
pub record Kept (e f : Scope) : Type 0 where
  pub keeps : Keeps e f
  pub imports : f.imports ≡ e.imports
  pub exports : f.exports ≡ e.exports

-- The lists have the same length, and each scope of the first is kept in the second.
abbrev pub Grown : List Scope → List Scope → Type 0
Grown [] [] = Unit {0}
Grown (e ∷ es) (f ∷ fs) = Kept e f × Grown es fs
Grown _ _ = ⊥

-- Each scope of the first list is kept in the second, which may have more enclosing scopes.
abbrev pub Under : List Scope → List Scope → Type 0
Under [] fs = Unit {0}
Under (e ∷ es) (f ∷ fs) = Kept e f × Under es fs
Under (e ∷ es) [] = ⊥

-- Whether there is no enclosing scope.
abbrev pub is_bottom : List Scope → Bool
is_bottom [] = true
is_bottom (e ∷ es) = false

-- The tree is at this place in the scope: at a type index, or as an export of an instance.
abbrev pub Stands : Scope → Tree → Where → Type 0
Stands e t (at_type i) = At e.types i t
Stands e t (at_export j n) = (b : Bound) × At e.instances j b × (bound_type b.side (b.path ++ named n ∷ []) (taken_from b.side b.path (items_in b.type n)) ≡ t)

-- A value type that is written in this scope has this tree.
abbrev pub Means : Scope → Tree → ComponentValType → Type 0
Means e t (Primitive p) = t ≡ primitive p
Means e t (Index i) = At e.types i t × IsValue t

-- Each resource that m binds is bound by m' to the same leaf.
abbrev pub Extends : Bindings → Bindings → Type 0
Extends m m' = (r : ResourceId) (l : Leaf) → m r ≡ Some l → m' r ≡ Some l

-- If m binds a resource to a leaf l, then m' binds it to the leaf f l.
abbrev pub Carries : (Leaf → Leaf) → Bindings → Bindings → Type 0
Carries f m m' = (r : ResourceId) (l : Leaf) → m r ≡ Some l → m' r ≡ Some (f l)

-- The type of the collection has the tree t under m. Under each m' to which f carries m, it has t with its leaves
-- mapped by f. So m binds each resource that the type mentions.
abbrev pub IsHeld : Collection → Bindings → AnyType → Tree → Type 0
IsHeld c m a t = (f : Leaf → Leaf) (m' : Bindings) → Carries f m m' → held_tree c m' a ≡ moved f t

-- A leaf as it is seen one scope further in.
abbrev pub seen_inside : Option Leaf → Option Leaf
seen_inside o = option_case o None (λ l. Some (further_out l))

abbrev pub nothing_bound : Bindings
nothing_bound r = None

-- The type of the collection has a tree under m: m binds each resource that it mentions.
abbrev pub Holds : Collection → Bindings → AnyType → Type 0
Holds c m a = (t : Tree) × IsHeld c m a t

-- The type mentions no resource that is bound outside it.
abbrev pub IsClosed : Collection → AnyType → Type 0
IsClosed c a = Holds c nothing_bound a

-- The tree is of the type's sort: a value type, a function type, an instance type for an interface or a component type
-- for a world.
abbrev pub IsOf : AnyType → Tree → Type 0
IsOf (ty.Value v) t = IsValue t
IsOf (ty.Func f) t = IsFunction t
IsOf (ty.Interface i) t = IsInstance t
IsOf (ty.World w) t = IsComponent t
IsOf a t = ⊥

-- The invariant of one open scope, whose enclosing scopes are out. Resources are bound by m in it, and by mo in the
-- next enclosing scope. Outside the bottom scope, the outermost one, nothing is bound.
pub record GoodScope (c : Collection) (m mo : Bindings) (o : Open) (out : List Scope) : Type 0 where
  -- The content has a meaning: each index that it uses exists, and no name is declared twice.
  pub meaning : ContentHasMeaning o.content out
  -- The root has no enclosing scope.
  pub bottom : (items : List Item) → o.content ≡ root items → is_bottom out ≡ true
  -- A recorded resource is at its place, as the leaf to which m binds it.
  pub binds : (r : ResourceId) (w : Where) → o.binds r ≡ Some w → (l : Leaf) × (m r ≡ Some l) × Stands (env o out) (resource l) w
  -- A resource that is not recorded is bound as in the enclosing scope, one scope further out.
  pub unbound : (r : ResourceId) → o.binds r ≡ None → m r ≡ seen_inside (mo r)
  -- If the scope passes, a resource that is bound outside is bound inside to the same resource, recorded or not.
  pub passing : o.passes ≡ true → Carries (out_by 1) mo m
  -- At the index of a recorded type is its tree under m.
  pub types : (a : AnyType) (x : Indexed) → o.types a ≡ Some x → (t : Tree) × IsHeld c m a t × IsOf a t × At (env o out).types x.index t
  -- A value type that is recorded as an export of an instance is at its place, with its tree under m.
  pub exports : (d : DefinedTypeId) (w : Where) → o.exports d ≡ Some w → (t : Tree) × IsHeld c m (ty.Value (val.Defined d)) t × IsValue t × Stands (env o out) t w

abbrev pub top : List Bindings → Bindings
top [] = nothing_bound
top (m ∷ ms) = m

-- The invariant of a stack of open scopes, whose bindings are ms. Both lists begin with the innermost scope.
abbrev pub Good : Collection → List Bindings → Stack → Type 0
Good c [] [] = Unit {0}
Good c (m ∷ ms) (o ∷ os) = GoodScope c m (top ms) o (envs os) × Good c ms os
Good c _ _ = ⊥

-- A step from st to st': the stack st' is good, and each scope of st is kept in it.
abbrev pub Onward : Collection → List Bindings → Stack → Stack → Type 0
Onward c ms st st' = Good c ms st' × Grown (envs st) (envs st')

abbrev pub innermost : Stack → Scope
innermost st = scope_at (envs st) 0
