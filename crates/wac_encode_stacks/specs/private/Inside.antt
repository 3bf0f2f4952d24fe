-- Several steps and items in one open scope, resources that any scope of the stack records, and growth of the root.
use Rattle.std.specs.Prelude.{ℕ, suc, zero, ◌≡◌, Bool, List, [], ◌∷◌, ◌++◌, Some}
use Rattle.wac_types_shapes.specs.primitives.Name.{Name}
use Rattle.wac_types_shapes.specs.declared.shapes.component.ResourceId.{ResourceId}
use Rattle.wac_types_shapes.specs.declared.shapes.component.«Type».{«Type» as AnyType}
use Rattle.wac_types_shapes.specs.primitives.Tree.{Side, Leaf, Tree, resource}
use Rattle.wac_types_collection.specs.collection.Collection.{Collection}
use Rattle.wac_types_collection.specs.collection.Bound.{Bindings}
use Rattle.wac_binary.specs.declared.sorts.Sort.TheVariants as s
use Rattle.wac_binary.specs.declared.types.ComponentValType.{ComponentValType}
use Rattle.wac_binary.specs.Items.{Item, export_alias, outer_alias}
use Rattle.wac_binary.specs.HasMeaning.{HasMeaning}
use Rattle.wac_encode_stacks.specs.Scopes.{at_type, at_export, Open, Stack, env, envs, next_type, with_alias_of, bind_at, opening}
use Rattle.wac_encode_stacks.specs.Good.{At, Keeps, Grown, nothing_bound, Good, Onward}
use Rattle.wac_encode_stacks.specs.private.Parts.{Is, IsReached}
use Rattle.wac_encode_stacks.specs.private.Laws.{Adds}
use Rattle.wac_encode_stacks.specs.Listed.{Lists}
use Rattle.wac_encode_stacks.specs.Instances.{holding}

-- Steps and added items from o, inside os, to o', inside os'. The stack is good after them, and earlier indexes keep
-- their meaning. The imports and exports of o' may differ from those of o.
pub record Inside (c : Collection) (m : Bindings) (ms : List Bindings) (o : Open) (os : Stack) (o' : Open) (os' : Stack) : Type 0 where
  pub good : Good c (m ∷ ms) (o' ∷ os')
  pub keeps : Keeps (env o (envs os)) (env o' (envs os'))
  pub around : Grown (envs os) (envs os')

-- A step is such a change, and leaves the imports and exports of the innermost scope as they are.
abbrev pub ByStep : Type 0
ByStep = (c : Collection) (m : Bindings) (ms : List Bindings) (o o' : Open) (os os' : Stack) → Onward c (m ∷ ms) (o ∷ os) (o' ∷ os')
    → Inside c m ms o os o' os' × ((env o' (envs os')).imports ≡ (env o (envs os)).imports) × ((env o' (envs os')).exports ≡ (env o (envs os)).exports)

-- Adding an item is such a change.
abbrev pub ByItem : Type 0
ByItem = (c : Collection) (m : Bindings) (ms : List Bindings) (o o' : Open) (os : Stack) (side : Side) (n : Name) (t : Tree) → Lists c m ms o o' os side n t → Inside c m ms o os o' os

abbrev pub ByBoth : Type 0
ByBoth = (c : Collection) (m : Bindings) (ms : List Bindings) (o p q : Open) (os ps qs : Stack) → Inside c m ms o os p ps → Inside c m ms p ps q qs → Inside c m ms o os q qs

-- After such a change, a written value type still has the tree of the same type.
abbrev pub KeepsIs : Type 0
KeepsIs = (c : Collection) (m : Bindings) (ms : List Bindings) (o o' : Open) (os os' : Stack) (a : AnyType) (x : ComponentValType) → Inside c m ms o os o' os' → Is c m (env o (envs os)) a x → Is c m (env o' (envs os')) a x

-- The stack after a change of the scope k scopes out.
abbrev pub changed_at : ℕ → (Open → Open) → Stack → Stack
changed_at k f [] = []
changed_at zero f (o ∷ os) = f o ∷ os
changed_at (suc k) f (o ∷ os) = o ∷ changed_at k f os

abbrev pub next_type_at : ℕ → Stack → ℕ
next_type_at k [] = 0
next_type_at zero (o ∷ os) = next_type o
next_type_at (suc k) (o ∷ os) = next_type_at k os

abbrev pub aliased_there : ResourceId → ℕ → Name → Open → Open
aliased_there r j n o = bind_at r (at_type (next_type o)) (with_alias_of (export_alias s.Type j n) o)

-- A resource that is recorded k scopes out as an instance's export may be aliased there, and recorded at the alias.
abbrev pub SettlesThere : Type 0
SettlesThere = (c : Collection) (ms : List Bindings) (st : Stack) (r : ResourceId) (k j : ℕ) (n : Name)
    → Good c ms st → IsReached st r k (at_export j n)
    → Onward c ms st (changed_at k (aliased_there r j n) st) × IsReached (changed_at k (aliased_there r j n) st) r k (at_type (next_type_at k st))

abbrev pub brought : ResourceId → ℕ → ℕ → Open → Open
brought r k i o = bind_at r (at_type (next_type o)) (with_alias_of (outer_alias s.Type (suc k) i) o)

-- A resource that is recorded at a type index has an index here: that one, or that of an outer alias. The index refers
-- to the leaf to which the resource is bound.
abbrev pub HasIndexHere : Type 0
HasIndexHere = (c : Collection) (m : Bindings) (ms : List Bindings) (o : Open) (os : Stack) (r : ResourceId) (i : ℕ)
    → Good c (m ∷ ms) (o ∷ os) → o.binds r ≡ Some (at_type i)
    → (l : Leaf) × (m r ≡ Some l) × At ((env o (envs os)).types) i (resource l)

abbrev pub HasIndexAround : Type 0
HasIndexAround = (c : Collection) (m : Bindings) (ms : List Bindings) (o : Open) (os : Stack) (r : ResourceId) (k i : ℕ)
    → Good c (m ∷ ms) (o ∷ os) → IsReached (o ∷ os) r (suc k) (at_type i)
    → (l : Leaf) × (m r ≡ Some l) × Adds c (m ∷ ms) (o ∷ os) (brought r k i o ∷ os) (next_type o) (resource l)

-- A root without items is good, and binds no resource.
abbrev pub StartsRoot : Type 0
StartsRoot = (c : Collection) (passes : Bool) → Good c (nothing_bound ∷ []) (holding [] (opening passes) ∷ [])

-- Items may be appended to the root if all items then have a meaning.
abbrev pub RootGoesOn : Type 0
RootGoesOn = (c : Collection) (m : Bindings) (items more : List Item) (o : Open) → Good c (m ∷ []) (holding items o ∷ []) → HasMeaning (items ++ more) → Onward c (m ∷ []) (holding items o ∷ []) (holding (items ++ more) o ∷ [])
