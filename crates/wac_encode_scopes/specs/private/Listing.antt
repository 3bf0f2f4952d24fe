-- Instance types that are opened and closed in the scopes of the code, and the items that are added to open types.
use Rattle.std.specs.Prelude.{ℕ, ◌≡◌, Bool, true, not, List, [], ◌∷◌, ◌++◌, Some, None}
use Rattle.wac_types_shapes.specs.primitives.Name.{Name}
use Rattle.wac_types_shapes.specs.primitives.Tree.{Side, Tree, type_equal, function_item, instance_item, component_item, module_item, instance, exported, named, Leaf, resource, fresh}
use Rattle.wac_types_collection.specs.collection.Collection.{Collection}
use Rattle.wac_types_collection.specs.collection.Bound.{Bindings}
use Rattle.wac_binary.specs.declared.sorts.Description.{Description}
use Rattle.wac_binary.specs.declared.sorts.Description.TheVariants as e
use Rattle.wac_binary.specs.Unfold.{Scope as Env}
use Rattle.wac_binary.specs.HasMeaning.{IsType, IsFunction, IsInstance, IsComponent, IsModule}
use Rattle.wac_encode_scopes.specs.declared.encodable.Encodable.TheVariants.{Instance}
use Rattle.wac_encode_scopes.specs.declared.scope.Scope.{Scope}
use Rattle.wac_encode_scopes.specs.declared.state.State.{State}
use Rattle.wac_encode_scopes.specs.Books.{opened}
use Rattle.wac_encode_scopes.specs.Contents.{content_of, and_type, declarations_of}
use Rattle.wac_binary.specs.Items.{decls, instance_def}
use Rattle.wac_encode_scopes.specs.States.{outward, stack}
use Rattle.wac_encode_stacks.specs.Scopes.{opening, at_type, at_export, export_at, bind_at}
use Rattle.wac_encode_stacks.specs.private.Beside.{written_as}
use Rattle.wac_encode_stacks.specs.Good.{At, Good, innermost, Stands, Onward, top}
use Rattle.wac_encode_stacks.specs.private.Laws.{Adds}
use Rattle.wac_encode_stacks.specs.Listed.{IsNewName, Lists, calling, listed_leaf, RecordsNoType}
use Rattle.wac_types_shapes.specs.declared.shapes.component.ResourceId.{ResourceId}
use Rattle.wac_types_shapes.specs.declared.shapes.component.DefinedTypeId.{DefinedTypeId}

-- The description refers by an index in scope to an item with this tree.
abbrev pub Describes : Env → Description → Tree → Type 0
Describes w (e.Equal i) (type_equal t) = IsType t × At w.types i t
Describes w (e.Func i) (function_item t) = IsFunction t × At w.types i t
Describes w (e.Instance i) (instance_item t) = IsInstance t × At w.types i t
Describes w (e.Component i) (component_item t) = IsComponent t × At w.types i t
Describes w (e.CoreModule i) (module_item t) = IsModule t × At w.core_types i t
Describes w _ _ = ⊥

-- The index of an added type item refers to its type, and that of an added instance to the instance.
abbrev pub RefersTo : Env → Side → Name → Description → ℕ → Tree → Type 0
RefersTo w side n (e.Equal i) k (type_equal t) = At w.types k t
RefersTo w side n (e.Instance i) k (instance_item t) = At w.instances k (record { type = t; side = side; path = named n ∷ [] })
RefersTo w side n d k t = Unit {0}

-- An item is added to one side of the innermost scope, under a name that is new there, and has the index k.
abbrev pub ListsItem : Side → Name → Description → State → State → ℕ → Type 0
ListsItem side n d old new k = (c : Collection) (b : Bool) (m : Bindings) (ms : List Bindings) (t : Tree)
    → Good c (m ∷ ms) (stack b old) → IsNewName (opened b old.here) (outward b old.around.items) side n → Describes (innermost (stack b old)) d t
    → Lists c m ms (opened b old.here) (opened b new.here) (outward b old.around.items) side n t × RefersTo (innermost (stack b new)) side n d k t

-- An instance type without records is opened. For the other collection it passes.
pub record Opens (b passes : Bool) (old new : State) : Type 0 where
  pub content : new.here.content ≡ Instance []
  pub around : new.around.items ≡ old.around.items ++ old.here ∷ []
  pub opened : stack b new ≡ opening passes ∷ stack b old
  pub beside : stack (not b) new ≡ opening true ∷ stack (not b) old

-- The innermost scope is closed; the index k of the enclosing scope then refers to its instance type.
abbrev pub Closes : State → State → ℕ → Type 0
Closes old new k = (c : Collection) (b : Bool) (inner m : Bindings) (ms : List Bindings) → Good c (inner ∷ m ∷ ms) (stack b old)
    → Adds c (m ∷ ms) (outward b old.around.items) (stack b new) k (instance ((innermost (stack b old)).exports))

-- The innermost scope, an instance type, is added to the enclosing scope. All records of the enclosing scopes are
-- unchanged.
abbrev pub ClosesInto : State → State → Type 0
ClosesInto old new = (outer : Scope) × (old.around.items ≡ new.around.items ++ outer ∷ [])
    × (new.here ≡ record outer { content = and_type (instance_def (decls (declarations_of old.here.content))) outer.content })

-- The scopes are unchanged.
abbrev pub IsSame : State → State → Type 0
IsSame old new = (new.here ≡ old.here) × (new.around.items ≡ old.around.items)

abbrev pub IsNonempty : List Scope → Type 0
IsNonempty [] = ⊥
IsNonempty (s ∷ ss) = Unit {0}

-- A fresh resource is added under a name that is new, and recorded at its type index.
pub record ListsResource (b : Bool) (side : Side) (n : Name) (r : ResourceId) (old new : State) (i : ℕ) : Type 0 where
  pub around : new.around ≡ old.around
  pub index : (opened b new.here).binds r ≡ Some (at_type i)
  -- Nothing else is recorded.
  pub recorded : opened b new.here ≡ bind_at r (at_type i) (record (opened b old.here) { content = content_of new.here.content })
  pub other : opened (not b) new.here ≡ written_as (opened b new.here) (opened (not b) old.here)
  -- Either the resource was not bound before.
  pub unbound : (c : Collection) (m : Bindings) (ms : List Bindings) → Good c (m ∷ ms) (stack b old) → IsNewName (opened b old.here) (outward b old.around.items) side n → m r ≡ None
      → Lists c (calling r (listed_leaf side n) m) ms (opened b old.here) (opened b new.here) (outward b old.around.items) side n fresh
  -- Or it is an export of an open type that records no type yet. It may be bound outside if that type does not pass.
  pub own : side ≡ exported → (c : Collection) (m : Bindings) (ms : List Bindings) → Good c (m ∷ ms) (stack b old) → IsNewName (opened b old.here) (outward b old.around.items) exported n
      → RecordsNoType (opened b old.here) → ((opened b old.here).passes ≡ true → top ms r ≡ None)
      → Lists c (calling r (listed_leaf exported n) m) ms (opened b old.here) (opened b new.here) (outward b old.around.items) exported n fresh

-- The bottom scope binds a resource that one of its instances exports.
abbrev pub BindsExport : Bool → ResourceId → ℕ → Name → State → State → Type 0
BindsExport b r j n old new = (c : Collection) (m : Bindings) (l : Leaf) → old.around.items ≡ [] → Good c (m ∷ []) (stack b old) → m r ≡ None → Stands (innermost (stack b old)) (resource l) (at_export j n)
    → Onward c (calling r l m ∷ []) (stack b old) (stack b new)

-- The bottom scope binds a resource that a type index refers to.
abbrev pub BindsType : Bool → ResourceId → ℕ → State → State → Type 0
BindsType b r i old new = (c : Collection) (m : Bindings) (l : Leaf) → old.around.items ≡ [] → Good c (m ∷ []) (stack b old) → m r ≡ None → At ((innermost (stack b old)).types) i (resource l)
    → Onward c (calling r l m ∷ []) (stack b old) (stack b new)

-- The value type may be recorded in the innermost scope as this export of an instance.
abbrev pub MayTell : Collection → Bool → DefinedTypeId → ℕ → Name → State → Type 0
MayTell c b d j n s = (m : Bindings) (ms : List Bindings) → Good c (m ∷ ms) (stack b s) → Onward c (m ∷ ms) (stack b s) (export_at d (at_export j n) (opened b s.here) ∷ outward b s.around.items)
