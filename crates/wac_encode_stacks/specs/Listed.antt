-- Imports and exports of an open type, compared with the items of an interface or a world of the collection.
use Rattle.std.specs.Prelude.{ℕ, ◌≡◌, ◌==◌, Bool, true, false, if◌then◌else◌, List, [], ◌∷◌, ◌++◌, Option, Some, None}
use Rattle.wac_types_shapes.specs.primitives.Name.{Name, same_name, find_name, option_case}
use Rattle.wac_types_shapes.specs.declared.shapes.component.ResourceId.{ResourceId}
use Rattle.wac_types_shapes.specs.declared.shapes.component.InterfaceId.{InterfaceId}
use Rattle.wac_types_shapes.specs.declared.shapes.component.WorldId.{WorldId}
use Rattle.wac_types_shapes.specs.declared.shapes.component.DefinedTypeId.{DefinedTypeId}
use Rattle.wac_types_shapes.specs.declared.shapes.component.Interface.{Interface}
use Rattle.wac_types_shapes.specs.declared.shapes.component.UsedType.{UsedType}
use Rattle.wac_types_shapes.specs.declared.shapes.component.World.{World}
use Rattle.wac_types_shapes.specs.declared.shapes.component.«Type».{«Type» as AnyType}
use Rattle.wac_types_shapes.specs.declared.shapes.component.«Type».TheVariants as ty
use Rattle.wac_types_shapes.specs.declared.shapes.component.ItemKind.{ItemKind}
use Rattle.wac_types_shapes.specs.declared.shapes.component.ItemKind.TheVariants as kind
use Rattle.wac_types_shapes.specs.primitives.Tree.{Side, imported, exported, named, Leaf, Tree, absent, resource, instance, component, fresh, type_equal, function_item, instance_item, component_item, module_item, value_item}
use Rattle.wac_types_collection.specs.collection.Collection.{Collection, IsWellFormed, item_at}
use Rattle.wac_types_collection.specs.collection.Held.{resolved}
use Rattle.wac_types_collection.specs.collection.Bound.{Bindings, lists_own, own_name, inside_interface, bound_by_imports, bound_in_world, binds_here}
use Rattle.wac_binary.specs.declared.sorts.Description.{Description}
use Rattle.wac_binary.specs.declared.sorts.Description.TheVariants as e
use Rattle.wac_binary.specs.Items.{Decl, decls, import_decl, export_decl, instance_def, component_def}
use Rattle.wac_binary.specs.Unfold.{Scope, with_item}
use Rattle.wac_binary.specs.HasMeaning.{IsType, IsFunction, IsInstance, IsComponent, IsModule, IsFree, ImportNothing}
use Rattle.wac_encode_stacks.specs.Scopes.{declarations, Where, at_type, Open, Stack, env, envs, next_type, next_instance, with_def, bind_at, opening}
use Rattle.wac_encode_stacks.specs.Good.{At, Keeps, Stands, Extends, IsHeld, seen_inside, nothing_bound, Good, top, Onward}
use Rattle.wac_encode_stacks.specs.private.Laws.{Adds}

-- The tree of an item under a name. A type item is fresh if it binds a resource here, or else equals the type's tree.
abbrev pub IsItem : Collection → Bindings → Side → Name → ItemKind → Tree → Type 0
IsItem c m side n (kind.TypeItem a) fresh = binds_here c m side (named n ∷ []) (kind.TypeItem a) ≡ true
IsItem c m side n (kind.TypeItem a) (type_equal t) = (binds_here c m side (named n ∷ []) (kind.TypeItem a) ≡ false) × IsHeld c m a t
IsItem c m side n (kind.Func f) (function_item t) = IsHeld c m (ty.Func f) t
IsItem c m side n (kind.Instance i) (instance_item t) = IsHeld c m (ty.Interface i) t
IsItem c m side n (kind.Component w) (component_item t) = IsHeld c m (ty.World w) t
IsItem c m side n (kind.Module k) (module_item t) = IsHeld c m (ty.Module k) t
IsItem c m side n (kind.Value v) (value_item t) = IsHeld c m (ty.Value v) t
IsItem c m side n _ _ = ⊥

abbrev pub IsUnder : Collection → Bindings → Side → Name → Option ItemKind → Tree → Type 0
IsUnder c m side n None t = t ≡ absent
IsUnder c m side n (Some k) t = IsItem c m side n k t

-- The items by name are exactly those of the list.
abbrev pub AreListed : Collection → Bindings → Side → List (Name × ItemKind) → (Name → Tree) → Type 0
AreListed c m side es items = (n : Name) → IsUnder c m side n (find_name es n) (items n)

abbrev pub side_decl : Side → Name → Description → Decl
side_decl imported n d = import_decl n d
side_decl exported n d = export_decl n d

abbrev pub on_side : Side → Scope → Name → Tree
on_side imported e = e.imports
on_side exported e = e.exports

abbrev pub other : Side → Side
other imported = exported
other exported = imported

-- An open type with these declarations.
abbrev pub declaring : List Decl → Open → Open
declaring ds o = record o { content = declarations ds }

-- A step from o to o', with the enclosing scopes os, that adds an item to one side. The stack is good after it, and
-- earlier indexes keep their meaning.
pub record Lists (c : Collection) (m : Bindings) (ms : List Bindings) (o o' : Open) (os : Stack) (side : Side) (n : Name) (t : Tree) : Type 0 where
  pub good : Good c (m ∷ ms) (o' ∷ os)
  pub keeps : Keeps (env o (envs os)) (env o' (envs os))
  pub this : on_side side (env o' (envs os)) ≡ with_item (on_side side (env o (envs os))) n t
  pub that : on_side (other side) (env o' (envs os)) ≡ on_side (other side) (env o (envs os))

-- No item on this side has the name.
abbrev pub IsNewName : Open → Stack → Side → Name → Type 0
IsNewName o os side n = IsFree (on_side side (env o (envs os)) n)

-- A type item that equals a type in scope may be added; its new type index refers to that type.
abbrev pub ListsEqual : Type 0
ListsEqual = (c : Collection) (m : Bindings) (ms : List Bindings) (ds : List Decl) (o : Open) (os : Stack) (side : Side) (n : Name) (i : ℕ) (t : Tree)
    → Good c (m ∷ ms) (declaring ds o ∷ os) → IsNewName (declaring ds o) os side n → IsType t → At ((env (declaring ds o) (envs os)).types) i t
    → Lists c m ms (declaring ds o) (declaring (ds ++ side_decl side n (e.Equal i) ∷ []) o) os side n (type_equal t)
    × At ((env (declaring (ds ++ side_decl side n (e.Equal i) ∷ []) o) (envs os)).types) (next_type (declaring ds o)) t

-- The bindings m, except that r is bound to l.
abbrev pub calling : ResourceId → Leaf → Bindings → Bindings
calling r l m q = if q.0 == r.0 then Some l else m q

abbrev pub listed_leaf : Side → Name → Leaf
listed_leaf side n = record { out = 0; side = side; path = named n ∷ [] }

-- A fresh resource that is not bound yet may be added, if it is recorded at its type index.
abbrev pub ListsFresh : Type 0
ListsFresh = (c : Collection) (m : Bindings) (ms : List Bindings) (ds : List Decl) (o : Open) (os : Stack) (side : Side) (n : Name) (r : ResourceId)
    → Good c (m ∷ ms) (declaring ds o ∷ os) → IsNewName (declaring ds o) os side n → m r ≡ None
    → Lists c (calling r (listed_leaf side n) m) ms (declaring ds o) (bind_at r (at_type (next_type (declaring ds o))) (declaring (ds ++ side_decl side n e.Fresh ∷ []) o)) os side n fresh

-- The scope records no type.
pub record RecordsNoType (o : Open) : Type 0 where
  pub types : (a : AnyType) → o.types a ≡ None
  pub exports : (d : DefinedTypeId) → o.exports d ≡ None

-- An own resource may be exported fresh from a scope that records no type yet. If the scope does not pass, the resource
-- may be bound outside.
abbrev pub ListsOwn : Type 0
ListsOwn = (c : Collection) (m : Bindings) (ms : List Bindings) (ds : List Decl) (o : Open) (os : Stack) (n : Name) (r : ResourceId)
    → Good c (m ∷ ms) (declaring ds o ∷ os) → IsNewName (declaring ds o) os exported n → RecordsNoType o → (o.passes ≡ true → top ms r ≡ None)
    → Lists c (calling r (listed_leaf exported n) m) ms (declaring ds o) (bind_at r (at_type (next_type (declaring ds o))) (declaring (ds ++ export_decl n e.Fresh ∷ []) o)) os exported n fresh

-- A function whose type is in scope may be added.
abbrev pub ListsFunc : Type 0
ListsFunc = (c : Collection) (m : Bindings) (ms : List Bindings) (ds : List Decl) (o : Open) (os : Stack) (side : Side) (n : Name) (i : ℕ) (t : Tree)
    → Good c (m ∷ ms) (declaring ds o ∷ os) → IsNewName (declaring ds o) os side n → IsFunction t → At ((env (declaring ds o) (envs os)).types) i t
    → Lists c m ms (declaring ds o) (declaring (ds ++ side_decl side n (e.Func i) ∷ []) o) os side n (function_item t)

-- A component whose type is in scope may be added.
abbrev pub ListsComponent : Type 0
ListsComponent = (c : Collection) (m : Bindings) (ms : List Bindings) (ds : List Decl) (o : Open) (os : Stack) (side : Side) (n : Name) (i : ℕ) (t : Tree)
    → Good c (m ∷ ms) (declaring ds o ∷ os) → IsNewName (declaring ds o) os side n → IsComponent t → At ((env (declaring ds o) (envs os)).types) i t
    → Lists c m ms (declaring ds o) (declaring (ds ++ side_decl side n (e.Component i) ∷ []) o) os side n (component_item t)

-- A core module whose type is in scope may be added.
abbrev pub ListsModule : Type 0
ListsModule = (c : Collection) (m : Bindings) (ms : List Bindings) (ds : List Decl) (o : Open) (os : Stack) (side : Side) (n : Name) (i : ℕ) (t : Tree)
    → Good c (m ∷ ms) (declaring ds o ∷ os) → IsNewName (declaring ds o) os side n → IsModule t → At ((env (declaring ds o) (envs os)).core_types) i t
    → Lists c m ms (declaring ds o) (declaring (ds ++ side_decl side n (e.CoreModule i) ∷ []) o) os side n (module_item t)

-- An instance whose type is in scope may be added; its new instance index refers to that item.
abbrev pub ListsInstance : Type 0
ListsInstance = (c : Collection) (m : Bindings) (ms : List Bindings) (ds : List Decl) (o : Open) (os : Stack) (side : Side) (n : Name) (i : ℕ) (t : Tree)
    → Good c (m ∷ ms) (declaring ds o ∷ os) → IsNewName (declaring ds o) os side n → IsInstance t → At ((env (declaring ds o) (envs os)).types) i t
    → Lists c m ms (declaring ds o) (declaring (ds ++ side_decl side n (e.Instance i) ∷ []) o) os side n (instance_item t)
    × At ((env (declaring (ds ++ side_decl side n (e.Instance i) ∷ []) o) (envs os)).instances) (next_instance (declaring ds o)) (record { type = t; side = side; path = named n ∷ [] })

-- A list with an item appended, under a new name, has that item besides those of the list.
abbrev pub ListsOneMore : Type 0
ListsOneMore = (c : Collection) (m : Bindings) (side : Side) (es : List (Name × ItemKind)) (items : Name → Tree) (n : Name) (k : ItemKind) (t : Tree)
    → AreListed c m side es items → find_name es n ≡ None → IsItem c m side n k t → AreListed c m side (es ++ (n, k) ∷ []) (with_item items n t)

-- The order of a list of items does not matter.
abbrev pub ListsInAnyOrder : Type 0
ListsInAnyOrder = (c : Collection) (m : Bindings) (side : Side) (es fs : List (Name × ItemKind)) (items : Name → Tree)
    → AreListed c m side es items → ((n : Name) → find_name fs n ≡ find_name es n) → AreListed c m side fs items

-- Bindings that extend m give the same items.
abbrev pub ListedUnderMore : Type 0
ListedUnderMore = (c : Collection) (m m' : Bindings) (side : Side) (es : List (Name × ItemKind)) (items : Name → Tree)
    → Extends m m' → AreListed c m side es items → AreListed c m' side es items

-- The bindings inside an interface of which these items are written: its own resources by name, and others as outside.
abbrev pub called_inside : Collection → List (Name × UsedType) → List (Name × ItemKind) → Bindings → Bindings
called_inside c uses es m r = option_case (own_name c uses es r) (seen_inside (m r)) (λ n. Some (listed_leaf exported n))

-- An open type without declarations is good inside a good stack, and has no exports.
abbrev pub OpensInterface : Type 0
OpensInterface = (c : Collection) (ms : List Bindings) (st : Stack) (it : Interface) (passes : Bool)
    → Good c ms st → Good c (called_inside c it.uses [] (top ms) ∷ ms) (opening passes ∷ st)
    × ((n : Name) → (env (opening passes) (envs st)).exports n ≡ absent)

-- An item that exports an own resource of the interface binds it to its name.
abbrev pub CallsOneMore : Type 0
CallsOneMore = (c : Collection) (uses : List (Name × UsedType)) (es : List (Name × ItemKind)) (n : Name) (r : ResourceId) (m : Bindings)
    → own_name c uses es r ≡ None → lists_own c uses r (n, kind.TypeItem (ty.Resource r)) ≡ true
    → called_inside c uses (es ++ (n, kind.TypeItem (ty.Resource r)) ∷ []) m ≡ calling r (listed_leaf exported n) (called_inside c uses es m)

-- An item that exports no own resource leaves the bindings as they are.
abbrev pub CallsNoMore : Type 0
CallsNoMore = (c : Collection) (uses : List (Name × UsedType)) (es : List (Name × ItemKind)) (e : Name × ItemKind) (m : Bindings)
    → ((r : ResourceId) → own_name c uses es r ≡ None → lists_own c uses r e ≡ false)
    → called_inside c uses (es ++ e ∷ []) m ≡ called_inside c uses es m

-- After all items, the bindings are those inside the interface.
abbrev pub CallsAll : Type 0
CallsAll = (c : Collection) (it : Interface) (m : Bindings) → called_inside c it.uses it.exports m ≡ inside_interface c it m

-- A closed instance type is added to the enclosing scope; its exports are those of the closed scope.
abbrev pub ClosesInstance : Type 0
ClosesInstance = (c : Collection) (inner m : Bindings) (ms : List Bindings) (ds : List Decl) (i o : Open) (os : Stack)
    → Good c (inner ∷ m ∷ ms) (declaring ds i ∷ o ∷ os) → ImportNothing (decls ds)
    → Adds c (m ∷ ms) (o ∷ os) (with_def (instance_def (decls ds)) o ∷ os) (next_type o) (instance ((env (declaring ds i) (env o (envs os) ∷ envs os)).exports))

-- An instance type with the items of an interface has the tree of that interface.
abbrev pub HoldsInterface : Type 0
HoldsInterface = (c : Collection) → IsWellFormed c → (m : Bindings) (i : InterfaceId) (it : Interface) (items : Name → Tree)
    → item_at c.interfaces i.0 ≡ Some it → AreListed c (inside_interface c it m) exported it.exports items → IsHeld c m (ty.Interface i) (instance items)

-- An open component type without declarations is good with no enclosing scope. It binds no resource and has no items.
abbrev pub OpensWorld : Type 0
OpensWorld = (c : Collection) (passes : Bool) → Good c (nothing_bound ∷ []) (opening passes ∷ [])
    × ((n : Name) → (env (opening passes) []).imports n ≡ absent) × ((n : Name) → (env (opening passes) []).exports n ≡ absent)

-- A bottom scope may bind one more resource, at a place in it whose tree is that resource.
abbrev pub BindsMore : Type 0
BindsMore = (c : Collection) (m : Bindings) (o : Open) (r : ResourceId) (l : Leaf) (w : Where)
    → Good c (m ∷ []) (o ∷ []) → m r ≡ None → Stands (env o []) (resource l) w
    → Onward c (calling r l m ∷ []) (o ∷ []) (bind_at r w o ∷ [])

-- A closed component type may be added to any scope, with the imports and exports of the closed scope.
abbrev pub ClosesComponent : Type 0
ClosesComponent = (c : Collection) (inner m : Bindings) (ms : List Bindings) (ds : List Decl) (i o : Open) (os : Stack)
    → Good c (inner ∷ []) (declaring ds i ∷ []) → Good c (m ∷ ms) (o ∷ os)
    → Adds c (m ∷ ms) (o ∷ os) (with_def (component_def (decls ds)) o ∷ os) (next_type o) (component ((env (declaring ds i) []).imports) ((env (declaring ds i) []).exports))

-- A component type with the items of a world has the tree of that world, under any bindings.
abbrev pub HoldsWorld : Type 0
HoldsWorld = (c : Collection) → IsWellFormed c → (m : Bindings) (i : WorldId) (w : World) (imports exports : Name → Tree)
    → item_at c.worlds i.0 ≡ Some w → AreListed c (bound_by_imports c w) imported w.imports imports → AreListed c (bound_in_world c w) exported w.exports exports
    → IsHeld c m (ty.World i) (component imports exports)

-- An export of a resource is fresh if and only if it is the own resource of the interface under that name.
abbrev pub FreshInInterface : Type 0
FreshInInterface = (c : Collection) (it : Interface) (m : Bindings) (n : Name) (r : ResourceId)
    → binds_here c (inside_interface c it m) exported (named n ∷ []) (kind.TypeItem (ty.Resource r)) ≡ option_case (own_name c it.uses it.exports (resolved c r)) false (λ q. same_name q n)

-- An own resource of an interface is no alias, and is bound inside the interface to its name.
abbrev pub CallsOwn : Type 0
CallsOwn = (c : Collection) (it : Interface) (m : Bindings) (r : ResourceId) (n : Name) → own_name c it.uses it.exports r ≡ Some n
    → (resolved c r ≡ r) × (inside_interface c it m r ≡ Some (record { out = 0; side = exported; path = named n ∷ [] }))
