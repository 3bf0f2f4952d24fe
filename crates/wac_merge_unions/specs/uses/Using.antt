-- Imports without uses, and the same imports with their uses. Only contracts inside the merge cite this file.
use Rattle.std.specs.Prelude.{ℕ, zero, suc, ◌+◌, ◌<◌, ◌≤◌, ◌≡◌, ◌&&◌, Bool, true, false, not, is_some, if◌then◌else◌, List, [], ◌∷◌, ◌++◌, fold, length, take, Option, Some, None, Vec, slice_get, ◌⊎◌}
use Rattle.std.specs.Global.{Global}
use Rattle.std.specs.List.{AllByRecursion, AllZip, list_any}
use Rattle.wac_types_shapes.specs.primitives.Name.{Name, find_name, option_case}
use Rattle.wac_types_shapes.specs.shapes.Named.{NoNameTwice}
use Rattle.wac_types_shapes.specs.declared.shapes.component.Interface.{Interface}
use Rattle.wac_types_shapes.specs.declared.shapes.component.InterfaceId.{InterfaceId}
use Rattle.wac_types_shapes.specs.declared.shapes.component.ResourceId.{ResourceId}
use Rattle.wac_types_shapes.specs.declared.shapes.component.UsedType.{UsedType}
use Rattle.wac_types_shapes.specs.declared.shapes.component.ItemKind.{ItemKind}
use Rattle.wac_types_shapes.specs.declared.shapes.component.ItemKind.TheVariants as kind
use Rattle.wac_types_collection.specs.collection.Collection.{Collection, HasInterface, interface_exports, item_at}
use Rattle.wac_types_collection.specs.collection.Bound.{own_name}
use Rattle.wac_types_collection.specs.collection.Uses.{interface_fault, is_listed_as_used, is_there, is_used_by_id}
use Rattle.wac_merge_classes.specs.entries.Classes.{AreClasses, Entry, NameRules, by_names, class_names, is_instance, members}
use Rattle.wac_merge_classes.specs.entries.Opening.{count_in, total}
use Rattle.wac_merge_classes.specs.entries.Scopes.{opened}
use Rattle.wac_merge_classes.specs.declared.entries.scopes.Opener.TheVariants as opener
use Rattle.wac_merge_classes.specs.terms.Merge.{import_entries}
use Rattle.wac_merge_unions.specs.uses.KeptUses.{imported_interface, instances, lists_resource, of_interface, uses_of, with_instance}
use Rattle.wac_merge_unions.specs.uses.United.{instances_of, listed_by}
use Rattle.wac_merge_unions.specs.declared.uses.uses.Asked.{Asked}
use Rattle.wac_merge_unions.specs.declared.uses.uses.Place.{Place}

-- The classes are those of the entries.
abbrev pub HasClasses : Asked → Type 0
HasClasses a = AreClasses by_names a.entries.now a.classes.now.numbers.items a.classes.now.positions.items a.classes.now.names

-- Each of these interfaces is of the collection.
abbrev pub AreInterfaces : Collection → List InterfaceId → Type 0
AreInterfaces c is = (j : ℕ) (i : InterfaceId) → slice_get is j ≡ Some i → HasInterface c i

-- An interface with these exports may use a type under a name: no own resource has it, and the type is there and fits.
abbrev pub may_use : Collection → List (Name × ItemKind) → Name × UsedType → Bool
may_use m listed e = not (lists_resource m listed e.0) && (is_used_by_id m e.1 && (is_there m e && is_listed_as_used m listed e))

-- A use redirected to the import to which the used interface was merged; `None` if it is left out.
abbrev pub kept_use : NameRules → Collection → List Entry → Collection → List Entry → List (Name × ItemKind) → Name × UsedType → Option UsedType
kept_use rules c es m imports listed e = option_case (imported_interface rules c es imports e.1.interface) None (λ i.
    if may_use m listed (e.0, of_interface i e.1) then Some (of_interface i e.1) else None)

-- These uses and one more, if there is one and its name is not used yet.
abbrev pub with_use : List (Name × UsedType) → Name → Option UsedType → List (Name × UsedType)
with_use us n None = us
with_use us n (Some u) = if is_some (find_name us n) then us else us ++ (n, u) ∷ []

-- The uses of these that are kept, each name once, in order of first appearance.
abbrev pub kept_uses : NameRules → Collection → List Entry → Collection → List Entry → List (Name × ItemKind) → List (Name × UsedType) → List (Name × UsedType)
kept_uses rules c es m imports listed us = fold (λ kept e. with_use kept e.0 (kept_use rules c es m imports listed e)) [] us

-- A use redirected for the interface at a place.
abbrev pub use_in : Asked → Place → Name × UsedType → Option UsedType
use_in a p e = kept_use by_names a.types.now a.entries.now p.merged.now (import_entries p.imports.now) p.listed.now e

-- These uses and those of others that are kept.
abbrev pub keep_from : Asked → Place → List (Name × UsedType) → List (Name × UsedType) → List (Name × UsedType)
keep_from a p kept us = fold (λ kept e. with_use kept e.0 (use_in a p e)) kept us

-- An interface may have these uses with these exports: they are well-formed, and its own resources stay its own.
pub record MayHave (m : Collection) (i : InterfaceId) (exports : List (Name × ItemKind)) (uses : List (Name × UsedType)) : Type 0 where
  pub right : (it : Interface) → item_at m.interfaces i.0 ≡ Some it → interface_fault m (record { id = it.id; uses = uses; exports = exports }) ≡ None
  pub own : (it : Interface) (r : ResourceId) → item_at m.interfaces i.0 ≡ Some it → own_name m uses exports r ≡ own_name m it.uses it.exports r

-- Each class has the interfaces of its entries that are instances.
pub record AreUsers (es : List Entry) (users : List (List InterfaceId)) : Type 0 where
  pub counted : length users ≡ length (class_names by_names es)
  pub each : (k : ℕ) (class : Name) (is : List InterfaceId) → slice_get (class_names by_names es) k ≡ Some class → slice_get users k ≡ Some is → is ≡ instances (members by_names es class)

-- An interface is one of these.
abbrev pub IsAmong : List InterfaceId → InterfaceId → Type 0
IsAmong ws w = (v : ℕ) × (slice_get ws v ≡ Some w)

-- These interfaces have no uses, and the interfaces of the instances that they export are among them.
pub record AreBare (m : Collection) (ws : List InterfaceId) : Type 0 where
  pub held : (w : InterfaceId) → IsAmong ws w → HasInterface m w
  pub unused : (w : InterfaceId) (it : Interface) → IsAmong ws w → item_at m.interfaces w.0 ≡ Some it → it.uses ≡ []
  pub inner : (w i : InterfaceId) (it : Interface) (n : Name) → IsAmong ws w → item_at m.interfaces w.0 ≡ Some it → find_name it.exports n ≡ Some (kind.Instance i) → IsAmong ws i

-- The interface of an item that is an instance is one of these.
abbrev pub IsBareIn : List InterfaceId → ItemKind → Type 0
IsBareIn ws (kind.Instance i) = IsAmong ws i
IsBareIn ws k = Unit {0}

-- The interfaces of all imports have no uses, and neither have those inside them.
abbrev pub AreBareImports : Collection → List Entry → Type 0
AreBareImports m es = (ws : List InterfaceId) × AreBare m ws × ((p : ℕ) (e : Entry) → slice_get es p ≡ Some e → IsBareIn ws e.kind)

-- An interface is another one with these uses and exports, and its own resources stay its own.
pub record IsWithUses (m : Collection) (i w : InterfaceId) (exports : List (Name × ItemKind)) (uses : List (Name × UsedType)) : Type 0 where
  pub interface : Interface
  pub before : item_at m.interfaces i.0 ≡ Some interface
  pub there : item_at m.interfaces w.0 ≡ Some (record { id = interface.id; uses = uses; exports = exports })
  pub own : (r : ResourceId) → own_name m uses exports r ≡ own_name m interface.uses interface.exports r

-- An interface is another one with uses, and its own resources stay its own.
-- Each instance that it exports is one with uses in the same way. It unites the instances under its name.
pub data IsUsing (c m : Collection) (uses : List InterfaceId → List (Name × ItemKind) → List (Name × UsedType)) : InterfaceId → InterfaceId → List InterfaceId → Type 0 where
  with : (i w : InterfaceId) (is : List InterfaceId) (it : Interface) (exports : List (Name × ItemKind)) → item_at m.interfaces i.0 ≡ Some it
      → item_at m.interfaces w.0 ≡ Some (record { id = it.id; uses = uses is exports; exports = exports })
      → ((r : ResourceId) → own_name m (uses is exports) exports r ≡ own_name m it.uses it.exports r)
      → length exports ≡ length it.exports
      → ((j : ℕ) (a b : Name × ItemKind) → slice_get it.exports j ≡ Some a → slice_get exports j ≡ Some b → is_instance a.1 ≡ false → b ≡ a)
      → ((j : ℕ) (a b : Name × ItemKind) → slice_get it.exports j ≡ Some a → slice_get exports j ≡ Some b → is_instance a.1 ≡ true → (b.0 ≡ a.0) × (is_instance b.1 ≡ true))
      → ((j : ℕ) (n : Name) (k l : InterfaceId) → slice_get it.exports j ≡ Some (n, kind.Instance k) → slice_get exports j ≡ Some (n, kind.Instance l) → IsUsing c m uses k l (instances_of (listed_by c is n)))
      → IsUsing c m uses i w is

-- An instance got an interface with uses, and any other item is unchanged.
abbrev pub IsKindUsing : Collection → Collection → (List InterfaceId → List (Name × ItemKind) → List (Name × UsedType)) → List InterfaceId → ItemKind → ItemKind → Type 0
IsKindUsing c m uses is (kind.Instance i) (kind.Instance w) = IsUsing c m uses i w is
IsKindUsing c m uses is k l = l ≡ k

-- An instance is unchanged if the united interfaces have no uses and it exports no instance.
abbrev pub StaysBare : Collection → Collection → List InterfaceId → ItemKind → ItemKind → Type 0
StaysBare c m is (kind.Instance i) l = uses_of c is ≡ [] → ((it : Interface) → item_at m.interfaces i.0 ≡ Some it → list_any (λ e. is_instance e.1) it.exports ≡ false) → l ≡ kind.Instance i
StaysBare c m is k l = Unit {0}

-- The uses of these interfaces that are kept, among these imports.
abbrev pub uses_among : NameRules → Collection → List Entry → Collection → List Entry → List InterfaceId → List (Name × ItemKind) → List (Name × UsedType)
uses_among rules c es m imports is listed = kept_uses rules c es m imports listed (uses_of c is)

-- Each import has the uses of its class's entries, redirected to earlier imports, and so has each instance inside it.
pub record AreUsing (rules : NameRules) (c : Collection) (es : List Entry) (m : Collection) (bare imports : List Entry) : Type 0 where
  pub counted : length imports ≡ length bare
  pub names : (p : ℕ) (a b : Entry) → slice_get bare p ≡ Some a → slice_get imports p ≡ Some b → b.name ≡ a.name
  pub kinds : (p : ℕ) (a b : Entry) → slice_get bare p ≡ Some a → slice_get imports p ≡ Some b
      → IsKindUsing c m (uses_among rules c es m (take p imports)) (instances (members rules es a.name)) a.kind b.kind
  pub stay : (p : ℕ) (a b : Entry) → slice_get bare p ≡ Some a → slice_get imports p ≡ Some b → StaysBare c m (instances (members rules es a.name)) a.kind b.kind

-- ---- interfaces inside an import, before they have uses

-- Each list has one more interface: that of the instance under the name of the list among others.
pub record HaveMore (listed others : List (Name × ItemKind)) (old new : List (Vec InterfaceId Global)) : Type 0 where
  pub counted : length new ≡ length old
  pub each : (j : ℕ) (n : Name) (k : ItemKind) (a b : Vec InterfaceId Global) → slice_get listed j ≡ Some (n, k) → slice_get old j ≡ Some a → slice_get new j ≡ Some b → b.items ≡ a.items ++ option_case (find_name others n) [] (λ x. with_instance x [])

-- Each list has the interfaces of the instances that these interfaces export under its name.
pub record HaveListed (c : Collection) (is : List InterfaceId) (listed : List (Name × ItemKind)) (lists : List (Vec InterfaceId Global)) : Type 0 where
  pub counted : length lists ≡ length listed
  pub each : (j : ℕ) (n : Name) (k : ItemKind) (v : Vec InterfaceId Global) → slice_get listed j ≡ Some (n, k) → slice_get lists j ≡ Some v → v.items ≡ instances_of (listed_by c is n)

-- The interfaces inside one, which is the first, with the interfaces that each unites.
-- Those that were visited have the positions of the interfaces of the instances that they export.
pub record AreInside (c m : Collection) (root : InterfaceId) (made_of : List InterfaceId) (interfaces : List InterfaceId) (users : List (List InterfaceId)) (inner : List (List ℕ)) : Type 0 where
  pub ws : List InterfaceId
  pub are : AreBare m ws
  pub counted : length users ≡ length interfaces
  pub first : slice_get interfaces 0 ≡ Some root
  pub first_of : slice_get users 0 ≡ Some made_of
  pub bare : (q : ℕ) (i : InterfaceId) → slice_get interfaces q ≡ Some i → IsAmong ws i
  pub held : (q : ℕ) (is : List InterfaceId) → slice_get users q ≡ Some is → AreInterfaces c is
  pub opened : (q j : ℕ) (i k : InterfaceId) (is : List InterfaceId) (places : List ℕ) (n : Name) → slice_get interfaces q ≡ Some i → slice_get users q ≡ Some is → slice_get inner q ≡ Some places
      → slice_get (interface_exports m i) j ≡ Some (n, kind.Instance k)
      → (p : ℕ) × (slice_get places j ≡ Some p) × (q < p) × (slice_get interfaces p ≡ Some k) × (slice_get users p ≡ Some (instances_of (listed_by c is n)))

-- The measure of the loop: the scopes in the interfaces from a position on.
unfoldable pub left_inside : Collection → List InterfaceId → ℕ → ℕ
left_inside m [] n = 0
left_inside m (i ∷ is) zero = count_in m (opener.Interface i) + left_inside m is zero
left_inside m (i ∷ is) (suc n) = left_inside m is n

-- A list keeps its items and their positions.
abbrev pub Keeps : {A : Type 0} → List A → List A → Type 0
Keeps xs ys = (p : ℕ) (x : _) → slice_get xs p ≡ Some x → slice_get ys p ≡ Some x

-- An interface that unites these is at a position after q.
abbrev pub StandsBehind : ℕ → List InterfaceId → List (List InterfaceId) → InterfaceId → List InterfaceId → ℕ → Type 0
StandsBehind q interfaces users i of p = (q < p) × (slice_get interfaces p ≡ Some i) × (slice_get users p ≡ Some of)

-- Each known interface is at its position.
abbrev pub AreKnown : ℕ → List InterfaceId → List (List InterfaceId) → List ((InterfaceId × Vec InterfaceId Global) × ℕ) → Type 0
AreKnown q interfaces users known = AllByRecursion (λ e. StandsBehind q interfaces users e.0.0 e.0.1.items e.1) known

-- The interface of an instance is at the position, and was appended if it was not there.
abbrev pub IsItemPlaced : ℕ → List InterfaceId → List (List InterfaceId) → ItemKind → List InterfaceId → List InterfaceId → List (List InterfaceId) → ℕ → Type 0
IsItemPlaced q interfaces users (kind.Instance i) of interfaces_new users_new p = StandsBehind q interfaces_new users_new i of p × (((interfaces_new ≡ interfaces) × (users_new ≡ users)) ⊎ ((interfaces_new ≡ interfaces ++ i ∷ []) × (users_new ≡ users ++ of ∷ [])))
IsItemPlaced q interfaces users k of interfaces_new users_new p = (interfaces_new ≡ interfaces) × (users_new ≡ users)

-- The interfaces of the instances that an interface exports are at their positions. All that were appended are such.
pub record ArePlaced (c m : Collection) (q : ℕ) (interfaces : List InterfaceId) (users : List (List InterfaceId)) (made_of : List InterfaceId) (listed : List (Name × ItemKind)) (interfaces_new : List InterfaceId) (users_new : List (List InterfaceId)) (places : List ℕ) : Type 0 where
  pub kept : Keeps interfaces interfaces_new
  pub kept_users : Keeps users users_new
  pub counted : length users_new ≡ length interfaces_new
  pub each : length places ≡ length listed
  pub stand : (j : ℕ) (n : Name) (k : InterfaceId) → slice_get listed j ≡ Some (n, kind.Instance k) → (p : ℕ) × (slice_get places j ≡ Some p) × (q < p) × (slice_get interfaces_new p ≡ Some k) × (slice_get users_new p ≡ Some (instances_of (listed_by c made_of n)))
  pub others : (p : ℕ) (k : InterfaceId) → length interfaces ≤ p → slice_get interfaces_new p ≡ Some k → (j : ℕ) × (n : Name) × (slice_get listed j ≡ Some (n, kind.Instance k)) × (slice_get users_new p ≡ Some (instances_of (listed_by c made_of n)))
  pub lighter : left_inside m interfaces_new (length interfaces) ≤ total (count_in m) (opened listed)

-- The interfaces of the instances that the interface at a position exports were appended or found.
pub record IsOpened (c m : Collection) (q : ℕ) (interfaces : List InterfaceId) (users : List (List InterfaceId)) (inner : List (List ℕ)) (interfaces_new : List InterfaceId) (users_new : List (List InterfaceId)) (inner_new : List (List ℕ)) : Type 0 where
  pub interface : InterfaceId
  pub made_of : List InterfaceId
  pub places : List ℕ
  pub at : slice_get interfaces q ≡ Some interface
  pub at_users : slice_get users q ≡ Some made_of
  pub once : NoNameTwice (interface_exports m interface)
  pub placed : ArePlaced c m q interfaces users made_of (interface_exports m interface) interfaces_new users_new places
  pub inner_more : inner_new ≡ inner ++ places ∷ []

-- The interfaces from a position on have their uses.
abbrev pub AreUsingFrom : Collection → Collection → (List InterfaceId → List (Name × ItemKind) → List (Name × UsedType)) → List InterfaceId → List (List InterfaceId) → ℕ → List InterfaceId → Type 0
AreUsingFrom c m uses interfaces users from done = (p : ℕ) (i w : InterfaceId) (is : List InterfaceId) → from ≤ p → slice_get interfaces p ≡ Some i → slice_get users p ≡ Some is → slice_get done p ≡ Some w → IsUsing c m uses i w is

-- The item is unchanged, or it is an instance that got another interface.
pub data IsAlike (m : Collection) : Name × ItemKind → Name × ItemKind → Type 0 where
  same_item : (e : Name × ItemKind) → IsAlike m e e
  other_instance : (n : Name) (k l : InterfaceId) → HasInterface m l → IsAlike m (n, kind.Instance k) (n, kind.Instance l)

-- The items have the same names, and all but instances are unchanged.
abbrev pub AreAlike : Collection → List (Name × ItemKind) → List (Name × ItemKind) → Type 0
AreAlike m xs ys = AllZip (IsAlike m) xs ys

-- Each instance that is exported got an interface with uses, at its position.
abbrev pub HaveUses : Collection → Collection → (List InterfaceId → List (Name × ItemKind) → List (Name × UsedType)) → List InterfaceId → List (Name × ItemKind) → List ℕ → List InterfaceId → Type 0
HaveUses c m uses is listed places done = (j : ℕ) (n : Name) (k : InterfaceId) → slice_get listed j ≡ Some (n, kind.Instance k)
    → (p : ℕ) × (l : InterfaceId) × (slice_get places j ≡ Some p) × (slice_get done p ≡ Some l) × IsUsing c m uses k l (instances_of (listed_by c is n))

-- An item with the interface of an instance replaced.
abbrev pub placed : List ℕ → List InterfaceId → ℕ → ItemKind → ItemKind
placed places done j (kind.Instance k) = kind.Instance (option_case (slice_get places j) k (λ p. option_case (slice_get done p) k (λ l. l)))
placed places done j k = k

-- Items with the interfaces of instances replaced.
abbrev pub placed_from : List ℕ → List InterfaceId → ℕ → List (Name × ItemKind) → List (Name × ItemKind)
placed_from places done j [] = []
placed_from places done j (e ∷ es) = (e.0, placed places done j e.1) ∷ placed_from places done (suc j) es
