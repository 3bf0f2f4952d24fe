-- The list of imports while it is built. Only private functions use these definitions.
use Rattle.std.specs.Prelude.{ℕ, zero, suc, ◌+◌, ◌≡◌, ◌<◌, Bool, true, false, ◌&&◌, ◌||◌, cond, nat_eq, nat_lt, List, [], ◌∷◌, ◌++◌, length, map, Option, Contains, slice_get}
use Rattle.std.specs.Borrow.{Bor}
use Rattle.std.specs.HashSet.{HashSet, contains_by}
use Rattle.std.specs.List.{AllByRecursion, flat_map}
use Rattle.std.specs.Str.{bytes_eq}
use Rattle.std.specs.FinMap as finite
use Rattle.wac_types_shapes.specs.primitives.Name.{Name, option_case}
use Rattle.wac_types_collection.specs.collection.Collection.{Collection, HasInterface, holds_type, interface_exports}
use Rattle.wac_types_shapes.specs.shapes.Kinds.{kind_type}
use Rattle.wac_types_collection.specs.declared.collection.collection.Held.{Held}
use Rattle.wac_types_collection.specs.wide.Wide.{interface_uses, instances_of, is_among, with_each}
use Rattle.wac_types_shapes.specs.declared.shapes.component.Interface.{Interface}
use Rattle.wac_types_shapes.specs.declared.shapes.component.InterfaceId.{InterfaceId}
use Rattle.wac_types_shapes.specs.declared.shapes.component.ItemKind.{ItemKind}
use Rattle.wac_types_shapes.specs.declared.shapes.component.ItemKind.TheVariants as kind
use Rattle.wac_types_shapes.specs.declared.shapes.component.UsedType.{UsedType}
use Rattle.wac_graph_fields.specs.declared.asked.AskedEntry.{AskedEntry}
use Rattle.wac_graph_fields.specs.declared.asked.Asking.{Asking}
use Rattle.wac_graph_fields.specs.declared.asked.Task.{Task}
use Rattle.wac_graph_fields.specs.declared.asked.Task.TheVariants.{Visit, Open, Close}
use Rattle.wac_edges.specs.declared.node.NodeId.{NodeId}
use Rattle.wac_graph_model.specs.nodes.Graph.{Graph, node_at}
use Rattle.wac_graph_fields.specs.private.ImportsLeft.{node_left}
use Rattle.wac_graph_model.specs.nodes.Asked.{Entry, asked_by, imported_by}
use Rattle.wac_graph_model.specs.nodes.Entries.{under_id, used_by, asks_again, once, with_used}

-- The import as a value.
abbrev pub entry_view : AskedEntry → Entry
entry_view e = record { name = e.name.now; kind = e.kind; node = e.node }

-- The item as an import that node n needs.
abbrev pub by_node : ℕ → Name × ItemKind → Entry
by_node n u = record { name = u.0; kind = u.1; node = n }

-- The instance of an interface under a name.
abbrev pub instance_under : Name → InterfaceId → Entry
instance_under name i = record { name = name; kind = kind.Instance i; node = 0 }

-- The list has the same instance under the same name.
abbrev pub has : List Entry → Entry → Bool
has [] e = false
has (x ∷ xs) e = asks_again x e || has xs e

-- Every import of the second list is in the first, as an instance under its name.
abbrev pub HasAll : List Entry → List Entry → Type 0
HasAll xs ys = AllByRecursion (λ y. has xs y ≡ true) ys

-- The list with one more import, unless it is an instance that is in the list.
abbrev pub added : List Entry → Entry → List Entry
added xs e = cond (has xs e) xs (xs ++ e ∷ [])

-- No import repeats an earlier instance.
abbrev pub AreApart : List Entry → Type 0
AreApart [] = Unit {0}
AreApart (x ∷ xs) = AllByRecursion (λ y. asks_again x y ≡ false) xs × AreApart xs

-- Everything that an import uses is before it, or was before the list.
abbrev pub AreSettled : Collection → List Entry → List Entry → Type 0
AreSettled c seen [] = Unit {0}
AreSettled c seen (x ∷ xs) = HasAll seen (map (by_node x.node) (used_by c x.kind)) × AreSettled c (seen ++ x ∷ []) xs

-- The two lists are alike: after any continuation they have the same imports once, and the uses are in order.
pub record AsksAlike (c : Collection) (a b : List Entry) : Type 0 where
  pub same : (tail : List Entry) → once (a ++ tail) ≡ once (b ++ tail)
  pub settled : (tail : List Entry) → AreSettled c [] (a ++ tail) → AreSettled c [] (b ++ tail)

-- The set has the instance under the name.
abbrev pub knows : {S : Type 0} → HashSet (Bor (List ℕ) × InterfaceId) S → Name → InterfaceId → Bool
knows s name i = contains_by (λ k. bytes_eq name k.0.now && nat_eq i.0 k.1.0) s

-- The imports that are listed so far.
abbrev pub entries_of : Asking → List Entry
entries_of a = map entry_view a.entries.items

-- No instance is repeated, and the set has exactly the listed instances.
pub record IsRight (a : Asking) : Type 0 where
  pub apart : AreApart (entries_of a)
  pub known : (name : Name) (i : InterfaceId) → knows a.known name i ≡ has (entries_of a) (instance_under name i)

-- What each of these interfaces uses widely is listed.
abbrev pub AreListed : Collection → List Entry → List InterfaceId → Type 0
AreListed c es seen = (i : InterfaceId) → Contains seen i → HasAll es (map (by_node 0) (used_by c (kind.Instance i)))

-- Everything that an import uses is before it, and everything that a visited interface uses is listed.
pub record IsSettled (c : Collection) (a : Asking) : Type 0 where
  pub listed : AreSettled c [] (entries_of a)
  pub visited : AreListed c (entries_of a) a.visited.keys

-- The tasks for the interfaces of these uses, the first one on top.
abbrev pub openings : List (Name × UsedType) → List Task
openings [] = []
openings (u ∷ us) = openings us ++ Open u.1.interface ∷ []

-- The tasks that visit these interfaces, the first one on top.
abbrev pub visits : List InterfaceId → List Task
visits [] = []
visits (i ∷ is) = visits is ++ Visit i ∷ []

-- The tasks that list what an interface uses widely.
abbrev pub inner_tasks : Collection → InterfaceId → List Task
inner_tasks c i = visits (instances_of (interface_exports c i)) ++ openings (interface_uses c i)

-- The interface of a task.
abbrev pub task_id : Task → InterfaceId
task_id (Visit i) = i
task_id (Open i) = i
task_id (Close i) = i

-- The interface of a task is of the collection.
abbrev pub IsHeldTask : Collection → Task → Type 0
IsHeldTask c t = HasInterface c (task_id t)

-- The items that a task lists.
abbrev pub task_items : Collection → Task → List (Name × ItemKind)
task_items c (Visit i) = used_by c (kind.Instance i)
task_items c (Open i) = used_by c (kind.Instance i) ++ under_id c i
task_items c (Close i) = under_id c i

-- The items that tasks list, the last task first.
abbrev pub tasks_items : Collection → List Task → List (Name × ItemKind)
tasks_items c [] = []
tasks_items c (t ∷ ts) = tasks_items c ts ++ task_items c t

-- The imports that tasks list for node n.
abbrev pub tasks_entries : Collection → ℕ → List Task → List Entry
tasks_entries c n ts = map (by_node n) (tasks_items c ts)

-- The number of interfaces with fewer than b interfaces before them.
abbrev pub count_before : ℕ → List (Held Interface) → ℕ
count_before b [] = 0
count_before b (h ∷ hs) = cond (nat_lt h.before b) (suc (count_before b hs)) (count_before b hs)

-- The number of interfaces that were added before this one.
abbrev pub rank : Collection → InterfaceId → ℕ
rank c i = option_case (slice_get c.interfaces i.0) 0 (λ h. count_before h.before c.interfaces)

-- The sum over a list.
abbrev pub total : {A : Type 0} → (A → ℕ) → List A → ℕ
total f [] = 0
total f (x ∷ xs) = f x + total f xs

-- The number of tasks that a visit leads to, down to the given depth.
abbrev pub weight_to : ℕ → Collection → InterfaceId → ℕ
weight_to zero c i = 0
weight_to (suc k) c i = suc (total (λ u. suc (suc (weight_to k c (u.1.interface)))) (interface_uses c i) + total (weight_to k c) (instances_of (interface_exports c i)))

-- The number of tasks that a task leads to.
abbrev pub task_weight : Collection → Task → ℕ
task_weight c (Visit i) = weight_to (suc (length c.interfaces)) c i
task_weight c (Open i) = suc (suc (weight_to (suc (length c.interfaces)) c i))
task_weight c (Close i) = 1

-- The number of tasks that all tasks lead to.
abbrev pub tasks_weight : Collection → List Task → ℕ
tasks_weight c ts = total (task_weight c) ts

-- The step of a task: visit an interface before it is listed, pass a visited one, visit one, list one, or pass one
-- without id.
pub data Did (c : Collection) (n : ℕ) (t : Task) (old new : List Entry) (seen after : List InterfaceId) (left now : List Task) : Type 0 where
  divided : (i : InterfaceId) → t ≡ Open i → new ≡ old → after ≡ seen → now ≡ left ++ Close i ∷ Visit i ∷ [] → Did c n t old new seen after left now
  met : (i : InterfaceId) → t ≡ Visit i → is_among seen i ≡ true → new ≡ old → after ≡ with_each seen (i ∷ []) → now ≡ left → Did c n t old new seen after left now
  entered : (i : InterfaceId) → t ≡ Visit i → new ≡ old → after ≡ with_each seen (i ∷ []) → now ≡ left ++ inner_tasks c i → Did c n t old new seen after left now
  closed : (i : InterfaceId) (name : Name) → t ≡ Close i → under_id c i ≡ (name, kind.Instance i) ∷ [] → new ≡ added old (by_node n (name, kind.Instance i)) → after ≡ seen → now ≡ left → Did c n t old new seen after left now
  passed : (i : InterfaceId) → t ≡ Close i → under_id c i ≡ [] → new ≡ old → after ≡ seen → now ≡ left → Did c n t old new seen after left now

-- What an interface uses widely is among the listed imports and those of the last tasks, and these tasks are below the
-- interface.
pub record IsOpen (c : Collection) (n : ℕ) (now : List Entry) (tasks : List Task) (i : InterfaceId) : Type 0 where
  pub rest : List Task
  pub last : List Task
  pub parts : tasks ≡ rest ++ last
  pub lower : AllByRecursion (λ t. rank c (task_id t) < rank c i) last
  pub found : HasAll (now ++ tasks_entries c n last) (map (by_node n) (used_by c (kind.Instance i)))

-- The listed imports together with those of the remaining tasks are alike to the wanted ones.
pub record IsUnderWay (c : Collection) (n : ℕ) (wanted now : List Entry) (seen : List InterfaceId) (tasks : List Task) : Type 0 where
  pub stands : AsksAlike c wanted (now ++ tasks_entries c n tasks)
  pub settled : AreSettled c [] (now ++ tasks_entries c n tasks)
  pub held : AllByRecursion (IsHeldTask c) tasks
  pub unfinished : (i : InterfaceId) → Contains seen i → IsOpen c n now tasks i

-- The item's type is of the collection.
abbrev pub IsHeldKind : Collection → ItemKind → Type 0
IsHeldKind c k = holds_type c (kind_type k) ≡ true

-- The implicit imports of the node with this number.
abbrev pub asked_at : Graph → ℕ → List Entry
asked_at g n = asked_by g n (node_at g (record { 0 = n }))

-- The explicit imports of the node with this number.
abbrev pub imported_at : Graph → ℕ → List Entry
imported_at g n = imported_by n (node_at g (record { 0 = n }))

-- Each import after the interfaces that it uses.
abbrev pub all_with_used : Collection → List Entry → List Entry
all_with_used c es = flat_map (with_used c) es

-- The implicit imports of all nodes.
abbrev pub all_asked_by : Graph → List Entry
all_asked_by g = flat_map (asked_at g) (finite.keys g.nodes)

-- The explicit imports of all nodes.
abbrev pub all_imported_by : Graph → List Entry
all_imported_by g = flat_map (imported_at g) (finite.keys g.nodes)

-- The import of a row of node n.
abbrev pub row_entry : ℕ → Name × ItemKind × Option NodeId → Entry
row_entry n r = record { name = r.0; kind = r.1; node = n }

-- The unsatisfied imports of node n from a position on.
abbrev pub left_entries : Graph → ℕ → ℕ → List Entry
left_entries g n from = map (row_entry n) (node_left g n from (node_at g (record { 0 = n })))
