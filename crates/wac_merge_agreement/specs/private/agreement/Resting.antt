-- The classes that one entry makes its class depend on. Only contracts inside the merge cite this file.
use Rattle.std.specs.Prelude.{ℕ, ◌≡◌, ◌≢◌, ◌<◌, ◌⊎◌, List, [], ◌∷◌, Option, Some, None, slice_get}
use Rattle.std.specs.Option.{option_map}
use Rattle.wac_types_shapes.specs.primitives.Name.{Name, find_name, option_case}
use Rattle.wac_types_collection.specs.collection.Collection.{Collection, item_at}
use Rattle.wac_types_collection.specs.collection.Held.{resolved}
use Rattle.wac_types_collection.specs.wide.Wide.{each_once, wide_uses}
use Rattle.wac_types_shapes.specs.declared.shapes.component.InterfaceId.{InterfaceId}
use Rattle.wac_types_shapes.specs.declared.shapes.component.ResourceId.{ResourceId}
use Rattle.wac_types_shapes.specs.declared.shapes.component.ItemKind.{ItemKind}
use Rattle.wac_types_shapes.specs.declared.shapes.component.ItemKind.TheVariants as kind
use Rattle.wac_types_shapes.specs.declared.shapes.component.«Type».TheVariants as ty
use Rattle.wac_merge_classes.specs.entries.Bindings.{ClassBindings, first_in}
use Rattle.wac_merge_classes.specs.entries.Classes.{Entry}
use Rattle.wac_merge_tables.specs.private.tables.Nodes.{Node, Item, and_optional, tree_at, type_of}
use Rattle.wac_merge_agreement.specs.private.agreement.Reach.{Reaches, IsOfClass}
use Rattle.wac_edges.specs.private.cycles.Numbers.{Has}

-- The class of an interface's id.
abbrev pub interface_class : Collection → List (Name × ℕ) → InterfaceId → Option ℕ
interface_class c names i = option_case (item_at c.interfaces i.0) None (λ it. option_case it.id None (λ id. find_name names id))

-- The classes of used interfaces.
abbrev pub used_classes : Collection → List (Name × ℕ) → List InterfaceId → List ℕ
used_classes c names [] = []
used_classes c names (i ∷ is) = and_optional (interface_class c names i) (used_classes c names is)

-- The classes of the interfaces that an interface uses widely.
abbrev pub classes_used : Collection → List (Name × ℕ) → InterfaceId → List ℕ
classes_used c names i = used_classes c names (each_once (wide_uses c i))

-- The item is an instance that uses an interface of the class with this number widely.
abbrev pub KindUses : Collection → List (Name × ℕ) → ItemKind → ℕ → Type 0
KindUses c names (kind.Instance i) b = Has (classes_used c names i) b
KindUses c names k b = ⊥

-- The first class that binds a resource, after aliases are resolved.
abbrev pub first_class : Collection → ClassBindings → ResourceId → Option ℕ
first_class c bs q = option_map (λ p. p.0) (first_in bs (resolved c q))

-- The item of an entry mentions or uses the class with this number, which may be its own class.
abbrev pub ItemLeads : List Node → Collection → List (Name × ℕ) → ClassBindings → ItemKind → Item → ℕ → Type 0
ItemLeads ns c names bs (kind.TypeItem (ty.Resource q)) x b = first_class c bs q ≡ Some b
ItemLeads ns c names bs (kind.Instance i) x b = Reaches (IsOfClass b) (tree_at ns (type_of x)) ⊎ Has (classes_used c names i) b
ItemLeads ns c names bs k x b = Reaches (IsOfClass b) (tree_at ns (type_of x))

-- One of the first n entries is of class a, and its item mentions or uses another class b.
pub record EntryLeads (ns : List Node) (c : Collection) (es : List Entry) (xs : List Item) (numbers : List ℕ) (names : List (Name × ℕ)) (bs : ClassBindings) (n a b : ℕ) : Type 0 where
  pub at : ℕ
  pub entry : Entry
  pub item : Item
  pub below : at < n
  pub is_entry : slice_get es at ≡ Some entry
  pub is_item : slice_get xs at ≡ Some item
  pub is_class : slice_get numbers at ≡ Some a
  pub other : a ≢ b
  pub leads : ItemLeads ns c names bs entry.kind item b

-- The set gains those of these numbers that are not its own.
abbrev pub Gains : ℕ → List ℕ → List ℕ → List ℕ → Type 0
Gains own more old new = (b : ℕ) → (Has new b → Has old b ⊎ ((own ≢ b) × Has more b)) × (Has old b → Has new b) × ((own ≢ b) → Has more b → Has new b)
