-- The item of a class: the union of its entries' items.
use Rattle.std.specs.Prelude.{ℕ, List, [], ◌∷◌, map, Some, None}
use Rattle.wac_types_shapes.specs.primitives.Name.{Name, option_case, first_some}
use Rattle.wac_types_shapes.specs.primitives.Tree.{imported, exported, position, named, Tree, absent, fresh, type_equal, instance, instance_item, further_out}
use Rattle.wac_types_collection.specs.collection.Collection.{Collection, item_at}
use Rattle.wac_types_collection.specs.collection.Held.{items_under}
use Rattle.wac_types_collection.specs.collection.Bound.{Bindings, own_name, held_item}
use Rattle.wac_types_shapes.specs.declared.shapes.component.Interface.{Interface}
use Rattle.wac_types_shapes.specs.declared.shapes.component.ItemKind.{ItemKind}
use Rattle.wac_types_shapes.specs.declared.shapes.component.ItemKind.TheVariants as kind
use Rattle.wac_merge_classes.specs.entries.Classes.{Entry, NameRules, members}
use Rattle.wac_merge_classes.specs.entries.Binding.{class_binds}

-- Inside an instance of a class: its own resources, then those that the class binds, then the enclosing bindings.
abbrev pub inside_member : NameRules → Collection → List Entry → Name → Interface → Bindings → Bindings
inside_member rules c es class it m r =
    first_some
    (option_case (own_name c it.uses it.exports r) None (λ n. Some (record { out = 0; side = exported; path = named n ∷ [] })))
    (first_some
    (option_case (class_binds rules c es class r) None (λ path. Some (record { out = 0; side = exported; path = path })))
    (option_case (m r) None (λ l. Some (further_out l))))

-- The item of an entry, under bindings at the root, if the import of its class is at this position.
abbrev pub member_tree : NameRules → Collection → List Entry → Name → ℕ → Bindings → ItemKind → Tree
member_tree rules c es class at m (kind.Instance i) =
    option_case (item_at c.interfaces i.0) absent (λ it.
    instance_item (instance (items_under (map (λ e. (e.0, held_item c (inside_member rules c es class it m) exported (named e.0 ∷ []) e.1)) it.exports))))
member_tree rules c es class at m k = held_item c m imported (position at ∷ []) k

-- The union of items that agree: instances are united name by name, and a resource is fresh if it is fresh in one.
abbrev pub union : Tree → Tree → Tree
union absent u = u
union (type_equal t) fresh = fresh
union (instance f) (instance g) = instance (λ n. union (f n) (g n))
union (instance_item t) (instance_item u) = instance_item (union t u)
union t u = t

-- The union of a list of items.
abbrev pub union_all : List Tree → Tree
union_all [] = absent
union_all (t ∷ ts) = union t (union_all ts)

-- The item of a class.
abbrev pub merged : NameRules → Collection → List Entry → Bindings → ℕ → Name → Tree
merged rules c es m at class = union_all (map (λ e. member_tree rules c es class at m e.kind) (members rules es class))
