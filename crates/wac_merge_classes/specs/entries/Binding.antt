-- The resources that classes bind, and what a resource means at the root.
use Rattle.std.specs.Prelude.{ℕ, suc, not, ◌&&◌, ◌==◌, if◌then◌else◌, List, [], ◌∷◌, Option, Some, None}
use Rattle.wac_types_shapes.specs.primitives.Name.{Name, option_case, first_some}
use Rattle.wac_types_shapes.specs.primitives.Tree.{imported, Place, position, named}
use Rattle.wac_types_collection.specs.collection.Collection.{Collection, item_at}
use Rattle.wac_types_collection.specs.collection.Bound.{Bindings, own_name, is_alias}
use Rattle.wac_types_shapes.specs.declared.shapes.component.ResourceId.{ResourceId}
use Rattle.wac_types_shapes.specs.declared.shapes.component.ItemKind.{ItemKind}
use Rattle.wac_types_shapes.specs.declared.shapes.component.ItemKind.TheVariants as kind
use Rattle.wac_types_shapes.specs.declared.shapes.component.«Type».TheVariants as ty
use Rattle.wac_merge_classes.specs.entries.Classes.{Entry, NameRules, same_track, class_names, members}

-- An instance whose interface id has the class's track binds its own resources, and a resource type item binds its
-- resource.
abbrev pub kind_binds : NameRules → Collection → Name → ItemKind → ResourceId → Option (List Place)
kind_binds rules c class (kind.Instance i) r =
    option_case (item_at c.interfaces i.0) None (λ it.
    option_case it.id None (λ id.
    if same_track (rules.track id) (rules.track class) then option_case (own_name c it.uses it.exports r) None (λ n. Some (named n ∷ [])) else None))
kind_binds rules c class (kind.TypeItem (ty.Resource q)) r = if (q.0 == r.0) && not (is_alias c q) then Some [] else None
kind_binds rules c class _ r = None

abbrev pub first_binds : NameRules → Collection → Name → List Entry → ResourceId → Option (List Place)
first_binds rules c class [] r = None
first_binds rules c class (e ∷ rest) r = first_some (kind_binds rules c class e.kind r) (first_binds rules c class rest r)

-- The names under which a class binds a resource.
abbrev pub class_binds : NameRules → Collection → List Entry → Name → ResourceId → Option (List Place)
class_binds rules c es class r = first_binds rules c class (members rules es class) r

-- The number and path of the first of these classes that binds a resource. The first of them has the number k.
abbrev pub binding_from : NameRules → Collection → List Entry → ℕ → List Name → ResourceId → Option (ℕ × List Place)
binding_from rules c es k [] r = None
binding_from rules c es k (class ∷ rest) r = option_case (class_binds rules c es class r) (binding_from rules c es (suc k) rest r) (λ path. Some (k, path))

-- The number and path of the first class that binds a resource.
abbrev pub binding_class : NameRules → Collection → List Entry → ResourceId → Option (ℕ × List Place)
binding_class rules c es = binding_from rules c es 0 (class_names rules es)

-- The leaf of each resource at the root, if `at` gives the position of each class's import.
abbrev pub root_bindings : NameRules → Collection → List Entry → (ℕ → ℕ) → Bindings
root_bindings rules c es at r = option_case (binding_class rules c es r) None (λ b. Some (record { out = 0; side = imported; path = position (at b.0) ∷ b.1 }))
