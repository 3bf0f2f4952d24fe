-- Places as leaves, and the resources that one more item binds. Only contracts inside the merge cite this file.
use Rattle.std.specs.Prelude.{ℕ, ◌≡◌, ◌==◌, if◌then◌else◌, is_some, List, [], ◌∷◌, map, Option, Some, None}
use Rattle.std.specs.Borrow.{Bor}
use Rattle.wac_types_shapes.specs.primitives.Name.{Name, find_name, option_case, first_some}
use Rattle.wac_types_shapes.specs.primitives.Tree.{Side, Place, named, Leaf}
use Rattle.wac_types_collection.specs.collection.Collection.{Collection}
use Rattle.wac_types_collection.specs.collection.Held.{Names}
use Rattle.wac_types_collection.specs.collection.Bound.{is_alias, own_name, bound_by}
use Rattle.wac_types_shapes.specs.declared.shapes.component.ResourceId.{ResourceId}
use Rattle.wac_types_shapes.specs.declared.shapes.component.UsedType.{UsedType}
use Rattle.wac_types_shapes.specs.declared.shapes.component.«Type».TheVariants as ty
use Rattle.wac_types_shapes.specs.declared.shapes.component.ItemKind.{ItemKind}
use Rattle.wac_types_shapes.specs.declared.shapes.component.ItemKind.TheVariants as kind
use Rattle.wac_merge_classes.specs.declared.entries.bound.Place.{Place as APlace}
use Rattle.wac_types_collection.specs.subtyping.CalledViews.{side_view, path_view}

-- A leaf of the scope itself.
abbrev pub leaf_at : Side → List Place → Leaf
leaf_at side path = record { out = 0; side = side; path = path }

-- A place as a leaf.
abbrev pub place_view : APlace → Leaf
place_view p = leaf_at (side_view p.side) (path_view p.path.items)

-- The resources with the leaves of their places.
abbrev pub leaves : List (ResourceId × APlace) → List (ResourceId × Leaf)
leaves es = map (λ e. (e.0, place_view e.1)) es

-- The value of a resource's first occurrence in the list.
abbrev pub find_resource : {A : Type 0} → List (ResourceId × A) → Names A
find_resource [] r = None
find_resource (e ∷ rest) r = if r.0 == e.0.0 then Some e.1 else find_resource rest r

-- The path of these names.
abbrev pub given_path : List (Bor (List ℕ)) → List Place
given_path names = map (λ n. named n.now) names

-- The path of a name, after an outer name if there is one.
abbrev pub under : Option Name → Name → List Place
under None n = named n ∷ []
under (Some outer) n = named outer ∷ named n ∷ []

-- The map of a single resource.
abbrev pub only : {A : Type 0} → ResourceId → A → Names A
only q a r = if q.0 == r.0 then Some a else None

-- The new map keeps what the old one has and adds what only `more` has.
abbrev pub Adds : {A : Type 0} → List (ResourceId × A) → Names A → List (ResourceId × A) → Type 0
Adds old more new = (r : ResourceId) → find_resource new r ≡ first_some (find_resource old r) (more r)

-- The resource of a type item that is not an alias.
abbrev pub resource_itself : Collection → ItemKind → Option ResourceId
resource_itself c (kind.TypeItem (ty.Resource q)) = if is_alias c q then None else Some q
resource_itself c k = None

-- The own resource under this name.
abbrev pub own_resource : Collection → List (Name × UsedType) → Name × ItemKind → Option ResourceId
own_resource c uses e = if is_some (find_name uses e.0) then None else resource_itself c e.1

-- Where the own resources of these items are bound.
abbrev pub own_at : Collection → List (Name × UsedType) → Side → Option Name → List (Name × ItemKind) → Names Leaf
own_at c uses side outer listed r = option_case (own_name c uses listed r) None (λ n. Some (leaf_at side (under outer n)))

-- What an instance among the items of a world binds.
abbrev pub bound_by_instance : Collection → Side → Name × ItemKind → Names Leaf
bound_by_instance c side (n, kind.Instance i) r = bound_by c [] side (n, kind.Instance i) r
bound_by_instance c side e r = None
