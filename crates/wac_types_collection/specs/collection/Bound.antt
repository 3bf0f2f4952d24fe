-- The binding of each resource in a scope, and the trees of types under bindings.
use Rattle.std.specs.Prelude.{◌==◌, ◌&&◌, Bool, true, false, not, if◌then◌else◌, List, [], ◌∷◌, filter, Option, Some, None, slice_get, is_some, is_none}
use Rattle.wac_types_shapes.specs.primitives.Name.{Name, same_name, find_name, option_case, first_some}
use Rattle.wac_types_shapes.specs.primitives.Tree.{Side, imported, exported, Place, position, named, Leaf, Tree, further_out}
use Rattle.wac_types_collection.specs.collection.Collection.{Collection, item_at}
use Rattle.wac_types_collection.specs.collection.Held.{Naming, Names, resolved, source_of, unfolded, item_tree}
use Rattle.wac_types_shapes.specs.declared.shapes.component.ResourceId.{ResourceId}
use Rattle.wac_types_shapes.specs.declared.shapes.component.UsedType.{UsedType}
use Rattle.wac_types_shapes.specs.declared.shapes.component.Interface.{Interface}
use Rattle.wac_types_shapes.specs.declared.shapes.component.World.{World}
use Rattle.wac_types_shapes.specs.declared.shapes.component.«Type».{«Type» as AnyType}
use Rattle.wac_types_shapes.specs.declared.shapes.component.«Type».TheVariants as ty
use Rattle.wac_types_shapes.specs.declared.shapes.component.ItemKind.{ItemKind}
use Rattle.wac_types_shapes.specs.declared.shapes.component.ItemKind.TheVariants as kind

-- The binding of each resource that is bound in the scope of use or in an enclosing one.
abbrev pub Bindings : Type 0
Bindings = Names Leaf

-- The resource is an alias.
abbrev pub is_alias : Collection → ResourceId → Bool
is_alias c r = is_some (source_of (slice_get c.resources r.0))

-- The item is a type item of the resource, which is neither an alias nor a used type.
abbrev pub lists_own : Collection → List (Name × UsedType) → ResourceId → Name × ItemKind → Bool
lists_own c uses r (n, kind.TypeItem (ty.Resource q)) = (q.0 == r.0) && (not (is_alias c q) && is_none (find_name uses n))
lists_own c uses r _ = false

-- The name under which the items have the resource as their own.
abbrev pub own_name : Collection → List (Name × UsedType) → List (Name × ItemKind) → ResourceId → Option Name
own_name c uses [] r = None
own_name c uses (e ∷ rest) r = if lists_own c uses r e then Some e.0 else own_name c uses rest r

-- The bindings inside the instance type of an interface: its own resources, and those of enclosing scopes.
abbrev pub inside_interface : Collection → Interface → Bindings → Bindings
inside_interface c i m r =
    option_case (own_name c i.uses i.exports r)
    (option_case (m r) None (λ l. Some (further_out l)))
    (λ n. Some (record { out = 0; side = exported; path = named n ∷ [] }))

-- The bindings that an import or export makes. A type item binds its own resource. An instance that has its interface's
-- id as its name binds that interface's own resources.
abbrev pub bound_by : Collection → List (Name × UsedType) → Side → Name × ItemKind → Bindings
bound_by c uses side (n, kind.TypeItem t) r = if lists_own c uses r (n, kind.TypeItem t) then Some (record { out = 0; side = side; path = named n ∷ [] }) else None
bound_by c uses side (n, kind.Instance i) r =
    option_case (item_at c.interfaces i.0) None (λ it.
    option_case it.id None (λ id.
    if same_name id n then option_case (own_name c it.uses it.exports r) None (λ q. Some (record { out = 0; side = side; path = named n ∷ named q ∷ [] })) else None))
bound_by c uses side _ r = None

-- The bindings of a side's items; of several for one resource, the first.
abbrev pub bound_in_order : Collection → List (Name × UsedType) → Side → List (Name × ItemKind) → Bindings
bound_in_order c uses side [] r = None
bound_in_order c uses side (e ∷ rest) r = first_some (bound_by c uses side e r) (bound_in_order c uses side rest r)

-- The item is a type item.
abbrev pub lists_type : Name × ItemKind → Bool
lists_type (n, kind.TypeItem t) = true
lists_type _ = false

-- The bindings of a side's items: instances come before type items, each in order.
abbrev pub first_bound : Collection → List (Name × UsedType) → Side → List (Name × ItemKind) → Bindings
first_bound c uses side es r = first_some (bound_in_order c uses side (filter (λ e. not (lists_type e)) es) r) (bound_in_order c uses side (filter lists_type es) r)

-- The bindings of a world's imports.
abbrev pub bound_by_imports : Collection → World → Bindings
bound_by_imports c w = first_bound c w.uses imported w.imports

-- The bindings of a world's imports and exports; imports come first.
abbrev pub bound_in_world : Collection → World → Bindings
bound_in_world c w r = first_some (bound_by_imports c w r) (first_bound c w.uses exported w.exports r)

-- Both sides are the same.
abbrev pub same_side : Side → Side → Bool
same_side imported imported = true
same_side exported exported = true
same_side _ _ = false

-- Both steps of a path are the same.
abbrev pub same_place : Place → Place → Bool
same_place (position i) (position j) = i == j
same_place (named m) (named n) = same_name m n
same_place _ _ = false

-- Both paths are the same.
abbrev pub same_path : List Place → List Place → Bool
same_path [] [] = true
same_path (a ∷ ps) (b ∷ qs) = if same_place a b then same_path ps qs else false
same_path _ _ = false

-- The binding is in this scope, at this side and path.
abbrev pub is_here : Side → List Place → Option Leaf → Bool
is_here side path None = false
is_here side path (Some l) = (l.out == 0) && (same_side l.side side && same_path l.path path)

-- The type item at this side and path binds the resource that it has.
abbrev pub binds_here : Collection → Bindings → Side → List Place → ItemKind → Bool
binds_here c m side path (kind.TypeItem (ty.Resource r)) = is_here side path (m (resolved c r))
binds_here c m side path _ = false

-- The naming of resources by their bindings.
abbrev pub by_place : Collection → Naming Leaf
by_place c = record {
  in_instance = λ i m. inside_interface c i m;
  in_imports = λ w m. bound_by_imports c w;
  in_exports = λ w m. bound_in_world c w;
  is_fresh = λ m side e. binds_here c m side (named e.0 ∷ []) e.1;
}

-- The tree of a type of the collection, with resources given by their bindings.
unfoldable pub held_tree : Collection → Bindings → AnyType → Tree
held_tree c = unfolded (by_place c) c

-- The tree of an import or export at this side and path. A type item that binds its resource is fresh.
abbrev pub held_item : Collection → Bindings → Side → List Place → ItemKind → Tree
held_item c m side path k = item_tree (held_tree c m) (binds_here c m side path k) k
