-- How a resource is known: by its binding inside the compared type, or by the class of the import that binds it.
use Rattle.std.specs.Prelude.{ℕ, false, List, [], ◌∷◌, Option, Some, None}
use Rattle.wac_types_shapes.specs.primitives.Name.{Name, option_case, first_some}
use Rattle.wac_types_shapes.specs.primitives.Tree.{exported, Place, named, Leaf, further_out}
use Rattle.wac_types_collection.specs.collection.Collection.{Collection, item_at}
use Rattle.wac_types_collection.specs.collection.Held.{Naming, Names}
use Rattle.wac_types_collection.specs.collection.Bound.{own_name, bound_by_imports, bound_in_world}
use Rattle.wac_types_shapes.specs.declared.shapes.component.ResourceId.{ResourceId}
use Rattle.wac_types_shapes.specs.declared.shapes.component.Interface.{Interface}

-- How a resource is known: by its binding, together with its own name.
pub data Called : Type 0 where
  -- Bound inside the compared type.
  bound_at : Leaf → Name → Called
  -- Bound by the import of this class, at this path.
  of_class : ℕ → List Place → Name → Called
  -- Not bound: the resource itself.
  itself : ResourceId → Name → Called

-- The same, seen from one scope further in.
abbrev pub one_out : Called → Called
one_out (bound_at l n) = bound_at (further_out l) n
one_out (of_class k path n) = of_class k path n
one_out (itself r n) = itself r n

-- The name of a resource.
abbrev pub resource_name : Collection → ResourceId → Name
resource_name c r = option_case (item_at c.resources r.0) [] (λ it. it.name)

-- A resource with this binding inside the compared type.
abbrev pub called_at : Collection → ResourceId → Leaf → Called
called_at c r l = bound_at l (resource_name c r)

-- In an instance type or a side of a component type: the binding there, else that of the enclosing scope.
abbrev pub or_around : Collection → Option Leaf → Names Called → Names Called
or_around c here m r = first_some (option_case here None (λ l. Some (called_at c r l))) (option_case (m r) None (λ x. Some (one_out x)))

-- The binding of an interface's own resource in its instance type.
abbrev pub own_leaf : Collection → Interface → ResourceId → Option Leaf
own_leaf c it r = option_case (own_name c it.uses it.exports r) None (λ n. Some (record { out = 0; side = exported; path = named n ∷ [] }))

-- The naming of resources by their bindings and own names.
abbrev pub by_binding : Collection → Naming Called
by_binding c = record {
  in_instance = λ it m r. or_around c (own_leaf c it r) m r;
  in_imports = λ w m r. or_around c (bound_by_imports c w r) m r;
  in_exports = λ w m r. or_around c (bound_in_world c w r) m r;
  is_fresh = λ m side e. false;
}
