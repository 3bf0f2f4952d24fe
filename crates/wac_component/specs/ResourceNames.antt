-- The type of a component: its resources by the names of its exports.
use Rattle.std.specs.Prelude.{ℕ, zero, suc, ◌≡◌, ◌==◌, Bool, true, false, if◌then◌else◌, List, [], ◌∷◌}
use Rattle.wac_types_shapes.specs.primitives.Name.{Name, same_name}
use Rattle.wac_types_shapes.specs.primitives.Tree.{Side, exported, Place, position, named, Leaf, Tree, resource, instance, component, fresh, type_equal, instance_item, component_item, moved, further_out}
use Rattle.wac_component.specs.Open.{bound_here, nowhere, resource_at}
use Rattle.wac_component.specs.Context.{Context, open_component}

-- The places are the same.
abbrev pub equal_place : Place → Place → Bool
equal_place (position i) (position j) = i == j
equal_place (named m) (named n) = same_name m n
equal_place _ _ = false

-- The paths are the same.
abbrev pub equal_path : List Place → List Place → Bool
equal_path [] [] = true
equal_path (a ∷ ps) (b ∷ qs) = if equal_place a b then equal_path ps qs else false
equal_path _ _ = false

-- The step of `is_export_at`, with the parts of the binding given apart.
abbrev pub is_export_at_from : ℕ → Side → List Place → List Place → Bool
is_export_at_from zero exported p q = equal_path p q
is_export_at_from o s p q = false

-- The binding is of this scope, of exports, with this path.
abbrev pub is_export_at : Leaf → List Place → Bool
is_export_at l q = is_export_at_from l.out l.side l.path q

-- The step of `is_made`, with the parts of the binding given apart.
abbrev pub is_made_from : ℕ → Side → List Place → Bool
is_made_from zero exported (position k ∷ p) = true
is_made_from o s p = false

-- The binding is of a resource that a part made.
abbrev pub is_made : Leaf → Bool
is_made l = is_made_from l.out l.side l.path

-- The resource that open exports have at a path.
abbrev pub resource_in : (Name → Tree) → List Place → Leaf
resource_in items (named n ∷ p) = resource_at (items n) p
resource_in items _ = nowhere

-- The first of the paths at which the exports have the resource with this binding; z if none does.
abbrev pub named_first : Leaf → List (List Place) → (Name → Tree) → Leaf → Leaf
named_first z [] items l = z
named_first z (p ∷ ps) items l =
    if is_export_at (resource_in items p) l.path then bound_here exported p else named_first z ps items l

-- The name of a binding: for a resource that a part made it is the first of the paths at which the exports have it.
abbrev pub name_by : Leaf → List (List Place) → (Name → Tree) → Leaf → Leaf
name_by z paths items l = if is_made l then named_first z paths items l else l

-- What is left of the paths that begin with this name.
abbrev pub paths_below : Name → List (List Place) → List (List Place)
paths_below n [] = []
paths_below n ((named m ∷ p) ∷ ps) = if same_name m n then p ∷ paths_below n ps else paths_below n ps
paths_below n (p ∷ ps) = paths_below n ps

-- The step of `seen_inside`, with the parts of the binding given apart.
abbrev pub seen_inside_from : Name → ℕ → Side → List Place → Leaf
seen_inside_from n zero exported (named m ∷ q ∷ p) =
    if same_name m n then bound_here exported (q ∷ p) else further_out (bound_here exported (named m ∷ q ∷ p))
seen_inside_from n o s p = further_out (record { out = o; side = s; path = p })

-- A binding, seen from inside the exported instance of this name.
abbrev pub seen_inside : Name → Leaf → Leaf
seen_inside n l = seen_inside_from n l.out l.side l.path

-- The step of `inside_export`, with the parts of the binding given apart.
abbrev pub inside_export_from : Name → (Leaf → Leaf) → ℕ → Side → List Place → Leaf
inside_export_from n f zero s p = bound_here s p
inside_export_from n f (suc o) s p = seen_inside n (f (record { out = o; side = s; path = p }))

-- A change of bindings, seen from inside the exported instance of this name.
abbrev pub inside_export : Name → (Leaf → Leaf) → Leaf → Leaf
inside_export n f l = inside_export_from n f l.out l.side l.path

abbrev mutual
  -- A component's tree, in which the resources that its parts made are named by these paths, and are z where none does.
  pub named_component : Leaf → List (List Place) → Tree → Tree
  named_component z paths (component imports exports) =
      component imports (λ n. named_item z paths (name_by z paths exports) n (exports n))
  named_component z paths t = t

  -- The open item of this name, where each binding has its name: a resource is fresh where it has its name.
  pub named_item : Leaf → List (List Place) → (Leaf → Leaf) → Name → Tree → Tree
  named_item z paths f n (type_equal (resource l)) =
      if is_export_at (f l) (named n ∷ []) then fresh else type_equal (resource (f l))
  named_item z paths f n (instance_item (instance items)) =
      instance_item (instance (λ m. named_item z (paths_below n paths) (inside_export n f) m (items m)))
  named_item z paths f n (component_item t) = component_item (named_component z (paths_below n paths) t)
  named_item z paths f n t = moved f t

-- The type of a component whose resources are named by these paths.
abbrev pub component_type : Leaf → List (List Place) → Context → Tree
component_type z paths c = named_component z paths (open_component c)

-- The tree is a type of the component: there are paths that name each resource that its exports mention.
abbrev pub IsComponentType : Context → Tree → Type 0
IsComponentType c t = (paths : List (List Place)) × ((z : Leaf) → t ≡ component_type z paths c)
