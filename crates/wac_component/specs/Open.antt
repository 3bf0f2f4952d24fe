-- Items with what their resources are. An item is open if it has no fresh resource outside a component type or an
-- instance type in it: each type item then says which resource it is, by a binding in the scope of the item.
use Rattle.std.specs.Prelude.{ℕ, zero, suc, List, [], ◌∷◌}
use Rattle.wac_types_shapes.specs.primitives.Name.{Name}
use Rattle.wac_types_shapes.specs.primitives.Tree.{Side, imported, exported, Place, position, named, Leaf, Tree, absent, resource, instance, component, fresh, type_equal, instance_item, further_out, moved}

-- No resource.
abbrev pub nowhere : Leaf
nowhere = record { out = 0; side = exported; path = [] }

-- The step of `inward`, with the parts of the binding given apart; a binding of the inner scope is none outside.
abbrev pub inward_from : ℕ → Side → List Place → Leaf
inward_from zero s p = nowhere
inward_from (suc o) s p = record { out = o; side = s; path = p }

-- The binding, seen from one scope further out.
abbrev pub inward : Leaf → Leaf
inward l = inward_from l.out l.side l.path

-- The binding in this scope at this side and path.
abbrev pub bound_here : Side → List Place → Leaf
bound_here s p = record { out = 0; side = s; path = p }

-- The step of `inside_instance`, with the parts of the binding given apart.
abbrev pub inside_instance_from : (Leaf → Leaf) → (List Place → Leaf) → ℕ → Side → List Place → Leaf
inside_instance_from f r zero s p = further_out (r p)
inside_instance_from f r (suc o) s p = further_out (f (record { out = o; side = s; path = p }))

-- A change of bindings, seen from inside an instance type whose own resource at each path is given.
abbrev pub inside_instance : (Leaf → Leaf) → (List Place → Leaf) → Leaf → Leaf
inside_instance f r l = inside_instance_from f r l.out l.side l.path

-- The item made open: each fresh resource becomes the one given at its path, and other bindings are changed.
abbrev pub with_resources : (Leaf → Leaf) → (List Place → Leaf) → Tree → Tree
with_resources f r fresh = type_equal (resource (r []))
with_resources f r (instance_item (instance items)) =
    instance_item (instance (λ n. with_resources (inside_instance f r) (λ p. further_out (r (named n ∷ p))) (items n)))
with_resources f r t = moved f t

-- The resource that an open item has at a path.
abbrev pub resource_at : Tree → List Place → Leaf
resource_at (type_equal (resource l)) [] = l
resource_at (instance_item (instance items)) (named n ∷ p) = inward (resource_at (items n) p)
resource_at _ _ = nowhere

-- An item of this type, whose resources are bound at this side under this name.
abbrev pub bound_item : Side → Name → Tree → Tree
bound_item s n = with_resources (λ l. l) (λ p. bound_here s (named n ∷ p))

-- An item of this type, with the resources of an open item.
abbrev pub with_resources_of : Tree → Tree → Tree
with_resources_of x = with_resources (λ l. l) (resource_at x)

-- The export of an open instance, seen from the scope of the instance.
abbrev pub aliased_export : Tree → Name → Tree
aliased_export (instance_item (instance items)) n = moved inward (items n)
aliased_export _ n = absent

-- The step of `instantiated`, with the parts of the binding given apart.
abbrev pub instantiated_from : ℕ → (Name → Tree) → ℕ → Side → List Place → Leaf
instantiated_from k args (suc o) s p = record { out = o; side = s; path = p }
instantiated_from k args zero exported p = bound_here exported (position k ∷ p)
instantiated_from k args zero imported (named n ∷ p) = resource_at (args n) p
instantiated_from k args zero imported _ = nowhere

-- The resource that a binding of a component is in its instance, which is part k and has these arguments.
abbrev pub instantiated : ℕ → (Name → Tree) → Leaf → Leaf
instantiated k args l = instantiated_from k args l.out l.side l.path

-- The resource that part k brings at a path of its export of this name.
abbrev pub brought : ℕ → Name → List Place → Leaf
brought k n p = bound_here exported (position k ∷ named n ∷ p)

-- An export of the instance, as part k, of a component with these arguments, seen inside the instance.
abbrev pub instantiated_item : ℕ → (Name → Tree) → Name → Tree → Tree
instantiated_item k args n = with_resources (λ l. further_out (instantiated k args l)) (λ p. further_out (brought k n p))

-- The instance, as part k, of a component with these arguments: each fresh resource of its exports is one of this part.
abbrev pub new_instance : ℕ → (Name → Tree) → Tree → Tree
new_instance k args (component imports exports) = instance_item (instance (λ n. instantiated_item k args n (exports n)))
new_instance k args _ = absent

-- The type that the argument of this import must have, where its resources are those of the arguments.
abbrev pub argument_type : ℕ → (Name → Tree) → Name → Tree → Tree
argument_type k args n = with_resources (instantiated k args) (resource_at (args n))
