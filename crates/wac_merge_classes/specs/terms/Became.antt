-- The resources of a merged collection, and the resource that each resource becomes. Only contracts inside the merge
-- cite this file.
use Rattle.std.specs.Prelude.{ℕ, zero, suc, ◌≡◌, ◌≤◌, ◌↔◌, true, List, [], ◌∷◌, length, Option, Some, None, IsSome, slice_get}
use Rattle.wac_types_shapes.specs.primitives.Name.{Name, find_name, option_case}
use Rattle.wac_types_shapes.specs.primitives.Tree.{Place, named}
use Rattle.wac_types_collection.specs.collection.Collection.{Collection, HasResource, item_at}
use Rattle.wac_types_collection.specs.collection.Bound.{own_name}
use Rattle.wac_types_collection.specs.collection.Held.{resolved}
use Rattle.wac_types_collection.specs.subtyping.Called.{own_leaf, resource_name}
use Rattle.wac_types_collection.specs.subtyping.Subtype.{resource_names}
use Rattle.wac_types_shapes.specs.declared.shapes.component.ResourceId.{ResourceId}
use Rattle.wac_merge_classes.specs.entries.Bindings.{ClassBindings, path_in, first_in}
use Rattle.wac_merge_classes.specs.entries.Places.{find_resource}
use Rattle.wac_types_shapes.specs.primitives.Tree.{Leaf}
use Rattle.wac_merge_classes.specs.declared.terms.parts.Part.{Part}
use Rattle.wac_merge_classes.specs.declared.terms.parts.Export.{Export}
use Rattle.wac_merge_classes.specs.declared.terms.parts.Union.{Union}
use Rattle.wac_merge_classes.specs.declared.terms.fresh.Fresh.{Fresh}

-- The new resource that a union binds under a name.
abbrev pub own_in : Fresh → ℕ → Name → Option ResourceId
own_in f u n = option_case (slice_get f.own.items u) None (λ m. find_name m n)

-- The new resource of a class of resource imports.
abbrev pub whole_in : Fresh → ℕ → Option ResourceId
whole_in f k = option_case (slice_get f.whole.items k) None (λ o. o)

-- The new resource that a class binds under a path. The union of a class has the number of the class.
abbrev pub new_at : Fresh → ℕ → List Place → Option ResourceId
new_at f k [] = whole_in f k
new_at f k (named n ∷ []) = own_in f k n
new_at f k path = None

-- The new resource if there is one, else the resource itself.
abbrev pub or_itself : ResourceId → Option ResourceId → ResourceId
or_itself r o = option_case o r (λ q. q)

-- Outside all parts a resource becomes what the first class that binds it has, else it stays itself.
abbrev pub became_outside : ClassBindings → Fresh → ResourceId → ResourceId
became_outside bs f r = option_case (first_in bs r) r (λ b. or_itself r (new_at f b.0 b.1))

-- In a class, outside its parts, a resource becomes what the class has, else as outside all parts.
abbrev pub became_in_class : ClassBindings → Fresh → ℕ → ResourceId → ResourceId
became_in_class bs f k r = option_case (path_in bs k r) (became_outside bs f r) (λ path. or_itself r (new_at f k path))

-- The name under which the interface of a part exports an own resource.
abbrev pub own_of_part : Collection → Part → ResourceId → Option Name
own_of_part c x r = option_case (item_at c.interfaces x.interface.0) None (λ it. own_name c it.uses it.exports r)

-- In a part a resource becomes what its union has under that name, else as in the enclosing part. At most k parts are
-- nested.
abbrev pub became_to : ℕ → Collection → List Part → ClassBindings → Fresh → ℕ → ResourceId → ResourceId
became_to zero c ps bs f p r = r
became_to (suc k) c ps bs f p r = option_case (slice_get ps p) r (λ x.
    option_case (own_of_part c x r)
    (option_case x.outer (became_in_class bs f x.union r) (λ o. became_to k c ps bs f o r))
    (λ n. or_itself r (own_in f x.union n)))

-- What a resource without alias becomes, in a part or outside all parts.
abbrev pub became : Collection → List Part → ClassBindings → Fresh → Option ℕ → ResourceId → ResourceId
became c ps bs f None r = became_outside bs f r
became c ps bs f (Some p) r = became_to (suc p) c ps bs f p r

-- For each part, what its interface binds.
abbrev pub AreBoundParts : Collection → List Part → List (List (ResourceId × Leaf)) → Type 0
AreBoundParts c ps bounds = (p : ℕ) (x : Part) → slice_get ps p ≡ Some x → (m : List (ResourceId × Leaf)) × (slice_get bounds p ≡ Some m)
    × ((r : ResourceId) → find_resource m r ≡ option_case (item_at c.interfaces x.interface.0) None (λ it. own_leaf c it r))

-- A resource that was added to the collection, has no alias, and has this name.
pub record IsNew (c m : Collection) (q : ResourceId) (n : Name) : Type 0 where
  pub added : length c.resources ≤ q.0
  pub there : HasResource m q
  pub itself : resolved m q ≡ q
  pub named : resource_names m q ≡ Some n

-- Each own resource name of a union has a new resource, and so has each class that is the first to bind its resource.
pub record AreFresh (c : Collection) (us : List Union) (bs : ClassBindings) (f : Fresh) (m : Collection) : Type 0 where
  pub listed : (u : ℕ) (x : Union) (n : Name) → slice_get us u ≡ Some x → IsSome (own_in f u n) ↔ ((e : Export) × (find_name x.exports n ≡ Some e) × (e.is_own ≡ true))
  pub own : (u : ℕ) (n : Name) (q : ResourceId) → own_in f u n ≡ Some q → IsNew c m q n
  pub bound : (k : ℕ) (r : ResourceId) → first_in bs r ≡ Some (k, []) → (q : ResourceId) × (whole_in f k ≡ Some q)
  pub whole : (k : ℕ) (q : ResourceId) → whole_in f k ≡ Some q → (r : ResourceId) × (first_in bs r ≡ Some (k, [])) × IsNew c m q (resource_name c r)
  -- No two of them are the same resource.
  pub once : (u v : ℕ) (n o : Name) (q : ResourceId) → own_in f u n ≡ Some q → own_in f v o ≡ Some q → (u ≡ v) × (n ≡ o)
  pub once_whole : (k l : ℕ) (q : ResourceId) → whole_in f k ≡ Some q → whole_in f l ≡ Some q → k ≡ l
  pub apart : (k u : ℕ) (n : Name) (q : ResourceId) → whole_in f k ≡ Some q → own_in f u n ≡ Some q → ⊥
