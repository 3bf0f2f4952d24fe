-- Type items in order, with those of resources among them; private functions alone cite this.
use Rattle.std.specs.Prelude.{ℕ, ltb, ◌&&◌, not, Bool, if◌then◌else◌, List, [], ◌∷◌, ◌++◌}
use Rattle.wac_types_shapes.specs.primitives.Name.{Name}
use Rattle.wac_types_shapes.specs.declared.shapes.component.ItemKind.{ItemKind}
use Rattle.wac_types_collection.specs.collection.Bound.{lists_type}
use Rattle.wac_encode_order.specs.private.SideOrder.{lists_resource}

-- The item is a type item of another type than a resource.
abbrev pub lists_plain_type : Name × ItemKind → Bool
lists_plain_type e = lists_type e && not (lists_resource e)

-- The numbers before the first that is not below r; then those from it on.
abbrev pub taken_below : ℕ → List ℕ → List ℕ
taken_below r [] = []
taken_below r (n ∷ ns) = if ltb n r then n ∷ taken_below r ns else []

abbrev pub rest_from : ℕ → List ℕ → List ℕ
rest_from r [] = []
rest_from r (n ∷ ns) = if ltb n r then rest_from r ns else n ∷ ns

-- Two lists as one. A number of the second comes before the first of those left of the first list that is not below it.
abbrev pub merged : List ℕ → List ℕ → List ℕ
merged ns [] = ns
merged ns (r ∷ rs) = taken_below r ns ++ (r ∷ merged (rest_from r ns) rs)
