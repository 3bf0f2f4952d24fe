-- The export that names a resource, where several list it. A listing is a resource type that is an export, or an export
-- of an instance. It leads to the listing that it was taken from: that of the index which is exported; and in an
-- instance of a component, that of the argument whose resource it is. Names in one exported instance have no order here,
-- and neither have those in a component that is exported.
use Rattle.std.specs.Prelude.{ℕ, zero, suc, ◌≡◌, T, Bool, true, false, not, ltb, if◌then◌else◌, ◌||◌, List, [], ◌∷◌, ◌++◌, length}
use Rattle.std.specs.List.{AllByRecursion}
use Rattle.wac_types_shapes.specs.primitives.Name.{Name, same_name}
use Rattle.wac_types_shapes.specs.primitives.Tree.{Side, exported, Place, position, named, Leaf, Tree, absent, resource, instance, type_equal, instance_item, moved, further_out, type_in}
use Rattle.wac_binary.specs.declared.sorts.Sort.TheVariants as s
use Rattle.wac_binary.specs.Unfold.{type_at}
use Rattle.wac_component.specs.Parts.{Part, instantiate_part, exports_part, export_part, Parts, nothing, more}
use Rattle.wac_component.specs.Open.{nowhere, bound_here, resource_at, new_instance}
use Rattle.wac_component.specs.Context.{Context, empty_context, items_named, indexed_item, with_index, items_listed, ascribed, next_part, after_parts, after_part}
use Rattle.wac_component.specs.ResourceNames.{is_export_at, is_made, resource_in, component_type}

-- An open item with these resources in place of its own.
abbrev pub relisted : (List Place → Leaf) → Tree → Tree
relisted r (type_equal (resource l)) = type_equal (resource (r []))
relisted r (instance_item (instance items)) =
    instance_item (instance (λ n. relisted (λ p. further_out (r (named n ∷ p))) (items n)))
relisted r t = t

-- The context after parts, in which each listing is a resource of its own; and what each part listed, as it was before.
pub record Listings : Type 0 where
  pub context : Context
  pub sources : List Tree

-- The step of `source_of`, with the parts of the binding given apart.
abbrev pub source_from : List Tree → ℕ → Side → List Place → Leaf
source_from sources zero exported (position k ∷ p) = resource_at (type_at sources k) p
source_from sources o s p = nowhere

-- The listing from which a listing was taken.
abbrev pub source_of : List Tree → Leaf → Leaf
source_of sources l = source_from sources l.out l.side l.path

-- Whether a listing leads to another in at most so many steps.
abbrev pub leads_within : ℕ → List Tree → Leaf → Leaf → Bool
leads_within zero sources l m = false
leads_within (suc n) sources l m = let o = source_of sources l in is_export_at o m.path || leads_within n sources o m

-- The number of entries before a name.
abbrev pub place_of : List (Name × Tree) → Name → ℕ
place_of [] n = 0
place_of (e ∷ es) n = if same_name n e.0 then 0 else suc (place_of es n)

-- The name of the export that a path begins with.
abbrev pub first_name : List Place → Name
first_name (named n ∷ p) = n
first_name _ = []

-- Whether the first name comes before the second or is the same: an interface name before a label, then in order.
abbrev pub comes_first : (Name → Bool) → List (Name × Tree) → Name → Name → Bool
comes_first is_interface es m n =
    let in_order = not (ltb (place_of es n) (place_of es m)) in
    if is_interface m then (if is_interface n then in_order else true) else (if is_interface n then false else in_order)

-- The listing at a path of exports.
abbrev pub listing_at : Listings → List Place → Leaf
listing_at l = resource_in (items_named l.context.exports)

-- Whether the listing at the first path of exports leads to that at the second, which is another.
abbrev pub leads : Listings → List Place → List Place → Bool
leads l p q =
    if is_export_at (listing_at l p) (listing_at l q).path then false
    else leads_within (length l.sources) l.sources (listing_at l p) (listing_at l q)

module _ (module_tree_of : List ℕ → Tree) where
  -- What a part lists: an instance of a component, an instance of exports, or an exported type.
  abbrev pub listed_by : Part → Context → Tree
  listed_by (instantiate_part i args) c = new_instance c.count (items_listed c args) (type_in (type_at c.components i))
  listed_by (exports_part es) c = instance_item (instance (λ n. moved further_out (items_listed c es n)))
  listed_by (export_part n s.«Type» i d) c = ascribed c (indexed_item c s.«Type» i) d
  listed_by p c = absent

  -- The context after one part, with what it lists.
  abbrev pub after_listing : Part → Context → Tree → Context
  after_listing (instantiate_part i args) c x = with_index c x
  after_listing (exports_part es) c x = with_index c x
  after_listing (export_part n s.«Type» i d) c x = with_index (record c { exports = c.exports ++ (n, x) ∷ [] }) x
  after_listing p c x = after_part module_tree_of p c []

  -- The listings after parts of a component.
  abbrev pub listings_after : Parts → Listings → Listings
  listings_after nothing l = l
  listings_after (more p ps) l =
      let c = l.context in
      let x = listed_by p c in
      let anew = relisted (λ q. bound_here exported (position c.count ∷ q)) x in
      listings_after ps (record { context = next_part (after_listing p c anew); sources = l.sources ++ x ∷ [] })

  -- The listings of a component.
  abbrev pub listings_of : Parts → Listings
  listings_of ps = listings_after ps (record { context = empty_context; sources = [] })

  -- The resource at a path of the exports.
  abbrev pub exported_resource : Parts → List Place → Leaf
  exported_resource ps = resource_in (items_named (after_parts module_tree_of ps empty_context []).exports)

  -- The listing at this path leads to no other listing of its resource.
  abbrev pub LeadsNowhere : Parts → List Place → Type 0
  LeadsNowhere ps p =
      (q : List Place) → exported_resource ps q ≡ exported_resource ps p → leads (listings_of ps) p q ≡ false

  -- A resource that a part made is named at this path: of its listings that lead to no other one, this comes first.
  abbrev pub IsOwner : (is_interface : Name → Bool) → Parts → List Place → Type 0
  IsOwner is_interface ps p = T (is_made (exported_resource ps p)) → LeadsNowhere ps p × (
      (q : List Place) → exported_resource ps q ≡ exported_resource ps p → LeadsNowhere ps q →
      T (comes_first is_interface (listings_of ps).context.exports (first_name p) (first_name q)))

  -- The tree is the type of the component whose resources are named by their owners.
  abbrev pub IsTypeByOwners : (is_interface : Name → Bool) → Parts → Tree → Type 0
  IsTypeByOwners is_interface ps t =
      (paths : List (List Place)) × AllByRecursion (IsOwner is_interface ps) paths ×
      ((z : Leaf) → t ≡ component_type z paths (after_parts module_tree_of ps empty_context []))
