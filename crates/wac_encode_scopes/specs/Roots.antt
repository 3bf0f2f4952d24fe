-- Imports of the root.
use Rattle.std.specs.Prelude.{ℕ, ◌≡◌, Bool, not, List, [], ◌∷◌, ◌++◌, None}
use Rattle.wac_types_shapes.specs.primitives.Name.{Name}
use Rattle.wac_types_shapes.specs.primitives.Tree.{imported, Place, Tree, type_equal, instance_item, resource}
use Rattle.wac_types_shapes.specs.declared.shapes.component.ResourceId.{ResourceId}
use Rattle.wac_types_collection.specs.collection.Collection.{Collection}
use Rattle.wac_types_collection.specs.collection.Bound.{Bindings}
use Rattle.wac_binary.specs.declared.sorts.Description.{Description}
use Rattle.wac_binary.specs.declared.sorts.Description.TheVariants as e
use Rattle.wac_binary.specs.Items.{Item, import_item}
use Rattle.wac_binary.specs.Unfold.{Scope as Env}
use Rattle.wac_encode_scopes.specs.declared.encodable.Encodable.{Encodable}
use Rattle.wac_encode_scopes.specs.declared.encodable.Encodable.TheVariants.{Builder}
use Rattle.wac_encode_scopes.specs.declared.state.State.{State}
use Rattle.wac_encode_scopes.specs.Contents.{content_of}
use Rattle.wac_encode_scopes.specs.Books.{opened}
use Rattle.wac_encode_scopes.specs.States.{stack}
use Rattle.wac_encode_scopes.specs.private.Listing.{Describes}
use Rattle.wac_encode_stacks.specs.Scopes.{at_type, bind_at}
use Rattle.wac_encode_stacks.specs.private.Beside.{written_as}
use Rattle.wac_encode_stacks.specs.Good.{At, Good, innermost, Onward}
use Rattle.wac_encode_stacks.specs.private.Laws.{Adds}
use Rattle.wac_encode_stacks.specs.Listed.{calling}
use Rattle.wac_encode_stacks.specs.Instances.{position_of, import_leaf}

abbrev pub IsRoot : Encodable → Type 0
IsRoot (Builder items) = Unit {0}
IsRoot _ = ⊥

-- The items of the root.
abbrev pub items_of : Encodable → List Item
items_of (Builder items) = items
items_of _ = []

-- The root with an import appended.
abbrev pub and_import : Name → Description → Encodable → Encodable
and_import n d x = Builder (items_of x ++ import_item n d ∷ [])

-- The index of an imported type item refers to its type. That of an imported instance refers to the import at a position.
abbrev pub ImportRefersTo : Env → Place → Description → ℕ → Tree → Type 0
ImportRefersTo w p (e.Equal i) k (type_equal t) = At w.types k t
ImportRefersTo w p (e.Instance i) k (instance_item t) = At w.instances k (record { type = t; side = imported; path = p ∷ [] })
ImportRefersTo w p d k t = Unit {0}

-- The root imports an item with this tree, which has the index k.
abbrev pub ImportsItem : Description → State → State → ℕ → Type 0
ImportsItem d old new k = (c : Collection) (b : Bool) (m : Bindings) (ms : List Bindings) (t : Tree) → Good c (m ∷ ms) (stack b old) → Describes (innermost (stack b old)) d t
    → Onward c (m ∷ ms) (stack b old) (stack b new) × ImportRefersTo (innermost (stack b new)) (position_of (items_of old.here.content)) d k t

-- The root imports a fresh resource, which is recorded at the type index k, and so is bound if it was not bound before.
pub record ImportsResource (b : Bool) (r : ResourceId) (old new : State) (k : ℕ) : Type 0 where
  pub around : new.around ≡ old.around
  pub recorded : opened b new.here ≡ bind_at r (at_type k) (record (opened b old.here) { content = content_of new.here.content })
  pub other : opened (not b) new.here ≡ written_as (opened b new.here) (opened (not b) old.here)
  pub adds : (c : Collection) (m : Bindings) (ms : List Bindings) → Good c (m ∷ ms) (stack b old) → m r ≡ None
      → Adds c (calling r (import_leaf (items_of old.here.content)) m ∷ ms) (stack b old) (stack b new) k (resource (import_leaf (items_of old.here.content)))
