-- Which merged imports bind the resources that others mention, and which import binds a resource of the entries.
use Rattle.std.specs.Prelude.{ℕ, ◌≡◌, ◌≤◌, List, [], ◌∷◌, Some, slice_get}
use Rattle.wac_types_shapes.specs.primitives.Name.{Name}
use Rattle.wac_types_shapes.specs.declared.shapes.component.ResourceId.{ResourceId}
use Rattle.wac_types_collection.specs.collection.Bound.{held_item}
use Rattle.wac_types_shapes.specs.primitives.Tree.{Place, imported, position}
use Rattle.wac_merge_classes.specs.entries.Binding.{binding_class, root_bindings}
use Rattle.wac_merge_classes.specs.entries.Classes.{Entry, NameRules, canonical, class_names}
use Rattle.wac_merge_classes.specs.terms.ClassOrder.{Mentions, begins_at}
use Rattle.wac_merge_classes.specs.terms.Merge.{Merged}

-- An import mentions no resource that a later import binds.
abbrev pub MentionsBefore : NameRules → Merged → Type 0
MentionsBefore rules m = (p j : ℕ) (e : Entry) → slice_get m.imports p ≡ Some e
    → Mentions (λ l. begins_at j l.path) (held_item m.types (root_bindings rules m.types m.imports (λ i. i)) imported (position p ∷ []) e.kind) → j ≤ p

-- The import at a position is that of the first class of the entries that binds a resource. It binds it under a path.
pub record IsRootPlace (rules : NameRules) (es : List Entry) (m : Merged) (r : ResourceId) (p : ℕ) (path : List Place) : Type 0 where
  pub number : ℕ
  pub class : Name
  pub entry : Entry
  pub first : binding_class rules m.types es r ≡ Some (number, path)
  pub numbered : slice_get (class_names rules es) number ≡ Some class
  pub there : slice_get m.imports p ≡ Some entry
  pub named : entry.name ≡ canonical rules es class
