-- Types of one collection, rewritten over other resources in a collection that extends it. Only contracts inside the
-- merge cite this file.
use Rattle.std.specs.Prelude.{◌≡◌, true}
use Rattle.wac_types_collection.specs.collection.Collection.{Collection, HasResource, holds_type}
use Rattle.wac_types_collection.specs.collection.Held.{resolved}
use Rattle.wac_types_collection.specs.collection.Bound.{Bindings, held_tree}
use Rattle.wac_types_collection.specs.subtyping.Subtype.{type_tree, resource_names}
use Rattle.wac_types_shapes.specs.declared.shapes.component.ResourceId.{ResourceId}
use Rattle.wac_types_shapes.specs.declared.shapes.component.«Type».{«Type» as AnyType}

-- Each resource without alias becomes a resource of the second collection that has no alias and has the same name.
abbrev pub AreEnds : Collection → Collection → (ResourceId → ResourceId) → Type 0
AreEnds c m f = (r : ResourceId) → HasResource c r → HasResource m (f (resolved c r)) × (resolved m (f (resolved c r)) ≡ f (resolved c r)) × (resource_names m (f (resolved c r)) ≡ resource_names c (resolved c r))

-- The second collection binds what each resource becomes as the first binds the resource.
abbrev pub Fits : Collection → Bindings → Bindings → (ResourceId → ResourceId) → Type 0
Fits c n m f = (r : ResourceId) → HasResource c r → m (f (resolved c r)) ≡ n (resolved c r)

-- The rewritten type has the same trees as the type, under bindings that correspond.
pub record IsRenamed (c m : Collection) (f : ResourceId → ResourceId) (t u : AnyType) : Type 0 where
  pub held : holds_type m u ≡ true
  pub placed : (n around : Bindings) → Fits c n around f → held_tree m around u ≡ held_tree c n t
  pub named : type_tree m u ≡ type_tree c t
