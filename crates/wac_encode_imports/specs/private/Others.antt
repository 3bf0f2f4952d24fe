-- Resources of each import, as they are noted; private functions alone cite this.
use Rattle.std.specs.Prelude.{ℕ, ◌≡◌, true, false, List, length, Some, slice_get}
use Rattle.wac_types_shapes.specs.declared.shapes.component.ResourceId.{ResourceId}
use Rattle.wac_encode_scopes.specs.private.Telling.{is_one_of}
use Rattle.wac_encode_imports.specs.declared.told.Others.{Others}

-- The resource is not among these.
abbrev pub IsLeftOut : Others → ResourceId → Type 0
IsLeftOut o r = is_one_of o.resources.keys r ≡ false

-- No import has fewer resources than before.
abbrev pub HaveAll : List Others → List Others → Type 0
HaveAll old new = (p : ℕ) (o : Others) → slice_get new p ≡ Some o → (q : Others) × (slice_get old p ≡ Some q) × ((r : ResourceId) → IsLeftOut o r → IsLeftOut q r)

-- The resource is added to those of the import at the position.
pub record AddsOther (p : ℕ) (r : ResourceId) (old new : List Others) : Type 0 where
  pub counted : length new ≡ length old
  pub all : HaveAll old new
  pub there : (o : Others) → slice_get new p ≡ Some o → is_one_of o.resources.keys r ≡ true
