-- What a merge starts from. Only contracts inside the merge cite this file.
use Rattle.std.specs.Prelude.{ℕ, ◌≡◌, ◌↔◌, List}
use Rattle.wac_types_shapes.specs.declared.shapes.component.DefinedTypeId.{DefinedTypeId}
use Rattle.wac_types_collection.specs.collection.Collection.{Collection}
use Rattle.wac_merge_classes.specs.entries.Bindings.{ClassBindings}
use Rattle.wac_merge_classes.specs.entries.Classes.{Entry}
use Rattle.wac_merge_classes.specs.terms.Became.{AreBoundParts, AreFresh}
use Rattle.wac_merge_classes.specs.private.terms.MergedKinds.{AreListedOnce}
use Rattle.wac_types_collection.specs.private.subtyping.Extended.{IsExtended}
use Rattle.wac_merge_resources.specs.values.NamedTypes.{AreClassed, AreNamedAlike, AreUnited, IsOneType}
use Rattle.wac_merge_resources.specs.private.renaming.Ways.{AreOutward}
use Rattle.wac_merge_resources.specs.declared.renaming.became.Became.{Became}
use Rattle.wac_merge_imports.specs.unions.MergedClasses.{AreClassUnions}
use Rattle.wac_merge_imports.specs.declared.unions.merged.Basis.{Basis}

-- The unions of the classes, what their parts bind, the new resources and the named types are those of the entries.
pub record IsBasis (c m : Collection) (es : List Entry) (numbers positions : List ℕ) (bs : ClassBindings) (b : Basis) : Type 0 where
  pub unions : AreClassUnions c es b.unions.unions.items b.unions.parts.items
  pub listed : AreListedOnce c b.unions.parts.items
  pub bound : AreBoundParts c b.unions.parts.items b.bound.items
  pub outward : AreOutward b.unions.parts.items b.bound.items b.outward.items
  pub extended : IsExtended c m
  pub fresh : AreFresh c b.unions.unions.items bs b.fresh m
  pub united : AreUnited c b.unions.unions.items b.unions.parts.items b.named
  pub classed : AreClassed c es numbers positions b.named
  pub named : (d e : DefinedTypeId) → IsOneType b.named d e ↔ AreNamedAlike c b.unions.unions.items b.unions.parts.items es numbers positions d e

-- The parts, bindings, new resources and named types are those of the basis.
pub record IsBecame (b : Basis) (bs : ClassBindings) (became : Became) : Type 0 where
  pub parts : became.parts.now ≡ b.unions.parts.items
  pub bound : became.bound.now ≡ b.bound.items
  pub outward : became.outward.now ≡ b.outward.items
  pub bindings : became.bindings.now ≡ bs
  pub fresh : became.fresh.now ≡ b.fresh
  pub named : became.named.now ≡ b.named
