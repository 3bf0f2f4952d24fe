-- Unions as interfaces of the merged collection. Only contracts inside the merge cite this file.
use Rattle.std.specs.Prelude.{ℕ, ◌≡◌, Bool, true, false, List, [], Option, Some, None, slice_get}
use Rattle.std.specs.List.{AllZip}
use Rattle.wac_types_shapes.specs.primitives.Name.{Name}
use Rattle.wac_types_collection.specs.collection.Collection.{Collection, HasInterface, HasResource, item_at}
use Rattle.wac_types_collection.specs.collection.Held.{resolved}
use Rattle.wac_types_shapes.specs.declared.shapes.component.ResourceId.{ResourceId}
use Rattle.wac_types_shapes.specs.declared.shapes.component.Interface.{Interface}
use Rattle.wac_types_shapes.specs.declared.shapes.component.InterfaceId.{InterfaceId}
use Rattle.wac_types_shapes.specs.declared.shapes.component.ItemKind.{ItemKind}
use Rattle.wac_types_shapes.specs.declared.shapes.component.ItemKind.TheVariants as kind
use Rattle.wac_types_shapes.specs.declared.shapes.component.«Type».TheVariants as ty
use Rattle.wac_merge_classes.specs.entries.Bindings.{ClassBindings}
use Rattle.wac_merge_classes.specs.terms.Became.{own_in, became}
use Rattle.wac_merge_classes.specs.terms.Renaming.{IsRenamed}
use Rattle.wac_merge_classes.specs.declared.terms.parts.Part.{Part}
use Rattle.wac_merge_classes.specs.declared.terms.parts.Export.{Export}
use Rattle.wac_merge_classes.specs.declared.terms.parts.Union.{Union}
use Rattle.wac_merge_classes.specs.declared.terms.fresh.Fresh.{Fresh}

-- A resource that is an alias of another, under a name.
pub record IsAliasOf (m : Collection) (n : Name) (q a : ResourceId) : Type 0 where
  pub there : HasResource m a
  pub is : item_at m.resources a.0 ≡ Some (record { name = n; alias = Some (record { owner = None; source = q }) })

-- The union of an item's interfaces has an interface if the item is an instance or an interface.
abbrev pub IsGiven : Collection → ItemKind → Option InterfaceId → Type 0
IsGiven m (kind.Instance i) o = (j : InterfaceId) × (o ≡ Some j) × HasInterface m j
IsGiven m (kind.TypeItem (ty.Interface i)) o = (j : InterfaceId) × (o ≡ Some j) × HasInterface m j
IsGiven m k o = Unit {0}

-- An item of the first collection becomes one of the second. Its resources become others by f, and `inner` replaces its
-- interface.
abbrev pub IsWrittenAs : Collection → Collection → (ResourceId → ResourceId) → Option InterfaceId → Name → ItemKind → ItemKind → Type 0
IsWrittenAs c m f inner n (kind.TypeItem (ty.Resource q)) (kind.TypeItem (ty.Resource a)) = IsAliasOf m n (f (resolved c q)) a
IsWrittenAs c m f inner n (kind.TypeItem (ty.Interface i)) (kind.TypeItem (ty.Interface j)) = inner ≡ Some j
IsWrittenAs c m f inner n (kind.TypeItem (ty.Func g)) (kind.TypeItem (ty.Func h)) = IsRenamed c m f (ty.Func g) (ty.Func h)
IsWrittenAs c m f inner n (kind.TypeItem (ty.Value v)) (kind.TypeItem (ty.Value w)) = IsRenamed c m f (ty.Value v) (ty.Value w)
IsWrittenAs c m f inner n (kind.TypeItem (ty.World v)) (kind.TypeItem (ty.World w)) = v ≡ w
IsWrittenAs c m f inner n (kind.TypeItem (ty.Module v)) (kind.TypeItem (ty.Module w)) = v ≡ w
IsWrittenAs c m f inner n (kind.Func g) (kind.Func h) = IsRenamed c m f (ty.Func g) (ty.Func h)
IsWrittenAs c m f inner n (kind.Instance i) (kind.Instance j) = inner ≡ Some j
IsWrittenAs c m f inner n (kind.Component v) (kind.Component w) = v ≡ w
IsWrittenAs c m f inner n (kind.Module v) (kind.Module w) = v ≡ w
IsWrittenAs c m f inner n (kind.Value v) (kind.Value w) = IsRenamed c m f (ty.Value v) (ty.Value w)
IsWrittenAs c m f inner n a b = ⊥

-- The interface of the union at a position.
abbrev pub written_at : List InterfaceId → Option ℕ → Option InterfaceId
written_at ws None = None
written_at ws (Some v) = slice_get ws v

-- An export of a union becomes its new own resource, or the item that the first part exports.
abbrev pub IsWrittenExport : Collection → Collection → List Part → ClassBindings → Fresh → List InterfaceId → ℕ → Name × Export → Name × ItemKind → Type 0
IsWrittenExport c m ps bs f ws u (n, e) (o, k) = (n ≡ o) × under e.is_own
  where
    under : Bool → Type 0
    under true = (q : ResourceId) × (own_in f u n ≡ Some q) × (k ≡ kind.TypeItem (ty.Resource q))
    under false = IsWrittenAs c m (became c ps bs f (Some e.part)) (written_at ws e.inner) n e.kind k

-- Each union becomes an interface with the id given for it and without `uses`.
pub record AreWritten (c m : Collection) (us : List Union) (ps : List Part) (bs : ClassBindings) (f : Fresh) (ids : List (Option Name)) (ws : List InterfaceId) : Type 0 where
  pub written : (u : ℕ) (x : Union) → slice_get us u ≡ Some x → (w : InterfaceId) × (it : Interface) × (slice_get ws u ≡ Some w) × (item_at m.interfaces w.0 ≡ Some it)
      × (it.uses ≡ []) × (slice_get ids u ≡ Some it.id) × AllZip (IsWrittenExport c m ps bs f ws u) x.exports it.exports
