-- Unions, as they are written one by one. Only contracts inside the merge cite this file.
use Rattle.std.specs.Prelude.{ℕ, ◌+◌, ◌<◌, ◌≤◌, ◌≡◌, true, List, [], length, Option, Some, None, slice_get}
use Rattle.std.specs.List.{AllZip, list_all}
use Rattle.wac_types_shapes.specs.primitives.Name.{Name, find_name}
use Rattle.wac_types_collection.specs.collection.Collection.{Collection, HasInterface, holds_all, holds_type, item_at, kind_types}
use Rattle.wac_types_shapes.specs.shapes.Kinds.{kind_type}
use Rattle.wac_types_collection.specs.collection.Uses.{is_named_right}
use Rattle.wac_types_shapes.specs.declared.shapes.component.Interface.{Interface}
use Rattle.wac_types_shapes.specs.declared.shapes.component.InterfaceId.{InterfaceId}
use Rattle.wac_types_shapes.specs.declared.shapes.component.ItemKind.{ItemKind}
use Rattle.wac_types_shapes.specs.declared.shapes.component.ResourceId.{ResourceId}
use Rattle.wac_merge_classes.specs.terms.Became.{AreFresh, became}
use Rattle.wac_merge_classes.specs.entries.Classes.{Entry}
use Rattle.wac_merge_resources.specs.renaming.MadeOf.{IsKindMadeOf}
use Rattle.wac_merge_resources.specs.private.renaming.RenamedTypes.{AreRenamed, CanRenameAll}
use Rattle.wac_merge_classes.specs.terms.Unions.{AreUnions}
use Rattle.wac_merge_classes.specs.terms.Writing.{IsWrittenExport}
use Rattle.wac_merge_resources.specs.declared.renaming.became.Became.{Became}
use Rattle.wac_merge_tables.specs.declared.made.made.Made.{Made}
use Rattle.wac_merge_resources.specs.declared.renaming.renamer.Renamed.{Renamed}
use Rattle.wac_merge_resources.specs.declared.renaming.renamer.Renaming.{Renaming}
use Rattle.wac_merge_classes.specs.declared.terms.parts.Export.{Export}
use Rattle.wac_merge_classes.specs.declared.terms.parts.Union.{Union}
use Rattle.wac_merge_resources.specs.declared.values.named.NamedTypes.{NamedTypes}

-- The list in order has the interfaces that were written, from the last of `count` unions on.
abbrev pub HasWritten : ℕ → List InterfaceId → List InterfaceId → Type 0
HasWritten count written ws = (j v : ℕ) (w : InterfaceId) → slice_get written j ≡ Some w → j + v + 1 ≡ count → slice_get ws v ≡ Some w

-- The union at the position, if there is one, is among the last `done` of `count` unions.
abbrev pub IsBehind : ℕ → ℕ → Option ℕ → Type 0
IsBehind count done position = (v : ℕ) → position ≡ Some v → (v < count) × (count ≤ v + done)

-- The interface of the union at the position, if there is one.
abbrev pub IsFoundIn : ℕ → List InterfaceId → Option ℕ → Option InterfaceId → Type 0
IsFoundIn count written None o = o ≡ None
IsFoundIn count written (Some v) o = (j : ℕ) × (w : InterfaceId) × (slice_get written j ≡ Some w) × (j + v + 1 ≡ count) × (o ≡ Some w)

-- A union has an export under a name.
abbrev pub HasExport : List Union → ℕ → Name → Export → Type 0
HasExport us u n e = (x : Union) × (slice_get us u ≡ Some x) × (find_name x.exports n ≡ Some e)

-- The export of a union got this item, whichever interfaces the earlier unions get.
pub record IsWrittenItem (c m : Collection) (b : Became) (count : ℕ) (written : List InterfaceId) (u : ℕ) (n : Name) (e : Export) (k : ItemKind) : Type 0 where
  pub held : holds_type m (kind_type k) ≡ true
  pub named : is_named_right m [] (n, k) ≡ true
  pub export : (ws : List InterfaceId) → HasWritten count written ws → IsWrittenExport c m b.parts.now b.bindings.now b.fresh.now ws u (n, e) (n, k)

-- The exports of a union got these items.
pub record AreWrittenItems (c m : Collection) (b : Became) (count : ℕ) (written : List InterfaceId) (u : ℕ) (es : List (Name × Export)) (ks : List (Name × ItemKind)) : Type 0 where
  pub held : holds_all m (kind_types ks) ≡ true
  pub named : list_all (is_named_right m []) ks ≡ true
  pub exports : (ws : List InterfaceId) → HasWritten count written ws → AllZip (IsWrittenExport c m b.parts.now b.bindings.now b.fresh.now ws u) es ks

-- A union got an interface without uses, with this id.
pub record IsWrittenUnion (c m : Collection) (b : Became) (count : ℕ) (written : List InterfaceId) (u : ℕ) (x : Union) (id : Option Name) (w : InterfaceId) : Type 0 where
  pub interface : Interface
  pub there : item_at m.interfaces w.0 ≡ Some interface
  pub unused : interface.uses ≡ []
  pub named : id ≡ interface.id
  pub exports : (ws : List InterfaceId) → HasWritten count written ws → AllZip (IsWrittenExport c m b.parts.now b.bindings.now b.fresh.now ws u) x.exports interface.exports

-- All that is known when a union is written after the later ones.
pub record CanWrite (c m : Collection) (us : List Union) (b : Became) (written : List InterfaceId) (u : ℕ) : Type 0 where
  pub unions : (roots : List (List InterfaceId)) × AreUnions c roots us b.parts.now
  pub fresh : AreFresh c us b.bindings.now b.fresh.now m
  pub known : CanRenameAll m c b
  pub counted : length written + u + 1 ≡ length us
  pub held : (j : ℕ) (w : InterfaceId) → slice_get written j ≡ Some w → HasInterface m w

-- All recorded types are rewritten correctly for this part.
abbrev pub AreRenamedIn : Collection → Collection → Became → Option ℕ → Renamed → Type 0
AreRenamedIn c m b part memo = (s : Renaming) → s.types.now ≡ c → s.became.now ≡ b → s.part ≡ part → AreRenamed m s memo

-- What resources become in each part, and outside all parts.
abbrev pub in_parts : Collection → Became → ℕ → ResourceId → ResourceId
in_parts c b p = became c b.parts.now b.bindings.now b.fresh.now (Some p)

abbrev pub outside : Collection → Became → ResourceId → ResourceId
outside c b = became c b.parts.now b.bindings.now b.fresh.now None

-- The types in the items of a union's exports were made once. In each part resources become others by f.
abbrev pub AreItemsMadeOf : Collection → Collection → (ℕ → ResourceId → ResourceId) → NamedTypes → Made → List (Name × Export) → List (Name × ItemKind) → Type 0
AreItemsMadeOf c m f t made = AllZip (λ e k. IsKindMadeOf c m (f e.1.part) t made e.1.kind k.1)

-- The types in the interface of a union were made once.
pub record IsUnionMadeOf (c m : Collection) (f : ℕ → ResourceId → ResourceId) (t : NamedTypes) (made : Made) (x : Union) (w : InterfaceId) : Type 0 where
  pub interface : Interface
  pub there : item_at m.interfaces w.0 ≡ Some interface
  pub items : AreItemsMadeOf c m f t made x.exports interface.exports

-- The types in the interfaces of all unions were made once.
abbrev pub AreUnionsMadeOf : Collection → Collection → (ℕ → ResourceId → ResourceId) → NamedTypes → Made → List Union → List InterfaceId → Type 0
AreUnionsMadeOf c m f t made us ws = (u : ℕ) (x : Union) (w : InterfaceId) → slice_get us u ≡ Some x → slice_get ws u ≡ Some w → IsUnionMadeOf c m f t made x w

-- The types in each import were made once, from the entry at the position of its class. Resources become others by f.
abbrev pub AreImportsMadeOf : Collection → Collection → (ResourceId → ResourceId) → NamedTypes → Made → List Entry → List ℕ → List ℕ → List Entry → Type 0
AreImportsMadeOf c m f t made es positions order imports = (p k q : ℕ) (e x : Entry) → slice_get order p ≡ Some k → slice_get positions k ≡ Some q → slice_get es q ≡ Some e → slice_get imports p ≡ Some x → IsKindMadeOf c m f t made e.kind x.kind
