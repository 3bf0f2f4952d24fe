-- What is told of the entries' types; private functions alone cite this.
use Rattle.std.specs.Prelude.{ℕ, ◌≡◌, ◌==◌, ◌+◌, ◌≤◌, ◌<◌, nat_lt, Bool, true, false, if◌then◌else◌, List, [], ◌∷◌, length, Option, Some, None, slice_get}
use Rattle.wac_types_shapes.specs.primitives.Name.{Name, find_name, option_case}
use Rattle.wac_types_shapes.specs.primitives.Tree.{imported, named, position, Place, Tree}
use Rattle.wac_types_shapes.specs.shapes.Kinds.{kind_type}
use Rattle.wac_types_shapes.specs.declared.shapes.component.DefinedTypeId.{DefinedTypeId}
use Rattle.wac_types_shapes.specs.declared.shapes.component.Interface.{Interface}
use Rattle.wac_types_shapes.specs.declared.shapes.component.InterfaceId.{InterfaceId}
use Rattle.wac_types_shapes.specs.declared.shapes.component.ItemKind.{ItemKind}
use Rattle.wac_types_shapes.specs.declared.shapes.component.ItemKind.TheVariants as kind
use Rattle.wac_types_shapes.specs.declared.shapes.component.ResourceId.{ResourceId}
use Rattle.wac_types_shapes.specs.declared.shapes.component.UsedType.{UsedType}
use Rattle.wac_types_shapes.specs.declared.shapes.component.ValueType.TheVariants as val
use Rattle.wac_types_shapes.specs.declared.shapes.component.«Type».TheVariants as ty
use Rattle.wac_types_collection.specs.collection.Collection.{Collection, IsWellFormed, holds_type, item_at}
use Rattle.wac_types_collection.specs.collection.Bound.{Bindings, own_name}
use Rattle.wac_types_collection.specs.collection.Names.{ExportsOnce}
use Rattle.wac_merge_classes.specs.entries.Agreement.{AllMembersAgree}
use Rattle.std.specs.List.{sum_by}
use Rattle.wac_merge_classes.specs.entries.Binding.{binding_class}
use Rattle.wac_merge_classes.specs.entries.Bindings.{AreHeld}
use Rattle.wac_merge_classes.specs.entries.Classes.{Entry, by_names, imported_as}
use Rattle.wac_merge_classes.specs.entries.Places.{own_resource}
use Rattle.wac_merge_classes.specs.terms.Faults.{HasNoCircle}
use Rattle.wac_merge_classes.specs.terms.Merge.{IsMerge, Merged}
use Rattle.wac_merge_imports.specs.unions.MergedScope.{BindsAsClasses}
use Rattle.wac_binary.specs.declared.sorts.Sort.{Sort}
use Rattle.wac_binary.specs.HasMeaning.{IsValue}
use Rattle.wac_encode_stacks.specs.Good.{Good, IsHeld, Stands, innermost, nothing_bound}
use Rattle.wac_encode_stacks.specs.Scopes.{Open, Where, at_type, at_export}
use Rattle.wac_types_weight.specs.Text.{entry_weight}
use Rattle.wac_encode_scopes.specs.declared.state.State.{State}
use Rattle.wac_encode_scopes.specs.Books.{opened}
use Rattle.wac_encode_scopes.specs.Roots.{IsRoot}
use Rattle.wac_encode_scopes.specs.private.Paid.{pending}
use Rattle.wac_encode_scopes.specs.private.Closed.{AreClosedTypes}
use Rattle.wac_encode_scopes.specs.private.Telling.{definition_in}
use Rattle.wac_encode_scopes.specs.States.{stack, RecordsHere}
use Rattle.wac_encode_interfaces.specs.private.Imports.{RefersToImport}
use Rattle.wac_encode_imports.specs.declared.told.Others.{Others}
use Rattle.wac_encode_imports.specs.declared.told.Teller.{Teller}
use Rattle.wac_encode_imports.specs.private.Imports.{merged_bindings}
use Rattle.wac_encode_imports.specs.private.ToldGraph.{entry_bindings, HasNoUnbound}
use Rattle.wac_encode_imports.specs.private.Others.{HaveAll, IsLeftOut}

-- The teller is one for a finished merge of the entries, and what it is given of them is true.
pub record IsTeller (t : Teller) : Type 0 where
  pub finished : t.merge.now.is_finished ≡ true
  pub ordered : IsWellFormed t.types.now
  pub once : ExportsOnce t.types.now
  pub held : AreHeld t.types.now t.merge.now.entries
  pub merged : IsMerge by_names t.types.now t.merge.now.entries t.merge.now.merge
  pub acyclic : HasNoCircle by_names t.types.now t.merge.now.entries
  pub bound : BindsAsClasses by_names t.types.now t.merge.now.entries t.merge.now.merge
  pub agreed : AllMembersAgree by_names t.types.now t.merge.now.entries
  pub clean : (merged : IsMerge by_names t.types.now t.merge.now.entries t.merge.now.merge) → HasNoUnbound t.types.now t.merge.now.entries merged.order
  pub closed : AreClosedTypes t.types.now t.closed.now
  pub counted : length t.places.now ≡ length (t.merge.now.merge).imports

-- The bindings of the entries' resources in the end.
abbrev pub end_bindings : (t : Teller) → IsTeller t → Bindings
end_bindings t is = entry_bindings t.types.now t.merge.now.entries (is.merged).order

-- The index of each import's place refers to the import.
abbrev pub ReferToImports : Merged → List (Sort × ℕ) → State → Type 0
ReferToImports m places s = (p : ℕ) (e : Entry) (place : Sort × ℕ) → slice_get m.imports p ≡ Some e → slice_get places p ≡ Some place
    → RefersToImport m.types (merged_bindings m) (innermost (stack false s)) (position p) e.kind place.1

-- The root has the imports of the merge at their places.
abbrev pub HasImports : Teller → State → Type 0
HasImports t s = ReferToImports t.merge.now.merge t.places.now s

-- The root is good for the entries' types under these bindings.
abbrev pub IsGood : Teller → Bindings → State → Type 0
IsGood t m s = Good t.types.now (m ∷ []) (stack false s)

-- The bindings, and that of one more resource in the end.
abbrev pub and_bound : Bindings → ResourceId → Bindings → Bindings
and_bound far r m q = if q.0 == r.0 then far q else m q

-- The bindings in the end of the resources with an id below n.
abbrev pub bound_below : Bindings → ℕ → Bindings
bound_below far n r = if nat_lt r.0 n then far r else None

-- Only what is recorded of the entries' types changed.
pub record ChangesRecords (old new : State) : Type 0 where
  pub change : Open → Open
  pub records : RecordsHere false change old new

-- The step binds a resource as in the end.
pub record BindsOne (t : Teller) (r : ResourceId) (old new : State) : Type 0 where
  pub bound : (is : IsTeller t) (m : Bindings) → IsGood t m old → m r ≡ None → IsGood t (and_bound (end_bindings t is) r m) new
  pub changes : ChangesRecords old new

-- The step binds the resources with an id below n as in the end.
pub record BindsBelow (t : Teller) (n : ℕ) (old new : State) : Type 0 where
  pub bound : (is : IsTeller t) → IsGood t nothing_bound old → IsGood t (bound_below (end_bindings t is) n) new
  pub changes : ChangesRecords old new

-- The step binds all resources as in the end.
pub record BindsAll (t : Teller) (old new : State) : Type 0 where
  pub bound : (is : IsTeller t) → IsGood t nothing_bound old → IsGood t (end_bindings t is) new
  pub changes : ChangesRecords old new

-- The step leaves a root good in which all resources are bound.
pub record KeepsGood (t : Teller) (old new : State) : Type 0 where
  pub good : (is : IsTeller t) → IsGood t (end_bindings t is) old → IsGood t (end_bindings t is) new
  pub changes : ChangesRecords old new

-- The import of the entry's class is at this position.
pub record IsImportOf (t : Teller) (e : Entry) (p : ℕ) : Type 0 where
  pub entry : Entry
  pub there : slice_get (t.merge.now.merge).imports p ≡ Some entry
  pub named : entry.name ≡ imported_as by_names t.merge.now.entries e.name

-- The resource is bound in the end to what the import exports under the name.
abbrev pub IsExport : Teller → ℕ → Name → ResourceId → Type 0
IsExport t p n r = (is : IsTeller t) → end_bindings t is r ≡ Some (record { out = 0; side = imported; path = position p ∷ named n ∷ [] })

-- The item's own resource, if it has one, is bound to the import's export of that name, or is among the others.
abbrev pub BindsItem : Teller → ℕ → Others → List (Name × UsedType) → Name × ItemKind → Type 0
BindsItem t p others uses e = (r : ResourceId) → own_resource t.types.now uses e ≡ Some r → IsLeftOut others r → IsExport t p e.0 r

-- The own resources of the interface that are not among the others are bound to the import's exports of their names.
abbrev pub BindsOwn : Teller → ℕ → Others → Interface → Type 0
BindsOwn t p others it = (r : ResourceId) (n : Name) → own_name t.types.now it.uses it.exports r ≡ Some n → IsLeftOut others r → IsExport t p n r

-- Those of an instance are.
abbrev pub BindsKind : Teller → ℕ → Others → ItemKind → Type 0
BindsKind t p others k = (id : InterfaceId) (it : Interface) → k ≡ kind.Instance id → item_at t.types.now.interfaces id.0 ≡ Some it → BindsOwn t p others it

-- The exports are of the collection.
abbrev pub AreHeldExports : Teller → Interface → Type 0
AreHeldExports t it = (j : ℕ) (e : Name × ItemKind) → slice_get it.exports j ≡ Some e → holds_type t.types.now (kind_type e.1) ≡ true

-- An item's own resource is noted, if the import does not bind it.
pub record NotesItem (t : Teller) (p : ℕ) (uses : List (Name × UsedType)) (e : Name × ItemKind) (old new : List Others) : Type 0 where
  pub counted : length new ≡ length old
  pub all : HaveAll old new
  pub noted : (others : Others) → slice_get new p ≡ Some others → BindsItem t p others uses e

-- Those of the first n exports are.
pub record NotesItems (t : Teller) (p : ℕ) (it : Interface) (n : ℕ) (old new : List Others) : Type 0 where
  pub counted : length new ≡ length old
  pub all : HaveAll old new
  pub noted : (j : ℕ) (e : Name × ItemKind) (others : Others) → j < n → slice_get it.exports j ≡ Some e → slice_get new p ≡ Some others → BindsItem t p others it.uses e

-- The own resources of the entry that the import of its class does not bind are among that import's.
abbrev pub IsNoted : Teller → Entry → List Others → Type 0
IsNoted t e sets = (p : ℕ) (others : Others) → IsImportOf t e p → slice_get sets p ≡ Some others → BindsKind t p others e.kind

-- The step notes this of an entry.
pub record Notes (t : Teller) (e : Entry) (old new : List Others) : Type 0 where
  pub counted : length new ≡ length old
  pub noted : IsNoted t e new
  pub all : HaveAll old new

-- Each import has its others, and this is noted of the first n entries.
pub record AreOthersFor (t : Teller) (n : ℕ) (sets : List Others) : Type 0 where
  pub counted : length sets ≡ length t.places.now
  pub noted : (j : ℕ) (e : Entry) → j < n → slice_get t.merge.now.entries j ≡ Some e → IsNoted t e sets

-- Each import has its others, and this is noted of all entries.
pub record AreOthers (t : Teller) (sets : List Others) : Type 0 where
  pub counted : length sets ≡ length t.places.now
  pub noted : (j : ℕ) (e : Entry) → slice_get t.merge.now.entries j ≡ Some e → IsNoted t e sets

-- The definition's tree at the root is at this place.
abbrev pub IsDefinitionAt : Teller → DefinedTypeId → Where → State → Type 0
IsDefinitionAt t d w s = (is : IsTeller t) → (tree : Tree) × IsHeld t.types.now (end_bindings t is) (ty.Value (val.Defined d)) tree × IsValue tree × Stands (innermost (stack false s)) tree w

-- The definition of an item of an instance, if it passes the test.
abbrev pub told_in : Collection → (DefinedTypeId → Bool) → Name × ItemKind → Option DefinedTypeId
told_in c test e = option_case (definition_in c e) None (λ d. if test d then Some d else None)

-- An instance exports each such definition of the interface.
abbrev pub HaveExports : Teller → (DefinedTypeId → Bool) → Interface → ℕ → State → Type 0
HaveExports t test it i s = (n : Name) (k : ItemKind) (d : DefinedTypeId) → find_name it.exports n ≡ Some k → told_in t.types.now test (n, k) ≡ Some d → IsDefinitionAt t d (at_export i n) s

-- The type index refers to the definition of a type item.
abbrev pub IsTypeImport : Teller → ItemKind → ℕ → State → Type 0
IsTypeImport t k i s = (n : Name) (d : DefinedTypeId) → definition_in t.types.now (n, k) ≡ Some d → IsDefinitionAt t d (at_type i) s

-- Later aliases of exports that are recorded may cost n more than before.
abbrev pub TellsWithin : Collection → ℕ → State → State → Type 0
TellsWithin c n old new = IsRoot old.here.content → pending c false (opened false new.here) ≤ pending c false (opened false old.here) + n

-- A resource that is at an export is bound under the export's name by the first class that binds it.
abbrev pub AreOwnNames : Teller → State → Type 0
AreOwnNames t s = (r : ResourceId) (j : ℕ) (n : Name) → (opened false s.here).binds r ≡ Some (at_export j n) → (k : ℕ) × (rest : List Place) × (binding_class by_names (t.merge.now.merge).types t.merge.now.entries r ≡ Some (k, named n ∷ rest))

-- The step binds resources under their own names, and records no exported value type.
pub record BindsNames (t : Teller) (old new : State) : Type 0 where
  pub names : AreOwnNames t old → AreOwnNames t new
  pub exports : (d : DefinedTypeId) → (opened false new.here).exports d ≡ (opened false old.here).exports d
  pub content : new.here.content ≡ old.here.content

-- The items of the interfaces and worlds that are imported.
abbrev pub entries_items : Collection → List Entry → ℕ
entries_items c es = sum_by (λ e. entry_weight c (kind_type e.kind)) es

-- Nothing is recorded of the types of any collection.
abbrev pub IsBlank : State → Type 0
IsBlank s = (c : Collection) → Good c (nothing_bound ∷ []) (stack false s)
