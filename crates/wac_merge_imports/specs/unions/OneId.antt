-- Each named type, function type and plain interface has one id in the merged collection.
use Rattle.std.specs.Prelude.{ℕ, ◌≡◌, ◌↔◌, List, [], ◌∷◌, Option, Some, None, slice_get}
use Rattle.wac_types_shapes.specs.primitives.Name.{Name, option_case}
use Rattle.wac_types_shapes.specs.declared.shapes.component.DefinedType.{DefinedType}
use Rattle.wac_types_shapes.specs.declared.shapes.component.DefinedTypeId.{DefinedTypeId}
use Rattle.wac_types_shapes.specs.declared.shapes.component.FuncType.{FuncType}
use Rattle.wac_types_shapes.specs.declared.shapes.component.FuncTypeId.{FuncTypeId}
use Rattle.wac_types_shapes.specs.declared.shapes.component.Interface.{Interface}
use Rattle.wac_types_shapes.specs.declared.shapes.component.InterfaceId.{InterfaceId}
use Rattle.wac_types_shapes.specs.declared.shapes.component.ItemKind.{ItemKind}
use Rattle.wac_types_shapes.specs.declared.shapes.component.ItemKind.TheVariants as kind
use Rattle.wac_types_shapes.specs.declared.shapes.component.ValueType.{ValueType}
use Rattle.wac_types_shapes.specs.declared.shapes.component.ValueType.TheVariants as val
use Rattle.wac_types_shapes.specs.declared.shapes.component.«Type».TheVariants as ty
use Rattle.wac_types_collection.specs.collection.Collection.{Collection, defined_values, func_values, item_at}
use Rattle.wac_merge_classes.specs.entries.Bindings.{AreBindings, ClassBindings}
use Rattle.wac_merge_classes.specs.entries.Classes.{AreClasses, Entry, by_names}
use Rattle.wac_merge_classes.specs.terms.Became.{AreFresh, became}
use Rattle.wac_merge_classes.specs.terms.ClassOrder.{IsWrittenOrder}
use Rattle.wac_merge_classes.specs.terms.Merge.{Merged}
use Rattle.wac_merge_classes.specs.declared.terms.fresh.Fresh.{Fresh}
use Rattle.wac_merge_classes.specs.declared.terms.parts.Export.{Export}
use Rattle.wac_merge_classes.specs.declared.terms.parts.Part.{Part}
use Rattle.wac_merge_classes.specs.declared.terms.parts.Union.{Union}
use Rattle.wac_merge_unions.specs.uses.Using.{AreUsing}
use Rattle.wac_merge_resources.specs.values.NamedTypes.{AreClassed, AreNamedAlike, AreUnited, IsOneType, named_type}
use Rattle.wac_merge_resources.specs.declared.values.named.NamedTypes.{NamedTypes}
use Rattle.wac_merge_resources.specs.renaming.MadeOf.{AreMade, other_name}
use Rattle.wac_merge_tables.specs.declared.made.made.Made.{Made}
use Rattle.wac_merge_imports.specs.unions.MergedClasses.{AreClassUnions, AreWrittenImports}
use Rattle.wac_merge_imports.specs.unions.OneInterface.{AreOfOneInterface}
use Rattle.wac_merge_imports.specs.unions.SharedUnions.{AreSharedUnions}
use Rattle.wac_merge_imports.specs.unions.WritingSteps.{AreImportsMadeOf, AreUnionsMadeOf}

-- The value types that an item mentions.
abbrev pub kind_values : Collection → ItemKind → List ValueType
kind_values c (kind.Value v) = v ∷ []
kind_values c (kind.TypeItem (ty.Value v)) = v ∷ []
kind_values c (kind.Func f) = option_case (item_at c.funcs f.0) [] func_values
kind_values c (kind.TypeItem (ty.Func f)) = option_case (item_at c.funcs f.0) [] func_values
kind_values c k = []

-- The definition that an alias in a collection refers to.
abbrev pub another : Collection → DefinedTypeId → Option DefinedTypeId
another c d = option_case (item_at c.defined d.0) None other_name

-- Two value types are at the same position of two lists.
abbrev pub AreBeside : List ValueType → List ValueType → ValueType → ValueType → Type 0
AreBeside vs ws v w = (i : ℕ) × (slice_get vs i ≡ Some v) × (slice_get ws i ≡ Some w)

-- A mentioned value type and its merged form.
-- The mention is in an export of a union, in the entry of a class, at the end of an alias, or in a definition.
pub data Became (c m : Collection) (es imports : List Entry) (us : List Union) (ws : List InterfaceId) (positions order : List ℕ) : ValueType → ValueType → Type 0 where
  in_union : (v w : ValueType) (u i : ℕ) (x : Union) (y : InterfaceId) (it : Interface) (e : Name × Export) (k : Name × ItemKind) → slice_get us u ≡ Some x → slice_get ws u ≡ Some y → item_at m.interfaces y.0 ≡ Some it
      → slice_get x.exports i ≡ Some e → slice_get it.exports i ≡ Some k → AreBeside (kind_values c e.1.kind) (kind_values m k.1) v w → Became c m es imports us ws positions order v w
  in_import : (v w : ValueType) (p k q : ℕ) (e x : Entry) → slice_get order p ≡ Some k → slice_get positions k ≡ Some q → slice_get es q ≡ Some e → slice_get imports p ≡ Some x → AreBeside (kind_values c e.kind) (kind_values m x.kind) v w
      → Became c m es imports us ws positions order v w
  at_end : (v w : ValueType) (d end : DefinedTypeId) → Became c m es imports us ws positions order (val.Defined d) w → another c d ≡ Some end → v ≡ val.Defined end → Became c m es imports us ws positions order v w
  in_definition : (v w : ValueType) (d e : DefinedTypeId) (y x : DefinedType) → Became c m es imports us ws positions order (val.Defined d) (val.Defined e) → another c d ≡ None → item_at c.defined d.0 ≡ Some y → item_at m.defined e.0 ≡ Some x
      → AreBeside (defined_values y) (defined_values x) v w → Became c m es imports us ws positions order v w

-- The function type of a function, or of a type item.
abbrev pub func_of : ItemKind → Option FuncTypeId
func_of (kind.Func f) = Some f
func_of (kind.TypeItem (ty.Func f)) = Some f
func_of k = None

-- A function type and its merged form. It is that of an export of a union or of the entry of a class.
pub data FuncBecame (c m : Collection) (es imports : List Entry) (us : List Union) (ws : List InterfaceId) (positions order : List ℕ) : FuncTypeId → FuncTypeId → Type 0 where
  under_name : (f g : FuncTypeId) (u i : ℕ) (x : Union) (y : InterfaceId) (it : Interface) (e : Name × Export) (k : Name × ItemKind) → slice_get us u ≡ Some x → slice_get ws u ≡ Some y → item_at m.interfaces y.0 ≡ Some it
      → slice_get x.exports i ≡ Some e → slice_get it.exports i ≡ Some k → func_of e.1.kind ≡ Some f → func_of k.1 ≡ Some g → FuncBecame c m es imports us ws positions order f g
  of_entry : (f g : FuncTypeId) (p k q : ℕ) (e x : Entry) → slice_get order p ≡ Some k → slice_get positions k ≡ Some q → slice_get es q ≡ Some e → slice_get imports p ≡ Some x → func_of e.kind ≡ Some f → func_of x.kind ≡ Some g
      → FuncBecame c m es imports us ws positions order f g

-- The merged types were made once for each named type, and unions share interfaces.
pub record AreMadeOnce (c m : Collection) (es : List Entry) (us : List Union) (ps : List Part) (bs : ClassBindings) (f : Fresh) (t : NamedTypes) (positions order : List ℕ) (imports : List Entry) : Type 0 where
  pub made : Made
  pub are : AreMade c t m made
  pub written : AreWrittenImports c m es us ps bs f order imports
  pub shared : AreSharedUnions c m us ps written.ids written.ws
  pub unions : AreUnionsMadeOf c m (λ p. became c ps bs f (Some p)) t made us written.ws
  pub imported : AreImportsMadeOf c m (became c ps bs f None) t made es positions order imports

-- Each named type, function type and plain interface has one id in the merged collection.
-- Definitions are one named type if parts export them under one name of one union, or if they are entries of one class.
-- The first fields are what the merge computes: unions, bindings, new resources, order and named types.
-- Merged definitions that are equal have one id if and only if they belong to one named type, or neither has a name.
pub record HasOneIdEach (c : Collection) (es : List Entry) (m : Merged) : Type 0 where
  pub us : List Union
  pub ps : List Part
  pub bs : ClassBindings
  pub f : Fresh
  pub numbers : List ℕ
  pub positions : List ℕ
  pub names : List (Name × ℕ)
  pub order : List ℕ
  pub t : NamedTypes
  pub classes : AreClasses by_names es numbers positions names
  pub ordered : IsWrittenOrder by_names c es order
  pub bindings : AreBindings c es bs
  pub unions : AreClassUnions c es us ps
  pub fresh : AreFresh c us bs f m.types
  pub bare : List Entry
  pub written : AreWrittenImports c m.types es us ps bs f order bare
  pub using : AreUsing by_names c es m.types bare m.imports
  pub united : AreUnited c us ps t
  pub classed : AreClassed c es numbers positions t
  pub named : (a b : DefinedTypeId) → IsOneType t a b ↔ AreNamedAlike c us ps es numbers positions a b
  pub one : (d e a b : DefinedTypeId) (x : DefinedType) → Became c m.types es bare us written.ws positions order (val.Defined d) (val.Defined a) → Became c m.types es bare us written.ws positions order (val.Defined e) (val.Defined b)
      → another c d ≡ None → another c e ≡ None → named_type t d ≡ named_type t e → item_at m.types.defined a.0 ≡ Some x → item_at m.types.defined b.0 ≡ Some x → a ≡ b
  pub apart : (d e a : DefinedTypeId) → Became c m.types es bare us written.ws positions order (val.Defined d) (val.Defined a) → Became c m.types es bare us written.ws positions order (val.Defined e) (val.Defined a)
      → another c d ≡ None → another c e ≡ None → named_type t d ≡ named_type t e
  pub one_func : (f g h : FuncTypeId) (x : FuncType) → FuncBecame c m.types es bare us written.ws positions order f g → FuncBecame c m.types es bare us written.ws positions order f h
      → item_at m.types.funcs g.0 ≡ Some x → item_at m.types.funcs h.0 ≡ Some x → g ≡ h
  pub one_interface : AreOfOneInterface c es order m
