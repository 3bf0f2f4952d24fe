-- Rewritten types in terms of what was made for each named type. Only contracts inside the merge cite this file.
use Rattle.std.specs.Prelude.{ℕ, ◌≡◌, ◌⊎◌, List, map, Option, Some, None, slice_get}
use Rattle.wac_types_shapes.specs.declared.shapes.component.DefinedType.{DefinedType}
use Rattle.wac_types_shapes.specs.declared.shapes.component.DefinedType.TheVariants as def
use Rattle.wac_types_shapes.specs.declared.shapes.component.DefinedTypeId.{DefinedTypeId}
use Rattle.wac_types_shapes.specs.declared.shapes.component.FuncType.{FuncType}
use Rattle.wac_types_shapes.specs.declared.shapes.component.FuncTypeId.{FuncTypeId}
use Rattle.wac_types_shapes.specs.declared.shapes.component.ItemKind.{ItemKind}
use Rattle.wac_types_shapes.specs.declared.shapes.component.ItemKind.TheVariants as kind
use Rattle.wac_types_shapes.specs.declared.shapes.component.ResourceId.{ResourceId}
use Rattle.wac_types_shapes.specs.declared.shapes.component.ValueType.{ValueType}
use Rattle.wac_types_shapes.specs.declared.shapes.component.ValueType.TheVariants as val
use Rattle.wac_types_shapes.specs.declared.shapes.component.«Type».TheVariants as ty
use Rattle.wac_types_collection.specs.collection.Collection.{Collection, defined_values, func_values, item_at}
use Rattle.wac_types_collection.specs.collection.Held.{resolved}
use Rattle.wac_merge_tables.specs.made.Made.{AreApart, AreThere, IsFuncMadeFor, IsMadeFor}
use Rattle.wac_merge_tables.specs.declared.made.made.Made.{Made}
use Rattle.wac_merge_classes.specs.terms.Values.{definition}
use Rattle.wac_merge_resources.specs.values.NamedTypes.{named_type}
use Rattle.wac_merge_resources.specs.declared.values.named.NamedTypes.{NamedTypes}

-- The merged collection has what was made, and each made definition belongs to one named type.
pub record AreMade (c : Collection) (t : NamedTypes) (m : Collection) (made : Made) : Type 0 where
  pub there : AreThere m made
  pub apart : AreApart c (named_type t) made

-- The definition that an alias refers to.
abbrev pub other_name : DefinedType → Option DefinedTypeId
other_name (def.Alias (val.Defined d)) = Some d
other_name x = None

-- The placeholder for each value type in an outline.
abbrev pub any_value : ValueType
any_value = val.Own (record { 0 = 0 })

abbrev pub any_maybe : Option ValueType → Option ValueType
any_maybe None = None
any_maybe (Some v) = Some any_value

-- The outline of a definition: its constructor, its names, and the number of its value types, but not these themselves.
abbrev pub outline : DefinedType → DefinedType
outline (def.Tuple vs) = def.Tuple (map (λ v. any_value) vs)
outline (def.List v) = def.List any_value
outline (def.FixedSizeList v n) = def.FixedSizeList any_value n
outline (def.Option v) = def.Option any_value
outline (def.Result v w) = def.Result (any_maybe v) (any_maybe w)
outline (def.Variant x) = def.Variant (record { cases = map (λ e. (e.0, any_maybe e.1)) x.cases })
outline (def.Record x) = def.Record (record { fields = map (λ e. (e.0, any_value)) x.fields })
outline (def.Flags x) = def.Flags x
outline (def.Enum x) = def.Enum x
outline (def.Alias v) = def.Alias any_value
outline (def.Stream v) = def.Stream (any_maybe v)
outline (def.Future v) = def.Future (any_maybe v)

-- The outline of a function type.
abbrev pub func_outline : FuncType → FuncType
func_outline f = record { params = map (λ e. (e.0, any_value)) f.params; result = any_maybe f.result; is_async = f.is_async }

-- A value type without a definition, rewritten: a handle is of what its resource becomes.
abbrev pub plain_value : Collection → (ResourceId → ResourceId) → ValueType → Option ValueType
plain_value c f (val.Primitive p) = Some (val.Primitive p)
plain_value c f (val.Own r) = Some (val.Own (f (resolved c r)))
plain_value c f (val.Borrow r) = Some (val.Borrow (f (resolved c r)))
plain_value c f (val.Defined d) = None

-- The second value type is the first, rewritten with definitions made once for each named type. Resources become others
-- by f. An alias is rewritten as the definition that it refers to, another definition as one with its outline, part by
-- part.
pub data IsMadeOf (c : Collection) (f : ResourceId → ResourceId) (t : NamedTypes) (made : Made) : ValueType → ValueType → Type 0 where
  plain : (v w : ValueType) → plain_value c f v ≡ Some w → IsMadeOf c f t made v w
  alias : (v w : ValueType) (d end : DefinedTypeId) (y : DefinedType) → definition v ≡ Some d → item_at c.defined d.0 ≡ Some y → other_name y ≡ Some end → IsMadeOf c f t made (val.Defined end) w → IsMadeOf c f t made v w
  anew : (v w : ValueType) (d e : DefinedTypeId) (y x : DefinedType) → definition v ≡ Some d → definition w ≡ Some e → item_at c.defined d.0 ≡ Some y → other_name y ≡ None → IsMadeFor made (named_type t d) x e → outline x ≡ outline y
      → ((i : ℕ) (a b : ValueType) → slice_get (defined_values y) i ≡ Some a → slice_get (defined_values x) i ≡ Some b → IsMadeOf c f t made a b) → IsMadeOf c f t made v w

-- The second value types are the first, rewritten in this way, in order.
abbrev pub AreMadeOf : Collection → (ResourceId → ResourceId) → NamedTypes → Made → List ValueType → List ValueType → Type 0
AreMadeOf c f t made vs ws = (i : ℕ) (a b : ValueType) → slice_get vs i ≡ Some a → slice_get ws i ≡ Some b → IsMadeOf c f t made a b

-- The second function type is the first, or was made from it once, with its outline and rewritten value types.
pub record IsFuncMadeOf (c m : Collection) (becomes : ResourceId → ResourceId) (t : NamedTypes) (made : Made) (f g : FuncTypeId) : Type 0 where
  pub before : FuncType
  pub after : FuncType
  pub is : item_at c.funcs f.0 ≡ Some before
  pub became : item_at m.funcs g.0 ≡ Some after
  pub outlined : func_outline after ≡ func_outline before
  pub values : AreMadeOf c becomes t made (func_values before) (func_values after)
  pub once : (g ≡ f) ⊎ IsFuncMadeFor made f after g

-- The value types and function types of an item are rewritten in this way. A resource mentions none, nor do other items,
-- which stay of their sort.
abbrev pub IsKindMadeOf : Collection → Collection → (ResourceId → ResourceId) → NamedTypes → Made → ItemKind → ItemKind → Type 0
IsKindMadeOf c m f t made k (kind.TypeItem (ty.Resource q)) = Unit {0}
IsKindMadeOf c m f t made (kind.Value v) (kind.Value w) = IsMadeOf c f t made v w
IsKindMadeOf c m f t made (kind.TypeItem (ty.Value v)) (kind.TypeItem (ty.Value w)) = IsMadeOf c f t made v w
IsKindMadeOf c m f t made (kind.Func a) (kind.Func b) = IsFuncMadeOf c m f t made a b
IsKindMadeOf c m f t made (kind.TypeItem (ty.Func a)) (kind.TypeItem (ty.Func b)) = IsFuncMadeOf c m f t made a b
IsKindMadeOf c m f t made (kind.Value v) l = ⊥
IsKindMadeOf c m f t made (kind.TypeItem (ty.Value v)) l = ⊥
IsKindMadeOf c m f t made (kind.Func a) l = ⊥
IsKindMadeOf c m f t made (kind.TypeItem (ty.Func a)) l = ⊥
IsKindMadeOf c m f t made k (kind.Value w) = ⊥
IsKindMadeOf c m f t made k (kind.TypeItem (ty.Value w)) = ⊥
IsKindMadeOf c m f t made k (kind.Func b) = ⊥
IsKindMadeOf c m f t made k (kind.TypeItem (ty.Func b)) = ⊥
IsKindMadeOf c m f t made k l = Unit {0}
