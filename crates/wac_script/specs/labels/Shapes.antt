-- The value types, resources and functions that words say.
use Rattle.std.specs.Prelude.{◌≡◌, ℕ, List, [], ◌∷◌, Option, Some, None, Bool}
use Rattle.wac_types_shapes.specs.primitives.Name.{Name}
use Rattle.wac_types_shapes.specs.shapes.Named.{NoNameTwice, labelled}
use Rattle.wac_types_shapes.specs.declared.shapes.component.ValueType.{ValueType}
use Rattle.wac_types_shapes.specs.declared.shapes.component.DefinedType.{DefinedType}
use Rattle.wac_types_shapes.specs.declared.shapes.component.DefinedType.TheVariants as defined
use Rattle.wac_types_shapes.specs.declared.shapes.component.Resource.{Resource}
use Rattle.wac_types_shapes.specs.declared.shapes.component.ResourceId.{ResourceId}
use Rattle.wac_types_shapes.specs.declared.shapes.component.InterfaceId.{InterfaceId}
use Rattle.wac_types_shapes.specs.declared.shapes.component.FuncType.{FuncType}
use Rattle.wac_script.specs.lines.Words.{Word, spelled}
use Rattle.wac_script.specs.lines.Numbers.{IsNumber}
use Rattle.wac_script.specs.declared.lines.shapes.Shape.{Shape}
use Rattle.wac_script.specs.declared.lines.shapes.Shape.TheVariants as said
use Rattle.wac_script.specs.declared.labels.things.Thing.TheVariants as thing
use Rattle.wac_script.specs.labels.Things.{Labelling, IsThing}
use Rattle.wac_script.specs.labels.Values.{IsValue, IsPayload, AreValues, AreFields, AreCases}

-- The words say this value type.
abbrev pub IsShape : Labelling → Shape → DefinedType → Type 0
IsShape labels (said.Record words) d = (fields : List (Name × ValueType)) × AreFields labels (spelled words.now) fields × (d ≡ defined.Record (record { fields = fields }))
IsShape labels (said.Variant words) d = (cases : List (Name × Option ValueType)) × AreCases labels (spelled words.now) cases × (d ≡ defined.Variant (record { cases = cases }))
IsShape labels (said.Enum names) d = d ≡ defined.Enum (record { 0 = spelled names.now })
IsShape labels (said.Flags names) d = d ≡ defined.Flags (record { 0 = spelled names.now })
IsShape labels (said.Tuple words) d = (values : List ValueType) × AreValues labels (spelled words.now) values × (d ≡ defined.Tuple values)
IsShape labels (said.List word) d = (v : ValueType) × IsValue labels word.now v × (d ≡ defined.List v)
IsShape labels (said.FixedSizeList word len) d = (v : ValueType) × (n : ℕ) × IsValue labels word.now v × IsNumber 32 len.now n × (d ≡ defined.FixedSizeList v n)
IsShape labels (said.Option word) d = (v : ValueType) × IsValue labels word.now v × (d ≡ defined.Option v)
IsShape labels (said.Result ok err) d = (a : Option ValueType) × (b : Option ValueType) × IsPayload labels ok.now a × IsPayload labels err.now b × (d ≡ defined.Result a b)
IsShape labels (said.Alias word) d = (v : ValueType) × IsValue labels word.now v × (d ≡ defined.Alias v)
IsShape labels (said.Stream word) d = (v : Option ValueType) × IsPayload labels word.now v × (d ≡ defined.Stream v)
IsShape labels (said.Future word) d = (v : Option ValueType) × IsPayload labels word.now v × (d ≡ defined.Future v)

-- No name occurs twice in the value type.
abbrev pub HasFieldsOnce : DefinedType → Type 0
HasFieldsOnce (defined.Record r) = NoNameTwice r.fields
HasFieldsOnce (defined.Variant v) = NoNameTwice v.cases
HasFieldsOnce (defined.Enum e) = NoNameTwice (labelled e.0)
HasFieldsOnce (defined.Flags f) = NoNameTwice (labelled f.0)
HasFieldsOnce _ = Unit {0}

-- The resource is an alias, under this name, of the resource of a label, which no interface owns.
abbrev pub IsAliasOf : Labelling → Name → Word → Resource → Type 0
IsAliasOf labels name source r =
    (id : ResourceId) × IsThing labels source (thing.Resource id)
    × (r ≡ record { name = name; alias = Some (record { owner = None; source = id }) })

-- The same of a resource that the interface of a label owns.
abbrev pub IsOwnedAliasOf : Labelling → Name → Word → Word → Resource → Type 0
IsOwnedAliasOf labels name source owner r =
    (id : ResourceId) × (i : InterfaceId) × IsThing labels source (thing.Resource id) × IsThing labels owner (thing.Interface i)
    × (r ≡ record { name = name; alias = Some (record { owner = Some i; source = id }) })

-- The words after `->` are this result: none, or one value type.
abbrev pub IsReturned : Labelling → List Word → Option ValueType → Type 0
IsReturned labels [] v = v ≡ None
IsReturned labels (word ∷ []) (Some v) = IsValue labels word v
IsReturned labels _ _ = ⊥

-- The function type has these parameters and this result.
pub record IsFunc (labels : Labelling) (before after : List Word) (async_word : Bool) (f : FuncType) : Type 0 where
  pub params : AreFields labels before f.params
  pub returned : IsReturned labels after f.result
  pub is_async : f.is_async ≡ async_word

-- No parameter's name occurs twice.
abbrev pub HasParamsOnce : FuncType → Type 0
HasParamsOnce f = NoNameTwice f.params
