-- What an instance in the innermost scope exports, and what the scope records of it.
use Rattle.std.specs.Prelude.{ℕ, ◌≡◌, ◌==◌, ◌&&◌, Bool, true, false, not, List, [], ◌∷◌, Option, Some, None, is_none, is_some, if◌then◌else◌}
use Rattle.std.specs.List.{list_any}
use Rattle.wac_types_shapes.specs.primitives.Name.{Name, option_case}
use Rattle.wac_types_shapes.specs.declared.shapes.component.ResourceId.{ResourceId}
use Rattle.wac_types_shapes.specs.declared.shapes.component.DefinedTypeId.{DefinedTypeId}
use Rattle.wac_types_shapes.specs.declared.shapes.component.UsedType.{UsedType}
use Rattle.wac_types_shapes.specs.declared.shapes.component.Interface.{Interface}
use Rattle.wac_types_shapes.specs.declared.shapes.component.ValueType.{ValueType}
use Rattle.wac_types_shapes.specs.declared.shapes.component.ValueType.TheVariants as val
use Rattle.wac_types_shapes.specs.declared.shapes.component.«Type».TheVariants as ty
use Rattle.wac_types_shapes.specs.declared.shapes.component.ItemKind.{ItemKind}
use Rattle.wac_types_shapes.specs.declared.shapes.component.ItemKind.TheVariants as kind
use Rattle.wac_types_collection.specs.collection.Collection.{Collection}
use Rattle.wac_types_collection.specs.collection.Aliases.{value_resolved}
use Rattle.wac_types_collection.specs.collection.Bound.{Bindings, own_name}
use Rattle.wac_binary.specs.Unfold.{Bound}
use Rattle.wac_encode_scopes.specs.declared.state.State.{State}
use Rattle.wac_encode_scopes.specs.States.{stack, named_in}
use Rattle.wac_encode_stacks.specs.Scopes.{Where, at_export, Open}
use Rattle.wac_encode_stacks.specs.Good.{At, Good, innermost, Onward}
use Rattle.wac_encode_stacks.specs.Instances.{Shows, taken_leaf}

-- Whether there is a resource, and it is this one.
abbrev pub is_that : Option ResourceId → ResourceId → Bool
is_that None r = false
is_that (Some q) r = r.0 == q.0

-- The resource is one of these.
abbrev pub is_one_of : List ResourceId → ResourceId → Bool
is_one_of rs r = list_any (λ q. r.0 == q.0) rs

-- The same as g, but an own resource of the items that passes the test has what f gives its name.
abbrev pub with_own_names : {A : Type 0} → Collection → List (Name × UsedType) → List (Name × ItemKind) → (ResourceId → Bool) → (Name → A) → (ResourceId → Option A) → ResourceId → Option A
with_own_names c uses es test f g r = if test r then option_case (own_name c uses es r) (g r) (λ n. Some (f n)) else g r

-- An own resource of the interface that does not pass the test.
abbrev pub is_other : Collection → Interface → (ResourceId → Bool) → ResourceId → Bool
is_other c it own r = is_some (own_name c it.uses it.exports r) && not (own r)

-- The definition at the end of a type item's value type.
abbrev pub definition_of : ValueType → Option DefinedTypeId
definition_of (val.Defined d) = Some d
definition_of _ = None

abbrev pub definition_in : Collection → Name × ItemKind → Option DefinedTypeId
definition_in c (n, kind.TypeItem (ty.Value v)) = definition_of (value_resolved c v)
definition_in c _ = None

-- The name of the first item with this definition at its end.
abbrev pub value_name : Collection → List (Name × ItemKind) → DefinedTypeId → Option Name
value_name c [] d = None
value_name c (e ∷ es) d = if option_case (definition_in c e) false (λ q. q.0 == d.0) then Some e.0 else value_name c es d

-- Where the scope has exported value types after instance j is told. A definition that passes the test and has no name in
-- the scope is at the export of the first item that has it.
abbrev pub with_values : Collection → List (Name × ItemKind) → (DefinedTypeId → Bool) → ℕ → Open → DefinedTypeId → Option Where
with_values c es test j o d = if test d && is_none (named_in d o) then option_case (value_name c es d) (o.exports d) (λ n. Some (at_export j n)) else o.exports d

-- The scope in which the own resources that pass the test are bound to exports of instance j; then the scope in which the
-- value types that pass are recorded as its exports.
abbrev pub binding_own : Collection → List (Name × UsedType) → List (Name × ItemKind) → (ResourceId → Bool) → ℕ → Open → Open
binding_own c uses es test j o = record o { binds = with_own_names c uses es test (at_export j) o.binds }

abbrev pub exporting_values : Collection → List (Name × ItemKind) → (DefinedTypeId → Bool) → ℕ → Open → Open
exporting_values c es test j o = record o { exports = with_values c es test j o }

-- The scope after instance j is told, to which the own resources that pass the first test belong. The value types that pass the
-- second are recorded.
abbrev pub telling : Collection → Interface → (ResourceId → Bool) → (DefinedTypeId → Bool) → ℕ → Open → Open
telling c it own test j o = exporting_values c it.exports test j (binding_own c it.uses it.exports own j o)

-- The own resources that pass the test are not bound yet. If there is one, the scope is the bottom scope.
abbrev pub MayBind : Collection → Interface → (ResourceId → Bool) → Bindings → List Bindings → Type 0
MayBind c it own m ms = (r : ResourceId) (n : Name) → own r ≡ true → own_name c it.uses it.exports r ≡ Some n → (m r ≡ None) × (ms ≡ [])

-- Instance j in the innermost scope shows the interface. After the call the own resources that belong to it are bound to
-- its exports.
abbrev pub TellsInstance : Collection → Bool → Interface → (ResourceId → Bool) → ℕ → State → State → Type 0
TellsInstance c b it own j old new = (m : Bindings) (ms : List Bindings) (x : Bound) → Good c (m ∷ ms) (stack b old) → At ((innermost (stack b old)).instances) j x → Shows c m it x → MayBind c it own m ms
    → Onward c (with_own_names c it.uses it.exports own (taken_leaf x) m ∷ ms) (stack b old) (stack b new)
