-- Value types that an item names which a state is told of.
use Rattle.std.specs.Prelude.{◌==◌, ◌&&◌, is_none, is_some, not}
use Rattle.std.proofs.Common.{ℕ, eq-eqb, ◌≡◌, ◌⊎◌, inl, inr, Bool, true, false, if◌then◌else◌, List, [], ◌∷◌, length, Contains, Option, Some, None, refl, ap, sym, ◌∙◌, subst}
use Rattle.wac_types_shapes.specs.primitives.Name.{Name, option_case}
use Rattle.wac_types_shapes.specs.declared.shapes.component.DefinedTypeId.{DefinedTypeId}
use Rattle.wac_types_shapes.specs.declared.shapes.component.Interface.{Interface}
use Rattle.wac_types_shapes.specs.declared.shapes.component.InterfaceId.{InterfaceId}
use Rattle.wac_types_shapes.specs.declared.shapes.component.ResourceId.{ResourceId}
use Rattle.wac_types_shapes.specs.declared.shapes.component.ValueType.{ValueType}
use Rattle.wac_types_shapes.specs.declared.shapes.component.ValueType.TheVariants as val
use Rattle.wac_types_shapes.specs.declared.shapes.component.ItemKind.{ItemKind}
use Rattle.wac_types_shapes.specs.declared.shapes.component.ItemKind.TheVariants as kind
use Rattle.wac_types_shapes.specs.declared.shapes.component.«Type».{«Type» as AnyType}
use Rattle.wac_types_shapes.specs.declared.shapes.component.«Type».TheVariants as ty
use Rattle.wac_types_collection.specs.collection.Collection.{Collection, IsWellFormed}
use Rattle.wac_types_collection.specs.collection.Bound.{Bindings, own_name}
use Rattle.wac_types_collection.proofs.lemmas.wide.Members.{in_none, in_parts}
use Rattle.wac_encode_faults.specs.Free.{IsFree}
use Rattle.wac_binary.specs.declared.types.ComponentValType.{ComponentValType}
use Rattle.wac_encode_stacks.specs.Scopes.{How, Indexed, Open, Where, at_type, at_export, defined, brought, listed}
use Rattle.wac_encode_scopes.specs.declared.closed.ClosedTypes.{ClosedTypes}
use Rattle.wac_encode_scopes.specs.Books.{opened}
use Rattle.wac_encode_scopes.specs.private.Closed.{AreApartItems, SaysApart}
use Rattle.wac_encode_scopes.specs.States.{named_by, named_in, named_of, IsRecordedAt}
use Rattle.wac_encode_scopes.specs.private.Telling.{definition_in, definition_of, is_one_of, is_other, telling, value_name}
use Rattle.wac_encode_values.specs.private.Values.{IsByName}
use Rattle.wac_encode.specs.declared.state.State.{State}
use Rattle.wac_encode.specs.Named.{HasNameIn, IsUsedByName}
use Rattle.wac_encode.specs.Root.{IsStateFor}
use Rattle.wac_encode.specs.Told.{ExportsDefinition, NamesDefinition}
use Rattle.wac_encode.specs.private.Ready.{type_end}
use Rattle.wac_encode.specs.private.Resources.{AreBoundAs}
use Rattle.wac_encode.proofs.HeldItems.{no-true, of-one, own-held}

-- the place of a name

placed : (o : Option Indexed) (w : Where) → (u : Where) × (named_of o (Some w) ≡ Some u)
placed None w = (w, refl)
placed (Some x) w = by x.how
  where
    by : (h : How) → (u : Where) × (named_by h x.index (Some w) ≡ Some u)
    by defined = (w, refl)
    by brought = (at_type x.index, refl)
    by listed = (at_type x.index, refl)

listed-named : (b : Bool) (s : State) (d : DefinedTypeId) (i : ℕ) → IsRecordedAt b s.scopes (ty.Value (val.Defined d)) listed i → HasNameIn b s d
listed-named b s d i at = (at_type i, ap (λ (o : Option Indexed). named_of o ((opened b s.scopes.here).exports d)) at)

-- a type item

pub type-named : (c : Collection) (b : Bool) (a t : AnyType) (i : ℕ) (s : State) → t ≡ type_end c a → IsRecordedAt b s.scopes t listed i → (m : Bindings) (d : DefinedTypeId) → NamesDefinition c m (kind.TypeItem a) d → HasNameIn b s d
type-named c b (ty.Value v) t i s is at m d names = listed-named b s d i (subst (λ (x : AnyType). IsRecordedAt b s.scopes x listed i) (is ∙ ap ty.Value names) at)
type-named c b (ty.Resource r) t i s is at m d names = absurd names
type-named c b (ty.Func f) t i s is at m d names = absurd names
type-named c b (ty.Interface j) t i s is at m d names = absurd names
type-named c b (ty.World w) t i s is at m d names = absurd names
type-named c b (ty.Module x) t i s is at m d names = absurd names

-- an instance

-- An item with the definition has it under a name.
value-there : (c : Collection) (d : DefinedTypeId) (es : List (Name × ItemKind)) (e : Name × ItemKind) → Contains es e → definition_in c e ≡ Some d → (n : Name) × (value_name c es d ≡ Some n)
value-there c d [] e there is = absurd (in_none e there)
value-there c d (x ∷ es) e there is = by (option_case (definition_in c x) false (λ q. q.0 == d.0)) refl (in_parts x e es there) (λ more. value-there c d es e more is)
  where
    here : e ≡ x → option_case (definition_in c x) false (λ q. q.0 == d.0) ≡ true
    here same = ap (λ (o : Option DefinedTypeId). option_case o false (λ q. q.0 == d.0)) (ap (definition_in c) (sym same) ∙ is) ∙ eq-eqb d.0 d.0 refl

    by : (t : Bool) → option_case (definition_in c x) false (λ q. q.0 == d.0) ≡ t → (e ≡ x) ⊎ Contains es e → (Contains es e → (n : Name) × (value_name c es d ≡ Some n)) → (n : Name) × (value_name c (x ∷ es) d ≡ Some n)
    by true test at later = (x.0, ap (λ (t : Bool). if t then Some x.0 else value_name c es d) test)
    by false test (inl same) later = absurd (no-true (sym test ∙ here same))
    by false test (inr more) later = let r = later more in (r.0, ap (λ (t : Bool). if t then Some x.0 else value_name c es d) test ∙ r.1)

module _ (c : Collection) (wf : IsWellFormed c) (b : Bool) (i : InterfaceId) (k : ℕ) (old new : State) (m : Bindings) (h : IsStateFor c b m old) (free : List ResourceId) (are : AreBoundAs c b false old free) (d : DefinedTypeId) (x : ExportsDefinition c m i d)
    (test : DefinedTypeId → Bool) (apart : AreApartItems c (x.interface).exports (is_other c x.interface (is_one_of free)) test) where
  abbrev it : Interface
  it = x.interface

  -- An own resource that is free in the definition belongs to the instance.
  none-other : (r : ResourceId) → IsFree c (ty.Value (val.Defined d)) r → is_other c it (is_one_of free) r ≡ true → ⊥
  none-other r in_type other = by (own_name c it.uses it.exports r) refl other
    where
      by : (o : Option Name) → own_name c it.uses it.exports r ≡ o → (is_some o && not (is_one_of free r)) ≡ true → ⊥
      by None named e = no-true e
      by (Some n) named e =
          let mine = of-one free r ((are c m h r).1 (own-held c wf i it x.there r n named, ap is_some (x.same r n in_type named))) in
          no-true (sym (ap not mine) ∙ e)

  tested : test d ≡ true
  tested = by (test d) (apart (x.name, kind.TypeItem (ty.Value x.value)) d x.listed (ap definition_of x.resolves))
    where
      by : (t : Bool) → SaysApart c (is_other c it (is_one_of free)) d t → t ≡ true
      by true says = refl
      by false (r, in_type, other) = absurd (none-other r in_type other)

  abbrev before : Open
  before = opened b old.scopes.here

  abbrev after : Open
  after = telling c it (is_one_of free) test k before

  abbrev recorded : Option Indexed
  recorded = before.types (ty.Value (val.Defined d))

  -- Its place among the exports of instances.
  abbrev place-of : Bool → Bool → Option Name → Option Where
  place-of test none name = if test && none then option_case name (before.exports d) (λ n. Some (at_export k n)) else before.exports d

  unchanged : (test : Bool) (name : Option Name) → place-of test false name ≡ before.exports d
  unchanged true name = refl
  unchanged false name = refl

  told-name : (u : Where) × (named_in d after ≡ Some u)
  told-name = by (named_of recorded (before.exports d)) refl
    where
      by : (o : Option Where) → named_of recorded (before.exports d) ≡ o → (u : Where) × (named_in d after ≡ Some u)
      by (Some w) is =
          (w, ap (λ (t : Bool). named_of recorded (place-of (test d) t (value_name c it.exports d))) (ap is_none is) ∙ ap (named_of recorded) (unchanged (test d) (value_name c it.exports d)) ∙ is)
      by None is =
          let n = value-there c d it.exports (x.name, kind.TypeItem (ty.Value x.value)) x.listed (ap definition_of x.resolves) in
          let u = placed recorded (at_export k n.0) in (
            u.0,
            ap (λ (t : Bool). named_of recorded (place-of (test d) t (value_name c it.exports d))) (ap is_none is)
                ∙ ap (λ (t : Bool). named_of recorded (place-of t true (value_name c it.exports d))) tested
                ∙ ap (λ (o : Option Name). named_of recorded (place-of true true o)) n.1
                ∙ u.1,
          )

  pub instance-named : opened b new.scopes.here ≡ after → HasNameIn b new d
  instance-named is = (told-name.0, ap (named_in d) is ∙ told-name.1)

-- a value type is used by its name

pub used-by-name : (c e : Collection) (b a : Bool) (closed : ClosedTypes) (old new : State) (v : ValueType) (x : ComponentValType) → e ≡ c → a ≡ b → IsByName e closed a old.scopes new.scopes v x → IsUsedByName c b old new v x
used-by-name c e b a closed old new v x is same h = subst (λ (z : Collection). IsUsedByName z b old new v x) is (subst (λ (z : Bool). IsUsedByName e z old new v x) same (λ d resolves name. h d resolves (0, name.0, name.1, inr tt)))
