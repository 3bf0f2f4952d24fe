-- Types and resources that some scope of a stack records. One outer alias makes such a type available in the innermost
-- scope.
use Rattle.std.specs.Prelude.{ℕ, zero, suc, ◌≡◌, ◌⊎◌, true, List, [], ◌∷◌, Some, None}
use Rattle.wac_types_shapes.specs.primitives.Name.{Name}
use Rattle.wac_types_shapes.specs.primitives.Tree.{Tree}
use Rattle.wac_types_shapes.specs.declared.shapes.component.ResourceId.{ResourceId}
use Rattle.wac_types_shapes.specs.declared.shapes.component.DefinedTypeId.{DefinedTypeId}
use Rattle.wac_types_shapes.specs.declared.shapes.component.ValueType.TheVariants as val
use Rattle.wac_types_shapes.specs.declared.shapes.component.«Type».{«Type» as AnyType}
use Rattle.wac_types_shapes.specs.declared.shapes.component.«Type».TheVariants as ty
use Rattle.wac_types_collection.specs.collection.Collection.{Collection}
use Rattle.wac_types_collection.specs.collection.Bound.{Bindings}
use Rattle.wac_binary.specs.declared.sorts.Sort.TheVariants as s
use Rattle.wac_binary.specs.Items.{export_alias, outer_alias}
use Rattle.wac_binary.specs.Unfold.{scope_at}
use Rattle.wac_encode_stacks.specs.Scopes.{Where, at_type, at_export, brought, Indexed, Open, Stack, envs, next_type, with_alias_of, index_at, export_at}
use Rattle.wac_encode_stacks.specs.Good.{At, IsHeld, IsClosed, IsOf, nothing_bound, Good, top, Onward}
use Rattle.wac_encode_stacks.specs.private.Parts.{IsReached}
use Rattle.wac_encode_stacks.specs.private.Inside.{changed_at, next_type_at}

-- The bindings of the scope k scopes out.
abbrev pub bindings_at : List Bindings → ℕ → Bindings
bindings_at [] k = nothing_bound
bindings_at (m ∷ ms) zero = m
bindings_at (m ∷ ms) (suc k) = bindings_at ms k

-- In the scope k scopes out, the type index i refers to the type, with its tree under the bindings there.
abbrev pub IsIndexOf : Collection → List Bindings → Stack → ℕ → AnyType → ℕ → Type 0
IsIndexOf c ms st k a i = (t : Tree) × IsHeld c (bindings_at ms k) a t × IsOf a t × At ((scope_at (envs st) k).types) i t

-- The k innermost scopes pass.
abbrev pub AllPass : ℕ → Stack → Type 0
AllPass zero st = Unit {0}
AllPass (suc k) [] = ⊥
AllPass (suc k) (o ∷ os) = (o.passes ≡ true) × AllPass k os

-- The type means the same here as k scopes out: the scopes between pass, or the type mentions no resource.
abbrev pub MayCross : Collection → ℕ → Stack → AnyType → Type 0
MayCross c k st a = AllPass k st ⊎ IsClosed c a

-- A stack is good under at most one list of bindings.
abbrev pub GoodOnce : Type 0
GoodOnce = (c : Collection) (ms ns : List Bindings) (st : Stack) → Good c ms st → Good c ns st → ms ≡ ns

-- A resource that no scope of a good stack records is not bound.
abbrev pub FindsOrUnbound : Type 0
FindsOrUnbound = (c : Collection) (ms : List Bindings) (st : Stack) (r : ResourceId)
    → Good c ms st → ((k : ℕ) (w : Where) → IsReached st r k w → ⊥) → top ms r ≡ None

-- The recorded index of a type refers to it. So does the index of a recorded alias of an instance's export.
abbrev pub KnowsType : Type 0
KnowsType = (c : Collection) (ms : List Bindings) (st : Stack) (k : ℕ) (o : Open) (a : AnyType) (x : Indexed)
    → Good c ms st → At st k o → o.types a ≡ Some x → IsIndexOf c ms st k a x.index

abbrev pub KnowsExport : Type 0
KnowsExport = (c : Collection) (ms : List Bindings) (st : Stack) (k : ℕ) (o : Open) (d : DefinedTypeId) (i : ℕ)
    → Good c ms st → At st k o → o.exports d ≡ Some (at_type i) → IsIndexOf c ms st k (ty.Value (val.Defined d)) i

abbrev pub aliased_value : DefinedTypeId → ℕ → Name → Open → Open
aliased_value d j n o = export_at d (at_type (next_type o)) (with_alias_of (export_alias s.Type j n) o)

-- A value type that is recorded k scopes out as an instance's export may be aliased there, and its index recorded.
abbrev pub SettlesValueThere : Type 0
SettlesValueThere = (c : Collection) (ms : List Bindings) (st : Stack) (k : ℕ) (o : Open) (d : DefinedTypeId) (j : ℕ) (n : Name)
    → Good c ms st → At st k o → o.exports d ≡ Some (at_export j n)
    → Onward c ms st (changed_at k (aliased_value d j n) st) × IsIndexOf c ms (changed_at k (aliased_value d j n) st) k (ty.Value (val.Defined d)) (next_type_at k st)

abbrev pub brought_type : AnyType → ℕ → ℕ → Open → Open
brought_type a k i o = index_at a brought (next_type o) (with_alias_of (outer_alias s.Type (suc k) i) o)

-- A type with an index k + 1 scopes out may be aliased here with that count and recorded, if it means the same here.
abbrev pub BringsFrom : Type 0
BringsFrom = (c : Collection) (m : Bindings) (ms : List Bindings) (o : Open) (os : Stack) (a : AnyType) (k i : ℕ)
    → Good c (m ∷ ms) (o ∷ os) → IsIndexOf c (m ∷ ms) (o ∷ os) (suc k) a i → MayCross c (suc k) (o ∷ os) a
    → Onward c (m ∷ ms) (o ∷ os) (brought_type a k i o ∷ os) × IsIndexOf c (m ∷ ms) (brought_type a k i o ∷ os) 0 a (next_type o)

-- A change of the scope k scopes out does not change which scopes before it pass.
abbrev pub StillPass : Type 0
StillPass = (k : ℕ) (f : Open → Open) (st : Stack) → AllPass k st → AllPass k (changed_at k f st)
