-- Worked examples: what binds a value type, each decided by computing.
use Rattle.std.proofs.Common.{◌≡◌, ℕ, nat_lt, Bool, false, List, [], ◌∷◌, Option, Some, None, refl}
use Rattle.wac_names.specs.Track.{Track, whole, major}
use Rattle.wac_types_shapes.specs.primitives.Name.{Name}
use Rattle.wac_types_shapes.specs.primitives.Tree.{Place, named}
use Rattle.wac_types_collection.specs.collection.Collection.{Collection}
use Rattle.wac_types_collection.specs.declared.collection.collection.Held.{Held}
use Rattle.wac_types_shapes.specs.declared.shapes.component.DefinedType.{DefinedType}
use Rattle.wac_types_shapes.specs.declared.shapes.component.DefinedType.TheVariants as def
use Rattle.wac_types_shapes.specs.declared.shapes.component.Interface.{Interface}
use Rattle.wac_types_shapes.specs.declared.shapes.component.UsedType.{UsedType}
use Rattle.wac_types_shapes.specs.declared.shapes.component.ItemKind.{ItemKind}
use Rattle.wac_types_shapes.specs.declared.shapes.component.ItemKind.TheVariants as kind
use Rattle.wac_types_shapes.specs.declared.shapes.component.ValueType.{ValueType}
use Rattle.wac_types_shapes.specs.declared.shapes.component.ValueType.TheVariants as val
use Rattle.wac_types_shapes.specs.declared.shapes.component.«Type».TheVariants as ty
use Rattle.wac_merge_classes.specs.entries.Classes.{Entry, NameRules}
use Rattle.wac_merge_classes.specs.private.terms.ValueBindings.{value_binding}

-- names of one number are labels; of two, an interface and its version on one track
abbrev simple_track : Name → Track
simple_track (i ∷ v ∷ []) = major (i ∷ []) 1
simple_track n = whole n

abbrev simple_newer : Name → Name → Bool
simple_newer (i ∷ v ∷ []) (j ∷ w ∷ []) = nat_lt w v
simple_newer a b = false

abbrev simple : NameRules
simple = record { track = simple_track; is_newer = simple_newer }

abbrev held : {A : Type 0} → A → Held A
held x = record { item = x; before = 0 }

abbrev enumeration : Held DefinedType
enumeration = held (def.Enum (record { 0 = (97 ∷ []) ∷ [] }))

abbrev defined : ℕ → ValueType
defined n = val.Defined (record { 0 = n })

abbrev alias_of : ℕ → Held DefinedType
alias_of n = held (def.Alias (defined n))

abbrev type_item : ℕ → ItemKind
type_item n = kind.TypeItem (ty.Value (defined n))

abbrev instance_of : ℕ → ItemKind
instance_of i = kind.Instance (record { 0 = i })

abbrev interface : Name → List (Name × UsedType) → List (Name × ItemKind) → Held Interface
interface id uses exports = held (record { id = Some id; uses = uses; exports = exports })

abbrev t : Name
t = 116 ∷ []

abbrev u : Name
u = 117 ∷ []

abbrev from : ℕ → List (Name × UsedType)
from i = (t, record { interface = record { 0 = i }; name = None }) ∷ []

-- definitions 0, 1 and 2 are enumerations, 3 is an alias of 2 and 4 of 3;
-- interfaces 0 and 1, two versions of one, list 0 and 1 as `t`; 2 lists 2 as `t`, by its alias 3; 3 uses that, and lists 4 as `t`; 4 uses it and lists 3 as `u` alone;
-- 5 uses nothing, and lists 2 as `u` and then as `t`; 6 lists an instance of 2
abbrev collection : Collection
collection = record {
  resources = [];
  funcs = [];
  defined = enumeration ∷ enumeration ∷ enumeration ∷ alias_of 2 ∷ alias_of 3 ∷ [];
  interfaces = interface (1 ∷ 1 ∷ []) [] ((t, type_item 0) ∷ []) ∷ interface (1 ∷ 2 ∷ []) [] ((t, type_item 1) ∷ [])
      ∷ interface (2 ∷ 1 ∷ []) [] ((t, type_item 3) ∷ []) ∷ interface (3 ∷ 1 ∷ []) (from 2) ((t, type_item 4) ∷ [])
      ∷ interface (4 ∷ 1 ∷ []) (from 2) ((u, type_item 3) ∷ []) ∷ interface (5 ∷ 1 ∷ []) [] ((u, type_item 2) ∷ (t, type_item 2) ∷ [])
      ∷ interface (6 ∷ 1 ∷ []) [] ((t, instance_of 2) ∷ []) ∷ [];
  worlds = [];
  modules = [];
}

abbrev asked : ℕ → ℕ → ℕ → Entry
asked n v i = record { name = n ∷ v ∷ []; kind = instance_of i }

abbrev binds : List Entry → ℕ → Option (ℕ × List Place)
binds es n = value_binding simple collection es (record { 0 = n })

-- two versions of one interface: what both list under a name is bound by their one class under that name
old-version : binds (asked 1 1 0 ∷ asked 1 2 1 ∷ []) 0 ≡ Some (0, named t ∷ [])
old-version = refl

new-version : binds (asked 1 1 0 ∷ asked 1 2 1 ∷ []) 1 ≡ Some (0, named t ∷ [])
new-version = refl

-- what is used is bound where it is used from, whichever is asked for first, and under whichever name it is listed
used-after : binds (asked 2 1 2 ∷ asked 3 1 3 ∷ asked 4 1 4 ∷ []) 2 ≡ Some (0, named t ∷ [])
used-after = refl

used-before : binds (asked 4 1 4 ∷ asked 3 1 3 ∷ asked 2 1 2 ∷ []) 2 ≡ Some (2, named t ∷ [])
used-before = refl

-- where that is not asked for, by the first that lists it
used-alone : binds (asked 1 1 0 ∷ asked 4 1 4 ∷ asked 3 1 3 ∷ []) 2 ≡ Some (1, named u ∷ [])
used-alone = refl

-- of two that list it and do not use it, by the first; under the first name
listed-twice : binds (asked 5 1 5 ∷ asked 2 1 2 ∷ []) 2 ≡ Some (0, named u ∷ [])
listed-twice = refl

-- a type item is what its aliases lead to
type-item : binds (record { name = t; kind = type_item 4 } ∷ []) 2 ≡ Some (0, [])
type-item = refl

-- an alias itself is not bound, nor is what is listed inside a listed instance
no-alias : binds (asked 2 1 2 ∷ asked 3 1 3 ∷ []) 3 ≡ None
no-alias = refl

not-inside : binds (asked 6 1 6 ∷ []) 2 ≡ None
not-inside = refl
