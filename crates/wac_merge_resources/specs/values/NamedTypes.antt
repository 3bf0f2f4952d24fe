-- Which definitions are one named type.
use Rattle.std.specs.Prelude.{◌≡◌, ◌⊎◌, ℕ, zero, suc, nat_eq, nat_lt, cond, true, ◌||◌, if◌then◌else◌, is_some, List, Option, Some, None, slice_get}
use Rattle.std.specs.HashMap.{get}
use Rattle.wac_types_shapes.specs.primitives.Name.{Name, find_name, option_case}
use Rattle.wac_types_collection.specs.collection.Collection.{Collection, interface_exports}
use Rattle.wac_types_shapes.specs.declared.shapes.component.DefinedTypeId.{DefinedTypeId}
use Rattle.wac_types_shapes.specs.declared.shapes.component.ItemKind.{ItemKind}
use Rattle.wac_merge_classes.specs.entries.Classes.{Entry}
use Rattle.wac_merge_classes.specs.terms.Values.{listed_value}
use Rattle.wac_merge_classes.specs.declared.terms.parts.Export.{Export}
use Rattle.wac_merge_classes.specs.declared.terms.parts.Part.{Part}
use Rattle.wac_merge_classes.specs.declared.terms.parts.Union.{Union}
use Rattle.wac_merge_resources.specs.declared.values.named.NamedTypes.{NamedTypes}

-- The parent of a definition, if it has a name.
abbrev pub earlier_of : NamedTypes → DefinedTypeId → Option DefinedTypeId
earlier_of t d = get (λ a b. nat_eq a.0 b.0) t.earlier d

-- The definition reached by following parents to lower ids, in at most this many steps.
abbrev pub back : (DefinedTypeId → Option DefinedTypeId) → ℕ → DefinedTypeId → DefinedTypeId
back f zero d = d
back f (suc n) d = option_case (f d) d (λ e. if nat_lt e.0 d.0 then back f n e else d)

-- The first definition of the named type that a definition belongs to.
abbrev pub first_of : NamedTypes → DefinedTypeId → DefinedTypeId
first_of t d = back (earlier_of t) d.0 d

-- The named type of a definition, identified by its first definition; `None` if the definition has no name.
abbrev pub named_type : NamedTypes → DefinedTypeId → Option DefinedTypeId
named_type t d = if is_some (earlier_of t d) then Some (first_of t d) else None

-- Two definitions are one named type.
abbrev pub IsOneType : NamedTypes → DefinedTypeId → DefinedTypeId → Type 0
IsOneType t a b = (first : DefinedTypeId) × (named_type t a ≡ Some first) × (named_type t b ≡ Some first)

-- A definition gets another as its parent, and all other parents are unchanged.
abbrev pub PutsBefore : NamedTypes → DefinedTypeId → DefinedTypeId → NamedTypes → Type 0
PutsBefore old d e new = (k : DefinedTypeId) → earlier_of new k ≡ cond (nat_eq d.0 k.0) (Some e) (earlier_of old k)

-- The lower of two ids.
abbrev pub lower : DefinedTypeId → DefinedTypeId → DefinedTypeId
lower a b = if nat_lt b.0 a.0 then b else a

-- Definitions that were one named type with either of the two are now one named type with both.
abbrev pub AreJoined : NamedTypes → DefinedTypeId → DefinedTypeId → NamedTypes → Type 0
AreJoined old a b new = (d : DefinedTypeId) → first_of new d ≡ (if nat_eq (first_of old d).0 (first_of old a).0 || nat_eq (first_of old d).0 (first_of old b).0 then lower (first_of old a) (first_of old b) else first_of old d)

-- Definitions that are one named type stay one.
abbrev pub StayOne : NamedTypes → NamedTypes → Type 0
StayOne old new = (a b : DefinedTypeId) → IsOneType old a b → IsOneType new a b

-- An export is one named type with the value type under its name in a union.
abbrev pub IsOneWith : Collection → List (Name × Export) → Name → ItemKind → NamedTypes → Type 0
IsOneWith c union n k t = (e : Export) (a b : DefinedTypeId) → find_name union n ≡ Some e → listed_value c e.kind ≡ Some a → listed_value c k ≡ Some b → IsOneType t a b

-- Each of these exports is one named type with the value type under its name in a union.
abbrev pub ListsOne : Collection → List (Name × Export) → List (Name × ItemKind) → NamedTypes → Type 0
ListsOne c union es t = (i : ℕ) (n : Name) (k : ItemKind) → slice_get es i ≡ Some (n, k) → IsOneWith c union n k t

-- Each export of a part is one named type with the value type under its name in the part's union.
abbrev pub AreUnited : Collection → List Union → List Part → NamedTypes → Type 0
AreUnited c us ps t = (p : ℕ) (x : Part) (u : Union) → slice_get ps p ≡ Some x → slice_get us x.union ≡ Some u → ListsOne c u.exports (interface_exports c x.interface) t

-- The value type of an entry's class, read from the entry at the position of the class.
abbrev pub class_value : Collection → List Entry → List ℕ → List ℕ → ℕ → Option DefinedTypeId
class_value c es numbers positions i = option_case (slice_get numbers i) None (λ k. option_case (slice_get positions k) None (λ p. option_case (slice_get es p) None (λ e. listed_value c e.kind)))

-- Each entry that is a value type is one named type with its class.
abbrev pub AreClassed : Collection → List Entry → List ℕ → List ℕ → NamedTypes → Type 0
AreClassed c es numbers positions t = (i : ℕ) (e : Entry) (a b : DefinedTypeId) → slice_get es i ≡ Some e → class_value c es numbers positions i ≡ Some a → listed_value c e.kind ≡ Some b → IsOneType t a b

-- ---- which definitions are one named type, and no others

-- An export is paired with the value type under its name in a union, and with itself.
abbrev pub IsListedWith : Collection → List (Name × Export) → Name → ItemKind → DefinedTypeId → DefinedTypeId → Type 0
IsListedWith c union n k a b = (listed_value c k ≡ Some b) × ((a ≡ b) ⊎ ((e : Export) × (find_name union n ≡ Some e) × (listed_value c e.kind ≡ Some a)))

-- Two definitions are such a pair for one of these exports.
abbrev pub IsListedIn : Collection → List (Name × Export) → List (Name × ItemKind) → DefinedTypeId → DefinedTypeId → Type 0
IsListedIn c union es a b = (i : ℕ) × (n : Name) × (k : ItemKind) × (slice_get es i ≡ Some (n, k)) × IsListedWith c union n k a b

-- Two definitions are such a pair for an export of a part, in the part's union.
abbrev pub IsListedBy : Collection → List Union → Part → DefinedTypeId → DefinedTypeId → Type 0
IsListedBy c us x a b = (u : Union) × (slice_get us x.union ≡ Some u) × IsListedIn c u.exports (interface_exports c x.interface) a b

-- Two definitions are such a pair for one of the parts.
abbrev pub IsUnited : Collection → List Union → List Part → DefinedTypeId → DefinedTypeId → Type 0
IsUnited c us ps a b = (p : ℕ) × (x : Part) × (slice_get ps p ≡ Some x) × IsListedBy c us x a b

-- The value type of an entry is paired with that of its class, and with itself.
abbrev pub IsAskedWith : Collection → ItemKind → Option DefinedTypeId → DefinedTypeId → DefinedTypeId → Type 0
IsAskedWith c k class a b = (listed_value c k ≡ Some b) × ((a ≡ b) ⊎ (class ≡ Some a))

-- Two definitions are such a pair for one of the entries.
abbrev pub IsClassed : Collection → List Entry → List ℕ → List ℕ → DefinedTypeId → DefinedTypeId → Type 0
IsClassed c es numbers positions a b = (i : ℕ) × (e : Entry) × (slice_get es i ≡ Some e) × IsAskedWith c e.kind (class_value c es numbers positions i) a b

-- A chain of pairs, each in either direction, leads from one definition to the other.
pub data AreLinked (P : DefinedTypeId → DefinedTypeId → Type 0) : DefinedTypeId → DefinedTypeId → Type 0 where
  pair : (a b : DefinedTypeId) → P a b → AreLinked P a b
  turned : (a b : DefinedTypeId) → AreLinked P a b → AreLinked P b a
  chain : (a d b : DefinedTypeId) → AreLinked P a d → AreLinked P d b → AreLinked P a b

-- Two definitions are one named type by the exports of parts and by the entries.
-- A definition without a name is not even one named type with itself.
abbrev pub AreNamedAlike : Collection → List Union → List Part → List Entry → List ℕ → List ℕ → DefinedTypeId → DefinedTypeId → Type 0
AreNamedAlike c us ps es numbers positions = AreLinked (λ a b. IsUnited c us ps a b ⊎ IsClassed c es numbers positions a b)

-- ---- joins, one after another

-- Each of these pairs is one named type.
abbrev pub AreAllOne : (DefinedTypeId → DefinedTypeId → Type 0) → NamedTypes → Type 0
AreAllOne P t = (a b : DefinedTypeId) → P a b → IsOneType t a b

-- The definitions that may have a name after two were joined: the two, the first of each, and those named before.
pub data IsTouched (t : NamedTypes) (a b d : DefinedTypeId) : Type 0 where
  at_one : d ≡ a → IsTouched t a b d
  at_other : d ≡ b → IsTouched t a b d
  first_of_one : d ≡ first_of t a → IsTouched t a b d
  first_of_other : d ≡ first_of t b → IsTouched t a b d
  stood : is_some (earlier_of t d) ≡ true → IsTouched t a b d

abbrev pub TouchesOnly : NamedTypes → DefinedTypeId → DefinedTypeId → NamedTypes → Type 0
TouchesOnly old a b new = (d : DefinedTypeId) → is_some (earlier_of new d) ≡ true → IsTouched old a b d

-- One table becomes another by joining only such pairs.
pub data JoinsAlong (P : DefinedTypeId → DefinedTypeId → Type 0) (old : NamedTypes) : NamedTypes → Type 0 where
  no_join : JoinsAlong P old old
  one_join : (mid new : NamedTypes) (a b : DefinedTypeId) → JoinsAlong P old mid → P a b → AreJoined mid a b new → TouchesOnly mid a b new → JoinsAlong P old new
