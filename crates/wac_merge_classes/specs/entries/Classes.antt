-- Entries and their classes: entries of one name, and instances whose names have one track.
use Rattle.std.specs.Prelude.{◌≡◌, ◌<◌, ◌↔◌, ℕ, Bool, true, false, not, ◌&&◌, ◌||◌, ◌==◌, if◌then◌else◌, List, [], ◌∷◌, filter, length, Some, IsSome, slice_get}
use Rattle.std.specs.List.{list_any}
use Rattle.std.specs.Option.{option_cmp}
use Rattle.std.specs.declared.cmp.Ordering.{Ordering}
use Rattle.std.specs.declared.cmp.Ordering.TheVariants.{Greater}
use Rattle.wac_names.specs.Track.{Track, whole, major, minor, patch, version_cmp}
use Rattle.wac_names.specs.Reading.{read_track, read_version}
use Rattle.wac_types_shapes.specs.primitives.Name.{Name, same_name, find_name}
use Rattle.wac_types_shapes.specs.declared.shapes.component.ItemKind.{ItemKind}
use Rattle.wac_types_shapes.specs.declared.shapes.component.ItemKind.TheVariants as kind

-- An import that the graph needs.
pub record Entry : Type 0 where
  pub name : Name
  pub kind : ItemKind

-- What merging needs to know of names: the track of each, and whether the first has a greater version.
pub record NameRules : Type 0 where
  pub track : Name → Track
  pub is_newer : Name → Name → Bool

-- The first version is greater.
abbrev pub is_greater : Ordering → Bool
is_greater Greater = true
is_greater _ = false

-- The rules of component names.
abbrev pub by_names : NameRules
by_names = record { track = read_track; is_newer = λ a b. is_greater (option_cmp version_cmp (read_version a) (read_version b)) }

-- Two tracks are equal.
abbrev pub same_track : Track → Track → Bool
same_track (whole a) (whole b) = same_name a b
same_track (major a i) (major b j) = same_name a b && (i == j)
same_track (minor a i) (minor b j) = same_name a b && (i == j)
same_track (patch a i) (patch b j) = same_name a b && (i == j)
same_track _ _ = false

-- The item is an instance.
abbrev pub is_instance : ItemKind → Bool
is_instance (kind.Instance i) = true
is_instance _ = false

-- An entry of this name is an instance.
abbrev pub names_instance : List Entry → Name → Bool
names_instance es n = list_any (λ e. same_name e.name n && is_instance e.kind) es

-- Two names are of one class if they are equal, or if both are names of instances and have one track.
abbrev pub same_class : NameRules → List Entry → Name → Name → Bool
same_class rules es a b = same_name a b || (same_track (rules.track a) (rules.track b) && (names_instance es a && names_instance es b))

-- Two entries are linked if they have one name, or if they are instances whose names have one track.
pub data IsLink (rules : NameRules) (a b : Entry) : Type 0 where
  one_name : a.name ≡ b.name → IsLink rules a b
  one_track : is_instance a.kind ≡ true → is_instance b.kind ≡ true → rules.track a.name ≡ rules.track b.name → IsLink rules a b

-- A chain of such links joins two entries.
pub data IsLinked (rules : NameRules) (es : List Entry) : ℕ → ℕ → Type 0 where
  link : (i j : ℕ) (a b : Entry) → slice_get es i ≡ Some a → slice_get es j ≡ Some b → IsLink rules a b → IsLinked rules es i j
  chain : (i j k : ℕ) → IsLinked rules es i j → IsLinked rules es j k → IsLinked rules es i k

-- The first name of each class, in order of first appearance.
abbrev pub names_of_classes : NameRules → List Entry → List Entry → List Name
names_of_classes rules es [] = []
names_of_classes rules es (e ∷ rest) = e.name ∷ filter (λ n. not (same_class rules es e.name n)) (names_of_classes rules es rest)

-- The first name of each class of these entries.
abbrev pub class_names : NameRules → List Entry → List Name
class_names rules es = names_of_classes rules es es

-- The entries in the class of a name.
abbrev pub members : NameRules → List Entry → Name → List Entry
members rules es n = filter (λ e. same_class rules es n e.name) es

-- The first of these names with the greatest version, beginning with n.
abbrev pub newest : NameRules → Name → List Entry → Name
newest rules n [] = n
newest rules n (e ∷ rest) = newest rules (if rules.is_newer e.name n then e.name else n) rest

-- The canonical name of a class: its name with the greatest version.
abbrev pub canonical : NameRules → List Entry → Name → Name
canonical rules es n = newest rules n (members rules es n)

-- A name is in the class with this number.
abbrev pub IsClassOf : NameRules → List Entry → Name → ℕ → Type 0
IsClassOf rules es n k = (m : Name) × (slice_get (class_names rules es) k ≡ Some m) × (same_class rules es m n ≡ true)

-- An entry has this name.
abbrev pub is_asked : List Entry → Name → Bool
is_asked es n = list_any (λ e. same_name e.name n) es

-- No entry before position p has this name.
abbrev pub IsFirstNamed : List Entry → ℕ → Name → Type 0
IsFirstNamed es p n = (j : ℕ) (e : Entry) → j < p → slice_get es j ≡ Some e → e.name ≡ n → ⊥

-- The classes of entries: each entry's class number, each class's canonical entry, and each name's class number.
pub record AreClasses (rules : NameRules) (es : List Entry) (numbers positions : List ℕ) (names : List (Name × ℕ)) : Type 0 where
  -- Each entry has a number.
  pub counted : length numbers ≡ length es
  -- It is the number of its name's class.
  pub numbered : (i k : ℕ) (e : Entry) → slice_get es i ≡ Some e → slice_get numbers i ≡ Some k → IsClassOf rules es e.name k
  -- Two entries have one number if and only if their names are of one class.
  pub told_apart : (i j k l : ℕ) (a b : Entry) → slice_get es i ≡ Some a → slice_get es j ≡ Some b → slice_get numbers i ≡ Some k → slice_get numbers j ≡ Some l
      → (k ≡ l) ↔ (same_class rules es a.name b.name ≡ true)
  -- Each class has a position.
  pub positioned : length positions ≡ length (class_names rules es)
  -- At that position is the entry with its canonical name.
  pub greatest : (k p : ℕ) (n : Name) → slice_get (class_names rules es) k ≡ Some n → slice_get positions k ≡ Some p
      → (e : Entry) × (slice_get es p ≡ Some e) × (e.name ≡ canonical rules es n)
  -- No earlier entry has that name.
  pub first : (k p : ℕ) (n : Name) → slice_get (class_names rules es) k ≡ Some n → slice_get positions k ≡ Some p → IsFirstNamed es p (canonical rules es n)
  -- A name has a number if and only if an entry has it.
  pub found : (n : Name) → IsSome (find_name names n) ↔ (is_asked es n ≡ true)
  -- That number is the number of its class.
  pub classed : (n : Name) (k : ℕ) → find_name names n ≡ Some k → IsClassOf rules es n k

-- The name under which a name is imported: the canonical name of its class, or the name itself if no entry has it.
abbrev pub imported_as : NameRules → List Entry → Name → Name
imported_as rules es n = if is_asked es n then canonical rules es n else n

-- Being of one class is an equivalence of names. On the names of entries it is the least one that contains the links.
pub record ClassLaws : Type 0 where
  pub reflexive : (es : List Entry) (a : Name) → same_class by_names es a a ≡ true
  pub symmetric : (es : List Entry) (a b : Name) → same_class by_names es a b ≡ true → same_class by_names es b a ≡ true
  pub transitive : (es : List Entry) (a b c : Name) → same_class by_names es a b ≡ true → same_class by_names es b c ≡ true → same_class by_names es a c ≡ true
  pub linked : (es : List Entry) (i j : ℕ) (a b : Entry) → slice_get es i ≡ Some a → slice_get es j ≡ Some b
      → IsLinked by_names es i j ↔ (same_class by_names es a.name b.name ≡ true)
  -- All names of a class have the same canonical name.
  pub canonical_alike : (es : List Entry) (a b : Name) → is_asked es a ≡ true → is_asked es b ≡ true → same_class by_names es a b ≡ true → canonical by_names es a ≡ canonical by_names es b
