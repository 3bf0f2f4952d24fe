-- What is known while classes are numbered. Only contracts inside the merge cite this file.
use Rattle.std.specs.Prelude.{◌≡◌, ℕ, Bool, true, false, ◌||◌, List, [], ◌∷◌, ◌++◌, map, take, filter, length, Some, is_some, slice_get}
use Rattle.std.specs.Option.{MatchOption}
use Rattle.wac_names.specs.Track.{key_text}
use Rattle.wac_names.specs.Reading.{read_track}
use Rattle.wac_types_shapes.specs.primitives.Name.{Name, find_name, same_name}
use Rattle.wac_types_shapes.specs.shapes.Named.{named_at}
use Rattle.wac_merge_classes.specs.entries.Classes.{Entry, IsFirstNamed, by_names, same_class, names_of_classes, class_names, names_instance, is_asked, newest}

-- The entries of a name's class among those seen so far.
abbrev pub members_in : List Entry → List Entry → Name → List Entry
members_in es seen n = filter (λ e. same_class by_names es n e.name) seen

-- The key of a name's class: that of its track if the name is an instance's, else `-` and the name.
abbrev pub key_for : Bool → Name → List ℕ
key_for true n = key_text (read_track n)
key_for false n = 45 ∷ n

abbrev pub class_key : List Entry → Name → List ℕ
class_key es n = key_for (names_instance es n) n

-- These are the names of the instances.
abbrev pub AreInstances : List Entry → List (Name × Unit {0}) → Type 0
AreInstances es instances = (n : Name) → is_some (find_name instances n) ≡ names_instance es n

-- The new names are the old names and one more.
abbrev pub HasMore : List (Name × Unit {0}) → Name → List (Name × Unit {0}) → Type 0
HasMore old name new = (n : Name) → is_some (find_name new n) ≡ (is_some (find_name old n) || same_name n name)

-- The class names of the first i entries.
abbrev pub class_names_to : List Entry → ℕ → List Name
class_names_to es i = names_of_classes by_names es (take i es)

-- A name is in the class at this position of these class names.
abbrev pub IsNumbered : List Entry → List Name → Name → ℕ → Type 0
IsNumbered es ms n k = (m : Name) × (slice_get ms k ≡ Some m) × (same_class by_names es m n ≡ true)

-- A key has this class number: its own, or that of a new class appended after the others, which begins at entry i.
abbrev pub Places : List (Name × Unit {0}) → List ℕ → Name → ℕ → List (Name × Unit {0}) → List ℕ → ℕ → Type 0
Places keys firsts key i more_keys more_firsts k = MatchOption (named_at 0 key keys)
    ((more_keys ≡ keys ++ (key, tt) ∷ []) × (more_firsts ≡ firsts ++ i ∷ []) × (k ≡ length keys))
    (λ p. (more_keys ≡ keys) × (more_firsts ≡ firsts) × (k ≡ p.0))

-- The classes with these names have these keys and begin at these positions.
pub record AreKeyed (es : List Entry) (ms : List Name) (keys : List (Name × Unit {0})) (firsts : List ℕ) : Type 0 where
  pub keyed : keys ≡ map (λ n. (class_key es n, tt)) ms
  pub positioned : length firsts ≡ length ms
  pub begins : (k p : ℕ) (m : Name) → slice_get ms k ≡ Some m → slice_get firsts k ≡ Some p → (e : Entry) × (slice_get es p ≡ Some e) × (e.name ≡ m) × IsFirstNamed es p e.name

-- Each name seen so far has the number of its class.
pub record AreFound (es : List Entry) (ms : List Name) (seen : List Entry) (names : List (Name × ℕ)) : Type 0 where
  pub found : (n : Name) → is_some (find_name names n) ≡ is_asked seen n
  pub numbered : (n : Name) (k : ℕ) → find_name names n ≡ Some k → IsNumbered es ms n k

-- Each entry has the number of its class.
abbrev pub HaveNumbers : List Entry → List Name → List ℕ → Type 0
HaveNumbers es ms numbers = (j k : ℕ) (e : Entry) → slice_get es j ≡ Some e → slice_get numbers j ≡ Some k → IsNumbered es ms e.name k

-- Each class has the position of the first entry with the greatest version among those seen so far.
abbrev pub AreNewest : List Entry → List Entry → List ℕ → Type 0
AreNewest es seen positions = (k p : ℕ) (n : Name) → slice_get (class_names by_names es) k ≡ Some n → slice_get positions k ≡ Some p
    → (e : Entry) × (slice_get es p ≡ Some e) × (e.name ≡ newest by_names n (members_in es seen n)) × IsFirstNamed es p e.name
