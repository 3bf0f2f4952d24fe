-- What binds a value type: the first class that exports it as its own.
use Rattle.std.specs.Prelude.{ℕ, suc, ◌≡◌, ◌==◌, Bool, false, if◌then◌else◌, List, [], ◌∷◌, Option, Some, None}
use Rattle.wac_types_shapes.specs.primitives.Name.{Name, option_case, first_some}
use Rattle.wac_types_shapes.specs.primitives.Tree.{Place, named}
use Rattle.wac_types_collection.specs.collection.Collection.{Collection, item_at}
use Rattle.wac_types_shapes.specs.declared.shapes.component.DefinedTypeId.{DefinedTypeId}
use Rattle.wac_types_shapes.specs.declared.shapes.component.ItemKind.{ItemKind}
use Rattle.wac_types_shapes.specs.declared.shapes.component.ItemKind.TheVariants as kind
use Rattle.wac_merge_classes.specs.entries.Classes.{Entry, NameRules, by_names, class_names, members}
use Rattle.wac_merge_classes.specs.terms.Values.{is_value, listed_value, uses_value, value_name}

-- The path under which an entry has a value type: its first export name in an instance, or no name if the entry is the
-- type.
abbrev pub listed_path : Collection → ItemKind → DefinedTypeId → Option (List Place)
listed_path c (kind.Instance i) d = option_case (item_at c.interfaces i.0) None (λ it. option_case (value_name c it.exports d) None (λ n. Some (named n ∷ [])))
listed_path c k d = if is_value d (listed_value c k) then Some [] else None

-- The entry is an instance whose interface uses the value type.
abbrev pub is_used : Collection → ItemKind → DefinedTypeId → Bool
is_used c (kind.Instance i) d = option_case (item_at c.interfaces i.0) false (λ it. uses_value c it.uses d)
is_used c k d = false

-- The path under which an entry has a value type that it does not use.
abbrev pub own_path : Collection → DefinedTypeId → ItemKind → Option (List Place)
own_path c d k = if is_used c k d then None else listed_path c k d

-- The path under which an entry has a value type that it uses.
abbrev pub used_path : Collection → DefinedTypeId → ItemKind → Option (List Place)
used_path c d k = if is_used c k d then listed_path c k d else None

-- The first path that an entry of a list has.
abbrev pub first_path : (ItemKind → Option (List Place)) → List Entry → Option (List Place)
first_path path [] = None
first_path path (e ∷ rest) = first_some (path e.kind) (first_path path rest)

-- The number and path of the first of these classes with a path. The first of them has the number k.
abbrev pub listing_from : NameRules → List Entry → (ItemKind → Option (List Place)) → ℕ → List Name → Option (ℕ × List Place)
listing_from rules es path k [] = None
listing_from rules es path k (class ∷ rest) = option_case (first_path path (members rules es class)) (listing_from rules es path (suc k) rest) (λ p. Some (k, p))

-- The number and path of the first class with a path.
abbrev pub first_listing : NameRules → List Entry → (ItemKind → Option (List Place)) → Option (ℕ × List Place)
first_listing rules es path = listing_from rules es path 0 (class_names rules es)

-- The first class that exports the value type without using it binds it, else the first class that exports it.
abbrev pub value_binding : NameRules → Collection → List Entry → DefinedTypeId → Option (ℕ × List Place)
value_binding rules c es d = first_some (first_listing rules es (own_path c d)) (first_listing rules es (used_path c d))

-- The value of a type's first occurrence in the list.
abbrev pub find_value : {A : Type 0} → List (DefinedTypeId × A) → DefinedTypeId → Option A
find_value [] d = None
find_value (e ∷ rest) d = if d.0 == e.0.0 then Some e.1 else find_value rest d

-- The map gives the class and path that bind each value type.
abbrev pub AreValueBindings : Collection → List Entry → List (DefinedTypeId × (ℕ × List Place)) → Type 0
AreValueBindings c es b = (d : DefinedTypeId) → find_value b d ≡ value_binding by_names c es d
