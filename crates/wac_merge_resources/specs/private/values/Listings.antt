-- Exports of value types, for the entries that were visited so far. Only contracts inside the merge cite this file.
use Rattle.std.specs.Prelude.{ℕ, suc, ◌≡◌, ◌==◌, ◌&&◌, ◌||◌, nat_lt, Bool, true, false, not, if◌then◌else◌, List, [], ◌∷◌, map, Option, Some, None, string_bytes}
use Rattle.std.specs.List.{list_any}
use Rattle.std.specs.Option.{option_map}
use Rattle.wac_types_shapes.specs.primitives.Name.{Name, option_case}
use Rattle.wac_types_shapes.specs.primitives.Tree.{Place, named}
use Rattle.wac_types_collection.specs.collection.Collection.{Collection}
use Rattle.wac_types_shapes.specs.declared.shapes.component.DefinedTypeId.{DefinedTypeId}
use Rattle.wac_types_shapes.specs.declared.shapes.component.ItemKind.{ItemKind}
use Rattle.wac_merge_classes.specs.entries.Classes.{Entry, by_names, class_names}
use Rattle.wac_merge_classes.specs.private.entries.Numbering.{members_in}
use Rattle.wac_merge_classes.specs.terms.Values.{value_name}
use Rattle.wac_merge_classes.specs.private.terms.ValueBindings.{find_value, first_path, is_used, listed_path, own_path, used_path}
use Rattle.wac_merge_resources.specs.declared.values.table.Listing.{Listing}

-- An export of a value type: whether it is used from another interface, its class, and its path in the class.
pub record Found : Type 0 where
  pub used : Bool
  pub class : ℕ
  pub path : List Place

abbrev pub found : Bool → ℕ → List Place → Found
found used class path = record { used = used; class = class; path = path }

-- Exports that are not used come before those that are used, and then lower classes come first.
abbrev pub comes_before : Found → Found → Bool
comes_before a b = if a.used then b.used && nat_lt a.class b.class else b.used || nat_lt a.class b.class

-- The known export stays if the new one does not come before it.
abbrev pub stays : Option Found → Found → Bool
stays None f = false
stays (Some a) f = not (comes_before f a)

-- The one of two exports that comes first.
abbrev pub better : Option Found → Option Found → Option Found
better o None = o
better o (Some f) = if stays o f then o else Some f

-- One value type has this export, and no other has any.
abbrev pub only : DefinedTypeId → Found → DefinedTypeId → Option Found
only q f d = if q.0 == d.0 then Some f else None

-- Each value type has the first of its export in the old table and its new one.
abbrev pub Takes : List (DefinedTypeId × Found) → (DefinedTypeId → Option Found) → List (DefinedTypeId × Found) → Type 0
Takes old more new = (d : DefinedTypeId) → find_value new d ≡ better (find_value old d) (more d)

-- The exports of value types of an interface in a class, where `uses` tells which of them are used.
abbrev pub exported : Collection → (DefinedTypeId → Bool) → ℕ → List (Name × ItemKind) → DefinedTypeId → Option Found
exported c uses class exports d = option_case (value_name c exports d) None (λ n. Some (found (uses d) class (named n ∷ [])))

-- The export of a value type in an entry of a class.
abbrev pub listed_by : Collection → ℕ → ItemKind → DefinedTypeId → Option Found
listed_by c class k d = option_case (listed_path c k d) None (λ path. Some (found (is_used c k d) class path))

-- A set contains a value type.
abbrev pub has_value : List DefinedTypeId → DefinedTypeId → Bool
has_value ds d = list_any (λ q. d.0 == q.0) ds

-- The first class in which a visited entry has a path, with that path. The first class of the list has number k.
abbrev pub seen_from : List Entry → List Entry → (ItemKind → Option (List Place)) → ℕ → List Name → Option (ℕ × List Place)
seen_from es seen path k [] = None
seen_from es seen path k (class ∷ rest) = option_case (first_path path (members_in es seen class)) (seen_from es seen path (suc k) rest) (λ p. Some (k, p))

-- The path in a class that does not use the value type, or else the path in one that does.
abbrev pub either : Option (ℕ × List Place) → Option (ℕ × List Place) → Option Found
either (Some a) o = Some (found false a.0 a.1)
either None (Some b) = Some (found true b.0 b.1)
either None None = None

-- The export of a value type in the entries that were visited.
abbrev pub seen : Collection → List Entry → List Entry → DefinedTypeId → Option Found
seen c es before d = either (seen_from es before (own_path c d) 0 (class_names by_names es)) (seen_from es before (used_path c d) 0 (class_names by_names es))

-- The path of a name, or the empty path.
abbrev pub path_of : Option Name → List Place
path_of None = []
path_of (Some n) = named n ∷ []

-- The exports that the entries of a table represent.
abbrev pub listing_view : Listing → Found
listing_view l = found l.is_used l.class (path_of (option_map string_bytes l.name))

abbrev pub listings_view : List (DefinedTypeId × Listing) → List (DefinedTypeId × Found)
listings_view es = map (λ e. (e.0, listing_view e.1)) es

-- The class and the path of an export.
abbrev pub place : Found → ℕ × List Place
place f = (f.class, f.path)

abbrev pub places : List (DefinedTypeId × Found) → List (DefinedTypeId × (ℕ × List Place))
places t = map (λ e. (e.0, place e.1)) t
