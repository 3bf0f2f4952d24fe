-- What the code records of the resources that classes bind.
use Rattle.std.specs.Prelude.{ℕ, suc, ◌≡◌, if◌then◌else◌, is_some, true, List, [], ◌∷◌, Some, None, slice_get}
use Rattle.std.specs.Option.{option_map}
use Rattle.wac_names.specs.Reading.{read_track}
use Rattle.wac_names.specs.Views.{track_view}
use Rattle.wac_names.specs.declared.tracks.Track.{Track}
use Rattle.wac_types_shapes.specs.primitives.Name.{Name, option_case}
use Rattle.wac_types_shapes.specs.primitives.Tree.{imported, Place, Leaf}
use Rattle.wac_types_collection.specs.collection.Collection.{Collection, holds_type}
use Rattle.wac_types_shapes.specs.shapes.Kinds.{kind_type}
use Rattle.wac_types_collection.specs.collection.Held.{Names}
use Rattle.wac_types_shapes.specs.declared.shapes.component.ResourceId.{ResourceId}
use Rattle.wac_types_shapes.specs.declared.shapes.component.ItemKind.{ItemKind}
use Rattle.wac_merge_classes.specs.entries.Classes.{Entry, by_names, class_names}
use Rattle.wac_merge_classes.specs.entries.Binding.{kind_binds, first_binds, class_binds, binding_class}
use Rattle.wac_merge_classes.specs.private.entries.Numbering.{members_in}
use Rattle.wac_merge_classes.specs.entries.Places.{find_resource, leaf_at}

-- For each class what it binds, and for each resource the first class that binds it.
pub record ClassBindings : Type 0 where
  pub classes : List (List (ResourceId × Leaf))
  pub firsts : List (ResourceId × ℕ)

-- The path under which a class binds a resource.
abbrev pub path_in : ClassBindings → ℕ → Names (List Place)
path_in b k r = option_case (slice_get b.classes k) None (λ m. option_map (λ l. l.path) (find_resource m r))

-- The number of the first class that binds a resource, and its path there.
abbrev pub first_in : ClassBindings → Names (ℕ × List Place)
first_in b r = option_case (find_resource b.firsts r) None (λ k. option_case (path_in b k r) None (λ path. Some (k, path)))

-- The record describes what the classes of the entries bind.
pub record AreBindings (c : Collection) (es : List Entry) (b : ClassBindings) : Type 0 where
  pub paths : (k : ℕ) (n : Name) (r : ResourceId) → slice_get (class_names by_names es) k ≡ Some n → path_in b k r ≡ class_binds by_names c es n r
  pub firsts : (r : ResourceId) → first_in b r ≡ binding_class by_names c es r

-- The collection holds the type of each entry.
abbrev pub AreHeld : Collection → List Entry → Type 0
AreHeld c es = (i : ℕ) (e : Entry) → slice_get es i ≡ Some e → holds_type c (kind_type e.kind) ≡ true

-- These are the tracks of the first classes.
abbrev pub HaveTracks : List Entry → List Track → Type 0
HaveTracks es tracks = (k : ℕ) (n : Name) (t : Track) → slice_get (class_names by_names es) k ≡ Some n → slice_get tracks k ≡ Some t → track_view t ≡ read_track n

-- What an entry of a class binds, as leaves.
abbrev pub member_leaves : Collection → Name → ItemKind → Names Leaf
member_leaves c class k r = option_map (leaf_at imported) (kind_binds by_names c class k r)

-- Each class has what its entries among those seen so far bind.
abbrev pub HaveBound : Collection → List Entry → List Entry → List (List (ResourceId × Leaf)) → Type 0
HaveBound c es seen classes = (k : ℕ) (n : Name) (m : List (ResourceId × Leaf)) (r : ResourceId) → slice_get (class_names by_names es) k ≡ Some n → slice_get classes k ≡ Some m
    → find_resource m r ≡ option_map (leaf_at imported) (first_binds by_names c n (members_in es seen n) r)

-- The number k for each resource that the map binds.
abbrev pub numbered : ℕ → List (ResourceId × Leaf) → Names ℕ
numbered k m r = if is_some (find_resource m r) then Some k else None

-- The number of the first of these maps that binds a resource. The first of them has the number k.
abbrev pub first_from : ℕ → List (List (ResourceId × Leaf)) → Names ℕ
first_from k [] r = None
first_from k (m ∷ ms) r = if is_some (find_resource m r) then Some k else first_from (suc k) ms r
