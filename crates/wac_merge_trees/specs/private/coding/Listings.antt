-- The items of the scopes of an entry in an interning table. Only contracts inside the merge cite this file.
use Rattle.std.specs.Global.{Global}
use Rattle.std.specs.Prelude.{ℕ, ◌≡◌, ◌≤◌, false, List, Option, Some, None, Vec, Contains, slice_get}
use Rattle.wac_types_collection.specs.collection.Collection.{Collection}
use Rattle.wac_types_collection.specs.collection.Held.{Names}
use Rattle.wac_types_collection.specs.subtyping.Called.{Called}
use Rattle.wac_types_shapes.specs.declared.shapes.component.ItemKind.{ItemKind}
use Rattle.wac_types_shapes.specs.declared.shapes.component.WorldId.{WorldId}
use Rattle.wac_types_shapes.specs.declared.shapes.component.«Type».TheVariants as ty
use Rattle.wac_merge_trees.specs.declared.coding.calls.Calls.{Calls}
use Rattle.wac_merge_tables.specs.declared.tables.nodes.Item.{Item}
use Rattle.wac_merge_classes.specs.declared.entries.scopes.Opener.{Opener}
use Rattle.wac_merge_classes.specs.declared.entries.scopes.Scope.{Scope}
use Rattle.wac_merge_classes.specs.entries.Classes.{is_instance}
use Rattle.wac_merge_trees.specs.private.coding.CallsView.{names_in}
use Rattle.wac_merge_trees.specs.private.coding.Coding.{tree_in, HasTree}
use Rattle.wac_merge_trees.specs.private.coding.ItemCoding.{AreItems}
use Rattle.wac_merge_tables.specs.private.tables.Nodes.{Node}
use Rattle.wac_merge_classes.specs.entries.Scopes.{listed_in, inside, number_of, opener_type}

-- How resources are named in another scope of the same entry.
abbrev pub at_scope : Calls → ℕ → Calls
at_scope s i = record { entries = s.entries; bindings = s.bindings; class = s.class; kind = s.kind; scopes = s.scopes; bound = s.bound; outward = s.outward; known = s.known; scope = Some i }

-- The scopes among these that are no sides of worlds with a number are directly inside this one.
abbrev pub AreOpen : Calls → List Opener → Type 0
AreOpen s os = (o : Opener) → Contains os o → number_of s.known.now (opener_type o) ≡ None → Contains s.scopes.now (inside s.scope o)

-- Each number is that of the world's component, whatever names resources have around it.
abbrev pub AreKnown : List Node → Collection → List (Option ℕ) → Type 0
AreKnown ns c known = (w : WorldId) (n : ℕ) → number_of known (ty.World w) ≡ Some n → (m : Names Called) → HasTree ns (tree_in c m (ty.World w)) n

-- Not outside an instance, since the outermost scope of an instance names resources by a rule of its own.
abbrev pub IsAroundIn : ItemKind → Option ℕ → Type 0
IsAroundIn k None = is_instance k ≡ false
IsAroundIn k (Some i) = Unit {0}

abbrev pub IsAround : Calls → Type 0
IsAround s = IsAroundIn s.kind s.scope

-- The items of each scope from position `from` on.
abbrev pub AreListings : List Node → Collection → Calls → ℕ → List (Vec Item Global) → Type 0
AreListings ns c s from ls = (i : ℕ) (t : Scope) (xs : Vec Item Global) → from ≤ i → slice_get s.scopes.now i ≡ Some t → slice_get ls i ≡ Some xs
    → AreItems ns (tree_in c (names_in c (at_scope s i))) (listed_in c t.opener) xs.items

-- The items of each scope directly inside this one.
abbrev pub AreInnerListings : List Node → Collection → Calls → List (Vec Item Global) → Type 0
AreInnerListings ns c s ls = (i : ℕ) (t : Scope) (xs : Vec Item Global) → t.parent ≡ s.scope → slice_get s.scopes.now i ≡ Some t → slice_get ls i ≡ Some xs
    → AreItems ns (tree_in c (names_in c (at_scope s i))) (listed_in c t.opener) xs.items
