-- Entries of one list that another has too. No public contract cites them.
use Rattle.std.specs.Prelude.{Bool, false, ◌&&◌, List}
use Rattle.std.specs.List.{list_all}
use Rattle.wac_types_shapes.specs.primitives.Name.{Name, find_name, option_case}
use Rattle.wac_types_shapes.specs.declared.shapes.component.ItemKind.{ItemKind}
use Rattle.wac_types_collection.specs.collection.Uses.{same_item}

-- The list has the item of this entry under its name.
abbrev pub has_entry : List (Name × ItemKind) → Name × ItemKind → Bool
has_entry items e = option_case (find_name items e.0) false (λ k. same_item k e.1)

-- Each entry of the first list is one of the second.
abbrev pub are_among : List (Name × ItemKind) → List (Name × ItemKind) → Bool
are_among items others = list_all (has_entry others) items

-- Each entry of either list is one of the other.
abbrev pub have_same_items : List (Name × ItemKind) → List (Name × ItemKind) → Bool
have_same_items items others = are_among items others && are_among others items
