-- The value of a grouping of exports by name.
use Rattle.std.specs.Prelude.{ℕ, List, [], ◌∷◌, map}
use Rattle.std.specs.Borrow.{Bor}
use Rattle.wac_types_shapes.specs.primitives.Name.{Name}
use Rattle.wac_types_shapes.specs.declared.shapes.component.ItemKind.{ItemKind}
use Rattle.wac_merge_unions.specs.declared.uniting.grouped.Listed.{Listed}
use Rattle.wac_merge_unions.specs.declared.uniting.grouped.Listed.TheVariants as listed

-- The exports under one name.
abbrev pub listed_items : Listed → List (ℕ × ItemKind)
listed_items (listed.One l) = l ∷ []
listed_items (listed.Several ls) = ls.items

-- The exports under each name, each name as its bytes.
abbrev pub groups_of : List (Bor (List ℕ) × Listed) → List (Name × List (ℕ × ItemKind))
groups_of es = map (λ e. (e.0.now, listed_items e.1)) es
