-- The merged imports weigh no more than the imports that were merged.
use Rattle.std.specs.Prelude.{ℕ, ◌+◌, ◌≤◌, if◌then◌else◌, List, map, length}
use Rattle.std.specs.List.{sum_by}
use Rattle.wac_types_shapes.specs.shapes.Kinds.{kind_type}
use Rattle.wac_types_shapes.specs.declared.shapes.component.«Type».{«Type» as AnyType}
use Rattle.wac_types_collection.specs.collection.Collection.{Collection}
use Rattle.wac_types_weight.specs.Weight.{near_all}
use Rattle.wac_types_weight.specs.Text.{own_texts, entry_weight, bare_weight}
use Rattle.wac_merge_classes.specs.entries.Classes.{Entry, is_instance}
use Rattle.wac_merge_classes.specs.terms.Merge.{Merged}

-- An import without its type: the bytes of its name, and 1 for an item that is no instance.
abbrev pub name_weight : Entry → ℕ
name_weight e = (if is_instance e.kind then 0 else 1) + length e.name

-- The types of imports.
abbrev pub types_of : List Entry → List AnyType
types_of es = map (λ e. kind_type e.kind) es

-- The imports are merged from these of the collection. They weigh no more: names, items of interfaces and worlds, what is
-- inside these, and what is near all imports together, each once.
pub record IsLighter (c : Collection) (es : List Entry) (m : Merged) : Type 0 where
  pub names : sum_by name_weight m.imports ≤ sum_by name_weight es
  pub items : sum_by (entry_weight m.types) (types_of m.imports) ≤ sum_by (entry_weight c) (types_of es)
  pub inside : sum_by (bare_weight m.types) (types_of m.imports) ≤ sum_by (bare_weight c) (types_of es)
  pub near : own_texts m.types (near_all m.types (types_of m.imports)) ≤ own_texts c (near_all c (types_of es))
