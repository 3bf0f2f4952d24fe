-- The value of the Rust type of sorts.
use Rattle.wac_reader_parts.specs.declared.sorts.AnySort.{AnySort as AnySortType}
use Rattle.wac_reader_parts.specs.declared.sorts.AnySort.TheVariants as a
use Rattle.wac_component.specs.Types.{AnySort, component_sort, core_sort}
use Rattle.wac_component.specs.CoreViews.{core_sort_of}

-- A sort of a component, or a core sort.
abbrev pub any_sort_of : AnySortType → AnySort
any_sort_of (a.Component sort) = component_sort sort
any_sort_of (a.Core sort) = core_sort (core_sort_of sort)
