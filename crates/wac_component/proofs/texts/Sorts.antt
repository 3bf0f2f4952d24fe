-- Sorts, descriptions and aliases are read as they were written.
use Rattle.std.proofs.Common.{◌≡◌, [], ◌∷◌, ◌++◌, refl, sym, subst}
use Rattle.wac_binary.specs.declared.sorts.Sort.{Sort}
use Rattle.wac_binary.specs.declared.sorts.Sort.TheVariants as s
use Rattle.wac_binary.specs.declared.sorts.Description.{Description}
use Rattle.wac_binary.specs.declared.sorts.Description.TheVariants as e
use Rattle.wac_binary.specs.Items.{Alias, export_alias, outer_alias}
use Rattle.wac_binary.specs.Leb.{unsigned}
use Rattle.wac_binary.specs.Bytes.{text, sort, described, alias_bytes}
use Rattle.wac_binary.specs.Format.{DescriptionIsInFormat, AliasIsInFormat}
use Rattle.wac_component.specs.Parts.{module_sort, AnyAlias, component_alias}
use Rattle.wac_component.specs.Reader.{Reader, made, made2, one_of}
use Rattle.wac_component.specs.Numbers.{number_at, name_at}
use Rattle.wac_component.specs.Types.{AnySort, component_sort, core_sort, core_sort_at, any_sort_at, sort_at, core_export_alias_at, export_alias_at, outer_alias_at, alias_at, alias_in_type_at, description_at}
use Rattle.wac_component.proofs.texts.Reads.{Reads, reads_done, reads_then, reads_made, reads_made2, reads_byte, reads_bytes, reads_number, reads_name}

-- A sort, among the core sorts and the others.
abbrev any_of : Sort → AnySort
any_of s.CoreModule = core_sort module_sort
any_of t = component_sort t

reads_any_sort : (t : Sort) → Reads any_sort_at (sort t) (any_of t)
unfolding any_sort_at core_sort_at
reads_any_sort s.CoreModule = record { again = λ short rest. refl }
reads_any_sort t = record { again = λ short rest. refl }

pub reads_sort : (t : Sort) → Reads sort_at (sort t) t
unfolding sort_at any_sort_at core_sort_at
reads_sort s.CoreModule = record { again = λ short rest. refl }
reads_sort t = record { again = λ short rest. refl }

pub reads_description : (d : Description) → DescriptionIsInFormat d → Reads description_at (described d) d
unfolding description_at
reads_description (e.CoreModule i) h = reads_bytes 0 0x11 (reads_made e.CoreModule (reads_number i h)) (λ bytes. refl)
reads_description (e.Func i) h = reads_byte 1 (reads_made e.Func (reads_number i h)) (λ bytes. refl)
reads_description (e.Equal i) h = reads_bytes 3 0 (reads_made e.Equal (reads_number i h)) (λ bytes. refl)
reads_description e.Fresh h = reads_bytes 3 1 (reads_done e.Fresh) (λ bytes. refl)
reads_description (e.Component i) h = reads_byte 4 (reads_made e.Component (reads_number i h)) (λ bytes. refl)
reads_description (e.Instance i) h = reads_byte 5 (reads_made e.Instance (reads_number i h)) (λ bytes. refl)

-- The readers of aliases, at a sort of components.

abbrev export_alias_of : Sort → Reader AnyAlias
export_alias_of t = made component_alias (made2 (export_alias t) number_at name_at)

abbrev outer_alias_of : Sort → Reader AnyAlias
outer_alias_of t = made component_alias (made2 (outer_alias t) number_at number_at)

export_any : (t : Sort) → export_alias_at (any_of t) ≡ export_alias_of t
export_any s.CoreModule = refl
export_any t = refl

outer_any : (t : Sort) → outer_alias_at (any_of t) ≡ outer_alias_of t
outer_any s.CoreModule = refl
outer_any t = refl

pub reads_alias : (a : Alias) → AliasIsInFormat a → Reads alias_at (alias_bytes a) (component_alias a)
unfolding alias_at
reads_alias (export_alias t i n) h =
    let last : Reads (export_alias_of t) (unsigned i ++ text n) (component_alias (export_alias t i n)) = reads_made component_alias (reads_made2 (export_alias t) (reads_number i h.0) (reads_name n h.1)) in
    let chosen : Reads (export_alias_at (any_of t)) (unsigned i ++ text n) (component_alias (export_alias t i n)) = subst (λ (r : Reader AnyAlias). Reads r (unsigned i ++ text n) (component_alias (export_alias t i n))) (sym (export_any t)) last in
    reads_then (λ k. one_of ((0, export_alias_at k) ∷ (1, core_export_alias_at k) ∷ (2, outer_alias_at k) ∷ [])) (reads_any_sort t) (reads_byte 0 chosen (λ bytes. refl))
reads_alias (outer_alias t count i) h =
    let last : Reads (outer_alias_of t) (unsigned count ++ unsigned i) (component_alias (outer_alias t count i)) = reads_made component_alias (reads_made2 (outer_alias t) (reads_number count h.0) (reads_number i h.1)) in
    let chosen : Reads (outer_alias_at (any_of t)) (unsigned count ++ unsigned i) (component_alias (outer_alias t count i)) = subst (λ (r : Reader AnyAlias). Reads r (unsigned count ++ unsigned i) (component_alias (outer_alias t count i))) (sym (outer_any t)) last in
    reads_then (λ k. one_of ((0, export_alias_at k) ∷ (1, core_export_alias_at k) ∷ (2, outer_alias_at k) ∷ [])) (reads_any_sort t) (reads_byte 2 chosen (λ bytes. refl))

pub reads_alias_in_type : (a : Alias) → AliasIsInFormat a → Reads alias_in_type_at (alias_bytes a) a
unfolding alias_in_type_at
reads_alias_in_type a h = record { again = λ short rest. rw ((reads_alias a h).again short rest) refl }
