use Rattle.std.proofs.Common.{◌≡◌, ◌∙◌, refl, sym, ap, subst, List, ℕ, Some, length, slice_index_or, map, string_bytes, arith}
use Rattle.std.specs.Prelude.{slice_get}
use Rattle.std.proofs.lemmas.Option.{slice_get_read}
use Rattle.wac_merge_agreement.specs.private.agreeing.Apart.{AllAgree, IsFirstApart}
use Rattle.wac_merge_classes.specs.entries.Agreement.{joined}
use Rattle.wac_merge_classes.specs.entries.Classes.{AreClasses, by_names}
use Rattle.wac_merge_tables.specs.private.tables.NodeViews.{item_view}
use Rattle.wac_merge_tables.specs.private.tables.Nodes.{item_tree, tree_at}
use Rattle.wac_merge_agreement.specs.private.agreement.Shapes.{IsOfKind}
use Rattle.wac_merge_tables.specs.declared.tables.nodes.Item.TheVariants as item
use Rattle.wac_types_shapes.specs.declared.shapes.component.ItemKind.{ItemKind}
use Rattle.wac_merge_classes.proofs.lemmas.terms.Found.{mapped_length}
use Rattle.wac_merge_agreement.proofs.lemmas.agreement.Leading.{match_some, match_none}
use Rattle.wac_merge_agreement.proofs.lemmas.agreement.Agreeing.{members_agree}
use Rattle.wac_merge_agreement.proofs.lemmas.agreement.Pairs.{all_low, low_at, of_kind_at, shaped_at, none_disagrees, first_disagrees, first_within, second_within, apart_at, read_map}
use Rattle.wac_merge_agreement.proofs.agreement.compared.first_pair.Goals as goal

pub first_disagreement-requires-clause-low : goal.first_disagreement-requires-clause-low
first_disagreement-requires-clause-low c = all_low c.args.types.now c.args.nodes.now c.args.entries.now (map item_view c.args.items.now) (mapped_length item_view c.args.items.now ∙ c.requires.counted) c.requires.items

pub returns-in_default-clause-first : goal.returns-in_default-clause-first
returns-in_default-clause-first c =
    let ns = c.args.nodes.now in
    let items = map item_view c.args.items.now in
    let numbers = c.numbers.result.now in
    let classes = c.args.classes.now in
    let are : AreClasses by_names c.args.entries.now numbers classes.positions.items classes.names =
    subst (λ (l : List ℕ). AreClasses by_names c.args.entries.now l classes.positions.items classes.names) (sym c.numbers.ensures) c.requires.classes in
    none_disagrees c.args.types.now ns c.args.entries.now items (mapped_length item_view c.args.items.now ∙ c.requires.counted) c.requires.items numbers classes.positions.items classes.names are
    (match_none (AllAgree ns items numbers) (λ p. IsFirstApart ns items numbers p.0 p.1) c.in_ok-first.field-0 c.in_ok-first.ensures c.in_default.not-Some)

pub returns-in_default-clause-agreed : goal.returns-in_default-clause-agreed
returns-in_default-clause-agreed c =
    let ns = c.args.nodes.now in
    let items = map item_view c.args.items.now in
    let numbers = c.numbers.result.now in
    let classes = c.args.classes.now in
    let are : AreClasses by_names c.args.entries.now numbers classes.positions.items classes.names =
    subst (λ (l : List ℕ). AreClasses by_names c.args.entries.now l classes.positions.items classes.names) (sym c.numbers.ensures) c.requires.classes in
    members_agree ns c.args.types.now c.args.entries.now items numbers classes.positions.items classes.names are (mapped_length item_view c.args.items.now ∙ c.requires.counted) c.requires.items
    (match_none (AllAgree ns items numbers) (λ p. IsFirstApart ns items numbers p.0 p.1) c.in_ok-first.field-0 c.in_ok-first.ensures c.in_default.not-Some)

pub bounds-entries-second : goal.bounds-entries-second
bounds-entries-second c =
    let ns = c.args.nodes.now in
    let items = map item_view c.args.items.now in
    let numbers = c.numbers.result.now in
    let h : IsFirstApart ns items numbers c.in-Some.first c.in-Some.second =
    match_some (AllAgree ns items numbers) (λ p. IsFirstApart ns items numbers p.0 p.1) c.in_ok-first.field-0 (c.in-Some.first, c.in-Some.second) c.in_ok-first.ensures c.in-Some.is in
    let within = second_within ns items numbers c.in-Some.first c.in-Some.second h in
    omega (arith, within, mapped_length item_view c.args.items.now, c.requires.counted)

pub path_apart-requires-clause-first_low : goal.path_apart-requires-clause-first_low
path_apart-requires-clause-first_low c =
    let ns = c.args.nodes.now in
    let items = map item_view c.args.items.now in
    let numbers = c.numbers.result.now in
    let i = c.in-Some.first in
    let j = c.in-Some.second in
    let h : IsFirstApart ns items numbers i j =
    match_some (AllAgree ns items numbers) (λ p. IsFirstApart ns items numbers p.0 p.1) c.in_ok-first.field-0 (i, j) c.in_ok-first.ensures c.in-Some.is in
    let x = item_view (slice_index_or c.args.items.now i (item.«Type» 0)) in
    let at_first : slice_get items i ≡ Some x = read_map item_view c.args.items.now i (item.«Type» 0) (first_within ns items numbers i j h) in
    let counted = mapped_length item_view c.args.items.now ∙ c.requires.counted in
    low_at c.args.types.now ns c.args.entries.now items counted c.requires.items i x at_first

pub path_apart-requires-clause-second_low : goal.path_apart-requires-clause-second_low
path_apart-requires-clause-second_low c =
    let ns = c.args.nodes.now in
    let items = map item_view c.args.items.now in
    let numbers = c.numbers.result.now in
    let i = c.in-Some.first in
    let j = c.in-Some.second in
    let h : IsFirstApart ns items numbers i j =
    match_some (AllAgree ns items numbers) (λ p. IsFirstApart ns items numbers p.0 p.1) c.in_ok-first.field-0 (i, j) c.in_ok-first.ensures c.in-Some.is in
    let y = item_view (slice_index_or c.args.items.now j (item.«Type» 0)) in
    let at_second : slice_get items j ≡ Some y = read_map item_view c.args.items.now j (item.«Type» 0) (second_within ns items numbers i j h) in
    let counted = mapped_length item_view c.args.items.now ∙ c.requires.counted in
    low_at c.args.types.now ns c.args.entries.now items counted c.requires.items j y at_second

pub path_apart-requires-clause-shaped : goal.path_apart-requires-clause-shaped
path_apart-requires-clause-shaped c =
    let ns = c.args.nodes.now in
    let items = map item_view c.args.items.now in
    let numbers = c.numbers.result.now in
    let i = c.in-Some.first in
    let j = c.in-Some.second in
    let h : IsFirstApart ns items numbers i j =
    match_some (AllAgree ns items numbers) (λ p. IsFirstApart ns items numbers p.0 p.1) c.in_ok-first.field-0 (i, j) c.in_ok-first.ensures c.in-Some.is in
    let x = item_view (slice_index_or c.args.items.now i (item.«Type» 0)) in
    let at_first : slice_get items i ≡ Some x = read_map item_view c.args.items.now i (item.«Type» 0) (first_within ns items numbers i j h) in
    let counted = mapped_length item_view c.args.items.now ∙ c.requires.counted in
    shaped_at c.args.types.now ns c.args.entries.now items counted c.requires.items c.law.ensures c.requires.held i x at_first

pub path_apart-requires-clause-of_kind : goal.path_apart-requires-clause-of_kind
path_apart-requires-clause-of_kind c =
    let ns = c.args.nodes.now in
    let items = map item_view c.args.items.now in
    let numbers = c.numbers.result.now in
    let i = c.in-Some.first in
    let j = c.in-Some.second in
    let h : IsFirstApart ns items numbers i j =
    match_some (AllAgree ns items numbers) (λ p. IsFirstApart ns items numbers p.0 p.1) c.in_ok-first.field-0 (i, j) c.in_ok-first.ensures c.in-Some.is in
    let y = item_view (slice_index_or c.args.items.now j (item.«Type» 0)) in
    let at_second : slice_get items j ≡ Some y = read_map item_view c.args.items.now j (item.«Type» 0) (second_within ns items numbers i j h) in
    let counted = mapped_length item_view c.args.items.now ∙ c.requires.counted in
    let within = second_within ns items numbers i j h in
    let f = c.index-entries-second.result in
    let there : slice_get c.args.entries.now j ≡ Some f =
    slice_get_read c.args.entries.now (length c.args.entries.now) j f refl (omega (arith, within, mapped_length item_view c.args.items.now, c.requires.counted)) c.index-entries-second.is in
    subst (λ (k : ItemKind). IsOfKind c.args.types.now (item_tree (tree_at ns) y) k) (sym c.kind-kind.ensures) (of_kind_at c.args.types.now ns c.args.entries.now items counted c.requires.items c.law.ensures c.requires.held j f y there at_second)

pub path_apart-requires-clause-apart : goal.path_apart-requires-clause-apart
path_apart-requires-clause-apart c =
    let ns = c.args.nodes.now in
    let items = map item_view c.args.items.now in
    let numbers = c.numbers.result.now in
    let i = c.in-Some.first in
    let j = c.in-Some.second in
    let h : IsFirstApart ns items numbers i j =
    match_some (AllAgree ns items numbers) (λ p. IsFirstApart ns items numbers p.0 p.1) c.in_ok-first.field-0 (i, j) c.in_ok-first.ensures c.in-Some.is in
    let x = item_view (slice_index_or c.args.items.now i (item.«Type» 0)) in
    let at_first : slice_get items i ≡ Some x = read_map item_view c.args.items.now i (item.«Type» 0) (first_within ns items numbers i j h) in
    let y = item_view (slice_index_or c.args.items.now j (item.«Type» 0)) in
    let at_second : slice_get items j ≡ Some y = read_map item_view c.args.items.now j (item.«Type» 0) (second_within ns items numbers i j h) in
    apart_at ns items numbers i j x y h at_first at_second

pub returns-clause-first : goal.returns-clause-first
returns-clause-first c =
    let ns = c.args.nodes.now in
    let items = map item_view c.args.items.now in
    let numbers = c.numbers.result.now in
    let i = c.in-Some.first in
    let j = c.in-Some.second in
    let h : IsFirstApart ns items numbers i j =
    match_some (AllAgree ns items numbers) (λ p. IsFirstApart ns items numbers p.0 p.1) c.in_ok-first.field-0 (i, j) c.in_ok-first.ensures c.in-Some.is in
    let x = item_view (slice_index_or c.args.items.now i (item.«Type» 0)) in
    let at_first : slice_get items i ≡ Some x = read_map item_view c.args.items.now i (item.«Type» 0) (first_within ns items numbers i j h) in
    let y = item_view (slice_index_or c.args.items.now j (item.«Type» 0)) in
    let at_second : slice_get items j ≡ Some y = read_map item_view c.args.items.now j (item.«Type» 0) (second_within ns items numbers i j h) in
    let counted = mapped_length item_view c.args.items.now ∙ c.requires.counted in
    let within = second_within ns items numbers i j h in
    let f = c.index-entries-second.result in
    let there : slice_get c.args.entries.now j ≡ Some f =
    slice_get_read c.args.entries.now (length c.args.entries.now) j f refl (omega (arith, within, mapped_length item_view c.args.items.now, c.requires.counted)) c.index-entries-second.is in
    let classes = c.args.classes.now in
    let are : AreClasses by_names c.args.entries.now numbers classes.positions.items classes.names =
    subst (λ (l : List ℕ). AreClasses by_names c.args.entries.now l classes.positions.items classes.names) (sym c.numbers.ensures) c.requires.classes in
    let path : string_bytes c.in_ok-export.export ≡ joined (map string_bytes c.in_ok-names.names.items) = c.in_ok-export.ensures ∙ ap (λ l. joined (map string_bytes l)) c.as_slice.ensures.value in
    first_disagrees c.args.types.now ns c.args.entries.now items counted c.requires.items numbers classes.positions.items classes.names are i j x y f c.kind-kind.result (map string_bytes c.in_ok-names.names.items) (string_bytes c.in_ok-export.export) h at_first at_second there
    c.kind-kind.ensures c.in_ok-names.ensures path
