-- A set of lists of rows, as groups.
use Rattle.std.proofs.Common.{◌≡◌, ℕ, zero, ◌<◌, Bool, true, false, ◌&&◌, nat_eq, eq-eqb, Global, Vec, List, [], ◌∷◌, ◌++◌, length, map, take, Option, Some, inl, inr, refl, ap, sym, ◌∙◌, subst, if◌then◌else◌}
use Rattle.std.specs.Prelude.{slice_get}
use Rattle.std.specs.List.{list_any}
use Rattle.std.specs.Cmp.Lexicographic.{pointwise}
use Rattle.std.proofs.lemmas.Bool.{eqb-true, and_parts as both}
use Rattle.std.proofs.lemmas.List.{map-append}
use Rattle.indexmap.specs.IndexSet.{insert_key}
use Rattle.wac_merge_tables.specs.private.tables.Nodes as table
use Rattle.wac_merge_tables.specs.private.tables.Nodes.{Item, Node}
use Rattle.wac_merge_tables.specs.private.tables.NodeViews.{item_view}
use Rattle.wac_merge_tables.specs.contracts.tables.nodes.ItemPartialEq.TheImpl as ItemEq
use Rattle.wac_merge_tables.specs.declared.tables.nodes.Item.{Item as AnItem}
use Rattle.wac_merge_tables.specs.declared.tables.nodes.Item.TheVariants as item
use Rattle.wac_merge_classes.proofs.lemmas.entries.Lists.{any-found, at-end}
use Rattle.wac_merge_classes.proofs.lemmas.terms.Found.{get_map, no_some, some_same}
use Rattle.wac_merge_agreement.specs.private.agreeing.Fitting.{Fits}
use Rattle.wac_merge_agreement.specs.private.agreeing.Rows.{groups_view, Row, row_view}
use Rattle.wac_merge_agreement.specs.private.agreeing.Groups.{IsGrouped, Splits, alone, beside, same}

pub item_same : (x y : AnItem) → (ItemEq.ghosts).eq x y ≡ true → item_view x ≡ item_view y
item_same (item.«Type» a) (item.«Type» b) e = ap table.a_type (eqb-true a b e)
item_same (item.Func a) (item.Func b) e = ap table.a_func (eqb-true a b e)
item_same (item.Instance a) (item.Instance b) e = ap table.an_instance (eqb-true a b e)
item_same (item.Component a) (item.Component b) e = ap table.a_component (eqb-true a b e)
item_same (item.Module a) (item.Module b) e = ap table.a_module (eqb-true a b e)
item_same (item.Value a) (item.Value b) e = ap table.a_value (eqb-true a b e)
item_same _ _ e = cc e

pub item_back : (x y : AnItem) → item_view x ≡ item_view y → (ItemEq.ghosts).eq x y ≡ true
item_back (item.«Type» a) (item.«Type» b) e = eq-eqb a b (inner e) where
  inner : table.a_type a ≡ table.a_type b → a ≡ b
  inner e = cc
item_back (item.Func a) (item.Func b) e = eq-eqb a b (inner e) where
  inner : table.a_func a ≡ table.a_func b → a ≡ b
  inner e = cc
item_back (item.Instance a) (item.Instance b) e = eq-eqb a b (inner e) where
  inner : table.an_instance a ≡ table.an_instance b → a ≡ b
  inner e = cc
item_back (item.Component a) (item.Component b) e = eq-eqb a b (inner e) where
  inner : table.a_component a ≡ table.a_component b → a ≡ b
  inner e = cc
item_back (item.Module a) (item.Module b) e = eq-eqb a b (inner e) where
  inner : table.a_module a ≡ table.a_module b → a ≡ b
  inner e = cc
item_back (item.Value a) (item.Value b) e = eq-eqb a b (inner e) where
  inner : table.a_value a ≡ table.a_value b → a ≡ b
  inner e = cc
item_back _ _ e = cc e

abbrev Key : Type 0
Key = Vec (ℕ × AnItem) Global

abbrev row_eq : ℕ × AnItem → ℕ × AnItem → Bool
row_eq p q = nat_eq p.0 q.0 && (ItemEq.ghosts).eq p.1 q.1

abbrev pub group_eq : Key → Key → Bool
group_eq x y = pointwise row_eq x.items y.items

rows_same : (xs ys : List (ℕ × AnItem)) → pointwise row_eq xs ys ≡ true → map row_view xs ≡ map row_view ys
rows_same [] [] e = refl
rows_same [] (y ∷ ys) e = cc e
rows_same (x ∷ xs) [] e = cc e
rows_same (x ∷ xs) (y ∷ ys) e =
    let (a, b) = both (row_eq x y) (pointwise row_eq xs ys) e in
    let (n, i) = both (nat_eq x.0 y.0) ((ItemEq.ghosts).eq x.1 y.1) a in
    let first = eqb-true x.0 y.0 n in
    let second = item_same x.1 y.1 i in
    let rest = rows_same xs ys b in
    (λ t. (first t, second t) ∷ rest t)

-- a group is there once it is put
pub grouped_put : (ks : List Key) (g : Key) → 1 < length (map row_view g.items) → IsGrouped (groups_view ks) (map row_view g.items) (groups_view (insert_key group_eq ks g))
grouped_put ks g several =
    elim (list_any (group_eq g) ks) as (λ b. list_any (group_eq g) ks ≡ b → IsGrouped (groups_view ks) (map row_view g.items) (groups_view (if b then ks else ks ++ g ∷ []))) [
      | true ↦ λ any.
          let (i, x, at, is) = any-found (group_eq g) ks any in
          inr (several, (i, get_map (λ (k : Key). map row_view k.items) ks i x at ∙ ap Some (sym (rows_same g.items x.items is))), inl refl)
      | false ↦ λ _.
          let pushed : groups_view (ks ++ g ∷ []) ≡ groups_view ks ++ map row_view g.items ∷ [] = map-append (λ (k : Key). map row_view k.items) ks (g ∷ []) in
          inr (several, (length (groups_view ks), subst (λ (l : List (List Row)). slice_get l (length (groups_view ks)) ≡ Some (map row_view g.items)) (sym pushed) (at-end (groups_view ks) (map row_view g.items))), inr pushed)
    ] refl

-- so it is where the groups before are known by another name
pub grouped_keys : (ks ls new : List Key) (g : Key) → ks ≡ ls → new ≡ insert_key group_eq ks g → 1 < length (map row_view g.items) → IsGrouped (groups_view ls) (map row_view g.items) (groups_view new)
grouped_keys ks ls new g known is several =
    subst (λ (l : List Key). IsGrouped (groups_view l) (map row_view g.items) (groups_view new)) known (subst (λ (l : List Key). IsGrouped (groups_view ks) (map row_view g.items) (groups_view l)) (sym is) (grouped_put ks g several))

first_taken : (xs : List Row) (x : Row) → slice_get xs 0 ≡ Some x → take 1 xs ≡ x ∷ []
first_taken [] x at = absurd (no_some x at)
first_taken (y ∷ xs) x at = ap (λ z. z ∷ []) (some_same y x at)

-- the first alone
pub split_start : (ns : List Node) (holder : ℕ) (held : Item) (old : Option (ℕ × ℕ)) (rows group : List Row) → slice_get rows zero ≡ Some (holder, held) → group ≡ (holder, held) ∷ [] → Splits ns holder held old (take 1 rows) group old
split_start ns holder held old rows group at is =
    subst (λ (l : List Row). Splits ns holder held old l group old) (sym (first_taken rows (holder, held) at)) (subst (λ (g : List Row). Splits ns holder held old ((holder, held) ∷ []) g old) (sym is) alone)

-- the same as the first
pub split_same : (ns : List Node) (holder : ℕ) (held x : Item) (old : Option (ℕ × ℕ)) (rows group : List Row) (first : Option (ℕ × ℕ)) (e : ℕ) → x ≡ held → Splits ns holder held old rows group first → Splits ns holder held old (rows ++ (e, x) ∷ []) group first
split_same ns holder held x old rows group first e is h = subst (λ (y : Item). Splits ns holder held old (rows ++ (e, y) ∷ []) group first) (sym is) (same rows group first e h)

-- beside the first, where it fits and is another
pub split_fits : (ns : List Node) (holder : ℕ) (held x : Item) (old : Option (ℕ × ℕ)) (rows group more : List Row) (first : Option (ℕ × ℕ)) (e : ℕ) → (x ≡ held → ⊥) → Fits ns held x → more ≡ group ++ (e, x) ∷ []
    → Splits ns holder held old rows group first → Splits ns holder held old (rows ++ (e, x) ∷ []) more first
split_fits ns holder held x old rows group more first e other (inl is) _ h = absurd (other (sym is))
split_fits ns holder held x old rows group more first e other (inr (a, b)) is h = subst (λ (g : List Row). Splits ns holder held old (rows ++ (e, x) ∷ []) g first) (sym is) (beside rows group first e x h a b)
