-- How much is left to compare.
use Rattle.std.proofs.Common.{◌≡◌, ℕ, zero, suc, ◌+◌, ◌<◌, ◌≤◌, List, [], ◌∷◌, ◌++◌, inl, inr, length, Option, Some, None, refl, ap, ◌∙◌, arith, add-one}
use Rattle.std.specs.Prelude.{slice_get}
use Rattle.std.specs.List.{AllByRecursion}
use Rattle.wac_types_shapes.specs.primitives.Name.{Name, option_case}
use Rattle.wac_merge_tables.specs.private.tables.Nodes.{Node, Item, type_of, IsTable}
use Rattle.wac_merge_classes.proofs.lemmas.terms.Found.{some_same, no_some}
use Rattle.wac_merge_agreement.specs.private.agreeing.Fitting.{exports_of, IsOpen}
use Rattle.wac_merge_agreement.specs.private.agreeing.Rows.{Row, Spot, Table, IsLonger, here, there, IsPut, ArePut, exports_put, all_put, groups_view}
use Rattle.wac_merge_agreement.specs.private.agreeing.Groups.{Compares, ComparesAll, none, more, IsFull, IsGrouped, left, sizes_by, sizes_of, size_of, size_to, Splits, alone, same, beside, apart}
use Rattle.wac_merge_agreement.specs.declared.agreeing.agreement.Walk.{Walk}
use Rattle.wac_merge_agreement.proofs.lemmas.agreeing.Comparing.{open_lower, all_of}

sizes_same : (f g : Item → ℕ) (es : List (Name × Item)) → AllByRecursion (λ e. f e.1 ≡ g e.1) es → sizes_by f es ≡ sizes_by g es
sizes_same f g [] h = refl
sizes_same f g (e ∷ es) h = let first = h.0 in let rest = sizes_same f g es h.1 in omega (arith, first, rest)

module _ (ns : List Node) where
  -- of all rows of a table, and of what is put
  abbrev totals : Table → ℕ
  totals [] = 0
  totals (g ∷ t) = sizes_of ns g.1 + totals t

  abbrev puts_size : List (Spot × Row) → ℕ
  puts_size [] = 0
  puts_size (p ∷ ps) = size_of ns p.1.1 + puts_size ps

  sizes_push : (rows : List Row) (r : Row) → sizes_of ns (rows ++ r ∷ []) ≡ sizes_of ns rows + size_of ns r.1
  sizes_push [] r = omega arith
  sizes_push (q ∷ rows) r = let rest = sizes_push rows r in omega (arith, rest)

  totals_push : (t : Table) (g : Spot × List Row) → totals (t ++ g ∷ []) ≡ totals t + sizes_of ns g.1
  totals_push [] g = omega arith
  totals_push (h ∷ t) g = let rest = totals_push t g in omega (arith, rest)

  longer_total : (s : Spot) (r : Row) (t u : Table) → IsLonger s r t u → totals u ≡ totals t + size_of ns r.1
  longer_total s r _ _ (here rows t) = let one = sizes_push rows r in omega (arith, one)
  longer_total s r _ _ (there g t u next) = let rest = longer_total s r t u next in omega (arith, rest)

  put_total : (s : Spot) (r : Row) (t u : Table) → IsPut t s r u → totals u ≡ totals t + size_of ns r.1
  put_total s r t u (inl next) = longer_total s r t u next
  put_total s r t u (inr (_, is)) = let one = totals_push t (s, r ∷ []) in ap totals is ∙ omega (arith, one)

  puts_total : (ps : List (Spot × Row)) (t u : Table) → ArePut t ps u → totals u ≡ totals t + puts_size ps
  puts_total [] t u is = ap totals is ∙ omega arith
  puts_total (p ∷ ps) t u (mid, one, rest) = let a = put_total p.0 p.1 t mid one in let b = puts_total ps mid u rest in omega (arith, a, b)

  puts_size_on : (ps qs : List (Spot × Row)) → puts_size (ps ++ qs) ≡ puts_size ps + puts_size qs
  puts_size_on [] qs = omega arith
  puts_size_on (p ∷ ps) qs = let rest = puts_size_on ps qs in omega (arith, rest)

  exports_size : (e : ℕ) (es : List (Name × Item)) → puts_size (exports_put e es) ≡ sizes_by (size_of ns) es
  exports_size e [] = refl
  exports_size e (x ∷ es) = let rest = exports_size e es in omega (arith, rest)

  left_push : (k : ℕ) (gs : List (List Row)) (g : List Row) → left ns k (gs ++ g ∷ []) ≤ left ns k gs + sizes_of ns g
  left_push zero [] g = omega arith
  left_push (suc k) [] g = omega arith
  left_push zero (h ∷ gs) g = let rest = left_push zero gs g in omega (arith, rest)
  left_push (suc k) (h ∷ gs) g = left_push k gs g

  left_step : (k : ℕ) (gs : List (List Row)) (g : List Row) → slice_get gs k ≡ Some g → left ns k gs ≡ sizes_of ns g + left ns (suc k) gs
  left_step k [] g at = absurd (no_some g at)
  left_step zero (h ∷ gs) g at = ap (λ (z : List Row). sizes_of ns z + left ns zero gs) (some_same h g at)
  left_step (suc k) (h ∷ gs) g at = left_step k gs g at

  split_size : (holder : ℕ) (held : Item) (old : Option (ℕ × ℕ)) (rows group : List Row) (first : Option (ℕ × ℕ)) → Splits ns holder held old rows group first → sizes_of ns group ≤ sizes_of ns rows
  split_size holder held old _ _ _ alone = omega arith
  split_size holder held old _ _ _ (same rows group first e before) =
      let rest = split_size holder held old rows group first before in let one = sizes_push rows (e, held) in omega (arith, rest, one)
  split_size holder held old _ _ _ (beside rows group first e x before a b) =
      let rest = split_size holder held old rows group first before in let one = sizes_push rows (e, x) in let two = sizes_push group (e, x) in omega (arith, rest, one, two)
  split_size holder held old _ _ _ (apart rows group first new e x before unfit least) =
      let rest = split_size holder held old rows group first before in let one = sizes_push rows (e, x) in omega (arith, rest, one)

  one_left : (k : ℕ) (w v : Walk) (rows : List Row) → Compares ns w rows v → left ns k (groups_view v.groups.keys) ≤ left ns k (groups_view w.groups.keys) + sizes_of ns rows
  one_left k w v rows did = go did.grouped where
    size : sizes_of ns did.group ≤ sizes_of ns rows
    size = split_size did.holder did.held w.first rows did.group v.first did.splits

    go : IsGrouped (groups_view w.groups.keys) did.group (groups_view v.groups.keys) → left ns k (groups_view v.groups.keys) ≤ left ns k (groups_view w.groups.keys) + sizes_of ns rows
    go (inl (_, is)) = let e = ap (left ns k) is in omega (arith, e)
    go (inr (_, _, inl is)) = let e = ap (left ns k) is in omega (arith, e)
    go (inr (_, _, inr is)) = let e = ap (left ns k) is in let push = left_push k (groups_view w.groups.keys) did.group in omega (arith, e, push, size)

  all_left : (k : ℕ) (w v : Walk) (t : Table) → ComparesAll ns w t v → left ns k (groups_view v.groups.keys) ≤ left ns k (groups_view w.groups.keys) + totals t
  all_left k w _ _ none = omega arith
  all_left k w _ _ (more t s rows mid new before one) =
      let first = all_left k w mid t before in let last = one_left k mid new rows one in let sum = totals_push t (s, rows) in omega (arith, first, last, sum)

  module _ (table : IsTable ns) where
    size_alike : (k l : ℕ) (x : Item) → type_of x < k → type_of x < l → size_to k ns x ≡ size_to l ns x
    size_alike zero l x low high = absurd (omega (arith, low))
    size_alike (suc k) zero x low high = absurd (omega (arith, high))
    size_alike (suc k) (suc l) x low high = go (exports_of ns x) refl (λ y (less : type_of y < type_of x). size_alike k l y (omega (arith, less, low)) (omega (arith, less, high))) where
      go : (o : Option (List (Name × Item))) → exports_of ns x ≡ o → ((y : Item) → type_of y < type_of x → size_to k ns y ≡ size_to l ns y)
          → option_case o 1 (λ es. suc (sizes_by (size_to k ns) es)) ≡ option_case o 1 (λ es. suc (sizes_by (size_to l ns) es))
      go None _ next = refl
      go (Some es) ex next = ap suc (sizes_same (size_to k ns) (size_to l ns) es (all_of (λ (e : Name × Item) less. next e.1 less) es (open_lower ns table x es ex)))

    size_open : (x : Item) (es : List (Name × Item)) → exports_of ns x ≡ Some es → type_of x < length ns → size_of ns x ≡ suc (sizes_by (size_of ns) es)
    size_open x es ex low = size_alike (length ns) (suc (length ns)) x low (omega (arith, low)) ∙ ap (λ o. option_case o 1 (λ fs. suc (sizes_by (size_to (length ns) ns) fs))) ex

    group_size : (g : List Row) → AllByRecursion (λ r. IsOpen ns r.1) g → AllByRecursion (λ r. type_of r.1 < length ns) g → puts_size (all_put ns g) + length g ≡ sizes_of ns g
    group_size [] h low = omega arith
    group_size (r ∷ g) ((es, ex), h) low =
        let rest = group_size g h low.1 in
        let size = size_open r.1 es ex low.0 in
        let put = ap (λ o. puts_size (option_case o [] (exports_put r.0) ++ all_put ns g)) ex in
        let both = puts_size_on (exports_put r.0 es) (all_put ns g) in
        let listed = exports_size r.0 es in
        omega (arith, rest, size, put, both, listed)

    pub less_left : (w v : Walk) (k : ℕ) (g : List Row) (u : Table) → slice_get (groups_view w.groups.keys) k ≡ Some g → IsFull ns g → AllByRecursion (λ r. IsOpen ns r.1) g → ArePut [] (all_put ns g) u → ComparesAll ns w u v
        → left ns (k + 1) (groups_view v.groups.keys) < left ns k (groups_view w.groups.keys)
    less_left w v k g u at full are_open are all =
        let now = left_step k (groups_view w.groups.keys) g at in
        let size = group_size g are_open full.1 in
        let some = full.0 in
        let total = puts_total (all_put ns g) [] u are in
        let grown = all_left (suc k) w v u all in
        rw add-one (omega (arith, now, size, some, total, grown))
