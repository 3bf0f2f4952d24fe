-- What is known of items at one spot, once they are compared with the first.
use Rattle.std.proofs.Common.{◌≡◌, ℕ, ◌<◌, ◌≤◌, List, [], ◌∷◌, ◌++◌, ◌⊎◌, inl, inr, length, Option, Some, refl, ap, sym, ◌∙◌, subst, arith}
use Rattle.std.specs.Prelude.{slice_get}
use Rattle.std.specs.List.{AllByRecursion}
use Rattle.wac_merge_tables.specs.private.tables.Nodes.{Item, Node}
use Rattle.wac_merge_classes.proofs.lemmas.entries.Lists.{at-push, at-end, push-cases}
use Rattle.wac_merge_classes.proofs.lemmas.terms.Found.{some_same}
use Rattle.wac_merge_agreement.specs.private.agreeing.Fitting.{Fits, IsOpen}
use Rattle.wac_merge_agreement.specs.private.agreeing.Rows.{Row}
use Rattle.wac_merge_agreement.specs.private.agreeing.Groups.{AreOrdered, HasBy, IsLeast, IsNoLater, Splits, alone, same, beside, apart}
use Rattle.wac_merge_agreement.proofs.lemmas.agreeing.Tables.{all_push, ordered_push}

pub all_halves : {A : Type 0} (P : A → Type 0) (xs : List A) (x : A) → AllByRecursion P (xs ++ x ∷ []) → AllByRecursion P xs × P x
all_halves P [] x h = (tt, h.0)
all_halves P (y ∷ xs) x h = let (a, b) = all_halves P xs x h.1 in ((h.0, a), b)

pub no_later_on : (p q r : ℕ × ℕ) → IsNoLater p q → IsNoLater q r → IsNoLater p r
no_later_on p q r (inl a) (inl b) = inl (omega (arith, a, b))
no_later_on p q r (inl a) (inr (e, _)) = inl (omega (arith, a, e))
no_later_on p q r (inr (e, _)) (inl b) = inl (omega (arith, e, b))
no_later_on p q r (inr (e, l)) (inr (f, m)) = inr (e ∙ f, omega (arith, l, m))

-- a row is told apart, or its item is in the group by then
abbrev pub IsPlaced : ℕ → List Row → Option (ℕ × ℕ) → Row → Type 0
IsPlaced holder group first r = HasBy group r.0 r.1 ⊎ ((b : ℕ × ℕ) × (first ≡ Some b) × IsNoLater b (holder, r.0))

-- a row that is apart from the first
pub record IsApart (ns : List Node) (holder : ℕ) (held : Item) (rows : List Row) (pair : ℕ × ℕ) : Type 0 where
  pub position : ℕ
  pub entry : ℕ
  pub item : Item
  pub at : slice_get rows position ≡ Some (entry, item)
  pub unfit : Fits ns held item → ⊥
  pub is : pair ≡ (holder, entry)

ordered_halves : (rows : List Row) (r : Row) → AreOrdered (rows ++ r ∷ []) → AreOrdered rows × AllByRecursion (λ q. q.0 ≤ r.0) rows
ordered_halves [] r h = (tt, tt)
ordered_halves (q ∷ rows) r h =
    let (rest, low) = ordered_halves rows r h.1 in
    let (first, last) = all_halves (λ (p : Row). q.0 ≤ p.0) rows r h.0 in ((first, rest), (last, low))

module _ (ns : List Node) (holder : ℕ) (held : Item) (old : Option (ℕ × ℕ)) where
  -- the first is the first of the group
  pub split_head : (rows group : List Row) (first : Option (ℕ × ℕ)) → Splits ns holder held old rows group first → slice_get group 0 ≡ Some (holder, held)
  split_head _ _ _ alone = refl
  split_head _ _ _ (same rows group first e before) = split_head rows group first before
  split_head _ _ _ (beside rows group first e x before one also) = at-push group (e, x) 0 (holder, held) (split_head rows group first before)
  split_head _ _ _ (apart rows group first new e x before unfit least) = split_head rows group first before

  -- the rows of the group are among them
  pub split_in : (rows group : List Row) (first : Option (ℕ × ℕ)) → Splits ns holder held old rows group first → (k : ℕ) (r : Row) → slice_get group k ≡ Some r → (l : ℕ) × (slice_get rows l ≡ Some r)
  split_in _ _ _ alone k r at = (k, at)
  split_in _ _ _ (same rows group first e before) k r at = let (l, is) = split_in rows group first before k r at in (l, at-push rows (e, held) l r is)
  split_in _ _ _ (beside rows group first e x before one also) k r at = go (split_in rows group first before k r) (push-cases group (e, x) k r at) where
    go : (slice_get group k ≡ Some r → (l : ℕ) × (slice_get rows l ≡ Some r)) → (slice_get group k ≡ Some r) ⊎ ((k ≡ length group) × (r ≡ (e, x))) → (l : ℕ) × (slice_get (rows ++ (e, x) ∷ []) l ≡ Some r)
    go one (inl h) = let (l, is) = one h in (l, at-push rows (e, x) l r is)
    go one (inr (_, is)) = (length rows, at-end rows (e, x) ∙ ap Some (sym is))
  split_in _ _ _ (apart rows group first new e x before unfit least) k r at = let (l, is) = split_in rows group first before k r at in (l, at-push rows (e, x) l r is)

  all_open : IsOpen ns held → (rows group : List Row) (first : Option (ℕ × ℕ)) → Splits ns holder held old rows group first → AllByRecursion (λ r. IsOpen ns r.1) group
  all_open one _ _ _ alone = (one, tt)
  all_open one _ _ _ (same rows group first e before) = all_open one rows group first before
  all_open one _ _ _ (beside rows group first e y before once two) = all_push (λ (r : Row). IsOpen ns r.1) group (e, y) (all_open one rows group first before) two
  all_open one _ _ _ (apart rows group first new e y before unfit least) = all_open one rows group first before

  -- where there are several, all are instances
  pub split_open : (rows group : List Row) (first : Option (ℕ × ℕ)) → Splits ns holder held old rows group first → 1 < length group → AllByRecursion (λ r. IsOpen ns r.1) group
  split_open _ _ _ alone more = absurd (omega (arith, more))
  split_open _ _ _ (same rows group first e before) more = split_open rows group first before more
  split_open _ _ _ (beside rows group first e x before one also) more = all_push (λ (r : Row). IsOpen ns r.1) group (e, x) (all_open one rows group first before) also
  split_open _ _ _ (apart rows group first new e x before unfit least) more = split_open rows group first before more

  split_below : (rows group : List Row) (first : Option (ℕ × ℕ)) (m : ℕ) → Splits ns holder held old rows group first → AllByRecursion (λ q. q.0 ≤ m) rows → AllByRecursion (λ q. q.0 ≤ m) group
  split_below _ _ _ m alone h = h
  split_below _ _ _ m (same rows group first e before) h = split_below rows group first m before (all_halves (λ (q : Row). q.0 ≤ m) rows (e, held) h).0
  split_below _ _ _ m (beside rows group first e x before one also) h =
      let (low, last) = all_halves (λ (q : Row). q.0 ≤ m) rows (e, x) h in all_push (λ (q : Row). q.0 ≤ m) group (e, x) (split_below rows group first m before low) last
  split_below _ _ _ m (apart rows group first new e x before unfit least) h = split_below rows group first m before (all_halves (λ (q : Row). q.0 ≤ m) rows (e, x) h).0

  -- the group is in order
  pub split_ordered : (rows group : List Row) (first : Option (ℕ × ℕ)) → Splits ns holder held old rows group first → AreOrdered rows → AreOrdered group
  split_ordered _ _ _ alone h = h
  split_ordered _ _ _ (same rows group first e before) h = split_ordered rows group first before (ordered_halves rows (e, held) h).0
  split_ordered _ _ _ (beside rows group first e x before one also) h =
      let (rest, low) = ordered_halves rows (e, x) h in ordered_push group (e, x) (split_ordered rows group first before rest) (split_below rows group first e before low)
  split_ordered _ _ _ (apart rows group first new e x before unfit least) h = split_ordered rows group first before (ordered_halves rows (e, x) h).0

  -- what is told only falls
  pub split_first : (rows group : List Row) (first : Option (ℕ × ℕ)) → Splits ns holder held old rows group first → (b : ℕ × ℕ) → old ≡ Some b → (c : ℕ × ℕ) × (first ≡ Some c) × IsNoLater c b
  split_first _ _ _ alone b is = (b, is, inr (refl, omega arith))
  split_first _ _ _ (same rows group first e before) b is = split_first rows group first before b is
  split_first _ _ _ (beside rows group first e x before one also) b is = split_first rows group first before b is
  split_first _ _ _ (apart rows group first new e x before unfit least) b is =
      let (c, so, low) = split_first rows group first before b is in (least.least, least.is, no_later_on least.least c b (least.below_old c so) low)

  longer : (rows : List Row) (r : Row) (b : ℕ × ℕ) → (old ≡ Some b) ⊎ IsApart ns holder held rows b → (old ≡ Some b) ⊎ IsApart ns holder held (rows ++ r ∷ []) b
  longer rows r b (inl h) = inl h
  longer rows r b (inr h) = inr (record { position = h.position; entry = h.entry; item = h.item; at = at-push rows r h.position (h.entry, h.item) h.at; unfit = h.unfit; is = h.is })

  -- what is told was told before, or is apart
  pub split_told : (rows group : List Row) (first : Option (ℕ × ℕ)) → Splits ns holder held old rows group first → (b : ℕ × ℕ) → first ≡ Some b → (old ≡ Some b) ⊎ IsApart ns holder held rows b
  split_told _ _ _ alone b is = inl is
  split_told _ _ _ (same rows group first e before) b is = longer rows (e, held) b (split_told rows group first before b is)
  split_told _ _ _ (beside rows group first e x before one also) b is = longer rows (e, x) b (split_told rows group first before b is)
  split_told _ _ _ (apart rows group first new e x before unfit least) b is = go (λ so. split_told rows group first before b so) least.one_of where
    one : least.least ≡ b
    one = some_same least.least b (sym least.is ∙ is)

    go : (first ≡ Some b → (old ≡ Some b) ⊎ IsApart ns holder held rows b) → (least.least ≡ (holder, e)) ⊎ (first ≡ Some least.least) → (old ≡ Some b) ⊎ IsApart ns holder held (rows ++ (e, x) ∷ []) b
    go rest (inl last) = inr (record { position = length rows; entry = e; item = x; at = at-end rows (e, x); unfit = unfit; is = sym one ∙ last })
    go rest (inr so) = longer rows (e, x) b (rest (so ∙ ap Some one))

  pub by_head : (group : List Row) (e : ℕ) → holder ≤ e → slice_get group 0 ≡ Some (holder, held) → HasBy group e held
  by_head group e low at = record { position = 0; earliest = holder; at = at; before = low }

  placed_push : (group : List Row) (first : Option (ℕ × ℕ)) (z r : Row) → IsPlaced holder group first r → IsPlaced holder (group ++ z ∷ []) first r
  placed_push group first z r (inl h) = inl (record { position = h.position; earliest = h.earliest; at = at-push group z h.position (h.earliest, r.1) h.at; before = h.before })
  placed_push group first z r (inr h) = inr h

  placed_least : (group : List Row) (first new : Option (ℕ × ℕ)) (p : ℕ × ℕ) (r : Row) → IsLeast first p new → IsPlaced holder group first r → IsPlaced holder group new r
  placed_least group first new p r least (inl h) = inl h
  placed_least group first new p r least (inr (b, is, low)) = inr (least.least, least.is, no_later_on least.least b (holder, r.0) (least.below_old b is) low)

  -- each row is placed
  pub split_placed : (rows group : List Row) (first : Option (ℕ × ℕ)) → Splits ns holder held old rows group first → (k : ℕ) (r : Row) → holder ≤ r.0 → slice_get rows k ≡ Some r → IsPlaced holder group first r
  split_placed _ _ _ alone k r low at = inl (record { position = k; earliest = r.0; at = at; before = omega arith })
  split_placed _ _ _ (same rows group first e before) k r low at = go (split_placed rows group first before k r low) (push-cases rows (e, held) k r at) where
    go : (slice_get rows k ≡ Some r → IsPlaced holder group first r) → (slice_get rows k ≡ Some r) ⊎ ((k ≡ length rows) × (r ≡ (e, held))) → IsPlaced holder group first r
    go rest (inl h) = rest h
    go rest (inr (_, is)) = inl (subst (λ (y : Item). HasBy group r.0 y) (sym (ap (λ (q : Row). q.1) is)) (by_head group r.0 low (split_head rows group first before)))
  split_placed _ _ _ (beside rows group first e x before one also) k r low at = go (split_placed rows group first before k r low) (push-cases rows (e, x) k r at) where
    go : (slice_get rows k ≡ Some r → IsPlaced holder group first r) → (slice_get rows k ≡ Some r) ⊎ ((k ≡ length rows) × (r ≡ (e, x))) → IsPlaced holder (group ++ (e, x) ∷ []) first r
    go rest (inl h) = placed_push group first (e, x) r (rest h)
    go rest (inr (_, is)) = inl (record { position = length group; earliest = r.0; at = at-end group (e, x) ∙ ap Some (sym is); before = omega arith })
  split_placed _ _ _ (apart rows group first new e x before unfit least) k r low at = go (split_placed rows group first before k r low) (push-cases rows (e, x) k r at) where
    go : (slice_get rows k ≡ Some r → IsPlaced holder group first r) → (slice_get rows k ≡ Some r) ⊎ ((k ≡ length rows) × (r ≡ (e, x))) → IsPlaced holder group new r
    go rest (inl h) = placed_least group first new (holder, e) r least (rest h)
    go rest (inr (_, is)) = inr (least.least, least.is, subst (λ (q : Row). IsNoLater least.least (holder, q.0)) (sym is) least.below)
