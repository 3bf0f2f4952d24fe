-- In an order in which each number is directly after those that it depends on, it is after them.
use Rattle.std.specs.List.{flat_map}
use Rattle.std.proofs.Common.{ℕ, zero, suc, ◌≡◌, ◌+◌, ◌<◌, List, [], ◌∷◌, ◌++◌, take, slice_get, Option, Some, None, Contains, refl, ap, sym, ◌∙◌, subst, inl, inr, ◌⊎◌, arith}
use Rattle.std.proofs.lemmas.List.{append_assoc, append-nil}
use Rattle.wac_types_shapes.specs.primitives.Name.{Name, option_case}
use Rattle.wac_types_shapes.specs.primitives.Tree.{Side}
use Rattle.wac_types_shapes.specs.declared.shapes.component.ItemKind.{ItemKind}
use Rattle.wac_types_collection.proofs.lemmas.wide.Members.{in_first, in_rest, in_none, in_parts, in_one, in_left, in_right, in_either, in_flat, flat_in, at_in}
use Rattle.wac_encode_faults.specs.Free.{SideItem}
use Rattle.wac_edges.specs.Arranged.{Selects, none, takes, leaves, Arranges, done, there, new}
use Rattle.wac_encode_interfaces.specs.private.Written.{side_item, items_written, IsAfter}

selects-has : (P : ℕ → Type 0) (ns taken : List ℕ) (m : ℕ) → Selects P ns taken → Contains ns m → P m → Contains taken m
selects-has P _ _ m none h p = h
selects-has P _ _ m (takes n ns taken q rest) h p = elim (in_parts n m ns h) [
  | inl e ↦ subst (λ x. Contains (x ∷ taken) m) e (in_first m taken)
  | inr w ↦ in_rest n m taken (selects-has P ns taken m rest w p)
]
selects-has P _ _ m (leaves n ns taken q rest) h p = elim (in_parts n m ns h) [
  | inl e ↦ absurd (q (subst P e p))
  | inr w ↦ selects-has P ns taken m rest w p
]

module _ (depends : ℕ → ℕ → Type 0) (all : List ℕ) where
  arranged-keeps : (placed ns after : List ℕ) (m : ℕ) → Arranges depends all placed ns after → Contains placed m → Contains after m
  arranged-keeps _ _ _ m (done placed) h = h
  arranged-keeps _ _ _ m (there placed after n ns has rest) h = arranged-keeps placed ns after m rest h
  arranged-keeps _ _ _ m (new placed under before after n ns not_there taken first rest) h =
      arranged-keeps (before ++ n ∷ []) ns after m rest (in_left before (n ∷ []) m (arranged-keeps placed under before m first h))

  arranged-has : (placed ns after : List ℕ) (m : ℕ) → Arranges depends all placed ns after → Contains ns m → Contains after m
  arranged-has _ _ _ m (done placed) h = absurd (in_none m h)
  arranged-has _ _ _ m (there placed after n ns has rest) h = elim (in_parts n m ns h) [
    | inl e ↦ arranged-keeps placed ns after m rest (subst (Contains placed) (sym e) has)
    | inr w ↦ arranged-has placed ns after m rest w
  ]
  arranged-has _ _ _ m (new placed under before after n ns not_there taken first rest) h = elim (in_parts n m ns h) [
    | inl e ↦ arranged-keeps (before ++ n ∷ []) ns after m rest (in_right before (n ∷ []) m (subst (λ x. Contains (x ∷ []) m) e (in_first m [])))
    | inr w ↦ arranged-has (before ++ n ∷ []) ns after m rest w
  ]

  -- One more number, after all that it depends on.

  -- The element at a position of a list with one more, and what comes before it.
  abbrev IsAtEnd : List ℕ → ℕ → ℕ → ℕ → Type 0
  IsAtEnd xs n i k = ((slice_get xs i ≡ Some k) × (take i (xs ++ n ∷ []) ≡ take i xs)) ⊎ ((k ≡ n) × (take i (xs ++ n ∷ []) ≡ xs))

  at-end : (xs : List ℕ) (n i k : ℕ) → slice_get (xs ++ n ∷ []) i ≡ Some k → IsAtEnd xs n i k
  at-end [] n zero k h = inr (first n k h, refl)
    where
      first : (n k : ℕ) → Some n ≡ Some k → k ≡ n
      first n k h = cc
  at-end [] n (suc i) k h = absurd (nothing k h)
    where
      nothing : (k : ℕ) → None ≡ Some k → ⊥
      nothing k h = cc
  at-end (x ∷ xs) n zero k h = inl (h, refl)
  at-end (x ∷ xs) n (suc i) k h = elim (at-end xs n i k h) [
    | inl w ↦ inl (w.0, ap (λ (ys : List ℕ). x ∷ ys) w.1)
    | inr w ↦ inr (w.0, ap (λ (ys : List ℕ). x ∷ ys) w.1)
  ]

  after-end : (xs : List ℕ) (n : ℕ) → IsAfter depends all xs → ((m : ℕ) → depends n m → Contains all m → Contains xs m) → IsAfter depends all (xs ++ n ∷ [])
  after-end xs n before here i k m at needs among = elim (at-end xs n i k at) [
    | inl w ↦ subst (λ ys. Contains ys m) (sym w.1) (before i k m w.0 needs among)
    | inr w ↦ subst (λ ys. Contains ys m) (sym w.1) (here m (subst (λ x. depends x m) w.0 needs) among)
  ]

  arranged-after : (placed ns after : List ℕ) → Arranges depends all placed ns after → IsAfter depends all placed → IsAfter depends all after
  arranged-after _ _ _ (done placed) h = h
  arranged-after _ _ _ (there placed after n ns has rest) h = arranged-after placed ns after rest h
  arranged-after _ _ _ (new placed under before after n ns not_there taken first rest) h =
      arranged-after (before ++ n ∷ []) ns after rest
      (after-end before n (arranged-after placed under before first h) (λ m needs among. arranged-has placed under before m first (selects-has (depends n) all under m taken among needs)))

  selects-from : (P : ℕ → Type 0) (ns taken : List ℕ) (m : ℕ) → Selects P ns taken → Contains taken m → Contains ns m
  selects-from P _ _ m none h = h
  selects-from P _ _ m (takes n ns taken q rest) h = elim (in_parts n m taken h) [
    | inl e ↦ subst (λ x. Contains (x ∷ ns) m) e (in_first m ns)
    | inr w ↦ in_rest n m ns (selects-from P ns taken m rest w)
  ]
  selects-from P _ _ m (leaves n ns taken q rest) h = in_rest n m ns (selects-from P ns taken m rest h)

  arranged-among : (placed ns after : List ℕ) (m : ℕ) → Arranges depends all placed ns after → ((k : ℕ) → Contains placed k → Contains all k) → ((k : ℕ) → Contains ns k → Contains all k) → Contains after m → Contains all m
  arranged-among _ _ _ m (done placed) before more h = before m h
  arranged-among _ _ _ m (there placed after n ns has rest) before more h = arranged-among placed ns after m rest before (λ k w. more k (in_rest n k ns w)) h
  arranged-among _ _ _ m (new placed under earlier after n ns not_there taken first rest) before more h =
      arranged-among (earlier ++ n ∷ []) ns after m rest
      (λ k w. elim (in_either earlier (n ∷ []) k w) [
        | inl v ↦ arranged-among placed under earlier k first before (λ j u. selects-from (depends n) all under j taken u) v
        | inr v ↦ subst (Contains all) (sym (in_one n k v)) (more n (in_first n ns))
      ])
      (λ k w. more k (in_rest n k ns w)) h

  none-after : IsAfter depends all []
  none-after i n m at needs among = cc

  -- An order has no other numbers.
  pub ordered-among : (order : List ℕ) (m : ℕ) → Arranges depends all [] all order → Contains order m → Contains all m
  ordered-among order m h among = arranged-among [] all order m h (λ k w. absurd (in_none k w)) (λ k w. w) among

  -- All numbers in an order.
  pub ordered-after : (order : List ℕ) → Arranges depends all [] all order → IsAfter depends all order
  ordered-after order h = arranged-after [] all order h none-after

-- items at positions

one-item-at : (side : Side) (es : List (Name × ItemKind)) (p : ℕ) (e : Name × ItemKind) → slice_get es p ≡ Some e → option_case (slice_get es p) [] (λ (x : Name × ItemKind). side_item side x.0 ∷ []) ≡ side_item side e.0 ∷ []
one-item-at side es p e h = ap (λ (o : Option (Name × ItemKind)). option_case o [] (λ (x : Name × ItemKind). side_item side x.0 ∷ [])) h

items-append : (side : Side) (es : List (Name × ItemKind)) (ps qs : List ℕ) → items_written side es (ps ++ qs) ≡ items_written side es ps ++ items_written side es qs
items-append side es [] qs = refl
items-append side es (p ∷ ps) qs =
    let first = option_case (slice_get es p) [] (λ (e : Name × ItemKind). side_item side e.0 ∷ []) in
    ap (λ (xs : List SideItem). first ++ xs) (items-append side es ps qs) ∙ sym (append_assoc first (items_written side es ps) (items_written side es qs))

-- One more position.
pub items-next : (side : Side) (es : List (Name × ItemKind)) (ps : List ℕ) (p : ℕ) (e : Name × ItemKind) → slice_get es p ≡ Some e → items_written side es (ps ++ p ∷ []) ≡ items_written side es ps ++ side_item side e.0 ∷ []
items-next side es ps p e h =
    items-append side es ps (p ∷ [])
    ∙ ap (λ (xs : List SideItem). items_written side es ps ++ (xs ++ [])) (one-item-at side es p e h)

-- The item at one of the positions is among them.
pub position-written : (side : Side) (es : List (Name × ItemKind)) (ps : List ℕ) (p : ℕ) (e : Name × ItemKind) → Contains ps p → slice_get es p ≡ Some e → Contains (items_written side es ps) (side_item side e.0)
position-written side es ps p e among at =
    in_flat (λ q. option_case (slice_get es q) [] (λ (x : Name × ItemKind). side_item side x.0 ∷ [])) ps p (side_item side e.0) among
    (subst (λ (xs : List SideItem). Contains xs (side_item side e.0)) (sym (one-item-at side es p e at)) (in_first (side_item side e.0) []))

-- Each of them is the item at one of the positions.
pub written-position : (side : Side) (es : List (Name × ItemKind)) (ps : List ℕ) (x : SideItem) → Contains (items_written side es ps) x → (p : ℕ) × (e : Name × ItemKind) × Contains ps p × (slice_get es p ≡ Some e) × (x ≡ side_item side e.0)
written-position side es ps x h =
    let (p, among, here) = flat_in (λ q. option_case (slice_get es q) [] (λ (y : Name × ItemKind). side_item side y.0 ∷ [])) ps x h in
    let (e, at, is) = by (slice_get es p) here in
    (p, e, among, at, is)
  where
    by : (o : Option (Name × ItemKind)) → Contains (option_case o [] (λ (y : Name × ItemKind). side_item side y.0 ∷ [])) x → (e : Name × ItemKind) × (o ≡ Some e) × (x ≡ side_item side e.0)
    by None k = absurd (in_none x k)
    by (Some e) k = (e, refl, in_one (side_item side e.0) x k)
