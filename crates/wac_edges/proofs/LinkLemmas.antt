-- Lists of records, with one record more and with one less.
use Rattle.std.proofs.Common.{◌≡◌, ℕ, suc, ◌<◌, ◌==◌, if◌then◌else◌, Option, Some, None, option_map, refl, ap, sym, ◌∙◌, subst, ◌⊎◌, inl, inr, arith}
use Rattle.std.proofs.Math.Path.{fun_ext}
use Rattle.std.proofs.lemmas.Bool.{ne_eqb}
use Rattle.std.proofs.lemmas.Bool.Decides.{eqb_tells}
use Rattle.wac_edges.specs.private.Records.{Place, AreLinked, updated, changed, begun_by}
use Rattle.wac_edges.proofs.WrittenOrder.{eqb_same}

-- ---- other values at one number
pub updated_here : {A : Type 0} (f : ℕ → A) (k : ℕ) (v : A) → updated f k v k ≡ v
updated_here f k v = rw (eqb_same k) refl

pub updated_there : {A : Type 0} (f : ℕ → A) (k : ℕ) (v : A) (q : ℕ) → (q ≡ k → ⊥) → updated f k v q ≡ f q
updated_there f k v q other = rw (ne_eqb q k other) refl

-- a key is this one, or not
pub is_key : (o : Option ℕ) (q : ℕ) → (o ≡ Some q) ⊎ (o ≡ Some q → ⊥)
is_key None q = inr (λ e. cc)
is_key (Some k) q = elim (eqb_tells k q) [ inl (_, e) ↦ inl (ap (λ j. Some j) e) | inr (_, other) ↦ inr (λ e. let same : k ≡ q = cc in other same) ]

module _ {A : Type 0} (g : A → A) (t : ℕ → Option A) (q : ℕ) where
  pub changed_hit : (o : Option ℕ) → o ≡ Some q → changed g o t q ≡ option_map g (t q)
  changed_hit None e = cc
  changed_hit (Some k) e = let same : k ≡ q = cc in subst (λ j. changed g (Some j) t q ≡ option_map g (t q)) (sym same) (updated_here t q (option_map g (t q)))

  pub changed_miss : (o : Option ℕ) → (o ≡ Some q → ⊥) → changed g o t q ≡ t q
  changed_miss None other = refl
  changed_miss (Some k) other = updated_there t k (option_map g (t k)) q (λ e. other (ap (λ j. Some j) (sym e)))

pub changed_none : {A : Type 0} (g : A → A) (t : ℕ → Option A) (q : ℕ) (o : Option ℕ) → t q ≡ None → changed g o t q ≡ None
changed_none g t q o none = elim (is_key o q) [ inl hit ↦ changed_hit g t q o hit ∙ ap (option_map g) none | inr miss ↦ changed_miss g t q o miss ∙ none ]

-- ---- one record less
-- what leads to k leads past it
abbrev pub bypass : ℕ → Option ℕ → Option ℕ → Option ℕ
bypass k past None = None
bypass k past (Some j) = if j == k then past else Some j

abbrev pub bypassed : ℕ → Place → Place → Place
bypassed k x z = record { node = z.node; previous = bypass k x.previous z.previous; next = bypass k x.next z.next }

-- the others, with what led to k leading past it
abbrev pub past : (ℕ → Option Place) → ℕ → Place → ℕ → Option Place
past at k x q = if q == k then None else option_map (bypassed k x) (at q)

bypass_of : (k : ℕ) (p o : Option ℕ) → o ≡ Some k → bypass k p o ≡ p
bypass_of k p o e = subst (λ (w : Option ℕ). bypass k p w ≡ p) (sym e) (rw (eqb_same k) refl)

bypass_other : (k : ℕ) (p o : Option ℕ) (j : ℕ) → o ≡ Some j → (j ≡ k → ⊥) → bypass k p o ≡ Some j
bypass_other k p o j e other = subst (λ (w : Option ℕ). bypass k p w ≡ Some j) (sym e) (rw (ne_eqb j k other) refl)

bypass_skip : (k : ℕ) (p o : Option ℕ) → (o ≡ Some k → ⊥) → bypass k p o ≡ o
bypass_skip k p None other = refl
bypass_skip k p (Some j) other = rw (ne_eqb j k (λ e. other (ap (λ i. Some i) e))) refl

bypass_cases : (k : ℕ) (p o : Option ℕ) (j : ℕ) → bypass k p o ≡ Some j → ((o ≡ Some k) × (p ≡ Some j)) ⊎ ((o ≡ Some j) × (j ≡ k → ⊥))
bypass_cases k p o j h = elim (is_key o k) [
  | inl hit ↦ inl (hit, sym (bypass_of k p o hit) ∙ h)
  | inr miss ↦ let is : o ≡ Some j = sym (bypass_skip k p o miss) ∙ h in inr (is, λ e. miss (is ∙ ap (λ i. Some i) e))
]

bypass_none : (k : ℕ) (p o : Option ℕ) → bypass k p o ≡ None → ((o ≡ Some k) × (p ≡ None)) ⊎ (o ≡ None)
bypass_none k p o h = elim (is_key o k) [
  | inl hit ↦ inl (hit, sym (bypass_of k p o hit) ∙ h)
  | inr miss ↦ inr (sym (bypass_skip k p o miss) ∙ h)
]

past_at : (at : ℕ → Option Place) (k : ℕ) (x : Place) (q : ℕ) (z : Place) → at q ≡ Some z → (q ≡ k → ⊥) → past at k x q ≡ Some (bypassed k x z)
past_at at k x q z is other = rw (ne_eqb q k other) (ap (option_map (bypassed k x)) is)

mapped : {A B : Type 0} (f : A → B) (o : Option A) (y : B) → option_map f o ≡ Some y → (z : A) × (o ≡ Some z) × (y ≡ f z)
mapped f None y h = absurd (cc)
mapped f (Some z) y h = (z, refl, cc)

past_cases : (at : ℕ → Option Place) (k : ℕ) (x : Place) (q : ℕ) (y : Place) → past at k x q ≡ Some y → (z : Place) × (at q ≡ Some z) × (y ≡ bypassed k x z) × (q ≡ k → ⊥)
past_cases at k x q y h = elim (eqb_tells q k) [
  | inl (t, _) ↦ absurd (let none : None ≡ Some y = rw t at h in cc)
  | inr (f, other) ↦ let (z, is, by) = mapped (bypassed k x) (at q) y (rw f at h) in (z, is, by, other)
]

module _ (at : ℕ → Option Place) (first : ℕ → Option ℕ) (m : AreLinked at first) (k : ℕ) (x : Place) (here : at k ≡ Some x) where
  is_x : (z : Place) → at k ≡ Some z → z ≡ x
  is_x z e = cc

  older_apart : (q : ℕ) → m.age q < m.age k → q ≡ k → ⊥
  older_apart q older e = omega (arith, older, ap m.age e)

  newer_apart : (q : ℕ) → m.age k < m.age q → q ≡ k → ⊥
  newer_apart q newer e = omega (arith, newer, ap m.age e)

  begins : (n q : ℕ) → ((first n ≡ Some k) × (x.next ≡ Some q)) ⊎ ((first n ≡ Some q) × (q ≡ k → ⊥)) → (y : Place) × (past at k x q ≡ Some y) × (y.node ≡ n) × (y.previous ≡ None)
  begins n q (inl (to, next)) =
      let (w, there, node, none) = m.begins n k to in
      let same = is_x w there in
      let (y, is, at_same, back, older) = m.forth k q x here next in
      (bypassed k x y, past_at at k x q y is (older_apart q older), at_same ∙ sym (ap (λ (p : Place). p.node) same) ∙ node, bypass_of k x.previous y.previous back ∙ sym (ap (λ (p : Place). p.previous) same) ∙ none)
  begins n q (inr (to, other)) =
      let (y, is, node, none) = m.begins n q to in
      (bypassed k x y, past_at at k x q y is other, node, ap (bypass k x.previous) none)

  begun : (q : ℕ) (z : Place) → at q ≡ Some z → (q ≡ k → ⊥) → ((z.previous ≡ Some k) × (x.previous ≡ None)) ⊎ (z.previous ≡ None) → bypass k x.next (first z.node) ≡ Some q
  begun q z is other (inl (to, none)) =
      let (w, there, node, next) = m.back q k z is to in
      let same = is_x w there in
      let top : first z.node ≡ Some k = ap first (sym node ∙ ap (λ (p : Place). p.node) same) ∙ m.begun k x here none in
      bypass_of k x.next (first z.node) top ∙ sym (ap (λ (p : Place). p.next) same) ∙ next
  begun q z is other (inr none) = bypass_other k x.next (first z.node) q (m.begun q z is none) other

  forth : (q j : ℕ) (z : Place) → at q ≡ Some z → (q ≡ k → ⊥) → ((z.next ≡ Some k) × (x.next ≡ Some j)) ⊎ ((z.next ≡ Some j) × (j ≡ k → ⊥)) → (y : Place) × (past at k x j ≡ Some y) × (y.node ≡ z.node) × (y.previous ≡ Some q) × (m.age j < m.age q)
  forth q j z is other (inl (to, next)) =
      let (w, there, node, back, older) = m.forth q k z is to in
      let same = is_x w there in
      let (y, at_j, node_j, back_j, older_j) = m.forth k j x here next in
      let age : m.age j < m.age q = omega arith in
      (bypassed k x y, past_at at k x j y at_j (older_apart j older_j), node_j ∙ sym (ap (λ (p : Place). p.node) same) ∙ node, bypass_of k x.previous y.previous back_j ∙ sym (ap (λ (p : Place). p.previous) same) ∙ back, age)
  forth q j z is other (inr (next, apart)) =
      let (y, at_j, node, back, older) = m.forth q j z is next in
      (bypassed k x y, past_at at k x j y at_j apart, node, bypass_other k x.previous y.previous q back other, older)

  back : (q j : ℕ) (z : Place) → at q ≡ Some z → (q ≡ k → ⊥) → ((z.previous ≡ Some k) × (x.previous ≡ Some j)) ⊎ ((z.previous ≡ Some j) × (j ≡ k → ⊥)) → (y : Place) × (past at k x j ≡ Some y) × (y.node ≡ z.node) × (y.next ≡ Some q)
  back q j z is other (inl (to, previous)) =
      let (w, there, node, next) = m.back q k z is to in
      let same = is_x w there in
      let (y, at_j, node_j, next_j) = m.back k j x here previous in
      let (_, _, _, _, newer) = m.forth j k y at_j next_j in
      (bypassed k x y, past_at at k x j y at_j (newer_apart j newer), node_j ∙ sym (ap (λ (p : Place). p.node) same) ∙ node, bypass_of k x.next y.next next_j ∙ sym (ap (λ (p : Place). p.next) same) ∙ next)
  back q j z is other (inr (previous, apart)) =
      let (y, at_j, node, next) = m.back q j z is previous in
      (bypassed k x y, past_at at k x j y at_j apart, node, bypass_other k x.next y.next q next other)

  -- the lists of the others
  passed : AreLinked (past at k x) (λ n. bypass k x.next (first n))
  passed = record {
    age = m.age;
    bound = m.bound;
    aged = λ q y h. let (z, is, _, _) = past_cases at k x q y h in m.aged q z is;
    begins = λ n q h. begins n q (bypass_cases k x.next (first n) q h);
    begun = λ q y h none.
        let (z, is, by, other) = past_cases at k x q y h in
        ap (λ (p : Place). bypass k x.next (first p.node)) by ∙ begun q z is other (bypass_none k x.previous z.previous (sym (ap (λ (p : Place). p.previous) by) ∙ none));
    forth = λ q j y h next.
        let (z, is, by, other) = past_cases at k x q y h in
        subst (λ (p : Place). (w : Place) × (past at k x j ≡ Some w) × (w.node ≡ p.node) × (w.previous ≡ Some q) × (m.age j < m.age q)) (sym by) (forth q j z is other (bypass_cases k x.next z.next j (sym (ap (λ (p : Place). p.next) by) ∙ next)));
    back = λ q j y h previous.
        let (z, is, by, other) = past_cases at k x q y h in
        subst (λ (p : Place). (w : Place) × (past at k x j ≡ Some w) × (w.node ≡ p.node) × (w.next ≡ Some q)) (sym by) (back q j z is other (bypass_cases k x.previous z.previous j (sym (ap (λ (p : Place). p.previous) by) ∙ previous)));
  }

  -- the writes of an `unlink`
  abbrev pub after_next : ℕ → Option Place
  after_next = changed (λ (z : Place). record z { next = x.next }) x.previous at

  abbrev pub after_both : ℕ → Option Place
  after_both = changed (λ (z : Place). record z { previous = x.previous }) x.next after_next

  next_is : (q : ℕ) (z : Place) → at q ≡ Some z → after_next q ≡ Some (record z { next = bypass k x.next z.next })
  next_is q z is = elim (is_key x.previous q) [
    | inl hit ↦
        let (w, there, _, next) = m.back k q x here hit in
        let same : w ≡ z = cc in
        changed_hit (λ (z : Place). record z { next = x.next }) at q x.previous hit ∙ ap (option_map (λ (z : Place). record z { next = x.next })) is
        ∙ ap (λ (v : Option ℕ). Some (record z { next = v })) (sym (bypass_of k x.next z.next (sym (ap (λ (p : Place). p.next) same) ∙ next)))
    | inr miss ↦
        changed_miss (λ (z : Place). record z { next = x.next }) at q x.previous miss ∙ is
        ∙ ap (λ (v : Option ℕ). Some (record z { next = v })) (sym (bypass_skip k x.next z.next (λ to. let (w, there, _, back, _) = m.forth q k z is to in miss (sym (ap (λ (p : Place). p.previous) (is_x w there)) ∙ back))))
  ]

  both_is : (q : ℕ) (z : Place) → at q ≡ Some z → after_both q ≡ Some (bypassed k x z)
  both_is q z is = elim (is_key x.next q) [
    | inl hit ↦
        let (w, there, _, back, _) = m.forth k q x here hit in
        let same : w ≡ z = cc in
        changed_hit (λ (z : Place). record z { previous = x.previous }) after_next q x.next hit ∙ ap (option_map (λ (z : Place). record z { previous = x.previous })) (next_is q z is)
        ∙ ap (λ (v : Option ℕ). Some (record { node = z.node; previous = v; next = bypass k x.next z.next })) (sym (bypass_of k x.previous z.previous (sym (ap (λ (p : Place). p.previous) same) ∙ back)))
    | inr miss ↦
        changed_miss (λ (z : Place). record z { previous = x.previous }) after_next q x.next miss ∙ next_is q z is
        ∙ ap (λ (v : Option ℕ). Some (record { node = z.node; previous = v; next = bypass k x.next z.next })) (sym (bypass_skip k x.previous z.previous (λ to. let (w, there, _, next) = m.back q k z is to in miss (sym (ap (λ (p : Place). p.next) (is_x w there)) ∙ next))))
  ]

  after_is : (q : ℕ) → after_both q ≡ option_map (bypassed k x) (at q)
  after_is q = split (at q) refl where
    split : (o : Option Place) → at q ≡ o → after_both q ≡ option_map (bypassed k x) o
    split None none = changed_none (λ (z : Place). record z { previous = x.previous }) after_next q x.next (changed_none (λ (z : Place). record z { next = x.next }) at q x.previous none)
    split (Some z) is = both_is q z is

  first_is : (n : ℕ) → begun_by first x.node x.previous x.next n ≡ bypass k x.next (first n)
  first_is n = split x.previous refl where
    split : (o : Option ℕ) → x.previous ≡ o → begun_by first x.node o x.next n ≡ bypass k x.next (first n)
    split None none = elim (eqb_tells n x.node) [
      | inl (_, e) ↦ ap (updated first x.node x.next) e ∙ updated_here first x.node x.next ∙ sym (bypass_of k x.next (first n) (ap first e ∙ m.begun k x here none))
      | inr (_, other) ↦ updated_there first x.node x.next n other
          ∙ sym (bypass_skip k x.next (first n) (λ to. let (w, there, node, _) = m.begins n k to in other (sym (sym (ap (λ (p : Place). p.node) (is_x w there)) ∙ node))))
    ]
    split (Some p) some = sym (bypass_skip k x.next (first n) (λ to. let (w, there, _, none) = m.begins n k to in let same = is_x w there in cc))

  pub unlinked : AreLinked (updated after_both k None) (begun_by first x.node x.previous x.next)
  unlinked =
      let others : past at k x ≡ updated after_both k None = fun_ext (λ q. ap (λ (v : Option Place). if q == k then None else v) (sym (after_is q))) in
      let firsts : (λ n. bypass k x.next (first n)) ≡ begun_by first x.node x.previous x.next = fun_ext (λ n. sym (first_is n)) in
      subst (λ (f : ℕ → Option ℕ). AreLinked (updated after_both k None) f) firsts (subst (λ (p : ℕ → Option Place). AreLinked p (λ n. bypass k x.next (first n))) others passed)

-- ---- one record more
-- the record before the first of its node
abbrev pub before_all : ℕ → Option ℕ → Place
before_all node next = record { node = node; previous = None; next = next }

-- the others, with k before the first of the node
abbrev pub preceded : (ℕ → Option Place) → (ℕ → Option ℕ) → ℕ → ℕ → ℕ → Option Place
preceded at first node k q = if q == k then Some (before_all node (first node)) else changed (λ (z : Place). record z { previous = Some k }) (first node) at q

module _ (at : ℕ → Option Place) (first : ℕ → Option ℕ) (m : AreLinked at first) (node k : ℕ) (absent : at k ≡ None) where
  abbrev linked_at : ℕ → Option Place
  linked_at = preceded at first node k

  present : (q : ℕ) (z : Place) → at q ≡ Some z → q ≡ k → ⊥
  present q z is e = let none : at q ≡ None = ap at e ∙ absent in let wrong : None ≡ Some z = sym none ∙ is in cc

  not_first : (n : ℕ) → first n ≡ Some k → ⊥
  not_first n to = let (x, is, _, _) = m.begins n k to in present k x is refl

  new_at : linked_at k ≡ Some (before_all node (first node))
  new_at = rw (eqb_same k) refl

  first_of_all : (q : ℕ) (z : Place) → at q ≡ Some z → first node ≡ Some q → linked_at q ≡ Some (record z { previous = Some k })
  first_of_all q z is hit = rw (ne_eqb q k (present q z is)) (changed_hit (λ (z : Place). record z { previous = Some k }) at q (first node) hit ∙ ap (option_map (λ (z : Place). record z { previous = Some k })) is)

  other_at : (q : ℕ) (z : Place) → at q ≡ Some z → (first node ≡ Some q → ⊥) → linked_at q ≡ Some z
  other_at q z is miss = rw (ne_eqb q k (present q z is)) (changed_miss (λ (z : Place). record z { previous = Some k }) at q (first node) miss ∙ is)

  linked_cases : (q : ℕ) (y : Place) → linked_at q ≡ Some y → ((q ≡ k) × (y ≡ before_all node (first node))) ⊎ ((z : Place) × (at q ≡ Some z) × (((first node ≡ Some q) × (y ≡ record z { previous = Some k })) ⊎ ((first node ≡ Some q → ⊥) × (y ≡ z))))
  linked_cases q y h = elim (eqb_tells q k) [
    | inl (t, e) ↦ let is : Some (before_all node (first node)) ≡ Some y = rw t at h in inl (e, cc)
    | inr (f, other) ↦ inr (elim (is_key (first node) q) [
      | inl hit ↦
          let (z, is, by) = mapped (λ (z : Place). record z { previous = Some k }) (at q) y (sym (changed_hit (λ (z : Place). record z { previous = Some k }) at q (first node) hit) ∙ (rw f at h)) in
          (z, is, inl (hit, by))
      | inr miss ↦ (y, sym (changed_miss (λ (z : Place). record z { previous = Some k }) at q (first node) miss) ∙ (rw f at h), inr (miss, refl))
    ])
  ]

  abbrev new_age : ℕ → ℕ
  new_age = updated m.age k m.bound

  age_of : (q : ℕ) (z : Place) → at q ≡ Some z → new_age q ≡ m.age q
  age_of q z is = updated_there m.age k m.bound q (present q z is)

  -- where a record that stands in the table stands now
  moved : (q : ℕ) (z : Place) → at q ≡ Some z → (y : Place) × (linked_at q ≡ Some y) × (y.node ≡ z.node) × (y.next ≡ z.next) × ((first node ≡ Some q → ⊥) → y.previous ≡ z.previous)
  moved q z is = elim (is_key (first node) q) [
    | inl hit ↦ (record z { previous = Some k }, first_of_all q z is hit, refl, refl, λ miss. absurd (miss hit))
    | inr miss ↦ (z, other_at q z is miss, refl, refl, λ _. refl)
  ]

  aged : (q : ℕ) (y : Place) → linked_at q ≡ Some y → new_age q < suc m.bound
  aged q y h = elim (linked_cases q y h) [
    | inl (e, _) ↦ let is : new_age q ≡ m.bound = ap new_age e ∙ updated_here m.age k m.bound in omega (arith, is)
    | inr (z, is, _) ↦ omega (arith, age_of q z is, m.aged q z is)
  ]

  begins_new : (n q : ℕ) → updated first node (Some k) n ≡ Some q → (y : Place) × (linked_at q ≡ Some y) × (y.node ≡ n) × (y.previous ≡ None)
  begins_new n q h = elim (eqb_tells n node) [
    | inl (t, e) ↦ let is : Some k ≡ Some q = rw t at h in let same : k ≡ q = cc in (before_all node (first node), ap linked_at (sym same) ∙ new_at, sym e, refl)
    | inr (f, other) ↦
        let to : first n ≡ Some q = rw f at h in
        let (z, is, node_z, none) = m.begins n q to in
        let (y, at_y, node_y, _, kept) = moved q z is in
        (y, at_y, node_y ∙ node_z, kept (λ hit. other (let (w, there, node_w, _) = m.begins node q hit in let same : w ≡ z = cc in sym node_z ∙ sym (ap (λ (p : Place). p.node) same) ∙ node_w)) ∙ none)
  ]

  begun_new : (q : ℕ) (y : Place) → linked_at q ≡ Some y → y.previous ≡ None → updated first node (Some k) y.node ≡ Some q
  begun_new q y h none = elim (linked_cases q y h) [
    | inl (e, by) ↦ ap (updated first node (Some k)) (ap (λ (p : Place). p.node) by) ∙ updated_here first node (Some k) ∙ ap (λ j. Some j) (sym e)
    | inr (z, is, inl (hit, by)) ↦ let wrong : Some k ≡ None = sym (ap (λ (p : Place). p.previous) by) ∙ none in absurd (cc)
    | inr (z, is, inr (miss, by)) ↦
        let top : first z.node ≡ Some q = m.begun q z is (sym (ap (λ (p : Place). p.previous) by) ∙ none) in
        ap (updated first node (Some k)) (ap (λ (p : Place). p.node) by) ∙ updated_there first node (Some k) z.node (λ e. miss (ap first (sym e) ∙ top)) ∙ top
  ]

  old_forth : (q j : ℕ) (z : Place) → at q ≡ Some z → z.next ≡ Some j → (w : Place) × (linked_at j ≡ Some w) × (w.node ≡ z.node) × (w.previous ≡ Some q) × (new_age j < new_age q)
  old_forth q j z is next =
      let (y, at_j, node_j, back, older) = m.forth q j z is next in
      let (w, at_w, node_w, _, kept) = moved j y at_j in
      let age : new_age j < new_age q = omega (arith, older, age_of j y at_j, age_of q z is) in
      (w, at_w, node_w ∙ node_j, kept (λ hit. let (v, there, _, none) = m.begins node j hit in let same : v ≡ y = cc in let wrong : None ≡ Some q = sym none ∙ ap (λ (p : Place). p.previous) same ∙ back in cc) ∙ back, age)

  forth_new : (q j : ℕ) (y : Place) → linked_at q ≡ Some y → y.next ≡ Some j → (w : Place) × (linked_at j ≡ Some w) × (w.node ≡ y.node) × (w.previous ≡ Some q) × (new_age j < new_age q)
  forth_new q j y h next = elim (linked_cases q y h) [
    | inl (e, by) ↦
        let to : first node ≡ Some j = sym (ap (λ (p : Place). p.next) by) ∙ next in
        let (z, is, node_z, _) = m.begins node j to in
        let age : new_age q ≡ m.bound = ap new_age e ∙ updated_here m.age k m.bound in
        let older : new_age j < new_age q = omega (arith, age, age_of j z is, m.aged j z is) in
        (record z { previous = Some k }, first_of_all j z is to, node_z ∙ sym (ap (λ (p : Place). p.node) by), ap (λ i. Some i) (sym e), older)
    | inr (z, is, inl (hit, by)) ↦ subst (λ (p : Place). (w : Place) × (linked_at j ≡ Some w) × (w.node ≡ p.node) × (w.previous ≡ Some q) × (new_age j < new_age q)) (sym by) (old_forth q j z is (sym (ap (λ (p : Place). p.next) by) ∙ next))
    | inr (z, is, inr (miss, by)) ↦ subst (λ (p : Place). (w : Place) × (linked_at j ≡ Some w) × (w.node ≡ p.node) × (w.previous ≡ Some q) × (new_age j < new_age q)) (sym by) (old_forth q j z is (sym (ap (λ (p : Place). p.next) by) ∙ next))
  ]

  back_new : (q j : ℕ) (y : Place) → linked_at q ≡ Some y → y.previous ≡ Some j → (w : Place) × (linked_at j ≡ Some w) × (w.node ≡ y.node) × (w.next ≡ Some q)
  back_new q j y h previous = elim (linked_cases q y h) [
    | inl (e, by) ↦ let wrong : None ≡ Some j = sym (ap (λ (p : Place). p.previous) by) ∙ previous in absurd (cc)
    | inr (z, is, inl (hit, by)) ↦
        let is_k : Some k ≡ Some j = sym (ap (λ (p : Place). p.previous) by) ∙ previous in
        let same : k ≡ j = cc in
        let (v, there, node_v, _) = m.begins node q hit in
        let same_v : v ≡ z = cc in
        (before_all node (first node), ap linked_at (sym same) ∙ new_at, sym node_v ∙ ap (λ (p : Place). p.node) same_v ∙ sym (ap (λ (p : Place). p.node) by), hit)
    | inr (z, is, inr (miss, by)) ↦
        let (v, at_j, node_j, next) = m.back q j z is (sym (ap (λ (p : Place). p.previous) by) ∙ previous) in
        let (w, at_w, node_w, next_w, _) = moved j v at_j in
        (w, at_w, node_w ∙ node_j ∙ sym (ap (λ (p : Place). p.node) by), next_w ∙ next)
  ]

  joined : AreLinked linked_at (updated first node (Some k))
  joined = record {
    age = new_age;
    bound = suc m.bound;
    aged = aged;
    begins = begins_new;
    begun = begun_new;
    forth = forth_new;
    back = back_new;
  }

  -- the writes of a `link`, over a table in which k has its new place already
  pub linked : (now : ℕ → Option Place) → now k ≡ Some (before_all node (first node)) → ((q : ℕ) → (q ≡ k → ⊥) → now q ≡ at q) → AreLinked (changed (λ (z : Place). record z { previous = Some k }) (first node) now) (updated first node (Some k))
  linked now new others =
      let same : linked_at ≡ changed (λ (z : Place). record z { previous = Some k }) (first node) now = fun_ext same_at in
      subst (λ (p : ℕ → Option Place). AreLinked p (updated first node (Some k))) same joined where
        same_at : (q : ℕ) → linked_at q ≡ changed (λ (z : Place). record z { previous = Some k }) (first node) now q
        same_at q = elim (eqb_tells q k) [
          | inl (t, e) ↦ rw t (sym (changed_miss (λ (z : Place). record z { previous = Some k }) now q (first node) (λ hit. not_first node (hit ∙ ap (λ j. Some j) e)) ∙ ap now e ∙ new))
          | inr (f, other) ↦ rw f (elim (is_key (first node) q) [
            | inl hit ↦ changed_hit (λ (z : Place). record z { previous = Some k }) at q (first node) hit ∙ ap (option_map (λ (z : Place). record z { previous = Some k })) (sym (others q other)) ∙ sym (changed_hit (λ (z : Place). record z { previous = Some k }) now q (first node) hit)
            | inr miss ↦ changed_miss (λ (z : Place). record z { previous = Some k }) at q (first node) miss ∙ sym (others q other) ∙ sym (changed_miss (λ (z : Place). record z { previous = Some k }) now q (first node) miss)
          ])
        ]
