-- The list from a first record on has each record at its node once.
use Rattle.std.proofs.Common.{◌≡◌, ◌≢◌, ℕ, zero, suc, ◌+◌, ◌<◌, ◌≤◌, Bool, true, false, ◌||◌, eqb, List, [], ◌∷◌, length, map, Contains, All, AllPairs, Option, Some, None, option_map, refl, ap, sym, ◌∙◌, subst, ◌⊎◌, inl, inr, arith}
use Rattle.std.specs.List.{list_any, IsDistinct, AllByRecursion}
use Rattle.std.proofs.lemmas.List.{length-map}
use Rattle.std.proofs.lemmas.List.Elements.{All-contains_itself}
use Rattle.std.proofs.lemmas.List.Kept.{AllPairs-cons}
use Rattle.std.proofs.lemmas.Bool.{ne_eqb, eqb-true}
use Rattle.std.proofs.lemmas.Map.Steps.{length-le_from_distinct_below}
use Rattle.slab.specs.Slab.{Slab, get}
use Rattle.slab.proofs.SlabLemmas.{Contains-cons, Contains-cons_cases, ContainsKey-within}
use Rattle.wac_edges.specs.declared.edges.End.{End}
use Rattle.wac_edges.specs.declared.edges.Edge.{Edge}
use Rattle.wac_edges.specs.declared.records.Record.{Record}
use Rattle.wac_edges.specs.declared.records.Firsts.{Firsts}
use Rattle.wac_edges.specs.private.Records.{Table, Place, AreLinked, AreListed, HasEdge, IsList, list_from, list_at, links_at, number_at, first_at, place, places, edge_at}
use Rattle.wac_edges.proofs.TableLemmas.{is_there}

-- ---- lists of keys with edges
-- the key is one of these
abbrev pub IsIn : List (ℕ × Edge) → ℕ → Type 0
IsIn [] k = ⊥
IsIn (x ∷ xs) k = (x.0 ≡ k) ⊎ IsIn xs k

-- a list is what its first record leads to
pub list_from_is : (t : Table) (end : End) (here : Option ℕ) (xs : List (ℕ × Edge)) (n : ℕ) → IsList t end here xs → length xs ≤ n → list_from t end here n ≡ xs
list_from_is t end here [] zero h short = refl
list_from_is t end here [] (suc n) h short = rw h refl
list_from_is t end here (x ∷ xs) zero h short = absurd (omega arith)
list_from_is t end here (x ∷ xs) (suc n) (is, r, there, same, next) short =
    subst (λ (o : Option ℕ). list_from t end o (suc n) ≡ x ∷ xs) (sym is)
    (subst (λ (o : Option Record). elim o as (λ _. List (ℕ × Edge)) [ None ↦ [] | Some r ↦ (x.0, r.edge) ∷ list_from t end (links_at end r).next n ] ≡ x ∷ xs) (sym there)
    (ap (λ (e : Edge). (x.0, e) ∷ list_from t end (links_at end r).next n) same ∙ ap (λ (l : List (ℕ × Edge)). x ∷ l) (list_from_is t end (links_at end r).next xs n next (omega arith))))

list_from_short : (t : Table) (end : End) (here : Option ℕ) (n : ℕ) → length (list_from t end here n) ≤ n
list_from_short t end here zero = omega arith
list_from_short t end None (suc n) = omega arith
list_from_short t end (Some k) (suc n) = split (t k) (λ o. list_from_short t end o n) where
  split : (o : Option Record) → ((o : Option ℕ) → length (list_from t end o n) ≤ n) → length (elim o as (λ _. List (ℕ × Edge)) [ None ↦ [] | Some r ↦ (k, r.edge) ∷ list_from t end (links_at end r).next n ]) ≤ suc n
  split None more = omega arith
  split (Some r) more = omega (arith, more (links_at end r).next)

pub list_none : (s : Slab Record) (end : End) (here : Option ℕ) → here ≡ None → list_at s end here ≡ []
list_none s end here none = subst (λ (o : Option ℕ). list_at s end o ≡ []) (sym none) (split (length s.slots)) where
  split : (n : ℕ) → list_from (get s) end None n ≡ []
  split zero = refl
  split (suc n) = refl

-- the first record is read, and the others are left
pub list_step : (s : Slab Record) (end : End) (here : Option ℕ) (k : ℕ) (r : Record) → here ≡ Some k → get s k ≡ Some r → IsList (get s) end here (list_at s end here) → (list_at s end here ≡ (k, r.edge) ∷ list_at s end (links_at end r).next) × IsList (get s) end (links_at end r).next (list_at s end (links_at end r).next)
list_step s end here k r at there list = split (list_at s end here) list (list_from_short (get s) end here (length s.slots)) where
  split : (xs : List (ℕ × Edge)) → IsList (get s) end here xs → length xs ≤ length s.slots → (xs ≡ (k, r.edge) ∷ list_at s end (links_at end r).next) × IsList (get s) end (links_at end r).next (list_at s end (links_at end r).next)
  split [] none _ = let wrong : None ≡ Some k = sym none ∙ at in absurd (cc)
  split (x ∷ xs) (is, r', there', same, next) short =
      let key : Some x.0 ≡ Some k = sym is ∙ at in
      let one : x.0 ≡ k = cc in
      let records : Some r' ≡ Some r = sym there' ∙ ap (get s) one ∙ there in
      let record_is : r' ≡ r = cc in
      let left : IsList (get s) end (links_at end r).next xs = subst (λ (v : Record). IsList (get s) end (links_at end v).next xs) record_is next in
      let rest : list_at s end (links_at end r).next ≡ xs = list_from_is (get s) end (links_at end r).next xs (length s.slots) left (omega arith) in (
        ap (λ (j : ℕ). (j, x.1) ∷ xs) one ∙ ap (λ (e : Edge). (k, e) ∷ xs) (sym same ∙ ap (λ (v : Record). v.edge) record_is) ∙ ap (λ (l : List (ℕ × Edge)). (k, r.edge) ∷ l) (sym rest),
        subst (λ (l : List (ℕ × Edge)). IsList (get s) end (links_at end r).next l) (sym rest) left,
      )

module _ (t : Table) (first : ℕ → Option ℕ) (end : End) (m : AreLinked (places end t) first) where
  stands : (k : ℕ) (x : Place) → places end t k ≡ Some x → (r : Record) × (t k ≡ Some r) × (x ≡ place end r)
  stands k x h = split (t k) refl h where
    split : (o : Option Record) → t k ≡ o → option_map (place end) o ≡ Some x → (r : Record) × (t k ≡ Some r) × (x ≡ place end r)
    split None _ h = absurd (cc)
    split (Some r) is h = (r, is, cc)

  -- from a record on there is a list
  reach : (b : ℕ) (o : Option ℕ) → ((k : ℕ) → o ≡ Some k → (x : Place) × (places end t k ≡ Some x) × (m.age k < b)) → (xs : List (ℕ × Edge)) × IsList t end o xs
  reach b None h = ([], refl)
  reach zero (Some k) h = let (x, is, young) = h k refl in absurd (omega arith)
  reach (suc b) (Some k) h =
      let (x, is, young) = h k refl in
      let (r, there, same) = stands k x is in
      let (xs, list) = reach b (links_at end r).next (λ j next. let (y, at_j, _, _, older) = m.forth k j x is (ap (λ (p : Place). p.next) same ∙ next) in let low : m.age j < b = omega arith in (y, at_j, low)) in
      ((k, r.edge) ∷ xs, (refl, r, there, refl, list))

  list_of : (n : ℕ) → (xs : List (ℕ × Edge)) × IsList t end (first n) xs
  list_of n = reach m.bound (first n) (λ k h. let (x, is, _, _) = m.begins n k h in (x, is, m.aged k x is))

  -- each key of a list has its edge
  edge_in : (here : Option ℕ) (xs : List (ℕ × Edge)) → IsList t end here xs → (k : ℕ) → IsIn xs k → (e : Edge) × (edge_at t k ≡ Some e) × Contains (map (λ (x : ℕ × Edge). x.1) xs) e
  edge_in here [] h k w = absurd w
  edge_in here (x ∷ xs) (is, r, there, same, next) k (inl e) = (x.1, ap (edge_at t) (sym e) ∙ ap (option_map (λ (r : Record). r.edge)) there ∙ ap (λ (v : Edge). Some v) same, (zero, omega arith, refl))
  edge_in here (x ∷ xs) (is, r, there, same, next) k (inr w) = let (e, at, within) = edge_in (links_at end r).next xs next k w in (e, at, Contains-cons x.1 e (map (λ (x : ℕ × Edge). x.1) xs) within)

  -- each edge of a list has a key
  key_in : (here : Option ℕ) (xs : List (ℕ × Edge)) → IsList t end here xs → (e : Edge) → Contains (map (λ (x : ℕ × Edge). x.1) xs) e → (k : ℕ) × IsIn xs k × (edge_at t k ≡ Some e)
  key_in here [] h e (i, within, _) = absurd (omega arith)
  key_in here (x ∷ xs) (is, r, there, same, next) e w = elim (Contains-cons_cases x.1 e (map (λ (x : ℕ × Edge). x.1) xs) w) [
    | inl is_e ↦ (x.0, inl refl, ap (option_map (λ (r : Record). r.edge)) there ∙ ap (λ (v : Edge). Some v) (same ∙ is_e))
    | inr rest ↦ let (k, within, at) = key_in (links_at end r).next xs next e rest in (k, inr within, at)
  ]

  -- each pair of a list is a key with its edge
  sound_in : (here : Option ℕ) (xs : List (ℕ × Edge)) → IsList t end here xs → (x : ℕ × Edge) → Contains xs x → edge_at t x.0 ≡ Some x.1
  sound_in here [] h x (i, within, _) = absurd (omega arith)
  sound_in here (y ∷ ys) (is, r, there, same, next) x w = elim (Contains-cons_cases y x ys w) [
    | inl one ↦ subst (λ (v : ℕ × Edge). edge_at t v.0 ≡ Some v.1) one (ap (option_map (λ (r : Record). r.edge)) there ∙ ap (λ (e : Edge). Some e) same)
    | inr rest ↦ sound_in (links_at end r).next ys next x rest
  ]

  pair_in : (here : Option ℕ) (xs : List (ℕ × Edge)) → IsList t end here xs → (k : ℕ) (e : Edge) → IsIn xs k → edge_at t k ≡ Some e → Contains xs (k, e)
  pair_in here [] h k e w at = absurd w
  pair_in here (y ∷ ys) (is, r, there, same, next) k e (inl one) at =
      let both : Some y.1 ≡ Some e = sym (ap (option_map (λ (r : Record). r.edge)) there ∙ ap (λ (e : Edge). Some e) same) ∙ ap (edge_at t) one ∙ at in
      let same_e : y.1 ≡ e = cc in
      (0, omega arith, ap (λ (j : ℕ). (j, y.1)) one ∙ ap (λ (v : Edge). (k, v)) same_e)
  pair_in here (y ∷ ys) (is, r, there, same, next) k e (inr w) at = Contains-cons y (k, e) ys (pair_in (links_at end r).next ys next k e w at)

  -- the records of a list stand at one node
  node_in : (node : ℕ) (here : Option ℕ) (xs : List (ℕ × Edge)) → IsList t end here xs → ((k : ℕ) (r : Record) → here ≡ Some k → t k ≡ Some r → number_at end r.edge ≡ node) → (k : ℕ) → IsIn xs k → (r : Record) × (t k ≡ Some r) × (number_at end r.edge ≡ node)
  node_in node here [] h top k w = absurd w
  node_in node here (x ∷ xs) (is, r, there, same, next) top k (inl e) = (r, ap t (sym e) ∙ there, top x.0 r is there)
  node_in node here (x ∷ xs) (is, r, there, same, next) top k (inr w) = node_in node (links_at end r).next xs next
      (λ j s leads at_j.
      let (y, at_y, node_y, _, _) = m.forth x.0 j (place end r) (ap (option_map (place end)) there) leads in
      let (s', at_s, same_s) = stands j y at_y in
      let one : s' ≡ s = cc in
      ap (λ (v : Record). number_at end v.edge) (sym one) ∙ sym (ap (λ (p : Place). p.node) same_s) ∙ node_y ∙ top x.0 r is there) k w

  -- each record of a list is older than those before
  older_in : (a : ℕ) (here : Option ℕ) (xs : List (ℕ × Edge)) → IsList t end here xs → ((k : ℕ) → here ≡ Some k → m.age k < a) → (k : ℕ) → IsIn xs k → m.age k < a
  older_in a here [] h top k w = absurd w
  older_in a here (x ∷ xs) (is, r, there, same, next) top k (inl e) = omega (arith, top x.0 is, ap m.age e)
  older_in a here (x ∷ xs) (is, r, there, same, next) top k (inr w) =
      older_in a (links_at end r).next xs next (λ j leads. let (_, _, _, _, older) = m.forth x.0 j (place end r) (ap (option_map (place end)) there) leads in omega (arith, older, top x.0 is)) k w

  older_tail : (x : ℕ × Edge) (r : Record) (xs : List (ℕ × Edge)) → t x.0 ≡ Some r → IsList t end (links_at end r).next xs → (k : ℕ) → IsIn xs k → m.age k < m.age x.0
  older_tail x r xs there next = older_in (m.age x.0) (links_at end r).next xs next (λ j leads. let (_, _, _, _, older) = m.forth x.0 j (place end r) (ap (option_map (place end)) there) leads in older)

  -- no edge comes twice
  once_in : ((j k : ℕ) (e : Edge) → edge_at t j ≡ Some e → edge_at t k ≡ Some e → j ≡ k) → (here : Option ℕ) (xs : List (ℕ × Edge)) → IsList t end here xs → AllPairs (λ a b. a ≢ b) (map (λ (x : ℕ × Edge). x.1) xs)
  once_in once here [] h = λ i j d low within. absurd (omega arith)
  once_in once here (x ∷ xs) (is, r, there, same, next) = AllPairs-cons (λ a b. a ≢ b) x.1 (map (λ (x : ℕ × Edge). x.1) xs) apart (once_in once (links_at end r).next xs next) where
    apart_from : (e : Edge) → Contains (map (λ (x : ℕ × Edge). x.1) xs) e → x.1 ≢ e
    apart_from e w same_e =
        let (k, within, at) = key_in (links_at end r).next xs next e w in
        let one : x.0 ≡ k = once x.0 k e (ap (option_map (λ (r : Record). r.edge)) there ∙ ap (λ (v : Edge). Some v) (same ∙ same_e)) at in
        let older = older_tail x r xs there next k within in
        omega (arith, older, ap m.age one)

    apart : All (λ e. x.1 ≢ e) (map (λ (x : ℕ × Edge). x.1) xs)
    apart = λ i d low. apart_from _ (All-contains_itself (map (λ (x : ℕ × Edge). x.1) xs) i d low)

  -- a list has what comes after each of its records
  next_in : (here : Option ℕ) (xs : List (ℕ × Edge)) → IsList t end here xs → (j k : ℕ) (r : Record) → IsIn xs j → t j ≡ Some r → (links_at end r).next ≡ Some k → IsIn xs k
  next_in here [] h j k r w there leads = w
  next_in here (x ∷ xs) (is, s, there_x, same, next) j k r (inl e) there leads =
      let one : s ≡ r = let at : t x.0 ≡ Some r = ap t e ∙ there in cc in
      inr (head (links_at end s).next xs next (ap (λ (v : Record). (links_at end v).next) one ∙ leads)) where
        head : (here : Option ℕ) (xs : List (ℕ × Edge)) → IsList t end here xs → here ≡ Some k → IsIn xs k
        head here [] h e = let wrong : None ≡ Some k = sym h ∙ e in absurd (cc)
        head here (x ∷ xs) h e = let same : Some x.0 ≡ Some k = sym h.0 ∙ e in inl (cc)
  next_in here (x ∷ xs) (is, s, there_x, same, next) j k r (inr w) there leads = inr (next_in (links_at end s).next xs next j k r w there leads)

  first_in : (here : Option ℕ) (xs : List (ℕ × Edge)) → IsList t end here xs → (k : ℕ) → here ≡ Some k → IsIn xs k
  first_in here [] h k e = let wrong : None ≡ Some k = sym h ∙ e in absurd (cc)
  first_in here (x ∷ xs) h k e = let same : Some x.0 ≡ Some k = sym h.0 ∙ e in inl (cc)

  -- the list from the first record of a node has each record there
  all_in : (node : ℕ) (xs : List (ℕ × Edge)) → IsList t end (first node) xs → (d k : ℕ) (r : Record) → t k ≡ Some r → number_at end r.edge ≡ node → m.bound ≤ m.age k + d → IsIn xs k
  all_in node xs list zero k r there at near = let low = m.aged k (place end r) (ap (option_map (place end)) there) in absurd (omega arith)
  all_in node xs list (suc d) k r there at near = split (λ j s there_s at_s closer. all_in node xs list d j s there_s at_s closer) (links_at end r).previous refl where
    placed : places end t k ≡ Some (place end r)
    placed = ap (option_map (place end)) there

    split : ((j : ℕ) (s : Record) → t j ≡ Some s → number_at end s.edge ≡ node → m.bound ≤ m.age j + d → IsIn xs j) → (o : Option ℕ) → (links_at end r).previous ≡ o → IsIn xs k
    split more None none = first_in (first node) xs list k (ap first (sym at) ∙ m.begun k (place end r) placed none)
    split more (Some j) leads =
        let (y, at_j, node_j, next_j) = m.back k j (place end r) placed leads in
        let (s, there_s, same) = stands j y at_j in
        let (_, _, _, _, newer) = m.forth j k y at_j next_j in
        let closer : m.bound ≤ m.age j + d = omega arith in
        next_in (first node) xs list j k s (more j s there_s (sym (ap (λ (p : Place). p.node) same) ∙ node_j ∙ at) closer) there_s (sym (ap (λ (p : Place). p.next) same) ∙ next_j)

  -- the keys of a list differ
  distinct_in : (here : Option ℕ) (xs : List (ℕ × Edge)) → IsList t end here xs → IsDistinct eqb (map (λ (x : ℕ × Edge). x.0) xs)
  unfolding IsDistinct
  distinct_in here [] h = tt
  distinct_in here (x ∷ xs) (is, r, there, same, next) = (none xs (λ k w. older_tail x r xs there next k w), distinct_in (links_at end r).next xs next) where
    none : (ys : List (ℕ × Edge)) → ((k : ℕ) → IsIn ys k → m.age k < m.age x.0) → AllByRecursion (λ y. eqb x.0 y ≡ false) (map (λ (x : ℕ × Edge). x.0) ys)
    none [] h = tt
    none (y ∷ ys) h = (ne_eqb x.0 y.0 (λ e. let older = h y.0 (inl refl) in omega (arith, older, ap m.age e)), none ys (λ k w. h k (inr w)))

  is_in : (xs : List (ℕ × Edge)) (q : ℕ) → list_any (eqb q) (map (λ (x : ℕ × Edge). x.0) xs) ≡ true → IsIn xs q
  is_in [] q h = absurd (cc)
  is_in (x ∷ xs) q h = split (λ w. is_in xs q w) (eqb q x.0) refl h where
    split : (list_any (eqb q) (map (λ (x : ℕ × Edge). x.0) xs) ≡ true → IsIn xs q) → (b : Bool) → eqb q x.0 ≡ b → (b || list_any (eqb q) (map (λ (x : ℕ × Edge). x.0) xs)) ≡ true → IsIn (x ∷ xs) q
    split more true e _ = inl (sym (eqb-true q x.0 e))
    split more false _ h = inr (more h)

  -- a list has no more records than the table has slots
  short_in : (slots : ℕ) → ((k : ℕ) (r : Record) → t k ≡ Some r → k < slots) → (node : ℕ) (xs : List (ℕ × Edge)) → IsList t end (first node) xs → length (map (λ (x : ℕ × Edge). x.0) xs) ≤ slots
  short_in slots within node xs list = length-le_from_distinct_below (map (λ (x : ℕ × Edge). x.0) xs) slots (distinct_in (first node) xs list)
      (λ q h. let (r, there, _) = node_in node (first node) xs list (λ k r top there. let (x, is, node_x, _) = m.begins node k top in let (s, at_s, same) = stands k x is in let one : s ≡ r = cc in ap (λ (v : Record). number_at end v.edge) (sym one) ∙ sym (ap (λ (p : Place). p.node) same) ∙ node_x) q (is_in xs q h) in within q r there)

-- ---- the lists of a table
module _ (s : Slab Record) (firsts : List Firsts) (listed : AreListed (get s) firsts) (node : ℕ) (end : End) where
  abbrev here : Option ℕ
  here = first_at end firsts node

  abbrev linked_there : AreLinked (places end (get s)) (first_at end firsts)
  linked_there = listed.linked end

  within : (k : ℕ) (r : Record) → get s k ≡ Some r → k < length s.slots
  within k r there = ContainsKey-within s k (is_there (get s k) r there)

  -- a list is what is seen of it
  seen : (xs : List (ℕ × Edge)) → IsList (get s) end here xs → (list_at s end here ≡ xs) × (length xs ≤ length s.slots)
  seen xs list =
      let short : length xs ≤ length s.slots = omega (arith, short_in (get s) (first_at end firsts) end linked_there (length s.slots) within node xs list, length-map xs (λ (x : ℕ × Edge). x.0)) in
      (list_from_is (get s) end here xs (length s.slots) list short, short)

  pub the_list : IsList (get s) end here (list_at s end here)
  the_list =
      let (xs, list) = list_of (get s) (first_at end firsts) end linked_there node in
      subst (λ (l : List (ℕ × Edge)). IsList (get s) end here l) (sym (seen xs list).0) list

  pub the_length : length (list_at s end here) ≤ length s.slots
  the_length = (seen (list_at s end here) the_list).1

  top : (k : ℕ) (r : Record) → here ≡ Some k → get s k ≡ Some r → number_at end r.edge ≡ node
  top k r begins there =
      let (x, is, node_x, _) = linked_there.begins node k begins in
      let same : Some x ≡ Some (place end r) = sym is ∙ ap (option_map (place end)) there in
      let one : x ≡ place end r = cc in
      sym (ap (λ (p : Place). p.node) one) ∙ node_x

  pub in_list : (e : Edge) → Contains (map (λ (x : ℕ × Edge). x.1) (list_at s end here)) e → HasEdge (get s) e × (number_at end e ≡ node)
  in_list e w =
      let (k, at_k, is) = key_in (get s) (first_at end firsts) end linked_there here (list_at s end here) the_list e w in
      let (r, there, at) = node_in (get s) (first_at end firsts) end linked_there node here (list_at s end here) the_list top k at_k in
      let same : Some r.edge ≡ Some e = sym (ap (option_map (λ (r : Record). r.edge)) there) ∙ is in
      let one : r.edge ≡ e = cc in
      ((k, is), ap (number_at end) (sym one) ∙ at)

  pub of_list : (e : Edge) (k : ℕ) → edge_at (get s) k ≡ Some e → number_at end e ≡ node → IsIn (list_at s end here) k
  of_list e k is at =
      let (r, there, same) = record_at (get s k) refl is in
      all_in (get s) (first_at end firsts) end linked_there node (list_at s end here) the_list linked_there.bound k r there (ap (number_at end) (sym same) ∙ at) (omega arith) where
        record_at : (o : Option Record) → get s k ≡ o → option_map (λ (r : Record). r.edge) o ≡ Some e → (r : Record) × (get s k ≡ Some r) × (e ≡ r.edge)
        record_at None _ h = absurd (cc)
        record_at (Some r) there h = (r, there, cc)

  pub edge_of_list : (e : Edge) → HasEdge (get s) e → number_at end e ≡ node → Contains (map (λ (x : ℕ × Edge). x.1) (list_at s end here)) e
  edge_of_list e (k, is) at =
      let (v, is_v, w) = edge_in (get s) (first_at end firsts) end linked_there here (list_at s end here) the_list k (of_list e k is at) in
      let both : Some v ≡ Some e = sym is_v ∙ is in
      let one : v ≡ e = cc in
      subst (λ (x : Edge). Contains (map (λ (x : ℕ × Edge). x.1) (list_at s end here)) x) one w

  pub each_once : AllPairs (λ a b. a ≢ b) (map (λ (x : ℕ × Edge). x.1) (list_at s end here))
  each_once = once_in (get s) (first_at end firsts) end linked_there listed.once here (list_at s end here) the_list

  pub sound_list : (x : ℕ × Edge) → Contains (list_at s end here) x → edge_at (get s) x.0 ≡ Some x.1
  sound_list = sound_in (get s) (first_at end firsts) end linked_there here (list_at s end here) the_list

  pub pair_in_list : (k : ℕ) (e : Edge) → edge_at (get s) k ≡ Some e → number_at end e ≡ node → Contains (list_at s end here) (k, e)
  pair_in_list k e is at = pair_in (get s) (first_at end firsts) end linked_there here (list_at s end here) the_list k e (of_list e k is at) is
