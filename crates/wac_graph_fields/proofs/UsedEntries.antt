-- What interfaces use widely: no chain of uses is longer than there are interfaces, and each stands behind what it uses.
use Rattle.std.proofs.Common.{◌≡◌, ℕ, zero, suc, ◌<◌, ◌≤◌, Bool, true, false, cond, ◌&&◌, ◌||◌, List, [], ◌∷◌, ◌++◌, length, map, Option, Some, None, Contains, ◌+◌, refl, ap, sym, ◌∙◌, subst, append_assoc, inl, inr, arith}
use Rattle.std.specs.Prelude.{slice_get, nat_lt}
use Rattle.std.specs.List.{AllByRecursion, flat_map}
use Rattle.std.proofs.lemmas.Bool.{eq-eqb}
use Rattle.std.proofs.lemmas.Bool.Decides.{nat_tests}
use Rattle.std.proofs.lemmas.List.{map-append}
use Rattle.std.proofs.lemmas.Option.{slice_get_within}
use Rattle.wac_types_shapes.specs.primitives.Name.{Name, option_case}
use Rattle.wac_types_collection.specs.collection.Collection.{Collection, item_at, item_of, used_types, kind_types, AddedBefore, AreBefore, IsWellFormed, HasInterface, size, interface_exports}
use Rattle.wac_types_collection.specs.declared.collection.collection.Held.{Held}
use Rattle.wac_types_collection.specs.wide.Wide.{UsesWidely, by_itself, by_instance, interface_uses, used_interfaces, instances_of, wide_uses, wide_uses_to}
use Rattle.wac_types_collection.proofs.lemmas.wide.Members.{in_none, in_first, in_rest, in_parts, flat_joined}
use Rattle.wac_types_collection.proofs.lemmas.wide.Wide.{IsBelow, instance_below, below_there, listed_instance, wide_unfolds, wide_law}
use Rattle.wac_types_shapes.specs.declared.shapes.component.Interface.{Interface}
use Rattle.wac_types_shapes.specs.declared.shapes.component.InterfaceId.{InterfaceId}
use Rattle.wac_types_shapes.specs.declared.shapes.component.ItemKind.{ItemKind}
use Rattle.wac_types_shapes.specs.declared.shapes.component.ItemKind.TheVariants as kind
use Rattle.wac_types_shapes.specs.declared.shapes.component.UsedType.{UsedType}
use Rattle.wac_types_shapes.proofs.lemmas.shapes.Names.{same_name-refl}
use Rattle.wac_graph_model.specs.nodes.Asked.{Entry}
use Rattle.wac_graph_model.specs.nodes.Entries.{under_id, used_to, used_by, same_instance, asks_again}
use Rattle.wac_graph_fields.specs.private.EntriesLeft.{by_node, has, HasAll, AreSettled, count_before, rank, total, weight_to}
use Rattle.wac_graph_fields.proofs.EntryLists.{all_each, all_joined, has_joined, settled_joined}

-- ---- ranks
lt_true : (k m : ℕ) → k < m → nat_lt k m ≡ true
lt_true k m h = grind (arith, nat_tests)

lt_false : (k m : ℕ) → m ≤ k → nat_lt k m ≡ false
lt_false k m h = grind (arith, nat_tests)

true_lt : (k m : ℕ) → nat_lt k m ≡ true → k < m
true_lt k m h = grind (arith, nat_tests)

count_more : (a b : ℕ) → a ≤ b → (hs : List (Held Interface)) → count_before a hs ≤ count_before b hs
count_more a b le [] = omega arith
count_more a b le (h ∷ hs) = split (nat_lt h.before a) refl (nat_lt h.before b) refl (count_more a b le hs) where
  split : (s : Bool) → nat_lt h.before a ≡ s → (t : Bool) → nat_lt h.before b ≡ t → count_before a hs ≤ count_before b hs → cond s (suc (count_before a hs)) (count_before a hs) ≤ cond t (suc (count_before b hs)) (count_before b hs)
  split true e true f r = omega arith
  split true e false f r = let low = true_lt h.before a e in let also : h.before < b = omega arith in let t = lt_true h.before b also in cc
  split false e true f r = omega arith
  split false e false f r = r

count_less : (b : ℕ) (hs : List (Held Interface)) (i : ℕ) (x : Held Interface) → slice_get hs i ≡ Some x → x.before < b → count_before x.before hs < count_before b hs
count_less b [] i x at low = cc
count_less b (h ∷ hs) zero x at low =
    let same : h ≡ x = cc in
    let mine : nat_lt h.before x.before ≡ false = ap (λ (y : Held Interface). nat_lt y.before x.before) same ∙ lt_false x.before x.before (omega arith) in
    let theirs : nat_lt h.before b ≡ true = ap (λ (y : Held Interface). nat_lt y.before b) same ∙ lt_true x.before b low in
    let more = count_more x.before b (omega arith) hs in
    rw (mine, theirs) (omega arith)
count_less b (h ∷ hs) (suc i) x at low = split (nat_lt h.before x.before) refl (nat_lt h.before b) refl (count_less b hs i x at low) where
  split : (s : Bool) → nat_lt h.before x.before ≡ s → (t : Bool) → nat_lt h.before b ≡ t → count_before x.before hs < count_before b hs → cond s (suc (count_before x.before hs)) (count_before x.before hs) < cond t (suc (count_before b hs)) (count_before b hs)
  split true e true f r = omega arith
  split true e false f r = let first = true_lt h.before x.before e in let also : h.before < b = omega arith in let t = lt_true h.before b also in cc
  split false e true f r = omega arith
  split false e false f r = r

count_within : (b : ℕ) (hs : List (Held Interface)) → count_before b hs ≤ length hs
count_within b [] = omega arith
count_within b (h ∷ hs) = split (nat_lt h.before b) (count_within b hs) where
  split : (s : Bool) → count_before b hs ≤ length hs → cond s (suc (count_before b hs)) (count_before b hs) ≤ suc (length hs)
  split true r = omega arith
  split false r = omega arith

count_some : (hs : List (Held Interface)) (i : ℕ) (x : Held Interface) → slice_get hs i ≡ Some x → count_before x.before hs < length hs
count_some [] i x at = cc
count_some (h ∷ hs) zero x at =
    let same : h ≡ x = cc in
    let mine : nat_lt h.before x.before ≡ false = ap (λ (y : Held Interface). nat_lt y.before x.before) same ∙ lt_false x.before x.before (omega arith) in
    let within = count_within x.before hs in
    rw mine (omega arith)
count_some (h ∷ hs) (suc i) x at = split (nat_lt h.before x.before) (count_some hs i x at) where
  split : (s : Bool) → count_before x.before hs < length hs → cond s (suc (count_before x.before hs)) (count_before x.before hs) < suc (length hs)
  split true r = omega arith
  split false r = omega arith

or_true : (b : Bool) → (b || true) ≡ true
or_true true = refl
or_true false = refl

-- a list of instances has all that is in it
abbrev IsOwn : Name × ItemKind → Type 0
IsOwn u = same_instance u.1 u.1 ≡ true

all_own : (n : ℕ) (us : List (Name × ItemKind)) → AllByRecursion IsOwn us → (s : List Entry) → HasAll (s ++ map (by_node n) us) (map (by_node n) us)
all_own n [] h s = tt
all_own n (u ∷ us) h s =
    let e = by_node n u in
    let itself : asks_again e e ≡ true = ap (λ b. b && same_instance u.1 u.1) (same_name-refl u.0) ∙ h.0 in
    let there : has (s ++ e ∷ map (by_node n) us) e ≡ true = has_joined s (e ∷ map (by_node n) us) e ∙ ap (λ b. has s e || (b || has (map (by_node n) us) e)) itself ∙ or_true (has s e) in
    (there, subst (λ t. HasAll t (map (by_node n) us)) (append_assoc s (e ∷ []) (map (by_node n) us)) (all_own n us h.1 (s ++ e ∷ [])))

-- ---- what holds of all
all_in : {A : Type 0} (P : A → Type 0) (xs : List A) → AllByRecursion P xs → (x : A) → Contains xs x → P x
all_in P [] h x w = absurd (in_none x w)
all_in P (y ∷ xs) h x w = elim (in_parts y x xs w) [ inl e ↦ subst P (sym e) h.0 | inr r ↦ all_in P xs h.1 x r ]

all_from : {A : Type 0} (P : A → Type 0) (xs : List A) → ((x : A) → Contains xs x → P x) → AllByRecursion P xs
all_from P [] f = tt
all_from P (x ∷ xs) f = (f x (in_first x xs), all_from P xs (λ y w. f y (in_rest x y xs w)))

module _ (c : Collection) where
  abbrev each_used : ℕ → InterfaceId → List (Name × ItemKind)
  each_used k j = used_to k c j ++ under_id c j

  under_own : (i : InterfaceId) → AllByRecursion IsOwn (under_id c i)
  under_own i = split (item_at c.interfaces i.0) where
    named : (o : Option Name) → AllByRecursion IsOwn (option_case o [] (λ id. (id, kind.Instance i) ∷ []))
    named None = tt
    named (Some id) = (eq-eqb i.0 i.0 refl, tt)

    split : (o : Option Interface) → AllByRecursion IsOwn (option_case o [] (λ it. option_case it.id [] (λ id. (id, kind.Instance i) ∷ [])))
    split None = tt
    split (Some it) = named it.id

  each_own : (k : ℕ) → ((i : InterfaceId) → AllByRecursion IsOwn (used_to k c i)) → (is : List InterfaceId) → AllByRecursion IsOwn (flat_map (each_used k) is)
  each_own k ih [] = tt
  each_own k ih (j ∷ is) = all_joined IsOwn (each_used k j) (flat_map (each_used k) is) (all_joined IsOwn (used_to k c j) (under_id c j) (ih j) (under_own j)) (each_own k ih is)

  used_own : (k : ℕ) (i : InterfaceId) → AllByRecursion IsOwn (used_to k c i)
  used_own zero i = tt
  used_own (suc k) i = each_own k (used_own k) (wide_uses c i)

  -- what an interface that is used lists: what it uses, then itself
  abbrev pub step_items : InterfaceId → List (Name × ItemKind)
  step_items j = used_by c (kind.Instance j) ++ under_id c j

-- ---- lists of lists
flat_mapped : {A B D : Type 0} (f : B → List D) (g : A → B) (xs : List A) → flat_map f (map g xs) ≡ flat_map (λ x. f (g x)) xs
flat_mapped f g [] = refl
flat_mapped f g (x ∷ xs) = ap (λ l. f (g x) ++ l) (flat_mapped f g xs)

flat_through : {A B D : Type 0} (f : B → List D) (g : A → List B) (h : A → List D) (all : (x : A) → flat_map f (g x) ≡ h x) (xs : List A) → flat_map f (flat_map g xs) ≡ flat_map h xs
flat_through f g h all [] = refl
flat_through f g h all (x ∷ xs) =
    flat_joined f (g x) (flat_map g xs) ∙ ap (λ l. l ++ flat_map f (flat_map g xs)) (all x) ∙ ap (λ l. h x ++ l) (flat_through f g h all xs)

module _ (c : Collection) (wf : IsWellFormed c) where
  rank_at : (i : InterfaceId) (h : Held Interface) → slice_get c.interfaces i.0 ≡ Some h → rank c i ≡ count_before h.before c.interfaces
  rank_at i h at = ap (λ o. option_case o 0 (λ h. count_before h.before c.interfaces)) at

  pub rank_within : (i : InterfaceId) (h : Held Interface) → slice_get c.interfaces i.0 ≡ Some h → rank c i < length c.interfaces
  rank_within i h at = let e = rank_at i h at in let l = count_some c.interfaces i.0 h at in omega (arith, e, l)

  abbrev pub IsUsed : InterfaceId → InterfaceId → Type 0
  IsUsed i j = (rank c j < rank c i) × HasInterface c j

  one_below : (b : ℕ) (j : InterfaceId) → AddedBefore b (slice_get c.interfaces j.0) → (rank c j < count_before b c.interfaces) × HasInterface c j
  one_below b j h = split (slice_get c.interfaces j.0) refl h where
    split : (o : Option (Held Interface)) → slice_get c.interfaces j.0 ≡ o → AddedBefore b o → (rank c j < count_before b c.interfaces) × HasInterface c j
    split None _ wrong = absurd wrong
    split (Some x) at low = (let e = rank_at j x at in let l = count_less b c.interfaces j.0 x at low in omega (arith, e, l), slice_get_within c.interfaces j.0 x at)

  abbrev AreUsed : InterfaceId → List (Name × UsedType) → Type 0
  AreUsed i us = AllByRecursion (λ u. IsUsed i (u.1.interface)) us

  all_below : (i : InterfaceId) (b : ℕ) → rank c i ≡ count_before b c.interfaces → (us : List (Name × UsedType)) (ks : List (Name × ItemKind)) → AreBefore c b (used_types us ++ kind_types ks) → AreUsed i us
  all_below i b is [] ks h = tt
  all_below i b is (u ∷ us) ks h = let l = one_below b (u.1.interface) h.0 in ((let first = l.0 in omega (arith, is, first), l.1), all_below i b is us ks h.1)

  pub own_below : (i : InterfaceId) → AreUsed i (interface_uses c i)
  own_below i = split (slice_get c.interfaces i.0) refl where
    split : (o : Option (Held Interface)) → slice_get c.interfaces i.0 ≡ o → AreUsed i (option_case (item_of o) [] (λ it. it.uses))
    split None _ = tt
    split (Some h) at = all_below i h.before (rank_at i h at) h.item.uses h.item.exports (wf.interfaces i.0 h at).1

  lower_rank : (j i : InterfaceId) → IsBelow c j i → rank c j < rank c i
  lower_rank j i b =
      let low = rank_at j b.lower b.lower_at in
      let high = rank_at i b.higher b.higher_at in
      let less = count_less b.higher.before c.interfaces j.0 b.lower b.lower_at b.less in
      omega (arith, low, high, less)

  -- what is used widely has a lower rank, and is held
  pub wide_below : (i k : InterfaceId) → UsesWidely c i k → IsUsed i k
  wide_below i _ (by_itself _ n u there) = all_in (λ (e : Name × UsedType). IsUsed i (e.1.interface)) (interface_uses c i) (own_below i) (n, u) there
  wide_below i _ (by_instance _ j k n there further) =
      let (low, held) = wide_below j k further in
      let less = lower_rank j i (instance_below c wf i j (listed_instance (interface_exports c i) n j there)) in
      (omega (arith, low, less), held)

  used_below : (i : InterfaceId) → AllByRecursion (IsUsed i) (wide_uses c i)
  used_below i = all_from (IsUsed i) (wide_uses c i) (λ k w. wide_below i k ((wide_law c wf i k).1 w))

  pub inner_below : (i : InterfaceId) → AllByRecursion (IsUsed i) (instances_of (interface_exports c i))
  inner_below i =
      all_from (IsUsed i) (instances_of (interface_exports c i)) (λ j w. let b = instance_below c wf i j w in (lower_rank j i b, below_there c j i b))

  -- ---- depths
  flat_same : (f g : InterfaceId → List (Name × ItemKind)) (is : List InterfaceId) → AllByRecursion (λ j. f j ≡ g j) is → flat_map f is ≡ flat_map g is
  flat_same f g [] h = refl
  flat_same f g (j ∷ is) h = ap (λ xs. xs ++ flat_map f is) h.0 ∙ ap (λ xs. g j ++ xs) (flat_same f g is h.1)

  same_depth : (k l : ℕ) (i : InterfaceId) → rank c i < k → rank c i < l → used_to k c i ≡ used_to l c i
  same_depth zero l i h g = absurd (omega arith)
  same_depth (suc k) zero i h g = absurd (omega arith)
  same_depth (suc k) (suc l) i h g =
      flat_same (each_used c k) (each_used c l) (wide_uses c i)
      (all_each (IsUsed i) (λ j. each_used c k j ≡ each_used c l j) (λ j b. let low = b.0 in ap (λ xs. xs ++ under_id c j) (same_depth k l j (omega (arith, low, h)) (omega (arith, low, g)))) (wide_uses c i) (used_below i))

  unfolded_to : (n : ℕ) (i : InterfaceId) → rank c i < n → used_to n c i ≡ flat_map (each_used c n) (wide_uses c i)
  unfolded_to zero i h = absurd (omega arith)
  unfolded_to (suc m) i h =
      flat_same (each_used c m) (each_used c (suc m)) (wide_uses c i)
      (all_each (IsUsed i) (λ j. each_used c m j ≡ each_used c (suc m) j) (λ j b. let low = b.0 in ap (λ xs. xs ++ under_id c j) (same_depth m (suc m) j (omega (arith, low, h)) (omega (arith, low, h)))) (wide_uses c i) (used_below i))

  none_wide : (d : ℕ) (i : InterfaceId) → slice_get c.interfaces i.0 ≡ None → wide_uses_to d c i ≡ []
  none_wide zero i h = refl
  none_wide (suc d) i h =
      ap (λ o. used_interfaces (option_case (item_of o) [] (λ it. it.uses)) ++ flat_map (wide_uses_to d c) (instances_of (option_case (item_of o) [] (λ it. it.exports)))) h

  none_used : (n : ℕ) (i : InterfaceId) → slice_get c.interfaces i.0 ≡ None → used_to n c i ≡ []
  none_used zero i h = refl
  none_used (suc n) i h = ap (λ is. flat_map (each_used c n) is) (none_wide (size c) i h)

  -- what an interface uses widely: each interface after what it uses widely itself
  pub used_unfolded : (i : InterfaceId) → used_by c (kind.Instance i) ≡ flat_map (step_items c) (wide_uses c i)
  used_unfolded i = split (slice_get c.interfaces i.0) refl where
    split : (o : Option (Held Interface)) → slice_get c.interfaces i.0 ≡ o → used_to (length c.interfaces) c i ≡ flat_map (each_used c (length c.interfaces)) (wide_uses c i)
    split None none = none_used (length c.interfaces) i none ∙ sym (ap (λ is. flat_map (each_used c (length c.interfaces)) is) (none_wide (size c) i none))
    split (Some h) at = unfolded_to (length c.interfaces) i (rank_within i h at)

  -- the same, by its own uses and by its instances
  pub used_parts : (i : InterfaceId)
      → used_by c (kind.Instance i) ≡ flat_map (λ u. step_items c (u.1.interface)) (interface_uses c i) ++ flat_map (λ j. used_by c (kind.Instance j)) (instances_of (interface_exports c i))
  used_parts i =
      used_unfolded i
      ∙ ap (λ is. flat_map (step_items c) is) (wide_unfolds c wf i)
      ∙ flat_joined (step_items c) (used_interfaces (interface_uses c i)) (flat_map (wide_uses c) (instances_of (interface_exports c i)))
      ∙ ap (λ l. l ++ flat_map (step_items c) (flat_map (wide_uses c) (instances_of (interface_exports c i)))) (flat_mapped (step_items c) (λ (u : Name × UsedType). u.1.interface) (interface_uses c i))
      ∙ ap (λ l. flat_map (λ (u : Name × UsedType). step_items c (u.1.interface)) (interface_uses c i) ++ l)
      (flat_through (step_items c) (wide_uses c) (λ j. used_by c (kind.Instance j)) (λ j. sym (used_unfolded j)) (instances_of (interface_exports c i)))

  rank_held : (i : InterfaceId) → HasInterface c i → rank c i < length c.interfaces
  rank_held i h = split (slice_get c.interfaces i.0) refl where
    split : (o : Option (Held Interface)) → slice_get c.interfaces i.0 ≡ o → rank c i < length c.interfaces
    split None none = let e : rank c i ≡ 0 = ap (λ o. option_case o 0 (λ h. count_before h.before c.interfaces)) none in omega (arith, e, h)
    split (Some x) at = rank_within i x at

  -- ---- each stands behind what it uses
  abbrev IsSettledAt : ℕ → ℕ → InterfaceId → Type 0
  IsSettledAt n k i = (seen : List Entry) → AreSettled c seen (map (by_node n) (used_to k c i))

  under_settled : (n k : ℕ) (i : InterfaceId) → rank c i < k → HasInterface c i → (seen : List Entry) → AreSettled c (seen ++ map (by_node n) (used_to k c i)) (map (by_node n) (under_id c i))
  under_settled n k i low held seen = split (item_at c.interfaces i.0) where
    have : HasAll (seen ++ map (by_node n) (used_to k c i)) (map (by_node n) (used_by c (kind.Instance i)))
    have = subst (λ us. HasAll (seen ++ map (by_node n) (used_to k c i)) (map (by_node n) us)) (same_depth k (length c.interfaces) i low (rank_held i held)) (all_own n (used_to k c i) (used_own c k i) seen)

    named : (o : Option Name) → AreSettled c (seen ++ map (by_node n) (used_to k c i)) (map (by_node n) (option_case o [] (λ id. (id, kind.Instance i) ∷ [])))
    named None = tt
    named (Some id) = (have, tt)

    split : (o : Option Interface) → AreSettled c (seen ++ map (by_node n) (used_to k c i)) (map (by_node n) (option_case o [] (λ it. option_case it.id [] (λ id. (id, kind.Instance i) ∷ []))))
    split None = tt
    split (Some it) = named it.id

  module _ (n k : ℕ) (ih : (i : InterfaceId) → rank c i < k → IsSettledAt n k i) where
    each_settled : (is : List InterfaceId) → AllByRecursion (λ j. (rank c j < k) × HasInterface c j) is → (seen : List Entry) → AreSettled c seen (map (by_node n) (flat_map (each_used c k) is))
    each_settled [] h seen = tt
    each_settled (i ∷ is) h seen =
        let A = map (by_node n) (used_to k c i) in
        let B = map (by_node n) (under_id c i) in
        let R = map (by_node n) (flat_map (each_used c k) is) in
        let first : AreSettled c seen (A ++ B) = settled_joined c seen A B (ih i h.0.0 seen) (under_settled n k i h.0.0 h.0.1 seen) in
        let both : map (by_node n) (each_used c k i) ≡ A ++ B = map-append (by_node n) (used_to k c i) (under_id c i) in
        subst (λ es. AreSettled c seen es) (sym (map-append (by_node n) (each_used c k i) (flat_map (each_used c k) is) ∙ ap (λ es. es ++ R) both))
        (settled_joined c seen (A ++ B) R first (each_settled is h.1 (seen ++ (A ++ B))))

  settled_to : (n k : ℕ) (i : InterfaceId) → rank c i < k → IsSettledAt n k i
  settled_to n zero i h = absurd (omega arith)
  settled_to n (suc k) i h =
      each_settled n k (settled_to n k) (wide_uses c i) (all_each (IsUsed i) (λ j. (rank c j < k) × HasInterface c j) (λ j b. let low = b.0 in (omega (arith, low, h), b.1)) (wide_uses c i) (used_below i))

  pub used_settled : (n : ℕ) (i : InterfaceId) → HasInterface c i → (seen : List Entry) → AreSettled c seen (map (by_node n) (used_by c (kind.Instance i)))
  used_settled n i held = settled_to n (length c.interfaces) i (rank_held i held)

  pub used_there : (n : ℕ) (i : InterfaceId) (seen : List Entry) → HasAll (seen ++ map (by_node n) (used_by c (kind.Instance i))) (map (by_node n) (used_by c (kind.Instance i)))
  used_there n i seen = all_own n (used_to (length c.interfaces) c i) (used_own c (length c.interfaces) i) seen

  -- ---- weights
  total_same : {A : Type 0} (f g : A → ℕ) (xs : List A) → AllByRecursion (λ x. f x ≡ g x) xs → total f xs ≡ total g xs
  total_same f g [] h = refl
  total_same f g (x ∷ xs) h = rw (h.0, total_same f g xs h.1) refl

  abbrev used_weight : ℕ → Name × UsedType → ℕ
  used_weight k u = suc (suc (weight_to k c (u.1.interface)))

  abbrev inner_weight : ℕ → InterfaceId → ℕ
  inner_weight k i = total (used_weight k) (interface_uses c i) + total (weight_to k c) (instances_of (interface_exports c i))

  inner_same : (k l : ℕ) (i : InterfaceId) → ((j : InterfaceId) → IsUsed i j → weight_to k c j ≡ weight_to l c j) → inner_weight k i ≡ inner_weight l i
  inner_same k l i same =
      let own = total_same (used_weight k) (used_weight l) (interface_uses c i) (all_each (λ u. IsUsed i (u.1.interface)) (λ u. used_weight k u ≡ used_weight l u) (λ u b. ap (λ n. suc (suc n)) (same (u.1.interface) b)) (interface_uses c i) (own_below i)) in
      let inner = total_same (weight_to k c) (weight_to l c) (instances_of (interface_exports c i)) (all_each (IsUsed i) (λ j. weight_to k c j ≡ weight_to l c j) (λ j b. same j b) (instances_of (interface_exports c i)) (inner_below i)) in
      ap (λ n. n + total (weight_to k c) (instances_of (interface_exports c i))) own ∙ ap (λ n. total (used_weight l) (interface_uses c i) + n) inner

  weighs_same : (k l : ℕ) (i : InterfaceId) → rank c i < k → rank c i < l → weight_to k c i ≡ weight_to l c i
  weighs_same zero l i h g = absurd (omega arith)
  weighs_same (suc k) zero i h g = absurd (omega arith)
  weighs_same (suc k) (suc l) i h g = ap suc (inner_same k l i (λ j b. let low = b.0 in weighs_same k l j (omega (arith, low, h)) (omega (arith, low, g))))

  -- what an interface leads to weighs the same one use deeper
  pub inner_weighs : (i : InterfaceId) → inner_weight (length c.interfaces) i ≡ inner_weight (suc (length c.interfaces)) i
  inner_weighs i = inner_same (length c.interfaces) (suc (length c.interfaces)) i (λ j b. let low = rank_held j b.1 in weighs_same (length c.interfaces) (suc (length c.interfaces)) j low (omega (arith, low)))
