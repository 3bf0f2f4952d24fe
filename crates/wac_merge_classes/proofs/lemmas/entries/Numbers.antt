-- What each step of the numbering of classes adds.
use Rattle.std.proofs.Common.{◌≡◌, ℕ, zero, suc, ◌+◌, ◌<◌, ◌≤◌, Bool, true, false, cond, ◌&&◌, ◌||◌, List, [], ◌∷◌, ◌++◌, map, take, length, slice_get, Option, Some, None, is_some, IsSome, refl, sym, ap, ◌∙◌, subst, inl, inr, ◌⊎◌, arith, add-one}
use Rattle.std.specs.List.{list_any}
use Rattle.std.proofs.lemmas.Bool.{or_left, or_right, or_from, cases_Bool, cases_eq, false≢true}
use Rattle.std.proofs.lemmas.List.Folds.{list_any-append}
use Rattle.std.specs.Option.{MatchOption}
use Rattle.std.proofs.lemmas.List.{append-nil, map-append, length-append, length-map}
use Rattle.std.proofs.lemmas.Option.{slice_get_within}
use Rattle.wac_names.specs.Reading.{read_track}
use Rattle.wac_names.specs.Track.{Track, whole, major, minor, patch, key_text}
use Rattle.wac_names.proofs.KeyFacts as key_facts
use Rattle.wac_names.proofs.TrackFacts.{one_track-read, track-had}
use Rattle.wac_types_shapes.specs.primitives.Name.{Name, same_name, find_name}
use Rattle.wac_types_shapes.specs.shapes.Named.{named_at}
use Rattle.wac_types_shapes.proofs.lemmas.shapes.Names.{same_name-true, same_name-from, same_name-sym, take_at}
use Rattle.wac_merge_classes.specs.entries.Classes.{Entry, IsFirstNamed, by_names, is_asked, is_instance, names_instance, same_class}
use Rattle.wac_merge_classes.specs.private.entries.Numbering.{AreFound, AreInstances, AreKeyed, HasMore, IsNumbered, Places, class_key, class_names_to, key_for}
use Rattle.wac_merge_classes.proofs.lemmas.entries.Lists.{any-at, at-push, at-end, push-cases, some-at}
use Rattle.wac_merge_classes.proofs.lemmas.entries.ClassFacts.{IsOneTrack, added, has_class, class-parts, class-from, class-of_same, class-refl, class-sym, class-sym-false, names_of_classes-push}

-- ---- names among others

or-nothing : (b : Bool) → (b || false) ≡ b
or-nothing true = refl
or-nothing false = refl

some-if : {V : Type 0} (b : Bool) (v : V) (o : Option V) → is_some (cond b (Some v) o) ≡ (b || is_some o)
some-if true v o = refl
some-if false v o = refl

pub found-pushed : {V : Type 0} (es : List (Name × V)) (m : Name) (v : V) (n : Name) → is_some (find_name (es ++ (m, v) ∷ []) n) ≡ (is_some (find_name es n) || same_name n m)
found-pushed [] m v n = some-if (same_name n m) v None ∙ or-nothing (same_name n m)
found-pushed (e ∷ es) m v n =
    some-if (same_name n e.0) e.1 (find_name (es ++ (m, v) ∷ []) n) ∙ ap (λ b. same_name n e.0 || b) (found-pushed es m v n)
    ∙ by (same_name n e.0) ∙ ap (λ b. b || same_name n m) (sym (some-if (same_name n e.0) e.1 (find_name es n)))
  where
    by : (b : Bool) → (b || (is_some (find_name es n) || same_name n m)) ≡ ((b || is_some (find_name es n)) || same_name n m)
    by true = refl
    by false = refl

pub more-pushed : (es : List (Name × Unit {0})) (m : Name) → HasMore es m (es ++ (m, tt) ∷ [])
more-pushed es m n = found-pushed es m tt n

found-there : {V : Type 0} (es : List (Name × V)) (m : Name) → is_some (find_name es m) ≡ true → (n : Name) → is_some (find_name es n) ≡ (is_some (find_name es n) || same_name n m)
found-there es m t n = elim (cases_Bool (same_name n m)) [
  | inl same ↦ (ap (λ x. is_some (find_name es x)) (same_name-true n m same) ∙ t) ∙ sym (or_right (is_some (find_name es n)) (same_name n m) same)
  | inr other ↦ sym (ap (λ b. is_some (find_name es n) || b) other ∙ or-nothing (is_some (find_name es n)))
]

pub more-there : (es : List (Name × Unit {0})) (m : Name) → is_some (find_name es m) ≡ true → HasMore es m es
more-there es m t n = found-there es m t n

-- what is found among one more is found among the others, or is the last
found-cases : {V : Type 0} (es : List (Name × V)) (m : Name) (v : V) (n : Name) (w : V) → find_name (es ++ (m, v) ∷ []) n ≡ Some w → (find_name es n ≡ Some w) ⊎ ((n ≡ m) × (v ≡ w))
found-cases [] m v n w h = elim (cases_Bool (same_name n m)) [
  | inl t ↦ let some : Some v ≡ Some w = sym (ap (λ b. cond b (Some v) None) t) ∙ h in inr (same_name-true n m t, cc)
  | inr f ↦ let some : None ≡ Some w = sym (ap (λ b. cond b (Some v) None) f) ∙ h in cc
]
found-cases (e ∷ es) m v n w h = elim (cases_Bool (same_name n e.0)) [
  | inl t ↦ inl (ap (λ b. cond b (Some e.1) (find_name es n)) t ∙ (sym (ap (λ b. cond b (Some e.1) (find_name (es ++ (m, v) ∷ []) n)) t) ∙ h))
  | inr f ↦ elim (found-cases es m v n w (sym (ap (λ b. cond b (Some e.1) (find_name (es ++ (m, v) ∷ []) n)) f) ∙ h)) [
    | inl x ↦ inl (ap (λ b. cond b (Some e.1) (find_name es n)) f ∙ x)
    | inr y ↦ inr y
  ]
]

-- ---- the names of instances

-- what is asked of each element, of one more
pub any-more : {X : Type 0} (f : X → Bool) (xs : List X) (i : ℕ) (x : X) → slice_get xs i ≡ Some x → list_any f (take (i + 1) xs) ≡ (list_any f (take i xs) || f x)
any-more f xs i x at = rw (add-one, take_at xs i x at) (list_any-append f (take i xs) (x ∷ []) ∙ ap (λ b. list_any f (take i xs) || b) (or-nothing (f x)))

turned : (a b : Name) → same_name a b ≡ same_name b a
turned a b = elim (cases_Bool (same_name a b)) [
  | inl s ↦ s ∙ sym (same_name-from b a (sym (same_name-true a b s)))
  | inr f ↦ f ∙ sym (same_name-sym a b f)
]

pub instances-more : (es : List Entry) (i : ℕ) (e : Entry) (old new : List (Name × Unit {0})) → slice_get es i ≡ Some e → is_instance e.kind ≡ true
    → AreInstances (take i es) old → HasMore old e.name new → AreInstances (take (i + 1) es) new
instances-more es i e old new at t are more n =
    more n ∙ ap (λ b. b || same_name n e.name) (are n) ∙ ap (λ b. names_instance (take i es) n || b) (turned n e.name ∙ sym (by (same_name e.name n) (is_instance e.kind) t))
    ∙ sym (any-more (λ x. same_name x.name n && is_instance x.kind) es i e at)
  where
    by : (b c : Bool) → c ≡ true → (b && c) ≡ b
    by true c t = t
    by false c t = refl

pub instances-same : (es : List Entry) (i : ℕ) (e : Entry) (old : List (Name × Unit {0})) → slice_get es i ≡ Some e → is_instance e.kind ≡ false
    → AreInstances (take i es) old → AreInstances (take (i + 1) es) old
instances-same es i e old at f are n =
    are n ∙ sym (or-nothing (names_instance (take i es) n)) ∙ ap (λ b. names_instance (take i es) n || b) (sym (by (same_name e.name n) (is_instance e.kind) f))
    ∙ sym (any-more (λ x. same_name x.name n && is_instance x.kind) es i e at)
  where
    by : (b c : Bool) → c ≡ false → (b && c) ≡ false
    by true c t = t
    by false c t = refl

pub some-there : {V : Type 0} (o : Option V) → IsSome o → is_some o ≡ true
some-there None s = s
some-there (Some v) s = refl

-- ---- keys of classes

both : (b c : Bool) → (b ≡ true → c ≡ true) → (c ≡ true → b ≡ true) → b ≡ c
both true c f g = sym (f refl)
both false true f g = g refl
both false false f g = refl

head-same : (c d : ℕ) (a b : List ℕ) → c ∷ a ≡ d ∷ b → c ≡ d
head-same c d a b e = cc

tail-same : (c : ℕ) (a b : List ℕ) → c ∷ a ≡ c ∷ b → a ≡ b
tail-same c a b e = cc

-- the key of a track is not that of a name
track-name : (t : Track) (n : Name) → key_text t ≡ 45 ∷ n → ⊥
unfolding key_text
track-name (whole a) n e = let h = head-same 61 45 _ _ e in omega arith
track-name (major a i) n e = let h = head-same 49 45 _ _ e in omega arith
track-name (minor a i) n e = let h = head-same 50 45 _ _ e in omega arith
track-name (patch a i) n e = let h = head-same 51 45 _ _ e in omega arith

track-same : (a b : Name) → key_text (read_track a) ≡ key_text (read_track b) → read_track a ≡ read_track b
track-same a b e = one_track-read a b ((key_facts.keys a b (read_track a) (read_track b) (track-had a) (track-had b)).0 e)

key-parts : (x y : Bool) (a b : Name) → key_for x a ≡ key_for y b → (a ≡ b) ⊎ ((x ≡ true) × (y ≡ true) × (read_track a ≡ read_track b))
key-parts true true a b e = inr (refl, refl, track-same a b e)
key-parts true false a b e = absurd (track-name (read_track a) b e)
key-parts false true a b e = absurd (track-name (read_track b) a (sym e))
key-parts false false a b e = inl (tail-same 45 a b e)

module _ (es : List Entry) where
  -- keys are equal exactly where names are of one class
  pub key-class : (a b : Name) → same_name (class_key es a) (class_key es b) ≡ same_class by_names es a b
  key-class a b = both _ _ (λ t. there (key-parts (names_instance es a) (names_instance es b) a b (same_name-true (class_key es a) (class_key es b) t)))
      (λ t. same_name-from (class_key es a) (class_key es b) (back (class-parts by_names es a b t)))
    where
      there : (a ≡ b) ⊎ ((names_instance es a ≡ true) × (names_instance es b ≡ true) × (read_track a ≡ read_track b)) → same_class by_names es a b ≡ true
      there (inl e) = class-of_same by_names es a b e
      there (inr p) = class-from by_names es a b (record { track = p.2; first = p.0; second = p.1 })

      back : (a ≡ b) ⊎ IsOneTrack by_names es a b → class_key es a ≡ class_key es b
      back (inl e) = ap (class_key es) e
      back (inr o) = ap (λ x. key_for x a) o.first ∙ ap key_text o.track ∙ sym (ap (λ x. key_for x b) o.second)

  abbrev keys_of : List Name → List (Name × Unit {0})
  keys_of ms = map (λ n. (class_key es n, tt)) ms

  -- the class whose key is found
  record IsBehind (ms : List Name) (i : ℕ) (n : Name) (k : ℕ) : Type 0 where
    pub steps : ℕ
    pub position : k ≡ i + steps
    pub class : IsNumbered es ms n steps

  key-found : (ms : List Name) (i : ℕ) (n : Name) (p : ℕ × Unit {0}) → named_at i (class_key es n) (keys_of ms) ≡ Some p → IsBehind ms i n p.0
  key-found [] i n p h = cc
  key-found (m ∷ ms) i n p h = elim (cases_Bool (same_name (class_key es n) (class_key es m))) [
    | inl t ↦
        let some : Some (i, tt) ≡ Some p = sym (ap (λ b. cond b (Some (i, tt)) (named_at (suc i) (class_key es n) (keys_of ms))) t) ∙ h in
        let same : (i, tt) ≡ p = cc in
        record { steps = 0; position = ap (λ q. q.0) (sym same) ∙ omega arith; class = (m, refl, class-sym by_names es n m (sym (key-class n m) ∙ t)) }
    | inr f ↦
        let r = key-found ms (suc i) n p (sym (ap (λ b. cond b (Some (i, tt)) (named_at (suc i) (class_key es n) (keys_of ms))) f) ∙ h) in
        record { steps = suc r.steps; position = r.position ∙ omega arith; class = r.class }
  ]

  key-new : (ms : List Name) (i : ℕ) (n : Name) → named_at i (class_key es n) (keys_of ms) ≡ None → has_class by_names es ms n ≡ false
  key-new [] i n h = refl
  key-new (m ∷ ms) i n h = elim (cases_Bool (same_name (class_key es n) (class_key es m))) [
    | inl t ↦ let some : ◌≡◌ {A = Option (ℕ × Unit {0})} (Some (i, tt)) None = sym (ap (λ b. cond b (Some (i, tt)) (named_at (suc i) (class_key es n) (keys_of ms))) t) ∙ h in cc
    | inr f ↦
        let rest = key-new ms (suc i) n (sym (ap (λ b. cond b (Some (i, tt)) (named_at (suc i) (class_key es n) (keys_of ms))) f) ∙ h) in
        or_from (same_class by_names es m n) _ (class-sym-false by_names es n m (sym (key-class n m) ∙ f)) rest
  ]

  -- ---- one more entry

  -- the class names with those of the next entry
  names-more : (i : ℕ) (e : Entry) → slice_get es i ≡ Some e → class_names_to es (i + 1) ≡ class_names_to es i ++ added (has_class by_names es (class_names_to es i) e.name) e.name
  names-more i e at = rw (add-one, take_at es i e at) (names_of_classes-push by_names es (take i es) e)

  names-same : (i : ℕ) (e : Entry) → slice_get es i ≡ Some e → has_class by_names es (class_names_to es i) e.name ≡ true → class_names_to es (i + 1) ≡ class_names_to es i
  names-same i e at t = names-more i e at ∙ ap (λ b. class_names_to es i ++ added b e.name) t ∙ append-nil (class_names_to es i)

  names-new : (i : ℕ) (e : Entry) → slice_get es i ≡ Some e → has_class by_names es (class_names_to es i) e.name ≡ false → class_names_to es (i + 1) ≡ class_names_to es i ++ e.name ∷ []
  names-new i e at f = names-more i e at ∙ ap (λ b. class_names_to es i ++ added b e.name) f

  -- a class name stays where it is
  pub name-stays : (i k : ℕ) (e : Entry) (m : Name) → slice_get es i ≡ Some e → slice_get (class_names_to es i) k ≡ Some m → slice_get (class_names_to es (i + 1)) k ≡ Some m
  name-stays i k e m at h = elim (cases_Bool (has_class by_names es (class_names_to es i) e.name)) [
    | inl t ↦ ap (λ l. slice_get l k) (names-same i e at t) ∙ h
    | inr f ↦ ap (λ l. slice_get l k) (names-new i e at f) ∙ at-push (class_names_to es i) e.name k m h
  ]

  pub number-stays : (i k : ℕ) (e : Entry) (n : Name) → slice_get es i ≡ Some e → IsNumbered es (class_names_to es i) n k → IsNumbered es (class_names_to es (i + 1)) n k
  number-stays i k e n at w = (w.0, name-stays i k e w.0 at w.1, w.2)

  -- a name with a number has a class
  has-number : (ms : List Name) (n : Name) (k : ℕ) → IsNumbered es ms n k → has_class by_names es ms n ≡ true
  has-number ms n k w = any-at (λ m. same_class by_names es m n) ms k w.0 w.1 w.2

  has_more : (ms ns : List Name) (n : Name) → has_class by_names es ms n ≡ true → has_class by_names es (ms ++ ns) n ≡ true
  has_more ms ns n t = list_any-append (λ m. same_class by_names es m n) ms ns ∙ or_left (has_class by_names es ms n) _ t

  has_added : (ms : List Name) (n : Name) (b : Bool) → has_class by_names es ms n ≡ b → has_class by_names es (ms ++ added b n) n ≡ true
  has_added ms n true is = has_more ms [] n is
  has_added ms n false is =
      list_any-append (λ m. same_class by_names es m n) ms (n ∷ []) ∙ or_right (has_class by_names es ms n) _ (or_left (same_class by_names es n n) _ (class-refl by_names es n))

  -- the name of an entry that was seen has a class
  pub has_prior : (i j : ℕ) (x : Entry) → j < i → i ≤ length es → slice_get es j ≡ Some x → has_class by_names es (class_names_to es i) x.name ≡ true
  has_prior zero j x before within at = absurd (omega (arith, before))
  has_prior (suc i) j x before within at = rw (sym (add-one i)) (split (cases_eq j i) (λ other. has_prior i j x (omega (arith, before, other)) (omega (arith, within)) at)) where
    old : (e : Entry) → slice_get es i ≡ Some e → has_class by_names es (class_names_to es i) x.name ≡ true → has_class by_names es (class_names_to es (i + 1)) x.name ≡ true
    old e here t = ap (λ l. has_class by_names es l x.name) (names-more i e here) ∙ has_more (class_names_to es i) (added (has_class by_names es (class_names_to es i) e.name) e.name) x.name t

    split : (j ≡ i) ⊎ (j ≡ i → ⊥) → ((j ≡ i → ⊥) → has_class by_names es (class_names_to es i) x.name ≡ true) → has_class by_names es (class_names_to es (i + 1)) x.name ≡ true
    split (inl same) prior =
        let here : slice_get es i ≡ Some x = ap (slice_get es) (sym same) ∙ at in
        ap (λ l. has_class by_names es l x.name) (names-more i x here) ∙ has_added (class_names_to es i) x.name (has_class by_names es (class_names_to es i) x.name) refl
    split (inr other) prior = let w = some-at es i (omega (arith, within)) in old w.0 w.1 (prior other)

  -- so a name without a class was not seen
  not-seen : (i : ℕ) (e : Entry) → slice_get es i ≡ Some e → has_class by_names es (class_names_to es i) e.name ≡ false → IsFirstNamed es i e.name
  not-seen i e at f j x before there same =
      let within = slice_get_within es i e at in
      false≢true (sym f ∙ (ap (has_class by_names es (class_names_to es i)) (sym same) ∙ has_prior i j x before (omega (arith, within)) there))

  -- ---- keys and where classes begin

  begins-pushed : (ms : List Name) (firsts : List ℕ) (i : ℕ) (e : Entry) → slice_get es i ≡ Some e → IsFirstNamed es i e.name → length firsts ≡ length ms
      → ((k p : ℕ) (m : Name) → slice_get ms k ≡ Some m → slice_get firsts k ≡ Some p → (a : Entry) × (slice_get es p ≡ Some a) × (a.name ≡ m) × IsFirstNamed es p a.name)
      → (k p : ℕ) (m : Name) → slice_get (ms ++ e.name ∷ []) k ≡ Some m → slice_get (firsts ++ i ∷ []) k ≡ Some p → (a : Entry) × (slice_get es p ≡ Some a) × (a.name ≡ m) × IsFirstNamed es p a.name
  begins-pushed ms firsts i e at new same old k p m h g = elim (push-cases ms e.name k m h) [
    | inl x ↦ elim (push-cases firsts i k p g) [
      | inl y ↦ old k p m x y
      | inr y ↦ let w = slice_get_within ms k m x in absurd (omega (arith, w, y.0, same))
    ]
    | inr x ↦ elim (push-cases firsts i k p g) [
      | inl y ↦ let w = slice_get_within firsts k p y in absurd (omega (arith, w, x.0, same))
      | inr y ↦ (e, ap (slice_get es) y.1 ∙ at, sym x.1, subst (λ (q : ℕ). IsFirstNamed es q e.name) (sym y.1) new)
    ]
  ]

  keyed-pushed : (ms : List Name) (keys : List (Name × Unit {0})) (firsts : List ℕ) (i : ℕ) (e : Entry) → slice_get es i ≡ Some e → IsFirstNamed es i e.name → AreKeyed es ms keys firsts
      → AreKeyed es (ms ++ e.name ∷ []) (keys ++ (class_key es e.name, tt) ∷ []) (firsts ++ i ∷ [])
  keyed-pushed ms keys firsts i e at new a = record {
    keyed = ap (λ l. l ++ (class_key es e.name, tt) ∷ []) a.keyed ∙ sym (map-append (λ n. (class_key es n, tt)) ms (e.name ∷ []));
    positioned = length-append firsts (i ∷ []) ∙ ap (λ l. l + 1) a.positioned ∙ sym (length-append ms (e.name ∷ []));
    begins = begins-pushed ms firsts i e at new a.positioned a.begins;
  }

  -- the classes with one more, and the number of its entry
  pub record ArePlaced (i : ℕ) (n : Name) (keys : List (Name × Unit {0})) (firsts : List ℕ) (k : ℕ) : Type 0 where
    pub keyed : AreKeyed es (class_names_to es (i + 1)) keys firsts
    pub number : IsNumbered es (class_names_to es (i + 1)) n k

  -- an entry whose class is there
  pub placed-there : (i k : ℕ) (e : Entry) (keys : List (Name × Unit {0})) (firsts : List ℕ) → slice_get es i ≡ Some e → AreKeyed es (class_names_to es i) keys firsts
      → IsNumbered es (class_names_to es i) e.name k → ArePlaced i e.name keys firsts k
  placed-there i k e keys firsts at a w =
      let same = names-same i e at (has-number (class_names_to es i) e.name k w) in
      record { keyed = subst (λ (ms : List Name). AreKeyed es ms keys firsts) (sym same) a; number = number-stays i k e e.name at w }

  placed-new : (i : ℕ) (e : Entry) (keys : List (Name × Unit {0})) (firsts : List ℕ) → slice_get es i ≡ Some e → AreKeyed es (class_names_to es i) keys firsts
      → has_class by_names es (class_names_to es i) e.name ≡ false → ArePlaced i e.name (keys ++ (class_key es e.name, tt) ∷ []) (firsts ++ i ∷ []) (length (class_names_to es i))
  placed-new i e keys firsts at a f =
      let more = names-new i e at f in
      let ms = class_names_to es i in
      record {
        keyed = subst (λ (l : List Name). AreKeyed es l (keys ++ (class_key es e.name, tt) ∷ []) (firsts ++ i ∷ [])) (sym more) (keyed-pushed ms keys firsts i e at (not-seen i e at f) a);
        number = (e.name, ap (λ l. slice_get l (length ms)) more ∙ at-end ms e.name, class-refl by_names es e.name);
      }

  pub placed : (i k : ℕ) (e : Entry) (keys more : List (Name × Unit {0})) (firsts begun : List ℕ) → slice_get es i ≡ Some e → AreKeyed es (class_names_to es i) keys firsts
      → Places keys firsts (class_key es e.name) i more begun k → ArePlaced i e.name more begun k
  placed i k e keys more firsts begun at a = by (named_at 0 (class_key es e.name) keys) refl
    where
      is : (o : Option (ℕ × Unit {0})) → named_at 0 (class_key es e.name) keys ≡ o → named_at 0 (class_key es e.name) (map (λ n. (class_key es n, tt)) (class_names_to es i)) ≡ o
      is o h = sym (ap (named_at 0 (class_key es e.name)) a.keyed) ∙ h

      by : (o : Option (ℕ × Unit {0})) → named_at 0 (class_key es e.name) keys ≡ o
          → MatchOption o ((more ≡ keys ++ (class_key es e.name, tt) ∷ []) × (begun ≡ firsts ++ i ∷ []) × (k ≡ length keys)) (λ p. (more ≡ keys) × (begun ≡ firsts) × (k ≡ p.0))
          → ArePlaced i e.name more begun k
      by None h (x, y, z) =
          let made = placed-new i e keys firsts at a (key-new (class_names_to es i) 0 e.name (is None h)) in
          let count : k ≡ length (class_names_to es i) = z ∙ ap length a.keyed ∙ length-map (class_names_to es i) (λ n. (class_key es n, tt)) in
          rw (x, y, count) made
      by (Some p) h (x, y, z) =
          let r = key-found (class_names_to es i) 0 e.name p (is (Some p) h) in
          let count : k ≡ r.steps = z ∙ r.position ∙ omega arith in
          rw (x, y, count) (placed-there i r.steps e keys firsts at a r.class)

  -- ---- names that are found

  asked-more : (i : ℕ) (e : Entry) (n : Name) → slice_get es i ≡ Some e → is_asked (take (i + 1) es) n ≡ (is_asked (take i es) n || same_name n e.name)
  asked-more i e n at = any-more (λ x. same_name x.name n) es i e at ∙ ap (λ b. is_asked (take i es) n || b) (turned e.name n)

  -- a name that was seen before
  pub found-again : (i k : ℕ) (e : Entry) (names : List (Name × ℕ)) → slice_get es i ≡ Some e → AreFound es (class_names_to es i) (take i es) names → find_name names e.name ≡ Some k
      → AreFound es (class_names_to es (i + 1)) (take (i + 1) es) names
  found-again i k e names at a h = record {
    found = λ n. found-there names e.name (ap is_some h) n ∙ ap (λ b. b || same_name n e.name) (a.found n) ∙ sym (asked-more i e n at);
    numbered = λ n l g. number-stays i l e n at (a.numbered n l g);
  }

  -- a name that is new
  pub found-new : (i k : ℕ) (e : Entry) (names : List (Name × ℕ)) → slice_get es i ≡ Some e → AreFound es (class_names_to es i) (take i es) names → IsNumbered es (class_names_to es (i + 1)) e.name k
      → AreFound es (class_names_to es (i + 1)) (take (i + 1) es) (names ++ (e.name, k) ∷ [])
  found-new i k e names at a w = record {
    found = λ n. found-pushed names e.name k n ∙ ap (λ b. b || same_name n e.name) (a.found n) ∙ sym (asked-more i e n at);
    numbered = λ n l g. elim (found-cases names e.name k n l g) [
      | inl old ↦ number-stays i l e n at (a.numbered n l old)
      | inr new ↦ rw (new.0, ← new.1) w
    ];
  }

  -- ---- the next entry

  pub record IsMore (i : ℕ) (keys : List (Name × Unit {0})) (firsts : List ℕ) (names : List (Name × ℕ)) (k : ℕ) : Type 0 where
    pub keyed : AreKeyed es (class_names_to es (i + 1)) keys firsts
    pub found : AreFound es (class_names_to es (i + 1)) (take (i + 1) es) names
    pub number : (e : Entry) → slice_get es i ≡ Some e → IsNumbered es (class_names_to es (i + 1)) e.name k

  one-entry : (i k : ℕ) (e : Entry) → slice_get es i ≡ Some e → IsNumbered es (class_names_to es (i + 1)) e.name k → (a : Entry) → slice_get es i ≡ Some a → IsNumbered es (class_names_to es (i + 1)) a.name k
  one-entry i k e at w a here =
      let some : Some e ≡ Some a = sym at ∙ here in
      let same : e ≡ a = cc in
      subst (λ (x : Entry). IsNumbered es (class_names_to es (i + 1)) x.name k) same w

  -- its name was seen before
  pub seen-again : (i k : ℕ) (e : Entry) (keys : List (Name × Unit {0})) (firsts : List ℕ) (names : List (Name × ℕ)) → slice_get es i ≡ Some e
      → AreKeyed es (class_names_to es i) keys firsts → AreFound es (class_names_to es i) (take i es) names → find_name names e.name ≡ Some k → IsMore i keys firsts names k
  seen-again i k e keys firsts names at a b h =
      let p = placed-there i k e keys firsts at a (b.numbered e.name k h) in
      record { keyed = p.keyed; found = found-again i k e names at b h; number = one-entry i k e at p.number }

  -- its name is new
  pub seen-new : (i k : ℕ) (e : Entry) (keys more : List (Name × Unit {0})) (firsts begun : List ℕ) (names : List (Name × ℕ)) → slice_get es i ≡ Some e
      → AreKeyed es (class_names_to es i) keys firsts → AreFound es (class_names_to es i) (take i es) names → Places keys firsts (class_key es e.name) i more begun k
      → IsMore i more begun (names ++ (e.name, k) ∷ []) k
  seen-new i k e keys more firsts begun names at a b p =
      let q = placed i k e keys more firsts begun at a p in
      record { keyed = q.keyed; found = found-new i k e names at b q.number; number = one-entry i k e at q.number }
