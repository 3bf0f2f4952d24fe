-- The canonical name of a class is the same from each name in it.
use Rattle.std.proofs.Common.{◌≡◌, ℕ, Bool, true, false, nat_lt, cond, List, [], ◌∷◌, filter, Option, Some, None, is_some, not, slice_get, get_or, arith, refl, sym, ap, ◌∙◌, subst, inl, inr, ◌⊎◌}
use Rattle.std.specs.Cmp.{IsTotalOrder}
use Rattle.std.specs.Cmp.Lexicographic.{options_total}
use Rattle.std.specs.List.{list_any}
use Rattle.std.specs.Option.{option_and_then, option_cmp}
use Rattle.std.specs.Ordering.{is_gt, on, ordering_reverse}
use Rattle.std.specs.declared.cmp.Ordering.{Ordering}
use Rattle.std.specs.declared.cmp.Ordering.TheVariants.{Less, Equal, Greater}
use Rattle.std.proofs.lemmas.Bool.{cases_Bool, or_cases, or_left, or_right, false≢true}
use Rattle.std.proofs.lemmas.Option.{get_or_from_slice_get, none-some, slice_get_within}
use Rattle.std.proofs.lemmas.Cmp.{on_total, tied_itself, upto}
use Rattle.semver.specs.Parse.{Parts}
use Rattle.wac_names.specs.Text.{before, is_empty}
use Rattle.wac_names.specs.Reading.{read_track, read_version, track_at}
use Rattle.wac_names.specs.Track.{IsVersioned, whole, major, minor, patch, series, version_cmp}
use Rattle.wac_names.proofs.TrackFacts.{version-read}
use Rattle.wac_names.proofs.VersionOrder as versions
use Rattle.wac_types_shapes.specs.primitives.Name.{Name, same_name, find_name}
use Rattle.wac_types_shapes.proofs.lemmas.shapes.Names.{same_name-true, same_name-from, same_name-refl}
use Rattle.wac_merge_classes.specs.entries.Classes.{Entry, AreClasses, by_names, canonical, class_names, imported_as, is_asked, is_greater, members, names_of_classes, newest, same_class}
use Rattle.wac_merge_classes.proofs.lemmas.entries.Lists.{any-at, none-filtered, some-at}
use Rattle.wac_merge_classes.proofs.lemmas.entries.ClassFacts.{class-parts, class-refl, class-sym, class-trans}

-- ---- the order of names by their versions

by_version : Name → Name → Ordering
by_version = on read_version (option_cmp version_cmp)

order : IsTotalOrder by_version
unfolding by_version
order = on_total read_version (options_total versions.laws.total)

greater : (o : Ordering) → is_greater o ≡ is_gt o
greater Less = refl
greater Equal = refl
greater Greater = refl

newer-is : (a b : Name) → by_names.is_newer a b ≡ is_gt (by_version a b)
unfolding by_version
newer-is a b = greater (by_version a b)

newer-trans : (a b c : Name) → by_names.is_newer a b ≡ false → by_names.is_newer b c ≡ false → by_names.is_newer a c ≡ false
newer-trans a b c h g = newer-is a c ∙ upto order a b c (sym (newer-is a b) ∙ h) (sym (newer-is b c) ∙ g)

newer-itself : (a : Name) → by_names.is_newer a a ≡ false
newer-itself a = newer-is a a ∙ ap is_gt (tied_itself order a)

reversed : (o r : Ordering) → o ≡ ordering_reverse r → is_gt o ≡ true → is_gt r ≡ false
reversed o Less e t = refl
reversed o Equal e t = refl
reversed o Greater e t = absurd (false≢true (sym (ap is_gt e) ∙ t))

newer-back : (a b : Name) → by_names.is_newer a b ≡ true → by_names.is_newer b a ≡ false
newer-back a b t = newer-is b a ∙ reversed (by_version a b) (by_version b a) (order.antisymm a b) (sym (newer-is a b) ∙ t)

-- versions of which neither is greater are the same
neither : (o r : Ordering) → o ≡ ordering_reverse r → is_gt o ≡ false → is_gt r ≡ false → o ≡ Equal
neither o Less e f g = absurd (false≢true (sym f ∙ ap is_gt e))
neither o Equal e f g = e
neither o Greater e f g = absurd (false≢true (sym g))

tied : (x y : Option Parts) → option_cmp version_cmp x y ≡ Equal → x ≡ y
tied None None e = refl
tied None (Some q) e = cc
tied (Some p) None e = cc
tied (Some p) (Some q) e = ap Some (versions.laws.tie p q e)

one-version : (a b : Name) → by_names.is_newer a b ≡ false → by_names.is_newer b a ≡ false → read_version a ≡ read_version b
unfolding by_version
one-version a b f g = tied (read_version a) (read_version b) (neither (by_version a b) (by_version b a) (order.antisymm a b) (sym (newer-is a b) ∙ f) (sym (newer-is b a) ∙ g))

-- ---- one track and one version are one name

series-name : (a b : Name) (p : Parts) → series a p ≡ series b p → a ≡ b
unfolding series
series-name a b p e = first (nat_lt 0 p.0) (nat_lt 0 p.1) e
  where
    first : (x y : Bool) → cond x (major a p.0) (cond y (minor a p.1) (patch a p.2)) ≡ cond x (major b p.0) (cond y (minor b p.1) (patch b p.2)) → a ≡ b
    first true y h = cc
    first false true h = cc
    first false false h = cc

one-name : (a b : Name) (o : Option Parts) → read_version a ≡ o → read_version b ≡ o → track_at a (before 64 a) o ≡ track_at b (before 64 b) o → a ≡ b
one-name a b None h g e = cc
one-name a b (Some p) h g e = by (is_empty p.3) e
  where
    by : (x : Bool) → cond x (series (before 64 a) p) (whole a) ≡ cond x (series (before 64 b) p) (whole b) → a ≡ b
    by true t =
        let name = series-name (before 64 a) (before 64 b) p t in
        versions.laws.same a b (before 64 a) p (version-read a p h) (subst (λ (n : Name). IsVersioned b n p) (sym name) (version-read b p g))
    by false t = cc

track-name : (a b : Name) → read_track a ≡ read_track b → read_version a ≡ read_version b → a ≡ b
unfolding read_track
track-name a b t v = one-name a b (read_version b) v refl (ap (track_at a (before 64 a)) (sym v) ∙ t)

-- ---- the newest of names

newest-start : (n : Name) (es : List Entry) → by_names.is_newer n (newest by_names n es) ≡ false
newest-start n [] = newer-itself n
newest-start n (e ∷ es) = elim (cases_Bool (by_names.is_newer e.name n)) [
  | inl t ↦ subst (λ (b : Bool). by_names.is_newer n (newest by_names (cond b e.name n) es) ≡ false) (sym t) (newer-trans n e.name (newest by_names e.name es) (newer-back e.name n t) (newest-start e.name es))
  | inr f ↦ subst (λ (b : Bool). by_names.is_newer n (newest by_names (cond b e.name n) es) ≡ false) (sym f) (newest-start n es)
]

-- none that was seen is newer
pub newest-each : (n : Name) (es : List Entry) (x : Name) → is_asked es x ≡ true → by_names.is_newer x (newest by_names n es) ≡ false
newest-each n [] x a = absurd (false≢true a)
newest-each n (e ∷ es) x a = elim (or_cases (same_name e.name x) (is_asked es x) a) [
  | inl s ↦ subst (λ (y : Name). by_names.is_newer y (newest by_names n (e ∷ es)) ≡ false) (same_name-true e.name x s) (elim (cases_Bool (by_names.is_newer e.name n)) [
    | inl t ↦ subst (λ (b : Bool). by_names.is_newer e.name (newest by_names (cond b e.name n) es) ≡ false) (sym t) (newest-start e.name es)
    | inr f ↦ subst (λ (b : Bool). by_names.is_newer e.name (newest by_names (cond b e.name n) es) ≡ false) (sym f) (newer-trans e.name n (newest by_names n es) f (newest-start n es))
  ])
  | inr r ↦ newest-each (cond (by_names.is_newer e.name n) e.name n) es x r
]

-- the newest is one of those that were seen, or the first
newest-among : (n : Name) (es : List Entry) → (newest by_names n es ≡ n) ⊎ (is_asked es (newest by_names n es) ≡ true)
newest-among n [] = inl refl
newest-among n (e ∷ es) = elim (newest-among (cond (by_names.is_newer e.name n) e.name n) es) [
  | inl s ↦ elim (cases_Bool (by_names.is_newer e.name n)) [
    | inl t ↦ inr (or_left (same_name e.name (newest by_names n (e ∷ es))) _ (same_name-from e.name (newest by_names n (e ∷ es)) (sym (s ∙ ap (λ b. cond b e.name n) t))))
    | inr f ↦ inl (s ∙ ap (λ b. cond b e.name n) f)
  ]
  | inr r ↦ inr (or_right (same_name e.name (newest by_names n (e ∷ es))) _ r)
]

module _ (all : List Entry) where
  alike : (a b n : Name) → same_class by_names all a b ≡ true → same_class by_names all a n ≡ same_class by_names all b n
  alike a b n t = elim (cases_Bool (same_class by_names all b n)) [
    | inl y ↦ class-trans by_names all a b n t y ∙ sym y
    | inr f ↦ elim (cases_Bool (same_class by_names all a n)) [
      | inl x ↦ absurd (false≢true (sym f ∙ class-trans by_names all b a n (class-sym by_names all a b t) x))
      | inr g ↦ g ∙ sym f
    ]
  ]

  -- the members of one class, from two of its names
  pub members-alike : (a b : Name) (es : List Entry) → same_class by_names all a b ≡ true → filter (λ e. same_class by_names all a e.name) es ≡ filter (λ e. same_class by_names all b e.name) es
  members-alike a b [] t = refl
  members-alike a b (e ∷ es) t = λ i. cond (alike a b e.name t i) (e ∷ members-alike a b es t i) (members-alike a b es t i)

  -- a name of the class is among its members
  member-in : (a b : Name) (es : List Entry) → same_class by_names all a b ≡ true → is_asked es b ≡ true → is_asked (filter (λ e. same_class by_names all a e.name) es) b ≡ true
  member-in a b [] t h = h
  member-in a b (e ∷ es) t h = elim (or_cases (same_name e.name b) (is_asked es b) h) [
    | inl s ↦
        let in_class : same_class by_names all a e.name ≡ true = subst (λ (n : Name). same_class by_names all a n ≡ true) (sym (same_name-true e.name b s)) t in
        subst (λ (x : Bool). is_asked (cond x (e ∷ filter (λ y. same_class by_names all a y.name) es) (filter (λ y. same_class by_names all a y.name) es)) b ≡ true) (sym in_class)
        (or_left (same_name e.name b) _ s)
    | inr r ↦ elim (cases_Bool (same_class by_names all a e.name)) [
      | inl x ↦ subst (λ (y : Bool). is_asked (cond y (e ∷ filter (λ z. same_class by_names all a z.name) es) (filter (λ z. same_class by_names all a z.name) es)) b ≡ true) (sym x)
          (or_right (same_name e.name b) _ (member-in a b es t r))
      | inr f ↦ subst (λ (y : Bool). is_asked (cond y (e ∷ filter (λ z. same_class by_names all a z.name) es) (filter (λ z. same_class by_names all a z.name) es)) b ≡ true) (sym f)
          (member-in a b es t r)
    ]
  ]

  -- and what is among its members is of the class
  member-of : (a b : Name) (es : List Entry) → is_asked (filter (λ e. same_class by_names all a e.name) es) b ≡ true → same_class by_names all a b ≡ true
  member-of a b [] h = absurd (false≢true h)
  member-of a b (e ∷ es) h = elim (cases_Bool (same_class by_names all a e.name)) [
    | inl x ↦ elim (or_cases (same_name e.name b) (is_asked (filter (λ z. same_class by_names all a z.name) es) b)
        (sym (ap (λ y. is_asked (cond y (e ∷ filter (λ z. same_class by_names all a z.name) es) (filter (λ z. same_class by_names all a z.name) es)) b) x) ∙ h)) [
          | inl s ↦ subst (λ (n : Name). same_class by_names all a n ≡ true) (same_name-true e.name b s) x
          | inr r ↦ member-of a b es r
        ]
    | inr f ↦ member-of a b es (sym (ap (λ y. is_asked (cond y (e ∷ filter (λ z. same_class by_names all a z.name) es) (filter (λ z. same_class by_names all a z.name) es)) b) f) ∙ h)
  ]

  -- the newest from a name of the class is among its members
  newest-in : (a b : Name) → same_class by_names all a b ≡ true → is_asked all b ≡ true → is_asked (members by_names all a) (newest by_names b (members by_names all a)) ≡ true
  newest-in a b t h = elim (newest-among b (members by_names all a)) [
    | inl s ↦ subst (λ (n : Name). is_asked (members by_names all a) n ≡ true) (sym s) (member-in a b all t h)
    | inr r ↦ r
  ]

  pub canonical-alike : (a b : Name) → same_class by_names all a b ≡ true → is_asked all a ≡ true → is_asked all b ≡ true → canonical by_names all a ≡ canonical by_names all b
  canonical-alike a b t h g =
      let ms = members by_names all a in
      let x = newest by_names a ms in
      let y = newest by_names b ms in
      let x_in = newest-in a a (class-refl by_names all a) h in
      let y_in = newest-in a b t g in
      let x_class = member-of a x all x_in in
      let y_class = member-of a y all y_in in
      let version = one-version x y (newest-each b ms x x_in) (newest-each a ms y y_in) in
      let one : same_class by_names all x y ≡ true = class-trans by_names all x a y (class-sym by_names all a x x_class) y_class in
      let same : x ≡ y = elim (class-parts by_names all x y one) [
        | inl s ↦ s
        | inr o ↦ track-name x y o.track version
      ] in
      same ∙ ap (newest by_names b) (members-alike a b all t)

-- ---- the name of an import

-- class names are names of entries
pub class_name-asked : (all es : List Entry) (m : Name) → list_any (λ n. same_name n m) (names_of_classes by_names all es) ≡ true → is_asked es m ≡ true
class_name-asked all [] m h = absurd (false≢true h)
class_name-asked all (e ∷ es) m h =
    let rest : List Name = names_of_classes by_names all es in
    elim (or_cases (same_name e.name m) _ h) [
      | inl s ↦ or_left (same_name e.name m) _ s
      | inr r ↦ elim (cases_Bool (list_any (λ n. same_name n m) rest)) [
        | inl t ↦ or_right (same_name e.name m) _ (class_name-asked all es m t)
        | inr f ↦ absurd (false≢true (sym (none-filtered (λ n. same_name n m) (λ n. not (same_class by_names all e.name n)) rest f) ∙ r))
      ]
    ]

module _ (es : List Entry) (numbers positions : List ℕ) (names : List (Name × ℕ)) (classes : AreClasses by_names es numbers positions names) where
  canonical-at : (n : Name) (k p : ℕ) (e : Entry) → find_name names n ≡ Some k → slice_get positions k ≡ Some p → e ≡ get_or es p e → e.name ≡ imported_as by_names es n
  canonical-at n k p e found at here =
      let w = classes.classed n k found in
      let g = classes.greatest k p w.0 w.1 at in
      let same : e ≡ g.0 = here ∙ get_or_from_slice_get es p g.0 e g.1 in
      let asked : is_asked es n ≡ true = (classes.found n).0 (ap is_some found) in
      let first : is_asked es w.0 ≡ true = class_name-asked es es w.0 (any-at (λ m. same_name m w.0) (class_names by_names es) k w.0 w.1 (same_name-refl w.0)) in
      ap (λ (x : Entry). x.name) same ∙ (g.2 ∙ (canonical-alike es w.0 n w.2 first asked ∙ sym (ap (λ b. cond b (canonical by_names es n) n) asked)))

  own-name : (n : Name) → find_name names n ≡ None → n ≡ imported_as by_names es n
  own-name n none = elim (cases_Bool (is_asked es n)) [
    | inl t ↦ absurd (false≢true (sym (ap is_some none) ∙ (classes.found n).1 t))
    | inr f ↦ sym (ap (λ b. cond b (canonical by_names es n) n) f)
  ]

  -- each class has a position
  positioned-at : (n : Name) (k : ℕ) → find_name names n ≡ Some k → slice_get positions k ≡ None → ⊥
  positioned-at n k found none =
      let w = classes.classed n k found in
      let within = slice_get_within (class_names by_names es) k w.0 w.1 in
      let there = some-at positions k (omega (arith, within, classes.positioned)) in
      none-some there.0 (sym none ∙ there.1)

  -- the entry at the position of a name's class has the name under which that is imported
  pub imported-there : (n : Name) (p : ℕ) (e : Entry) → option_and_then (λ k. slice_get positions k) (find_name names n) ≡ Some p → e ≡ get_or es p e → e.name ≡ imported_as by_names es n
  imported-there n p e at here = by (find_name names n) refl at
    where
      by : (o : Option ℕ) → find_name names n ≡ o → option_and_then (λ k. slice_get positions k) o ≡ Some p → e.name ≡ imported_as by_names es n
      by None found h = cc
      by (Some k) found h = canonical-at n k p e found h here

  -- a name that has no class is its own
  pub imported-other : (n : Name) → option_and_then (λ k. slice_get positions k) (find_name names n) ≡ None → n ≡ imported_as by_names es n
  imported-other n none = by (find_name names n) refl none
    where
      by : (o : Option ℕ) → find_name names n ≡ o → option_and_then (λ k. slice_get positions k) o ≡ None → n ≡ imported_as by_names es n
      by None found h = own-name n found
      by (Some k) found h = absurd (positioned-at n k found h)
