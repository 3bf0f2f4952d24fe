-- What the classes of entries bind, as far as entries and classes were seen.
use Rattle.std.proofs.Common.{◌≡◌, ℕ, zero, suc, ◌+◌, nat_eq, Bool, true, false, not, cond, ◌||◌, ◌==◌, List, [], ◌∷◌, ◌++◌, filter, length, take, slice_get, Option, Some, None, is_some, refl, sym, ap, ◌∙◌, subst, inl, inr, arith, zero-add}
use Rattle.std.proofs.Math.ListN.{set}
use Rattle.std.specs.Map.{lookup}
use Rattle.std.specs.Option.{option_map}
use Rattle.std.proofs.lemmas.Bool.{cases_Bool, eqb-true, eq-eqb}
use Rattle.std.proofs.lemmas.List.{append-nil}
use Rattle.std.proofs.lemmas.List.Elements.{filter-append}
use Rattle.std.proofs.lemmas.Option.{slice_get_within}
use Rattle.wac_names.specs.Reading.{read_track}
use Rattle.wac_names.specs.Track.{HasTrack}
use Rattle.wac_names.specs.Views.{track_view}
use Rattle.wac_names.specs.contracts.tracks.TrackPartialEq as equal
use Rattle.wac_names.specs.declared.tracks.Track.{Track}
use Rattle.wac_names.proofs.SameTrack.{same-track}
use Rattle.wac_names.proofs.TrackFacts.{had-track}
use Rattle.wac_types_shapes.specs.primitives.Name.{Name, option_case, first_some}
use Rattle.wac_types_shapes.specs.primitives.Tree.{imported, Place, named, Leaf}
use Rattle.wac_types_collection.specs.collection.Collection.{Collection, item_at}
use Rattle.wac_types_collection.specs.collection.Bound.{own_name}
use Rattle.wac_types_shapes.specs.declared.shapes.component.Interface.{Interface}
use Rattle.wac_types_shapes.specs.declared.shapes.component.InterfaceId.{InterfaceId}
use Rattle.wac_types_shapes.specs.declared.shapes.component.ResourceId.{ResourceId}
use Rattle.wac_types_shapes.specs.declared.shapes.component.ItemKind.TheVariants as kind
use Rattle.wac_types_shapes.proofs.lemmas.shapes.Names.{take_at}
use Rattle.wac_merge_classes.specs.entries.Binding.{kind_binds, first_binds, class_binds, binding_from}
use Rattle.wac_merge_classes.specs.entries.Bindings.{AreBindings, ClassBindings, HaveBound, HaveTracks, first_from, first_in, member_leaves, numbered, path_in}
use Rattle.wac_merge_classes.specs.entries.Classes.{Entry, AreClasses, by_names, canonical, class_names, newest, same_class, same_track}
use Rattle.wac_merge_classes.specs.private.entries.Numbering.{IsNumbered, members_in}
use Rattle.wac_merge_classes.specs.entries.Places.{Adds, find_resource, leaf_at, only, own_at}
use Rattle.wac_merge_classes.proofs.lemmas.entries.ClassFacts.{class-parts, class-refl, class-sym, class-trans, one-position, same_track-from, same_track-true}
use Rattle.wac_merge_classes.proofs.lemmas.entries.Lists.{push-cases, set-cases, some-at}
use Rattle.wac_merge_classes.proofs.lemmas.entries.Places.{adds-same, adds-then, first-none}

some-same : {A : Type 0} (x y : A) → Some x ≡ Some y → x ≡ y
some-same x y e = cc

-- ---- tracks of classes

-- the newest of names in a class is in the class
pub newest-class : (es : List Entry) (m n : Name) (xs : List Entry) → same_class by_names es m n ≡ true
    → same_class by_names es m (newest by_names n (filter (λ e. same_class by_names es m e.name) xs)) ≡ true
newest-class es m n [] t = t
newest-class es m n (e ∷ xs) t = elim (cases_Bool (same_class by_names es m e.name)) [
  | inl h ↦ subst (λ b. same_class by_names es m (newest by_names n (cond b (e ∷ filter (λ x. same_class by_names es m x.name) xs) (filter (λ x. same_class by_names es m x.name) xs))) ≡ true) (sym h)
      (newest-class es m (cond (by_names.is_newer e.name n) e.name n) xs (either (by_names.is_newer e.name n) h))
  | inr h ↦ subst (λ b. same_class by_names es m (newest by_names n (cond b (e ∷ filter (λ x. same_class by_names es m x.name) xs) (filter (λ x. same_class by_names es m x.name) xs))) ≡ true) (sym h)
      (newest-class es m n xs t)
]
  where
    either : (b : Bool) → same_class by_names es m e.name ≡ true → same_class by_names es m (cond b e.name n) ≡ true
    either true h = h
    either false h = t

canonical-track : (es : List Entry) (n : Name) → read_track (canonical by_names es n) ≡ read_track n
canonical-track es n = elim (class-parts by_names es n (canonical by_names es n) (newest-class es n n es (class-refl by_names es n))) [
  | inl same ↦ ap read_track (sym same)
  | inr o ↦ sym o.track
]

-- the position of the entry with the canonical name of a class
pub record IsPosition (es : List Entry) (k p : ℕ) : Type 0 where
  pub name : Name
  pub at : slice_get (class_names by_names es) k ≡ Some name
  pub entry : Entry
  pub there : slice_get es p ≡ Some entry
  pub track : read_track entry.name ≡ read_track name

pub position-at : (es : List Entry) (numbers positions : List ℕ) (names : List (Name × ℕ)) → AreClasses by_names es numbers positions names → (k p : ℕ) → slice_get positions k ≡ Some p → IsPosition es k p
position-at es numbers positions names a k p at =
    let within = slice_get_within positions k p at in
    let n = some-at (class_names by_names es) k (omega (arith, within, a.positioned)) in
    let g = a.greatest k p n.0 n.1 at in
    record { name = n.0; at = n.1; entry = g.0; there = g.1; track = ap read_track g.2 ∙ canonical-track es n.0 }

pub tracks-push : (es : List Entry) (tracks : List Track) (k p : ℕ) (e : Entry) (t : Track) → length tracks ≡ k → HaveTracks es tracks → IsPosition es k p → slice_get es p ≡ Some e
    → HasTrack e.name (track_view t) → HaveTracks es (tracks ++ t ∷ [])
tracks-push es tracks k p e t count old w at has j n u nat u_at = elim (push-cases tracks t j u u_at) [
  | inl x ↦ old j n u nat x
  | inr x ↦
      let entry : w.entry ≡ e = some-same w.entry e (sym w.there ∙ at) in
      let name : w.name ≡ n = some-same w.name n (sym w.at ∙ (ap (slice_get (class_names by_names es)) (sym (x.0 ∙ count)) ∙ nat)) in
      ap track_view x.1 ∙ had-track e.name (track_view t) has ∙ ap (λ (y : Entry). read_track y.name) (sym entry) ∙ w.track ∙ ap read_track name
]

-- ---- what one member binds

turned : (r b : Bool) → r ≡ not b → b ≡ not r
turned r true e = ap not (sym e)
turned r false e = ap not (sym e)

same_bool : (b d : Bool) → (b ≡ true → d ≡ true) → (d ≡ true → b ≡ true) → b ≡ d
same_bool true d f g = sym (f refl)
same_bool false true f g = g refl
same_bool false false f g = refl

-- the test whether a name is on a track
pub track-test : (a b : Track) (id class : Name) (r : Bool) → HasTrack id (track_view a) → track_view b ≡ read_track class → r ≡ not ((equal.TheImpl.eq-value).it a b)
    → same_track (read_track id) (read_track class) ≡ not r
track-test a b id class r has on is =
    same_bool (same_track (read_track id) (read_track class)) ((equal.TheImpl.eq-value).it a b)
    (λ t. (same-track a b).1 (had-track id (track_view a) has ∙ same_track-true (read_track id) (read_track class) t ∙ sym on))
    (λ t. same_track-from (read_track id) (read_track class) (sym (had-track id (track_view a) has) ∙ (same-track a b).0 t ∙ on))
    ∙ turned r ((equal.TheImpl.eq-value).it a b) is

-- an instance of an interface with an id
module _ (c : Collection) (class : Name) (i : InterfaceId) (it : Interface) (id : Name) (at : item_at c.interfaces i.0 ≡ Some it) (has : it.id ≡ Some id) where
  instance-leaves : (r : ResourceId) → member_leaves c class (kind.Instance i) r ≡ cond (same_track (read_track id) (read_track class)) (own_at c it.uses imported None it.exports r) None
  instance-leaves r =
      ap (λ (x : Option Interface). option_map (leaf_at imported) (option_case x None (λ y. option_case y.id None (λ n. on n y)))) at
      ∙ ap (λ (x : Option Name). option_map (leaf_at imported) (option_case x None (λ n. on n it))) has
      ∙ by (same_track (read_track id) (read_track class)) (own_name c it.uses it.exports r)
    where
      on : Name → Interface → Option (List Place)
      on n y = cond (same_track (read_track n) (read_track class)) (option_case (own_name c y.uses y.exports r) None (λ q. Some (named q ∷ []))) None

      by : (b : Bool) (q : Option Name) → option_map (leaf_at imported) (cond b (option_case q None (λ n. Some (named n ∷ []))) None) ≡ cond b (option_case q None (λ n. Some (leaf_at imported (named n ∷ [])))) None
      by true None = refl
      by true (Some n) = refl
      by false q = refl

  pub on-track : same_track (read_track id) (read_track class) ≡ true → (r : ResourceId) → own_at c it.uses imported None it.exports r ≡ member_leaves c class (kind.Instance i) r
  on-track t r = sym (instance-leaves r ∙ ap (λ b. cond b (own_at c it.uses imported None it.exports r) None) t)

  pub off-track : same_track (read_track id) (read_track class) ≡ false → (r : ResourceId) → member_leaves c class (kind.Instance i) r ≡ None
  off-track f r = instance-leaves r ∙ ap (λ b. cond b (own_at c it.uses imported None it.exports r) None) f

-- ---- one more member

binds-append : (c : Collection) (class : Name) (xs : List Entry) (e : Entry) (r : ResourceId)
    → option_map (leaf_at imported) (first_binds by_names c class (xs ++ e ∷ []) r) ≡ first_some (option_map (leaf_at imported) (first_binds by_names c class xs r)) (member_leaves c class e.kind r)
binds-append c class [] e r = ap (option_map (leaf_at imported)) (first-none (kind_binds by_names c class e.kind r))
binds-append c class (x ∷ xs) e r = by (kind_binds by_names c class x.kind r) (binds-append c class xs e r) where
  by : (o : Option (List Place))
      → option_map (leaf_at imported) (first_binds by_names c class (xs ++ e ∷ []) r) ≡ first_some (option_map (leaf_at imported) (first_binds by_names c class xs r)) (member_leaves c class e.kind r)
      → option_map (leaf_at imported) (first_some o (first_binds by_names c class (xs ++ e ∷ []) r))
      ≡ first_some (option_map (leaf_at imported) (first_some o (first_binds by_names c class xs r))) (member_leaves c class e.kind r)
  by None h = h
  by (Some p) h = refl

module _ (es : List Entry) where
  pub members-more : (i : ℕ) (e : Entry) (n : Name) → slice_get es i ≡ Some e → members_in es (take (suc i) es) n ≡ members_in es (take i es) n ++ cond (same_class by_names es n e.name) (e ∷ []) []
  members-more i e n at = ap (λ l. members_in es l n) (take_at es i e at) ∙ filter-append (λ x. same_class by_names es n x.name) (take i es) (e ∷ [])

  -- the entry at i of the class with the number k, which has one more
  pub bound-more : (c : Collection) (i k : ℕ) (e : Entry) (t : Track) (tracks : List Track) (classes : List (List (ResourceId × Leaf))) (m new : List (ResourceId × Leaf))
      → slice_get es i ≡ Some e → IsNumbered es (class_names by_names es) e.name k → HaveTracks es tracks → slice_get tracks k ≡ Some t → slice_get classes k ≡ Some m
      → ((class : Name) → track_view t ≡ read_track class → Adds m (member_leaves c class e.kind) new)
      → HaveBound c es (take i es) classes → HaveBound c es (take (suc i) es) (set classes k new)
  bound-more c i k e t tracks classes m new at w have tat mat adds old l n q r nat qat = elim (set-cases classes k new l q qat) [
    | inl x ↦
        let here : slice_get (class_names by_names es) k ≡ Some n = ap (slice_get (class_names by_names es)) (sym x.0) ∙ nat in
        let name : w.0 ≡ n = some-same w.0 n (sym w.1 ∙ here) in
        let inside : same_class by_names es n e.name ≡ true = subst (λ (y : Name). same_class by_names es y e.name ≡ true) name w.2 in
        ap (λ y. find_resource y r) x.1 ∙ adds n (have k n t here tat) r ∙ ap (λ o. first_some o (member_leaves c n e.kind r)) (old k n m r here mat)
        ∙ sym (ap (λ y. option_map (leaf_at imported) (first_binds by_names c n y r)) (members-more i e n at ∙ ap (λ b. members_in es (take i es) n ++ cond b (e ∷ []) []) inside)
        ∙ binds-append c n (members_in es (take i es) n) e r)
    | inr x ↦ elim (cases_Bool (same_class by_names es n e.name)) [
      | inl h ↦ absurd (x.0 (one-position by_names es es l k n w.0 nat w.1 (class-trans by_names es n e.name w.0 h (class-sym by_names es w.0 e.name w.2))))
      | inr f ↦ old l n q r nat x.1
          ∙ sym (ap (λ y. option_map (leaf_at imported) (first_binds by_names c n y r)) (members-more i e n at ∙ ap (λ b. members_in es (take i es) n ++ cond b (e ∷ []) []) f ∙ append-nil (members_in es (take i es) n)))
    ]
  ]

-- ---- the first classes

pub find-plain : {A : Type 0} (es : List (ResourceId × A)) (r : ResourceId) → find_resource es r ≡ lookup (λ q. nat_eq r.0 q.0) es
find-plain [] r = refl
find-plain (e ∷ es) r = ap (cond (nat_eq r.0 e.0.0) (Some e.1)) (find-plain es r)

is_found : {A : Type 0} (es : List (ResourceId × A)) (q : ResourceId) (a : A) (r : ResourceId) → is_some (find_resource (es ++ (q, a) ∷ []) r) ≡ (is_some (find_resource es r) || (q.0 == r.0))
is_found [] q a r = by (r.0 == q.0) (q.0 == r.0) (flip r.0 q.0) where
  by : (b d : Bool) → b ≡ d → is_some (cond b (Some a) None) ≡ d
  by true d e = e
  by false d e = e

  flip : (x y : ℕ) → nat_eq x y ≡ nat_eq y x
  flip x y = same_bool (nat_eq x y) (nat_eq y x) (λ t. eq-eqb y x (sym (eqb-true x y t))) (λ t. eq-eqb x y (sym (eqb-true y x t)))
is_found (e ∷ es) q a r = by (nat_eq r.0 e.0.0) (is_found es q a r) where
  by : (b : Bool) → is_some (find_resource (es ++ (q, a) ∷ []) r) ≡ (is_some (find_resource es r) || (q.0 == r.0))
      → is_some (cond b (Some e.1) (find_resource (es ++ (q, a) ∷ []) r)) ≡ (is_some (cond b (Some e.1) (find_resource es r)) || (q.0 == r.0))
  by true h = refl
  by false h = h

numbered-push : (k : ℕ) (m : List (ResourceId × Leaf)) (q : ResourceId) (l : Leaf) (r : ResourceId) → first_some (numbered k m r) (only q k r) ≡ numbered k (m ++ (q, l) ∷ []) r
numbered-push k m q l r = by (is_some (find_resource m r)) (q.0 == r.0) ∙ ap (λ b. cond b (Some k) None) (sym (is_found m q l r)) where
  by : (b d : Bool) → first_some (cond b (Some k) None) (cond d (Some k) None) ≡ cond (b || d) (Some k) None
  by true d = refl
  by false d = refl

key-at : {A : Type 0} (es : List (ResourceId × A)) (i : ℕ) (q : ResourceId) → option_map (λ e. e.0) (slice_get es i) ≡ Some q → (a : A) × (slice_get es i ≡ Some (q, a))
key-at [] i q e = cc e
key-at (x ∷ es) zero q e = (x.1, ap (λ (y : ResourceId). Some (y, x.1)) (some-same x.0 q e))
key-at (x ∷ es) (suc i) q e = key-at es i q e

-- one more resource of a class
pub numbers-more : (k : ℕ) (m : List (ResourceId × Leaf)) (i : ℕ) (q : ResourceId) (start old new : List (ResourceId × ℕ)) → option_map (λ e. e.0) (slice_get m i) ≡ Some q
    → Adds start (numbered k (take i m)) old → Adds old (only q k) new → Adds start (numbered k (take (suc i) m)) new
numbers-more k m i q start old new at x y =
    let w = key-at m i q at in
    adds-same start new (λ r. first_some (numbered k (take i m) r) (only q k r)) (numbered k (take (suc i) m))
    (λ r. numbered-push k (take i m) q w.0 r ∙ ap (λ l. numbered k l r) (sym (take_at m i (q, w.0) w.1)))
    (adds-then start old new (numbered k (take i m)) (only q k) x y)

-- one more class
pub first-push : (k : ℕ) (ms : List (List (ResourceId × Leaf))) (m : List (ResourceId × Leaf)) (r : ResourceId) → first_from k (ms ++ m ∷ []) r ≡ first_some (first_from k ms r) (numbered (k + length ms) m r)
first-push k [] m r = ap (λ j. numbered j m r) (omega arith)
first-push k (x ∷ ms) m r = by (first-push (suc k) ms m r ∙ ap (λ j. first_some (first_from (suc k) ms r) (numbered j m r)) (omega arith)) (is_some (find_resource x r)) where
  by : first_from (suc k) (ms ++ m ∷ []) r ≡ first_some (first_from (suc k) ms r) (numbered (k + suc (length ms)) m r)
      → (b : Bool) → cond b (Some k) (first_from (suc k) (ms ++ m ∷ []) r) ≡ first_some (cond b (Some k) (first_from (suc k) ms r)) (numbered (k + suc (length ms)) m r)
  by next true = refl
  by next false = next

-- ---- in the end

path-leaf : (o : Option (List Place)) → option_map (λ l. l.path) (option_map (leaf_at imported) o) ≡ o
path-leaf None = refl
path-leaf (Some p) = refl

module _ (c : Collection) (es : List Entry) (r : ResourceId) where
  -- the first of these that has the resource, with its path
  first_with : ℕ → List (List (ResourceId × Leaf)) → Option (ℕ × List Place)
  first_with k [] = None
  first_with k (m ∷ ms) = option_case (find_resource m r) (first_with (suc k) ms) (λ l. Some (k, l.path))

  paths_at : List (List (ResourceId × Leaf)) → ℕ → Option (List Place)
  paths_at ms j = option_case (slice_get ms j) None (λ m. option_map (λ l. l.path) (find_resource m r))

  binding-with : (k : ℕ) (ns : List Name) (ms : List (List (ResourceId × Leaf))) → length ms ≡ length ns
      → ((j : ℕ) (n : Name) (m : List (ResourceId × Leaf)) → slice_get ns j ≡ Some n → slice_get ms j ≡ Some m → option_map (λ l. l.path) (find_resource m r) ≡ class_binds by_names c es n r)
      → first_with k ms ≡ binding_from by_names c es k ns r
  unfolding first_with
  binding-with k [] [] count same = refl
  binding-with k [] (m ∷ ms) count same = absurd (omega (arith, count))
  binding-with k (n ∷ ns) [] count same = absurd (omega (arith, count))
  binding-with k (n ∷ ns) (m ∷ ms) count same =
      by (find_resource m r) (binding-with (suc k) ns ms (omega (arith, count)) (λ j. same (suc j)))
      ∙ ap (λ o. option_case o (binding_from by_names c es (suc k) ns r) (λ path. Some (k, path))) (same 0 n m refl refl)
    where
      by : (o : Option Leaf) → first_with (suc k) ms ≡ binding_from by_names c es (suc k) ns r
          → option_case o (first_with (suc k) ms) (λ l. Some (k, l.path)) ≡ option_case (option_map (λ l. l.path) o) (binding_from by_names c es (suc k) ns r) (λ path. Some (k, path))
      by None h = h
      by (Some l) h = refl

  with-number : (k : ℕ) (ms : List (List (ResourceId × Leaf))) (at : ℕ → Option (List Place)) → ((j : ℕ) → at (k + j) ≡ paths_at ms j)
      → option_case (first_from k ms r) None (λ j. option_case (at j) None (λ path. Some (j, path))) ≡ first_with k ms
  unfolding first_with paths_at
  with-number k [] at same = refl
  with-number k (m ∷ ms) at same =
      by (with-number (suc k) ms at (λ j. ap at (omega arith) ∙ same (suc j))) (ap at (omega arith) ∙ same 0) (find_resource m r) refl
    where
      by : option_case (first_from (suc k) ms r) None (λ j. option_case (at j) None (λ path. Some (j, path))) ≡ first_with (suc k) ms
          → at k ≡ option_map (λ l. l.path) (find_resource m r) → (o : Option Leaf) → find_resource m r ≡ o
          → option_case (cond (is_some o) (Some k) (first_from (suc k) ms r)) None (λ j. option_case (at j) None (λ path. Some (j, path)))
          ≡ option_case o (first_with (suc k) ms) (λ l. Some (k, l.path))
      by rest here None e = rest
      by rest here (Some l) e = ap (λ x. option_case x None (λ path. Some (k, path))) (here ∙ ap (option_map (λ l. l.path)) e)

module _ (c : Collection) (es : List Entry) (classes : List (List (ResourceId × Leaf))) (firsts : List (ResourceId × ℕ))
    (count : length classes ≡ length (class_names by_names es)) (bound : HaveBound c es es classes) (first : (r : ResourceId) → find_resource firsts r ≡ first_from 0 classes r) where
  path-is : (k : ℕ) (n : Name) (m : List (ResourceId × Leaf)) (r : ResourceId) → slice_get (class_names by_names es) k ≡ Some n → slice_get classes k ≡ Some m
      → option_map (λ l. l.path) (find_resource m r) ≡ class_binds by_names c es n r
  path-is k n m r nat mat = ap (option_map (λ l. l.path)) (bound k n m r nat mat) ∙ path-leaf (class_binds by_names c es n r)

  pub are-bindings : AreBindings c es (record { classes = classes; firsts = firsts })
  unfolding paths_at
  are-bindings = record {
    paths = λ k n r nat.
        let w = some-at classes k (let h = slice_get_within (class_names by_names es) k n nat in omega (arith, h, count)) in
        ap (λ x. option_case x None (λ m. option_map (λ l. l.path) (find_resource m r))) w.1 ∙ path-is k n w.0 r nat w.1;
    firsts = λ r.
        ap (λ x. option_case x None (λ k. option_case (path_in (record { classes = classes; firsts = firsts }) k r) None (λ path. Some (k, path)))) (first r)
        ∙ with-number c es r 0 classes (λ k. path_in (record { classes = classes; firsts = firsts }) k r) (λ j. ap (λ i. path_in (record { classes = classes; firsts = firsts }) i r) (omega arith))
        ∙ binding-with c es r 0 (class_names by_names es) classes count (λ j n m nat mat. path-is j n m r nat mat);
  }

-- ---- what a call answers

pub plain-put : {A : Type 0} (old new : List (ResourceId × A)) (q : ResourceId) (a : A)
    → ((r : ResourceId) → lookup (λ p. nat_eq r.0 p.0) new ≡ cond (nat_eq q.0 r.0) (Some a) (lookup (λ p. nat_eq r.0 p.0) old))
    → (r : ResourceId) → find_resource new r ≡ cond (nat_eq q.0 r.0) (Some a) (find_resource old r)
plain-put old new q a put r = find-plain new r ∙ put r ∙ ap (cond (nat_eq q.0 r.0) (Some a)) (sym (find-plain old r))

pub first-more : (classes : List (List (ResourceId × Leaf))) (k : ℕ) (m : List (ResourceId × Leaf)) (r : ResourceId) → slice_get classes k ≡ Some m
    → first_from 0 (take (suc k) classes) r ≡ first_some (first_from 0 (take k classes) r) (numbered k m r)
first-more classes k m r at =
    ap (λ l. first_from 0 l r) (take_at classes k m at) ∙ first-push 0 (take k classes) m r
    ∙ ap (λ j. first_some (first_from 0 (take k classes) r) (numbered j m r)) (zero-add (length (take k classes)) ∙ taken classes k m at)
  where
    taken : {A : Type 0} (xs : List A) (k : ℕ) (x : A) → slice_get xs k ≡ Some x → length (take k xs) ≡ k
    taken [] k x e = cc e
    taken (y ∷ xs) zero x e = refl
    taken (y ∷ xs) (suc k) x e = ap suc (taken xs k x e)

module _ (b : ClassBindings) (r : ResourceId) where
  pub no-first : find_resource b.firsts r ≡ None → first_in b r ≡ None
  no-first e = ap (λ o. option_case o None (λ k. option_case (path_in b k r) None (λ path. Some (k, path)))) e

  pub has-first : (k : ℕ) (o : Option (List Place)) → find_resource b.firsts r ≡ Some k → path_in b k r ≡ o → first_in b r ≡ option_case o None (λ path. Some (k, path))
  has-first k o e is =
      ap (λ x. option_case x None (λ j. option_case (path_in b j r) None (λ path. Some (j, path)))) e
      ∙ ap (λ x. option_case x None (λ path. Some (k, path))) is
