-- Records whose places change, and the lists at both ends.
use Rattle.std.proofs.Common.{◌≡◌, ◌≢◌, ◌↔◌, ℕ, ◌<◌, List, length, Option, Some, None, IsSome, option_map, slice_get, slice_index_or, [], refl, ap, sym, ◌∙◌, subst, ◌⊎◌, inl, inr}
use Rattle.std.proofs.Math.Path.{fun_ext}
use Rattle.std.proofs.lemmas.Bool.Decides.{eqb_tells}
use Rattle.std.proofs.lemmas.Option.{slice_get_within}
use Rattle.slab.specs.Slab.{Slab, get}
use Rattle.wac_edges.specs.declared.edges.End.{End}
use Rattle.wac_edges.specs.declared.edges.End.TheVariants.{Outgoing, Incoming}
use Rattle.wac_edges.specs.declared.edges.Edge.{Edge}
use Rattle.wac_edges.specs.declared.records.Links.{Links}
use Rattle.wac_edges.specs.declared.records.Record.{Record}
use Rattle.wac_edges.specs.declared.records.Firsts.{Firsts}
use Rattle.wac_edges.specs.private.Records.{Table, Place, AreLinked, AreListed, updated, changed, begun_by, opposite, links_at, number_at, with_links, with_next, with_previous, first_of, first_at, place, places}
use Rattle.wac_edges.proofs.LinkLemmas.{updated_here, updated_there, unlinked, linked, before_all}

-- ---- what is seen of a record that changes
module _ {A B : Type 0} (f : A → B) (g : A → A) where
  pub map_changed : (h : B → B) → ((r : A) → f (g r) ≡ h (f r)) → (o : Option ℕ) (t : ℕ → Option A) (q : ℕ) → option_map f (changed g o t q) ≡ changed h o (λ k. option_map f (t k)) q
  map_changed h e None t q = refl
  map_changed h e (Some k) t q = elim (eqb_tells q k) [ inl (is, _) ↦ rw is (commute (t k)) | inr (is, _) ↦ rw is refl ] where
    commute : (o : Option A) → option_map f (option_map g o) ≡ option_map h (option_map f o)
    commute None = refl
    commute (Some r) = ap (λ x. Some x) (e r)

  pub map_same : ((r : A) → f (g r) ≡ f r) → (o : Option ℕ) (t : ℕ → Option A) (q : ℕ) → option_map f (changed g o t q) ≡ option_map f (t q)
  map_same e None t q = refl
  map_same e (Some k) t q = elim (eqb_tells q k) [ inl (is, at) ↦ rw is (commute (t k) ∙ ap (λ j. option_map f (t j)) (sym at)) | inr (is, _) ↦ rw is refl ] where
    commute : (o : Option A) → option_map f (option_map g o) ≡ option_map f o
    commute None = refl
    commute (Some r) = ap (λ x. Some x) (e r)

pub place_with : (end : End) (l : Links) (r : Record) → place end (with_links end l r) ≡ record { node = number_at end r.edge; previous = l.previous; next = l.next }
place_with Outgoing l r = refl
place_with Incoming l r = refl

pub place_opposite : (end : End) (l : Links) (r : Record) → place (opposite end) (with_links end l r) ≡ place (opposite end) r
place_opposite Outgoing l r = refl
place_opposite Incoming l r = refl

pub edge_with : (end : End) (l : Links) (r : Record) → (with_links end l r).edge ≡ r.edge
edge_with Outgoing l r = refl
edge_with Incoming l r = refl

pub place_next : (end : End) (v : Option ℕ) (r : Record) → place end (with_next end v r) ≡ record (place end r) { next = v }
place_next Outgoing v r = refl
place_next Incoming v r = refl

pub place_previous : (end : End) (v : Option ℕ) (r : Record) → place end (with_previous end v r) ≡ record (place end r) { previous = v }
place_previous Outgoing v r = refl
place_previous Incoming v r = refl

-- ---- who is there
pub there_of : {A B : Type 0} (f : A → B) (o : Option A) (y : B) → option_map f o ≡ Some y → IsSome o
there_of f None y h = absurd (cc)
there_of f (Some x) y h = refl

pub is_there : {A : Type 0} (o : Option A) (x : A) → o ≡ Some x → IsSome o
is_there None x h = absurd (cc)
is_there (Some y) x h = refl

pub first_within : (end : End) (firsts : List Firsts) (n k : ℕ) → first_at end firsts n ≡ Some k → n < length firsts
first_within end firsts n k h = split (slice_get firsts n) refl h where
  split : (o : Option Firsts) → slice_get firsts n ≡ o → elim o as (λ _. Option ℕ) [ None ↦ None | Some f ↦ first_of end f ] ≡ Some k → n < length firsts
  split None _ h = absurd (cc)
  split (Some f) is _ = slice_get_within firsts n f is

-- ---- an unlinked record
module _ (t : Table) (first : ℕ → Option ℕ) (end : End) (m : AreLinked (places end t) first) (k : ℕ) (r : Record) (here : t k ≡ Some r) where
  placed : places end t k ≡ Some (place end r)
  placed = ap (option_map (place end)) here

  pub previous_there : (j : ℕ) → (links_at end r).previous ≡ Some j → IsSome (t j)
  previous_there j h = let (y, is, _, _) = m.back k j (place end r) placed h in there_of (place end) (t j) y is

  pub next_there : (j : ℕ) → (links_at end r).next ≡ Some j → IsSome (t j)
  next_there j h = let (y, is, _, _, _) = m.forth k j (place end r) placed h in there_of (place end) (t j) y is

  pub first_there : (links_at end r).previous ≡ None → first (number_at end r.edge) ≡ Some k
  first_there none = m.begun k (place end r) placed none

  unlinked_at : (t1 t2 : Table) (first1 : ℕ → Option ℕ)
      → ((q : ℕ) → t1 q ≡ changed (with_next end (links_at end r).next) (links_at end r).previous t q)
      → ((q : ℕ) → t2 q ≡ changed (with_previous end (links_at end r).previous) (links_at end r).next t1 q)
      → ((n : ℕ) → first1 n ≡ begun_by first (number_at end r.edge) (links_at end r).previous (links_at end r).next n)
      → AreLinked (updated (places end t2) k None) first1
  unlinked_at t1 t2 first1 w1 w2 f1 =
      let x : Place = place end r in
      let at1 : places end t1 ≡ changed (λ (z : Place). record z { next = x.next }) x.previous (places end t) = fun_ext (λ q. ap (option_map (place end)) (w1 q) ∙ map_changed (place end) (with_next end x.next) (λ (z : Place). record z { next = x.next }) (place_next end x.next) x.previous t q) in
      let at2 : places end t2 ≡ changed (λ (z : Place). record z { previous = x.previous }) x.next (places end t1) = fun_ext (λ q. ap (option_map (place end)) (w2 q) ∙ map_changed (place end) (with_previous end x.previous) (λ (z : Place). record z { previous = x.previous }) (place_previous end x.previous) x.next t1 q) in
      let at : places end t2 ≡ changed (λ (z : Place). record z { previous = x.previous }) x.next (changed (λ (z : Place). record z { next = x.next }) x.previous (places end t)) = at2 ∙ ap (λ (p : ℕ → Option Place). changed (λ (z : Place). record z { previous = x.previous }) x.next p) at1 in
      let firsts : first1 ≡ begun_by first x.node x.previous x.next = fun_ext f1 in
      subst (λ (f : ℕ → Option ℕ). AreLinked (updated (places end t2) k None) f) (sym firsts)
      (subst (λ (p : ℕ → Option Place). AreLinked (updated p k None) (begun_by first x.node x.previous x.next)) (sym at) (unlinked (places end t) first m k x placed))

  pub unlinked_all : (l : Links) (node : ℕ) → l ≡ links_at end r → node ≡ number_at end r.edge → (t1 t2 : Table) (first1 : ℕ → Option ℕ)
      → ((q : ℕ) → t1 q ≡ changed (with_next end l.next) l.previous t q)
      → ((q : ℕ) → t2 q ≡ changed (with_previous end l.previous) l.next t1 q)
      → ((n : ℕ) → first1 n ≡ begun_by first node l.previous l.next n)
      → AreLinked (updated (places end t2) k None) first1
  unlinked_all l node is at t1 t2 first1 =
      subst (λ (v : Links). ((q : ℕ) → t1 q ≡ changed (with_next end v.next) v.previous t q) → ((q : ℕ) → t2 q ≡ changed (with_previous end v.previous) v.next t1 q) → ((n : ℕ) → first1 n ≡ begun_by first node v.previous v.next n) → AreLinked (updated (places end t2) k None) first1) (sym is)
      (λ w1 w2 f1. unlinked_at t1 t2 first1 w1 w2 (λ n. f1 n ∙ ap (λ j. begun_by first j (links_at end r).previous (links_at end r).next n) at))

-- ---- a linked record
pub linked_all : (t : Table) (first : ℕ → Option ℕ) (end : End) (k : ℕ) (r : Record) → t k ≡ Some r → AreLinked (updated (places end t) k None) first
    → (l : Links) (node : ℕ) (next : Option ℕ) → l ≡ record { previous = None; next = next } → node ≡ number_at end r.edge → next ≡ first node → (t1 t2 : Table) (first1 : ℕ → Option ℕ)
    → ((q : ℕ) → t1 q ≡ updated t k (option_map (with_links end l) (t k)) q)
    → ((q : ℕ) → t2 q ≡ changed (with_previous end (Some k)) next t1 q)
    → ((n : ℕ) → first1 n ≡ updated first node (Some k) n)
    → AreLinked (places end t2) first1
linked_all t first end k r here m l node next is at to t1 t2 first1 w1 w2 f1 =
    let at2 : places end t2 ≡ changed (λ (z : Place). record z { previous = Some k }) (first node) (places end t1) = fun_ext (λ q. ap (option_map (place end)) (w2 q) ∙ map_changed (place end) (with_previous end (Some k)) (λ (z : Place). record z { previous = Some k }) (place_previous end (Some k)) next t1 q ∙ ap (λ (o : Option ℕ). changed (λ (z : Place). record z { previous = Some k }) o (places end t1) q) to) in
    let firsts : first1 ≡ updated first node (Some k) = fun_ext f1 in
    let new : places end t1 k ≡ Some (before_all node (first node)) =
    ap (option_map (place end)) (w1 k ∙ updated_here t k (option_map (with_links end l) (t k)) ∙ ap (option_map (with_links end l)) here)
    ∙ ap (λ (p : Place). Some p) (place_with end l r)
    ∙ ap (λ (v : Links). Some (let p : Place = record { node = number_at end r.edge; previous = v.previous; next = v.next } in p)) is
    ∙ ap (λ (o : Option ℕ). Some (before_all (number_at end r.edge) o)) to ∙ ap (λ j. Some (before_all j (first node))) (sym at) in
    let others : (q : ℕ) → (q ≡ k → ⊥) → places end t1 q ≡ updated (places end t) k None q = λ q other. ap (option_map (place end)) (w1 q ∙ updated_there t k (option_map (with_links end l) (t k)) q other) ∙ sym (updated_there (places end t) k None q other) in
    subst (λ (f : ℕ → Option ℕ). AreLinked (places end t2) f) (sym firsts)
    (subst (λ (p : ℕ → Option Place). AreLinked p (updated first node (Some k))) (sym at2)
    (linked (updated (places end t) k None) first m node k (updated_here (places end t) k None) (places end t1) new others))

pub changed_there : {A : Type 0} (g : A → A) (o : Option ℕ) (t u : ℕ → Option A) → ((q : ℕ) → u q ≡ changed g o t q) → (j : ℕ) → IsSome (t j) → IsSome (u j)
changed_there {A = A} g None t u w j is = rw (w j) is
changed_there {A = A} g (Some k) t u w j is = rw (w j) (elim (eqb_tells j k) [ inl (here, at) ↦ rw here (kept (t k) (subst (λ i. IsSome (t i)) at is)) | inr (there, _) ↦ rw there is ]) where
  kept : (o : Option A) → IsSome o → IsSome (option_map g o)
  kept None h = h
  kept (Some x) h = refl

-- ---- tables with one record more and one less
pub relinked : (p p' : ℕ → Option Place) (f f' : ℕ → Option ℕ) → ((q : ℕ) → p' q ≡ p q) → ((n : ℕ) → f' n ≡ f n) → AreLinked p f → AreLinked p' f'
relinked p p' f f' at first m =
    let places_are : p ≡ p' = fun_ext (λ q. sym (at q)) in
    let firsts_are : f ≡ f' = fun_ext (λ n. sym (first n)) in
    subst (λ (h : ℕ → Option ℕ). AreLinked p' h) firsts_are (subst (λ (h : ℕ → Option Place). AreLinked h f) places_are m)

-- the places of the others, where a record came in under a vacant key, and where one went
pub places_without : (t0 t1 : Table) (key : ℕ) → t0 key ≡ None → ((q : ℕ) → q ≢ key → t1 q ≡ t0 q) → (end : End) (q : ℕ) → updated (places end t1) key None q ≡ places end t0 q
places_without t0 t1 key none others end q = elim (eqb_tells q key) [
  | inl (t, e) ↦ rw t (sym (ap (option_map (place end)) (ap t0 e ∙ none)))
  | inr (f, other) ↦ rw f (ap (option_map (place end)) (others q other))
]

pub places_less : (t0 t1 : Table) (key : ℕ) → t1 key ≡ None → ((q : ℕ) → q ≢ key → t1 q ≡ t0 q) → (end : End) (q : ℕ) → places end t1 q ≡ updated (places end t0) key None q
places_less t0 t1 key none others end q = elim (eqb_tells q key) [
  | inl (t, e) ↦ rw t (ap (option_map (place end)) (ap t1 e ∙ none))
  | inr (f, other) ↦ rw f (ap (option_map (place end)) (others q other))
]

module _ (old new : ℕ → Option Edge) (key : ℕ) (once : (j k : ℕ) (e : Edge) → old j ≡ Some e → old k ≡ Some e → j ≡ k) (others : (q : ℕ) → q ≢ key → new q ≡ old q) where
  module _ (edge : Edge) (none : old key ≡ None) (some : new key ≡ Some edge) (absent : (k : ℕ) → old k ≡ Some edge → ⊥) where
    pub once_more : (j k : ℕ) (e : Edge) → new j ≡ Some e → new k ≡ Some e → j ≡ k
    once_more j k e at_j at_k = elim (eqb_tells j key) [
      | inl (_, is_j) ↦ elim (eqb_tells k key) [
        | inl (_, is_k) ↦ is_j ∙ sym is_k
        | inr (_, other) ↦ absurd (clash k e other at_k (sym (sym some ∙ ap new (sym is_j) ∙ at_j)))
      ]
      | inr (_, other) ↦ elim (eqb_tells k key) [
        | inl (_, is_k) ↦ absurd (clash j e other at_j (sym (sym some ∙ ap new (sym is_k) ∙ at_k)))
        | inr (_, other_k) ↦ once j k e (sym (others j other) ∙ at_j) (sym (others k other_k) ∙ at_k)
      ]
    ] where
      clash : (q : ℕ) (e : Edge) → q ≢ key → new q ≡ Some e → Some e ≡ Some edge → ⊥
      clash q e other at same = absent q (sym (others q other) ∙ at ∙ same)

    pub edges_more : (e : Edge) → ((k : ℕ) × (new k ≡ Some e)) ↔ (((k : ℕ) × (old k ≡ Some e)) ⊎ (e ≡ edge))
    edges_more e = (to, from) where
      to : (k : ℕ) × (new k ≡ Some e) → ((k : ℕ) × (old k ≡ Some e)) ⊎ (e ≡ edge)
      to (k, at) = elim (eqb_tells k key) [
        | inl (_, is) ↦ let same : Some e ≡ Some edge = sym at ∙ ap new is ∙ some in inr (cc)
        | inr (_, other) ↦ inl (k, sym (others k other) ∙ at)
      ]

      from : ((k : ℕ) × (old k ≡ Some e)) ⊎ (e ≡ edge) → (k : ℕ) × (new k ≡ Some e)
      from (inl (k, at)) = (k, others k (λ is. let wrong : None ≡ Some e = sym none ∙ ap old (sym is) ∙ at in cc) ∙ at)
      from (inr same) = (key, some ∙ ap (λ (v : Edge). Some v) (sym same))

  module _ (gone : new key ≡ None) where
    left : (q : ℕ) (e : Edge) → new q ≡ Some e → (q ≢ key) × (old q ≡ Some e)
    left q e at = let apart : q ≢ key = λ is. let wrong : None ≡ Some e = sym gone ∙ ap new (sym is) ∙ at in cc in (apart, sym (others q apart) ∙ at)

    pub once_less : (j k : ℕ) (e : Edge) → new j ≡ Some e → new k ≡ Some e → j ≡ k
    once_less j k e at_j at_k = once j k e (left j e at_j).1 (left k e at_k).1

    pub edges_less : (e : Edge) → ((k : ℕ) × (new k ≡ Some e)) ↔ (((k : ℕ) × (old k ≡ Some e)) × (old key ≡ Some e → ⊥))
    edges_less e = (
      λ n. let (apart, at) = left n.0 e n.1 in ((n.0, at), λ is. apart (once n.0 key e at is)),
      λ o. (o.0.0, others o.0.0 (λ is. o.1 (ap old (sym is) ∙ o.0.1)) ∙ o.0.1),
    )

pub listed_same : (t : Table) (f f' : List Firsts) → ((end : End) (n : ℕ) → first_at end f' n ≡ first_at end f n) → AreListed t f → AreListed t f'
listed_same t f f' same m = record {
  linked = λ end. relinked (places end t) (places end t) (first_at end f) (first_at end f') (λ q. refl) (same end) (m.linked end);
  once = m.once;
}

pub listed_none : (s : Slab Record) (firsts : List Firsts) → s.slots ≡ [] → firsts ≡ [] → AreListed (get s) firsts
listed_none s firsts empty none = record {
  linked = λ end. record {
    age = λ k. 0;
    bound = 0;
    aged = λ k x h. absurd (absent end k x h);
    begins = λ n k h. absurd (first end n k (sym (ap (λ (f : List Firsts). first_at end f n) none) ∙ h));
    begun = λ k x h _. absurd (absent end k x h);
    forth = λ k j x h _. absurd (absent end k x h);
    back = λ k j x h _. absurd (absent end k x h);
  };
  once = λ j k e h _. absurd (let wrong : None ≡ Some e = sym (ap (option_map (λ (r : Record). r.edge)) (vacant j)) ∙ h in cc);
} where
  vacant : (k : ℕ) → get s k ≡ None
  vacant k = ap (λ (l : List (Option Record)). slice_index_or l k None) empty

  absent : (end : End) (k : ℕ) (x : Place) → places end (get s) k ≡ Some x → ⊥
  absent end k x h = let wrong : None ≡ Some x = sym (ap (option_map (place end)) (vacant k)) ∙ h in cc

  first : (end : End) (n k : ℕ) → first_at end [] n ≡ Some k → ⊥
  first end n k h = cc
