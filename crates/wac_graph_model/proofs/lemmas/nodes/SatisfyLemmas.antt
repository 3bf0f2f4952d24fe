-- What a write to one node keeps, and the marks of the imports that are satisfied.
use Rattle.std.proofs.Common.{◌≡◌, ◌≢◌, ℕ, Bool, true, false, not, ◌==◌, ◌&&◌, ◌||◌, cond, eqb, nat_eq, ap, refl, ◌∙◌, sym, subst, arith, Option, Some, None, is_some, IsSome, Ok, Err, OnOk, OnErr, Result}
use Rattle.std.specs.Result.{IsOk}
use Rattle.std.proofs.Math.Bool.{and-true, or-false}
use Rattle.std.proofs.lemmas.Bool.{ne_eqb}
use Rattle.std.proofs.lemmas.Bool.Decides.{nat_tests}
use Rattle.slab.specs.Slab.{Slab, get, with_value}
use Rattle.slab.proofs.SlabLemmas.{Updates-with_value}
use Rattle.wac_edges.proofs.WrittenOrder.{eqb_same}
use Rattle.wac_graph_model.specs.declared.nodes.node.Node.{Node}
use Rattle.wac_graph_model.specs.declared.nodes.node.NodeKind.{NodeKind}
use Rattle.wac_graph_model.specs.declared.nodes.node.NodeKind.TheVariants as code
use Rattle.wac_graph_model.specs.nodes.Nodes.{Positions, has_position, satisfied, satisfied_at, KindHasRoom, HasRoomForMark}
use Rattle.wac_graph_model.proofs.lemmas.nodes.Added.{by_eq}

-- what a write to one node keeps
pub kept_at : {A : Type 0} (f : Option Node → A) (old : Slab Node) (number : ℕ) (n m : Node) → get old number ≡ Some n → f (Some m) ≡ f (Some n) → (q : ℕ) → f (get (with_value old number m) q) ≡ f (get old q)
kept_at f old number n m had kept q =
    let u = Updates-with_value old number m (ap is_some had) in
    by_eq q number
    (λ same. ap (λ k. f (get (with_value old number m) k)) same ∙ ap f u.changed ∙ kept ∙ sym (ap f had) ∙ sym (ap (λ k. f (get old k)) same))
    (λ other. ap f (u.others q other))

pub OnErr-from : {T E : Type 0} (r : Result T E) {P : Type 0} → P → OnErr r P
OnErr-from (Ok _) p = tt
OnErr-from (Err _) p = p

pub of_ok : {T E P : Type 0} (r : Result T E) → IsOk r → OnOk r P → P
of_ok (Ok x) is h = h
of_ok (Err e) is h = cc

-- ---- an instantiation with room for a mark
pub room_there : (o : Option Node) → HasRoomForMark o → IsSome o
room_there None room = absurd room
room_there (Some n) room = refl

pub no_room : (k : NodeKind) → ((s : Positions) → k ≡ code.Instantiation s → ⊥) → KindHasRoom k → ⊥
no_room code.Definition other room = room
no_room (code.Import name) other room = room
no_room (code.Instantiation s) other room = other s refl
no_room code.Alias other room = room

module _ (old : Slab Node) (number : ℕ) (n : Node) (had : get old number ≡ Some n) where
  pub room_of : HasRoomForMark (get old number) → KindHasRoom n.kind
  room_of room = subst HasRoomForMark had room

  pub room_at : (m : Node) → KindHasRoom m.kind → HasRoomForMark (get (with_value old number m) number)
  room_at m room = subst HasRoomForMark (sym (Updates-with_value old number m (ap is_some had)).changed) room

-- ---- one mark more, and one less
eqb_turned : (m n : ℕ) → eqb m n ≡ eqb n m
eqb_turned m n = grind (arith, nat_tests)

with_one : (a b : Bool) → cond a true b ≡ (b || a)
with_one true true = refl
with_one true false = refl
with_one false true = refl
with_one false false = refl

without_one : (a b : Bool) → cond a false b ≡ (b && not a)
without_one true true = refl
without_one true false = refl
without_one false true = refl
without_one false false = refl

module _ (old : Slab Node) (number : ℕ) (n m : Node) (s t : Positions) (had : get old number ≡ Some n) (is : n.kind ≡ code.Instantiation s) (became : m.kind ≡ code.Instantiation t) (position : ℕ) where
  now : (q i : ℕ) → q ≡ number → satisfied_at (get (with_value old number m) q) i ≡ has_position t i
  now q i e =
      let u = Updates-with_value old number m (ap is_some had) in
      ap (λ k. satisfied_at (get (with_value old number m) k) i) e ∙ ap (λ o. satisfied_at o i) u.changed ∙ ap (λ k. satisfied k i) became

  before : (q i : ℕ) → q ≡ number → satisfied_at (get old q) i ≡ has_position s i
  before q i e = ap (λ k. satisfied_at (get old k) i) e ∙ ap (λ o. satisfied_at o i) had ∙ ap (λ k. satisfied k i) is

  here : (q : ℕ) → q ≡ number → (q == number) ≡ true
  here q e = ap (λ k. k == number) e ∙ eqb_same number

  apart : (q i : ℕ) → q ≢ number → satisfied_at (get (with_value old number m) q) i ≡ satisfied_at (get old q) i
  apart q i other = let u = Updates-with_value old number m (ap is_some had) in ap (λ o. satisfied_at o i) (u.others q other)

  pub marked : ((i : ℕ) → has_position t i ≡ cond (nat_eq position i) true (has_position s i)) → (q i : ℕ) → satisfied_at (get (with_value old number m) q) i ≡ (satisfied_at (get old q) i || (q == number && i == position))
  marked step q i =
      by_eq q number
      (λ e. now q i e ∙ step i ∙ ap (λ (b : Bool). cond b true (has_position s i)) (eqb_turned position i) ∙ with_one (i == position) (has_position s i)
      ∙ sym (ap (λ (b : Bool). b || (q == number && i == position)) (before q i e) ∙ ap (λ (b : Bool). has_position s i || (b && i == position)) (here q e)))
      (λ other. apart q i other ∙ sym (ap (λ (b : Bool). satisfied_at (get old q) i || (b && i == position)) (ne_eqb q number other) ∙ or-false (satisfied_at (get old q) i)))

  pub unmarked : ((i : ℕ) → has_position t i ≡ cond (nat_eq position i) false (has_position s i)) → (q i : ℕ) → satisfied_at (get (with_value old number m) q) i ≡ (satisfied_at (get old q) i && not (q == number && i == position))
  unmarked step q i =
      by_eq q number
      (λ e. now q i e ∙ step i ∙ ap (λ (b : Bool). cond b false (has_position s i)) (eqb_turned position i) ∙ without_one (i == position) (has_position s i)
      ∙ sym (ap (λ (b : Bool). b && not (q == number && i == position)) (before q i e) ∙ ap (λ (b : Bool). has_position s i && not (b && i == position)) (here q e)))
      (λ other. apart q i other ∙ sym (ap (λ (b : Bool). satisfied_at (get old q) i && not (b && i == position)) (ne_eqb q number other) ∙ and-true (satisfied_at (get old q) i)))
