-- Which nodes are left at first, and the order that they are put in.
use Rattle.std.specs.Prelude.{ltb}
use Rattle.std.proofs.Common.{ℕ, zero, suc, ◌+◌, ◌-◌, ◌<◌, ◌≤◌, ◌≡◌, Bool, true, false, if◌then◌else◌, List, [], ◌∷◌, ◌++◌, Option, Some, None, Result, Ok, Err, IfOk, IfSome, IfNone, Vec, Global, length, take, replicate, get_or, refl, ap, sym, ◌∙◌, subst, arith, add-one}
use Rattle.std.proofs.lemmas.List.{length-replicate, get_or-replicate, append-nil}
use Rattle.std.proofs.lemmas.Option.{slice_get-get_or}
use Rattle.wac_types_shapes.specs.primitives.Name.{Name}
use Rattle.wac_types_shapes.proofs.lemmas.shapes.Names.{take_at}
use Rattle.wac_types_shapes.specs.declared.shapes.component.ItemKind.{ItemKind}
use Rattle.wac_types_shapes.specs.declared.shapes.component.«Type».{«Type» as AnyType}
use Rattle.wac_types_collection.specs.collection.Collection.{Collection, IsWellFormed}
use Rattle.wac_edges.specs.declared.node.NodeId.{NodeId}
use Rattle.wac_edges.specs.Edge.{node_number, is_left}
use Rattle.wac_edges.specs.Order.{Edges, Writes}
use Rattle.wac_encode_order.specs.private.TypeItems.{Reaches, Takes}
use Rattle.wac_encode_order.specs.private.Graph.{AreReached, is_set, flags, items_of}
use Rattle.wac_encode_order.proofs.Taking.{AreExact, IsClosed, takes}

pub none-of : {A : Type 0} {P : Type 0} (o : Option A) → o ≡ None → IfNone o P → P
none-of None is h = h
none-of (Some x) is h = cc

pub some-of : {A : Type 0} (P : A → Type 0) (o : Option A) (x : A) → o ≡ Some x → IfSome o P → P x
some-of P None x is h = cc
some-of P (Some y) x is h = let same : y ≡ x = cc in subst P same h

-- ---- one more node
items-more : (n : ℕ) (ms : List NodeId) (m : NodeId) → items_of n (ms ++ m ∷ []) ≡ items_of n ms ++ items_of n (m ∷ [])
items-more n [] m = refl
items-more n (k ∷ ms) m = by_side (ltb k.0 n) (items-more n ms m)
  where
    by_side : (b : Bool) → items_of n (ms ++ m ∷ []) ≡ items_of n ms ++ items_of n (m ∷ [])
        → (if b then items_of n (ms ++ m ∷ []) else ((k.0 - n) ∷ items_of n (ms ++ m ∷ []))) ≡ (if b then items_of n ms else ((k.0 - n) ∷ items_of n ms)) ++ items_of n (m ∷ [])
    by_side true rest = rest
    by_side false rest = ap (λ xs. (k.0 - n) ∷ xs) rest

node-more : (n i : ℕ) (ms : List NodeId) (d : NodeId) → i < length ms → items_of n (take (i + 1) ms) ≡ items_of n (take i ms) ++ items_of n (get_or ms i d ∷ [])
node-more n i ms d less = ap (λ j. items_of n (take j ms)) (add-one i) ∙ ap (items_of n) (take_at ms i (get_or ms i d) (slice_get-get_or ms i d less)) ∙ items-more n (take i ms) (get_or ms i d)

pub node-passed : (n i : ℕ) (ms : List NodeId) (d : NodeId) (items : List ℕ) → i < length ms → (get_or ms i d).0 < n → items ≡ items_of n (take i ms) → items ≡ items_of n (take (i + 1) ms)
node-passed n i ms d items less low is = is ∙ sym (append-nil (items_of n (take i ms))) ∙ ap (λ xs. items_of n (take i ms) ++ xs) (sym (passed (ltb (get_or ms i d).0 n) (let t : ltb (get_or ms i d).0 n ≡ true = grind (arith, low) in t))) ∙ sym (node-more n i ms d less)
  where
    passed : (b : Bool) → b ≡ true → (if b then [] else (((get_or ms i d).0 - n) ∷ [])) ≡ (let none : List ℕ = [] in none)
    passed true e = refl
    passed false e = cc

pub node-taken : (n i : ℕ) (ms : List NodeId) (d : NodeId) (items new : List ℕ) → i < length ms → n ≤ (get_or ms i d).0 → items ≡ items_of n (take i ms) → new ≡ items ++ ((get_or ms i d).0 - n) ∷ [] → new ≡ items_of n (take (i + 1) ms)
node-taken n i ms d items new less high is more = more ∙ ap (λ xs. xs ++ ((get_or ms i d).0 - n) ∷ []) is ∙ ap (λ xs. items_of n (take i ms) ++ xs) (sym (taken (ltb (get_or ms i d).0 n) (let t : ltb (get_or ms i d).0 n ≡ false = grind (arith, high) in t))) ∙ sym (node-more n i ms d less)
  where
    taken : (b : Bool) → b ≡ false → (if b then [] else (((get_or ms i d).0 - n) ∷ [])) ≡ ((get_or ms i d).0 - n) ∷ []
    taken false e = refl
    taken true e = cc

-- ---- the flags
get-left : {A : Type 0} (xs ys : List A) (k : ℕ) (d : A) → k < length xs → get_or (xs ++ ys) k d ≡ get_or xs k d
get-left [] ys k d less = absurd (omega (arith, less))
get-left (x ∷ xs) ys zero d less = refl
get-left (x ∷ xs) ys (suc k) d less = get-left xs ys k d (omega (arith, less))

get-right : {A : Type 0} (xs ys : List A) (k : ℕ) (d : A) → get_or (xs ++ ys) (length xs + k) d ≡ get_or ys k d
get-right [] ys k d = let same : 0 + k ≡ k = omega arith in ap (λ j. get_or ys j d) same
get-right (x ∷ xs) ys k d = let same : length (x ∷ xs) + k ≡ suc (length xs + k) = omega arith in ap (λ j. get_or (x ∷ (xs ++ ys)) j d) same ∙ get-right xs ys k d

type-left : (ts : List AnyType) (chosen : List Bool) (k : ℕ) → k < length ts → is_left (flags ts chosen) (node_number k) ≡ true
type-left ts chosen k less =
    let long : k < length (replicate (length ts) true) = subst (λ n. k < n) (sym (length-replicate (length ts) true)) less in
    get-left (replicate (length ts) true) chosen k false long ∙ get_or-replicate (length ts) k true false less

item-left : (ts : List AnyType) (chosen : List Bool) (p : ℕ) → is_left (flags ts chosen) (node_number (length ts + p)) ≡ is_set chosen p
item-left ts chosen p = ap (λ n. get_or (flags ts chosen) (n + p) false) (sym (length-replicate (length ts) true)) ∙ get-right (replicate (length ts) true) chosen p false

module _ (c : Collection) (wf : IsWellFormed c) (es : List (Name × ItemKind)) (ts : List AnyType) (edges : Edges) (exact : AreExact c es ts edges) (reached : AreReached c es ts) (chosen : List Bool) where
  closed-first : IsClosed edges (length ts) (is_left (flags ts chosen))
  closed-first a b edge low h = type-left ts chosen b.0 low

  pub are-taken : (left : List Bool) → left ≡ flags ts chosen → (ns : List NodeId) → Writes edges (is_left left) ns → Takes (Reaches c es) (is_set chosen) (items_of (length ts) ns)
  are-taken left is ns writes = takes c wf es ts edges exact reached ns (is_left (flags ts chosen)) closed-first (is_set chosen) (λ q. sym (item-left ts chosen q)) (subst (λ (l : List Bool). Writes edges (is_left l) ns) is writes)

  pub taken-ok : {E : Type 0} (r : Result (Vec ℕ Global) E) (count : ℕ) (left : List Bool) (ns : List NodeId) → count ≡ length ts → left ≡ flags ts chosen → Writes edges (is_left left) ns → IfOk r (λ v. v.items ≡ items_of count ns) → IfOk r (λ v. Takes (Reaches c es) (is_set chosen) v.items)
  taken-ok (Ok v) count left ns is flagged writes items = subst (Takes (Reaches c es) (is_set chosen)) (sym (items ∙ ap (λ n. items_of n ns) is)) (are-taken left flagged ns writes)
  taken-ok (Err e) count left ns is flagged writes items = tt
