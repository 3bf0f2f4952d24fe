-- The items of an interface in order.
use Rattle.std.specs.Prelude.{slice_get}
use Rattle.std.proofs.Common.{ℕ, zero, suc, ◌+◌, ◌≤◌, ◌≡◌, Bool, true, false, not, ◌&&◌, ◌==◌, nat_lt, if◌then◌else◌, List, [], ◌∷◌, ◌++◌, inl, inr, Option, Some, None, Result, Ok, Err, IfOk, Vec, Global, length, map, take, drop, get_or, refl, ap, sym, ◌∙◌, subst, arith, add-one, append_assoc}
use Rattle.std.proofs.lemmas.List.{map-append, take_all, append-nil}
use Rattle.wac_types_shapes.specs.primitives.Name.{Name, option_case}
use Rattle.wac_types_shapes.proofs.lemmas.shapes.Names.{take_at}
use Rattle.wac_types_shapes.specs.shapes.Kinds.{kind_type}
use Rattle.wac_types_shapes.specs.declared.shapes.component.Interface.{Interface}
use Rattle.wac_types_shapes.specs.declared.shapes.component.InterfaceId.{InterfaceId}
use Rattle.wac_types_shapes.specs.declared.shapes.component.ItemKind.{ItemKind}
use Rattle.wac_types_shapes.specs.declared.shapes.component.«Type».TheVariants as ty
use Rattle.wac_types_collection.specs.collection.Bound.{lists_type}
use Rattle.wac_types_collection.specs.collection.Collection.{Collection, IsWellFormed, HasInterface, item_at, kind_types}
use Rattle.wac_types_collection.specs.reach.Reach.{IsIn}
use Rattle.wac_encode_order.specs.private.TypeItems.{Reaches, Takes}
use Rattle.wac_encode_order.specs.private.Interfaces.{lists_other_type, is_other_type_at, others_from, IsInterfaceOrder}
use Rattle.wac_encode_order.specs.private.Graph.{AreHeld, is_set}
use Rattle.wac_encode_order.proofs.Searching.{part-held}

pub taken-all : {A : Type 0} (xs : List A) (n : ℕ) → n ≡ length xs → take n xs ≡ xs
taken-all xs n is = take_all n xs (let enough : length xs ≤ n = omega (arith, is) in enough)

-- ---- the flags
pub mapped-next : (f : Name × ItemKind → Bool) (es : List (Name × ItemKind)) (i : ℕ) (e : Name × ItemKind) (old new : List Bool) → slice_get es i ≡ Some e → old ≡ map f (take i es) → new ≡ old ++ f e ∷ [] → new ≡ map f (take (i + 1) es)
mapped-next f es i e old new at before is =
    is ∙ ap (λ (xs : List Bool). xs ++ f e ∷ []) before ∙ sym (map-append f (take i es) (e ∷ [])) ∙ ap (map f) (sym (take_at es i e at)) ∙ ap (λ (j : ℕ). map f (take j es)) (sym (add-one i))

pub get-flag : (f : Name × ItemKind → Bool) (es : List (Name × ItemKind)) (p : ℕ) → get_or (map f es) p false ≡ option_case (slice_get es p) false f
get-flag f [] p = refl
get-flag f (e ∷ es) zero = refl
get-flag f (e ∷ es) (suc p) = get-flag f es p

-- The same items are left.
pub takes-alike : (R : ℕ → ℕ → Type 0) (f g : ℕ → Bool) (ps : List ℕ) → ((p : ℕ) → f p ≡ g p) → Takes R f ps → Takes R g ps
takes-alike R f g [] same done = λ p. sym (same p) ∙ done p
takes-alike R f g (p ∷ ps) same takes = (
  record {
    here = sym (same p) ∙ takes.0.here;
    free = λ q h r. takes.0.free q (same q ∙ h) r;
    before = λ q less h. let found = takes.0.before q less (same q ∙ h) in (found.0, sym (same found.0) ∙ found.1, found.2);
  },
  takes-alike R (λ q. f q && not (q == p)) (λ q. g q && not (q == p)) ps (λ q. ap (λ (b : Bool). b && not (q == p)) (same q)) takes.1,
)

-- ---- the other items
pub dropped : (es : List (Name × ItemKind)) (i : ℕ) (e : Name × ItemKind) → slice_get es i ≡ Some e → drop i es ≡ e ∷ drop (i + 1) es
dropped [] i e at = let none_some : None ≡ Some e = at in cc
dropped (f ∷ es) zero e at = let same : f ≡ e = cc in ap (λ (x : Name × ItemKind). x ∷ es) same
dropped (f ∷ es) (suc i) e at = let same : suc (i + 1) ≡ suc i + 1 = omega arith in dropped es i e at ∙ ap (λ (n : ℕ). e ∷ drop n (f ∷ es)) same

pub others-next : (es : List (Name × ItemKind)) (i : ℕ) (e : Name × ItemKind) (old new all : List ℕ) → slice_get es i ≡ Some e → lists_type e ≡ false → new ≡ old ++ i ∷ [] → old ++ others_from i (drop i es) ≡ all → new ++ others_from (i + 1) (drop (i + 1) es) ≡ all
others-next es i e old new all at other is before =
    ap (λ (xs : List ℕ). xs ++ others_from (i + 1) (drop (i + 1) es)) is ∙ append_assoc old (i ∷ []) (others_from (i + 1) (drop (i + 1) es))
    ∙ ap (λ (n : ℕ). old ++ i ∷ others_from n (drop (i + 1) es)) (add-one i)
    ∙ sym (ap (λ (b : Bool). old ++ (if b then others_from (suc i) (drop (i + 1) es) else i ∷ others_from (suc i) (drop (i + 1) es))) other)
    ∙ sym (ap (λ (xs : List (Name × ItemKind)). old ++ others_from i xs) (dropped es i e at)) ∙ before

pub others-passed : (es : List (Name × ItemKind)) (i : ℕ) (e : Name × ItemKind) (old new all : List ℕ) → slice_get es i ≡ Some e → lists_type e ≡ true → new ≡ old → old ++ others_from i (drop i es) ≡ all → new ++ others_from (i + 1) (drop (i + 1) es) ≡ all
others-passed es i e old new all at type is before =
    ap (λ (xs : List ℕ). xs ++ others_from (i + 1) (drop (i + 1) es)) is
    ∙ ap (λ (n : ℕ). old ++ others_from n (drop (i + 1) es)) (add-one i)
    ∙ sym (ap (λ (b : Bool). old ++ (if b then others_from (suc i) (drop (i + 1) es) else i ∷ others_from (suc i) (drop (i + 1) es))) type)
    ∙ sym (ap (λ (xs : List (Name × ItemKind)). old ++ others_from i xs) (dropped es i e at)) ∙ before

pub dropped-all : (es : List (Name × ItemKind)) (i : ℕ) → length es ≤ i → drop i es ≡ []
dropped-all [] zero past = refl
dropped-all [] (suc i) past = refl
dropped-all (e ∷ es) zero past = absurd (omega (arith, past))
dropped-all (e ∷ es) (suc i) past = dropped-all es i (omega (arith, past))

pub others-done : (es : List (Name × ItemKind)) (i : ℕ) (now all : List ℕ) → length es ≤ i → now ++ others_from i (drop i es) ≡ all → now ≡ all
others-done es i now all past before = sym (append-nil now) ∙ sym (ap (λ (xs : List (Name × ItemKind)). now ++ others_from i xs) (dropped-all es i past)) ∙ before

-- ---- the whole order
pub in-order : (c : Collection) (it : Interface) (b : Bool) (chosen shown : List Bool) (types order : List ℕ) → chosen ≡ map (lists_other_type c it.uses) it.exports → shown ≡ chosen → Takes (Reaches c it.exports) (is_set shown) types → order ≡ types ++ (if b then [] else others_from 0 it.exports) → IsInterfaceOrder c it b order
in-order c it b chosen shown types order is same takes all = record {
  types = types;
  taken = takes-alike (Reaches c it.exports) (is_set shown) (is_other_type_at c it) types (λ p. ap (λ (xs : List Bool). get_or xs p false) (same ∙ is) ∙ get-flag (lists_other_type c it.uses) it.exports p) takes;
  is = all;
}

pub types-alone : (b : Bool) (types others : List ℕ) → b ≡ true → types ≡ types ++ (if b then [] else others)
types-alone b types others is = sym (append-nil types) ∙ sym (ap (λ (x : Bool). types ++ (if x then [] else others)) is)

pub and-others : (b : Bool) (types others order : List ℕ) → b ≡ false → order ≡ types ++ others → order ≡ types ++ (if b then [] else others)
and-others b types others order is all = all ∙ sym (ap (λ (x : Bool). types ++ (if x then [] else others)) is)

-- ---- the interface of an id
kind-in : (es : List (Name × ItemKind)) (k : ℕ) (e : Name × ItemKind) → slice_get es k ≡ Some e → IsIn (kind_type e.1) (kind_types es)
kind-in [] k e at = let none_some : None ≡ Some e = at in cc
kind-in (f ∷ es) zero e at = let same : f ≡ e = cc in inl (ap (λ (x : Name × ItemKind). kind_type x.1) (sym same))
kind-in (f ∷ es) (suc k) e at = inr (kind-in es k e at)

pub exports-held : (c : Collection) → IsWellFormed c → (id : InterfaceId) (it : Interface) → HasInterface c id → item_at c.interfaces id.0 ≡ Some it → AreHeld c it.exports
exports-held c wf id it held is k e at =
    part-held c wf (ty.Interface id) (kind_type e.1) (let there : nat_lt id.0 (length c.interfaces) ≡ true = grind (arith, held) in there)
    (subst (λ (o : Option Interface). IsIn (kind_type e.1) (kind_types (option_case o [] (λ x. x.exports)))) (sym is) (kind-in it.exports k e at))

pub of-interface : {E : Type 0} (c : Collection) (id : InterfaceId) (found : Interface) (P : Interface → List ℕ → Type 0) → item_at c.interfaces id.0 ≡ Some found → (r : Result (Vec ℕ Global) E) → IfOk r (λ order. P found order.items) → IfOk r (λ order. (it : Interface) → item_at c.interfaces id.0 ≡ Some it → P it order.items)
of-interface c id found P is (Ok v) ordered = λ it at. subst (λ (x : Interface). P x v.items) (let both : Some found ≡ Some it = sym is ∙ at in let same : found ≡ it = cc in same) ordered
of-interface c id found P is (Err e) ordered = tt
