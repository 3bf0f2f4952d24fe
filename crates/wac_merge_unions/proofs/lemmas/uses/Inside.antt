-- The interfaces inside one, as they are put one after another, and that fewer are left with each.
use Rattle.std.proofs.Common.{◌≡◌, ℕ, zero, suc, ◌+◌, ◌<◌, ◌≤◌, true, List, [], ◌∷◌, ◌++◌, length, slice_get, take, Option, Some, None, inl, inr, refl, sym, ap, ◌∙◌, subst, arith}
use Rattle.std.specs.Global.{Global}
use Rattle.std.specs.Prelude.{◌⊎◌, Vec}
use Rattle.std.proofs.lemmas.List.{length-append}
use Rattle.std.proofs.lemmas.Option.{slice_get_within}
use Rattle.wac_types_shapes.specs.primitives.Name.{Name, find_name, option_case}
use Rattle.wac_types_shapes.specs.shapes.Kinds.{kind_type}
use Rattle.wac_types_shapes.specs.declared.shapes.component.Interface.{Interface}
use Rattle.wac_types_shapes.specs.declared.shapes.component.InterfaceId.{InterfaceId}
use Rattle.wac_types_shapes.specs.declared.shapes.component.ItemKind.{ItemKind}
use Rattle.wac_types_shapes.specs.declared.shapes.component.ItemKind.TheVariants as kind
use Rattle.wac_types_shapes.proofs.lemmas.shapes.Names.{find_name-at, take_at}
use Rattle.wac_types_collection.specs.collection.Collection.{Collection, HasInterface, IsWellFormed, holds_type, interface_exports, item_at}
use Rattle.wac_merge_classes.specs.entries.Opening.{count_in, total}
use Rattle.wac_merge_classes.specs.entries.Scopes.{opened, opened_by}
use Rattle.wac_merge_classes.specs.declared.entries.scopes.Opener.{Opener}
use Rattle.wac_merge_classes.specs.declared.entries.scopes.Opener.TheVariants as opener
use Rattle.wac_merge_classes.proofs.lemmas.entries.Lists.{at-end, at-push, push-cases, some-at}
use Rattle.wac_merge_classes.proofs.lemmas.entries.Opening.{below, count-inner}
use Rattle.wac_merge_classes.proofs.lemmas.entries.Places.{exports_held}
use Rattle.wac_merge_classes.proofs.lemmas.terms.Found.{no_some, one_some, some_same}
use Rattle.wac_merge_unions.specs.uses.KeptUses.{with_instance}
use Rattle.wac_merge_unions.specs.uses.United.{instances_of, listed_by}
use Rattle.wac_merge_unions.specs.uses.Using.{AreBare, AreInside, AreInterfaces, AreKnown, ArePlaced, IsAmong, IsItemPlaced, IsOpened, Keeps, left_inside}
use Rattle.wac_merge_unions.proofs.lemmas.uses.Growing.{found-held, interface-there}

abbrev interface-of : InterfaceId → ItemKind → InterfaceId
interface-of d (kind.Instance i) = i
interface-of d k = d

-- ---- one interface more

instances-append : (xs ys : List ItemKind) → instances_of (xs ++ ys) ≡ instances_of xs ++ instances_of ys
instances-append [] ys = refl
instances-append (kind.Instance i ∷ xs) ys = ap (λ l. i ∷ l) (instances-append xs ys)
instances-append (k ∷ xs) ys = instances-append xs ys

listed-append : (c : Collection) (is js : List InterfaceId) (n : Name) → listed_by c (is ++ js) n ≡ listed_by c is n ++ listed_by c js n
listed-append c [] js n = refl
listed-append c (i ∷ is) js n = by (find_name (interface_exports c i) n) (listed-append c is js n) where
  by : (o : Option ItemKind) → listed_by c (is ++ js) n ≡ listed_by c is n ++ listed_by c js n
      → option_case o (listed_by c (is ++ js) n) (λ k. k ∷ listed_by c (is ++ js) n) ≡ option_case o (listed_by c is n) (λ k. k ∷ listed_by c is n) ++ listed_by c js n
  by None rest = rest
  by (Some k) rest = ap (λ l. k ∷ l) rest

one-instance : (k : ItemKind) → instances_of (k ∷ []) ≡ with_instance k []
one-instance (kind.Instance i) = refl
one-instance (kind.TypeItem t) = refl
one-instance (kind.Func f) = refl
one-instance (kind.Component w) = refl
one-instance (kind.Module y) = refl
one-instance (kind.Value v) = refl

-- the instances that one more interface lists under a name
pub named-next : (c : Collection) (is : List InterfaceId) (j : ℕ) (i : InterfaceId) (it : Interface) (n : Name) (o : Option ItemKind) → slice_get is j ≡ Some i → item_at c.interfaces i.0 ≡ Some it → find_name it.exports n ≡ o
    → instances_of (listed_by c (take (suc j) is) n) ≡ instances_of (listed_by c (take j is) n) ++ option_case o [] (λ k. with_instance k [])
named-next c is j i it n o at there found =
    ap (λ l. instances_of (listed_by c l n)) (take_at is j i at)
    ∙ (ap instances_of (listed-append c (take j is) (i ∷ []) n)
    ∙ (instances-append (listed_by c (take j is) n) (listed_by c (i ∷ []) n)
    ∙ ap (λ l. instances_of (listed_by c (take j is) n) ++ l) (ap (λ x. instances_of (option_case (find_name x n) [] (λ k. k ∷ []))) exports ∙ (ap (λ x. instances_of (option_case x [] (λ k. k ∷ []))) found ∙ one o)))) where
      exports : interface_exports c i ≡ it.exports
      exports = ap (λ x. option_case x [] (λ (y : Interface). y.exports)) there

      one : (o : Option ItemKind) → instances_of (option_case o [] (λ k. k ∷ [])) ≡ option_case o [] (λ k. with_instance k [])
      one None = refl
      one (Some k) = one-instance k

-- ---- they are held

-- the interfaces of the instances that are listed under a name
pub listed-held : (c : Collection) → IsWellFormed c → (is : List InterfaceId) (n : Name) → AreInterfaces c is → AreInterfaces c (instances_of (listed_by c is n))
listed-held c wf [] n held j i at = absurd (no_some i at)
listed-held c wf (x ∷ is) n held j i at = by (find_name (interface_exports c x) n) refl j at (λ l there. listed-held c wf is n (λ p y here. held (suc p) y here) l i there) where
  found : (k : ItemKind) → find_name (interface_exports c x) n ≡ Some k → holds_type c (kind_type k) ≡ true
  found k is-k =
      let it = interface-there c x (held 0 x refl) in
      found-held c (it.0).exports n k (exports_held c wf x it.0 it.1) (ap (λ o. find_name (option_case o [] (λ (y : Interface). y.exports)) n) (sym it.1) ∙ is-k)

  one : (k : ItemKind) → holds_type c (kind_type k) ≡ true → (j : ℕ) → slice_get (instances_of (k ∷ listed_by c is n)) j ≡ Some i → ((l : ℕ) → slice_get (instances_of (listed_by c is n)) l ≡ Some i → HasInterface c i) → HasInterface c i
  one (kind.Instance w) here zero there rest = subst (HasInterface c) (some_same w i there) (below w.0 (length c.interfaces) here)
  one (kind.Instance w) here (suc l) there rest = rest l there
  one (kind.TypeItem t) here l there rest = rest l there
  one (kind.Func f) here l there rest = rest l there
  one (kind.Component w) here l there rest = rest l there
  one (kind.Module y) here l there rest = rest l there
  one (kind.Value v) here l there rest = rest l there

  by : (o : Option ItemKind) → find_name (interface_exports c x) n ≡ o → (j : ℕ) → slice_get (instances_of (option_case o (listed_by c is n) (λ k. k ∷ listed_by c is n))) j ≡ Some i
      → ((l : ℕ) → slice_get (instances_of (listed_by c is n)) l ≡ Some i → HasInterface c i) → HasInterface c i
  by None is-o l there rest = rest l there
  by (Some k) is-o l there rest = one k (found k is-o) l there rest

-- ---- what stays

pub keeps-same : {A : Type 0} (xs ys : List A) → ys ≡ xs → Keeps xs ys
keeps-same xs ys same p x at = ap (λ l. slice_get l p) same ∙ at

pub keeps-push : {A : Type 0} (xs ys : List A) (y : A) → ys ≡ xs ++ y ∷ [] → Keeps xs ys
keeps-push xs ys y same p x at = ap (λ l. slice_get l p) same ∙ at-push xs y p x at

pub keeps-length : {A : Type 0} (xs ys : List A) → Keeps xs ys → length xs ≤ length ys
keeps-length [] ys keeps = omega arith
keeps-length (x ∷ xs) [] keeps = absurd (no_some x (keeps 0 x refl))
keeps-length (x ∷ xs) (y ∷ ys) keeps = let r = keeps-length xs ys (λ p z at. keeps (suc p) z at) in omega (arith, r)

-- what stands at a position that there was stood there
earlier : {A : Type 0} (xs ys : List A) (p : ℕ) (x : A) → Keeps xs ys → p < length xs → slice_get ys p ≡ Some x → slice_get xs p ≡ Some x
earlier xs ys p x keeps low at = let w = some-at xs p low in w.1 ∙ (sym (keeps p w.0 w.1) ∙ at)

low-or-high : (p n : ℕ) → (p < n) ⊎ (n ≤ p)
low-or-high p zero = inr (omega arith)
low-or-high zero (suc n) = inl (omega arith)
low-or-high (suc p) (suc n) = elim (low-or-high p n) [ inl low ↦ inl (omega (arith, low)) | inr high ↦ inr (omega (arith, high)) ]

-- ---- what is known

module _ (q : ℕ) where
  pub known-still : (is js : List InterfaceId) (us vs : List (List InterfaceId)) (known : List ((InterfaceId × Vec InterfaceId Global) × ℕ)) → Keeps is js → Keeps us vs → AreKnown q is us known → AreKnown q js vs known
  known-still is js us vs [] keeps keeps-users h = tt
  known-still is js us vs (e ∷ known) keeps keeps-users h = ((h.0.0, keeps e.1 e.0.0 h.0.1, keeps-users e.1 e.0.1.items h.0.2), known-still is js us vs known keeps keeps-users h.1)

-- ---- fewer are left

module _ (m : Collection) where
  left-push : (is : List InterfaceId) (i : InterfaceId) (n : ℕ) → n ≤ length is → left_inside m (is ++ i ∷ []) n ≡ left_inside m is n + count_in m (opener.Interface i)
  unfolding left_inside
  left-push [] i zero low = omega arith
  left-push [] i (suc n) low = absurd (omega (arith, low))
  left-push (x ∷ is) i zero low = let r = left-push is i zero (omega arith) in omega (arith, r)
  left-push (x ∷ is) i (suc n) low = left-push is i n (omega (arith, low))

  left-end : (is : List InterfaceId) → left_inside m is (length is) ≡ 0
  unfolding left_inside
  left-end [] = refl
  left-end (i ∷ is) = left-end is

  -- those that were there, and those behind them
  left-both : (is js : List InterfaceId) (n : ℕ) → Keeps is js → n ≤ length is → left_inside m js n ≡ left_inside m is n + left_inside m js (length is)
  unfolding left_inside
  left-both [] js zero keeps low = let r : left_inside m js 0 ≡ 0 + left_inside m js 0 = omega arith in r
  left-both [] js (suc n) keeps low = absurd (omega (arith, low))
  left-both (i ∷ is) [] n keeps low = absurd (no_some i (keeps 0 i refl))
  left-both (i ∷ is) (j ∷ js) zero keeps low =
      let same : count_in m (opener.Interface j) ≡ count_in m (opener.Interface i) = ap (λ y. count_in m (opener.Interface y)) (some_same j i (keeps 0 i refl)) in
      let r = left-both is js zero (λ p x at. keeps (suc p) x at) (omega arith) in
      omega (arith, same, r)
  left-both (i ∷ is) (j ∷ js) (suc n) keeps low = left-both is js n (λ p x at. keeps (suc p) x at) (omega (arith, low))

  left-at : (xs : List InterfaceId) (n : ℕ) (i : InterfaceId) → slice_get xs n ≡ Some i → left_inside m xs n ≡ count_in m (opener.Interface i) + left_inside m xs (suc n)
  unfolding left_inside
  left-at [] n i at = absurd (no_some i at)
  left-at (x ∷ xs) zero i at = ap (λ y. count_in m (opener.Interface y) + left_inside m xs 0) (some_same x i at)
  left-at (x ∷ xs) (suc n) i at = left-at xs n i at

total-both : (f : Opener → ℕ) (xs ys : List Opener) → total f (xs ++ ys) ≡ total f xs + total f ys
total-both f [] ys = omega arith
total-both f (x ∷ xs) ys = let r = total-both f xs ys in omega (arith, r)

total-push : (f : Opener → ℕ) (es : List (Name × ItemKind)) (e : Name × ItemKind) → total f (opened (es ++ e ∷ [])) ≡ total f (opened es) + total f (opened_by e.1)
total-push f [] e = let r = total-both f (opened_by e.1) [] in omega (arith, r)
total-push f (x ∷ es) e =
    let a = total-both f (opened_by x.1) (opened (es ++ e ∷ [])) in
    let b = total-both f (opened_by x.1) (opened es) in
    let r = total-push f es e in
    omega (arith, a, b, r)

-- ---- one item more

module _ (c m : Collection) (q : ℕ) (is : List InterfaceId) (us : List (List InterfaceId)) (made_of : List InterfaceId) where
  pub placed-first : length us ≡ length is → ArePlaced c m q is us made_of [] is us []
  placed-first counted = record {
    kept = λ p x at. at;
    kept_users = λ p x at. at;
    counted = counted;
    each = refl;
    stand = λ j n k at. absurd (no_some (n, kind.Instance k) at);
    others = λ p k high at. let low = slice_get_within is p k at in absurd (omega (arith, low, high));
    lighter = let e = left-end m is in omega (arith, e);
  }

  module _ (es : List (Name × ItemKind)) (js ks : List InterfaceId) (vs ws : List (List InterfaceId)) (places : List ℕ) (p : ℕ) (was : ArePlaced c m q is us made_of es js vs places) where
    push-counted : (e : Name × ItemKind) → length (places ++ p ∷ []) ≡ length (es ++ e ∷ [])
    push-counted e = let a = length-append places (p ∷ []) in let b = length-append es (e ∷ []) in let same = was.each in omega (arith, a, b, same)

    -- where those that were there stand still
    stand-still : Keeps js ks → Keeps vs ws → (j : ℕ) (n : Name) (k : InterfaceId) → slice_get es j ≡ Some (n, kind.Instance k) → (r : ℕ) × (slice_get (places ++ p ∷ []) j ≡ Some r) × (q < r) × (slice_get ks r ≡ Some k) × (slice_get ws r ≡ Some (instances_of (listed_by c made_of n)))
    stand-still keeps keeps-users j n k at =
        let w = was.stand j n k at in
        (w.0, at-push places p j w.0 w.1, w.2, keeps w.0 k w.3, keeps-users w.0 (instances_of (listed_by c made_of n)) w.4)

    plain-next : (n : Name) (x : ItemKind) → ((i : InterfaceId) → x ≡ kind.Instance i → ⊥) → ks ≡ js → ws ≡ vs → ArePlaced c m q is us made_of (es ++ (n, x) ∷ []) ks ws (places ++ p ∷ [])
    plain-next n x plain same same-users = record {
      kept = λ r k at. keeps-same js ks same r k (was.kept r k at);
      kept_users = λ r k at. keeps-same vs ws same-users r k (was.kept_users r k at);
      counted = ap length same-users ∙ was.counted ∙ ap length (sym same);
      each = push-counted (n, x);
      stand = λ j o k at. elim (push-cases es (n, x) j (o, kind.Instance k) at) [
        | inl old ↦ stand-still (keeps-same js ks same) (keeps-same vs ws same-users) j o k old
        | inr new ↦ absurd (plain k (sym (ap (λ (e : Name × ItemKind). e.1) new.1)))
      ];
      others = λ r k high at.
          let w = was.others r k high (ap (λ l. slice_get l r) (sym same) ∙ at) in
          (w.0, w.1, at-push es (n, x) w.0 (w.1, kind.Instance k) w.2, ap (λ l. slice_get l r) same-users ∙ w.3);
      lighter =
          let e : left_inside m ks (length is) ≡ left_inside m js (length is) = ap (λ l. left_inside m l (length is)) same in
          let a = was.lighter in
          let b = total-push (count_in m) es (n, x) in
          omega (arith, e, a, b);
    }

    instance-next : (n : Name) (i : InterfaceId) → IsItemPlaced q js vs (kind.Instance i) (instances_of (listed_by c made_of n)) ks ws p → ArePlaced c m q is us made_of (es ++ (n, kind.Instance i) ∷ []) ks ws (places ++ p ∷ [])
    instance-next n i put = record {
      kept = λ r k at. keeps r k (was.kept r k at);
      kept_users = λ r k at. keeps-users r k (was.kept_users r k at);
      counted = elim put.1 [
        | inl same ↦ ap length same.1 ∙ was.counted ∙ ap length (sym same.0)
        | inr more ↦
            let a = ap length more.0 ∙ length-append js (i ∷ []) in
            let b = ap length more.1 ∙ length-append vs (instances_of (listed_by c made_of n) ∷ []) in
            let e = was.counted in
            omega (arith, a, b, e)
      ];
      each = push-counted (n, kind.Instance i);
      stand = λ j o k at. elim (push-cases es (n, kind.Instance i) j (o, kind.Instance k) at) [
        | inl old ↦ stand-still keeps keeps-users j o k old
        | inr new ↦
            let here : j ≡ length places = new.0 ∙ sym was.each in
            let name : n ≡ o = sym (ap (λ (e : Name × ItemKind). e.0) new.1) in
            let one : i ≡ k = sym (same-instance k i (ap (λ (e : Name × ItemKind). e.1) new.1)) in
            (p, ap (slice_get (places ++ p ∷ [])) here ∙ at-end places p, put.0.0, put.0.1 ∙ ap Some one, put.0.2 ∙ ap (λ t. Some (instances_of (listed_by c made_of t))) name)
      ];
      others = λ r k high at. elim put.1 [
        | inl same ↦
            let w = was.others r k high (ap (λ l. slice_get l r) (sym same.0) ∙ at) in
            (w.0, w.1, at-push es (n, kind.Instance i) w.0 (w.1, kind.Instance k) w.2, ap (λ l. slice_get l r) same.1 ∙ w.3)
        | inr more ↦ elim (push-cases js i r k (ap (λ l. slice_get l r) (sym more.0) ∙ at)) [
          | inl old ↦
              let w = was.others r k high old in
              (w.0, w.1, at-push es (n, kind.Instance i) w.0 (w.1, kind.Instance k) w.2, keeps-users r (instances_of (listed_by c made_of w.1)) w.3)
          | inr new ↦
              let there : r ≡ length vs = new.0 ∙ sym was.counted in
              (length es, n, at-end es (n, kind.Instance i) ∙ ap (λ t. Some (n, kind.Instance t)) (sym new.1), ap (λ l. slice_get l r) more.1 ∙ ap (slice_get (vs ++ instances_of (listed_by c made_of n) ∷ [])) there ∙ at-end vs (instances_of (listed_by c made_of n)))
        ]
      ];
      lighter =
          let a = was.lighter in
          let b = total-push (count_in m) es (n, kind.Instance i) in
          elim put.1 [
            | inl same ↦ let e : left_inside m ks (length is) ≡ left_inside m js (length is) = ap (λ l. left_inside m l (length is)) same.0 in omega (arith, a, b, e)
            | inr more ↦
                let e : left_inside m ks (length is) ≡ left_inside m (js ++ i ∷ []) (length is) = ap (λ l. left_inside m l (length is)) more.0 in
                let d = left-push m js i (length is) (keeps-length is js was.kept) in
                omega (arith, a, b, d, e)
          ];
    } where
      keeps : Keeps js ks
      keeps = elim put.1 [ inl same ↦ keeps-same js ks same.0 | inr more ↦ keeps-push js ks i more.0 ]

      keeps-users : Keeps vs ws
      keeps-users = elim put.1 [ inl same ↦ keeps-same vs ws same.1 | inr more ↦ keeps-push vs ws (instances_of (listed_by c made_of n)) more.1 ]

      same-instance : (a b : InterfaceId) → kind.Instance a ≡ kind.Instance b → a ≡ b
      same-instance a b e = ap (λ x. interface-of a x) e

    pub placed-next : (e : Name × ItemKind) → IsItemPlaced q js vs e.1 (instances_of (listed_by c made_of e.0)) ks ws p → ArePlaced c m q is us made_of (es ++ e ∷ []) ks ws (places ++ p ∷ [])
    placed-next (n, kind.Instance i) put = instance-next n i put
    placed-next (n, kind.TypeItem t) put = plain-next n (kind.TypeItem t) (λ i e. cc) put.0 put.1
    placed-next (n, kind.Func f) put = plain-next n (kind.Func f) (λ i e. cc) put.0 put.1
    placed-next (n, kind.Component w) put = plain-next n (kind.Component w) (λ i e. cc) put.0 put.1
    placed-next (n, kind.Module y) put = plain-next n (kind.Module y) (λ i e. cc) put.0 put.1
    placed-next (n, kind.Value v) put = plain-next n (kind.Value v) (λ i e. cc) put.0 put.1

-- ---- one opened more

module _ (c m : Collection) (root : InterfaceId) (made_of : List InterfaceId) (wf : IsWellFormed c) where
  pub inside-first : (ws : List InterfaceId) → AreBare m ws → IsAmong ws root → AreInterfaces c made_of → AreInside c m root made_of (root ∷ []) (made_of ∷ []) []
  inside-first ws are among held = record {
    ws = ws;
    are = are;
    counted = refl;
    first = refl;
    first_of = refl;
    bare = first-bare;
    held = first-held;
    opened = λ q j i k is places n here also at there. absurd (no_some places at);
  } where
    first-bare : (q : ℕ) (i : InterfaceId) → slice_get (root ∷ []) q ≡ Some i → IsAmong ws i
    first-bare zero i at = subst (IsAmong ws) (some_same root i at) among
    first-bare (suc q) i at = absurd (no_some i at)

    first-held : (q : ℕ) (is : List InterfaceId) → slice_get (made_of ∷ []) q ≡ Some is → AreInterfaces c is
    first-held zero is at = subst (AreInterfaces c) (some_same made_of is at) held
    first-held (suc q) is at = absurd (no_some is at)

  module _ (is : List InterfaceId) (us : List (List InterfaceId)) (inner : List (List ℕ)) (a : AreInside c m root made_of is us inner) (js : List InterfaceId) (vs : List (List InterfaceId)) (new-inner : List (List ℕ)) (q : ℕ) (here : q ≡ length inner)
      (o : IsOpened c m q is us inner js vs new-inner) where
    abbrev es : List (Name × ItemKind)
    es = interface_exports m o.interface

    more-bare : (j : ℕ) (n : Name) (k : InterfaceId) → slice_get es j ≡ Some (n, kind.Instance k) → IsAmong a.ws k
    more-bare j n k there =
        let among = a.bare q o.interface o.at in
        let it = interface-there m o.interface (a.are.held o.interface among) in
        a.are.inner o.interface k it.0 n among it.1 (ap (λ x. find_name (option_case x [] (λ (y : Interface). y.exports)) n) (sym it.1) ∙ find_name-at es j n (kind.Instance k) o.once there)

    next-bare : (p : ℕ) (k : InterfaceId) → slice_get js p ≡ Some k → IsAmong a.ws k
    next-bare p k there = elim (low-or-high p (length is)) [
      | inl low ↦ a.bare p k (earlier is js p k o.placed.kept low there)
      | inr high ↦ let w = o.placed.others p k high there in more-bare w.0 w.1 k w.2
    ]

    next-held : (p : ℕ) (ks : List InterfaceId) → slice_get vs p ≡ Some ks → AreInterfaces c ks
    next-held p ks there = elim (low-or-high p (length us)) [
      | inl low ↦ a.held p ks (earlier us vs p ks o.placed.kept_users low there)
      | inr high ↦
          let within = slice_get_within vs p ks there in
          let old = a.counted in
          let new = o.placed.counted in
          let k = some-at js p (omega (arith, within, new)) in
          let w = o.placed.others p k.0 (omega (arith, high, old)) k.1 in
          subst (AreInterfaces c) (one_some (slice_get vs p) (instances_of (listed_by c o.made_of w.1)) ks w.3 there) (listed-held c wf o.made_of w.1 (a.held q o.made_of o.at_users))
    ]

    next-opened : (p j : ℕ) (w k : InterfaceId) (ks : List InterfaceId) (places : List ℕ) (n : Name) → slice_get js p ≡ Some w → slice_get vs p ≡ Some ks → slice_get (inner ++ o.places ∷ []) p ≡ Some places
        → slice_get (interface_exports m w) j ≡ Some (n, kind.Instance k) → (r : ℕ) × (slice_get places j ≡ Some r) × (p < r) × (slice_get js r ≡ Some k) × (slice_get vs r ≡ Some (instances_of (listed_by c ks n)))
    next-opened p j w k ks places n there also given listed =
        let within = slice_get_within is q o.interface o.at in
        let counted = a.counted in
        elim (push-cases inner o.places p places given) [
          | inl old ↦
              let low = slice_get_within inner p places old in
              let was = a.opened p j w k ks places n (earlier is js p w o.placed.kept (omega (arith, low, within, here)) there) (earlier us vs p ks o.placed.kept_users (omega (arith, low, within, counted, here)) also) old listed in
              (was.0, was.1, was.2, o.placed.kept was.0 k was.3, o.placed.kept_users was.0 (instances_of (listed_by c ks n)) was.4)
          | inr new ↦
              let place : p ≡ q = new.0 ∙ sym here in
              let w-is : o.interface ≡ w = one_some (slice_get js q) o.interface w (o.placed.kept q o.interface o.at) (ap (slice_get js) (sym place) ∙ there) in
              let ks-is : o.made_of ≡ ks = one_some (slice_get vs q) o.made_of ks (o.placed.kept_users q o.made_of o.at_users) (ap (slice_get vs) (sym place) ∙ also) in
              let r = o.placed.stand j n k (ap (λ x. slice_get (interface_exports m x) j) w-is ∙ listed) in
              let behind = r.2 in
              (r.0, ap (λ l. slice_get l j) new.1 ∙ r.1, omega (arith, place, behind), r.3, r.4 ∙ ap (λ l. Some (instances_of (listed_by c l n))) ks-is)
        ]

    pub inside-next : AreInside c m root made_of js vs new-inner
    inside-next = subst (λ l. AreInside c m root made_of js vs l) (sym o.inner_more) (record {
      ws = a.ws;
      are = a.are;
      counted = o.placed.counted;
      first = o.placed.kept 0 root a.first;
      first_of = o.placed.kept_users 0 made_of a.first_of;
      bare = next-bare;
      held = next-held;
      opened = next-opened;
    })

module _ (c m : Collection) (q : ℕ) (is : List InterfaceId) (us : List (List InterfaceId)) (inner : List (List ℕ)) (js : List InterfaceId) (vs : List (List InterfaceId)) (places : List (List ℕ)) (o : IsOpened c m q is us inner js vs places) where
  pub opened-counted : length places ≡ length inner + 1
  opened-counted = ap length o.inner_more ∙ length-append inner (o.places ∷ [])

  pub opened-within : suc q ≤ length js
  opened-within = let low = slice_get_within js q o.interface (o.placed.kept q o.interface o.at) in omega (arith, low)

pub opened-smaller : (c m : Collection) (root : InterfaceId) (made_of : List InterfaceId) → IsWellFormed m → (q : ℕ) (is : List InterfaceId) (us : List (List InterfaceId)) (inner : List (List ℕ)) (js : List InterfaceId) (vs : List (List InterfaceId)) (places : List (List ℕ))
    → AreInside c m root made_of is us inner → IsOpened c m q is us inner js vs places → left_inside m js (suc q) < left_inside m is q
opened-smaller c m root made_of wf q is us inner js vs places a o =
    let there = a.are.held o.interface (a.bare q o.interface o.at) in
    let low = slice_get_within is q o.interface o.at in
    let both = left-both m is js (suc q) o.placed.kept (omega (arith, low)) in
    let here = left-at m is q o.interface o.at in
    let less = o.placed.lighter in
    let count : total (count_in m) (opened (interface_exports m o.interface)) < count_in m (opener.Interface o.interface) = count-inner m wf (opener.Interface o.interface) (grind (arith, there)) in
    omega (arith, both, here, less, count)
