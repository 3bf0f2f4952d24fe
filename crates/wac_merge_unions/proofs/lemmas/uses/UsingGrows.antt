-- Interfaces with uses, while the collection grows and the instances inside get theirs.
use Rattle.std.proofs.Common.{◌≡◌, ℕ, Bool, cond, zero, suc, ◌+◌, ◌<◌, ◌≤◌, true, false, List, [], ◌∷◌, ◌++◌, length, take, slice_get, Option, Some, None, IsSome, inl, inr, refl, sym, ap, ◌∙◌, subst, arith}
use Rattle.std.proofs.Math.ListN.{set}
use Rattle.std.proofs.lemmas.Bool.{false≢true}
use Rattle.std.proofs.lemmas.Option.{slice_get_within}
use Rattle.wac_types_shapes.specs.primitives.Name.{Name, find_name, option_case, same_name}
use Rattle.wac_types_shapes.specs.declared.shapes.component.Interface.{Interface}
use Rattle.wac_types_shapes.specs.declared.shapes.component.InterfaceId.{InterfaceId}
use Rattle.wac_types_shapes.specs.declared.shapes.component.UsedType.{UsedType}
use Rattle.wac_types_shapes.specs.declared.shapes.component.ItemKind.{ItemKind}
use Rattle.wac_types_shapes.specs.declared.shapes.component.ItemKind.TheVariants as kind
use Rattle.wac_types_shapes.proofs.lemmas.shapes.Names.{take_at}
use Rattle.wac_types_collection.specs.collection.Bound.{own_name}
use Rattle.wac_types_collection.specs.collection.Collection.{Collection, HasInterface, IsWellFormed, holds_all, interface_exports, item_at, item_of, kind_types, IsKeptBy}
use Rattle.wac_types_collection.specs.declared.collection.collection.Held.{Held}
use Rattle.wac_merge_classes.specs.entries.Classes.{is_instance}
use Rattle.wac_merge_classes.proofs.lemmas.entries.Lists.{set-cases, some-at}
use Rattle.wac_merge_classes.proofs.lemmas.entries.Places.{exports_held}
use Rattle.wac_merge_classes.proofs.lemmas.terms.Found.{no_some, one_some, some_same}
use Rattle.wac_merge_unions.specs.uses.United.{instances_of, listed_by}
use Rattle.wac_merge_unions.specs.uses.Using.{AreAlike, AreBare, AreInside, AreUsingFrom, HaveUses, IsAlike, IsAmong, IsUsing, IsWithUses, other_instance, placed, placed_from, same_item, with}
use Rattle.wac_merge_unions.proofs.lemmas.uses.Growing.{interface-held, interface-there, item-kept, own-still}

-- an interface with uses is held
pub using-there : (c m : Collection) (f : List InterfaceId → List (Name × ItemKind) → List (Name × UsedType)) (i w : InterfaceId) (is : List InterfaceId) → IsUsing c m f i w is → w.0 < length m.interfaces
using-there c m f i w is (with _ _ _ it exports at there own counted others alike inner) = by (slice_get m.interfaces w.0) refl there where
  by : (o : Option (Held Interface)) → slice_get m.interfaces w.0 ≡ o → item_of o ≡ Some (record { id = it.id; uses = f is exports; exports = exports }) → w.0 < length m.interfaces
  by None place e = absurd (no_some (record { id = it.id; uses = f is exports; exports = exports }) e)
  by (Some y) place e = slice_get_within m.interfaces w.0 y place

-- it stays so
module _ (d c m : Collection) (wf : IsWellFormed c) (x : IsKeptBy c m) (f g : List InterfaceId → List (Name × ItemKind) → List (Name × UsedType))
    (same : (is : List InterfaceId) (exports : List (Name × ItemKind)) → holds_all c (kind_types exports) ≡ true → f is exports ≡ g is exports) where
  pub still-using : (i w : InterfaceId) (is : List InterfaceId) → IsUsing d c f i w is → IsUsing d m g i w is
  still-using i w is (with _ _ _ it exports at there own counted others alike inner) =
      let held = exports_held c wf w (record { id = it.id; uses = f is exports; exports = exports }) there in
      let those : f is exports ≡ g is exports = same is exports held in
      with i w is it exports (item-kept c m wf x i it at)
      (item-kept c m wf x w (record { id = it.id; uses = f is exports; exports = exports }) there ∙ (λ j. Some (record { id = it.id; uses = those j; exports = exports })))
      (λ r. ap (λ l. own_name m l exports r) (sym those) ∙ (own-still c m wf x (f is exports) exports r held ∙ (own r ∙ sym (own-still c m wf x it.uses it.exports r (exports_held c wf i it at)))))
      counted others alike (λ j n k l here also. still-using k l (instances_of (listed_by d is n)) (inner j n k l here also))

-- interfaces that use no others stay so
pub bare-still : (c m : Collection) → IsWellFormed c → IsKeptBy c m → (ws : List InterfaceId) → AreBare c ws → AreBare m ws
bare-still c m wf x ws are = record {
  held = λ w among. interface-held c m wf x w (are.held w among);
  unused = λ w it among at. let s = same w it among at in subst (λ (y : Interface). y.uses ≡ []) s.2 (are.unused w s.0 among s.1);
  inner = λ w i it n among at listed. let s = same w it among at in are.inner w i s.0 n among s.1 (ap (λ (y : Interface). find_name y.exports n) s.2 ∙ listed);
} where
  same : (w : InterfaceId) (it : Interface) → IsAmong ws w → item_at m.interfaces w.0 ≡ Some it → (was : Interface) × (item_at c.interfaces w.0 ≡ Some was) × (was ≡ it)
  same w it among at = let t = interface-there c w (are.held w among) in (t.0, t.1, one_some (item_at m.interfaces w.0) t.0 it (item-kept c m wf x w t.0 t.1) at)

-- ---- items with those at their places

taken-length : {A : Type 0} (xs : List A) (n : ℕ) → n ≤ length xs → length (take n xs) ≡ n
taken-length [] zero low = refl
taken-length [] (suc n) low = absurd (omega (arith, low))
taken-length (x ∷ xs) zero low = refl
taken-length (x ∷ xs) (suc n) low = ap suc (taken-length xs n (omega (arith, low)))

module _ (places : List ℕ) (done : List InterfaceId) where
  pub placed-at : (es : List (Name × ItemKind)) (b j : ℕ) (e : Name × ItemKind) → slice_get es j ≡ Some e → slice_get (placed_from places done b es) j ≡ Some (e.0, placed places done (b + j) e.1)
  placed-at [] b j e at = absurd (no_some e at)
  placed-at (x ∷ es) b zero e at =
      let plus : b ≡ b + 0 = omega arith in
      let same = some_same x e at in
      (λ i. Some ((same i).0, placed places done (plus i) (same i).1))
  placed-at (x ∷ es) b (suc j) e at = let plus : suc b + j ≡ b + suc j = omega arith in placed-at es (suc b) j e at ∙ ap (λ p. Some (e.0, placed places done p e.1)) plus

  pub placed-length : (es : List (Name × ItemKind)) (b : ℕ) → length (placed_from places done b es) ≡ length es
  placed-length [] b = refl
  placed-length (x ∷ es) b = ap suc (placed-length es (suc b))

  pub placed-push : (es : List (Name × ItemKind)) (b : ℕ) (e : Name × ItemKind) → placed_from places done b (es ++ e ∷ []) ≡ placed_from places done b es ++ (e.0, placed places done (b + length es) e.1) ∷ []
  placed-push [] b e = let plus : b ≡ b + 0 = omega arith in ap (λ p. (e.0, placed places done p e.1) ∷ []) plus
  placed-push (x ∷ es) b e = let plus : suc b + length es ≡ b + suc (length es) = omega arith in ap (λ l. (x.0, placed places done b x.1) ∷ l) (placed-push es (suc b) e ∙ ap (λ p. placed_from places done (suc b) es ++ (e.0, placed places done p e.1) ∷ []) plus)

  pub placed-next : (es : List (Name × ItemKind)) (j : ℕ) (e : Name × ItemKind) → slice_get es j ≡ Some e → placed_from places done 0 (take (suc j) es) ≡ placed_from places done 0 (take j es) ++ (e.0, placed places done j e.1) ∷ []
  placed-next es j e at =
      let count = taken-length es j (let low = slice_get_within es j e at in omega (arith, low)) in
      let place : 0 + length (take j es) ≡ j = omega (arith, count) in
      ap (placed_from places done 0) (take_at es j e at) ∙ (placed-push (take j es) 0 e ∙ ap (λ p. placed_from places done 0 (take j es) ++ (e.0, placed places done p e.1) ∷ []) place)

  -- a name under which nothing stands
  pub placed-none : (es : List (Name × ItemKind)) (b : ℕ) (n : Name) → find_name es n ≡ None → IsSome (find_name (placed_from places done b es) n) → ⊥
  placed-none [] b n none some = false≢true some
  placed-none (x ∷ es) b n none some = by (same_name n x.0) none some (placed-none es (suc b) n) where
    by : (t : Bool) → cond t (Some x.1) (find_name es n) ≡ None → IsSome (cond t (Some (placed places done b x.1)) (find_name (placed_from places done (suc b) es) n))
        → (find_name es n ≡ None → IsSome (find_name (placed_from places done (suc b) es) n) → ⊥) → ⊥
    by true h s rest = no_some x.1 (sym h)
    by false h s rest = rest h s

  pub placed-there : (es : List (Name × ItemKind)) (j : ℕ) (e : Name × ItemKind) → slice_get es j ≡ Some e → slice_get (placed_from places done 0 es) j ≡ Some (e.0, placed places done j e.1)
  placed-there es j e at = let plus : 0 + j ≡ j = omega arith in placed-at es 0 j e at ∙ ap (λ p. Some (e.0, placed places done p e.1)) plus

  plain-placed : (p : ℕ) (k : ItemKind) → is_instance k ≡ false → placed places done p k ≡ k
  plain-placed p (kind.Instance i) plain = absurd (false≢true (sym plain))
  plain-placed p (kind.TypeItem t) plain = refl
  plain-placed p (kind.Func f) plain = refl
  plain-placed p (kind.Component w) plain = refl
  plain-placed p (kind.Module y) plain = refl
  plain-placed p (kind.Value v) plain = refl

  still-instance : (p : ℕ) (k : ItemKind) → is_instance k ≡ true → is_instance (placed places done p k) ≡ true
  still-instance p (kind.Instance i) is = refl
  still-instance p (kind.TypeItem t) is = absurd (false≢true is)
  still-instance p (kind.Func f) is = absurd (false≢true is)
  still-instance p (kind.Component w) is = absurd (false≢true is)
  still-instance p (kind.Module y) is = absurd (false≢true is)
  still-instance p (kind.Value v) is = absurd (false≢true is)

  placed-is : (j p : ℕ) (k l : InterfaceId) → slice_get places j ≡ Some p → slice_get done p ≡ Some l → placed places done j (kind.Instance k) ≡ kind.Instance l
  placed-is j p k l here there =
      ap (λ o. kind.Instance (option_case o k (λ q. option_case (slice_get done q) k (λ x. x)))) here ∙ ap (λ o. kind.Instance (option_case o k (λ x. x))) there

  alike-from : (m : Collection) (es : List (Name × ItemKind)) (b : ℕ) → ((j : ℕ) (n : Name) (k : InterfaceId) → slice_get es j ≡ Some (n, kind.Instance k) → (l : InterfaceId) × (placed places done (b + j) (kind.Instance k) ≡ kind.Instance l) × HasInterface m l)
      → AreAlike m es (placed_from places done b es)
  alike-from m [] b each = tt
  alike-from m ((n, k) ∷ es) b each = (here k (λ i is. each 0 n i (ap (λ x. Some (n, x)) is)), alike-from m es (suc b) (λ j o i at. let plus : suc b + j ≡ b + suc j = omega arith in let w = each (suc j) o i at in (w.0, ap (λ p. placed places done p (kind.Instance i)) plus ∙ w.1, w.2))) where
    here : (k : ItemKind) → ((i : InterfaceId) → k ≡ kind.Instance i → (l : InterfaceId) × (placed places done (b + 0) (kind.Instance i) ≡ kind.Instance l) × HasInterface m l) → IsAlike m (n, k) (n, placed places done b k)
    here (kind.Instance i) has =
        let w = has i refl in
        let plus : b ≡ b + 0 = omega arith in
        subst (λ x. IsAlike m (n, kind.Instance i) (n, x)) (sym (ap (λ p. placed places done p (kind.Instance i)) plus ∙ w.1)) (other_instance n i w.0 w.2)
    here (kind.TypeItem t) has = same_item (n, kind.TypeItem t)
    here (kind.Func f) has = same_item (n, kind.Func f)
    here (kind.Component w) has = same_item (n, kind.Component w)
    here (kind.Module y) has = same_item (n, kind.Module y)
    here (kind.Value v) has = same_item (n, kind.Value v)

  module _ (c m : Collection) (f : List InterfaceId → List (Name × ItemKind) → List (Name × UsedType)) (is : List InterfaceId) where
    pub alike-placed : (es : List (Name × ItemKind)) → HaveUses c m f is es places done → AreAlike m es (placed_from places done 0 es)
    alike-placed es have = alike-from m es 0 (λ j n k at. let w = have j n k at in let plus : 0 + j ≡ j = omega arith in (w.1, ap (λ p. placed places done p (kind.Instance k)) plus ∙ placed-is j w.0 k w.1 w.2 w.3, using-there c m f k w.1 (instances_of (listed_by c is n)) w.4))

    -- an interface with uses and items whose instances have theirs
    pub using-from : (i w : InterfaceId) (it : Interface) → item_at m.interfaces i.0 ≡ Some it → HaveUses c m f is it.exports places done
        → IsWithUses m i w (placed_from places done 0 it.exports) (f is (placed_from places done 0 it.exports)) → IsUsing c m f i w is
    using-from i w it at have x =
        let exports = placed_from places done 0 it.exports in
        let same : it ≡ x.interface = one_some (item_at m.interfaces i.0) it x.interface at x.before in
        let other = sym same in
        with i w is it exports at
        (x.there ∙ (λ j. Some (record { id = (other j).id; uses = f is exports; exports = exports })))
        (λ r. x.own r ∙ ap (λ (y : Interface). own_name m y.uses y.exports r) (sym same))
        (placed-length it.exports 0)
        (λ j a b here there plain. one_some (slice_get exports j) b (a.0, placed places done j a.1) there (placed-there it.exports j a here) ∙ ap (λ k. (a.0, k)) (plain-placed j a.1 plain))
        (λ j a b here there is-instance.
        let same-b : b ≡ (a.0, placed places done j a.1) = one_some (slice_get exports j) b (a.0, placed places done j a.1) there (placed-there it.exports j a here) in
        (ap (λ (y : Name × ItemKind). y.0) same-b, ap (λ (y : Name × ItemKind). is_instance y.1) same-b ∙ still-instance j a.1 is-instance))
        (λ j n k l here there.
        let u = have j n k here in
        let same-b : ◌≡◌ {A = Name × ItemKind} (n, kind.Instance u.1) (n, kind.Instance l) =
        ap (λ z. (n, z)) (sym (placed-is j u.0 k u.1 u.2 u.3)) ∙ sym (one_some (slice_get exports j) (n, kind.Instance l) (n, placed places done j (kind.Instance k)) there (placed-there it.exports j (n, kind.Instance k) here)) in
        subst (λ y. IsUsing c m f k y (instances_of (listed_by c is n))) (ap (λ (y : Name × ItemKind). interface-of u.1 y.1) same-b) u.4) where
          interface-of : InterfaceId → ItemKind → InterfaceId
          interface-of d (kind.Instance y) = y
          interface-of d y = d

-- ---- from the innermost on

module _ (c was m : Collection) (f : List InterfaceId → List (Name × ItemKind) → List (Name × UsedType)) (root : InterfaceId) (made_of : List InterfaceId) (is : List InterfaceId) (us : List (List InterfaceId)) (inner : List (List ℕ))
    (a : AreInside c was root made_of is us inner) (done : List InterfaceId) (counted : length done ≡ length is) (q : ℕ) (have : AreUsingFrom c m f is us (suc q) done) where
  pub have-uses : (i : InterfaceId) (js : List InterfaceId) (places : List ℕ) → slice_get is q ≡ Some i → slice_get us q ≡ Some js → slice_get inner q ≡ Some places → interface_exports m i ≡ interface_exports was i
      → HaveUses c m f js (interface_exports m i) places done
  have-uses i js places at users given same j n k listed =
      let o = a.opened q j i k js places n at users given (ap (λ l. slice_get l j) (sym same) ∙ listed) in
      let within = slice_get_within is o.0 k o.3 in
      let l = some-at done o.0 (omega (arith, within, counted)) in
      let behind = o.2 in
      (o.0, l.0, o.1, l.1, have o.0 k l.0 (instances_of (listed_by c js n)) (omega (arith, behind)) o.3 o.4 l.1)

pub using-next : (c m : Collection) (f : List InterfaceId → List (Name × ItemKind) → List (Name × UsedType)) (is : List InterfaceId) (us : List (List InterfaceId)) (done : List InterfaceId) (q : ℕ) (i w : InterfaceId) (js : List InterfaceId)
    → slice_get is q ≡ Some i → slice_get us q ≡ Some js → IsUsing c m f i w js → AreUsingFrom c m f is us (suc q) done → AreUsingFrom c m f is us q (set done q w)
using-next c m f is us done q i w js at users new have p k x ks low here also there = elim (set-cases done q w p x there) [
  | inl one ↦
      let place = one.0 in
      let k-is : i ≡ k = one_some (slice_get is q) i k at (ap (slice_get is) (sym place) ∙ here) in
      let ks-is : js ≡ ks = one_some (slice_get us q) js ks users (ap (slice_get us) (sym place) ∙ also) in
      subst (λ y. IsUsing c m f k y ks) (sym one.1) (subst (λ y. IsUsing c m f k w y) ks-is (subst (λ y. IsUsing c m f y w js) k-is new))
  | inr other ↦ have p k x ks (above p other.0 low) here also other.1
] where
  above : (p : ℕ) → (p ≡ q → ⊥) → q ≤ p → suc q ≤ p
  above p ne low = omega (arith, ne, low)

-- an interface that was added with uses, and with those of its instances
pub using-placed : (d c m : Collection) → IsWellFormed c → IsKeptBy c m → (f g : List InterfaceId → List (Name × ItemKind) → List (Name × UsedType)) → ((is : List InterfaceId) (exports : List (Name × ItemKind)) → holds_all c (kind_types exports) ≡ true → f is exports ≡ g is exports)
    → (places : List ℕ) (done is : List InterfaceId) (i w : InterfaceId) (it : Interface) → item_at c.interfaces i.0 ≡ Some it → HaveUses d c f is (interface_exports c i) places done
    → (exports : List (Name × ItemKind)) → exports ≡ placed_from places done 0 it.exports → IsWithUses m i w exports (g is exports) → IsUsing d m g i w is
using-placed d c m wf x f g same places done is i w it at have exports placed-as with-these =
    let listed : interface_exports c i ≡ it.exports = ap (λ o. option_case o [] (λ (y : Interface). y.exports)) at in
    using-from places done d m g is i w it (item-kept c m wf x i it at)
    (λ j n k here.
    let u = have j n k (ap (λ l. slice_get l j) listed ∙ here) in
    (u.0, u.1, u.2, u.3, still-using d c m wf x f g same k u.1 (instances_of (listed_by d is n)) u.4))
    (subst (λ es. IsWithUses m i w es (g is es)) placed-as with-these)
