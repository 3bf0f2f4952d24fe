-- Items of the interfaces of a collection are of the collection.
use Rattle.std.specs.Prelude.{◌==◌, ◌&&◌, is_none}
use Rattle.std.proofs.Common.{ℕ, zero, suc, ◌≡◌, ◌<◌, Bool, true, false, not, List, [], ◌∷◌, length, Contains, Option, Some, None, slice_get, refl, ap, sym, subst, arith}
use Rattle.std.proofs.lemmas.Bool.{eqb-true}
use Rattle.wac_types_shapes.specs.primitives.Name.{Name, find_name}
use Rattle.wac_types_shapes.specs.shapes.Kinds.{kind_type}
use Rattle.wac_types_shapes.specs.declared.shapes.component.Interface.{Interface}
use Rattle.wac_types_shapes.specs.declared.shapes.component.InterfaceId.{InterfaceId}
use Rattle.wac_types_shapes.specs.declared.shapes.component.ResourceId.{ResourceId}
use Rattle.wac_types_shapes.specs.declared.shapes.component.UsedType.{UsedType}
use Rattle.wac_types_shapes.specs.declared.shapes.component.ItemKind.{ItemKind}
use Rattle.wac_types_shapes.specs.declared.shapes.component.ItemKind.TheVariants as kind
use Rattle.wac_types_shapes.specs.declared.shapes.component.«Type».{«Type» as AnyType}
use Rattle.wac_types_shapes.specs.declared.shapes.component.«Type».TheVariants as ty
use Rattle.wac_types_collection.specs.declared.collection.collection.Held.{Held}
use Rattle.wac_types_collection.specs.collection.Collection.{Collection, IsWellFormed, IsBefore, AreBefore, holds_type, item_at, item_of, kind_types, used_types}
use Rattle.wac_types_collection.specs.collection.Bound.{is_alias, lists_own, own_name}
use Rattle.wac_types_collection.proofs.lemmas.collection.Growth.{type_within}
use Rattle.wac_types_collection.proofs.lemmas.collection.Steady.{all_right}
use Rattle.wac_encode_scopes.specs.private.Telling.{is_one_of}
use Rattle.wac_encode_scopes.proofs.Owned.{own-found}
use Rattle.wac_encode_interfaces.proofs.Bound.{any-in, in-any}

pub no-some : {A : Type 0} → (x : A) → None ≡ Some x → ⊥
no-some x is = cc

pub one-some : {A : Type 0} → (x y : A) → Some x ≡ Some y → x ≡ y
one-some x y is = cc

pub no-true : false ≡ true → ⊥
no-true h = cc

pub id-is : (q r : ResourceId) → (q.0 == r.0) ≡ true → q ≡ r
id-is q r h = ap (λ (k : ℕ). record { 0 = k }) (eqb-true q.0 r.0 h)

-- the items of an interface are of the collection

pub before-at : (c : Collection) (n : ℕ) (es : List (Name × ItemKind)) (i : ℕ) (x : Name × ItemKind) → AreBefore c n (kind_types es) → slice_get es i ≡ Some x → IsBefore c n (kind_type x.1)
before-at c n [] i x h at = absurd (no-some x at)
before-at c n (y ∷ es) zero x h at = subst (λ (z : Name × ItemKind). IsBefore c n (kind_type z.1)) (one-some y x at) h.0
before-at c n (y ∷ es) (suc i) x h at = before-at c n es i x h.1 at

pub and-left : (a b : Bool) → (a && b) ≡ true → a ≡ true
and-left true b h = refl
and-left false b h = h

pub own-resource : (c : Collection) (uses : List (Name × UsedType)) (r : ResourceId) (x : Name × ItemKind) → lists_own c uses r x ≡ true → kind_type x.1 ≡ ty.Resource r
own-resource c uses r (n, kind.TypeItem (ty.Resource q)) h = ap ty.Resource (id-is q r (and-left (q.0 == r.0) (not (is_alias c q) && is_none (find_name uses n)) h))
own-resource c uses r (n, kind.TypeItem (ty.Func f)) h = absurd (no-true h)
own-resource c uses r (n, kind.TypeItem (ty.Value v)) h = absurd (no-true h)
own-resource c uses r (n, kind.TypeItem (ty.Interface i)) h = absurd (no-true h)
own-resource c uses r (n, kind.TypeItem (ty.World w)) h = absurd (no-true h)
own-resource c uses r (n, kind.TypeItem (ty.Module m)) h = absurd (no-true h)
own-resource c uses r (n, kind.Func f) h = absurd (no-true h)
own-resource c uses r (n, kind.Instance i) h = absurd (no-true h)
own-resource c uses r (n, kind.Component w) h = absurd (no-true h)
own-resource c uses r (n, kind.Module m) h = absurd (no-true h)
own-resource c uses r (n, kind.Value v) h = absurd (no-true h)

pub item-held : (c : Collection) → IsWellFormed c → (i : InterfaceId) (it : Interface) → item_at c.interfaces i.0 ≡ Some it → (k : ℕ) (x : Name × ItemKind) → slice_get it.exports k ≡ Some x → holds_type c (kind_type x.1) ≡ true
item-held c wf i it at k x there = by (slice_get c.interfaces i.0) refl at
  where
    by : (o : Option (Held Interface)) → slice_get c.interfaces i.0 ≡ o → item_of o ≡ Some it → holds_type c (kind_type x.1) ≡ true
    by None is e = absurd (no-some it e)
    by (Some h) is e =
        let before = all_right (IsBefore c h.before) (used_types h.item.uses) (kind_types h.item.exports) (wf.interfaces i.0 h is).1 in
        let exports = subst (λ (y : Interface). AreBefore c h.before (kind_types y.exports)) (one-some h.item it e) before in
        type_within c h.before (kind_type x.1) (before-at c h.before it.exports k x exports there)

pub own-held : (c : Collection) → IsWellFormed c → (i : InterfaceId) (it : Interface) → item_at c.interfaces i.0 ≡ Some it → (r : ResourceId) (n : Name) → own_name c it.uses it.exports r ≡ Some n → holds_type c (ty.Resource r) ≡ true
own-held c wf i it at r n own =
    let found = own-found c it.uses it.exports r n own in
    subst (λ (t : AnyType). holds_type c t ≡ true) (own-resource c it.uses r found.1 found.3) (item-held c wf i it at found.0 found.1 found.2)

pub interface-there : (xs : List (Held Interface)) (i : ℕ) → i < length xs → (it : Interface) × (item_at xs i ≡ Some it)
interface-there [] i low = absurd (omega (arith, low))
interface-there (x ∷ xs) zero low = (x.item, refl)
interface-there (x ∷ xs) (suc i) low = interface-there xs i (omega (arith, low))

-- sets of resources

pub one-of : (rs : List ResourceId) (r : ResourceId) → is_one_of rs r ≡ true → Contains rs r
one-of rs r h = let found = any-in (λ (q : ResourceId). r.0 == q.0) rs h in subst (λ (q : ResourceId). Contains rs q) (sym (id-is r found.0 found.2)) found.1

pub of-one : (rs : List ResourceId) (r : ResourceId) → Contains rs r → is_one_of rs r ≡ true
of-one rs r there = in-any (λ (q : ResourceId). r.0 == q.0) rs r there (let e : (r.0 == r.0) ≡ true = grind arith in e)
