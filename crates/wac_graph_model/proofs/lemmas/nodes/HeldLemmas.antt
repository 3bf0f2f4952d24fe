-- What a held interface or world lists is held.
use Rattle.std.proofs.Common.{◌≡◌, ℕ, zero, suc, ◌<◌, true, List, [], ◌∷◌, ◌++◌, length, refl, ap, ◌∙◌, sym, arith, Option, Some, None}
use Rattle.std.specs.Prelude.{slice_get, nat_lt}
use Rattle.std.proofs.lemmas.Bool.Decides.{nat_tests}
use Rattle.std.proofs.lemmas.Option.{slice_get_within}
use Rattle.wac_types_shapes.specs.primitives.Name.{Name}
use Rattle.wac_types_collection.specs.collection.Collection.{Collection, IsWellFormed, IsBefore, AddedBefore, AreBefore, holds_type, kind_types, used_types, item_of, item_at}
use Rattle.wac_types_shapes.specs.shapes.Kinds.{kind_type}
use Rattle.wac_types_collection.specs.declared.collection.collection.Held.{Held}
use Rattle.wac_types_shapes.specs.declared.shapes.component.Interface.{Interface}
use Rattle.wac_types_shapes.specs.declared.shapes.component.World.{World}
use Rattle.wac_types_shapes.specs.declared.shapes.component.ItemKind.{ItemKind}
use Rattle.wac_types_shapes.specs.declared.shapes.component.ValueType.TheVariants as val
use Rattle.wac_types_shapes.specs.declared.shapes.component.«Type».{«Type» as AnyType}
use Rattle.wac_types_shapes.specs.declared.shapes.component.«Type».TheVariants as ty

module _ (c : Collection) (n : ℕ) where
  lt_true : (k m : ℕ) → k < m → nat_lt k m ≡ true
  lt_true k m h = grind (arith, nat_tests)

  added : {A : Type 0} (xs : List (Held A)) (i : ℕ) → AddedBefore n (slice_get xs i) → nat_lt i (length xs) ≡ true
  added {A} xs i h = split (slice_get xs i) refl h where
    split : (o : Option (Held A)) → slice_get xs i ≡ o → AddedBefore n o → nat_lt i (length xs) ≡ true
    split None _ wrong = absurd wrong
    split (Some x) is _ = lt_true i (length xs) (slice_get_within xs i x is)

  held_before : (t : AnyType) → IsBefore c n t → holds_type c t ≡ true
  held_before (ty.Resource r) h = added c.resources r.0 h
  held_before (ty.Func f) h = added c.funcs f.0 h
  held_before (ty.Value (val.Primitive p)) h = refl
  held_before (ty.Value (val.Borrow r)) h = added c.resources r.0 h
  held_before (ty.Value (val.Own r)) h = added c.resources r.0 h
  held_before (ty.Value (val.Defined d)) h = added c.defined d.0 h
  held_before (ty.Interface i) h = added c.interfaces i.0 h
  held_before (ty.World w) h = added c.worlds w.0 h
  held_before (ty.Module m) h = added c.modules m.0 h

  behind : (ts us : List AnyType) → AreBefore c n (ts ++ us) → AreBefore c n us
  behind [] us h = h
  behind (t ∷ ts) us h = behind ts us h.1

  in_front : (ts us : List AnyType) → AreBefore c n (ts ++ us) → AreBefore c n ts
  in_front [] us h = tt
  in_front (t ∷ ts) us h = (h.0, in_front ts us h.1)

  pub listed_before : (es : List (Name × ItemKind)) → AreBefore c n (kind_types es) → (j : ℕ) (e : Name × ItemKind) → slice_get es j ≡ Some e → holds_type c (kind_type e.1) ≡ true
  listed_before [] h j e at = cc
  listed_before (x ∷ es) h zero e at = let same : x ≡ e = cc in ap (λ (y : Name × ItemKind). holds_type c (kind_type y.1)) (sym same) ∙ held_before (kind_type x.1) h.0
  listed_before (x ∷ es) h (suc j) e at = listed_before es h.1 j e at

the_held : {A : Type 0} (xs : List (Held A)) (i : ℕ) (x : A) → item_at xs i ≡ Some x → (h : Held A) × (slice_get xs i ≡ Some h) × (h.item ≡ x)
the_held {A} xs i x at = split (slice_get xs i) refl at where
  split : (o : Option (Held A)) → slice_get xs i ≡ o → item_of o ≡ Some x → (h : Held A) × (slice_get xs i ≡ Some h) × (h.item ≡ x)
  split None _ wrong = cc
  split (Some h) is same = (h, is, cc)

pub exports_held : (c : Collection) → IsWellFormed c → (i : ℕ) (it : Interface) → item_at c.interfaces i ≡ Some it → (j : ℕ) (e : Name × ItemKind) → slice_get it.exports j ≡ Some e → holds_type c (kind_type e.1) ≡ true
exports_held c w i it at j e there =
    let (h, here, same) = the_held c.interfaces i it at in
    listed_before c h.before h.item.exports (behind c h.before (used_types h.item.uses) (kind_types h.item.exports) (w.interfaces i h here).1) j e (ap (λ (x : Interface). slice_get x.exports j) same ∙ there)

pub imports_held : (c : Collection) → IsWellFormed c → (i : ℕ) (it : World) → item_at c.worlds i ≡ Some it → (j : ℕ) (e : Name × ItemKind) → slice_get it.imports j ≡ Some e → holds_type c (kind_type e.1) ≡ true
imports_held c w i it at j e there =
    let (h, here, same) = the_held c.worlds i it at in
    listed_before c h.before h.item.imports (in_front c h.before (kind_types h.item.imports) (kind_types h.item.exports) (behind c h.before (used_types h.item.uses) (kind_types h.item.imports ++ kind_types h.item.exports) (w.worlds i h here).1)) j e (ap (λ (x : World). slice_get x.imports j) same ∙ there)
