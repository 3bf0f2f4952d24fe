-- Uses that are kept may be used, and as many as are read are kept.
use Rattle.std.proofs.Common.{◌≡◌, ℕ, zero, suc, Bool, true, false, cond, is_some, List, [], ◌∷◌, ◌++◌, fold, take, length, slice_get, Option, Some, None, refl, sym, ap, ◌∙◌, subst}
use Rattle.std.specs.List.{AllByRecursion}
use Rattle.std.proofs.lemmas.Bool.{and_parts}
use Rattle.std.proofs.lemmas.List.Sums.{fold-append}
use Rattle.wac_types_shapes.specs.primitives.Name.{Name, find_name, option_case}
use Rattle.wac_types_shapes.specs.declared.shapes.component.Interface.{Interface}
use Rattle.wac_types_shapes.specs.declared.shapes.component.InterfaceId.{InterfaceId}
use Rattle.wac_types_shapes.specs.declared.shapes.component.UsedType.{UsedType}
use Rattle.wac_types_shapes.specs.shapes.Kinds.{kind_type}
use Rattle.wac_types_shapes.specs.declared.shapes.component.«Type».TheVariants as ty
use Rattle.wac_types_shapes.specs.declared.shapes.component.ItemKind.{ItemKind}
use Rattle.wac_types_shapes.specs.declared.shapes.component.ItemKind.TheVariants as kind
use Rattle.wac_types_shapes.proofs.lemmas.shapes.Names.{take_at}
use Rattle.wac_types_collection.specs.collection.Collection.{Collection, HasInterface, holds_all, holds_type, item_at, used_types}
use Rattle.wac_merge_classes.specs.entries.Bindings.{AreHeld}
use Rattle.wac_merge_classes.specs.entries.Classes.{Entry, NameRules, by_names, imported_as, members, same_class}
use Rattle.wac_merge_classes.proofs.lemmas.entries.Opening.{below}
use Rattle.wac_merge_classes.specs.terms.Merge.{import_entries, import_under}
use Rattle.wac_merge_classes.proofs.lemmas.terms.OwnResources.{import-found}
use Rattle.wac_merge_classes.proofs.lemmas.terms.Found.{at-filter, no_some, some_same}
use Rattle.wac_merge_unions.specs.uses.KeptUses.{imported_interface, instance_of, instances, uses_of, with_instance}
use Rattle.wac_merge_unions.specs.uses.Using.{AreInterfaces, kept_use, kept_uses, may_use, with_use}

all-push : {A : Type 0} (P : A → Type 0) (xs : List A) (x : A) → AllByRecursion P xs → P x → AllByRecursion P (xs ++ x ∷ [])
all-push P [] x all h = (h, tt)
all-push P (y ∷ xs) x all h = (all.0, all-push P xs x all.1 h)

module _ (P : Name × UsedType → Type 0) (f : Name × UsedType → Option UsedType) (right : (e : Name × UsedType) (v : UsedType) → f e ≡ Some v → P (e.0, v)) where
  one-more : (us : List (Name × UsedType)) (n : Name) (o : Option UsedType) → ((v : UsedType) → o ≡ Some v → P (n, v)) → AllByRecursion P us → AllByRecursion P (with_use us n o)
  one-more us n None is all = all
  one-more us n (Some v) is all = by (is_some (find_name us n)) where
    by : (b : Bool) → AllByRecursion P (cond b us (us ++ (n, v) ∷ []))
    by true = all
    by false = all-push P us (n, v) all (is v refl)

  all-kept : (us kept : List (Name × UsedType)) → AllByRecursion P kept → AllByRecursion P (fold (λ kept e. with_use kept e.0 (f e)) kept us)
  all-kept [] kept all = all
  all-kept (e ∷ us) kept all = all-kept us (with_use kept e.0 (f e)) (one-more kept e.0 (f e) (λ v is. right e v is) all)

-- each use that is kept may be used
pub kept-may : (rules : NameRules) (c : Collection) (es : List Entry) (m : Collection) (imports : List Entry) (listed : List (Name × ItemKind)) (us : List (Name × UsedType))
    → AllByRecursion (λ e. may_use m listed e ≡ true) (kept_uses rules c es m imports listed us)
kept-may rules c es m imports listed us = all-kept (λ e. may_use m listed e ≡ true) (kept_use rules c es m imports listed) right us [] tt where
  right : (e : Name × UsedType) (v : UsedType) → kept_use rules c es m imports listed e ≡ Some v → may_use m listed (e.0, v) ≡ true
  right e v = by (imported_interface rules c es imports e.1.interface) where
    used_as : InterfaceId → UsedType
    used_as i = record { interface = i; name = e.1.name }

    which : (i : InterfaceId) (b : Bool) → may_use m listed (e.0, used_as i) ≡ b → cond b (Some (used_as i)) None ≡ Some v → may_use m listed (e.0, v) ≡ true
    which i true is h = ap (λ y. may_use m listed (e.0, y)) (sym (some_same (used_as i) v h)) ∙ is
    which i false is h = absurd (no_some v h)

    by : (o : Option InterfaceId) → option_case o None (λ i. cond (may_use m listed (e.0, used_as i)) (Some (used_as i)) None) ≡ Some v → may_use m listed (e.0, v) ≡ true
    by None h = absurd (no_some v h)
    by (Some i) h = which i (may_use m listed (e.0, used_as i)) refl h

-- ---- read one after another

pub folded-next : {A B : Type 0} (f : B → A → B) (start : B) (xs : List A) (i : ℕ) (x : A) → slice_get xs i ≡ Some x → fold f start (take (suc i) xs) ≡ f (fold f start (take i xs)) x
folded-next f start xs i x at = ap (fold f start) (take_at xs i x at) ∙ fold-append f start (take i xs) (x ∷ [])

append-none : {A : Type 0} (xs : List A) → xs ++ [] ≡ xs
append-none [] = refl
append-none (x ∷ xs) = ap (λ ys. x ∷ ys) (append-none xs)

append-twice : {A : Type 0} (xs ys zs : List A) → xs ++ (ys ++ zs) ≡ (xs ++ ys) ++ zs
append-twice [] ys zs = refl
append-twice (x ∷ xs) ys zs = ap (λ l. x ∷ l) (append-twice xs ys zs)

uses-append : (c : Collection) (is js : List InterfaceId) → uses_of c (is ++ js) ≡ uses_of c is ++ uses_of c js
uses-append c [] js = refl
uses-append c (i ∷ is) js =
    let here = option_case (item_at c.interfaces i.0) [] (λ (it : Interface). it.uses) in
    ap (λ l. here ++ l) (uses-append c is js) ∙ append-twice here (uses_of c is) (uses_of c js)

-- the uses of one more interface
pub uses-next : (c : Collection) (is : List InterfaceId) (j : ℕ) (i : InterfaceId) (it : Interface) → slice_get is j ≡ Some i → item_at c.interfaces i.0 ≡ Some it → uses_of c (take (suc j) is) ≡ uses_of c (take j is) ++ it.uses
uses-next c is j i it at there =
    ap (uses_of c) (take_at is j i at) ∙ (uses-append c (take j is) (i ∷ [])
    ∙ ap (λ l. uses_of c (take j is) ++ l) (append-none (option_case (item_at c.interfaces i.0) [] (λ (x : Interface). x.uses)) ∙ ap (λ o. option_case o [] (λ (x : Interface). x.uses)) there))

-- the instances among one more entry
pub instances-next : (es : List Entry) (e : Entry) → instances (es ++ e ∷ []) ≡ instances es ++ with_instance e.kind []
instances-next [] e = refl
instances-next (x ∷ es) e = ap (with_instance x.kind) (instances-next es e) ∙ by x.kind where
  by : (k : ItemKind) → with_instance k (instances es ++ with_instance e.kind []) ≡ with_instance k (instances es) ++ with_instance e.kind []
  by (kind.Instance i) = refl
  by (kind.TypeItem t) = refl
  by (kind.Func f) = refl
  by (kind.Component w) = refl
  by (kind.Module y) = refl
  by (kind.Value v) = refl

-- what is used is held
pub used-at : (c : Collection) (us : List (Name × UsedType)) (i : ℕ) (e : Name × UsedType) → holds_all c (used_types us) ≡ true → slice_get us i ≡ Some e → HasInterface c e.1.interface
used-at c [] i e held at = absurd (no_some e at)
used-at c (x ∷ us) zero e held at =
    subst (λ (y : Name × UsedType). HasInterface c y.1.interface) (some_same x e at)
    (below x.1.interface.0 (length c.interfaces) (and_parts (holds_type c (ty.Interface x.1.interface)) (holds_all c (used_types us)) held).0)
used-at c (x ∷ us) (suc i) e held at = used-at c us i e (and_parts (holds_type c (ty.Interface x.1.interface)) (holds_all c (used_types us)) held).1 at

-- the interfaces of instances among held entries are held
instances-held : (c : Collection) (xs : List Entry) → ((j : ℕ) (e : Entry) → slice_get xs j ≡ Some e → holds_type c (kind_type e.kind) ≡ true) → (j : ℕ) (i : InterfaceId) → slice_get (instances xs) j ≡ Some i → HasInterface c i
instances-held c [] held j i at = absurd (no_some i at)
instances-held c (e ∷ xs) held j i at = by e.kind j (held 0 e refl) at (λ l there. instances-held c xs (λ m y is. held (suc m) y is) l i there) where
  by : (k : ItemKind) (l : ℕ) → holds_type c (kind_type k) ≡ true → slice_get (with_instance k (instances xs)) l ≡ Some i → ((m : ℕ) → slice_get (instances xs) m ≡ Some i → HasInterface c i) → HasInterface c i
  by (kind.Instance w) zero h there rest = subst (HasInterface c) (some_same w i there) (below w.0 (length c.interfaces) h)
  by (kind.Instance w) (suc l) h there rest = rest l there
  by (kind.TypeItem t) l h there rest = rest l there
  by (kind.Func f) l h there rest = rest l there
  by (kind.Component w) l h there rest = rest l there
  by (kind.Module y) l h there rest = rest l there
  by (kind.Value v) l h there rest = rest l there

pub members-held : (c : Collection) (es : List Entry) (n : Name) → AreHeld c es → AreInterfaces c (instances (members by_names es n))
members-held c es n held j i at =
    instances-held c (members by_names es n) (λ l e there. let w = at-filter (λ (x : Entry). same_class by_names es n x.name) es l e there in held w.0 e w.1) j i at

-- what the class of an interface with an id is imported as
pub imported-is : (rules : NameRules) (c : Collection) (es : List Entry) (is : List (Name × ItemKind)) (i : InterfaceId) (it : Interface) (id : Name) → item_at c.interfaces i.0 ≡ Some it → it.id ≡ Some id
    → imported_interface rules c es (import_entries is) i ≡ instance_of (find_name is (imported_as rules es id))
imported-is rules c es is i it id at named =
    let f = λ (n : Name). instance_of (import_under (import_entries is) (imported_as rules es n)) in
    ap (λ o. option_case o None (λ (x : Interface). option_case x.id None f)) at ∙ (ap (λ o. option_case o None f) named ∙ ap instance_of (import-found is (imported_as rules es id)))

pub no-instance : (k : ItemKind) → ((i : InterfaceId) → k ≡ kind.Instance i → ⊥) → instance_of (Some k) ≡ None
no-instance (kind.Instance i) none = absurd (none i refl)
no-instance (kind.TypeItem t) none = refl
no-instance (kind.Func f) none = refl
no-instance (kind.Component w) none = refl
no-instance (kind.Module y) none = refl
no-instance (kind.Value v) none = refl
