-- What one item becomes, and what stays of it as more is added.
use Rattle.std.proofs.Common.{◌≡◌, ℕ, Bool, true, false, List, [], ◌∷◌, ◌++◌, length, Option, Some, None, Result, Ok, Err, IfOk, is_some, refl, sym, ap, ◌∙◌, subst, arith, inl, inr}
use Rattle.std.specs.Prelude.{slice_get}
use Rattle.std.specs.List.{AllZip, list_all}
use Rattle.std.proofs.lemmas.Bool.{and_from, false≢true, or_cases, or_left, or_right, and_parts as both}
use Rattle.std.proofs.lemmas.Option.{slice_get_within}
use Rattle.wac_types_shapes.specs.primitives.Name.{Name, option_case, same_name}
use Rattle.wac_types_collection.specs.collection.Collection.{Collection, HasResource, holds_all, holds_type, item_of, kind_types, resource_mentions, size, with_resource}
use Rattle.wac_types_shapes.specs.shapes.Kinds.{kind_type}
use Rattle.wac_types_collection.specs.collection.Held.{resolved, source_of}
use Rattle.wac_types_collection.specs.collection.Bound.{is_alias}
use Rattle.wac_types_collection.specs.collection.Uses.{has_name, is_named_right, mention_fault, unless}
use Rattle.wac_types_collection.specs.subtyping.Subtype.{held_name}
use Rattle.wac_types_collection.specs.declared.collection.collection.AddTypeError.TheVariants as fault
use Rattle.wac_types_collection.specs.declared.collection.collection.Held.{Held}
use Rattle.wac_types_shapes.specs.declared.shapes.component.InterfaceId.{InterfaceId}
use Rattle.wac_types_shapes.specs.declared.shapes.component.Resource.{Resource}
use Rattle.wac_types_shapes.specs.declared.shapes.component.ResourceId.{ResourceId}
use Rattle.wac_types_shapes.specs.declared.shapes.component.ItemKind.{ItemKind}
use Rattle.wac_types_shapes.specs.declared.shapes.component.ItemKind.TheVariants as kind
use Rattle.wac_types_shapes.specs.declared.shapes.component.«Type».TheVariants as ty
use Rattle.wac_types_shapes.proofs.lemmas.shapes.Names.{same_name-refl}
use Rattle.wac_merge_classes.specs.terms.Became.{IsNew, became, own_in}
use Rattle.wac_merge_classes.specs.entries.Bindings.{ClassBindings}
use Rattle.wac_types_collection.specs.private.subtyping.Extended.{IsExtended}
use Rattle.wac_merge_classes.specs.terms.Writing.{IsAliasOf, IsWrittenAs, IsWrittenExport, written_at}
use Rattle.wac_merge_imports.specs.unions.WritingSteps.{AreWrittenItems, HasWritten, IsFoundIn, IsWrittenItem}
use Rattle.wac_merge_resources.specs.declared.renaming.became.Became.{Became}
use Rattle.wac_merge_classes.specs.declared.terms.fresh.Fresh.{Fresh}
use Rattle.wac_merge_classes.specs.declared.terms.parts.Export.{Export}
use Rattle.wac_merge_classes.specs.declared.terms.parts.Part.{Part}
use Rattle.wac_merge_resources.proofs.lemmas.renaming.StillRenamed.{still_alias, still_renamed}
use Rattle.wac_merge_tables.proofs.lemmas.made.Extending.{still_holds}
use Rattle.wac_merge_classes.proofs.lemmas.entries.Lists.{at-end}

-- ---- aliases

-- nothing stands against an alias of what is held
pub alias-right : (c : Collection) (x : Resource) (n : Name) (q : ResourceId) → x ≡ record { name = n; alias = Some (record { owner = None; source = q }) } → HasResource c q → mention_fault c (resource_mentions x) ≡ None
alias-right c x n q is there =
    ap (λ (y : Resource). mention_fault c (resource_mentions y)) is ∙ ap (λ b. unless b fault.NotHeld) held
  where
    held : holds_all c (ty.Resource q ∷ []) ≡ true
    held = grind (arith, there)

pub alias-added : (c m : Collection) (x : Resource) (a : ResourceId) (n : Name) (q : ResourceId) → x ≡ record { name = n; alias = Some (record { owner = None; source = q }) } → a.0 ≡ length c.resources → m ≡ with_resource c x
    → IsAliasOf m n q a
alias-added c m x a n q plain at is = subst (λ (d : Collection). IsAliasOf d n q a) (sym is) (record {
  there = slice_get_within (with_resource c x).resources a.0 (record { item = x; before = size c }) there;
  is = ap item_of there ∙ ap (λ y. Some y) plain;
})
  where
    there : slice_get (c.resources ++ record { item = x; before = size c } ∷ []) a.0 ≡ Some (record { item = x; before = size c })
    there = ap (slice_get (c.resources ++ record { item = x; before = size c } ∷ [])) at ∙ at-end c.resources (record { item = x; before = size c })

source-item : (o : Option (Held Resource)) (x : Resource) → item_of o ≡ Some x → source_of o ≡ option_case x.alias None (λ a. Some a.source)
source-item None x e = cc
source-item (Some h) x e = let same : h.item ≡ x = cc in ap (λ (y : Resource). option_case y.alias None (λ a. Some a.source)) same

is-alias : (m : Collection) (n : Name) (q a : ResourceId) → IsAliasOf m n q a → is_alias m a ≡ true
is-alias m n q a h = ap is_some (source-item (slice_get m.resources a.0) (record { name = n; alias = Some (record { owner = None; source = q }) }) h.is)

-- ---- listed right

-- what an item became is no own resource
pub written-right : (c m : Collection) (f : ResourceId → ResourceId) (inner : Option InterfaceId) (n : Name) (a b : ItemKind) → IsWrittenAs c m f inner n a b → is_named_right m [] (n, b) ≡ true
written-right c m f inner n (kind.TypeItem (ty.Resource q)) (kind.TypeItem (ty.Resource a)) h = or_left (is_alias m a) _ (is-alias m n (f (resolved c q)) a h)
written-right c m f inner n a (kind.TypeItem (ty.Resource b)) h = absurd h
written-right c m f inner n a b h = refl

named-item : (o : Option (Held Resource)) (n : Name) → held_name o ≡ Some n → option_case (item_of o) false (λ x. same_name x.name n) ≡ true
named-item None n e = cc
named-item (Some h) n e = let same : h.item.name ≡ n = cc in ap (λ y. same_name y n) same ∙ same_name-refl n

-- a new resource is listed under its own name
pub new-right : (c m : Collection) (q : ResourceId) (n : Name) → IsNew c m q n → is_named_right m [] (n, kind.TypeItem (ty.Resource q)) ≡ true
new-right c m q n h = or_right (is_alias m q) (has_name m q.0 n) (named-item (slice_get m.resources q.0) n h.named)

-- ---- what stays

module _ (m more : Collection) (x : IsExtended m more) where
  alias-stays : (r : ResourceId) → is_alias m r ≡ true → is_alias more r ≡ true
  alias-stays r h = by (slice_get m.resources r.0) refl h where
    by : (o : Option (Held Resource)) → slice_get m.resources r.0 ≡ o → is_some (source_of o) ≡ true → is_alias more r ≡ true
    by None at e = cc
    by (Some y) at e = ap (λ z. is_some (source_of z)) (x.kept.resources r.0 y at) ∙ e

  name-stays : (r : ResourceId) (n : Name) → has_name m r.0 n ≡ true → has_name more r.0 n ≡ true
  name-stays r n h = by (slice_get m.resources r.0) refl h where
    by : (o : Option (Held Resource)) → slice_get m.resources r.0 ≡ o → option_case (item_of o) false (λ y. same_name y.name n) ≡ true → has_name more r.0 n ≡ true
    by None at e = cc
    by (Some y) at e = ap (λ z. option_case (item_of z) false (λ y. same_name y.name n)) (x.kept.resources r.0 y at) ∙ e

  pub still-right : (e : Name × ItemKind) → is_named_right m [] e ≡ true → is_named_right more [] e ≡ true
  still-right (n, kind.TypeItem (ty.Resource r)) h = elim (or_cases (is_alias m r) (has_name m r.0 n) h) [
    | inl a ↦ or_left (is_alias more r) (has_name more r.0 n) (alias-stays r a)
    | inr b ↦ or_right (is_alias more r) (has_name more r.0 n) (name-stays r n b)
  ]
  still-right (n, k) h = refl

  module _ (c : Collection) where
    pub still-written : (f : ResourceId → ResourceId) (inner : Option InterfaceId) (n : Name) (a b : ItemKind) → IsWrittenAs c m f inner n a b → IsWrittenAs c more f inner n a b
    still-written f inner n (kind.TypeItem (ty.Resource q)) (kind.TypeItem (ty.Resource a)) h = still_alias m more x n (f (resolved c q)) a h
    still-written f inner n (kind.TypeItem (ty.Interface i)) (kind.TypeItem (ty.Interface j)) h = h
    still-written f inner n (kind.TypeItem (ty.Func g)) (kind.TypeItem (ty.Func k)) h = still_renamed m more x c f (ty.Func g) (ty.Func k) h
    still-written f inner n (kind.TypeItem (ty.Value v)) (kind.TypeItem (ty.Value w)) h = still_renamed m more x c f (ty.Value v) (ty.Value w) h
    still-written f inner n (kind.TypeItem (ty.World v)) (kind.TypeItem (ty.World w)) h = h
    still-written f inner n (kind.TypeItem (ty.Module v)) (kind.TypeItem (ty.Module w)) h = h
    still-written f inner n (kind.Func g) (kind.Func k) h = still_renamed m more x c f (ty.Func g) (ty.Func k) h
    still-written f inner n (kind.Instance i) (kind.Instance j) h = h
    still-written f inner n (kind.Component v) (kind.Component w) h = h
    still-written f inner n (kind.Module v) (kind.Module w) h = h
    still-written f inner n (kind.Value v) (kind.Value w) h = still_renamed m more x c f (ty.Value v) (ty.Value w) h
    still-written f inner n a b h = absurd h

    pub still-exported : (ps : List Part) (bs : ClassBindings) (f : Fresh) (ws : List InterfaceId) (u : ℕ) (e : Name × Export) (k : Name × ItemKind) → IsWrittenExport c m ps bs f ws u e k → IsWrittenExport c more ps bs f ws u e k
    still-exported ps bs f ws u (n, e) (o, k) h = by e.kind e.part e.is_own e.inner h where
      by : (a : ItemKind) (p : ℕ) (b : Bool) (i : Option ℕ) → IsWrittenExport c m ps bs f ws u (n, record { kind = a; part = p; is_own = b; inner = i }) (o, k)
          → IsWrittenExport c more ps bs f ws u (n, record { kind = a; part = p; is_own = b; inner = i }) (o, k)
      by a p true i h = h
      by a p false i h = (h.0, still-written (became c ps bs f (Some p)) (written_at ws i) n a k h.1)

    pub still-all-exported : (ps : List Part) (bs : ClassBindings) (f : Fresh) (ws : List InterfaceId) (u : ℕ) (es : List (Name × Export)) (ks : List (Name × ItemKind))
        → AllZip (IsWrittenExport c m ps bs f ws u) es ks → AllZip (IsWrittenExport c more ps bs f ws u) es ks
    still-all-exported ps bs f ws u [] [] h = tt
    still-all-exported ps bs f ws u (e ∷ es) (k ∷ ks) h = (still-exported ps bs f ws u e k h.0, still-all-exported ps bs f ws u es ks h.1)
    still-all-exported ps bs f ws u _ _ h = absurd h

  pub still-all-right : (ks : List (Name × ItemKind)) → list_all (is_named_right m []) ks ≡ true → list_all (is_named_right more []) ks ≡ true
  still-all-right [] h = refl
  still-all-right (k ∷ ks) h = let p = both (is_named_right m [] k) (list_all (is_named_right m []) ks) h in and_from (is_named_right more [] k) (list_all (is_named_right more []) ks) (still-right k p.0) (still-all-right ks p.1)

  pub still-all-held : (ks : List (Name × ItemKind)) → holds_all m (kind_types ks) ≡ true → holds_all more (kind_types ks) ≡ true
  still-all-held [] h = refl
  still-all-held (k ∷ ks) h =
      let p = both (holds_type m (kind_type k.1)) (holds_all m (kind_types ks)) h in
      and_from (holds_type more (kind_type k.1)) (holds_all more (kind_types ks)) (still_holds m more x (kind_type k.1) p.0) (still-all-held ks p.1)

-- ---- one more

pub zip-push : {A B : Type 0} (R : A → B → Type 0) (xs : List A) (ys : List B) (a : A) (b : B) → AllZip R xs ys → R a b → AllZip R (xs ++ a ∷ []) (ys ++ b ∷ [])
zip-push R [] [] a b h r = (r, tt)
zip-push R (x ∷ xs) (y ∷ ys) a b h r = (h.0, zip-push R xs ys a b h.1 r)
zip-push R _ _ a b h r = absurd h

all-push : {A : Type 0} (p : A → Bool) (xs : List A) (a : A) → list_all p xs ≡ true → p a ≡ true → list_all p (xs ++ a ∷ []) ≡ true
all-push p [] a h t = and_from (p a) true t refl
all-push p (x ∷ xs) a h t = let q = both (p x) (list_all p xs) h in and_from (p x) (list_all p (xs ++ a ∷ [])) q.0 (all-push p xs a q.1 t)

types-push : (ks : List (Name × ItemKind)) (k : Name × ItemKind) → kind_types (ks ++ k ∷ []) ≡ kind_types ks ++ kind_type k.1 ∷ []
types-push [] k = refl
types-push (x ∷ ks) k = ap (λ l. kind_type x.1 ∷ l) (types-push ks k)

pub items-none : (c m : Collection) (b : Became) (count : ℕ) (written : List InterfaceId) (u : ℕ) → AreWrittenItems c m b count written u [] []
items-none c m b count written u = record { held = refl; named = refl; exports = λ ws has. tt }

pub items-more : (c m more : Collection) (b : Became) (count : ℕ) (written : List InterfaceId) (u : ℕ) (es : List (Name × Export)) (ks : List (Name × ItemKind)) (n : Name) (e : Export) (k : ItemKind)
    → IsExtended m more → AreWrittenItems c m b count written u es ks → IsWrittenItem c more b count written u n e k → AreWrittenItems c more b count written u (es ++ (n, e) ∷ []) (ks ++ (n, k) ∷ [])
items-more c m more b count written u es ks n e k x were is = record {
  held = ap (holds_all more) (types-push ks (n, k)) ∙ all-push (holds_type more) (kind_types ks) (kind_type k) (still-all-held m more x ks were.held) is.held;
  named = all-push (is_named_right more []) ks (n, k) (still-all-right m more x ks were.named) is.named;
  exports = λ ws has.
      zip-push (IsWrittenExport c more b.parts.now b.bindings.now b.fresh.now ws u) es ks (n, e) (n, k)
      (still-all-exported m more x c b.parts.now b.bindings.now b.fresh.now ws u es ks (were.exports ws has)) (is.export ws has);
}

-- ---- one item

pub new-item : (c m : Collection) (b : Became) (count : ℕ) (written : List InterfaceId) (u : ℕ) (n : Name) (e : Export) (q : ResourceId) → e.is_own ≡ true → own_in b.fresh.now u n ≡ Some q → IsNew c m q n
    → IsWrittenItem c m b count written u n e (kind.TypeItem (ty.Resource q))
new-item c m b count written u n e q own at new = record {
  held = let h = new.there in grind (arith, h);
  named = new-right c m q n new;
  export = λ ws has. by e.kind e.part e.is_own e.inner ws own;
}
  where
    by : (a : ItemKind) (p : ℕ) (o : Bool) (i : Option ℕ) (ws : List InterfaceId) → o ≡ true
        → IsWrittenExport c m b.parts.now b.bindings.now b.fresh.now ws u (n, record { kind = a; part = p; is_own = o; inner = i }) (n, kind.TypeItem (ty.Resource q))
    by a p true i ws t = (refl, (q, at, refl))
    by a p false i ws t = absurd (false≢true t)

found-at : (count : ℕ) (written ws : List InterfaceId) (position : Option ℕ) (o : Option InterfaceId) → IsFoundIn count written position o → HasWritten count written ws → o ≡ written_at ws position
found-at count written ws None o is has = is
found-at count written ws (Some v) o is has = is.4 ∙ sym (has is.0 v is.1 is.2 is.3)

pub written-item : (c m : Collection) (b : Became) (count : ℕ) (written : List InterfaceId) (u : ℕ) (n : Name) (e : Export) (part : Option ℕ) (o : Option InterfaceId) (k : ItemKind) → e.is_own ≡ false → part ≡ Some e.part
    → IsFoundIn count written e.inner o → holds_type m (kind_type k) ≡ true → IsWrittenAs c m (became c b.parts.now b.bindings.now b.fresh.now part) o n e.kind k → IsWrittenItem c m b count written u n e k
written-item c m b count written u n e part o k own in_part found held is = record {
  held = held;
  named = written-right c m (became c b.parts.now b.bindings.now b.fresh.now part) o n e.kind k is;
  export = λ ws has.
      by e.kind e.part e.is_own e.inner ws own
      (subst (λ (i : Option InterfaceId). IsWrittenAs c m (became c b.parts.now b.bindings.now b.fresh.now (Some e.part)) i n e.kind k) (found-at count written ws e.inner o found has)
      (subst (λ (p : Option ℕ). IsWrittenAs c m (became c b.parts.now b.bindings.now b.fresh.now p) o n e.kind k) in_part is));
}
  where
    by : (a : ItemKind) (p : ℕ) (t : Bool) (i : Option ℕ) (ws : List InterfaceId) → t ≡ false → IsWrittenAs c m (became c b.parts.now b.bindings.now b.fresh.now (Some p)) (written_at ws i) n a k
        → IsWrittenExport c m b.parts.now b.bindings.now b.fresh.now ws u (n, record { kind = a; part = p; is_own = t; inner = i }) (n, k)
    by a p false i ws t h = (refl, h)
    by a p true i ws t h = absurd (false≢true (sym t))

-- what holds of an answer by two facts
pub if-both : {A E : Type 0} {P Q R : A → Type 0} (x : Result A E) → ((a : A) → P a → Q a → R a) → IfOk x P → IfOk x Q → IfOk x R
if-both (Ok a) f h g = f a h g
if-both (Err e) f h g = h
