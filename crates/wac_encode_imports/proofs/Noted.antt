-- Which own resources of entries their imports do not bind.
use Rattle.std.proofs.Common.{ℕ, zero, suc, eq-eqb, ◌≡◌, ◌+◌, ◌<◌, ◌≤◌, ◌||◌, ◌⊎◌, Bool, true, false, List, [], ◌∷◌, ◌++◌, length, length-append, Option, Some, None, slice_get, slice_set, Contains, refl, ap, sym, ◌∙◌, subst, inl, inr, arith}
use Rattle.std.proofs.lemmas.Bool.{cases_lt}
use Rattle.std.proofs.lemmas.Option.{slice_get_within}
use Rattle.indexmap.specs.IndexSet.{insert_key}
use Rattle.wac_types_shapes.specs.primitives.Name.{Name}
use Rattle.wac_types_shapes.specs.contracts.shapes.component.ResourceIdPartialEq.TheImpl as IdEq
use Rattle.wac_types_shapes.specs.primitives.Tree.{Place, imported, position, named}
use Rattle.wac_types_shapes.specs.shapes.Kinds.{kind_type}
use Rattle.wac_types_shapes.proofs.lemmas.shapes.Names.{find_name-at}
use Rattle.wac_types_shapes.specs.declared.shapes.component.Interface.{Interface}
use Rattle.wac_types_shapes.specs.declared.shapes.component.InterfaceId.{InterfaceId}
use Rattle.wac_types_shapes.specs.declared.shapes.component.ItemKind.{ItemKind}
use Rattle.wac_types_shapes.specs.declared.shapes.component.ItemKind.TheVariants as kind
use Rattle.wac_types_shapes.specs.declared.shapes.component.ResourceId.{ResourceId}
use Rattle.wac_types_shapes.specs.declared.shapes.component.UsedType.{UsedType}
use Rattle.wac_types_collection.specs.collection.Bound.{same_path}
use Rattle.wac_types_collection.specs.collection.Collection.{HasInterface, holds_type, item_at}
use Rattle.wac_types_collection.proofs.lemmas.wide.Members.{in_at}
use Rattle.wac_merge.specs.MergedPlaces.{IsRootPlace}
use Rattle.wac_merge_classes.specs.entries.Classes.{Entry, by_names}
use Rattle.wac_merge_classes.specs.entries.Places.{own_resource}
use Rattle.wac_merge_classes.proofs.lemmas.entries.ClassFacts.{class-of_same}
use Rattle.wac_merge_classes.proofs.lemmas.entries.Opening.{below}
use Rattle.wac_merge_imports.proofs.lemmas.fitting.FittingOwn.{own-found, own-resource}
use Rattle.wac_merge_imports.proofs.lemmas.unions.BoundNames.{path-is}
use Rattle.wac_encode_scopes.specs.private.Telling.{is_one_of, is_that}
use Rattle.wac_encode_scopes.proofs.OtherOwn.{resource-inserted}
use Rattle.wac_encode_imports.specs.declared.told.Others.{Others}
use Rattle.wac_encode_imports.specs.declared.told.Teller.{Teller}
use Rattle.wac_encode_imports.specs.private.Others.{AddsOther, HaveAll, IsLeftOut}
use Rattle.wac_encode_imports.specs.private.Told.{AreHeldExports, AreOthers, AreOthersFor, BindsItem, BindsKind, BindsOwn, IsExport, IsImportOf, IsNoted, IsTeller, Notes, NotesItem, NotesItems}
use Rattle.wac_encode_imports.proofs.Bound.{no-some, one-some}
use Rattle.wac_encode_imports.proofs.Distinct.{distinct_classes_law}
use Rattle.wac_encode_imports.proofs.Members.{export-held}
use Rattle.wac_encode_imports.proofs.Placed.{bound-place}

-- lists that are changed in one place

set-length : {A : Type 0} (xs : List A) (k : ℕ) (x : A) → length (slice_set xs k x) ≡ length xs
set-length [] k x = refl
set-length (y ∷ xs) zero x = refl
set-length (y ∷ xs) (suc k) x = ap suc (set-length xs k x)

set-here : {A : Type 0} (xs : List A) (k : ℕ) (x y : A) → slice_get (slice_set xs k x) k ≡ Some y → y ≡ x
set-here [] k x y h = cc
set-here (z ∷ xs) zero x y h = cc
set-here (z ∷ xs) (suc k) x y h = set-here xs k x y h

set-there : {A : Type 0} (xs : List A) (k i : ℕ) (x y : A) → slice_get (slice_set xs k x) i ≡ Some y → ((i ≡ k) × (y ≡ x)) ⊎ (slice_get xs i ≡ Some y)
set-there [] k i x y h = inr h
set-there (z ∷ xs) zero zero x y h = inl (refl, set-here (z ∷ xs) zero x y h)
set-there (z ∷ xs) zero (suc i) x y h = inr h
set-there (z ∷ xs) (suc k) zero x y h = inr h
set-there (z ∷ xs) (suc k) (suc i) x y h = elim (set-there xs k i x y h) [ inl w ↦ inl (ap suc w.0, w.1) | inr w ↦ inr w ]

-- resources of imports

pub others-longer : (xs ys : List Others) (x : Others) (i : ℕ) → ys ≡ xs ++ x ∷ [] → length xs ≡ i → length ys ≡ i + 1
others-longer xs ys x i is count = ap length is ∙ length-append xs (x ∷ []) ∙ ap (λ (n : ℕ). n + 1) count

or-false : (a b : Bool) → (a || b) ≡ false → a ≡ false
or-false false b h = refl
or-false true b h = h

or-true : (a b : Bool) → b ≡ true → (a || b) ≡ true
or-true true b h = refl
or-true false b h = h

pub adds-other : (p : ℕ) (r : ResourceId) (old new : List Others) (o u : Others) → slice_get old p ≡ Some o → new ≡ slice_set old p u → u.resources.keys ≡ insert_key (IdEq.ghosts).eq o.resources.keys r → AddsOther p r old new
adds-other p r old new o u at is keys = record {
  counted = ap length is ∙ set-length old p u;
  all = λ q x there. elim (set-there old p q u x (ap (λ (l : List Others). slice_get l q) (sym is) ∙ there)) [
    | inl w ↦ (o, ap (slice_get old) w.0 ∙ at, λ z left. or-false (is_one_of o.resources.keys z) (is_that (Some r) z) (sym (more z) ∙ ap (λ (y : Others). is_one_of y.resources.keys z) (sym w.1) ∙ left))
    | inr same ↦ (x, same, λ z left. left)
  ];
  there = λ x there.
      ap (λ (y : Others). is_one_of y.resources.keys r) (set-here old p u x (ap (λ (l : List Others). slice_get l p) (sym is) ∙ there))
      ∙ more r ∙ or-true (is_one_of o.resources.keys r) (is_that (Some r) r) (eq-eqb r.0 r.0 refl);
}
  where
    more : (z : ResourceId) → is_one_of u.resources.keys z ≡ (is_one_of o.resources.keys z || is_that (Some r) z)
    more z = resource-inserted o.resources.keys u.resources.keys r keys z

have-same : (sets : List Others) → HaveAll sets sets
have-same sets p o there = (o, there, λ r left. left)

have-then : (a b d : List Others) → HaveAll a b → HaveAll b d → HaveAll a d
have-then a b d first second p o there =
    let y = second p o there in
    let x = first p y.0 y.1 in
    (x.0, x.1, λ r left. x.2 r (y.2 r left))

-- the own resources of an interface

-- A resource whose root place is the import and the name alone is what the import exports under it.
pub is-export : (t : Teller) (p first : ℕ) (n : Name) (r : ResourceId) (path : List Place) → IsRootPlace by_names t.merge.now.entries t.merge.now.merge r first path → first ≡ p → same_path path (named n ∷ []) ≡ true → IsExport t p n r
is-export t p first n r path h same alone is =
    (bound-place t.types.now t.merge.now.entries t.merge.now.merge is.merged is.acyclic is.bound r first path h).1
    ∙ ap (λ (q : ℕ). Some (record { out = 0; side = imported; path = position q ∷ path })) same
    ∙ ap (λ (y : List Place). Some (record { out = 0; side = imported; path = position p ∷ y })) (path-is path n alone)

pub item-has-none : (t : Teller) (p : ℕ) (uses : List (Name × UsedType)) (e : Name × ItemKind) (sets : List Others) (o : Option ResourceId) → o ≡ own_resource t.types.now uses e → ((r : ResourceId) → o ≡ Some r → ⊥) → NotesItem t p uses e sets sets
item-has-none t p uses e sets o is none = record {
  counted = refl;
  all = have-same sets;
  noted = λ others there q own left. absurd (none q (is ∙ own));
}

pub item-binds : (t : Teller) (p : ℕ) (uses : List (Name × UsedType)) (e : Name × ItemKind) (sets : List Others) (o : Option ResourceId) → o ≡ own_resource t.types.now uses e → (r : ResourceId) → o ≡ Some r → IsExport t p e.0 r → NotesItem t p uses e sets sets
item-binds t p uses e sets o is r there export = record {
  counted = refl;
  all = have-same sets;
  noted = λ others in_sets q own left. subst (λ (x : ResourceId). IsExport t p e.0 x) (one-some r q (sym there ∙ is ∙ own)) export;
}

pub item-added : (t : Teller) (p : ℕ) (uses : List (Name × UsedType)) (e : Name × ItemKind) (old new : List Others) (o : Option ResourceId) → o ≡ own_resource t.types.now uses e → (r : ResourceId) → o ≡ Some r → AddsOther p r old new → NotesItem t p uses e old new
item-added t p uses e old new o is r there adds = record {
  counted = adds.counted;
  all = adds.all;
  noted = λ others in_sets q own left. wrong (sym (adds.there others in_sets) ∙ ap (is_one_of others.resources.keys) (one-some r q (sym there ∙ is ∙ own)) ∙ left);
}
  where
    wrong : {A : Type 0} → true ≡ false → A
    wrong h = cc

pub items-first : (t : Teller) (p : ℕ) (it : Interface) (sets : List Others) → NotesItems t p it 0 sets sets
items-first t p it sets = record {
  counted = refl;
  all = have-same sets;
  noted = λ j e others low at. absurd (omega (arith, low));
}

pub items-next : (t : Teller) (p : ℕ) (it : Interface) (n k : ℕ) (x : Name × ItemKind) (old mid new : List Others) → k ≡ n + 1 → slice_get it.exports n ≡ Some x → NotesItems t p it n old mid → NotesItem t p it.uses x mid new → NotesItems t p it k old new
items-next t p it n k x old mid new one there before step = record {
  counted = step.counted ∙ before.counted;
  all = have-then old mid new before.all step.all;
  noted = λ j e others low at in_sets. elim (cases_lt j n) [
    | inl less ↦ (let y = step.all p others in_sets in λ r own left. before.noted j e y.0 less at y.1 r own (y.2 r left))
    | inr more ↦
        (let same : j ≡ n = omega (arith, more, low, one) in
        subst (λ (y : Name × ItemKind). BindsItem t p others it.uses y) (one-some x e (sym there ∙ ap (slice_get it.exports) (sym same) ∙ at)) (step.noted others in_sets))
  ];
}

pub items-all : (t : Teller) (p : ℕ) (it : Interface) (n : ℕ) (old new : List Others) → length it.exports ≤ n → NotesItems t p it n old new → NotesItems t p it (length it.exports) old new
items-all t p it n old new past notes = record {
  counted = notes.counted;
  all = notes.all;
  noted = λ j e others low at in_sets. notes.noted j e others (omega (arith, low, past)) at in_sets;
}

own-noted : (t : Teller) (p : ℕ) (it : Interface) (old new : List Others) → NotesItems t p it (length it.exports) old new → (others : Others) → slice_get new p ≡ Some others → BindsOwn t p others it
own-noted t p it old new notes others there r m own left =
    let w = own-found t.types.now it.uses it.exports r m own in
    let within = slice_get_within it.exports w.0 (m, w.1) w.2 in
    notes.noted w.0 (m, w.1) others within w.2 there r (own-resource t.types.now it.uses r (m, w.1) w.3) left

-- an instance

instance-id : (a b : InterfaceId) → kind.Instance a ≡ kind.Instance b → a ≡ b
instance-id a b h = cc

kind-binds : (t : Teller) (p : ℕ) (others : Others) (k : ItemKind) (id : InterfaceId) (it : Interface) → k ≡ kind.Instance id → item_at t.types.now.interfaces id.0 ≡ Some it → BindsOwn t p others it → BindsKind t p others k
kind-binds t p others k id it is has binds other jt is_other has_other =
    let same = instance-id id other (sym is ∙ is_other) in
    subst (λ (x : Interface). BindsOwn t p others x) (one-some it jt (sym has ∙ ap (λ (i : InterfaceId). item_at t.types.now.interfaces i.0) same ∙ has_other)) binds

pub kind-interface : (t : Teller) (k : ItemKind) (id : InterfaceId) → holds_type t.types.now (kind_type k) ≡ true → k ≡ kind.Instance id → HasInterface t.types.now id
kind-interface t k id held is = below id.0 (length t.types.now.interfaces) (subst (λ (x : ItemKind). holds_type t.types.now (kind_type x) ≡ true) is held)

pub exports-held : (t : Teller) → IsTeller t → (id : InterfaceId) (it : Interface) → item_at t.types.now.interfaces id.0 ≡ Some it → AreHeldExports t it
exports-held t is id it has j e at = export-held t.types.now is.ordered id it e.0 e.1 has (find_name-at it.exports j e.0 e.1 (is.once id it has) at)

pub entry-held : (t : Teller) → IsTeller t → (e : Entry) → Contains t.merge.now.entries e → holds_type t.types.now (kind_type e.kind) ≡ true
entry-held t is e within = let at = in_at t.merge.now.entries e within in is.held at.0 e at.2

-- imports

-- The position of an import is that of a place.
pub import-low : (t : Teller) → IsTeller t → (e : Entry) (p : ℕ) → IsImportOf t e p → p < length t.places.now
import-low t is e p of =
    let within = slice_get_within (t.merge.now.merge).imports p of.entry of.there in
    let counted = is.counted in
    omega (arith, within, counted)

-- and of its others.
pub others-low : (t : Teller) → IsTeller t → (e : Entry) (p : ℕ) → IsImportOf t e p → (sets : List Others) → length sets ≡ length t.places.now → p < length sets
others-low t is e p of sets counted = let low = import-low t is e p of in omega (arith, low, counted)

-- An entry is imported once.
one-place : (t : Teller) → IsTeller t → (e : Entry) (p q : ℕ) → IsImportOf t e p → IsImportOf t e q → p ≡ q
one-place t is e p q a b =
    distinct_classes_law t.types.now t.merge.now.entries t.merge.now.merge is.merged is.acyclic p q a.entry b.entry a.there b.there
    (class-of_same by_names (t.merge.now.merge).imports (a.entry).name (b.entry).name (a.named ∙ sym b.named))

-- What is no instance has no own resources.
pub notes-none : (t : Teller) (e : Entry) (sets : List Others) → ((id : InterfaceId) → e.kind ≡ kind.Instance id → ⊥) → Notes t e sets sets
notes-none t e sets other = record {
  counted = refl;
  noted = λ p others of there id it is. absurd (other id is);
  all = have-same sets;
}

pub notes-instance : (t : Teller) (is : IsTeller t) (e : Entry) (p : ℕ) (of : IsImportOf t e p) (old new : List Others) (id : InterfaceId) (it : Interface) → e.kind ≡ kind.Instance id → item_at t.types.now.interfaces id.0 ≡ Some it → NotesItems t p it (length it.exports) old new → Notes t e old new
notes-instance t is e p of old new id it kind_is has notes = record {
  counted = notes.counted;
  noted = λ q others of_q there.
      let same = one-place t is e p q of of_q in
      subst (λ (x : ℕ). BindsKind t x others e.kind) same
      (kind-binds t p others e.kind id it kind_is has (own-noted t p it old new notes others (ap (slice_get new) same ∙ there)));
  all = notes.all;
}

-- all entries

pub others-first : (t : Teller) (sets : List Others) → length sets ≡ length t.places.now → AreOthersFor t 0 sets
others-first t sets counted = record { counted = counted; noted = λ j e low at. absurd (omega (arith, low)) }

pub others-next : (t : Teller) (n k : ℕ) (x : Entry) (old new : List Others) → k ≡ n + 1 → slice_get t.merge.now.entries n ≡ Some x → AreOthersFor t n old → Notes t x old new → AreOthersFor t k new
others-next t n k x old new one there before notes = record { counted = notes.counted ∙ before.counted; noted = each }
  where
    each : (j : ℕ) (e : Entry) → j < k → slice_get t.merge.now.entries j ≡ Some e → IsNoted t e new
    each j e low at = elim (cases_lt j n) [
      | inl less ↦ λ p others of in_sets. (let y = notes.all p others in_sets in λ id it is has r n own left. before.noted j e less at p y.0 of y.1 id it is has r n own (y.2 r left))
      | inr more ↦
          let same : j ≡ n = omega (arith, more, low, one) in
          subst (λ (y : Entry). IsNoted t y new) (one-some x e (sym there ∙ ap (slice_get t.merge.now.entries) (sym same) ∙ at)) notes.noted
    ]

pub others-all : (t : Teller) (n : ℕ) (sets : List Others) → length t.merge.now.entries ≤ n → AreOthersFor t n sets → AreOthers t sets
others-all t n sets past are = record {
  counted = are.counted;
  noted = λ j e at. (let within = slice_get_within t.merge.now.entries j e at in are.noted j e (omega (arith, within, past)) at);
}
