-- One id for one named type: what was made once stays so as more is written, and what it says of the mentions in a merge.
use Rattle.std.proofs.Common.{◌≡◌, ℕ, zero, suc, ◌+◌, ◌-◌, List, [], ◌∷◌, ◌++◌, length, reverse, take, slice_get, Some, None, Result, Ok, Err, IfOk, OnOk, refl, sym, ap, ◌∙◌, subst, inl, inr, arith}
use Rattle.std.proofs.lemmas.List.{map-append}
use Rattle.std.proofs.lemmas.Option.{slice_get_within}
use Rattle.wac_types_shapes.specs.primitives.Name.{Name, option_case}
use Rattle.wac_types_shapes.specs.declared.shapes.component.DefinedType.{DefinedType}
use Rattle.wac_types_shapes.specs.declared.shapes.component.DefinedTypeId.{DefinedTypeId}
use Rattle.wac_types_shapes.specs.declared.shapes.component.FuncType.{FuncType}
use Rattle.wac_types_shapes.specs.declared.shapes.component.FuncTypeId.{FuncTypeId}
use Rattle.wac_types_shapes.specs.declared.shapes.component.Interface.{Interface}
use Rattle.wac_types_shapes.specs.declared.shapes.component.InterfaceId.{InterfaceId}
use Rattle.wac_types_shapes.specs.declared.shapes.component.ItemKind.{ItemKind}
use Rattle.wac_types_shapes.specs.declared.shapes.component.ItemKind.TheVariants as kind
use Rattle.wac_types_shapes.specs.declared.shapes.component.ResourceId.{ResourceId}
use Rattle.wac_types_shapes.specs.declared.shapes.component.ValueType.{ValueType}
use Rattle.wac_types_shapes.specs.declared.shapes.component.ValueType.TheVariants as val
use Rattle.wac_types_shapes.specs.declared.shapes.component.«Type».TheVariants as ty
use Rattle.wac_types_shapes.proofs.lemmas.shapes.Names.{take_at}
use Rattle.wac_types_collection.specs.collection.Collection.{Collection, defined_values, func_values, item_at}
use Rattle.wac_merge_classes.specs.entries.Bindings.{ClassBindings}
use Rattle.wac_merge_classes.specs.entries.Classes.{Entry}
use Rattle.wac_merge_classes.proofs.lemmas.entries.Lists.{push-cases, some-at, zip_all}
use Rattle.wac_merge_classes.specs.terms.Merge.{import_entries}
use Rattle.wac_types_collection.specs.private.subtyping.Extended.{IsExtended}
use Rattle.wac_merge_classes.specs.terms.Became.{became}
use Rattle.wac_merge_classes.specs.terms.Values.{definition}
use Rattle.wac_merge_classes.specs.declared.terms.fresh.Fresh.{Fresh}
use Rattle.wac_merge_classes.specs.declared.terms.parts.Export.{Export}
use Rattle.wac_merge_classes.specs.declared.terms.parts.Part.{Part}
use Rattle.wac_merge_classes.specs.declared.terms.parts.Union.{Union}
use Rattle.wac_merge_classes.proofs.lemmas.terms.Found.{mapped_length}
use Rattle.wac_merge_resources.specs.values.NamedTypes.{named_type}
use Rattle.wac_merge_resources.specs.declared.values.named.NamedTypes.{NamedTypes}
use Rattle.wac_merge_resources.specs.renaming.MadeOf.{IsFuncMadeOf, IsKindMadeOf, IsMadeOf, alias, anew, other_name, plain, plain_value}
use Rattle.wac_merge_tables.specs.made.Made.{IsMadeFor, StayMade}
use Rattle.wac_merge_tables.specs.declared.made.made.Made.{Made}
use Rattle.wac_merge_tables.proofs.lemmas.made.Extending.{kept_item}
use Rattle.wac_merge_tables.proofs.lemmas.made.MadeForms.{made_alike}
use Rattle.wac_merge_resources.proofs.lemmas.renaming.OneIds.{still_kind_of}
use Rattle.wac_merge_imports.specs.unions.OneId.{AreBeside, AreMadeOnce, Became, another, at_end, in_definition, in_import, in_union, kind_values}
use Rattle.wac_merge_imports.specs.unions.WritingSteps.{AreImportsMadeOf, AreItemsMadeOf, AreUnionsMadeOf, IsUnionMadeOf}
use Rattle.wac_merge_imports.proofs.lemmas.unions.WritingItems.{zip-push}
use Rattle.wac_merge_imports.proofs.lemmas.unions.WritingUnions.{turned}

one-some : {A : Type 0} (x y : A) → Some x ≡ Some y → x ≡ y
one-some x y e = cc

abbrev import-entry : Name × ItemKind → Entry
import-entry e = record { name = e.0; kind = e.1 }

pub imports-long : (is : List (Name × ItemKind)) → length (import_entries is) ≡ length is
imports-long is = mapped_length import-entry is

-- ---- what stays
module _ (c m more : Collection) (x : IsExtended m more) (f : ℕ → ResourceId → ResourceId) (t : NamedTypes) (old new : Made) (stay : StayMade old new) where
  pub still-items : (es : List (Name × Export)) (ks : List (Name × ItemKind)) → AreItemsMadeOf c m f t old es ks → AreItemsMadeOf c more f t new es ks
  still-items es ks h = zip_all _ _ (λ (e : Name × Export) (k : Name × ItemKind) (r : IsKindMadeOf c m (f e.1.part) t old e.1.kind k.1). still_kind_of c (f e.1.part) t old new stay m more x e.1.kind k.1 r) es ks h

  pub still-union-made : (y : Union) (w : InterfaceId) → IsUnionMadeOf c m f t old y w → IsUnionMadeOf c more f t new y w
  still-union-made y w h = record {
    interface = h.interface;
    there = kept_item m.interfaces more.interfaces x.kept.interfaces w.0 h.interface h.there;
    items = still-items y.exports h.interface.exports h.items;
  }

  -- with one more export
  pub items-made-more : (es : List (Name × Export)) (ks : List (Name × ItemKind)) (n : Name) (e : Export) (k : ItemKind) → AreItemsMadeOf c m f t old es ks → IsKindMadeOf c more (f e.part) t new e.kind k → AreItemsMadeOf c more f t new (es ++ (n, e) ∷ []) (ks ++ (n, k) ∷ [])
  items-made-more es ks n e k h r = zip-push (λ (a : Name × Export) (b : Name × ItemKind). IsKindMadeOf c more (f a.1.part) t new a.1.kind b.1) es ks (n, e) (n, k) (still-items es ks h) r

  -- with one more union, of those that are written from the last on
  pub unions-made-more : (us : List Union) (written : List InterfaceId) (u : ℕ) (w : InterfaceId) → length written + u + 1 ≡ length us
      → ((j v : ℕ) (a : InterfaceId) (y : Union) → slice_get written j ≡ Some a → j + v + 1 ≡ length us → slice_get us v ≡ Some y → IsUnionMadeOf c m f t old y a)
      → ((y : Union) → slice_get us u ≡ Some y → IsUnionMadeOf c more f t new y w)
      → (j v : ℕ) (a : InterfaceId) (y : Union) → slice_get (written ++ w ∷ []) j ≡ Some a → j + v + 1 ≡ length us → slice_get us v ≡ Some y → IsUnionMadeOf c more f t new y a
  unions-made-more us written u w count were is j v a y at place there = elim (push-cases written w j a at) [
    | inl before ↦ still-union-made y a (were j v a y before place there)
    | inr last ↦
        let same : v ≡ u = let e = last.0 in omega (arith, e, place, count) in
        subst (λ (b : InterfaceId). IsUnionMadeOf c more f t new y b) (sym last.1) (is y (ap (slice_get us) (sym same) ∙ there))
  ]

  -- with one more import
  pub imports-made-more : (g : ResourceId → ResourceId) (es : List Entry) (positions order : List ℕ) (i k q : ℕ) (is : List (Name × ItemKind)) (n : Name) (e : Entry) (l : ItemKind) → slice_get order i ≡ Some k → slice_get positions k ≡ Some q → slice_get es q ≡ Some e → length is ≡ length (take i order)
      → AreImportsMadeOf c m g t old es positions (take i order) (import_entries is) → IsKindMadeOf c more g t new e.kind l → AreImportsMadeOf c more g t new es positions (take (suc i) order) (import_entries (is ++ (n, l) ∷ []))
  imports-made-more g es positions order i k q is n e l at position there counted were made p j r a y at_p at_j at_r at_y =
      elim (push-cases (take i order) k p j (ap (λ ns. slice_get ns p) (sym (take_at order i k at)) ∙ at_p)) [
        | inl before ↦
            elim (push-cases (import_entries is) (import-entry (n, l)) p y (ap (λ ns. slice_get ns p) (sym (map-append import-entry is ((n, l) ∷ []))) ∙ at_y)) [
              | inl early ↦ still_kind_of c g t old new stay m more x a.kind y.kind (were p j r a y before at_j at_r early)
              | inr last ↦ let low = slice_get_within (take i order) p j before in let end = last.0 in let long = imports-long is in absurd (omega (arith, low, end, long, counted))
            ]
        | inr last ↦
            elim (push-cases (import_entries is) (import-entry (n, l)) p y (ap (λ ns. slice_get ns p) (sym (map-append import-entry is ((n, l) ∷ []))) ∙ at_y)) [
              | inl early ↦ let low = slice_get_within (import_entries is) p y early in let end = last.0 in let long = imports-long is in absurd (omega (arith, low, end, long, counted))
              | inr now ↦
                  let same_q : q ≡ r = one-some q r (sym position ∙ ap (slice_get positions) (sym last.1) ∙ at_j) in
                  let same : e ≡ a = one-some e a (sym there ∙ ap (slice_get es) same_q ∙ at_r) in
                  subst (λ (z : Entry). IsKindMadeOf c more g t new a.kind z.kind) (sym now.1) (subst (λ (z : Entry). IsKindMadeOf c more g t new z.kind l) same made)
            ]
      ]

-- in the end the list of unions is turned round
pub unions-made : (c m : Collection) (f : ℕ → ResourceId → ResourceId) (t : NamedTypes) (made : Made) (us : List Union) (written : List InterfaceId) → length written ≡ length us
    → ((j v : ℕ) (a : InterfaceId) (y : Union) → slice_get written j ≡ Some a → j + v + 1 ≡ length us → slice_get us v ≡ Some y → IsUnionMadeOf c m f t made y a) → AreUnionsMadeOf c m f t made us (reverse written)
unions-made c m f t made us written count were u y w there at =
    let low = slice_get_within us u y there in
    let j = length us - 1 - u in
    let place : j + u + 1 ≡ length us = omega (arith, low) in
    let a = some-at written j (omega (arith, low, count)) in
    let same : a.0 ≡ w = one-some a.0 w (sym (turned written j u a.0 a.1 (place ∙ sym count)) ∙ at) in
    subst (λ (b : InterfaceId). IsUnionMadeOf c m f t made y b) same (were j u a.0 y a.1 place there)

-- what four clauses of one result say together
pub if-four : {A E P Q : Type 0} {R S T : A → Type 0} (x : Result A E) → (P → Q → (a : A) → R a → S a → T a) → OnOk x P → OnOk x Q → IfOk x R → IfOk x S → IfOk x T
if-four (Ok a) f p q r s = f p q a r s
if-four (Err e) f p q r s = r

-- ---- the items of a union, one by one
pub items-at : (c m : Collection) (f : ℕ → ResourceId → ResourceId) (t : NamedTypes) (made : Made) (es : List (Name × Export)) (ks : List (Name × ItemKind)) (i : ℕ) (e : Name × Export) (k : Name × ItemKind)
    → AreItemsMadeOf c m f t made es ks → slice_get es i ≡ Some e → slice_get ks i ≡ Some k → IsKindMadeOf c m (f e.1.part) t made e.1.kind k.1
items-at c m f t made [] ks i e k h p q = cc p
items-at c m f t made (a ∷ es) [] i e k h p q = cc q
items-at c m f t made (a ∷ es) (b ∷ ks) zero e k h p q =
    subst (λ (z : Name × Export). IsKindMadeOf c m (f z.1.part) t made z.1.kind k.1) (one-some a e p) (subst (λ (z : Name × ItemKind). IsKindMadeOf c m (f a.1.part) t made a.1.kind z.1) (one-some b k q) h.0)
items-at c m f t made (a ∷ es) (b ∷ ks) (suc i) e k h p q = items-at c m f t made es ks i e k h.1 p q

-- ---- what an item mentions
func-values : (c : Collection) (f : FuncTypeId) (x : FuncType) → item_at c.funcs f.0 ≡ Some x → option_case (item_at c.funcs f.0) [] func_values ≡ func_values x
func-values c f x at = ap (λ o. option_case o [] func_values) at

module _ (c m : Collection) (g : ResourceId → ResourceId) (t : NamedTypes) (made : Made) where
  alone : (v w a b : ValueType) (i : ℕ) → IsMadeOf c g t made v w → slice_get (v ∷ []) i ≡ Some a → slice_get (w ∷ []) i ≡ Some b → IsMadeOf c g t made a b
  alone v w a b zero h p q = subst (λ z. IsMadeOf c g t made z b) (one-some v a p) (subst (λ z. IsMadeOf c g t made v z) (one-some w b q) h)
  alone v w a b (suc i) h p q = cc p

  in-func : (f h : FuncTypeId) (a b : ValueType) → IsFuncMadeOf c m g t made f h → AreBeside (option_case (item_at c.funcs f.0) [] func_values) (option_case (item_at m.funcs h.0) [] func_values) a b → IsMadeOf c g t made a b
  in-func f h a b r (i, p, q) =
      r.values i a b (ap (λ vs. slice_get vs i) (sym (func-values c f r.before r.is)) ∙ p) (ap (λ vs. slice_get vs i) (sym (func-values m h r.after r.became)) ∙ q)

  kind-made : (k l : ItemKind) (a b : ValueType) → IsKindMadeOf c m g t made k l → AreBeside (kind_values c k) (kind_values m l) a b → IsMadeOf c g t made a b
  kind-made k (kind.TypeItem (ty.Resource r)) a b h (i, p, q) = cc q
  kind-made (kind.Value v) (kind.Value w) a b h (i, p, q) = alone v w a b i h p q
  kind-made (kind.TypeItem (ty.Value v)) (kind.TypeItem (ty.Value w)) a b h (i, p, q) = alone v w a b i h p q
  kind-made (kind.Func f) (kind.Func e) a b h beside = in-func f e a b h beside
  kind-made (kind.TypeItem (ty.Func f)) (kind.TypeItem (ty.Func e)) a b h beside = in-func f e a b h beside
  kind-made (kind.Value v) l a b h beside = absurd h
  kind-made (kind.TypeItem (ty.Value v)) l a b h beside = absurd h
  kind-made (kind.Func f) l a b h beside = absurd h
  kind-made (kind.TypeItem (ty.Func f)) l a b h beside = absurd h
  kind-made k l a b h (i, p, q) = cc p

  another-is : (d : DefinedTypeId) (y : DefinedType) → item_at c.defined d.0 ≡ Some y → another c d ≡ other_name y
  another-is d y at = ap (λ o. option_case o None other_name) at

  same-id : (d k : DefinedTypeId) → Some d ≡ Some k → d ≡ k
  same-id d k e = cc

  -- what became of the end of a definition's other names
  made-end : (v w : ValueType) (d end : DefinedTypeId) → v ≡ val.Defined d → another c d ≡ Some end → IsMadeOf c g t made v w → IsMadeOf c g t made (val.Defined end) w
  made-end v w d end is other (plain _ _ none) = cc (sym (ap (plain_value c g) is) ∙ none)
  made-end v w d end is other (alias _ _ k e y p at o h) =
      let same : d ≡ k = same-id d k (ap definition (sym is) ∙ p) in
      let ends : e ≡ end = same-id e end (sym o ∙ sym (another-is k y at) ∙ ap (another c) (sym same) ∙ other) in
      subst (λ (z : DefinedTypeId). IsMadeOf c g t made (val.Defined z) w) ends h
  made-end v w d end is other (anew _ _ k e y x p q at o f _ parts) =
      let same : d ≡ k = same-id d k (ap definition (sym is) ∙ p) in
      cc (sym other ∙ ap (another c) same ∙ another-is k y at ∙ o)

  -- a definition that is no other name was made for its named type, and its parts for theirs
  record IsAnew (d e : DefinedTypeId) : Type 0 where
    before : DefinedType
    after : DefinedType
    is : item_at c.defined d.0 ≡ Some before
    made_for : IsMadeFor made (named_type t d) after e
    parts : (a b : ValueType) → AreBeside (defined_values before) (defined_values after) a b → IsMadeOf c g t made a b

  made-anew : (v w : ValueType) (d e : DefinedTypeId) → v ≡ val.Defined d → w ≡ val.Defined e → another c d ≡ None → IsMadeOf c g t made v w → IsAnew d e
  made-anew v w d e is became none (plain _ _ nothing) = cc (sym (ap (plain_value c g) is) ∙ nothing)
  made-anew v w d e is became none (alias _ _ k end y p at o h) =
      let same : d ≡ k = same-id d k (ap definition (sym is) ∙ p) in
      cc (sym none ∙ ap (another c) same ∙ another-is k y at ∙ o)
  made-anew v w d e is became none (anew _ _ k f y x p q at o for _ parts) =
      let same : k ≡ d = sym (same-id d k (ap definition (sym is) ∙ p)) in
      let ids : f ≡ e = sym (same-id e f (ap definition (sym became) ∙ q)) in
      record {
        before = y;
        after = x;
        is = ap (λ (z : DefinedTypeId). item_at c.defined z.0) (sym same) ∙ at;
        made_for = subst (λ (z : DefinedTypeId). IsMadeFor made (named_type t d) x z) ids (subst (λ (z : DefinedTypeId). IsMadeFor made (named_type t z) x f) same for);
        parts = λ a b (i, g, h). parts i a b g h;
      }

-- ---- the mentions of a merge
module _ (c m : Collection) (es : List Entry) (us : List Union) (ps : List Part) (bs : ClassBindings) (f : Fresh) (t : NamedTypes) (positions order : List ℕ) (imports : List Entry) (once : AreMadeOnce c m es us ps bs f t positions order imports) where
  abbrev Mention : ValueType → ValueType → Type 0
  Mention = Became c m es imports us once.written.ws positions order

  -- what a mention became was made for the named type that it is
  mention-made : (v w : ValueType) → Mention v w → (g : ResourceId → ResourceId) × IsMadeOf c g t once.made v w
  mention-made v w (in_union _ _ u i x y it e k at there is p q beside) =
      let h = once.unions u x y at there in
      let in_part = λ (n : ℕ). became c ps bs f (Some n) in
      let same : h.interface ≡ it = one-some h.interface it (sym h.there ∙ is) in
      (in_part e.1.part, kind-made c m (in_part e.1.part) t once.made e.1.kind k.1 v w (items-at c m in_part t once.made x.exports it.exports i e k (subst (λ (z : Interface). AreItemsMadeOf c m in_part t once.made x.exports z.exports) same h.items) p q) beside)
  mention-made v w (in_import _ _ p k q e x at_p at_k at_q at_x beside) =
      (became c ps bs f None, kind-made c m (became c ps bs f None) t once.made e.kind x.kind v w (once.imported p k q e x at_p at_k at_q at_x) beside)
  mention-made v w (at_end _ _ d end before other is) =
      let (g, h) = mention-made (val.Defined d) w before in
      (g, subst (λ (z : ValueType). IsMadeOf c g t once.made z w) (sym is) (made-end c m g t once.made (val.Defined d) w d end refl other h))
  mention-made v w (in_definition _ _ d e y x before none at there beside) =
      let (g, h) = mention-made (val.Defined d) (val.Defined e) before in
      let a = made-anew c m g t once.made (val.Defined d) (val.Defined e) d e refl refl none h in
      let same_y : y ≡ a.before = one-some y a.before (sym at ∙ a.is) in
      let (form, n, s, is) = a.made_for in
      let same_x : x ≡ a.after = one-some x a.after (sym there ∙ once.are.there.defined form e is ∙ ap Some s) in
      (g, a.parts v w (subst (λ (z : DefinedType). AreBeside (defined_values z) (defined_values a.after) v w) same_y (subst (λ (z : DefinedType). AreBeside (defined_values y) (defined_values z) v w) same_x beside)))

  for-mention : (d a : DefinedTypeId) → Mention (val.Defined d) (val.Defined a) → another c d ≡ None → (x : DefinedType) × IsMadeFor once.made (named_type t d) x a
  for-mention d a h none =
      let (g, made) = mention-made (val.Defined d) (val.Defined a) h in
      let is = made-anew c m g t once.made (val.Defined d) (val.Defined a) d a refl refl none made in
      (is.after, is.made_for)

  pub one-id : (d e a b : DefinedTypeId) (x : DefinedType) → Mention (val.Defined d) (val.Defined a) → Mention (val.Defined e) (val.Defined b) → another c d ≡ None → another c e ≡ None → named_type t d ≡ named_type t e → item_at m.defined a.0 ≡ Some x → item_at m.defined b.0 ≡ Some x → a ≡ b
  one-id d e a b x one other end_d end_e alike at_a at_b =
      let (p, np, sp, ip) = (for-mention d a one end_d).1 in
      let (q, nq, sq, iq) = (for-mention e b other end_e).1 in
      let named = np ∙ alike ∙ sym nq in
      let shapes = one-some _ _ (sym (once.are.there.defined p a ip) ∙ at_a ∙ sym at_b ∙ once.are.there.defined q b iq) in
      one-some a b (sym ip ∙ made_alike once.made p q named shapes ∙ iq)

  pub apart-named : (d e a : DefinedTypeId) → Mention (val.Defined d) (val.Defined a) → Mention (val.Defined e) (val.Defined a) → another c d ≡ None → another c e ≡ None → named_type t d ≡ named_type t e
  apart-named d e a one other end_d end_e =
      let (p, np, sp, ip) = (for-mention d a one end_d).1 in
      let (q, nq, sq, iq) = (for-mention e a other end_e).1 in
      sym np ∙ once.are.apart.one p q a ip iq ∙ nq
