-- Imports with what they use, one after another.
use Rattle.std.proofs.Common.{◌≡◌, ℕ, zero, suc, ◌+◌, ◌<◌, ◌≤◌, true, List, Vec, [], ◌∷◌, ◌++◌, length, map, take, IsSome, slice_get, Option, Some, None, refl, sym, ap, ◌∙◌, subst, arith, inl, inr}
use Rattle.std.specs.Global.{Global}
use Rattle.std.proofs.lemmas.Bool.{false≢true}
use Rattle.std.proofs.lemmas.List.{length-append, map-append}
use Rattle.std.proofs.lemmas.Option.{slice_get_within}
use Rattle.wac_types_shapes.specs.primitives.Name.{Name, find_name}
use Rattle.wac_types_shapes.specs.shapes.Named.{NoNameTwice}
use Rattle.wac_types_shapes.specs.shapes.Kinds.{kind_type}
use Rattle.wac_types_shapes.specs.declared.shapes.component.InterfaceId.{InterfaceId}
use Rattle.wac_types_shapes.specs.declared.shapes.component.UsedType.{UsedType}
use Rattle.wac_types_shapes.specs.declared.shapes.component.ItemKind.{ItemKind}
use Rattle.wac_types_shapes.specs.declared.shapes.component.ItemKind.TheVariants as kind
use Rattle.wac_types_shapes.proofs.lemmas.shapes.Names.{found_at, none_before, take_at}
use Rattle.wac_types_collection.specs.collection.Collection.{Collection, IsWellFormed, holds_all, holds_type, kind_types, IsKeptBy}
use Rattle.wac_merge_classes.specs.entries.Bindings.{AreHeld}
use Rattle.wac_merge_classes.specs.entries.Classes.{AreClasses, Entry, NameRules, by_names, class_names, members}
use Rattle.wac_merge_classes.proofs.lemmas.entries.Lists.{push-cases, some-at}
use Rattle.wac_merge_classes.specs.terms.Merge.{import_entries}
use Rattle.wac_merge_classes.proofs.lemmas.terms.Alike.{members_alike}
use Rattle.wac_merge_classes.proofs.lemmas.terms.Found.{find_at, get_map, mapped_length, no_some, some_same}
use Rattle.wac_merge_unions.specs.uses.KeptUses.{instances, uses_of}
use Rattle.wac_merge_unions.specs.uses.Using.{AreUsers, AreUsing, IsKindUsing, StaysBare, uses_among}
use Rattle.wac_merge_unions.proofs.lemmas.uses.Growing.{holds-kept, item-kept, uses-still}
use Rattle.wac_merge_unions.proofs.lemmas.uses.UsingGrows.{still-using, using-there}

-- ---- one import

pub other-kind : (c m : Collection) (f : List InterfaceId → List (Name × ItemKind) → List (Name × UsedType)) (is : List InterfaceId) (k : ItemKind) → ((i : InterfaceId) → k ≡ kind.Instance i → ⊥) → IsKindUsing c m f is k k
other-kind c m f is (kind.Instance i) none = absurd (none i refl)
other-kind c m f is (kind.TypeItem t) none = refl
other-kind c m f is (kind.Func x) none = refl
other-kind c m f is (kind.Component w) none = refl
other-kind c m f is (kind.Module y) none = refl
other-kind c m f is (kind.Value v) none = refl

module _ (d c m : Collection) (wf : IsWellFormed c) (more : IsWellFormed m) (x : IsKeptBy c m) where
  still-kind : (f g : List InterfaceId → List (Name × ItemKind) → List (Name × UsedType)) → ((is : List InterfaceId) (exports : List (Name × ItemKind)) → holds_all c (kind_types exports) ≡ true → f is exports ≡ g is exports)
      → (is : List InterfaceId) (k l : ItemKind) → IsKindUsing d c f is k l → IsKindUsing d m g is k l
  still-kind f g same is (kind.Instance i) (kind.Instance w) h = still-using d c m wf x f g same i w is h
  still-kind f g same is (kind.Instance i) (kind.TypeItem t) h = h
  still-kind f g same is (kind.Instance i) (kind.Func y) h = h
  still-kind f g same is (kind.Instance i) (kind.Component w) h = h
  still-kind f g same is (kind.Instance i) (kind.Module y) h = h
  still-kind f g same is (kind.Instance i) (kind.Value v) h = h
  still-kind f g same is (kind.TypeItem t) l h = h
  still-kind f g same is (kind.Func y) l h = h
  still-kind f g same is (kind.Component w) l h = h
  still-kind f g same is (kind.Module y) l h = h
  still-kind f g same is (kind.Value v) l h = h

  pub still-held : (es : List Entry) → AreHeld c es → AreHeld m es
  still-held es held p e at = holds-kept c m wf x (kind_type e.kind) (held p e at)

-- an item that stays what it is still does
still-stays : (c m more : Collection) → IsWellFormed m → IsKeptBy m more → (is : List InterfaceId) (k l : ItemKind) → StaysBare c m is k l → StaysBare c more is k l
still-stays c m more wf kept is (kind.Instance i) l h = λ none plain. h none (λ it at. plain it (item-kept m more wf kept i it at))
still-stays c m more wf kept is (kind.TypeItem t) l h = tt
still-stays c m more wf kept is (kind.Func f) l h = tt
still-stays c m more wf kept is (kind.Component w) l h = tt
still-stays c m more wf kept is (kind.Module y) l h = tt
still-stays c m more wf kept is (kind.Value v) l h = tt

-- an instance with uses is held
pub using-held : (c m : Collection) (f : List InterfaceId → List (Name × ItemKind) → List (Name × UsedType)) (is : List InterfaceId) (k l : ItemKind) → holds_type m (kind_type k) ≡ true → IsKindUsing c m f is k l → holds_type m (kind_type l) ≡ true
using-held c m f is (kind.Instance i) (kind.Instance w) held h = let low = using-there c m f i w is h in grind (arith, low)
using-held c m f is (kind.Instance i) (kind.TypeItem t) held h = subst (λ (y : ItemKind). holds_type m (kind_type y) ≡ true) (sym h) held
using-held c m f is (kind.Instance i) (kind.Func y) held h = subst (λ (y : ItemKind). holds_type m (kind_type y) ≡ true) (sym h) held
using-held c m f is (kind.Instance i) (kind.Component w) held h = subst (λ (y : ItemKind). holds_type m (kind_type y) ≡ true) (sym h) held
using-held c m f is (kind.Instance i) (kind.Module y) held h = subst (λ (y : ItemKind). holds_type m (kind_type y) ≡ true) (sym h) held
using-held c m f is (kind.Instance i) (kind.Value v) held h = subst (λ (y : ItemKind). holds_type m (kind_type y) ≡ true) (sym h) held
using-held c m f is (kind.TypeItem t) l held h = subst (λ (y : ItemKind). holds_type m (kind_type y) ≡ true) (sym h) held
using-held c m f is (kind.Func y) l held h = subst (λ (y : ItemKind). holds_type m (kind_type y) ≡ true) (sym h) held
using-held c m f is (kind.Component w) l held h = subst (λ (y : ItemKind). holds_type m (kind_type y) ≡ true) (sym h) held
using-held c m f is (kind.Module y) l held h = subst (λ (y : ItemKind). holds_type m (kind_type y) ≡ true) (sym h) held
using-held c m f is (kind.Value v) l held h = subst (λ (y : ItemKind). holds_type m (kind_type y) ≡ true) (sym h) held

-- ---- all

take-push : {A : Type 0} (xs : List A) (x : A) (p : ℕ) → p ≤ length xs → take p (xs ++ x ∷ []) ≡ take p xs
take-push [] x zero low = refl
take-push [] x (suc p) low = absurd (omega (arith, low))
take-push (y ∷ xs) x zero low = refl
take-push (y ∷ xs) x (suc p) low = ap (λ l. y ∷ l) (take-push xs x p (omega (arith, low)))

take-whole : {A : Type 0} (xs : List A) → take (length xs) xs ≡ xs
take-whole [] = refl
take-whole (x ∷ xs) = ap (λ l. x ∷ l) (take-whole xs)

held-part : (c : Collection) (es : List Entry) (n : ℕ) → AreHeld c es → AreHeld c (take n es)
held-part c es n held p e at = held p e (taken es n p at) where
  taken : (xs : List Entry) (n p : ℕ) → slice_get (take n xs) p ≡ Some e → slice_get xs p ≡ Some e
  taken [] zero p at = at
  taken [] (suc n) p at = at
  taken (x ∷ xs) zero p at = absurd (no_some e at)
  taken (x ∷ xs) (suc n) zero at = at
  taken (x ∷ xs) (suc n) (suc p) at = taken xs n p at

pub none-using : (rules : NameRules) (c : Collection) (es : List Entry) (m : Collection) → AreUsing rules c es m [] []
none-using rules c es m = record {
  counted = refl;
  names = λ p a b here there. absurd (no_some a here);
  kinds = λ p a b here there. absurd (no_some a here);
  stay = λ p a b here there. absurd (no_some a here);
}

-- one import more, while the collection grows
pub using-more : (rules : NameRules) (c : Collection) (es : List Entry) (m more : Collection) → IsWellFormed m → IsWellFormed more → IsKeptBy m more → (bare imports : List Entry) (a b : Entry)
    → AreHeld m imports → b.name ≡ a.name → IsKindUsing c more (uses_among rules c es more imports) (instances (members rules es a.name)) a.kind b.kind
    → StaysBare c more (instances (members rules es a.name)) a.kind b.kind → AreUsing rules c es m bare imports → AreUsing rules c es more (bare ++ a ∷ []) (imports ++ b ∷ [])
using-more rules c es m more wf also kept bare imports a b held name new stays are = record {
  counted = length-append imports (b ∷ []) ∙ (ap (λ n. n + 1) are.counted ∙ sym (length-append bare (a ∷ [])));
  names = λ p x y here there. elim (push-cases bare a p x here) [
    | inl old ↦ are.names p x y old (earlier p y (slice_get_within bare p x old) there)
    | inr last ↦ last-name y (latest p y last.0 there) ∙ (name ∙ ap (λ (z : Entry). z.name) (sym last.1))
  ];
  kinds = λ p x y here there. elim (push-cases bare a p x here) [
    | inl old ↦ before p x y (slice_get_within bare p x old) (are.kinds p x y old (earlier p y (slice_get_within bare p x old) there))
    | inr last ↦ after p x y last.0 (sym last.1) (latest p y last.0 there)
  ];
  stay = λ p x y here there. elim (push-cases bare a p x here) [
    | inl old ↦ still-stays c m more wf kept (instances (members rules es x.name)) x.kind y.kind (are.stay p x y old (earlier p y (slice_get_within bare p x old) there))
    | inr last ↦
        subst (λ (z : Entry). StaysBare c more (instances (members rules es z.name)) z.kind y.kind) (sym last.1)
        (subst (λ (z : Entry). StaysBare c more (instances (members rules es a.name)) a.kind z.kind) (sym (latest p y last.0 there)) stays)
  ];
} where
  earlier : (p : ℕ) (y : Entry) → p < length bare → slice_get (imports ++ b ∷ []) p ≡ Some y → slice_get imports p ≡ Some y
  earlier p y low at = elim (push-cases imports b p y at) [
    | inl old ↦ old
    | inr last ↦ let end = last.0 in let count = are.counted in absurd (omega (arith, low, end, count))
  ]

  latest : (p : ℕ) (y : Entry) → p ≡ length bare → slice_get (imports ++ b ∷ []) p ≡ Some y → y ≡ b
  latest p y end at = elim (push-cases imports b p y at) [
    | inl old ↦ let low = slice_get_within imports p y old in let count = are.counted in absurd (omega (arith, low, end, count))
    | inr last ↦ last.1
  ]

  last-name : (y : Entry) → y ≡ b → y.name ≡ b.name
  last-name y same = ap (λ (z : Entry). z.name) same

  before : (p : ℕ) (x y : Entry) → p < length bare → IsKindUsing c m (uses_among rules c es m (take p imports)) (instances (members rules es x.name)) x.kind y.kind → IsKindUsing c more (uses_among rules c es more (take p (imports ++ b ∷ []))) (instances (members rules es x.name)) x.kind y.kind
  before p x y low h =
      let count = are.counted in
      still-kind c m more wf also kept (uses_among rules c es m (take p imports)) (uses_among rules c es more (take p (imports ++ b ∷ [])))
      (λ is exports exports-held. sym (ap (λ l. uses_among rules c es more l is exports) (take-push imports b p (omega (arith, low, count)))
      ∙ uses-still m more wf also kept exports exports-held rules c es (take p imports) (held-part m imports p held) (uses_of c is)))
      (instances (members rules es x.name)) x.kind y.kind h

  after : (p : ℕ) (x y : Entry) → p ≡ length bare → a ≡ x → y ≡ b → IsKindUsing c more (uses_among rules c es more (take p (imports ++ b ∷ []))) (instances (members rules es x.name)) x.kind y.kind
  after p x y end same is =
      let count = are.counted in
      let all : take p (imports ++ b ∷ []) ≡ imports =
      ap (λ n. take n (imports ++ b ∷ [])) (end ∙ sym count) ∙ (take-push imports b (length imports) (omega arith) ∙ take-whole imports) in
      subst (λ (l : List Entry). IsKindUsing c more (uses_among rules c es more l) (instances (members rules es x.name)) x.kind y.kind) (sym all)
      (subst (λ (z : Entry). IsKindUsing c more (uses_among rules c es more imports) (instances (members rules es z.name)) z.kind y.kind) same
      (subst (λ (z : Entry). IsKindUsing c more (uses_among rules c es more imports) (instances (members rules es a.name)) a.kind z.kind) (sym is) new))

pub entries-push : (is : List (Name × ItemKind)) (n : Name) (k : ItemKind) → import_entries (is ++ (n, k) ∷ []) ≡ import_entries is ++ record { name = n; kind = k } ∷ []
entries-push is n k = map-append (λ (e : Name × ItemKind). record { name = e.0; kind = e.1 }) is ((n, k) ∷ [])

pub entry-at : (is : List (Name × ItemKind)) (p : ℕ) (n : Name) (k : ItemKind) → slice_get is p ≡ Some (n, k) → slice_get (import_entries is) p ≡ Some (record { name = n; kind = k })
entry-at [] p n k at = absurd (no_some (n, k) at)
entry-at (x ∷ is) zero n k at = ap (λ (y : Name × ItemKind). Some (record { name = y.0; kind = y.1 })) (some_same x (n, k) at)
entry-at (x ∷ is) (suc p) n k at = entry-at is p n k at

-- the interfaces of the instances of the class of a name
pub users-at : (c : Collection) (es : List Entry) (numbers positions : List ℕ) (names : List (Name × ℕ)) → AreClasses by_names es numbers positions names
    → (vs : List (Vec InterfaceId Global)) → AreUsers es (map (λ v. v.items) vs) → (n : Name) (k : ℕ) → find_name names n ≡ Some k → (k < length vs) × ((v : Vec InterfaceId Global) → slice_get vs k ≡ Some v → v.items ≡ instances (members by_names es n))
users-at c es numbers positions names are vs users n k found =
    let view = λ (x : Vec InterfaceId Global). x.items in
    let w = are.classed n k found in
    let low = slice_get_within (class_names by_names es) k w.0 w.1 in
    let count = users.counted in
    let mapped = mapped_length view vs in
    (omega (arith, low, count, mapped), λ v at. users.each k w.0 v.items w.1 (get_map view vs k v at) ∙ ap instances (members_alike c es w.0 n w.2))

-- a name that is next stands under nothing yet
pub unnamed : (rules : NameRules) (c : Collection) (es : List Entry) (m : Collection) (bare imports : List (Name × ItemKind)) (i : ℕ) (n : Name) (k : ItemKind) → NoNameTwice bare → slice_get bare i ≡ Some (n, k)
    → AreUsing rules c es m (import_entries (take i bare)) (import_entries imports) → IsSome (find_name imports n) → ⊥
unnamed rules c es m bare imports i n k once at are some = by (find_name imports n) refl some where
  by : (o : Option ItemKind) → find_name imports n ≡ o → IsSome o → ⊥
  by None found h = absurd (false≢true h)
  by (Some l) found h =
      let w = find_at imports n l found in
      let there = entry-at imports w.0 n l w.1 in
      let low = slice_get_within (import_entries imports) w.0 _ there in
      let count = are.counted in
      let mapped = mapped_length {B = Entry} (λ (e : Name × ItemKind). record { name = e.0; kind = e.1 }) (take i bare) in
      let x = some-at (take i bare) w.0 (omega (arith, low, count, mapped)) in
      let same : n ≡ x.0.0 = are.names w.0 _ _ (entry-at (take i bare) w.0 x.0.0 x.0.1 x.1) there in
      found_at (take i bare) w.0 n x.0.1 (x.1 ∙ ap (λ (y : Name). Some (y, x.0.1)) (sym same)) (none_before bare i n k once at)

-- one import more, as it is listed
pub using-next : (rules : NameRules) (c : Collection) (es : List Entry) (m more : Collection) → IsWellFormed m → IsWellFormed more → IsKeptBy m more → (bare imports : List (Name × ItemKind)) (i : ℕ) (n : Name) (k l : ItemKind)
    → slice_get bare i ≡ Some (n, k) → AreHeld m (import_entries imports) → IsKindUsing c more (uses_among rules c es more (import_entries imports)) (instances (members rules es n)) k l
    → StaysBare c more (instances (members rules es n)) k l → AreUsing rules c es m (import_entries (take i bare)) (import_entries imports) → AreUsing rules c es more (import_entries (take (suc i) bare)) (import_entries (imports ++ (n, l) ∷ []))
using-next rules c es m more wf also kept bare imports i n k l at held new stays are =
    let a : Entry = record { name = n; kind = k } in
    let b : Entry = record { name = n; kind = l } in
    let one : import_entries (take (suc i) bare) ≡ import_entries (take i bare) ++ a ∷ [] = ap import_entries (take_at bare i (n, k) at) ∙ entries-push (take i bare) n k in
    subst (λ (xs : List Entry). AreUsing rules c es more xs (import_entries (imports ++ (n, l) ∷ []))) (sym one)
    (subst (λ (xs : List Entry). AreUsing rules c es more (import_entries (take i bare) ++ a ∷ []) xs) (sym (entries-push imports n l))
    (using-more rules c es m more wf also kept (import_entries (take i bare)) (import_entries imports) a b held refl new stays are))

pub held-push : (m : Collection) (es : List Entry) (e : Entry) → AreHeld m es → holds_type m (kind_type e.kind) ≡ true → AreHeld m (es ++ e ∷ [])
held-push m es e held here p x at = elim (push-cases es e p x at) [
  | inl old ↦ held p x old
  | inr last ↦ subst (λ (y : Entry). holds_type m (kind_type y.kind) ≡ true) (sym last.1) here
]
