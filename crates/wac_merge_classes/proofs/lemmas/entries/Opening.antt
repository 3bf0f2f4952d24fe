-- Scopes while they are found: what one more opened scope leaves, and that there are fewer left to open.
use Rattle.std.proofs.Common.{◌≡◌, ℕ, zero, suc, ◌+◌, ◌<◌, ◌≤◌, Bool, true, false, not, is_some, if◌then◌else◌, cond, List, [], ◌∷◌, ◌++◌, map, take, length, slice_get, Option, Some, None, Contains, ◌⊎◌, inl, inr, refl, sym, ap, ◌∙◌, subst, arith, append_assoc, add-one, nat_lt}
use Rattle.std.proofs.lemmas.List.Sums.{fold-append}
use Rattle.std.proofs.lemmas.List.Elements.{filter-append}
use Rattle.std.proofs.lemmas.Option.{slice_get_within}
use Rattle.std.specs.List.{AllByRecursion, IsDistinct, list_any}
use Rattle.indexmap.specs.IndexSet.{insert_key, insert_all}
use Rattle.std.specs.Option.{option_map}
use Rattle.wac_types_shapes.specs.primitives.Name.{Name, option_case}
use Rattle.wac_types_collection.specs.collection.Collection.{Collection, IsWellFormed, IsBefore, AreBefore, kind_types, used_types, holds_type, item_of}
use Rattle.wac_types_shapes.specs.shapes.Kinds.{kind_type}
use Rattle.wac_types_collection.specs.subtyping.Ranks.{type_rank}
use Rattle.wac_types_collection.specs.subtyping.Ranks.{rank_of_held}
use Rattle.wac_types_collection.specs.declared.collection.collection.Held.{Held}
use Rattle.wac_types_shapes.specs.declared.shapes.component.ItemKind.{ItemKind}
use Rattle.wac_types_shapes.specs.declared.shapes.component.ItemKind.TheVariants as kind
use Rattle.wac_types_shapes.specs.declared.shapes.component.«Type».{«Type» as AnyType}
use Rattle.wac_types_shapes.specs.declared.shapes.component.«Type».TheVariants as ty
use Rattle.wac_types_shapes.proofs.lemmas.shapes.Names.{take_at}
use Rattle.wac_types_collection.proofs.lemmas.collection.Growth.{type_within}
use Rattle.wac_types_collection.proofs.lemmas.collection.Steady.{all_left, all_right}
use Rattle.wac_types_collection.proofs.lemmas.subtyping.Unfolding.{all_both, before_rank}
use Rattle.wac_merge_classes.specs.declared.entries.scopes.Opener.{Opener}
use Rattle.wac_merge_classes.specs.declared.entries.scopes.Opener.TheVariants as opener
use Rattle.wac_merge_classes.specs.declared.entries.scopes.Scope.{Scope}
use Rattle.wac_merge_classes.specs.contracts.entries.scopes.ScopePartialEq.TheImpl as ScopeEq
use Rattle.wac_merge_classes.specs.entries.Scopes.{opener_type, listed_in, opened_by_type, opened_by, opened, number_of, unknown, inside, IsBelow, ComesFrom, AreScopes, AreNested}
use Rattle.wac_merge_classes.specs.entries.Opening.{with_opened, Opens, IsHeldAt, AreOpened, total, count_to, count_in, left_from}
use Rattle.wac_merge_classes.proofs.lemmas.entries.Inserting.{at-of, of-at, all-kept, all-there, all-cases, one-more, once-there}
use Rattle.wac_merge_classes.proofs.lemmas.entries.Lists.{some-at}
use Rattle.wac_merge_classes.proofs.lemmas.entries.ScopeKeys.{same-scope, scope-itself}

-- ---- lists

some-same : {A : Type 0} (x y : A) → Some x ≡ Some y → x ≡ y
some-same x y e = cc

module _ {A : Type 0} where
  pub get-left : (xs ys : List A) (i : ℕ) (x : A) → slice_get xs i ≡ Some x → slice_get (xs ++ ys) i ≡ Some x
  get-left [] ys i x at = cc
  get-left (z ∷ xs) ys zero x at = at
  get-left (z ∷ xs) ys (suc i) x at = get-left xs ys i x at

  pub get-right : (xs ys : List A) (j k : ℕ) → k ≡ length xs + j → slice_get (xs ++ ys) k ≡ slice_get ys j
  get-right [] ys j k e = let same : k ≡ j = omega (arith, e) in ap (slice_get ys) same
  get-right (z ∷ xs) ys j zero e = absurd (omega (arith, e))
  get-right (z ∷ xs) ys j (suc k) e = get-right xs ys j k (omega (arith, e))

  get-map : {B : Type 0} (f : A → B) (xs : List A) (i : ℕ) (x : A) → slice_get xs i ≡ Some x → slice_get (map f xs) i ≡ Some (f x)
  get-map f [] i x at = cc
  get-map f (z ∷ xs) zero x at = let same : z ≡ x = cc in ap (λ y. Some (f y)) same
  get-map f (z ∷ xs) (suc i) x at = get-map f xs i x at

  map-cases : {B : Type 0} (f : A → B) (xs : List A) (i : ℕ) (y : B) → slice_get (map f xs) i ≡ Some y → (x : A) × (slice_get xs i ≡ Some x) × (y ≡ f x)
  map-cases f [] i y at = cc
  map-cases f (z ∷ xs) zero y at = (z, refl, sym (some-same (f z) y at))
  map-cases f (z ∷ xs) (suc i) y at = map-cases f xs i y at

  all-at : (P : A → Type 0) (xs : List A) (i : ℕ) (x : A) → AllByRecursion P xs → slice_get xs i ≡ Some x → P x
  all-at P [] i x h at = cc
  all-at P (z ∷ xs) zero x h at = let same : z ≡ x = cc in subst P same h.0
  all-at P (z ∷ xs) (suc i) x h at = all-at P xs i x h.1 at

-- ---- what items open

pub opened-append : (xs ys : List (Name × ItemKind)) → opened (xs ++ ys) ≡ opened xs ++ opened ys
opened-append [] ys = refl
opened-append (e ∷ xs) ys = ap (λ r. opened_by e.1 ++ r) (opened-append xs ys) ∙ sym (append_assoc (opened_by e.1) (opened xs) (opened ys))

append-none : {A : Type 0} (xs : List A) → xs ++ [] ≡ xs
append-none [] = refl
append-none (x ∷ xs) = ap (λ r. x ∷ r) (append-none xs)

map-both : {A B : Type 0} (f : A → B) (xs ys : List A) → map f (xs ++ ys) ≡ map f xs ++ map f ys
map-both f [] ys = refl
map-both f (x ∷ xs) ys = ap (λ r. f x ∷ r) (map-both f xs ys)

-- scopes that are put in one after another
pub opened-both : (ss : List Scope) (p : Option ℕ) (xs ys : List Opener) → with_opened ss p (xs ++ ys) ≡ with_opened (with_opened ss p xs) p ys
opened-both ss p xs ys = ap (insert_all (ScopeEq.ghosts).eq ss) (map-both (inside p) xs ys) ∙ fold-append (insert_key (ScopeEq.ghosts).eq) ss (map (inside p) xs) (map (inside p) ys)

-- those that are no sides of worlds with a number
module _ (known : List (Option ℕ)) where
  abbrev is_unknown : Opener → Bool
  is_unknown o = not (is_some (number_of known (opener_type o)))

  all-unknown-type : (t : AnyType) → number_of known t ≡ None → unknown known (opened_by_type t) ≡ opened_by_type t
  all-unknown-type (ty.Resource r) e = refl
  all-unknown-type (ty.Func f) e = refl
  all-unknown-type (ty.Value v) e = refl
  all-unknown-type (ty.Interface i) e = refl
  all-unknown-type (ty.World w) e = ap (λ (n : Option ℕ). cond (not (is_some n)) (opener.Imports w ∷ cond (not (is_some n)) (opener.Exports w ∷ []) []) (cond (not (is_some n)) (opener.Exports w ∷ []) [])) e
  all-unknown-type (ty.Module m) e = refl

  none-unknown-type : (t : AnyType) (k : ℕ) → number_of known t ≡ Some k → unknown known (opened_by_type t) ≡ []
  none-unknown-type (ty.Resource r) k e = refl
  none-unknown-type (ty.Func f) k e = refl
  none-unknown-type (ty.Value v) k e = refl
  none-unknown-type (ty.Interface i) k e = cc
  none-unknown-type (ty.World w) k e = ap (λ (n : Option ℕ). cond (not (is_some n)) (opener.Imports w ∷ cond (not (is_some n)) (opener.Exports w ∷ []) []) (cond (not (is_some n)) (opener.Exports w ∷ []) [])) e
  none-unknown-type (ty.Module m) k e = refl

  unknown-kept : (os : List Opener) (o : Opener) → Contains os o → number_of known (opener_type o) ≡ None → Contains (unknown known os) o
  unknown-kept os o h none = let w = at-of os o h in let k = there-at os w.0 w.1 in of-at (unknown known os) k.0 o k.1 where
    one : (b : Bool) (x : Opener) (xs : List Opener) → b ≡ true → (k : ℕ) × (slice_get (cond b (x ∷ xs) xs) k ≡ Some x)
    one true x xs e = (0, refl)
    one false x xs e = cc

    more : (b : Bool) (x : Opener) (xs : List Opener) (j : ℕ) → slice_get xs j ≡ Some o → (k : ℕ) × (slice_get (cond b (x ∷ xs) xs) k ≡ Some o)
    more true x xs j at = (suc j, at)
    more false x xs j at = (j, at)

    there-at : (os : List Opener) (i : ℕ) → slice_get os i ≡ Some o → (k : ℕ) × (slice_get (unknown known os) k ≡ Some o)
    there-at [] i at = cc
    there-at (x ∷ os) zero at =
        let same : x ≡ o = some-same x o at in
        let w = one (is_unknown x) x (unknown known os) (ap is_unknown same ∙ ap (λ (n : Option ℕ). not (is_some n)) none) in
        (w.0, w.1 ∙ ap (λ y. Some y) same)
    there-at (x ∷ os) (suc i) at = let w = there-at os i at in more (is_unknown x) x (unknown known os) w.0 w.1

  unknown-all : (P : Opener → Type 0) (os : List Opener) → AllByRecursion P os → AllByRecursion P (unknown known os)
  unknown-all P [] h = tt
  unknown-all P (o ∷ os) h = one (is_unknown o) h.0 (unknown-all P os h.1) where
    one : (b : Bool) → P o → AllByRecursion P (unknown known os) → AllByRecursion P (cond b (o ∷ unknown known os) (unknown known os))
    one true x xs = (x, xs)
    one false x xs = xs

  unknown-from : (os : List Opener) (o : Opener) → Contains (unknown known os) o → Contains os o
  unknown-from os o h = let w = at-of (unknown known os) o h in all-at (Contains os) (unknown known os) w.0 o (unknown-all (Contains os) os (itself os)) w.1 where
    later : (x : Opener) (xs : List Opener) (y : Opener) → Contains xs y → Contains (x ∷ xs) y
    later x xs y h = let w = at-of xs y h in of-at (x ∷ xs) (suc w.0) y w.1

    widen : (x : Opener) (xs ys : List Opener) → AllByRecursion (Contains xs) ys → AllByRecursion (Contains (x ∷ xs)) ys
    widen x xs [] h = tt
    widen x xs (y ∷ ys) h = (later x xs y h.0, widen x xs ys h.1)

    itself : (os : List Opener) → AllByRecursion (Contains os) os
    itself [] = tt
    itself (o ∷ os) = (of-at (o ∷ os) 0 o refl, widen o os os (itself os))

  total-unknown : (f : Opener → ℕ) (os : List Opener) → total f (unknown known os) ≤ total f os
  total-unknown f [] = omega arith
  total-unknown f (o ∷ os) = one (is_unknown o) (total-unknown f os) where
    one : (b : Bool) → total f (unknown known os) ≤ total f os → total f (cond b (o ∷ unknown known os) (unknown known os)) ≤ f o + total f os
    one true le = omega (arith, le)
    one false le = omega (arith, le)

-- one more listed item
listed-more : (known : List (Option ℕ)) (ss more last : List Scope) (p : Option ℕ) (es : List (Name × ItemKind)) (e : Name × ItemKind) → more ≡ with_opened ss p (unknown known (opened es))
    → last ≡ with_opened more p (unknown known (opened_by e.1)) → last ≡ with_opened ss p (unknown known (opened (es ++ e ∷ [])))
listed-more known ss more last p es e first next =
    let whole : opened (es ++ e ∷ []) ≡ opened es ++ opened_by e.1 = opened-append es (e ∷ []) ∙ ap (λ r. opened es ++ r) (append-none (opened_by e.1)) in
    let both : unknown known (opened (es ++ e ∷ [])) ≡ unknown known (opened es) ++ unknown known (opened_by e.1) = ap (unknown known) whole ∙ filter-append (is_unknown known) (opened es) (opened_by e.1) in
    next ∙ (ap (λ r. with_opened r p (unknown known (opened_by e.1))) first ∙ (sym (opened-both ss p (unknown known (opened es)) (unknown known (opened_by e.1))) ∙ ap (with_opened ss p) (sym both)))

-- the item whose kind is read at a position
pub entry-at : (es : List (Name × ItemKind)) (i : ℕ) (k : ItemKind) → option_map (λ e. e.1) (slice_get es i) ≡ Some k → (e : Name × ItemKind) × (slice_get es i ≡ Some e) × (e.1 ≡ k)
entry-at [] i k at = cc
entry-at (e ∷ es) zero k at = (e, refl, some-same e.1 k at)
entry-at (e ∷ es) (suc i) k at = entry-at es i k at

-- one more of those that are listed
pub listed-next : (known : List (Option ℕ)) (ss more last : List Scope) (p : Option ℕ) (es : List (Name × ItemKind)) (i : ℕ) (k : ItemKind) → option_map (λ e. e.1) (slice_get es i) ≡ Some k
    → more ≡ with_opened ss p (unknown known (opened (take i es))) → last ≡ with_opened more p (unknown known (opened_by k)) → last ≡ with_opened ss p (unknown known (opened (take (i + 1) es)))
listed-next known ss more last p es i k at first next =
    let w = entry-at es i k at in
    rw (add-one, take_at es i w.0 w.1) (listed-more known ss more last p (take i es) w.0 first (next ∙ ap (λ x. with_opened more p (unknown known (opened_by x))) (sym w.2)))

-- an item opens what its type does
pub opened-kind : (k : ItemKind) → opened_by k ≡ opened_by_type (kind_type k)
opened-kind (kind.TypeItem t) = refl
opened-kind (kind.Func f) = refl
opened-kind (kind.Instance i) = refl
opened-kind (kind.Component w) = refl
opened-kind (kind.Module m) = refl
opened-kind (kind.Value v) = refl

-- an item without a number opens all of its scopes, and an item with one opens none
pub all-unknown : (known : List (Option ℕ)) (k : ItemKind) → number_of known (kind_type k) ≡ None → unknown known (opened_by k) ≡ opened_by k
all-unknown known k e = ap (unknown known) (opened-kind k) ∙ (all-unknown-type known (kind_type k) e ∙ sym (opened-kind k))

pub none-unknown : (known : List (Option ℕ)) (k : ItemKind) (n : ℕ) → number_of known (kind_type k) ≡ Some n → unknown known (opened_by k) ≡ []
none-unknown known k n e = ap (unknown known) (opened-kind k) ∙ none-unknown-type known (kind_type k) n e

-- the scopes that an item opens are apart
type-apart : (t : AnyType) → with_opened [] None (opened_by_type t) ≡ map (inside None) (opened_by_type t)
type-apart (ty.Resource r) = refl
type-apart (ty.Func f) = refl
type-apart (ty.Value v) = refl
type-apart (ty.Interface i) = refl
type-apart (ty.World w) = refl
type-apart (ty.Module m) = refl

pub roots-apart : (k : ItemKind) → with_opened [] None (opened_by k) ≡ map (inside None) (opened_by k)
roots-apart k = subst (λ (os : List Opener). with_opened [] None os ≡ map (inside None) os) (sym (opened-kind k)) (type-apart (kind_type k))

-- what holds of a type holds of the types of the scopes that it opens
opened-all : (P : AnyType → Type 0) (t : AnyType) → P t → AllByRecursion (λ o. P (opener_type o)) (opened_by_type t)
opened-all P (ty.Resource r) h = tt
opened-all P (ty.Func f) h = tt
opened-all P (ty.Value v) h = tt
opened-all P (ty.Interface i) h = (h, tt)
opened-all P (ty.World w) h = (h, (h, tt))
opened-all P (ty.Module m) h = tt

pub opened-by-all : (P : AnyType → Type 0) (k : ItemKind) → P (kind_type k) → AllByRecursion (λ o. P (opener_type o)) (opened_by k)
opened-by-all P k h = subst (AllByRecursion (λ o. P (opener_type o))) (sym (opened-kind k)) (opened-all P (kind_type k) h)

opened-listed : (P : AnyType → Type 0) (es : List (Name × ItemKind)) → AllByRecursion P (kind_types es) → AllByRecursion (λ o. P (opener_type o)) (opened es)
opened-listed P [] h = tt
opened-listed P (e ∷ es) h = all_both (λ o. P (opener_type o)) (opened_by e.1) (opened es) (opened-by-all P e.1 h.0) (opened-listed P es h.1)

-- the scope at a position is opened by what it lists
pub opens-listed : (c : Collection) (known : List (Option ℕ)) (n : ℕ) (ss more : List Scope) (s : Scope) (es : List (Name × ItemKind)) → slice_get ss n ≡ Some s → listed_in c s.opener ≡ es
    → more ≡ with_opened ss (Some n) (unknown known (opened es)) → Opens c known ss n more
opens-listed c known n ss more s es at listed is =
    λ t there.
    let same : s ≡ t = some-same s t (sym at ∙ there) in
    subst (λ (x : Scope). more ≡ with_opened ss (Some n) (unknown known (opened (listed_in c x.opener)))) same (is ∙ ap (λ l. with_opened ss (Some n) (unknown known (opened l))) (sym listed))

-- ---- what is held

pub below : (i n : ℕ) → nat_lt i n ≡ true → i < n
below i n h = grind arith

pub there : {A : Type 0} (xs : List (Held A)) (i : ℕ) → nat_lt i (length xs) ≡ true → (h : Held A) × (slice_get xs i ≡ Some h)
there [] i lt = absurd (grind arith)
there (x ∷ xs) zero lt = (x, refl)
there (x ∷ xs) (suc i) lt = there xs i (grind arith)

-- what a held scope lists was added before
pub record Lists (c : Collection) (o : Opener) : Type 0 where
  pub before : ℕ
  pub rank : type_rank c (opener_type o) ≡ suc before
  pub listed : AreBefore c before (kind_types (listed_in c o))

pub lists : (c : Collection) → IsWellFormed c → (o : Opener) → holds_type c (opener_type o) ≡ true → Lists c o
lists c wf (opener.Interface i) held =
    let h = there c.interfaces i.0 held in
    let es : kind_types (listed_in c (opener.Interface i)) ≡ kind_types h.0.item.exports = ap (λ x. kind_types (option_case (item_of x) [] (λ it. it.exports))) h.1 in
    record {
      before = h.0.before;
      rank = ap rank_of_held h.1;
      listed = subst (AreBefore c h.0.before) (sym es) (all_right (IsBefore c h.0.before) (used_types h.0.item.uses) (kind_types h.0.item.exports) (wf.interfaces i.0 h.0 h.1).1);
    }
lists c wf (opener.Imports w) held =
    let h = there c.worlds w.0 held in
    let es : kind_types (listed_in c (opener.Imports w)) ≡ kind_types h.0.item.imports = ap (λ x. kind_types (option_case (item_of x) [] (λ it. it.imports))) h.1 in
    let all = all_right (IsBefore c h.0.before) (used_types h.0.item.uses) (kind_types h.0.item.imports ++ kind_types h.0.item.exports) (wf.worlds w.0 h.0 h.1).1 in
    record {
      before = h.0.before;
      rank = ap rank_of_held h.1;
      listed = subst (AreBefore c h.0.before) (sym es) (all_left (IsBefore c h.0.before) (kind_types h.0.item.imports) (kind_types h.0.item.exports) all);
    }
lists c wf (opener.Exports w) held =
    let h = there c.worlds w.0 held in
    let es : kind_types (listed_in c (opener.Exports w)) ≡ kind_types h.0.item.exports = ap (λ x. kind_types (option_case (item_of x) [] (λ it. it.exports))) h.1 in
    let all = all_right (IsBefore c h.0.before) (used_types h.0.item.uses) (kind_types h.0.item.imports ++ kind_types h.0.item.exports) (wf.worlds w.0 h.0 h.1).1 in
    record {
      before = h.0.before;
      rank = ap rank_of_held h.1;
      listed = subst (AreBefore c h.0.before) (sym es) (all_right (IsBefore c h.0.before) (kind_types h.0.item.imports) (kind_types h.0.item.exports) all);
    }

-- ---- a scope more that is opened

module _ (c : Collection) (wf : IsWellFormed c) (known : List (Option ℕ)) (roots : List Opener) where
  -- only the roots
  pub first-opened : (ss : List Scope) → ss ≡ map (inside None) roots → AllByRecursion (λ o. holds_type c (opener_type o) ≡ true) roots → AreOpened c known roots 0 ss
  first-opened ss is held = record {
    rooted = λ j o at. (inside None o, ap (λ l. slice_get l j) is ∙ get-map (inside None) roots j o at, refl, refl);
    nested = λ i s o lt. absurd (omega (arith, lt));
    around = λ i s at. let w = root i s at in subst (λ (t : Scope). IsBelow i t.parent) (sym w.2) tt;
    held = λ i s at. let w = root i s at in subst (λ (t : Scope). holds_type c (opener_type t.opener) ≡ true) (sym w.2) (all-at (λ o. holds_type c (opener_type o) ≡ true) roots i w.0 held w.1);
    source = λ i s at. let w = root i s at in subst (λ (t : Scope). ComesFrom c roots ss i t.opener t.parent) (sym w.2) w.1;
  } where
    root : (i : ℕ) (s : Scope) → slice_get ss i ≡ Some s → (o : Opener) × (slice_get roots i ≡ Some o) × (s ≡ inside None o)
    root i s at = map-cases (inside None) roots i s (ap (λ l. slice_get l i) (sym is) ∙ at)

  module _ (n : ℕ) (ss : List Scope) (s : Scope) (here : slice_get ss n ≡ Some s) where
    abbrev added : List Opener
    added = unknown known (opened (listed_in c s.opener))

    abbrev whole : List Scope
    whole = with_opened ss (Some n) added

    -- a scope stays
    stays : (i : ℕ) (t : Scope) → slice_get ss i ≡ Some t → slice_get whole i ≡ Some t
    stays i t at = all-kept (ScopeEq.ghosts).eq same-scope ss (map (inside (Some n)) added) i t at

    still-there : (t : Scope) → Contains ss t → Contains whole t
    still-there t h = let w = at-of ss t h in of-at whole w.0 t (stays w.0 t w.1)

    -- what is listed is there
    put-there : (o : Opener) → Contains added o → Contains whole (inside (Some n) o)
    put-there o h =
        let w = at-of added o h in
        all-there (ScopeEq.ghosts).eq same-scope ss (map (inside (Some n)) added) (inside (Some n) o) (of-at (map (inside (Some n)) added) w.0 (inside (Some n) o) (get-map (inside (Some n)) added w.0 o w.1))

    -- a scope was there, or is new
    data Comes (i : ℕ) (t : Scope) : Type 0 where
      old : slice_get ss i ≡ Some t → Comes i t
      new : (o : Opener) → length ss ≤ i → Contains added o → t ≡ inside (Some n) o → Comes i t

    comes : (i : ℕ) (t : Scope) → slice_get whole i ≡ Some t → Comes i t
    comes i t at = elim (all-cases (ScopeEq.ghosts).eq same-scope ss (map (inside (Some n)) added) i t at) [
      | inl h ↦ old h
      | inr h ↦ let j = at-of (map (inside (Some n)) added) t h.1 in let w = map-cases (inside (Some n)) added j.0 t j.1 in new w.0 h.0 (of-at added j.0 w.0 w.1) w.2
    ]

    within : n < length ss
    within = slice_get_within ss n s here

    earlier : (i : ℕ) → i < suc n → (i < n) ⊎ (i ≡ n)
    earlier i lt = by (nat_lt i n) refl where
      by : (b : Bool) → nat_lt i n ≡ b → (i < n) ⊎ (i ≡ n)
      by true e = inl (grind arith)
      by false e = inr (grind arith)

    module _ (was : AreOpened c known roots n ss) where
      new-held : AllByRecursion (λ o. IsBefore c (lists c wf s.opener (was.held n s here)).before (opener_type o)) added
      new-held = let l = lists c wf s.opener (was.held n s here) in unknown-all known (λ o. IsBefore c l.before (opener_type o)) (opened (listed_in c s.opener)) (opened-listed (IsBefore c l.before) (listed_in c s.opener) l.listed)

      nested-next : (i : ℕ) (t : Scope) (o : Opener) → i < suc n → Comes i t → Contains (opened (listed_in c t.opener)) o → number_of known (opener_type o) ≡ None → Contains whole (inside (Some i) o)
      nested-next i t o lt (old there) listed none = elim (earlier i lt) [
        | inl less ↦ still-there (inside (Some i) o) (was.nested i t o less there listed none)
        | inr e ↦
            let same : t ≡ s = some-same t s (sym there ∙ (ap (slice_get ss) e ∙ here)) in
            subst (λ (k : ℕ). Contains whole (inside (Some k) o)) (sym e) (put-there o (unknown-kept known (opened (listed_in c s.opener)) o (subst (λ (x : Scope). Contains (opened (listed_in c x.opener)) o) same listed) none))
      ]
      nested-next i t o lt (new p le among same) listed none = absurd (omega (arith, lt, le, within))

      around-next : (i : ℕ) (t : Scope) → Comes i t → IsBelow i t.parent
      around-next i t (old there) = was.around i t there
      around-next i t (new p le among same) = subst (λ (x : Scope). IsBelow i x.parent) (sym same) (omega (arith, le, within))

      held-next : (i : ℕ) (t : Scope) → Comes i t → holds_type c (opener_type t.opener) ≡ true
      held-next i t (old there) = was.held i t there
      held-next i t (new p le among same) =
          let l = lists c wf s.opener (was.held n s here) in
          let w = at-of added p among in
          subst (λ (x : Scope). holds_type c (opener_type x.opener) ≡ true) (sym same)
          (type_within c l.before (opener_type p) (all-at (λ o. IsBefore c l.before (opener_type o)) added w.0 p new-held w.1))

      known-still : (i : ℕ) (o : Opener) (p : Option ℕ) → ComesFrom c roots ss i o p → ComesFrom c roots whole i o p
      known-still i o None from = from
      known-still i o (Some p) from = (from.0, stays p from.0 from.1, from.2)

      known-next : (i : ℕ) (t : Scope) → Comes i t → ComesFrom c roots whole i t.opener t.parent
      known-next i t (old there) = known-still i t.opener t.parent (was.source i t there)
      known-next i t (new p le among same) = subst (λ (x : Scope). ComesFrom c roots whole i x.opener x.parent) (sym same) (s, stays n s here, unknown-from known (opened (listed_in c s.opener)) p among)

      pub opened-next : AreOpened c known roots (suc n) whole
      opened-next = record {
        rooted = λ j o at. let w = was.rooted j o at in (w.0, stays j w.0 w.1, w.2, w.3);
        nested = λ i t o lt at. nested-next i t o lt (comes i t at);
        around = λ i t at. around-next i t (comes i t at);
        held = λ i t at. held-next i t (comes i t at);
        source = λ i t at. known-next i t (comes i t at);
      }

  -- after the scope at a position was opened
  pub opened-after : (n : ℕ) (ss more : List Scope) → n < length ss → AreOpened c known roots n ss → Opens c known ss n more → AreOpened c known roots (n + 1) more
  opened-after n ss more lt was opens =
      let w = some-at ss n lt in
      rw (add-one, opens w.0 w.1) (opened-next n ss w.0 w.1 was)

  -- all are opened
  pub all-nested : (n : ℕ) (ss : List Scope) → length ss ≤ n → AreOpened c known roots n ss → AreNested c known ss
  all-nested n ss le was = λ i s o at. was.nested i s o (let lt = slice_get_within ss i s at in omega (arith, lt, le)) at

  pub all-opened : (n : ℕ) (ss : List Scope) → length ss ≤ n → IsDistinct (ScopeEq.ghosts).eq ss → AreOpened c known roots n ss → AreScopes c roots ss
  all-opened n ss le apart was = record {
    rooted = was.rooted;
    once = once-there (ScopeEq.ghosts).eq scope-itself ss apart;
    around = was.around;
    held = was.held;
    known = was.source;
  }

-- ---- there are fewer left

module _ (c : Collection) where
  total-more : (f g : Opener → ℕ) (os : List Opener) → AllByRecursion (λ o. f o ≤ g o) os → total f os ≤ total g os
  total-more f g [] h = omega arith
  total-more f g (o ∷ os) h = let r = total-more f g os h.1 in omega (arith, h.0, r)

  each : (P : Opener → Type 0) → ((o : Opener) → P o) → (os : List Opener) → AllByRecursion P os
  each P f [] = tt
  each P f (o ∷ os) = (f o, each P f os)

  each-from : (P Q : Opener → Type 0) → ((o : Opener) → P o → Q o) → (os : List Opener) → AllByRecursion P os → AllByRecursion Q os
  each-from P Q f [] h = tt
  each-from P Q f (o ∷ os) h = (f o h.0, each-from P Q f os h.1)

  count-more : (j k : ℕ) (o : Opener) → j ≤ k → count_to j c o ≤ count_to k c o
  count-more zero k o le = omega arith
  count-more (suc j) zero o le = absurd (omega (arith, le))
  count-more (suc j) (suc k) o le =
      let h = total-more (λ p. count_to j c p) (λ p. count_to k c p) (opened (listed_in c o)) (each (λ p. count_to j c p ≤ count_to k c p) (λ p. count-more j k p (omega (arith, le))) (opened (listed_in c o))) in
      omega (arith, h)

  -- the scopes in one are fewer than with itself
  pub count-inner : IsWellFormed c → (o : Opener) → holds_type c (opener_type o) ≡ true → total (count_in c) (opened (listed_in c o)) < count_in c o
  unfolding count_in
  count-inner wf o held =
      let l = lists c wf o held in
      let inner = opened (listed_in c o) in
      let before = opened-listed (IsBefore c l.before) (listed_in c o) l.listed in
      let le = total-more (count_in c) (λ p. count_to l.before c p) inner
      (each-from (λ p. IsBefore c l.before (opener_type p)) (λ p. count_in c p ≤ count_to l.before c p) (λ p b. count-more (type_rank c (opener_type p)) l.before p (before_rank c l.before (opener_type p) b)) inner before) in
      let e : count_in c o ≡ suc (total (λ p. count_to l.before c p) inner) = ap (λ k. count_to k c o) l.rank in
      omega (arith, le, e)

  left-more : (ss : List Scope) (s : Scope) (n : ℕ) → n ≤ length ss → left_from c (ss ++ s ∷ []) n ≡ left_from c ss n + count_in c s.opener
  unfolding left_from
  left-more [] s zero le = omega arith
  left-more [] s (suc n) le = absurd (omega (arith, le))
  left-more (x ∷ ss) s zero le = let r = left-more ss s zero (omega arith) in omega (arith, r)
  left-more (x ∷ ss) s (suc n) le = left-more ss s n (omega (arith, le))

  left-put : (ss : List Scope) (s : Scope) (n : ℕ) → n ≤ length ss → left_from c (insert_key (ScopeEq.ghosts).eq ss s) n ≤ left_from c ss n + count_in c s.opener
  left-put ss s n le = by (list_any ((ScopeEq.ghosts).eq s) ss) where
    by : (b : Bool) → left_from c (if b then ss else ss ++ s ∷ []) n ≤ left_from c ss n + count_in c s.opener
    by true = omega arith
    by false = let e = left-more ss s n le in omega (arith, e)

  left-opened : (ss : List Scope) (p : Option ℕ) (os : List Opener) (n : ℕ) → n ≤ length ss → left_from c (with_opened ss p os) n ≤ left_from c ss n + total (count_in c) os
  left-opened ss p [] n le = omega arith
  left-opened ss p (o ∷ os) n le =
      let longer = one-more (ScopeEq.ghosts).eq same-scope ss (inside p o) in
      let rest = left-opened (insert_key (ScopeEq.ghosts).eq ss (inside p o)) p os n (omega (arith, le, longer)) in
      let one = left-put ss (inside p o) n le in
      omega (arith, rest, one)

  left-at : (ss : List Scope) (n : ℕ) (s : Scope) → slice_get ss n ≡ Some s → left_from c ss n ≡ count_in c s.opener + left_from c ss (suc n)
  unfolding left_from
  left-at [] n s at = cc
  left-at (x ∷ ss) zero s at = let same : x ≡ s = cc in ap (λ (y : Scope). count_in c y.opener + left_from c ss 0) same
  left-at (x ∷ ss) (suc n) s at = left-at ss n s at

  pub fewer : IsWellFormed c → (known : List (Option ℕ)) (n : ℕ) (ss more : List Scope) → n < length ss → IsHeldAt c ss n → Opens c known ss n more → left_from c more (n + 1) < left_from c ss n
  fewer wf known n ss more lt held opens =
      let w = some-at ss n lt in
      let os = opened (listed_in c w.0.opener) in
      let a = left-opened ss (Some n) (unknown known os) (suc n) (omega (arith, lt)) in
      let e = total-unknown known (count_in c) os in
      let b = left-at ss n w.0 w.1 in
      let d = count-inner wf w.0.opener (held w.0 w.1) in
      rw (add-one, opens w.0 w.1) (omega (arith, a, b, d, e))
