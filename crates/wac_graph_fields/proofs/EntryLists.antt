-- Lists of entries in which no instance is asked for twice under a name.
use Rattle.std.proofs.Common.{◌≡◌, ℕ, Bool, true, false, not, cond, ◌&&◌, ◌||◌, List, [], ◌∷◌, ◌++◌, map, refl, ap, sym, ◌∙◌, subst, append_assoc, append-nil}
use Rattle.std.specs.Prelude.{filter}
use Rattle.std.specs.List.{AllByRecursion}
use Rattle.std.proofs.lemmas.Bool.{eqb-true}
use Rattle.wac_types_shapes.specs.primitives.Name.{Name, same_name}
use Rattle.wac_types_collection.specs.collection.Collection.{Collection}
use Rattle.wac_types_shapes.specs.declared.shapes.component.ItemKind.{ItemKind}
use Rattle.wac_types_shapes.specs.declared.shapes.component.ItemKind.TheVariants as kind
use Rattle.wac_types_shapes.proofs.lemmas.shapes.Names.{same_name-true}
use Rattle.wac_graph_model.specs.nodes.Asked.{Entry}
use Rattle.wac_graph_model.specs.nodes.Entries.{same_instance, asks_again, once, used_by}
use Rattle.wac_graph_fields.specs.private.EntriesLeft.{by_node, has, HasAll, added, AreApart, AreSettled, AsksAlike}

-- ---- lists
pub all_each : {A : Type 0} (P Q : A → Type 0) → ((x : A) → P x → Q x) → (xs : List A) → AllByRecursion P xs → AllByRecursion Q xs
all_each P Q f [] h = tt
all_each P Q f (x ∷ xs) h = (f x h.0, all_each P Q f xs h.1)

pub all_front : {A : Type 0} (P : A → Type 0) (xs ys : List A) → AllByRecursion P (xs ++ ys) → AllByRecursion P xs
all_front P [] ys h = tt
all_front P (x ∷ xs) ys h = (h.0, all_front P xs ys h.1)

pub all_last : {A : Type 0} (P : A → Type 0) (xs : List A) (y : A) → AllByRecursion P (xs ++ y ∷ []) → P y
all_last P [] y h = h.0
all_last P (x ∷ xs) y h = all_last P xs y h.1

pub all_joined : {A : Type 0} (P : A → Type 0) (xs ys : List A) → AllByRecursion P xs → AllByRecursion P ys → AllByRecursion P (xs ++ ys)
all_joined P [] ys h g = g
all_joined P (x ∷ xs) ys h g = (h.0, all_joined P xs ys h.1 g)

-- ---- entries that ask for the same
both_true : (a b : Bool) → (a && b) ≡ true → (a ≡ true) × (b ≡ true)
both_true true b h = (refl, h)
both_true false b h = cc

same_kind : (k l : ItemKind) → same_instance k l ≡ true → k ≡ l
same_kind (kind.Instance i) (kind.Instance j) h = let e : i ≡ j = rw (eqb-true i.0 j.0 h) refl in ap kind.Instance e
same_kind (kind.Instance i) (kind.TypeItem x) h = cc
same_kind (kind.Instance i) (kind.Func x) h = cc
same_kind (kind.Instance i) (kind.Component x) h = cc
same_kind (kind.Instance i) (kind.Module x) h = cc
same_kind (kind.Instance i) (kind.Value x) h = cc
same_kind (kind.TypeItem x) l h = cc
same_kind (kind.Func x) l h = cc
same_kind (kind.Component x) l h = cc
same_kind (kind.Module x) l h = cc
same_kind (kind.Value x) l h = cc

pub same_asked : (a b : Entry) → asks_again a b ≡ true → (a.name ≡ b.name) × (a.kind ≡ b.kind)
same_asked a b h =
    let (n, k) = both_true (same_name a.name b.name) (same_instance a.kind b.kind) h in
    (same_name-true a.name b.name n, same_kind a.kind b.kind k)

asks_as : (a b x : Entry) → asks_again a b ≡ true → asks_again a x ≡ asks_again b x
asks_as a b x h =
    let (n, k) = same_asked a b h in
    ap (λ m. same_name m x.name && same_instance a.kind x.kind) n ∙ ap (λ l. same_name b.name x.name && same_instance l x.kind) k

-- ---- what a list has
pub has_by : (xs : List Entry) (a b : Entry) → a.name ≡ b.name → a.kind ≡ b.kind → has xs a ≡ has xs b
has_by [] a b n k = refl
has_by (x ∷ xs) a b n k =
    let one : asks_again x a ≡ asks_again x b = ap (λ m. same_name x.name m && same_instance x.kind a.kind) n ∙ ap (λ l. same_name x.name b.name && same_instance x.kind l) k in
    ap (λ t. t || has xs a) one ∙ ap (λ t. asks_again x b || t) (has_by xs a b n k)

pub has_joined : (xs ys : List Entry) (e : Entry) → has (xs ++ ys) e ≡ (has xs e || has ys e)
has_joined [] ys e = refl
has_joined (x ∷ xs) ys e = ap (λ t. asks_again x e || t) (has_joined xs ys e) ∙ shift (asks_again x e) (has xs e) (has ys e) where
  shift : (a b c : Bool) → (a || (b || c)) ≡ ((a || b) || c)
  shift true b c = refl
  shift false b c = refl

pub has_more : (xs ys : List Entry) (e : Entry) → has xs e ≡ true → has (xs ++ ys) e ≡ true
has_more xs ys e h = has_joined xs ys e ∙ ap (λ t. t || has ys e) h

-- more behind both
pub has_behind : (xs ys zs : List Entry) → ((e : Entry) → has xs e ≡ true → has ys e ≡ true) → (e : Entry) → has (xs ++ zs) e ≡ true → has (ys ++ zs) e ≡ true
has_behind xs ys zs f e h = split (has xs e) refl (sym (has_joined xs zs e) ∙ h) where
  either : (a : Bool) → (a || true) ≡ true
  either true = refl
  either false = refl

  split : (b : Bool) → has xs e ≡ b → (b || has zs e) ≡ true → has (ys ++ zs) e ≡ true
  split true there _ = has_more ys zs e (f e there)
  split false _ rest = has_joined ys zs e ∙ ap (λ t. has ys e || t) rest ∙ either (has ys e)

-- what was there is there after one is added
pub has_added : (xs : List Entry) (x e : Entry) → has xs e ≡ true → has (added xs x) e ≡ true
has_added xs x e h = split (has xs x) where
  split : (b : Bool) → has (cond b xs (xs ++ x ∷ [])) e ≡ true
  split true = h
  split false = has_more xs (x ∷ []) e h

-- what has all of the others has what they have
has_through : (xs ys : List Entry) (e : Entry) → HasAll xs ys → has ys e ≡ true → has xs e ≡ true
has_through xs [] e all h = cc
has_through xs (y ∷ ys) e all h = split (asks_again y e) refl h (has_through xs ys e all.1) where
  split : (b : Bool) → asks_again y e ≡ b → (b || has ys e) ≡ true → (has ys e ≡ true → has xs e ≡ true) → has xs e ≡ true
  split true one _ _ = let (n, k) = same_asked y e one in sym (has_by xs y e n k) ∙ all.0
  split false _ rest on = on rest

pub has_without : (xs ys : List Entry) (e : Entry) → HasAll xs ys → has (xs ++ ys) e ≡ true → has xs e ≡ true
has_without xs ys e all h = split (has xs e) refl (sym (has_joined xs ys e) ∙ h) where
  split : (b : Bool) → has xs e ≡ b → (b || has ys e) ≡ true → has xs e ≡ true
  split true there _ = there
  split false _ rest = has_through xs ys e all rest

-- and so is the added one
pub has_added_too : (xs : List Entry) (x e : Entry) → has (xs ++ x ∷ []) e ≡ true → has (added xs x) e ≡ true
has_added_too xs x e h = split (has xs x) refl where
  split : (b : Bool) → has xs x ≡ b → has (cond b xs (xs ++ x ∷ [])) e ≡ true
  split true there = has_without xs (x ∷ []) e (there, tt) h
  split false _ = h

-- ---- filters
module _ (p q : Entry → Bool) where
  filter_both : (xs : List Entry) → filter p (filter q xs) ≡ filter q (filter p xs)
  filter_both [] = refl
  filter_both (x ∷ xs) = split (p x) refl (q x) refl (filter_both xs) where
    split : (a : Bool) → p x ≡ a → (b : Bool) → q x ≡ b → filter p (filter q xs) ≡ filter q (filter p xs) → filter p (cond b (x ∷ filter q xs) (filter q xs)) ≡ filter q (cond a (x ∷ filter p xs) (filter p xs))
    split true e true f r = ap (λ t. cond t (x ∷ filter p (filter q xs)) (filter p (filter q xs))) e ∙ ap (λ ys. x ∷ ys) r ∙ sym (ap (λ t. cond t (x ∷ filter q (filter p xs)) (filter q (filter p xs))) f)
    split true e false f r = r ∙ sym (ap (λ t. cond t (x ∷ filter q (filter p xs)) (filter q (filter p xs))) f)
    split false e true f r = ap (λ t. cond t (x ∷ filter p (filter q xs)) (filter p (filter q xs))) e ∙ r
    split false e false f r = r

  filter_within : ((x : Entry) → p x ≡ q x) → (xs : List Entry) → filter p (filter q xs) ≡ filter p xs
  filter_within s [] = refl
  filter_within s (x ∷ xs) = split (q x) refl (filter_within s xs) where
    split : (b : Bool) → q x ≡ b → filter p (filter q xs) ≡ filter p xs → filter p (cond b (x ∷ filter q xs) (filter q xs)) ≡ cond (p x) (x ∷ filter p xs) (filter p xs)
    split true f r = ap (λ ys. cond (p x) (x ∷ ys) ys) r
    split false f r = r ∙ sym (ap (λ t. cond t (x ∷ filter p xs) (filter p xs)) (s x ∙ f))

-- what does not ask again for an entry
abbrev other : Entry → Entry → Bool
other a x = not (asks_again a x)

-- an entry that asks again is left out
dropped : (a y : Entry) → asks_again a y ≡ true → (xs tail : List Entry) → filter (other a) (once (xs ++ y ∷ tail)) ≡ filter (other a) (once (xs ++ tail))
dropped a y h [] tail =
    ap (λ t. cond (not t) (y ∷ filter (other a) (filter (other y) (once tail))) (filter (other a) (filter (other y) (once tail)))) h
    ∙ filter_within (other a) (other y) (λ x. ap not (asks_as a y x h)) (once tail)
dropped a y h (z ∷ zs) tail =
    ap (λ rest. cond (other a z) (z ∷ rest) rest)
    (filter_both (other a) (other z) (once (zs ++ y ∷ tail)) ∙ ap (filter (other z)) (dropped a y h zs tail) ∙ sym (filter_both (other a) (other z) (once (zs ++ tail))))

pub once_one : (xs : List Entry) (y : Entry) (tail : List Entry) → has xs y ≡ true → once (xs ++ y ∷ tail) ≡ once (xs ++ tail)
once_one [] y tail h = cc
once_one (x ∷ xs) y tail h = split (asks_again x y) refl h (once_one xs y tail) where
  split : (b : Bool) → asks_again x y ≡ b → (b || has xs y) ≡ true → (has xs y ≡ true → once (xs ++ y ∷ tail) ≡ once (xs ++ tail)) → once ((x ∷ xs) ++ y ∷ tail) ≡ once ((x ∷ xs) ++ tail)
  split true one _ _ = ap (λ rest. x ∷ rest) (dropped x y one xs tail)
  split false _ rest on = ap (λ es. x ∷ filter (other x) es) (on rest)

once_all : (xs ys tail : List Entry) → HasAll xs ys → once (xs ++ (ys ++ tail)) ≡ once (xs ++ tail)
once_all xs [] tail h = refl
once_all xs (y ∷ ys) tail h = once_one xs y (ys ++ tail) h.0 ∙ once_all xs ys tail h.1

-- ---- where nothing asks again
none_filtered : (a : Entry) (xs : List Entry) → AllByRecursion (λ y. asks_again a y ≡ false) xs → filter (other a) xs ≡ xs
none_filtered a [] h = refl
none_filtered a (x ∷ xs) h = ap (λ t. cond (not t) (x ∷ filter (other a) xs) (filter (other a) xs)) h.0 ∙ ap (λ ys. x ∷ ys) (none_filtered a xs h.1)

pub once_apart : (xs : List Entry) → AreApart xs → once xs ≡ xs
once_apart [] h = refl
once_apart (x ∷ xs) h = ap (λ es. x ∷ filter (other x) es) (once_apart xs h.1) ∙ ap (λ es. x ∷ es) (none_filtered x xs h.0)

pub apart_pushed : (xs : List Entry) (e : Entry) → AreApart xs → has xs e ≡ false → AreApart (xs ++ e ∷ [])
apart_pushed [] e h none = (tt, tt)
apart_pushed (x ∷ xs) e h none = split (asks_again x e) refl none (apart_pushed xs e h.1) where
  split : (b : Bool) → asks_again x e ≡ b → (b || has xs e) ≡ false → (has xs e ≡ false → AreApart (xs ++ e ∷ [])) → AreApart ((x ∷ xs) ++ e ∷ [])
  split true _ wrong _ = cc
  split false one rest on = (all_joined (λ y. asks_again x y ≡ false) xs (e ∷ []) h.0 (one, tt), on rest)

-- ---- what is settled
pub all_moved : (s t : List Entry) → ((e : Entry) → has s e ≡ true → has t e ≡ true) → (ys : List Entry) → HasAll s ys → HasAll t ys
all_moved s t f ys h = all_each (λ y. has s y ≡ true) (λ y. has t y ≡ true) f ys h

pub all_renumbered : (s : List Entry) (m n : ℕ) (us : List (Name × ItemKind)) → HasAll s (map (by_node m) us) → HasAll s (map (by_node n) us)
all_renumbered s m n [] h = tt
all_renumbered s m n (u ∷ us) h = (has_by s (by_node n u) (by_node m u) refl refl ∙ h.0, all_renumbered s m n us h.1)

module _ (c : Collection) where
  pub settled_more : (s t xs : List Entry) → ((e : Entry) → has s e ≡ true → has t e ≡ true) → AreSettled c s xs → AreSettled c t xs
  settled_more s t [] f h = tt
  settled_more s t (x ∷ xs) f h = (all_moved s t f (map (by_node x.node) (used_by c x.kind)) h.0, settled_more (s ++ x ∷ []) (t ++ x ∷ []) xs further h.1) where
    further : (e : Entry) → has (s ++ x ∷ []) e ≡ true → has (t ++ x ∷ []) e ≡ true
    further e g = split (has s e) refl (sym (has_joined s (x ∷ []) e) ∙ g) where
      split : (b : Bool) → has s e ≡ b → (b || has (x ∷ []) e) ≡ true → has (t ++ x ∷ []) e ≡ true
      split true there _ = has_more t (x ∷ []) e (f e there)
      split false _ rest = has_joined t (x ∷ []) e ∙ ap (λ r. has t e || r) rest ∙ or_true (has t e) where
        or_true : (a : Bool) → (a || true) ≡ true
        or_true true = refl
        or_true false = refl

  pub settled_joined : (s xs ys : List Entry) → AreSettled c s xs → AreSettled c (s ++ xs) ys → AreSettled c s (xs ++ ys)
  settled_joined s [] ys h g = subst (λ t. AreSettled c t ys) (append-nil s) g
  settled_joined s (x ∷ xs) ys h g = (h.0, settled_joined (s ++ x ∷ []) xs ys h.1 (subst (λ t. AreSettled c t ys) (sym (append_assoc s (x ∷ []) xs)) g))

  pub settled_front : (s xs ys : List Entry) → AreSettled c s (xs ++ ys) → AreSettled c s xs
  settled_front s [] ys h = tt
  settled_front s (x ∷ xs) ys h = (h.0, settled_front (s ++ x ∷ []) xs ys h.1)

  pub settled_behind : (s xs ys : List Entry) → AreSettled c s (xs ++ ys) → AreSettled c (s ++ xs) ys
  settled_behind s [] ys h = subst (λ t. AreSettled c t ys) (sym (append-nil s)) h
  settled_behind s (x ∷ xs) ys h = subst (λ t. AreSettled c t ys) (append_assoc s (x ∷ []) xs) (settled_behind (s ++ x ∷ []) xs ys h.1)

  -- what an entry that is there uses is there
  pub settled_has : (s xs : List Entry) (e : Entry) → AreSettled c s xs → has xs e ≡ true → HasAll (s ++ xs) (map (by_node e.node) (used_by c e.kind))
  settled_has s [] e h there = cc
  settled_has s (x ∷ xs) e h there = split (asks_again x e) refl there (settled_has (s ++ x ∷ []) xs e h.1) where
    split : (b : Bool) → asks_again x e ≡ b → (b || has xs e) ≡ true → (has xs e ≡ true → HasAll ((s ++ x ∷ []) ++ xs) (map (by_node e.node) (used_by c e.kind))) → HasAll (s ++ x ∷ xs) (map (by_node e.node) (used_by c e.kind))
    split true one _ _ =
        let all = all_renumbered s x.node e.node (used_by c x.kind) h.0 in
        subst (λ k. HasAll (s ++ x ∷ xs) (map (by_node e.node) (used_by c k))) (same_asked x e one).1
        (all_moved s (s ++ x ∷ xs) (λ y. has_more s (x ∷ xs) y) (map (by_node e.node) (used_by c x.kind)) all)
    split false _ rest on = subst (λ t. HasAll t (map (by_node e.node) (used_by c e.kind))) (append_assoc s (x ∷ []) xs) (on rest)

  -- ---- lists that stand for others
  pub stands_itself : (a : List Entry) → AsksAlike c a a
  stands_itself a = record { same = λ tail. refl; settled = λ tail h. h }

  pub stands_through : (a b d : List Entry) → AsksAlike c a b → AsksAlike c b d → AsksAlike c a d
  stands_through a b d f g = record { same = λ tail. f.same tail ∙ g.same tail; settled = λ tail h. g.settled tail (f.settled tail h) }

  pub stands_more : (a b more : List Entry) → AsksAlike c a b → AsksAlike c (a ++ more) (b ++ more)
  stands_more a b more f = record {
    same = λ tail. ap once (append_assoc a more tail) ∙ f.same (more ++ tail) ∙ sym (ap once (append_assoc b more tail));
    settled = λ tail h. subst (λ t. AreSettled c [] t) (sym (append_assoc b more tail)) (f.settled (more ++ tail) (subst (λ t. AreSettled c [] t) (append_assoc a more tail) h));
  }

  -- what is there already
  pub stands_without : (xs ys : List Entry) → HasAll xs ys → AsksAlike c (xs ++ ys) xs
  stands_without xs ys all = record {
    same = λ tail. ap once (append_assoc xs ys tail) ∙ once_all xs ys tail all;
    settled = λ tail h.
        settled_joined [] xs tail (settled_front [] xs ys (settled_front [] (xs ++ ys) tail h))
        (settled_more (xs ++ ys) xs tail (λ e. has_without xs ys e all) (settled_behind [] (xs ++ ys) tail h));
  }

  pub stands_added : (xs : List Entry) (e : Entry) → AsksAlike c (xs ++ e ∷ []) (added xs e)
  stands_added xs e = split (has xs e) refl where
    split : (b : Bool) → has xs e ≡ b → AsksAlike c (xs ++ e ∷ []) (cond b xs (xs ++ e ∷ []))
    split true there = stands_without xs (e ∷ []) (there, tt)
    split false _ = stands_itself (xs ++ e ∷ [])

  -- at last
  pub stands_once : (a b : List Entry) → AsksAlike c a b → AreApart b → b ≡ once a
  stands_once a b f h = sym (ap once (sym (append-nil a)) ∙ f.same [] ∙ ap once (append-nil b) ∙ once_apart b h)
