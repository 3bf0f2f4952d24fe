-- Nothing stands against an interface with uses that it may have, and they hide none of its own resources.
use Rattle.std.proofs.Common.{◌≡◌, ℕ, zero, suc, Bool, true, false, ◌==◌, ◌&&◌, ◌||◌, not, cond, is_some, is_none, nat_lt, List, [], ◌∷◌, ◌++◌, length, slice_get, Option, Some, None, refl, sym, ap, ◌∙◌, subst, arith}
use Rattle.std.specs.List.{AllByRecursion, list_all}
use Rattle.std.proofs.lemmas.Bool.{and_from, and_parts, false≢true}
use Rattle.std.proofs.lemmas.Option.{slice_get_within}
use Rattle.wac_types_shapes.specs.primitives.Name.{Name, find_name, first_some, option_case}
use Rattle.wac_types_shapes.specs.shapes.Named.{NoNameTwice}
use Rattle.wac_types_shapes.specs.shapes.Kinds.{kind_type}
use Rattle.wac_types_shapes.specs.declared.shapes.component.Interface.{Interface}
use Rattle.wac_types_shapes.specs.declared.shapes.component.InterfaceId.{InterfaceId}
use Rattle.wac_types_shapes.specs.declared.shapes.component.ResourceId.{ResourceId}
use Rattle.wac_types_shapes.specs.declared.shapes.component.UsedType.{UsedType}
use Rattle.wac_types_shapes.specs.declared.shapes.component.«Type».TheVariants as ty
use Rattle.wac_types_shapes.specs.declared.shapes.component.ItemKind.{ItemKind}
use Rattle.wac_types_shapes.specs.declared.shapes.component.ItemKind.TheVariants as kind
use Rattle.wac_types_shapes.proofs.lemmas.shapes.Names.{find_name-at}
use Rattle.wac_types_collection.specs.declared.collection.collection.AddTypeError.{AddTypeError}
use Rattle.wac_types_collection.specs.declared.collection.collection.AddTypeError.TheVariants as fault
use Rattle.wac_types_collection.specs.declared.collection.collection.Held.{Held}
use Rattle.wac_types_collection.specs.collection.Collection.{Collection, IsWellFormed, holds_all, holds_type, item_at, item_of, kind_types, used_types}
use Rattle.wac_types_collection.specs.collection.Bound.{is_alias, lists_own, own_name}
use Rattle.wac_types_collection.specs.collection.Uses.{IsSound, has_name, interface_fault, is_listed_as_used, is_named_right, is_there, is_used_by_id, named_right, unless}
use Rattle.wac_types_collection.proofs.lemmas.collection.Mentioned.{all_append}
use Rattle.wac_merge_classes.specs.terms.Merge.{listed_resource}
use Rattle.wac_merge_classes.specs.entries.Classes.{Entry, NameRules}
use Rattle.wac_merge_classes.proofs.lemmas.entries.Places.{exports_held}
use Rattle.wac_merge_classes.proofs.lemmas.terms.Found.{find_at, no_some, one_some}
use Rattle.wac_merge_unions.specs.uses.KeptUses.{lists_resource}
use Rattle.wac_merge_unions.specs.uses.Using.{AreAlike, IsAlike, MayHave, kept_uses, may_use, other_instance, same_item}
use Rattle.wac_merge_unions.proofs.lemmas.uses.KeptUses.{kept-may}

-- ---- nothing stands against it

first-right : (a b : Option AddTypeError) → first_some a b ≡ None → b ≡ None
first-right None b h = h
first-right (Some x) b h = absurd (no_some x (sym h))

unless-none : (b : Bool) (e : AddTypeError) → unless b e ≡ None → b ≡ true
unless-none true e h = refl
unless-none false e h = absurd (no_some e (sym h))

-- each interface lists its own resources under their names
pub named-right : (m : Collection) → IsSound m → (i : InterfaceId) (it : Interface) → item_at m.interfaces i.0 ≡ Some it → named_right m it.uses it.exports ≡ true
named-right m sound i it at = by (slice_get m.interfaces i.0) refl at where
  by : (o : Option (Held Interface)) → slice_get m.interfaces i.0 ≡ o → item_of o ≡ Some it → named_right m it.uses it.exports ≡ true
  by None is e = absurd (no_some it e)
  by (Some h) is e =
      let same : h.item ≡ it = cc in
      subst (λ (x : Interface). named_right m x.uses x.exports ≡ true) same
      (unless-none (named_right m h.item.uses h.item.exports) fault.ResourceMisnamed (first-right _ _ (first-right _ _ (sound.interfaces i.0 h is))))

all-pass : {A : Type 0} (P : A → Type 0) (p : A → Bool) → ((x : A) → P x → p x ≡ true) → (xs : List A) → AllByRecursion P xs → list_all p xs ≡ true
all-pass P p pass [] all = refl
all-pass P p pass (x ∷ xs) all = and_from (p x) (list_all p xs) (pass x all.0) (all-pass P p pass xs all.1)

all-more : {A : Type 0} (p q : A → Bool) → ((x : A) → p x ≡ true → q x ≡ true) → (xs : List A) → list_all p xs ≡ true → list_all q xs ≡ true
all-more p q more [] all = refl
all-more p q more (x ∷ xs) all =
    let parts = and_parts (p x) (list_all p xs) all in
    and_from (q x) (list_all q xs) (more x parts.0) (all-more p q more xs parts.1)

module _ (m : Collection) (listed : List (Name × ItemKind)) where
  abbrev May : Name × UsedType → Type 0
  May e = may_use m listed e ≡ true

  plain : (e : Name × UsedType) → May e → lists_resource m listed e.0 ≡ false
  plain e may = by (lists_resource m listed e.0) (and_parts (not (lists_resource m listed e.0)) _ may).0 where
    by : (b : Bool) → not b ≡ true → b ≡ false
    by true h = absurd (false≢true h)
    by false h = refl

  by-id : (e : Name × UsedType) → May e → is_used_by_id m e.1 ≡ true
  by-id e may = (and_parts (is_used_by_id m e.1) _ (and_parts (not (lists_resource m listed e.0)) _ may).1).0

  is-there : (e : Name × UsedType) → May e → is_there m e ≡ true
  is-there e may = (and_parts (is_there m e) _ (and_parts (is_used_by_id m e.1) _ (and_parts (not (lists_resource m listed e.0)) _ may).1).1).0

  as-used : (e : Name × UsedType) → May e → is_listed_as_used m listed e ≡ true
  as-used e may = (and_parts (is_there m e) _ (and_parts (is_used_by_id m e.1) _ (and_parts (not (lists_resource m listed e.0)) _ may).1).1).1

  held-id : (u : UsedType) → is_used_by_id m u ≡ true → holds_type m (ty.Interface u.interface) ≡ true
  held-id u is = by (slice_get m.interfaces u.interface.0) refl is where
    by : (o : Option (Held Interface)) → slice_get m.interfaces u.interface.0 ≡ o → option_case (item_of o) false (λ i. is_some i.id) ≡ true → nat_lt u.interface.0 (length m.interfaces) ≡ true
    by None at h = absurd (false≢true h)
    by (Some x) at h = let low = slice_get_within m.interfaces u.interface.0 x at in grind (arith, low)

  used-held : (us : List (Name × UsedType)) → AllByRecursion May us → holds_all m (used_types us) ≡ true
  used-held [] all = refl
  used-held (e ∷ us) all = and_from (holds_type m (ty.Interface e.1.interface)) (holds_all m (used_types us)) (held-id e.1 (by-id e all.0)) (used-held us all.1)

  named-more : (us : List (Name × UsedType)) (e : Name × ItemKind) → is_named_right m [] e ≡ true → is_named_right m us e ≡ true
  named-more us (n, kind.TypeItem (ty.Resource r)) h = by (is_alias m r) (is_some (find_name us n)) (has_name m r.0 n) h where
    by : (a b d : Bool) → (a || (false || d)) ≡ true → (a || (b || d)) ≡ true
    by true b d h = refl
    by false true d h = refl
    by false false d h = h
  named-more us (n, kind.TypeItem (ty.Func f)) h = h
  named-more us (n, kind.TypeItem (ty.Value v)) h = h
  named-more us (n, kind.TypeItem (ty.Interface i)) h = h
  named-more us (n, kind.TypeItem (ty.World w)) h = h
  named-more us (n, kind.TypeItem (ty.Module y)) h = h
  named-more us (n, kind.Func f) h = h
  named-more us (n, kind.Instance i) h = h
  named-more us (n, kind.Component w) h = h
  named-more us (n, kind.Module y) h = h
  named-more us (n, kind.Value v) h = h

  pub using-right : (id : Option Name) (us : List (Name × UsedType)) → AllByRecursion May us → holds_all m (kind_types listed) ≡ true → named_right m [] listed ≡ true
      → interface_fault m (record { id = id; uses = us; exports = listed }) ≡ None
  using-right id us all held named =
      let mentioned : holds_all m (used_types us ++ kind_types listed) ≡ true =
      all_append (holds_type m) (used_types us) (kind_types listed) ∙ and_from (holds_all m (used_types us)) (holds_all m (kind_types listed)) (used-held us all) held in
      let ids = all-pass May (λ e. is_used_by_id m e.1) by-id us all in
      let there = all-pass May (is_there m) is-there us all in
      let as_used = all-pass May (is_listed_as_used m listed) as-used us all in
      let right = all-more (is_named_right m []) (is_named_right m us) (named-more us) listed named in
      (λ i. first_some (unless (mentioned i) fault.NotHeld)
      (first_some (first_some (unless (ids i) fault.UsedInterfaceUnnamed) (first_some (unless (there i) fault.UsedTypeMissing) (unless (as_used i) fault.UsedTypeDiffers)))
      (unless (right i) fault.ResourceMisnamed)))

  -- ---- its own resources

  one-of : (us : List (Name × UsedType)) (j : ℕ) (e : Name × UsedType) → AllByRecursion May us → slice_get us j ≡ Some e → May e
  one-of [] j e all at = absurd (no_some e at)
  one-of (x ∷ us) zero e all at = let same : x ≡ e = cc in subst May same all.0
  one-of (x ∷ us) (suc j) e all at = one-of us j e all.1 at

  module _ (us : List (Name × UsedType)) (all : AllByRecursion May us) where
    -- what is listed under a used name is no resource of its own
    alias-there : (n : Name) (q : ResourceId) (u : UsedType) → find_name us n ≡ Some u → find_name listed n ≡ Some (kind.TypeItem (ty.Resource q)) → is_alias m q ≡ true
    alias-there n q u used found =
        let w = find_at us n u used in
        let none = plain (n, u) (one-of us w.0 (n, u) all w.1) in
        by (is_alias m q) (ap (λ o. option_case o false (λ k. is_some (listed_resource m k))) (sym found) ∙ none) where
          by : (b : Bool) → is_some (cond b None (Some q)) ≡ false → b ≡ true
          by true h = refl
          by false h = absurd (false≢true (sym h))

    lists-same : (r : ResourceId) (e : Name × ItemKind) → find_name listed e.0 ≡ Some e.1 → lists_own m us r e ≡ lists_own m [] r e
    lists-same r (n, kind.TypeItem (ty.Resource q)) found = by (find_name us n) refl where
      off : (a : Bool) → is_alias m q ≡ true → (a && (not (is_alias m q) && false)) ≡ (a && (not (is_alias m q) && true))
      off a is = (λ i. a && (not (is i) && false)) ∙ sym (λ i. a && (not (is i) && true))

      by : (o : Option UsedType) → find_name us n ≡ o → ((q.0 == r.0) && (not (is_alias m q) && is_none o)) ≡ ((q.0 == r.0) && (not (is_alias m q) && true))
      by None is = refl
      by (Some u) is = off (q.0 == r.0) (alias-there n q u is found)
    lists-same r (n, kind.TypeItem (ty.Func f)) found = refl
    lists-same r (n, kind.TypeItem (ty.Value v)) found = refl
    lists-same r (n, kind.TypeItem (ty.Interface i)) found = refl
    lists-same r (n, kind.TypeItem (ty.World w)) found = refl
    lists-same r (n, kind.TypeItem (ty.Module y)) found = refl
    lists-same r (n, kind.Func f) found = refl
    lists-same r (n, kind.Instance i) found = refl
    lists-same r (n, kind.Component w) found = refl
    lists-same r (n, kind.Module y) found = refl
    lists-same r (n, kind.Value v) found = refl

    own-from : (es : List (Name × ItemKind)) (r : ResourceId) → ((j : ℕ) (e : Name × ItemKind) → slice_get es j ≡ Some e → find_name listed e.0 ≡ Some e.1) → own_name m us es r ≡ own_name m [] es r
    own-from [] r found = refl
    own-from (e ∷ es) r found =
        let here = lists-same r e (found 0 e refl) in
        let rest = own-from es r (λ j y at. found (suc j) y at) in
        (λ i. cond (here i) (Some e.0) (rest i))

    pub own-same : NoNameTwice listed → (r : ResourceId) → own_name m us listed r ≡ own_name m [] listed r
    own-same once r = own-from listed r (λ j e at. find_name-at listed j e.0 e.1 once at)

-- ---- items of the same names

-- they are held
alike-held : (m : Collection) (xs ys : List (Name × ItemKind)) → AreAlike m xs ys → holds_all m (kind_types xs) ≡ true → holds_all m (kind_types ys) ≡ true
alike-held m [] [] z held = refl
alike-held m [] (y ∷ ys) z held = absurd z
alike-held m (x ∷ xs) [] z held = absurd z
alike-held m (x ∷ xs) (y ∷ ys) z held =
    let parts = and_parts (holds_type m (kind_type x.1)) (holds_all m (kind_types xs)) held in
    and_from (holds_type m (kind_type y.1)) (holds_all m (kind_types ys)) (here x y z.0 parts.0) (alike-held m xs ys z.1 parts.1) where
      here : (x y : Name × ItemKind) → IsAlike m x y → holds_type m (kind_type x.1) ≡ true → holds_type m (kind_type y.1) ≡ true
      here _ _ (same_item e) h = h
      here _ _ (other_instance n k l there) h = grind (arith, there)

-- own resources are listed under the same names
alike-own : (m : Collection) (r : ResourceId) (xs ys : List (Name × ItemKind)) → AreAlike m xs ys → own_name m [] ys r ≡ own_name m [] xs r
alike-own m r [] [] z = refl
alike-own m r [] (y ∷ ys) z = absurd z
alike-own m r (x ∷ xs) [] z = absurd z
alike-own m r (x ∷ xs) (y ∷ ys) z = here x y z.0 (alike-own m r xs ys z.1) where
  here : (x y : Name × ItemKind) → IsAlike m x y → own_name m [] ys r ≡ own_name m [] xs r → own_name m [] (y ∷ ys) r ≡ own_name m [] (x ∷ xs) r
  here _ _ (same_item e) rest = (λ i. cond (lists_own m [] r e) (Some e.0) (rest i))
  here _ _ (other_instance n k l there) rest = rest

alike-named : (m : Collection) (xs ys : List (Name × ItemKind)) → AreAlike m xs ys → list_all (is_named_right m []) xs ≡ true → list_all (is_named_right m []) ys ≡ true
alike-named m [] [] z named = refl
alike-named m [] (y ∷ ys) z named = absurd z
alike-named m (x ∷ xs) [] z named = absurd z
alike-named m (x ∷ xs) (y ∷ ys) z named =
    let parts = and_parts (is_named_right m [] x) (list_all (is_named_right m []) xs) named in
    and_from (is_named_right m [] y) (list_all (is_named_right m []) ys) (here x y z.0 parts.0) (alike-named m xs ys z.1 parts.1) where
      here : (x y : Name × ItemKind) → IsAlike m x y → is_named_right m [] x ≡ true → is_named_right m [] y ≡ true
      here _ _ (same_item e) h = h
      here _ _ (other_instance n k l there) h = refl

pub all-alike : (m : Collection) (xs : List (Name × ItemKind)) → AreAlike m xs xs
all-alike m [] = tt
all-alike m (x ∷ xs) = (same_item x, all-alike m xs)

-- an interface that uses no other may have the uses that are kept, with items of the same names
pub may-have : (rules : NameRules) (c : Collection) (es : List Entry) (m : Collection) (imports : List Entry) (us kept : List (Name × UsedType)) (i : InterfaceId) (it : Interface) (exports : List (Name × ItemKind)) → IsWellFormed m → IsSound m
    → item_at m.interfaces i.0 ≡ Some it → it.uses ≡ [] → AreAlike m it.exports exports → NoNameTwice exports → kept ≡ kept_uses rules c es m imports exports us → MayHave m i exports kept
may-have rules c es m imports us kept i it exports wf sound at none alike once is =
    let all : AllByRecursion (May m exports) kept = subst (AllByRecursion (May m exports)) (sym is) (kept-may rules c es m imports exports us) in
    let named : named_right m [] it.exports ≡ true = ap (λ l. named_right m l it.exports) (sym none) ∙ named-right m sound i it at in
    record {
      right = λ x there. subst (λ (y : Interface). interface_fault m (record { id = y.id; uses = kept; exports = exports }) ≡ None) (one_some (item_at m.interfaces i.0) it x at there)
          (using-right m exports it.id kept all (alike-held m it.exports exports alike (exports_held m wf i it at)) (alike-named m it.exports exports alike named));
      own = λ x r there. subst (λ (y : Interface). own_name m kept exports r ≡ own_name m y.uses y.exports r) (one_some (item_at m.interfaces i.0) it x at there)
          (own-same m exports kept all once r ∙ (alike-own m r it.exports exports alike ∙ ap (λ l. own_name m l it.exports r) (sym none)));
    }

pub exports-alike : (m : Collection) (i : InterfaceId) (it : Interface) (exports : List (Name × ItemKind)) → IsWellFormed m → item_at m.interfaces i.0 ≡ Some it → AreAlike m it.exports exports → holds_all m (kind_types exports) ≡ true
exports-alike m i it exports wf at alike = alike-held m it.exports exports alike (exports_held m wf i it at)
