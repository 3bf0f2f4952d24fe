-- What one more listed item adds to a table.
use Rattle.std.proofs.Common.{◌≡◌, ℕ, zero, suc, nat_lt, nat_eq, Bool, true, false, not, cond, ◌&&◌, ◌||◌, List, [], ◌∷◌, ◌++◌, take, slice_get, Option, Some, None, refl, sym, ap, ◌∙◌, arith}
use Rattle.std.proofs.lemmas.Bool.{le-ltb, and_parts as both}
use Rattle.std.proofs.lemmas.List.Folds.{list_any-append}
use Rattle.wac_types_shapes.specs.primitives.Name.{Name, option_case, first_some}
use Rattle.wac_types_shapes.proofs.lemmas.shapes.Names.{take_at}
use Rattle.wac_types_shapes.specs.primitives.Tree.{Place, named}
use Rattle.wac_types_collection.specs.collection.Collection.{Collection, holds_all, holds_type, item_at, used_types}
use Rattle.wac_types_shapes.specs.declared.shapes.component.DefinedTypeId.{DefinedTypeId}
use Rattle.wac_types_shapes.specs.declared.shapes.component.Interface.{Interface}
use Rattle.wac_types_shapes.specs.declared.shapes.component.InterfaceId.{InterfaceId}
use Rattle.wac_types_shapes.specs.declared.shapes.component.UsedType.{UsedType}
use Rattle.wac_types_shapes.specs.declared.shapes.component.«Type».TheVariants as ty
use Rattle.wac_types_shapes.specs.declared.shapes.component.ItemKind.{ItemKind}
use Rattle.wac_types_shapes.specs.declared.shapes.component.ItemKind.TheVariants as kind
use Rattle.wac_merge_classes.specs.terms.Values.{is_value, listed_value, used_value, uses_value, value_name}
use Rattle.wac_merge_classes.specs.private.terms.ValueBindings.{find_value}
use Rattle.wac_merge_resources.specs.private.values.Listings.{Found, Takes, better, exported, found, has_value, listed_by, only, stays}
use Rattle.wac_merge_resources.proofs.lemmas.values.Tables.{better-goes, better-stays, same_id, stays-anywhere}

-- ---- what is used

-- the interface from which a type is used is held
pub used_held : (c : Collection) (us : List (Name × UsedType)) (i : ℕ) (e : Name × UsedType) → holds_all c (used_types us) ≡ true → slice_get us i ≡ Some e
    → holds_type c (ty.Interface e.1.interface) ≡ true
used_held c [] i e h at = cc at
used_held c (x ∷ us) zero e h at =
    let same : x ≡ e = cc in
    ap (λ (y : Name × UsedType). holds_type c (ty.Interface y.1.interface)) (sym same)
    ∙ (both (holds_type c (ty.Interface x.1.interface)) (holds_all c (used_types us)) h).0
used_held c (x ∷ us) (suc i) e h at = used_held c us i e (both (holds_type c (ty.Interface x.1.interface)) (holds_all c (used_types us)) h).1 at

module _ (c : Collection) (uses : List (Name × UsedType)) (i : ℕ) (e : Name × UsedType) (at : slice_get uses i ≡ Some e) (d : DefinedTypeId) where
  uses-more : uses_value c (take (suc i) uses) d ≡ (uses_value c (take i uses) d || is_value d (used_value c e))
  uses-more =
      ap (λ l. uses_value c l d) (take_at uses i e at) ∙ list_any-append (λ x. is_value d (used_value c x)) (take i uses) (e ∷ [])
      ∙ ap (λ b. uses_value c (take i uses) d || b) (last (is_value d (used_value c e)))
    where
      last : (b : Bool) → (b || false) ≡ b
      last true = refl
      last false = refl

  -- one more use, of this value type
  pub uses-some : (q : DefinedTypeId) (old new : List DefinedTypeId) → used_value c e ≡ Some q → has_value old d ≡ uses_value c (take i uses) d
      → has_value new d ≡ cond (nat_eq q.0 d.0) true (has_value old d) → has_value new d ≡ uses_value c (take (suc i) uses) d
  uses-some q old new is known put =
      put ∙ ap (cond (nat_eq q.0 d.0) true) known ∙ either (nat_eq q.0 d.0) (uses_value c (take i uses) d)
      ∙ sym (uses-more ∙ ap (λ o. uses_value c (take i uses) d || is_value d o) is)
    where
      either : (a b : Bool) → cond a true b ≡ (b || a)
      either true true = refl
      either true false = refl
      either false true = refl
      either false false = refl

  -- one more use, of none
  pub uses-none : (o : Option DefinedTypeId) (set : List DefinedTypeId) → used_value c e ≡ o → ((q : DefinedTypeId) → o ≡ Some q → ⊥) → has_value set d ≡ uses_value c (take i uses) d
      → has_value set d ≡ uses_value c (take (suc i) uses) d
  uses-none (Some q) set is none known = absurd (none q refl)
  uses-none None set is none known = known ∙ sym (uses-more ∙ ap (λ o. uses_value c (take i uses) d || is_value d o) is ∙ same (uses_value c (take i uses) d)) where
    same : (b : Bool) → (b || false) ≡ b
    same true = refl
    same false = refl

-- ---- what an interface lists

module _ (c : Collection) where
  name-append : (xs ys : List (Name × ItemKind)) (d : DefinedTypeId) → value_name c (xs ++ ys) d ≡ first_some (value_name c xs d) (value_name c ys d)
  name-append [] ys d = refl
  name-append (x ∷ xs) ys d = by (is_value d (listed_value c x.1)) (name-append xs ys d) where
    by : (b : Bool) → value_name c (xs ++ ys) d ≡ first_some (value_name c xs d) (value_name c ys d)
        → cond b (Some x.0) (value_name c (xs ++ ys) d) ≡ first_some (cond b (Some x.0) (value_name c xs d)) (value_name c ys d)
    by true h = refl
    by false h = h

-- no class comes before itself
not_before : (u : Bool) (k : ℕ) → cond u (u && nat_lt k k) (u || nat_lt k k) ≡ false
not_before true k = le-ltb k k (omega arith)
not_before false k = le-ltb k k (omega arith)

-- of two listings of one class and one sort the first stays
again : (o : Option Found) (u : Bool) (k : ℕ) (p q : List Place) → better (better o (Some (found u k p))) (Some (found u k q)) ≡ better o (Some (found u k p))
again o u k p q = by (stays o (found u k p)) refl where
  by : (b : Bool) → stays o (found u k p) ≡ b → better (better o (Some (found u k p))) (Some (found u k q)) ≡ better o (Some (found u k p))
  by true h =
      ap (λ x. better x (Some (found u k q))) (better-stays o (found u k p) h)
      ∙ better-stays o (found u k q) (stays-anywhere o (found u k q) ∙ sym (stays-anywhere o (found u k p)) ∙ h)
      ∙ sym (better-stays o (found u k p) h)
  by false h =
      ap (λ x. better x (Some (found u k q))) (better-goes o (found u k p) h)
      ∙ better-stays (Some (found u k p)) (found u k q) (ap not (not_before u k))
      ∙ sym (better-goes o (found u k p) h)

module _ (c : Collection) (uses : DefinedTypeId → Bool) (k : ℕ) where
  -- what an item lists under a name
  abbrev pub one : Name → Option DefinedTypeId → DefinedTypeId → Option Found
  one n o d = option_case o None (λ q. only q (found (uses q) k (named n ∷ [])) d)

  one-is : (n : Name) (o : Option DefinedTypeId) (d : DefinedTypeId)
      → option_case (cond (is_value d o) (Some n) None) None (λ m. Some (found (uses d) k (named m ∷ []))) ≡ one n o d
  one-is n None d = refl
  one-is n (Some q) d = by (nat_eq q.0 d.0) refl where
    by : (b : Bool) → nat_eq q.0 d.0 ≡ b
        → option_case (cond b (Some n) None) None (λ m. Some (found (uses d) k (named m ∷ []))) ≡ cond b (Some (found (uses q) k (named n ∷ []))) None
    by true h = ap (λ (x : DefinedTypeId). Some (found (uses x) k (named n ∷ []))) (sym (same_id q d h))
    by false h = refl

  more : (o : Option Found) (a b : Option Name) (d : DefinedTypeId)
      → better o (option_case (first_some a b) None (λ m. Some (found (uses d) k (named m ∷ []))))
      ≡ better (better o (option_case a None (λ m. Some (found (uses d) k (named m ∷ []))))) (option_case b None (λ m. Some (found (uses d) k (named m ∷ []))))
  more o None b d = refl
  more o (Some n) None d = refl
  more o (Some n) (Some m) d = sym (again o (uses d) k (named n ∷ []) (named m ∷ []))

  -- one more item
  pub exported-step : (es : List (Name × ItemKind)) (i : ℕ) (n : Name) (x : ItemKind) (start old new : List (DefinedTypeId × Found)) (o : Option DefinedTypeId)
      → slice_get es i ≡ Some (n, x) → listed_value c x ≡ o → Takes start (exported c uses k (take i es)) old → Takes old (one n o) new
      → Takes start (exported c uses k (take (suc i) es)) new
  exported-step es i n x start old new o at is before put d =
      put d ∙ ap (λ y. better y (one n o d)) (before d)
      ∙ ap (better (better (find_value start d) (exported c uses k (take i es) d))) (sym (one-is n o d))
      ∙ sym (more (find_value start d) (value_name c (take i es) d) (cond (is_value d o) (Some n) None) d)
      ∙ ap (λ a. better (find_value start d) (option_case a None (λ m. Some (found (uses d) k (named m ∷ []))))) (sym name)
    where
      name : value_name c (take (suc i) es) d ≡ first_some (value_name c (take i es) d) (cond (is_value d o) (Some n) None)
      name =
          ap (λ l. value_name c l d) (take_at es i (n, x) at) ∙ name-append c (take i es) ((n, x) ∷ []) d
          ∙ ap (λ v. first_some (value_name c (take i es) d) (cond (is_value d v) (Some n) None)) is

  -- one more item, which lists none
  pub exported-stays : (es : List (Name × ItemKind)) (i : ℕ) (n : Name) (x : ItemKind) (start old new : List (DefinedTypeId × Found)) (o : Option DefinedTypeId)
      → slice_get es i ≡ Some (n, x) → listed_value c x ≡ o → ((q : DefinedTypeId) → o ≡ Some q → ⊥) → Takes start (exported c uses k (take i es)) old → new ≡ old
      → Takes start (exported c uses k (take (suc i) es)) new
  exported-stays es i n x start old new None at is none before same = exported-step es i n x start old new None at is before (λ d. ap (λ (m : List (DefinedTypeId × Found)). find_value m d) same)
  exported-stays es i n x start old new (Some q) at is none before same = absurd (none q refl)

-- ---- what a member lists

module _ (c : Collection) (k : ℕ) where
  -- an instance, by what its interface exports
  pub instance-lists : (i : InterfaceId) (it : Interface) (set : List DefinedTypeId) → item_at c.interfaces i.0 ≡ Some it
      → ((d : DefinedTypeId) → has_value set d ≡ uses_value c it.uses d) → (d : DefinedTypeId) → exported c (has_value set) k it.exports d ≡ listed_by c k (kind.Instance i) d
  instance-lists i it set at same d =
      ap (λ b. option_case (value_name c it.exports d) None (λ n. Some (found b k (named n ∷ [])))) (same d)
      ∙ by (value_name c it.exports d)
      ∙ sym (ap (λ (x : Option Interface). option_case (option_case x None (λ y. option_case (value_name c y.exports d) None (λ n. Some (named n ∷ [])))) None
      (λ path. Some (found (option_case x false (λ y. uses_value c y.uses d)) k path))) at)
    where
      by : (o : Option Name) → option_case o None (λ n. Some (found (uses_value c it.uses d) k (named n ∷ [])))
          ≡ option_case (option_case o None (λ n. Some (named n ∷ []))) None (λ path. Some (found (uses_value c it.uses d) k path))
      by None = refl
      by (Some n) = refl

  -- any other, by being it
  whole : (o : Option DefinedTypeId) (d : DefinedTypeId) → option_case o None (λ q. only q (found false k []) d) ≡ option_case (cond (is_value d o) (Some []) None) None (λ path. Some (found false k path))
  whole None d = refl
  whole (Some q) d = by (nat_eq q.0 d.0) where
    by : (b : Bool) → cond b (Some (found false k [])) None ≡ option_case (cond b (Some []) None) None (λ path. Some (found false k path))
    by true = refl
    by false = refl

  pub member-lists : (x : ItemKind) (o : Option DefinedTypeId) → ((i : InterfaceId) → x ≡ kind.Instance i → ⊥) → listed_value c x ≡ o
      → (d : DefinedTypeId) → option_case o None (λ q. only q (found false k []) d) ≡ listed_by c k x d
  member-lists (kind.TypeItem t) o other is d = ap (λ v. option_case v None (λ q. only q (found false k []) d)) (sym is) ∙ whole (listed_value c (kind.TypeItem t)) d
  member-lists (kind.Func f) o other is d = ap (λ v. option_case v None (λ q. only q (found false k []) d)) (sym is) ∙ whole None d
  member-lists (kind.Instance i) o other is d = absurd (other i refl)
  member-lists (kind.Component w) o other is d = ap (λ v. option_case v None (λ q. only q (found false k []) d)) (sym is) ∙ whole None d
  member-lists (kind.Module m) o other is d = ap (λ v. option_case v None (λ q. only q (found false k []) d)) (sym is) ∙ whole None d
  member-lists (kind.Value v) o other is d = ap (λ v. option_case v None (λ q. only q (found false k []) d)) (sym is) ∙ whole None d
