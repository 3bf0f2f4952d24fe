-- What an instance exports, as a scope records it item by item.
use Rattle.std.specs.Prelude.{ℕ, ◌≡◌, ◌==◌, ◌&&◌, Bool, true, false, List, [], ◌∷◌, ◌++◌, take, slice_get, Option, Some, None, is_none, if◌then◌else◌}
use Rattle.std.proofs.Common.{refl, ap, ◌∙◌, sym, subst}
use Rattle.std.proofs.Math.Path.{fun_ext}
use Rattle.std.proofs.lemmas.Bool.{eq-eqb, eqb-true}
use Rattle.wac_types_shapes.specs.primitives.Name.{Name, option_case}
use Rattle.wac_types_shapes.specs.shapes.Named.{NoNameTwice}
use Rattle.wac_types_shapes.specs.declared.shapes.component.ResourceId.{ResourceId}
use Rattle.wac_types_shapes.specs.declared.shapes.component.DefinedTypeId.{DefinedTypeId}
use Rattle.wac_types_shapes.specs.declared.shapes.component.UsedType.{UsedType}
use Rattle.wac_types_shapes.specs.declared.shapes.component.ValueType.TheVariants as val
use Rattle.wac_types_shapes.specs.declared.shapes.component.«Type».TheVariants as ty
use Rattle.wac_types_shapes.specs.declared.shapes.component.ItemKind.{ItemKind}
use Rattle.wac_types_collection.specs.collection.Collection.{Collection}
use Rattle.wac_types_collection.specs.collection.Bound.{lists_own, own_name}
use Rattle.wac_types_collection.specs.collection.Uses.{named_right}
use Rattle.wac_encode_stacks.specs.Scopes.{Where, at_type, at_export, How, defined, brought, listed, Indexed, Open, export_at}
use Rattle.wac_encode_scopes.specs.States.{named_by, named_of, named_in}
use Rattle.wac_encode_scopes.specs.private.Interfaces.{own_in}
use Rattle.wac_encode_scopes.specs.private.Telling.{with_own_names, definition_in, value_name, with_values, binding_own, exporting_values}
use Rattle.wac_encode_scopes.specs.private.Steps.{that_passes, bound_to, told_to}
use Rattle.wac_encode_scopes.proofs.Types.{eqb-swap}
use Rattle.wac_encode_scopes.proofs.Owned.{own-lists, own-none, own-append, own-before, same-id}

some-again : (o : Option Name) → option_case o None (λ n. Some n) ≡ o
some-again None = refl
some-again (Some n) = refl

-- one more own resource

module _ {A : Type 0} (c : Collection) (uses : List (Name × UsedType)) (test : ResourceId → Bool) (f : Name → A) (g : ResourceId → Option A) (es : List (Name × ItemKind)) (x : Name × ItemKind) where
  abbrev before : ResourceId → Option A
  before = with_own_names c uses es test f g

  abbrev after : ResourceId → Option A
  after = with_own_names c uses (es ++ x ∷ []) test f g

  same-at : (q : ResourceId) → lists_own c uses q x ≡ false → after q ≡ before q
  same-at q apart = ap (λ (o : Option Name). if test q then option_case o (g q) (λ n. Some (f n)) else g q) (own-append c uses es x q ∙ ap (λ b. option_case (own_name c uses es q) (if b then Some x.0 else None) (λ n. Some n)) apart ∙ some-again (own_name c uses es q))

  fails-at : (q : ResourceId) → test q ≡ false → after q ≡ before q
  fails-at q fails = ap (λ b. if b then option_case (own_name c uses (es ++ x ∷ []) q) (g q) (λ n. Some (f n)) else g q) fails ∙ sym (ap (λ b. if b then option_case (own_name c uses es q) (g q) (λ n. Some (f n)) else g q) fails)

  here-at : (q : ResourceId) → test q ≡ true → own_name c uses es q ≡ None → lists_own c uses q x ≡ true → after q ≡ Some (f x.0)
  here-at q passes none lists =
      ap (λ b. if b then option_case (own_name c uses (es ++ x ∷ []) q) (g q) (λ n. Some (f n)) else g q) passes
      ∙ ap (λ (o : Option Name). option_case o (g q) (λ n. Some (f n))) (own-append c uses es x q ∙ ap (λ (o : Option Name). option_case o (if lists_own c uses q x then Some x.0 else None) (λ n. Some n)) none ∙ ap (λ b. if b then Some x.0 else None) lists)

  pub none-more : own_in c uses x ≡ None → after ≡ before
  none-more is = fun_ext (λ q. same-at q (own-none c uses x.0 x.1 is q))

  apart-from : (r q : ResourceId) → own_in c uses x ≡ Some r → (q.0 == r.0) ≡ false → lists_own c uses q x ≡ false
  apart-from r q is apart = own-lists c uses x.0 x.1 r is q ∙ eqb-swap r.0 q.0 ∙ apart

  pub other-more : (r : ResourceId) → own_in c uses x ≡ Some r → test r ≡ false → after ≡ before
  other-more r is fails = fun_ext (λ q. by_id q (q.0 == r.0) refl)
    where
      by_id : (q : ResourceId) (b : Bool) → (q.0 == r.0) ≡ b → after q ≡ before q
      by_id q true same = fails-at q (ap test (same-id c uses q r same) ∙ fails)
      by_id q false apart = same-at q (apart-from r q is apart)

  pub mine-more : (r : ResourceId) → own_in c uses x ≡ Some r → test r ≡ true → own_name c uses es r ≡ None → after ≡ (λ q. if q.0 == r.0 then Some (f x.0) else before q)
  mine-more r is passes none = fun_ext (λ q. by_id q (q.0 == r.0) refl)
    where
      by_id : (q : ResourceId) (b : Bool) → (q.0 == r.0) ≡ b → after q ≡ (if b then Some (f x.0) else before q)
      by_id q true same = let eq = same-id c uses q r same in here-at q (ap test eq ∙ passes) (ap (own_name c uses es) eq ∙ none) (own-lists c uses x.0 x.1 r is q ∙ eq-eqb r.0 q.0 (sym (ap (λ (z : ResourceId). z.0) eq)))
      by_id q false apart = same-at q (apart-from r q is apart)

pub none-told : {A : Type 0} (c : Collection) (uses : List (Name × UsedType)) (test : ResourceId → Bool) (f : Name → A) (g : ResourceId → Option A) → with_own_names c uses [] test f g ≡ g
none-told c uses test f g = fun_ext (λ q. by_test q (test q))
  where
    by_test : (q : ResourceId) (b : Bool) → (if b then g q else g q) ≡ g q
    by_test q true = refl
    by_test q false = refl

-- the scope with one more own resource of an instance
pub binding-more : (c : Collection) (uses : List (Name × UsedType)) (test : ResourceId → Bool) (j : ℕ) (es : List (Name × ItemKind)) (i : ℕ) (x : Name × ItemKind) (o : Open) → named_right c uses es ≡ true → NoNameTwice es → slice_get es i ≡ Some x → binding_own c uses (take i es ++ x ∷ []) test j o ≡ bound_to (that_passes test (own_in c uses x)) j x.0 (binding_own c uses (take i es) test j o)
binding-more c uses test j es i x o right once at = by_own (own_in c uses x) refl
  where
    by_test : (r : ResourceId) → own_in c uses x ≡ Some r → (b : Bool) → test r ≡ b → binding_own c uses (take i es ++ x ∷ []) test j o ≡ bound_to (if b then Some r else None) j x.0 (binding_own c uses (take i es) test j o)
    by_test r is true passes = ap (λ (h : ResourceId → Option Where). record o { binds = h }) (mine-more c uses test (at_export j) o.binds (take i es) x r is passes (own-before c uses es i x r right once at is))
    by_test r is false fails = ap (λ (h : ResourceId → Option Where). record o { binds = h }) (other-more c uses test (at_export j) o.binds (take i es) x r is fails)

    by_own : (a : Option ResourceId) → own_in c uses x ≡ a → binding_own c uses (take i es ++ x ∷ []) test j o ≡ bound_to (that_passes test a) j x.0 (binding_own c uses (take i es) test j o)
    by_own None is = ap (λ (h : ResourceId → Option Where). record o { binds = h }) (none-more c uses test (at_export j) o.binds (take i es) x is)
    by_own (Some r) is = by_test r is (test r) refl

pub binding-none : (c : Collection) (uses : List (Name × UsedType)) (test : ResourceId → Bool) (j : ℕ) (o : Open) → binding_own c uses [] test j o ≡ o
binding-none c uses test j o = ap (λ (h : ResourceId → Option Where). record o { binds = h }) (none-told c uses test (at_export j) o.binds)

-- one more value type

value-append : (c : Collection) (es : List (Name × ItemKind)) (x : Name × ItemKind) (d : DefinedTypeId) → value_name c (es ++ x ∷ []) d ≡ option_case (value_name c es d) (if option_case (definition_in c x) false (λ q. q.0 == d.0) then Some x.0 else None) (λ n. Some n)
value-append c [] x d = refl
value-append c (y ∷ es) x d = by_case (option_case (definition_in c y) false (λ q. q.0 == d.0)) (value-append c es x d)
  where
    by_case : (b : Bool) → value_name c (es ++ x ∷ []) d ≡ option_case (value_name c es d) (if option_case (definition_in c x) false (λ q. q.0 == d.0) then Some x.0 else None) (λ n. Some n) → (if b then Some y.0 else value_name c (es ++ x ∷ []) d) ≡ option_case (if b then Some y.0 else value_name c es d) (if option_case (definition_in c x) false (λ q. q.0 == d.0) then Some x.0 else None) (λ n. Some n)
    by_case true i = refl
    by_case false i = i

pub named-some : (t : Option Indexed) (w : Where) → named_of t (Some w) ≡ None → ⊥
named-some None w h = let no : Some w ≡ None = h in cc
named-some (Some x) w h = by_how x.how h
  where
    by_how : (how : How) → named_by how x.index (Some w) ≡ None → ⊥
    by_how defined e = let no : Some w ≡ None = e in cc
    by_how brought e = let no : Some (at_type x.index) ≡ None = e in cc
    by_how listed e = let no : Some (at_type x.index) ≡ None = e in cc

module _ (c : Collection) (test : DefinedTypeId → Bool) (j : ℕ) (o : Open) (es : List (Name × ItemKind)) (x : Name × ItemKind) where
  abbrev values : DefinedTypeId → Option Where
  values = with_values c es test j o

  abbrev more-values : DefinedTypeId → Option Where
  more-values = with_values c (es ++ x ∷ []) test j o

  abbrev told : Open
  told = exporting_values c es test j o

  -- the export of a definition by whether it is told and by its name
  abbrev place : DefinedTypeId → Bool → Option Name → Option Where
  place d b v = if b then option_case v (o.exports d) (λ n. Some (at_export j n)) else o.exports d

  same-value : (d : DefinedTypeId) → option_case (definition_in c x) false (λ q. q.0 == d.0) ≡ false → more-values d ≡ values d
  same-value d apart = ap (place d (test d && is_none (named_in d o))) (value-append c es x d ∙ ap (λ b. option_case (value_name c es d) (if b then Some x.0 else None) (λ n. Some n)) apart ∙ some-again (value_name c es d))

  untold-value : (d : DefinedTypeId) → (test d && is_none (named_in d o)) ≡ false → more-values d ≡ values d
  untold-value d fails = ap (λ b. place d b (value_name c (es ++ x ∷ []) d)) fails ∙ sym (ap (λ b. place d b (value_name c es d)) fails)

  known-value : (d : DefinedTypeId) (n : Name) → value_name c es d ≡ Some n → more-values d ≡ values d
  known-value d n is = ap (place d (test d && is_none (named_in d o))) (value-append c es x d ∙ ap (λ (v : Option Name). option_case v (if option_case (definition_in c x) false (λ q. q.0 == d.0) then Some x.0 else None) (λ k. Some k)) is ∙ sym is)

  pub values-none : definition_in c x ≡ None → more-values ≡ values
  values-none is = fun_ext (λ d. same-value d (ap (λ (a : Option DefinedTypeId). option_case a false (λ q. q.0 == d.0)) is))

  same-definition : (q d : DefinedTypeId) → (d.0 == q.0) ≡ true → d ≡ q
  same-definition q d h = ap (λ k. record { 0 = k }) (eqb-true d.0 q.0 h)

  apart-definition : (q d : DefinedTypeId) → definition_in c x ≡ Some q → (d.0 == q.0) ≡ false → option_case (definition_in c x) false (λ p. p.0 == d.0) ≡ false
  apart-definition q d is apart = ap (λ (a : Option DefinedTypeId). option_case a false (λ p. p.0 == d.0)) is ∙ eqb-swap q.0 d.0 ∙ apart

  -- nothing changes if that holds at the item's definition
  unchanged : (q : DefinedTypeId) → definition_in c x ≡ Some q → more-values q ≡ values q → more-values ≡ values
  unchanged q is mine = fun_ext (λ d. by_id d (d.0 == q.0) refl)
    where
      by_id : (d : DefinedTypeId) (b : Bool) → (d.0 == q.0) ≡ b → more-values d ≡ values d
      by_id d true same = subst (λ (z : DefinedTypeId). more-values z ≡ values z) (sym (same-definition q d same)) mine
      by_id d false apart = same-value d (apart-definition q d is apart)

  pub values-other : (q : DefinedTypeId) → definition_in c x ≡ Some q → test q ≡ false → more-values ≡ values
  values-other q is fails = unchanged q is (untold-value q (ap (λ b. b && is_none (named_in q o)) fails))

  -- a definition that has a name by now had one before, or was told
  pub values-named : (q : DefinedTypeId) (w : Where) → definition_in c x ≡ Some q → named_in q told ≡ Some w → more-values ≡ values
  values-named q w is has = unchanged q is (by_named (named_in q o) refl)
    where
      by_name : (v : Option Name) → value_name c es q ≡ v → named_in q o ≡ None → more-values q ≡ values q
      by_name (Some n) name none = known-value q n name
      by_name None name none =
          let kept : values q ≡ o.exports q = ap (place q (test q && is_none (named_in q o))) name ∙ either (test q && is_none (named_in q o)) in
          let both : None ≡ Some w = sym none ∙ ap (named_of (o.types (ty.Value (val.Defined q)))) (sym kept) ∙ has in
          cc
        where
          either : (b : Bool) → (if b then o.exports q else o.exports q) ≡ o.exports q
          either true = refl
          either false = refl

      by_named : (a : Option Where) → named_in q o ≡ a → more-values q ≡ values q
      by_named (Some u) has_one = untold-value q (ap (λ (z : Option Where). test q && is_none z) has_one ∙ off (test q))
        where
          off : (b : Bool) → (b && false) ≡ false
          off true = refl
          off false = refl
      by_named None none = by_name (value_name c es q) refl none

  pub values-told : (q : DefinedTypeId) → definition_in c x ≡ Some q → test q ≡ true → named_in q told ≡ None → more-values ≡ (λ d. if d.0 == q.0 then Some (at_export j x.0) else values d)
  values-told q is passes none = fun_ext (λ d. by_id d (d.0 == q.0) refl)
    where
      -- it has no name before, for else it would have it now
      unnamed : (a : Option Where) → named_in q o ≡ a → a ≡ None
      unnamed None h = refl
      unnamed (Some u) h =
          let kept : values q ≡ o.exports q = ap (λ (z : Option Where). place q (test q && is_none z) (value_name c es q)) h ∙ off (test q) in
          let both : Some u ≡ None = sym h ∙ ap (named_of (o.types (ty.Value (val.Defined q)))) (sym kept) ∙ none in
          cc
        where
          off : (b : Bool) → place q (b && false) (value_name c es q) ≡ o.exports q
          off true = refl
          off false = refl

      was : named_in q o ≡ None
      was = unnamed (named_in q o) refl

      on : (test q && is_none (named_in q o)) ≡ true
      on = ap (λ b. b && is_none (named_in q o)) passes ∙ ap (λ (z : Option Where). is_none z) was

      untold : (v : Option Name) → value_name c es q ≡ v → v ≡ None
      untold None h = refl
      untold (Some n) h = absurd (named-some (o.types (ty.Value (val.Defined q))) (at_export j n) (ap (named_of (o.types (ty.Value (val.Defined q)))) (sym (ap (λ b. place q b (value_name c es q)) on ∙ ap (place q true) h)) ∙ none))

      mine : more-values q ≡ Some (at_export j x.0)
      mine =
          ap (λ b. place q b (value_name c (es ++ x ∷ []) q)) on
          ∙ ap (place q true) (value-append c es x q ∙ ap (λ (v : Option Name). option_case v (if option_case (definition_in c x) false (λ p. p.0 == q.0) then Some x.0 else None) (λ n. Some n)) (untold (value_name c es q) refl) ∙ ap (λ (a : Option DefinedTypeId). if option_case a false (λ p. p.0 == q.0) then Some x.0 else None) is ∙ ap (λ b. if b then Some x.0 else None) (eq-eqb q.0 q.0 refl))

      by_id : (d : DefinedTypeId) (b : Bool) → (d.0 == q.0) ≡ b → more-values d ≡ (if b then Some (at_export j x.0) else values d)
      by_id d true same = ap more-values (same-definition q d same) ∙ mine
      by_id d false apart = same-value d (apart-definition q d is apart)

-- the scope with one more value type of an instance
pub exporting-more : (c : Collection) (test : DefinedTypeId → Bool) (j : ℕ) (es : List (Name × ItemKind)) (x : Name × ItemKind) (o : Open) → exporting_values c (es ++ x ∷ []) test j o ≡ told_to (that_passes test (definition_in c x)) j x.0 (exporting_values c es test j o)
exporting-more c test j es x o = by_item (definition_in c x) refl
  where
    by_named : (q : DefinedTypeId) → definition_in c x ≡ Some q → test q ≡ true → (a : Option Where) → named_in q (exporting_values c es test j o) ≡ a → exporting_values c (es ++ x ∷ []) test j o ≡ option_case a (export_at q (at_export j x.0) (exporting_values c es test j o)) (λ w. exporting_values c es test j o)
    by_named q is passes None none = ap (λ (h : DefinedTypeId → Option Where). record o { exports = h }) (values-told c test j o es x q is passes none)
    by_named q is passes (Some w) has = ap (λ (h : DefinedTypeId → Option Where). record o { exports = h }) (values-named c test j o es x q w is has)

    by_test : (q : DefinedTypeId) → definition_in c x ≡ Some q → (b : Bool) → test q ≡ b → exporting_values c (es ++ x ∷ []) test j o ≡ told_to (if b then Some q else None) j x.0 (exporting_values c es test j o)
    by_test q is true passes = by_named q is passes (named_in q (exporting_values c es test j o)) refl
    by_test q is false fails = ap (λ (h : DefinedTypeId → Option Where). record o { exports = h }) (values-other c test j o es x q is fails)

    by_item : (a : Option DefinedTypeId) → definition_in c x ≡ a → exporting_values c (es ++ x ∷ []) test j o ≡ told_to (that_passes test a) j x.0 (exporting_values c es test j o)
    by_item None is = ap (λ (h : DefinedTypeId → Option Where). record o { exports = h }) (values-none c test j o es x is)
    by_item (Some q) is = by_test q is (test q) refl

pub exporting-none : (c : Collection) (test : DefinedTypeId → Bool) (j : ℕ) (o : Open) → exporting_values c [] test j o ≡ o
exporting-none c test j o = ap (λ (h : DefinedTypeId → Option Where). record o { exports = h }) (fun_ext (λ d. by_test d (test d && is_none (named_in d o))))
  where
    by_test : (d : DefinedTypeId) (b : Bool) → (if b then o.exports d else o.exports d) ≡ o.exports d
    by_test d true = refl
    by_test d false = refl
