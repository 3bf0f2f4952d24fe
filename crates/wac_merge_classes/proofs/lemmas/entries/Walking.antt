-- What resources are called, as scopes are walked outwards.
use Rattle.std.proofs.Common.{◌≡◌, ℕ, zero, suc, ◌+◌, ◌<◌, Bool, true, false, List, [], ◌∷◌, ◌++◌, take, add-one, ◌⊎◌, inl, inr, length, Option, Some, None, slice_get, get_or, Result, Ok, Err, IfOk, refl, sym, ap, ◌∙◌, subst, arith}
use Rattle.std.proofs.lemmas.Option.{slice_get_read, slice_get_within}
use Rattle.std.proofs.lemmas.List.{length-append}
use Rattle.std.specs.Option.{option_map}
use Rattle.wac_types_shapes.specs.primitives.Name.{Name, option_case, first_some}
use Rattle.wac_types_shapes.specs.primitives.Tree.{Side, Place, Leaf, exported}
use Rattle.wac_types_collection.specs.collection.Collection.{Collection, IsWellFormed, IsSourceBelow, holds_type, item_at, item_of}
use Rattle.wac_types_collection.specs.collection.Held.{Names, resolved, resolved_in, source_of}
use Rattle.wac_types_collection.specs.subtyping.Called.{Called, bound_at, of_class, itself, one_out, resource_name, called_at, own_leaf, or_around}
use Rattle.wac_types_collection.specs.declared.collection.collection.Held.{Held}
use Rattle.wac_types_shapes.specs.declared.shapes.component.Resource.{Resource}
use Rattle.wac_types_shapes.specs.declared.shapes.component.ResourceAlias.{ResourceAlias}
use Rattle.wac_types_shapes.specs.declared.shapes.component.ResourceId.{ResourceId}
use Rattle.wac_types_shapes.specs.declared.shapes.component.Interface.{Interface}
use Rattle.wac_types_shapes.specs.declared.shapes.component.ItemKind.{ItemKind}
use Rattle.wac_types_shapes.specs.declared.shapes.component.ItemKind.TheVariants as kind
use Rattle.wac_merge_classes.specs.declared.entries.scopes.Opener.{Opener}
use Rattle.wac_merge_classes.specs.declared.entries.scopes.Opener.TheVariants as opener
use Rattle.wac_merge_classes.specs.declared.entries.scopes.Scope.{Scope}
use Rattle.wac_merge_classes.specs.declared.entries.outward.Outward.{Outward}
use Rattle.wac_merge_classes.specs.private.entries.Ways.{LeadsOut}
use Rattle.wac_merge_classes.specs.entries.Classes.{Entry, by_names, is_instance}
use Rattle.wac_merge_classes.specs.entries.Binding.{class_binds, binding_class}
use Rattle.wac_merge_classes.specs.entries.Agreement.{called_outside, called_inside}
use Rattle.wac_merge_classes.specs.entries.Scopes.{opener_type, opened_by, binds, ComesFrom, AreScopes, called_in, called_in_root}
use Rattle.wac_merge_classes.specs.entries.Places.{find_resource, leaf_at}
use Rattle.wac_merge_classes.specs.private.entries.Walking.{AreBound, out_by, IsOut, by_first, past}
use Rattle.wac_types_shapes.proofs.lemmas.shapes.Names.{take_at}
use Rattle.wac_merge_classes.proofs.lemmas.entries.Lists.{push-cases}
use Rattle.wac_merge_classes.proofs.lemmas.entries.Opening.{there}
use Rattle.wac_merge_classes.proofs.lemmas.entries.Ways.{behind-below, near-out, called-out, out-again}
use Rattle.wac_merge_classes.proofs.lemmas.entries.ScopeLaws.{called-at-root, called-inside}

some-same : {A : Type 0} (x y : A) → Some x ≡ Some y → x ≡ y
some-same x y e = cc

-- ---- the resource at the end of aliases is held

module _ (c : Collection) (wf : IsWellFormed c) where
  by-alias : (n : ℕ) (r : ResourceId) → ((s : ResourceId) → s.0 < length c.resources → (resolved_in n c s).0 < length c.resources) → r.0 < length c.resources → (a : Option ResourceAlias) → IsSourceBelow r.0 a
      → (option_case (option_case a None (λ x. Some x.source)) r (λ s. resolved_in n c s)).0 < length c.resources
  by-alias n r ih lt None below = lt
  by-alias n r ih lt (Some a) below = ih a.source (omega (arith, lt, below))

  by-held : (n : ℕ) (r : ResourceId) → ((s : ResourceId) → s.0 < length c.resources → (resolved_in n c s).0 < length c.resources) → r.0 < length c.resources → (o : Option (Held Resource)) → slice_get c.resources r.0 ≡ o
      → (option_case (source_of o) r (λ s. resolved_in n c s)).0 < length c.resources
  by-held n r ih lt None at = lt
  by-held n r ih lt (Some h) at = by-alias n r ih lt h.item.alias (wf.sources r.0 h at)

  end-held : (n : ℕ) (r : ResourceId) → r.0 < length c.resources → (resolved_in n c r).0 < length c.resources
  end-held zero r lt = lt
  end-held (suc n) r lt = by-held n r (λ s h. end-held n s h) lt (slice_get c.resources r.0) refl

  pub resolved-held : (r : ResourceId) → r.0 < length c.resources → (resolved c r).0 < length c.resources
  resolved-held r lt = end-held (length c.resources) r lt

-- ---- how far out

out-none : (x : Called) → x ≡ out_by 0 x
out-none (bound_at l name) = let e : l.out ≡ l.out + 0 = omega arith in ap (λ k. bound_at (record { out = k; side = l.side; path = l.path }) name) e
out-none (of_class k path name) = refl
out-none (itself r name) = refl

kept : (o : Option Called) → o ≡ option_map (out_by 0) o
kept None = refl
kept (Some x) = ap (λ y. Some y) (out-none x)

module _ (c : Collection) (r : ResourceId) where
  out-past : (n : ℕ) (instance : Bool) (p : Option (List Place)) (f : Option (ℕ × List Place)) → out_by n (past c r instance 0 p f) ≡ past c r instance n p f
  out-past n true (Some path) f = let e : 0 + n ≡ n = omega arith in ap (λ k. bound_at (record { out = k; side = exported; path = path }) (resource_name c r)) e
  out-past n true None (Some f) = refl
  out-past n true None None = refl
  out-past n false p (Some f) = refl
  out-past n false p None = refl

  -- ---- in the outermost scope

  instance-past : (p : Option (List Place)) (f : Option (ℕ × List Place))
      → first_some (option_case p None (λ path. Some (called_at c r (record { out = 0; side = exported; path = path })))) (Some (option_case f (itself r (resource_name c r)) (λ b. of_class b.0 b.1 (resource_name c r)))) ≡ Some (past c r true 0 p f)
  instance-past (Some path) f = refl
  instance-past None (Some b) = refl
  instance-past None None = refl

  first-called : (f : Option (ℕ × List Place)) → option_case f (itself r (resource_name c r)) (λ b. of_class b.0 b.1 (resource_name c r)) ≡ by_first c r f
  first-called (Some b) = refl
  first-called None = refl

  other-past : (p : Option (List Place)) (f : Option (ℕ × List Place)) → Some (one_out (option_case f (itself r (resource_name c r)) (λ b. of_class b.0 b.1 (resource_name c r)))) ≡ Some (past c r false 0 p f)
  other-past p (Some b) = refl
  other-past p None = refl

  -- outside
  pub outside-first : (es : List Entry) → called_outside by_names c es r ≡ Some (by_first c r (binding_class by_names c es r))
  outside-first es = ap (λ x. Some x) (first-called (binding_class by_names c es r))

  module _ (es : List Entry) (name : Name) where
    instance-bound : (l : Leaf) (o : Option Interface) → option_case o None (λ x. own_leaf c x r) ≡ Some l → option_case o None (λ x. called_inside by_names c es name x r) ≡ Some (called_at c r l)
    instance-bound l None h = cc
    instance-bound l (Some x) h =
        ap (λ here. first_some (option_case here None (λ k. Some (called_at c r k)))
        (first_some (option_case (class_binds by_names c es name r) None (λ path. Some (called_at c r (record { out = 0; side = exported; path = path })))) (called_outside by_names c es r))) h

    instance-none : (x : Interface) → own_leaf c x r ≡ None → called_inside by_names c es name x r ≡ Some (past c r true 0 (class_binds by_names c es name r) (binding_class by_names c es r))
    instance-none x h =
        ap (λ here. first_some (option_case here None (λ k. Some (called_at c r k)))
        (first_some (option_case (class_binds by_names c es name r) None (λ path. Some (called_at c r (record { out = 0; side = exported; path = path })))) (called_outside by_names c es r))) h
        ∙ instance-past (class_binds by_names c es name r) (binding_class by_names c es r)

    around-past : (here : Option Leaf) → here ≡ None → or_around c here (called_outside by_names c es) r ≡ Some (past c r false 0 (class_binds by_names c es name r) (binding_class by_names c es r))
    around-past here h = ap (λ x. or_around c x (called_outside by_names c es) r) h ∙ other-past (class_binds by_names c es name r) (binding_class by_names c es r)

    around-bound : (here : Option Leaf) (l : Leaf) → here ≡ Some l → or_around c here (called_outside by_names c es) r ≡ Some (called_at c r l)
    around-bound here l h = ap (λ x. or_around c x (called_outside by_names c es) r) h

    one-opener : (x o : Opener) (j : ℕ) → slice_get (x ∷ []) j ≡ Some o → x ≡ o
    one-opener x o zero at = some-same x o at
    one-opener x o (suc j) at = cc

    root-bound : (k : ItemKind) (o : Opener) (j : ℕ) (l : Leaf) → slice_get (opened_by k) j ≡ Some o → binds c o r ≡ Some l → called_in_root by_names c es name k o r ≡ Some (called_at c r l)
    root-bound (kind.Instance i) o j l at h = instance-bound l (item_at c.interfaces i.0) (ap (λ x. binds c x r) (one-opener (opener.Interface i) o j at) ∙ h)
    root-bound (kind.TypeItem t) o j l at h = around-bound (binds c o r) l h
    root-bound (kind.Func f) o j l at h = around-bound (binds c o r) l h
    root-bound (kind.Component w) o j l at h = around-bound (binds c o r) l h
    root-bound (kind.Module m) o j l at h = around-bound (binds c o r) l h
    root-bound (kind.Value v) o j l at h = around-bound (binds c o r) l h

    held-past : (i : ℕ) (h : Held Interface) → slice_get c.interfaces i ≡ Some h → option_case (item_at c.interfaces i) None (λ x. own_leaf c x r) ≡ None
        → option_case (item_at c.interfaces i) None (λ x. called_inside by_names c es name x r) ≡ Some (past c r true 0 (class_binds by_names c es name r) (binding_class by_names c es r))
    held-past i h at none =
        ap (λ x. option_case (item_of x) None (λ it. called_inside by_names c es name it r)) at
        ∙ instance-none h.item (sym (ap (λ x. option_case (item_of x) None (λ it. own_leaf c it r)) at) ∙ none)

    root-past : (k : ItemKind) (o : Opener) (j : ℕ) → slice_get (opened_by k) j ≡ Some o → holds_type c (opener_type o) ≡ true → binds c o r ≡ None
        → called_in_root by_names c es name k o r ≡ Some (past c r (is_instance k) 0 (class_binds by_names c es name r) (binding_class by_names c es r))
    root-past (kind.Instance i) o j at held h =
        let is = one-opener (opener.Interface i) o j at in
        let w = there c.interfaces i.0 (ap (λ x. holds_type c (opener_type x)) is ∙ held) in
        held-past i.0 w.0 w.1 (ap (λ x. binds c x r) is ∙ h)
    root-past (kind.TypeItem t) o j at held h = around-past (binds c o r) h
    root-past (kind.Func f) o j at held h = around-past (binds c o r) h
    root-past (kind.Component w) o j at held h = around-past (binds c o r) h
    root-past (kind.Module m) o j at held h = around-past (binds c o r) h
    root-past (kind.Value v) o j at held h = around-past (binds c o r) h

  -- ---- the walk

  pub walk-start : (ss : List Scope) (start : ℕ) → IsOut c ss start 0 start r
  walk-start ss start = record { near = omega arith; same = λ root. kept (called_in c root ss start r) }

  module _ (k : ItemKind) (ss : List Scope) (are : AreScopes c (opened_by k) ss) (start out position : ℕ) (s : Scope) (at : slice_get ss position ≡ Some s) (was : IsOut c ss start out position r) where
    pub walk-out : (bs : List (List (ResourceId × Leaf))) (w : Outward) → AreBound c ss bs → LeadsOut ss bs s.parent (Some w) → binds c s.opener r ≡ None → IsOut c ss start (out + w.out) w.position r
    walk-out bs w bound way none =
        let step = near-out ss bs are.around s.parent (Some w) way w refl in
        let below = behind-below position s.parent (are.around position s at) in
        record {
          near = omega (arith, step.near, below, was.near);
          same = λ root. was.same root
              ∙ (ap (λ o. option_map (out_by out) o) (called-out c (opened_by k) ss are bs bound r root position s w at way none)
              ∙ out-again out w.out (called_in c root ss w.position r));
        }

    pub walk-nearer : (bs : List (List (ResourceId × Leaf))) (w : Outward) → LeadsOut ss bs s.parent (Some w) → w.position < position
    walk-nearer bs w way =
        let step = near-out ss bs are.around s.parent (Some w) way w refl in
        let below = behind-below position s.parent (are.around position s at) in
        omega (arith, step.far, step.near, below)

    module _ (es : List Entry) (name : Name) where
      abbrev root : Opener → Names Called
      root = called_in_root by_names c es name k

      bound-here : (l : Leaf) → binds c s.opener r ≡ Some l → (o : Option ℕ) → s.parent ≡ o → called_in c root ss position r ≡ Some (called_at c r l)
      bound-here l h None outer =
          let from : ComesFrom c (opened_by k) ss position s.opener None = subst (ComesFrom c (opened_by k) ss position s.opener) outer (are.known position s at) in
          called-at-root c (opened_by k) ss are root position s r at outer ∙ root-bound es name k s.opener position l from h
      bound-here l h (Some p) outer = called-inside c (opened_by k) ss are root position p s r at outer ∙ ap (λ x. or_around c x (called_in c root ss p) r) h

      -- a scope that binds it
      pub walk-bound : (side : Side) (path : List Place) → binds c s.opener r ≡ Some (leaf_at side path)
          → called_in c root ss start r ≡ Some (bound_at (record { out = out; side = side; path = path }) (resource_name c r))
      walk-bound side path h =
          let e : 0 + out ≡ out = omega arith in
          was.same root ∙ (ap (λ o. option_map (out_by out) o) (bound-here (leaf_at side path) h s.parent refl)
          ∙ ap (λ n. Some (bound_at (record { out = n; side = side; path = path }) (resource_name c r))) e)

      -- past the outermost scope
      pub walk-past : s.parent ≡ None → binds c s.opener r ≡ None
          → called_in c root ss start r ≡ Some (past c r (is_instance k) out (class_binds by_names c es name r) (binding_class by_names c es r))
      walk-past outer none =
          let from : ComesFrom c (opened_by k) ss position s.opener None = subst (ComesFrom c (opened_by k) ss position s.opener) outer (are.known position s at) in
          was.same root ∙ (ap (λ o. option_map (out_by out) o)
          (called-at-root c (opened_by k) ss are root position s r at outer ∙ root-past es name k s.opener position from (are.held position s at) none)
          ∙ ap (λ x. Some x) (out-past out (is_instance k) (class_binds by_names c es name r) (binding_class by_names c es r)))

-- ---- answers

pub if-ok : {A E : Type 0} {P Q : A → Type 0} (x : Result A E) → ((a : A) → P a → Q a) → IfOk x P → IfOk x Q
if-ok (Ok a) f h = f a h
if-ok (Err e) f h = h

-- what the scope at a position binds
pub bound-at : (c : Collection) (ss : List Scope) (bs : List (List (ResourceId × Leaf))) → AreBound c ss bs → (i : ℕ) (s : Scope) (b : List (ResourceId × Leaf)) (r : ResourceId) → slice_get ss i ≡ Some s → b ≡ get_or bs i b
    → binds c s.opener r ≡ find_resource b r
bound-at c ss bs are i s b r at read =
    let within : i < length bs = let lt = slice_get_within ss i s at in omega (arith, lt, are.counted) in
    sym (are.found i s b at (slice_get_read bs (length bs) i b refl within read) r)

-- one more scope, and what it binds
pub bound-more : (c : Collection) (ss : List Scope) (bs : List (List (ResourceId × Leaf))) (i : ℕ) (s : Scope) (b : List (ResourceId × Leaf)) → AreBound c (take i ss) bs → slice_get ss i ≡ Some s
    → ((r : ResourceId) → find_resource b r ≡ binds c s.opener r) → AreBound c (take (i + 1) ss) (bs ++ b ∷ [])
bound-more c ss bs i s b are at finds = rw (add-one, take_at ss i s at) (record {
  counted = omega (arith, length-append bs (b ∷ []), length-append (take i ss) (s ∷ []), are.counted);
  found = λ j t d here there. both j t d (push-cases (take i ss) s j t here) (push-cases bs b j d there);
}) where
  both : (j : ℕ) (t : Scope) (d : List (ResourceId × Leaf)) → (slice_get (take i ss) j ≡ Some t) ⊎ ((j ≡ length (take i ss)) × (t ≡ s)) → (slice_get bs j ≡ Some d) ⊎ ((j ≡ length bs) × (d ≡ b))
      → (r : ResourceId) → find_resource d r ≡ binds c t.opener r
  both j t d (inl x) (inl y) r = are.found j t d x y r
  both j t d (inl x) (inr y) r = absurd (let lt = slice_get_within (take i ss) j t x in omega (arith, lt, y.0, are.counted))
  both j t d (inr x) (inl y) r = absurd (let lt = slice_get_within bs j d y in omega (arith, lt, x.0, are.counted))
  both j t d (inr x) (inr y) r = ap (λ m. find_resource m r) y.1 ∙ (finds r ∙ ap (λ (u : Scope). binds c u.opener r) (sym x.1))
