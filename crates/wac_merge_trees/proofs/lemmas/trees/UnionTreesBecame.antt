-- What a resource becomes: at the end of its aliases, and its union's own where its part lists it so.
use Rattle.std.proofs.Common.{◌≡◌, ℕ, zero, suc, ◌<◌, Bool, true, false, not, cond, ◌&&◌, ◌==◌, List, [], ◌∷◌, length, Option, Some, None, is_some, is_none, slice_get, refl, sym, ap, ◌∙◌, subst, arith}
use Rattle.std.proofs.lemmas.Bool.{false≢true, and_from, eq-eqb}
use Rattle.wac_types_shapes.specs.primitives.Name.{Name, find_name, first_some, option_case}
use Rattle.wac_types_shapes.specs.primitives.Tree.{Place, position, named}
use Rattle.wac_types_collection.specs.collection.Collection.{Collection, HasResource, IsWellFormed, interface_mentions, item_at, item_of}
use Rattle.wac_types_collection.specs.collection.Bound.{is_alias, lists_own, own_name}
use Rattle.wac_types_collection.specs.collection.Held.{resolved, source_of}
use Rattle.wac_types_collection.specs.collection.Uses.{IsSound, interface_fault, mention_fault, named_right, unless, uses_fault}
use Rattle.wac_types_collection.specs.declared.collection.collection.AddTypeError.{AddTypeError}
use Rattle.wac_types_collection.specs.declared.collection.collection.AddTypeError.TheVariants as fault
use Rattle.wac_types_collection.specs.declared.collection.collection.Held.{Held}
use Rattle.wac_types_shapes.specs.declared.shapes.component.Interface.{Interface}
use Rattle.wac_types_shapes.specs.declared.shapes.component.InterfaceId.{InterfaceId}
use Rattle.wac_types_shapes.specs.declared.shapes.component.Resource.{Resource}
use Rattle.wac_types_shapes.specs.declared.shapes.component.ResourceId.{ResourceId}
use Rattle.wac_types_shapes.specs.declared.shapes.component.UsedType.{UsedType}
use Rattle.wac_types_shapes.specs.declared.shapes.component.«Type».TheVariants as ty
use Rattle.wac_types_shapes.specs.declared.shapes.component.ItemKind.{ItemKind}
use Rattle.wac_types_shapes.specs.declared.shapes.component.ItemKind.TheVariants as kind
use Rattle.wac_merge_classes.specs.entries.Bindings.{ClassBindings, first_in, path_in}
use Rattle.wac_merge_classes.specs.terms.Became.{AreFresh, IsNew, became, became_in_class, became_outside, became_to, new_at, or_itself, own_in, own_of_part}
use Rattle.wac_merge_classes.specs.entries.Places.{own_resource, resource_itself}
use Rattle.wac_types_collection.specs.private.subtyping.Extended.{IsExtended}
use Rattle.wac_merge_classes.specs.terms.Unions.{is_own_of}
use Rattle.wac_merge_classes.specs.declared.terms.fresh.Fresh.{Fresh}
use Rattle.wac_merge_classes.specs.declared.terms.parts.Part.{Part}
use Rattle.wac_merge_classes.specs.declared.terms.parts.Union.{Union}
use Rattle.wac_merge_trees.proofs.lemmas.trees.UnionTreesOwn.{end_source, own_right, resolved_source, resolved_there}

-- ---- own resources

-- an own resource is listed as such
pub own_lists : (c : Collection) (uses : List (Name × UsedType)) (n : Name) (k : ItemKind) → is_some (own_resource c uses (n, k)) ≡ true → (r : ResourceId) × (lists_own c uses r (n, k) ≡ true)
own_lists c uses n k h = by (find_name uses n) refl h where
  itself : (q : ResourceId) → find_name uses n ≡ None → (b : Bool) → is_alias c q ≡ b → is_some (cond b None (Some q)) ≡ true → (r : ResourceId) × (lists_own c uses r (n, kind.TypeItem (ty.Resource q)) ≡ true)
  itself q unused true alias some = absurd (false≢true some)
  itself q unused false alias some =
      (q, and_from (q.0 == q.0) (not (is_alias c q) && is_none (find_name uses n)) (eq-eqb q.0 q.0 refl) (and_from (not (is_alias c q)) (is_none (find_name uses n)) (ap not alias) (ap is_none unused)))

  item : (l : ItemKind) → find_name uses n ≡ None → is_some (resource_itself c l) ≡ true → (r : ResourceId) × (lists_own c uses r (n, l) ≡ true)
  item (kind.TypeItem (ty.Resource q)) unused some = itself q unused (is_alias c q) refl some
  item l unused some = absurd (false≢true some)

  by : (o : Option UsedType) → find_name uses n ≡ o → is_some (cond (is_some o) None (resource_itself c k)) ≡ true → (r : ResourceId) × (lists_own c uses r (n, k) ≡ true)
  by None unused some = item k unused some
  by (Some u) used some = absurd (false≢true some)

-- what a sound collection's interface lists has the right names
pub sound_names : (c : Collection) → IsSound c → (i : InterfaceId) (it : Interface) → item_at c.interfaces i.0 ≡ Some it → named_right c it.uses it.exports ≡ true
sound_names c sound i it at = by (slice_get c.interfaces i.0) refl at where
  passed : (b : Bool) (e : AddTypeError) → unless b e ≡ None → b ≡ true
  passed true e h = refl
  passed false e h = cc

  later : (o p : Option AddTypeError) → first_some o p ≡ None → p ≡ None
  later None p h = h
  later (Some e) p h = cc

  by : (o : Option (Held Interface)) → slice_get c.interfaces i.0 ≡ o → item_of o ≡ Some it → named_right c it.uses it.exports ≡ true
  by None e is = cc
  by (Some h) e is =
      let same : h.item ≡ it = cc in
      let none : interface_fault c it ≡ None = subst (λ (x : Interface). interface_fault c x ≡ None) same (sound.interfaces i.0 h e) in
      passed (named_right c it.uses it.exports) fault.ResourceMisnamed
      (later (uses_fault c it.uses it.exports) (unless (named_right c it.uses it.exports) fault.ResourceMisnamed)
      (later (mention_fault c (interface_mentions it)) (first_some (uses_fault c it.uses it.exports) (unless (named_right c it.uses it.exports) fault.ResourceMisnamed)) none))

-- the interface of a part lists this resource as its own, and finds it under that name
pub record IsOwnListing (c : Collection) (x : Part) (n : Name) (k : ItemKind) : Type 0 where
  pub resource : ResourceId
  pub uses : List (Name × UsedType)
  pub lists : lists_own c uses resource (n, k) ≡ true
  pub finds : own_of_part c x resource ≡ Some n

pub own_listing : (c : Collection) → IsSound c → (ps : List Part) (p : ℕ) (x : Part) (it : Interface) (n : Name) (k : ItemKind) → slice_get ps p ≡ Some x → item_at c.interfaces x.interface.0 ≡ Some it → find_name it.exports n ≡ Some k
    → is_own_of c ps n (p, k) ≡ true → IsOwnListing c x n k
own_listing c sound ps p x it n k at is found own =
    let some : is_some (own_resource c it.uses (n, k)) ≡ true =
    sym (ap (λ o. option_case o false (λ (y : Part). option_case (item_at c.interfaces y.interface.0) false (λ (z : Interface). is_some (own_resource c z.uses (n, k))))) at
    ∙ ap (λ o. option_case o false (λ (z : Interface). is_some (own_resource c z.uses (n, k)))) is) ∙ own in
    let r = own_lists c it.uses n k some in
    record {
      resource = r.0;
      uses = it.uses;
      lists = r.1;
      finds = ap (λ o. option_case o None (λ (z : Interface). own_name c z.uses z.exports r.0)) is ∙ own_right c it.uses r.0 it.exports n k (sound_names c sound x.interface it is) found r.1;
    }

-- it becomes the union's own
pub became_own : (c : Collection) (ps : List Part) (bs : ClassBindings) (f : Fresh) (p : ℕ) (x : Part) (r : ResourceId) (n : Name) (q : ResourceId) → slice_get ps p ≡ Some x → own_of_part c x r ≡ Some n → own_in f x.union n ≡ Some q
    → became c ps bs f (Some p) r ≡ q
became_own c ps bs f p x r n q at own is =
    ap (λ o. option_case o r (λ (y : Part). option_case (own_of_part c y r) (option_case y.outer (became_in_class bs f y.union r) (λ o. became_to p c ps bs f o r)) (λ m. or_itself r (own_in f y.union m)))) at
    ∙ (ap (λ o. option_case o (option_case x.outer (became_in_class bs f x.union r) (λ o. became_to p c ps bs f o r)) (λ m. or_itself r (own_in f x.union m))) own
    ∙ ap (or_itself r) is)

-- ---- ends of aliases

module _ (c m : Collection) (us : List Union) (ps : List Part) (bs : ClassBindings) (f : Fresh) (fresh : AreFresh c us bs f m) (extended : IsExtended c m) (wf : IsWellFormed c) (wfm : IsWellFormed m) where
  abbrev IsEnd : ResourceId → Type 0
  IsEnd q = source_of (slice_get m.resources q.0) ≡ None

  new_end : (q : ResourceId) (n : Name) → IsNew c m q n → source_of (slice_get m.resources q.0) ≡ None
  new_end q n new = end_source m wfm q new.there new.itself

  either : (r : ResourceId) (o : Option ResourceId) → source_of (slice_get m.resources r.0) ≡ None → ((q : ResourceId) → o ≡ Some q → source_of (slice_get m.resources q.0) ≡ None)
      → source_of (slice_get m.resources (or_itself r o).0) ≡ None
  either r None none some = none
  either r (Some q) none some = some q refl

  place_end : (k : ℕ) (path : List Place) (q : ResourceId) → new_at f k path ≡ Some q → source_of (slice_get m.resources q.0) ≡ None
  place_end k [] q is = let w = fresh.whole k q is in new_end q _ w.2
  place_end k (named n ∷ []) q is = new_end q n (fresh.own k n q is)
  place_end k (position i ∷ []) q is = cc
  place_end k (position i ∷ (y ∷ path)) q is = cc
  place_end k (named n ∷ (y ∷ path)) q is = cc

  module _ (r : ResourceId) (end : source_of (slice_get m.resources r.0) ≡ None) where
    outside_end : source_of (slice_get m.resources (became_outside bs f r).0) ≡ None
    outside_end = by (first_in bs r) where
      by : (o : Option (ℕ × List Place)) → source_of (slice_get m.resources (option_case o r (λ b. or_itself r (new_at f b.0 b.1))).0) ≡ None
      by None = end
      by (Some b) = either r (new_at f b.0 b.1) end (λ q is. place_end b.0 b.1 q is)

    class_end : (k : ℕ) → source_of (slice_get m.resources (became_in_class bs f k r).0) ≡ None
    class_end k = by (path_in bs k r) where
      by : (o : Option (List Place)) → source_of (slice_get m.resources (option_case o (became_outside bs f r) (λ path. or_itself r (new_at f k path))).0) ≡ None
      by None = outside_end
      by (Some path) = either r (new_at f k path) end (λ q is. place_end k path q is)

    part_end : (k p : ℕ) → source_of (slice_get m.resources (became_to k c ps bs f p r).0) ≡ None
    part_end zero p = end
    part_end (suc k) p = by (slice_get ps p) (λ o. part_end k o) where
      around : (x : Part) (o : Option ℕ) → ((o : ℕ) → source_of (slice_get m.resources (became_to k c ps bs f o r).0) ≡ None)
          → source_of (slice_get m.resources (option_case o (became_in_class bs f x.union r) (λ o. became_to k c ps bs f o r)).0) ≡ None
      around x None rest = class_end x.union
      around x (Some o) rest = rest o

      own : (x : Part) (n : Option Name) → ((o : ℕ) → source_of (slice_get m.resources (became_to k c ps bs f o r).0) ≡ None)
          → source_of (slice_get m.resources (option_case n (option_case x.outer (became_in_class bs f x.union r) (λ o. became_to k c ps bs f o r)) (λ n. or_itself r (own_in f x.union n))).0) ≡ None
      own x None rest = around x x.outer rest
      own x (Some n) rest = either r (own_in f x.union n) end (λ q is. new_end q n (fresh.own x.union n q is))

      by : (o : Option Part) → ((o : ℕ) → source_of (slice_get m.resources (became_to k c ps bs f o r).0) ≡ None)
          → source_of (slice_get m.resources (option_case o r (λ x. option_case (own_of_part c x r) (option_case x.outer (became_in_class bs f x.union r) (λ o. became_to k c ps bs f o r)) (λ n. or_itself r (own_in f x.union n)))).0) ≡ None
      by None rest = end
      by (Some x) rest = own x (own_of_part c x r) rest

  kept_source : (r : ResourceId) → HasResource c r → source_of (slice_get c.resources r.0) ≡ None → source_of (slice_get m.resources r.0) ≡ None
  kept_source r low none =
      let h = there c.resources r.0 low in
      ap source_of (extended.kept.resources r.0 h.0 h.1) ∙ (sym (ap source_of h.1) ∙ none)
    where
      there : (xs : List (Held Resource)) (i : ℕ) → i < length xs → (h : Held Resource) × (slice_get xs i ≡ Some h)
      there [] i low = absurd (omega (arith, low))
      there (x ∷ xs) zero low = (x, refl)
      there (x ∷ xs) (suc i) low = there xs i (omega (arith, low))

  -- what the end of a resource's aliases becomes is no alias
  pub became_end : (p : ℕ) (r : ResourceId) → HasResource c r → source_of (slice_get m.resources (became c ps bs f (Some p) (resolved c r)).0) ≡ None
  became_end p r low = part_end (resolved c r) (kept_source (resolved c r) (resolved_there c wf r low) (resolved_source c wf r low)) (suc p) p

  -- so it is outside of all parts
  pub became_end_outside : (r : ResourceId) → HasResource c r → source_of (slice_get m.resources (became c ps bs f None (resolved c r)).0) ≡ None
  became_end_outside r low = outside_end (resolved c r) (kept_source (resolved c r) (resolved_there c wf r low) (resolved_source c wf r low))
