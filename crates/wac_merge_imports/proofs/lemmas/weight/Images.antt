-- What near types became is near what they became, and weighs no more.
use Rattle.std.proofs.Common.{ℕ, zero, suc, ◌+◌, ◌<◌, ◌≤◌, Bool, true, false, if◌then◌else◌, is_some, List, [], ◌∷◌, map, flat_map, length, Contains, Option, Some, None, slice_get, ◌≡◌, ◌⊎◌, inl, inr, refl, ap, sym, ◌∙◌, subst, arith}
use Rattle.std.specs.List.{sum_by}
use Rattle.wac_types_shapes.specs.primitives.Name.{Name, option_case}
use Rattle.wac_types_shapes.specs.declared.shapes.component.DefinedType.{DefinedType}
use Rattle.wac_types_shapes.specs.declared.shapes.component.DefinedType.TheVariants as def
use Rattle.wac_types_shapes.specs.declared.shapes.component.DefinedTypeId.{DefinedTypeId}
use Rattle.wac_types_shapes.specs.declared.shapes.component.FuncType.{FuncType}
use Rattle.wac_types_shapes.specs.declared.shapes.component.FuncTypeId.{FuncTypeId}
use Rattle.wac_types_shapes.specs.declared.shapes.component.ModuleTypeId.{ModuleTypeId}
use Rattle.wac_types_shapes.specs.declared.shapes.component.Resource.{Resource}
use Rattle.wac_types_shapes.specs.declared.shapes.component.ResourceAlias.{ResourceAlias}
use Rattle.wac_types_shapes.specs.declared.shapes.component.ResourceId.{ResourceId}
use Rattle.wac_types_shapes.specs.declared.shapes.component.ValueType.{ValueType}
use Rattle.wac_types_shapes.specs.declared.shapes.component.ValueType.TheVariants as val
use Rattle.wac_types_shapes.specs.declared.shapes.component.«Type».{«Type» as AnyType}
use Rattle.wac_types_shapes.specs.declared.shapes.component.«Type».TheVariants as ty
use Rattle.wac_types_collection.specs.declared.collection.collection.Held.{Held}
use Rattle.wac_types_collection.specs.collection.Collection.{Collection, HasResource, IsWellFormed, alias_types, defined_values, func_values, holds_type, item_at, item_of, resource_mentions, value_types}
use Rattle.wac_types_collection.specs.collection.Bound.{is_alias}
use Rattle.wac_types_collection.specs.collection.Held.{resolved, source_of}
use Rattle.wac_types_collection.specs.reach.Reach.{IsIn, mentions}
use Rattle.wac_types_collection.specs.private.subtyping.Extended.{IsExtended}
use Rattle.wac_types_collection.proofs.lemmas.wide.Members.{in_flat, in_map}
use Rattle.wac_types_weight.specs.Weight.{defined_parts, is_scope, label, module_parts, named_part, named_parts, near_all}
use Rattle.wac_types_weight.specs.Text.{own_text, own_texts}
use Rattle.wac_types_weight.specs.private.Laws.{IsNearClosed}
use Rattle.wac_types_weight.proofs.Near.{covers-resource, from_contains, near_differ, near_holds, to_contains}
use Rattle.wac_types_weight.proofs.Sums.{sum_flat, sum_mapped, sum_same}
use Rattle.wac_merge_classes.specs.terms.Renaming.{AreEnds}
use Rattle.wac_merge_classes.specs.terms.Values.{definition}
use Rattle.wac_merge_classes.specs.terms.Writing.{IsAliasOf}
use Rattle.wac_merge_classes.proofs.lemmas.entries.Opening.{below}
use Rattle.wac_merge_classes.proofs.lemmas.terms.Found.{no_some, some_same}
use Rattle.wac_merge_trees.proofs.lemmas.trees.UnionTreesOwn.{alias_end}
use Rattle.wac_merge_tables.specs.made.Made.{AreThere}
use Rattle.wac_merge_tables.specs.declared.made.made.Made.{Made}
use Rattle.wac_merge_tables.proofs.lemmas.made.Extending.{got, kept_get}
use Rattle.wac_merge_resources.specs.declared.values.named.NamedTypes.{NamedTypes}
use Rattle.wac_merge_resources.specs.renaming.MadeOf.{IsFuncMadeOf, IsMadeOf, alias, anew, any_maybe, any_value, func_outline, outline, plain, plain_value}
use Rattle.wac_merge_resources.proofs.lemmas.renaming.Outlines.{func_outline_many, outline_many}
use Rattle.wac_merge_imports.proofs.lemmas.fitting.FittingOwn.{end-no-alias, itself-no-alias}
use Rattle.wac_merge_imports.proofs.lemmas.fitting.FittingParts.{alias-is-alias}
use Rattle.wac_merge_imports.proofs.lemmas.unions.MadeAlike.{defined-of, end-listed, func-made-once, made-once}
use Rattle.wac_merge_imports.proofs.lemmas.weight.CountedSums.{HasOriginal, sum_images}

-- ---- lists of value types

pub value_in : (vs : List ValueType) (i : ℕ) (v : ValueType) → slice_get vs i ≡ Some v → IsIn (ty.Value v) (value_types vs)
value_in [] i v at = absurd (no_some v at)
value_in (x ∷ vs) zero v at = inl (ap ty.Value (sym (some_same x v at)))
value_in (x ∷ vs) (suc i) v at = inr (value_in vs i v at)

-- A type of the list is that of a value type at a position.
record IsValueAt (vs : List ValueType) (t : AnyType) : Type 0 where
  index : ℕ
  value : ValueType
  at : slice_get vs index ≡ Some value
  is : t ≡ ty.Value value

value_at : (vs : List ValueType) (t : AnyType) → IsIn t (value_types vs) → IsValueAt vs t
value_at [] t h = absurd h
value_at (v ∷ vs) t (inl e) = record { index = zero; value = v; at = refl; is = e }
value_at (v ∷ vs) t (inr h) = let w = value_at vs t h in record { index = suc w.index; value = w.value; at = w.at; is = w.is }

-- ---- outlines have the parts that are counted

same_names : {A : Type 0} (h : Name × A → Name × A) → ((e : Name × A) → (h e).0 ≡ e.0) → (es : List (Name × A)) → named_parts (map h es) ≡ named_parts es
same_names h same es = sum_mapped named_part h es ∙ sum_same (λ e. named_part (h e)) named_part es (λ e there. ap label (same e))

long : {A B : Type 0} (f : A → B) (xs : List A) → length (map f xs) ≡ length xs
long f [] = refl
long f (x ∷ xs) = ap suc (long f xs)

outline_parts : (x : DefinedType) → defined_parts (outline x) ≡ defined_parts x
outline_parts (def.Tuple vs) = long (λ (v : ValueType). any_value) vs
outline_parts (def.List v) = refl
outline_parts (def.FixedSizeList v n) = refl
outline_parts (def.Option v) = refl
outline_parts (def.Result v w) = refl
outline_parts (def.Variant x) = same_names (λ e. (e.0, any_maybe e.1)) (λ e. refl) x.cases
outline_parts (def.Record x) = same_names (λ e. (e.0, any_value)) (λ e. refl) x.fields
outline_parts (def.Flags x) = refl
outline_parts (def.Enum x) = refl
outline_parts (def.Alias v) = refl
outline_parts (def.Stream v) = refl
outline_parts (def.Future v) = refl

parts_alike : (x y : DefinedType) → outline x ≡ outline y → defined_parts x ≡ defined_parts y
parts_alike x y o = sym (outline_parts x) ∙ (ap defined_parts o ∙ outline_parts y)

params_alike : (x y : FuncType) → func_outline x ≡ func_outline y → named_parts x.params ≡ named_parts y.params
params_alike x y o = sym (names x) ∙ (ap (λ (f : FuncType). named_parts f.params) o ∙ names y)
  where
    names : (f : FuncType) → named_parts (func_outline f).params ≡ named_parts f.params
    names f = same_names (λ e. (e.0, any_value)) (λ e. refl) f.params

-- ---- resources that are no aliases

no_alias_of : (o : Option ResourceAlias) → is_some (option_case o None (λ a. Some a.source)) ≡ false → alias_types o ≡ []
no_alias_of None h = refl
no_alias_of (Some a) h = let no : true ≡ false = h in cc

none_mentioned : (c : Collection) (q : ResourceId) → is_alias c q ≡ false → mentions c (ty.Resource q) ≡ []
none_mentioned c q free = by (slice_get c.resources q.0) free
  where
    by : (o : Option (Held Resource)) → is_some (source_of o) ≡ false → option_case (item_of o) [] resource_mentions ≡ []
    by None h = refl
    by (Some h) is = no_alias_of h.item.alias is

resource_text : (c : Collection) (r : ResourceId) → HasResource c r → is_alias c r ≡ false → own_text c (ty.Resource r) ≡ 1
resource_text c r low free =
    let plain : own_text c (ty.Resource r) ≡ option_case (item_at c.resources r.0) 0 (λ x. 1) = ap (λ b. if b then 0 else option_case (item_at c.resources r.0) 0 (λ x. 1)) free in
    plain ∙ there c.resources r.0 low
  where
    there : (xs : List (Held Resource)) (i : ℕ) → i < length xs → ◌≡◌ {A = ℕ} (option_case (item_at xs i) 0 (λ x. 1)) 1
    there xs i low = let h = got xs i low in ap (λ o. option_case (item_of o) 0 (λ x. 1)) h.1

resource_most : (c : Collection) (r : ResourceId) → own_text c (ty.Resource r) ≤ 1
resource_most c r = by (is_alias c r) (item_at c.resources r.0)
  where
    by : (b : Bool) (o : Option Resource) → (if b then 0 else option_case o 0 (λ x. 1)) ≤ 1
    by true o = omega arith
    by false None = omega arith
    by false (Some x) = omega arith

alias_text : (c : Collection) (r : ResourceId) → is_alias c r ≡ true → own_text c (ty.Resource r) ≡ 0
alias_text c r is = ap (λ b. if b then 0 else option_case (item_at c.resources r.0) 0 (λ x. 1)) is

-- ---- images

module _ (c m : Collection) (wf : IsWellFormed c) (wfm : IsWellFormed m) (x : IsExtended c m) (t : NamedTypes) (made : Made) (there : AreThere m made) where
  -- A type became another where resources become others by f.
  abbrev pub Becomes : (ResourceId → ResourceId) → AnyType → AnyType → Type 0
  Becomes f (ty.Value v) (ty.Value w) = IsMadeOf c f t made v w
  Becomes f (ty.Func g) (ty.Func h) = IsFuncMadeOf c m f t made g h
  Becomes f (ty.Resource r) (ty.Resource q) = q ≡ f r
  Becomes f (ty.Module k) (ty.Module l) = k ≡ l
  Becomes f a b = ⊥

  -- it became one
  becomes_once : (f : ResourceId → ResourceId) (a b d : AnyType) → Becomes f a b → Becomes f a d → b ≡ d
  becomes_once f (ty.Value v) (ty.Value w) (ty.Value z) p q = ap ty.Value (made-once c t made f v w z p q)
  becomes_once f (ty.Func e) (ty.Func g) (ty.Func h) p q = ap ty.Func (func-made-once c t made m there f e g h p q)
  becomes_once f (ty.Resource r) (ty.Resource p) (ty.Resource q) e d = ap ty.Resource (e ∙ sym d)
  becomes_once f (ty.Module k) (ty.Module l) (ty.Module n) e d = ap ty.Module (sym e ∙ d)
  becomes_once f (ty.Value v) (ty.Value w) d p q = absurd q
  becomes_once f (ty.Func e) (ty.Func g) d p q = absurd q
  becomes_once f (ty.Resource r) (ty.Resource s) d p q = absurd q
  becomes_once f (ty.Module k) (ty.Module l) d p q = absurd q
  becomes_once f a b d p q = absurd p

  -- A list of types of the first collection, with what these mention. Resources become others that are no aliases.
  pub record IsSource (f : ResourceId → ResourceId) (ds : List AnyType) : Type 0 where
    pub closed : IsNearClosed c ds
    pub held : (a : AnyType) → IsIn a ds → holds_type c a ≡ true
    pub ends : AreEnds c m f

  -- What a type of the list became: a resource that is no alias, or an alias of such, or another type.
  abbrev pub IsImage : (ResourceId → ResourceId) → List AnyType → AnyType → Type 0
  IsImage f ds (ty.Value w) = (v : ValueType) × IsIn (ty.Value v) ds × IsMadeOf c f t made v w
  IsImage f ds (ty.Func h) = (g : FuncTypeId) × IsIn (ty.Func g) ds × IsFuncMadeOf c m f t made g h
  IsImage f ds (ty.Resource q) = (r : ResourceId) × IsIn (ty.Resource r) ds × (is_alias c r ≡ false) × ((q ≡ f r) ⊎ ((n : Name) × IsAliasOf m n (f r) q))
  IsImage f ds (ty.Module k) = IsIn (ty.Module k) ds
  IsImage f ds a = ⊥

  module _ (f : ResourceId → ResourceId) (ds : List AnyType) (source : IsSource f ds) where
    -- the end of a resource
    pub end_in : (r : ResourceId) → IsIn (ty.Resource r) ds → IsIn (ty.Resource (resolved c r)) ds × (is_alias c (resolved c r) ≡ false)
    end_in r h = (
      (covers-resource c ds r (record { closed = source.closed; there = λ is. h })).there refl,
      end-no-alias c wf r (below r.0 (length c.resources) (source.held (ty.Resource r) h)),
    )

    -- what a resource that is no alias became is none
    image_plain : (r : ResourceId) → IsIn (ty.Resource r) ds → is_alias c r ≡ false → is_alias m (f r) ≡ false
    image_plain r h free =
        let low = below r.0 (length c.resources) (source.held (ty.Resource r) h) in
        let itself : resolved c r ≡ r = alias_end c r free in
        let end = source.ends r low in
        subst (λ (s : ResourceId). is_alias m (f s) ≡ false) itself (itself-no-alias m wfm (f (resolved c r)) end.0 end.1)

    -- ---- what an image mentions is an image

    end_image : (r : ResourceId) → IsIn (ty.Resource r) ds → IsImage f ds (ty.Resource (f (resolved c r)))
    end_image r h = let e = end_in r h in (resolved c r, e.0, e.1, inl refl)

    resource_of : (b : AnyType) (q : ResourceId) → IsIn b (ty.Resource q ∷ []) → IsImage f ds (ty.Resource q) → IsImage f ds b
    resource_of b q (inl e) h = subst (IsImage f ds) (sym e) h
    resource_of b q (inr none) h = absurd none

    handle_on : (r : ResourceId) → IsIn (ty.Resource r) ds → (b : AnyType) → IsIn b (ty.Resource (f (resolved c r)) ∷ []) → IsImage f ds b
    handle_on r h b w = resource_of b (f (resolved c r)) w (end_image r h)

    plain_on : (v w : ValueType) → IsIn (ty.Value v) ds → plain_value c f v ≡ Some w → (b : AnyType) → IsIn b (mentions m (ty.Value w)) → is_scope b ≡ false → IsImage f ds b
    plain_on (val.Primitive p) w h is b there free =
        absurd (subst (λ z. IsIn b (mentions m (ty.Value z))) (sym (some_same (val.Primitive p) w is)) there)
    plain_on (val.Own r) w h is b there free =
        handle_on r (source.closed (ty.Value (val.Own r)) (ty.Resource r) h (inl refl) refl) b (subst (λ z. IsIn b (mentions m (ty.Value z))) (sym (some_same (val.Own (f (resolved c r))) w is)) there)
    plain_on (val.Borrow r) w h is b there free =
        handle_on r (source.closed (ty.Value (val.Borrow r)) (ty.Resource r) h (inl refl) refl) b (subst (λ z. IsIn b (mentions m (ty.Value z))) (sym (some_same (val.Borrow (f (resolved c r))) w is)) there)
    plain_on (val.Defined d) w h is b there free = absurd (no_some w is)

    -- a part of a definition of the list is in the list
    part_in : (v : ValueType) (d : DefinedTypeId) (y : DefinedType) (i : ℕ) (r : ValueType) → IsIn (ty.Value v) ds → definition v ≡ Some d → item_at c.defined d.0 ≡ Some y → slice_get (defined_values y) i ≡ Some r → IsIn (ty.Value r) ds
    part_in v d y i r h is at at_r =
        let there : IsIn (ty.Value r) (mentions c (ty.Value (val.Defined d))) = subst (λ o. IsIn (ty.Value r) (option_case o [] (λ z. value_types (defined_values z)))) (sym at) (value_in (defined_values y) i r at_r) in
        source.closed (ty.Value v) (ty.Value r) h (subst (λ z. IsIn (ty.Value r) (mentions c (ty.Value z))) (sym (defined-of v d is)) there) refl

    values_on : (ws : List ValueType) → ((i : ℕ) (b : ValueType) → slice_get ws i ≡ Some b → IsImage f ds (ty.Value b)) → (a : AnyType) → IsIn a (value_types ws) → IsImage f ds a
    values_on ws each a h = let w = value_at ws a h in subst (IsImage f ds) (sym w.is) (each w.index w.value w.at)

    value_on : (v w : ValueType) → IsIn (ty.Value v) ds → IsMadeOf c f t made v w → (b : AnyType) → IsIn b (mentions m (ty.Value w)) → is_scope b ≡ false → IsImage f ds b
    value_on v w h (plain _ _ is) b there_b plainly = plain_on v w h is b there_b plainly
    value_on v w h (alias _ _ d end y p at o rest) b there_b plainly = value_on (val.Defined end) w (part_in v d y 0 (val.Defined end) h p at (end-listed y end o)) rest b there_b plainly
    value_on v w h (anew _ _ d e y z p q at none for out parts) b there_b plainly =
        let (form, named, shape, found) = for in
        let after : item_at m.defined e.0 ≡ Some z = there.defined form e found ∙ ap Some shape in
        let listed : IsIn b (value_types (defined_values z)) =
        subst (λ o. IsIn b (option_case o [] (λ s. value_types (defined_values s)))) after (subst (λ s. IsIn b (mentions m (ty.Value s))) (defined-of w e q) there_b) in
        values_on (defined_values z) (λ i k at_k. let (r, at_r) = outline_many z y out i k at_k in (r, part_in v d y i r h p at at_r, parts i r k at_r at_k)) b listed

    func_on : (g h : FuncTypeId) → IsIn (ty.Func g) ds → IsFuncMadeOf c m f t made g h → (b : AnyType) → IsIn b (mentions m (ty.Func h)) → is_scope b ≡ false → IsImage f ds b
    func_on g h in_ds r b there_b plainly =
        let listed : IsIn b (value_types (func_values r.after)) = subst (λ o. IsIn b (option_case o [] (λ s. value_types (func_values s)))) r.became there_b in
        values_on (func_values r.after) (λ i k at_k.
        let (v, at_v) = func_outline_many r.after r.before r.outlined i k at_k in
        let mentioned : IsIn (ty.Value v) (mentions c (ty.Func g)) = subst (λ o. IsIn (ty.Value v) (option_case o [] (λ s. value_types (func_values s)))) (sym r.is) (value_in (func_values r.before) i v at_v) in
        (v, source.closed (ty.Func g) (ty.Value v) in_ds mentioned refl, r.values i v k at_v at_k)) b listed

    resource_on : (q r : ResourceId) → IsIn (ty.Resource r) ds → is_alias c r ≡ false → (q ≡ f r) ⊎ ((n : Name) × IsAliasOf m n (f r) q) → (b : AnyType) → IsIn b (mentions m (ty.Resource q)) → is_scope b ≡ false → IsImage f ds b
    resource_on q r h free (inl e) b there_b plainly =
        absurd (subst (IsIn b) (ap (λ (s : ResourceId). mentions m (ty.Resource s)) e ∙ none_mentioned m (f r) (image_plain r h free)) there_b)
    resource_on q r h free (inr w) b there_b plainly =
        let listed : IsIn b (ty.Resource (f r) ∷ []) = subst (λ o. IsIn b (option_case o [] resource_mentions)) w.1.is there_b in
        resource_of b (f r) listed (r, h, free, inl refl)

    pub image_on : (a b : AnyType) → IsImage f ds a → IsIn b (mentions m a) → is_scope b ≡ false → IsImage f ds b
    image_on (ty.Value w) b h there_b plainly = value_on h.0 w h.1 h.2 b there_b plainly
    image_on (ty.Func g) b h there_b plainly = func_on h.0 g h.1 h.2 b there_b plainly
    image_on (ty.Resource q) b h there_b plainly = resource_on q h.0 h.1 h.2 h.3 b there_b plainly
    image_on (ty.Module k) b h there_b plainly = absurd there_b
    image_on a b h there_b plainly = absurd h

    -- ---- what an image weighs

    -- The image weighs nothing, or a type of the list became it that weighs as much.
    abbrev pub HasSource : AnyType → Type 0
    HasSource a = (own_text m a ≡ 0) ⊎ ((d : AnyType) × IsIn d ds × Becomes f d a × (own_text m a ≤ own_text c d))

    plain_weight : (v w : ValueType) → plain_value c f v ≡ Some w → own_text m (ty.Value w) ≡ 0
    plain_weight (val.Primitive p) w is = subst (λ z. own_text m (ty.Value z) ≡ 0) (some_same (val.Primitive p) w is) refl
    plain_weight (val.Own r) w is = subst (λ z. own_text m (ty.Value z) ≡ 0) (some_same (val.Own (f (resolved c r))) w is) refl
    plain_weight (val.Borrow r) w is = subst (λ z. own_text m (ty.Value z) ≡ 0) (some_same (val.Borrow (f (resolved c r))) w is) refl
    plain_weight (val.Defined d) w is = absurd (no_some w is)

    defined_weight : (k : Collection) (w : ValueType) (e : DefinedTypeId) (z : DefinedType) → definition w ≡ Some e → item_at k.defined e.0 ≡ Some z → own_text k (ty.Value w) ≡ 1 + defined_parts z
    defined_weight k w e z is at = ap (λ v. own_text k (ty.Value v)) (defined-of w e is) ∙ ap (λ o. option_case o 0 (λ s. 1 + defined_parts s)) at

    value_source : (v w : ValueType) → IsIn (ty.Value v) ds → IsMadeOf c f t made v w → HasSource (ty.Value w)
    value_source v w h (plain _ _ is) = inl (plain_weight v w is)
    value_source v w h (alias _ _ d end y p at o rest) = value_source (val.Defined end) w (part_in v d y 0 (val.Defined end) h p at (end-listed y end o)) rest
    value_source v w h (anew _ _ d e y z p q at none for out parts) =
        let (form, named, shape, found) = for in
        let after : item_at m.defined e.0 ≡ Some z = there.defined form e found ∙ ap Some shape in
        let first = defined_weight c v d y p at in
        let second = defined_weight m w e z q after in
        let same = parts_alike z y out in
        inr (ty.Value v, h, anew v w d e y z p q at none for out parts, omega (arith, first, second, same))

    func_weight : (k : Collection) (g : FuncTypeId) (y : FuncType) → item_at k.funcs g.0 ≡ Some y → own_text k (ty.Func g) ≡ 1 + named_parts y.params
    func_weight k g y at = ap (λ o. option_case o 0 (λ (s : FuncType). 1 + named_parts s.params)) at

    func_source : (g h : FuncTypeId) → IsIn (ty.Func g) ds → IsFuncMadeOf c m f t made g h → HasSource (ty.Func h)
    func_source g h in_ds r =
        let first = func_weight c g r.before r.is in
        let second = func_weight m h r.after r.became in
        let same = params_alike r.after r.before r.outlined in
        inr (ty.Func g, in_ds, r, omega (arith, first, second, same))

    resource_source : (q r : ResourceId) → IsIn (ty.Resource r) ds → is_alias c r ≡ false → (q ≡ f r) ⊎ ((n : Name) × IsAliasOf m n (f r) q) → HasSource (ty.Resource q)
    resource_source q r h free (inr w) = inl (alias_text m q (alias-is-alias m w.0 (f r) q w.1))
    resource_source q r h free (inl e) =
        let low = below r.0 (length c.resources) (source.held (ty.Resource r) h) in
        let one = resource_text c r low free in
        let most = resource_most m q in
        inr (ty.Resource r, h, e, omega (arith, one, most))

    module_kept : (k : ModuleTypeId) → IsIn (ty.Module k) ds → own_text m (ty.Module k) ≡ own_text c (ty.Module k)
    module_kept k h = ap (λ o. option_case (item_of o) 0 (λ s. 1 + module_parts s)) (kept_get c.modules m.modules x.kept.modules k.0 (below k.0 (length c.modules) (source.held (ty.Module k) h)))

    pub image_source : (a : AnyType) → IsImage f ds a → HasSource a
    image_source (ty.Value w) h = value_source h.0 w h.1 h.2
    image_source (ty.Func g) h = func_source h.0 g h.1 h.2
    image_source (ty.Resource q) h = resource_source q h.0 h.1 h.2 h.3
    image_source (ty.Module k) h = let same = module_kept k h in inr (ty.Module k, h, refl, omega (arith, same))
    image_source a h = absurd h

  -- ---- several lists

  module _ (f : ℕ → ResourceId → ResourceId) (ds : ℕ → List AnyType) (ps : List ℕ) (sources : (p : ℕ) → Contains ps p → IsSource (f p) (ds p)) where
    -- An image of a type of one of the lists.
    abbrev pub IsOneImage : AnyType → Type 0
    IsOneImage a = (p : ℕ) × Contains ps p × IsImage (f p) (ds p) a

    abbrev originals : ℕ → List (ℕ × AnyType)
    originals p = map (λ d. (p, d)) (ds p)

    originals_weigh : sum_by (λ (b : ℕ × AnyType). own_text c b.1) (flat_map originals ps) ≡ sum_by (λ p. own_texts c (ds p)) ps
    originals_weigh =
        sum_flat (λ (b : ℕ × AnyType). own_text c b.1) originals ps
        ∙ sum_same (λ p. sum_by (λ (b : ℕ × AnyType). own_text c b.1) (originals p)) (λ p. own_texts c (ds p)) ps (λ p h. sum_mapped (λ (b : ℕ × AnyType). own_text c b.1) (λ d. (p, d)) (ds p))

    -- images of the lists' types, with what they mention, weigh no more than the lists
    pub images_less : (ts : List AnyType) → ((a : AnyType) → IsIn a ts → is_scope a ≡ false → IsOneImage a) → own_texts m (near_all m ts) ≤ sum_by (λ p. own_texts c (ds p)) ps
    images_less ts all =
        let less = sum_images (own_text m) (λ (b : ℕ × AnyType). own_text c b.1) (λ b a. Becomes (f b.0) b.1 a) (λ b a d p q. becomes_once (f b.0) b.1 a d p q) (near_all m ts) (flat_map originals ps) (near_differ m ts) each in
        let weigh = originals_weigh in
        omega (arith, less, weigh)
      where
        on : (a b : AnyType) → IsOneImage a → IsIn b (mentions m a) → is_scope b ≡ false → IsOneImage b
        on a b h there_b plainly = (h.0, h.1, image_on (f h.0) (ds h.0) (sources h.0 h.1) a b h.2 there_b plainly)

        each : (a : AnyType) → Contains (near_all m ts) a → HasOriginal (own_text m) (λ (b : ℕ × AnyType). own_text c b.1) (λ b a. Becomes (f b.0) b.1 a) (λ b a d p q. becomes_once (f b.0) b.1 a d p q) (flat_map originals ps) a
        each a h =
            let w = near_holds m IsOneImage on ts all a (from_contains a (near_all m ts) h) in
            elim (image_source (f w.0) (ds w.0) (sources w.0 w.1) a w.2) [
              | inl none ↦ inl none
              | inr s ↦ inr ((w.0, s.0), in_flat originals ps w.0 (w.0, s.0) w.1 (in_map (λ d. (w.0, d)) (ds w.0) s.0 (to_contains s.0 (ds w.0) s.1)), s.2, s.3)
            ]
