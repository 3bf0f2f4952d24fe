-- The ends of aliases, as the collection grows.
use Rattle.std.proofs.Common.{ℕ, zero, suc, Bool, true, false, List, [], ◌∷◌, ◌++◌, ◌≡◌, ◌<◌, ◌≤◌, ◌+◌, ◌-◌, ◌==◌, length, set, refl, ap, sym, ◌∙◌, subst, Option, Some, None, arith, nat_lt, slice_get, inl, inr}
use Rattle.std.proofs.Math.ListN.{get_or}
use Rattle.std.proofs.lemmas.Bool.{cases_Bool, eqb-true, false≢true}
use Rattle.std.proofs.lemmas.Bool.Decides.{Decides-eqb, not_from_Decides}
use Rattle.std.proofs.lemmas.Option.{slice_get_past, slice_get_within}
use Rattle.std.proofs.lemmas.List.{get_or_past, get_or_default, get_or_append_left, get_or-append_right, get_or-set_same, get_or-set_other}
use Rattle.wac_types_shapes.specs.primitives.Name.{option_case}
use Rattle.wac_types_shapes.specs.shapes.Named.{NoNameTwice}
use Rattle.wac_types_collection.specs.declared.collection.collection.Held.{Held}
use Rattle.wac_types_shapes.specs.declared.shapes.component.Resource.{Resource}
use Rattle.wac_types_shapes.specs.declared.shapes.component.ResourceId.{ResourceId}
use Rattle.wac_types_shapes.specs.declared.shapes.component.ResourceAlias.{ResourceAlias}
use Rattle.wac_types_shapes.specs.declared.shapes.component.FuncType.{FuncType}
use Rattle.wac_types_shapes.specs.declared.shapes.component.Interface.{Interface}
use Rattle.wac_types_shapes.specs.declared.shapes.component.World.{World}
use Rattle.wac_types_shapes.specs.declared.shapes.core_types.ModuleType.{ModuleType}
use Rattle.wac_types_collection.specs.collection.Uses.{interface_fault, world_fault}
use Rattle.wac_types_shapes.specs.declared.shapes.component.DefinedType.{DefinedType}
use Rattle.wac_types_shapes.specs.declared.shapes.component.DefinedType.TheVariants as def
use Rattle.wac_types_shapes.specs.declared.shapes.component.DefinedTypeId.{DefinedTypeId}
use Rattle.wac_types_shapes.specs.declared.shapes.component.ValueType.{ValueType}
use Rattle.wac_types_shapes.specs.declared.shapes.component.ValueType.TheVariants as val
use Rattle.wac_types_collection.specs.collection.Collection.{Collection, size, IsWellFormed, IsKeptBy, IsValueBefore, holds_value, holds_all, resource_mentions, defined_mentions, alias_types, value_types, func_mentions, with_resource, with_defined, with_func, with_interface, with_world, with_module, item_of}
use Rattle.wac_types_collection.specs.collection.Held.{resolved, resolved_in, source_of}
use Rattle.wac_types_collection.specs.collection.Aliases.{aliased, target_of, value_resolved, value_resolved_in}
use Rattle.wac_types_collection.specs.private.collection.Ends.{AreEnds, HasEnds, end_at}
use Rattle.wac_types_collection.proofs.lemmas.collection.Growth.{added, get_where, get_new, longer, keeps_resource, keeps_defined, keeps_func, keeps_interface, keeps_world, keeps_module, value_before}
use Rattle.wac_types_collection.proofs.lemmas.collection.Steady.{within, resource_same, resource_same_in, value_same, value_same_in}
use Rattle.wac_types_collection.proofs.lemmas.collection.Adding.{resource_lawful, defined_lawful, func_lawful, interface_lawful, world_lawful, module_lawful}
use Rattle.wac_types_collection.proofs.lemmas.collection.Chains.{case_by, leads, no_target, end_held, source_below, resource_ends, value_ends, alias_is}

is_less : (i n : ℕ) → i < n → nat_lt i n ≡ true
is_less i n h = grind arith

pub past : (i n : ℕ) → false ≡ nat_lt i n → n ≤ i
past i n h = grind arith

-- what is not held is its own end
unheld_value : (c : Collection) (i : ℕ) → length c.defined ≤ i → value_resolved c (val.Defined (record { 0 = i })) ≡ val.Defined (record { 0 = i })
unheld_value c i le = value_ends (size c) c (val.Defined (record { 0 = i })) (ap (λ o. option_case (item_of o) None aliased) (slice_get_past c.defined i le))

module _ (c d : Collection) (wf : IsWellFormed c) (g : IsKeptBy c d) (rs : List ResourceId) (vs : List ValueType) (are : AreEnds c rs vs) where
  old_resource : (i : ℕ) (e : ResourceId) → slice_get rs i ≡ Some e → e ≡ resolved d (record { 0 = i })
  old_resource i e is =
      let lt = slice_get_within rs i e is in
      are.resource_end i e is ∙ sym (resource_same c d wf g (record { 0 = i }) (is_less i (length c.resources) (omega (arith, lt, are.resources_counted))))

  -- a definition that is not added has the end that it had
  old_value : (i : ℕ) → (length c.defined ≤ i → length d.defined ≤ i) → end_at vs i ≡ value_resolved d (val.Defined (record { 0 = i }))
  old_value i not = are.value_end i ∙ elim (cases_Bool (nat_lt i (length c.defined))) [
    | inl t ↦ sym (value_same c d wf g (val.Defined (record { 0 = i })) t)
    | inr f ↦ let p = past i (length c.defined) (sym f) in unheld_value c i p ∙ sym (unheld_value d i (not p))
  ]

  -- where neither a resource nor a definition is added
  pub ends_stay : length d.resources ≡ length c.resources → length d.defined ≡ length c.defined → AreEnds d rs vs
  ends_stay same also = record {
    resources_counted = are.resources_counted ∙ sym same;
    resource_end = old_resource;
    value_end = λ i. old_value i (λ p. omega (arith, p, also));
  }

-- the end of a new resource
abbrev pub new_end : Collection → ℕ → Option ResourceAlias → ResourceId
new_end c n None = record { 0 = n }
new_end c n (Some a) = resolved c a.source

new_resource_by : (c d : Collection) (wf : IsWellFormed c) (g : IsKeptBy c d) (r : ResourceId) (a : Option ResourceAlias) → holds_all c (alias_types a) ≡ true
    → new_end c r.0 a ≡ option_case (option_case a None (λ x. Some x.source)) r (λ q. resolved_in (length c.resources) d q)
new_resource_by c d wf g r None held = refl
new_resource_by c d wf g r (Some a) held =
    let low : nat_lt a.source.0 (length c.resources) ≡ true = grind arith in
    let lt = within _ _ low in
    sym (resource_same_in c d wf g (length c.resources) (length c.resources) a.source lt lt lt)

pub resource_ends_pushed : (c : Collection) (x : Resource) → IsWellFormed c → holds_all c (resource_mentions x) ≡ true → (rs : List ResourceId) (vs : List ValueType) (e : ResourceId) → AreEnds c rs vs
    → e ≡ new_end c (length c.resources) x.alias → AreEnds (with_resource c x) (rs ++ e ∷ []) vs
resource_ends_pushed c x wf held rs vs e are is = record {
  resources_counted = omega (arith, longer rs e, longer c.resources (added c x), are.resources_counted);
  resource_end = λ i f at. elim (get_where rs e i f at) [
    | inl old ↦ old_resource c d wf g rs vs are i f old
    | inr new ↦ sym new.1 ∙ is ∙ end i (new.0 ∙ are.resources_counted)
  ];
  value_end = λ i. old_value c d wf g rs vs are i (λ p. p);
} where
  d : Collection
  d = with_resource c x

  g : IsKeptBy c d
  g = keeps_resource c x

  end : (i : ℕ) → i ≡ length c.resources → new_end c (length c.resources) x.alias ≡ resolved d (record { 0 = i })
  end i at =
      let r : ResourceId = record { 0 = length c.resources } in
      new_resource_by c d wf g r x.alias held
      ∙ sym (ap (λ n. resolved_in n d r) (longer c.resources (added c x)) ∙ ap (λ o. option_case (source_of o) r (λ q. resolved_in (length c.resources) d q)) (get_new c.resources (added c x)))
      ∙ sym (ap (λ n. resolved d (record { 0 = n })) at)

-- the end of a new definition
abbrev pub new_value_end : Collection → ℕ → Option ValueType → ValueType
new_value_end c n None = val.Defined (record { 0 = n })
new_value_end c n (Some v) = value_resolved c v

new_value_by : (c d : Collection) (wf : IsWellFormed c) (g : IsKeptBy c d) (x : DefinedType) (v : ValueType) (n : ℕ) (o : Option ValueType) → aliased x ≡ o → holds_all c (defined_mentions x) ≡ true
    → v ≡ val.Defined (record { 0 = n }) → new_value_end c n o ≡ option_case o v (λ t. value_resolved_in (size c) d t)
new_value_by c d wf g x v n None at held is = sym is
new_value_by c d wf g x v n (Some t) at held is =
    let same : holds_all c (defined_mentions x) ≡ holds_all c (value_types (t ∷ [])) = ap (λ y. holds_all c (defined_mentions y)) (alias_is x t at) in
    let all : holds_all c (value_types (t ∷ [])) ≡ true = sym same ∙ held in
    let here : holds_value c t ≡ true = grind arith in
    let b = value_before c wf t here in
    sym (value_same_in c d wf g (size c) (size c) t b b)

pub defined_ends_kept : (c : Collection) (x : DefinedType) → IsWellFormed c → holds_all c (defined_mentions x) ≡ true → (rs : List ResourceId) (vs es : List ValueType) → AreEnds c rs vs
    → ((i : ℕ) → (i ≡ length c.defined → ⊥) → end_at es i ≡ end_at vs i) → end_at es (length c.defined) ≡ new_value_end c (length c.defined) (aliased x) → AreEnds (with_defined c x) rs es
defined_ends_kept c x wf held rs vs es are others is = record {
  resources_counted = are.resources_counted;
  resource_end = old_resource c d wf g rs vs are;
  value_end = λ i. elim (cases_Bool (i == length c.defined)) [
    | inl t ↦ let at = eqb-true i (length c.defined) t in ap (end_at es) at ∙ is ∙ end i at
    | inr f ↦
        let other = not_from_Decides _ (Decides-eqb i (length c.defined)) f in
        others i other ∙ old_value c d wf g rs vs are i (λ p. omega (arith, p, other, count))
  ];
} where
  d : Collection
  d = with_defined c x

  g : IsKeptBy c d
  g = keeps_defined c x

  count : length d.defined ≡ suc (length c.defined)
  count = longer c.defined (added c x)

  end : (i : ℕ) → i ≡ length c.defined → new_value_end c (length c.defined) (aliased x) ≡ value_resolved d (val.Defined (record { 0 = i }))
  end i at =
      let v : ValueType = val.Defined (record { 0 = length c.defined }) in
      let more : size d ≡ suc (size c) = omega (arith, count) in
      new_value_by c d wf g x v (length c.defined) _ refl held refl
      ∙ sym (ap (λ n. value_resolved_in n d v) more ∙ ap (λ o. option_case (option_case (item_of o) None aliased) v (λ t. value_resolved_in (size c) d t)) (get_new c.defined (added c x)))
      ∙ sym (ap (λ n. value_resolved d (val.Defined (record { 0 = n }))) at)

-- what is at the end is no alias
end_in : (c : Collection) → IsWellFormed c → (n : ℕ) (v : ValueType) → IsValueBefore c n v → target_of c (value_resolved_in n c v) ≡ None
end_in c wf zero v b = no_target c wf v (λ h. b) _ refl
end_in c wf (suc n) v b = case_by (λ x. target_of c x ≡ None) (target_of c v) v (value_resolved_in n c) (λ none. none) (λ t e. end_in c wf n t ((leads c wf v t e).earlier n b))

pub end_no_alias : (c : Collection) → IsWellFormed c → (v : ValueType) → (b : Bool) → holds_value c v ≡ b → target_of c (value_resolved c v) ≡ None
end_no_alias c wf v true h = end_in c wf (size c) v (value_before c wf v h)
end_no_alias c wf v false h =
    let none = no_target c wf v (λ t. absurd (false≢true (sym h ∙ t))) _ refl in
    ap (target_of c) (value_ends (size c) c v none) ∙ none

pub end_is_held : (c : Collection) → IsWellFormed c → (v : ValueType) → (b : Bool) → holds_value c v ≡ b → holds_value c (value_resolved c v) ≡ holds_value c v
end_is_held c wf v true h = end_held c wf (size c) v h ∙ sym h
end_is_held c wf v false h =
    let none = no_target c wf v (λ t. absurd (false≢true (sym h ∙ t))) _ refl in
    ap (holds_value c) (value_ends (size c) c v none)

-- a resource that is held, and no alias
abbrev IsSource : Collection → ResourceId → Type 0
IsSource c r = (r.0 < length c.resources) × (source_of (slice_get c.resources r.0) ≡ None)

-- what is at the end of the aliases of a resource is held, and no alias
source_in : (c : Collection) → IsWellFormed c → (n : ℕ) (r : ResourceId) → r.0 < n → r.0 < length c.resources → IsSource c (resolved_in n c r)
source_in c wf zero r below lt = absurd (omega (arith, below))
source_in c wf (suc n) r below lt = case_by (IsSource c) (source_of (slice_get c.resources r.0)) r (resolved_in n c) (λ none. (lt, none))
    (λ q e. let less = source_below c wf r q _ refl e in source_in c wf n q (omega (arith, less, below)) (omega (arith, less, lt)))

unheld_resource : (c : Collection) (r : ResourceId) → nat_lt r.0 (length c.resources) ≡ false → source_of (slice_get c.resources r.0) ≡ None
unheld_resource c r h = ap source_of (slice_get_past c.resources r.0 (past r.0 (length c.resources) (sym h)))

pub resource_end_no_alias : (c : Collection) → IsWellFormed c → (r : ResourceId) → (b : Bool) → nat_lt r.0 (length c.resources) ≡ b → source_of (slice_get c.resources (resolved c r).0) ≡ None
resource_end_no_alias c wf r true h = let lt = within r.0 (length c.resources) h in (source_in c wf (length c.resources) r lt lt).1
resource_end_no_alias c wf r false h =
    let none = unheld_resource c r h in
    ap (λ q. source_of (slice_get c.resources q.0)) (resource_ends (length c.resources) c r none) ∙ none

pub resource_end_is_held : (c : Collection) → IsWellFormed c → (r : ResourceId) → (b : Bool) → nat_lt r.0 (length c.resources) ≡ b → nat_lt (resolved c r).0 (length c.resources) ≡ nat_lt r.0 (length c.resources)
resource_end_is_held c wf r true h = let lt = within r.0 (length c.resources) h in is_less _ _ (source_in c wf (length c.resources) r lt lt).0 ∙ sym h
resource_end_is_held c wf r false h = ap (λ q. nat_lt q.0 (length c.resources)) (resource_ends (length c.resources) c r (unheld_resource c r h))

pub no_alias : (x : DefinedType) → ((v : ValueType) → x ≡ def.Alias v → ⊥) → aliased x ≡ None
no_alias (def.Alias v) not = absurd (not v refl)
no_alias _ not = refl

-- what is no definition is its own end
pub plain_value : (c : Collection) (v : ValueType) → ((d : DefinedTypeId) → v ≡ val.Defined d → ⊥) → v ≡ value_resolved c v
plain_value c (val.Defined d) not = absurd (not d refl)
plain_value c v not = sym (value_ends (size c) c v refl)

-- the list after an item is added
counted : {A : Type 0} (c s : Collection) (x : A) (n : ℕ) (xs ys : List (Held A)) → c ≡ s → n ≡ size s → ys ≡ xs ++ record { item = x; before = n } ∷ [] → xs ++ added c x ∷ [] ≡ ys
counted c s x n xs ys same at is = sym (is ∙ ap (λ k. xs ++ record { item = x; before = k } ∷ []) (at ∙ sym (ap size same)))

-- the fields after an item is added
pub resource_kept : (c s : Collection) (x : Resource) (n : ℕ) (xs : List (Held Resource)) (rs es : List ResourceId) (vs : List ValueType) (e : ResourceId) → HasEnds c rs vs → c ≡ s → n ≡ size s
    → holds_all s (resource_mentions x) ≡ true → xs ≡ c.resources ++ record { item = x; before = n } ∷ [] → es ≡ rs ++ e ∷ [] → e ≡ new_end s (length s.resources) x.alias
    → HasEnds (record c { resources = xs }) es vs
resource_kept c s x n xs rs es vs e has same at held is more end =
    let here : holds_all c (resource_mentions x) ≡ true = ap (λ y. holds_all y (resource_mentions x)) same ∙ held in
    let last : e ≡ new_end c (length c.resources) x.alias = end ∙ sym (ap (λ y. new_end y (length y.resources) x.alias) same) in
    let ends = subst (λ (qs : List ResourceId). AreEnds (with_resource c x) qs vs) (sym more) (resource_ends_pushed c x has.lawful.ordered here rs vs e has.ends last) in
    subst (λ (ys : List (Held Resource)). HasEnds (record c { resources = ys }) es vs) (counted c s x n c.resources xs same at is) (record { lawful = resource_lawful c has.lawful x here; ends = ends })

pub defined_kept : (c s : Collection) (x : DefinedType) (n : ℕ) (xs : List (Held DefinedType)) (rs : List ResourceId) (vs es : List ValueType) → HasEnds c rs vs → c ≡ s → n ≡ size s
    → holds_all s (defined_mentions x) ≡ true → xs ≡ c.defined ++ record { item = x; before = n } ∷ [] → ((i : ℕ) → (i ≡ length c.defined → ⊥) → end_at es i ≡ end_at vs i)
    → end_at es (length c.defined) ≡ new_value_end s (length s.defined) (aliased x) → HasEnds (record c { defined = xs }) rs es
defined_kept c s x n xs rs vs es has same at held is others end =
    let here : holds_all c (defined_mentions x) ≡ true = ap (λ y. holds_all y (defined_mentions x)) same ∙ held in
    let last : end_at es (length c.defined) ≡ new_value_end c (length c.defined) (aliased x) = end ∙ sym (ap (λ y. new_value_end y (length y.defined) (aliased x)) same) in
    let ends = defined_ends_kept c x has.lawful.ordered here rs vs es has.ends others last in
    subst (λ (ys : List (Held DefinedType)). HasEnds (record c { defined = ys }) rs es) (counted c s x n c.defined xs same at is) (record { lawful = defined_lawful c has.lawful x here; ends = ends })

-- the end of what is not yet held
pub own_end_before : (c : Collection) (rs : List ResourceId) (vs : List ValueType) (n : ℕ) → HasEnds c rs vs → length c.defined ≡ n → end_at vs (length c.defined) ≡ val.Defined (record { 0 = n })
own_end_before c rs vs n has at = has.ends.value_end (length c.defined) ∙ unheld_value c (length c.defined) (omega arith) ∙ ap (λ k. val.Defined (record { 0 = k })) at

-- an alias's end is put in the place of its own: no other end changes
pub end_others : (vs ws : List ValueType) (n k : ℕ) (e : ValueType) → ((i : ℕ) → end_at ws i ≡ end_at vs i) → n ≡ k → (i : ℕ) → (i ≡ k → ⊥) → end_at (set ws n e) i ≡ end_at vs i
end_others vs ws n k e same at i other = get_or-set_other ws n i e (val.Defined (record { 0 = i })) (λ h. other (h ∙ at)) ∙ same i

pub end_put : (ws : List ValueType) (n k : ℕ) (e : ValueType) → n ≡ k → n < length ws → end_at (set ws n e) k ≡ e
end_put ws n k e at low = ap (λ j. end_at (set ws n e) j) (sym at) ∙ get_or-set_same ws n e (val.Defined (record { 0 = n })) low

-- a definition put behind the ends is its own, as it was before
pub own_end : (vs : List ValueType) (i : ℕ) → end_at (vs ++ val.Defined (record { 0 = length vs }) ∷ []) i ≡ end_at vs i
own_end vs i = elim (cases_Bool (nat_lt i (length vs))) [
  | inl t ↦ get_or_append_left vs (val.Defined (record { 0 = length vs }) ∷ []) (val.Defined (record { 0 = i })) i (within i (length vs) t)
  | inr f ↦
      let p = past i (length vs) (sym f) in
      get_or-append_right vs (val.Defined (record { 0 = length vs }) ∷ []) (length vs) i (val.Defined (record { 0 = i })) refl p ∙ own i (i - length vs) (omega (arith, p)) ∙ sym (get_or_past vs i (val.Defined (record { 0 = i })) p)
]
  where
    own : (j k : ℕ) → j ≡ length vs + k → get_or (val.Defined (record { 0 = length vs }) ∷ []) k (val.Defined (record { 0 = j })) ≡ val.Defined (record { 0 = j })
    own j zero at = ap (λ n. val.Defined (record { 0 = n })) (let e : length vs ≡ j = omega (arith, at) in e)
    own j (suc k) at = refl

pub definition_there : (c s : Collection) (rs : List ResourceId) (vs ws : List ValueType) (i : ℕ) (e : ValueType) → HasEnds c rs vs → c ≡ s → ws ≡ vs → true ≡ nat_lt i (length ws) → e ≡ get_or ws i e → e ≡ value_resolved s (val.Defined (record { 0 = i }))
definition_there c s rs vs ws i e has same read low is =
    is ∙ get_or_default ws i e (val.Defined (record { 0 = i })) (within i (length ws) (sym low)) ∙ ap (λ xs. end_at xs i) read ∙ has.ends.value_end i ∙ ap (λ x. value_resolved x (val.Defined (record { 0 = i }))) same

pub definition_past : (c s : Collection) (rs : List ResourceId) (vs ws : List ValueType) (i : ℕ) → HasEnds c rs vs → c ≡ s → ws ≡ vs → length ws ≤ i → val.Defined (record { 0 = i }) ≡ value_resolved s (val.Defined (record { 0 = i }))
definition_past c s rs vs ws i has same read past =
    sym (get_or_past ws i (val.Defined (record { 0 = i })) past) ∙ ap (λ xs. end_at xs i) read ∙ has.ends.value_end i ∙ ap (λ x. value_resolved x (val.Defined (record { 0 = i }))) same

pub func_kept : (c s : Collection) (x : FuncType) (n : ℕ) (xs : List (Held FuncType)) (rs : List ResourceId) (vs : List ValueType) → HasEnds c rs vs → c ≡ s → n ≡ size s → holds_all s (func_mentions x) ≡ true
    → xs ≡ c.funcs ++ record { item = x; before = n } ∷ [] → HasEnds (record c { funcs = xs }) rs vs
func_kept c s x n xs rs vs has same at held is =
    let ends = ends_stay c (with_func c x) has.lawful.ordered (keeps_func c x) rs vs has.ends refl refl in
    subst (λ (ys : List (Held FuncType)). HasEnds (record c { funcs = ys }) rs vs) (counted c s x n c.funcs xs same at is) (record { lawful = func_lawful c has.lawful x (ap (λ y. holds_all y (func_mentions x)) same ∙ held); ends = ends })

pub interface_kept : (c s : Collection) (x : Interface) (n : ℕ) (xs : List (Held Interface)) (rs : List ResourceId) (vs : List ValueType) → HasEnds c rs vs → c ≡ s → n ≡ size s → interface_fault s x ≡ None → NoNameTwice x.exports
    → xs ≡ c.interfaces ++ record { item = x; before = n } ∷ [] → HasEnds (record c { interfaces = xs }) rs vs
interface_kept c s x n xs rs vs has same at held once is =
    let ends = ends_stay c (with_interface c x) has.lawful.ordered (keeps_interface c x) rs vs has.ends refl refl in
    subst (λ (ys : List (Held Interface)). HasEnds (record c { interfaces = ys }) rs vs) (counted c s x n c.interfaces xs same at is) (record { lawful = interface_lawful c has.lawful x (ap (λ y. interface_fault y x) same ∙ held) once; ends = ends })

pub world_kept : (c s : Collection) (x : World) (n : ℕ) (xs : List (Held World)) (rs : List ResourceId) (vs : List ValueType) → HasEnds c rs vs → c ≡ s → n ≡ size s → world_fault s x ≡ None → NoNameTwice x.imports × NoNameTwice x.exports
    → xs ≡ c.worlds ++ record { item = x; before = n } ∷ [] → HasEnds (record c { worlds = xs }) rs vs
world_kept c s x n xs rs vs has same at held once is =
    let ends = ends_stay c (with_world c x) has.lawful.ordered (keeps_world c x) rs vs has.ends refl refl in
    subst (λ (ys : List (Held World)). HasEnds (record c { worlds = ys }) rs vs) (counted c s x n c.worlds xs same at is) (record { lawful = world_lawful c has.lawful x (ap (λ y. world_fault y x) same ∙ held) once; ends = ends })

pub module_kept : (c s : Collection) (x : ModuleType) (n : ℕ) (xs : List (Held ModuleType)) (rs : List ResourceId) (vs : List ValueType) → HasEnds c rs vs → c ≡ s → n ≡ size s
    → xs ≡ c.modules ++ record { item = x; before = n } ∷ [] → HasEnds (record c { modules = xs }) rs vs
module_kept c s x n xs rs vs has same at is =
    let ends = ends_stay c (with_module c x) has.lawful.ordered (keeps_module c x) rs vs has.ends refl refl in
    subst (λ (ys : List (Held ModuleType)). HasEnds (record c { modules = ys }) rs vs) (counted c s x n c.modules xs same at is) (record { lawful = module_lawful c has.lawful x; ends = ends })
