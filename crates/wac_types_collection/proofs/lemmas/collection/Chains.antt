-- Chains of aliases.
use Rattle.std.proofs.Common.{ℕ, zero, suc, true, ◌≡◌, ◌<◌, refl, ap, sym, subst, Option, Some, None, arith, slice_get}
use Rattle.wac_types_shapes.specs.primitives.Name.{option_case}
use Rattle.wac_types_collection.specs.declared.collection.collection.Held.{Held}
use Rattle.wac_types_shapes.specs.declared.shapes.component.Resource.{Resource}
use Rattle.wac_types_shapes.specs.declared.shapes.component.ResourceAlias.{ResourceAlias}
use Rattle.wac_types_shapes.specs.declared.shapes.component.ResourceId.{ResourceId}
use Rattle.wac_types_shapes.specs.declared.shapes.component.DefinedType.{DefinedType}
use Rattle.wac_types_shapes.specs.declared.shapes.component.DefinedType.TheVariants as def
use Rattle.wac_types_shapes.specs.declared.shapes.component.DefinedTypeId.{DefinedTypeId}
use Rattle.wac_types_shapes.specs.declared.shapes.component.ValueType.{ValueType}
use Rattle.wac_types_shapes.specs.declared.shapes.component.ValueType.TheVariants as val
use Rattle.wac_types_collection.specs.collection.Collection.{Collection, IsWellFormed, IsSourceBelow, IsValueBefore, AddedBefore, AreBefore, holds_value, defined_mentions, item_of}
use Rattle.wac_types_collection.specs.collection.Held.{resolved_in, source_of}
use Rattle.wac_types_collection.specs.collection.Aliases.{aliased, target_of, value_resolved_in}
use Rattle.wac_types_collection.proofs.lemmas.collection.Growth.{value_more, value_within, added_within}

-- an option by its cases: what holds of both, and what two answers agree on
pub case_by : {A B : Type 0} (P : B → Type 0) (o : Option A) (z : B) (f : A → B) → (o ≡ None → P z) → ((a : A) → o ≡ Some a → P (f a)) → P (option_case o z f)
case_by P None z f none some = none refl
case_by P (Some a) z f none some = some a refl

pub case_same : {A B : Type 0} (o : Option A) (z : B) (f g : A → B) → ((a : A) → o ≡ Some a → f a ≡ g a) → option_case o z f ≡ option_case o z g
case_same None z f g same = refl
case_same (Some a) z f g same = same a refl

-- a resource that is no alias is its own end
pub resource_ends : (n : ℕ) (c : Collection) (r : ResourceId) → source_of (slice_get c.resources r.0) ≡ None → resolved_in n c r ≡ r
resource_ends zero c r none = refl
resource_ends (suc n) c r none = ap (λ o. option_case o r (λ source. resolved_in n c source)) none

pub value_ends : (n : ℕ) (c : Collection) (v : ValueType) → target_of c v ≡ None → value_resolved_in n c v ≡ v
value_ends zero c v none = refl
value_ends (suc n) c v none = ap (λ o. option_case o v (λ target. value_resolved_in n c target)) none

-- a definition that is another name for a type is an alias of it
pub alias_is : (x : DefinedType) (t : ValueType) → aliased x ≡ Some t → x ≡ def.Alias t
alias_is (def.Alias v) t h = let e : v ≡ t = cc in ap def.Alias e
alias_is _ t h = cc

-- what an alias says of its target
pub record Leads (c : Collection) (v t : ValueType) : Type 0 where
  pub from_held : holds_value c v ≡ true
  pub to_held : holds_value c t ≡ true
  pub earlier : (n : ℕ) → IsValueBefore c (suc n) v → IsValueBefore c n t

defined_leads : (c : Collection) → IsWellFormed c → (d : DefinedTypeId) (t : ValueType) (o : Option (Held DefinedType)) → slice_get c.defined d.0 ≡ o → option_case (item_of o) None aliased ≡ Some t → Leads c (val.Defined d) t
defined_leads c wf d t None at some = cc
defined_leads c wf d t (Some h) at some =
    let P : DefinedType → Type 0 = λ x. AreBefore c h.before (defined_mentions x) in
    let before : IsValueBefore c h.before t = (subst P (alias_is h.item t some) (wf.defined d.0 h at).1).0 in
    record {
      from_held = added_within (suc h.before) c.defined d.0 (let Q : Option (Held DefinedType) → Type 0 = AddedBefore (suc h.before) in subst Q (sym at) (omega arith));
      to_held = value_within c h.before t before;
      earlier = λ n b.
          let Q : Option (Held DefinedType) → Type 0 = AddedBefore (suc n) in
          let lt : h.before < suc n = subst Q at b in
          value_more c h.before n t (omega (arith, lt)) before;
    }

pub leads : (c : Collection) → IsWellFormed c → (v t : ValueType) → target_of c v ≡ Some t → Leads c v t
leads c wf (val.Defined d) t some = defined_leads c wf d t _ refl some
leads c wf _ t some = cc

none_first : {A : Type 0} (o : Option (Held A)) → AddedBefore zero o → ⊥
none_first None b = b
none_first (Some h) b = omega (arith, b)

-- the first item is no alias
pub first_ends : (c : Collection) → IsWellFormed c → (v t : ValueType) → IsValueBefore c zero v → target_of c v ≡ Some t → ⊥
first_ends c wf (val.Defined d) t b some = none_first _ b
first_ends c wf _ t b some = cc

pub no_target : (c : Collection) → IsWellFormed c → (v : ValueType) → (holds_value c v ≡ true → IsValueBefore c zero v) → (o : Option ValueType) → target_of c v ≡ o → target_of c v ≡ None
no_target c wf v early None e = e
no_target c wf v early (Some t) e = absurd (first_ends c wf v t (early (leads c wf v t e).from_held) e)

-- what is at the end of a chain from what is held is held
pub end_held : (c : Collection) → IsWellFormed c → (n : ℕ) (v : ValueType) → holds_value c v ≡ true → holds_value c (value_resolved_in n c v) ≡ true
end_held c wf zero v held = held
end_held c wf (suc n) v held = case_by (λ x. holds_value c x ≡ true) (target_of c v) v (value_resolved_in n c) (λ none. held) (λ t e. end_held c wf n t (leads c wf v t e).to_held)

-- the source of an alias of a resource is before it
pub source_below : (c : Collection) → IsWellFormed c → (r q : ResourceId) (o : Option (Held Resource)) → slice_get c.resources r.0 ≡ o → source_of o ≡ Some q → q.0 < r.0
source_below c wf r q None at e = cc
source_below c wf r q (Some h) at e = by h.item.alias (wf.sources r.0 h at) e
  where
    by : (a : Option ResourceAlias) → IsSourceBelow r.0 a → option_case a None (λ x. Some x.source) ≡ Some q → q.0 < r.0
    by None b e = cc
    by (Some a) b e = let same : a.source ≡ q = cc in let i = ap (λ x. x.0) same in omega (arith, b, i)
