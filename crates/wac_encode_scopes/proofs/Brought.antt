-- A value type that has a name further out is brought in.
use Rattle.std.specs.Prelude.{ℕ, zero, suc, ◌≡◌, ◌⊎◌, ◌<◌, Bool, true, List, [], ◌∷◌, Option, Some, None, if◌then◌else◌, IfSome, false}
use Rattle.std.proofs.Common.{refl, ap, ◌∙◌, sym, subst, arith, ⊎_elim, inl, inr}
use Rattle.std.proofs.lemmas.Bool.{eq-eqb}
use Rattle.wac_types_shapes.specs.primitives.Name.{Name}
use Rattle.wac_types_shapes.specs.declared.shapes.component.DefinedTypeId.{DefinedTypeId}
use Rattle.wac_types_shapes.specs.declared.shapes.component.ValueType.TheVariants as val
use Rattle.wac_types_shapes.specs.declared.shapes.component.«Type».TheVariants as ty
use Rattle.wac_types_collection.specs.collection.Collection.{Collection}
use Rattle.wac_types_collection.specs.collection.Bound.{Bindings}
use Rattle.wac_binary.specs.declared.sorts.Sort.TheVariants as s
use Rattle.wac_binary.specs.Items.{export_alias, outer_alias}
use Rattle.wac_encode_scopes.specs.declared.scope.Scope.{Scope}
use Rattle.wac_encode_scopes.specs.declared.state.State.{State}
use Rattle.wac_encode_scopes.specs.Books.{opened}
use Rattle.wac_encode_scopes.specs.States.{outward, stack, AllAddTypes, Goes, GoesForAll, IsPlace, named_by, named_of, named_in, IsNamedAt, Crosses}
use Rattle.wac_encode_scopes.specs.private.Steps.{ScopeChanges, StateChanges, settled_value, settled_value_from}
use Rattle.wac_encode_stacks.specs.Scopes.{Where, at_type, at_export, How, defined, brought, listed, Indexed, Open, Stack, next_type, with_alias_of, index_at, export_at}
use Rattle.wac_encode_stacks.specs.Good.{At, IsClosed, Good, Onward}
use Rattle.wac_encode_stacks.specs.private.Inside.{changed_at, next_type_at}
use Rattle.wac_encode_stacks.specs.private.Brought.{IsIndexOf, AllPass, KnowsType, KnowsExport, aliased_value, SettlesValueThere, BringsFrom, StillPass}
use Rattle.wac_encode_scopes.proofs.Looked.{exported-there}
use Rattle.wac_encode_scopes.proofs.Stepped.{Added, goes-here, indexed-there}
use Rattle.wac_types_shapes.specs.declared.shapes.component.«Type».{«Type» as AnyType}

-- the value type of a definition
abbrev pub value_of : DefinedTypeId → AnyType
value_of d = ty.Value (val.Defined d)

-- the scope in which it has a name
named-scope : (st : Stack) (d : DefinedTypeId) (k : ℕ) (w : Where) → IsNamedAt st d k w → (o : Open) × At st k o × (named_in d o ≡ Some w)
named-scope [] d k w h = absurd h
named-scope (o ∷ os) d zero w h = (o, refl, h)
named-scope (o ∷ os) d (suc k) w h = named-scope os d k w h.1

settled-value-there : (d : DefinedTypeId) (j : ℕ) (n : Name) (st : Stack) (k : ℕ) → IsNamedAt st d k (at_export j n) → changed_at k (settled_value d) st ≡ changed_at k (aliased_value d j n) st
settled-value-there d j n [] k h = absurd h
settled-value-there d j n (o ∷ os) zero h = ap (λ (w : Option Where). settled_value_from d w o ∷ os) (exported-there d o j n h)
settled-value-there d j n (o ∷ os) (suc k) h = ap (λ (zs : Stack). o ∷ zs) (settled-value-there d j n os k h.1)

by-other : (how : How) (i j m : ℕ) (n : Name) (w : Option Where) → named_by how i w ≡ Some (at_export j n) → named_by how i (Some (at_type m)) ≡ Some (at_type m)
by-other defined i j m n w h = refl
by-other brought i j m n w h = let no_type : Some (at_type i) ≡ Some (at_export j n) = h in cc
by-other listed i j m n w h = let no_type : Some (at_type i) ≡ Some (at_export j n) = h in cc

of-other : (x : Option Indexed) (j m : ℕ) (n : Name) (w : Option Where) → named_of x w ≡ Some (at_export j n) → named_of x (Some (at_type m)) ≡ Some (at_type m)
of-other None j m n w h = refl
of-other (Some x) j m n w h = by-other x.how x.index j m n w h

pub exported-here : (d : DefinedTypeId) (w : Where) (o : Open) → (export_at d w o).exports d ≡ Some w
exported-here d w o = ap (λ b. if b then Some w else o.exports d) (eq-eqb d.0 d.0 refl)

named-settled : (d : DefinedTypeId) (j : ℕ) (n : Name) (st : Stack) (k : ℕ) → IsNamedAt st d k (at_export j n) → IsNamedAt (changed_at k (aliased_value d j n) st) d k (at_type (next_type_at k st))
named-settled d j n [] k h = absurd h
named-settled d j n (o ∷ os) zero h = ap (named_of (o.types (value_of d))) (exported-here d (at_type (next_type o)) (with_alias_of (export_alias s.Type j n) o)) ∙ of-other (o.types (value_of d)) j (next_type o) n (o.exports d) h
named-settled d j n (o ∷ os) (suc k) h = (h.0, named-settled d j n os k h.1)

pub goes-settled-value : SettlesValueThere → (b : Bool) (st t : State) (d : DefinedTypeId) (k j : ℕ) (n : Name) → IsNamedAt (stack b st) d k (at_export j n) → StateChanges b k (settled_value d) st t → AllAddTypes st t → GoesForAll b st t
goes-settled-value law b st t d k j n at step types c = record {
  onward = λ ms good. let o = named-scope (stack b st) d k (at_export j n) at in subst (Onward c ms (stack b st)) (sym (step.0 ∙ settled-value-there d j n (stack b st) k at)) (law c ms (stack b st) k o.0 d j n good o.1 (exported-there d o.0 j n o.2)).0;
  other = step.1;
  types = types;
}

pub named-after : (b : Bool) (st t : State) (d : DefinedTypeId) (k j i : ℕ) (n : Name) → i ≡ next_type_at k (stack b st) → IsNamedAt (stack b st) d k (at_export j n) → StateChanges b k (settled_value d) st t → IsNamedAt (stack b t) d k (at_type i)
named-after b st t d k j i n is at step = subst (λ (m : ℕ). IsNamedAt (stack b t) d k (at_type m)) (sym is) (subst (λ (zs : Stack). IsNamedAt zs d k (at_type (next_type_at k (stack b st)))) (sym (step.0 ∙ settled-value-there d j n (stack b st) k at)) (named-settled d j n (stack b st) k at))

pub crosses-after : StillPass → (is_closed b : Bool) (st t : State) (d : DefinedTypeId) (k : ℕ) → StateChanges b k (settled_value d) st t → Crosses is_closed k (stack b st) → Crosses is_closed k (stack b t)
crosses-after law is_closed b st t d k step h = ⊎_elim (λ closed. inl closed) (λ pass. inr (subst (AllPass k) (sym step.0) (law k (settled_value d) (stack b st) pass))) h

-- what was found, and is no type index
pub named-some : (b is_closed : Bool) (st : State) (d : DefinedTypeId) (o : Option (ℕ × ℕ × Bool)) (out index : ℕ) (is_type : Bool) → ◌≡◌ {A = Option (ℕ × ℕ × Bool)} o (Some (out, index, is_type)) → IfSome o (λ f. (w : Where) × IsNamedAt (stack b st) d f.0 w × IsPlace w f.1 f.2 × Crosses is_closed f.0 (stack b st)) → (w : Where) × IsNamedAt (stack b st) d out w × IsPlace w index is_type × Crosses is_closed out (stack b st)
named-some b is_closed st d o out index is_type is h = subst (λ (x : Option (ℕ × ℕ × Bool)). IfSome x (λ f. (w : Where) × IsNamedAt (stack b st) d f.0 w × IsPlace w f.1 f.2 × Crosses is_closed f.0 (stack b st))) is h

pub named-export : (b is_closed : Bool) (st : State) (d : DefinedTypeId) (out index : ℕ) (is_type : Bool) → is_type ≡ false → (w : Where) × IsNamedAt (stack b st) d out w × IsPlace w index is_type × Crosses is_closed out (stack b st) → (j : ℕ) × (n : Name) × IsNamedAt (stack b st) d out (at_export j n)
named-export b is_closed st d out index is_type is (at_type i, at, place, cross) = let both : true ≡ false = sym place.1 ∙ is in cc
named-export b is_closed st d out index is_type is (at_export j n, at, place, cross) = (j, n, at)

pub named-type : (b is_closed : Bool) (st : State) (d : DefinedTypeId) (out index : ℕ) (is_type : Bool) → is_type ≡ true → (w : Where) × IsNamedAt (stack b st) d out w × IsPlace w index is_type × Crosses is_closed out (stack b st) → IsNamedAt (stack b st) d out (at_type index)
named-type b is_closed st d out index is_type is (at_type i, at, place, cross) = subst (λ (k : ℕ). IsNamedAt (stack b st) d out (at_type k)) (sym place.0) at
named-type b is_closed st d out index is_type is (at_export j n, at, place, cross) = let both : false ≡ true = sym place.1 ∙ is in cc

-- the index of what has a name is the type

by-index : (how : How) (i k : ℕ) (w : Option Where) → named_by how i w ≡ Some (at_type k) → (i ≡ k) ⊎ (w ≡ Some (at_type k))
by-index defined i k w h = inr h
by-index brought i k w h = let same : i ≡ k = cc in inl same
by-index listed i k w h = let same : i ≡ k = cc in inl same

index-named : KnowsType → KnowsExport → (c : Collection) (ms : List Bindings) (st : Stack) (d : DefinedTypeId) (k i : ℕ) → Good c ms st → IsNamedAt st d k (at_type i) → IsIndexOf c ms st k (value_of d) i
index-named type_law export_law c ms st d k i good at = let o = named-scope st d k (at_type i) at in by_entry o.0 o.1 (o.0.types (value_of d)) refl o.2
  where
    by_entry : (o : Open) → At st k o → (x : Option Indexed) → o.types (value_of d) ≡ x → named_of x (o.exports d) ≡ Some (at_type i) → IsIndexOf c ms st k (value_of d) i
    by_entry o there None is h = export_law c ms st k o d i good there h
    by_entry o there (Some x) is h = ⊎_elim (λ same. subst (IsIndexOf c ms st k (value_of d)) same (type_law c ms st k o (value_of d) x good there is)) (λ w. export_law c ms st k o d i good there w) (by-index x.how x.index i (o.exports d) h)

-- one outer alias, with the number of scopes
abbrev pub brought_with : DefinedTypeId → ℕ → ℕ → Open → Open
brought_with d count i o = index_at (value_of d) brought (next_type o) (with_alias_of (outer_alias s.Type count i) o)

pub goes-brought-value : BringsFrom → KnowsType → KnowsExport → (c : Collection) (b is_closed : Bool) (st : State) (here : Scope) (d : DefinedTypeId) (out count i : ℕ) → zero < out → count ≡ out → IsNamedAt (stack b st) d out (at_type i) → Crosses is_closed out (stack b st) → (is_closed ≡ true → IsClosed c (value_of d)) → ScopeChanges b (brought_with d count i) st.here here → Added st.here here → Goes c b st (record st { here = here })
goes-brought-value law type_law export_law c b is_closed st here d zero count i lt same at cross closed step types = absurd (omega (arith, lt))
goes-brought-value law type_law export_law c b is_closed st here d (suc k) count i lt same at cross closed step types = goes-here c b (brought_with d (suc k) i) st here (subst (λ (n : ℕ). ScopeChanges b (brought_with d n i) st.here here) same step) types (λ m ms good. (law c m ms (opened b st.here) (outward b st.around.items) (value_of d) k i good (index-named type_law export_law c (m ∷ ms) (stack b st) d (suc k) i good at) (⊎_elim (λ is. inr (closed is)) (λ pass. inl pass) cross)).0)

pub named-brought : (b : Bool) (u t : Scope) (d : DefinedTypeId) (count i own : ℕ) → own ≡ next_type (opened b u) → ScopeChanges b (brought_with d count i) u t → named_in d (opened b t) ≡ Some (at_type own)
named-brought b u t d count i own is step = ap (λ (x : Option Indexed). named_of x ((opened b t).exports d)) (indexed-there b (value_of d) brought (next_type (opened b u)) (with_alias_of (outer_alias s.Type count i) (opened b u)) (opened b t) step.0) ∙ ap (λ (k : ℕ). Some (at_type k)) (sym is)
