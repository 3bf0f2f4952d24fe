-- What is written stays written from step to step, and what a type that may be written is made of may be written.
use Rattle.std.specs.Prelude.{ℕ, zero, suc, ◌≡◌, Bool, true, List, [], ◌∷◌, Option, Some, None, slice_get, Result, Ok, Err, IfSome, IfOk, OnOk}
use Rattle.std.proofs.Common.{refl, ap, ◌∙◌, sym, subst}
use Rattle.wac_types_shapes.specs.primitives.Name.{option_case}
use Rattle.wac_types_shapes.specs.primitives.Tree.{absent, own, borrow, primitive}
use Rattle.wac_types_shapes.specs.declared.primitives.component.PrimitiveType.{PrimitiveType}
use Rattle.wac_types_shapes.specs.declared.shapes.component.DefinedType.{DefinedType}
use Rattle.wac_types_shapes.specs.declared.shapes.component.DefinedTypeId.{DefinedTypeId}
use Rattle.wac_types_shapes.specs.declared.shapes.component.ResourceId.{ResourceId}
use Rattle.wac_types_shapes.specs.declared.shapes.component.ValueType.{ValueType}
use Rattle.wac_types_shapes.specs.declared.shapes.component.ValueType.TheVariants as val
use Rattle.wac_types_shapes.specs.declared.shapes.component.«Type».{«Type» as AnyType}
use Rattle.wac_types_shapes.specs.declared.shapes.component.«Type».TheVariants as ty
use Rattle.wac_types_collection.specs.collection.Collection.{Collection, IsWellFormed, HasDefined, item_at}
use Rattle.wac_types_collection.specs.collection.Aliases.{target_of, value_resolved}
use Rattle.wac_types_collection.specs.collection.Held.{resolved, resolved_in, source_of}
use Rattle.wac_types_collection.specs.collection.Bound.{Bindings, held_tree}
use Rattle.wac_binary.specs.declared.types.ComponentValType.{ComponentValType}
use Rattle.wac_binary.specs.declared.types.ComponentValType.TheVariants.{Primitive, Index}
use Rattle.wac_encode_stacks.specs.Scopes.{Where, at_type, How, defined, brought, listed, Indexed}
use Rattle.wac_encode_stacks.specs.Good.{Holds, IsHeld, IsClosed, top, innermost}
use Rattle.wac_encode_stacks.specs.private.Parts.{Is}
use Rattle.wac_encode_stacks.specs.private.Laws.{StaysIs, IsRecorded, IsExported, StandsRecorded, IsItsEnd}
use Rattle.wac_encode_stacks.specs.private.Brought.{GoodOnce}
use Rattle.wac_encode_stacks.specs.private.HeldParts.{HoldsParts, HandlesAreBound}
use Rattle.wac_encode_stacks.proofs.Aliases.{end-held}
use Rattle.wac_encode_stacks.proofs.Values.{primitive-held}
use Rattle.wac_encode_scopes.specs.declared.state.State.{State}
use Rattle.wac_encode_scopes.specs.declared.closed.ClosedTypes.{ClosedTypes}
use Rattle.wac_encode_scopes.specs.Books.{opened}
use Rattle.wac_encode_scopes.specs.States.{outward, stack, IsNamedAt, Crosses, named_by, named_of, named_in, Goes, IsBound, IsRecordedAt, IsTypeAt}
use Rattle.wac_encode_scopes.specs.private.Closed.{is_closed_in, SaysClosed}
use Rattle.wac_encode_scopes.specs.private.Parts.{parts}
use Rattle.wac_encode_scopes.proofs.PartLists.{part-in}
use Rattle.wac_encode_values.specs.private.Values.{IsReady, IsWrittenAs, HasName, IsByName}
use Rattle.wac_encode_values.specs.private.Parts.{IsFound, IsFoundByName, IsNameFirst, MaybeWrittenAs, CanBegin}
use Rattle.wac_encode_values.specs.declared.task.Part.{Part}
use Rattle.wac_encode_values.specs.declared.task.Part.TheVariants.{Written, Missing}

abbrev value_of : DefinedTypeId → AnyType
value_of d = ty.Value (val.Defined d)

-- from step to step

pub ready-on : (c : Collection) (b : Bool) (s s' : State) (a : AnyType) → Goes c b s s' → IsReady c b s a → IsReady c b s' a
ready-on c b s s' a g r = (r.0, (g.onward r.0 r.1).0, r.2)

pub written-on : GoodOnce → StaysIs → (c : Collection) (b : Bool) (s s' : State) (a : AnyType) (v : ValueType) (x : ComponentValType) → IsReady c b s a → Goes c b s s' → IsWrittenAs c b s v x → IsWrittenAs c b s' v x
written-on once stays c b s s' a v x r g w ns good =
    let on = g.onward r.0 r.1 in
    subst (λ (ms : List Bindings). Is c (top ms) (innermost (stack b s')) (ty.Value v) x) (once c r.0 ns (stack b s') on.0 good) (stays c r.0 (stack b s) (stack b s') (ty.Value v) x on (w r.0 r.1))

pub maybe-on : GoodOnce → StaysIs → (c : Collection) (b : Bool) (s s' : State) (a : AnyType) → IsReady c b s a → Goes c b s s' → (p : Option ValueType) (q : Option ComponentValType) → MaybeWrittenAs c b s p q → MaybeWrittenAs c b s' p q
maybe-on once stays c b s s' a r g None None w = tt
maybe-on once stays c b s s' a r g (Some v) (Some x) w = written-on once stays c b s s' a v x r g w
maybe-on once stays c b s s' a r g None (Some x) w = absurd w
maybe-on once stays c b s s' a r g (Some v) None w = absurd w

-- parts, and what aliases end at

pub ready-end : (c : Collection) → IsWellFormed c → (b : Bool) (s : State) (v w : ValueType) → w ≡ value_resolved c v → IsReady c b s (ty.Value v) → IsReady c b s (ty.Value w)
ready-end c wf b s v w is r = subst (λ (u : ValueType). IsReady c b s (ty.Value u)) (sym is) (r.0, r.1, (r.2.0, end-held c wf (top r.0) v r.2.0 r.2.1))

pub ready-part : HoldsParts → (c : Collection) → IsWellFormed c → (b : Bool) (s : State) (d : DefinedTypeId) (x : DefinedType) (k : ℕ) (v : ValueType) → item_at c.defined d.0 ≡ Some x → slice_get (parts x) k ≡ Some (Some v) → IsReady c b s (value_of d) → IsReady c b s (ty.Value v)
ready-part law c wf b s d x k v at part r = (r.0, r.1, part-in (λ u. Holds c (top r.0) (ty.Value u)) x k v (law c wf (top r.0) d x at r.2) part)

pub written-end : IsItsEnd → (c : Collection) → IsWellFormed c → (b : Bool) (s : State) (v w : ValueType) (x : ComponentValType) → w ≡ value_resolved c v → IsWrittenAs c b s w x → IsWrittenAs c b s v x
written-end law c wf b s v w x is h ms good = let i = h ms good in (i.0, law c wf (top ms) v i.0 (subst (λ (u : ValueType). IsHeld c (top ms) (ty.Value u) i.0) is i.1), i.2)

-- what is recorded in the innermost scope

pub recorded-written : IsRecorded → (c : Collection) (b : Bool) (s : State) (v : ValueType) (how : How) (i : ℕ) → IsRecordedAt b s (ty.Value v) how i → IsWrittenAs c b s v (Index i)
recorded-written law c b s v how i at [] good = absurd good
recorded-written law c b s v how i at (m ∷ ms) good = law c m ms (opened b s.here) (outward b s.around.items) v (record { index = i; how = how }) good at

-- by an index that a look-up gave
pub indexed-written : IsRecorded → (c : Collection) (b : Bool) (s : State) (v : ValueType) (o : Option ℕ) (i : ℕ) → o ≡ Some i → IfSome o (λ k. (how : How) × IsRecordedAt b s (ty.Value v) how k) → IsWrittenAs c b s v (Index i)
indexed-written law c b s v o i is h = let at = subst (λ (x : Option ℕ). IfSome x (λ k. (how : How) × IsRecordedAt b s (ty.Value v) how k)) is h in recorded-written law c b s v at.0 i at.1

pub maybe-indexed-written : IsRecorded → (c : Collection) (b : Bool) (s : State) (v : ValueType) (o : Option ℕ) → IfSome o (λ k. (how : How) × IsRecordedAt b s (ty.Value v) how k) → IfSome o (λ k. IsWrittenAs c b s v (Index k))
maybe-indexed-written law c b s v None h = tt
maybe-indexed-written law c b s v (Some i) h = recorded-written law c b s v h.0 i h.1

pub type-at : StandsRecorded → (c : Collection) (b : Bool) (s : State) (a : AnyType) (how : How) (i : ℕ) → IsRecordedAt b s a how i → IsTypeAt c b s a i
type-at law c b s a how i at [] good = absurd good
type-at law c b s a how i at (m ∷ ms) good = law c m ms (opened b s.here) (outward b s.around.items) a (record { index = i; how = how }) good at

pub named-written : IsRecorded → IsExported → (c : Collection) (b : Bool) (s : State) (d : DefinedTypeId) (i : ℕ) → named_in d (opened b s.here) ≡ Some (at_type i) → IsWrittenAs c b s (val.Defined d) (Index i)
named-written law export c b s d i named [] good = absurd good
named-written law export c b s d i named (m ∷ ms) good = by_entry ((opened b s.here).types (value_of d)) refl named
  where
    by_how : (k : ℕ) (how : How) → (opened b s.here).types (value_of d) ≡ Some (record { index = k; how = how }) → named_by how k ((opened b s.here).exports d) ≡ Some (at_type i) → Is c m (innermost (stack b s)) (value_of d) (Index i)
    by_how k defined at h = export c m ms (opened b s.here) (outward b s.around.items) d i good h
    by_how k brought at h = let same : k ≡ i = cc in subst (λ (n : ℕ). Is c m (innermost (stack b s)) (value_of d) (Index n)) same (law c m ms (opened b s.here) (outward b s.around.items) (val.Defined d) (record { index = k; how = brought }) good at)
    by_how k listed at h = let same : k ≡ i = cc in subst (λ (n : ℕ). Is c m (innermost (stack b s)) (value_of d) (Index n)) same (law c m ms (opened b s.here) (outward b s.around.items) (val.Defined d) (record { index = k; how = listed }) good at)

    by_entry : (o : Option Indexed) → (opened b s.here).types (value_of d) ≡ o → named_of o ((opened b s.here).exports d) ≡ Some (at_type i) → Is c m (innermost (stack b s)) (value_of d) (Index i)
    by_entry None at h = export c m ms (opened b s.here) (outward b s.around.items) d i good h
    by_entry (Some x) at h = by_how x.index x.how at h

-- handles

resolved-none : (n : ℕ) (c : Collection) (r : ResourceId) → source_of (slice_get c.resources r.0) ≡ None → resolved_in n c r ≡ r
resolved-none zero c r e = refl
resolved-none (suc n) c r e = ap (λ (o : Option ResourceId). option_case o r (λ source. resolved_in n c source)) e

pub end-itself : (c : Collection) (r : ResourceId) → source_of (slice_get c.resources r.0) ≡ None → resolved c r ≡ r
end-itself c r e = resolved-none _ c r e

own-end : (c : Collection) (m : Bindings) (r e : ResourceId) → e ≡ resolved c r → resolved c e ≡ e → held_tree c m (ty.Value (val.Own r)) ≡ held_tree c m (ty.Value (val.Own e))
unfolding held_tree
own-end c m r e is end = ap (λ (q : ResourceId). option_case (m q) absent own) (sym is ∙ sym end)

borrow-end : (c : Collection) (m : Bindings) (r e : ResourceId) → e ≡ resolved c r → resolved c e ≡ e → held_tree c m (ty.Value (val.Borrow r)) ≡ held_tree c m (ty.Value (val.Borrow e))
unfolding held_tree
borrow-end c m r e is end = ap (λ (q : ResourceId). option_case (m q) absent borrow) (sym is ∙ sym end)

pub own-written : (c : Collection) (b : Bool) (s : State) (r e : ResourceId) (x : ComponentValType) → e ≡ resolved c r → source_of (slice_get c.resources e.0) ≡ None → IsWrittenAs c b s (val.Own e) x → IsWrittenAs c b s (val.Own r) x
own-written c b s r e x is end h ms good = let i = h ms good in (i.0, (λ f m' k. own-end c m' r e is (end-itself c e end) ∙ i.1 f m' k), i.2)

pub borrow-written : (c : Collection) (b : Bool) (s : State) (r e : ResourceId) (x : ComponentValType) → e ≡ resolved c r → source_of (slice_get c.resources e.0) ≡ None → IsWrittenAs c b s (val.Borrow e) x → IsWrittenAs c b s (val.Borrow r) x
borrow-written c b s r e x is end h ms good = let i = h ms good in (i.0, (λ f m' k. borrow-end c m' r e is (end-itself c e end) ∙ i.1 f m' k), i.2)

pub own-bound : HandlesAreBound → (c : Collection) (b : Bool) (s : State) (r e : ResourceId) → e ≡ resolved c r → IsReady c b s (ty.Value (val.Own r)) → IsBound b s e
own-bound law c b s r e is h = let l = (law c (top h.0) r).0 h.2 in (c, h.0, l.0, h.1, subst (λ (q : ResourceId). top h.0 q ≡ Some l.0) (sym is) l.1)

pub borrow-bound : HandlesAreBound → (c : Collection) (b : Bool) (s : State) (r e : ResourceId) → e ≡ resolved c r → IsReady c b s (ty.Value (val.Borrow r)) → IsBound b s e
borrow-bound law c b s r e is h = let l = (law c (top h.0) r).1 h.2 in (c, h.0, l.0, h.1, subst (λ (q : ResourceId). top h.0 q ≡ Some l.0) (sym is) l.1)

-- value types that are found

pub primitive-written : (c : Collection) (b : Bool) (s : State) (p : PrimitiveType) → IsWrittenAs c b s (val.Primitive p) (Primitive p)
primitive-written c b s p ms good = (primitive p, primitive-held c (top ms) p, refl)

-- a primitive type has no name
pub primitive-by-name : (c : Collection) (closed : ClosedTypes) (b : Bool) (old new : State) (v : ValueType) (p : PrimitiveType) (x : ComponentValType) → val.Primitive p ≡ value_resolved c v → IsByName c closed b old new v x
primitive-by-name c closed b old new v p x is d at has = let both : val.Primitive p ≡ val.Defined d = is ∙ at in cc

pub missing-by-name : (c : Collection) (closed : ClosedTypes) (b : Bool) (old new : State) (v : ValueType) (e : DefinedTypeId) (x : ComponentValType) → value_resolved c v ≡ val.Defined e → (HasName closed b old e → ⊥) → IsByName c closed b old new v x
missing-by-name c closed b old new v e x is none d at has =
    let both : val.Defined d ≡ val.Defined e = sym at ∙ is in
    let same : d ≡ e = cc in
    absurd (none (subst (HasName closed b old) same has))

pub can-begin : (c : Collection) → IsWellFormed c → (b : Bool) (s s' : State) (v : ValueType) (e : DefinedTypeId) → Goes c b s s' → IsReady c b s (ty.Value v) → (value_resolved c v ≡ val.Defined e) × (target_of c (val.Defined e) ≡ None) × HasDefined c e → CanBegin c b s' e
can-begin c wf b s s' v e g r h = record { held = h.2; plain = h.1; ready = ready-on c b s s' (value_of e) g (ready-end c wf b s v (val.Defined e) (sym h.0) r) }

-- results of calls

pub on-ok : {A E P Q : Type 0} (r : Result A E) → (P → Q) → OnOk r P → OnOk r Q
on-ok (Ok x) f h = f h
on-ok (Err e) f h = tt

pub if-ok : {A E : Type 0} (P Q : A → Type 0) (r : Result A E) → ((x : A) → P x → Q x) → IfOk r P → IfOk r Q
if-ok P Q (Ok x) f h = f x h
if-ok P Q (Err e) f h = tt

pub all-ok : {A E : Type 0} (P : A → Type 0) (r : Result A E) → ((x : A) → P x) → IfOk r P
all-ok P (Ok x) f = f x
all-ok P (Err e) f = tt

-- what a look-up found

pub found-written : (c : Collection) (b : Bool) (s : State) (v : ValueType) (p : Part) (x : ComponentValType) → p ≡ Written x → IsFound c b s v p → IsWrittenAs c b s v x
found-written c b s v p x is h = subst (IsFound c b s v) is h

pub found-missing : (c : Collection) (b : Bool) (s : State) (v : ValueType) (p : Part) (d : DefinedTypeId) → p ≡ Missing d → IsFound c b s v p → IsFound c b s v (Missing d)
found-missing c b s v p d is h = subst (IsFound c b s v) is h

pub named-first : (closed : ClosedTypes) (b : Bool) (old new : State) (d : DefinedTypeId) (i : ℕ) → named_in d (opened b new.here) ≡ Some (at_type i) → IsNameFirst closed b old new d (Some i)
named-first closed b old new d i named has = (i, refl, named)

pub no-name-first : (closed : ClosedTypes) (b : Bool) (old new : State) (d : DefinedTypeId) (o : Option ℕ) (is_closed : Bool) → is_closed ≡ is_closed_in closed d → ((k : ℕ) (w : Where) → IsNamedAt (stack b old) d k w → Crosses is_closed k (stack b old) → ⊥) → IsNameFirst closed b old new d o
no-name-first closed b old new d o is_closed is none has = absurd (none has.0 has.1 has.2 (subst (λ (t : Bool). Crosses t has.0 (stack b old)) (sym is) has.3))

pub closed-if : (c : Collection) (closed : ClosedTypes) (d : DefinedTypeId) (is_closed : Bool) → is_closed ≡ is_closed_in closed d → SaysClosed c d (is_closed_in closed d) → is_closed ≡ true → IsClosed c (value_of d)
closed-if c closed d is_closed is says so = subst (SaysClosed c d) (sym is ∙ so) says

pub by-name-written : (c : Collection) (closed : ClosedTypes) (b : Bool) (old new : State) (v : ValueType) (p : Part) (x : ComponentValType) → p ≡ Written x → IsFoundByName c closed b old new v p → IsByName c closed b old new v x
by-name-written c closed b old new v p x is h = subst (IsFoundByName c closed b old new v) is h

pub by-name-missing : (c : Collection) (closed : ClosedTypes) (b : Bool) (old mid new : State) (v : ValueType) (p : Part) (d : DefinedTypeId) (x : ComponentValType) → p ≡ Missing d → IsFound c b mid v p → IsFoundByName c closed b old mid v p → IsByName c closed b old new v x
by-name-missing c closed b old mid new v p d x is found h = missing-by-name c closed b old new v d x (found-missing c b mid v p d is found).0 (subst (IsFoundByName c closed b old mid v) is h)
