-- What a change of one scope is for the open scopes, and what follows for all that is good.
use Rattle.std.specs.Prelude.{ℕ, zero, suc, ◌≡◌, ◌<◌, ◌+◌, IfOk, IfSome, Bool, true, false, not, List, [], ◌∷◌, ◌++◌, length, take, Some, None, slice_get, Result, Ok, Err, OnOk, Option, if◌then◌else◌, OkIff, OnErr}
use Rattle.std.specs.List.{AllZip}
use Rattle.std.proofs.Common.{refl, ap, ◌∙◌, sym, subst, arith}
use Rattle.std.proofs.Math.ListN.{drop, set}
use Rattle.wac_types_shapes.specs.declared.shapes.component.ResourceId.{ResourceId}
use Rattle.wac_encode_scopes.specs.declared.book.Book.{Book}
use Rattle.wac_encode_scopes.specs.declared.scope.Scope.{Scope}
use Rattle.wac_encode_scopes.specs.declared.state.State.{State}
use Rattle.wac_encode_scopes.specs.Contents.{AddsTypes, content_of}
use Rattle.wac_encode_scopes.specs.declared.encodable.Encodable.{Encodable}
use Rattle.wac_encode_scopes.specs.Books.{opened, recorded, book_of}
use Rattle.wac_encode_scopes.specs.States.{outward, stack, AllAddTypes, Goes, GoesForAll, SaysWritten, SaysWrittenFunc, IsPlace, IsBound, IsResourceAt, IsTypeAt, RecordsHere}
use Rattle.wac_encode_scopes.specs.private.Steps.{Records, ScopeChanges, StateChanges, settled, settled_from}
use Rattle.wac_encode_stacks.specs.Scopes.{Content, Open, Stack, Where, at_type, at_export, next_type, with_alias_of, bind_at, How, defined, index_at, with_def}
use Rattle.wac_encode_stacks.specs.private.Beside.{SameWritten, written_as, all_written_as}
use Rattle.wac_encode_stacks.specs.private.Inside.{changed_at, aliased_there, next_type_at, brought, SettlesThere, HasIndexAround, HasIndexHere}
use Rattle.wac_encode_scopes.proofs.Added.{adds-none, adds-both}
use Rattle.wac_encode_scopes.proofs.Outward.{changed-there, set-outward, split-at}
use Rattle.std.proofs.lemmas.Bool.{eq-eqb}
use Rattle.wac_types_shapes.specs.primitives.Name.{Name}
use Rattle.wac_encode_stacks.specs.private.Parts.{IsReached}
use Rattle.wac_encode_stacks.specs.Good.{Good, Onward, top}
use Rattle.wac_encode_stacks.specs.private.Laws.{StaysOnward, Follows, DefinesValue, DefinesFunc, DefinesHandles, RecordsType, Reaches}
use Rattle.wac_encode_stacks.specs.private.Brought.{FindsOrUnbound}
use Rattle.wac_types_collection.specs.collection.Collection.{Collection, IsWellFormed, item_at}
use Rattle.wac_types_collection.specs.collection.Bound.{Bindings}
use Rattle.wac_binary.specs.declared.sorts.Sort.TheVariants as s
use Rattle.wac_types_shapes.specs.declared.shapes.component.ValueType.TheVariants as val
use Rattle.wac_types_shapes.specs.declared.shapes.component.«Type».TheVariants as ty
use Rattle.wac_binary.specs.Items.{export_alias, outer_alias, ValueDef, TypeDef, value_def, own_def, borrow_def}
use Rattle.wac_types_collection.specs.collection.Held.{resolved}
use Rattle.wac_types_collection.specs.collection.Uses.{same_type}
use Rattle.wac_types_shapes.specs.declared.shapes.component.ValueType.{ValueType}
use Rattle.wac_types_shapes.specs.declared.shapes.component.DefinedTypeId.{DefinedTypeId}
use Rattle.wac_types_shapes.specs.declared.shapes.component.DefinedType.{DefinedType}
use Rattle.wac_types_shapes.specs.declared.shapes.component.FuncTypeId.{FuncTypeId}
use Rattle.wac_types_shapes.specs.declared.shapes.component.FuncType.{FuncType}
use Rattle.wac_types_shapes.specs.declared.shapes.component.«Type».{«Type» as AnyType}
use Rattle.wac_encode_scopes.proofs.Types.{type-same, type-itself}
use Rattle.wac_types_shapes.specs.primitives.Tree.{Leaf, out_by}

pub on-ok : {T E P Q : Type 0} → (res : Result T E) → (P → Q) → OnOk res P → OnOk res Q
on-ok (Ok x) f h = f h
on-ok (Err e) f h = h

pub on-err : {T E P Q : Type 0} → (res : Result T E) → (P → Q) → OnErr res P → OnErr res Q
on-err (Ok x) f h = h
on-err (Err e) f h = f h

-- more in one of the two books
pub merged-changes : (b : Bool) (f : Open → Open) (s : Scope) (book : Book) → b ≡ true → Records f s.merged book → ScopeChanges b f s (record s { merged = book })
merged-changes true f s book is h = (h (content_of s.content), refl)
merged-changes false f s book is h = let both : false ≡ true = is in cc

pub graph-changes : (b : Bool) (f : Open → Open) (s : Scope) (book : Book) → b ≡ false → Records f s.graph book → ScopeChanges b f s (record s { graph = book })
graph-changes false f s book is h = (h (content_of s.content), refl)
graph-changes true f s book is h = let both : true ≡ false = is in cc

-- what is so written already is left as it is
pub same-as : (ps os : Stack) → SameWritten ps os → all_written_as ps os ≡ os
same-as [] [] h = refl
same-as (p ∷ ps) (o ∷ os) h = ap (λ (x : Content). record o { content = x } ∷ all_written_as ps os) (sym h.0) ∙ ap (λ (zs : Stack). o ∷ zs) (same-as ps os h.1)
same-as [] (o ∷ os) h = absurd h
same-as (p ∷ ps) [] h = absurd h

same-append : (ps os qs rs : Stack) → SameWritten ps os → SameWritten qs rs → SameWritten (ps ++ qs) (os ++ rs)
same-append [] [] qs rs h g = g
same-append (p ∷ ps) (o ∷ os) qs rs h g = (h.0, same-append ps os qs rs h.1 g)
same-append [] (o ∷ os) qs rs h g = absurd h
same-append (p ∷ ps) [] qs rs h g = absurd h

same-outward : (b d : Bool) (ss : List Scope) → SameWritten (outward b ss) (outward d ss)
same-outward b d [] = tt
same-outward b d (s ∷ ss) = same-append (outward b ss) (outward d ss) (opened b s ∷ []) (opened d s ∷ []) (same-outward b d ss) (refl, tt)

pub same-stack : (b d : Bool) (s : State) → SameWritten (stack b s) (stack d s)
same-stack b d s = (refl, same-outward b d s.around.items)

as-append : (ps os qs rs : Stack) → SameWritten ps os → all_written_as (ps ++ qs) (os ++ rs) ≡ os ++ all_written_as qs rs
as-append [] [] qs rs h = refl
as-append (p ∷ ps) (o ∷ os) qs rs h = ap (λ (x : Content). record o { content = x } ∷ all_written_as (ps ++ qs) (os ++ rs)) (sym h.0) ∙ ap (λ (zs : Stack). o ∷ zs) (as-append ps os qs rs h.1)
as-append [] (o ∷ os) qs rs h = absurd h
as-append (p ∷ ps) [] qs rs h = absurd h

-- the innermost scope changes
pub here-changes : (b : Bool) (f : Open → Open) (s : State) (here : Scope) → ScopeChanges b f s.here here → StateChanges b zero f s (record s { here = here })
here-changes b f s here h = (
  ap (λ (o : Open). o ∷ outward b s.around.items) h.0,
  ap (λ (o : Open). o ∷ outward (not b) s.around.items) h.1 ∙ ap (λ (zs : Stack). written_as (opened b here) (opened (not b) s.here) ∷ zs) (sym (same-as (outward b s.around.items) (outward (not b) s.around.items) (same-outward b (not b) s.around.items))),
)

-- a scope around changes
pub around-changes : (b : Bool) (f : Open → Open) (here : Scope) (ss : List Scope) (n out : ℕ) (s t : Scope) → zero < out → n + out ≡ length ss → slice_get ss n ≡ Some s → ScopeChanges b f s t
    → (opened b here ∷ outward b (set ss n t) ≡ changed_at out f (opened b here ∷ outward b ss)) × (opened (not b) here ∷ outward (not b) (set ss n t) ≡ all_written_as (opened b here ∷ outward b (set ss n t)) (opened (not b) here ∷ outward (not b) ss))
around-changes b f here ss n out s t lt count at h = (changed-there b ss n out s t f (opened b here) lt count at h.0, ap (λ (zs : Stack). opened (not b) here ∷ zs) other)
  where
    below : n < length ss
    below = omega (arith, count, lt)

    other : outward (not b) (set ss n t) ≡ all_written_as (outward b (set ss n t)) (outward (not b) ss)
    other =
        set-outward (not b) ss n t below
        ∙ ap (λ (o : Open). outward (not b) (drop (suc n) ss) ++ o ∷ outward (not b) (take n ss)) h.1
        ∙ ap (λ (zs : Stack). outward (not b) (drop (suc n) ss) ++ written_as (opened b t) (opened (not b) s) ∷ zs) (sym (same-as (outward b (take n ss)) (outward (not b) (take n ss)) (same-outward b (not b) (take n ss))))
        ∙ sym (as-append (outward b (drop (suc n) ss)) (outward (not b) (drop (suc n) ss)) (opened b t ∷ outward b (take n ss)) (opened (not b) s ∷ outward (not b) (take n ss)) (same-outward b (not b) (drop (suc n) ss)))
        ∙ ap (λ (zs : Stack). all_written_as zs (outward (not b) (drop (suc n) ss) ++ opened (not b) s ∷ outward (not b) (take n ss))) (sym (set-outward b ss n t below))
        ∙ ap (all_written_as (outward b (set ss n t))) (sym (split-at (not b) ss n s below at))

-- types alone are added

abbrev pub Added : Scope → Scope → Type 0
Added s t = AddsTypes s.content t.content

zip-none : (ss : List Scope) → AllZip Added ss ss
zip-none [] = tt
zip-none (s ∷ ss) = (adds-none s.content, zip-none ss)

zip-set : (ss : List Scope) (n : ℕ) (s t : Scope) → slice_get ss n ≡ Some s → Added s t → AllZip Added ss (set ss n t)
zip-set [] n s t at h = let no_some : None ≡ Some s = at in cc
zip-set (x ∷ ss) zero s t at h = let same : x ≡ s = some-is x s at in (subst (λ (y : Scope). Added y t) (sym same) h, zip-none ss)
  where
    some-is : (x y : Scope) → Some x ≡ Some y → x ≡ y
    some-is x y e = cc
zip-set (x ∷ ss) (suc n) s t at h = (adds-none x.content, zip-set ss n s t at h)

zip-both : (ss ts us : List Scope) → AllZip Added ss ts → AllZip Added ts us → AllZip Added ss us
zip-both [] [] [] g h = tt
zip-both (s ∷ ss) (t ∷ ts) (u ∷ us) g h = (adds-both s.content t.content u.content g.0 h.0, zip-both ss ts us g.1 h.1)
zip-both [] (t ∷ ts) us g h = absurd g
zip-both (s ∷ ss) [] us g h = absurd g
zip-both [] [] (u ∷ us) g h = absurd h
zip-both (s ∷ ss) (t ∷ ts) [] g h = absurd h

pub all-none : (s : State) → AllAddTypes s s
all-none s = (adds-none s.here.content, zip-none s.around.items)

pub all-here : (s : State) (here : Scope) → Added s.here here → AllAddTypes s (record s { here = here })
all-here s here h = (h, zip-none s.around.items)

pub all-set : (here : Scope) (ss : List Scope) (n : ℕ) (s t : Scope) → slice_get ss n ≡ Some s → Added s t → AddsTypes here.content here.content × AllZip Added ss (set ss n t)
all-set here ss n s t at h = (adds-none here.content, zip-set ss n s t at h)

pub all-both : (a b d : State) → AllAddTypes a b → AllAddTypes b d → AllAddTypes a d
all-both a b d g h = (adds-both a.here.content b.here.content d.here.content g.0 h.0, zip-both a.around.items b.around.items d.around.items g.1 h.1)

-- what goes onward

pub goes-none : StaysOnward → (b : Bool) (s : State) → GoesForAll b s s
goes-none stays b s c = record {
  onward = λ ms g. stays c ms (stack b s) g;
  other = sym (same-as (stack b s) (stack (not b) s) (same-stack b (not b) s));
  types = all-none s;
}

-- stacks of one length
abbrev Long : Stack → Stack → Type 0
Long [] [] = Unit {0}
Long (o ∷ os) (p ∷ ps) = Long os ps
Long _ _ = ⊥

as-twice : (ps qs os : Stack) → Long ps qs → Long ps os → all_written_as qs (all_written_as ps os) ≡ all_written_as qs os
as-twice [] [] [] h g = refl
as-twice (p ∷ ps) (q ∷ qs) (o ∷ os) h g = ap (λ (zs : Stack). written_as q o ∷ zs) (as-twice ps qs os h g)
as-twice [] (q ∷ qs) os h g = absurd h
as-twice (p ∷ ps) [] os h g = absurd h
as-twice [] [] (o ∷ os) h g = absurd g
as-twice (p ∷ ps) (q ∷ qs) [] h g = absurd g

long-append : (ps os : Stack) (p o : Open) → Long ps os → Long (ps ++ p ∷ []) (os ++ o ∷ [])
long-append [] [] p o h = tt
long-append (x ∷ ps) (y ∷ os) p o h = long-append ps os p o h
long-append [] (y ∷ os) p o h = absurd h
long-append (x ∷ ps) [] p o h = absurd h

long-outward : (b d : Bool) (ss ts : List Scope) → AllZip Added ss ts → Long (outward b ss) (outward d ts)
long-outward b d [] [] h = tt
long-outward b d (s ∷ ss) (t ∷ ts) h = long-append (outward b ss) (outward d ts) (opened b s) (opened d t) (long-outward b d ss ts h.1)
long-outward b d [] (t ∷ ts) h = absurd h
long-outward b d (s ∷ ss) [] h = absurd h

long-stacks : (b d : Bool) (s t : State) → AllAddTypes s t → Long (stack b s) (stack d t)
long-stacks b d s t h = long-outward b d s.around.items t.around.items h.1

long-back : (ps os : Stack) → Long ps os → Long os ps
long-back [] [] h = tt
long-back (p ∷ ps) (o ∷ os) h = long-back ps os h
long-back [] (o ∷ os) h = absurd h
long-back (p ∷ ps) [] h = absurd h

pub goes-both : Follows → (c : Collection) (b : Bool) (s t u : State) → Goes c b s t → Goes c b t u → Goes c b s u
goes-both follows c b s t u g h = record {
  onward = λ ms good. let on = g.onward ms good in follows c ms (stack b s) (stack b t) (stack b u) on (h.onward ms on.0);
  other = h.other ∙ ap (all_written_as (stack b u)) g.other ∙ as-twice (stack b t) (stack b u) (stack (not b) s) (long-stacks b b t u h.types) (long-back (stack (not b) s) (stack b t) (long-stacks (not b) b s t g.types));
  types = all-both s t u g.types h.types;
}

-- a resource is aliased where it is recorded as an instance's export

settled-there : (r : ResourceId) (j : ℕ) (n : Name) (st : Stack) (k : ℕ) → IsReached st r k (at_export j n) → changed_at k (settled r) st ≡ changed_at k (aliased_there r j n) st
settled-there r j n [] k h = absurd h
settled-there r j n (o ∷ os) zero h = ap (λ (w : Option Where). settled_from r w o ∷ os) h
settled-there r j n (o ∷ os) (suc k) h = ap (λ (zs : Stack). o ∷ zs) (settled-there r j n os k h.1)

pub bound-there : (r : ResourceId) (w : Where) (o : Open) → (bind_at r w o).binds r ≡ Some w
bound-there r w o = ap (λ b. if b then Some w else o.binds r) (eq-eqb r.0 r.0 refl)

reached-settled : (r : ResourceId) (j : ℕ) (n : Name) (st : Stack) (k : ℕ) → IsReached st r k (at_export j n) → IsReached (changed_at k (aliased_there r j n) st) r k (at_type (next_type_at k st))
reached-settled r j n [] k h = absurd h
reached-settled r j n (o ∷ os) zero h = bound-there r (at_type (next_type o)) (with_alias_of (export_alias s.Type j n) o)
reached-settled r j n (o ∷ os) (suc k) h = (h.0, reached-settled r j n os k h.1)

pub goes-settled : SettlesThere → (b : Bool) (s t : State) (r : ResourceId) (k j : ℕ) (n : Name) → IsReached (stack b s) r k (at_export j n) → StateChanges b k (settled r) s t → AllAddTypes s t → GoesForAll b s t
goes-settled settles b s t r k j n at step types c = record {
  onward = λ ms good. subst (Onward c ms (stack b s)) (sym (step.0 ∙ settled-there r j n (stack b s) k at)) (settles c ms (stack b s) r k j n good at).0;
  other = step.1;
  types = types;
}

pub reached-after : (b : Bool) (s t : State) (r : ResourceId) (k j : ℕ) (n : Name) → IsReached (stack b s) r k (at_export j n) → StateChanges b k (settled r) s t → IsReached (stack b t) r k (at_type (next_type_at k (stack b s)))
reached-after b s t r k j n at step = subst (λ (zs : Stack). IsReached zs r k (at_type (next_type_at k (stack b s)))) (sym (step.0 ∙ settled-there r j n (stack b s) k at)) (reached-settled r j n (stack b s) k at)

-- a resource with an index further out is brought in

pub goes-brought : HasIndexAround → (b : Bool) (s : State) (here : Scope) (r : ResourceId) (k i : ℕ) → IsReached (stack b s) r (suc k) (at_type i) → ScopeChanges b (brought r k i) s.here here → Added s.here here → GoesForAll b s (record s { here = here })
goes-brought around_ b s here r k i at step types c = record {
  onward = λ ms good. by_bindings ms good;
  other = (here-changes b (brought r k i) s here step).1;
  types = all-here s here types;
}
  where
    by_bindings : (ms : List Bindings) → Good c ms (stack b s) → Onward c ms (stack b s) (stack b (record s { here = here }))
    by_bindings [] good = absurd good
    by_bindings (m ∷ ms) good = subst (λ (o : Open). Onward c (m ∷ ms) (stack b s) (o ∷ outward b s.around.items)) (sym step.0) (around_ c m ms (opened b s.here) (outward b s.around.items) r k i good at).2.0

pub resource-here : HasIndexHere → (b : Bool) (s : State) (r : ResourceId) (i : ℕ) → (opened b s.here).binds r ≡ Some (at_type i) → IsResourceAt b s r i
resource-here here_ b s r i at c [] good = absurd good
resource-here here_ b s r i at c (m ∷ ms) good = here_ c m ms (opened b s.here) (outward b s.around.items) r i good at

-- what is bound is found
pub bound-is-found : FindsOrUnbound → (b : Bool) (s : State) (r : ResourceId) → IsBound b s r → ((k : ℕ) (w : Where) → IsReached (stack b s) r k w → ⊥) → ⊥
bound-is-found finds b s r h none = let no_some : None ≡ Some h.2 = sym (finds h.0 h.1 (stack b s) r h.3 none) ∙ h.4 in cc

-- the same, where the number of scopes is known to be positive
abbrev pub bring_with : ResourceId → ℕ → ℕ → Open → Open
bring_with r count i o = bind_at r (at_type (next_type o)) (with_alias_of (outer_alias s.Type count i) o)

pub goes-brought-from : HasIndexAround → (b : Bool) (st : State) (here : Scope) (r : ResourceId) (out count i : ℕ) → zero < out → count ≡ out → IsReached (stack b st) r out (at_type i) → ScopeChanges b (bring_with r count i) st.here here → Added st.here here → GoesForAll b st (record st { here = here })
goes-brought-from around_ b st here r zero count i lt same at step types = absurd (omega (arith, lt))
goes-brought-from around_ b st here r (suc k) count i lt same at step types = goes-brought around_ b st here r k i at (subst (λ (n : ℕ). ScopeChanges b (bring_with r n i) st.here here) same step) types

pub resource-brought-from : HasIndexHere → (b : Bool) (st : State) (here : Scope) (r : ResourceId) (count i own : ℕ) → own ≡ next_type (opened b st.here) → ScopeChanges b (bring_with r count i) st.here here → IsResourceAt b (record st { here = here }) r own
resource-brought-from here_ b st here r count i own is step = resource-here here_ b (record st { here = here }) r own (ap (λ (o : Open). o.binds r) step.0 ∙ bound-there r (at_type (next_type (opened b st.here))) (with_alias_of (outer_alias s.Type count i) (opened b st.here)) ∙ ap (λ (k : ℕ). Some (at_type k)) (sym is))

pub if-ok : {T E : Type 0} {P Q : T → Type 0} → (res : Result T E) → ((x : T) → P x → Q x) → IfOk res P → IfOk res Q
if-ok (Ok x) f h = f x h
if-ok (Err e) f h = h

pub both-ok : {T E : Type 0} {P R : T → Type 0} {Q : Type 0} → (res : Result T E) → ((x : T) → P x → Q → R x) → IfOk res P → OnOk res Q → IfOk res R
both-ok (Ok x) f h g = f x h g
both-ok (Err e) f h g = h

-- what was found, and is no type index
pub found-some : (b : Bool) (st : State) (r : ResourceId) (o : Option (ℕ × ℕ × Bool)) (out index : ℕ) (is_type : Bool) → ◌≡◌ {A = Option (ℕ × ℕ × Bool)} o (Some (out, index, is_type)) → IfSome o (λ f. (w : Where) × IsReached (stack b st) r f.0 w × IsPlace w f.1 f.2) → (w : Where) × IsReached (stack b st) r out w × IsPlace w index is_type
found-some b st r o out index is_type is h = subst (λ (x : Option (ℕ × ℕ × Bool)). IfSome x (λ f. (w : Where) × IsReached (stack b st) r f.0 w × IsPlace w f.1 f.2)) is h

pub found-export : (b : Bool) (st : State) (r : ResourceId) (out index : ℕ) (is_type : Bool) → is_type ≡ false → (w : Where) × IsReached (stack b st) r out w × IsPlace w index is_type → (j : ℕ) × (n : Name) × IsReached (stack b st) r out (at_export j n)
found-export b st r out index is_type is (at_type i, at, place) = let both : true ≡ false = sym place.1 ∙ is in cc
found-export b st r out index is_type is (at_export j n, at, place) = (j, n, at)

-- a number that was converted
pub tried : {E : Type 0} (P : Type 0) (res : Result ℕ E) (n out : ℕ) → res ≡ Ok n → OkIff res P out → n ≡ out
tried P res n out is h = (subst (λ r. OkIff r P out) is h).1

-- a definition is added to the innermost scope

pub goes-here : (c : Collection) (b : Bool) (f : Open → Open) (st : State) (here : Scope) → ScopeChanges b f st.here here → Added st.here here
    → ((m : Bindings) (ms : List Bindings) → Good c (m ∷ ms) (stack b st) → Onward c (m ∷ ms) (stack b st) (f (opened b st.here) ∷ outward b st.around.items)) → Goes c b st (record st { here = here })
goes-here c b f st here step types on = record {
  onward = by_bindings;
  other = (here-changes b f st here step).1;
  types = all-here st here types;
}
  where
    by_bindings : (ms : List Bindings) → Good c ms (stack b st) → Onward c ms (stack b st) (stack b (record st { here = here }))
    by_bindings [] good = absurd good
    by_bindings (m ∷ ms) good = subst (λ (o : Open). Onward c (m ∷ ms) (stack b st) (o ∷ outward b st.around.items)) (sym step.0) (on m ms good)

abbrev pub and_value : ValueType → ValueDef → Open → Open
and_value v y o = index_at (ty.Value v) defined (next_type o) (with_def (value_def y) o)

abbrev pub and_func : FuncTypeId → TypeDef → Open → Open
and_func k d o = index_at (ty.Func k) defined (next_type o) (with_def d o)

pub goes-defined : DefinesValue → (c : Collection) → IsWellFormed c → (b : Bool) (st : State) (here : Scope) (d : DefinedTypeId) (x : DefinedType) (y : ValueDef) → item_at c.defined d.0 ≡ Some x → SaysWritten c b st x y → ScopeChanges b (and_value (val.Defined d) y) st.here here → Added st.here here → Goes c b st (record st { here = here })
goes-defined law c wf b st here d x y at says step types = goes-here c b (and_value (val.Defined d) y) st here step types (λ m ms good. (law c wf m ms (opened b st.here) (outward b st.around.items) d x y good at (says (m ∷ ms) good)).3.0)

pub goes-func : DefinesFunc → (c : Collection) → IsWellFormed c → (b : Bool) (st : State) (here : Scope) (k : FuncTypeId) (x : FuncType) (d : TypeDef) → item_at c.funcs k.0 ≡ Some x → SaysWrittenFunc c b st x d → ScopeChanges b (and_func k d) st.here here → Added st.here here → Goes c b st (record st { here = here })
goes-func law c wf b st here k x d at says step types = goes-here c b (and_func k d) st here step types (λ m ms good. (law c wf m ms (opened b st.here) (outward b st.around.items) k x d good at (says (m ∷ ms) good)).3.0)

pub goes-own : DefinesHandles → (c : Collection) (b : Bool) (st : State) (here : Scope) (r : ResourceId) (i : ℕ) → resolved c r ≡ r → IsResourceAt b st r i → ScopeChanges b (and_value (val.Own r) (own_def i)) st.here here → Added st.here here → Goes c b st (record st { here = here })
goes-own law c b st here r i end_ at step types = goes-here c b (and_value (val.Own r) (own_def i)) st here step types (λ m ms good. let l = at c (m ∷ ms) good in ((law c m ms (opened b st.here) (outward b st.around.items) r i l.0 good (ap m end_ ∙ l.1) l.2).0).1.0)

pub goes-borrow : DefinesHandles → (c : Collection) (b : Bool) (st : State) (here : Scope) (r : ResourceId) (i : ℕ) → resolved c r ≡ r → IsResourceAt b st r i → ScopeChanges b (and_value (val.Borrow r) (borrow_def i)) st.here here → Added st.here here → Goes c b st (record st { here = here })
goes-borrow law c b st here r i end_ at step types = goes-here c b (and_value (val.Borrow r) (borrow_def i)) st here step types (λ m ms good. let l = at c (m ∷ ms) good in ((law c m ms (opened b st.here) (outward b st.around.items) r i l.0 good (ap m end_ ∙ l.1) l.2).1).1.0)

same-type-self : (a : AnyType) → same_type a a ≡ true
same-type-self a = sym (type-same a a) ∙ type-itself a

-- and it is recorded
pub indexed-there : (b : Bool) (a : AnyType) (how : How) (i : ℕ) (o p : Open) → p ≡ index_at a how i o → p.types a ≡ Some (record { index = i; how = how })
indexed-there b a how i o p step = ap (λ (x : Open). x.types a) step ∙ ap (λ z. if z then Some (record { index = i; how = how }) else o.types a) (same-type-self a)

pub recorded-here : (b : Bool) (a : AnyType) (i : ℕ) (s t : Scope) (f : Open → Open) → i ≡ next_type (opened b s) → ScopeChanges b (λ o. index_at a defined (next_type o) (f o)) s t → (opened b t).types a ≡ Some (record { index = i; how = defined })
recorded-here b a i s t f is step = indexed-there b a defined (next_type (opened b s)) (f (opened b s)) (opened b t) step.0 ∙ ap (λ (k : ℕ). Some (record { index = k; how = defined })) (sym is)

pub goes-recorded : RecordsType → (c : Collection) (b : Bool) (st : State) (here : Scope) (a : AnyType) (how : How) (i : ℕ) → IsTypeAt c b st a i → ScopeChanges b (index_at a how i) st.here here → Added st.here here → Goes c b st (record st { here = here })
goes-recorded law c b st here a how i at step types = goes-here c b (index_at a how i) st here step types (λ m ms good. let t = at (m ∷ ms) good in law c m ms (opened b st.here) (outward b st.around.items) a how i t.0 good t.1 t.2 t.3)

-- what is found is bound
pub found-is-bound : Reaches → (b : Bool) (st : State) (r : ResourceId) (o : Option (ℕ × ℕ × Bool)) (f : ℕ × ℕ × Bool) → ◌≡◌ {A = Option (ℕ × ℕ × Bool)} o (Some f) → IfSome o (λ x. (w : Where) × IsReached (stack b st) r x.0 w × IsPlace w x.1 x.2) → (c : Collection) (ms : List Bindings) → Good c ms (stack b st) → (l : Leaf) × (top ms r ≡ Some l)
found-is-bound law b st r o f is h c ms good =
    let at = subst (λ (x : Option (ℕ × ℕ × Bool)). IfSome x (λ y. (w : Where) × IsReached (stack b st) r y.0 w × IsPlace w y.1 y.2)) is h in
    let l = law c ms (stack b st) r f.0 at.0 good at.1 in
    (out_by f.0 l.0, l.1)

pub two-ok : {T E P Q R : Type 0} → (res : Result T E) → (P → Q → R) → OnOk res P → OnOk res Q → OnOk res R
two-ok (Ok x) f h g = f h g
two-ok (Err e) f h g = h

-- records change alone
pub records-here : (b : Bool) (f : Open → Open) (st : State) (here : Scope) → here.content ≡ st.here.content → ScopeChanges b f st.here here → RecordsHere b f st (record st { here = here })
records-here b f st here same step = record {
  here = step.0;
  other = step.1 ∙ ap (λ (x : Encodable). recorded (book_of (not b) st.here) (content_of x)) same;
  content = same;
  around = refl;
}

-- content that is written, or not
pub all-written : {T E : Type 0} → (st : State) (here : Scope) (x : Encodable) (res : Result T E) → AddsTypes st.here.content x → OnOk res (here ≡ record st.here { content = x }) → OnErr res (here ≡ st.here) → AllAddTypes st (record st { here = here })
all-written st here x (Ok v) h is none = all-here st here (subst (AddsTypes st.here.content) (sym (ap (λ (s : Scope). s.content) is)) h)
all-written st here x (Err e) h is none = all-here st here (subst (AddsTypes st.here.content) (sym (ap (λ (s : Scope). s.content) none)) (adds-none st.here.content))
