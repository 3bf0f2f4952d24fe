-- What is recorded somewhere in a stack, and how one outer alias brings it in.
use Rattle.std.specs.Prelude.{ℕ, zero, suc, ◌≡◌, ◌⊎◌, List, [], ◌∷◌, Option, Some, None, ◌++◌}
use Rattle.std.proofs.Common.{refl, ap, ◌∙◌, sym, ⊎_elim}
use Rattle.std.proofs.Math.Path.{fun_ext}
use Rattle.wac_types_shapes.specs.primitives.Tree.{Leaf, Tree, absent, resource, named, moved, out_by, seen_from, taken_from, items_in, function, instance, component}
use Rattle.wac_types_shapes.specs.declared.shapes.component.ResourceId.{ResourceId}
use Rattle.wac_types_shapes.specs.declared.shapes.component.«Type».{«Type» as AnyType}
use Rattle.wac_types_shapes.specs.declared.shapes.component.«Type».TheVariants as ty
use Rattle.wac_types_collection.specs.collection.Collection.{Collection}
use Rattle.wac_types_collection.specs.collection.Bound.{Bindings}
use Rattle.wac_binary.specs.declared.sorts.Sort.TheVariants as s
use Rattle.wac_binary.specs.Items.{outer_alias}
use Rattle.wac_binary.specs.Unfold.{Scope, Bound, bound_type}
use Rattle.wac_binary.specs.HasMeaning.{IsValue, IsFunction, IsInstance, IsComponent, IsType}
use Rattle.wac_encode_stacks.specs.private.Reads.{Reads}
use Rattle.wac_encode_stacks.specs.Scopes.{Where, at_type, at_export, brought, Open, Stack, env, envs, with_alias_of}
use Rattle.wac_encode_stacks.specs.Good.{Stands, IsHeld, IsOf, Carries, seen_inside, Good, top, GoodScope}
use Rattle.wac_encode_stacks.specs.private.Inside.{changed_at}
use Rattle.wac_encode_stacks.specs.private.Brought.{bindings_at, AllPass, MayCross, GoodOnce, FindsOrUnbound, KnowsType, KnowsExport, aliased_value, SettlesValueThere, BringsFrom, StillPass}
use Rattle.wac_encode_stacks.proofs.Moved.{ap2}
use Rattle.wac_encode_stacks.proofs.Meant.{value-type}
use Rattle.wac_encode_stacks.proofs.Steps.{OneMore, some-equal, one-more-outer, outer-onward}
use Rattle.wac_encode_stacks.proofs.StepLaws.{added-type, settles-value}
use Rattle.wac_encode_stacks.proofs.HeldParts.{held-carried, closed-carried}

-- a stack is good once

stands-once : (e : Scope) (t u : Tree) (w : Where) → Stands e t w → Stands e u w → t ≡ u
stands-once e t u (at_type i) g h = some-equal t u (sym g ∙ h)
stands-once e t u (at_export j n) g h =
    sym g.2 ∙ ap (λ (b : Bound). bound_type b.side (b.path ++ named n ∷ []) (taken_from b.side b.path (items_in b.type n))) (some-equal g.0 h.0 (sym g.1 ∙ h.1)) ∙ h.2

abbrev leaf_or : Leaf → Tree → Leaf
leaf_or k (resource l) = l
leaf_or k _ = k

leaf-once : (k l : Leaf) → resource k ≡ resource l → k ≡ l
leaf-once k l e = ap (leaf_or k) e

called-once : (c : Collection) (m n mo n_out : Bindings) (o : Open) (out : List Scope) → GoodScope c m mo o out → GoodScope c n n_out o out → mo ≡ n_out → (r : ResourceId) (w : Option Where) → o.binds r ≡ w → m r ≡ n r
called-once c m n mo n_out o out g h same r (Some w) e =
    let a = g.binds r w e in
    let b = h.binds r w e in
    a.1 ∙ ap (λ (l : Leaf). Some l) (leaf-once a.0 b.0 (stands-once (env o out) (resource a.0) (resource b.0) w a.2 b.2)) ∙ sym b.1
called-once c m n mo n_out o out g h same r None e = g.unbound r e ∙ ap (λ (z : Bindings). seen_inside (z r)) same ∙ sym (h.unbound r e)

pub good-once : GoodOnce
good-once c [] [] [] g h = refl
good-once c (m ∷ ms) (n ∷ ns) (o ∷ os) g h =
    let same : ms ≡ ns = good-once c ms ns os g.1 h.1 in
    ap2 (λ (a : Bindings) (b : List Bindings). a ∷ b) (fun_ext (λ r. called-once c m n (top ms) (top ns) o (envs os) g.0 h.0 (ap top same) r (o.binds r) refl)) same
good-once c [] (n ∷ ns) [] g h = absurd h
good-once c (m ∷ ms) ns [] g h = absurd g
good-once c [] ns (o ∷ os) g h = absurd g
good-once c (m ∷ ms) [] (o ∷ os) g h = absurd h

unbound-here : (c : Collection) (m mo : Bindings) (o : Open) (out : List Scope) (r : ResourceId) → GoodScope c m mo o out → ((w : Where) → o.binds r ≡ Some w → ⊥) → (o.binds r ≡ None → mo r ≡ None) → (w : Option Where) → o.binds r ≡ w → m r ≡ None
unbound-here c m mo o out r g none around (Some w) e = absurd (none w e)
unbound-here c m mo o out r g none around None e = g.unbound r e ∙ ap seen_inside (around e)

pub finds-or-unbound : FindsOrUnbound
finds-or-unbound c [] [] r g none = refl
finds-or-unbound c (m ∷ ms) (o ∷ os) r g none = unbound-here c m (top ms) o (envs os) r g.0 (λ w e. none zero w e) (λ e. finds-or-unbound c ms os r g.1 (λ k w h. none (suc k) w (e, h))) (o.binds r) refl
finds-or-unbound c [] (o ∷ os) r g none = absurd g
finds-or-unbound c (m ∷ ms) [] r g none = absurd g

-- indexes further out

pub knows-type : KnowsType
knows-type c (m ∷ ms) (p ∷ os) zero o a x g at is = g.0.types a x (ap (λ (y : Open). y.types a) (some-equal p o at) ∙ is)
knows-type c (m ∷ ms) (p ∷ os) (suc k) o a x g at is = knows-type c ms os k o a x g.1 at is
knows-type c ms [] k o a x g at is = let no_some : None ≡ Some o = at in cc
knows-type c [] (p ∷ os) k o a x g at is = absurd g

pub knows-export : KnowsExport
knows-export c (m ∷ ms) (p ∷ os) zero o d i g at is = g.0.exports d (at_type i) (ap (λ (y : Open). y.exports d) (some-equal p o at) ∙ is)
knows-export c (m ∷ ms) (p ∷ os) (suc k) o d i g at is = knows-export c ms os k o d i g.1 at is
knows-export c ms [] k o d i g at is = let no_some : None ≡ Some o = at in cc
knows-export c [] (p ∷ os) k o d i g at is = absurd g

pub settles-value-there : Reads → SettlesValueThere
settles-value-there reads c (m ∷ ms) (p ∷ os) zero o d j n g at is =
    let t = (settles-value reads) c m ms p os d j n g (ap (λ (y : Open). y.exports d) (some-equal p o at) ∙ is) in
    (t.3.0, (t.0, t.1, t.2, t.3.1))
settles-value-there reads c (m ∷ ms) (p ∷ os) (suc k) o d j n g at is =
    let b = (settles-value-there reads) c ms os k o d j n g.1 at is in
    ((outer-onward reads) c m ms p os (changed_at k (aliased_value d j n) os) g b.0, b.1)
settles-value-there reads c ms [] k o d j n g at is = let no_some : None ≡ Some o = at in cc
settles-value-there reads c [] (p ∷ os) k o d j n g at is = absurd g

-- through scopes that pass

pass-carries : (c : Collection) (ms : List Bindings) (st : Stack) (k : ℕ) → Good c ms st → AllPass k st → Carries (out_by k) (bindings_at ms k) (top ms)
pass-carries c [] st zero g p r l e = e
pass-carries c (m ∷ ms) st zero g p r l e = e
pass-carries c (m ∷ ms) (o ∷ os) (suc k) g p r l e = g.0.passing p.0 r (out_by k l) (pass-carries c ms os k g.1 p.1 r l e)
pass-carries c ms [] (suc k) g p r l e = absurd p
pass-carries c [] (o ∷ os) (suc k) g p r l e = absurd g

value-carried : (f : Leaf → Leaf) (t : Tree) → IsValue t → IsValue (moved f t)
value-carried f absent h = absurd h
value-carried f t h = h

function-carried : (f : Leaf → Leaf) (t : Tree) → IsFunction t → IsFunction (moved f t)
function-carried f absent h = absurd h
function-carried f t h = h

instance-carried : (f : Leaf → Leaf) (t : Tree) → IsInstance t → IsInstance (moved f t)
instance-carried f absent h = absurd h
instance-carried f t h = h

component-carried : (f : Leaf → Leaf) (t : Tree) → IsComponent t → IsComponent (moved f t)
component-carried f absent h = absurd h
component-carried f t h = h

of-carried : (f : Leaf → Leaf) (a : AnyType) (t : Tree) → IsOf a t → IsOf a (moved f t)
of-carried f (ty.Value v) t h = value-carried f t h
of-carried f (ty.Func k) t h = function-carried f t h
of-carried f (ty.Interface i) t h = instance-carried f t h
of-carried f (ty.World w) t h = component-carried f t h
of-carried f a t h = absurd h

function-type : (t : Tree) → IsFunction t → IsType t
function-type (function is_async names params result) h = tt
function-type t h = absurd h

instance-type : (t : Tree) → IsInstance t → IsType t
instance-type (instance items) h = tt
instance-type t h = absurd h

component-type : (t : Tree) → IsComponent t → IsType t
component-type (component xs ys) h = tt
component-type t h = absurd h

of-type : (a : AnyType) (t : Tree) → IsOf a t → IsType t
of-type (ty.Value v) t h = value-type t h
of-type (ty.Func k) t h = function-type t h
of-type (ty.Interface i) t h = instance-type t h
of-type (ty.World w) t h = component-type t h
of-type a t h = absurd h

crossed : (c : Collection) (ms : List Bindings) (st : Stack) (a : AnyType) (k : ℕ) (t : Tree) → Good c ms st → MayCross c k st a → IsHeld c (bindings_at ms k) a t → IsHeld c (top ms) a (seen_from k t)
crossed c ms st a k t g cross held = ⊎_elim
    (λ p. held-carried c (out_by k) (bindings_at ms k) (top ms) a t (pass-carries c ms st k g p) held)
    (λ closed. closed-carried c (out_by k) (bindings_at ms k) (top ms) a t closed held)
    cross

pub brings-from : Reads → BringsFrom
brings-from reads c m ms o os a k i g index cross =
    let t : Tree = index.0 in
    let more : OneMore c m (top ms) o (with_alias_of (outer_alias s.Type (suc k) i) o) (envs os) (seen_from (suc k) t) = (one-more-outer reads) c m (top ms) o (envs os) k i t g.0 (of-type a t index.2) index.3 in
    let held : IsHeld c m a (seen_from (suc k) t) = crossed c (m ∷ ms) (o ∷ os) a (suc k) t g cross index.1 in
    let sort : IsOf a (seen_from (suc k) t) = of-carried (out_by (suc k)) a t index.2 in
    let on = added-type c m ms o (with_alias_of (outer_alias s.Type (suc k) i) o) os a brought (seen_from (suc k) t) g more held sort in
    (on.0, (seen_from (suc k) t, held, sort, on.1))

pub still-pass : StillPass
still-pass zero f st p = tt
still-pass (suc k) f (o ∷ os) p = (p.0, still-pass k f os p.1)
still-pass (suc k) f [] p = absurd p
