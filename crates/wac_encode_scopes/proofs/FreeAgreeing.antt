-- Trees under bindings that agree on free resources.
use Rattle.std.specs.List.{AllByRecursion}
use Rattle.std.proofs.Common.{ℕ, zero, suc, ◌≡◌, List, [], ◌∷◌, map, Option, Some, None, Contains, slice_get, refl, ap, sym, ◌∙◌, subst}
use Rattle.wac_types_shapes.specs.primitives.Name.{Name, option_case}
use Rattle.wac_types_shapes.specs.primitives.Tree.{exported, named, Leaf, Tree, absent, resource, own, borrow, instance, inside}
use Rattle.wac_types_shapes.specs.shapes.Kinds.{kind_type}
use Rattle.wac_types_shapes.specs.declared.shapes.component.ResourceId.{ResourceId}
use Rattle.wac_types_shapes.specs.declared.shapes.component.Interface.{Interface}
use Rattle.wac_types_shapes.specs.declared.shapes.component.ValueType.{ValueType}
use Rattle.wac_types_shapes.specs.declared.shapes.component.ValueType.TheVariants as val
use Rattle.wac_types_shapes.specs.declared.shapes.component.«Type».{«Type» as AnyType}
use Rattle.wac_types_shapes.specs.declared.shapes.component.«Type».TheVariants as ty
use Rattle.wac_types_shapes.specs.declared.shapes.component.ItemKind.{ItemKind}
use Rattle.wac_types_collection.specs.declared.collection.collection.Held.{Held}
use Rattle.wac_types_collection.specs.collection.Collection.{Collection, size, item_of, value_types, func_values, defined_values, func_mentions, defined_mentions}
use Rattle.wac_types_collection.specs.collection.Held.{resolved, items_under, item_tree, of_held, func_tree, defined_tree, interface_tree, step, unfolded_to}
use Rattle.wac_types_collection.specs.collection.Bound.{Bindings, own_name, inside_interface, binds_here, by_place, held_tree}
use Rattle.wac_types_collection.proofs.lemmas.wide.Members.{in_first, in_rest}
use Rattle.wac_encode_stacks.specs.Good.{IsHeld, seen_inside}
use Rattle.wac_encode_stacks.proofs.Moved.{Unfolder, on, own_leaf, changed, held-moves}
use Rattle.wac_encode_stacks.proofs.Unfolded.{func_same, defined_same, item_same}
use Rattle.wac_encode_stacks.proofs.Whole.{here-inside}
use Rattle.wac_encode_faults.specs.Free.{parts, IsFree, itself, in_part, in_export}

-- Both bind each free resource of the type to the same leaf.
abbrev pub Agree : Collection → Bindings → Bindings → AnyType → Type 0
Agree c m n a = (r : ResourceId) → IsFree c a r → m r ≡ n r

-- The bindings have each free resource of the type.
abbrev pub HasFree : Collection → Bindings → AnyType → Type 0
HasFree c m a = (r : ResourceId) → IsFree c a r → (l : Leaf) × (m r ≡ Some l)

-- trees

held-same : {A : Type 0} (o : Option (Held A)) (t u : A → Tree) → ((x : Held A) → o ≡ Some x → t x.item ≡ u x.item) → of_held t o ≡ of_held u o
held-same None t u h = refl
held-same (Some x) t u h = h x refl

all-in : (P : ValueType → Type 0) (vs : List ValueType) → ((v : ValueType) → Contains (value_types vs) (ty.Value v) → P v) → AllByRecursion P vs
all-in P [] h = tt
all-in P (v ∷ vs) h = (h v (in_first (ty.Value v) (value_types vs)), all-in P vs (λ w there. h w (in_rest (ty.Value v) (ty.Value w) (value_types vs) there)))

pub same-items-in : (f g : Name × ItemKind → Tree) (es : List (Name × ItemKind)) → ((e : Name × ItemKind) → Contains es e → f e ≡ g e) → map {B = Name × Tree} (λ e. (e.0, f e)) es ≡ map (λ e. (e.0, g e)) es
same-items-in f g [] h = refl
same-items-in f g (e ∷ es) h =
    let first = h e (in_first e es) in
    let rest = same-items-in f g es (λ x there. h x (in_rest e x es there)) in
    (λ i. (e.0, first i) ∷ rest i)

-- what is bound inside an interface agrees where the bindings outside do

inside-agree : (c : Collection) (m n : Bindings) (it : Interface) (r : ResourceId) → (own_name c it.uses it.exports r ≡ None → m r ≡ n r) → inside_interface c it m r ≡ inside_interface c it n r
inside-agree c m n it r h = by_case (own_name c it.uses it.exports r) h
  where
    by_case : (o : Option Name) → (o ≡ None → m r ≡ n r) → option_case o (seen_inside (m r)) (λ q. Some (own_leaf q)) ≡ option_case o (seen_inside (n r)) (λ q. Some (own_leaf q))
    by_case (Some q) same = refl
    by_case None same = ap seen_inside (same refl)

abbrev Agrees : Collection → Unfolder → Type 0
Agrees c u = (m n : Bindings) (a : AnyType) → Agree c m n a → u m a ≡ u n a

pub inner-item : (c : Collection) (u : Unfolder) → Agrees c u → (m n : Bindings) (it : Interface) (e : Name × ItemKind)
    → ((r : ResourceId) → own_name c it.uses it.exports r ≡ None → IsFree c (kind_type e.1) r → m r ≡ n r)
    → item_tree (u (inside_interface c it m)) (binds_here c (inside_interface c it m) exported (named e.0 ∷ []) e.1) e.1 ≡ item_tree (u (inside_interface c it n)) (binds_here c (inside_interface c it n) exported (named e.0 ∷ []) e.1) e.1
inner-item c u rec m n it e h =
    item_same (u (inside_interface c it m)) (u (inside_interface c it n)) (binds_here c (inside_interface c it m) exported (named e.0 ∷ []) e.1) e.1
    (rec (inside_interface c it m) (inside_interface c it n) (kind_type e.1) (λ r free. inside-agree c m n it r (λ not_own. h r not_own free)))
    ∙ ap (λ b. item_tree (u (inside_interface c it n)) b e.1) (here-inside c it n m (named e.0 ∷ []) e.1)

parts-of : (c : Collection) (a u : AnyType) (ts : List AnyType) → parts c a ≡ ts → Contains ts u → (m n : Bindings) → Agree c m n a → Agree c m n u
parts-of c a u ts is there m n h = λ r free. h r (in_part a u r (subst (λ (xs : List AnyType). Contains xs u) (sym is) there) free)

step-agree : (c : Collection) (u : Unfolder) → Agrees c u → Agrees c (step (by_place c) c u)
step-agree c u rec m n (ty.Resource r) h = ap (λ (o : Option Leaf). option_case o absent resource) (h (resolved c r) (itself r))
step-agree c u rec m n (ty.Func f) h = held-same (slice_get c.funcs f.0) (func_tree (λ v. u m (ty.Value v))) (func_tree (λ v. u n (ty.Value v)))
    (λ x at. func_same (λ v. u m (ty.Value v)) (λ v. u n (ty.Value v)) x.item (all-in (λ v. u m (ty.Value v) ≡ u n (ty.Value v)) (func_values x.item)
    (λ v there. rec m n (ty.Value v) (parts-of c (ty.Func f) (ty.Value v) (func_mentions x.item) (ap (λ (o : Option (Held _)). option_case (item_of o) [] func_mentions) at) there m n h))))
step-agree c u rec m n (ty.Value (val.Primitive p)) h = refl
step-agree c u rec m n (ty.Value (val.Own r)) h = ap (λ (o : Option Leaf). option_case o absent own) (h (resolved c r) (in_part (ty.Value (val.Own r)) (ty.Resource r) (resolved c r) (in_first (ty.Resource r) []) (itself r)))
step-agree c u rec m n (ty.Value (val.Borrow r)) h = ap (λ (o : Option Leaf). option_case o absent borrow) (h (resolved c r) (in_part (ty.Value (val.Borrow r)) (ty.Resource r) (resolved c r) (in_first (ty.Resource r) []) (itself r)))
step-agree c u rec m n (ty.Value (val.Defined d)) h = held-same (slice_get c.defined d.0) (defined_tree (λ v. u m (ty.Value v))) (defined_tree (λ v. u n (ty.Value v)))
    (λ x at. defined_same (λ v. u m (ty.Value v)) (λ v. u n (ty.Value v)) x.item (all-in (λ v. u m (ty.Value v) ≡ u n (ty.Value v)) (defined_values x.item)
    (λ v there. rec m n (ty.Value v) (parts-of c (ty.Value (val.Defined d)) (ty.Value v) (defined_mentions x.item) (ap (λ (o : Option (Held _)). option_case (item_of o) [] defined_mentions) at) there m n h))))
step-agree c u rec m n (ty.Interface i) h = held-same (slice_get c.interfaces i.0) (interface_tree (by_place c) c u m) (interface_tree (by_place c) c u n)
    (λ x at.
    let it = x.item in
    let same = same-items-in (λ e. item_tree (u (inside_interface c it m)) (binds_here c (inside_interface c it m) exported (named e.0 ∷ []) e.1) e.1) (λ e. item_tree (u (inside_interface c it n)) (binds_here c (inside_interface c it n) exported (named e.0 ∷ []) e.1) e.1) it.exports
    (λ e there. inner-item c u rec m n it e (λ r not_own free. h r (in_export i it e.0 e.1 r (ap item_of at) there not_own free))) in
    ap (λ (es : List (Name × Tree)). instance (items_under es)) same)
step-agree c u rec m n (ty.World w) h = refl
step-agree c u rec m n (ty.Module k) h = refl

unfolded-agree : (c : Collection) (k : ℕ) → Agrees c (unfolded_to (by_place c) c k)
unfolded-agree c zero m n a h = refl
unfolded-agree c (suc k) m n a h = step-agree c (unfolded_to (by_place c) c k) (unfolded-agree c k) m n a h

-- Bindings that agree on the free resources of a type give it one tree.
pub held-agree : (c : Collection) → Agrees c (held_tree c)
unfolding held_tree
held-agree c = unfolded-agree c (suc (size c))

-- A type whose free resources are bound is held.
pub held-free : (c : Collection) (m : Bindings) (a : AnyType) → HasFree c m a → IsHeld c m a (held_tree c m a)
held-free c m a bound f n carries =
    held-agree c n (changed f m) a (λ r free. let at = bound r free in carries r at.0 at.1 ∙ sym (ap (on f) at.1))
    ∙ sym (held-moves c f m a)
