-- A held tree with its leaves changed is the held tree under the changed bindings.
use Rattle.std.specs.Prelude.{ℕ, zero, suc, ◌≡◌, ◌&&◌, Bool, true, false, not, List, [], ◌∷◌, ◌++◌, map, filter, length, Option, Some, None, if◌then◌else◌, slice_get}
use Rattle.std.proofs.Common.{refl, ap, ◌∙◌, sym}
use Rattle.std.proofs.Math.Path.{fun_ext}
use Rattle.std.proofs.Math.Dec.{eqb-suc-zero}
use Rattle.wac_types_shapes.specs.primitives.Name.{Name, same_name, option_case, first_some}
use Rattle.wac_types_shapes.specs.declared.shapes.component.ResourceId.{ResourceId}
use Rattle.wac_types_shapes.specs.declared.shapes.component.FuncType.{FuncType}
use Rattle.wac_types_shapes.specs.declared.shapes.component.DefinedType.{DefinedType}
use Rattle.wac_types_shapes.specs.declared.shapes.component.DefinedType.TheVariants as def
use Rattle.wac_types_shapes.specs.declared.shapes.component.Interface.{Interface}
use Rattle.wac_types_shapes.specs.declared.shapes.component.World.{World}
use Rattle.wac_types_shapes.specs.declared.shapes.component.UsedType.{UsedType}
use Rattle.wac_types_shapes.specs.declared.shapes.component.ValueType.{ValueType}
use Rattle.wac_types_shapes.specs.declared.shapes.component.ValueType.TheVariants as val
use Rattle.wac_types_shapes.specs.declared.shapes.component.«Type».{«Type» as AnyType}
use Rattle.wac_types_shapes.specs.declared.shapes.component.«Type».TheVariants as ty
use Rattle.wac_types_shapes.specs.declared.shapes.component.ItemKind.{ItemKind}
use Rattle.wac_types_shapes.specs.declared.shapes.component.ItemKind.TheVariants as kind
use Rattle.wac_types_collection.specs.declared.collection.collection.Held.{Held}
use Rattle.wac_types_collection.specs.collection.Collection.{Collection, size, item_at}
use Rattle.wac_types_shapes.specs.primitives.Tree.{Side, imported, exported, Place, named, Leaf, Tree, absent, resource, primitive, own, borrow, record_of, variant_of, list_of, fixed_list_of, tuple_of, flags_of, enum_of, option_of, result_of, stream_of, future_of, function, instance, component, module_of, fresh, type_equal, function_item, instance_item, component_item, module_item, value_item, further_out, inside, moved, out_by, seen_from, taken_at, taken_from}
use Rattle.wac_types_collection.specs.collection.Held.{resolved, part_at, items_under, option_tree, defined_tree, func_tree, item_tree, of_held, listed_tree, interface_tree, world_tree, module_tree, step, unfolded_to}
use Rattle.wac_types_collection.specs.collection.Bound.{Bindings, lists_own, own_name, inside_interface, bound_by, bound_in_order, lists_type, first_bound, bound_by_imports, bound_in_world, same_side, same_path, is_here, binds_here, by_place, held_tree}
use Rattle.wac_encode_stacks.specs.Good.{IsHeld, Extends, Carries}
use Rattle.wac_encode_stacks.specs.Instances.{BindsInstance}

abbrev pub Unfolder : Type 0
Unfolder = Bindings → AnyType → Tree

abbrev pub on : (Leaf → Leaf) → Option Leaf → Option Leaf
on f o = option_case o None (λ l. Some (f l))

-- bindings with their leaves changed
abbrev pub changed : (Leaf → Leaf) → Bindings → Bindings
changed f m r = on f (m r)

pub ap2 : {A B C : Type 0} (f : A → B → C) {a a' : A} {b b' : B} → a ≡ a' → b ≡ b' → f a b ≡ f a' b'
ap2 f {a' = a'} {b = b} p q = ap (λ x. f x b) p ∙ ap (f a') q

abbrev pub own_leaf : Name → Leaf
own_leaf n = record { out = 0; side = exported; path = named n ∷ [] }

-- a change of leaves outside is the same change, one scope further in, inside an interface
pub inside-changed : (c : Collection) (i : Interface) (f : Leaf → Leaf) (m : Bindings) → changed (inside f) (inside_interface c i m) ≡ inside_interface c i (changed f m)
inside-changed c i f m = fun_ext (λ r. by_case (own_name c i.uses i.exports r) (m r))
  where
    by_case : (o : Option Name) (b : Option Leaf) → on (inside f) (option_case o (option_case b None (λ l. Some (further_out l))) (λ n. Some (own_leaf n))) ≡ option_case o (option_case (on f b) None (λ l. Some (further_out l))) (λ n. Some (own_leaf n))
    by_case (Some n) b = refl
    by_case None None = refl
    by_case None (Some l) = refl

pub moved-part_at : (f : Leaf → Leaf) {A : Type 0} (g h : A → Tree) (xs : List A) (i : ℕ) → ((a : A) → moved f (g a) ≡ h a) → moved f (part_at (map g xs) i) ≡ part_at (map h xs) i
moved-part_at f g h [] i e = refl
moved-part_at f g h (x ∷ xs) zero e = e x
moved-part_at f g h (x ∷ xs) (suc i) e = moved-part_at f g h xs i e

moved-items : (f : Leaf → Leaf) {A : Type 0} (g h : Name × A → Tree) (xs : List (Name × A)) (n : Name) → ((a : Name × A) → moved f (g a) ≡ h a) → moved f (items_under (map (λ e. (e.0, g e)) xs) n) ≡ items_under (map (λ e. (e.0, h e)) xs) n
moved-items f g h [] n e = refl
moved-items f g h (x ∷ xs) n e = by_case (same_name n x.0) (moved-items f g h xs n e)
  where
    by_case : (b : Bool) → moved f (items_under (map (λ y. (y.0, g y)) xs) n) ≡ items_under (map (λ y. (y.0, h y)) xs) n → moved f (if b then g x else items_under (map (λ y. (y.0, g y)) xs) n) ≡ (if b then h x else items_under (map (λ y. (y.0, h y)) xs) n)
    by_case true rest = e x
    by_case false rest = rest

moved-leaf : (f : Leaf → Leaf) (o : Option Leaf) (g : Leaf → Tree) → ((l : Leaf) → moved f (g l) ≡ g (f l)) → moved f (option_case o absent g) ≡ option_case (on f o) absent g
moved-leaf f None g e = refl
moved-leaf f (Some l) g e = e l

moved-held : (f : Leaf → Leaf) {A : Type 0} (o : Option (Held A)) (g h : A → Tree) → ((a : A) → moved f (g a) ≡ h a) → moved f (of_held g o) ≡ of_held h o
moved-held f None g h e = refl
moved-held f (Some x) g h e = e x.item

pub moved-option : (f : Leaf → Leaf) (g h : ValueType → Tree) (o : Option ValueType) → ((a : ValueType) → moved f (g a) ≡ h a) → moved f (option_tree g o) ≡ option_tree h o
moved-option f g h None e = refl
moved-option f g h (Some v) e = e v

pub moved-defined : (f : Leaf → Leaf) (g h : ValueType → Tree) (d : DefinedType) → ((a : ValueType) → moved f (g a) ≡ h a) → moved f (defined_tree g d) ≡ defined_tree h d
moved-defined f g h (def.Tuple vs) e = ap (tuple_of (length vs)) (fun_ext (λ i. moved-part_at f g h vs i e))
moved-defined f g h (def.List v) e = ap list_of (e v)
moved-defined f g h (def.FixedSizeList v n) e = ap (fixed_list_of n) (e v)
moved-defined f g h (def.Option v) e = ap option_of (e v)
moved-defined f g h (def.Result ok err) e = ap2 result_of (moved-option f g h ok e) (moved-option f g h err e)
moved-defined f g h (def.Variant v) e = ap (variant_of (map (λ x. x.0) v.cases)) (fun_ext (λ i. moved-part_at f (λ x. option_tree g x.1) (λ x. option_tree h x.1) v.cases i (λ x. moved-option f g h x.1 e)))
moved-defined f g h (def.Record r) e = ap (record_of (map (λ x. x.0) r.fields)) (fun_ext (λ i. moved-part_at f (λ x. g x.1) (λ x. h x.1) r.fields i (λ x. e x.1)))
moved-defined f g h (def.Flags names) e = refl
moved-defined f g h (def.Enum names) e = refl
moved-defined f g h (def.Alias v) e = e v
moved-defined f g h (def.Stream v) e = ap stream_of (moved-option f g h v e)
moved-defined f g h (def.Future v) e = ap future_of (moved-option f g h v e)

pub moved-func : (f : Leaf → Leaf) (g h : ValueType → Tree) (t : FuncType) → ((a : ValueType) → moved f (g a) ≡ h a) → moved f (func_tree g t) ≡ func_tree h t
moved-func f g h t e = ap2 (function t.is_async (map (λ p. p.0) t.params)) (fun_ext (λ i. moved-part_at f (λ p. g p.1) (λ p. h p.1) t.params i (λ p. e p.1))) (moved-option f g h t.result e)

moved-item : (f : Leaf → Leaf) (g h : AnyType → Tree) (b : Bool) (k : ItemKind) → ((a : AnyType) → moved f (g a) ≡ h a) → moved f (item_tree g b k) ≡ item_tree h b k
moved-item f g h true (kind.TypeItem a) e = refl
moved-item f g h false (kind.TypeItem a) e = ap type_equal (e a)
moved-item f g h b (kind.Func k) e = ap function_item (e (ty.Func k))
moved-item f g h b (kind.Instance i) e = ap instance_item (e (ty.Interface i))
moved-item f g h b (kind.Component w) e = ap component_item (e (ty.World w))
moved-item f g h b (kind.Module k) e = ap module_item (e (ty.Module k))
moved-item f g h b (kind.Value v) e = ap value_item (e (ty.Value v))

-- what is bound here stays here, and nothing else comes here
here-kept : (side : Side) (path : List Place) (f : Leaf → Leaf) (o : Option Leaf) → is_here side path (on (inside f) o) ≡ is_here side path o
here-kept side path f None = refl
here-kept side path f (Some l) = by_out l.out l.side l.path
  where
    by_out : (k : ℕ) (s : Side) (p : List Place) → is_here side path (Some (inside f (record { out = k; side = s; path = p }))) ≡ is_here side path (Some (record { out = k; side = s; path = p }))
    by_out zero s p = refl
    by_out (suc k) s p = let l : Leaf = f (record { out = k; side = s; path = p }) in ap (λ b. b && (same_side l.side side && same_path l.path path)) (eqb-suc-zero l.out) ∙ ap (λ b. b && (same_side s side && same_path p path)) (sym (eqb-suc-zero k))

binds-kept : (c : Collection) (f : Leaf → Leaf) (m m' : Bindings) (side : Side) (path : List Place) (k : ItemKind) → changed (inside f) m ≡ m' → binds_here c m side path k ≡ binds_here c m' side path k
binds-kept c f m m' side path (kind.TypeItem (ty.Resource r)) e = sym (here-kept side path f (m (resolved c r))) ∙ ap (λ (b : Bindings). is_here side path (b (resolved c r))) e
binds-kept c f m m' side path k e = refl

-- u commutes with every change of leaves
abbrev pub Moves : Unfolder → Type 0
Moves u = (f : Leaf → Leaf) (m : Bindings) (t : AnyType) → moved f (u m t) ≡ u (changed f m) t

moved-listed : (c : Collection) (u : Unfolder) → Moves u → (f : Leaf → Leaf) (m m' : Bindings) (side : Side) (es : List (Name × ItemKind)) (n : Name) → changed (inside f) m ≡ m' → moved (inside f) (listed_tree (by_place c) c u m side es n) ≡ listed_tree (by_place c) c u m' side es n
moved-listed c u e f m m' side es n same = moved-items (inside f) (λ x. item_tree (u m) (binds_here c m side (named x.0 ∷ []) x.1) x.1) (λ x. item_tree (u m') (binds_here c m' side (named x.0 ∷ []) x.1) x.1) es n
    (λ x. moved-item (inside f) (u m) (u m') (binds_here c m side (named x.0 ∷ []) x.1) x.1 (λ a. e (inside f) m a ∙ ap (λ (b : Bindings). u b a) same) ∙ ap (λ b. item_tree (u m') b x.1) (binds-kept c f m m' side (named x.0 ∷ []) x.1 same))

moved-interface : (c : Collection) (u : Unfolder) → Moves u → (f : Leaf → Leaf) (m : Bindings) (i : Interface) → moved f (interface_tree (by_place c) c u m i) ≡ interface_tree (by_place c) c u (changed f m) i
moved-interface c u e f m i = ap instance (fun_ext (λ n. moved-listed c u e f (inside_interface c i m) (inside_interface c i (changed f m)) exported i.exports n (inside-changed c i f m)))

first-kept : (g : Leaf → Leaf) (a b : Option Leaf) → on g a ≡ a → on g b ≡ b → on g (first_some a b) ≡ first_some a b
first-kept g None b p q = q
first-kept g (Some l) b p q = p

bound_by-kept : (c : Collection) (uses : List (Name × UsedType)) (side : Side) (f : Leaf → Leaf) (n : Name) (k : ItemKind) (r : ResourceId) → on (inside f) (bound_by c uses side (n, k) r) ≡ bound_by c uses side (n, k) r
bound_by-kept c uses side f n (kind.TypeItem t) r = by_case (lists_own c uses r (n, kind.TypeItem t))
  where
    by_case : (b : Bool) → on (inside f) (if b then Some (record { out = 0; side = side; path = named n ∷ [] }) else None) ≡ (if b then Some (record { out = 0; side = side; path = named n ∷ [] }) else None)
    by_case true = refl
    by_case false = refl
bound_by-kept c uses side f n (kind.Instance i) r = by_case (item_at c.interfaces i.0)
  where
    by_name : (b : Bool) (o : Option Name) → on (inside f) (if b then option_case o None (λ q. Some (record { out = 0; side = side; path = named n ∷ named q ∷ [] })) else None) ≡ (if b then option_case o None (λ q. Some (record { out = 0; side = side; path = named n ∷ named q ∷ [] })) else None)
    by_name true None = refl
    by_name true (Some q) = refl
    by_name false o = refl

    by_id : (i : Option Name) (o : Option Name) → on (inside f) (option_case i None (λ id. if same_name id n then option_case o None (λ q. Some (record { out = 0; side = side; path = named n ∷ named q ∷ [] })) else None)) ≡ option_case i None (λ id. if same_name id n then option_case o None (λ q. Some (record { out = 0; side = side; path = named n ∷ named q ∷ [] })) else None)
    by_id None o = refl
    by_id (Some id) o = by_name (same_name id n) o

    by_case : (o : Option Interface) → on (inside f) (option_case o None (λ it. option_case it.id None (λ id. if same_name id n then option_case (own_name c it.uses it.exports r) None (λ q. Some (record { out = 0; side = side; path = named n ∷ named q ∷ [] })) else None))) ≡ option_case o None (λ it. option_case it.id None (λ id. if same_name id n then option_case (own_name c it.uses it.exports r) None (λ q. Some (record { out = 0; side = side; path = named n ∷ named q ∷ [] })) else None))
    by_case None = refl
    by_case (Some it) = by_id it.id (own_name c it.uses it.exports r)
bound_by-kept c uses side f n k r = refl

order-kept : (c : Collection) (uses : List (Name × UsedType)) (side : Side) (f : Leaf → Leaf) (es : List (Name × ItemKind)) (r : ResourceId) → on (inside f) (bound_in_order c uses side es r) ≡ bound_in_order c uses side es r
order-kept c uses side f [] r = refl
order-kept c uses side f (e ∷ es) r = first-kept (inside f) (bound_by c uses side e r) (bound_in_order c uses side es r) (bound_by-kept c uses side f e.0 e.1 r) (order-kept c uses side f es r)

first_bound-kept : (c : Collection) (uses : List (Name × UsedType)) (side : Side) (f : Leaf → Leaf) (es : List (Name × ItemKind)) (r : ResourceId) → on (inside f) (first_bound c uses side es r) ≡ first_bound c uses side es r
first_bound-kept c uses side f es r = first-kept (inside f) (bound_in_order c uses side (filter (λ e. not (lists_type e)) es) r) (bound_in_order c uses side (filter lists_type es) r) (order-kept c uses side f (filter (λ e. not (lists_type e)) es) r) (order-kept c uses side f (filter lists_type es) r)

-- what a component type binds, no change of leaves outside touches
pub imports-kept : (c : Collection) (w : World) (f : Leaf → Leaf) → changed (inside f) (bound_by_imports c w) ≡ bound_by_imports c w
imports-kept c w f = fun_ext (λ r. first_bound-kept c w.uses imported f w.imports r)

pub world-kept : (c : Collection) (w : World) (f : Leaf → Leaf) → changed (inside f) (bound_in_world c w) ≡ bound_in_world c w
world-kept c w f = fun_ext (λ r. first-kept (inside f) (bound_by_imports c w r) (first_bound c w.uses exported w.exports r) (first_bound-kept c w.uses imported f w.imports r) (first_bound-kept c w.uses exported f w.exports r))

moved-world : (c : Collection) (u : Unfolder) → Moves u → (f : Leaf → Leaf) (m : Bindings) (w : World) → moved f (world_tree (by_place c) c u m w) ≡ world_tree (by_place c) c u (changed f m) w
moved-world c u e f m w = ap2 component
    (fun_ext (λ n. moved-listed c u e f (bound_by_imports c w) (bound_by_imports c w) imported w.imports n (imports-kept c w f)))
    (fun_ext (λ n. moved-listed c u e f (bound_in_world c w) (bound_in_world c w) exported w.exports n (world-kept c w f)))

pub step-moves : (c : Collection) (u : Unfolder) → Moves u → Moves (step (by_place c) c u)
step-moves c u e f m (ty.Resource r) = moved-leaf f (m (resolved c r)) resource (λ l. refl)
step-moves c u e f m (ty.Func k) = moved-held f (slice_get c.funcs k.0) (func_tree (λ v. u m (ty.Value v))) (func_tree (λ v. u (changed f m) (ty.Value v))) (λ t. moved-func f (λ v. u m (ty.Value v)) (λ v. u (changed f m) (ty.Value v)) t (λ v. e f m (ty.Value v)))
step-moves c u e f m (ty.Value (val.Primitive p)) = refl
step-moves c u e f m (ty.Value (val.Own r)) = moved-leaf f (m (resolved c r)) own (λ l. refl)
step-moves c u e f m (ty.Value (val.Borrow r)) = moved-leaf f (m (resolved c r)) borrow (λ l. refl)
step-moves c u e f m (ty.Value (val.Defined d)) = moved-held f (slice_get c.defined d.0) (defined_tree (λ v. u m (ty.Value v))) (defined_tree (λ v. u (changed f m) (ty.Value v))) (λ t. moved-defined f (λ v. u m (ty.Value v)) (λ v. u (changed f m) (ty.Value v)) t (λ v. e f m (ty.Value v)))
step-moves c u e f m (ty.Interface i) = moved-held f (slice_get c.interfaces i.0) (interface_tree (by_place c) c u m) (interface_tree (by_place c) c u (changed f m)) (moved-interface c u e f m)
step-moves c u e f m (ty.World w) = moved-held f (slice_get c.worlds w.0) (world_tree (by_place c) c u m) (world_tree (by_place c) c u (changed f m)) (moved-world c u e f m)
step-moves c u e f m (ty.Module k) = moved-held f (slice_get c.modules k.0) module_tree module_tree (λ t. refl)

pub unfolded-moves : (c : Collection) (k : ℕ) → Moves (unfolded_to (by_place c) c k)
unfolded-moves c zero f m t = refl
unfolded-moves c (suc k) f m t = step-moves c (unfolded_to (by_place c) c k) (unfolded-moves c k) f m t

-- the held tree commutes with every change of leaves
pub held-moves : (c : Collection) → Moves (held_tree c)
unfolding held_tree
held-moves c = unfolded-moves c (suc (size c))

-- the held tree seen from k scopes further in
pub held-seen_from : (c : Collection) (k : ℕ) (m : Bindings) (t : AnyType) → seen_from k (held_tree c m t) ≡ held_tree c (changed (out_by k) m) t
held-seen_from c k m t = held-moves c (out_by k) m t

inside-inside : (f g : Leaf → Leaf) (o : ℕ) (s : Side) (p : List Place) → inside f (inside g (record { out = o; side = s; path = p })) ≡ inside (λ x. f (g x)) (record { out = o; side = s; path = p })
inside-inside f g zero s p = refl
inside-inside f g (suc o) s p = refl

inside-two : (f g : Leaf → Leaf) → (λ l. inside f (inside g l)) ≡ inside (λ x. f (g x))
inside-two f g = fun_ext (λ l. inside-inside f g l.out l.side l.path)

under : (f g h : Leaf → Leaf) → (λ l. f (g l)) ≡ h → (λ l. inside f (inside g l)) ≡ inside h
under f g h e = inside-two f g ∙ ap inside e

-- two changes of leaves are one
pub moved-moved : (t : Tree) (f g h : Leaf → Leaf) → (λ l. f (g l)) ≡ h → moved f (moved g t) ≡ moved h t
moved-moved absent f g h e = refl
moved-moved (resource l) f g h e = ap (λ (k : Leaf → Leaf). resource (k l)) e
moved-moved (primitive n) f g h e = refl
moved-moved (own l) f g h e = ap (λ (k : Leaf → Leaf). own (k l)) e
moved-moved (borrow l) f g h e = ap (λ (k : Leaf → Leaf). borrow (k l)) e
moved-moved (record_of names parts) f g h e = ap (record_of names) (fun_ext (λ i. moved-moved (parts i) f g h e))
moved-moved (variant_of names parts) f g h e = ap (variant_of names) (fun_ext (λ i. moved-moved (parts i) f g h e))
moved-moved (list_of t) f g h e = ap list_of (moved-moved t f g h e)
moved-moved (fixed_list_of n t) f g h e = ap (fixed_list_of n) (moved-moved t f g h e)
moved-moved (tuple_of n parts) f g h e = ap (tuple_of n) (fun_ext (λ i. moved-moved (parts i) f g h e))
moved-moved (flags_of names) f g h e = refl
moved-moved (enum_of names) f g h e = refl
moved-moved (option_of t) f g h e = ap option_of (moved-moved t f g h e)
moved-moved (result_of t u) f g h e = ap2 result_of (moved-moved t f g h e) (moved-moved u f g h e)
moved-moved (stream_of t) f g h e = ap stream_of (moved-moved t f g h e)
moved-moved (future_of t) f g h e = ap future_of (moved-moved t f g h e)
moved-moved (function is_async names params result) f g h e = ap2 (function is_async names) (fun_ext (λ i. moved-moved (params i) f g h e)) (moved-moved result f g h e)
moved-moved (instance items) f g h e = ap instance (fun_ext (λ n. moved-moved (items n) (inside f) (inside g) (inside h) (under f g h e)))
moved-moved (component imports exports) f g h e = ap2 component (fun_ext (λ n. moved-moved (imports n) (inside f) (inside g) (inside h) (under f g h e))) (fun_ext (λ n. moved-moved (exports n) (inside f) (inside g) (inside h) (under f g h e)))
moved-moved (module_of imports exports) f g h e = refl
moved-moved fresh f g h e = refl
moved-moved (type_equal t) f g h e = ap type_equal (moved-moved t f g h e)
moved-moved (function_item t) f g h e = ap function_item (moved-moved t f g h e)
moved-moved (instance_item t) f g h e = ap instance_item (moved-moved t f g h e)
moved-moved (component_item t) f g h e = ap component_item (moved-moved t f g h e)
moved-moved (module_item t) f g h e = ap module_item (moved-moved t f g h e)
moved-moved (value_item t) f g h e = ap value_item (moved-moved t f g h e)

inside-id : ◌≡◌ {A = Leaf → Leaf} (inside (λ x. x)) (λ l. l)
inside-id = fun_ext (λ l. by_out l.out l.side l.path)
  where
    by_out : (o : ℕ) (s : Side) (p : List Place) → inside (λ x. x) (record { out = o; side = s; path = p }) ≡ record { out = o; side = s; path = p }
    by_out zero s p = refl
    by_out (suc o) s p = refl

-- no change of leaves leaves the tree
pub moved-id : (t : Tree) (f : Leaf → Leaf) → f ≡ (λ l. l) → moved f t ≡ t
moved-id absent f e = refl
moved-id (resource l) f e = ap (λ (k : Leaf → Leaf). resource (k l)) e
moved-id (primitive n) f e = refl
moved-id (own l) f e = ap (λ (k : Leaf → Leaf). own (k l)) e
moved-id (borrow l) f e = ap (λ (k : Leaf → Leaf). borrow (k l)) e
moved-id (record_of names parts) f e = ap (record_of names) (fun_ext (λ i. moved-id (parts i) f e))
moved-id (variant_of names parts) f e = ap (variant_of names) (fun_ext (λ i. moved-id (parts i) f e))
moved-id (list_of t) f e = ap list_of (moved-id t f e)
moved-id (fixed_list_of n t) f e = ap (fixed_list_of n) (moved-id t f e)
moved-id (tuple_of n parts) f e = ap (tuple_of n) (fun_ext (λ i. moved-id (parts i) f e))
moved-id (flags_of names) f e = refl
moved-id (enum_of names) f e = refl
moved-id (option_of t) f e = ap option_of (moved-id t f e)
moved-id (result_of t u) f e = ap2 result_of (moved-id t f e) (moved-id u f e)
moved-id (stream_of t) f e = ap stream_of (moved-id t f e)
moved-id (future_of t) f e = ap future_of (moved-id t f e)
moved-id (function is_async names params result) f e = ap2 (function is_async names) (fun_ext (λ i. moved-id (params i) f e)) (moved-id result f e)
moved-id (instance items) f e = ap instance (fun_ext (λ n. moved-id (items n) (inside f) (ap inside e ∙ inside-id)))
moved-id (component imports exports) f e = ap2 component (fun_ext (λ n. moved-id (imports n) (inside f) (ap inside e ∙ inside-id))) (fun_ext (λ n. moved-id (exports n) (inside f) (ap inside e ∙ inside-id)))
moved-id (module_of imports exports) f e = refl
moved-id fresh f e = refl
moved-id (type_equal t) f e = ap type_equal (moved-id t f e)
moved-id (function_item t) f e = ap function_item (moved-id t f e)
moved-id (instance_item t) f e = ap instance_item (moved-id t f e)
moved-id (component_item t) f e = ap component_item (moved-id t f e)
moved-id (module_item t) f e = ap module_item (moved-id t f e)
moved-id (value_item t) f e = ap value_item (moved-id t f e)

pub held-more : (c : Collection) (m m' : Bindings) (a : AnyType) (t : Tree) → IsHeld c m a t → Extends m m' → held_tree c m' a ≡ t
held-more c m m' a t h x = h (λ l. l) m' x ∙ moved-id t (λ l. l) refl

pub held-here : (c : Collection) (m : Bindings) (a : AnyType) (t : Tree) → IsHeld c m a t → held_tree c m a ≡ t
held-here c m a t h = held-more c m m a t h (λ r l e. e)

pub carries-inside : (c : Collection) (it : Interface) (f : Leaf → Leaf) (m m' : Bindings) → Carries f m m' → Carries (inside f) (inside_interface c it m) (inside_interface c it m')
carries-inside c it f m m' k r l = by_case (own_name c it.uses it.exports r) (m r) refl
  where
    by_case : (o : Option Name) (b : Option Leaf) → m r ≡ b → option_case o (option_case b None (λ x. Some (further_out x))) (λ n. Some (own_leaf n)) ≡ Some l → option_case o (option_case (m' r) None (λ x. Some (further_out x))) (λ n. Some (own_leaf n)) ≡ Some (inside f l)
    by_case (Some n) b e h = ap (on (inside f)) h
    by_case None None e h = let no_none : None ≡ Some l = h in cc
    by_case None (Some x) e h = ap (on further_out) (k r x e) ∙ ap (on (inside f)) h

abbrev pub taken : Side → List Place → Leaf → Leaf
taken side path l = taken_at side path l.out l.side l.path

-- then what stands inside the instance is, taken from it, what it is outside
pub taken-inside : (c : Collection) (i : Interface) (side : Side) (path : List Place) (m : Bindings) → BindsInstance c i side path m → changed (taken side path) (inside_interface c i m) ≡ m
taken-inside c i side path m b = fun_ext (λ r. by_case r (own_name c i.uses i.exports r) (b r))
  where
    further : (o : Option Leaf) → on (taken side path) (option_case o None (λ l. Some (further_out l))) ≡ o
    further None = refl
    further (Some l) = refl

    by_case : (r : ResourceId) (o : Option Name) → ((n : Name) → o ≡ Some n → m r ≡ Some (record { out = 0; side = side; path = path ++ named n ∷ [] })) → on (taken side path) (option_case o (option_case (m r) None (λ l. Some (further_out l))) (λ n. Some (own_leaf n))) ≡ m r
    by_case r (Some n) h = sym (h n refl)
    by_case r None h = further (m r)

-- a type taken from an instance that binds its interface's resources is the held tree of that type
pub held-taken : (c : Collection) (i : Interface) (side : Side) (path : List Place) (m : Bindings) → BindsInstance c i side path m → (t : AnyType) → taken_from side path (held_tree c (inside_interface c i m) t) ≡ held_tree c m t
held-taken c i side path m b t = held-moves c (taken side path) (inside_interface c i m) t ∙ ap (λ (k : Bindings). held_tree c k t) (taken-inside c i side path m b)
