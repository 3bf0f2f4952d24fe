-- A held tree with its leaves changed is the held tree under the changed bindings.
use Rattle.std.specs.Prelude.{ℕ, zero, suc, ◌≡◌, ◌&&◌, Bool, true, false, not, List, [], ◌∷◌, ◌++◌, map, filter, length, Option, Some, None, if◌then◌else◌, slice_get, ◌==◌, is_some, is_none, nat_lt}
use Rattle.std.proofs.Common.{arith, refl, ap, ◌∙◌, sym}
use Rattle.std.proofs.Math.Path.{fun_ext}
use Rattle.std.proofs.Math.Dec.{eqb-suc-zero}
use Rattle.std.proofs.lemmas.Bool.{eqb-true}
use Rattle.wac_types_shapes.proofs.lemmas.shapes.Names.{same_name-true, same_name-from}
use Rattle.wac_types_shapes.specs.primitives.Name.{Name, same_name, find_name, option_case, first_some}
use Rattle.wac_types_shapes.specs.declared.shapes.component.ResourceId.{ResourceId}
use Rattle.wac_types_shapes.specs.declared.shapes.component.FuncType.{FuncType}
use Rattle.wac_types_shapes.specs.declared.shapes.component.DefinedType.{DefinedType}
use Rattle.wac_types_shapes.specs.declared.shapes.component.DefinedType.TheVariants as def
use Rattle.wac_types_shapes.specs.declared.shapes.component.Interface.{Interface}
use Rattle.wac_types_shapes.specs.declared.shapes.component.World.{World}
use Rattle.wac_types_shapes.specs.declared.shapes.component.UsedType.{UsedType}
use Rattle.wac_types_shapes.specs.declared.shapes.component.ValueType.{ValueType}
use Rattle.wac_types_shapes.specs.declared.shapes.component.ValueType.TheVariants as val
use Rattle.wac_types_shapes.specs.declared.shapes.component.«Type».{«Type» as AnyType}
use Rattle.wac_types_shapes.specs.declared.shapes.component.«Type».TheVariants as ty
use Rattle.wac_types_shapes.specs.declared.shapes.component.ItemKind.{ItemKind}
use Rattle.wac_types_shapes.specs.declared.shapes.component.ItemKind.TheVariants as kind
use Rattle.wac_types_collection.specs.declared.collection.collection.Held.{Held}
use Rattle.wac_types_collection.specs.collection.Collection.{Collection, size, item_at}
use Rattle.wac_types_shapes.specs.primitives.Tree.{Side, imported, exported, Place, named, Leaf, Tree, absent, resource, own, borrow, record_of, variant_of, list_of, fixed_list_of, tuple_of, option_of, result_of, stream_of, future_of, function, instance, component, type_equal, function_item, instance_item, component_item, module_item, value_item, further_out, inside, moved, taken_at, taken_from}
use Rattle.wac_types_collection.specs.collection.Held.{source_of, resolved, part_at, items_under, option_tree, defined_tree, func_tree, item_tree, of_held, listed_tree, interface_tree, world_tree, module_tree, step, unfolded_to}
use Rattle.wac_types_collection.specs.collection.Bound.{Bindings, is_alias, lists_own, own_name, inside_interface, bound_by, bound_in_order, lists_type, first_bound, bound_by_imports, bound_in_world, same_side, same_path, is_here, binds_here, by_place, held_tree}
use Rattle.wac_types_collection.proofs.lemmas.collection.Chains.{resource_ends}
use Rattle.wac_types_collection.specs.collection.HeldTrees.{MovesTwice, MovesNothing, changed_leaf, changed, BindsInstance, OwnIsItsEnd, FreshByOwnName, ItemsAreFound, FoundIsHeld, SameNamesAreEqual}

abbrev pub Unfolder : Type 0
Unfolder = Bindings → AnyType → Tree

pub ap2 : {A B C : Type 0} (f : A → B → C) {a a' : A} {b b' : B} → a ≡ a' → b ≡ b' → f a b ≡ f a' b'
ap2 f {a' = a'} {b = b} p q = ap (λ x. f x b) p ∙ ap (f a') q

abbrev pub own_leaf : Name → Leaf
own_leaf n = record { out = 0; side = exported; path = named n ∷ [] }

-- a change of leaves outside is the same change, one scope further in, inside an interface
pub inside_changed : (c : Collection) (i : Interface) (f : Leaf → Leaf) (m : Bindings) → changed (inside f) (inside_interface c i m) ≡ inside_interface c i (changed f m)
inside_changed c i f m = fun_ext (λ r. by_case (own_name c i.uses i.exports r) (m r))
  where
    by_case : (o : Option Name) (b : Option Leaf) → changed_leaf (inside f) (option_case o (option_case b None (λ l. Some (further_out l))) (λ n. Some (own_leaf n))) ≡ option_case o (option_case (changed_leaf f b) None (λ l. Some (further_out l))) (λ n. Some (own_leaf n))
    by_case (Some n) b = refl
    by_case None None = refl
    by_case None (Some l) = refl

pub moved_part_at : (f : Leaf → Leaf) {A : Type 0} (g h : A → Tree) (xs : List A) (i : ℕ) → ((a : A) → moved f (g a) ≡ h a) → moved f (part_at (map g xs) i) ≡ part_at (map h xs) i
moved_part_at f g h [] i e = refl
moved_part_at f g h (x ∷ xs) zero e = e x
moved_part_at f g h (x ∷ xs) (suc i) e = moved_part_at f g h xs i e

moved_items : (f : Leaf → Leaf) {A : Type 0} (g h : Name × A → Tree) (xs : List (Name × A)) (n : Name) → ((a : Name × A) → moved f (g a) ≡ h a) → moved f (items_under (map (λ e. (e.0, g e)) xs) n) ≡ items_under (map (λ e. (e.0, h e)) xs) n
moved_items f g h [] n e = refl
moved_items f g h (x ∷ xs) n e = by_case (same_name n x.0) (moved_items f g h xs n e)
  where
    by_case : (b : Bool) → moved f (items_under (map (λ y. (y.0, g y)) xs) n) ≡ items_under (map (λ y. (y.0, h y)) xs) n → moved f (if b then g x else items_under (map (λ y. (y.0, g y)) xs) n) ≡ (if b then h x else items_under (map (λ y. (y.0, h y)) xs) n)
    by_case true rest = e x
    by_case false rest = rest

moved_leaf : (f : Leaf → Leaf) (o : Option Leaf) (g : Leaf → Tree) → ((l : Leaf) → moved f (g l) ≡ g (f l)) → moved f (option_case o absent g) ≡ option_case (changed_leaf f o) absent g
moved_leaf f None g e = refl
moved_leaf f (Some l) g e = e l

moved_held : (f : Leaf → Leaf) {A : Type 0} (o : Option (Held A)) (g h : A → Tree) → ((a : A) → moved f (g a) ≡ h a) → moved f (of_held g o) ≡ of_held h o
moved_held f None g h e = refl
moved_held f (Some x) g h e = e x.item

pub moved_option : (f : Leaf → Leaf) (g h : ValueType → Tree) (o : Option ValueType) → ((a : ValueType) → moved f (g a) ≡ h a) → moved f (option_tree g o) ≡ option_tree h o
moved_option f g h None e = refl
moved_option f g h (Some v) e = e v

moved_defined : (f : Leaf → Leaf) (g h : ValueType → Tree) (d : DefinedType) → ((a : ValueType) → moved f (g a) ≡ h a) → moved f (defined_tree g d) ≡ defined_tree h d
moved_defined f g h (def.Tuple vs) e = ap (tuple_of (length vs)) (fun_ext (λ i. moved_part_at f g h vs i e))
moved_defined f g h (def.List v) e = ap list_of (e v)
moved_defined f g h (def.FixedSizeList v n) e = ap (fixed_list_of n) (e v)
moved_defined f g h (def.Option v) e = ap option_of (e v)
moved_defined f g h (def.Result ok err) e = ap2 result_of (moved_option f g h ok e) (moved_option f g h err e)
moved_defined f g h (def.Variant v) e = ap (variant_of (map (λ x. x.0) v.cases)) (fun_ext (λ i. moved_part_at f (λ x. option_tree g x.1) (λ x. option_tree h x.1) v.cases i (λ x. moved_option f g h x.1 e)))
moved_defined f g h (def.Record r) e = ap (record_of (map (λ x. x.0) r.fields)) (fun_ext (λ i. moved_part_at f (λ x. g x.1) (λ x. h x.1) r.fields i (λ x. e x.1)))
moved_defined f g h (def.Flags names) e = refl
moved_defined f g h (def.Enum names) e = refl
moved_defined f g h (def.Alias v) e = e v
moved_defined f g h (def.Stream v) e = ap stream_of (moved_option f g h v e)
moved_defined f g h (def.Future v) e = ap future_of (moved_option f g h v e)

moved_func : (f : Leaf → Leaf) (g h : ValueType → Tree) (t : FuncType) → ((a : ValueType) → moved f (g a) ≡ h a) → moved f (func_tree g t) ≡ func_tree h t
moved_func f g h t e = ap2 (function t.is_async (map (λ p. p.0) t.params)) (fun_ext (λ i. moved_part_at f (λ p. g p.1) (λ p. h p.1) t.params i (λ p. e p.1))) (moved_option f g h t.result e)

moved_item : (f : Leaf → Leaf) (g h : AnyType → Tree) (b : Bool) (k : ItemKind) → ((a : AnyType) → moved f (g a) ≡ h a) → moved f (item_tree g b k) ≡ item_tree h b k
moved_item f g h true (kind.TypeItem a) e = refl
moved_item f g h false (kind.TypeItem a) e = ap type_equal (e a)
moved_item f g h b (kind.Func k) e = ap function_item (e (ty.Func k))
moved_item f g h b (kind.Instance i) e = ap instance_item (e (ty.Interface i))
moved_item f g h b (kind.Component w) e = ap component_item (e (ty.World w))
moved_item f g h b (kind.Module k) e = ap module_item (e (ty.Module k))
moved_item f g h b (kind.Value v) e = ap value_item (e (ty.Value v))

-- what is bound here stays here, and nothing else comes here
here_kept : (side : Side) (path : List Place) (f : Leaf → Leaf) (o : Option Leaf) → is_here side path (changed_leaf (inside f) o) ≡ is_here side path o
here_kept side path f None = refl
here_kept side path f (Some l) = by_out l.out l.side l.path
  where
    by_out : (k : ℕ) (s : Side) (p : List Place) → is_here side path (Some (inside f (record { out = k; side = s; path = p }))) ≡ is_here side path (Some (record { out = k; side = s; path = p }))
    by_out zero s p = refl
    by_out (suc k) s p = let l : Leaf = f (record { out = k; side = s; path = p }) in ap (λ b. b && (same_side l.side side && same_path l.path path)) (eqb-suc-zero l.out) ∙ ap (λ b. b && (same_side s side && same_path p path)) (sym (eqb-suc-zero k))

binds_kept : (c : Collection) (f : Leaf → Leaf) (m m' : Bindings) (side : Side) (path : List Place) (k : ItemKind) → changed (inside f) m ≡ m' → binds_here c m side path k ≡ binds_here c m' side path k
binds_kept c f m m' side path (kind.TypeItem (ty.Resource r)) e = sym (here_kept side path f (m (resolved c r))) ∙ ap (λ (b : Bindings). is_here side path (b (resolved c r))) e
binds_kept c f m m' side path k e = refl

-- u commutes with every change of leaves
abbrev pub Moves : Unfolder → Type 0
Moves u = (f : Leaf → Leaf) (m : Bindings) (t : AnyType) → moved f (u m t) ≡ u (changed f m) t

moved_listed : (c : Collection) (u : Unfolder) → Moves u → (f : Leaf → Leaf) (m m' : Bindings) (side : Side) (es : List (Name × ItemKind)) (n : Name) → changed (inside f) m ≡ m' → moved (inside f) (listed_tree (by_place c) c u m side es n) ≡ listed_tree (by_place c) c u m' side es n
moved_listed c u e f m m' side es n same = moved_items (inside f) (λ x. item_tree (u m) (binds_here c m side (named x.0 ∷ []) x.1) x.1) (λ x. item_tree (u m') (binds_here c m' side (named x.0 ∷ []) x.1) x.1) es n
    (λ x. moved_item (inside f) (u m) (u m') (binds_here c m side (named x.0 ∷ []) x.1) x.1 (λ a. e (inside f) m a ∙ ap (λ (b : Bindings). u b a) same) ∙ ap (λ b. item_tree (u m') b x.1) (binds_kept c f m m' side (named x.0 ∷ []) x.1 same))

moved_interface : (c : Collection) (u : Unfolder) → Moves u → (f : Leaf → Leaf) (m : Bindings) (i : Interface) → moved f (interface_tree (by_place c) c u m i) ≡ interface_tree (by_place c) c u (changed f m) i
moved_interface c u e f m i = ap instance (fun_ext (λ n. moved_listed c u e f (inside_interface c i m) (inside_interface c i (changed f m)) exported i.exports n (inside_changed c i f m)))

first_kept : (g : Leaf → Leaf) (a b : Option Leaf) → changed_leaf g a ≡ a → changed_leaf g b ≡ b → changed_leaf g (first_some a b) ≡ first_some a b
first_kept g None b p q = q
first_kept g (Some l) b p q = p

case_kept : (g : Leaf → Leaf) {A : Type 0} (o : Option A) (k : A → Option Leaf) → ((a : A) → changed_leaf g (k a) ≡ k a) → changed_leaf g (option_case o None k) ≡ option_case o None k
case_kept g None k e = refl
case_kept g (Some a) k e = e a

if_kept : (g : Leaf → Leaf) (b : Bool) (o : Option Leaf) → changed_leaf g o ≡ o → changed_leaf g (if b then o else None) ≡ (if b then o else None)
if_kept g true o e = e
if_kept g false o e = refl

bound_by_kept : (c : Collection) (uses : List (Name × UsedType)) (side : Side) (f : Leaf → Leaf) (n : Name) (k : ItemKind) (r : ResourceId) → changed_leaf (inside f) (bound_by c uses side (n, k) r) ≡ bound_by c uses side (n, k) r
bound_by_kept c uses side f n (kind.TypeItem t) r = if_kept (inside f) (lists_own c uses r (n, kind.TypeItem t)) _ refl
bound_by_kept c uses side f n (kind.Instance i) r = case_kept (inside f) (item_at c.interfaces i.0) _
    (λ it. case_kept (inside f) it.id _ (λ id. if_kept (inside f) (same_name id n) _ (case_kept (inside f) (own_name c it.uses it.exports r) _ (λ q. refl))))
bound_by_kept c uses side f n k r = refl

order_kept : (c : Collection) (uses : List (Name × UsedType)) (side : Side) (f : Leaf → Leaf) (es : List (Name × ItemKind)) (r : ResourceId) → changed_leaf (inside f) (bound_in_order c uses side es r) ≡ bound_in_order c uses side es r
order_kept c uses side f [] r = refl
order_kept c uses side f (e ∷ es) r = first_kept (inside f) (bound_by c uses side e r) (bound_in_order c uses side es r) (bound_by_kept c uses side f e.0 e.1 r) (order_kept c uses side f es r)

first_bound_kept : (c : Collection) (uses : List (Name × UsedType)) (side : Side) (f : Leaf → Leaf) (es : List (Name × ItemKind)) (r : ResourceId) → changed_leaf (inside f) (first_bound c uses side es r) ≡ first_bound c uses side es r
first_bound_kept c uses side f es r = first_kept (inside f) (bound_in_order c uses side (filter (λ e. not (lists_type e)) es) r) (bound_in_order c uses side (filter lists_type es) r) (order_kept c uses side f (filter (λ e. not (lists_type e)) es) r) (order_kept c uses side f (filter lists_type es) r)

-- what a component type binds, no change of leaves outside touches
pub imports_kept : (c : Collection) (w : World) (f : Leaf → Leaf) → changed (inside f) (bound_by_imports c w) ≡ bound_by_imports c w
imports_kept c w f = fun_ext (λ r. first_bound_kept c w.uses imported f w.imports r)

pub world_kept : (c : Collection) (w : World) (f : Leaf → Leaf) → changed (inside f) (bound_in_world c w) ≡ bound_in_world c w
world_kept c w f = fun_ext (λ r. first_kept (inside f) (bound_by_imports c w r) (first_bound c w.uses exported w.exports r) (first_bound_kept c w.uses imported f w.imports r) (first_bound_kept c w.uses exported f w.exports r))

moved_world : (c : Collection) (u : Unfolder) → Moves u → (f : Leaf → Leaf) (m : Bindings) (w : World) → moved f (world_tree (by_place c) c u m w) ≡ world_tree (by_place c) c u (changed f m) w
moved_world c u e f m w = ap2 component
    (fun_ext (λ n. moved_listed c u e f (bound_by_imports c w) (bound_by_imports c w) imported w.imports n (imports_kept c w f)))
    (fun_ext (λ n. moved_listed c u e f (bound_in_world c w) (bound_in_world c w) exported w.exports n (world_kept c w f)))

pub step_moves : (c : Collection) (u : Unfolder) → Moves u → Moves (step (by_place c) c u)
step_moves c u e f m (ty.Resource r) = moved_leaf f (m (resolved c r)) resource (λ l. refl)
step_moves c u e f m (ty.Func k) = moved_held f (slice_get c.funcs k.0) (func_tree (λ v. u m (ty.Value v))) (func_tree (λ v. u (changed f m) (ty.Value v))) (λ t. moved_func f (λ v. u m (ty.Value v)) (λ v. u (changed f m) (ty.Value v)) t (λ v. e f m (ty.Value v)))
step_moves c u e f m (ty.Value (val.Primitive p)) = refl
step_moves c u e f m (ty.Value (val.Own r)) = moved_leaf f (m (resolved c r)) own (λ l. refl)
step_moves c u e f m (ty.Value (val.Borrow r)) = moved_leaf f (m (resolved c r)) borrow (λ l. refl)
step_moves c u e f m (ty.Value (val.Defined d)) = moved_held f (slice_get c.defined d.0) (defined_tree (λ v. u m (ty.Value v))) (defined_tree (λ v. u (changed f m) (ty.Value v))) (λ t. moved_defined f (λ v. u m (ty.Value v)) (λ v. u (changed f m) (ty.Value v)) t (λ v. e f m (ty.Value v)))
step_moves c u e f m (ty.Interface i) = moved_held f (slice_get c.interfaces i.0) (interface_tree (by_place c) c u m) (interface_tree (by_place c) c u (changed f m)) (moved_interface c u e f m)
step_moves c u e f m (ty.World w) = moved_held f (slice_get c.worlds w.0) (world_tree (by_place c) c u m) (world_tree (by_place c) c u (changed f m)) (moved_world c u e f m)
step_moves c u e f m (ty.Module k) = moved_held f (slice_get c.modules k.0) module_tree module_tree (λ t. refl)

pub unfolded_moves : (c : Collection) (k : ℕ) → Moves (unfolded_to (by_place c) c k)
unfolded_moves c zero f m t = refl
unfolded_moves c (suc k) f m t = step_moves c (unfolded_to (by_place c) c k) (unfolded_moves c k) f m t

-- the held tree commutes with every change of leaves
pub held_moves : (c : Collection) → Moves (held_tree c)
unfolding held_tree
held_moves c = unfolded_moves c (suc (size c))

under : (f g h : Leaf → Leaf) → (λ l. f (g l)) ≡ h → (λ l. inside f (inside g l)) ≡ inside h
under f g h e = fun_ext (λ l. by_out l.out l.side l.path) ∙ ap inside e
  where
    by_out : (o : ℕ) (s : Side) (p : List Place) → inside f (inside g (record { out = o; side = s; path = p })) ≡ inside (λ x. f (g x)) (record { out = o; side = s; path = p })
    by_out zero s p = refl
    by_out (suc o) s p = refl

-- two changes of leaves are one
pub moved_moved : (t : Tree) (f g h : Leaf → Leaf) → (λ l. f (g l)) ≡ h → moved f (moved g t) ≡ moved h t
moved_moved (resource l) f g h e = ap (λ (k : Leaf → Leaf). resource (k l)) e
moved_moved (own l) f g h e = ap (λ (k : Leaf → Leaf). own (k l)) e
moved_moved (borrow l) f g h e = ap (λ (k : Leaf → Leaf). borrow (k l)) e
moved_moved (record_of names parts) f g h e = ap (record_of names) (fun_ext (λ i. moved_moved (parts i) f g h e))
moved_moved (variant_of names parts) f g h e = ap (variant_of names) (fun_ext (λ i. moved_moved (parts i) f g h e))
moved_moved (list_of t) f g h e = ap list_of (moved_moved t f g h e)
moved_moved (fixed_list_of n t) f g h e = ap (fixed_list_of n) (moved_moved t f g h e)
moved_moved (tuple_of n parts) f g h e = ap (tuple_of n) (fun_ext (λ i. moved_moved (parts i) f g h e))
moved_moved (option_of t) f g h e = ap option_of (moved_moved t f g h e)
moved_moved (result_of t u) f g h e = ap2 result_of (moved_moved t f g h e) (moved_moved u f g h e)
moved_moved (stream_of t) f g h e = ap stream_of (moved_moved t f g h e)
moved_moved (future_of t) f g h e = ap future_of (moved_moved t f g h e)
moved_moved (function is_async names params result) f g h e = ap2 (function is_async names) (fun_ext (λ i. moved_moved (params i) f g h e)) (moved_moved result f g h e)
moved_moved (instance items) f g h e = ap instance (fun_ext (λ n. moved_moved (items n) (inside f) (inside g) (inside h) (under f g h e)))
moved_moved (component imports exports) f g h e = ap2 component (fun_ext (λ n. moved_moved (imports n) (inside f) (inside g) (inside h) (under f g h e))) (fun_ext (λ n. moved_moved (exports n) (inside f) (inside g) (inside h) (under f g h e)))
moved_moved (type_equal t) f g h e = ap type_equal (moved_moved t f g h e)
moved_moved (function_item t) f g h e = ap function_item (moved_moved t f g h e)
moved_moved (instance_item t) f g h e = ap instance_item (moved_moved t f g h e)
moved_moved (component_item t) f g h e = ap component_item (moved_moved t f g h e)
moved_moved (module_item t) f g h e = ap module_item (moved_moved t f g h e)
moved_moved (value_item t) f g h e = ap value_item (moved_moved t f g h e)
moved_moved _ f g h e = refl

inside_id : ◌≡◌ {A = Leaf → Leaf} (inside (λ x. x)) (λ l. l)
inside_id = fun_ext (λ l. by_out l.out l.side l.path)
  where
    by_out : (o : ℕ) (s : Side) (p : List Place) → inside (λ x. x) (record { out = o; side = s; path = p }) ≡ record { out = o; side = s; path = p }
    by_out zero s p = refl
    by_out (suc o) s p = refl

-- no change of leaves leaves the tree
pub moved_id : (t : Tree) (f : Leaf → Leaf) → f ≡ (λ l. l) → moved f t ≡ t
moved_id (resource l) f e = ap (λ (k : Leaf → Leaf). resource (k l)) e
moved_id (own l) f e = ap (λ (k : Leaf → Leaf). own (k l)) e
moved_id (borrow l) f e = ap (λ (k : Leaf → Leaf). borrow (k l)) e
moved_id (record_of names parts) f e = ap (record_of names) (fun_ext (λ i. moved_id (parts i) f e))
moved_id (variant_of names parts) f e = ap (variant_of names) (fun_ext (λ i. moved_id (parts i) f e))
moved_id (list_of t) f e = ap list_of (moved_id t f e)
moved_id (fixed_list_of n t) f e = ap (fixed_list_of n) (moved_id t f e)
moved_id (tuple_of n parts) f e = ap (tuple_of n) (fun_ext (λ i. moved_id (parts i) f e))
moved_id (option_of t) f e = ap option_of (moved_id t f e)
moved_id (result_of t u) f e = ap2 result_of (moved_id t f e) (moved_id u f e)
moved_id (stream_of t) f e = ap stream_of (moved_id t f e)
moved_id (future_of t) f e = ap future_of (moved_id t f e)
moved_id (function is_async names params result) f e = ap2 (function is_async names) (fun_ext (λ i. moved_id (params i) f e)) (moved_id result f e)
moved_id (instance items) f e = ap instance (fun_ext (λ n. moved_id (items n) (inside f) (ap inside e ∙ inside_id)))
moved_id (component imports exports) f e = ap2 component (fun_ext (λ n. moved_id (imports n) (inside f) (ap inside e ∙ inside_id))) (fun_ext (λ n. moved_id (exports n) (inside f) (ap inside e ∙ inside_id)))
moved_id (type_equal t) f e = ap type_equal (moved_id t f e)
moved_id (function_item t) f e = ap function_item (moved_id t f e)
moved_id (instance_item t) f e = ap instance_item (moved_id t f e)
moved_id (component_item t) f e = ap component_item (moved_id t f e)
moved_id (module_item t) f e = ap module_item (moved_id t f e)
moved_id (value_item t) f e = ap value_item (moved_id t f e)
moved_id _ f e = refl

abbrev pub taken : Side → List Place → Leaf → Leaf
taken side path l = taken_at side path l.out l.side l.path

-- then what stands inside the instance is, taken from it, what it is outside
pub taken_inside : (c : Collection) (i : Interface) (side : Side) (path : List Place) (m : Bindings) → BindsInstance c i side path m → changed (taken side path) (inside_interface c i m) ≡ m
taken_inside c i side path m b = fun_ext (λ r. by_case r (own_name c i.uses i.exports r) (b r))
  where
    further : (o : Option Leaf) → changed_leaf (taken side path) (option_case o None (λ l. Some (further_out l))) ≡ o
    further None = refl
    further (Some l) = refl

    by_case : (r : ResourceId) (o : Option Name) → ((n : Name) → o ≡ Some n → m r ≡ Some (record { out = 0; side = side; path = path ++ named n ∷ [] })) → changed_leaf (taken side path) (option_case o (option_case (m r) None (λ l. Some (further_out l))) (λ n. Some (own_leaf n))) ≡ m r
    by_case r (Some n) h = sym (h n refl)
    by_case r None h = further (m r)

-- a type taken from an instance that binds its interface's resources is the held tree of that type
pub held_taken : (c : Collection) (i : Interface) (side : Side) (path : List Place) (m : Bindings) → BindsInstance c i side path m → (t : AnyType) → taken_from side path (held_tree c (inside_interface c i m) t) ≡ held_tree c m t
held_taken c i side path m b t = held_moves c (taken side path) (inside_interface c i m) t ∙ ap (λ (k : Bindings). held_tree c k t) (taken_inside c i side path m b)

-- what is listed as its own is no alias
own_no_alias : (c : Collection) (uses : List (Name × UsedType)) (es : List (Name × ItemKind)) (r : ResourceId) (n : Name) → own_name c uses es r ≡ Some n → is_alias c r ≡ false
own_no_alias c uses [] r n h = let no_none : None ≡ Some n = h in cc
own_no_alias c uses ((k, kind.TypeItem (ty.Resource q)) ∷ es) r n h = by_case (q.0 == r.0) refl (is_alias c q) refl (is_none (find_name uses k)) h (own_no_alias c uses es r n)
  where
    same_id : (q.0 == r.0) ≡ true → is_alias c r ≡ is_alias c q
    same_id s = ap (λ j. is_some (source_of (slice_get c.resources j))) (sym (eqb-true q.0 r.0 s))

    by_case : (b : Bool) → (q.0 == r.0) ≡ b → (a : Bool) → is_alias c q ≡ a → (z : Bool) → (if b && (not a && z) then Some k else own_name c uses es r) ≡ Some n → (own_name c uses es r ≡ Some n → is_alias c r ≡ false) → is_alias c r ≡ false
    by_case true s false i z x more = same_id s ∙ i
    by_case true s true i z x more = more x
    by_case false s a i z x more = more x
own_no_alias c uses (e ∷ es) r n h = own_no_alias c uses es r n h

pub own_is_end : OwnIsItsEnd
own_is_end c i r n mine = resource_ends (length c.resources) c r (none (source_of (slice_get c.resources r.0)) (own_no_alias c i.uses i.exports r n mine))
  where
    none : (o : Option ResourceId) → is_some o ≡ false → o ≡ None
    none None h = refl
    none (Some q) h = cc

-- nothing from around is bound here
not_here : (side : Side) (path : List Place) (o : Option Leaf) → is_here side path (option_case o None (λ l. Some (further_out l))) ≡ false
not_here side path None = refl
not_here side path (Some l) = ap (λ b. b && (same_side l.side side && same_path l.path path)) (eqb-suc-zero l.out)

here_named : (q n : Name) → is_here exported (named n ∷ []) (Some (own_leaf q)) ≡ same_name q n
here_named q n = by_case (same_name q n)
  where
    by_case : (b : Bool) → (if b then true else false) ≡ b
    by_case true = refl
    by_case false = refl

pub fresh_in_interface : FreshByOwnName
fresh_in_interface c it m n r = by_case (own_name c it.uses it.exports (resolved c r))
  where
    by_case : (o : Option Name) → is_here exported (named n ∷ []) (option_case o (option_case (m (resolved c r)) None (λ l. Some (further_out l))) (λ k. Some (own_leaf k))) ≡ option_case o false (λ q. same_name q n)
    by_case None = not_here exported (named n ∷ []) (m (resolved c r))
    by_case (Some q) = here_named q n

pub items_found : ItemsAreFound
items_found g [] n = refl
items_found g (e ∷ es) n = by_case (same_name n e.0) refl (items_found g es n)
  where
    by_case : (b : Bool) → same_name n e.0 ≡ b → items_under (map (λ x. (x.0, g x)) es) n ≡ option_case (find_name es n) absent (λ k. g (n, k)) → (if b then g e else items_under (map (λ x. (x.0, g x)) es) n) ≡ option_case (if b then Some e.1 else find_name es n) absent (λ k. g (n, k))
    by_case true s i = ap (λ x. g (x, e.1)) (sym (same_name-true n e.0 s))
    by_case false s i = i

at_there : {A : Type 0} (xs : List (Held A)) (i : ℕ) (x : A) → item_at xs i ≡ Some x → nat_lt i (length xs) ≡ true
at_there [] i x e = cc
at_there (y ∷ ys) zero x e = grind arith
at_there (y ∷ ys) (suc i) x e = let h = at_there ys i x e in grind arith

pub found_is_held : (c : Collection) → FoundIsHeld c
found_is_held c = record {
  resource = λ i. at_there c.resources i.0;
  func = λ i. at_there c.funcs i.0;
  defined = λ i. at_there c.defined i.0;
  interface = λ i. at_there c.interfaces i.0;
  world = λ i. at_there c.worlds i.0;
  module_type = λ i. at_there c.modules i.0;
}

pub same_names : SameNamesAreEqual
same_names a b = (λ s. same_name-true a b s, λ e. same_name-from a b e)

pub twice_moved : MovesTwice
twice_moved t f g = moved_moved t f g (λ l. f (g l)) refl

pub unmoved : MovesNothing
unmoved t = moved_id t (λ l. l) refl
