-- What is written of value types and functions is what is held, where its parts are.
use Rattle.std.specs.Prelude.{ℕ, zero, suc, ◌≡◌, Bool, List, [], ◌∷◌, length, map, Option, Some, None, slice_get}
use Rattle.std.specs.List.{AllZip, AllByRecursion}
use Rattle.std.proofs.Common.{refl, ap, ◌∙◌, sym, subst}
use Rattle.std.proofs.Math.Path.{fun_ext}
use Rattle.wac_types_shapes.specs.primitives.Name.{Name, option_case}
use Rattle.wac_types_shapes.specs.declared.primitives.component.PrimitiveType.{PrimitiveType}
use Rattle.wac_types_shapes.specs.declared.shapes.component.ResourceId.{ResourceId}
use Rattle.wac_types_shapes.specs.declared.shapes.component.DefinedTypeId.{DefinedTypeId}
use Rattle.wac_types_shapes.specs.declared.shapes.component.FuncTypeId.{FuncTypeId}
use Rattle.wac_types_shapes.specs.declared.shapes.component.FuncType.{FuncType}
use Rattle.wac_types_shapes.specs.declared.shapes.component.DefinedType.{DefinedType}
use Rattle.wac_types_shapes.specs.declared.shapes.component.DefinedType.TheVariants as def
use Rattle.wac_types_shapes.specs.declared.shapes.component.ValueType.{ValueType}
use Rattle.wac_types_shapes.specs.declared.shapes.component.ValueType.TheVariants as val
use Rattle.wac_types_shapes.specs.declared.shapes.component.«Type».{«Type» as AnyType}
use Rattle.wac_types_shapes.specs.declared.shapes.component.«Type».TheVariants as ty
use Rattle.wac_types_shapes.specs.primitives.Tree.{Leaf, Tree, absent, resource, primitive, own, borrow, record_of, variant_of, list_of, fixed_list_of, tuple_of, flags_of, enum_of, option_of, result_of, stream_of, future_of, function, own_of, borrow_of, moved}
use Rattle.wac_types_collection.specs.collection.Collection.{Collection, IsWellFormed, item_at}
use Rattle.wac_types_collection.specs.collection.Held.{resolved, part_at, option_tree, defined_tree, func_tree, of_held}
use Rattle.wac_types_collection.specs.collection.Bound.{Bindings, by_place, held_tree}
use Rattle.wac_encode_stacks.proofs.Unfolded.{unfolded_step, held_item, within}
use Rattle.wac_binary.specs.declared.types.ComponentValType.{ComponentValType}
use Rattle.wac_binary.specs.declared.types.ComponentValType.TheVariants.{Primitive, Index}
use Rattle.wac_binary.specs.Items.{ValueDef, record_def, variant_def, list_def, fixed_list_def, tuple_def, flags_def, enum_def, option_def, result_def, own_def, borrow_def, stream_def, future_def, TypeDef, func_def}
use Rattle.wac_binary.specs.Unfold.{Scope, type_at, val as val_in, option_val, value_tree, tree_of}
use Rattle.wac_binary.specs.HasMeaning.{IsValue, IsResource, IsFunction, ValHasMeaning, OptionHasMeaning, ValueHasMeaning, TypeHasMeaning}
use Rattle.wac_encode_stacks.specs.Good.{At, Keeps, Means, IsHeld, Carries}
use Rattle.wac_encode_stacks.specs.private.Parts.{Is, MaybeIs, IsWritten, IsWrittenFunc}
use Rattle.wac_encode_stacks.proofs.Grow.{at-type_at}
use Rattle.wac_encode_stacks.proofs.Moved.{ap2}

abbrev pub held_value : Collection → Bindings → ValueType → Tree
held_value c m v = held_tree c m (ty.Value v)

pub means-keeps : (e f : Scope) (t : Tree) (x : ComponentValType) → Keeps e f → Means e t x → Means f t x
means-keeps e f t (Primitive p) k h = h
means-keeps e f t (Index i) k h = (k.types i t h.0, h.1)

pub is-keeps : (c : Collection) (m : Bindings) (e f : Scope) (a : AnyType) (x : ComponentValType) → Keeps e f → Is c m e a x → Is c m f a x
is-keeps c m e f a x k h = (h.0, h.1, means-keeps e f h.0 x k h.2)

pub means-val : (e : Scope) (t : Tree) (x : ComponentValType) → Means e t x → val_in e x ≡ t
means-val e t (Primitive p) h = sym h
means-val e t (Index i) h = at-type_at e.types i t h.0

pub is-val : (c : Collection) (m : Bindings) (e : Scope) (a : AnyType) (x : ComponentValType) → Is c m e a x → IsHeld c m a (val_in e x)
is-val c m e a x h f m' k = h.1 f m' k ∙ ap (moved f) (sym (means-val e h.0 x h.2))

maybe-val : (c : Collection) (m : Bindings) (e : Scope) (v : Option ValueType) (x : Option ComponentValType) → MaybeIs c m e v x → (f : Leaf → Leaf) (m' : Bindings) → Carries f m m' → option_tree (held_value c m') v ≡ moved f (option_val e x)
maybe-val c m e None None h f m' k = refl
maybe-val c m e (Some v) (Some x) h f m' k = is-val c m e (ty.Value v) x h f m' k
maybe-val c m e None (Some x) h f m' k = absurd h
maybe-val c m e (Some v) None h f m' k = absurd h

zip-parts : {A B : Type 0} (R : A → B → Type 0) (f : Leaf → Leaf) (g : A → Tree) (h : B → Tree) → ((a : A) (b : B) → R a b → g a ≡ moved f (h b)) → (xs : List A) (ys : List B) → AllZip R xs ys → (i : ℕ) → part_at (map g xs) i ≡ moved f (type_at (map h ys) i)
zip-parts R f g h ok [] [] z i = refl
zip-parts R f g h ok (x ∷ xs) (y ∷ ys) z zero = ok x y z.0
zip-parts R f g h ok (x ∷ xs) (y ∷ ys) z (suc i) = zip-parts R f g h ok xs ys z.1 i
zip-parts R f g h ok [] (y ∷ ys) z i = absurd z
zip-parts R f g h ok (x ∷ xs) [] z i = absurd z

zip-length : {A B : Type 0} (R : A → B → Type 0) (xs : List A) (ys : List B) → AllZip R xs ys → length xs ≡ length ys
zip-length R [] [] z = refl
zip-length R (x ∷ xs) (y ∷ ys) z = ap suc (zip-length R xs ys z.1)
zip-length R [] (y ∷ ys) z = absurd z
zip-length R (x ∷ xs) [] z = absurd z

zip-names : {A B : Type 0} (R : Name × A → Name × B → Type 0) → ((a : Name × A) (b : Name × B) → R a b → a.0 ≡ b.0) → (xs : List (Name × A)) (ys : List (Name × B)) → AllZip R xs ys → map (λ e. e.0) xs ≡ map (λ e. e.0) ys
zip-names R ok [] [] z = refl
zip-names R ok (x ∷ xs) (y ∷ ys) z = ap2 (λ a b. a ∷ b) (ok x y z.0) (zip-names R ok xs ys z.1)
zip-names R ok [] (y ∷ ys) z = absurd z
zip-names R ok (x ∷ xs) [] z = absurd z

-- what is written is the held definition
pub written-tree : (c : Collection) (m : Bindings) (e : Scope) (d : DefinedType) (x : ValueDef) → IsWritten c m e d x → (f : Leaf → Leaf) (m' : Bindings) → Carries f m m' → defined_tree (held_value c m') d ≡ moved f (value_tree x e)
written-tree c m e (def.Tuple vs) (tuple_def xs) h f m' k = ap2 tuple_of (zip-length (λ v x. Is c m e (ty.Value v) x) vs xs h) (fun_ext (λ i. zip-parts (λ v x. Is c m e (ty.Value v) x) f (held_value c m') (val_in e) (λ v x s. is-val c m e (ty.Value v) x s f m' k) vs xs h i))
written-tree c m e (def.List v) (list_def x) h f m' k = ap list_of (is-val c m e (ty.Value v) x h f m' k)
written-tree c m e (def.FixedSizeList v n) (fixed_list_def x j) h f m' k = ap2 fixed_list_of (sym h.0) (is-val c m e (ty.Value v) x h.1 f m' k)
written-tree c m e (def.Option v) (option_def x) h f m' k = ap option_of (is-val c m e (ty.Value v) x h f m' k)
written-tree c m e (def.Result ok err) (result_def x y) h f m' k = ap2 result_of (maybe-val c m e ok x h.0 f m' k) (maybe-val c m e err y h.1 f m' k)
written-tree c m e (def.Variant v) (variant_def xs) h f m' k = ap2 variant_of (zip-names (λ a b. (b.0 ≡ a.0) × MaybeIs c m e a.1 b.1) (λ a b s. sym s.0) v.cases xs h) (fun_ext (λ i. zip-parts (λ a b. (b.0 ≡ a.0) × MaybeIs c m e a.1 b.1) f (λ a. option_tree (held_value c m') a.1) (λ b. option_val e b.1) (λ a b s. maybe-val c m e a.1 b.1 s.1 f m' k) v.cases xs h i))
written-tree c m e (def.Record v) (record_def xs) h f m' k = ap2 record_of (zip-names (λ a b. (b.0 ≡ a.0) × Is c m e (ty.Value a.1) b.1) (λ a b s. sym s.0) v.fields xs h) (fun_ext (λ i. zip-parts (λ a b. (b.0 ≡ a.0) × Is c m e (ty.Value a.1) b.1) f (λ a. held_value c m' a.1) (λ b. val_in e b.1) (λ a b s. is-val c m e (ty.Value a.1) b.1 s.1 f m' k) v.fields xs h i))
written-tree c m e (def.Flags names) (flags_def xs) h f m' k = ap flags_of (sym h)
written-tree c m e (def.Enum names) (enum_def xs) h f m' k = ap enum_of (sym h)
written-tree c m e (def.Stream v) (stream_def x) h f m' k = ap stream_of (maybe-val c m e v x h f m' k)
written-tree c m e (def.Future v) (future_def x) h f m' k = ap future_of (maybe-val c m e v x h f m' k)
written-tree c m e d x h f m' k = absurd h

pub defined-step : (c : Collection) → IsWellFormed c → (d : DefinedTypeId) (x : DefinedType) → item_at c.defined d.0 ≡ Some x → (m : Bindings) → held_value c m (val.Defined d) ≡ defined_tree (held_value c m) x
unfolding held_tree
defined-step c wf d x at m =
    let h = held_item (slice_get c.defined d.0) x at in
    unfolded_step (by_place c) c wf m (ty.Value (val.Defined d)) (within c.defined d.0 h.0 h.1) ∙ ap (of_held (defined_tree (held_value c m))) h.1 ∙ ap (defined_tree (held_value c m)) h.2

pub func-step : (c : Collection) → IsWellFormed c → (f : FuncTypeId) (x : FuncType) → item_at c.funcs f.0 ≡ Some x → (m : Bindings) → held_tree c m (ty.Func f) ≡ func_tree (held_value c m) x
unfolding held_tree
func-step c wf f x at m =
    let h = held_item (slice_get c.funcs f.0) x at in
    unfolded_step (by_place c) c wf m (ty.Func f) (within c.funcs f.0 h.0 h.1) ∙ ap (of_held (func_tree (held_value c m))) h.1 ∙ ap (func_tree (held_value c m)) h.2

-- a value type that is written so is held
pub defined-held : (c : Collection) → IsWellFormed c → (m : Bindings) (e : Scope) (d : DefinedTypeId) (x : DefinedType) (y : ValueDef) → item_at c.defined d.0 ≡ Some x → IsWritten c m e x y → IsHeld c m (ty.Value (val.Defined d)) (value_tree y e)
defined-held c wf m e d x y at w f m' k = defined-step c wf d x at m' ∙ written-tree c m e x y w f m' k

-- an alias is what it names
pub alias-held : (c : Collection) → IsWellFormed c → (m : Bindings) (d : DefinedTypeId) (v : ValueType) (t : Tree) → item_at c.defined d.0 ≡ Some (def.Alias v) → IsHeld c m (ty.Value v) t → IsHeld c m (ty.Value (val.Defined d)) t
alias-held c wf m d v t at h f m' k = defined-step c wf d (def.Alias v) at m' ∙ h f m' k

-- and what it names is what the alias is
pub alias-end : (c : Collection) → IsWellFormed c → (m : Bindings) (d : DefinedTypeId) (v : ValueType) (t : Tree) → item_at c.defined d.0 ≡ Some (def.Alias v) → IsHeld c m (ty.Value (val.Defined d)) t → IsHeld c m (ty.Value v) t
alias-end c wf m d v t at h f m' k = sym (defined-step c wf d (def.Alias v) at m') ∙ h f m' k

-- a function type that is written so is held
pub func-held : (c : Collection) → IsWellFormed c → (m : Bindings) (e : Scope) (out : List Scope) (f : FuncTypeId) (x : FuncType) (d : TypeDef) → item_at c.funcs f.0 ≡ Some x → IsWrittenFunc c m e x d → IsHeld c m (ty.Func f) (tree_of d e out)
func-held c wf m e out f x (func_def is_async xs y) at w g m' k =
    func-step c wf f x at m'
    ∙ ap (λ (b : Bool). function b (map (λ p. p.0) x.params) (part_at (map (λ p. held_value c m' p.1) x.params)) (option_tree (held_value c m') x.result)) (sym w.0)
    ∙ ap (λ (ns : List Name). function is_async ns (part_at (map (λ p. held_value c m' p.1) x.params)) (option_tree (held_value c m') x.result)) (zip-names (λ a b. (b.0 ≡ a.0) × Is c m e (ty.Value a.1) b.1) (λ a b s. sym s.0) x.params xs w.1)
    ∙ ap2 (function is_async (map (λ p. p.0) xs)) (fun_ext (λ i. zip-parts (λ a b. (b.0 ≡ a.0) × Is c m e (ty.Value a.1) b.1) g (λ a. held_value c m' a.1) (λ b. val_in e b.1) (λ a b s. is-val c m e (ty.Value a.1) b.1 s.1 g m' k) x.params xs w.1 i)) (maybe-val c m e x.result y w.2 g m' k)
func-held c wf m e out f x d at w g m' k = absurd w

pub own-held : (c : Collection) (m : Bindings) (r : ResourceId) (l : Leaf) → m (resolved c r) ≡ Some l → IsHeld c m (ty.Value (val.Own r)) (own l)
unfolding held_tree
own-held c m r l h f m' k = ap (λ (o : Option Leaf). option_case o absent own) (k (resolved c r) l h)

pub borrow-held : (c : Collection) (m : Bindings) (r : ResourceId) (l : Leaf) → m (resolved c r) ≡ Some l → IsHeld c m (ty.Value (val.Borrow r)) (borrow l)
unfolding held_tree
borrow-held c m r l h f m' k = ap (λ (o : Option Leaf). option_case o absent borrow) (k (resolved c r) l h)

pub resource-held : (c : Collection) (m : Bindings) (r : ResourceId) (l : Leaf) → m (resolved c r) ≡ Some l → IsHeld c m (ty.Resource r) (resource l)
unfolding held_tree
resource-held c m r l h f m' k = ap (λ (o : Option Leaf). option_case o absent resource) (k (resolved c r) l h)

pub primitive-held : (c : Collection) (m : Bindings) (p : PrimitiveType) → IsHeld c m (ty.Value (val.Primitive p)) (primitive p)
unfolding held_tree
primitive-held c m p f m' k = refl

pub own-tree : (e : Scope) (i : ℕ) (l : Leaf) → At e.types i (resource l) → value_tree (own_def i) e ≡ own l
own-tree e i l at = ap own_of (at-type_at e.types i (resource l) at)

pub borrow-tree : (e : Scope) (i : ℕ) (l : Leaf) → At e.types i (resource l) → value_tree (borrow_def i) e ≡ borrow l
borrow-tree e i l at = ap borrow_of (at-type_at e.types i (resource l) at)

-- what is written so has a meaning, and is a value type or a function

val-meaning : (c : Collection) (m : Bindings) (e : Scope) (a : AnyType) (x : ComponentValType) → Is c m e a x → ValHasMeaning e x
val-meaning c m e a (Primitive p) h = tt
val-meaning c m e a (Index i) h = subst IsValue (sym (at-type_at e.types i h.0 h.2.0)) h.2.1

maybe-meaning : (c : Collection) (m : Bindings) (e : Scope) (v : Option ValueType) (x : Option ComponentValType) → MaybeIs c m e v x → OptionHasMeaning e x
maybe-meaning c m e v None h = tt
maybe-meaning c m e (Some v) (Some x) h = val-meaning c m e (ty.Value v) x h
maybe-meaning c m e None (Some x) h = absurd h

zip-all : {A B : Type 0} (R : A → B → Type 0) (P : B → Type 0) → ((a : A) (b : B) → R a b → P b) → (xs : List A) (ys : List B) → AllZip R xs ys → AllByRecursion P ys
zip-all R P ok [] [] z = tt
zip-all R P ok (x ∷ xs) (y ∷ ys) z = (ok x y z.0, zip-all R P ok xs ys z.1)
zip-all R P ok [] (y ∷ ys) z = absurd z
zip-all R P ok (x ∷ xs) [] z = absurd z

pub written-meaning : (c : Collection) (m : Bindings) (e : Scope) (d : DefinedType) (x : ValueDef) → IsWritten c m e d x → ValueHasMeaning x e
written-meaning c m e (def.Tuple vs) (tuple_def xs) h = zip-all (λ v x. Is c m e (ty.Value v) x) (ValHasMeaning e) (λ v x s. val-meaning c m e (ty.Value v) x s) vs xs h
written-meaning c m e (def.List v) (list_def x) h = val-meaning c m e (ty.Value v) x h
written-meaning c m e (def.FixedSizeList v n) (fixed_list_def x j) h = val-meaning c m e (ty.Value v) x h.1
written-meaning c m e (def.Option v) (option_def x) h = val-meaning c m e (ty.Value v) x h
written-meaning c m e (def.Result ok err) (result_def x y) h = (maybe-meaning c m e ok x h.0, maybe-meaning c m e err y h.1)
written-meaning c m e (def.Variant v) (variant_def xs) h = zip-all (λ a b. (b.0 ≡ a.0) × MaybeIs c m e a.1 b.1) (λ f. OptionHasMeaning e f.1) (λ a b s. maybe-meaning c m e a.1 b.1 s.1) v.cases xs h
written-meaning c m e (def.Record v) (record_def xs) h = zip-all (λ a b. (b.0 ≡ a.0) × Is c m e (ty.Value a.1) b.1) (λ f. ValHasMeaning e f.1) (λ a b s. val-meaning c m e (ty.Value a.1) b.1 s.1) v.fields xs h
written-meaning c m e (def.Flags names) (flags_def xs) h = tt
written-meaning c m e (def.Enum names) (enum_def xs) h = tt
written-meaning c m e (def.Stream v) (stream_def x) h = maybe-meaning c m e v x h
written-meaning c m e (def.Future v) (future_def x) h = maybe-meaning c m e v x h
written-meaning c m e d x h = absurd h

pub written-value : (c : Collection) (m : Bindings) (e : Scope) (d : DefinedType) (x : ValueDef) → IsWritten c m e d x → IsValue (value_tree x e)
written-value c m e (def.Tuple vs) (tuple_def xs) h = tt
written-value c m e (def.List v) (list_def x) h = tt
written-value c m e (def.FixedSizeList v n) (fixed_list_def x j) h = tt
written-value c m e (def.Option v) (option_def x) h = tt
written-value c m e (def.Result ok err) (result_def x y) h = tt
written-value c m e (def.Variant v) (variant_def xs) h = tt
written-value c m e (def.Record v) (record_def xs) h = tt
written-value c m e (def.Flags names) (flags_def xs) h = tt
written-value c m e (def.Enum names) (enum_def xs) h = tt
written-value c m e (def.Stream v) (stream_def x) h = tt
written-value c m e (def.Future v) (future_def x) h = tt
written-value c m e d x h = absurd h

pub func-meaning : (c : Collection) (m : Bindings) (e : Scope) (out : List Scope) (x : FuncType) (d : TypeDef) → IsWrittenFunc c m e x d → TypeHasMeaning d e out
func-meaning c m e out x (func_def is_async xs y) w = (zip-all (λ a b. (b.0 ≡ a.0) × Is c m e (ty.Value a.1) b.1) (λ f. ValHasMeaning e f.1) (λ a b s. val-meaning c m e (ty.Value a.1) b.1 s.1) x.params xs w.1, maybe-meaning c m e x.result y w.2)
func-meaning c m e out x d w = absurd w

pub func-function : (c : Collection) (m : Bindings) (e : Scope) (out : List Scope) (x : FuncType) (d : TypeDef) → IsWrittenFunc c m e x d → IsFunction (tree_of d e out)
func-function c m e out x (func_def is_async xs y) w = tt
func-function c m e out x d w = absurd w

pub at-resource : (e : Scope) (i : ℕ) (l : Leaf) → At e.types i (resource l) → IsResource (type_at e.types i)
at-resource e i l at = subst IsResource (sym (at-type_at e.types i (resource l) at)) tt
