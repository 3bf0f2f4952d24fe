-- The steps of a type encoder that add one type index.
use Rattle.std.specs.Prelude.{zero, suc, ◌≡◌, List, [], ◌∷◌, Some}
use Rattle.std.proofs.Common.{refl, ap, ◌∙◌}
use Rattle.wac_types_shapes.specs.declared.shapes.component.ResourceId.{ResourceId}
use Rattle.wac_types_shapes.specs.declared.shapes.component.ValueType.TheVariants as val
use Rattle.wac_types_shapes.specs.declared.shapes.component.«Type».TheVariants as ty
use Rattle.wac_types_shapes.specs.primitives.Tree.{Leaf, Tree, resource, primitive, own, borrow, out_by, seen_from}
use Rattle.wac_types_collection.specs.collection.Collection.{Collection}
use Rattle.wac_types_collection.specs.collection.Bound.{Bindings}
use Rattle.wac_binary.specs.Items.{TypeDef, value_def, func_def, own_def, borrow_def, primitive_def, export_alias}
use Rattle.wac_binary.specs.declared.sorts.Sort.TheVariants as s
use Rattle.wac_binary.specs.Unfold.{Scope, scope_at, value_tree, tree_of}
use Rattle.wac_encode_stacks.specs.private.Reads.{Reads}
use Rattle.wac_encode_stacks.specs.Scopes.{at_type, Open, Stack, env, envs, next_type, with_alias_of, bind_at, defined, at_export, How, index_at, export_at}
use Rattle.wac_encode_stacks.specs.Good.{IsHeld, Good, top, seen_inside, IsOf}
use Rattle.wac_encode_stacks.specs.private.Parts.{IsWrittenFunc}
use Rattle.wac_encode_stacks.specs.private.Laws.{Adds, DefinesValue, DefinesFunc, DefinesPrimitive, DefinesHandles, Reaches, BringsResource, BringsType, SettlesResource, SettlesValue, GoesOnAround, Follows, StaysIs, IsRecorded, StandsRecorded, IsItsTree, RecordsType, IsExported}
use Rattle.wac_encode_stacks.proofs.Meant.{value-type}
use Rattle.wac_encode_stacks.proofs.Grow.{grown-at, kept-refl}
use Rattle.wac_encode_stacks.proofs.Moved.{held-here}
use Rattle.wac_encode_stacks.proofs.Steps.{OneMore, good-bind_at, one-more-def, one-more-export, one-more-outer, top-onward, outer-onward, onward-trans, good-index_at, good-export_at}
use Rattle.wac_encode_stacks.proofs.Values.{is-keeps, defined-held, func-held, own-held, borrow-held, own-tree, borrow-tree, written-meaning, written-value, func-meaning, func-function, at-resource}
use Rattle.wac_types_shapes.specs.declared.shapes.component.«Type».{«Type» as AnyType}

-- one type index more, and nothing recorded
pub added : (c : Collection) (m : Bindings) (ms : List Bindings) (o o' : Open) (os : Stack) (t : Tree) → Good c (m ∷ ms) (o ∷ os) → OneMore c m (top ms) o o' (envs os) t → Adds c (m ∷ ms) (o ∷ os) (o' ∷ os) (next_type o) t
added c m ms o o' os t g more = (top-onward c m ms o o' os g more.good more.kept, more.at)

-- and recorded as the index of a type
pub added-type : (c : Collection) (m : Bindings) (ms : List Bindings) (o o' : Open) (os : Stack) (a : AnyType) (how : How) (t : Tree) → Good c (m ∷ ms) (o ∷ os) → OneMore c m (top ms) o o' (envs os) t → IsHeld c m a t → IsOf a t → Adds c (m ∷ ms) (o ∷ os) (index_at a how (next_type o) o' ∷ os) (next_type o) t
added-type c m ms o o' os a how t g more held sort = (top-onward c m ms o (index_at a how (next_type o) o') os g (good-index_at c m (top ms) o' (envs os) a how (next_type o) t more.good held sort more.at) more.kept, more.at)

-- and recorded as a resource
pub added-resource : (c : Collection) (m : Bindings) (ms : List Bindings) (o o' : Open) (os : Stack) (r : ResourceId) (l : Leaf) → Good c (m ∷ ms) (o ∷ os) → OneMore c m (top ms) o o' (envs os) (resource l) → m r ≡ Some l → Adds c (m ∷ ms) (o ∷ os) (bind_at r (at_type (next_type o)) o' ∷ os) (next_type o) (resource l)
added-resource c m ms o o' os r l g more bound = (top-onward c m ms o (bind_at r (at_type (next_type o)) o') os g (good-bind_at c m (top ms) o' (envs os) r (at_type (next_type o)) l more.good bound more.at) more.kept, more.at)

pub defines-value : Reads → DefinesValue
defines-value reads c wf m ms o os d x y g at w =
    let held = defined-held c wf m (env o (envs os)) d x y at w in
    let value = written-value c m (env o (envs os)) x y w in
    (value_tree y (env o (envs os)), held, value, added-type c m ms o _ os (ty.Value (val.Defined d)) defined (value_tree y (env o (envs os))) g ((one-more-def reads) c m (top ms) o (envs os) (value_def y) (value_tree y (env o (envs os))) g.0 (written-meaning c m (env o (envs os)) x y w) (λ out' u. refl)) held value)

func-tree-around : (c : Collection) (m : Bindings) (e : Scope) (f : _) (d : TypeDef) (out out' : List Scope) → IsWrittenFunc c m e f d → tree_of d e out' ≡ tree_of d e out
func-tree-around c m e f (func_def a ps r) out out' w = refl
func-tree-around c m e f d out out' w = absurd w

pub defines-func : Reads → DefinesFunc
defines-func reads c wf m ms o os f x d g at w =
    let held = func-held c wf m (env o (envs os)) (envs os) f x d at w in
    let function_ = func-function c m (env o (envs os)) (envs os) x d w in
    (tree_of d (env o (envs os)) (envs os), held, function_, added-type c m ms o _ os (ty.Func f) defined (tree_of d (env o (envs os)) (envs os)) g ((one-more-def reads) c m (top ms) o (envs os) d (tree_of d (env o (envs os)) (envs os)) g.0 (func-meaning c m (env o (envs os)) (envs os) x d w) (λ out' u. func-tree-around c m (env o (envs os)) x d (envs os) out' w)) held function_)

pub defines-primitive : Reads → DefinesPrimitive
defines-primitive reads c m ms o os p g = added c m ms o _ os (primitive p) g ((one-more-def reads) c m (top ms) o (envs os) (value_def (primitive_def p)) (primitive p) g.0 tt (λ out' u. refl))

pub defines-handles : Reads → DefinesHandles
defines-handles reads c m ms o os r i l g bound at =
    let w = own-held c m r l bound in
    let b = borrow-held c m r l bound in (
      (w, added-type c m ms o _ os (ty.Value (val.Own r)) defined (own l) g ((one-more-def reads) c m (top ms) o (envs os) (value_def (own_def i)) (own l) g.0 (at-resource (env o (envs os)) i l at) (λ out' u. own-tree (env o (envs os)) i l at)) w tt),
      (b, added-type c m ms o _ os (ty.Value (val.Borrow r)) defined (borrow l) g ((one-more-def reads) c m (top ms) o (envs os) (value_def (borrow_def i)) (borrow l) g.0 (at-resource (env o (envs os)) i l at) (λ out' u. borrow-tree (env o (envs os)) i l at)) b tt),
    )

pub reaches : Reaches
reaches c [] [] r k w g h = absurd h
reaches c [] (o ∷ os) r k w g h = absurd g
reaches c (m ∷ ms) [] r k w g h = absurd g
reaches c (m ∷ ms) (o ∷ os) r zero w g h = g.0.binds r w h
reaches c (m ∷ ms) (o ∷ os) r (suc k) w g h =
    let b = reaches c ms os r k w g.1 h.1 in
    (b.0, g.0.unbound r h.0 ∙ ap seen_inside b.1, b.2)

pub brings-resource : Reads → BringsResource
brings-resource reads c m ms o os r k i l g bound at = added-resource c m ms o _ os r (out_by (suc k) l) g ((one-more-outer reads) c m (top ms) o (envs os) k i (resource l) g.0 tt at) bound

pub brings-type : Reads → BringsType
brings-type reads c m ms o os k i t g type at = added c m ms o _ os (seen_from (suc k) t) g ((one-more-outer reads) c m (top ms) o (envs os) k i t g.0 type at)

pub settles-resource : Reads → SettlesResource
settles-resource reads c m ms o os r j n l g bound st = added-resource c m ms o _ os r l g ((one-more-export reads) c m (top ms) o (envs os) j n (resource l) g.0 tt st) bound

pub settles-value : Reads → SettlesValue
settles-value reads c m ms o os d j n g there =
    let t = g.0.exports d (at_export j n) there in
    let more = (one-more-export reads) c m (top ms) o (envs os) j n t.0 g.0 (value-type t.0 t.2) t.3 in
    (t.0, t.1, t.2, (top-onward c m ms o (export_at d (at_type (next_type o)) (with_alias_of (export_alias s.Type j n) o)) os g (good-export_at c m (top ms) (with_alias_of (export_alias s.Type j n) o) (envs os) d (at_type (next_type o)) t.0 more.good t.1 t.2 more.at) more.kept, more.at))

pub records-type : RecordsType
records-type c m ms o os a how i t g held sort at = top-onward c m ms o (index_at a how i o) os g (good-index_at c m (top ms) o (envs os) a how i t g.0 held sort at) (kept-refl (env o (envs os)))

pub goes-on-around : Reads → GoesOnAround
goes-on-around reads = (outer-onward reads)

pub follows : Follows
follows = onward-trans

pub stays-is : StaysIs
stays-is c ms st st' a x n h = is-keeps c (top ms) (scope_at (envs st) 0) (scope_at (envs st') 0) a x (grown-at (envs st) (envs st') 0 n.1) h

pub is-recorded : IsRecorded
is-recorded c m ms o os v x g at = let t = g.0.types (ty.Value v) x at in (t.0, t.1, (t.3, t.2))

pub is-exported : IsExported
is-exported c m ms o os d i g at = let t = g.0.exports d (at_type i) at in (t.0, t.1, (t.3, t.2))

pub stands-recorded : StandsRecorded
stands-recorded c m ms o os a x g at = g.0.types a x at

pub is-its-tree : IsItsTree
is-its-tree = held-here
