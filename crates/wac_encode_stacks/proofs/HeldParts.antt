-- The parts of what is held are held, and what is held further out is held here.
use Rattle.std.specs.Prelude.{ℕ, zero, suc, ◌≡◌, Bool, true, false, if◌then◌else◌, List, [], ◌∷◌, map, Option, Some, None}
use Rattle.std.specs.List.{AllByRecursion}
use Rattle.std.proofs.Common.{refl, ap, ◌∙◌, sym, subst}
use Rattle.std.proofs.Math.Path.{fun_ext}
use Rattle.wac_types_shapes.specs.primitives.Name.{Name, find_name, option_case}
use Rattle.wac_types_shapes.specs.primitives.Tree.{Side, imported, exported, Place, named, Leaf, Tree, absent, resource, own, borrow, record_of, variant_of, list_of, fixed_list_of, tuple_of, option_of, result_of, stream_of, future_of, function, further_out, inside, moved, out_by, items_in, type_in}
use Rattle.wac_types_shapes.specs.declared.shapes.component.ResourceId.{ResourceId}
use Rattle.wac_types_shapes.specs.declared.shapes.component.InterfaceId.{InterfaceId}
use Rattle.wac_types_shapes.specs.declared.shapes.component.DefinedType.{DefinedType}
use Rattle.wac_types_shapes.specs.declared.shapes.component.DefinedType.TheVariants as def
use Rattle.wac_types_shapes.specs.declared.shapes.component.FuncType.{FuncType}
use Rattle.wac_types_shapes.specs.declared.shapes.component.Interface.{Interface}
use Rattle.wac_types_shapes.specs.declared.shapes.component.ValueType.{ValueType}
use Rattle.wac_types_shapes.specs.declared.shapes.component.ValueType.TheVariants as val
use Rattle.wac_types_shapes.specs.declared.shapes.component.«Type».{«Type» as AnyType}
use Rattle.wac_types_shapes.specs.declared.shapes.component.«Type».TheVariants as ty
use Rattle.wac_types_shapes.specs.declared.shapes.component.ItemKind.{ItemKind}
use Rattle.wac_types_shapes.specs.declared.shapes.component.ItemKind.TheVariants as kind
use Rattle.wac_types_collection.specs.collection.Collection.{Collection, IsWellFormed, item_at, seconds, and_maybe, case_values, func_values, defined_values}
use Rattle.wac_types_collection.specs.collection.Held.{resolved, part_at, option_tree, func_tree, defined_tree, item_tree, interface_tree}
use Rattle.wac_types_collection.specs.collection.Bound.{Bindings, own_name, inside_interface, binds_here, by_place, held_tree}
use Rattle.wac_binary.specs.HasMeaning.{IsValue, IsResource}
use Rattle.wac_encode_stacks.specs.Good.{IsHeld, IsClosed, Carries}
use Rattle.wac_encode_stacks.specs.Instances.{IsApart}
use Rattle.wac_encode_stacks.specs.Listed.{IsItem}
use Rattle.wac_encode_stacks.specs.private.HeldParts.{HeldCarried, HeldFurtherIn, HeldUnderMore, HoldsAll, HoldsParts, HoldsFuncParts, HoldsItems, HandlesAreBound, ResourceIsBound}
use Rattle.wac_encode_stacks.proofs.Moved.{on, changed, own_leaf, held-here, held-moves, moved-moved, moved-defined, moved-func}
use Rattle.wac_encode_stacks.proofs.Values.{held_value, defined-step, func-step}
use Rattle.wac_encode_stacks.proofs.HeldValues.{value-moved, called_somehow, still-called, own-value, borrow-value}
use Rattle.wac_encode_stacks.proofs.Whole.{items-found, interface-step, here-inside}

pub held-carried : HeldCarried
held-carried c g m m' a t x h f n y = h (λ l. f (g l)) n (λ r l e. y r (g l) (x r l e)) ∙ sym (moved-moved t f g (λ l. f (g l)) refl)

pub held-further-in : HeldFurtherIn
held-further-in c far m k a t x h = held-carried c (out_by k) far m a t x h

pub held-under-more : HeldUnderMore
held-under-more c m m' a t more h f n x = h f n (λ r l e. x r l (more r l e))

-- bindings that give these resources what far binds them to, with its leaves changed, and all others what n gives them
abbrev pub mixed : (Leaf → Leaf) → (ResourceId → Bool) → Bindings → Bindings → Bindings
mixed f these far n r = if these r then on f (far r) else n r

-- what does not depend on these resources is held wherever the leaves of all others are carried
pub apart-carried : (c : Collection) (g : Leaf → Leaf) (these : ResourceId → Bool) (far m : Bindings) (a : AnyType) (t : Tree) → IsApart c these a → ((r : ResourceId) (l : Leaf) → these r ≡ false → far r ≡ Some l → m r ≡ Some (g l)) → IsHeld c far a t → IsHeld c m a (moved g t)
apart-carried c g these far m a t apart carries h f n y =
    apart n (mixed (λ l. f (g l)) these far n) (λ r other. sym (ap (λ (b : Bool). if b then on (λ l. f (g l)) (far r) else n r) other))
    ∙ h (λ l. f (g l)) (mixed (λ l. f (g l)) these far n) (λ r l at. carried r l at (these r) refl)
    ∙ sym (moved-moved t f g (λ l. f (g l)) refl)
  where
    carried : (r : ResourceId) (l : Leaf) → far r ≡ Some l → (b : Bool) → these r ≡ b → (if these r then on (λ k. f (g k)) (far r) else n r) ≡ Some (f (g l))
    carried r l at true is = ap (λ (b : Bool). if b then on (λ k. f (g k)) (far r) else n r) is ∙ ap (on (λ k. f (g k))) at
    carried r l at false is = ap (λ (b : Bool). if b then on (λ k. f (g k)) (far r) else n r) is ∙ y r (g l) (carries r l is at)

-- what means no resource is held wherever its leaves are carried
pub closed-carried : (c : Collection) (g : Leaf → Leaf) (far m : Bindings) (a : AnyType) (t : Tree) → IsClosed c a → IsHeld c far a t → IsHeld c m a (moved g t)
closed-carried c g far m a t closed h f n y =
    closed.1 (λ l. f (g l)) n (λ r l e. let no_some : None ≡ Some l = e in cc)
    ∙ sym (moved-moved closed.0 (λ l. f (g l)) (λ l. l) (λ l. f (g l)) refl)
    ∙ ap (moved (λ l. f (g l))) (sym (closed.1 (λ l. l) far (λ r l e. let no_some : None ≡ Some l = e in cc)) ∙ held-here c far a t h)
    ∙ sym (moved-moved t f g (λ l. f (g l)) refl)

-- handles and resources

own-bound : (o : Option Leaf) → IsValue (option_case o absent own) → (l : Leaf) × (o ≡ Some l)
own-bound None h = absurd h
own-bound (Some l) h = (l, refl)

borrow-bound : (o : Option Leaf) → IsValue (option_case o absent borrow) → (l : Leaf) × (o ≡ Some l)
borrow-bound None h = absurd h
borrow-bound (Some l) h = (l, refl)

resource-bound : (o : Option Leaf) → IsResource (option_case o absent resource) → (l : Leaf) × (o ≡ Some l)
resource-bound None h = absurd h
resource-bound (Some l) h = (l, refl)

resource-moved : (f : Leaf → Leaf) (t : Tree) → IsResource (moved f t) → IsResource t
resource-moved f absent h = absurd h
resource-moved f t h = h

resource-somehow : (o : Option Leaf) → IsResource (option_case (option_case o (Some (record { out = 0; side = imported; path = [] })) (λ l. Some l)) absent resource)
resource-somehow None = tt
resource-somehow (Some l) = tt

resource-called : (c : Collection) (m : Bindings) (r : ResourceId) → IsResource (held_tree c (called_somehow m) (ty.Resource r))
unfolding held_tree
resource-called c m r = resource-somehow (m (resolved c r))

own-of : (c : Collection) (m : Bindings) (r : ResourceId) → IsValue (held_tree c m (ty.Value (val.Own r))) → (l : Leaf) × (m (resolved c r) ≡ Some l)
unfolding held_tree
own-of c m r h = own-bound (m (resolved c r)) h

borrow-of : (c : Collection) (m : Bindings) (r : ResourceId) → IsValue (held_tree c m (ty.Value (val.Borrow r))) → (l : Leaf) × (m (resolved c r) ≡ Some l)
unfolding held_tree
borrow-of c m r h = borrow-bound (m (resolved c r)) h

resource-of : (c : Collection) (m : Bindings) (r : ResourceId) → IsResource (held_tree c m (ty.Resource r)) → (l : Leaf) × (m (resolved c r) ≡ Some l)
unfolding held_tree
resource-of c m r h = resource-bound (m (resolved c r)) h

pub handles-are-bound : HandlesAreBound
handles-are-bound c m r = (
  λ h. own-of c m r (subst IsValue (sym (held-here c m (ty.Value (val.Own r)) h.0 h.1)) (value-moved (λ l. l) h.0 (subst IsValue (h.1 (λ l. l) (called_somehow m) (still-called m)) (own-value c m r)))),
  λ h. borrow-of c m r (subst IsValue (sym (held-here c m (ty.Value (val.Borrow r)) h.0 h.1)) (value-moved (λ l. l) h.0 (subst IsValue (h.1 (λ l. l) (called_somehow m) (still-called m)) (borrow-value c m r)))),
)

pub resource-is-bound : ResourceIsBound
resource-is-bound c m r h = resource-of c m r (subst IsResource (sym (held-here c m (ty.Resource r) h.0 h.1)) (resource-moved (λ l. l) h.0 (subst IsResource (h.1 (λ l. l) (called_somehow m) (still-called m)) (resource-called c m r))))

-- the parts of value types and functions

abbrev part_in : Tree → ℕ → Tree
part_in (record_of names parts) = parts
part_in (variant_of names parts) = parts
part_in (tuple_of n parts) = parts
part_in (function is_async names parts r) = parts
part_in _ = λ i. absent

abbrev element_in : Tree → Tree
element_in (list_of t) = t
element_in (fixed_list_of n t) = t
element_in (option_of t) = t
element_in (stream_of t) = t
element_in (future_of t) = t
element_in (result_of t u) = t
element_in (function is_async names parts r) = r
element_in _ = absent

abbrev error_in : Tree → Tree
error_in (result_of t u) = u
error_in _ = absent

module _ (g h : ValueType → Tree) where
  abbrev Same : List ValueType → Type 0
  Same vs = AllByRecursion (λ v. g v ≡ h v) vs

  values-parts : (vs : List ValueType) → ((i : ℕ) → part_at (map g vs) i ≡ part_at (map h vs) i) → Same vs
  values-parts [] e = tt
  values-parts (v ∷ vs) e = (e zero, values-parts vs (λ i. e (suc i)))

  seconds-parts : (es : List (Name × ValueType)) → ((i : ℕ) → part_at (map (λ p. g p.1) es) i ≡ part_at (map (λ p. h p.1) es) i) → Same (seconds es)
  seconds-parts [] e = tt
  seconds-parts (x ∷ es) e = (e zero, seconds-parts es (λ i. e (suc i)))

  maybe-part : (o : Option ValueType) (vs : List ValueType) → option_tree g o ≡ option_tree h o → Same vs → Same (and_maybe o vs)
  maybe-part None vs e s = s
  maybe-part (Some v) vs e s = (e, s)

  cases-parts : (es : List (Name × Option ValueType)) → ((i : ℕ) → part_at (map (λ e. option_tree g e.1) es) i ≡ part_at (map (λ e. option_tree h e.1) es) i) → Same (case_values es)
  cases-parts [] e = tt
  cases-parts (x ∷ es) e = maybe-part x.1 (case_values es) (e zero) (cases-parts es (λ i. e (suc i)))

  at-part : (t u : Tree) → t ≡ u → (i : ℕ) → part_in t i ≡ part_in u i
  at-part t u e i = ap (λ (x : Tree). part_in x i) e

  defined-parts : (d : DefinedType) → defined_tree g d ≡ defined_tree h d → Same (defined_values d)
  defined-parts (def.Tuple vs) e = values-parts vs (at-part _ _ e)
  defined-parts (def.List v) e = (ap element_in e, tt)
  defined-parts (def.FixedSizeList v n) e = (ap element_in e, tt)
  defined-parts (def.Option v) e = (ap element_in e, tt)
  defined-parts (def.Result ok err) e = maybe-part ok (and_maybe err []) (ap element_in e) (maybe-part err [] (ap error_in e) tt)
  defined-parts (def.Variant v) e = cases-parts v.cases (at-part _ _ e)
  defined-parts (def.Record r) e = seconds-parts r.fields (at-part _ _ e)
  defined-parts (def.Flags names) e = tt
  defined-parts (def.Enum names) e = tt
  defined-parts (def.Alias v) e = (e, tt)
  defined-parts (def.Stream v) e = maybe-part v [] (ap element_in e) tt
  defined-parts (def.Future v) e = maybe-part v [] (ap element_in e) tt

  func-parts : (f : FuncType) → func_tree g f ≡ func_tree h f → Same (func_values f)
  func-parts f e = maybe-part f.result (seconds f.params) (ap element_in e) (seconds-parts f.params (at-part _ _ e))

-- what holds of each part wherever the leaves are carried
all-held : (c : Collection) (m : Bindings) (vs : List ValueType) → ((f : Leaf → Leaf) (m' : Bindings) → Carries f m m' → AllByRecursion (λ v. held_value c m' v ≡ moved f (held_value c m v)) vs) → HoldsAll c m vs
all-held c m [] h = tt
all-held c m (v ∷ vs) h = ((held_value c m v, λ f m' x. (h f m' x).0), all-held c m vs (λ f m' x. (h f m' x).1))

pub holds-parts : HoldsParts
holds-parts c wf m d x at h = all-held c m (defined_values x) (λ f m' y. defined-parts (held_value c m') (λ v. moved f (held_value c m v)) x
    (sym (defined-step c wf d x at m')
    ∙ h.1 f m' y
    ∙ ap (moved f) (sym (held-here c m (ty.Value (val.Defined d)) h.0 h.1) ∙ defined-step c wf d x at m)
    ∙ moved-defined f (held_value c m) (λ v. moved f (held_value c m v)) x (λ v. refl)))

pub holds-func-parts : HoldsFuncParts
holds-func-parts c wf m k x at h = all-held c m (func_values x) (λ f m' y. func-parts (held_value c m') (λ v. moved f (held_value c m v)) x
    (sym (func-step c wf k x at m')
    ∙ h.1 f m' y
    ∙ ap (moved f) (sym (held-here c m (ty.Func k) h.0 h.1) ∙ func-step c wf k x at m)
    ∙ moved-func f (held_value c m) (λ v. moved f (held_value c m v)) x (λ v. refl)))

-- the items of an interface

-- out of the scope inside, where what that binds is carried by f
abbrev out_at : (Leaf → Leaf) → ℕ → Side → List Place → Leaf
out_at f zero s p = f (record { out = 0; side = s; path = p })
out_at f (suc o) s p = record { out = o; side = s; path = p }

abbrev outward : (Leaf → Leaf) → Leaf → Leaf
outward f l = out_at f l.out l.side l.path

abbrev from_outside : (Leaf → Leaf) → Leaf → Leaf
from_outside f l = f (further_out l)

outward-inside : (f : Leaf → Leaf) → ◌≡◌ {A = Leaf → Leaf} (λ l. outward f (inside (from_outside f) l)) f
outward-inside f = fun_ext (λ l. by_out l.out l.side l.path)
  where
    by_out : (o : ℕ) (s : Side) (p : List Place) → outward f (inside (from_outside f) (record { out = o; side = s; path = p })) ≡ f (record { out = o; side = s; path = p })
    by_out zero s p = refl
    by_out (suc o) s p = refl

module _ (c : Collection) (it : Interface) (m m' : Bindings) (f : Leaf → Leaf) (x : Carries f (inside_interface c it m) m') where
  -- around the interface, where inside it is as m' says
  abbrev around_it : Bindings
  around_it r = option_case (own_name c it.uses it.exports r) (m' r) (λ n. on (from_outside f) (m r))

  around-carries : Carries (from_outside f) m around_it
  around-carries r l e = by_case (own_name c it.uses it.exports r) (x r)
    where
      by_case : (o : Option Name) → ((k : Leaf) → option_case o (option_case (m r) None (λ y. Some (further_out y))) (λ n. Some (own_leaf n)) ≡ Some k → m' r ≡ Some (f k)) → option_case o (m' r) (λ n. on (from_outside f) (m r)) ≡ Some (from_outside f l)
      by_case (Some n) h = ap (on (from_outside f)) e
      by_case None h = h (further_out l) (ap (on further_out) e)

  outward-around : changed (outward f) (inside_interface c it around_it) ≡ m'
  outward-around = fun_ext (λ r. by_case r (own_name c it.uses it.exports r) (x r))
    where
      further : (o : Option Leaf) → on (outward f) (option_case o None (λ l. Some (further_out l))) ≡ o
      further None = refl
      further (Some l) = refl

      by_case : (r : ResourceId) (o : Option Name) → ((k : Leaf) → option_case o (option_case (m r) None (λ y. Some (further_out y))) (λ n. Some (own_leaf n)) ≡ Some k → m' r ≡ Some (f k)) → on (outward f) (option_case o (option_case (option_case o (m' r) (λ n. on (from_outside f) (m r))) None (λ y. Some (further_out y))) (λ n. Some (own_leaf n))) ≡ m' r
      by_case r (Some n) h = sym (h (own_leaf n) refl)
      by_case r None h = further (m' r)

-- a type that is changed inside the interface as it is outside is held there
held-inside : (c : Collection) (it : Interface) (m : Bindings) (a : AnyType) → ((g : Leaf → Leaf) (n : Bindings) → Carries g m n → held_tree c (inside_interface c it n) a ≡ moved (inside g) (held_tree c (inside_interface c it m) a)) → IsHeld c (inside_interface c it m) a (held_tree c (inside_interface c it m) a)
held-inside c it m a natural f m' x =
    ap (λ (k : Bindings). held_tree c k a) (sym (outward-around c it m m' f x))
    ∙ sym (held-moves c (outward f) (inside_interface c it (around_it c it m m' f x)) a)
    ∙ ap (moved (outward f)) (natural (from_outside f) (around_it c it m m' f x) (around-carries c it m m' f x))
    ∙ moved-moved (held_tree c (inside_interface c it m) a) (outward f) (inside (from_outside f)) f (outward-inside f)

-- the item of an instance under a name
abbrev pub inner_item : Collection → Bindings → Interface → Name → ItemKind → Tree
inner_item c m it n k = item_tree (held_tree c (inside_interface c it m)) (binds_here c (inside_interface c it m) exported (named n ∷ []) k) k

listed-item : (c : Collection) (m : Bindings) (it : Interface) (n : Name) (k : ItemKind) → find_name it.exports n ≡ Some k → items_in (interface_tree (by_place c) c (held_tree c) m it) n ≡ inner_item c m it n k
listed-item c m it n k f = items-found (λ e. item_tree (held_tree c (inside_interface c it m)) (binds_here c (inside_interface c it m) exported (named e.0 ∷ []) e.1) e.1) it.exports n ∙ ap (λ (o : Option ItemKind). option_case o absent (inner_item c m it n)) f

module _ (c : Collection) (wf : IsWellFormed c) (m : Bindings) (i : InterfaceId) (it : Interface) (t : Tree) (n : Name) (at : item_at c.interfaces i.0 ≡ Some it) (h : IsHeld c m (ty.Interface i) t) where
  -- under bindings that carry the leaves, the item is the same, its leaves carried inside
  item-carried : (k : ItemKind) → find_name it.exports n ≡ Some k → (f : Leaf → Leaf) (m' : Bindings) → Carries f m m' → inner_item c m' it n k ≡ moved (inside f) (inner_item c m it n k)
  item-carried k found f m' x =
      sym (listed-item c m' it n k found)
      ∙ ap (λ (u : Tree). items_in u n) (sym (interface-step c wf i it at m') ∙ h f m' x ∙ ap (moved f) (sym (held-here c m (ty.Interface i) t h) ∙ interface-step c wf i it at m))
      ∙ ap (moved (inside f)) (listed-item c m it n k found)

  item-here : (k : ItemKind) → find_name it.exports n ≡ Some k → items_in t n ≡ inner_item c m it n k
  item-here k found = ap (λ (u : Tree). items_in u n) (sym (held-here c m (ty.Interface i) t h) ∙ interface-step c wf i it at m) ∙ listed-item c m it n k found

  -- the type in the item is held inside the interface
  type-held : (k : ItemKind) (a : AnyType) → find_name it.exports n ≡ Some k → ((m' : Bindings) → binds_here c (inside_interface c it m') exported (named n ∷ []) k ≡ binds_here c (inside_interface c it m) exported (named n ∷ []) k → type_in (inner_item c m' it n k) ≡ held_tree c (inside_interface c it m') a) → ((f : Leaf → Leaf) → type_in (moved (inside f) (inner_item c m it n k)) ≡ moved (inside f) (type_in (inner_item c m it n k))) → IsHeld c (inside_interface c it m) a (held_tree c (inside_interface c it m) a)
  type-held k a found is move = held-inside c it m a (λ f m' x. sym (is m' (here-inside c it m m' (named n ∷ []) k)) ∙ ap type_in (item-carried k found f m' x) ∙ move f ∙ ap (moved (inside f)) (is m refl))

  by-kind : (k : ItemKind) → find_name it.exports n ≡ Some k → (b : Bool) → binds_here c (inside_interface c it m) exported (named n ∷ []) k ≡ b → IsItem c (inside_interface c it m) exported n k (item_tree (held_tree c (inside_interface c it m)) b k)
  by-kind (kind.TypeItem a) found true here = here
  by-kind (kind.TypeItem a) found false here = (
    here,
    type-held (kind.TypeItem a) a found
        (λ m' same. ap (λ b. type_in (item_tree (held_tree c (inside_interface c it m')) b (kind.TypeItem a))) (same ∙ here))
        (λ f. ap (λ b. type_in (moved (inside f) (item_tree (held_tree c (inside_interface c it m)) b (kind.TypeItem a)))) here ∙ ap (λ b. moved (inside f) (type_in (item_tree (held_tree c (inside_interface c it m)) b (kind.TypeItem a)))) (sym here)),
  )
  by-kind (kind.Func g) found b here = type-held (kind.Func g) (ty.Func g) found (λ m' same. refl) (λ f. refl)
  by-kind (kind.Instance j) found b here = type-held (kind.Instance j) (ty.Interface j) found (λ m' same. refl) (λ f. refl)
  by-kind (kind.Component w) found b here = type-held (kind.Component w) (ty.World w) found (λ m' same. refl) (λ f. refl)
  by-kind (kind.Module k) found b here = type-held (kind.Module k) (ty.Module k) found (λ m' same. refl) (λ f. refl)
  by-kind (kind.Value v) found b here = type-held (kind.Value v) (ty.Value v) found (λ m' same. refl) (λ f. refl)

pub holds-items : HoldsItems
holds-items c wf m i it t n k at found h = subst (IsItem c (inside_interface c it m) exported n k) (sym (item-here c wf m i it t n at h k found)) (by-kind c wf m i it t n at h k found (binds_here c (inside_interface c it m) exported (named n ∷ []) k) refl)
