-- Imports and exports of a type, written one by one, and the types that are opened and closed.
use Rattle.std.specs.Prelude.{ℕ, ◌≡◌, Bool, true, false, List, [], ◌∷◌, ◌++◌, length, Option, Some, None, if◌then◌else◌, ◌==◌, ◌&&◌, not, is_none}
use Rattle.std.proofs.Common.{refl, ap, ◌∙◌, sym, subst, arith}
use Rattle.wac_types_shapes.specs.primitives.Name.{Name, same_name, find_name, option_case}
use Rattle.wac_types_shapes.proofs.lemmas.shapes.Names.{same_name-true}
use Rattle.wac_types_shapes.specs.declared.shapes.component.ResourceId.{ResourceId}
use Rattle.wac_types_shapes.specs.declared.shapes.component.World.{World}
use Rattle.wac_types_shapes.specs.declared.shapes.component.ItemKind.{ItemKind}
use Rattle.wac_types_shapes.specs.declared.shapes.component.ItemKind.TheVariants as kind
use Rattle.wac_types_shapes.specs.declared.shapes.component.«Type».TheVariants as ty
use Rattle.wac_types_shapes.specs.primitives.Tree.{Side, imported, exported, Place, named, Leaf, Tree, resource, instance, component, fresh, type_equal, function_item, instance_item, component_item, module_item, value_item}
use Rattle.wac_types_collection.specs.collection.Collection.{Collection}
use Rattle.wac_types_collection.specs.collection.Bound.{Bindings, own_name, is_here, binds_here, lists_own, is_alias}
use Rattle.wac_binary.specs.declared.sorts.Description.{Description}
use Rattle.wac_binary.specs.declared.sorts.Description.TheVariants as e
use Rattle.wac_binary.specs.Items.{Item, Decl, decls, instance_def, component_def, export_decl}
use Rattle.wac_binary.specs.Unfold.{Scope, type_at, bound_type, with_item, with_bound, with_decl, described_item}
use Rattle.wac_binary.specs.HasMeaning.{IsType, IsFunction, IsInstance, IsComponent, IsModule, IsFree, DescriptionHasMeaning}
use Rattle.wac_encode_stacks.specs.private.Reads.{Reads}
use Rattle.wac_encode_stacks.proofs.Meant.{meaning-kept, steady}
use Rattle.wac_encode_stacks.specs.Scopes.{declarations, root, ContentHasMeaning, at_type, Open, Stack, env, envs, scope_of, next_type, next_instance, opening}
use Rattle.wac_encode_stacks.specs.Good.{At, Keeps, is_bottom, GoodScope, Good, top, Extends, seen_inside, nothing_bound, Holds}
use Rattle.wac_encode_stacks.specs.Listed.{IsItem, IsUnder, IsNewName, side_decl, on_side, other, declaring, Lists, ListsEqual, ListsFresh, ListsFunc, ListsComponent, ListsModule, ListsInstance, ListsOneMore, ListsInAnyOrder, OpensInterface, ClosesInstance, OpensWorld, ClosesComponent, listed_leaf, ListsOwn, ListedUnderMore, called_inside, CallsOneMore, CallsNoMore, CallsAll, BindsMore}
use Rattle.wac_encode_stacks.proofs.Grow.{at-last, at-type_at, kept-refl, keeps-refl, keeps-trans, keeps-type, keeps-instance, keeps-sides, under-refl, types-count, instances-count, Gives, good-pushed}
use Rattle.wac_encode_stacks.proofs.Steps.{IsSteady, one-more-def, good-called, good-own, id-equal}
use Rattle.wac_encode_stacks.proofs.StepLaws.{added}
use Rattle.wac_types_shapes.specs.declared.shapes.component.«Type».{«Type» as AnyType}
use Rattle.wac_types_shapes.specs.declared.shapes.component.UsedType.{UsedType}
use Rattle.wac_encode_stacks.proofs.HeldParts.{held-under-more, resource-is-bound}
use Rattle.wac_types_collection.specs.collection.Held.{resolved}
use Rattle.std.proofs.Math.Path.{fun_ext}
use Rattle.std.proofs.lemmas.Bool.{eqb-false, ne_eqb}

-- with one more item on a side
abbrev pub side_added : Side → Scope → Name → Tree → Scope
side_added imported w n t = record w { imports = with_item w.imports n t }
side_added exported w n t = record w { exports = with_item w.exports n t }

-- and the index that it adds
abbrev pub listed_in : Side → Scope → Name → Tree → Scope
listed_in side w n t = with_bound (side_added side w n t) side (named n ∷ []) t

with-side_decl : (side : Side) (n : Name) (d : Description) (w : Scope) (out : List Scope) → with_decl (side_decl side n d) w out ≡ listed_in side w n (described_item w d)
with-side_decl imported n d w out = refl
with-side_decl exported n d w out = refl

gives-side : Reads → (ds : List Decl) (out : List Scope) (side : Side) (n : Name) (d : Description) (t : Tree) → IsSteady (declarations ds) out → described_item (scope_of (declarations ds) out) d ≡ t → Gives out (declarations (ds ++ side_decl side n d ∷ [])) (listed_in side (scope_of (declarations ds) out) n t)
gives-side reads ds out side n d t same is out' g = reads.decl_after ds (side_decl side n d) out' ∙ with-side_decl side n d (scope_of (declarations ds) out') out' ∙ ap (λ (w : Scope). listed_in side w n (described_item w d)) (same out' g) ∙ ap (listed_in side (scope_of (declarations ds) out) n) is

bound-imports : (a : Scope) (side : Side) (path : List Place) (t : Tree) → (with_bound a side path t).imports ≡ a.imports
bound-imports a side path fresh = refl
bound-imports a side path (type_equal t) = refl
bound-imports a side path (instance_item t) = refl
bound-imports a side path t = refl

bound-exports : (a : Scope) (side : Side) (path : List Place) (t : Tree) → (with_bound a side path t).exports ≡ a.exports
bound-exports a side path fresh = refl
bound-exports a side path (type_equal t) = refl
bound-exports a side path (instance_item t) = refl
bound-exports a side path t = refl

keeps-bound : (a : Scope) (side : Side) (path : List Place) (t : Tree) → Keeps a (with_bound a side path t)
keeps-bound a side path fresh = keeps-type a (bound_type side path fresh) a.imports a.exports
keeps-bound a side path (type_equal t) = keeps-type a t a.imports a.exports
keeps-bound a side path (instance_item t) = keeps-instance a (record { type = t; side = side; path = path }) a.imports a.exports
keeps-bound a side path (module_item t) = record { core_types = λ i u h. h; types = λ i u h. h; instances = λ i b h. h; modules = omega arith; components = omega arith }
keeps-bound a side path (component_item t) = record { core_types = λ i u h. h; types = λ i u h. h; instances = λ i b h. h; modules = omega arith; components = omega arith }
keeps-bound a side path t = keeps-refl a

keeps-side : (side : Side) (w : Scope) (n : Name) (t : Tree) → Keeps w (side_added side w n t)
keeps-side imported w n t = keeps-sides w (with_item w.imports n t) w.exports
keeps-side exported w n t = keeps-sides w w.imports (with_item w.exports n t)

keeps-listed : (side : Side) (w : Scope) (n : Name) (t : Tree) → Keeps w (listed_in side w n t)
keeps-listed side w n t = keeps-trans w (side_added side w n t) (listed_in side w n t) (keeps-side side w n t) (keeps-bound (side_added side w n t) side (named n ∷ []) t)

this-listed : (side : Side) (w : Scope) (n : Name) (t : Tree) → on_side side (listed_in side w n t) ≡ with_item (on_side side w) n t
this-listed imported w n t = bound-imports (side_added imported w n t) imported (named n ∷ []) t
this-listed exported w n t = bound-exports (side_added exported w n t) exported (named n ∷ []) t

that-listed : (side : Side) (w : Scope) (n : Name) (t : Tree) → on_side (other side) (listed_in side w n t) ≡ on_side (other side) w
that-listed imported w n t = bound-exports (side_added imported w n t) imported (named n ∷ []) t
that-listed exported w n t = bound-imports (side_added exported w n t) exported (named n ∷ []) t

pub no-root : (ds : List Decl) (out : List Scope) (items : List Item) → declarations ds ≡ root items → is_bottom out ≡ true
no-root ds out items e = let no : declarations ds ≡ root items = e in cc

side-meaning : Reads → (ds : List Decl) (out : List Scope) (side : Side) (n : Name) (d : Description) → ContentHasMeaning (declarations ds) out → IsFree (on_side side (scope_of (declarations ds) out) n) → DescriptionHasMeaning (scope_of (declarations ds) out) d → ContentHasMeaning (declarations (ds ++ side_decl side n d ∷ [])) out
side-meaning reads ds out imported n d h free says = reads.decl_meant ds (side_decl imported n d) out h (free, says)
side-meaning reads ds out exported n d h free says = reads.decl_meant ds (side_decl exported n d) out h (free, says)

-- what stands at an index is what it is wanted to be
stood : (P : Tree → Type 0) (ts : List Tree) (i : ℕ) (t : Tree) → P t → At ts i t → P (type_at ts i)
stood P ts i t p at = subst P (sym (at-type_at ts i t at)) p

module _ (reads : Reads) (c : Collection) (m : Bindings) (ms : List Bindings) (ds : List Decl) (o : Open) (os : Stack) (side : Side) (n : Name) (d : Description) (t : Tree) where
  now-listed : Good c (m ∷ ms) (declaring ds o ∷ os) → described_item (env (declaring ds o) (envs os)) d ≡ t → env (declaring (ds ++ side_decl side n d ∷ []) o) (envs os) ≡ listed_in side (env (declaring ds o) (envs os)) n t
  now-listed g is = (gives-side reads) ds (envs os) side n d t ((steady reads) (declarations ds) (envs os) g.0.meaning) is (envs os) (under-refl (envs os))

  listing : Good c (m ∷ ms) (declaring ds o ∷ os) → IsNewName (declaring ds o) os side n → DescriptionHasMeaning (env (declaring ds o) (envs os)) d → described_item (env (declaring ds o) (envs os)) d ≡ t → Lists c m ms (declaring ds o) (declaring (ds ++ side_decl side n d ∷ []) o) os side n t
  listing g new says is = record {
    good = (good-pushed c m (top ms) (declaring ds o) (envs os) (declarations (ds ++ side_decl side n d ∷ [])) (listed_in side (env (declaring ds o) (envs os)) n t) g.0 (no-root (ds ++ side_decl side n d ∷ []) (envs os)) ((side-meaning reads) ds (envs os) side n d g.0.meaning new says) ((gives-side reads) ds (envs os) side n d t ((steady reads) (declarations ds) (envs os) g.0.meaning) is) (keeps-listed side (env (declaring ds o) (envs os)) n t), g.1);
    keeps = subst (Keeps (env (declaring ds o) (envs os))) (sym (now-listed g is)) (keeps-listed side (env (declaring ds o) (envs os)) n t);
    this = ap (on_side side) (now-listed g is) ∙ this-listed side (env (declaring ds o) (envs os)) n t;
    that = ap (on_side (other side)) (now-listed g is) ∙ that-listed side (env (declaring ds o) (envs os)) n t;
  }

new-equal : (side : Side) (w : Scope) (n : Name) (t : Tree) → At ((listed_in side w n (type_equal t)).types) (length w.types) t
new-equal imported w n t = at-last w.types t
new-equal exported w n t = at-last w.types t

new-fresh : (side : Side) (w : Scope) (n : Name) → At ((listed_in side w n fresh).types) (length w.types) (resource (record { out = 0; side = side; path = named n ∷ [] }))
new-fresh imported w n = at-last w.types (resource (record { out = 0; side = imported; path = named n ∷ [] }))
new-fresh exported w n = at-last w.types (resource (record { out = 0; side = exported; path = named n ∷ [] }))

new-instance : (side : Side) (w : Scope) (n : Name) (t : Tree) → At ((listed_in side w n (instance_item t)).instances) (length w.instances) (record { type = t; side = side; path = named n ∷ [] })
new-instance imported w n t = at-last w.instances (record { type = t; side = imported; path = named n ∷ [] })
new-instance exported w n t = at-last w.instances (record { type = t; side = exported; path = named n ∷ [] })

pub lists-equal : Reads → ListsEqual
lists-equal reads c m ms ds o os side n i t g new type at =
    let w : Scope = env (declaring ds o) (envs os) in
    let is : type_equal (type_at w.types i) ≡ type_equal t = ap type_equal (at-type_at w.types i t at) in (
      (listing reads) c m ms ds o os side n (e.Equal i) (type_equal t) g new (stood IsType w.types i t type at) is,
      subst (λ (x : Scope). At x.types (next_type (declaring ds o)) t) (sym ((now-listed reads) c m ms ds o os side n (e.Equal i) (type_equal t) g is)) (subst (λ (k : ℕ). At ((listed_in side (env (declaring ds o) (envs os)) n (type_equal t)).types) k t) ((types-count reads) (declarations ds) (envs os)) (new-equal side (env (declaring ds o) (envs os)) n t)),
    )

-- the index of a fresh resource is its leaf
fresh-at : Reads → (c : Collection) (m : Bindings) (ms : List Bindings) (ds : List Decl) (o : Open) (os : Stack) (side : Side) (n : Name) → Good c (m ∷ ms) (declaring ds o ∷ os) → At ((env (declaring (ds ++ side_decl side n e.Fresh ∷ []) o) (envs os)).types) (next_type (declaring ds o)) (resource (listed_leaf side n))
fresh-at reads c m ms ds o os side n g = subst (λ (x : Scope). At x.types (next_type (declaring ds o)) (resource (listed_leaf side n))) (sym ((now-listed reads) c m ms ds o os side n e.Fresh fresh g refl)) (subst (λ (k : ℕ). At ((listed_in side (env (declaring ds o) (envs os)) n fresh).types) k (resource (listed_leaf side n))) ((types-count reads) (declarations ds) (envs os)) (new-fresh side (env (declaring ds o) (envs os)) n))

pub lists-fresh : Reads → ListsFresh
lists-fresh reads c m ms ds o os side n r g new none =
    let l = (listing reads) c m ms ds o os side n e.Fresh fresh g new tt refl in
    record {
      good = (good-called c m (top ms) (declaring (ds ++ side_decl side n e.Fresh ∷ []) o) (envs os) r (listed_leaf side n) (at_type (next_type (declaring ds o))) l.good.0 none ((fresh-at reads) c m ms ds o os side n g), g.1);
      keeps = l.keeps;
      this = l.this;
      that = l.that;
    }

pub lists-own : Reads → ListsOwn
lists-own reads c m ms ds o os n r g new empty_ apart =
    let l = (listing reads) c m ms ds o os exported n e.Fresh fresh g new tt refl in
    record {
      good = (good-own c m (top ms) (declaring (ds ++ export_decl n e.Fresh ∷ []) o) (envs os) r (listed_leaf exported n) (at_type (next_type (declaring ds o))) l.good.0 (record { types = empty_.types; exports = empty_.exports }) apart ((fresh-at reads) c m ms ds o os exported n g), g.1);
      keeps = l.keeps;
      this = l.this;
      that = l.that;
    }

pub lists-func : Reads → ListsFunc
lists-func reads c m ms ds o os side n i t g new type at = (listing reads) c m ms ds o os side n (e.Func i) (function_item t) g new (stood IsFunction (env (declaring ds o) (envs os)).types i t type at) (ap function_item (at-type_at (env (declaring ds o) (envs os)).types i t at))

pub lists-component : Reads → ListsComponent
lists-component reads c m ms ds o os side n i t g new type at = (listing reads) c m ms ds o os side n (e.Component i) (component_item t) g new (stood IsComponent (env (declaring ds o) (envs os)).types i t type at) (ap component_item (at-type_at (env (declaring ds o) (envs os)).types i t at))

pub lists-module : Reads → ListsModule
lists-module reads c m ms ds o os side n i t g new type at = (listing reads) c m ms ds o os side n (e.CoreModule i) (module_item t) g new (stood IsModule (env (declaring ds o) (envs os)).core_types i t type at) (ap module_item (at-type_at (env (declaring ds o) (envs os)).core_types i t at))

pub lists-instance : Reads → ListsInstance
lists-instance reads c m ms ds o os side n i t g new type at =
    let is : instance_item (type_at (env (declaring ds o) (envs os)).types i) ≡ instance_item t = ap instance_item (at-type_at (env (declaring ds o) (envs os)).types i t at) in (
      (listing reads) c m ms ds o os side n (e.Instance i) (instance_item t) g new (stood IsInstance (env (declaring ds o) (envs os)).types i t type at) is,
      subst (λ (x : Scope). At x.instances (next_instance (declaring ds o)) (record { type = t; side = side; path = named n ∷ [] })) (sym ((now-listed reads) c m ms ds o os side n (e.Instance i) (instance_item t) g is)) (subst (λ (k : ℕ). At ((listed_in side (env (declaring ds o) (envs os)) n (instance_item t)).instances) k (record { type = t; side = side; path = named n ∷ [] })) ((instances-count reads) (declarations ds) (envs os)) (new-instance side (env (declaring ds o) (envs os)) n t)),
    )

find-append : (es : List (Name × ItemKind)) (n : Name) (k : ItemKind) (q : Name) → find_name (es ++ (n, k) ∷ []) q ≡ option_case (find_name es q) (if same_name q n then Some k else None) (λ x. Some x)
find-append [] n k q = refl
find-append (e ∷ es) n k q = by_case (same_name q e.0) (find-append es n k q)
  where
    by_case : (b : Bool) → find_name (es ++ (n, k) ∷ []) q ≡ option_case (find_name es q) (if same_name q n then Some k else None) (λ x. Some x) → (if b then Some e.1 else find_name (es ++ (n, k) ∷ []) q) ≡ option_case (if b then Some e.1 else find_name es q) (if same_name q n then Some k else None) (λ x. Some x)
    by_case true i = refl
    by_case false i = i

pub lists-one-more : ListsOneMore
lists-one-more c m side es items n k t h missing item q = subst (λ (x : Option ItemKind). IsUnder c m side q x (with_item items n t q)) (sym (find-append es n k q)) (by_case (same_name q n) refl (find_name es q) refl (h q))
  where
    by_case : (b : Bool) → same_name q n ≡ b → (x : Option ItemKind) → find_name es q ≡ x → IsUnder c m side q x (items q) → IsUnder c m side q (option_case x (if b then Some k else None) (λ y. Some y)) (if b then t else items q)
    by_case true s None f u = subst (λ (z : Name). IsItem c m side z k t) (sym (same_name-true q n s)) item
    by_case true s (Some x) f u = let no_some : None ≡ Some x = sym missing ∙ ap (find_name es) (sym (same_name-true q n s)) ∙ f in cc
    by_case false s None f u = u
    by_case false s (Some x) f u = u

pub lists-in-any-order : ListsInAnyOrder
lists-in-any-order c m side es fs items h same n = subst (λ (x : Option ItemKind). IsUnder c m side n x (items n)) (sym (same n)) (h n)

-- a leaf that is here is here under more
here-more : (side : Side) (path : List Place) (o p : Option Leaf) → ((l : Leaf) → o ≡ Some l → p ≡ Some l) → is_here side path o ≡ true → is_here side path p ≡ true
here-more side path None p more h = let both : false ≡ true = h in cc
here-more side path (Some l) p more h = ap (is_here side path) (more l refl) ∙ h

bound-more : (c : Collection) (m m' : Bindings) (side : Side) (path : List Place) (a : AnyType) → Extends m m' → binds_here c m side path (kind.TypeItem a) ≡ true → binds_here c m' side path (kind.TypeItem a) ≡ true
bound-more c m m' side path (ty.Resource r) more h = here-more side path (m (resolved c r)) (m' (resolved c r)) (λ l e. more (resolved c r) l e) h
bound-more c m m' side path (ty.Func f) more h = h
bound-more c m m' side path (ty.Value v) more h = h
bound-more c m m' side path (ty.Interface i) more h = h
bound-more c m m' side path (ty.World w) more h = h
bound-more c m m' side path (ty.Module k) more h = h

not-bound-more : (c : Collection) (m m' : Bindings) (side : Side) (path : List Place) (a : AnyType) → Extends m m' → Holds c m a → binds_here c m side path (kind.TypeItem a) ≡ false → binds_here c m' side path (kind.TypeItem a) ≡ false
not-bound-more c m m' side path (ty.Resource r) more held h =
    let b = resource-is-bound c m r held in
    ap (is_here side path) (more (resolved c r) b.0 b.1 ∙ sym b.1) ∙ h
not-bound-more c m m' side path (ty.Func f) more held h = h
not-bound-more c m m' side path (ty.Value v) more held h = h
not-bound-more c m m' side path (ty.Interface i) more held h = h
not-bound-more c m m' side path (ty.World w) more held h = h
not-bound-more c m m' side path (ty.Module k) more held h = h

item-more : (c : Collection) (m m' : Bindings) (side : Side) (n : Name) (k : ItemKind) (t : Tree) → Extends m m' → IsItem c m side n k t → IsItem c m' side n k t
item-more c m m' side n (kind.TypeItem a) fresh more h = bound-more c m m' side (named n ∷ []) a more h
item-more c m m' side n (kind.TypeItem a) (type_equal t) more h = (not-bound-more c m m' side (named n ∷ []) a more (t, h.1) h.0, held-under-more c m m' a t more h.1)
item-more c m m' side n (kind.Func f) (function_item t) more h = held-under-more c m m' (ty.Func f) t more h
item-more c m m' side n (kind.Instance i) (instance_item t) more h = held-under-more c m m' (ty.Interface i) t more h
item-more c m m' side n (kind.Component w) (component_item t) more h = held-under-more c m m' (ty.World w) t more h
item-more c m m' side n (kind.Module k) (module_item t) more h = held-under-more c m m' (ty.Module k) t more h
item-more c m m' side n (kind.Value v) (value_item t) more h = held-under-more c m m' (ty.Value v) t more h
item-more c m m' side n k t more h = absurd h

pub listed-under-more : ListedUnderMore
listed-under-more c m m' side es items more h n = by_item (find_name es n) (h n)
  where
    by_item : (o : Option ItemKind) → IsUnder c m side n o (items n) → IsUnder c m' side n o (items n)
    by_item None u = u
    by_item (Some k) u = item-more c m m' side n k (items n) more u

-- opening and closing

pub good-opening : (c : Collection) (m mo : Bindings) (passes : Bool) (out : List Scope) → ((r : ResourceId) → m r ≡ seen_inside (mo r)) → GoodScope c m mo (opening passes) out
good-opening c m mo passes out u = record {
  meaning = tt;
  bottom = no-root [] out;
  binds = λ r w f. let no_some : None ≡ Some w = f in cc;
  unbound = λ r f. u r;
  passing = λ p r l e. u r ∙ ap seen_inside e;
  types = λ a x f. let no_some : None ≡ Some x = f in cc;
  exports = λ d w f. let no_some : None ≡ Some w = f in cc;
}

pub opens-interface : OpensInterface
opens-interface c ms st it passes g = ((good-opening c (called_inside c it.uses [] (top ms)) (top ms) passes (envs st) (λ r. refl), g), λ n. refl)

eqb-other : (q r : ResourceId) → (q.0 == r.0) ≡ false → (r.0 == q.0) ≡ false
eqb-other q r h = ne_eqb r.0 q.0 (λ e. eqb-false q.0 r.0 h (sym e))

-- the own resource of a list with one item more
own-append : (c : Collection) (uses : List (Name × UsedType)) (es : List (Name × ItemKind)) (e : Name × ItemKind) (r : ResourceId) → own_name c uses (es ++ e ∷ []) r ≡ option_case (own_name c uses es r) (if lists_own c uses r e then Some e.0 else None) (λ n. Some n)
own-append c uses [] e r = refl
own-append c uses (x ∷ es) e r = by_case (lists_own c uses r x) (own-append c uses es e r)
  where
    by_case : (b : Bool) → own_name c uses (es ++ e ∷ []) r ≡ option_case (own_name c uses es r) (if lists_own c uses r e then Some e.0 else None) (λ n. Some n) → (if b then Some x.0 else own_name c uses (es ++ e ∷ []) r) ≡ option_case (if b then Some x.0 else own_name c uses es r) (if lists_own c uses r e then Some e.0 else None) (λ n. Some n)
    by_case true i = refl
    by_case false i = i

abbrev called_as : Option Name → Option Leaf → Option Leaf
called_as o l = option_case o (seen_inside l) (λ n. Some (listed_leaf exported n))

pub calls-one-more : CallsOneMore
calls-one-more c uses es n r m none own = fun_ext (λ q. ap (λ o. called_as o (m q)) (own-append c uses es (n, kind.TypeItem (ty.Resource r)) q) ∙ by_id q (q.0 == r.0) refl)
  where
    by_own : (q : ResourceId) → (o : Option Name) → (b : Bool) → called_as (option_case o (if false && b then Some n else None) (λ k. Some k)) (m q) ≡ called_as o (m q)
    by_own q None b = refl
    by_own q (Some k) b = refl

    mine : (q : ResourceId) → q ≡ r → called_as (option_case (own_name c uses es q) (if lists_own c uses q (n, kind.TypeItem (ty.Resource r)) then Some n else None) (λ k. Some k)) (m q) ≡ Some (listed_leaf exported n)
    mine q same = ap (λ (x : ResourceId). called_as (option_case (own_name c uses es x) (if lists_own c uses x (n, kind.TypeItem (ty.Resource r)) then Some n else None) (λ k. Some k)) (m x)) same ∙ ap (λ o. called_as (option_case o (if lists_own c uses r (n, kind.TypeItem (ty.Resource r)) then Some n else None) (λ k. Some k)) (m r)) none ∙ ap (λ b. called_as (if b then Some n else None) (m r)) own

    other_id : (q : ResourceId) → (r.0 == q.0) ≡ false → called_as (option_case (own_name c uses es q) (if lists_own c uses q (n, kind.TypeItem (ty.Resource r)) then Some n else None) (λ k. Some k)) (m q) ≡ called_as (own_name c uses es q) (m q)
    other_id q apart = ap (λ b. called_as (option_case (own_name c uses es q) (if b && (not (is_alias c r) && is_none (find_name uses n)) then Some n else None) (λ k. Some k)) (m q)) apart ∙ by_own q (own_name c uses es q) (not (is_alias c r) && is_none (find_name uses n))

    by_id : (q : ResourceId) (b : Bool) → (q.0 == r.0) ≡ b → called_as (option_case (own_name c uses es q) (if lists_own c uses q (n, kind.TypeItem (ty.Resource r)) then Some n else None) (λ k. Some k)) (m q) ≡ (if b then Some (listed_leaf exported n) else called_as (own_name c uses es q) (m q))
    by_id q true is = mine q (id-equal q r is)
    by_id q false is = other_id q (eqb-other q r is)

pub calls-no-more : CallsNoMore
calls-no-more c uses es e m apart = fun_ext (λ q. ap (λ o. called_as o (m q)) (own-append c uses es e q) ∙ by_own q (own_name c uses es q) refl)
  where
    by_own : (q : ResourceId) (o : Option Name) → own_name c uses es q ≡ o → called_as (option_case o (if lists_own c uses q e then Some e.0 else None) (λ k. Some k)) (m q) ≡ called_as o (m q)
    by_own q None is = ap (λ b. called_as (if b then Some e.0 else None) (m q)) (apart q is)
    by_own q (Some k) is = refl

pub calls-all : CallsAll
calls-all c it m = refl

pub closes-instance : Reads → ClosesInstance
closes-instance reads c inner m ms ds i o os g nothing_ = added c m ms o _ os (instance ((env (declaring ds i) (env o (envs os) ∷ envs os)).exports)) g.1 ((one-more-def reads) c m (top ms) o (envs os) (instance_def (decls ds)) (instance ((env (declaring ds i) (env o (envs os) ∷ envs os)).exports)) g.1.0 (g.0.meaning, nothing_) (λ out' u. ap (λ (w : Scope). instance w.exports) ((steady reads) (declarations ds) (env o (envs os) ∷ envs os) g.0.meaning (env o (envs os) ∷ out') (kept-refl (env o (envs os)), u))))

pub opens-world : OpensWorld
opens-world c passes = ((good-opening c nothing_bound (top []) passes [] (λ r. refl), tt), (λ n. refl), (λ n. refl))

pub binds-more : BindsMore
binds-more c m o r l w g none at = ((good-called c m (top []) o [] r l w g.0 none at, tt), (kept-refl (env o []), tt))

pub closes-component : Reads → ClosesComponent
closes-component reads c inner m ms ds i o os gi g = added c m ms o _ os (component ((env (declaring ds i) []).imports) ((env (declaring ds i) []).exports)) g ((one-more-def reads) c m (top ms) o (envs os) (component_def (decls ds)) (component ((env (declaring ds i) []).imports) ((env (declaring ds i) []).exports)) g.0 ((meaning-kept reads) (declarations ds) [] (env o (envs os) ∷ envs os) tt gi.0.meaning) (λ out' u. ap (λ (w : Scope). component w.imports w.exports) ((steady reads) (declarations ds) [] gi.0.meaning (env o (envs os) ∷ out') tt)))
