-- What one more type index, or one more record, keeps.
use Rattle.std.specs.Prelude.{ℕ, suc, ◌≡◌, ◌==◌, Bool, true, false, List, [], ◌∷◌, ◌++◌, Some, None, if◌then◌else◌}
use Rattle.std.proofs.Common.{refl, ap, ◌∙◌, sym, subst}
use Rattle.std.proofs.lemmas.Bool.{eqb-true}
use Rattle.wac_types_shapes.specs.primitives.Name.{Name}
use Rattle.wac_types_shapes.specs.declared.shapes.component.ResourceId.{ResourceId}
use Rattle.wac_types_shapes.specs.declared.shapes.component.ValueType.TheVariants as val
use Rattle.wac_types_shapes.specs.declared.shapes.component.«Type».TheVariants as ty
use Rattle.wac_types_shapes.specs.declared.shapes.component.«Type».{«Type» as AnyType}
use Rattle.wac_types_shapes.specs.primitives.Tree.{Leaf, Tree, named, resource, seen_from, taken_from, items_in, out_by}
use Rattle.wac_types_collection.specs.collection.Collection.{Collection}
use Rattle.wac_types_collection.specs.collection.Bound.{Bindings}
use Rattle.wac_types_collection.specs.collection.Uses.{same_type}
use Rattle.wac_types_collection.proofs.lemmas.collection.Ids.{same_type-true}
use Rattle.wac_binary.specs.declared.sorts.Sort.TheVariants as s
use Rattle.wac_binary.specs.Items.{Item, TypeDef, type_decl, type_item, Alias, alias_decl, alias_item, export_alias, outer_alias}
use Rattle.wac_binary.specs.Unfold.{Scope, Bound, scope_at, type_at, bound_at, bound_type, tree_of}
use Rattle.wac_binary.specs.Meaning.{Root, meaning}
use Rattle.wac_binary.specs.HasMeaning.{IsType, TypeHasMeaning, IsValue}
use Rattle.wac_encode_stacks.specs.private.Reads.{Reads}
use Rattle.wac_encode_stacks.proofs.Meant.{steady, def-meaning, export-meaning, stands-sort, outer-meaning}
use Rattle.wac_encode_stacks.specs.Scopes.{Content, declarations, root, ContentHasMeaning, Where, at_export, Open, Stack, env, envs, scope_of, next_type, and_def, and_alias, with_def, with_alias_of, bind_at, How, Indexed, index_at, export_at}
use Rattle.wac_encode_stacks.specs.Good.{At, Kept, Under, is_bottom, Stands, IsHeld, IsOf, GoodScope, Good, top, Onward, seen_inside, Extends}
use Rattle.wac_encode_stacks.proofs.Grow.{at-last, at-type_at, at-bound_at, kept-refl, kept-type, keeps-type, and_type, grown-refl, grown-trans, under-refl, under-grown, under-at, types-count, good-deeper, Gives, good-pushed}
use Rattle.wac_types_shapes.specs.declared.shapes.component.DefinedTypeId.{DefinedTypeId}
use Rattle.wac_encode_stacks.specs.Listed.{calling, RecordsNoType}

pub some-equal : {A : Type 0} (a b : A) → Some a ≡ Some b → a ≡ b
some-equal a b h = cc

abbrev make_id : ℕ → ResourceId
make_id n = record { 0 = n }

pub id-equal : (q r : ResourceId) → (q.0 == r.0) ≡ true → q ≡ r
id-equal q r h = ap make_id (eqb-true q.0 r.0 h)

-- recording where a resource is
pub good-bind_at : (c : Collection) (m mo : Bindings) (o : Open) (out : List Scope) (r : ResourceId) (w : Where) (l : Leaf) → GoodScope c m mo o out → m r ≡ Some l → Stands (env o out) (resource l) w → GoodScope c m mo (bind_at r w o) out
good-bind_at c m mo o out r w l h bound at = record {
  meaning = h.meaning;
  bottom = h.bottom;
  binds = λ q p f. found q p (q.0 == r.0) refl f;
  unbound = λ q f. not_found q (q.0 == r.0) f;
  passing = h.passing;
  types = h.types;
  exports = h.exports;
}
  where
    found : (q : ResourceId) (p : Where) (b : Bool) → (q.0 == r.0) ≡ b → (if b then Some w else o.binds q) ≡ Some p → (k : Leaf) × (m q ≡ Some k) × Stands (env o out) (resource k) p
    found q p true e f = (l, ap m (id-equal q r e) ∙ bound, subst (Stands (env o out) (resource l)) (some-equal w p f) at)
    found q p false e f = h.binds q p f

    not_found : (q : ResourceId) (b : Bool) → (if b then Some w else o.binds q) ≡ None → m q ≡ seen_inside (mo q)
    not_found q true f = let no_some : Some w ≡ None = f in cc
    not_found q false f = h.unbound q f

-- recording the index of a type
pub good-index_at : (c : Collection) (m mo : Bindings) (o : Open) (out : List Scope) (a : AnyType) (how : How) (i : ℕ) (t : Tree) → GoodScope c m mo o out → IsHeld c m a t → IsOf a t → At ((env o out).types) i t → GoodScope c m mo (index_at a how i o) out
good-index_at c m mo o out a how i t h held sort at = record {
  meaning = h.meaning;
  bottom = h.bottom;
  binds = h.binds;
  unbound = h.unbound;
  passing = h.passing;
  types = λ b x f. found b x (same_type b a) refl f;
  exports = h.exports;
}
  where
    found : (b : AnyType) (x : Indexed) (z : Bool) → same_type b a ≡ z → (if z then Some (record { index = i; how = how }) else o.types b) ≡ Some x → (u : Tree) × IsHeld c m b u × IsOf b u × At ((env o out).types) x.index u
    found b x true e f = let same : b ≡ a = same_type-true b a e in let is : i ≡ x.index = ap (λ (y : Indexed). y.index) (some-equal (record { index = i; how = how }) x f) in (t, subst (λ (y : AnyType). IsHeld c m y t) (sym same) held, subst (λ (y : AnyType). IsOf y t) (sym same) sort, subst (λ (k : ℕ). At ((env o out).types) k t) is at)
    found b x false e f = h.types b x f

abbrev make_defined : ℕ → DefinedTypeId
make_defined n = record { 0 = n }

defined-equal : (e d : DefinedTypeId) → (e.0 == d.0) ≡ true → e ≡ d
defined-equal e d h = ap make_defined (eqb-true e.0 d.0 h)

-- recording a value type that an instance exports
pub good-export_at : (c : Collection) (m mo : Bindings) (o : Open) (out : List Scope) (d : DefinedTypeId) (w : Where) (t : Tree) → GoodScope c m mo o out → IsHeld c m (ty.Value (val.Defined d)) t → IsValue t → Stands (env o out) t w → GoodScope c m mo (export_at d w o) out
good-export_at c m mo o out d w t h held value at = record {
  meaning = h.meaning;
  bottom = h.bottom;
  binds = h.binds;
  unbound = h.unbound;
  passing = h.passing;
  types = h.types;
  exports = λ e p f. found e p (e.0 == d.0) refl f;
}
  where
    found : (e : DefinedTypeId) (p : Where) (z : Bool) → (e.0 == d.0) ≡ z → (if z then Some w else o.exports e) ≡ Some p → (u : Tree) × IsHeld c m (ty.Value (val.Defined e)) u × IsValue u × Stands (env o out) u p
    found e p true q f = let same : e ≡ d = defined-equal e d q in (t, subst (λ (y : DefinedTypeId). IsHeld c m (ty.Value (val.Defined y)) t) (sym same) held, value, subst (Stands (env o out) t) (some-equal w p f) at)
    found e p false q f = h.exports e p f

some-no : {A : Type 0} (x : A) (B : Type 0) → None ≡ Some x → B
some-no x B h = cc

-- with r called l, all that m called is called so still
pub calling-extends : (m : Bindings) (r : ResourceId) (l : Leaf) → m r ≡ None → Extends m (calling r l m)
calling-extends m r l none q k h = by_case (q.0 == r.0) refl
  where
    by_case : (b : Bool) → (q.0 == r.0) ≡ b → (if b then Some l else m q) ≡ Some k
    by_case true e = some-no k (Some l ≡ Some k) (sym none ∙ ap m (sym (id-equal q r e)) ∙ h)
    by_case false e = h

-- the recorded resources with one more, under bindings that call it so
module _ (c : Collection) (m mo : Bindings) (o : Open) (out : List Scope) (r : ResourceId) (l : Leaf) (w : Where) (h : GoodScope c m mo o out) (at : Stands (env o out) (resource l) w) where
  found-called : (q : ResourceId) (p : Where) (b : Bool) → (q.0 == r.0) ≡ b → (if b then Some w else o.binds q) ≡ Some p → (k : Leaf) × ((if b then Some l else m q) ≡ Some k) × Stands (env o out) (resource k) p
  found-called q p true e f = (l, refl, subst (Stands (env o out) (resource l)) (some-equal w p f) at)
  found-called q p false e f = h.binds q p f

  unbound-called : (q : ResourceId) (b : Bool) → (if b then Some w else o.binds q) ≡ None → (if b then Some l else m q) ≡ seen_inside (mo q)
  unbound-called q true f = let no_some : Some w ≡ None = f in cc
  unbound-called q false f = h.unbound q f

-- binding a resource that nothing bound before
pub good-called : (c : Collection) (m mo : Bindings) (o : Open) (out : List Scope) (r : ResourceId) (l : Leaf) (w : Where) → GoodScope c m mo o out → m r ≡ None → Stands (env o out) (resource l) w → GoodScope c (calling r l m) mo (bind_at r w o) out
good-called c m mo o out r l w h none at = record {
  meaning = h.meaning;
  bottom = h.bottom;
  binds = λ q p f. found-called c m mo o out r l w h at q p (q.0 == r.0) refl f;
  unbound = λ q f. unbound-called c m mo o out r l w h at q (q.0 == r.0) f;
  passing = λ p q k e. more q (out_by 1 k) (h.passing p q k e);
  types = λ a x f. let t = h.types a x f in (t.0, λ g n y. t.1 g n (λ q k e. y q k (more q k e)), t.2, t.3);
  exports = λ d p f. let t = h.exports d p f in (t.0, λ g n y. t.1 g n (λ q k e. y q k (more q k e)), t.2, t.3);
}
  where
    more : Extends m (calling r l m)
    more = calling-extends m r l none

-- binding a resource in a scope that records no type
pub good-own : (c : Collection) (m mo : Bindings) (o : Open) (out : List Scope) (r : ResourceId) (l : Leaf) (w : Where) → GoodScope c m mo o out → RecordsNoType o → (o.passes ≡ true → mo r ≡ None) → Stands (env o out) (resource l) w → GoodScope c (calling r l m) mo (bind_at r w o) out
good-own c m mo o out r l w h empty_ apart at = record {
  meaning = h.meaning;
  bottom = h.bottom;
  binds = λ q p f. found-called c m mo o out r l w h at q p (q.0 == r.0) refl f;
  unbound = λ q f. unbound-called c m mo o out r l w h at q (q.0 == r.0) f;
  passing = λ p q k e. passed p q k e (q.0 == r.0) refl;
  types = λ a x f. some-no x _ (sym (empty_.types a) ∙ f);
  exports = λ d p f. some-no p _ (sym (empty_.exports d) ∙ f);
}
  where
    passed : o.passes ≡ true → (q : ResourceId) (k : Leaf) → mo q ≡ Some k → (b : Bool) → (q.0 == r.0) ≡ b → (if b then Some l else m q) ≡ Some (out_by 1 k)
    passed p q k e true is = some-no k _ (sym (apart p) ∙ ap mo (sym (id-equal q r is)) ∙ e)
    passed p q k e false is = h.passing p q k e

-- with one more type index, which is this tree
pub record OneMore (c : Collection) (m mo : Bindings) (o o' : Open) (out : List Scope) (t : Tree) : Type 0 where
  pub good : GoodScope c m mo o' out
  pub kept : Kept (env o out) (env o' out)
  pub at : At ((env o' out).types) (next_type o) t

pub one-more-type : Reads → (c : Collection) (m mo : Bindings) (o : Open) (out : List Scope) (x : Content) (t : Tree) → GoodScope c m mo o out → ((items : List Item) → x ≡ root items → is_bottom out ≡ true) → ContentHasMeaning x out → Gives out x (and_type (env o out) t) → OneMore c m mo o (record o { content = x }) out t
one-more-type reads c m mo o out x t h bot says gives = record {
  good = good-pushed c m mo o out x (and_type (env o out) t) h bot says gives (keeps-type (env o out) t (env o out).imports (env o out).exports);
  kept = subst (Kept (env o out)) (sym now) (kept-type (env o out) t);
  at = subst (λ (e : Scope). At e.types (next_type o) t) (sym now) (subst (λ (n : ℕ). At ((env o out).types ++ t ∷ []) n t) ((types-count reads) o.content out) (at-last (env o out).types t));
}
  where
    now : scope_of x out ≡ and_type (env o out) t
    now = gives out (under-refl out)

-- what has the root around it is no root
pub bottom-def : (x : Content) (out : List Scope) (d : TypeDef) → ((items : List Item) → x ≡ root items → is_bottom out ≡ true) → (items : List Item) → and_def d x ≡ root items → is_bottom out ≡ true
bottom-def (declarations ds) out d h items e = let no : declarations (ds ++ type_decl d ∷ []) ≡ root items = e in cc
bottom-def (root xs) out d h items e = h xs refl

pub bottom-alias : (x : Content) (out : List Scope) (a : Alias) → ((items : List Item) → x ≡ root items → is_bottom out ≡ true) → (items : List Item) → and_alias a x ≡ root items → is_bottom out ≡ true
bottom-alias (declarations ds) out a h items e = let no : declarations (ds ++ alias_decl a ∷ []) ≡ root items = e in cc
bottom-alias (root xs) out a h items e = h xs refl

abbrev pub IsSteady : Content → List Scope → Type 0
IsSteady x out = (out' : List Scope) → Under out out' → scope_of x out' ≡ scope_of x out

at-bottom : (P : List Scope → Type 0) (out : List Scope) → is_bottom out ≡ true → ((out' : List Scope) → Under out out' → P out') → P []
at-bottom P [] e h = h [] tt
at-bottom P (o ∷ os) e h = let both : false ≡ true = e in cc

-- a type definition gives its tree, where that is the same whatever the scopes around grow to
pub gives-def : Reads → (x : Content) (out : List Scope) (d : TypeDef) (t : Tree) → IsSteady x out → ((items : List Item) → x ≡ root items → is_bottom out ≡ true) → ((out' : List Scope) → Under out out' → tree_of d (scope_of x out) out' ≡ t) → Gives out (and_def d x) (and_type (scope_of x out) t)
gives-def reads (declarations ds) out d t same bot is out' g = reads.decl_after ds (type_decl d) out' ∙ ap (λ (w : Scope). and_type w (tree_of d w out')) (same out' g) ∙ ap (and_type (scope_of (declarations ds) out)) (is out' g)
gives-def reads (root items) out d t same bot is out' g = ap (λ (r : Root). r.scope) (reads.item_after items (type_item d)) ∙ ap (and_type (meaning items).scope) (at-bottom (λ os. tree_of d (meaning items).scope os ≡ t) out (bot items refl) is)

-- the tree of an instance's export
abbrev pub export_tree : Bound → Name → Tree
export_tree b n = bound_type b.side (b.path ++ named n ∷ []) (taken_from b.side b.path (items_in b.type n))

-- an alias of an instance's export gives what stands there
pub gives-export : Reads → (x : Content) (out : List Scope) (j : ℕ) (n : Name) (b : Bound) → IsSteady x out → At ((scope_of x out).instances) j b → Gives out (and_alias (export_alias s.Type j n) x) (and_type (scope_of x out) (export_tree b n))
gives-export reads (declarations ds) out j n b same at out' g = reads.decl_after ds (alias_decl (export_alias s.Type j n)) out' ∙ ap (λ (w : Scope). and_type w (export_tree (bound_at w.instances j) n)) (same out' g) ∙ ap (λ (y : Bound). and_type (scope_of (declarations ds) out) (export_tree y n)) (at-bound_at (scope_of (declarations ds) out).instances j b at)
gives-export reads (root items) out j n b same at out' g = ap (λ (r : Root). r.scope) (reads.item_after items (alias_item (export_alias s.Type j n))) ∙ ap (λ (y : Bound). and_type (meaning items).scope (export_tree y n)) (at-bound_at (meaning items).scope.instances j b at)

-- an outer alias gives the tree seen from that many scopes in
pub gives-outer : Reads → (x : Content) (out : List Scope) (k i : ℕ) (t : Tree) → IsSteady x out → ((items : List Item) → x ≡ root items → is_bottom out ≡ true) → At ((scope_at out k).types) i t → Gives out (and_alias (outer_alias s.Type (suc k) i) x) (and_type (scope_of x out) (seen_from (suc k) t))
gives-outer reads (declarations ds) out k i t same bot at out' g = reads.decl_after ds (alias_decl (outer_alias s.Type (suc k) i)) out' ∙ ap (λ (w : Scope). and_type w (seen_from (suc k) (type_at (scope_at out' k).types i))) (same out' g) ∙ ap (λ (u : Tree). and_type (scope_of (declarations ds) out) (seen_from (suc k) u)) (at-type_at ((scope_at out' k).types) i t ((under-at out out' k g).types i t at))
gives-outer reads (root items) out k i t same bot at out' g = by_out out (bot items refl) at
  where
    by_out : (z : List Scope) → is_bottom z ≡ true → At ((scope_at z k).types) i t → scope_of (and_alias (outer_alias s.Type (suc k) i) (root items)) out' ≡ and_type (meaning items).scope (seen_from (suc k) t)
    by_out [] e a = let no_some : None ≡ Some t = a in cc
    by_out (y ∷ ys) e a = let both : false ≡ true = e in cc

-- one more type definition
pub one-more-def : Reads → (c : Collection) (m mo : Bindings) (o : Open) (out : List Scope) (d : TypeDef) (t : Tree) → GoodScope c m mo o out → TypeHasMeaning d (env o out) out → ((out' : List Scope) → Under out out' → tree_of d (env o out) out' ≡ t) → OneMore c m mo o (with_def d o) out t
one-more-def reads c m mo o out d t h says is = (one-more-type reads) c m mo o out (and_def d o.content) t h (bottom-def o.content out d h.bottom) ((def-meaning reads) o.content out d h.bottom h.meaning says) ((gives-def reads) o.content out d t ((steady reads) o.content out h.meaning) h.bottom is)

-- an alias of what stands at an instance's export
pub one-more-export : Reads → (c : Collection) (m mo : Bindings) (o : Open) (out : List Scope) (j : ℕ) (n : Name) (t : Tree) → GoodScope c m mo o out → IsType t → Stands (env o out) t (at_export j n) → OneMore c m mo o (with_alias_of (export_alias s.Type j n) o) out t
one-more-export reads c m mo o out j n t h type st = (one-more-type reads) c m mo o out (and_alias (export_alias s.Type j n) o.content) t h (bottom-alias o.content out (export_alias s.Type j n) h.bottom) ((export-meaning reads) o.content out j n st.0 h.meaning st.1 (stands-sort st.0 n (st.0.path ++ named n ∷ []) t type st.2) (at-bound_at (env o out).instances j st.0 st.1)) (λ out' g. (gives-export reads) o.content out j n st.0 ((steady reads) o.content out h.meaning) st.1 out' g ∙ ap (and_type (env o out)) st.2)

not-bottom : (out : List Scope) (k i : ℕ) (t : Tree) → At ((scope_at out k).types) i t → is_bottom out ≡ false
not-bottom [] k i t h = let no_some : None ≡ Some t = h in cc
not-bottom (x ∷ out) k i t h = refl

-- an outer alias of what stands k scopes out of those around
pub one-more-outer : Reads → (c : Collection) (m mo : Bindings) (o : Open) (out : List Scope) (k i : ℕ) (t : Tree) → GoodScope c m mo o out → IsType t → At ((scope_at out k).types) i t → OneMore c m mo o (with_alias_of (outer_alias s.Type (suc k) i) o) out (seen_from (suc k) t)
one-more-outer reads c m mo o out k i t h type at = (one-more-type reads) c m mo o out (and_alias (outer_alias s.Type (suc k) i) o.content) (seen_from (suc k) t) h (bottom-alias o.content out (outer_alias s.Type (suc k) i) h.bottom) ((outer-meaning reads) o.content out k i h.bottom h.meaning (not-bottom out k i t at) (subst IsType (sym (at-type_at ((scope_at out k).types) i t at)) type)) ((gives-outer reads) o.content out k i t ((steady reads) o.content out h.meaning) h.bottom at)

-- a good stack whose innermost scope is replaced
pub top-onward : (c : Collection) (m : Bindings) (ms : List Bindings) (o o' : Open) (os : Stack) → Good c (m ∷ ms) (o ∷ os) → GoodScope c m (top ms) o' (envs os) → Kept (env o (envs os)) (env o' (envs os)) → Onward c (m ∷ ms) (o ∷ os) (o' ∷ os)
top-onward c m ms o o' os g h k = ((h, g.1), (k, grown-refl (envs os)))

-- a good stack whose outer scopes have gone onward
pub outer-onward : Reads → (c : Collection) (m : Bindings) (ms : List Bindings) (o : Open) (os os' : Stack) → Good c (m ∷ ms) (o ∷ os) → Onward c ms os os' → Onward c (m ∷ ms) (o ∷ os) (o ∷ os')
outer-onward reads c m ms o os os' g n = (((good-deeper reads) c m (top ms) o (envs os) (envs os') g.0 n.1, n.0), (subst (Kept (env o (envs os))) (sym ((steady reads) o.content (envs os) g.0.meaning (envs os') (under-grown (envs os) (envs os') n.1))) (kept-refl (env o (envs os))), n.1))

pub onward-refl : (c : Collection) (ms : List Bindings) (st : Stack) → Good c ms st → Onward c ms st st
onward-refl c ms st g = (g, grown-refl (envs st))

pub onward-trans : (c : Collection) (ms : List Bindings) (a b d : Stack) → Onward c ms a b → Onward c ms b d → Onward c ms a d
onward-trans c ms a b d p q = (q.0, grown-trans (envs a) (envs b) (envs d) p.1 q.1)
