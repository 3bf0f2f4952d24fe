-- Scopes grow at their ends, and what stood in them stands.
use Rattle.std.specs.Prelude.{ℕ, zero, suc, ◌≡◌, true, List, [], ◌∷◌, ◌++◌, length, Some, None, slice_get}
use Rattle.std.proofs.Common.{refl, ap, ◌∙◌, sym, subst, arith}
use Rattle.wac_types_shapes.specs.primitives.Name.{Name}
use Rattle.wac_types_shapes.specs.primitives.Tree.{Tree, resource}
use Rattle.wac_types_collection.specs.collection.Collection.{Collection}
use Rattle.wac_types_collection.specs.collection.Bound.{Bindings}
use Rattle.wac_binary.specs.Items.{Item}
use Rattle.wac_binary.specs.Unfold.{Scope, Bound, empty, scope_at, type_at, bound_at}
use Rattle.wac_binary.specs.Growth.{Grows}
use Rattle.wac_encode_stacks.specs.private.Reads.{Reads}
use Rattle.wac_encode_stacks.specs.Scopes.{Content, declarations, root, ContentHasMeaning, Where, at_type, at_export, Open, env, scope_of, type_count, instance_count}
use Rattle.wac_encode_stacks.proofs.Meant.{meaning-kept, steady}
use Rattle.wac_encode_stacks.specs.Good.{At, Keeps, Kept, Grown, Under, is_bottom, Stands, GoodScope}

pub at-append : {A : Type 0} (xs ys : List A) (i : ℕ) (x : A) → At xs i x → At (xs ++ ys) i x
at-append [] ys i x h = cc
at-append (y ∷ xs) ys zero x h = h
at-append (y ∷ xs) ys (suc i) x h = at-append xs ys i x h

pub at-last : {A : Type 0} (xs : List A) (x : A) → At (xs ++ x ∷ []) (length xs) x
at-last [] x = refl
at-last (y ∷ xs) x = at-last xs x

pub at-type_at : (ts : List Tree) (i : ℕ) (t : Tree) → At ts i t → type_at ts i ≡ t
at-type_at [] i t h = cc
at-type_at (x ∷ ts) zero t h = cc
at-type_at (x ∷ ts) (suc i) t h = at-type_at ts i t h

pub at-bound_at : (bs : List Bound) (i : ℕ) (b : Bound) → At bs i b → bound_at bs i ≡ b
at-bound_at [] i b h = cc
at-bound_at (x ∷ bs) zero b h = cc
at-bound_at (x ∷ bs) (suc i) b h = at-bound_at bs i b h

pub keeps-refl : (e : Scope) → Keeps e e
keeps-refl e = record { core_types = λ i t h. h; types = λ i t h. h; instances = λ i b h. h; modules = omega arith; components = omega arith }

pub keeps-trans : (e f g : Scope) → Keeps e f → Keeps f g → Keeps e g
keeps-trans e f g p q = record { core_types = λ i t h. q.core_types i t (p.core_types i t h); types = λ i t h. q.types i t (p.types i t h); instances = λ i b h. q.instances i b (p.instances i b h); modules = omega (arith, p.modules, q.modules); components = omega (arith, p.components, q.components) }

-- a scope that has grown keeps what it had
pub grows-keeps : (e f : Scope) → Grows e f → Keeps e f
grows-keeps e f g = record {
  core_types = λ i t h. ap (λ xs. slice_get xs i) g.core_types_are ∙ at-append e.core_types g.core_types i t h;
  types = λ i t h. ap (λ xs. slice_get xs i) g.types_are ∙ at-append e.types g.types i t h;
  instances = λ i b h. ap (λ xs. slice_get xs i) g.instances_are ∙ at-append e.instances g.instances i b h;
  modules = g.modules_stay;
  components = g.components_stay;
}

pub keeps-type : (e : Scope) (t : Tree) (y x : Name → Tree) → Keeps e (record e { types = e.types ++ t ∷ []; imports = y; exports = x })
keeps-type e t y x = record { core_types = λ i u h. h; types = λ i u h. at-append e.types (t ∷ []) i u h; instances = λ i b h. h; modules = omega arith; components = omega arith }

pub keeps-instance : (e : Scope) (b : Bound) (y x : Name → Tree) → Keeps e (record e { instances = e.instances ++ b ∷ []; imports = y; exports = x })
keeps-instance e b y x = record { core_types = λ i u h. h; types = λ i u h. h; instances = λ i u h. at-append e.instances (b ∷ []) i u h; modules = omega arith; components = omega arith }

pub keeps-sides : (e : Scope) (y x : Name → Tree) → Keeps e (record e { imports = y; exports = x })
keeps-sides e y x = record { core_types = λ i u h. h; types = λ i u h. h; instances = λ i u h. h; modules = omega arith; components = omega arith }

pub kept-refl : (e : Scope) → Kept e e
kept-refl e = record { keeps = keeps-refl e; imports = refl; exports = refl }

pub kept-trans : (e f g : Scope) → Kept e f → Kept f g → Kept e g
kept-trans e f g p q = record { keeps = keeps-trans e f g p.keeps q.keeps; imports = q.imports ∙ p.imports; exports = q.exports ∙ p.exports }

-- one more type at the end
abbrev pub and_type : Scope → Tree → Scope
and_type e t = record e { types = e.types ++ t ∷ [] }

pub kept-type : (e : Scope) (t : Tree) → Kept e (and_type e t)
kept-type e t = record { keeps = keeps-type e t e.imports e.exports; imports = refl; exports = refl }

pub grown-refl : (es : List Scope) → Grown es es
grown-refl [] = tt
grown-refl (e ∷ es) = (kept-refl e, grown-refl es)

pub grown-trans : (es fs gs : List Scope) → Grown es fs → Grown fs gs → Grown es gs
grown-trans [] [] [] p q = tt
grown-trans (e ∷ es) (f ∷ fs) (g ∷ gs) p q = (kept-trans e f g p.0 q.0, grown-trans es fs gs p.1 q.1)
grown-trans [] [] (g ∷ gs) p q = absurd q
grown-trans [] (f ∷ fs) gs p q = absurd p
grown-trans (e ∷ es) [] gs p q = absurd p
grown-trans (e ∷ es) (f ∷ fs) [] p q = absurd q

pub under-grown : (es fs : List Scope) → Grown es fs → Under es fs
under-grown [] fs g = tt
under-grown (e ∷ es) (f ∷ fs) g = (g.0, under-grown es fs g.1)
under-grown (e ∷ es) [] g = absurd g

pub under-refl : (es : List Scope) → Under es es
under-refl es = under-grown es es (grown-refl es)

pub under-trans : (es fs gs : List Scope) → Grown es fs → Under fs gs → Under es gs
under-trans [] fs gs p q = tt
under-trans (e ∷ es) (f ∷ fs) (g ∷ gs) p q = (kept-trans e f g p.0 q.0, under-trans es fs gs p.1 q.1)
under-trans (e ∷ es) [] gs p q = absurd p
under-trans (e ∷ es) (f ∷ fs) [] p q = absurd q

keeps-empty : (f : Scope) → Keeps empty f
keeps-empty f = record { core_types = λ i t h. let no_some : None ≡ Some t = h in cc; types = λ i t h. let no_some : None ≡ Some t = h in cc; instances = λ i b h. let no_some : None ≡ Some b = h in cc; modules = omega arith; components = omega arith }

pub under-at : (es fs : List Scope) (k : ℕ) → Under es fs → Keeps (scope_at es k) (scope_at fs k)
under-at [] fs k g = keeps-empty (scope_at fs k)
under-at (e ∷ es) (f ∷ fs) zero g = g.0.keeps
under-at (e ∷ es) (f ∷ fs) (suc k) g = under-at es fs k g.1
under-at (e ∷ es) [] k g = absurd g

-- a scope k out keeps what it has
pub grown-at : (es fs : List Scope) (k : ℕ) → Grown es fs → Keeps (scope_at es k) (scope_at fs k)
grown-at es fs k g = under-at es fs k (under-grown es fs g)

pub grown-bottom : (es fs : List Scope) → Grown es fs → is_bottom fs ≡ is_bottom es
grown-bottom [] [] g = refl
grown-bottom (e ∷ es) (f ∷ fs) g = refl
grown-bottom [] (f ∷ fs) g = absurd g
grown-bottom (e ∷ es) [] g = absurd g

pub stands-keeps : (e f : Scope) (t : Tree) (p : Where) → Keeps e f → Stands e t p → Stands f t p
stands-keeps e f t (at_type i) k h = k.types i t h
stands-keeps e f t (at_export j n) k h = (h.0, k.instances j h.0 h.1, h.2)

-- as many indexes stand for something as were counted
pub types-count : Reads → (x : Content) (out : List Scope) → length (scope_of x out).types ≡ type_count x
types-count reads (declarations ds) out = reads.types_declared ds out
types-count reads (root items) out = reads.types_counted items

pub instances-count : Reads → (x : Content) (out : List Scope) → length (scope_of x out).instances ≡ instance_count x
instances-count reads (declarations ds) out = reads.instances_declared ds out
instances-count reads (root items) out = reads.instances_counted items

-- a scope stays good while the scopes around it grow
pub good-deeper : Reads → (c : Collection) (m mo : Bindings) (o : Open) (out out' : List Scope) → GoodScope c m mo o out → Grown out out' → GoodScope c m mo o out'
good-deeper reads c m mo o out out' h g = record {
  meaning = (meaning-kept reads) o.content out out' (under-grown out out' g) h.meaning;
  bottom = λ items e. grown-bottom out out' g ∙ h.bottom items e;
  binds = λ r p f. let b = h.binds r p f in (b.0, b.1, subst (λ (e : Scope). Stands e (resource b.0) p) (sym same_env) b.2);
  unbound = h.unbound;
  passing = h.passing;
  types = λ a x f. let t = h.types a x f in (t.0, t.1, t.2, subst (λ (e : Scope). At e.types x.index t.0) (sym same_env) t.3);
  exports = λ d p f. let t = h.exports d p f in (t.0, t.1, t.2, subst (λ (e : Scope). Stands e t.0 p) (sym same_env) t.3);
}
  where
    same_env : env o out' ≡ env o out
    same_env = (steady reads) o.content out h.meaning out' (under-grown out out' g)

-- what is written is now x, and so its indexes stand for what e says, whatever the scopes around it grow to
abbrev pub Gives : List Scope → Content → Scope → Type 0
Gives out x e = (out' : List Scope) → Under out out' → scope_of x out' ≡ e

-- a good scope stays good under what keeps what its indexes stand for
pub good-pushed : (c : Collection) (m mo : Bindings) (o : Open) (out : List Scope) (x : Content) (e : Scope) → GoodScope c m mo o out → ((items : List Item) → x ≡ root items → is_bottom out ≡ true) → ContentHasMeaning x out → Gives out x e → Keeps (env o out) e → GoodScope c m mo (record o { content = x }) out
good-pushed c m mo o out x e h bot says gives keeps = record {
  meaning = says;
  bottom = bot;
  binds = λ r p f. let b = h.binds r p f in (b.0, b.1, subst (λ (y : Scope). Stands y (resource b.0) p) (sym now) (stands-keeps (env o out) e (resource b.0) p keeps b.2));
  unbound = h.unbound;
  passing = h.passing;
  types = λ a z f. let t = h.types a z f in (t.0, t.1, t.2, subst (λ (y : Scope). At y.types z.index t.0) (sym now) (keeps.types z.index t.0 t.3));
  exports = λ d p f. let t = h.exports d p f in (t.0, t.1, t.2, subst (λ (y : Scope). Stands y t.0 p) (sym now) (stands-keeps (env o out) e t.0 p keeps t.3));
}
  where
    now : scope_of x out ≡ e
    now = gives out (under-refl out)
