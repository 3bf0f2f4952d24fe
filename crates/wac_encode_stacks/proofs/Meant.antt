-- What is written keeps its meaning, and so its scope, while the scopes around it grow; and one more item with a meaning leaves it one.
use Rattle.std.specs.Prelude.{ℕ, zero, suc, ◌≡◌, ◌<◌, Bool, true, false, T, if◌then◌else◌, List, [], ◌∷◌, ◌++◌, length, Some, None}
use Rattle.std.proofs.Common.{refl, ap, ◌∙◌, sym, subst, arith}
use Rattle.wac_types_shapes.specs.primitives.Name.{Name}
use Rattle.wac_types_shapes.specs.primitives.Tree.{Side, Place, Tree, absent, resource, function, instance, component, fresh, type_equal, taken_from, items_in}
use Rattle.wac_binary.specs.declared.sorts.Sort.TheVariants as s
use Rattle.wac_binary.specs.declared.sorts.Description.TheVariants as e
use Rattle.wac_binary.specs.Items.{TypeDef, decls, type_decl, alias_decl, Item, custom, core_type, nested, instantiate, alias_item, type_item, import_item, export_item, export_alias, outer_alias}
use Rattle.wac_binary.specs.Indexes.{space, indexes}
use Rattle.wac_binary.specs.Unfold.{Scope, Bound, scope_at, type_at, bound_at, bound_type}
use Rattle.wac_binary.specs.Meaning.{Thing, nothing, import_at, projection, instance_at, component_at, written, Root, start, thing_at, things, stands_for, projected, may_export, aliased_thing, read, read_all, meaning}
use Rattle.wac_binary.specs.Growth.{Grows, AllGrow}
use Rattle.wac_binary.specs.HasMeaning.{IsValue, IsType, IsOfSort, IsSomething, HasExport, HasMeaning, AllHaveMeaning, ItemHasMeaning, TypeHasMeaning}
use Rattle.wac_encode_stacks.specs.private.Reads.{Reads}
use Rattle.wac_encode_stacks.specs.Scopes.{Content, declarations, root, ContentHasMeaning, scope_of, and_def, and_alias}
use Rattle.wac_encode_stacks.specs.Good.{At, Keeps, Under, is_bottom}

some-same : {A : Type 0} (a b : A) → Some a ≡ Some b → a ≡ b
some-same a b h = cc

-- a list that has all that another has, where it has it, begins with it
prefix : {A : Type 0} (xs ys : List A) → ((i : ℕ) (x : A) → At xs i x → At ys i x) → (more : List A) × (ys ≡ xs ++ more)
prefix [] ys h = (ys, refl)
prefix (x ∷ xs) [] h = let no_some : None ≡ Some x = h zero x refl in cc
prefix (x ∷ xs) (y ∷ ys) h = let p = prefix xs ys (λ i z a. h (suc i) z a) in let same : y ≡ x = some-same y x (h zero x refl) in (p.0, ap (λ z. z ∷ ys) same ∙ ap (λ zs. x ∷ zs) p.1)

pub keeps-grows : (e f : Scope) → Keeps e f → Grows e f
keeps-grows e f k =
    let c = prefix e.core_types f.core_types k.core_types in
    let t = prefix e.types f.types k.types in
    let b = prefix e.instances f.instances k.instances in
    record { core_types = c.0; types = t.0; instances = b.0; core_types_are = c.1; types_are = t.1; instances_are = b.1; modules_stay = k.modules; components_stay = k.components }

pub all-grow : (es fs : List Scope) → Under es fs → AllGrow es fs
all-grow [] fs u = tt
all-grow (e ∷ es) (f ∷ fs) u = (keeps-grows e f u.0.keeps, all-grow es fs u.1)
all-grow (e ∷ es) [] u = absurd u

pub meaning-kept : Reads → (x : Content) (out out' : List Scope) → Under out out' → ContentHasMeaning x out → ContentHasMeaning x out'
meaning-kept reads (declarations ds) out out' u h = reads.still_meant (decls ds) out out' (all-grow out out' u) h
meaning-kept reads (root items) out out' u h = h

-- what the indexes stand for does not change while the scopes around grow
pub steady : Reads → (x : Content) (out : List Scope) → ContentHasMeaning x out → (out' : List Scope) → Under out out' → scope_of x out' ≡ scope_of x out
steady reads (declarations ds) out h out' u = reads.around (decls ds) out out' (all-grow out out' u) (reads.reach (decls ds) out h)
steady reads (root items) out h out' u = refl

pub def-meaning : Reads → (x : Content) (out : List Scope) (d : TypeDef) → ((items : List Item) → x ≡ root items → is_bottom out ≡ true) → ContentHasMeaning x out → TypeHasMeaning d (scope_of x out) out → ContentHasMeaning (and_def d x) out
def-meaning reads (declarations ds) out d bot h t = reads.decl_meant ds (type_decl d) out h t
def-meaning reads (root items) [] d bot h t = reads.item_meant items (type_item d) h t
def-meaning reads (root items) (o ∷ os) d bot h t = let both : false ≡ true = bot items refl in cc

-- what an index of an instance at the root stands for is something

abbrev AllSomething : List Thing → Type 0
AllSomething [] = Unit {0}
AllSomething (t ∷ ts) = IsSomething t × AllSomething ts

and-something : (ts : List Thing) (t : Thing) → AllSomething ts → IsSomething t → AllSomething (ts ++ t ∷ [])
and-something [] t h g = (g, tt)
and-something (x ∷ ts) t h g = (h.0, and-something ts t h.1 g)

something-at : (ts : List Thing) (i : ℕ) → AllSomething ts → i < length ts → IsSomething (thing_at ts i)
something-at [] i h lt = absurd (omega (arith, lt))
something-at (t ∷ ts) zero h lt = h.0
something-at (t ∷ ts) (suc i) h lt = something-at ts i h.1 (omega (arith, lt))

projected-something : (t : Thing) (n : Name) → IsSomething t → IsSomething (projected t n)
projected-something nothing n h = absurd h
projected-something (import_at i) n h = tt
projected-something (projection x m) n h = tt
projected-something (instance_at i) n h = tt
projected-something (component_at i) n h = tt
projected-something (written t) n h = tt

-- an alias that has a meaning stands for its export
shown-where : (b : Bool) (x : Thing) → T b → IsSomething x → IsSomething (if b then x else nothing)
shown-where true x h g = g
shown-where false x h g = absurd h

something-read : (r : Root) (x : Item) → AllSomething r.instances → ItemHasMeaning r x → AllSomething (read r x).instances
something-read r (custom n bs) h g = h
something-read r (core_type m) h g = h
something-read r (nested bs) h g = h
something-read r (instantiate i args) h g = and-something r.instances (instance_at (length r.instantiations)) h tt
something-read r (alias_item (export_alias s.Instance i n)) h g = and-something r.instances (aliased_thing (bound_at r.scope.instances i) s.Instance (stands_for r s.Instance i) n) h (shown-where (may_export s.Instance (bound_at r.scope.instances i).type n) (projected (stands_for r s.Instance i) n) g.1 (projected-something (stands_for r s.Instance i) n g.0))
something-read r (alias_item (export_alias t i n)) h g = h
something-read r (alias_item (outer_alias s.Instance k i)) h g = absurd g
something-read r (alias_item (outer_alias t k i)) h g = h
something-read r (type_item t) h g = h
something-read r (import_item n (e.Instance i)) h g = and-something r.instances (import_at (length r.imports)) h tt
something-read r (import_item n d) h g = h
something-read r (export_item n s.Instance i) h g = and-something r.instances (stands_for r s.Instance i) h g.1
something-read r (export_item n t i) h g = h

something-all : (r : Root) (xs : List Item) → AllSomething r.instances → AllHaveMeaning r xs → AllSomething (read_all r xs).instances
something-all r [] h g = h
something-all r (x ∷ xs) h g = something-all (read r x) xs (something-read r x h g.0) g.1

at-below : {A : Type 0} (xs : List A) (i : ℕ) (x : A) → At xs i x → i < length xs
at-below [] i x h = let no_some : None ≡ Some x = h in cc
at-below (y ∷ xs) zero x h = omega arith
at-below (y ∷ xs) (suc i) x h = let lt = at-below xs i x h in omega (arith, lt)

root-instance : Reads → (items : List Item) (j : ℕ) (b : Bound) → HasMeaning items → At (meaning items).scope.instances j b → IsSomething (stands_for (meaning items) s.Instance j)
root-instance reads items j b h at =
    let lt = at-below (meaning items).scope.instances j b at in
    let c : length (things (meaning items) s.Instance) ≡ indexes (space s.Instance) items = reads.things_counted items s.Instance in
    let d : length (meaning items).scope.instances ≡ indexes (space s.Instance) items = reads.instances_counted items in
    something-at (meaning items).instances j (something-all start items tt h) (subst (λ (k : ℕ). j < k) (d ∙ sym c) lt)

-- aliases of exports

pub of-type-sort : (side : Side) (path : List Place) (x : Tree) (t : Tree) → IsType t → bound_type side path x ≡ t → IsOfSort s.Type x
of-type-sort side path fresh t h is = tt
of-type-sort side path (type_equal u) t h is = tt
of-type-sort side path x t h is = absurd (subst IsType (sym is) h)

taken-sort : (side : Side) (path : List Place) (x : Tree) → IsOfSort s.Type (taken_from side path x) → IsOfSort s.Type x
taken-sort side path fresh h = tt
taken-sort side path (type_equal u) h = tt
taken-sort side path x h = absurd h

has-export : (i : Tree) (n : Name) → IsOfSort s.Type (items_in i n) → HasExport s.Type i n
has-export absent n h = tt
has-export i n h = h

pub export-meaning : Reads → (x : Content) (out : List Scope) (j : ℕ) (n : Name) (b : Bound) → ContentHasMeaning x out → At (scope_of x out).instances j b → IsOfSort s.Type (items_in b.type n) → (bound_at (scope_of x out).instances j ≡ b) → ContentHasMeaning (and_alias (export_alias s.Type j n) x) out
export-meaning reads (declarations ds) out j n b h at sort is = reads.decl_meant ds (alias_decl (export_alias s.Type j n)) out h (subst (λ (y : Bound). IsOfSort s.Type (items_in y.type n)) (sym is) sort)
export-meaning reads (root items) out j n b h at sort is = reads.item_meant items (alias_item (export_alias s.Type j n)) h ((root-instance reads) items j b h at, subst (λ (y : Bound). HasExport s.Type y.type n) (sym is) (has-export b.type n sort))

pub stands-sort : (b : Bound) (n : Name) (path : List Place) (t : Tree) → IsType t → bound_type b.side path (taken_from b.side b.path (items_in b.type n)) ≡ t → IsOfSort s.Type (items_in b.type n)
stands-sort b n path t h is = taken-sort b.side b.path (items_in b.type n) (of-type-sort b.side path (taken_from b.side b.path (items_in b.type n)) t h is)

-- outer aliases

pub outer-meaning : Reads → (x : Content) (out : List Scope) (k i : ℕ) → ((items : List Item) → x ≡ root items → is_bottom out ≡ true) → ContentHasMeaning x out → is_bottom out ≡ false → IsType (type_at (scope_at out k).types i) → ContentHasMeaning (and_alias (outer_alias s.Type (suc k) i) x) out
outer-meaning reads (declarations ds) out k i bot h around_ t = reads.decl_meant ds (alias_decl (outer_alias s.Type (suc k) i)) out h t
outer-meaning reads (root items) out k i bot h around_ t = let both : true ≡ false = sym (bot items refl) ∙ around_ in cc

pub value-type : (t : Tree) → IsValue t → IsType t
value-type (resource l) h = tt
value-type (function a ns ps r) h = tt
value-type (instance xs) h = tt
value-type (component xs ys) h = tt
value-type t h = h
