-- What an item adds to the meaning of those before it, and that it changes nothing else.
use Rattle.std.proofs.Common.{◌≡◌, ℕ, zero, suc, ◌+◌, ◌<◌, List, [], ◌∷◌, ◌++◌, length, refl, ap, sym, ◌∙◌, subst, arith, append_assoc, append-nil, length-append}
use Rattle.std.specs.Prelude.{Some, map}
use Rattle.wac_types_shapes.specs.primitives.Name.{Name}
use Rattle.wac_types_shapes.specs.primitives.Tree.{Side, Place, Tree}
use Rattle.wac_binary.specs.declared.sorts.Sort.{Sort}
use Rattle.wac_binary.specs.declared.sorts.Sort.TheVariants as s
use Rattle.wac_binary.specs.declared.sorts.Description.{Description}
use Rattle.wac_binary.specs.declared.sorts.Description.TheVariants as e
use Rattle.wac_binary.specs.Items.{TypeDef, export_alias, outer_alias, Item, custom, core_type, nested, instantiate, alias_item, type_item, import_item, export_item}
use Rattle.wac_binary.specs.Indexes.{space, described_sort, sort_added, adds, is_in, indexes}
use Rattle.wac_binary.specs.Unfold.{Scope, Bound, unbound, type_at, bound_at, described_item, with_bound, with_alias, with_outer, tree_of}
use Rattle.wac_binary.specs.Meaning.{Thing, thing_added, with_exported, component_at, instance_at, written, Root, start, things, thing_at, with_thing, read, read_all, meaning, stands_for}

pub read_append : (r : Root) (xs ys : List Item) → read_all r (xs ++ ys) ≡ read_all (read_all r xs) ys
read_append r [] ys = refl
read_append r (x ∷ xs) ys = read_append (read r x) xs ys

pub one_more : (items : List Item) (x : Item) → meaning (items ++ x ∷ []) ≡ read (meaning items) x
one_more items x = read_append start items (x ∷ [])

-- a list with so many more at its end
pub record Longer {A : Type 0} (old new : List A) (n : ℕ) : Type 0 where
  pub more : List A
  pub is : new ≡ old ++ more
  pub count : length more ≡ n

pub same_list : {A : Type 0} (xs : List A) → Longer xs xs 0
same_list xs = record { more = []; is = sym (append-nil xs); count = refl }

pub one_longer : {A : Type 0} (xs : List A) (x : A) → Longer xs (xs ++ x ∷ []) 1
one_longer xs x = record { more = x ∷ []; is = refl; count = refl }

pub longer_twice : {A : Type 0} {xs ys zs : List A} {m n : ℕ} → Longer xs ys m → Longer ys zs n → Longer xs zs (m + n)
longer_twice {xs = xs} p q = record {
  more = p.more ++ q.more;
  is = q.is ∙ ap (λ t. t ++ q.more) p.is ∙ append_assoc xs p.more q.more;
  count = omega (arith, length-append p.more q.more, p.count, q.count);
}

with_one : (r : Root) (u t : Sort) (x : Thing) → Longer (things r t) (things (with_thing r u x) t) (is_in (space t) (Some (space u)))
with_one r s.CoreModule s.CoreModule x = one_longer r.modules x
with_one r s.Func s.Func x = one_longer r.functions x
with_one r s.Value s.Value x = one_longer r.values x
with_one r s.Type s.Type x = one_longer r.types x
with_one r s.Component s.Component x = one_longer r.components x
with_one r s.Instance s.Instance x = one_longer r.instances x
with_one r _ t x = same_list (things r t)

-- the same lists of things
record SameThings (r w : Root) : Type 0 where
  modules : w.modules ≡ r.modules
  functions : w.functions ≡ r.functions
  values : w.values ≡ r.values
  types : w.types ≡ r.types
  components : w.components ≡ r.components
  instances : w.instances ≡ r.instances

same_things : (r w : Root) (t : Sort) → SameThings r w → things w t ≡ things r t
same_things r w s.CoreModule h = h.modules
same_things r w s.Func h = h.functions
same_things r w s.Value h = h.values
same_things r w s.Type h = h.types
same_things r w s.Component h = h.components
same_things r w s.Instance h = h.instances

with_added : (r w : Root) (u t : Sort) (x : Thing) → SameThings r w → Longer (things r t) (things (with_thing w u x) t) (is_in (space t) (Some (space u)))
with_added r w u t x h = subst (λ (l : List Thing). Longer l (things (with_thing w u x) t) (is_in (space t) (Some (space u)))) (same_things r w t h) (with_one w u t x)

things_read : (r : Root) (x : Item) (t : Sort) → Longer (things r t) (things (read r x) t) (is_in (space t) (adds x))
things_read r (custom n bs) s.CoreModule = same_list _
things_read r (custom n bs) _ = same_list _
things_read r (core_type m) s.CoreModule = same_list _
things_read r (core_type m) _ = same_list _
things_read r (nested bs) t = with_added r (record r { nested_bytes = r.nested_bytes ++ bs ∷ [] }) s.Component t (component_at (length r.nested_bytes)) (record { modules = refl; functions = refl; values = refl; types = refl; components = refl; instances = refl })
things_read r (instantiate i args) t =
    with_added r
    (record r { scope = record r.scope { instances = r.scope.instances ++ unbound ∷ [] }; instantiations = r.instantiations ++ record { component = stands_for r s.Component i; arguments = map (λ a. (a.0, a.1, stands_for r a.1 a.2)) args } ∷ [] })
    s.Instance t (instance_at (length r.instantiations)) (record { modules = refl; functions = refl; values = refl; types = refl; components = refl; instances = refl })
things_read r (alias_item (export_alias u i n)) t = with_added r _ u t _ (record { modules = refl; functions = refl; values = refl; types = refl; components = refl; instances = refl })
things_read r (alias_item (outer_alias u k i)) t = with_added r _ u t _ (record { modules = refl; functions = refl; values = refl; types = refl; components = refl; instances = refl })
things_read r (type_item d) t = with_added r (record r { scope = record r.scope { types = r.scope.types ++ tree_of d r.scope [] ∷ [] } }) s.Type t (written (tree_of d r.scope [])) (record { modules = refl; functions = refl; values = refl; types = refl; components = refl; instances = refl })
things_read r (import_item n d) t = with_added r _ (described_sort d) t _ (record { modules = refl; functions = refl; values = refl; types = refl; components = refl; instances = refl })
things_read r (export_item n u i) t = with_added r _ u t _ (record { modules = refl; functions = refl; values = refl; types = refl; components = refl; instances = refl })

things_all : (r : Root) (xs : List Item) (t : Sort) → Longer (things r t) (things (read_all r xs) t) (indexes (space t) xs)
things_all r [] t = same_list (things r t)
things_all r (x ∷ xs) t = longer_twice (things_read r x t) (things_all (read r x) xs t)

none_at_start : (t : Sort) → things start t ≡ []
none_at_start s.CoreModule = refl
none_at_start _ = refl

pub counted : (items : List Item) (t : Sort) → length (things (meaning items) t) ≡ indexes (space t) items
counted items t =
    let l = things_all start items t in
    ap length (l.is ∙ ap (λ xs. xs ++ l.more) (none_at_start t)) ∙ l.count

thing_earlier : (xs ys : List Thing) (i : ℕ) → i < length xs → thing_at (xs ++ ys) i ≡ thing_at xs i
thing_earlier [] ys i h = absurd (omega arith)
thing_earlier (x ∷ xs) ys zero h = refl
thing_earlier (x ∷ xs) ys (suc i) h = thing_earlier xs ys i (omega arith)

pub earlier : (items more : List Item) (t : Sort) (i : ℕ) → i < indexes (space t) items → stands_for (meaning (items ++ more)) t i ≡ stands_for (meaning items) t i
earlier items more t i h =
    let l = things_all (meaning items) more t in
    ap (λ r. thing_at (things r t) i) (read_append start items more) ∙ ap (λ xs. thing_at xs i) l.is ∙ thing_earlier (things (meaning items) t) l.more i (rw (counted items t) h)

thing_new : (xs : List Thing) (x : Thing) (i : ℕ) → i ≡ length xs → thing_at (xs ++ x ∷ []) i ≡ x
thing_new [] x zero e = refl
thing_new [] x (suc i) e = absurd (omega arith)
thing_new (y ∷ ys) x zero e = absurd (omega arith)
thing_new (y ∷ ys) x (suc i) e = thing_new ys x i (omega arith)

things_with : (r : Root) (t : Sort) (x : Thing) → things (with_thing r t x) t ≡ things r t ++ x ∷ []
things_with r s.CoreModule x = refl
things_with r _ x = refl

new_in : (r w : Root) (t : Sort) (x : Thing) (i : ℕ) → SameThings r w → i ≡ length (things r t) → thing_at (things (with_thing w t x) t) i ≡ x
new_in r w t x i h e = ap (λ xs. thing_at xs i) (things_with w t x ∙ ap (λ xs. xs ++ x ∷ []) (same_things r w t h)) ∙ thing_new (things r t) x i e

new_read : (r : Root) (x : Item) (t : Sort) (i : ℕ) → sort_added x ≡ Some t → i ≡ length (things r t) → thing_at (things (read r x) t) i ≡ thing_added r x
new_read r (custom n bs) t i p e = cc
new_read r (core_type m) t i p e = cc
new_read r (nested bs) t i p e =
    let q : s.Component ≡ t = cc in
    subst (λ (t : Sort). i ≡ length (things r t) → thing_at (things (read r (nested bs)) t) i ≡ thing_added r (nested bs)) q (λ e. thing_new r.components _ i e) e
new_read r (instantiate c args) t i p e =
    let q : s.Instance ≡ t = cc in
    subst (λ (t : Sort). i ≡ length (things r t) → thing_at (things (read r (instantiate c args)) t) i ≡ thing_added r (instantiate c args)) q (λ e. thing_new r.instances _ i e) e
new_read r (alias_item (export_alias u c n)) t i p e =
    let q : u ≡ t = cc in
    subst (λ (t : Sort). i ≡ length (things r t) → thing_at (things (read r (alias_item (export_alias u c n))) t) i ≡ thing_added r (alias_item (export_alias u c n))) q (λ e. new_in r _ u _ i (record { modules = refl; functions = refl; values = refl; types = refl; components = refl; instances = refl }) e) e
new_read r (alias_item (outer_alias u k c)) t i p e =
    let q : u ≡ t = cc in
    subst (λ (t : Sort). i ≡ length (things r t) → thing_at (things (read r (alias_item (outer_alias u k c))) t) i ≡ thing_added r (alias_item (outer_alias u k c))) q (λ e. new_in r _ u _ i (record { modules = refl; functions = refl; values = refl; types = refl; components = refl; instances = refl }) e) e
new_read r (type_item d) t i p e =
    let q : s.Type ≡ t = cc in
    subst (λ (t : Sort). i ≡ length (things r t) → thing_at (things (read r (type_item d)) t) i ≡ thing_added r (type_item d)) q (λ e. thing_new r.types _ i e) e
new_read r (import_item n d) t i p e =
    let q : described_sort d ≡ t = cc in
    subst (λ (t : Sort). i ≡ length (things r t) → thing_at (things (read r (import_item n d)) t) i ≡ thing_added r (import_item n d)) q (λ e. new_in r _ (described_sort d) _ i (record { modules = refl; functions = refl; values = refl; types = refl; components = refl; instances = refl }) e) e
new_read r (export_item n u c) t i p e =
    let q : u ≡ t = cc in
    subst (λ (t : Sort). i ≡ length (things r t) → thing_at (things (read r (export_item n u c)) t) i ≡ thing_added r (export_item n u c)) q (λ e. new_in r _ u _ i (record { modules = refl; functions = refl; values = refl; types = refl; components = refl; instances = refl }) e) e

pub new_thing : (items : List Item) (x : Item) (t : Sort) → sort_added x ≡ Some t → stands_for (meaning (items ++ x ∷ [])) t (indexes (space t) items) ≡ thing_added (meaning items) x
new_thing items x t p = ap (λ r. thing_at (things r t) (indexes (space t) items)) (one_more items x) ∙ new_read (meaning items) x t (indexes (space t) items) p (sym (counted items t))

-- the scope

pub scope_with : (r : Root) (u : Sort) (x : Thing) → (with_thing r u x).scope ≡ r.scope
scope_with r s.CoreModule x = refl
scope_with r _ x = refl

pub in_scope : {A : Type 0} (f : Scope → List A) (w : Root) (u : Sort) (x : Thing) (xs : List A) (n : ℕ) → Longer xs (f w.scope) n → Longer xs (f (with_thing w u x).scope) n
in_scope f w u x xs n l = subst (λ (c : Scope). Longer xs (f c) n) (sym (scope_with w u x)) l

abbrev pub types_in : Scope → List Tree
types_in c = c.types

abbrev pub instances_in : Scope → List Bound
instances_in c = c.instances

pub types_alias : (c : Scope) (u : Sort) (b : Bound) (n : Name) → Longer c.types (with_alias c u b n).types (is_in 3 (Some (space u)))
types_alias c s.Type b n = one_longer c.types _
types_alias c _ b n = same_list c.types

pub types_outer : (c o : Scope) (u : Sort) (k i : ℕ) → Longer c.types (with_outer c u k o i).types (is_in 3 (Some (space u)))
types_outer c o s.Type k i = one_longer c.types _
types_outer c o _ k i = same_list c.types

types_exported : (c : Scope) (u : Sort) (i : ℕ) → Longer c.types (with_exported c u i).types (is_in 3 (Some (space u)))
types_exported c s.Type i = one_longer c.types _
types_exported c _ i = same_list c.types

pub types_bound : (c : Scope) (side : Side) (path : List Place) (d : Description) (a : Scope) → Longer a.types (with_bound a side path (described_item c d)).types (is_in 3 (Some (space (described_sort d))))
types_bound c side path (e.Equal i) a = one_longer a.types _
types_bound c side path e.Fresh a = one_longer a.types _
types_bound c side path _ a = same_list a.types

pub types_read : (r : Root) (x : Item) → Longer r.scope.types (read r x).scope.types (is_in 3 (adds x))
types_read r (custom n bs) = same_list _
types_read r (core_type m) = same_list _
types_read r (nested bs) = same_list _
types_read r (instantiate i args) = same_list _
types_read r (alias_item (export_alias u i n)) = in_scope types_in _ u _ r.scope.types _ (types_alias r.scope u _ n)
types_read r (alias_item (outer_alias u k i)) = in_scope types_in _ u _ r.scope.types _ (types_outer r.scope _ u k i)
types_read r (type_item d) = one_longer r.scope.types _
types_read r (import_item n d) = in_scope types_in _ (described_sort d) _ r.scope.types _ (types_bound r.scope _ _ d r.scope)
types_read r (export_item n u i) = in_scope types_in _ u _ r.scope.types _ (types_exported r.scope u i)

pub instances_alias : (c : Scope) (u : Sort) (b : Bound) (n : Name) → Longer c.instances (with_alias c u b n).instances (is_in 5 (Some (space u)))
instances_alias c s.Instance b n = one_longer c.instances _
instances_alias c _ b n = same_list c.instances

pub instances_outer : (c o : Scope) (u : Sort) (k i : ℕ) → Longer c.instances (with_outer c u k o i).instances (is_in 5 (Some (space u)))
instances_outer c o s.Instance k i = one_longer c.instances _
instances_outer c o _ k i = same_list c.instances

instances_exported : (c : Scope) (u : Sort) (i : ℕ) → Longer c.instances (with_exported c u i).instances (is_in 5 (Some (space u)))
instances_exported c s.Instance i = one_longer c.instances _
instances_exported c _ i = same_list c.instances

pub instances_bound : (c : Scope) (side : Side) (path : List Place) (d : Description) (a : Scope) → Longer a.instances (with_bound a side path (described_item c d)).instances (is_in 5 (Some (space (described_sort d))))
instances_bound c side path (e.Instance i) a = one_longer a.instances _
instances_bound c side path _ a = same_list a.instances

pub instances_read : (r : Root) (x : Item) → Longer r.scope.instances (read r x).scope.instances (is_in 5 (adds x))
instances_read r (custom n bs) = same_list _
instances_read r (core_type m) = same_list _
instances_read r (nested bs) = same_list _
instances_read r (instantiate i args) = one_longer r.scope.instances _
instances_read r (alias_item (export_alias u i n)) = in_scope instances_in _ u _ r.scope.instances _ (instances_alias r.scope u _ n)
instances_read r (alias_item (outer_alias u k i)) = in_scope instances_in _ u _ r.scope.instances _ (instances_outer r.scope _ u k i)
instances_read r (type_item d) = same_list _
instances_read r (import_item n d) = in_scope instances_in _ (described_sort d) _ r.scope.instances _ (instances_bound r.scope _ _ d r.scope)
instances_read r (export_item n u i) = in_scope instances_in _ u _ r.scope.instances _ (instances_exported r.scope u i)

module _ {A : Type 0} (f : Root → List A) (k : ℕ) (step : (r : Root) (x : Item) → Longer (f r) (f (read r x)) (is_in k (adds x))) where
  pub all_longer : (r : Root) (xs : List Item) → Longer (f r) (f (read_all r xs)) (indexes k xs)
  all_longer r [] = same_list (f r)
  all_longer r (x ∷ xs) = longer_twice (step r x) (all_longer (read r x) xs)

abbrev pub scope_types : Root → List Tree
scope_types r = r.scope.types

abbrev pub scope_instances : Root → List Bound
scope_instances r = r.scope.instances

pub types_counted : (items : List Item) → length (meaning items).scope.types ≡ indexes (space s.Type) items
types_counted items = let l = all_longer scope_types 3 types_read start items in ap length l.is ∙ l.count

pub instances_counted : (items : List Item) → length (meaning items).scope.instances ≡ indexes (space s.Instance) items
instances_counted items = let l = all_longer scope_instances 5 instances_read start items in ap length l.is ∙ l.count

pub type_earlier : (xs ys : List Tree) (i : ℕ) → i < length xs → type_at (xs ++ ys) i ≡ type_at xs i
type_earlier [] ys i h = absurd (omega arith)
type_earlier (x ∷ xs) ys zero h = refl
type_earlier (x ∷ xs) ys (suc i) h = type_earlier xs ys i (omega arith)

pub type_new : (xs : List Tree) (x : Tree) (i : ℕ) → i ≡ length xs → type_at (xs ++ x ∷ []) i ≡ x
type_new [] x zero e = refl
type_new [] x (suc i) e = absurd (omega arith)
type_new (y ∷ ys) x zero e = absurd (omega arith)
type_new (y ∷ ys) x (suc i) e = type_new ys x i (omega arith)

pub bound_earlier : (xs ys : List Bound) (i : ℕ) → i < length xs → bound_at (xs ++ ys) i ≡ bound_at xs i
bound_earlier [] ys i h = absurd (omega arith)
bound_earlier (x ∷ xs) ys zero h = refl
bound_earlier (x ∷ xs) ys (suc i) h = bound_earlier xs ys i (omega arith)

pub types_earlier : (items more : List Item) (i : ℕ) → i < indexes (space s.Type) items → type_at (meaning (items ++ more)).scope.types i ≡ type_at (meaning items).scope.types i
types_earlier items more i h =
    let l = all_longer scope_types 3 types_read (meaning items) more in
    ap (λ r. type_at r.scope.types i) (read_append start items more) ∙ ap (λ xs. type_at xs i) l.is ∙ type_earlier (meaning items).scope.types l.more i (rw (types_counted items) h)

pub instances_earlier : (items more : List Item) (i : ℕ) → i < indexes (space s.Instance) items → bound_at (meaning (items ++ more)).scope.instances i ≡ bound_at (meaning items).scope.instances i
instances_earlier items more i h =
    let l = all_longer scope_instances 5 instances_read (meaning items) more in
    ap (λ r. bound_at r.scope.instances i) (read_append start items more) ∙ ap (λ xs. bound_at xs i) l.is ∙ bound_earlier (meaning items).scope.instances l.more i (rw (instances_counted items) h)

pub new_type : (items : List Item) (d : TypeDef) → type_at (meaning (items ++ type_item d ∷ [])).scope.types (indexes (space s.Type) items) ≡ tree_of d (meaning items).scope []
new_type items d =
    ap (λ r. type_at r.scope.types (indexes (space s.Type) items)) (one_more items (type_item d)) ∙ type_new (meaning items).scope.types (tree_of d (meaning items).scope []) _ (sym (types_counted items))
