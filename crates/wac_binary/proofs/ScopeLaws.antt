-- What a declaration adds to its scope, and that it changes nothing else; and what growth of the scopes around it leaves.
use Rattle.std.proofs.Common.{◌≡◌, ℕ, zero, suc, ◌+◌, ◌<◌, ◌≤◌, List, [], ◌∷◌, ◌++◌, length, refl, ap, sym, ◌∙◌, subst, length-append, arith, append-nil, append_assoc}
use Rattle.std.specs.Prelude.{Some}
use Rattle.wac_types_shapes.specs.primitives.Name.{Name}
use Rattle.wac_types_shapes.specs.primitives.Core.{CoreItem}
use Rattle.wac_types_shapes.specs.primitives.Tree.{Side, Place, Tree, seen_from, component, instance}
use Rattle.wac_types_shapes.specs.declared.primitives.core_types.CoreType.{CoreType}
use Rattle.wac_binary.specs.declared.sorts.Sort.{Sort}
use Rattle.wac_binary.specs.declared.sorts.Sort.TheVariants as s
use Rattle.wac_binary.specs.declared.sorts.Description.{Description}
use Rattle.wac_binary.specs.declared.sorts.Description.TheVariants as e
use Rattle.wac_binary.specs.Items.{TypeDef, value_def, func_def, component_def, instance_def, export_alias, outer_alias, Decls, end, next, decls, Decl, core_type_decl, type_decl, alias_decl, import_decl, export_decl, ModuleDecl, module_import, module_func, module_export, Item, custom, core_type, nested, instantiate, alias_item, type_item, import_item, export_item}
use Rattle.wac_binary.specs.Indexes.{space, core_types, described_sort, adds, is_in, indexes, decl_adds, declared, function_types}
use Rattle.wac_binary.specs.Unfold.{Scope, Bound, empty, type_at, bound_at, scope_at, described_item, with_bound, with_alias, with_outer, outer_bound, tree_of, after, with_decl, module_tree, no_module, module_after, with_module_decl, Module, func_at}
use Rattle.wac_binary.specs.Growth.{Grows, AllGrow, IsThere, TypeReaches, Reach, Reaches}
use Rattle.wac_binary.specs.Meaning.{Root, start, read, read_all, meaning, with_exported}
use Rattle.wac_binary.proofs.MeaningLaws.{Longer, same_list, one_longer, longer_twice, scope_with, in_scope, types_alias, types_outer, types_bound, instances_alias, instances_outer, instances_bound, type_earlier, type_new, bound_earlier, read_append, scope_types, scope_instances, types_read, instances_read, all_longer, one_more as root_one_more}

-- the core types of a scope

abbrev core_types_in : Scope → List Tree
core_types_in c = c.core_types

core_alias : (c : Scope) (u : Sort) (b : Bound) (n : Name) → Longer c.core_types (with_alias c u b n).core_types (is_in 6 (Some (space u)))
core_alias c s.Type b n = same_list c.core_types
core_alias c _ b n = same_list c.core_types

core_outer : (c o : Scope) (u : Sort) (k i : ℕ) → Longer c.core_types (with_outer c u k o i).core_types (is_in 6 (Some (space u)))
core_outer c o s.Type k i = same_list c.core_types
core_outer c o _ k i = same_list c.core_types

core_exported : (c : Scope) (u : Sort) (i : ℕ) → Longer c.core_types (with_exported c u i).core_types (is_in 6 (Some (space u)))
core_exported c s.Type i = same_list c.core_types
core_exported c _ i = same_list c.core_types

core_bound : (c : Scope) (side : Side) (path : List Place) (d : Description) (a : Scope) → Longer a.core_types (with_bound a side path (described_item c d)).core_types (is_in 6 (Some (space (described_sort d))))
core_bound c side path (e.Equal i) a = same_list a.core_types
core_bound c side path _ a = same_list a.core_types

core_read : (r : Root) (x : Item) → Longer r.scope.core_types (read r x).scope.core_types (is_in 6 (adds x))
core_read r (custom n bs) = same_list _
core_read r (core_type m) = one_longer r.scope.core_types _
core_read r (nested bs) = same_list _
core_read r (instantiate i args) = same_list _
core_read r (alias_item (export_alias u i n)) = in_scope core_types_in _ u _ r.scope.core_types _ (core_alias r.scope u _ n)
core_read r (alias_item (outer_alias u k i)) = in_scope core_types_in _ u _ r.scope.core_types _ (core_outer r.scope _ u k i)
core_read r (type_item d) = same_list _
core_read r (import_item n d) = in_scope core_types_in _ (described_sort d) _ r.scope.core_types _ (core_bound r.scope _ _ d r.scope)
core_read r (export_item n u i) = in_scope core_types_in _ u _ r.scope.core_types _ (core_exported r.scope u i)

abbrev scope_core_types : Root → List Tree
scope_core_types r = r.scope.core_types

pub core_types_counted : (items : List Item) → length (meaning items).scope.core_types ≡ indexes core_types items
core_types_counted items = let l = all_longer scope_core_types 6 core_read start items in ap length l.is ∙ l.count

pub core_types_earlier : (items more : List Item) (i : ℕ) → i < indexes core_types items → type_at (meaning (items ++ more)).scope.core_types i ≡ type_at (meaning items).scope.core_types i
core_types_earlier items more i h =
    let l = all_longer scope_core_types 6 core_read (meaning items) more in
    ap (λ r. type_at r.scope.core_types i) (read_append start items more) ∙ ap (λ xs. type_at xs i) l.is ∙ type_earlier (meaning items).scope.core_types l.more i (rw (core_types_counted items) h)

pub new_core_type : (items : List Item) (m : List ModuleDecl) → type_at (meaning (items ++ core_type m ∷ [])).scope.core_types (indexes core_types items) ≡ module_tree m
new_core_type items m =
    ap (λ r. type_at r.scope.core_types (indexes core_types items)) (root_one_more items (core_type m)) ∙ type_new (meaning items).scope.core_types (module_tree m) _ (sym (core_types_counted items))

-- the core modules and components of a scope

modules_alias : (c : Scope) (u : Sort) (b : Bound) (n : Name) → (with_alias c u b n).modules ≡ c.modules + is_in 0 (Some (space u))
modules_alias c s.CoreModule b n = omega arith
modules_alias c _ b n = omega arith

modules_outer : (c o : Scope) (u : Sort) (k i : ℕ) → (with_outer c u k o i).modules ≡ c.modules + is_in 0 (Some (space u))
modules_outer c o s.CoreModule k i = omega arith
modules_outer c o _ k i = omega arith

modules_exported : (c : Scope) (u : Sort) (i : ℕ) → (with_exported c u i).modules ≡ c.modules + is_in 0 (Some (space u))
modules_exported c s.CoreModule i = omega arith
modules_exported c _ i = omega arith

modules_bound : (c : Scope) (side : Side) (path : List Place) (d : Description) (a : Scope) → (with_bound a side path (described_item c d)).modules ≡ a.modules + is_in 0 (Some (space (described_sort d)))
modules_bound c side path (e.CoreModule i) a = omega arith
modules_bound c side path _ a = omega arith

components_alias : (c : Scope) (u : Sort) (b : Bound) (n : Name) → (with_alias c u b n).components ≡ c.components + is_in 4 (Some (space u))
components_alias c s.Component b n = omega arith
components_alias c _ b n = omega arith

components_outer : (c o : Scope) (u : Sort) (k i : ℕ) → (with_outer c u k o i).components ≡ c.components + is_in 4 (Some (space u))
components_outer c o s.Component k i = omega arith
components_outer c o _ k i = omega arith

components_exported : (c : Scope) (u : Sort) (i : ℕ) → (with_exported c u i).components ≡ c.components + is_in 4 (Some (space u))
components_exported c s.Component i = omega arith
components_exported c _ i = omega arith

components_bound : (c : Scope) (side : Side) (path : List Place) (d : Description) (a : Scope) → (with_bound a side path (described_item c d)).components ≡ a.components + is_in 4 (Some (space (described_sort d)))
components_bound c side path (e.Component i) a = omega arith
components_bound c side path _ a = omega arith

modules_read : (r : Root) (x : Item) → (read r x).scope.modules ≡ r.scope.modules + is_in 0 (adds x)
modules_read r (custom n bs) = omega arith
modules_read r (core_type m) = omega arith
modules_read r (nested bs) = omega arith
modules_read r (instantiate i args) = omega arith
modules_read r (alias_item (export_alias u i n)) = ap (λ c. c.modules) (scope_with _ u _) ∙ modules_alias r.scope u _ n
modules_read r (alias_item (outer_alias u k i)) = ap (λ c. c.modules) (scope_with _ u _) ∙ modules_outer r.scope _ u k i
modules_read r (type_item d) = omega arith
modules_read r (import_item n d) = ap (λ c. c.modules) (scope_with _ (described_sort d) _) ∙ modules_bound r.scope _ _ d r.scope
modules_read r (export_item n u i) = ap (λ c. c.modules) (scope_with _ u _) ∙ modules_exported r.scope u i

components_read : (r : Root) (x : Item) → (read r x).scope.components ≡ r.scope.components + is_in 4 (adds x)
components_read r (custom n bs) = omega arith
components_read r (core_type m) = omega arith
components_read r (nested bs) = omega arith
components_read r (instantiate i args) = omega arith
components_read r (alias_item (export_alias u i n)) = ap (λ c. c.components) (scope_with _ u _) ∙ components_alias r.scope u _ n
components_read r (alias_item (outer_alias u k i)) = ap (λ c. c.components) (scope_with _ u _) ∙ components_outer r.scope _ u k i
components_read r (type_item d) = omega arith
components_read r (import_item n d) = ap (λ c. c.components) (scope_with _ (described_sort d) _) ∙ components_bound r.scope _ _ d r.scope
components_read r (export_item n u i) = ap (λ c. c.components) (scope_with _ u _) ∙ components_exported r.scope u i

module _ (f : Scope → ℕ) (k : ℕ) (step : (r : Root) (x : Item) → f (read r x).scope ≡ f r.scope + is_in k (adds x)) where
  number_after : (r : Root) (xs : List Item) → f (read_all r xs).scope ≡ f r.scope + indexes k xs
  number_after r [] = omega arith
  number_after r (x ∷ xs) = omega (arith, step r x, number_after (read r x) xs)

  number_stays : (items more : List Item) → f (meaning items).scope ≤ f (meaning (items ++ more)).scope
  number_stays items more = let e = ap (λ r. f r.scope) (read_append start items more) ∙ number_after (meaning items) more in omega arith

pub modules_counted : (items : List Item) → (meaning items).scope.modules ≡ indexes (space s.CoreModule) items
modules_counted items = omega (arith, number_after (λ c. c.modules) 0 modules_read start items)

pub components_counted : (items : List Item) → (meaning items).scope.components ≡ indexes (space s.Component) items
components_counted items = omega (arith, number_after (λ c. c.components) 4 components_read start items)

pub root_grows : (items more : List Item) → Grows (meaning items).scope (meaning (items ++ more)).scope
root_grows items more =
    let a = all_longer scope_core_types 6 core_read (meaning items) more in
    let b = all_longer scope_types 3 types_read (meaning items) more in
    let c = all_longer scope_instances 5 instances_read (meaning items) more in
    record {
      core_types = a.more;
      types = b.more;
      instances = c.more;
      core_types_are = ap (λ r. r.scope.core_types) (read_append start items more) ∙ a.is;
      types_are = ap (λ r. r.scope.types) (read_append start items more) ∙ b.is;
      instances_are = ap (λ r. r.scope.instances) (read_append start items more) ∙ c.is;
      modules_stay = number_stays (λ c. c.modules) 0 modules_read items more;
      components_stay = number_stays (λ c. c.components) 4 components_read items more;
    }

-- declarations

pub after_append : (xs ys : List Decl) (c : Scope) (out : List Scope) → after (decls (xs ++ ys)) c out ≡ after (decls ys) (after (decls xs) c out) out
after_append [] ys c out = refl
after_append (x ∷ xs) ys c out = after_append xs ys (with_decl x c out) out

pub one_more : (ds : List Decl) (d : Decl) (out : List Scope) → after (decls (ds ++ d ∷ [])) empty out ≡ with_decl d (after (decls ds) empty out) out
one_more ds d out = after_append ds (d ∷ []) empty out

core_decl : (d : Decl) (c : Scope) (out : List Scope) → Longer c.core_types (with_decl d c out).core_types (is_in 6 (Some (decl_adds d)))
core_decl (core_type_decl m) c out = one_longer c.core_types _
core_decl (type_decl t) c out = same_list c.core_types
core_decl (alias_decl (export_alias t i n)) c out = core_alias c t _ n
core_decl (alias_decl (outer_alias t k i)) c out = core_outer c _ t k i
core_decl (import_decl n d) c out = core_bound c _ _ d _
core_decl (export_decl n d) c out = core_bound c _ _ d _

types_decl : (d : Decl) (c : Scope) (out : List Scope) → Longer c.types (with_decl d c out).types (is_in 3 (Some (decl_adds d)))
types_decl (core_type_decl m) c out = same_list c.types
types_decl (type_decl t) c out = one_longer c.types _
types_decl (alias_decl (export_alias t i n)) c out = types_alias c t _ n
types_decl (alias_decl (outer_alias t k i)) c out = types_outer c _ t k i
types_decl (import_decl n d) c out = types_bound c _ _ d _
types_decl (export_decl n d) c out = types_bound c _ _ d _

instances_decl : (d : Decl) (c : Scope) (out : List Scope) → Longer c.instances (with_decl d c out).instances (is_in 5 (Some (decl_adds d)))
instances_decl (core_type_decl m) c out = same_list c.instances
instances_decl (type_decl t) c out = same_list c.instances
instances_decl (alias_decl (export_alias t i n)) c out = instances_alias c t _ n
instances_decl (alias_decl (outer_alias t k i)) c out = instances_outer c _ t k i
instances_decl (import_decl n d) c out = instances_bound c _ _ d _
instances_decl (export_decl n d) c out = instances_bound c _ _ d _

modules_decl : (d : Decl) (c : Scope) (out : List Scope) → (with_decl d c out).modules ≡ c.modules + is_in 0 (Some (decl_adds d))
modules_decl (core_type_decl m) c out = omega arith
modules_decl (type_decl t) c out = omega arith
modules_decl (alias_decl (export_alias t i n)) c out = modules_alias c t _ n
modules_decl (alias_decl (outer_alias t k i)) c out = modules_outer c _ t k i
modules_decl (import_decl n d) c out = modules_bound c _ _ d _
modules_decl (export_decl n d) c out = modules_bound c _ _ d _

components_decl : (d : Decl) (c : Scope) (out : List Scope) → (with_decl d c out).components ≡ c.components + is_in 4 (Some (decl_adds d))
components_decl (core_type_decl m) c out = omega arith
components_decl (type_decl t) c out = omega arith
components_decl (alias_decl (export_alias t i n)) c out = components_alias c t _ n
components_decl (alias_decl (outer_alias t k i)) c out = components_outer c _ t k i
components_decl (import_decl n d) c out = components_bound c _ _ d _
components_decl (export_decl n d) c out = components_bound c _ _ d _

module _ (f : Scope → ℕ) (k : ℕ) (step : (d : Decl) (c : Scope) (out : List Scope) → f (with_decl d c out) ≡ f c + is_in k (Some (decl_adds d))) where
  number_declared : (ds : List Decl) (c : Scope) (out : List Scope) → f (after (decls ds) c out) ≡ f c + declared k ds
  number_declared [] c out = omega arith
  number_declared (d ∷ ds) c out = omega (arith, step d c out, number_declared ds (with_decl d c out) out)

  number_kept : (ds more : List Decl) (out : List Scope) → f (after (decls ds) empty out) ≤ f (after (decls (ds ++ more)) empty out)
  number_kept ds more out = let e = ap f (after_append ds more empty out) ∙ number_declared more (after (decls ds) empty out) out in omega arith

pub declared_modules_counted : (ds : List Decl) (out : List Scope) → (after (decls ds) empty out).modules ≡ declared (space s.CoreModule) ds
declared_modules_counted ds out = omega (arith, number_declared (λ c. c.modules) 0 modules_decl ds empty out)

pub declared_components_counted : (ds : List Decl) (out : List Scope) → (after (decls ds) empty out).components ≡ declared (space s.Component) ds
declared_components_counted ds out = omega (arith, number_declared (λ c. c.components) 4 components_decl ds empty out)

abbrev declared_types : Scope → List Tree
declared_types c = c.types

abbrev declared_instances : Scope → List Bound
declared_instances c = c.instances

module _ {A : Type 0} (f : Scope → List A) (k : ℕ) (step : (d : Decl) (c : Scope) (out : List Scope) → Longer (f c) (f (with_decl d c out)) (is_in k (Some (decl_adds d)))) where
  longer_after : (ds : List Decl) (c : Scope) (out : List Scope) → Longer (f c) (f (after (decls ds) c out)) (declared k ds)
  longer_after [] c out = same_list (f c)
  longer_after (d ∷ ds) c out = longer_twice (step d c out) (longer_after ds (with_decl d c out) out)

  -- behind the declarations before them
  longer_behind : (ds more : List Decl) (out : List Scope) → Longer (f (after (decls ds) empty out)) (f (after (decls (ds ++ more)) empty out)) (declared k more)
  longer_behind ds more out = rw (after_append ds more empty out) (longer_after more (after (decls ds) empty out) out)

pub declared_core_types_counted : (ds : List Decl) (out : List Scope) → length (after (decls ds) empty out).core_types ≡ declared core_types ds
declared_core_types_counted ds out = let l = longer_after core_types_in 6 core_decl ds empty out in ap length l.is ∙ l.count

pub declared_types_counted : (ds : List Decl) (out : List Scope) → length (after (decls ds) empty out).types ≡ declared (space s.Type) ds
declared_types_counted ds out = let l = longer_after declared_types 3 types_decl ds empty out in ap length l.is ∙ l.count

pub declared_instances_counted : (ds : List Decl) (out : List Scope) → length (after (decls ds) empty out).instances ≡ declared (space s.Instance) ds
declared_instances_counted ds out = let l = longer_after declared_instances 5 instances_decl ds empty out in ap length l.is ∙ l.count

pub grows : (ds more : List Decl) (out : List Scope) → Grows (after (decls ds) empty out) (after (decls (ds ++ more)) empty out)
grows ds more out =
    let a = longer_behind core_types_in 6 core_decl ds more out in
    let b = longer_behind declared_types 3 types_decl ds more out in
    let c = longer_behind declared_instances 5 instances_decl ds more out in
    record {
      core_types = a.more;
      types = b.more;
      instances = c.more;
      core_types_are = a.is;
      types_are = b.is;
      instances_are = c.is;
      modules_stay = number_kept (λ c. c.modules) 0 modules_decl ds more out;
      components_stay = number_kept (λ c. c.components) 4 components_decl ds more out;
    }

pub declared_core_types_earlier : (ds more : List Decl) (out : List Scope) (i : ℕ) → i < declared core_types ds → type_at (after (decls (ds ++ more)) empty out).core_types i ≡ type_at (after (decls ds) empty out).core_types i
declared_core_types_earlier ds more out i h =
    let l = grows ds more out in
    ap (λ xs. type_at xs i) l.core_types_are ∙ type_earlier (after (decls ds) empty out).core_types l.core_types i (rw (declared_core_types_counted ds out) h)

pub declared_types_earlier : (ds more : List Decl) (out : List Scope) (i : ℕ) → i < declared (space s.Type) ds → type_at (after (decls (ds ++ more)) empty out).types i ≡ type_at (after (decls ds) empty out).types i
declared_types_earlier ds more out i h =
    let l = grows ds more out in
    ap (λ xs. type_at xs i) l.types_are ∙ type_earlier (after (decls ds) empty out).types l.types i (rw (declared_types_counted ds out) h)

pub declared_instances_earlier : (ds more : List Decl) (out : List Scope) (i : ℕ) → i < declared (space s.Instance) ds → bound_at (after (decls (ds ++ more)) empty out).instances i ≡ bound_at (after (decls ds) empty out).instances i
declared_instances_earlier ds more out i h =
    let l = grows ds more out in
    ap (λ xs. bound_at xs i) l.instances_are ∙ bound_earlier (after (decls ds) empty out).instances l.instances i (rw (declared_instances_counted ds out) h)

pub declared_new_core_type : (ds : List Decl) (m : List ModuleDecl) (out : List Scope) → type_at (after (decls (ds ++ core_type_decl m ∷ [])) empty out).core_types (declared core_types ds) ≡ module_tree m
declared_new_core_type ds m out =
    ap (λ c. type_at c.core_types (declared core_types ds)) (one_more ds (core_type_decl m) out) ∙ type_new (after (decls ds) empty out).core_types (module_tree m) _ (sym (declared_core_types_counted ds out))

pub declared_new_type : (ds : List Decl) (t : TypeDef) (out : List Scope) → type_at (after (decls (ds ++ type_decl t ∷ [])) empty out).types (declared (space s.Type) ds) ≡ tree_of t (after (decls ds) empty out) out
declared_new_type ds t out =
    ap (λ c. type_at c.types (declared (space s.Type) ds)) (one_more ds (type_decl t) out) ∙ type_new (after (decls ds) empty out).types (tree_of t (after (decls ds) empty out) out) _ (sym (declared_types_counted ds out))

-- the scopes around

pub type_kept : (c d : Scope) (i : ℕ) → Grows c d → i < length c.types → type_at d.types i ≡ type_at c.types i
type_kept c d i g h = ap (λ xs. type_at xs i) g.types_are ∙ type_earlier c.types g.types i h

instance_kept : (c d : Scope) (i : ℕ) → Grows c d → i < length c.instances → bound_at d.instances i ≡ bound_at c.instances i
instance_kept c d i g h = ap (λ xs. bound_at xs i) g.instances_are ∙ bound_earlier c.instances g.instances i h

outer_kept : (c o q : Scope) (t : Sort) (k i : ℕ) → Grows o q → IsThere t i o → with_outer c t k q i ≡ with_outer c t k o i
outer_kept c o q s.Type k i g h = ap (λ t. record c { types = c.types ++ seen_from k t ∷ [] }) (type_kept o q i g h)
outer_kept c o q s.Instance k i g h = ap (λ b. record c { instances = c.instances ++ outer_bound k b ∷ [] }) (instance_kept o q i g h)
outer_kept c o q _ k i g h = refl

pub same_scope : (c : Scope) → Grows c c
same_scope c = record {
  core_types = [];
  types = [];
  instances = [];
  core_types_are = sym (append-nil c.core_types);
  types_are = sym (append-nil c.types);
  instances_are = sym (append-nil c.instances);
  modules_stay = omega arith;
  components_stay = omega arith;
}

pub grows_twice : (a b c : Scope) → Grows a b → Grows b c → Grows a c
grows_twice a b c p q = record {
  core_types = p.core_types ++ q.core_types;
  types = p.types ++ q.types;
  instances = p.instances ++ q.instances;
  core_types_are = q.core_types_are ∙ ap (λ xs. xs ++ q.core_types) p.core_types_are ∙ append_assoc a.core_types p.core_types q.core_types;
  types_are = q.types_are ∙ ap (λ xs. xs ++ q.types) p.types_are ∙ append_assoc a.types p.types q.types;
  instances_are = q.instances_are ∙ ap (λ xs. xs ++ q.instances) p.instances_are ∙ append_assoc a.instances p.instances q.instances;
  modules_stay = let h = p.modules_stay in let k = q.modules_stay in omega arith;
  components_stay = let h = p.components_stay in let k = q.components_stay in omega arith;
}

pub same_scopes : (cs : List Scope) → AllGrow cs cs
same_scopes [] = tt
same_scopes (c ∷ cs) = (same_scope c, same_scopes cs)

pub all_grow_twice : (xs ys zs : List Scope) → AllGrow xs ys → AllGrow ys zs → AllGrow xs zs
all_grow_twice [] ys zs p q = tt
all_grow_twice (a ∷ xs) (b ∷ ys) (c ∷ zs) p q = (grows_twice a b c p.0 q.0, all_grow_twice xs ys zs p.1 q.1)
all_grow_twice (a ∷ xs) [] zs p q = absurd p
all_grow_twice (a ∷ xs) (b ∷ ys) [] p q = absurd q

-- a scope without indexes
from_empty : (c : Scope) → Grows empty c
from_empty c = record {
  core_types = c.core_types;
  types = c.types;
  instances = c.instances;
  core_types_are = refl;
  types_are = refl;
  instances_are = refl;
  modules_stay = omega arith;
  components_stay = omega arith;
}

pub scopes_grow : (cs ds : List Scope) (k : ℕ) → AllGrow cs ds → Grows (scope_at cs k) (scope_at ds k)
scopes_grow [] ds k g = from_empty (scope_at ds k)
scopes_grow (c ∷ cs) [] k g = absurd g
scopes_grow (c ∷ cs) (d ∷ ds) zero g = g.0
scopes_grow (c ∷ cs) (d ∷ ds) (suc k) g = scopes_grow cs ds k g.1

mutual
  pub tree_kept : (t : TypeDef) (c : Scope) (out new : List Scope) → AllGrow out new → TypeReaches t c out → tree_of t c new ≡ tree_of t c out
  tree_kept (value_def t) c out new g h = refl
  tree_kept (func_def a ps r) c out new g h = refl
  tree_kept (component_def ds) c out new g h = ap (λ w. component w.imports w.exports) (after_kept ds empty (c ∷ out) (c ∷ new) (same_scope c, g) h)
  tree_kept (instance_def ds) c out new g h = ap (λ w. instance w.exports) (after_kept ds empty (c ∷ out) (c ∷ new) (same_scope c, g) h)

  pub after_kept : (ds : Decls) (c : Scope) (out new : List Scope) → AllGrow out new → Reach ds c out → after ds c new ≡ after ds c out
  after_kept end c out new g h = refl
  after_kept (next d ds) c out new g h = ap (λ w. after ds w new) (decl_kept d c out new g h.0) ∙ after_kept ds (with_decl d c out) out new g h.1

  pub decl_kept : (d : Decl) (c : Scope) (out new : List Scope) → AllGrow out new → Reaches d c out → with_decl d c new ≡ with_decl d c out
  decl_kept (core_type_decl m) c out new g h = refl
  decl_kept (type_decl t) c out new g h = ap (λ x. record c { types = c.types ++ x ∷ [] }) (tree_kept t c out new g h)
  decl_kept (alias_decl (export_alias t i n)) c out new g h = refl
  decl_kept (alias_decl (outer_alias t k i)) c out new g h = outer_kept c (scope_at (c ∷ out) k) (scope_at (c ∷ new) k) t k i (scopes_grow (c ∷ out) (c ∷ new) k (same_scope c, g)) h
  decl_kept (import_decl n d) c out new g h = refl
  decl_kept (export_decl n d) c out new g h = refl

pub around : (ds : Decls) (out new : List Scope) → AllGrow out new → Reach ds empty out → after ds empty new ≡ after ds empty out
around ds out new g h = after_kept ds empty out new g h

-- what outer aliases reach

reach_snoc : (ds : List Decl) (d : Decl) (c : Scope) (out : List Scope) → Reach (decls ds) c out → Reaches d (after (decls ds) c out) out → Reach (decls (ds ++ d ∷ [])) c out
reach_snoc [] d c out h g = (g, tt)
reach_snoc (x ∷ xs) d c out h g = (h.0, reach_snoc xs d (with_decl x c out) out h.1 g)

pub reach_one_more : (ds : List Decl) (d : Decl) (out : List Scope) → Reach (decls ds) empty out → Reaches d (after (decls ds) empty out) out → Reach (decls (ds ++ d ∷ [])) empty out
reach_one_more ds d out h g = reach_snoc ds d empty out h g

further : {A : Type 0} (old new more : List A) (i : ℕ) → new ≡ old ++ more → i < length old → i < length new
further old new more i e h = let l : length new ≡ length old + length more = ap length e ∙ length-append old more in omega arith

there_kept : (t : Sort) (i : ℕ) (o q : Scope) → Grows o q → IsThere t i o → IsThere t i q
there_kept s.Type i o q g h = further o.types q.types g.types i g.types_are h
there_kept s.Instance i o q g h = further o.instances q.instances g.instances i g.instances_are h
there_kept s.CoreModule i o q g h = tt
there_kept s.Func i o q g h = tt
there_kept s.Value i o q g h = tt
there_kept s.Component i o q g h = tt

mutual
  type_reaches : (t : TypeDef) (c : Scope) (out new : List Scope) → AllGrow out new → TypeReaches t c out → TypeReaches t c new
  type_reaches (value_def t) c out new g h = tt
  type_reaches (func_def a ps r) c out new g h = tt
  type_reaches (component_def ds) c out new g h = still_reach ds empty (c ∷ out) (c ∷ new) (same_scope c, g) h
  type_reaches (instance_def ds) c out new g h = still_reach ds empty (c ∷ out) (c ∷ new) (same_scope c, g) h

  still_reach : (ds : Decls) (c : Scope) (out new : List Scope) → AllGrow out new → Reach ds c out → Reach ds c new
  still_reach end c out new g h = tt
  still_reach (next d ds) c out new g h = (decl_reaches d c out new g h.0, subst (λ (w : Scope). Reach ds w new) (sym (decl_kept d c out new g h.0)) (still_reach ds (with_decl d c out) out new g h.1))

  decl_reaches : (d : Decl) (c : Scope) (out new : List Scope) → AllGrow out new → Reaches d c out → Reaches d c new
  decl_reaches (core_type_decl m) c out new g h = tt
  decl_reaches (type_decl t) c out new g h = type_reaches t c out new g h
  decl_reaches (alias_decl (export_alias t i n)) c out new g h = tt
  decl_reaches (alias_decl (outer_alias t k i)) c out new g h = there_kept t i (scope_at (c ∷ out) k) (scope_at (c ∷ new) k) (scopes_grow (c ∷ out) (c ∷ new) k (same_scope c, g)) h
  decl_reaches (import_decl n d) c out new g h = tt
  decl_reaches (export_decl n d) c out new g h = tt

pub reach_kept : (ds : Decls) (out new : List Scope) → AllGrow out new → Reach ds empty out → Reach ds empty new
reach_kept ds out new g h = still_reach ds empty out new g h

-- the function types of a core module type

abbrev Funcs : Type 0
Funcs = List (List CoreType × List CoreType)

func_new : (fs : Funcs) (ps rs : List CoreType) (i : ℕ) (make : List CoreType → List CoreType → CoreItem) → i ≡ length fs → func_at (fs ++ (ps, rs) ∷ []) i make ≡ make ps rs
func_new [] ps rs zero make e = refl
func_new [] ps rs (suc i) make e = absurd (omega arith)
func_new (f ∷ fs) ps rs zero make e = absurd (omega arith)
func_new (f ∷ fs) ps rs (suc i) make e = func_new fs ps rs i make (omega arith)

func_earlier : (fs gs : Funcs) (i : ℕ) (make : List CoreType → List CoreType → CoreItem) → i < length fs → func_at (fs ++ gs) i make ≡ func_at fs i make
func_earlier [] gs i make h = absurd (omega arith)
func_earlier (f ∷ fs) gs zero make h = refl
func_earlier (f ∷ fs) gs (suc i) make h = func_earlier fs gs i make (omega arith)

module_append : (m : Module) (xs ys : List ModuleDecl) → module_after m (xs ++ ys) ≡ module_after (module_after m xs) ys
module_append m [] ys = refl
module_append m (x ∷ xs) ys = module_append (with_module_decl m x) xs ys

funcs_decl : (d : ModuleDecl) (m : Module) → Longer m.funcs (with_module_decl m d).funcs (function_types (d ∷ []))
funcs_decl (module_import o n x) m = same_list m.funcs
funcs_decl (module_func ps rs) m = one_longer m.funcs (ps, rs)
funcs_decl (module_export n x) m = same_list m.funcs

types_split : (d : ModuleDecl) (ds : List ModuleDecl) → function_types (d ∷ []) + function_types ds ≡ function_types (d ∷ ds)
types_split (module_import o n x) ds = omega arith
types_split (module_func ps rs) ds = omega arith
types_split (module_export n x) ds = omega arith

funcs_after : (ds : List ModuleDecl) (m : Module) → Longer m.funcs (module_after m ds).funcs (function_types ds)
funcs_after [] m = same_list m.funcs
funcs_after (d ∷ ds) m = rw (← types_split d ds) (longer_twice (funcs_decl d m) (funcs_after ds (with_module_decl m d)))

functions_counted : (ds : List ModuleDecl) → length (module_after no_module ds).funcs ≡ function_types ds
functions_counted ds = let l = funcs_after ds no_module in ap length l.is ∙ l.count

pub new_function : (ds : List ModuleDecl) (ps rs : List CoreType) (make : List CoreType → List CoreType → CoreItem) → func_at (module_after no_module (ds ++ module_func ps rs ∷ [])).funcs (function_types ds) make ≡ make ps rs
new_function ds ps rs make =
    ap (λ m. func_at m.funcs (function_types ds) make) (module_append no_module ds (module_func ps rs ∷ [])) ∙ func_new (module_after no_module ds).funcs ps rs (function_types ds) make (sym (functions_counted ds))

pub functions_earlier : (ds more : List ModuleDecl) (i : ℕ) (make : List CoreType → List CoreType → CoreItem) → i < function_types ds → func_at (module_after no_module (ds ++ more)).funcs i make ≡ func_at (module_after no_module ds).funcs i make
functions_earlier ds more i make h =
    let l = funcs_after more (module_after no_module ds) in
    ap (λ m. func_at m.funcs i make) (module_append no_module ds more) ∙ ap (λ fs. func_at fs i make) l.is ∙ func_earlier (module_after no_module ds).funcs l.more i make (rw (functions_counted ds) h)
