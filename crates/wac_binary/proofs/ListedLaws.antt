-- The imports and exports after one more item or declaration.
use Rattle.std.proofs.Common.{◌≡◌, ℕ, List, [], ◌∷◌, ◌++◌, refl, ap, sym, ◌∙◌, append-nil}
use Rattle.wac_types_shapes.specs.primitives.Name.{Name}
use Rattle.wac_types_shapes.specs.primitives.Tree.{Side, Place}
use Rattle.wac_binary.specs.declared.sorts.Sort.{Sort}
use Rattle.wac_binary.specs.declared.sorts.Sort.TheVariants as s
use Rattle.wac_binary.specs.declared.sorts.Description.{Description}
use Rattle.wac_binary.specs.declared.sorts.Description.TheVariants as e
use Rattle.wac_binary.specs.Items.{export_alias, outer_alias, decls, Decl, core_type_decl, type_decl, alias_decl, import_decl, export_decl, Item, custom, core_type, nested, instantiate, alias_item, type_item, import_item, export_item}
use Rattle.wac_binary.specs.Indexes.{described_sort}
use Rattle.wac_binary.specs.Unfold.{Scope, Bound, empty, described_item, with_bound, with_alias, with_outer, after, with_decl}
use Rattle.wac_binary.specs.Meaning.{Thing, Root, start, with_thing, with_exported, read, read_all, meaning}
use Rattle.wac_binary.specs.Added.{imports_added, exports_added, imports_declared, exports_declared}
use Rattle.wac_binary.proofs.MeaningLaws.{read_append, one_more, scope_with}
use Rattle.wac_binary.proofs.ScopeLaws.{one_more as one_more_declared}

-- the root

thing_imports : (r : Root) (u : Sort) (x : Thing) → (with_thing r u x).imports ≡ r.imports
thing_imports r s.CoreModule x = refl
thing_imports r _ x = refl

thing_exports : (r : Root) (u : Sort) (x : Thing) → (with_thing r u x).exports ≡ r.exports
thing_exports r s.CoreModule x = refl
thing_exports r _ x = refl

imports_read : (r : Root) (x : Item) → (read r x).imports ≡ r.imports ++ imports_added r x
imports_read r (custom n bs) = sym (append-nil r.imports)
imports_read r (core_type m) = sym (append-nil r.imports)
imports_read r (nested bs) = sym (append-nil r.imports)
imports_read r (instantiate i args) = sym (append-nil r.imports)
imports_read r (alias_item (export_alias u i n)) = thing_imports _ u _ ∙ sym (append-nil r.imports)
imports_read r (alias_item (outer_alias u k i)) = thing_imports _ u _ ∙ sym (append-nil r.imports)
imports_read r (type_item d) = sym (append-nil r.imports)
imports_read r (import_item n d) = thing_imports _ (described_sort d) _
imports_read r (export_item n u i) = thing_imports _ u _ ∙ sym (append-nil r.imports)

exports_read : (r : Root) (x : Item) → (read r x).exports ≡ r.exports ++ exports_added r x
exports_read r (custom n bs) = sym (append-nil r.exports)
exports_read r (core_type m) = sym (append-nil r.exports)
exports_read r (nested bs) = sym (append-nil r.exports)
exports_read r (instantiate i args) = sym (append-nil r.exports)
exports_read r (alias_item (export_alias u i n)) = thing_exports _ u _ ∙ sym (append-nil r.exports)
exports_read r (alias_item (outer_alias u k i)) = thing_exports _ u _ ∙ sym (append-nil r.exports)
exports_read r (type_item d) = sym (append-nil r.exports)
exports_read r (import_item n d) = thing_exports _ (described_sort d) _ ∙ sym (append-nil r.exports)
exports_read r (export_item n u i) = thing_exports _ u _

pub imports_one_more : (items : List Item) (x : Item) → (meaning (items ++ x ∷ [])).imports ≡ (meaning items).imports ++ imports_added (meaning items) x
imports_one_more items x = ap (λ r. r.imports) (one_more items x) ∙ imports_read (meaning items) x

pub exports_one_more : (items : List Item) (x : Item) → (meaning (items ++ x ∷ [])).exports ≡ (meaning items).exports ++ exports_added (meaning items) x
exports_one_more items x = ap (λ r. r.exports) (one_more items x) ∙ exports_read (meaning items) x

-- a scope: two lists of names that each step either keeps or adds to

-- the same imports and the same exports
record Same (c d : Scope) : Type 0 where
  imports : d.imports ≡ c.imports
  exports : d.exports ≡ c.exports

same : (c : Scope) → Same c c
same c = record { imports = refl; exports = refl }

same_alias : (c : Scope) (u : Sort) (b : Bound) (n : Name) → Same c (with_alias c u b n)
same_alias c s.CoreModule b n = record { imports = refl; exports = refl }
same_alias c s.Func b n = record { imports = refl; exports = refl }
same_alias c s.Value b n = record { imports = refl; exports = refl }
same_alias c s.Type b n = record { imports = refl; exports = refl }
same_alias c s.Component b n = record { imports = refl; exports = refl }
same_alias c s.Instance b n = record { imports = refl; exports = refl }

same_outer : (c : Scope) (u : Sort) (k : ℕ) (o : Scope) (i : ℕ) → Same c (with_outer c u k o i)
same_outer c s.CoreModule k o i = record { imports = refl; exports = refl }
same_outer c s.Func k o i = record { imports = refl; exports = refl }
same_outer c s.Value k o i = record { imports = refl; exports = refl }
same_outer c s.Type k o i = record { imports = refl; exports = refl }
same_outer c s.Component k o i = record { imports = refl; exports = refl }
same_outer c s.Instance k o i = record { imports = refl; exports = refl }

same_exported : (c : Scope) (u : Sort) (i : ℕ) → Same c (with_exported c u i)
same_exported c s.CoreModule i = record { imports = refl; exports = refl }
same_exported c s.Func i = record { imports = refl; exports = refl }
same_exported c s.Value i = record { imports = refl; exports = refl }
same_exported c s.Type i = record { imports = refl; exports = refl }
same_exported c s.Component i = record { imports = refl; exports = refl }
same_exported c s.Instance i = record { imports = refl; exports = refl }

same_bound : (c a : Scope) (side : Side) (path : List Place) (d : Description) → Same a (with_bound a side path (described_item c d))
same_bound c a side path (e.CoreModule i) = record { imports = refl; exports = refl }
same_bound c a side path (e.Func i) = record { imports = refl; exports = refl }
same_bound c a side path (e.Equal i) = record { imports = refl; exports = refl }
same_bound c a side path e.Fresh = record { imports = refl; exports = refl }
same_bound c a side path (e.Component i) = record { imports = refl; exports = refl }
same_bound c a side path (e.Instance i) = record { imports = refl; exports = refl }

-- at the root a scope has no imports or exports of its own
same_thing : (r : Root) (c : Scope) (u : Sort) (x : Thing) → Same c r.scope → Same c (with_thing r u x).scope
same_thing r c u x h = record { imports = ap (λ w. w.imports) (scope_with r u x) ∙ h.imports; exports = ap (λ w. w.exports) (scope_with r u x) ∙ h.exports }

same_read : (r : Root) (x : Item) → Same r.scope (read r x).scope
same_read r (custom n bs) = same r.scope
same_read r (core_type m) = record { imports = refl; exports = refl }
same_read r (nested bs) = record { imports = refl; exports = refl }
same_read r (instantiate i args) = record { imports = refl; exports = refl }
same_read r (alias_item (export_alias u i n)) = same_thing _ r.scope u _ (same_alias r.scope u _ n)
same_read r (alias_item (outer_alias u k i)) = same_thing _ r.scope u _ (same_outer r.scope u k _ i)
same_read r (type_item d) = record { imports = refl; exports = refl }
same_read r (import_item n d) = same_thing _ r.scope (described_sort d) _ (same_bound r.scope r.scope _ _ d)
same_read r (export_item n u i) = same_thing _ r.scope u _ (same_exported r.scope u i)

same_after : (r : Root) (xs : List Item) → Same r.scope (read_all r xs).scope
same_after r [] = same r.scope
same_after r (x ∷ xs) =
    let a = same_read r x in let b = same_after (read r x) xs in record { imports = b.imports ∙ a.imports; exports = b.exports ∙ a.exports }

pub root_imports : (items more : List Item) → (meaning (items ++ more)).scope.imports ≡ (meaning items).scope.imports
root_imports items more = ap (λ r. r.scope.imports) (read_append start items more) ∙ (same_after (meaning items) more).imports

pub root_exports : (items more : List Item) → (meaning (items ++ more)).scope.exports ≡ (meaning items).scope.exports
root_exports items more = ap (λ r. r.scope.exports) (read_append start items more) ∙ (same_after (meaning items) more).exports

-- declarations

imports_decl : (d : Decl) (c : Scope) (out : List Scope) → (with_decl d c out).imports ≡ imports_declared c d
imports_decl (core_type_decl m) c out = refl
imports_decl (type_decl t) c out = refl
imports_decl (alias_decl (export_alias t i n)) c out = (same_alias c t _ n).imports
imports_decl (alias_decl (outer_alias t k i)) c out = (same_outer c t k _ i).imports
imports_decl (import_decl n d) c out = (same_bound c _ _ _ d).imports
imports_decl (export_decl n d) c out = (same_bound c _ _ _ d).imports

exports_decl : (d : Decl) (c : Scope) (out : List Scope) → (with_decl d c out).exports ≡ exports_declared c d
exports_decl (core_type_decl m) c out = refl
exports_decl (type_decl t) c out = refl
exports_decl (alias_decl (export_alias t i n)) c out = (same_alias c t _ n).exports
exports_decl (alias_decl (outer_alias t k i)) c out = (same_outer c t k _ i).exports
exports_decl (import_decl n d) c out = (same_bound c _ _ _ d).exports
exports_decl (export_decl n d) c out = (same_bound c _ _ _ d).exports

pub declared_imports : (ds : List Decl) (d : Decl) (out : List Scope) → (after (decls (ds ++ d ∷ [])) empty out).imports ≡ imports_declared (after (decls ds) empty out) d
declared_imports ds d out = ap (λ c. c.imports) (one_more_declared ds d out) ∙ imports_decl d (after (decls ds) empty out) out

pub declared_exports : (ds : List Decl) (d : Decl) (out : List Scope) → (after (decls (ds ++ d ∷ [])) empty out).exports ≡ exports_declared (after (decls ds) empty out) d
declared_exports ds d out = ap (λ c. c.exports) (one_more_declared ds d out) ∙ exports_decl d (after (decls ds) empty out) out
