-- Core module types in an open scope; and what is held as bindings grow.
use Rattle.std.specs.Prelude.{ℕ, ◌≡◌, true, List, [], ◌∷◌, ◌++◌, length, slice_get}
use Rattle.std.proofs.Common.{refl, ap, ◌∙◌, sym, subst, arith}
use Rattle.wac_types_shapes.specs.primitives.Tree.{Tree}
use Rattle.wac_types_collection.specs.collection.Held.{of_held, module_tree as held_module_tree}
use Rattle.wac_types_collection.specs.collection.Bound.{held_tree}
use Rattle.wac_encode_stacks.specs.private.Reads.{Reads}
use Rattle.wac_encode_stacks.proofs.Unfolded.{held_item}
use Rattle.wac_binary.specs.Items.{Item, ModuleDecl, core_type_decl, core_type}
use Rattle.wac_binary.specs.Unfold.{Scope, no_module, module_tree}
use Rattle.wac_binary.specs.Meaning.{Root}
use Rattle.wac_binary.specs.HasMeaning.{ModuleHasMeaning}
use Rattle.wac_encode_stacks.proofs.Meant.{steady}
use Rattle.wac_encode_stacks.specs.Scopes.{Content, declarations, root, ContentHasMeaning, env, envs, scope_of}
use Rattle.wac_encode_stacks.specs.Good.{At, Keeps, Kept, is_bottom, top}
use Rattle.wac_encode_stacks.specs.private.Modules.{and_module, module_count, with_module, DefinesModule, HoldsModule}
use Rattle.wac_encode_stacks.proofs.Grow.{at-append, at-last, under-refl, Gives, good-pushed}
use Rattle.wac_encode_stacks.proofs.Steps.{IsSteady, top-onward}

abbrev and_core : Scope → Tree → Scope
and_core e t = record e { core_types = e.core_types ++ t ∷ [] }

keeps-core : (e : Scope) (t : Tree) → Keeps e (and_core e t)
keeps-core e t = record { core_types = λ i u h. at-append e.core_types (t ∷ []) i u h; types = λ i u h. h; instances = λ i u h. h; modules = omega arith; components = omega arith }

gives-module : Reads → (x : Content) (out : List Scope) (t : List ModuleDecl) → IsSteady x out → Gives out (and_module t x) (and_core (scope_of x out) (module_tree t))
gives-module reads (declarations ds) out t same out' g = reads.decl_after ds (core_type_decl t) out' ∙ ap (λ (w : Scope). and_core w (module_tree t)) (same out' g)
gives-module reads (root items) out t same out' g = ap (λ (r : Root). r.scope) (reads.item_after items (core_type t))

bottom-module : (x : Content) (out : List Scope) (t : List ModuleDecl) → ((items : List Item) → x ≡ root items → is_bottom out ≡ true) → (items : List Item) → and_module t x ≡ root items → is_bottom out ≡ true
bottom-module (declarations ds) out t h items e = let no : declarations (ds ++ core_type_decl t ∷ []) ≡ root items = e in cc
bottom-module (root xs) out t h items e = h xs refl

module-meaning : Reads → (x : Content) (out : List Scope) (t : List ModuleDecl) → ContentHasMeaning x out → ModuleHasMeaning no_module t → ContentHasMeaning (and_module t x) out
module-meaning reads (declarations ds) out t h says = reads.decl_meant ds (core_type_decl t) out h says
module-meaning reads (root items) out t h says = reads.item_meant items (core_type t) h says

module-counted : Reads → (x : Content) (out : List Scope) → length (scope_of x out).core_types ≡ module_count x
module-counted reads (declarations ds) out = reads.core_types_declared ds out
module-counted reads (root items) out = reads.core_types_counted items

pub defines-module : Reads → DefinesModule
defines-module reads c m ms o os t g says = (
  top-onward c m ms o (with_module t o) os g (good-pushed c m (top ms) o (envs os) (and_module t o.content) new g.0 (bottom-module o.content (envs os) t g.0.bottom) ((module-meaning reads) o.content (envs os) t g.0.meaning says) ((gives-module reads) o.content (envs os) t ((steady reads) o.content (envs os) g.0.meaning)) (keeps-core (env o (envs os)) (module_tree t))) kept,
  subst (λ (w : Scope). At w.core_types (module_count o.content) (module_tree t)) (sym now) (subst (λ (k : ℕ). At ((env o (envs os)).core_types ++ module_tree t ∷ []) k (module_tree t)) ((module-counted reads) o.content (envs os)) (at-last (env o (envs os)).core_types (module_tree t))),
)
  where
    new : Scope
    new = and_core (env o (envs os)) (module_tree t)

    now : env (with_module t o) (envs os) ≡ new
    now = (gives-module reads) o.content (envs os) t ((steady reads) o.content (envs os) g.0.meaning) (envs os) (under-refl (envs os))

    kept : Kept (env o (envs os)) (env (with_module t o) (envs os))
    kept = subst (Kept (env o (envs os))) (sym now) (record { keeps = keeps-core (env o (envs os)) (module_tree t); imports = refl; exports = refl })

pub holds-module : HoldsModule
unfolding held_tree
holds-module c m k x at f m' car = let h = held_item (slice_get c.modules k.0) x at in ap (of_held held_module_tree) h.1 ∙ ap held_module_tree h.2
