-- The root's imports.
use Rattle.std.specs.Prelude.{ℕ, ◌≡◌, List, [], ◌∷◌, ◌++◌}
use Rattle.std.proofs.Common.{refl, ap, ◌∙◌, sym, subst, arith}
use Rattle.wac_types_shapes.specs.primitives.Name.{Name}
use Rattle.wac_types_shapes.specs.primitives.Tree.{imported, Tree, resource, fresh, type_equal, instance_item}
use Rattle.wac_types_collection.specs.collection.Collection.{Collection}
use Rattle.wac_types_collection.specs.collection.Bound.{Bindings}
use Rattle.wac_binary.specs.declared.sorts.Description.{Description}
use Rattle.wac_binary.specs.declared.sorts.Description.TheVariants as e
use Rattle.wac_binary.specs.declared.sorts.Sort.TheVariants as s
use Rattle.wac_binary.specs.Items.{Item, import_item}
use Rattle.wac_binary.specs.Indexes.{described_sort}
use Rattle.wac_binary.specs.Unfold.{Scope, Bound, counted_up, with_bound, described_item}
use Rattle.wac_binary.specs.Meaning.{Root, meaning}
use Rattle.wac_binary.specs.HasMeaning.{IsType, IsFunction, IsInstance, IsComponent, IsModule, HasMeaning}
use Rattle.wac_encode_stacks.specs.private.Reads.{Reads}
use Rattle.wac_encode_stacks.specs.Scopes.{root, at_type, Open, next_type, next_instance}
use Rattle.wac_encode_stacks.specs.Good.{At, Keeps, Good, top, Onward}
use Rattle.wac_encode_stacks.specs.Instances.{position_of, holding, ImportsInstance, ImportsType, ImportsFresh, ImportsFunc, ImportsModule, ImportsComponent, ListsImport, import_leaf}
use Rattle.wac_encode_stacks.proofs.Grow.{at-last, at-type_at, keeps-refl, keeps-type, keeps-instance, good-pushed}
use Rattle.wac_encode_stacks.proofs.Steps.{good-called}

with-import : Reads → (items : List Item) (n : Name) (d : Description) → (meaning (items ++ import_item n d ∷ [])).scope ≡ with_bound (meaning items).scope imported (position_of items ∷ []) (described_item (meaning items).scope d)
with-import reads items n (e.CoreModule i) = ap (λ (r : Root). r.scope) (reads.item_after items (import_item n (e.CoreModule i)))
with-import reads items n (e.Func i) = ap (λ (r : Root). r.scope) (reads.item_after items (import_item n (e.Func i)))
with-import reads items n (e.Equal i) = ap (λ (r : Root). r.scope) (reads.item_after items (import_item n (e.Equal i)))
with-import reads items n e.Fresh = ap (λ (r : Root). r.scope) (reads.item_after items (import_item n e.Fresh))
with-import reads items n (e.Component i) = ap (λ (r : Root). r.scope) (reads.item_after items (import_item n (e.Component i)))
with-import reads items n (e.Instance i) = ap (λ (r : Root). r.scope) (reads.item_after items (import_item n (e.Instance i)))

-- the root is x, whose scope is e, which keeps what there was
good-root : (c : Collection) (m : Bindings) (items more : List Item) (o : Open) (e : Scope) → Good c (m ∷ []) (holding items o ∷ []) → HasMeaning more → (meaning more).scope ≡ e → Keeps (meaning items).scope e → e.imports ≡ (meaning items).scope.imports → e.exports ≡ (meaning items).scope.exports → Onward c (m ∷ []) (holding items o ∷ []) (holding more o ∷ [])
good-root c m items more o e g says is keeps ins outs = ((good-pushed c m (top []) (holding items o) [] (root more) e g.0 (λ xs q. refl) says (λ out' u. is) keeps, tt), (record { keeps = subst (Keeps (meaning items).scope) (sym is) keeps; imports = ap (λ (w : Scope). w.imports) is ∙ ins; exports = ap (λ (w : Scope). w.exports) is ∙ outs }, tt))

pub imports-instance : Reads → ImportsInstance
imports-instance reads c m items o n i t g type at = (
  good-root c m items (items ++ import_item n (e.Instance i) ∷ []) o (now t) g (reads.item_meant items (import_item n (e.Instance i)) g.0.meaning (subst IsInstance (sym (at-type_at (meaning items).scope.types i t at)) type)) is (keeps-instance (meaning items).scope (bound t) (meaning items).scope.imports (meaning items).scope.exports) refl refl,
  subst (λ (w : Scope). At w.instances (next_instance (holding items o)) (bound t)) (sym is) (subst (λ (k : ℕ). At ((now t).instances) k (bound t)) (reads.instances_counted items) (at-last (meaning items).scope.instances (bound t))),
)
  where
    bound : Tree → Bound
    bound u = record { type = u; side = imported; path = position_of items ∷ [] }

    now : Tree → Scope
    now u = with_bound (meaning items).scope imported (position_of items ∷ []) (instance_item u)

    is : (meaning (items ++ import_item n (e.Instance i) ∷ [])).scope ≡ now t
    is = (with-import reads) items n (e.Instance i) ∙ ap now (at-type_at (meaning items).scope.types i t at)

pub imports-type : Reads → ImportsType
imports-type reads c m items o n i t g type at = (
  good-root c m items (items ++ import_item n (e.Equal i) ∷ []) o (now t) g (reads.item_meant items (import_item n (e.Equal i)) g.0.meaning (subst IsType (sym (at-type_at (meaning items).scope.types i t at)) type)) is (keeps-type (meaning items).scope t (meaning items).scope.imports (meaning items).scope.exports) refl refl,
  subst (λ (w : Scope). At w.types (next_type (holding items o)) t) (sym is) (subst (λ (k : ℕ). At ((now t).types) k t) (reads.types_counted items) (at-last (meaning items).scope.types t)),
)
  where
    now : Tree → Scope
    now u = with_bound (meaning items).scope imported (position_of items ∷ []) (type_equal u)

    is : (meaning (items ++ import_item n (e.Equal i) ∷ [])).scope ≡ now t
    is = (with-import reads) items n (e.Equal i) ∙ ap now (at-type_at (meaning items).scope.types i t at)

pub imports-fresh : Reads → ImportsFresh
imports-fresh reads c m items o n r g none =
    (((good-called c m (top []) (holding (items ++ import_item n e.Fresh ∷ []) o) [] r (import_leaf items) (at_type (next_type (holding items o))) on.0.0 none at, tt), on.1), at)
  where
    now : Scope
    now = with_bound (meaning items).scope imported (position_of items ∷ []) fresh

    is : (meaning (items ++ import_item n e.Fresh ∷ [])).scope ≡ now
    is = (with-import reads) items n e.Fresh

    on : Onward c (m ∷ []) (holding items o ∷ []) (holding (items ++ import_item n e.Fresh ∷ []) o ∷ [])
    on = good-root c m items (items ++ import_item n e.Fresh ∷ []) o now g (reads.item_meant items (import_item n e.Fresh) g.0.meaning tt) is (keeps-type (meaning items).scope (resource (import_leaf items)) (meaning items).scope.imports (meaning items).scope.exports) refl refl

    at : At ((meaning (items ++ import_item n e.Fresh ∷ [])).scope.types) (next_type (holding items o)) (resource (import_leaf items))
    at = subst (λ (w : Scope). At w.types (next_type (holding items o)) (resource (import_leaf items))) (sym is) (subst (λ (k : ℕ). At (now.types) k (resource (import_leaf items))) (reads.types_counted items) (at-last (meaning items).scope.types (resource (import_leaf items))))

pub imports-func : Reads → ImportsFunc
imports-func reads c m items o n i t g fun at = good-root c m items (items ++ import_item n (e.Func i) ∷ []) o (meaning items).scope g (reads.item_meant items (import_item n (e.Func i)) g.0.meaning (subst IsFunction (sym (at-type_at (meaning items).scope.types i t at)) fun)) ((with-import reads) items n (e.Func i)) (keeps-refl (meaning items).scope) refl refl

pub imports-module : Reads → ImportsModule
imports-module reads c m items o n i t g module_type at = good-root c m items (items ++ import_item n (e.CoreModule i) ∷ []) o (counted_up (meaning items).scope s.CoreModule) g (reads.item_meant items (import_item n (e.CoreModule i)) g.0.meaning (subst IsModule (sym (at-type_at (meaning items).scope.core_types i t at)) module_type)) ((with-import reads) items n (e.CoreModule i)) (record { core_types = λ j u h. h; types = λ j u h. h; instances = λ j b h. h; modules = omega arith; components = omega arith }) refl refl

pub imports-component : Reads → ImportsComponent
imports-component reads c m items o n i t g component_type at = good-root c m items (items ++ import_item n (e.Component i) ∷ []) o (counted_up (meaning items).scope s.Component) g (reads.item_meant items (import_item n (e.Component i)) g.0.meaning (subst IsComponent (sym (at-type_at (meaning items).scope.types i t at)) component_type)) ((with-import reads) items n (e.Component i)) (record { core_types = λ j u h. h; types = λ j u h. h; instances = λ j b h. h; modules = omega arith; components = omega arith }) refl refl

pub lists-import : Reads → ListsImport
lists-import reads items n d = (reads.imports_after items (import_item n d), reads.thing_new items (import_item n d) (described_sort d) refl)
