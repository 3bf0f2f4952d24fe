-- The imports of a merge begin a component.
use Rattle.std.proofs.Common.{ℕ, zero, suc, ◌≡◌, ◌+◌, ◌<◌, ◌≤◌, Bool, true, false, if◌then◌else◌, List, [], ◌∷◌, ◌++◌, length, Option, Some, slice_get, append_assoc, refl, ap, sym, ◌∙◌, subst, arith}
use Rattle.std.specs.List.{AllByRecursion}
use Rattle.std.proofs.lemmas.Option.{slice_get_within}
use Rattle.wac_types_shapes.specs.primitives.Name.{Name}
use Rattle.wac_types_shapes.specs.primitives.Tree.{imported, position, Tree, fresh, type_equal, instance_item, type_in}
use Rattle.wac_types_shapes.specs.declared.shapes.component.ItemKind.{ItemKind}
use Rattle.wac_types_shapes.specs.declared.shapes.component.ItemKind.TheVariants as kind
use Rattle.wac_types_shapes.specs.declared.shapes.component.«Type».{«Type» as AnyType}
use Rattle.wac_types_shapes.specs.declared.shapes.component.«Type».TheVariants as ty
use Rattle.wac_types_collection.specs.collection.Bound.{binds_here, held_tree}
use Rattle.wac_merge_classes.specs.entries.Classes.{Entry}
use Rattle.wac_merge_classes.specs.terms.Merge.{Merged}
use Rattle.wac_merge_classes.proofs.lemmas.entries.Lists.{some-at}
use Rattle.wac_binary.specs.declared.sorts.Sort.{Sort}
use Rattle.wac_binary.specs.declared.sorts.Sort.TheVariants as sort
use Rattle.wac_binary.specs.Indexes.{space, described_sort, indexes}
use Rattle.wac_binary.specs.Items.{Item, core_type, export_alias, outer_alias, alias_item, type_item, import_item}
use Rattle.wac_binary.specs.Meaning.{Thing, Root, Instantiation, Export, start, import_at, stands_for, with_thing, read, read_all, meaning}
use Rattle.wac_binary.specs.HasMeaning.{HasMeaning}
use Rattle.wac_binary.specs.Unfold.{Scope, Bound, bound_at, type_at}
use Rattle.wac_graph_model.specs.meaning.Means.{sort_of_kind}
use Rattle.wac_graph_model.specs.private.meaning.Beginning.{Places, HasImport, Begins}
use Rattle.wac_graph_model.specs.private.meaning.MergedImports.{AreOfSorts, imports_from, merged_imports, merged_item}
use Rattle.wac_graph_model.proofs.lemmas.meaning.MeaningLemmas.{Laws, counted_up}
use Rattle.wac_graph_model.proofs.lemmas.meaning.BeginLemmas.{import_stands}
use Rattle.wac_encode_stacks.specs.Good.{At, innermost}
use Rattle.wac_encode_stacks.specs.Scopes.{ContentHasMeaning, scope_of}
use Rattle.wac_encode_stacks.proofs.Moved.{held-here}
use Rattle.wac_encode_scopes.specs.declared.encodable.Encodable.{Encodable}
use Rattle.wac_encode_scopes.specs.declared.encodable.Encodable.TheVariants.{Builder, Instance, Component}
use Rattle.wac_encode_scopes.specs.declared.state.State.{State}
use Rattle.wac_encode_scopes.specs.Contents.{content_of}
use Rattle.wac_encode_scopes.specs.Roots.{IsRoot, items_of}
use Rattle.wac_encode_scopes.specs.States.{stack}
use Rattle.wac_encode_interfaces.specs.private.Imports.{RefersToImport, import_sort}
use Rattle.wac_encode_imports.specs.private.Imports.{merged_bindings, import_tree, AreImported, IsImportOrType}

-- ---- imports, types and aliases of types add nothing else

record Others : Type 0 where
  nested : List (List ℕ)
  instantiated : List Instantiation
  exported : List Export
  custom : List (Name × List ℕ)

abbrev others : Root → Others
others r = record { nested = r.nested_bytes; instantiated = r.instantiations; exported = r.exports; custom = r.customs }

others-with : (r : Root) (t : Sort) (x : Thing) → others (with_thing r t x) ≡ others r
others-with r sort.CoreModule x = refl
others-with r sort.Func x = refl
others-with r sort.Value x = refl
others-with r sort.«Type» x = refl
others-with r sort.Component x = refl
others-with r sort.Instance x = refl

others-read : (r : Root) (x : Item) → IsImportOrType x → others (read r x) ≡ others r
others-read r (core_type m) h = refl
others-read r (type_item t) h = refl
others-read r (alias_item (export_alias t i n)) h = others-with _ t _
others-read r (alias_item (outer_alias t k i)) h = others-with _ t _
others-read r (import_item n d) h = others-with _ (described_sort d) _
others-read r x h = absurd h

others-all : (r : Root) (xs : List Item) → AllByRecursion IsImportOrType xs → others (read_all r xs) ≡ others r
others-all r [] h = refl
others-all r (x ∷ xs) h = others-all (read r x) xs h.1 ∙ others-read r x h.0

-- ---- the list of imports

one-some : {A : Type 0} (x y : A) → Some x ≡ Some y → x ≡ y
one-some x y h = cc

list-is : (m : Merged) (p : ℕ) (es : List Entry) (xs : List (Name × Tree)) → length xs ≡ length es → ((q : ℕ) (e : Entry) → slice_get es q ≡ Some e → slice_get xs q ≡ Some (e.name, merged_item m (p + q) e)) → xs ≡ imports_from m p es
list-is m p [] [] count each = refl
list-is m p [] (x ∷ xs) count each = absurd (omega (arith, count))
list-is m p (e ∷ es) [] count each = absurd (omega (arith, count))
list-is m p (e ∷ es) (x ∷ xs) count each =
    let here : p + 0 ≡ p = omega arith in
    let first : x ≡ (e.name, merged_item m p e) = one-some x (e.name, merged_item m (p + 0) e) (each 0 e refl) ∙ ap (λ n. let y : Name × Tree = (e.name, merged_item m n e) in y) here in
    let rest = list-is m (suc p) es xs (omega (arith, count)) (λ q y at. each (suc q) y at ∙ further q y) in
    λ j. first j ∷ rest j
  where
    further : (q : ℕ) (y : Entry) → ◌≡◌ {A = Option (Name × Tree)} (Some (y.name, merged_item m (p + suc q) y)) (Some (y.name, merged_item m (suc p + q) y))
    further q y = let next : p + suc q ≡ suc p + q = omega arith in ap (λ n. Some (y.name, merged_item m n y)) next

-- ---- the root

root-meaning : (x : Encodable) (out : List Scope) → IsRoot x → ContentHasMeaning (content_of x) out → HasMeaning (items_of x)
root-meaning (Builder items) out is h = h
root-meaning (Instance ds) out is h = absurd is
root-meaning (Component ds) out is h = absurd is

root-scope : (x : Encodable) (out : List Scope) → IsRoot x → scope_of (content_of x) out ≡ (meaning (items_of x)).scope
root-scope (Builder items) out is = refl
root-scope (Instance ds) out is = absurd is
root-scope (Component ds) out is = absurd is

bound-is : (xs : List Bound) (i : ℕ) (b : Bound) → At xs i b → bound_at xs i ≡ b
bound-is [] i b h = cc
bound-is (x ∷ xs) zero b h = cc
bound-is (x ∷ xs) (suc i) b h = bound-is xs i b h

type-is : (xs : List Tree) (i : ℕ) (t : Tree) → At xs i t → type_at xs i ≡ t
type-is [] i t h = cc
type-is (x ∷ xs) zero t h = cc
type-is (x ∷ xs) (suc i) t h = type-is xs i t h

indexes-more : (k : ℕ) (xs ys : List Item) → indexes k xs ≤ indexes k (xs ++ ys)
indexes-more k [] ys = omega arith
indexes-more k (x ∷ xs) ys = let more = indexes-more k xs ys in omega (arith, more)

sort-is : (k : ItemKind) → import_sort k ≡ sort_of_kind k
sort-is (kind.TypeItem t) = refl
sort-is (kind.Func f) = refl
sort-is (kind.Instance i) = refl
sort-is (kind.Component w) = refl
sort-is (kind.Module x) = refl
sort-is (kind.Value v) = refl

module _ (laws : Laws) (m : Merged) (places : Places) (s : State) (w : AreImported m places s) where
  abbrev items : List Item
  items = items_of s.here.content

  imports-are : (meaning items).imports ≡ merged_imports m
  imports-are = list-is m 0 m.imports (meaning items).imports w.imports.count (λ q e at. w.imports.trees q e (slice_get_within m.imports q e at) at ∙ from q e)
    where
      from : (q : ℕ) (e : Entry) → ◌≡◌ {A = Option (Name × Tree)} (Some (e.name, import_tree m q e.kind)) (Some (e.name, merged_item m (0 + q) e))
      from q e = let same : q ≡ 0 + q = omega arith in ap (λ n. Some (e.name, merged_item m n e)) same

  stand : (p : ℕ) (t : Sort) (i : ℕ) → slice_get places p ≡ Some (t, i) → (i < indexes (space t) items) × (stands_for (meaning items) t i ≡ import_at p)
  stand p t i placed =
      let h = w.imports.at p (t, i) placed in
      let x : Item = import_item h.name h.description in
      let split : items ≡ (h.before ++ x ∷ []) ++ h.after = h.split ∙ sym (append_assoc h.before (x ∷ []) h.after) in
      let index = h.index in
      let up = counted_up t h.before x (ap (λ (z : Sort). Some (space z)) h.sorted) in
      let low : i < indexes (space t) (h.before ++ x ∷ []) = omega (arith, up, index) in
      let more = indexes-more (space t) (h.before ++ x ∷ []) h.after in
      let same = ap (indexes (space t)) split in
      let all : i < indexes (space t) items = omega (arith, low, more, same) in
      let there : i ≡ indexes (space (described_sort h.description)) h.before = h.index ∙ ap (λ (z : Sort). indexes (space z) h.before) (sym h.sorted) in
      let thing : stands_for (meaning (h.before ++ x ∷ [])) t i ≡ import_at p =
      (λ j. stands_for (meaning (h.before ++ x ∷ [])) (sym h.sorted j) (there j)) ∙ import_stands laws h.before h.name h.description ∙ ap import_at h.number in
      (all, ap (λ (xs : List Item). stands_for (meaning xs) t i) split ∙ laws.earlier (h.before ++ x ∷ []) h.after t i low ∙ thing)

  own : (p : ℕ) (t : Sort) (i : ℕ) → slice_get places p ≡ Some (t, i) → (k : ℕ) × HasImport items t i k
  own p t i placed =
      let h = w.imports.at p (t, i) placed in
      (length h.before, record { name = h.name; description = h.description; before = h.before; after = h.after; split = h.split; here = refl; sorted = h.sorted; counted = h.index })

  scope-is : innermost (stack true s) ≡ (meaning items).scope
  scope-is = root-scope s.here.content _ w.root

  -- The import at a position, as an entry.
  entry-at : (p : ℕ) (e : Name × Tree) → slice_get (merged_imports m) p ≡ Some e → (x : Entry) × (slice_get m.imports p ≡ Some x) × (e.1 ≡ import_tree m p x.kind)
  entry-at p e there =
      let listed = ap (λ (xs : List (Name × Tree)). slice_get xs p) imports-are ∙ there in
      let within = slice_get_within (meaning items).imports p e listed in
      let count = w.imports.count in
      let x = some-at m.imports p (omega (arith, within, count)) in
      (x.0, x.1, ap (λ (y : Name × Tree). y.1) (one-some e (x.0.name, import_tree m p x.0.kind) (sym listed ∙ w.imports.trees p x.0 (slice_get_within m.imports p x.0 x.1) x.1)))

  typed : (p i : ℕ) (e : Name × Tree) → slice_get places p ≡ Some (sort.Instance, i) → slice_get (merged_imports m) p ≡ Some e → e.1 ≡ instance_item (bound_at (meaning items).scope.instances i).type
  typed p i e placed there =
      let x = entry-at p e there in
      x.2 ∙ by x.0.kind (w.imports.sorts p x.0 (sort.Instance, i) x.1 placed) (subst (λ (z : Scope). RefersToImport m.types (merged_bindings m) z (position p) x.0.kind i) scope-is (w.refers p x.0 (sort.Instance, i) x.1 placed))
    where
      by : (k : ItemKind) → sort.Instance ≡ import_sort k → RefersToImport m.types (merged_bindings m) (meaning items).scope (position p) k i → import_tree m p k ≡ instance_item (bound_at (meaning items).scope.instances i).type
      by (kind.Instance j) is r = ap instance_item (held-here m.types (merged_bindings m) (ty.Interface j) r.0 r.1 ∙ ap (λ (b : Bound). b.type) (sym (bound-is (meaning items).scope.instances i (record { type = r.0; side = imported; path = position p ∷ [] }) r.2)))
      by (kind.TypeItem a) is r = let wrong : sort.Instance ≡ sort.«Type» = is in cc
      by (kind.Func f) is r = let wrong : sort.Instance ≡ sort.Func = is in cc
      by (kind.Component v) is r = let wrong : sort.Instance ≡ sort.Component = is in cc
      by (kind.Module y) is r = let wrong : sort.Instance ≡ sort.CoreModule = is in cc
      by (kind.Value v) is r = let wrong : sort.Instance ≡ sort.Value = is in cc

  equal : (p i : ℕ) (e : Name × Tree) (t : Tree) → slice_get places p ≡ Some (sort.«Type», i) → slice_get (merged_imports m) p ≡ Some e → e.1 ≡ type_equal t → type_at (meaning items).scope.types i ≡ t
  equal p i e t placed there is_type =
      let x = entry-at p e there in
      by x.0.kind (w.imports.sorts p x.0 (sort.«Type», i) x.1 placed) (subst (λ (z : Scope). RefersToImport m.types (merged_bindings m) z (position p) x.0.kind i) scope-is (w.refers p x.0 (sort.«Type», i) x.1 placed)) (sym x.2 ∙ is_type)
    where
      tree-of : (a : AnyType) (b : Bool) → (if b then fresh else type_equal (held_tree m.types (merged_bindings m) a)) ≡ type_equal t → held_tree m.types (merged_bindings m) a ≡ t
      tree-of a true h = cc
      tree-of a false h = ap type_in h

      by : (k : ItemKind) → sort.«Type» ≡ import_sort k → RefersToImport m.types (merged_bindings m) (meaning items).scope (position p) k i → import_tree m p k ≡ type_equal t → type_at (meaning items).scope.types i ≡ t
      by (kind.TypeItem a) is r h = type-is (meaning items).scope.types i r.0 r.2 ∙ sym (held-here m.types (merged_bindings m) a r.0 r.1) ∙ tree-of a (binds_here m.types (merged_bindings m) imported (position p ∷ []) (kind.TypeItem a)) h
      by (kind.Instance j) is r h = let wrong : sort.«Type» ≡ sort.Instance = is in cc
      by (kind.Func f) is r h = let wrong : sort.«Type» ≡ sort.Func = is in cc
      by (kind.Component v) is r h = let wrong : sort.«Type» ≡ sort.Component = is in cc
      by (kind.Module y) is r h = let wrong : sort.«Type» ≡ sort.CoreModule = is in cc
      by (kind.Value v) is r h = let wrong : sort.«Type» ≡ sort.Value = is in cc

  pub imported-begins : Begins (merged_imports m) places items
  imported-begins =
      let same = others-all start items w.imports.only in
      record {
        meant = root-meaning s.here.content _ w.root w.good.0.meaning;
        imports_are = imports-are;
        components = ap (λ (o : Others). o.nested) same;
        instantiations = ap (λ (o : Others). o.instantiated) same;
        exports = ap (λ (o : Others). o.exported) same;
        customs = ap (λ (o : Others). o.custom) same;
        count = w.imports.placed ∙ sym w.imports.count ∙ ap length imports-are;
        stand = stand;
        own = own;
        typed = typed;
        equal = equal;
      }

  pub imported-sorts : AreOfSorts m places
  imported-sorts p e place at placed = w.imports.sorts p e place at placed ∙ sort-is e.kind
