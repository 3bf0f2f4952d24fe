-- Worked examples: items that begin a component with its imports, and what an imported instance has.
use Rattle.std.proofs.Common.{◌≡◌, ℕ, zero, suc, ◌<◌, false, List, [], ◌∷◌, ◌++◌, length, Some, None, codes, if◌then◌else◌, refl, ap, ◌∙◌, sym, subst, arith, rules}
use Rattle.std.specs.Prelude.{slice_get}
use Rattle.wac_types_shapes.specs.primitives.Name.{Name, same_name}
use Rattle.wac_types_shapes.specs.declared.shapes.component.InterfaceId.{InterfaceId}
use Rattle.wac_types_shapes.specs.declared.shapes.component.ItemKind.{ItemKind}
use Rattle.wac_types_shapes.specs.declared.shapes.component.ItemKind.TheVariants as item
use Rattle.wac_types_collection.specs.collection.Collection.{Collection, interface_exports}
use Rattle.wac_types_shapes.specs.primitives.Tree.{Tree, absent, function, instance, fresh, function_item, instance_item}
use Rattle.wac_binary.specs.declared.sorts.Sort.{Sort}
use Rattle.wac_binary.specs.declared.sorts.Sort.TheVariants as s
use Rattle.wac_binary.specs.declared.sorts.Description.TheVariants as e
use Rattle.wac_binary.specs.Items.{func_def, instance_def, Decls, end, next, type_decl, export_decl, Item, type_item, import_item, export_item}
use Rattle.wac_binary.specs.Indexes.{space, indexes}
use Rattle.wac_binary.specs.Unfold.{bound_at}
use Rattle.wac_binary.specs.Meaning.{import_at, meaning, stands_for}
use Rattle.wac_binary.specs.HasMeaning.{IsOfSort}
use Rattle.wac_graph_model.specs.meaning.Means.{sort_of_kind}
use Rattle.wac_graph_model.specs.private.meaning.Beginning.{Places, HasImport, Begins, HasInside, itself, inside, item_inside, Covers}

some_same : {A : Type 0} (x y : A) → Some x ≡ Some y → x ≡ y
some_same x y e = cc

-- an imported interface with the function `a`
abbrev exporting_a : Decls
exporting_a = next (type_decl (func_def false [] None)) (next (export_decl (codes "a") (e.Func 0)) end)

abbrev beginning : List Item
beginning = type_item (instance_def exporting_a) ∷ import_item (codes "i") (e.Instance 0) ∷ []

abbrev imports : List (Name × Tree)
imports = (meaning beginning).imports

abbrev places : Places
places = (s.Instance, 0) ∷ []

begins : Begins imports places beginning
begins = record {
  meant = search rules;
  imports_are = refl;
  components = refl;
  instantiations = refl;
  exports = refl;
  customs = refl;
  count = refl;
  stand = stand;
  own = own;
  typed = typed;
  equal = λ p i x t at _ _. equal p i at;
} where
  equal : {P : Type 0} (p i : ℕ) → slice_get places p ≡ Some (s.«Type», i) → P
  equal zero i at = let no : s.Instance ≡ s.«Type» = ap (λ (x : Sort × ℕ). x.0) (some_same (s.Instance, 0) (s.«Type», i) at) in cc
  equal (suc p) i at = cc

  stand : (p : ℕ) (t : Sort) (i : ℕ) → slice_get places p ≡ Some (t, i) → (i < indexes (space t) beginning) × (stands_for (meaning beginning) t i ≡ import_at p)
  stand zero t i at = subst (λ (x : Sort × ℕ). (x.1 < indexes (space x.0) beginning) × (stands_for (meaning beginning) x.0 x.1 ≡ import_at 0)) (some_same (s.Instance, 0) (t, i) at) (omega arith, refl)
  stand (suc p) t i at = cc

  own : (p : ℕ) (t : Sort) (i : ℕ) → slice_get places p ≡ Some (t, i) → (k : ℕ) × HasImport beginning t i k
  own zero t i at = subst (λ (x : Sort × ℕ). (k : ℕ) × HasImport beginning x.0 x.1 k) (some_same (s.Instance, 0) (t, i) at)
      (1, record { name = codes "i"; description = e.Instance 0; before = type_item (instance_def exporting_a) ∷ []; after = []; split = refl; here = refl; sorted = refl; counted = refl })
  own (suc p) t i at = cc

  typed : (p i : ℕ) (x : Name × Tree) → slice_get places p ≡ Some (s.Instance, i) → slice_get imports p ≡ Some x → x.1 ≡ instance_item (bound_at (meaning beginning).scope.instances i).type
  typed zero i x at there =
      let index : 0 ≡ i = ap (λ (z : Sort × ℕ). z.1) (some_same (s.Instance, 0) (s.Instance, i) at) in
      let entry = some_same _ x there in
      ap (λ (z : Name × Tree). z.1) (sym entry) ∙ ap (λ j. instance_item (bound_at (meaning beginning).scope.instances j).type) index
  typed (suc p) i x at there = cc

-- it stands at index 0 of the instances, not of the functions, and at no other; it may not be left out; and an export is none of a beginning
not_a_function : Begins imports ((s.Func, 0) ∷ []) beginning → ⊥
not_a_function h = let k = (h.stand 0 s.Func 0 refl).0 in absurd (omega arith)

not_the_second : Begins imports ((s.Instance, 1) ∷ []) beginning → ⊥
not_the_second h = let k = (h.stand 0 s.Instance 1 refl).0 in absurd (omega arith)

not_left_out : Begins [] [] beginning → ⊥
not_left_out h = let n : 1 ≡ 0 = ap length h.imports_are in absurd (omega (arith, n))

no_place : Begins imports [] beginning → ⊥
no_place h = let n : 0 ≡ 1 = h.count in absurd (omega (arith, n))

no_export : Begins imports ((s.Instance, 0) ∷ []) (beginning ++ export_item (codes "x") s.Instance 0 ∷ []) → ⊥
no_export h = let n : 1 ≡ 0 = ap length h.exports in absurd (omega (arith, n))

-- an interface with the function `a`, and one with an instance of it under `i`
abbrev of_function : ItemKind
of_function = item.Func (record { 0 = 0 })

abbrev types : Collection
types = record {
  resources = [];
  defined = [];
  modules = [];
  funcs = record { item = record { params = []; result = None; is_async = false }; before = 0 } ∷ [];
  interfaces = record { item = record { id = None; uses = []; exports = (codes "a", of_function) ∷ [] }; before = 1 } ∷ record { item = record { id = None; uses = []; exports = (codes "i", item.Instance (record { 0 = 0 })) ∷ [] }; before = 2 } ∷ [];
  worlds = [];
}

-- what is imported has the function; what has a type under its name, or nothing, has it not
abbrev with_item : Name → Tree → Tree
with_item n t = instance_item (instance (λ m. if same_name m n then t else absent))

has_function : Covers types (item.Instance (record { 0 = 0 })) (with_item (codes "a") (function_item (function false [] (λ i. absent) absent)))
has_function names j has = from (item.Instance (record { 0 = 0 })) names j has refl where
  plain : (q : ItemKind) (names : List Name) (j : ItemKind) → HasInside types q names j → q ≡ of_function → IsOfSort (sort_of_kind j) (item_inside (function_item (function false [] (λ i. absent) absent)) names)
  plain q names j (itself _) is = subst (λ (k : ItemKind). IsOfSort (sort_of_kind k) (function_item (function false [] (λ i. absent) absent))) (sym is) tt
  plain q names j (inside i p name k _ rest at more) is = cc

  exported : (name : Name) (k : ItemKind) (rest : List Name) (j : ItemKind) → ◌≡◌ {A = Name × ItemKind} (codes "a", of_function) (name, k) → HasInside types k rest j
      → IsOfSort (sort_of_kind j) (item_inside (with_item (codes "a") (function_item (function false [] (λ i. absent) absent))) (name ∷ rest))
  exported name k rest j is more =
      subst (λ (n : Name). IsOfSort (sort_of_kind j) (item_inside (with_item (codes "a") (function_item (function false [] (λ i. absent) absent))) (n ∷ rest))) (ap (λ (x : Name × ItemKind). x.0) is)
      (plain k rest j more (sym (ap (λ (x : Name × ItemKind). x.1) is)))

  first : (i : InterfaceId) → item.Instance i ≡ item.Instance (record { 0 = 0 }) → i ≡ record { 0 = 0 }
  first i e = cc

  found : (p : ℕ) (name : Name) (k : ItemKind) → slice_get (interface_exports types (record { 0 = 0 })) p ≡ Some (name, k) → ◌≡◌ {A = Name × ItemKind} (codes "a", of_function) (name, k)
  found zero name k at = some_same (codes "a", of_function) (name, k) at
  found (suc p) name k at = cc

  from : (q : ItemKind) (names : List Name) (j : ItemKind) → HasInside types q names j → q ≡ item.Instance (record { 0 = 0 }) → IsOfSort (sort_of_kind j) (item_inside (with_item (codes "a") (function_item (function false [] (λ i. absent) absent))) names)
  from q names j (itself _) is = subst (λ (k : ItemKind). IsOfSort (sort_of_kind k) (with_item (codes "a") (function_item (function false [] (λ i. absent) absent)))) (sym is) tt
  from q names j (inside i p name k _ rest at more) is = exported name k rest j (found p name k (subst (λ (l : InterfaceId). slice_get (interface_exports types l) p ≡ Some (name, k)) (first i is) at)) more

has_a_type : Covers types (item.Instance (record { 0 = 0 })) (with_item (codes "a") fresh) → ⊥
has_a_type h = h (codes "a" ∷ []) of_function (inside (record { 0 = 0 }) 0 (codes "a") of_function of_function [] refl (itself of_function))

has_nothing : Covers types (item.Instance (record { 0 = 0 })) (with_item (codes "b") (function_item (function false [] (λ i. absent) absent))) → ⊥
has_nothing h = h (codes "a" ∷ []) of_function (inside (record { 0 = 0 }) 0 (codes "a") of_function of_function [] refl (itself of_function))

-- so it is inside an exported instance
inner_has_nothing : Covers types (item.Instance (record { 0 = 1 })) (with_item (codes "i") (with_item (codes "b") fresh)) → ⊥
inner_has_nothing h =
    h (codes "i" ∷ codes "a" ∷ []) of_function
    (inside (record { 0 = 1 }) 0 (codes "i") (item.Instance (record { 0 = 0 })) of_function (codes "a" ∷ []) refl (inside (record { 0 = 0 }) 0 (codes "a") of_function of_function [] refl (itself of_function)))
