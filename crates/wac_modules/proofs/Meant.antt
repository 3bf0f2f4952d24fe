-- The declarations of a held core module type mean it.
use Rattle.std.proofs.Common.{◌≡◌, ℕ, ◌+◌, ◌<◌, Bool, true, false, cond, List, [], ◌∷◌, ◌++◌, length, refl, ap, ◌∙◌, sym, subst, arith, Some, None}
use Rattle.std.proofs.Math.Path.{fun_ext}
use Rattle.std.proofs.lemmas.List.{length-append}
use Rattle.wac_types_shapes.specs.primitives.Name.{Name, same_name, find_name, option_case}
use Rattle.wac_types_shapes.specs.shapes.Named.{NoNameTwice}
use Rattle.wac_types_shapes.specs.shapes.Imports.{Pair, find_import, NoImportTwice}
use Rattle.wac_types_shapes.specs.primitives.Core.{CoreItem, no_item, core_function, core_tag}
use Rattle.wac_types_shapes.proofs.lemmas.shapes.Names.{same_name-true, same_name-refl}
use Rattle.wac_types_shapes.specs.declared.primitives.core_types.CoreType.{CoreType}
use Rattle.wac_types_shapes.specs.declared.shapes.core_types.CoreExtern.{CoreExtern}
use Rattle.wac_types_shapes.specs.declared.shapes.core_types.CoreExtern.TheVariants as core
use Rattle.wac_types_shapes.specs.declared.shapes.core_types.ModuleType.{ModuleType}
use Rattle.wac_types_shapes.specs.primitives.Tree.{module_of}
use Rattle.wac_types_collection.specs.collection.Held.{core_item as held_core_item, core_under, core_imports}
use Rattle.wac_binary.specs.Items.{ModuleDecl, module_import, module_export}
use Rattle.wac_binary.specs.Indexes.{function_types}
use Rattle.wac_binary.specs.Unfold.{Module, no_module, func_at, core_item, with_module_decl, module_after}
use Rattle.wac_binary.specs.HasMeaning.{IsFreeInModule, EntityHasMeaning, ModuleHasMeaning}
use Rattle.wac_modules.specs.private.Declarations.{entity, type_before, import_of, export_of, in_order, declarations_of, MeansModule}
use Rattle.wac_modules.proofs.Declared.{function_types-append}

-- ---- declarations one after another
after-append : (m : Module) (xs ys : List ModuleDecl) → module_after m (xs ++ ys) ≡ module_after (module_after m xs) ys
after-append m [] ys = refl
after-append m (x ∷ xs) ys = after-append (with_module_decl m x) xs ys

meaning-append : (m : Module) (xs ys : List ModuleDecl) → ModuleHasMeaning m xs → ModuleHasMeaning (module_after m xs) ys → ModuleHasMeaning m (xs ++ ys)
meaning-append m [] ys h k = k
meaning-append m (x ∷ xs) ys h k = (h.0, meaning-append (with_module_decl m x) xs ys h.1 k)

-- ---- the function types
abbrev Funcs : Type 0
Funcs = List (List CoreType × List CoreType)

last_func : (fs : Funcs) (ps rs : List CoreType) (make : List CoreType → List CoreType → CoreItem) → func_at (fs ++ (ps, rs) ∷ []) (length fs) make ≡ make ps rs
last_func [] ps rs make = refl
last_func (f ∷ fs) ps rs make = last_func fs ps rs make

-- an item, behind the function type that it needs
module _ (m : Module) (i : ℕ) (count : length m.funcs ≡ i) where
  abbrev typed : CoreExtern → Module
  typed x = module_after m (type_before x)

  item_is : (x : CoreExtern) → core_item (typed x) (entity i x) ≡ held_core_item x
  item_is (core.Func f) = subst (λ k. func_at (m.funcs ++ (f.params, f.results) ∷ []) k core_function ≡ core_function f.params f.results) count (last_func m.funcs f.params f.results core_function)
  item_is (core.Tag f) = subst (λ k. func_at (m.funcs ++ (f.params, f.results) ∷ []) k core_tag ≡ core_tag f.params f.results) count (last_func m.funcs f.params f.results core_tag)
  item_is (core.Table element least most wide shared) = refl
  item_is (core.Memory wide shared least most page) = refl
  item_is (core.Global value mutable shared) = refl

  there : (ps rs : List CoreType) → i < length (m.funcs ++ (ps, rs) ∷ [])
  there ps rs = let more = length-append m.funcs ((ps, rs) ∷ []) in omega (arith, more, count)

  item_meant : (x : CoreExtern) → EntityHasMeaning (typed x) (entity i x)
  item_meant (core.Func f) = there f.params f.results
  item_meant (core.Tag f) = there f.params f.results
  item_meant (core.Table element least most wide shared) = tt
  item_meant (core.Memory wide shared least most page) = tt
  item_meant (core.Global value mutable shared) = tt

  types_meant : (x : CoreExtern) → ModuleHasMeaning m (type_before x)
  types_meant (core.Func f) = (tt, tt)
  types_meant (core.Tag f) = (tt, tt)
  types_meant (core.Table element least most wide shared) = tt
  types_meant (core.Memory wide shared least most page) = tt
  types_meant (core.Global value mutable shared) = tt

  typed_count : (x : CoreExtern) → length (typed x).funcs ≡ i + function_types (type_before x)
  typed_count (core.Func f) = let more = length-append m.funcs ((f.params, f.results) ∷ []) in omega (arith, more, count)
  typed_count (core.Tag f) = let more = length-append m.funcs ((f.params, f.results) ∷ []) in omega (arith, more, count)
  typed_count (core.Table element least most wide shared) = omega (arith, count)
  typed_count (core.Memory wide shared least most page) = omega (arith, count)
  typed_count (core.Global value mutable shared) = omega (arith, count)

  typed_imports : (x : CoreExtern) → (typed x).imports ≡ m.imports
  typed_imports (core.Func f) = refl
  typed_imports (core.Tag f) = refl
  typed_imports (core.Table element least most wide shared) = refl
  typed_imports (core.Memory wide shared least most page) = refl
  typed_imports (core.Global value mutable shared) = refl

  typed_exports : (x : CoreExtern) → (typed x).exports ≡ m.exports
  typed_exports (core.Func f) = refl
  typed_exports (core.Tag f) = refl
  typed_exports (core.Table element least most wide shared) = refl
  typed_exports (core.Memory wide shared least most page) = refl
  typed_exports (core.Global value mutable shared) = refl

-- ---- imports
-- nothing is imported yet under the names of these
abbrev NewImports : Module → List (Pair × CoreExtern) → Type 0
NewImports m es = (o n : Name) (x : CoreExtern) → find_import es o n ≡ Some x → m.imports o n ≡ no_item

-- one import more
module _ (m : Module) (i : ℕ) (count : length m.funcs ≡ i) (e : Pair × CoreExtern) where
  abbrev after_import : Module
  after_import = module_after m (import_of i e)

  import_after : after_import ≡ with_module_decl (typed m i count e.1) (module_import e.0.0 e.0.1 (entity i e.1))
  import_after = after-append m (type_before e.1) (module_import e.0.0 e.0.1 (entity i e.1) ∷ [])

  import_count : length after_import.funcs ≡ i + function_types (import_of i e)
  import_count =
      let types : function_types (import_of i e) ≡ function_types (type_before e.1) + 0 = function_types-append (type_before e.1) (module_import e.0.0 e.0.1 (entity i e.1) ∷ []) in
      let before = typed_count m i count e.1 in
      let same : length after_import.funcs ≡ length (typed m i count e.1).funcs = ap (λ (w : Module). length w.funcs) import_after in
      omega (arith, types, before, same)

  import_exports : after_import.exports ≡ m.exports
  import_exports = ap (λ (w : Module). w.exports) import_after ∙ typed_exports m i count e.1

  import_items : (o n : Name) → after_import.imports o n ≡ cond (same_name o e.0.0) (cond (same_name n e.0.1) (held_core_item e.1) (m.imports o n)) (m.imports o n)
  import_items o n =
      ap (λ (w : Module). w.imports o n) import_after
      ∙ ap (λ (x : CoreItem). cond (same_name o e.0.0) (cond (same_name n e.0.1) x ((typed m i count e.1).imports o n)) ((typed m i count e.1).imports o n)) (item_is m i count e.1)
      ∙ ap (λ (f : Name → Name → CoreItem). cond (same_name o e.0.0) (cond (same_name n e.0.1) (held_core_item e.1) (f o n)) (f o n)) (typed_imports m i count e.1)

  import_meant : m.imports e.0.0 e.0.1 ≡ no_item → ModuleHasMeaning m (import_of i e)
  import_meant new = meaning-append m (type_before e.1) (module_import e.0.0 e.0.1 (entity i e.1) ∷ []) (types_meant m i count e.1)
      ((subst IsFreeInModule (sym (ap (λ (f : Name → Name → CoreItem). f e.0.0 e.0.1) (typed_imports m i count e.1) ∙ new)) tt, item_meant m i count e.1), tt)

-- all
imports_mean : (es : List (Pair × CoreExtern)) (m : Module) (i : ℕ) → length m.funcs ≡ i → NoImportTwice es → NewImports m es
    → ModuleHasMeaning m (in_order import_of i es)
    × (length (module_after m (in_order import_of i es)).funcs ≡ i + function_types (in_order import_of i es))
    × ((module_after m (in_order import_of i es)).exports ≡ m.exports)
    × ((o n : Name) → (module_after m (in_order import_of i es)).imports o n ≡ option_case (find_import es o n) (m.imports o n) held_core_item)
imports_mean [] m i count once new = (tt, omega (arith, count), refl, λ o n. refl)
imports_mean (e ∷ es) m i count once new =
    let j : ℕ = i + function_types (import_of i e) in
    let ds : List ModuleDecl = import_of i e in
    let more : List ModuleDecl = in_order import_of j es in
    let m1 : Module = after_import m i count e in
    let (meant, funcs, exports, items) = imports_mean es m1 j (import_count m i count e) once.1 (λ o n x at. still_new o n x at (same_name o e.0.0) (same_name n e.0.1) refl refl) in
    let split : module_after m (ds ++ more) ≡ module_after m1 more = after-append m ds more in
    let types = function_types-append ds more in (
      meaning-append m ds more (import_meant m i count e (new e.0.0 e.0.1 e.1 first)) meant,
      ap (λ (w : Module). length w.funcs) split ∙ funcs ∙ (omega (arith, types)),
      ap (λ (w : Module). w.exports) split ∙ exports ∙ import_exports m i count e,
      λ o n. ap (λ (w : Module). w.imports o n) split ∙ items o n ∙ ap (λ (x : CoreItem). option_case (find_import es o n) x held_core_item) (import_items m i count e o n) ∙ found o n (same_name o e.0.0) (same_name n e.0.1) refl refl,
    )
  where
    first : find_import (e ∷ es) e.0.0 e.0.1 ≡ Some e.1
    first = rw (same_name-refl e.0.0) (rw (same_name-refl e.0.1) refl)

    none_later : (o n : Name) → same_name o e.0.0 ≡ true → same_name n e.0.1 ≡ true → find_import es o n ≡ None
    none_later o n a b =
        let p : o ≡ e.0.0 = same_name-true o e.0.0 a in
        let q : n ≡ e.0.1 = same_name-true n e.0.1 b in
        (λ k. find_import es (p k) (q k)) ∙ once.0

    -- what is under another name is found further on
    later_at : (o n : Name) (x : CoreExtern) → find_import es o n ≡ Some x → (a b : Bool) → same_name o e.0.0 ≡ a → same_name n e.0.1 ≡ b → find_import (e ∷ es) o n ≡ Some x
    later_at o n x at true true p q = absurd (none_some x (sym (none_later o n p q) ∙ at)) where
      none_some : (y : CoreExtern) → None ≡ Some y → ⊥
      none_some y h = cc
    later_at o n x at true false p q = ap (λ c. cond (cond c (same_name n e.0.1) false) (Some e.1) (find_import es o n)) p ∙ ap (λ c. cond c (Some e.1) (find_import es o n)) q ∙ at
    later_at o n x at false b p q = ap (λ c. cond (cond c (same_name n e.0.1) false) (Some e.1) (find_import es o n)) p ∙ at

    still_new : (o n : Name) (x : CoreExtern) → find_import es o n ≡ Some x → (a b : Bool) → same_name o e.0.0 ≡ a → same_name n e.0.1 ≡ b → (after_import m i count e).imports o n ≡ no_item
    still_new o n x at true true p q = absurd (none_some x (sym (none_later o n p q) ∙ at)) where
      none_some : (y : CoreExtern) → None ≡ Some y → ⊥
      none_some y h = cc
    still_new o n x at true false p q =
        import_items m i count e o n ∙ ap (λ c. cond c (cond (same_name n e.0.1) (held_core_item e.1) (m.imports o n)) (m.imports o n)) p ∙ ap (λ c. cond c (held_core_item e.1) (m.imports o n)) q
        ∙ new o n x (later_at o n x at true false p q)
    still_new o n x at false b p q =
        import_items m i count e o n ∙ ap (λ c. cond c (cond (same_name n e.0.1) (held_core_item e.1) (m.imports o n)) (m.imports o n)) p
        ∙ new o n x (later_at o n x at false b p q)

    found : (o n : Name) (a b : Bool) → same_name o e.0.0 ≡ a → same_name n e.0.1 ≡ b
        → option_case (find_import es o n) (cond (same_name o e.0.0) (cond (same_name n e.0.1) (held_core_item e.1) (m.imports o n)) (m.imports o n)) held_core_item ≡ option_case (find_import (e ∷ es) o n) (m.imports o n) held_core_item
    found o n true true p q = rw p (rw q (rw (none_later o n p q) refl))
    found o n true false p q = rw p (rw q refl)
    found o n false b p q = rw p refl

-- ---- exports
abbrev NewExports : Module → List (Name × CoreExtern) → Type 0
NewExports m es = (n : Name) (x : CoreExtern) → find_name es n ≡ Some x → m.exports n ≡ no_item

-- one export more
module _ (m : Module) (i : ℕ) (count : length m.funcs ≡ i) (e : Name × CoreExtern) where
  abbrev after_export : Module
  after_export = module_after m (export_of i e)

  export_after : after_export ≡ with_module_decl (typed m i count e.1) (module_export e.0 (entity i e.1))
  export_after = after-append m (type_before e.1) (module_export e.0 (entity i e.1) ∷ [])

  export_count : length after_export.funcs ≡ i + function_types (export_of i e)
  export_count =
      let types : function_types (export_of i e) ≡ function_types (type_before e.1) + 0 = function_types-append (type_before e.1) (module_export e.0 (entity i e.1) ∷ []) in
      let before = typed_count m i count e.1 in
      let same : length after_export.funcs ≡ length (typed m i count e.1).funcs = ap (λ (w : Module). length w.funcs) export_after in
      omega (arith, types, before, same)

  export_imports : after_export.imports ≡ m.imports
  export_imports = ap (λ (w : Module). w.imports) export_after ∙ typed_imports m i count e.1

  export_items : (n : Name) → after_export.exports n ≡ cond (same_name n e.0) (held_core_item e.1) (m.exports n)
  export_items n =
      ap (λ (w : Module). w.exports n) export_after
      ∙ ap (λ (x : CoreItem). cond (same_name n e.0) x ((typed m i count e.1).exports n)) (item_is m i count e.1)
      ∙ ap (λ (f : Name → CoreItem). cond (same_name n e.0) (held_core_item e.1) (f n)) (typed_exports m i count e.1)

  export_meant : m.exports e.0 ≡ no_item → ModuleHasMeaning m (export_of i e)
  export_meant new = meaning-append m (type_before e.1) (module_export e.0 (entity i e.1) ∷ []) (types_meant m i count e.1)
      ((subst IsFreeInModule (sym (ap (λ (f : Name → CoreItem). f e.0) (typed_exports m i count e.1) ∙ new)) tt, item_meant m i count e.1), tt)

exports_mean : (es : List (Name × CoreExtern)) (m : Module) (i : ℕ) → length m.funcs ≡ i → NoNameTwice es → NewExports m es
    → ModuleHasMeaning m (in_order export_of i es)
    × ((module_after m (in_order export_of i es)).imports ≡ m.imports)
    × ((n : Name) → (module_after m (in_order export_of i es)).exports n ≡ option_case (find_name es n) (m.exports n) held_core_item)
exports_mean [] m i count once new = (tt, refl, λ n. refl)
exports_mean (e ∷ es) m i count once new =
    let j : ℕ = i + function_types (export_of i e) in
    let ds : List ModuleDecl = export_of i e in
    let more : List ModuleDecl = in_order export_of j es in
    let m1 : Module = after_export m i count e in
    let (meant, imports, items) = exports_mean es m1 j (export_count m i count e) once.1 (λ n x at. still_new n x at (same_name n e.0) refl) in
    let split : module_after m (ds ++ more) ≡ module_after m1 more = after-append m ds more in (
      meaning-append m ds more (export_meant m i count e (new e.0 e.1 first)) meant,
      ap (λ (w : Module). w.imports) split ∙ imports ∙ export_imports m i count e,
      λ n. ap (λ (w : Module). w.exports n) split ∙ items n ∙ ap (λ (x : CoreItem). option_case (find_name es n) x held_core_item) (export_items m i count e n) ∙ found n (same_name n e.0) refl,
    )
  where
    first : find_name (e ∷ es) e.0 ≡ Some e.1
    first = rw (same_name-refl e.0) refl

    none_later : (n : Name) → same_name n e.0 ≡ true → find_name es n ≡ None
    none_later n a = ap (find_name es) (same_name-true n e.0 a) ∙ once.0

    still_new : (n : Name) (x : CoreExtern) → find_name es n ≡ Some x → (a : Bool) → same_name n e.0 ≡ a → (after_export m i count e).exports n ≡ no_item
    still_new n x at true p = absurd (none_some x (sym (none_later n p) ∙ at)) where
      none_some : (y : CoreExtern) → None ≡ Some y → ⊥
      none_some y h = cc
    still_new n x at false p =
        export_items m i count e n ∙ ap (λ c. cond c (held_core_item e.1) (m.exports n)) p
        ∙ new n x (ap (λ c. cond c (Some e.1) (find_name es n)) p ∙ at)

    found : (n : Name) (a : Bool) → same_name n e.0 ≡ a → option_case (find_name es n) (cond (same_name n e.0) (held_core_item e.1) (m.exports n)) held_core_item ≡ option_case (find_name (e ∷ es) n) (m.exports n) held_core_item
    found n true p = rw p (rw (none_later n p) refl)
    found n false p = rw p refl

-- ---- the held type
pub means_module : (x : ModuleType) → NoImportTwice x.imports → NoNameTwice x.exports → MeansModule x (declarations_of x)
means_module x imported exported =
    let before : List ModuleDecl = in_order import_of 0 x.imports in
    let k : ℕ = function_types before in
    let m1 : Module = module_after no_module before in
    let (meant, funcs, exports, imports) = imports_mean x.imports no_module 0 refl imported (λ o n y at. refl) in
    let counted : length m1.funcs ≡ k = funcs ∙ (omega arith) in
    let (then_meant, same, found) = exports_mean x.exports m1 k counted exported (λ n y at. ap (λ (f : Name → CoreItem). f n) exports) in
    let all : module_after no_module (declarations_of x) ≡ module_after m1 (in_order export_of k x.exports) = after-append no_module before (in_order export_of k x.exports) in
    let left : (module_after no_module (declarations_of x)).imports ≡ core_imports x.imports = ap (λ (w : Module). w.imports) all ∙ same ∙ fun_ext (λ o. fun_ext (λ n. imports o n)) in
    let right : (module_after no_module (declarations_of x)).exports ≡ core_under x.exports = ap (λ (w : Module). w.exports) all ∙ fun_ext (λ n. found n ∙ ap (λ (f : Name → CoreItem). option_case (find_name x.exports n) (f n) held_core_item) exports) in
    record { meaning = meaning-append no_module before (in_order export_of k x.exports) meant then_meant; tree = λ i. module_of (left i) (right i) }
