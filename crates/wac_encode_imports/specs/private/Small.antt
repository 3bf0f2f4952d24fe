-- How much the imports of a merge cost in the root; only contracts inside the encoder cite this.
use Rattle.std.specs.Prelude.{ℕ, ◌+◌, ◌*◌, ◌^◌, ◌≤◌, Bool, true, false, not, List, take, filter, Option, Some, Result, Ok, Err}
use Rattle.std.specs.List.{sum_by}
use Rattle.wac_types_shapes.specs.primitives.Name.{Name, option_case}
use Rattle.wac_types_shapes.specs.shapes.Kinds.{kind_type}
use Rattle.wac_types_shapes.specs.declared.shapes.component.ItemKind.{ItemKind}
use Rattle.wac_types_shapes.specs.declared.shapes.component.ModuleTypeId.{ModuleTypeId}
use Rattle.wac_types_shapes.specs.declared.shapes.component.«Type».{«Type» as AnyType}
use Rattle.wac_types_shapes.specs.declared.shapes.component.«Type».TheVariants as ty
use Rattle.wac_types_collection.specs.collection.Collection.{Collection}
use Rattle.wac_types_weight.specs.Weight.{own, near_all}
use Rattle.wac_types_weight.specs.Text.{own_texts, entry_weight, bare_weight}
use Rattle.wac_merge_classes.specs.entries.Classes.{Entry}
use Rattle.wac_merge_classes.specs.terms.Merge.{Merged}
use Rattle.wac_merge_imports.specs.unions.Lighter.{name_weight, types_of}
use Rattle.wac_binary.specs.declared.sorts.Sort.{Sort}
use Rattle.wac_binary.specs.declared.fault.BinaryFault.{BinaryFault}
use Rattle.wac_binary.specs.declared.fault.BinaryFault.TheVariants.{TooLarge, OutOfMemory}
use Rattle.wac_encode_scopes.specs.declared.state.State.{State}
use Rattle.wac_encode_scopes.specs.Books.{opened}
use Rattle.wac_encode_scopes.specs.private.Paid.{total, pending, all_paid, IsAnswerPaid}
use Rattle.wac_encode_imports.specs.declared.import.ImportWriter.{ImportWriter}
use Rattle.wac_encode_imports.specs.declared.imports.WrittenImports.{WrittenImports}
use Rattle.wac_encode_imports.specs.private.Written.{IsImportWriter, MayFollow}

-- What the imports may cost. The rest of 64 for each unit pays for the types of packages, arguments and aliases.
abbrev pub imports_cost : Merged → ℕ
imports_cost m = 33 * sum_by name_weight m.imports + 32 * sum_by (entry_weight m.types) (types_of m.imports) + 37 * sum_by (bare_weight m.types) (types_of m.imports)
    + 34 * own_texts m.types (near_all m.types (types_of m.imports))

-- If the fault is `TooLarge`, the cost of the imports is 2 ^ 32 or more.
abbrev pub IsFaultWithin : Merged → BinaryFault → Type 0
IsFaultWithin m TooLarge = 2 ^ 32 ≤ imports_cost m
IsFaultWithin m OutOfMemory = Unit {0}

-- The imports are within their cost, or the fault is right.
abbrev pub ImportsWithin : Merged → Result WrittenImports BinaryFault → Type 0
ImportsWithin m (Ok w) = total m.types true w.state ≤ imports_cost m
ImportsWithin m (Err e) = IsFaultWithin m e

-- What one import may cost, besides what near types pay and the type of a core module.
abbrev pub one_cost : Collection → Entry → ℕ
one_cost c e = 33 * name_weight e + 32 * entry_weight c (kind_type e.kind) + 37 * bare_weight c (kind_type e.kind)

-- What is near all imports together; then without the types of core modules.
abbrev pub near_imports : Merged → List AnyType
near_imports m = near_all m.types (types_of m.imports)

abbrev pub is_module : AnyType → Bool
is_module (ty.Module k) = true
is_module t = false

abbrev pub plain_imports : Merged → List AnyType
plain_imports m = filter (λ t. not (is_module t)) (near_imports m)

-- The own weight of the type of a core module, if the type is written.
abbrev pub module_weight : Collection → (ModuleTypeId → Option ℕ) → AnyType → ℕ
module_weight c written (ty.Module k) = option_case (written k) 0 (λ i. own c (ty.Module k))
module_weight c written t = 0

-- That of all near imports; then if all are written.
abbrev pub modules_weight : Merged → (ModuleTypeId → Option ℕ) → ℕ
modules_weight m written = sum_by (module_weight m.types written) (near_imports m)

abbrev pub all_modules : Merged → ℕ
all_modules m = modules_weight m (λ k. Some 0)

-- The import is paid by what near types pay, and its cost, whichever merge it is of.
abbrev pub IsImportPaid : {T : Type 0} → ImportWriter → ℕ → Name → ItemKind → State → State → Result T BinaryFault → Type 0
IsImportPaid w p n k old new r = (m : Merged) → IsImportWriter w m → (places : List (Sort × ℕ)) → MayFollow m p n k places old
    → IsAnswerPaid m.types true (plain_imports m) (one_cost m.types (record { name = n; kind = k })) old new r

-- What the types of core modules may have cost after a call.
abbrev pub after_weight : {T : Type 0} → Merged → (ModuleTypeId → Option ℕ) → Result T BinaryFault → ℕ
after_weight m written (Ok x) = modules_weight m written
after_weight m written (Err e) = all_modules m

-- The same of an import before which the type of a core module may be written.
abbrev pub IsImportPaidWith : {T : Type 0} → ImportWriter → ℕ → Name → ItemKind → (before after : ModuleTypeId → Option ℕ) → State → State → Result T BinaryFault → Type 0
IsImportPaidWith w p n k before after old new r = (m : Merged) → IsImportWriter w m → (places : List (Sort × ℕ)) → MayFollow m p n k places old
    → (cost : ℕ) × IsAnswerPaid m.types true (plain_imports m) cost old new r × (cost + 34 * modules_weight m before ≤ one_cost m.types (record { name = n; kind = k }) + 34 * after_weight m after r)

-- What the first n imports may have cost, with what near types have paid and the types of core modules that are written.
abbrev pub AreFirstWithin : Merged → ℕ → (ModuleTypeId → Option ℕ) → State → Type 0
AreFirstWithin m n written s = total m.types true s ≤ sum_by (one_cost m.types) (take n m.imports) + all_paid m.types true (opened true s.here) (plain_imports m) + 34 * modules_weight m written

-- What is recorded of the other collection's types as exports is not charged yet.
abbrev pub IsUntold : State → Type 0
IsUntold s = (c : Collection) → pending c false (opened false s.here) ≤ 0
