-- Core types are read as they were written.
use Rattle.std.proofs.Common.{◌≡◌, ℕ, suc, ◌+◌, ◌*◌, ◌/◌, ◌%◌, ◌<◌, ◌≤◌, ◌^◌, true, false, eqb, List, [], ◌∷◌, ◌++◌, map, length, refl, ap, ◌∙◌, arith, lt-ltb}
use Rattle.std.specs.Prelude.{Bool, Option, Some, None, IfSome}
use Rattle.std.specs.List.{AllByRecursion}
use Rattle.wac_types_shapes.specs.declared.primitives.core_types.CoreRefType.{CoreRefType}
use Rattle.wac_types_shapes.specs.declared.primitives.core_types.CoreRefType.TheVariants as r
use Rattle.wac_types_shapes.specs.declared.primitives.core_types.CoreType.{CoreType}
use Rattle.wac_types_shapes.specs.declared.primitives.core_types.CoreType.TheVariants as c
use Rattle.wac_binary.specs.declared.core_types.EntityType.{EntityType}
use Rattle.wac_binary.specs.declared.core_types.EntityType.TheVariants as t
use Rattle.wac_binary.specs.declared.core_types.TableType.{TableType}
use Rattle.wac_binary.specs.declared.core_types.MemoryType.{MemoryType}
use Rattle.wac_binary.specs.declared.core_types.GlobalType.{GlobalType}
use Rattle.wac_binary.specs.Items.{ModuleDecl, module_import, module_func, module_export}
use Rattle.wac_binary.specs.Leb.{unsigned}
use Rattle.wac_binary.specs.Bytes.{vector, core_ref, core_val, bit, there, number, limits, table_bytes, memory_bytes, global_bytes, entity, module_decl_bytes, module_bytes}
use Rattle.wac_binary.specs.Format.{IsU32, IsU64, EntityIsInFormat, ModuleDeclIsInFormat, ModuleIsInFormat}
use Rattle.wac_component.specs.Parts.{module_decl, module_type}
use Rattle.wac_component.specs.Reader.{Reader, one_in}
use Rattle.wac_component.specs.Numbers.{number_at, number64_at, vector_at}
use Rattle.wac_component.specs.CoreTypes.{reference_at, core_value_at, Limits, has, given_if, limits_at, table_at, memory_at, global_at, entity_at, core_decl_at, module_decl_in_type_at, core_type_at}
use Rattle.wac_component.proofs.texts.Reads.{Reads, reads_done, reads_made, reads_made2, reads_made3, reads_byte, reads_bytes, reads_number, reads_number64, reads_name, reads_all, reads_vector, reads_list, counted}

reads_reference : (x : CoreRefType) → Reads reference_at (core_ref x ∷ []) x
unfolding reference_at
reads_reference r.FuncRef = record { again = λ short rest. refl }
reads_reference r.ExternRef = record { again = λ short rest. refl }

reads_core_value : (v : CoreType) → Reads core_value_at (core_val v) v
unfolding core_value_at
reads_core_value (c.Ref r.FuncRef) = record { again = λ short rest. refl }
reads_core_value (c.Ref r.ExternRef) = record { again = λ short rest. refl }
reads_core_value v = record { again = λ short rest. refl }

reads_core_values : (vs : List CoreType) → Reads (vector_at core_value_at) (vector core_val vs) vs
reads_core_values vs = reads_list core_value_at core_val (λ v. Unit {0}) (λ v. omega arith) (λ v h. reads_core_value v) vs (each vs)
  where
    each : (vs : List CoreType) → AllByRecursion (λ v. Unit {0}) vs
    each [] = tt
    each (v ∷ vs) = (tt, each vs)

-- Limits: the four bits of the flags.

pub record Bits (flags m s i p : ℕ) : Type 0 where
  pub first : flags / 1 % 2 ≡ m
  pub second : flags / 2 % 2 ≡ s
  pub third : flags / 4 % 2 ≡ i
  pub fourth : flags / 8 % 2 ≡ p

bits : (m s i p : ℕ) → m ≤ 1 → s ≤ 1 → i ≤ 1 → p ≤ 1 → Bits (m + 2 * s + 4 * i + 8 * p) m s i p
bits m s i p a b c d = record { first = omega arith; second = omega arith; third = omega arith; fourth = omega arith }

bit_small : (b : Bool) → bit b ≤ 1
bit_small true = omega arith
bit_small false = omega arith

there_small : (o : Option ℕ) → there o ≤ 1
there_small None = omega arith
there_small (Some n) = omega arith

bit_one : (b : Bool) → eqb (bit b) 1 ≡ b
bit_one true = refl
bit_one false = refl

reads_given : (o : Option ℕ) (r : Reader ℕ) (P : ℕ → Type 0) → ((n : ℕ) → P n → Reads r (unsigned n) n) → IfSome o P → Reads (given_if (eqb (there o) 1) r) (number o) o
reads_given None r P each h = reads_done None
reads_given (Some n) r P each h = reads_made Some (each n h)

abbrev flags_of : (shared is64 : Bool) (maximum page : Option ℕ) → ℕ
flags_of shared is64 maximum page = there maximum + 2 * bit shared + 4 * bit is64 + 8 * there page

abbrev limits_with : Bool → Bool → ℕ → Option ℕ → Option ℕ → Limits
limits_with shared is64 least most size = record { shared = shared; is64 = is64; minimum = least; maximum = most; page = size }

reads_limits : (bound : ℕ) (shared is64 : Bool) (least : ℕ) (most size : Option ℕ) → 8 + 8 * there size ≤ bound → IsU64 least → IfSome most IsU64 → IfSome size IsU32 → Reads (limits_at bound) (limits shared is64 least most size) (limits_with shared is64 least most size)
unfolding limits_at
reads_limits bound shared is64 least most size below h g k =
    let a = there_small most in
    let b = bit_small shared in
    let c = bit_small is64 in
    let d = there_small size in
    let f = bits (there most) (bit shared) (bit is64) (there size) a b c d in
    let small : flags_of shared is64 most size < bound = omega arith in
    let second : has (flags_of shared is64 most size) 2 ≡ shared = ap (λ n. eqb n 1) f.second ∙ bit_one shared in
    let third : has (flags_of shared is64 most size) 4 ≡ is64 = ap (λ n. eqb n 1) f.third ∙ bit_one is64 in
    let first : has (flags_of shared is64 most size) 1 ≡ eqb (there most) 1 = ap (λ n. eqb n 1) f.first in
    let fourth : has (flags_of shared is64 most size) 8 ≡ eqb (there size) 1 = ap (λ n. eqb n 1) f.fourth in
    let inner = reads_made3 (limits_with shared is64) (reads_number64 least h) (reads_given most number64_at IsU64 reads_number64 g) (reads_given size number_at IsU32 reads_number k) in
    record {
      again = λ short rest.
          let long : suc (length (unsigned least ++ number most ++ number size)) < 2 ^ 32 = short in
          rw (lt-ltb (flags_of shared is64 most size) bound small, first, second, third, fourth) (inner.again (omega arith) rest);
    }

reads_table : (x : TableType) → IsU64 x.minimum → IfSome x.maximum IsU64 → Reads table_at (table_bytes x) x
unfolding table_at
reads_table x h g = reads_made2 (λ element l. record { element_type = element; table64 = l.is64; minimum = l.minimum; maximum = l.maximum; shared = l.shared }) (reads_reference x.element_type) (reads_limits 8 x.shared x.table64 x.minimum x.maximum None (omega arith) h g tt)

reads_memory : (x : MemoryType) → IsU64 x.minimum → IfSome x.maximum IsU64 → IfSome x.page_size_log2 IsU32 → Reads memory_at (memory_bytes x) x
unfolding memory_at
reads_memory x h g k =
    let d = there_small x.page_size_log2 in
    reads_made (λ l. record { minimum = l.minimum; maximum = l.maximum; memory64 = l.is64; shared = l.shared; page_size_log2 = l.page }) (reads_limits 16 x.shared x.memory64 x.minimum x.maximum x.page_size_log2 (omega arith) h g k)

reads_global : (x : GlobalType) → Reads global_at (global_bytes x) x
unfolding global_at
reads_global x = reads_made2 (λ (value : CoreType) (flags : Bool × Bool). record { val_type = value; mutable = flags.0; shared = flags.1 }) (reads_core_value x.val_type) (flags x.mutable x.shared)
  where
    flags : (m s : Bool) → Reads {A = Bool × Bool} (one_in ((0, (false, false)) ∷ (1, (true, false)) ∷ (2, (false, true)) ∷ (3, (true, true)) ∷ [])) ((bit m + 2 * bit s) ∷ []) (m, s)
    flags false false = record { again = λ short rest. refl }
    flags true false = record { again = λ short rest. refl }
    flags false true = record { again = λ short rest. refl }
    flags true true = record { again = λ short rest. refl }

reads_entity : (x : EntityType) → EntityIsInFormat x → Reads entity_at (entity x) x
unfolding entity_at
reads_entity (t.Function i) h = reads_byte 0 (reads_made t.Function (reads_number i h)) (λ bytes. refl)
reads_entity (t.Table x) h = reads_byte 1 (reads_made t.Table (reads_table x h.0 h.1)) (λ bytes. refl)
reads_entity (t.Memory x) h = reads_byte 2 (reads_made t.Memory (reads_memory x h.0 h.1 h.2)) (λ bytes. refl)
reads_entity (t.Global x) h = reads_byte 3 (reads_made t.Global (reads_global x)) (λ bytes. refl)
reads_entity (t.Tag i) h = reads_bytes 4 0 (reads_made t.Tag (reads_number i h)) (λ bytes. refl)

-- Declarations of a core module type, in a component type or instance type and outside of them.

reads_decl_in_type : (d : ModuleDecl) → ModuleDeclIsInFormat d → Reads module_decl_in_type_at (module_decl_bytes d) d
unfolding module_decl_in_type_at
reads_decl_in_type (module_import m n x) h = reads_byte 0 (reads_made3 module_import (reads_name m h.0) (reads_name n h.1) (reads_entity x h.2)) (λ bytes. refl)
reads_decl_in_type (module_func ps rs) h = reads_bytes 1 0x60 (reads_made2 module_func (reads_core_values ps) (reads_core_values rs)) (λ bytes. refl)
reads_decl_in_type (module_export n x) h = reads_byte 3 (reads_made2 module_export (reads_name n h.0) (reads_entity x h.1)) (λ bytes. refl)

reads_core_decl : (d : ModuleDecl) → ModuleDeclIsInFormat d → Reads core_decl_at (module_decl_bytes d) (module_decl d)
unfolding core_decl_at
reads_core_decl (module_import m n x) h = reads_byte 0 (reads_made module_decl (reads_made3 module_import (reads_name m h.0) (reads_name n h.1) (reads_entity x h.2))) (λ bytes. refl)
reads_core_decl (module_func ps rs) h = reads_bytes 1 0x60 (reads_made module_decl (reads_made2 module_func (reads_core_values ps) (reads_core_values rs))) (λ bytes. refl)
reads_core_decl (module_export n x) h = reads_byte 3 (reads_made module_decl (reads_made2 module_export (reads_name n h.0) (reads_entity x h.1))) (λ bytes. refl)

some_decl : (d : ModuleDecl) → 0 < length (module_decl_bytes d)
some_decl (module_import m n x) = omega arith
some_decl (module_func ps rs) = omega arith
some_decl (module_export n x) = omega arith

pub reads_module : (ds : List ModuleDecl) → ModuleIsInFormat ds → Reads (vector_at module_decl_in_type_at) (vector module_decl_bytes ds) ds
reads_module ds h = reads_list module_decl_in_type_at module_decl_bytes ModuleDeclIsInFormat some_decl reads_decl_in_type ds h

pub reads_core_type : (ds : List ModuleDecl) → ModuleIsInFormat ds → Reads core_type_at (module_bytes ds) (module_type (map module_decl ds))
unfolding core_type_at
reads_core_type ds h = reads_byte 0x50 (reads_made module_type (reads_vector core_decl_at (length ds) (counted module_decl_bytes some_decl ds) (reads_all core_decl_at module_decl_bytes module_decl ModuleDeclIsInFormat reads_core_decl ds h))) (λ bytes. refl)
