-- The types of components are read as they were written.
use Rattle.std.proofs.Common.{◌≡◌, ℕ, zero, suc, ◌^◌, ◌<◌, ◌≤◌, true, false, eqb, List, [], ◌∷◌, ◌++◌, length, refl, ap, sym, subst, ◌∙◌, arith, ne_eqb, length-append}
use Rattle.std.specs.Prelude.{Bool}
use Rattle.wac_types_shapes.specs.declared.primitives.component.PrimitiveType.{PrimitiveType}
use Rattle.wac_types_shapes.specs.declared.primitives.component.PrimitiveType.TheVariants as p
use Rattle.wac_binary.specs.Items.{ValueDef, primitive_def, record_def, variant_def, list_def, fixed_list_def, tuple_def, flags_def, enum_def, option_def, result_def, own_def, borrow_def, stream_def, future_def, TypeDef, value_def, func_def, component_def, instance_def, ModuleDecl, Decls, end, next, Decl, core_type_decl, type_decl, alias_decl, import_decl, export_decl, decls}
use Rattle.wac_binary.specs.Leb.{unsigned}
use Rattle.wac_binary.specs.Bytes.{text, vector, primitive, value, optional, field, case, outcome, count, type_bytes, decl_bytes, decls_bytes, module_bytes}
use Rattle.wac_binary.specs.HasMeaning.{ImportNothing}
use Rattle.wac_binary.specs.Format.{ValueIsInFormat, ModuleIsInFormat, TypeIsInFormat, DeclsAreInFormat, DeclIsInFormat}
use Rattle.wac_component.specs.declared.fault.TextFault.TheVariants.{UnknownByte, Unsupported}
use Rattle.wac_component.specs.declared.fault.Feature.TheVariants as f
use Rattle.wac_component.specs.Parts.{type_part}
use Rattle.wac_component.specs.Reader.{Reader, fails, made, made2, chosen, one_of, all_at}
use Rattle.wac_component.specs.Numbers.{vector_at, extern_name_at}
use Rattle.wac_component.specs.CoreTypes.{core_type_faults, module_decl_in_type_at}
use Rattle.wac_component.specs.Types.{type_defs, shared_decls, description_at, type_at}
use Rattle.wac_component.specs.Reading.{defined_at}
use Rattle.wac_component.specs.Written.{TypeReadsWithin, DeclsReadWithin, DeclReadsWithin}
use Rattle.wac_component.proofs.texts.Reads.{Reads, reads_made, reads_made2, reads_byte, chosen_rows, reads_number, reads_extern, reads_none, reads_more, reads_vector}
use Rattle.wac_component.proofs.texts.Values.{reads_value, reads_optional, reads_fields, reads_cases, reads_values, reads_names, reads_result}
use Rattle.wac_component.proofs.texts.Sorts.{reads_description, reads_alias_in_type}
use Rattle.wac_component.proofs.texts.Cores.{reads_module}

-- The first byte of a type's text chooses its production. It is none of a resource type.
pub record Chosen (inner : Reader TypeDef) (t : TypeDef) : Type 0 where
  pub first : ℕ
  pub tail : List ℕ
  pub is : type_bytes t ≡ first ∷ tail
  pub high : 0x3f < first
  pub read : Reads (chosen (fails UnknownByte) (type_defs inner) first) tail t

chosen_primitive : (inner : Reader TypeDef) (t : PrimitiveType) → Chosen inner (value_def (primitive_def t))
chosen_primitive inner p.Bool = record { first = 0x7f; tail = []; is = refl; high = omega arith; read = record { again = λ short rest. refl } }
chosen_primitive inner t = record { first = primitive t; tail = []; is = refl; high = omega arith; read = record { again = λ short rest. refl } }

chosen_value : (inner : Reader TypeDef) (t : ValueDef) → ValueIsInFormat t → Chosen inner (value_def t)
chosen_value inner (primitive_def t) h = chosen_primitive inner t
chosen_value inner (record_def fs) h = record { first = 0x72; tail = vector field fs; is = refl; high = omega arith; read = reads_made value_def (reads_made record_def (reads_fields fs h)) }
chosen_value inner (variant_def cs) h = record { first = 0x71; tail = vector case cs; is = refl; high = omega arith; read = reads_made value_def (reads_made variant_def (reads_cases cs h)) }
chosen_value inner (list_def t) h = record { first = 0x70; tail = value t; is = refl; high = omega arith; read = reads_made value_def (reads_made list_def (reads_value t h)) }
chosen_value inner (fixed_list_def t n) h = record { first = 0x67; tail = value t ++ unsigned n; is = refl; high = omega arith; read = reads_made value_def (reads_made2 fixed_list_def (reads_value t h.0) (reads_number n h.1)) }
chosen_value inner (tuple_def ts) h = record { first = 0x6f; tail = vector value ts; is = refl; high = omega arith; read = reads_made value_def (reads_made tuple_def (reads_values ts h)) }
chosen_value inner (flags_def ns) h = record { first = 0x6e; tail = vector text ns; is = refl; high = omega arith; read = reads_made value_def (reads_made flags_def (reads_names ns h)) }
chosen_value inner (enum_def ns) h = record { first = 0x6d; tail = vector text ns; is = refl; high = omega arith; read = reads_made value_def (reads_made enum_def (reads_names ns h)) }
chosen_value inner (option_def t) h = record { first = 0x6b; tail = value t; is = refl; high = omega arith; read = reads_made value_def (reads_made option_def (reads_value t h)) }
chosen_value inner (result_def ok err) h = record { first = 0x6a; tail = optional ok ++ optional err; is = refl; high = omega arith; read = reads_made value_def (reads_made2 result_def (reads_optional ok h.0) (reads_optional err h.1)) }
chosen_value inner (own_def i) h = record { first = 0x69; tail = unsigned i; is = refl; high = omega arith; read = reads_made value_def (reads_made own_def (reads_number i h)) }
chosen_value inner (borrow_def i) h = record { first = 0x68; tail = unsigned i; is = refl; high = omega arith; read = reads_made value_def (reads_made borrow_def (reads_number i h)) }
chosen_value inner (stream_def t) h = record { first = 0x66; tail = optional t; is = refl; high = omega arith; read = reads_made value_def (reads_made stream_def (reads_optional t h)) }
chosen_value inner (future_def t) h = record { first = 0x65; tail = optional t; is = refl; high = omega arith; read = reads_made value_def (reads_made future_def (reads_optional t h)) }

-- A type in a declaration, one level down.

type_step : (depth b : ℕ) (bytes : List ℕ) → 0x3f < b → type_at (suc depth) (b ∷ bytes) ≡ chosen (fails UnknownByte) (type_defs (type_at depth)) b bytes
unfolding type_at
type_step depth b bytes h =
    let resource : eqb b 0x3f ≡ false = ne_eqb b 0x3f (λ e. omega arith) in
    let other : eqb b 0x3e ≡ false = ne_eqb b 0x3e (λ e. omega arith) in
    rw (resource, other) refl

type_again : (t : TypeDef) (depth : ℕ) → Chosen (type_at depth) t → Reads (type_at (suc depth)) (type_bytes t) t
type_again t depth c = record {
  again = λ short rest.
      let front : type_bytes t ++ rest ≡ c.first ∷ (c.tail ++ rest) = ap (λ (l : List ℕ). l ++ rest) c.is in
      let less : length c.tail < 2 ^ 32 = omega (arith, ap length c.is) in
      ap (type_at (suc depth)) front ∙ (type_step depth c.first (c.tail ++ rest) c.high ∙ c.read.again less rest);
}

-- Declarations: those of a component type may be imports.

abbrev decl_table : (imports : Bool) → Reader TypeDef → List (ℕ × Reader Decl)
decl_table true inner = (3, made2 import_decl extern_name_at description_at) ∷ shared_decls inner
decl_table false inner = shared_decls inner

abbrev listed : Decls → List Decl
listed end = []
listed (next d ds) = d ∷ listed ds

decls_listed : (ds : Decls) → decls (listed ds) ≡ ds
decls_listed end = refl
decls_listed (next d ds) = ap (λ es. next d es) (decls_listed ds)

count_listed : (ds : Decls) → count ds ≡ length (listed ds)
count_listed end = refl
count_listed (next d ds) = omega (arith, count_listed ds)

some_decl : (d : Decl) → 0 < length (decl_bytes d)
some_decl (core_type_decl m) = omega arith
some_decl (type_decl t) = omega arith
some_decl (alias_decl a) = omega arith
some_decl (import_decl n d) = omega arith
some_decl (export_decl n d) = omega arith

counted_decls : (ds : Decls) → length (listed ds) ≤ length (decls_bytes ds)
counted_decls end = omega arith
counted_decls (next d ds) = omega (arith, length-append (decl_bytes d) (decls_bytes ds), some_decl d, counted_decls ds)

-- The declarations of a type, from their number on.
decls_again : (make : Decls → TypeDef) (r : Reader Decl) (ds : Decls) → Reads (all_at r (length (listed ds))) (decls_bytes ds) (listed ds) → Reads (made (λ es. make (decls es)) (vector_at r)) (unsigned (count ds) ++ decls_bytes ds) (make ds)
decls_again make r ds h =
    let all = reads_made (λ es. make (decls es)) (reads_vector r (length (listed ds)) (counted_decls ds) h) in
    let numbered = subst (λ (n : ℕ). Reads (made (λ es. make (decls es)) (vector_at r)) (unsigned n ++ decls_bytes ds) (make (decls (listed ds)))) (sym (count_listed ds)) all in
    subst (λ (es : Decls). Reads (made (λ gs. make (decls gs)) (vector_at r)) (unsigned (count ds) ++ decls_bytes ds) (make es)) (decls_listed ds) numbered

core_decl_again : (m : List ModuleDecl) → ModuleIsInFormat m → Reads (one_of ((0x50, made core_type_decl (vector_at module_decl_in_type_at)) ∷ (0x60, fails (Unsupported f.CoreType)) ∷ core_type_faults)) (module_bytes m) (core_type_decl m)
core_decl_again m h = reads_byte 0x50 (reads_made core_type_decl (reads_module m h)) (λ bytes. refl)

abbrev DeclMay : (imports : Bool) → Decl → Type 0
DeclMay true d = Unit
DeclMay false (import_decl n d) = ⊥
DeclMay false d = Unit

abbrev DeclsMay : (imports : Bool) → Decls → Type 0
DeclsMay imports end = Unit
DeclsMay imports (next d ds) = DeclMay imports d × DeclsMay imports ds

every : (ds : Decls) → DeclsMay true ds
every end = tt
every (next d ds) = (tt, every ds)

no_import : (ds : Decls) → ImportNothing ds → DeclsMay false ds
no_import end h = tt
no_import (next (import_decl n d) ds) h = absurd h
no_import (next d ds) h = (tt, no_import ds h)

mutual
  pub type_chosen : (t : TypeDef) (depth : ℕ) → TypeIsInFormat t → TypeReadsWithin t depth → Chosen (type_at depth) t
  type_chosen (value_def t) depth h w = chosen_value (type_at depth) t h
  type_chosen (func_def false params result) depth h w = record { first = 0x40; tail = vector field params ++ outcome result; is = refl; high = omega arith; read = reads_made2 (func_def false) (reads_fields params h.0) (reads_result result h.1) }
  type_chosen (func_def true params result) depth h w = record { first = 0x43; tail = vector field params ++ outcome result; is = refl; high = omega arith; read = reads_made2 (func_def true) (reads_fields params h.0) (reads_result result h.1) }
  type_chosen (component_def ds) depth h w = record { first = 0x41; tail = unsigned (count ds) ++ decls_bytes ds; is = refl; high = omega arith; read = decls_again component_def (one_of (decl_table true (type_at depth))) ds (all_again ds true depth h (every ds) w) }
  type_chosen (instance_def ds) depth h w = record { first = 0x42; tail = unsigned (count ds) ++ decls_bytes ds; is = refl; high = omega arith; read = decls_again instance_def (one_of (decl_table false (type_at depth))) ds (all_again ds false depth h (no_import ds w.0) w.1) }

  all_again : (ds : Decls) (imports : Bool) (depth : ℕ) → DeclsAreInFormat ds → DeclsMay imports ds → DeclsReadWithin ds depth → Reads (all_at (one_of (decl_table imports (type_at depth))) (length (listed ds))) (decls_bytes ds) (listed ds)
  all_again end imports depth h may w = reads_none (one_of (decl_table imports (type_at depth)))
  all_again (next d ds) imports depth h may w = reads_more (length (listed ds)) (decl_again d imports depth h.0 may.0 w.0) (all_again ds imports depth h.1 may.1 w.1)

  decl_again : (d : Decl) (imports : Bool) (depth : ℕ) → DeclIsInFormat d → DeclMay imports d → DeclReadsWithin d depth → Reads (one_of (decl_table imports (type_at depth))) (decl_bytes d) d
  decl_again (core_type_decl m) true depth h may w = reads_byte 0 (core_decl_again m h) (λ bytes. refl)
  decl_again (core_type_decl m) false depth h may w = reads_byte 0 (core_decl_again m h) (λ bytes. refl)
  decl_again (type_decl t) imports zero h may w = absurd w
  decl_again (type_decl t) true (suc depth) h may w = reads_byte 1 (reads_made type_decl (type_again t depth (type_chosen t depth h w))) (λ bytes. refl)
  decl_again (type_decl t) false (suc depth) h may w = reads_byte 1 (reads_made type_decl (type_again t depth (type_chosen t depth h w))) (λ bytes. refl)
  decl_again (alias_decl a) true depth h may w = reads_byte 2 (reads_made alias_decl (reads_alias_in_type a h)) (λ bytes. refl)
  decl_again (alias_decl a) false depth h may w = reads_byte 2 (reads_made alias_decl (reads_alias_in_type a h)) (λ bytes. refl)
  decl_again (import_decl n d) true depth h may w = reads_byte 3 (reads_made2 import_decl (reads_extern n h.0) (reads_description d h.1)) (λ bytes. refl)
  decl_again (import_decl n d) false depth h may w = absurd may
  decl_again (export_decl n d) true depth h may w = reads_byte 4 (reads_made2 export_decl (reads_extern n h.0) (reads_description d h.1)) (λ bytes. refl)
  decl_again (export_decl n d) false depth h may w = reads_byte 4 (reads_made2 export_decl (reads_extern n h.0) (reads_description d h.1)) (λ bytes. refl)

-- A type item.

defined_step : (depth b : ℕ) (bytes : List ℕ) → 0x3f < b → defined_at depth (b ∷ bytes) ≡ made type_part (chosen (fails UnknownByte) (type_defs (type_at depth)) b) bytes
unfolding defined_at
defined_step depth b bytes h =
    let resource : eqb b 0x3f ≡ false = ne_eqb b 0x3f (λ e. omega arith) in
    let other : eqb b 0x3e ≡ false = ne_eqb b 0x3e (λ e. omega arith) in
    rw (resource, other) (chosen_rows type_part (type_defs (type_at depth)) b bytes)

pub reads_defined : (t : TypeDef) (depth : ℕ) → TypeIsInFormat t → TypeReadsWithin t depth → Reads (defined_at depth) (type_bytes t) (type_part t)
reads_defined t depth h w =
    let c = type_chosen t depth h w in
    let made_part : Reads (made type_part (chosen (fails UnknownByte) (type_defs (type_at depth)) c.first)) c.tail (type_part t) = reads_made type_part c.read in
    record {
      again = λ short rest.
          let front : type_bytes t ++ rest ≡ c.first ∷ (c.tail ++ rest) = ap (λ (l : List ℕ). l ++ rest) c.is in
          let less : length c.tail < 2 ^ 32 = omega (arith, ap length c.is) in
          ap (defined_at depth) front ∙ (defined_step depth c.first (c.tail ++ rest) c.high ∙ made_part.again less rest);
    }
