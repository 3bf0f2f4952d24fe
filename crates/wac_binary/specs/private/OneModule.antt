-- The bytes of a core module type determine it, whatever follows them.
use Rattle.std.proofs.Common.{◌≡◌, ℕ, ◌≤◌, List, ◌++◌, refl, ap, sym, ◌∙◌, arith, append_assoc, Bool, true, false}
use Rattle.std.specs.Prelude.{Option, Some, None}
use Rattle.wac_types_shapes.specs.declared.primitives.core_types.CoreRefType.{CoreRefType}
use Rattle.wac_types_shapes.specs.declared.primitives.core_types.CoreRefType.TheVariants as r
use Rattle.wac_types_shapes.specs.declared.primitives.core_types.CoreType.{CoreType}
use Rattle.wac_types_shapes.specs.declared.primitives.core_types.CoreType.TheVariants as c
use Rattle.wac_binary.specs.declared.core_types.EntityType.{EntityType}
use Rattle.wac_binary.specs.declared.core_types.EntityType.TheVariants as t
use Rattle.wac_binary.specs.declared.core_types.TableType.{TableType}
use Rattle.wac_binary.specs.declared.core_types.MemoryType.{MemoryType}
use Rattle.wac_binary.specs.declared.core_types.GlobalType.{GlobalType}
use Rattle.wac_binary.specs.Leb.{unsigned}
use Rattle.wac_binary.specs.Items.{ModuleDecl, module_import, module_func, module_export}
use Rattle.wac_binary.specs.Bytes.{text, core_ref, core_value, core_val, bit, there, number, limits, table_bytes, memory_bytes, global_bytes, entity, module_decl_bytes, module_bytes}
use Rattle.wac_binary.specs.private.OneReading.{OneReading, one_unsigned, one_pair, one_vector, one_text, heads}

ref_inj : (a b : CoreRefType) → core_ref a ≡ core_ref b → a ≡ b
ref_inj r.FuncRef r.FuncRef h = refl
ref_inj r.ExternRef r.ExternRef h = refl
ref_inj _ _ h = absurd (omega arith)

ref_low : (a : CoreRefType) → core_ref a ≤ 0x70
ref_low r.FuncRef = omega arith
ref_low r.ExternRef = omega arith

core_inj : (a b : CoreType) → core_value a ≡ core_value b → a ≡ b
core_inj c.I32 c.I32 h = refl
core_inj c.I64 c.I64 h = refl
core_inj c.F32 c.F32 h = refl
core_inj c.F64 c.F64 h = refl
core_inj c.V128 c.V128 h = refl
core_inj (c.Ref a) (c.Ref b) h = ap c.Ref (ref_inj a b h)
core_inj (c.Ref a) _ h = let l = ref_low a in absurd (omega arith)
core_inj _ (c.Ref b) h = let l = ref_low b in absurd (omega arith)
core_inj _ _ h = absurd (omega arith)

one_core_at : (a b : CoreType) (x y : List ℕ) → core_val a ++ x ≡ core_val b ++ y → (a ≡ b) × (x ≡ y)
one_core_at a b x y h = let e = heads _ _ _ _ h in (core_inj a b e.0, e.1)

one_core : OneReading core_val
one_core = record { one = one_core_at }

bit_low : (b : Bool) → bit b ≤ 1
bit_low true = omega arith
bit_low false = omega arith

bit_inj : (a b : Bool) → bit a ≡ bit b → a ≡ b
bit_inj true true h = refl
bit_inj false false h = refl
bit_inj _ _ h = absurd (omega arith)

there_low : (o : Option ℕ) → there o ≤ 1
there_low None = omega arith
there_low (Some n) = omega arith

-- Two optional numbers, both given or both missing.
one_number : (a b : Option ℕ) (x y : List ℕ) → there a ≡ there b → number a ++ x ≡ number b ++ y → (a ≡ b) × (x ≡ y)
one_number None None x y e h = (refl, h)
one_number (Some m) (Some n) x y e h = let w = one_unsigned.one m n x y h in (ap Some w.0, w.1)
one_number _ _ x y e h = absurd (omega arith)

pub record Limits : Type 0 where
  pub shared : Bool
  pub is64 : Bool
  pub minimum : ℕ
  pub maximum : Option ℕ
  pub page : Option ℕ

abbrev limits_of : Limits → List ℕ
limits_of l = limits l.shared l.is64 l.minimum l.maximum l.page

regroup : (a b c x : List ℕ) → ((a ++ b) ++ c) ++ x ≡ a ++ (b ++ (c ++ x))
regroup a b c x = grind (arith, append_assoc)

one_limits_at : (a b : Limits) (x y : List ℕ) → limits_of a ++ x ≡ limits_of b ++ y → (a ≡ b) × (x ≡ y)
one_limits_at a b x y h =
    let e = heads _ _ _ _ h in
    let la : there a.maximum ≤ 1 = there_low a.maximum in
    let lb : there b.maximum ≤ 1 = there_low b.maximum in
    let sa : bit a.shared ≤ 1 = bit_low a.shared in
    let sb : bit b.shared ≤ 1 = bit_low b.shared in
    let wa : bit a.is64 ≤ 1 = bit_low a.is64 in
    let wb : bit b.is64 ≤ 1 = bit_low b.is64 in
    let p : there a.maximum ≡ there b.maximum = omega (arith, e.0) in
    let q : bit a.shared ≡ bit b.shared = omega (arith, e.0) in
    let s : bit a.is64 ≡ bit b.is64 = omega (arith, e.0) in
    let g : there a.page ≡ there b.page = omega (arith, e.0) in
    let m = one_unsigned.one a.minimum b.minimum (number a.maximum ++ (number a.page ++ x)) (number b.maximum ++ (number b.page ++ y)) (sym (regroup (unsigned a.minimum) (number a.maximum) (number a.page) x) ∙ e.1 ∙ regroup (unsigned b.minimum) (number b.maximum) (number b.page) y) in
    let u = one_number a.maximum b.maximum (number a.page ++ x) (number b.page ++ y) p m.1 in
    let v = one_number a.page b.page x y g u.1 in
    let c : a.shared ≡ b.shared = bit_inj a.shared b.shared q in
    let d : a.is64 ≡ b.is64 = bit_inj a.is64 b.is64 s in
    (λ i. record { shared = c i; is64 = d i; minimum = m.0 i; maximum = u.0 i; page = v.0 i }, v.1)

one_table_at : (a b : TableType) (x y : List ℕ) → table_bytes a ++ x ≡ table_bytes b ++ y → (a ≡ b) × (x ≡ y)
one_table_at a b x y h =
    let e = heads _ _ _ _ h in
    let w = one_limits_at (record { shared = a.shared; is64 = a.table64; minimum = a.minimum; maximum = a.maximum; page = None }) (record { shared = b.shared; is64 = b.table64; minimum = b.minimum; maximum = b.maximum; page = None }) x y e.1 in
    let r = ref_inj a.element_type b.element_type e.0 in
    (λ i. record { element_type = r i; table64 = (w.0 i).is64; minimum = (w.0 i).minimum; maximum = (w.0 i).maximum; shared = (w.0 i).shared }, w.1)

one_memory_at : (a b : MemoryType) (x y : List ℕ) → memory_bytes a ++ x ≡ memory_bytes b ++ y → (a ≡ b) × (x ≡ y)
one_memory_at a b x y h =
    let w = one_limits_at (record { shared = a.shared; is64 = a.memory64; minimum = a.minimum; maximum = a.maximum; page = a.page_size_log2 }) (record { shared = b.shared; is64 = b.memory64; minimum = b.minimum; maximum = b.maximum; page = b.page_size_log2 }) x y h in
    (λ i. record { minimum = (w.0 i).minimum; maximum = (w.0 i).maximum; memory64 = (w.0 i).is64; shared = (w.0 i).shared; page_size_log2 = (w.0 i).page }, w.1)

one_global_at : (a b : GlobalType) (x y : List ℕ) → global_bytes a ++ x ≡ global_bytes b ++ y → (a ≡ b) × (x ≡ y)
one_global_at a b x y h =
    let e = heads _ _ _ _ h in
    let f = heads _ _ _ _ e.1 in
    let la : bit a.mutable ≤ 1 = bit_low a.mutable in
    let lb : bit b.mutable ≤ 1 = bit_low b.mutable in
    let p : bit a.mutable ≡ bit b.mutable = omega (arith, f.0) in
    let q : bit a.shared ≡ bit b.shared = omega (arith, f.0) in
    let v = core_inj a.val_type b.val_type e.0 in
    let m = bit_inj a.mutable b.mutable p in
    let s = bit_inj a.shared b.shared q in
    (λ i. record { val_type = v i; mutable = m i; shared = s i }, f.1)

one_entity_at : (a b : EntityType) (x y : List ℕ) → entity a ++ x ≡ entity b ++ y → (a ≡ b) × (x ≡ y)
one_entity_at (t.Function i) (t.Function j) x y h = let w = one_unsigned.one i j x y (heads _ _ _ _ h).1 in (ap t.Function w.0, w.1)
one_entity_at (t.Table a) (t.Table b) x y h = let w = one_table_at a b x y (heads _ _ _ _ h).1 in (ap t.Table w.0, w.1)
one_entity_at (t.Memory a) (t.Memory b) x y h = let w = one_memory_at a b x y (heads _ _ _ _ h).1 in (ap t.Memory w.0, w.1)
one_entity_at (t.Global a) (t.Global b) x y h = let w = one_global_at a b x y (heads _ _ _ _ h).1 in (ap t.Global w.0, w.1)
one_entity_at (t.Tag i) (t.Tag j) x y h = let w = one_unsigned.one i j x y (heads _ _ _ _ (heads _ _ _ _ h).1).1 in (ap t.Tag w.0, w.1)
one_entity_at _ _ x y h = absurd (omega (arith, (heads _ _ _ _ h).0))

one_entity : OneReading entity
one_entity = record { one = one_entity_at }

one_module_decl_at : (a b : ModuleDecl) (x y : List ℕ) → module_decl_bytes a ++ x ≡ module_decl_bytes b ++ y → (a ≡ b) × (x ≡ y)
one_module_decl_at (module_import m n a) (module_import o q b) x y h =
    let w = (one_pair one_text (one_pair one_text one_entity)).one (m, (n, a)) (o, (q, b)) x y (ap (λ l. l ++ x) (sym (append_assoc (text m) (text n) (entity a))) ∙ (heads _ _ _ _ h).1 ∙ ap (λ l. l ++ y) (append_assoc (text o) (text q) (entity b))) in
    (λ i. module_import (w.0 i).0 (w.0 i).1.0 (w.0 i).1.1, w.1)
one_module_decl_at (module_func ps rs) (module_func qs ss) x y h =
    let w = (one_pair (one_vector one_core) (one_vector one_core)).one (ps, rs) (qs, ss) x y (heads _ _ _ _ (heads _ _ _ _ h).1).1 in
    (λ i. module_func (w.0 i).0 (w.0 i).1, w.1)
one_module_decl_at (module_export n a) (module_export q b) x y h = let w = (one_pair one_text one_entity).one (n, a) (q, b) x y (heads _ _ _ _ h).1 in (λ i. module_export (w.0 i).0 (w.0 i).1, w.1)
one_module_decl_at _ _ x y h = absurd (omega (arith, (heads _ _ _ _ h).0))

pub one_module_decl : OneReading module_decl_bytes
one_module_decl = record { one = one_module_decl_at }

one_module_at : (a b : List ModuleDecl) (x y : List ℕ) → module_bytes a ++ x ≡ module_bytes b ++ y → (a ≡ b) × (x ≡ y)
one_module_at a b x y h = (one_vector one_module_decl).one a b x y (heads _ _ _ _ h).1

pub one_module : OneReading module_bytes
one_module = record { one = one_module_at }
