-- The bytes of a type item or a declaration determine it, whatever follows them.
use Rattle.std.proofs.Common.{◌≡◌, ℕ, ◌<◌, ◌≤◌, List, ◌∷◌, ◌++◌, refl, ap, sym, ◌∙◌, arith, append_assoc, Bool, true, false}
use Rattle.std.specs.Prelude.{Option, Some, None, if◌then◌else◌}
use Rattle.wac_types_shapes.specs.declared.primitives.component.PrimitiveType.{PrimitiveType}
use Rattle.wac_types_shapes.specs.declared.primitives.component.PrimitiveType.TheVariants as p
use Rattle.wac_binary.specs.declared.types.ComponentValType.{ComponentValType}
use Rattle.wac_binary.specs.Items.{ValueDef, primitive_def}
use Rattle.wac_binary.specs.declared.sorts.Sort.{Sort}
use Rattle.wac_binary.specs.declared.sorts.Sort.TheVariants as s
use Rattle.wac_binary.specs.declared.sorts.Description.{Description}
use Rattle.wac_binary.specs.declared.sorts.Description.TheVariants as e
use Rattle.wac_binary.specs.Leb.{unsigned}
use Rattle.wac_binary.specs.Items.{Alias, export_alias, outer_alias, TypeDef, value_def, func_def, component_def, instance_def, Decls, end, next, Decl, core_type_decl, type_decl, alias_decl, import_decl, export_decl}
use Rattle.wac_types_shapes.specs.primitives.Name.{Name}
use Rattle.wac_binary.specs.Bytes.{primitive, outcome, value_def_bytes, func_bytes, sort, described, alias_bytes, count, type_bytes, decl_bytes, decls_bytes}
use Rattle.wac_binary.specs.private.OneReading.{OneReading, one_unsigned, one_pair, one_vector, one_text, one_value, heads}
use Rattle.wac_binary.specs.private.OneType.{one_field, one_defined}
use Rattle.wac_binary.specs.private.OneModule.{one_module}

one_outcome_at : (a b : Option ComponentValType) (x y : List ℕ) → outcome a ++ x ≡ outcome b ++ y → (a ≡ b) × (x ≡ y)
one_outcome_at None None x y e = (refl, (heads 0 0 x y (heads 1 1 (0 ∷ x) (0 ∷ y) e).1).1)
one_outcome_at (Some s) (Some t) x y e = let r = one_value.one s t x y (heads _ _ _ _ e).1 in (ap Some r.0, r.1)
one_outcome_at _ _ x y e = absurd (omega (arith, (heads _ _ _ _ e).0))

one_outcome : OneReading outcome
one_outcome = record { one = one_outcome_at }

async_byte : Bool → ℕ
async_byte b = if b then 0x43 else 0x40

async_inj : (b c : Bool) → async_byte b ≡ async_byte c → b ≡ c
unfolding async_byte
async_inj true true h = refl
async_inj false false h = refl
async_inj _ _ h = absurd (omega arith)

one_func_at : (a b : Bool) (ps qs : List (Name × ComponentValType)) (o r : Option ComponentValType) (x y : List ℕ) → func_bytes a ps o ++ x ≡ func_bytes b qs r ++ y → (func_def a ps o ≡ func_def b qs r) × (x ≡ y)
unfolding async_byte
one_func_at a b ps qs o r x y h =
    let t = heads _ _ _ _ h in
    let w = (one_pair (one_vector one_field) one_outcome).one (ps, o) (qs, r) x y t.1 in
    let e = async_inj a b t.0 in
    (λ i. func_def (e i) (w.0 i).0 (w.0 i).1, w.1)

one_sort_at : (a b : Sort) (x y : List ℕ) → sort a ++ x ≡ sort b ++ y → (a ≡ b) × (x ≡ y)
one_sort_at s.CoreModule s.CoreModule x y h = (refl, (heads _ _ _ _ (heads _ _ _ _ h).1).1)
one_sort_at s.Func s.Func x y h = (refl, (heads _ _ _ _ h).1)
one_sort_at s.Value s.Value x y h = (refl, (heads _ _ _ _ h).1)
one_sort_at s.Type s.Type x y h = (refl, (heads _ _ _ _ h).1)
one_sort_at s.Component s.Component x y h = (refl, (heads _ _ _ _ h).1)
one_sort_at s.Instance s.Instance x y h = (refl, (heads _ _ _ _ h).1)
one_sort_at _ _ x y h = absurd (omega (arith, (heads _ _ _ _ h).0))

pub one_sort : OneReading sort
one_sort = record { one = one_sort_at }

one_described_at : (a b : Description) (x y : List ℕ) → described a ++ x ≡ described b ++ y → (a ≡ b) × (x ≡ y)
one_described_at (e.CoreModule i) (e.CoreModule j) x y h = let r = one_unsigned.one i j x y (heads _ _ _ _ (heads _ _ _ _ h).1).1 in (ap e.CoreModule r.0, r.1)
one_described_at (e.Func i) (e.Func j) x y h = let r = one_unsigned.one i j x y (heads _ _ _ _ h).1 in (ap e.Func r.0, r.1)
one_described_at (e.Equal i) (e.Equal j) x y h = let r = one_unsigned.one i j x y (heads _ _ _ _ (heads _ _ _ _ h).1).1 in (ap e.Equal r.0, r.1)
one_described_at e.Fresh e.Fresh x y h = (refl, (heads _ _ _ _ (heads _ _ _ _ h).1).1)
one_described_at (e.Component i) (e.Component j) x y h = let r = one_unsigned.one i j x y (heads _ _ _ _ h).1 in (ap e.Component r.0, r.1)
one_described_at (e.Instance i) (e.Instance j) x y h = let r = one_unsigned.one i j x y (heads _ _ _ _ h).1 in (ap e.Instance r.0, r.1)
one_described_at (e.Equal i) e.Fresh x y h = absurd (omega (arith, (heads _ _ _ _ (heads _ _ _ _ h).1).0))
one_described_at e.Fresh (e.Equal i) x y h = absurd (omega (arith, (heads _ _ _ _ (heads _ _ _ _ h).1).0))
one_described_at _ _ x y h = absurd (omega (arith, (heads _ _ _ _ h).0))

pub one_described : OneReading described
one_described = record { one = one_described_at }

one_alias_at : (a b : Alias) (x y : List ℕ) → alias_bytes a ++ x ≡ alias_bytes b ++ y → (a ≡ b) × (x ≡ y)
one_alias_at (export_alias t i n) (export_alias u j m) x y h =
    let r = one_sort.one t u _ _ (sym (append_assoc (sort t) _ x) ∙ h ∙ append_assoc (sort u) _ y) in
    let q = (one_pair one_unsigned one_text).one (i, n) (j, m) x y (heads _ _ _ _ r.1).1 in
    (λ k. export_alias (r.0 k) (q.0 k).0 (q.0 k).1, q.1)
one_alias_at (outer_alias t i n) (outer_alias u j m) x y h =
    let r = one_sort.one t u _ _ (sym (append_assoc (sort t) _ x) ∙ h ∙ append_assoc (sort u) _ y) in
    let q = (one_pair one_unsigned one_unsigned).one (i, n) (j, m) x y (heads _ _ _ _ r.1).1 in
    (λ k. outer_alias (r.0 k) (q.0 k).0 (q.0 k).1, q.1)
one_alias_at (export_alias t i n) (outer_alias u j m) x y h =
    let r = one_sort.one t u _ _ (sym (append_assoc (sort t) _ x) ∙ h ∙ append_assoc (sort u) _ y) in absurd (omega (arith, (heads _ _ _ _ r.1).0))
one_alias_at (outer_alias t i n) (export_alias u j m) x y h =
    let r = one_sort.one t u _ _ (sym (append_assoc (sort t) _ x) ∙ h ∙ append_assoc (sort u) _ y) in absurd (omega (arith, (heads _ _ _ _ r.1).0))

pub one_alias : OneReading alias_bytes
one_alias = record { one = one_alias_at }

-- The first byte of a value type's definition is above the first bytes of other types.
pub record Starts (bytes : List ℕ) : Type 0 where
  pub first : ℕ
  pub rest : List ℕ
  pub is : bytes ≡ first ∷ rest
  pub high : 0x64 ≤ first

code_low : (t : PrimitiveType) → 0x64 ≤ primitive t
code_low p.Bool = omega arith
code_low _ = omega arith

starts : (t : ValueDef) (x : List ℕ) → Starts (value_def_bytes t ++ x)
starts (primitive_def t) x = record { first = primitive t; rest = x; is = refl; high = code_low t }
starts _ x = record { first = _; rest = _; is = refl; high = omega arith }

clash : {X : Type 0} (t : ValueDef) (x : List ℕ) (n : ℕ) (y : List ℕ) → n < 0x64 → value_def_bytes t ++ x ≡ n ∷ y → X
clash t x n y l h = let r = starts t x in absurd (omega (arith, r.high, (heads _ _ _ _ (sym r.is ∙ h)).0))

async_low : (b : Bool) → (if b then 0x43 else 0x40) < 0x64
async_low true = omega arith
async_low false = omega arith

async_not : {X : Type 0} (b : Bool) (n : ℕ) → 0x40 < n → n < 0x43 → (if b then 0x43 else 0x40) ≡ n → X
async_not true n l u h = absurd (omega arith)
async_not false n l u h = absurd (omega arith)

mutual
  one_type_at : (s t : TypeDef) (x y : List ℕ) → type_bytes s ++ x ≡ type_bytes t ++ y → (s ≡ t) × (x ≡ y)
  one_type_at (value_def s) (value_def t) x y h = let r = one_defined.one s t x y h in (ap value_def r.0, r.1)
  one_type_at (func_def a p o) (func_def b q r) x y h = one_func_at a b p q o r x y h
  one_type_at (component_def s) (component_def t) x y h =
      let c = one_unsigned.one (count s) (count t) (decls_bytes s ++ x) (decls_bytes t ++ y) (sym (append_assoc (unsigned (count s)) (decls_bytes s) x) ∙ (heads _ _ _ _ h).1 ∙ append_assoc (unsigned (count t)) (decls_bytes t) y) in
      let r = one_decls_at s t x y c.0 c.1 in (ap component_def r.0, r.1)
  one_type_at (instance_def s) (instance_def t) x y h =
      let c = one_unsigned.one (count s) (count t) (decls_bytes s ++ x) (decls_bytes t ++ y) (sym (append_assoc (unsigned (count s)) (decls_bytes s) x) ∙ (heads _ _ _ _ h).1 ∙ append_assoc (unsigned (count t)) (decls_bytes t) y) in
      let r = one_decls_at s t x y c.0 c.1 in (ap instance_def r.0, r.1)
  one_type_at (value_def s) (func_def b q r) x y h = clash s x _ _ (async_low b) h
  one_type_at (value_def s) (component_def t) x y h = clash s x _ _ (omega arith) h
  one_type_at (value_def s) (instance_def t) x y h = clash s x _ _ (omega arith) h
  one_type_at (func_def a p o) (value_def t) x y h = clash t y _ _ (async_low a) (sym h)
  one_type_at (component_def s) (value_def t) x y h = clash t y _ _ (omega arith) (sym h)
  one_type_at (instance_def s) (value_def t) x y h = clash t y _ _ (omega arith) (sym h)
  one_type_at (func_def a p o) (component_def t) x y h = async_not a _ (omega arith) (omega arith) (heads _ _ _ _ h).0
  one_type_at (func_def a p o) (instance_def t) x y h = async_not a _ (omega arith) (omega arith) (heads _ _ _ _ h).0
  one_type_at (component_def s) (func_def b q r) x y h = async_not b _ (omega arith) (omega arith) (heads _ _ _ _ (sym h)).0
  one_type_at (instance_def s) (func_def b q r) x y h = async_not b _ (omega arith) (omega arith) (heads _ _ _ _ (sym h)).0
  one_type_at (component_def s) (instance_def t) x y h = absurd (omega (arith, (heads _ _ _ _ h).0))
  one_type_at (instance_def s) (component_def t) x y h = absurd (omega (arith, (heads _ _ _ _ h).0))

  one_decl_at : (s t : Decl) (x y : List ℕ) → decl_bytes s ++ x ≡ decl_bytes t ++ y → (s ≡ t) × (x ≡ y)
  one_decl_at (core_type_decl s) (core_type_decl t) x y h = let r = one_module.one s t x y (heads _ _ _ _ h).1 in (ap core_type_decl r.0, r.1)
  one_decl_at (type_decl s) (type_decl t) x y h = let r = one_type_at s t x y (heads _ _ _ _ h).1 in (ap type_decl r.0, r.1)
  one_decl_at (alias_decl s) (alias_decl t) x y h = let r = one_alias.one s t x y (heads _ _ _ _ h).1 in (ap alias_decl r.0, r.1)
  one_decl_at (import_decl n s) (import_decl m t) x y h = let r = (one_pair one_text one_described).one (n, s) (m, t) x y (heads _ _ _ _ (heads _ _ _ _ h).1).1 in (λ i. import_decl (r.0 i).0 (r.0 i).1, r.1)
  one_decl_at (export_decl n s) (export_decl m t) x y h = let r = (one_pair one_text one_described).one (n, s) (m, t) x y (heads _ _ _ _ (heads _ _ _ _ h).1).1 in (λ i. export_decl (r.0 i).0 (r.0 i).1, r.1)
  one_decl_at _ _ x y h = absurd (omega (arith, (heads _ _ _ _ h).0))

  one_decls_at : (s t : Decls) (x y : List ℕ) → count s ≡ count t → decls_bytes s ++ x ≡ decls_bytes t ++ y → (s ≡ t) × (x ≡ y)
  one_decls_at end end x y c h = (refl, h)
  one_decls_at end (next u us) x y c h = absurd (omega arith)
  one_decls_at (next u us) end x y c h = absurd (omega arith)
  one_decls_at (next u us) (next v vs) x y c h =
      let r = one_decl_at u v (decls_bytes us ++ x) (decls_bytes vs ++ y) (sym (append_assoc (decl_bytes u) (decls_bytes us) x) ∙ h ∙ append_assoc (decl_bytes v) (decls_bytes vs) y) in
      let q = one_decls_at us vs x y (omega arith) r.1 in
      (λ i. next (r.0 i) (q.0 i), q.1)

pub one_type : OneReading type_bytes
one_type = record { one = one_type_at }
