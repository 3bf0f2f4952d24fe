-- Rows of tables, and the types that they give.
use Rattle.std.proofs.Common.{◌≡◌, ℕ, suc, List, [], ◌∷◌, ◌++◌, Bool, true, false, cond, eqb, Option, Some, None, Ok, Err, refl, ap, sym, ◌∙◌}
use Rattle.wac_types_shapes.specs.declared.primitives.component.PrimitiveType.{PrimitiveType}
use Rattle.wac_binary.specs.declared.types.ComponentValType.{ComponentValType}
use Rattle.wac_binary.specs.declared.types.ComponentValType.TheVariants.{Primitive, Index}
use Rattle.wac_component.specs.declared.fault.TextFault.{TextFault}
use Rattle.wac_component.specs.declared.fault.TextFault.TheVariants.{Short, UnknownByte, Misplaced}
use Rattle.wac_binary.specs.Items.{primitive_def, TypeDef, value_def, component_def, instance_def, decls, Decl}
use Rattle.wac_component.specs.Reader.{Reader, done, fails, after, made, byte, chosen, rows}
use Rattle.wac_component.specs.Numbers.{signed_at, vector_at}
use Rattle.wac_component.specs.Types.{primitives, value_at, value_defs, type_defs, type_at}
use Rattle.wac_reader_parts.specs.declared.fault.ReadFault.{ReadFault}
use Rattle.wac_reader_parts.specs.declared.fault.ReadFault.TheVariants as errors
use Rattle.wac_reader_parts.specs.private.Gives.{Fails}
use Rattle.wac_reader_parts.specs.private.Tables.{primitive_of, plain_defs, value_types, decl_at, core_type_decl_at, is_resource}

-- The entry of a table under f, if a first table has none.
abbrev with_rows : {A B : Type 0} → (A → B) → B → Option A → B
with_rows f other None = other
with_rows f other (Some x) = f x

-- A table with f of each entry, before another table.
pub chosen_rows : {A B : Type 0} (f : A → B) (other : B) (table : List (ℕ × A)) (rest : List (ℕ × B)) (b : ℕ) → chosen other (rows f table ++ rest) b ≡ with_rows f (chosen other rest b) (chosen None (rows Some table) b)
chosen_rows f other [] rest b = refl
chosen_rows f other (row ∷ table) rest b =
    elim (eqb b row.0) as (λ c. cond c (f row.1) (chosen other (rows f table ++ rest) b) ≡ with_rows f (chosen other rest b) (cond c (Some row.1) (chosen None (rows Some table) b))) [
      | true ↦ refl
      | false ↦ chosen_rows f other table rest b
    ]

-- What a table of made readers gives is made of what the table gives.
pub chosen_made : {A B : Type 0} (f : A → B) (fault : TextFault) (table : List (ℕ × Reader A)) (b : ℕ) (bytes : List ℕ) → chosen (fails fault) (rows (made f) table) b bytes ≡ made f (chosen (fails fault) table b) bytes
chosen_made f fault [] b bytes = refl
chosen_made f fault (row ∷ table) b bytes =
    elim (eqb b row.0) as (λ c. cond c (made f row.1) (chosen (fails fault) (rows (made f) table) b) bytes ≡ made f (cond c row.1 (chosen (fails fault) table b)) bytes) [
      | true ↦ refl
      | false ↦ chosen_made f fault table b bytes
    ]

-- A value type by its first byte.
value_cons : (b : ℕ) (rest : List ℕ) → value_at (b ∷ rest) ≡ with_rows (λ t. made (λ first. Primitive t) byte) (made Index signed_at) (primitive_of b) (b ∷ rest)
unfolding value_at primitive_of
value_cons b rest = ap (λ (r : Reader ComponentValType). r (b ∷ rest)) (chosen_rows (λ t. made (λ first. Primitive t) byte) (made Index signed_at) primitives [] b)

byte_cons : (bytes : List ℕ) (b : ℕ) (rest : List ℕ) → byte bytes ≡ Ok (b, rest) → bytes ≡ b ∷ rest
byte_cons [] b rest h = absurd cc
byte_cons (c ∷ bytes) b rest h =
    let p : ◌≡◌ {A = ℕ × List ℕ} (c, bytes) (b, rest) = cc in
    ap (λ (x : ℕ × List ℕ). x.0 ∷ x.1) p

pub value_short : (e : ReadFault) (bytes : List ℕ) → Fails e (byte bytes) → Fails e (value_at bytes)
unfolding value_at
value_short errors.Memory bytes h = tt
value_short (errors.Text f left) [] h = let e : Short ≡ f = cc in ap Err e
value_short (errors.Text f left) (b ∷ bytes) h = absurd cc

pub value_primitive : (bytes : List ℕ) (b : ℕ) (rest : List ℕ) (t : PrimitiveType) → byte bytes ≡ Ok (b, rest) → Some t ≡ primitive_of b → value_at bytes ≡ Ok (Primitive t, rest)
value_primitive bytes b rest t h p =
    ap value_at (byte_cons bytes b rest h) ∙ value_cons b rest ∙ ap (λ (o : Option PrimitiveType). with_rows (λ x. made (λ first. Primitive x) byte) (made Index signed_at) o (b ∷ rest)) (sym p)

pub value_index : (bytes : List ℕ) (b : ℕ) (rest : List ℕ) → byte bytes ≡ Ok (b, rest) → None ≡ primitive_of b → value_at bytes ≡ made Index signed_at bytes
value_index bytes b rest h p =
    let e : bytes ≡ b ∷ rest = byte_cons bytes b rest h in
    ap value_at e ∙ value_cons b rest ∙ ap (λ (o : Option PrimitiveType). with_rows (λ x. made (λ first. Primitive x) byte) (made Index signed_at) o (b ∷ rest)) (sym p) ∙ ap (made Index signed_at) (sym e)

-- A value type that is defined, by its first byte.
value_types_rows : (b : ℕ) (bytes : List ℕ) → chosen (fails UnknownByte) value_types b bytes ≡ with_rows (λ t. done (value_def (primitive_def t))) (chosen (fails UnknownByte) (rows (made value_def) value_defs) b) (primitive_of b) bytes
unfolding primitive_of
value_types_rows b bytes = ap (λ (r : Reader TypeDef). r bytes) (chosen_rows (λ t. done (value_def (primitive_def t))) (fails UnknownByte) primitives (rows (made value_def) value_defs) b)

pub value_type_primitive : (b : ℕ) (bytes : List ℕ) (t : PrimitiveType) → Some t ≡ primitive_of b → chosen (fails UnknownByte) value_types b bytes ≡ Ok (value_def (primitive_def t), bytes)
value_type_primitive b bytes t p =
    value_types_rows b bytes ∙ ap (λ (o : Option PrimitiveType). with_rows (λ x. done (value_def (primitive_def x))) (chosen (fails UnknownByte) (rows (made value_def) value_defs) b) o bytes) (sym p)

pub value_type_defined : (b : ℕ) (bytes : List ℕ) → None ≡ primitive_of b → chosen (fails UnknownByte) value_types b bytes ≡ made value_def (chosen (fails UnknownByte) value_defs b) bytes
value_type_defined b bytes p =
    value_types_rows b bytes ∙ ap (λ (o : Option PrimitiveType). with_rows (λ x. done (value_def (primitive_def x))) (chosen (fails UnknownByte) (rows (made value_def) value_defs) b) o bytes) (sym p) ∙ chosen_made value_def UnknownByte value_defs b bytes

-- The definitions of value types that have no vector are those that are left.
pub no_vector : (b : ℕ) → eqb b 0x72 ≡ false → eqb b 0x71 ≡ false → eqb b 0x6f ≡ false → eqb b 0x6e ≡ false → eqb b 0x6d ≡ false → chosen (fails UnknownByte) value_defs b ≡ chosen (fails UnknownByte) plain_defs b
no_vector b record_ne variant_ne tuple_ne flags_ne enum_ne = rw (record_ne, variant_ne, tuple_ne, flags_ne, enum_ne) refl

-- A type in a declaration, by its first byte.
picked : {A : Type 0} (p q : Bool) (x y : A) → cond p true (cond q true false) ≡ true → cond p x (cond q x y) ≡ x
picked true q x y h = refl
picked false true x y h = refl
picked false false x y h = absurd cc

left_out : {A : Type 0} (p q : Bool) (x y : A) → cond p true (cond q true false) ≡ false → cond p x (cond q x y) ≡ y
left_out true q x y h = absurd cc
left_out false true x y h = absurd cc
left_out false false x y h = refl

pub inner_resource : (depth j : ℕ) (bytes rest : List ℕ) (b : ℕ) → depth ≡ suc j → byte bytes ≡ Ok (b, rest) → is_resource b ≡ true → type_at depth bytes ≡ Err Misplaced
unfolding type_at is_resource
inner_resource depth j bytes rest b same h r = rw (same, h) (ap (λ (f : Reader TypeDef). f rest) (picked (eqb b 0x3f) (eqb b 0x3e) (fails Misplaced) (chosen (fails UnknownByte) (type_defs (type_at j)) b) r))

pub inner_other : (depth j : ℕ) (bytes rest : List ℕ) (b : ℕ) → depth ≡ suc j → byte bytes ≡ Ok (b, rest) → is_resource b ≡ false → type_at depth bytes ≡ chosen (fails UnknownByte) (type_defs (type_at j)) b rest
unfolding type_at is_resource
inner_other depth j bytes rest b same h r = rw (same, h) (ap (λ (f : Reader TypeDef). f rest) (left_out (eqb b 0x3f) (eqb b 0x3e) (fails Misplaced) (chosen (fails UnknownByte) (type_defs (type_at j)) b) r))

-- Component types and instance types.
pub component_row : (inner : Reader TypeDef) (bytes : List ℕ) → chosen (fails UnknownByte) (type_defs inner) 0x41 bytes ≡ made (λ ds. component_def (decls ds)) (vector_at (decl_at true inner)) bytes
unfolding decl_at
component_row inner bytes = refl

pub instance_row : (inner : Reader TypeDef) (bytes : List ℕ) → chosen (fails UnknownByte) (type_defs inner) 0x42 bytes ≡ made (λ ds. instance_def (decls ds)) (vector_at (decl_at false inner)) bytes
unfolding decl_at
instance_row inner bytes = refl

pub component_fails : (e : ReadFault) (inner : Reader TypeDef) (b : ℕ) (bytes : List ℕ) → b ≡ 0x41 → Fails e (vector_at (decl_at true inner) bytes) → Fails e (chosen (fails UnknownByte) (type_defs inner) b bytes)
component_fails errors.Memory inner b bytes is h = tt
component_fails (errors.Text f left) inner b bytes is h = ap (λ (n : ℕ). chosen (fails UnknownByte) (type_defs inner) n bytes) is ∙ component_row inner bytes ∙ ap (after (λ (ds : List Decl). done (component_def (decls ds)))) h

pub instance_fails : (e : ReadFault) (inner : Reader TypeDef) (b : ℕ) (bytes : List ℕ) → b ≡ 0x42 → Fails e (vector_at (decl_at false inner) bytes) → Fails e (chosen (fails UnknownByte) (type_defs inner) b bytes)
instance_fails errors.Memory inner b bytes is h = tt
instance_fails (errors.Text f left) inner b bytes is h = ap (λ (n : ℕ). chosen (fails UnknownByte) (type_defs inner) n bytes) is ∙ instance_row inner bytes ∙ ap (after (λ (ds : List Decl). done (instance_def (decls ds)))) h

pub component_read : (inner : Reader TypeDef) (b : ℕ) (bytes : List ℕ) (ds : List Decl) (rest : List ℕ) → b ≡ 0x41 → vector_at (decl_at true inner) bytes ≡ Ok (ds, rest) → chosen (fails UnknownByte) (type_defs inner) b bytes ≡ Ok (component_def (decls ds), rest)
component_read inner b bytes ds rest is h = ap (λ (n : ℕ). chosen (fails UnknownByte) (type_defs inner) n bytes) is ∙ component_row inner bytes ∙ ap (after (λ (l : List Decl). done (component_def (decls l)))) h

pub instance_read : (inner : Reader TypeDef) (b : ℕ) (bytes : List ℕ) (ds : List Decl) (rest : List ℕ) → b ≡ 0x42 → vector_at (decl_at false inner) bytes ≡ Ok (ds, rest) → chosen (fails UnknownByte) (type_defs inner) b bytes ≡ Ok (instance_def (decls ds), rest)
instance_read inner b bytes ds rest is h = ap (λ (n : ℕ). chosen (fails UnknownByte) (type_defs inner) n bytes) is ∙ instance_row inner bytes ∙ ap (after (λ (l : List Decl). done (instance_def (decls l)))) h

-- A core type in a declaration.
pub decl_core : (in_component : Bool) (inner : Reader TypeDef) (bytes rest : List ℕ) (b : ℕ) → b ≡ 0 → byte bytes ≡ Ok (b, rest) → decl_at in_component inner bytes ≡ core_type_decl_at rest
unfolding decl_at core_type_decl_at
decl_core true inner bytes rest b is h = rw (h, is) refl
decl_core false inner bytes rest b is h = rw (h, is) refl
