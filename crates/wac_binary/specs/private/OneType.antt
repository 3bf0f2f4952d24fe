-- The bytes of a value type's definition determine it, whatever follows them.
use Rattle.std.proofs.Common.{◌≡◌, ℕ, ◌≤◌, List, [], ◌∷◌, ◌++◌, refl, ap, sym, ◌∙◌, arith, append_assoc}
use Rattle.std.specs.Prelude.{Option, Some, None}
use Rattle.wac_types_shapes.specs.declared.primitives.component.PrimitiveType.{PrimitiveType}
use Rattle.wac_types_shapes.specs.declared.primitives.component.PrimitiveType.TheVariants as p
use Rattle.wac_binary.specs.declared.types.ComponentValType.{ComponentValType}
use Rattle.wac_binary.specs.Items.{ValueDef, primitive_def, record_def, variant_def, list_def, fixed_list_def, tuple_def, flags_def, enum_def, option_def, result_def, own_def, borrow_def, stream_def, future_def}
use Rattle.wac_binary.specs.Bytes.{text, primitive, value, optional, field, case, value_def_bytes}
use Rattle.wac_binary.specs.private.OneReading.{OneReading, one_unsigned, one_pair, one_vector, one_text, one_value, code_inj, heads}

one_optional_at : (a b : Option ComponentValType) (x y : List ℕ) → optional a ++ x ≡ optional b ++ y → (a ≡ b) × (x ≡ y)
one_optional_at None None x y e = (refl, (heads 0 0 x y e).1)
one_optional_at (Some s) (Some t) x y e = let r = one_value.one s t x y (heads 1 1 (value s ++ x) (value t ++ y) e).1 in (ap Some r.0, r.1)
one_optional_at None (Some t) x y e = absurd (omega (arith, (heads 0 1 x (value t ++ y) e).0))
one_optional_at (Some s) None x y e = absurd (omega (arith, (heads 1 0 (value s ++ x) y e).0))

pub one_optional : OneReading optional
one_optional = record { one = one_optional_at }

pub one_field : OneReading field
one_field = one_pair one_text one_value

one_end : OneReading (λ (t : Option ComponentValType). optional t ++ 0 ∷ [])
one_end = record {
  one = λ a b x y e.
      let r = one_optional.one a b (0 ∷ x) (0 ∷ y) (sym (append_assoc (optional a) (0 ∷ []) x) ∙ e ∙ append_assoc (optional b) (0 ∷ []) y) in
      (r.0, (heads 0 0 x y r.1).1);
}

pub one_case : OneReading case
one_case = record {
  one = λ a b x y e.
      let r = one_pair one_text one_end in
      r.one a b x y (ap (λ t. t ++ x) (sym (append_assoc (text a.0) (optional a.1) (0 ∷ []))) ∙ e ∙ ap (λ t. t ++ y) (append_assoc (text b.0) (optional b.1) (0 ∷ [])));
}

-- The byte of a primitive type differs from those of the type constructors.
apart : {X : Type 0} (s : PrimitiveType) (n : ℕ) → 0x65 ≤ n → n ≤ 0x72 → primitive s ≡ n → X
apart p.ErrorContext n l h e = absurd (omega arith)
apart _ n l h e = absurd (omega arith)

one_defined_at : (a b : ValueDef) (x y : List ℕ) → value_def_bytes a ++ x ≡ value_def_bytes b ++ y → (a ≡ b) × (x ≡ y)
one_defined_at (primitive_def s) (primitive_def t) x y e = let r = heads (primitive s) (primitive t) x y e in (ap primitive_def (code_inj s t r.0), r.1)
one_defined_at (record_def s) (record_def t) x y e = let r = (one_vector one_field).one s t x y (heads _ _ _ _ e).1 in (ap record_def r.0, r.1)
one_defined_at (variant_def s) (variant_def t) x y e = let r = (one_vector one_case).one s t x y (heads _ _ _ _ e).1 in (ap variant_def r.0, r.1)
one_defined_at (list_def s) (list_def t) x y e = let r = one_value.one s t x y (heads _ _ _ _ e).1 in (ap list_def r.0, r.1)
one_defined_at (fixed_list_def s m) (fixed_list_def t n) x y e = let r = (one_pair one_value one_unsigned).one (s, m) (t, n) x y (heads _ _ _ _ e).1 in (ap (λ (q : ComponentValType × ℕ). fixed_list_def q.0 q.1) r.0, r.1)
one_defined_at (tuple_def s) (tuple_def t) x y e = let r = (one_vector one_value).one s t x y (heads _ _ _ _ e).1 in (ap tuple_def r.0, r.1)
one_defined_at (flags_def s) (flags_def t) x y e = let r = (one_vector one_text).one s t x y (heads _ _ _ _ e).1 in (ap flags_def r.0, r.1)
one_defined_at (enum_def s) (enum_def t) x y e = let r = (one_vector one_text).one s t x y (heads _ _ _ _ e).1 in (ap enum_def r.0, r.1)
one_defined_at (option_def s) (option_def t) x y e = let r = one_value.one s t x y (heads _ _ _ _ e).1 in (ap option_def r.0, r.1)
one_defined_at (result_def s m) (result_def t n) x y e = let r = (one_pair one_optional one_optional).one (s, m) (t, n) x y (heads _ _ _ _ e).1 in (ap (λ (q : Option ComponentValType × Option ComponentValType). result_def q.0 q.1) r.0, r.1)
one_defined_at (own_def s) (own_def t) x y e = let r = one_unsigned.one s t x y (heads _ _ _ _ e).1 in (ap own_def r.0, r.1)
one_defined_at (borrow_def s) (borrow_def t) x y e = let r = one_unsigned.one s t x y (heads _ _ _ _ e).1 in (ap borrow_def r.0, r.1)
one_defined_at (stream_def s) (stream_def t) x y e = let r = one_optional.one s t x y (heads _ _ _ _ e).1 in (ap stream_def r.0, r.1)
one_defined_at (future_def s) (future_def t) x y e = let r = one_optional.one s t x y (heads _ _ _ _ e).1 in (ap future_def r.0, r.1)
one_defined_at (primitive_def s) _ x y e = apart s _ (omega arith) (omega arith) (heads _ _ _ _ e).0
one_defined_at _ (primitive_def t) x y e = apart t _ (omega arith) (omega arith) (heads _ _ _ _ (sym e)).0
one_defined_at _ _ x y e = absurd (omega (arith, (heads _ _ _ _ e).0))

pub one_defined : OneReading value_def_bytes
one_defined = record { one = one_defined_at }
