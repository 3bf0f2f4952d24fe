-- Encodings whose bytes determine what they encode, whatever follows them.
use Rattle.std.proofs.Common.{◌≡◌, ℕ, ◌≤◌, List, [], ◌∷◌, ◌++◌, length, refl, ap, sym, ◌∙◌, arith, append_assoc}
use Rattle.std.specs.List.{flat_map}
use Rattle.wac_types_shapes.specs.declared.primitives.component.PrimitiveType.{PrimitiveType}
use Rattle.wac_types_shapes.specs.declared.primitives.component.PrimitiveType.TheVariants as p
use Rattle.wac_binary.specs.declared.types.ComponentValType.{ComponentValType}
use Rattle.wac_binary.specs.declared.types.ComponentValType.TheVariants.{Primitive, Index}
use Rattle.wac_binary.specs.Leb.{unsigned, signed}
use Rattle.wac_binary.specs.Bytes.{text, vector, primitive, value}
use Rattle.wac_binary.specs.private.LebLaws.{leb_one, leb_first}

-- The bytes determine what is encoded and what follows.
pub record OneReading {A : Type 0} (f : A → List ℕ) : Type 0 where
  pub one : (a b : A) (x y : List ℕ) → f a ++ x ≡ f b ++ y → (a ≡ b) × (x ≡ y)

pub one_unsigned : OneReading unsigned
one_unsigned = record { one = leb_one 128 (omega arith) (omega arith) }

pub one_signed : OneReading signed
one_signed = record { one = leb_one 64 (omega arith) (omega arith) }

-- Equal lists have equal first parts if these are of one length.
pub same_length : (a b x y : List ℕ) → length a ≡ length b → a ++ x ≡ b ++ y → (a ≡ b) × (x ≡ y)
same_length [] [] x y l e = (refl, e)
same_length [] (c ∷ b) x y l e = absurd (omega arith)
same_length (c ∷ a) [] x y l e = absurd (omega arith)
same_length (c ∷ a) (g ∷ b) x y l e = let r = same_length a b x y (omega arith) (tails c g (a ++ x) (b ++ y) e).1 in let h = (tails c g (a ++ x) (b ++ y) e).0 in (cc, r.1)
  where
    tails : (m n : ℕ) (x y : List ℕ) → m ∷ x ≡ n ∷ y → (m ≡ n) × (x ≡ y)
    tails m n x y e = (cc, cc)

module _ {A B : Type 0} {f : A → List ℕ} {g : B → List ℕ} (p : OneReading f) (q : OneReading g) where
  pub one_pair : OneReading (λ (t : A × B). f t.0 ++ g t.1)
  one_pair = record {
    one = λ a b x y e.
        let r = p.one a.0 b.0 (g a.1 ++ x) (g b.1 ++ y) (sym (append_assoc (f a.0) (g a.1) x) ∙ e ∙ append_assoc (f b.0) (g b.1) y) in
        let s = q.one a.1 b.1 x y r.1 in
        (λ i. (r.0 i, s.0 i), s.1);
  }

module _ {A : Type 0} {f : A → List ℕ} (p : OneReading f) where
  one_all : (us bs : List A) (x y : List ℕ) → length us ≡ length bs → flat_map f us ++ x ≡ flat_map f bs ++ y → (us ≡ bs) × (x ≡ y)
  one_all [] [] x y l e = (refl, e)
  one_all [] (b ∷ bs) x y l e = absurd (omega arith)
  one_all (a ∷ us) [] x y l e = absurd (omega arith)
  one_all (a ∷ us) (b ∷ bs) x y l e =
      let r = p.one a b (flat_map f us ++ x) (flat_map f bs ++ y) (sym (append_assoc (f a) (flat_map f us) x) ∙ e ∙ append_assoc (f b) (flat_map f bs) y) in
      let s = one_all us bs x y (omega arith) r.1 in
      (λ i. r.0 i ∷ s.0 i, s.1)

  pub one_vector : OneReading (vector f)
  one_vector = record {
    one = λ us bs x y e.
        let r = one_unsigned.one (length us) (length bs) (flat_map f us ++ x) (flat_map f bs ++ y) (sym (append_assoc (unsigned (length us)) (flat_map f us) x) ∙ e ∙ append_assoc (unsigned (length bs)) (flat_map f bs) y) in
        one_all us bs x y r.0 r.1;
  }

pub one_text : OneReading text
one_text = record {
  one = λ a b x y e.
      let r = one_unsigned.one (length a) (length b) (a ++ x) (b ++ y) (sym (append_assoc (unsigned (length a)) a x) ∙ e ∙ append_assoc (unsigned (length b)) b y) in
      same_length a b x y r.0 r.1;
}

-- Different primitive types have different bytes.
pub code_inj : (s t : PrimitiveType) → primitive s ≡ primitive t → s ≡ t
code_inj p.Bool p.Bool e = refl
code_inj p.S8 p.S8 e = refl
code_inj p.U8 p.U8 e = refl
code_inj p.S16 p.S16 e = refl
code_inj p.U16 p.U16 e = refl
code_inj p.S32 p.S32 e = refl
code_inj p.U32 p.U32 e = refl
code_inj p.S64 p.S64 e = refl
code_inj p.U64 p.U64 e = refl
code_inj p.F32 p.F32 e = refl
code_inj p.F64 p.F64 e = refl
code_inj p.Char p.Char e = refl
code_inj p.String p.String e = refl
code_inj p.ErrorContext p.ErrorContext e = refl
code_inj _ _ e = absurd (omega arith)

pub record Coded (n : ℕ) : Type 0 where
  pub low : 0x64 ≤ n
  pub high : n ≤ 0x7f

code_range : (t : PrimitiveType) → Coded (primitive t)
code_range p.Bool = record { low = omega arith; high = omega arith }
code_range _ = record { low = omega arith; high = omega arith }

pub heads : (m n : ℕ) (x y : List ℕ) → m ∷ x ≡ n ∷ y → (m ≡ n) × (x ≡ y)
heads m n x y e = (cc, cc)

one_value_at : (a b : ComponentValType) (x y : List ℕ) → value a ++ x ≡ value b ++ y → (a ≡ b) × (x ≡ y)
one_value_at (Primitive s) (Primitive t) x y e = let r = heads (primitive s) (primitive t) x y e in (ap Primitive (code_inj s t r.0), r.1)
one_value_at (Index i) (Index j) x y e = let r = one_signed.one i j x y e in (ap Index r.0, r.1)
one_value_at (Primitive s) (Index j) x y e = let f = leb_first 64 (omega arith) j y in let r = heads (primitive s) f.0 x f.1 (e ∙ f.2.0) in let c = code_range s in absurd (omega (arith, f.2.1))
one_value_at (Index i) (Primitive t) x y e = let f = leb_first 64 (omega arith) i x in let r = heads (primitive t) f.0 y f.1 (sym e ∙ f.2.0) in let c = code_range t in absurd (omega (arith, f.2.1))

pub one_value : OneReading value
one_value = record { one = one_value_at }
