-- Trees that are equal part by part, and the type of bytes.
use Rattle.std.proofs.Common.{◌≡◌, ℕ, suc, List, [], ◌∷◌, Ok, Err, Result, false, Bool}
use Rattle.std.proofs.Math.Path.{fun_ext}
use Rattle.wac_component.proofs.component_types.Cases.{split, first}
use Rattle.wac_component.proofs.component_types.Terms.{no_module_type}
use Rattle.wac_types_shapes.specs.primitives.Name.{Name, same_name}
use Rattle.wac_types_shapes.specs.primitives.Tree.{Tree, absent, record_of, variant_of, list_of, fixed_list_of, tuple_of, option_of, result_of, stream_of, future_of, function, type_equal, function_item}
use Rattle.wac_binary.specs.Unfold.{type_at}
use Rattle.wac_component.specs.Parts.{Parts, nothing}
use Rattle.wac_component.specs.Reading.{parts_of}
use Rattle.wac_component.specs.Context.{empty_context, after_parts}
use Rattle.wac_component.specs.ResourceNames.{IsComponentType}
use Rattle.wac_component.specs.declared.fault.TextFault.{TextFault}

-- The bytes are the text of parts that have this type.
abbrev pub IsTypeOfBytes : List ℕ → Tree → Type 0
IsTypeOfBytes bytes t = (ps : Parts) × (parts_of bytes ≡ Ok ps) × IsComponentType (after_parts no_module_type ps empty_context []) t

abbrev pub got : Result Parts TextFault → Parts
got (Ok ps) = ps
got (Err e) = nothing

pub idx_nil : {f : ℕ → Tree} → ((i : ℕ) → f i ≡ absent) → f ≡ type_at []
idx_nil h = fun_ext h

pub idx_cons : {f : ℕ → Tree} {t : Tree} (ts : List Tree) → f 0 ≡ t → (λ i. f (suc i)) ≡ type_at ts → f ≡ type_at (t ∷ ts)
idx_cons {f} {t} ts p q = first f (type_at (t ∷ ts)) p (λ i k. q k i)

pub func_eq : {a : Bool} {ns : List Name} {f g : ℕ → Tree} {x y : Tree} → f ≡ g → x ≡ y → function_item (function a ns f x) ≡ function_item (function a ns g y)
func_eq {a} {ns} p q = λ k. function_item (function a ns (p k) (q k))

pub type_eq : {x y : Tree} → x ≡ y → type_equal x ≡ type_equal y
type_eq p = λ k. type_equal (p k)

pub record_eq : {ns : List Name} {f g : ℕ → Tree} → f ≡ g → record_of ns f ≡ record_of ns g
record_eq {ns} p = λ k. record_of ns (p k)

pub variant_eq : {ns : List Name} {f g : ℕ → Tree} → f ≡ g → variant_of ns f ≡ variant_of ns g
variant_eq {ns} p = λ k. variant_of ns (p k)

pub tuple_eq : {n : ℕ} {f g : ℕ → Tree} → f ≡ g → tuple_of n f ≡ tuple_of n g
tuple_eq {n} p = λ k. tuple_of n (p k)

pub list_eq : {x y : Tree} → x ≡ y → list_of x ≡ list_of y
list_eq p = λ k. list_of (p k)

pub flist_eq : {n : ℕ} {x y : Tree} → x ≡ y → fixed_list_of n x ≡ fixed_list_of n y
flist_eq {n} p = λ k. fixed_list_of n (p k)

pub option_eq : {x y : Tree} → x ≡ y → option_of x ≡ option_of y
option_eq p = λ k. option_of (p k)

pub stream_eq : {x y : Tree} → x ≡ y → stream_of x ≡ stream_of y
stream_eq p = λ k. stream_of (p k)

pub future_eq : {x y : Tree} → x ≡ y → future_of x ≡ future_of y
future_eq p = λ k. future_of (p k)

pub result_eq : {x y s t : Tree} → x ≡ y → s ≡ t → result_of x s ≡ result_of y t
result_eq p q = λ k. result_of (p k) (q k)

pub s1 : (P : Name → Type 0) (a0 : Name) → P a0 → ((n : Name) → same_name n a0 ≡ false → P n) → (n : Name) → P n
s1 P a0 p0 r = split P a0 p0 r

pub n1 : {f g : Name → Tree} (a0 : Name) → f a0 ≡ g a0 → ((n : Name) → same_name n a0 ≡ false → f n ≡ g n) → f ≡ g
n1 {f} {g} a0 p0 r = fun_ext (s1 (λ n. f n ≡ g n) a0 p0 r)

pub s2 : (P : Name → Type 0) (a0 a1 : Name) → P a0 → P a1 → ((n : Name) → same_name n a0 ≡ false → same_name n a1 ≡ false → P n) → (n : Name) → P n
s2 P a0 a1 p0 p1 r = split P a0 p0 (s1 (λ n. same_name n a0 ≡ false → P n) a1 (λ h. p1) (λ n h1 h0. r n h0 h1))

pub n2 : {f g : Name → Tree} (a0 a1 : Name) → f a0 ≡ g a0 → f a1 ≡ g a1 → ((n : Name) → same_name n a0 ≡ false → same_name n a1 ≡ false → f n ≡ g n) → f ≡ g
n2 {f} {g} a0 a1 p0 p1 r = fun_ext (s2 (λ n. f n ≡ g n) a0 a1 p0 p1 r)

pub s3 : (P : Name → Type 0) (a0 a1 a2 : Name) → P a0 → P a1 → P a2 → ((n : Name) → same_name n a0 ≡ false → same_name n a1 ≡ false → same_name n a2 ≡ false → P n) → (n : Name) → P n
s3 P a0 a1 a2 p0 p1 p2 r = split P a0 p0 (s2 (λ n. same_name n a0 ≡ false → P n) a1 a2 (λ h. p1) (λ h. p2) (λ n h1 h2 h0. r n h0 h1 h2))

pub n3 : {f g : Name → Tree} (a0 a1 a2 : Name) → f a0 ≡ g a0 → f a1 ≡ g a1 → f a2 ≡ g a2 → ((n : Name) → same_name n a0 ≡ false → same_name n a1 ≡ false → same_name n a2 ≡ false → f n ≡ g n) → f ≡ g
n3 {f} {g} a0 a1 a2 p0 p1 p2 r = fun_ext (s3 (λ n. f n ≡ g n) a0 a1 a2 p0 p1 p2 r)

pub s4 : (P : Name → Type 0) (a0 a1 a2 a3 : Name) → P a0 → P a1 → P a2 → P a3 → ((n : Name) → same_name n a0 ≡ false → same_name n a1 ≡ false → same_name n a2 ≡ false → same_name n a3 ≡ false → P n) → (n : Name) → P n
s4 P a0 a1 a2 a3 p0 p1 p2 p3 r = split P a0 p0 (s3 (λ n. same_name n a0 ≡ false → P n) a1 a2 a3 (λ h. p1) (λ h. p2) (λ h. p3) (λ n h1 h2 h3 h0. r n h0 h1 h2 h3))

pub n4 : {f g : Name → Tree} (a0 a1 a2 a3 : Name) → f a0 ≡ g a0 → f a1 ≡ g a1 → f a2 ≡ g a2 → f a3 ≡ g a3 → ((n : Name) → same_name n a0 ≡ false → same_name n a1 ≡ false → same_name n a2 ≡ false → same_name n a3 ≡ false → f n ≡ g n) → f ≡ g
n4 {f} {g} a0 a1 a2 a3 p0 p1 p2 p3 r = fun_ext (s4 (λ n. f n ≡ g n) a0 a1 a2 a3 p0 p1 p2 p3 r)

pub s5 : (P : Name → Type 0) (a0 a1 a2 a3 a4 : Name) → P a0 → P a1 → P a2 → P a3 → P a4 → ((n : Name) → same_name n a0 ≡ false → same_name n a1 ≡ false → same_name n a2 ≡ false → same_name n a3 ≡ false → same_name n a4 ≡ false → P n) → (n : Name) → P n
s5 P a0 a1 a2 a3 a4 p0 p1 p2 p3 p4 r = split P a0 p0 (s4 (λ n. same_name n a0 ≡ false → P n) a1 a2 a3 a4 (λ h. p1) (λ h. p2) (λ h. p3) (λ h. p4) (λ n h1 h2 h3 h4 h0. r n h0 h1 h2 h3 h4))

pub n5 : {f g : Name → Tree} (a0 a1 a2 a3 a4 : Name) → f a0 ≡ g a0 → f a1 ≡ g a1 → f a2 ≡ g a2 → f a3 ≡ g a3 → f a4 ≡ g a4 → ((n : Name) → same_name n a0 ≡ false → same_name n a1 ≡ false → same_name n a2 ≡ false → same_name n a3 ≡ false → same_name n a4 ≡ false → f n ≡ g n) → f ≡ g
n5 {f} {g} a0 a1 a2 a3 a4 p0 p1 p2 p3 p4 r = fun_ext (s5 (λ n. f n ≡ g n) a0 a1 a2 a3 a4 p0 p1 p2 p3 p4 r)

pub s6 : (P : Name → Type 0) (a0 a1 a2 a3 a4 a5 : Name) → P a0 → P a1 → P a2 → P a3 → P a4 → P a5 → ((n : Name) → same_name n a0 ≡ false → same_name n a1 ≡ false → same_name n a2 ≡ false → same_name n a3 ≡ false → same_name n a4 ≡ false → same_name n a5 ≡ false → P n) → (n : Name) → P n
s6 P a0 a1 a2 a3 a4 a5 p0 p1 p2 p3 p4 p5 r = split P a0 p0 (s5 (λ n. same_name n a0 ≡ false → P n) a1 a2 a3 a4 a5 (λ h. p1) (λ h. p2) (λ h. p3) (λ h. p4) (λ h. p5) (λ n h1 h2 h3 h4 h5 h0. r n h0 h1 h2 h3 h4 h5))

pub n6 : {f g : Name → Tree} (a0 a1 a2 a3 a4 a5 : Name) → f a0 ≡ g a0 → f a1 ≡ g a1 → f a2 ≡ g a2 → f a3 ≡ g a3 → f a4 ≡ g a4 → f a5 ≡ g a5 → ((n : Name) → same_name n a0 ≡ false → same_name n a1 ≡ false → same_name n a2 ≡ false → same_name n a3 ≡ false → same_name n a4 ≡ false → same_name n a5 ≡ false → f n ≡ g n) → f ≡ g
n6 {f} {g} a0 a1 a2 a3 a4 a5 p0 p1 p2 p3 p4 p5 r = fun_ext (s6 (λ n. f n ≡ g n) a0 a1 a2 a3 a4 a5 p0 p1 p2 p3 p4 p5 r)

pub s7 : (P : Name → Type 0) (a0 a1 a2 a3 a4 a5 a6 : Name) → P a0 → P a1 → P a2 → P a3 → P a4 → P a5 → P a6 → ((n : Name) → same_name n a0 ≡ false → same_name n a1 ≡ false → same_name n a2 ≡ false → same_name n a3 ≡ false → same_name n a4 ≡ false → same_name n a5 ≡ false → same_name n a6 ≡ false → P n) → (n : Name) → P n
s7 P a0 a1 a2 a3 a4 a5 a6 p0 p1 p2 p3 p4 p5 p6 r = split P a0 p0 (s6 (λ n. same_name n a0 ≡ false → P n) a1 a2 a3 a4 a5 a6 (λ h. p1) (λ h. p2) (λ h. p3) (λ h. p4) (λ h. p5) (λ h. p6) (λ n h1 h2 h3 h4 h5 h6 h0. r n h0 h1 h2 h3 h4 h5 h6))

pub n7 : {f g : Name → Tree} (a0 a1 a2 a3 a4 a5 a6 : Name) → f a0 ≡ g a0 → f a1 ≡ g a1 → f a2 ≡ g a2 → f a3 ≡ g a3 → f a4 ≡ g a4 → f a5 ≡ g a5 → f a6 ≡ g a6 → ((n : Name) → same_name n a0 ≡ false → same_name n a1 ≡ false → same_name n a2 ≡ false → same_name n a3 ≡ false → same_name n a4 ≡ false → same_name n a5 ≡ false → same_name n a6 ≡ false → f n ≡ g n) → f ≡ g
n7 {f} {g} a0 a1 a2 a3 a4 a5 a6 p0 p1 p2 p3 p4 p5 p6 r = fun_ext (s7 (λ n. f n ≡ g n) a0 a1 a2 a3 a4 a5 a6 p0 p1 p2 p3 p4 p5 p6 r)

pub s8 : (P : Name → Type 0) (a0 a1 a2 a3 a4 a5 a6 a7 : Name) → P a0 → P a1 → P a2 → P a3 → P a4 → P a5 → P a6 → P a7 → ((n : Name) → same_name n a0 ≡ false → same_name n a1 ≡ false → same_name n a2 ≡ false → same_name n a3 ≡ false → same_name n a4 ≡ false → same_name n a5 ≡ false → same_name n a6 ≡ false → same_name n a7 ≡ false → P n) → (n : Name) → P n
s8 P a0 a1 a2 a3 a4 a5 a6 a7 p0 p1 p2 p3 p4 p5 p6 p7 r = split P a0 p0 (s7 (λ n. same_name n a0 ≡ false → P n) a1 a2 a3 a4 a5 a6 a7 (λ h. p1) (λ h. p2) (λ h. p3) (λ h. p4) (λ h. p5) (λ h. p6) (λ h. p7) (λ n h1 h2 h3 h4 h5 h6 h7 h0. r n h0 h1 h2 h3 h4 h5 h6 h7))

pub n8 : {f g : Name → Tree} (a0 a1 a2 a3 a4 a5 a6 a7 : Name) → f a0 ≡ g a0 → f a1 ≡ g a1 → f a2 ≡ g a2 → f a3 ≡ g a3 → f a4 ≡ g a4 → f a5 ≡ g a5 → f a6 ≡ g a6 → f a7 ≡ g a7 → ((n : Name) → same_name n a0 ≡ false → same_name n a1 ≡ false → same_name n a2 ≡ false → same_name n a3 ≡ false → same_name n a4 ≡ false → same_name n a5 ≡ false → same_name n a6 ≡ false → same_name n a7 ≡ false → f n ≡ g n) → f ≡ g
n8 {f} {g} a0 a1 a2 a3 a4 a5 a6 a7 p0 p1 p2 p3 p4 p5 p6 p7 r = fun_ext (s8 (λ n. f n ≡ g n) a0 a1 a2 a3 a4 a5 a6 a7 p0 p1 p2 p3 p4 p5 p6 p7 r)
