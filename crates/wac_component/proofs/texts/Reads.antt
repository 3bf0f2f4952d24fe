-- Texts that are read as what they were written for, whatever follows them, and how readers are put together.
use Rattle.std.proofs.Common.{◌≡◌, ℕ, zero, suc, ◌^◌, ◌<◌, ◌≤◌, true, false, cond, eqb, List, [], ◌∷◌, ◌++◌, map, length, Ok, refl, ap, sym, subst, ◌∙◌, arith, append_assoc, length-append, map-id}
use Rattle.std.specs.List.{flat_map, AllByRecursion}
use Rattle.std.specs.Str.{is_utf8}
use Rattle.std.proofs.Math.Seq.{take-append_seam, drop-append_seam}
use Rattle.wac_component.specs.declared.fault.TextFault.TheVariants.{UnknownByte}
use Rattle.wac_binary.specs.Leb.{leb, unsigned}
use Rattle.wac_binary.specs.Bytes.{text, vector}
use Rattle.wac_component.specs.Reader.{Reader, done, fails, ◌>>=◌, made, made2, made3, chosen, rows, all_at}
use Rattle.wac_component.specs.Numbers.{number_at, number64_at, sized_at, name_at, extern_name_at, vector_at}
use Rattle.wac_binary.specs.private.LebLaws.{leb_first}
use Rattle.wac_component.proofs.Laws.{number_again, number64_again, bytes_there}

-- A text of less than 2 ^ 32 bytes is read as the value, whatever follows it.
pub record Reads {A : Type 0} (r : Reader A) (bytes : List ℕ) (x : A) : Type 0 where
  pub again : length bytes < 2 ^ 32 → (rest : List ℕ) → r (bytes ++ rest) ≡ Ok (x, rest)

pub reads_as : {A : Type 0} {r : Reader A} {t : List ℕ} (x y : A) → Reads r t x → y ≡ x → Reads r t y
reads_as {r = r} {t = t} x y h e = subst (λ z. Reads r t z) (sym e) h

pub reads_moved : {A : Type 0} {r : Reader A} {x : A} (t u : List ℕ) → Reads r t x → u ≡ t → Reads r u x
reads_moved {r = r} {x = x} t u h e = subst (λ (l : List ℕ). Reads r l x) (sym e) h

pub reads_done : {A : Type 0} (x : A) → Reads (done x) [] x
reads_done x = record { again = λ short rest. refl }

-- One reader after the other.
pub reads_then : {A B : Type 0} {r : Reader A} (f : A → Reader B) {t u : List ℕ} {x : A} {y : B} → Reads r t x → Reads (f x) u y → Reads (r >>= f) (t ++ u) y
reads_then {r = r} f {t = t} {u = u} {x = x} {y = y} h g = record {
  again = λ short rest.
      let first = h.again (omega (arith, length-append t u)) (u ++ rest) in
      let second = g.again (omega (arith, length-append t u)) rest in
      rw (append_assoc t u rest, first) second;
}

pub reads_made : {A B : Type 0} (f : A → B) {r : Reader A} {t : List ℕ} {x : A} → Reads r t x → Reads (made f r) t (f x)
reads_made f h = record { again = λ short rest. rw (h.again short rest) refl }

pub reads_made2 : {A B C : Type 0} (f : A → B → C) {r : Reader A} {s : Reader B} {t u : List ℕ} {x : A} {y : B} → Reads r t x → Reads s u y → Reads (made2 f r s) (t ++ u) (f x y)
reads_made2 f {s = s} {x = x} h g = reads_then (λ z. made (f z) s) h (reads_made (f x) g)

pub reads_made3 : {A B C D : Type 0} (f : A → B → C → D) {r : Reader A} {s : Reader B} {q : Reader C} {t u v : List ℕ} {x : A} {y : B} {z : C} → Reads r t x → Reads s u y → Reads q v z → Reads (made3 f r s q) (t ++ u ++ v) (f x y z)
reads_made3 f {s = s} {q = q} {t = t} {u = u} {v = v} {x = x} h g k = reads_moved (t ++ (u ++ v)) (t ++ u ++ v) (reads_then (λ w. made2 (f w) s q) h (reads_made2 (f x) g k)) (append_assoc t u v)

-- The first byte, and the first two, choose the production.
pub reads_byte : {A : Type 0} {r s : Reader A} (b : ℕ) {t : List ℕ} {x : A} → Reads s t x → ((bytes : List ℕ) → r (b ∷ bytes) ≡ s bytes) → Reads r (b ∷ t) x
reads_byte b {t = t} h e = record { again = λ short rest. e (t ++ rest) ∙ h.again (omega arith) rest }

pub reads_bytes : {A : Type 0} {r s : Reader A} (b c : ℕ) {t : List ℕ} {x : A} → Reads s t x → ((bytes : List ℕ) → r (b ∷ c ∷ bytes) ≡ s bytes) → Reads r (b ∷ c ∷ t) x
reads_bytes b c {t = t} h e = record { again = λ short rest. e (t ++ rest) ∙ h.again (omega arith) rest }

-- A production of a table whose entries are made into others.
pub chosen_rows : {A B : Type 0} (f : A → B) (table : List (ℕ × Reader A)) (b : ℕ) (bytes : List ℕ) → chosen (fails UnknownByte) (rows (made f) table) b bytes ≡ made f (chosen (fails UnknownByte) table b) bytes
chosen_rows f [] b bytes = refl
chosen_rows f (row ∷ table) b bytes =
    elim (eqb b row.0) as (λ c. cond c (made f row.1) (chosen (fails UnknownByte) (rows (made f) table) b) bytes ≡ made f (cond c row.1 (chosen (fails UnknownByte) table b)) bytes) [
      | true ↦ refl
      | false ↦ chosen_rows f table b bytes
    ]

-- Numbers and names.

pub reads_number : (n : ℕ) → n < 2 ^ 32 → Reads number_at (unsigned n) n
reads_number n h = record { again = λ short rest. number_again n rest h }

pub reads_number64 : (n : ℕ) → n < 2 ^ 64 → Reads number64_at (unsigned n) n
reads_number64 n h = record { again = λ short rest. number64_again n rest h }

pub sized_again : (t rest : List ℕ) → length t < 2 ^ 32 → sized_at (text t ++ rest) ≡ Ok (t, rest)
unfolding sized_at
sized_again t rest h =
    let front = number_again (length t) (t ++ rest) h in
    let there = bytes_there (length t) (t ++ rest) (omega (arith, length-append t rest)) in
    rw (append_assoc (unsigned (length t)) t rest, front, there, take-append_seam t rest, drop-append_seam t rest) refl

pub name_again : (t rest : List ℕ) → length t < 2 ^ 32 → is_utf8 t ≡ true → name_at (text t ++ rest) ≡ Ok (t, rest)
unfolding name_at
name_again t rest h utf8 = rw (sized_again t rest h, utf8) refl

pub reads_name : (t : List ℕ) → is_utf8 t ≡ true → Reads name_at (text t) t
reads_name t utf8 = record { again = λ short rest. name_again t rest (omega (arith, length-append (unsigned (length t)) t)) utf8 }

pub reads_extern : (t : List ℕ) → is_utf8 t ≡ true → Reads extern_name_at (0 ∷ text t) t
unfolding extern_name_at
reads_extern t utf8 = record { again = λ short rest. name_again t rest (omega (arith, length-append (unsigned (length t)) t)) utf8 }

-- Vectors.

pub reads_none : {A : Type 0} (r : Reader A) → Reads (all_at r zero) [] []
unfolding all_at
reads_none r = record { again = λ short rest. refl }

pub reads_more : {A : Type 0} {r : Reader A} (n : ℕ) {t u : List ℕ} {x : A} {xs : List A} → Reads r t x → Reads (all_at r n) u xs → Reads (all_at r (suc n)) (t ++ u) (x ∷ xs)
unfolding all_at
reads_more {r = r} n {x = x} h g = reads_then (λ z. made (λ zs. z ∷ zs) (all_at r n)) h (reads_made (λ zs. x ∷ zs) g)

-- Each element is read as what v makes of it.
pub reads_all : {A B : Type 0} (r : Reader B) (f : A → List ℕ) (v : A → B) (P : A → Type 0) → ((x : A) → P x → Reads r (f x) (v x)) → (xs : List A) → AllByRecursion P xs → Reads (all_at r (length xs)) (flat_map f xs) (map v xs)
reads_all r f v P each [] h = reads_none r
reads_all r f v P each (x ∷ xs) h = reads_more (length xs) (each x h.0) (reads_all r f v P each xs h.1)

pub reads_vector : {A : Type 0} (r : Reader A) (n : ℕ) {t : List ℕ} {xs : List A} → n ≤ length t → Reads (all_at r n) t xs → Reads (vector_at r) (unsigned n ++ t) xs
unfolding vector_at
reads_vector r n {t = t} le h = record {
  again = λ short rest.
      let few : n < 2 ^ 32 = omega (arith, length-append (unsigned n) t) in
      (reads_then (λ k. all_at r k) (reads_number n few) h).again short rest;
}

-- Elements of a byte at least are no more than their bytes.
pub counted : {A : Type 0} (f : A → List ℕ) → ((x : A) → 0 < length (f x)) → (xs : List A) → length xs ≤ length (flat_map f xs)
counted f some [] = omega arith
counted f some (x ∷ xs) = omega (arith, length-append (f x) (flat_map f xs), some x, counted f some xs)

pub reads_list : {A : Type 0} (r : Reader A) (f : A → List ℕ) (P : A → Type 0) → ((x : A) → 0 < length (f x)) → ((x : A) → P x → Reads r (f x) x) → (xs : List A) → AllByRecursion P xs → Reads (vector_at r) (vector f xs) xs
reads_list r f P some each xs h = reads_vector r (length xs) (counted f some xs) (same (reads_all r f (λ x. x) P each xs h))
  where
    same : Reads (all_at r (length xs)) (flat_map f xs) (map (λ x. x) xs) → Reads (all_at r (length xs)) (flat_map f xs) xs
    same g = rw map-id at g

-- A number, and so a text, has a byte at least.
pub some_number : (limit n : ℕ) → 0 < limit → 0 < length (leb limit n)
some_number limit n h = let f = leb_first limit h n [] in omega (arith, ap length f.2.0, length-append (leb limit n) [])

pub some_text : (t : List ℕ) → 0 < length (text t)
some_text t = omega (arith, some_number 128 (length t) (omega arith), length-append (unsigned (length t)) t)
