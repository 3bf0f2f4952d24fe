-- The operands of a built-in, by its opcode.
use Rattle.std.proofs.Common.{◌≡◌, ℕ, ◌≤◌, List, [], ◌∷◌, Bool, true, false, Option, Some, None, Result, Ok, eqb, if◌then◌else◌, unwrap_or, refl, ap, subst, sym, arith}
use Rattle.std.proofs.lemmas.Bool.{ne_eqb}
use Rattle.wac_component.specs.declared.fault.TextFault.TheVariants.{Unsupported}
use Rattle.wac_component.specs.declared.fault.Feature.TheVariants.{CanonicalFunction}
use Rattle.wac_component.specs.Parts.{Operand, Canon, builtin as builtin_canon}
use Rattle.wac_component.specs.Reader.{Reader, byte, fails, made, chosen, rows, each_at}
use Rattle.wac_component.specs.Canons.{builtins, canon_at}
use Rattle.wac_reader_parts.specs.declared.fault.ReadFault.{ReadFault}
use Rattle.wac_reader_parts.specs.declared.fault.ReadFault.TheVariants as errors
use Rattle.wac_reader_parts.specs.private.Gives.{Fails, Gives}
use Rattle.wac_reader_parts.proofs.Passed.{fails_after}
use Rattle.wac_reader_parts.specs.private.Canons.{listed, builtin_at}

found_here : {X Y : Type 0} (g : X → Y) (here : Bool) (x y : X) (r : Option X) (s : Y) → (if here then Some x else r) ≡ Some y → (r ≡ Some y → s ≡ g y) → (if here then g x else s) ≡ g y
found_here g true x y r s h later = ap (λ (o : Option _). g (unwrap_or o y)) h
found_here g false x y r s h later = later h

-- What is found in a table is found in the table of what a function makes of its entries.
pub found_in_rows : {X Y : Type 0} (other : Y) (g : X → Y) (table : List (ℕ × X)) (b : ℕ) (y : X) → chosen None (rows Some table) b ≡ Some y → chosen other (rows g table) b ≡ g y
found_in_rows other g [] b y h = cc
found_in_rows other g (row ∷ table) b y h = found_here g (eqb b row.0) row.1 y (chosen None (rows Some table) b) (chosen other (rows g table) b) h (found_in_rows other g table b y)

lost_here : {X Y : Type 0} (g : X → Y) (here : Bool) (x : X) (r : Option X) (s other : Y) → (if here then Some x else r) ≡ None → (r ≡ None → s ≡ other) → (if here then g x else s) ≡ other
lost_here g true x r s other h later = cc
lost_here g false x r s other h later = later h

pub lost_in_rows : {X Y : Type 0} (other : Y) (g : X → Y) (table : List (ℕ × X)) (b : ℕ) → chosen None (rows Some table) b ≡ None → chosen other (rows g table) b ≡ other
lost_in_rows other g [] b h = refl
lost_in_rows other g (row ∷ table) b h = lost_here g (eqb b row.0) row.1 (chosen None (rows Some table) b) (chosen other (rows g table) b) other h (lost_in_rows other g table b)

pub builtin_lost : (e : ReadFault) (left opcode : ℕ) (bytes : List ℕ) → e ≡ errors.Text (Unsupported CanonicalFunction) left → None ≡ listed opcode → Fails e (builtin_at opcode bytes)
unfolding listed builtin_at
builtin_lost e left opcode bytes is h = rw (is, lost_in_rows (fails (Unsupported CanonicalFunction)) (λ (rs : List (Reader Operand)). made (builtin_canon opcode) (each_at rs)) builtins opcode (sym h)) refl

builtin_listed : (opcode : ℕ) (operands : List (Reader Operand)) → Some operands ≡ listed opcode → builtin_at opcode ≡ made (builtin_canon opcode) (each_at operands)
unfolding listed builtin_at
builtin_listed opcode operands h = found_in_rows (fails (Unsupported CanonicalFunction)) (λ (rs : List (Reader Operand)). made (builtin_canon opcode) (each_at rs)) builtins opcode operands (sym h)

pub builtin_fails : (e : ReadFault) (opcode : ℕ) (operands : List (Reader Operand)) (bytes : List ℕ) → Some operands ≡ listed opcode → Fails e (each_at operands bytes) → Fails e (builtin_at opcode bytes)
builtin_fails e opcode operands bytes h fault = rw (builtin_listed opcode operands h) (fails_after e (each_at operands bytes) _ fault)

pub builtin_found : (opcode : ℕ) (operands : List (Reader Operand)) (bytes : List ℕ) (xs : List Operand) (rest : List ℕ) → Some operands ≡ listed opcode → each_at operands bytes ≡ Ok (xs, rest) → builtin_at opcode bytes ≡ Ok (builtin_canon opcode xs, rest)
builtin_found opcode operands bytes xs rest h found = rw (builtin_listed opcode operands h, found) refl

builtin_is : (bytes : List ℕ) (opcode : ℕ) (rest : List ℕ) → byte bytes ≡ Ok (opcode, rest) → eqb opcode 0 ≡ false → eqb opcode 1 ≡ false → builtin_at opcode rest ≡ canon_at bytes
unfolding canon_at builtin_at
builtin_is bytes opcode rest found first second = rw (found, first, second) refl

pub gives_builtin : {X : Type 0} (view : X → Canon × List ℕ) (r : Result X ReadFault) (bytes : List ℕ) (opcode : ℕ) (rest : List ℕ) → byte bytes ≡ Ok (opcode, rest) → 2 ≤ opcode → Gives view r (builtin_at opcode rest) → Gives view r (canon_at bytes)
gives_builtin view r bytes opcode rest found above h = subst (Gives view r) (builtin_is bytes opcode rest found (ne_eqb opcode 0 (λ e. absurd (omega (arith, e, above)))) (ne_eqb opcode 1 (λ e. absurd (omega (arith, e, above))))) h
