-- A type or a resource type, by its first byte.
use Rattle.std.proofs.Common.{◌≡◌, ℕ, List, Bool, true, false, cond, eqb, Ok, refl, ap, ◌∙◌}
use Rattle.wac_component.specs.declared.fault.TextFault.TheVariants.{UnknownByte}
use Rattle.wac_binary.specs.Items.{TypeDef}
use Rattle.wac_component.specs.Parts.{Part, type_part, resource_part, ResourceDef}
use Rattle.wac_component.specs.Reader.{Reader, done, fails, after, made, byte, chosen, rows}
use Rattle.wac_component.specs.Types.{type_defs, type_at}
use Rattle.wac_component.specs.Reading.{resource_defs, defined_at}
use Rattle.wac_reader_parts.specs.declared.fault.ReadFault.{ReadFault}
use Rattle.wac_reader_parts.specs.declared.fault.ReadFault.TheVariants as errors
use Rattle.wac_reader_parts.specs.private.Gives.{Fails}
use Rattle.wac_reader_parts.specs.private.Tables.{is_resource}
use Rattle.wac_reader_parts.proofs.Passed.{fails_after}
use Rattle.wac_reader_parts.proofs.Rows.{chosen_made}

first : {A : Type 0} (p q : Bool) (x y r s : A) → cond p true (cond q true false) ≡ true → cond p x (cond q y r) ≡ cond p x (cond q y s)
first true q x y r s h = refl
first false true x y r s h = refl
first false false x y r s h = absurd cc

later : {A : Type 0} (p q : Bool) (x y r : A) → cond p true (cond q true false) ≡ false → cond p x (cond q y r) ≡ r
later true q x y r h = absurd cc
later false true x y r h = absurd cc
later false false x y r h = refl

pub defined_resource : (depth : ℕ) (bytes rest : List ℕ) (b : ℕ) → byte bytes ≡ Ok (b, rest) → is_resource b ≡ true → defined_at depth bytes ≡ made resource_part (chosen (fails UnknownByte) resource_defs b) rest
unfolding defined_at is_resource
defined_resource depth bytes rest b h r =
    rw h (ap (λ (f : Reader Part). f rest) (first (eqb b 0x3f) (eqb b 0x3e) _ _ (chosen (fails UnknownByte) (rows (made type_part) (type_defs (type_at depth))) b) (fails UnknownByte) r) ∙ chosen_made resource_part UnknownByte resource_defs b rest)

pub defined_type : (depth : ℕ) (bytes rest : List ℕ) (b : ℕ) → byte bytes ≡ Ok (b, rest) → is_resource b ≡ false → defined_at depth bytes ≡ made type_part (chosen (fails UnknownByte) (type_defs (type_at depth)) b) rest
unfolding defined_at is_resource
defined_type depth bytes rest b h r =
    rw h (ap (λ (f : Reader Part). f rest) (later (eqb b 0x3f) (eqb b 0x3e) _ _ (chosen (fails UnknownByte) (rows (made type_part) (type_defs (type_at depth))) b) r) ∙ chosen_made type_part UnknownByte (type_defs (type_at depth)) b rest)

pub defined_short : (e : ReadFault) (depth : ℕ) (bytes : List ℕ) → Fails e (byte bytes) → Fails e (defined_at depth bytes)
unfolding defined_at
defined_short e depth bytes h = fails_after e (byte bytes) _ h

pub resource_fails : (e : ReadFault) (depth : ℕ) (bytes rest : List ℕ) (b : ℕ) → byte bytes ≡ Ok (b, rest) → is_resource b ≡ true → Fails e (chosen (fails UnknownByte) resource_defs b rest) → Fails e (defined_at depth bytes)
resource_fails errors.Memory depth bytes rest b h r f = tt
resource_fails (errors.Text g left) depth bytes rest b h r f = defined_resource depth bytes rest b h r ∙ ap (after (λ (x : ResourceDef). done (resource_part x))) f

pub resource_read : (depth : ℕ) (bytes rest : List ℕ) (b : ℕ) (x : ResourceDef) (last : List ℕ) → byte bytes ≡ Ok (b, rest) → is_resource b ≡ true → chosen (fails UnknownByte) resource_defs b rest ≡ Ok (x, last) → defined_at depth bytes ≡ Ok (resource_part x, last)
resource_read depth bytes rest b x last h r f = defined_resource depth bytes rest b h r ∙ ap (after (λ (y : ResourceDef). done (resource_part y))) f

pub type_fails : (e : ReadFault) (depth : ℕ) (bytes rest : List ℕ) (b : ℕ) → byte bytes ≡ Ok (b, rest) → is_resource b ≡ false → Fails e (chosen (fails UnknownByte) (type_defs (type_at depth)) b rest) → Fails e (defined_at depth bytes)
type_fails errors.Memory depth bytes rest b h r f = tt
type_fails (errors.Text g left) depth bytes rest b h r f = defined_type depth bytes rest b h r ∙ ap (after (λ (x : TypeDef). done (type_part x))) f

pub type_read : (depth : ℕ) (bytes rest : List ℕ) (b : ℕ) (x : TypeDef) (last : List ℕ) → byte bytes ≡ Ok (b, rest) → is_resource b ≡ false → chosen (fails UnknownByte) (type_defs (type_at depth)) b rest ≡ Ok (x, last) → defined_at depth bytes ≡ Ok (type_part x, last)
type_read depth bytes rest b x last h r f = defined_type depth bytes rest b h r ∙ ap (after (λ (y : TypeDef). done (type_part y))) f
