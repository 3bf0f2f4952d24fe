-- The input of the hash of a key. Only contracts inside the merge cite this file.
use Rattle.std.proofs.Common.{◌≡◌, ◌++◌, ◌&&◌, Bool, true, [], Option, Some, None, nat_eq, flat_map, ap, refl}
use Rattle.std.proofs.lemmas.Bool.{eqb-true}
use Rattle.std.specs.Option.{option_eq}
use Rattle.std.specs.Cmp.Lexicographic.{pointwise}
use Rattle.std.specs.Hash as fed
use Rattle.std.specs.Cmp.{first_so, second_so}
use Rattle.std.specs.Hash.{HashWrites}
use Rattle.wac_types_shapes.specs.contracts.shapes.component.ValueTypePartialEq.TheImpl as ValueEq
use Rattle.wac_types_shapes.specs.declared.shapes.component.DefinedTypeId.{DefinedTypeId}
use Rattle.wac_merge_tables.specs.private.made.ShapeHash.{optional_alike, optional_writes, shape_alike, shape_writes, value_writes, values_alike}
use Rattle.wac_merge_tables.specs.contracts.made.made.FormPartialEq.TheImpl as FormEq
use Rattle.wac_merge_tables.specs.contracts.made.made.FuncFormPartialEq.TheImpl as FuncFormEq
use Rattle.wac_merge_tables.specs.contracts.made.shapes.ShapePartialEq.TheImpl as ShapeEq
use Rattle.wac_merge_tables.specs.declared.made.made.Form.{Form}
use Rattle.wac_merge_tables.specs.declared.made.made.FuncForm.{FuncForm}

-- A named type, if there is one.
abbrev pub named_writes : Option DefinedTypeId → HashWrites
named_writes None = []
named_writes (Some d) = fed.usize d.0

-- The key of a definition.
abbrev pub form_writes : Form → HashWrites
form_writes f = named_writes f.named ++ shape_writes f.shape

-- The key of a function type.
abbrev pub func_form_writes : FuncForm → HashWrites
func_form_writes k = fed.usize k.func.0 ++ flat_map value_writes k.params.items ++ optional_writes k.result

-- ---- Equal keys have the same input.
abbrev id_eq : DefinedTypeId → DefinedTypeId → Bool
id_eq a b = nat_eq a.0 b.0

named_alike : (a b : Option DefinedTypeId) → option_eq id_eq a b ≡ true → named_writes a ≡ named_writes b
named_alike None None e = refl
named_alike None (Some b) e = cc e
named_alike (Some a) None e = cc e
named_alike (Some a) (Some b) e = ap fed.usize (eqb-true a.0 b.0 e)

pub form_alike : (a b : Form) → (FormEq.ghosts).eq a b ≡ true → form_writes a ≡ form_writes b
form_alike a b e =
    let p = named_alike a.named b.named (first_so (option_eq id_eq a.named b.named) ((ShapeEq.ghosts).eq a.shape b.shape) e) in
    let q = shape_alike a.shape b.shape (second_so (option_eq id_eq a.named b.named) ((ShapeEq.ghosts).eq a.shape b.shape) e) in
    λ i. p i ++ q i

pub func_form_alike : (a b : FuncForm) → (FuncFormEq.ghosts).eq a b ≡ true → func_form_writes a ≡ func_form_writes b
func_form_alike a b e =
    let rest = second_so (nat_eq a.func.0 b.func.0) (pointwise (ValueEq.ghosts).eq a.params.items b.params.items && option_eq (ValueEq.ghosts).eq a.result b.result) e in
    let p = ap fed.usize (eqb-true a.func.0 b.func.0 (first_so (nat_eq a.func.0 b.func.0) (pointwise (ValueEq.ghosts).eq a.params.items b.params.items && option_eq (ValueEq.ghosts).eq a.result b.result) e)) in
    let q = values_alike a.params.items b.params.items (first_so (pointwise (ValueEq.ghosts).eq a.params.items b.params.items) (option_eq (ValueEq.ghosts).eq a.result b.result) rest) in
    let r = optional_alike a.result b.result (second_so (pointwise (ValueEq.ghosts).eq a.params.items b.params.items) (option_eq (ValueEq.ghosts).eq a.result b.result) rest) in
    λ i. p i ++ (q i ++ r i)
