-- The operands of canonical built-ins.
use Rattle.std.specs.Prelude.{ℕ, List, [], ◌∷◌, Option, Some, None, eqb, if◌then◌else◌}
use Rattle.std.specs.Borrow.{Bor}
use Rattle.wac_component.specs.declared.fault.TextFault.TheVariants.{Unsupported}
use Rattle.wac_component.specs.declared.fault.Feature.TheVariants.{CanonicalFunction}
use Rattle.wac_component.specs.Parts.{Operand, Canon, builtin as builtin_canon}
use Rattle.wac_component.specs.Reader.{Reader, fails, made, chosen, rows, each_at}
use Rattle.wac_component.specs.Canons.{builtins, type_index, core_type_index, table_index, memory_index, flag, result, slot, options}
use Rattle.wac_reader_parts.specs.declared.canons.OperandKind.{OperandKind}
use Rattle.wac_reader_parts.specs.declared.canons.OperandKind.TheVariants as k

-- How an operand of a kind is read.
abbrev pub reader_of : OperandKind → Reader Operand
reader_of k.«Type» = type_index
reader_of k.CoreType = core_type_index
reader_of k.Table = table_index
reader_of k.Memory = memory_index
reader_of k.Flag = flag
reader_of k.Result = result
reader_of k.Slot = slot
reader_of k.Options = options

-- The operands of an opcode in a table of the program.
abbrev pub kinds_in : List (ℕ × Bor (List OperandKind)) → (opcode : ℕ) → Option (List OperandKind)
kinds_in [] opcode = None
kinds_in (row ∷ table) opcode = if eqb opcode row.0 then Some row.1.now else kinds_in table opcode

-- The operands of a built-in, if its opcode is in the table.
unfoldable pub listed : (opcode : ℕ) → Option (List (Reader Operand))
listed opcode = chosen None (rows Some builtins) opcode

-- A built-in after its opcode.
unfoldable pub builtin_at : (opcode : ℕ) → Reader Canon
builtin_at opcode = chosen (fails (Unsupported CanonicalFunction)) (rows (λ operands. made (builtin_canon opcode) (each_at operands)) builtins) opcode
