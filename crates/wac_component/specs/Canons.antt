-- Canonical functions. The table of built-ins is the one place that lists them.
use Rattle.std.specs.Prelude.{ℕ, List, [], ◌∷◌}
use Rattle.wac_types_shapes.specs.declared.primitives.core_types.CoreType.TheVariants as c
use Rattle.wac_component.specs.declared.fault.TextFault.TheVariants.{Unsupported}
use Rattle.wac_component.specs.declared.fault.Feature.TheVariants.{CanonicalFunction}
use Rattle.wac_component.specs.Parts.{CanonOption, utf8, utf16, latin1_utf16, memory, realloc, post_return, async, callback, function_type_option, gc, Operand, type_operand, core_type_operand, table_operand, memory_operand, flag_operand, result_operand, slot_operand, options_operand, Canon, lift, lower, builtin}
use Rattle.wac_component.specs.Reader.{Reader, done, fails, ◌>>=◌, made, made2, made3, byte, chosen, one_of, one_in, rows, each_at}
use Rattle.wac_component.specs.Numbers.{number_at, vector_at, flag_at}
use Rattle.wac_component.specs.Types.{result_at}

-- `canonopt`
unfoldable pub option_at : Reader CanonOption
option_at = one_of (
    (0, done utf8)
    ∷ (1, done utf16)
    ∷ (2, done latin1_utf16)
    ∷ (3, made memory number_at)
    ∷ (4, made realloc number_at)
    ∷ (5, made post_return number_at)
    ∷ (6, done async)
    ∷ (7, made callback number_at)
    ∷ (8, made function_type_option number_at)
    ∷ (9, done gc)
    ∷ [])

-- `opts`
unfoldable pub options_at : Reader (List CanonOption)
options_at = vector_at option_at

-- Operands, by what they are.
abbrev pub type_index : Reader Operand
type_index = made type_operand number_at

abbrev pub core_type_index : Reader Operand
core_type_index = made core_type_operand number_at

abbrev pub table_index : Reader Operand
table_index = made table_operand number_at

abbrev pub memory_index : Reader Operand
memory_index = made memory_operand number_at

abbrev pub flag : Reader Operand
flag = made flag_operand flag_at

abbrev pub result : Reader Operand
result = made result_operand result_at

abbrev pub slot : Reader Operand
slot = made2 slot_operand (one_in ((0x7f, c.I32) ∷ (0x7e, c.I64) ∷ [])) number_at

abbrev pub options : Reader Operand
options = made options_operand options_at

-- The operands of each built-in.
abbrev pub builtins : List (ℕ × List (Reader Operand))
builtins =
    -- `resource.new`, `resource.drop`, `resource.rep`, `resource.drop async`
    (0x02, type_index ∷ [])
    ∷ (0x03, type_index ∷ [])
    ∷ (0x04, type_index ∷ [])
    ∷ (0x07, type_index ∷ [])
    -- `task.cancel`, `task.return`
    ∷ (0x05, [])
    ∷ (0x09, result ∷ options ∷ [])
    -- `subtask.cancel`, `subtask.drop`
    ∷ (0x06, flag ∷ [])
    ∷ (0x0d, [])
    -- `backpressure.set`, `backpressure.inc`, `backpressure.dec`
    ∷ (0x08, [])
    ∷ (0x24, [])
    ∷ (0x25, [])
    -- `context.get`, `context.set`
    ∷ (0x0a, slot ∷ [])
    ∷ (0x0b, slot ∷ [])
    -- `stream.new`, `stream.read`, `stream.write`, `stream.cancel-read`, `stream.cancel-write`, `stream.drop-readable`, `stream.drop-writable`
    ∷ (0x0e, type_index ∷ [])
    ∷ (0x0f, type_index ∷ options ∷ [])
    ∷ (0x10, type_index ∷ options ∷ [])
    ∷ (0x11, type_index ∷ flag ∷ [])
    ∷ (0x12, type_index ∷ flag ∷ [])
    ∷ (0x13, type_index ∷ [])
    ∷ (0x14, type_index ∷ [])
    -- `future.new`, `future.read`, `future.write`, `future.cancel-read`, `future.cancel-write`, `future.drop-readable`, `future.drop-writable`
    ∷ (0x15, type_index ∷ [])
    ∷ (0x16, type_index ∷ options ∷ [])
    ∷ (0x17, type_index ∷ options ∷ [])
    ∷ (0x18, type_index ∷ flag ∷ [])
    ∷ (0x19, type_index ∷ flag ∷ [])
    ∷ (0x1a, type_index ∷ [])
    ∷ (0x1b, type_index ∷ [])
    -- `error-context.new`, `error-context.debug-message`, `error-context.drop`
    ∷ (0x1c, options ∷ [])
    ∷ (0x1d, options ∷ [])
    ∷ (0x1e, [])
    -- `waitable-set.new`, `waitable-set.wait`, `waitable-set.poll`, `waitable-set.drop`, `waitable.join`
    ∷ (0x1f, [])
    ∷ (0x20, flag ∷ memory_index ∷ [])
    ∷ (0x21, flag ∷ memory_index ∷ [])
    ∷ (0x22, [])
    ∷ (0x23, [])
    -- `thread.yield`, `thread.index`, `thread.new-indirect`, `thread.switch-to`, `thread.suspend`, `thread.resume-later`, `thread.yield-to`
    ∷ (0x0c, flag ∷ [])
    ∷ (0x26, [])
    ∷ (0x27, core_type_index ∷ table_index ∷ [])
    ∷ (0x28, flag ∷ [])
    ∷ (0x29, flag ∷ [])
    ∷ (0x2a, [])
    ∷ (0x2b, flag ∷ [])
    -- `thread.spawn-ref`, `thread.spawn-indirect`, `thread.available-parallelism`
    ∷ (0x40, flag ∷ core_type_index ∷ [])
    ∷ (0x41, flag ∷ core_type_index ∷ table_index ∷ [])
    ∷ (0x42, flag ∷ [])
    ∷ []

-- `canon`
unfoldable pub canon_at : Reader Canon
canon_at = do
  opcode ← byte
  chosen (builtin_at opcode) ((0, one_of ((0, made3 lift number_at options_at number_at) ∷ [])) ∷ (1, one_of ((0, made2 lower number_at options_at) ∷ [])) ∷ []) opcode
  where
    builtin_at : ℕ → Reader Canon
    builtin_at opcode = chosen (fails (Unsupported CanonicalFunction)) (rows (λ operands. made (builtin opcode) (each_at operands)) builtins) opcode
