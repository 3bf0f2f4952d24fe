use Rattle.std.proofs.Common.{◌≡◌, ◌-◌, ◌+◌, ◌*◌, map}
use Rattle.wac_component.specs.Reader.{all_at}
use Rattle.wac_component.specs.Numbers.{vector_at}
use Rattle.wac_component.specs.Types.{type_at}
use Rattle.wac_component.specs.Views.{type_of, decl_of}
use Rattle.wac_reader_parts.specs.private.Tables.{decl_at}
use Rattle.wac_reader_parts.specs.private.Fronts.{behind}
use Rattle.wac_reader_parts.proofs.declarations.+types.Given as goal

abbrev pub decreases-inner_type : goal.decreases-inner_type
decreases-inner_type l = 4 * l.depth

abbrev pub decreases-type_def : goal.decreases-type_def
decreases-type_def l = 4 * l.depth + 3

abbrev pub decreases-decls : goal.decreases-decls
decreases-decls l = 4 * l.depth + 2

abbrev pub decreases-decl : goal.decreases-decl
decreases-decl l = 4 * l.depth + 1

abbrev pub invariant-decls-loop : goal.invariant-decls-loop
invariant-decls-loop l = behind (map (decl_of type_of) l.decls.items) (all_at (decl_at l.in_component (type_at l.depth)) (l.count - l.counter) l.rest) ≡ vector_at (decl_at l.in_component (type_at l.depth)) l.bytes
