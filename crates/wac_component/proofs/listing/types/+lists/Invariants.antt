use Rattle.std.proofs.Common.{◌≡◌, ℕ, ◌+◌, ◌*◌}
use Rattle.wac_component.proofs.listing.types.+lists.Given as goal

abbrev pub decreases-put_type : goal.decreases-put_type
decreases-put_type g l = 3 * l.depth + 2

abbrev pub decreases-put_declarations : goal.decreases-put_declarations
decreases-put_declarations g l = 3 * l.depth + 1

abbrev pub decreases-put_declaration : goal.decreases-put_declaration
decreases-put_declaration g l = 3 * l.depth + 3
