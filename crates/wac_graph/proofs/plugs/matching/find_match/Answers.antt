use Rattle.std.proofs.Common.{Err, ap, ◌∙◌}
use Rattle.std.proofs.lemmas.Option.{slice_get_within}
use Rattle.wac_graph.proofs.lemmas.plugs.Pairs.{is-match}
use Rattle.wac_graph.proofs.lemmas.plugs.Targets.{no-match, target-of}
use Rattle.wac_graph.proofs.lemmas.plugs.Worlds.{one-held}
use Rattle.wac_graph.proofs.plugs.matching.find_match.Goals as goal

pub is_subtype-requires-clause-second : goal.is_subtype-requires-clause-second
is_subtype-requires-clause-second c = one-held c.args.types.now c.args.imports.now c.in-Some.position (c.entry_at.result.0.now, c.entry_at.result.1.now) c.requires.imports c.entry_at.ensures

pub returns-in-Err-Mismatch-clause-found : goal.returns-in-Err-Mismatch-clause-found
returns-in-Err-Mismatch-clause-found c =
    no-match c.args.types.now c.args.imports.now c.args.name.now c.args.kind (c.entry_at.result.0.now, c.entry_at.result.1.now)
    (target-of c.args.imports.now c.args.name.now c.in_ok-position.field-0 c.in-Some.position (c.entry_at.result.0.now, c.entry_at.result.1.now) c.in_ok-position.ensures.target c.in-Some.is c.entry_at.ensures)
    (c.is_subtype.ensures.mismatch (c.in-Err-Mismatch.is ∙ ap Err c.in-Err-Mismatch.field-0-is))

pub returns-in-Ok-clause-found : goal.returns-in-Ok-clause-found
returns-in-Ok-clause-found c =
    is-match c.args.types.now c.args.imports.now c.args.name.now c.args.kind c.in-Some.position (c.entry_at.result.0.now, c.entry_at.result.1.now) c.entry_at.ensures
    (target-of c.args.imports.now c.args.name.now c.in_ok-position.field-0 c.in-Some.position (c.entry_at.result.0.now, c.entry_at.result.1.now) c.in_ok-position.ensures.target c.in-Some.is c.entry_at.ensures)
    c.in-Ok.ensures.subtype

pub returns-in-Ok-clause-within : goal.returns-in-Ok-clause-within
returns-in-Ok-clause-within c = slice_get_within c.args.imports.now c.in-Some.position (c.entry_at.result.0.now, c.entry_at.result.1.now) c.entry_at.ensures
