use Rattle.std.proofs.Common.{[]}
use Rattle.wac_script.specs.labels.Things.{things_of}
use Rattle.wac_script.specs.labels.Items.{AddsListed}
use Rattle.wac_script.specs.private.Listed.{found_by}
use Rattle.wac_script.proofs.ListLemmas.{Reached}
use Rattle.wac_script.proofs.labels.things.Things.listed.Given as goal

abbrev pub invariant-loop-word : goal.invariant-loop-word
invariant-loop-word l = Reached (AddsListed (things_of l.self)) l.words l.word-index (record { uses = []; items = [] }) (found_by l.listed)
