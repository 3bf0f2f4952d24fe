use Rattle.std.proofs.Common.{ap, ◌∙◌, arith}
use Rattle.std.proofs.lemmas.List.{take_all}
use Rattle.wac_merge_classes.specs.terms.Merge.{import_entries}
use Rattle.wac_encode_imports.proofs.Given.{entries-more}
use Rattle.wac_encode_imports.proofs.classes.entries_of.Goals as goal

pub loop-i-init : goal.loop-i-init
loop-i-init c = c.new-entries.ensures.items

pub loop-i-preserved : goal.loop-i-preserved
loop-i-preserved c =
    entries-more c.args.imports.now c.loop-i.i (c.entry_at.result.0.now, c.entry_at.result.1.now) c.in_ok-entry.entry c.loop-i.entries.items c.push.new.self.items
    c.entry_at.ensures c.in_ok-entry.ensures c.in_ok-push.ensures.items c.loop-i.invariant

pub returns : goal.returns
returns c =
    let past = c.loop-i-test.false in
    let counted = c.len-i-end.ensures in
    c.loop-i.invariant ∙ ap import_entries (take_all c.loop-i.i c.args.imports.now (omega (arith, past, counted)))
