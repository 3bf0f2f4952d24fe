use Rattle.std.proofs.Common.{◌≡◌, false, codes, rules}
use Rattle.std.proofs.lemmas.Result.{err_from_is_err_and}
use Rattle.wac_names.specs.Text.{begins, has}
use Rattle.wac_names.specs.Reading.{read_marked}
use Rattle.wac_names.proofs.MemoryFacts.{has_behind}
use Rattle.wac_names.proofs.reading.marked.Goals as goal

pub returns-in_err-unlocked-clause-memory : goal.returns-in_err-unlocked-clause-memory
returns-in_err-unlocked-clause-memory c = λ h.
    let p = err_from_is_err_and c.from_residual.result c.from_residual.ensures.1 in
    let part : has 64 c.in-Some.rest.now ≡ false = rw c.in-Some.ensures.1 (has_behind 64 (codes "unlocked-dep=<") c.args.text.now h) in
    rw (p.1, p.2) (c.in_err-unlocked.ensures.memory part)

pub returns-in_err-locked-clause-value : goal.returns-in_err-locked-clause-value
unfolding read_marked begins
returns-in_err-locked-clause-value c = search rules

pub returns-in_err-locked-clause-memory : goal.returns-in_err-locked-clause-memory
returns-in_err-locked-clause-memory c = λ h.
    let p = err_from_is_err_and c.from_residual-in_err-locked.result c.from_residual-in_err-locked.ensures.1 in
    let part : has 64 c.in-Some-strip.rest.now ≡ false = rw c.in-Some-strip.ensures.1 (has_behind 64 (codes "locked-dep=<") c.args.text.now h) in
    rw (p.1, p.2) (c.in_err-locked.ensures.memory part)

pub returns-in-Some-strip-clause-value : goal.returns-in-Some-strip-clause-value
unfolding read_marked begins
returns-in-Some-strip-clause-value c = search rules

pub returns-clause-value : goal.returns-clause-value
unfolding read_marked begins
returns-clause-value c = search rules

pub returns-in_err-locked-clause-plain : goal.returns-in_err-locked-clause-plain
unfolding read_marked begins
returns-in_err-locked-clause-plain c = search rules

pub returns-clause-plain : goal.returns-clause-plain
unfolding read_marked begins
returns-clause-plain c = search rules
