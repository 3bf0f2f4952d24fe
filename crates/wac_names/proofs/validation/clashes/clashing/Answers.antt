-- The first of two positions is tried first.
use Rattle.std.proofs.Common.{◌≡◌, ℕ, Some}
use Rattle.std.proofs.lemmas.Bool.{both_ways}
use Rattle.wac_names.specs.Clash.{Clash}
use Rattle.wac_names.specs.NameView.{text_of}
use Rattle.wac_names.specs.validation.Valid.{at}
use Rattle.wac_names.specs.private.validation.Views.{name_texts}
use Rattle.wac_names.proofs.lemmas.validation.EarlierFacts.{first_least, full_first, full_second, second_least}
use Rattle.wac_names.proofs.validation.clashes.clashing.Goals as goal

pub clashes_at-requires : goal.clashes_at-requires
clashes_at-requires c = c.requires.within c.in-Some.field-0.first (full_first c.args.alike c.in-Some.field-0 c.in-Some.is)

pub returns-then-clashes_at : goal.returns-then-clashes_at
returns-then-clashes_at c = (
  full_first c.args.alike c.in-Some.field-0 c.in-Some.is,
  c.clashes_at.ensures.0 c.if-clashes_at.true,
  λ i p h. absurd (first_least c.args.alike c.in-Some.field-0 i c.in-Some.is c.requires.ordered p h),
)

pub clashes_at-requires-2 : goal.clashes_at-requires-2
clashes_at-requires-2 c =
    let e : c.in-Some.field-0.second ≡ Some c.in-Some-second.second = cc in
    c.requires.within c.in-Some-second.second (full_second c.args.alike c.in-Some.field-0 c.in-Some-second.second c.in-Some.is e)

pub returns-then-clashes_at-2 : goal.returns-then-clashes_at-2
returns-then-clashes_at-2 c =
    let e : c.in-Some.field-0.second ≡ Some c.in-Some-second.second = cc in (
      full_second c.args.alike c.in-Some.field-0 c.in-Some-second.second c.in-Some.is e,
      c.clashes_at-2.ensures.0 c.if-clashes_at-2.true,
      λ i p h. second_least c.args.alike c.in-Some.field-0 c.in-Some-second.second i (λ (j : ℕ). Clash (at (name_texts c.args.names.now) j) (text_of c.args.name.now)) c.in-Some.is e
          (λ w. both_ways c.clashes_at.result c.if-clashes_at.false (c.clashes_at.ensures.1 w)) p h,
    )
