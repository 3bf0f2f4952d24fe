use Rattle.std.proofs.Common.{◌≡◌, ℕ, List, sym, ap, ◌∙◌}
use Rattle.wac_names.specs.Kind.{Kind, constructor, label}
use Rattle.wac_names.specs.Views.{kind_view}
use Rattle.wac_names.proofs.clashes.is_its_constructor.Goals as goal

label-same : (k : Kind) (x y : List ℕ) → k ≡ label x → k ≡ label y → x ≡ y
label-same k x y e f = cc

constructor-same : (k : Kind) (x y : List ℕ) → k ≡ constructor x → k ≡ constructor y → x ≡ y
constructor-same k x y e f = cc

pub returns-in-Constructor : goal.returns-in-Constructor
returns-in-Constructor c =
    let one : kind_view c.args.label ≡ label c.in-Label.label.now = ap kind_view c.in-Label.is in
    let other : kind_view c.args.constructor ≡ constructor c.in-Constructor.resource.now = ap kind_view c.in-Constructor.is in (
      λ e. (c.in-Label.label.now, one, other ∙ ap constructor (sym (c.same.ensures.0 e))),
      λ w. c.same.ensures.1 (label-same _ _ _ one w.1 ∙ constructor-same _ _ _ w.2 other),
    )
