use Rattle.std.proofs.Common.{None, Some, sym, ap, ◌∙◌}
use Rattle.std.specs.Option.{option_copied, option_map}
use Rattle.wac_types_collection.specs.subtyping.CalledViews.{path_view}
use Rattle.wac_merge_classes.specs.entries.Places.{find_resource}
use Rattle.wac_merge_classes.proofs.lemmas.entries.ClassPaths.{find-plain, has-first, no-first}
use Rattle.wac_merge_classes.proofs.entries.bindings.Bindings.first.Goals as goal

pub returns-in_err-class : goal.returns-in_err-class
returns-in_err-class c =
    ap (option_map (λ p. (p.0, path_view p.1.now))) c.from_residual.ensures
    ∙ sym (no-first c.args.self.now c.args.resource
    (ap (λ b. find_resource b.firsts c.args.resource) (sym c.self.view_is) ∙ find-plain c.self.inside.firsts.entries c.args.resource ∙ sym c.get.ensures.value ∙ ap option_copied c.in_err-class.was))

pub returns-in_err-path : goal.returns-in_err-path
returns-in_err-path c =
    ap (option_map (λ p. (p.0, path_view p.1.now))) c.from_residual-in_err-path.ensures
    ∙ sym (has-first c.args.self.now c.args.resource c.in_ok-class.field-0.now None
    (ap (λ b. find_resource b.firsts c.args.resource) (sym c.self.view_is) ∙ find-plain c.self.inside.firsts.entries c.args.resource ∙ sym c.get.ensures.value ∙ ap option_copied c.in_ok-class.was)
    (sym c.in_err-path.ensures))

pub returns : goal.returns
returns c =
    sym (has-first c.args.self.now c.args.resource c.in_ok-class.field-0.now (Some (path_view c.in_ok-path.path.now))
    (ap (λ b. find_resource b.firsts c.args.resource) (sym c.self.view_is) ∙ find-plain c.self.inside.firsts.entries c.args.resource ∙ sym c.get.ensures.value ∙ ap option_copied c.in_ok-class.was)
    (sym c.in_ok-path.ensures))
