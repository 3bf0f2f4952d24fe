use Rattle.std.proofs.Common.{List, Some, sym, ap, ◌∙◌}
use Rattle.wac_types_shapes.proofs.lemmas.shapes.Under.{on_ok}
use Rattle.wac_merge_classes.specs.declared.entries.scopes.Opener.{Opener}
use Rattle.wac_merge_classes.specs.entries.Opening.{with_opened}
use Rattle.wac_merge_classes.specs.entries.Scopes.{number_of}
use Rattle.wac_merge_classes.proofs.lemmas.entries.Opening.{all-unknown, none-unknown}
use Rattle.wac_merge_classes.proofs.entries.scopes.push_unknown.Goals as goal

pub returns-in-Some : goal.returns-in-Some
returns-in-Some c = ap (λ (os : List Opener). with_opened c.args.scopes.now.keys (Some c.args.parent) os) (sym (none-unknown c.args.known.now c.args.kind _ (ap (number_of c.args.known.now) (sym c.ty.ensures) ∙ (sym c.known_number.ensures ∙ c.in-Some.is))))

pub returns-in-None : goal.returns-in-None
returns-in-None c =
    on_ok c.push_item.result
    (λ is. is ∙ ap (λ (os : List Opener). with_opened c.args.scopes.now.keys (Some c.args.parent) os) (sym (all-unknown c.args.known.now c.args.kind (ap (number_of c.args.known.now) (sym c.ty.ensures) ∙ (sym c.known_number.ensures ∙ c.in-None.is)))))
    c.push_item.ensures
