use Rattle.std.proofs.Common.{sym, ◌∙◌, inl}
use Rattle.wac_types_shapes.proofs.lemmas.shapes.Under.{on_ok}
use Rattle.wac_merge_agreement.proofs.lemmas.agreement.Unmarked.{number_unmarked}
use Rattle.wac_merge_agreement.proofs.agreement.compared.put_unmarked.Goals as goal

pub returns-then-flag_of : goal.returns-then-flag_of
returns-then-flag_of c = λ v k at. inl at

pub returns : goal.returns
returns c =
    on_ok c.put_number.result
    (λ more. number_unmarked c.args.marks.now c.args.known.now.items c.put_number.new.known.items c.args.id c.args.number (sym c.flag_of.ensures ∙ c.if-flag_of.false) more)
    c.put_number.ensures
