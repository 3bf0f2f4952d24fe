use Rattle.std.proofs.Common.{ap, sym, ◌∙◌, ◌++◌, [], Option}
use Rattle.std.proofs.lemmas.Result.{on_ok_weaker}
use Rattle.wac_types_shapes.specs.primitives.Name.{option_case}
use Rattle.wac_types_shapes.specs.declared.shapes.component.Interface.{Interface}
use Rattle.wac_encode_interfaces.specs.private.Roots.{type_item_roots}
use Rattle.wac_encode_interfaces.proofs.roots.push_types_in.Goals as goal

pub returns : goal.returns
returns c =
    let exports = ap (λ (o : Option Interface). option_case o [] (λ x. x.exports)) c.index.ensures in
    on_ok_weaker c.push_type_items.result (λ grown. grown ∙ ap (λ es. c.args.found.now.items ++ type_item_roots es) (sym exports)) c.push_type_items.ensures
