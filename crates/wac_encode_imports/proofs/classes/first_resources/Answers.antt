use Rattle.std.proofs.Common.{◌≡◌, Some, sym, ◌∙◌, subst}
use Rattle.std.specs.List.{list_any}
use Rattle.wac_types_shapes.specs.declared.shapes.component.ResourceId.{ResourceId}
use Rattle.wac_types_shapes.specs.declared.shapes.component.Interface.{Interface}
use Rattle.wac_types_collection.specs.collection.Collection.{item_at}
use Rattle.wac_encode_scopes.specs.private.Telling.{is_one_of}
use Rattle.wac_encode_imports.specs.private.Classes.{is_first_of}
use Rattle.wac_encode_imports.proofs.Bound.{one-some}
use Rattle.wac_encode_imports.proofs.Writing.{if-ok}
use Rattle.wac_encode_imports.proofs.classes.first_resources.Goals as goal

pub returns : goal.returns
returns c =
    let held = c.index-it.result.now in
    if-ok (λ s. (r : ResourceId) → is_one_of s.keys r ≡ list_any (is_first_of c.args.bindings.now c.args.number r) held.exports)
    (λ s. (it : Interface) → item_at c.args.types.now.interfaces c.args.interface.0 ≡ Some it → (r : ResourceId) → is_one_of s.keys r ≡ list_any (is_first_of c.args.bindings.now c.args.number r) it.exports)
    c.first_among.result
    (λ s h it at. subst (λ (x : Interface). (r : ResourceId) → is_one_of s.keys r ≡ list_any (is_first_of c.args.bindings.now c.args.number r) x.exports) (one-some held it (sym c.index-it.ensures ∙ at)) h)
    c.first_among.ensures
