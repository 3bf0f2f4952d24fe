use Rattle.std.proofs.Common.{◌≡◌, List, Vec, Some, slice_get, get_or, ◌∙◌, add-one}
use Rattle.std.specs.Global.{Global}
use Rattle.std.proofs.lemmas.Option.{slice_get-get_or}
use Rattle.wac_types_shapes.specs.declared.shapes.component.Interface.{Interface}
use Rattle.wac_types_shapes.specs.declared.shapes.component.InterfaceId.{InterfaceId}
use Rattle.wac_merge_classes.proofs.lemmas.terms.Found.{get_map}
use Rattle.wac_merge_unions.proofs.lemmas.uses.InnerUsers.{listed-next}
use Rattle.wac_merge_unions.proofs.uses.nested.listed_users.Goals as goal

pub loop-i-init : goal.loop-i-init
loop-i-init c = record {
  counted = c.in_ok-lists.ensures.counted ∙ c.len.ensures;
  each = λ j n k v here at. c.in_ok-lists.ensures.empty j v.items (get_map (λ (x : Vec InterfaceId Global). x.items) c.in_ok-lists.lists.items j v at);
}

pub put_listed-requires : goal.put_listed-requires
put_listed-requires c = c.loop-i.invariant.counted

pub loop-i-preserved : goal.loop-i-preserved
loop-i-preserved c =
    let is : List InterfaceId = c.args.users.now in
    let i : InterfaceId = get_or is c.loop-i.i (record { 0 = 0 }) in
    let it : Interface = c.index.result.now in
    let at : slice_get is c.loop-i.i ≡ Some i = slice_get-get_or is c.loop-i.i (record { 0 = 0 }) c.loop-i-test.true in
    rw add-one (listed-next c.args.listed.now c.args.asked.now.types.now is c.loop-i.i i it c.loop-i.lists.items c.put_listed.new.lists.items at c.index.ensures c.loop-i.invariant c.in_ok-put_listed.ensures)
