use Rattle.std.proofs.Common.{◌∷◌, [], ap, sym, ◌∙◌, ◌++◌, ◌+◌, drop, arith, flat_map}
use Rattle.std.proofs.lemmas.List.{append-nil, drop_all}
use Rattle.wac_types_collection.proofs.lemmas.reach.Lists.{drop_second}
use Rattle.wac_encode_interfaces.specs.private.Roots.{item_root}
use Rattle.wac_encode_interfaces.proofs.RootTypes.{grown-by}
use Rattle.wac_encode_interfaces.proofs.roots.push_items.Goals as goal

pub loop-i-preserved : goal.loop-i-preserved
loop-i-preserved c =
    let (n, parts) = drop_second c.args.items.now c.loop-i.i c.value_at.result.now c.value_at.ensures in
    grown-by item_root (n, c.value_at.result.now) (drop c.loop-i.i c.args.items.now) (drop (c.loop-i.i + 1) c.args.items.now) c.loop-i.found.items c.push.new.self.items _ parts
    (c.in_ok-push.ensures.items ∙ ap (λ t. c.loop-i.found.items ++ t ∷ []) c.ty.ensures) c.loop-i.invariant

pub returns : goal.returns
returns c =
    let past = c.loop-i-test.false in
    let counted = c.len-i-end.ensures in
    sym (append-nil c.loop-i.found.items) ∙ ap (λ is. c.loop-i.found.items ++ flat_map item_root is) (sym (drop_all c.loop-i.i c.args.items.now (omega (arith, past, counted)))) ∙ c.loop-i.invariant
