use Rattle.std.proofs.Common.{ap, sym, ◌∙◌, drop, ◌+◌, arith}
use Rattle.std.proofs.lemmas.List.{drop_all}
use Rattle.wac_types_shapes.specs.shapes.Kinds.{kind_type}
use Rattle.wac_types_collection.specs.private.reach.Found.{with_all}
use Rattle.wac_types_collection.proofs.lemmas.reach.Lists.{drop_second}
use Rattle.wac_encode_faults.specs.private.Sets.{other_of, others_of}
use Rattle.wac_encode_faults.proofs.FreeSets.{other_first}
use Rattle.wac_encode_faults.proofs.resources.add_others.Goals as goal

pub loop-i-preserved : goal.loop-i-preserved
loop-i-preserved c =
    let (_, is) = drop_second c.args.items.now c.loop-i.i c.value_at.result.now c.value_at.ensures in
    let ts = c.loop-i.found.keys in
    let left = others_of (drop (c.loop-i.i + 1) c.args.items.now) in
    ap (λ us. with_all us left) (c.in_ok-add_other.ensures ∙ ap (λ t. with_all ts (other_of t)) c.ty.ensures) ∙ other_first ts (kind_type c.value_at.result.now) left ∙ sym (ap (λ xs. with_all ts (others_of xs)) is) ∙ c.loop-i.invariant

pub returns : goal.returns
returns c =
    let past = c.loop-i-test.false in
    let counted = c.len-i-end.ensures in
    sym (ap (λ es. with_all c.loop-i.found.keys (others_of es)) (drop_all c.loop-i.i c.args.items.now (omega (arith, past, counted)))) ∙ c.loop-i.invariant
