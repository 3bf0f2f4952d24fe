use Rattle.std.proofs.Common.{true, false, refl, arith}
use Rattle.wac_encode_faults.specs.private.Search.{IsNoImport}
use Rattle.wac_types_collection.proofs.lemmas.wide.Members.{at_in}
use Rattle.wac_encode_faults.proofs.Dependencies.{all_none, all_next}
use Rattle.wac_encode_faults.proofs.Twice.{twice_at, names_next, not_twice}
use Rattle.wac_encode_faults.proofs.names.has_name_twice.Goals as goal

pub loop-i-init : goal.loop-i-init
loop-i-init c = record { named = c.new-names.ensures; other = all_none (IsNoImport c.args.types.now c.args.imports.now) c.args.additional.now.keys }

pub interface_at-id-requires : goal.interface_at-id-requires
interface_at-id-requires c = let l = c.len-i-end.ensures.len in let t = c.loop-i-test.true in omega (arith, l, t)

pub add_id-requires : goal.add_id-requires
add_id-requires c = c.requires c.interface_at-id.result (at_in c.args.additional.now.keys c.loop-i.i c.interface_at-id.result c.interface_at-id.ensures)

pub loop-i-preserved : goal.loop-i-preserved
loop-i-preserved c =
    let added = c.in_ok-add_id.ensures.added c.if-branch.false in
    record {
      named = names_next c.args.types.now c.args.imports.now c.args.additional.now.keys c.loop-i.i c.interface_at-id.result c.loop-i.names c.add_id.new.names c.interface_at-id.ensures c.loop-i.invariant.named added.0;
      other = all_next (IsNoImport c.args.types.now c.args.imports.now) c.args.additional.now.keys c.loop-i.i c.interface_at-id.result c.interface_at-id.ensures added.1 c.loop-i.invariant.other;
    }

pub returns-then-branch : goal.returns-then-branch
returns-then-branch c = (
  λ t. twice_at c.args.types.now c.args.imports.now c.args.additional.now.keys c.loop-i.i c.interface_at-id.result c.loop-i.names c.len-i-end.ensures.unique c.interface_at-id.ensures c.loop-i.invariant.named
      (c.in_ok-add_id.ensures.again c.if-branch.true),
  λ h. refl,
)

pub returns : goal.returns
returns c =
    let past = c.loop-i-test.false in
    let counted = c.len-i-end.ensures.len in
    (λ t. cc, λ h. absurd (not_twice c.args.types.now c.args.imports.now c.args.additional.now.keys c.loop-i.i c.loop-i.names (omega (arith, past, counted)) c.loop-i.invariant.named c.law.ensures c.loop-i.invariant.other h))
