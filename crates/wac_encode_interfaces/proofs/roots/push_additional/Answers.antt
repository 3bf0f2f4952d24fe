use Rattle.std.proofs.Common.{ap, sym, ◌∙◌, ◌++◌, ◌+◌, drop, arith, flat_map}
use Rattle.std.proofs.lemmas.List.{append-nil, drop_all}
use Rattle.wac_types_collection.proofs.lemmas.wide.Members.{at_in}
use Rattle.wac_encode_interfaces.specs.private.Roots.{additional_roots}
use Rattle.wac_encode_interfaces.proofs.RootTypes.{grown-by, rest-at}
use Rattle.wac_encode_interfaces.proofs.roots.push_additional.Goals as goal

pub push_types_in-requires : goal.push_types_in-requires
push_types_in-requires c = c.requires c.interface_at-interface.result (at_in c.args.interfaces.now c.loop-i.i c.interface_at-interface.result c.interface_at-interface.ensures)

pub loop-i-preserved : goal.loop-i-preserved
loop-i-preserved c =
    grown-by (additional_roots c.args.types.now) c.interface_at-interface.result (drop c.loop-i.i c.args.interfaces.now) (drop (c.loop-i.i + 1) c.args.interfaces.now) c.loop-i.found.items c.push_types_in.new.found.items _
    (rest-at c.args.interfaces.now c.loop-i.i c.interface_at-interface.result c.interface_at-interface.ensures) c.in_ok-push_types_in.ensures c.loop-i.invariant

pub returns : goal.returns
returns c =
    let past = c.loop-i-test.false in
    sym (append-nil c.loop-i.found.items) ∙ ap (λ is. c.loop-i.found.items ++ flat_map (additional_roots c.args.types.now) is) (sym (drop_all c.loop-i.i c.args.interfaces.now (omega (arith, past)))) ∙ c.loop-i.invariant
