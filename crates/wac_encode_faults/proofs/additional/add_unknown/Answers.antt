use Rattle.std.proofs.Common.{ap, sym, ◌∙◌}
use Rattle.wac_types_collection.specs.wide.Wide.{with_each}
use Rattle.wac_types_collection.proofs.lemmas.wide.Once.{inserted}
use Rattle.wac_encode_faults.proofs.Needed.{unknown_none, unknown_one}
use Rattle.wac_encode_faults.proofs.additional.add_unknown.Goals as goal

pub returns-then-contains : goal.returns-then-contains
returns-then-contains c = sym (ap (with_each c.args.found.now.keys) (unknown_none c.args.known.now.keys c.args.id (sym c.contains.ensures ∙ c.if-contains.true)))

pub returns : goal.returns
returns c =
    inserted c.args.found.now.keys c.insert.new.self.keys c.args.id c.in_ok-insert.ensures.keys
    ∙ sym (ap (with_each c.args.found.now.keys) (unknown_one c.args.known.now.keys c.args.id (sym c.contains.ensures ∙ c.if-contains.false)))
