use Rattle.std.proofs.Common.{◌≡◌, true, false, sym, ◌∙◌}
use Rattle.wac_types_collection.proofs.lemmas.wide.Once.{inserted}
use Rattle.wac_encode_faults.proofs.Dependencies.{added_none, added_one, not_instance, not_under}
use Rattle.wac_encode_faults.proofs.unlisted.add_item.Goals as goal

pub returns-in_default : goal.returns-in_default
returns-in_default c = added_none c.args.types.now c.args.listed.now.keys c.args.name.now c.args.item (not_instance c.args.types.now c.args.name.now c.args.item (λ i is. c.in_default.not-Instance i is))

pub returns-then-not-has_id : goal.returns-then-not-has_id
returns-then-not-has_id c = added_none c.args.types.now c.args.listed.now.keys c.args.name.now c.args.item
    (not_under c.args.types.now c.args.name.now c.args.item c.in-Instance.id c.in-Instance.is (λ h. let wrong : false ≡ true = sym c.if-not-has_id.true ∙ c.has_id.ensures.1 h in cc))

pub returns : goal.returns
returns c = added_one c.args.types.now c.args.listed.now.keys c.insert.new.self.keys c.args.name.now c.args.item c.in-Instance.id c.in-Instance.is (c.has_id.ensures.0 c.if-not-has_id.false)
    (inserted c.args.listed.now.keys c.insert.new.self.keys c.in-Instance.id c.in_ok-insert.ensures.keys)
