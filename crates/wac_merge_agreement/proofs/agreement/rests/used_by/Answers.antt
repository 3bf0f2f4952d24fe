use Rattle.std.proofs.Common.{◌≡◌, true, Contains, subst}
use Rattle.wac_types_collection.specs.collection.Collection.{holds_type}
use Rattle.wac_types_shapes.specs.shapes.Kinds.{kind_type}
use Rattle.wac_types_shapes.specs.declared.shapes.component.ItemKind.{ItemKind}
use Rattle.wac_merge_agreement.proofs.lemmas.agreement.RestSets.{once_there, there_if_held}
use Rattle.wac_merge_agreement.proofs.lemmas.agreement.RestUses.{no_use, one_use}
use Rattle.wac_merge_agreement.proofs.agreement.rests.used_by.Goals as goal

pub returns-in_default : goal.returns-in_default
returns-in_default c = no_use c.args.types.now c.args.classes.now.names c.args.kind (λ i is. c.in_default.not-Instance i is) c.new-numbers.result.keys c.new-numbers.ensures.empty

pub wide_uses-requires : goal.wide_uses-requires
wide_uses-requires c = there_if_held c.args.types.now c.in-Instance.id (subst (λ (k : ItemKind). holds_type c.args.types.now (kind_type k) ≡ true) c.in-Instance.is c.requires)

pub put_used-requires : goal.put_used-requires
put_used-requires c = λ k h. once_there c.args.types.now c.law.ensures c.in-Instance.id k (subst (λ is. Contains is k) c.in_ok-used.ensures h)

pub returns : goal.returns
returns c =
    one_use c.args.types.now c.args.classes.now.names c.args.kind c.in-Instance.id c.in-Instance.is c.in_ok-used.used.keys c.new-numbers.result.keys c.put_used.new.numbers.keys
    c.in_ok-used.ensures c.new-numbers.ensures.empty c.in_ok-put_used.ensures
