use Rattle.std.proofs.Common.{◌≡◌, true, sym, ◌∙◌, subst}
use Rattle.std.proofs.lemmas.Result.{IfOk-weaker}
use Rattle.wac_types_collection.specs.collection.Collection.{holds_type}
use Rattle.wac_encode_faults.proofs.Bounding.{plain_kind, plain_other, plain_clean, not_unbound}
use Rattle.wac_encode_faults.proofs.bound_types.BoundTypes.is_faultless.Goals as goal

pub add-requires-clause-held : goal.add-requires-clause-held
add-requires-clause-held c = subst (λ t. holds_type c.args.types.now t ≡ true) (plain_kind c.args.item c.in-Some.ty (sym c.plain_type.ensures ∙ c.in-Some.is)) c.requires.held

pub add-requires-clause-other : goal.add-requires-clause-other
add-requires-clause-other c = plain_other c.args.item c.in-Some.ty (sym c.plain_type.ensures ∙ c.in-Some.is)

pub returns-in-Some-clause-faultless : goal.returns-in-Some-clause-faultless
returns-in-Some-clause-faultless c =
    IfOk-weaker c.add.result _ _
    (λ b given is_true in_role root rooted f h.
    plain_clean c.args.types.now root c.args.item c.in-Some.ty (sym c.plain_type.ensures ∙ c.in-Some.is) (not_unbound c.args.types.now root c.args.bound.now.keys c.in-Some.ty (given is_true) rooted) in_role f h) c.add.ensures.bound
