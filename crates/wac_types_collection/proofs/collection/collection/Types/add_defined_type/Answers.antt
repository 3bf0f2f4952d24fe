use Rattle.std.proofs.Common.{◌∙◌, refl, sym, ap, arith, length}
use Rattle.wac_types_collection.specs.collection.Aliases.{aliased}
use Rattle.wac_types_collection.proofs.lemmas.collection.Ends.{defined_kept, new_value_end, no_alias, own_end_before, end_others, end_put}
use Rattle.wac_types_collection.proofs.collection.collection.Types.add_defined_type.Goals as goal

pub invariant_of-self-in_default : goal.invariant_of-self-in_default
invariant_of-self-in_default c =
    let none = no_alias c.args.defined c.in_default.not-Alias in
    defined_kept _ _ c.args.defined _ _ _ _ _ c.self.invariant c.self.view_is c.in_ok-before.ensures.count (sym c.contains_defined.ensures ∙ c.if-not-contains_defined.false)
    c.in_ok-hold.ensures.held (λ i other. refl)
    (own_end_before _ _ _ _ c.self.invariant (ap (λ x. length x.defined) c.self.view_is) ∙ sym (ap (new_value_end c.args.self.now (length c.args.self.now.defined)) none))

pub invariant_of-self-2 : goal.invariant_of-self-2
invariant_of-self-2 c =
    defined_kept _ _ c.args.defined _ _ _ _ _ c.self.invariant c.self.view_is c.in_ok-before.ensures.count (sym c.contains_defined.ensures ∙ c.if-not-contains_defined.false)
    c.in_ok-hold-2.ensures.held (end_others _ _ _ _ c.value_end-end.result c.fill_ends.ensures.same c.len.ensures)
    (end_put _ _ _ _ c.len.ensures (omega (arith, c.in-Ok.ensures.through)) ∙ c.value_end-end.ensures ∙ sym (ap (λ x. new_value_end c.args.self.now (length c.args.self.now.defined) (aliased x)) c.in-Alias.is))
