use Rattle.std.proofs.Common.{Some, None, Ok, Err, ap, inl, inr, refl, subst, sym, ◌∙◌}
use Rattle.wac_types_shapes.specs.shapes.Named.{named_pairs, used_pairs, NoNameTwice}
use Rattle.wac_script.specs.lines.Words.{spelled}
use Rattle.wac_script.specs.labels.Things.{things_of}
use Rattle.std.specs.Option.{option_copied}
use Rattle.wac_types_shapes.specs.declared.shapes.component.Interface.{Interface}
use Rattle.wac_script.proofs.ItemLemmas.{interface-said}
use Rattle.wac_script.proofs.ReadLemmas.{exit, exit-shape}
use Rattle.wac_script.proofs.labels.things.Things.interface.Goals as goal

pub returns : goal.returns
returns c =
    let built = c.in_ok-interface.ensures.built in
    interface-said (things_of c.args.self.now) c.args.id.now c.args.words.now c.in_ok-listed.listed c.optional-id.result c.in_ok-interface.interface c.optional-id.ensures c.in_ok-listed.ensures
    (built.0, built.1 ∙ ap used_pairs c.as_slice.ensures.value, built.2 ∙ ap named_pairs c.as_slice-2.ensures.value)

pub returns-in_err-listed : goal.returns-in_err-listed
returns-in_err-listed c = exit _ _ c.from_residual.result (c.in_err-listed.field-0).0 c.from_residual.ensures.1 c.in_err-listed.ensures (λ none. inl (λ i h. none i.uses i.exports h.listed))

pub returns-in_err-interface : goal.returns-in_err-interface
returns-in_err-interface c = exit-shape _ _ c.from_residual-in_err-interface.result (c.in_err-interface.field-0).0 c.from_residual-in_err-interface.ensures.1 (λ twice.
    let i : Interface = record { id = option_copied c.optional-id.result; uses = used_pairs c.in_ok-listed.listed.uses.items; exports = named_pairs c.in_ok-listed.listed.items.items } in
    inr (
      i,
      interface-said (things_of c.args.self.now) c.args.id.now c.args.words.now c.in_ok-listed.listed c.optional-id.result i c.optional-id.ensures c.in_ok-listed.ensures (refl, refl, refl),
      λ once. c.in_err-interface.ensures.name_twice (ap Err twice) (subst (λ l. NoNameTwice (used_pairs l)) (sym c.as_slice.ensures.value) once.0) (subst (λ l. NoNameTwice (named_pairs l)) (sym c.as_slice-2.ensures.value) once.1),
    ))
