use Rattle.std.proofs.Common.{[], Some, Err, ap, inl, inr, refl, subst, sym, ◌∙◌}
use Rattle.std.specs.Option.{option_copied}
use Rattle.wac_types_shapes.specs.shapes.Named.{named_pairs, used_pairs, NoNameTwice}
use Rattle.wac_types_shapes.specs.declared.shapes.component.World.{World}
use Rattle.wac_script.specs.lines.Words.{spelled}
use Rattle.wac_script.specs.labels.Things.{things_of}
use Rattle.wac_script.specs.labels.Items.{AreListed}
use Rattle.wac_script.proofs.ItemLemmas.{one-rest, uses-listed, used-some, world-said}
use Rattle.wac_script.proofs.ReadLemmas.{exit, exit-shape}
use Rattle.wac_script.proofs.labels.things.Things.world.Goals as goal

pub returns-in_err-imports : goal.returns-in_err-imports
returns-in_err-imports c = exit _ _ c.from_residual.result (c.in_err-imports.field-0).0 c.from_residual.ensures.1 c.in_err-imports.ensures (λ none. inl (λ w h. none w.uses w.imports (subst (λ ws. AreListed (things_of c.args.self.now) ws w.uses w.imports) (one-rest (spelled c.args.imports.now) w.id (option_copied c.world_id.result.0) h.0 (spelled c.world_id.result.1.now) h.1 c.world_id.ensures) h.2)))

pub returns-in_err-exports : goal.returns-in_err-exports
returns-in_err-exports c = exit _ _ c.from_residual-in_err-exports.result (c.in_err-exports.field-0).0 c.from_residual-in_err-exports.ensures.1 c.in_err-exports.ensures (λ none. inl (λ w h. none [] w.exports h.3))

pub returns-in_err-check_unused : goal.returns-in_err-check_unused
returns-in_err-check_unused c = exit _ _ c.from_residual-in_err-check_unused.result (c.in_err-check_unused.field-0).0 c.from_residual-in_err-check_unused.ensures.1 c.in_err-check_unused.ensures (λ some. inl (λ w h. uses-listed (things_of c.args.self.now) (spelled c.args.exports.now) (used_pairs c.in_ok-exports.exports.uses.items) (named_pairs c.in_ok-exports.exports.items.items) c.in_ok-exports.ensures (used-some c.in_ok-exports.exports.uses.items some) w.exports h.3))

pub returns : goal.returns
returns c =
    let built = c.in_ok-world.ensures.built in
    world-said (things_of c.args.self.now) (spelled c.args.imports.now) (spelled c.args.exports.now) (spelled c.world_id.result.1.now) (option_copied c.world_id.result.0) c.in_ok-imports.imports c.in_ok-exports.exports c.in_ok-world.world c.world_id.ensures c.in_ok-imports.ensures c.in_ok-exports.ensures c.in_ok-check_unused.ensures
    (built.0, built.1 ∙ ap used_pairs c.as_slice.ensures.value, built.2 ∙ ap named_pairs c.as_slice-2.ensures.value, built.3 ∙ ap named_pairs c.as_slice-3.ensures.value)

pub returns-in_err-world : goal.returns-in_err-world
returns-in_err-world c = exit-shape _ _ c.from_residual-in_err-world.result (c.in_err-world.field-0).0 c.from_residual-in_err-world.ensures.1 (λ twice.
    let w : World = record { id = option_copied c.world_id.result.0; uses = used_pairs c.in_ok-imports.imports.uses.items; imports = named_pairs c.in_ok-imports.imports.items.items; exports = named_pairs c.in_ok-exports.exports.items.items } in
    inr (
      w,
      world-said (things_of c.args.self.now) (spelled c.args.imports.now) (spelled c.args.exports.now) (spelled c.world_id.result.1.now) (option_copied c.world_id.result.0) c.in_ok-imports.imports c.in_ok-exports.exports w c.world_id.ensures c.in_ok-imports.ensures c.in_ok-exports.ensures c.in_ok-check_unused.ensures (refl, refl, refl, refl),
      λ once. c.in_err-world.ensures.name_twice (ap Err twice) (subst (λ l. NoNameTwice (used_pairs l)) (sym c.as_slice.ensures.value) once.0) (subst (λ l. NoNameTwice (named_pairs l)) (sym c.as_slice-2.ensures.value) once.1) (subst (λ l. NoNameTwice (named_pairs l)) (sym c.as_slice-3.ensures.value) once.2),
    ))
