use Rattle.std.proofs.Common.{◌∙◌, sym, ap}
use Rattle.std.specs.Option.{option_map}
use Rattle.wac_types_shapes.specs.shapes.Named.{named_at, by_bytes, mapped}
use Rattle.wac_types_shapes.proofs.lemmas.shapes.Keyed.{found_by_bytes, found_in_full}
use Rattle.wac_types_shapes.proofs.lemmas.shapes.Names.{named_at-none}
use Rattle.wac_types_shapes.proofs.shapes.mapped.Rest.get_full.Goals as goal

pub returns-in_err-index-clause-found : goal.returns-in_err-index-clause-found
returns-in_err-index-clause-found g c =
    let es = c.deref-2.result.now.entries in
    ap (option_map (λ p. (p.0, p.1.now))) c.from_residual-in_err-index.ensures
    ∙ sym (named_at-none (by_bytes es) 0 c.args.name.now (sym (found_by_bytes c.args.name.now es) ∙ sym c.in_err-index.ensures.value))
    ∙ ap (λ m. named_at 0 c.args.name.now (by_bytes m.entries)) c.deref-2.ensures ∙ ap (named_at 0 c.args.name.now) (ap mapped c.in_ok-map.ensures.value ∙ c.self.view_is)

pub returns-clause-found : goal.returns-clause-found
returns-clause-found g c =
    sym (found_in_full c.deref-2.result.now.entries c.args.name.now c.in_ok-index.index c.in_ok-index.field-0-1.now c.in_ok-index.value.now (rw (c.deref.ensures, ← c.deref-2.ensures) at c.len.ensures.unique) c.in_ok-index.ensures.entry (sym c.in_ok-index.ensures.key))
    ∙ ap (λ m. named_at 0 c.args.name.now (by_bytes m.entries)) c.deref-2.ensures ∙ ap (named_at 0 c.args.name.now) (ap mapped c.in_ok-map.ensures.value ∙ c.self.view_is)
