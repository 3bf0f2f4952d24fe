use Rattle.std.proofs.Common.{Some, None, Ok, Err, ap, inl, inr, refl, subst, sym, ◌∙◌}
use Rattle.wac_types_shapes.specs.shapes.Named.{named_pairs, used_pairs, NoNameTwice}
use Rattle.wac_script.specs.lines.Words.{spelled}
use Rattle.wac_script.specs.labels.Things.{things_of}
use Rattle.wac_script.proofs.ReadLemmas.{exit}
use Rattle.wac_script.proofs.NameLemmas.{no-use, no-use-pair, no-dotted-source, no-plain-source}
use Rattle.wac_script.proofs.labels.things.Things.used.Goals as goal

pub returns-in_err-local : goal.returns-in_err-local
returns-in_err-local c = exit _ _ c.from_residual.result (c.in_err-local.field-0).0 c.from_residual.ensures.1 c.in_err-local.ensures (no-use-pair (things_of c.args.self.now) c.args.word.now)

pub returns-in_err-interface-in-Some : goal.returns-in_err-interface-in-Some
returns-in_err-interface-in-Some c = exit _ _ c.from_residual-in_err-interface-in-Some.result (c.in_err-interface-in-Some.field-0).0 c.from_residual-in_err-interface-in-Some.ensures.1 c.in_err-interface-in-Some.ensures (λ none. no-use (things_of c.args.self.now) c.args.word.now c.in_ok-local.local.now c.in_ok-local.source.now c.in_ok-local.ensures (no-dotted-source (things_of c.args.self.now) c.in_ok-local.source.now c.in-Some.label.now c.in-Some.name.now c.in-Some.ensures none))

pub returns-in_err-interface-in-None : goal.returns-in_err-interface-in-None
returns-in_err-interface-in-None c = exit _ _ c.from_residual-in_err-interface-in-None.result (c.in_err-interface-in-None.field-0).0 c.from_residual-in_err-interface-in-None.ensures.1 c.in_err-interface-in-None.ensures (λ none. no-use (things_of c.args.self.now) c.args.word.now c.in_ok-local.local.now c.in_ok-local.source.now c.in_ok-local.ensures (no-plain-source (things_of c.args.self.now) c.in_ok-local.source.now c.in-None.ensures none))
