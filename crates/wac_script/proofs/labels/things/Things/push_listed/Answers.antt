use Rattle.std.proofs.Common.{Some, None, Ok, Err, ap, inl, inr, refl, subst, sym, ◌∙◌}
use Rattle.wac_types_shapes.specs.shapes.Named.{named_pairs, used_pairs, NoNameTwice}
use Rattle.wac_script.specs.lines.Words.{spelled}
use Rattle.wac_script.specs.labels.Things.{things_of}
use Rattle.std.specs.Option.{option_copied}
use Rattle.wac_script.specs.private.Listed.{found_by}
use Rattle.wac_script.specs.labels.Items.{used, item}
use Rattle.wac_script.proofs.ListLemmas.{pairs-push}
use Rattle.wac_script.proofs.ItemLemmas.{uses-push}
use Rattle.wac_script.proofs.ReadLemmas.{exit, exit-memory}
use Rattle.wac_script.proofs.NameLemmas.{no-used, no-listed-pair, no-listed-item}
use Rattle.wac_script.proofs.labels.things.Things.push_listed.Goals as goal

pub returns-in_ok-push-in-Some : goal.returns-in_ok-push-in-Some
returns-in_ok-push-in-Some c =
    let u = c.in_ok-used-in-Some.used in
    used c.in-Some.word.now u.0.now (record { interface = u.1; name = option_copied u.2 }) c.in-Some.ensures c.in_ok-used-in-Some.ensures
    (ap (λ us. record (found_by c.args.listed.now) { uses = us }) (uses-push c.args.listed.now.uses.items c.push.new.self.items u c.in_ok-push-in-Some.ensures.items))

pub returns-in_ok-push-in-None : goal.returns-in_ok-push-in-None
returns-in_ok-push-in-None c =
    let name = c.in_ok-name-in-None.name in
    let k = c.in_ok-item-in-None.item in
    item name.now c.in_ok-name-in-None.item.now k c.in-None.ensures c.in_ok-name-in-None.ensures c.in_ok-item-in-None.ensures
    (ap (λ is. record (found_by c.args.listed.now) { items = is }) (pairs-push c.args.listed.now.items.items c.push-in-None.new.self.items (name, k) c.in_ok-push-in-None.ensures.items))

pub returns-in_err-used-in-Some : goal.returns-in_err-used-in-Some
returns-in_err-used-in-Some c = exit _ _ c.from_residual.result (c.in_err-used-in-Some.field-0).0 c.from_residual.ensures.1 c.in_err-used-in-Some.ensures (no-used (things_of c.args.self.now) c.args.word.now c.in-Some.word.now c.in-Some.ensures)

pub returns-in_err-push-in-Some : goal.returns-in_err-push-in-Some
returns-in_err-push-in-Some c = exit-memory _ _ c.from_residual-in_err-push-in-Some.result c.from_residual-in_err-push-in-Some.ensures.1

pub returns-in_err-name-in-None : goal.returns-in_err-name-in-None
returns-in_err-name-in-None c = exit _ _ c.from_residual-in_err-name-in-None.result (c.in_err-name-in-None.field-0).0 c.from_residual-in_err-name-in-None.ensures.1 c.in_err-name-in-None.ensures (no-listed-pair (things_of c.args.self.now) c.args.word.now c.in-None.ensures)

pub returns-in_err-item-in-None : goal.returns-in_err-item-in-None
returns-in_err-item-in-None c = exit _ _ c.from_residual-in_err-item-in-None.result (c.in_err-item-in-None.field-0).0 c.from_residual-in_err-item-in-None.ensures.1 c.in_err-item-in-None.ensures (no-listed-item (things_of c.args.self.now) c.args.word.now c.in_ok-name-in-None.name.now c.in_ok-name-in-None.item.now c.in-None.ensures c.in_ok-name-in-None.ensures)

pub returns-in_err-push-in-None : goal.returns-in_err-push-in-None
returns-in_err-push-in-None c = exit-memory _ _ c.from_residual-in_err-push-in-None.result c.from_residual-in_err-push-in-None.ensures.1
