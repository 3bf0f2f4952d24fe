use Rattle.std.proofs.Common.{Some, sym, ap, ◌∙◌}
use Rattle.std.proofs.lemmas.Bool.{false≢true}
use Rattle.wac_merge_tables.proofs.lemmas.made.Extending.{kept_item}
use Rattle.wac_merge_imports.specs.unions.SharedUnions.{first_in}
use Rattle.wac_merge_imports.proofs.lemmas.unions.SharedWrites.{alone-other, interface-itself, same-interface}
use Rattle.wac_merge_imports.proofs.lemmas.unions.WritingItems.{if-both}
use Rattle.wac_merge_imports.proofs.unions.shared.Shared.write.Goals as goal

pub returns-then-eq-clause-added : goal.returns-then-eq-clause-added
returns-then-eq-clause-added c = c.index.ensures ∙ ap Some (same-interface c.index.result.now c.args.interface c.requires.unused (sym c.eq.ensures ∙ c.if-eq.true))

pub returns-clause-shared : goal.returns-clause-shared
returns-clause-shared c =
    let m = c.args.merged.now in
    let more = c.add_interface-2.new.merged in
    let x = c.index.result.now in
    let f = c.in-Some-first.first in
    if-both c.add_interface-2.result
    (λ w at fresh.
    alone-other c.args.alone m more (first_in c.args.self.now) c.in-Some.source c.in-Some.is f (sym c.first.ensures ∙ c.in-Some-first.is) w x c.args.interface
    (kept_item m.interfaces more.interfaces c.add_interface-2.ensures.extended.kept.interfaces f.0 x c.index.ensures) at
    (λ e. false≢true (sym c.if-eq.false ∙ (c.eq.ensures ∙ interface-itself x c.args.interface c.requires.unused e))) fresh)
    c.add_interface-2.ensures.added c.add_interface-2.ensures.fresh
