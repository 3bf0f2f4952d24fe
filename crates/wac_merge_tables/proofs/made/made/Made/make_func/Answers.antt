use Rattle.std.proofs.Common.{refl, sym, ◌∙◌}
use Rattle.wac_merge_tables.specs.made.Made.{IsOfForm}
use Rattle.wac_merge_tables.specs.declared.made.made.FuncForm.{FuncForm}
use Rattle.wac_merge_tables.proofs.lemmas.made.Extending.{extended_none, kept_item, still_changed, still_there}
use Rattle.wac_merge_tables.proofs.lemmas.made.MadeForms.{func_apart_too, func_put_stays, func_there, func_there_too, is_of_form}
use Rattle.wac_merge_tables.proofs.made.made.Made.make_func.Goals as goal

pub returns-in-Some-clause-extended : goal.returns-in-Some-clause-extended
returns-in-Some-clause-extended c = extended_none c.args.merged.now

pub returns-in-Some-clause-added : goal.returns-in-Some-clause-added
returns-in-Some-clause-added c =
    let k : FuncForm = record { func = c.args.of; params = c.in_ok-params.params; result = c.args.func.result } in
    record {
      extended = extended_none c.args.merged.now;
      there = is_of_form c.args.merged.now k c.in-Some.id c.args.func (c.requires.made.funcs k c.in-Some.id (sym c.func.ensures ∙ c.in-Some.is)) c.requires.alike c.in_ok-params.ensures refl;
    }

pub returns-in-Some-clause-once : goal.returns-in-Some-clause-once
returns-in-Some-clause-once c =
    let k : FuncForm = record { func = c.args.of; params = c.in_ok-params.params; result = c.args.func.result } in
    (k, refl, c.in_ok-params.ensures, refl, sym c.func.ensures ∙ c.in-Some.is)

pub returns-clause-made : goal.returns-clause-made
returns-clause-made c =
    let old = c.args.merged.now in
    let new = c.add_func.new.merged in
    let k : FuncForm = record { func = c.args.of; params = c.in_ok-params.params; result = c.args.func.result } in
    let x = c.add_func.ensures.extended in
    let (b, at, alike) = c.requires.alike in
    let of : IsOfForm new k c.in_ok-id.id = record {
      after = c.args.func;
      is = c.in_ok-id.ensures.added.there;
      alike = (b, kept_item old.funcs new.funcs x.kept.funcs c.args.of.0 b at, alike);
      changed = still_changed old new x c.args.of b c.args.func at c.requires.changed;
      params = sym c.in_ok-params.ensures;
      result = refl;
    } in
    func_there_too new c.args.self.now c.put_func.new.self k c.in_ok-id.id c.in_ok-put_func.ensures (still_there old new x c.args.self.now c.requires.made) of

pub returns-clause-apart : goal.returns-clause-apart
returns-clause-apart c first t apart =
    let k : FuncForm = record { func = c.args.of; params = c.in_ok-params.params; result = c.args.func.result } in
    func_apart_too c.args.merged.now c.args.self.now c.put_func.new.self k c.in_ok-id.id c.in_ok-put_func.ensures first t apart

pub returns-clause-once : goal.returns-clause-once
returns-clause-once c =
    let k : FuncForm = record { func = c.args.of; params = c.in_ok-params.params; result = c.args.func.result } in
    (k, refl, c.in_ok-params.ensures, refl, func_there c.args.merged.now c.args.self.now c.put_func.new.self k c.in_ok-id.id c.in_ok-put_func.ensures)

pub returns-clause-stay : goal.returns-clause-stay
returns-clause-stay c =
    let k : FuncForm = record { func = c.args.of; params = c.in_ok-params.params; result = c.args.func.result } in
    func_put_stays c.args.merged.now c.args.self.now c.put_func.new.self k c.in_ok-id.id c.in_ok-put_func.ensures (λ g is. c.in_default.not-Some g (c.func.ensures ∙ is))
