use Rattle.std.proofs.Common.{sym, refl, ◌∙◌}
use Rattle.wac_encode_stacks.specs.Scopes.{index_at, listed, defined}
use Rattle.wac_encode_scopes.proofs.Stepped.{goes-none, all-none}
use Rattle.wac_encode_interfaces.proofs.Written.{on-ok, named-at}
use Rattle.wac_encode_scopes.proofs.Paying.{pays-nothing}
use Rattle.std.specs.Prelude.{◌≡◌, []}
use Rattle.wac_encode_interfaces.proofs.writer.TypeWriter.record_item.Goals as goal

pub returns-in_default-clause-goes : goal.returns-in_default-clause-goes
returns-in_default-clause-goes c = λ h. goes-none c.still_law.ensures c.args.self.now.merged c.args.state.now c.args.self.now.types.now

pub returns-in_default-clause-records : goal.returns-in_default-clause-records
returns-in_default-clause-records c = ((λ o. o), record { here = refl; other = refl; content = refl; around = refl })

pub returns-then-is_listed-clause-goes : goal.returns-then-is_listed-clause-goes
returns-then-is_listed-clause-goes c = λ h. goes-none c.still_law.ensures c.args.self.now.merged c.args.state.now c.args.self.now.types.now

pub returns-then-is_listed-clause-records : goal.returns-then-is_listed-clause-records
returns-then-is_listed-clause-records c = ((λ o. o), record { here = refl; other = refl; content = refl; around = refl })

pub returns-clause-goes : goal.returns-clause-goes
returns-clause-goes c =
    let t = c.args.self.now.types.now in
    let b = c.args.self.now.merged in
    on-ok c.record.result (λ h names. h t (named-at t c.law.ensures b c.args.state.now c.args.item c.in-Some.ty c.args.index (sym c.recorded_type.ensures ∙ c.in-Some.is) names)) c.record.ensures.goes

pub returns-clause-records : goal.returns-clause-records
returns-clause-records c = on-ok c.record.result (λ h. (index_at c.in-Some.ty listed c.args.index, h)) c.record.ensures.records

pub returns-in_default-clause-types : goal.returns-in_default-clause-types
returns-in_default-clause-types c = all-none c.args.state.now

pub returns-then-is_listed-clause-types : goal.returns-then-is_listed-clause-types
returns-then-is_listed-clause-types c = all-none c.args.state.now

pub returns-in_default-clause-paid : goal.returns-in_default-clause-paid
returns-in_default-clause-paid c priced =
    pays-nothing c.args.self.now.types.now c.args.self.now.merged [] c.args.state.now

pub returns-then-is_listed-clause-paid : goal.returns-then-is_listed-clause-paid
returns-then-is_listed-clause-paid c priced =
    pays-nothing c.args.self.now.types.now c.args.self.now.merged [] c.args.state.now

pub returns-clause-paid : goal.returns-clause-paid
returns-clause-paid c priced =
    c.record.ensures.paid c.args.self.now.types.now (λ same. (let no : listed ≡ defined = same in cc)) priced
