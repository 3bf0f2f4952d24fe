use Rattle.std.specs.Prelude.{◌≡◌, true, false, []}
use Rattle.std.proofs.Common.{sym, ◌∙◌, subst, refl}
use Rattle.wac_types_shapes.specs.declared.shapes.component.«Type».TheVariants as ty
use Rattle.wac_encode_stacks.specs.Scopes.{defined}
use Rattle.wac_encode_scopes.specs.States.{IsTypeAt}
use Rattle.wac_encode_scopes.proofs.Stepped.{goes-none}
use Rattle.wac_encode_interfaces.specs.private.Ready.{IsInterfaceAt}
use Rattle.wac_encode_interfaces.specs.private.Worlds.{written_in}
use Rattle.wac_encode_interfaces.proofs.Ended.{level-around, closed-level, closed-at, closed-into}
use Rattle.wac_encode_interfaces.proofs.Refused.{closed-open, dropped-open, err-of}
use Rattle.wac_encode_interfaces.proofs.Charged.{closed-recorded, record-no-room}
use Rattle.wac_encode_interfaces.proofs.Answered.{closed-shorter, closes-no-room, exit-large, no-room-of}
use Rattle.wac_encode_scopes.proofs.Priced.{closes-priced}
use Rattle.wac_encode_interfaces.proofs.Besides.{same-items}
use Rattle.wac_encode_interfaces.proofs.writer.TypeWriter.close_level.Goals as goal

pub close-requires-clause-around : goal.close-requires-clause-around
close-requires-clause-around c = level-around c.args.self.now.types.now c.args.self.now.merged (written_in c.args.self.now.worlds.now) c.args.state.now c.args.level.now c.requires.under_way.0 c.requires.under_way.1

pub close-requires-clause-instance : goal.close-requires-clause-instance
close-requires-clause-instance c = c.requires.under_way.1.3.0.here.0

pub close-requires-clause-imports : goal.close-requires-clause-imports
close-requires-clause-imports c = c.requires.under_way.1.3.0.here.1

pub returns-then-level-clause-closed : goal.returns-then-level-clause-closed
returns-then-level-clause-closed c = λ i cut old ks nest ready.
    (let t = c.args.self.now.types.now in
    let b = c.args.self.now.merged in
    let s = c.args.state.now in
    let u = c.close.new.self in
    let l = c.args.level.now in
    let k = c.in_ok-index.index in
    let still = goes-none c.still_law.ensures b u t in
    let closed = closed-level c.listing_law.ensures.lists_in_any_order c.closing_law.ensures.holds_interface t c.law.ensures b i cut old s u l ks k nest ready c.requires.ended c.in_ok-index.ensures.closes in
    closed-into c.step_law.ensures.follows t b i cut old s u u l ks k nest ready c.in_ok-index.ensures.closes c.in_ok-index.ensures.written still (closed-at c.bringing_law.ensures.good_once t b u u l k closed still))

pub returns-then-level-clause-recorded : goal.returns-then-level-clause-recorded
returns-then-level-clause-recorded c = λ whole. (let no : true ≡ false = sym c.if-level.true ∙ whole in cc)

pub returns-clause-closed : goal.returns-clause-closed
returns-clause-closed c = λ i cut old ks nest ready.
    (let t = c.args.self.now.types.now in
    let b = c.args.self.now.merged in
    let s = c.args.state.now in
    let u = c.close.new.self in
    let v = c.record.new.self in
    let l = c.args.level.now in
    let k = c.in_ok-index.index in
    let still = goes-none c.still_law.ensures b u t in
    let closed = closed-level c.listing_law.ensures.lists_in_any_order c.closing_law.ensures.holds_interface t c.law.ensures b i cut old s u l ks k nest ready c.requires.ended c.in_ok-index.ensures.closes in
    let at : IsTypeAt t b u (ty.Interface l.interface) k = subst (λ x. IsInterfaceAt t b u x l.interface k) c.if-level.false (closed-at c.bringing_law.ensures.good_once t b u u l k closed still) in
    let goes = c.in_ok-record.ensures.goes t at in
    closed-into c.step_law.ensures.follows t b i cut old s u v l ks k nest ready c.in_ok-index.ensures.closes c.in_ok-index.ensures.written goes (closed-at c.bringing_law.ensures.good_once t b u v l k closed goes))

pub returns-clause-recorded : goal.returns-clause-recorded
returns-clause-recorded c = λ whole. (defined, c.in_ok-record.ensures.recorded)

pub returns-in_err-index-clause-refused : goal.returns-in_err-index-clause-refused
returns-in_err-index-clause-refused c = err-of c.from_residual.result (dropped-open c.args.state.now c.close.new.self c.in_err-index.ensures.refused)

pub returns-in_err-record-clause-refused : goal.returns-in_err-record-clause-refused
returns-in_err-record-clause-refused c = err-of c.from_residual-in_err-record.result (closed-open c.args.state.now c.close.new.self c.record.new.self c.in_ok-index.ensures.written c.record.ensures.types)

pub returns-then-level-clause-paid : goal.returns-then-level-clause-paid
returns-then-level-clause-paid c =
    λ priced. c.in_ok-index.ensures.paid c.args.self.now.types.now c.args.self.now.merged

pub returns-clause-paid : goal.returns-clause-paid
returns-clause-paid c =
    λ priced. closed-recorded c.args.self.now.types.now c.args.self.now.merged c.args.state.now c.close.new.self c.record.new.self (c.in_ok-index.ensures.paid c.args.self.now.types.now c.args.self.now.merged) (c.in_ok-record.ensures.paid c.args.self.now.types.now (λ h. refl) (closes-priced c.args.self.now.merged c.args.state.now c.close.new.self c.in_ok-index.ensures.written priced)) (same-items c.record.new.self c.close.new.self c.in_ok-record.ensures.records.around)

pub returns-in_err-index-clause-room : goal.returns-in_err-index-clause-room
returns-in_err-index-clause-room c =
    λ h priced. closes-no-room c.args.self.now.types.now c.args.self.now.merged c.args.state.now c.close.new.self _ (exit-large _ c.from_residual.result c.from_residual.ensures.1 h) (c.in_err-index.ensures.paid c.args.self.now.types.now c.args.self.now.merged)

pub returns-in_err-record-clause-room : goal.returns-in_err-record-clause-room
returns-in_err-record-clause-room c =
    λ h priced.
    (let is = exit-large _ c.from_residual-in_err-record.result c.from_residual-in_err-record.ensures.1 h in
    record-no-room c.args.self.now.types.now c.args.self.now.merged c.args.state.now c.close.new.self (c.in_ok-index.ensures.paid c.args.self.now.types.now c.args.self.now.merged) (closed-shorter c.args.state.now c.close.new.self c.in_ok-index.ensures.written) (no-room-of c.args.self.now.types.now c.args.self.now.merged [] 0 c.close.new.self _ is (c.in_err-record.ensures.paid c.args.self.now.types.now (λ e. refl) (closes-priced c.args.self.now.merged c.args.state.now c.close.new.self c.in_ok-index.ensures.written priced))))
