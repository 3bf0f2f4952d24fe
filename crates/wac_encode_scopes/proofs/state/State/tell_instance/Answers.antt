use Rattle.std.proofs.Common.{◌≡◌, Bool, Some, ◌∙◌, sym, subst, [], refl}
use Rattle.wac_types_shapes.specs.declared.shapes.component.DefinedTypeId.{DefinedTypeId}
use Rattle.wac_types_shapes.specs.declared.shapes.component.ResourceId.{ResourceId}
use Rattle.wac_types_shapes.specs.declared.shapes.component.Interface.{Interface}
use Rattle.wac_binary.specs.declared.fault.BinaryFault.TheVariants.{OutOfMemory}
use Rattle.wac_encode_scopes.specs.Contents.{AddsTypes, content_of}
use Rattle.wac_encode_scopes.specs.private.Closed.{is_closed_in}
use Rattle.wac_encode_scopes.specs.private.Telling.{is_one_of, is_other, TellsInstance}
use Rattle.wac_encode_scopes.specs.private.Told.{TellsItems}
use Rattle.wac_encode_scopes.proofs.Added.{adds-none}
use Rattle.wac_encode_scopes.proofs.OtherOwn.{apart-as}
use Rattle.wac_encode_scopes.proofs.Owned.{sound-named}
use Rattle.wac_encode_scopes.proofs.Stepped.{on-ok, all-here, all-none, records-here}
use Rattle.wac_encode_scopes.proofs.Telling.{sound-held, telling-changes, tells-instance}
use Rattle.wac_encode_scopes.proofs.Tolls.{pays-told}
use Rattle.wac_encode_scopes.proofs.Paying.{memory-answer, records-answer, paid-here}
use Rattle.wac_encode_scopes.specs.private.Paid.{IsAnswerPaid, telling_cost}
use Rattle.wac_encode_scopes.proofs.Charges.{Pays}
use Rattle.wac_encode_scopes.specs.Books.{opened}
use Rattle.wac_encode_stacks.specs.Scopes.{Open}
use Rattle.wac_encode_scopes.proofs.state.State.tell_instance.Goals as goal

pub apart_items-requires-clause-held : goal.apart_items-requires-clause-held
apart_items-requires-clause-held c = sound-held c.args.types.now c.uses_law.ensures c.args.interface c.index-it.result.now c.index-it.ensures

pub bind_own-requires : goal.bind_own-requires
bind_own-requires c = sound-named c.args.types.now c.uses_law.ensures c.args.interface c.index-it.result.now c.index-it.ensures

pub returns-in_err-others-clause-types : goal.returns-in_err-others-clause-types
returns-in_err-others-clause-types c = all-none c.args.self.now

pub returns-in_err-told-clause-types : goal.returns-in_err-told-clause-types
returns-in_err-told-clause-types c = all-none c.args.self.now

pub returns-in_err-bind_own-clause-types : goal.returns-in_err-bind_own-clause-types
returns-in_err-bind_own-clause-types c = all-here c.args.self.now c.bind_own.new.self (subst (AddsTypes c.args.self.now.here.content) (sym c.bind_own.ensures.content) (adds-none c.args.self.now.here.content))

pub returns-clause-types : goal.returns-clause-types
returns-clause-types c = all-here c.args.self.now c.tell_values.new.self (subst (AddsTypes c.args.self.now.here.content) (sym (c.tell_values.ensures.content ∙ c.bind_own.ensures.content)) (adds-none c.args.self.now.here.content))

pub returns-clause-recorded : goal.returns-clause-recorded
returns-clause-recorded c =
    let t = c.args.types.now in
    let held = c.index-it.result.now in
    let own : ResourceId → Bool = is_one_of c.args.own.now.keys in
    let test : DefinedTypeId → Bool = is_closed_in c.in_ok-told.told in
    on-ok c.tell_values.result (λ last it at.
    let some : Some held ≡ Some it = sym c.index-it.ensures ∙ at in
    let same : held ≡ it = cc in
    subst (λ (x : Interface). TellsItems t c.args.merged x own c.args.instance c.args.self.now (record c.args.self.now { here = c.tell_values.new.self })) same
    (record {
      told = test;
      apart = apart-as t held.exports (is_one_of c.in_ok-others.others.keys) (is_other t held own) test c.in_ok-others.ensures c.in_ok-told.ensures;
      records = records-here c.args.merged _ c.args.self.now c.tell_values.new.self (c.tell_values.ensures.content ∙ c.bind_own.ensures.content)
          (telling-changes t held own test c.args.instance c.args.merged c.args.self.now.here c.bind_own.new.self c.tell_values.new.self c.in_ok-bind_own.ensures.recorded last);
    })) c.tell_values.ensures.recorded

pub returns-clause-tells : goal.returns-clause-tells
returns-clause-tells c =
    let t = c.args.types.now in
    let held = c.index-it.result.now in
    let own : ResourceId → Bool = is_one_of c.args.own.now.keys in
    let test : DefinedTypeId → Bool = is_closed_in c.in_ok-told.told in
    on-ok c.tell_values.result (λ last it at.
    let some : Some held ≡ Some it = sym c.index-it.ensures ∙ at in
    let same : held ≡ it = cc in
    subst (λ (x : Interface). TellsInstance t c.args.merged x own c.args.instance c.args.self.now (record c.args.self.now { here = c.tell_values.new.self })) same
    (tells-instance c.closing_law.ensures.binds_more c.instance_law.ensures.has_own c.instance_law.ensures.has_exported c.still_law.ensures t c.law.ensures c.args.merged held
    (sound-named t c.uses_law.ensures c.args.interface held c.index-it.ensures) c.law-2.ensures (sound-held t c.uses_law.ensures c.args.interface held c.index-it.ensures) own test
    (apart-as t held.exports (is_one_of c.in_ok-others.others.keys) (is_other t held own) test c.in_ok-others.ensures c.in_ok-told.ensures) c.args.instance c.args.self.now c.tell_values.new.self
    (telling-changes t held own test c.args.instance c.args.merged c.args.self.now.here c.bind_own.new.self c.tell_values.new.self c.in_ok-bind_own.ensures.recorded last).0)) c.tell_values.ensures.recorded

pub returns-in_err-others-clause-paid : goal.returns-in_err-others-clause-paid
returns-in_err-others-clause-paid c it at none priced = memory-answer c.args.types.now c.args.merged [] (telling_cost c.args.merged (content_of c.args.self.now.here.content) it.exports) c.args.self.now _ OutOfMemory c.from_residual.result c.from_residual.ensures.1 refl

pub returns-in_err-told-clause-paid : goal.returns-in_err-told-clause-paid
returns-in_err-told-clause-paid c it at none priced = memory-answer c.args.types.now c.args.merged [] (telling_cost c.args.merged (content_of c.args.self.now.here.content) it.exports) c.args.self.now _ OutOfMemory c.from_residual-in_err-told.result c.from_residual-in_err-told.ensures.1 refl

pub returns-in_err-bind_own-clause-paid : goal.returns-in_err-bind_own-clause-paid
returns-in_err-bind_own-clause-paid c it at none priced = memory-answer c.args.types.now c.args.merged [] (telling_cost c.args.merged (content_of c.args.self.now.here.content) it.exports) c.args.self.now _ _ c.from_residual-in_err-bind_own.result c.from_residual-in_err-bind_own.ensures.1 c.in_err-bind_own.ensures.memory

pub returns-clause-paid : goal.returns-clause-paid
returns-clause-paid c it at none priced =
    let t = c.args.types.now in
    let held = c.index-it.result.now in
    let own : ResourceId → Bool = is_one_of c.args.own.now.keys in
    let test : DefinedTypeId → Bool = is_closed_in c.in_ok-told.told in
    let some : Some held ≡ Some it = sym c.index-it.ensures ∙ at in
    let same : held ≡ it = cc in
    subst (λ (x : Interface). IsAnswerPaid t c.args.merged [] (telling_cost c.args.merged (content_of c.args.self.now.here.content) x.exports) c.args.self.now (record c.args.self.now { here = c.tell_values.new.self }) c.tell_values.result) same
    (records-answer t c.args.merged [] (telling_cost c.args.merged (content_of c.args.self.now.here.content) held.exports) c.args.self.now (record c.args.self.now { here = c.tell_values.new.self }) c.tell_values.result
    (on-ok c.tell_values.result (λ last.
    paid-here t c.args.merged [] (telling_cost c.args.merged (content_of c.args.self.now.here.content) held.exports) c.args.self.now (record c.args.self.now { here = c.tell_values.new.self }) refl
    (subst (λ (p : Open). Pays t c.args.merged [] (telling_cost c.args.merged (content_of c.args.self.now.here.content) held.exports) (opened c.args.merged c.args.self.now.here) p)
    (sym (telling-changes t held own test c.args.instance c.args.merged c.args.self.now.here c.bind_own.new.self c.tell_values.new.self c.in_ok-bind_own.ensures.recorded last).0)
    (pays-told t held own test c.args.instance (opened c.args.merged c.args.self.now.here) c.args.merged none))) c.tell_values.ensures.recorded) c.tell_values.ensures.memory)
