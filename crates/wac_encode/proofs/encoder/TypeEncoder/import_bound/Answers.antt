use Rattle.std.proofs.Common.{sym, subst}
use Rattle.wac_binary.specs.declared.sorts.Description.TheVariants as e
use Rattle.wac_types_collection.specs.collection.Bound.{Bindings}
use Rattle.wac_encode_scopes.specs.Roots.{ImportsItem}
use Rattle.wac_encode_scopes.specs.States.{AllAddTypes}
use Rattle.wac_encode.specs.declared.state.State.{State}
use Rattle.wac_encode.specs.Imported.{ImportsBound}
use Rattle.wac_encode.specs.Root.{IsStateFor}
use Rattle.wac_encode.proofs.Results.{if-with, on-err, on-with}
use Rattle.wac_encode.proofs.Roots.{root-more}
use Rattle.wac_encode.proofs.Importing.{appends-equal, imports-equal}
use Rattle.wac_encode.proofs.encoder.TypeEncoder.import_bound.Goals as goal

pub bring_resource-requires : goal.bring_resource-requires
bring_resource-requires c = c.requires.bound.2

pub import-requires : goal.import-requires
import-requires c =
    let t = c.args.self.now.types.now in
    let b = c.args.self.now.merged in
    root-more c.args.state.now.scopes.here.content c.bring_resource.new.self.here.content c.requires.root (c.in_ok-index.ensures.goes t).types.0

pub returns-clause-imports : goal.returns-clause-imports
returns-clause-imports c =
    let t = c.args.self.now.types.now in
    let b = c.args.self.now.merged in
    let old = c.args.state.now in
    let r = c.args.resource in
    let mid : State = record { scopes = c.bring_resource.new.self } in
    let new : State = record { scopes = c.import.new.self } in
    let goes = c.in_ok-index.ensures.goes in
    if-with (ImportsItem (e.Equal c.in_ok-index.index) mid.scopes new.scopes) (λ k. (m : Bindings) → IsStateFor t b m old → ImportsBound t b c.args.name.now r m (m r) old new k) c.import.result (λ k imports content m h. imports-equal c.beside_law.ensures.goes_on_beside c.step_law.ensures.follows c.root_law.ensures.lists_import t b c.args.name.now r old mid new c.in_ok-index.index k goes c.in_ok-index.ensures.is imports content m h) c.import.ensures.imports c.import.ensures.content

pub returns-clause-appends : goal.returns-clause-appends
returns-clause-appends c =
    let t = c.args.self.now.types.now in
    let b = c.args.self.now.merged in
    let old = c.args.state.now in
    let r = c.args.resource in
    let mid : State = record { scopes = c.bring_resource.new.self } in
    let new : State = record { scopes = c.import.new.self } in
    let goes = c.in_ok-index.ensures.goes in
    on-with (ImportsItem (e.Equal c.in_ok-index.index) mid.scopes new.scopes) c.import.result (λ k imports content. appends-equal c.beside_law.ensures.goes_on_beside c.step_law.ensures.follows c.root_law.ensures.lists_import t b c.args.name.now r old mid new c.in_ok-index.index k goes c.in_ok-index.ensures.is imports content c.requires.bound.0 c.requires.bound.1) c.import.ensures.imports c.import.ensures.content

pub returns-clause-refused : goal.returns-clause-refused
returns-clause-refused c = on-err c.import.result (λ same. subst (AllAddTypes c.args.state.now.scopes) (sym same) c.bring_resource.ensures.types) c.import.ensures.refused
