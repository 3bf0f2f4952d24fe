use Rattle.std.proofs.Common.{◌≡◌, None, [], ◌∷◌, ap, subst}
use Rattle.wac_types_collection.specs.collection.Bound.{Bindings}
use Rattle.wac_encode_stacks.specs.Good.{top}
use Rattle.wac_encode_scopes.specs.Roots.{ImportsResource}
use Rattle.wac_encode_scopes.specs.States.{stack}
use Rattle.wac_encode.specs.declared.state.State.{State}
use Rattle.wac_encode.specs.Imported.{ImportsBound}
use Rattle.wac_encode.specs.Root.{IsStateFor}
use Rattle.wac_encode.proofs.Results.{if-with, on-with}
use Rattle.wac_encode.proofs.Importing.{appends-new, imports-new}
use Rattle.wac_encode.proofs.encoder.TypeEncoder.import_fresh.Goals as goal

pub import_fresh-requires : goal.import_fresh-requires
import_fresh-requires c = c.requires.unbound.1.root

pub returns-clause-imports : goal.returns-clause-imports
returns-clause-imports c =
    let t = c.args.self.now.types.now in
    let b = c.args.self.now.merged in
    let old = c.args.state.now in
    let r = c.args.resource in
    let new : State = record { scopes = c.import_fresh.new.self } in
    let h0 = c.requires.unbound.1 in
    if-with (ImportsResource b r old.scopes new.scopes) (λ k. (m : Bindings) → IsStateFor t b m old → ImportsBound t b c.args.name.now r m (m r) old new k) c.import_fresh.result (λ k imports content m h. imports-new c.beside_law.ensures.goes_on_beside c.root_law.ensures.lists_import t b c.args.name.now r old new k imports content c.requires.held m h
    (subst (λ (n : Bindings). n r ≡ None) (ap top (c.bringing_law.ensures.good_once t (c.requires.unbound.0 ∷ []) (m ∷ []) (stack b old.scopes) h0.good h.good)) c.requires.unbound.2)) c.import_fresh.ensures.imports c.import_fresh.ensures.content

pub returns-clause-appends : goal.returns-clause-appends
returns-clause-appends c =
    let t = c.args.self.now.types.now in
    let b = c.args.self.now.merged in
    let old = c.args.state.now in
    let r = c.args.resource in
    let new : State = record { scopes = c.import_fresh.new.self } in
    let h0 = c.requires.unbound.1 in
    on-with (ImportsResource b r old.scopes new.scopes) c.import_fresh.result (λ k imports content. appends-new c.beside_law.ensures.goes_on_beside c.root_law.ensures.lists_import t b c.args.name.now r old new k imports content c.requires.held c.requires.unbound.0 h0 c.requires.unbound.2) c.import_fresh.ensures.imports c.import_fresh.ensures.content
