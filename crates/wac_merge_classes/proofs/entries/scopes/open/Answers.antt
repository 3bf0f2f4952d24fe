use Rattle.std.proofs.Common.{◌≡◌, true, length, [], ap, ◌∙◌, subst}
use Rattle.wac_types_shapes.specs.primitives.Name.{option_case}
use Rattle.wac_types_collection.specs.collection.Collection.{holds_type}
use Rattle.wac_types_shapes.proofs.lemmas.shapes.Under.{on_ok}
use Rattle.wac_merge_classes.specs.declared.entries.scopes.Opener.{Opener}
use Rattle.wac_merge_classes.specs.entries.Scopes.{opener_type, listed_in}
use Rattle.wac_merge_classes.proofs.lemmas.entries.Opening.{below, opens-listed}
use Rattle.wac_merge_classes.proofs.entries.scopes.open.Goals as goal

pub index-requires-in-Interface : goal.index-requires-in-Interface
index-requires-in-Interface c =
    let t = c.args.types.now in
    below c.in-Interface.id.0 (length t.interfaces) (subst (λ (o : Opener). holds_type t (opener_type o) ≡ true) c.in-Interface.is (c.requires.held c.index.result.now c.index.ensures))

pub index-requires-in-Imports : goal.index-requires-in-Imports
index-requires-in-Imports c =
    let t = c.args.types.now in
    below c.in-Imports.id.0 (length t.worlds) (subst (λ (o : Opener). holds_type t (opener_type o) ≡ true) c.in-Imports.is (c.requires.held c.index.result.now c.index.ensures))

pub index-requires-in-Exports : goal.index-requires-in-Exports
index-requires-in-Exports c =
    let t = c.args.types.now in
    below c.in-Exports.id.0 (length t.worlds) (subst (λ (o : Opener). holds_type t (opener_type o) ≡ true) c.in-Exports.is (c.requires.held c.index.result.now c.index.ensures))

pub returns-in-Interface : goal.returns-in-Interface
returns-in-Interface c =
    let t = c.args.types.now in
    let ss = c.args.scopes.now.keys in
    let s = c.index.result.now in
    let es = c.index-in-Interface.result.now.exports in
    let listed : listed_in t s.opener ≡ es = ap (listed_in t) c.in-Interface.is ∙ ap (λ x. option_case x [] (λ it. it.exports)) c.index-in-Interface.ensures in
    on_ok c.push_listed.result (opens-listed t c.args.known.now c.args.position ss c.push_listed.new.scopes.keys s es c.index.ensures listed) c.push_listed.ensures

pub returns-in-Imports : goal.returns-in-Imports
returns-in-Imports c =
    let t = c.args.types.now in
    let ss = c.args.scopes.now.keys in
    let s = c.index.result.now in
    let es = c.index-in-Imports.result.now.imports in
    let listed : listed_in t s.opener ≡ es = ap (listed_in t) c.in-Imports.is ∙ ap (λ x. option_case x [] (λ it. it.imports)) c.index-in-Imports.ensures in
    on_ok c.push_listed-in-Imports.result (opens-listed t c.args.known.now c.args.position ss c.push_listed-in-Imports.new.scopes.keys s es c.index.ensures listed) c.push_listed-in-Imports.ensures

pub returns-in-Exports : goal.returns-in-Exports
returns-in-Exports c =
    let t = c.args.types.now in
    let ss = c.args.scopes.now.keys in
    let s = c.index.result.now in
    let es = c.index-in-Exports.result.now.exports in
    let listed : listed_in t s.opener ≡ es = ap (listed_in t) c.in-Exports.is ∙ ap (λ x. option_case x [] (λ it. it.exports)) c.index-in-Exports.ensures in
    on_ok c.push_listed-in-Exports.result (opens-listed t c.args.known.now c.args.position ss c.push_listed-in-Exports.new.scopes.keys s es c.index.ensures listed) c.push_listed-in-Exports.ensures
