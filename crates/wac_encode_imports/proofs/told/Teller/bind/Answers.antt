use Rattle.std.proofs.Common.{ap, sym, ◌∙◌, ◌∷◌}
use Rattle.std.proofs.lemmas.Result.{on_ok_weaker}
use Rattle.wac_types_shapes.specs.primitives.Name.{Name}
use Rattle.wac_types_shapes.specs.primitives.Tree.{named}
use Rattle.wac_types_collection.specs.subtyping.CalledViews.{path_view}
use Rattle.wac_encode_imports.proofs.Telling.{binds-export, binds-none, binds-type, first-none, first-some, found-low, found-none, found-place}
use Rattle.wac_encode_imports.proofs.ToldCosts.{names-same, names-type, names-export}
use Rattle.wac_encode_imports.proofs.told.Teller.bind.Goals as goal

pub returns-in_default-clause-binds : goal.returns-in_default-clause-binds
returns-in_default-clause-binds c =
    let t = c.args.self.now in
    binds-none t c.args.resource c.args.state.now c.args.state.now c.requires.imports (found-none t c.args.resource c.root_binding.result c.root_binding.ensures c.in_default.is)

pub place_at-index-requires : goal.place_at-index-requires
place_at-index-requires c = found-low c.args.self.now c.args.resource c.root_binding.result c.root_binding.ensures c.requires.teller c.in-Some.position c.in-Some.path c.in-Some.is

pub returns-in_default-first-clause-binds : goal.returns-in_default-first-clause-binds
returns-in_default-first-clause-binds c =
    let t = c.args.self.now in
    let place = found-place t c.args.resource c.root_binding.result c.root_binding.ensures c.in-Some.position c.in-Some.path c.in-Some.is in
    on_ok_weaker c.bind_type.result
    (λ records. binds-type t c.args.resource c.args.state.now c.bind_type.new.self c.requires.imports c.in-Some.position (path_view c.in-Some.path.now) place c.place_at-index.result c.place_at-index.ensures (first-none c.in-Some.path.now c.first.result c.first.ensures.value c.in_default-first.is) records)
    c.bind_type.ensures.recorded

pub returns-clause-binds : goal.returns-clause-binds
returns-clause-binds c =
    let t = c.args.self.now in
    let place = found-place t c.args.resource c.root_binding.result c.root_binding.ensures c.in-Some.position c.in-Some.path c.in-Some.is in
    let first = first-some c.in-Some.path.now c.first.result c.first.ensures.value c.in-Some-first.name c.in-Some-first.is in
    let name : Name = c.in_ok-name.name in
    on_ok_weaker c.bind.result
    (λ records. binds-export t c.args.resource c.args.state.now c.bind.new.self c.requires.imports c.in-Some.position (path_view c.in-Some.path.now) place c.place_at-index.result c.place_at-index.ensures name first.0
    (first.1 ∙ ap (λ (n : Name). named n ∷ first.0) (sym (c.in_ok-name.ensures ∙ c.as_str.ensures.value))) records)
    c.bind.ensures.recorded

pub returns-in_default-clause-names : goal.returns-in_default-clause-names
returns-in_default-clause-names c = names-same c.args.self.now c.args.state.now

pub returns-in_default-first-clause-names : goal.returns-in_default-first-clause-names
returns-in_default-first-clause-names c =
    on_ok_weaker c.bind_type.result (λ records. names-type c.args.self.now c.args.resource c.args.state.now c.bind_type.new.self c.place_at-index.result.1 records) c.bind_type.ensures.recorded

pub returns-clause-names : goal.returns-clause-names
returns-clause-names c =
    let place = found-place c.args.self.now c.args.resource c.root_binding.result c.root_binding.ensures c.in-Some.position c.in-Some.path c.in-Some.is in
    let first = first-some c.in-Some.path.now c.first.result c.first.ensures.value c.in-Some-first.name c.in-Some-first.is in
    let name : Name = c.in_ok-name.name in
    on_ok_weaker c.bind.result
    (λ records. names-export c.args.self.now c.args.resource c.args.state.now c.bind.new.self c.in-Some.position (path_view c.in-Some.path.now) place name first.0 (first.1 ∙ ap (λ (n : Name). named n ∷ first.0) (sym (c.in_ok-name.ensures ∙ c.as_str.ensures.value))) c.place_at-index.result.1 records)
    c.bind.ensures.recorded
