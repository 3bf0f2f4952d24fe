use Rattle.std.proofs.Common.{◌≡◌, ◌++◌, [], ◌∷◌, true, refl, ap, sym, subst}
use Rattle.wac_types_shapes.specs.declared.shapes.component.ItemKind.TheVariants.{Component}
use Rattle.wac_types_shapes.specs.declared.shapes.component.WorldId.{WorldId}
use Rattle.wac_types_shapes.specs.declared.shapes.component.«Type».TheVariants.{World}
use Rattle.wac_types_collection.specs.collection.Collection.{Collection, holds_type}
use Rattle.wac_graph_model.specs.nodes.Graph.{Graph}
use Rattle.wac_graph_model.specs.nodes.Asked.{Entry}
use Rattle.wac_graph_model.specs.nodes.Entries.{with_used}
use Rattle.wac_graph_model.specs.causes.TypeFaults.{wanted_at}
use Rattle.wac_graph_fields.specs.private.EntriesLeft.{entries_of, all_with_used, asked_at, AsksAlike}
use Rattle.wac_graph_fields.proofs.AskingTasks.{on_ok}
use Rattle.wac_graph_reader.proofs.lemmas.writing.AskingWalk.{both_parts, one_number}
use Rattle.wac_graph_reader.proofs.lemmas.writing.WantedLemmas.{defined_wanted, imported_wanted}
use Rattle.wac_graph.proofs.graph.CompositionGraph.ask_instance.Goals as goal

pub returns-then-define_components-clause-stands : goal.returns-then-define_components-clause-stands
returns-then-define_components-clause-stands c =
    let g = c.args.self.now in
    let n = c.args.n in
    let d = c.args.define_components in
    subst (λ es. AsksAlike g.types (entries_of c.args.asking.now ++ all_with_used g.types es) (entries_of c.ask_unset.new.asking))
    (sym (defined_wanted g d n c.if-define_components.true c.requires.instantiation)) c.in_ok-ask_unset.ensures.stands

pub ask-requires-clause-held : goal.ask-requires-clause-held
ask-requires-clause-held c =
    let g = c.args.self.now in
    let types : c.self.inside.types ≡ g.types = ap (λ (h : Graph). h.types) c.self.view_is in
    subst (λ (t : Collection). holds_type t (World c.ty.result) ≡ true) (sym types)
    (subst (λ (w : WorldId). holds_type g.types (World w) ≡ true) (sym c.ty.ensures) (c.law.ensures.packages c.package_of.result.0 c.package_of.result.1.now c.package_of.ensures.registered).0)

pub returns-clause-stands : goal.returns-clause-stands
returns-clause-stands c =
    let g = c.args.self.now in
    let n = c.args.n in
    let d = c.args.define_components in
    let p = c.package_of.result.1.now in
    let old = entries_of c.args.asking.now in
    let mid = entries_of c.ask_unset.new.asking in
    let new = entries_of c.ask.new.self in
    let e : Entry = record { name = []; kind = Component p.world; node = n } in
    let types : c.self.inside.types ≡ g.types = ap (λ (h : Graph). h.types) c.self.view_is in
    let is : wanted_at g d n ≡ asked_at g n ++ e ∷ [] = imported_wanted g d n c.package_of.result.0 p c.if-define_components.false c.requires.instantiation c.package_of.ensures.owner c.package_of.ensures.registered in
    on_ok c.ask.result
    (λ s. both_parts g.types old mid new (asked_at g n) (e ∷ []) (wanted_at g d n) is c.in_ok-ask_unset.ensures.stands
    (one_number g.types mid new e (e ∷ []) refl
    (subst (λ (t : Collection). AsksAlike t (mid ++ with_used t e) new) types
    (subst (λ (w : WorldId). AsksAlike c.self.inside.types (mid ++ with_used c.self.inside.types (record { name = []; kind = Component w; node = n })) new) c.ty.ensures s))))
    c.ask.ensures.stands
