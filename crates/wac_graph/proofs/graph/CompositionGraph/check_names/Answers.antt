-- A refusal names the one fault of the names of the imports and exports.
use Rattle.std.proofs.Common.{◌≡◌, ◌++◌, Bool, List, IsTrue, ap, map, string_bytes, ◌∙◌, subst, sym}
use Rattle.wac_types_shapes.specs.primitives.Name.{Name}
use Rattle.wac_types_shapes.specs.declared.shapes.component.ItemKind.{ItemKind}
use Rattle.wac_merge_classes.specs.entries.Classes.{Entry}
use Rattle.wac_merge_classes.specs.terms.Merge.{import_entries}
use Rattle.wac_names.specs.validation.FirstFault.{IsFirstFault, IsRefusal}
use Rattle.wac_names.specs.validation.Valid.{AreValid}
use Rattle.wac_names.specs.private.validation.Views.{texts}
use Rattle.wac_edges.specs.declared.node.NodeId.{NodeId}
use Rattle.wac_graph_model.specs.nodes.Graph.{Graph, node_at}
use Rattle.wac_graph_model.specs.private.causes.Faults.{validation_failure}
use Rattle.wac_graph_model.specs.causes.OuterNames.{written_exports}
use Rattle.wac_graph_model.specs.private.causes.Search.{NamesFault}
use Rattle.wac_graph_reader.specs.private.reading.PackageNames.{package_names}
use Rattle.wac_graph_encode.specs.private.places.Places.{import_texts, names_of}
use Rattle.wac_graph_reader.proofs.lemmas.writing.CauseLemmas.{exit_cause}
use Rattle.wac_graph_encode.proofs.lemmas.places.OuterNameLemmas.{refusal_names, entry_names}
use Rattle.wac_graph.proofs.graph.CompositionGraph.check_names.Goals as goal
use Rattle.std.specs.Prelude.{Contains, IsSome}

pub package_names-requires : goal.package_names-requires
package_names-requires c = subst (λ g. (n : NodeId) → Contains c.args.order.now n → IsSome (node_at g n)) (sym c.reader-reader.ensures) c.requires.nodes

-- the names of the merge's imports, then those of packages, are the names of the component's imports
imports_are : (g reader : Graph) → reader ≡ g → (d : Bool) (order : List NodeId) (imports : List Entry) (listed : List (Name × ItemKind)) → import_entries listed ≡ imports
    → (merged packages all : List Name) → merged ≡ map (λ (e : Name × ItemKind). e.0) listed → packages ≡ package_names reader d order → all ≡ merged ++ packages
    → all ≡ import_texts g imports d order
imports_are g reader same d order imports listed are merged packages all first second whole =
    let names : merged ≡ names_of imports = first ∙ entry_names listed ∙ ap names_of are in
    let further : packages ≡ package_names g d order = second ∙ ap (λ h. package_names h d order) same in
    whole ∙ (λ i. names i ++ further i)

pub returns-in_err-validate-clause-fault : goal.returns-in_err-validate-clause-fault
returns-in_err-validate-clause-fault c =
    let imports : List Name = import_texts c.args.self.now c.args.merge.now.merge.imports c.args.define_components c.args.order.now in
    let names : List Name = written_exports c.args.self.now c.args.order.now in
    let packages : map string_bytes c.as_slice.result.now ≡ package_names c.reader-reader.result c.args.define_components c.args.order.now = ap (map string_bytes) c.as_slice.ensures.value ∙ c.in_ok-packages.ensures in
    let first : texts c.deref.result.now ≡ imports =
    ap texts c.deref.ensures.value
    ∙ imports_are c.args.self.now c.reader-reader.result c.reader-reader.ensures c.args.define_components c.args.order.now c.args.merge.now.merge.imports c.imports.result.now c.imports.ensures
    _ _ _ c.in_ok-imports.ensures packages c.in_ok-push_names.ensures in
    let same : texts c.deref-2.result.now ≡ names = ap texts c.deref-2.ensures.value ∙ c.in_ok-exports.ensures ∙ ap (λ g. written_exports g c.args.order.now) c.reader-reader.ensures in
    exit_cause (λ e. IsTrue c.args.asked × NamesFault (IsFirstFault imports names) e) c.from_residual-in_err-validate.result (validation_failure (c.in_err-validate.field-0).0) c.from_residual-in_err-validate.ensures.1 (
      c.if-not-asked.false,
      refusal_names (IsFirstFault imports names) (c.one_answer.ensures imports names).one_fault (c.in_err-validate.field-0).0
          (subst (λ ys. IsRefusal (IsFirstFault ys names) (c.in_err-validate.field-0).0) first (subst (λ xs. IsRefusal (IsFirstFault (texts c.deref.result.now) xs) (c.in_err-validate.field-0).0) same c.in_err-validate.ensures)),
    )

pub returns-clause-valid : goal.returns-clause-valid
returns-clause-valid c = λ asked.
    let imports : List Name = import_texts c.args.self.now c.args.merge.now.merge.imports c.args.define_components c.args.order.now in
    let names : List Name = written_exports c.args.self.now c.args.order.now in
    let packages : map string_bytes c.as_slice.result.now ≡ package_names c.reader-reader.result c.args.define_components c.args.order.now = ap (map string_bytes) c.as_slice.ensures.value ∙ c.in_ok-packages.ensures in
    let first : texts c.deref.result.now ≡ imports =
    ap texts c.deref.ensures.value
    ∙ imports_are c.args.self.now c.reader-reader.result c.reader-reader.ensures c.args.define_components c.args.order.now c.args.merge.now.merge.imports c.imports.result.now c.imports.ensures
    _ _ _ c.in_ok-imports.ensures packages c.in_ok-push_names.ensures in
    let same : texts c.deref-2.result.now ≡ names = ap texts c.deref-2.ensures.value ∙ c.in_ok-exports.ensures ∙ ap (λ g. written_exports g c.args.order.now) c.reader-reader.ensures in
    subst (λ ys. AreValid ys names) first (subst (λ xs. AreValid (texts c.deref.result.now) xs) same c.in_ok-validate.ensures)

pub returns-clause-none : goal.returns-clause-none
returns-clause-none c = λ asked f first.
    let imports : List Name = import_texts c.args.self.now c.args.merge.now.merge.imports c.args.define_components c.args.order.now in
    let names : List Name = written_exports c.args.self.now c.args.order.now in
    (c.one_answer.ensures imports names).apart f (returns-clause-valid c asked) first
