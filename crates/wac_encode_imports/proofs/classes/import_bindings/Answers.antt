use Rattle.std.proofs.Common.{◌≡◌, List, IfOk, sym, ◌∙◌, subst}
use Rattle.wac_merge_classes.specs.entries.Bindings.{AreBindings, AreHeld}
use Rattle.wac_merge_classes.specs.entries.Classes.{Entry}
use Rattle.wac_merge_classes.specs.terms.Merge.{import_entries}
use Rattle.wac_encode_imports.proofs.classes.import_bindings.Goals as goal

pub new-requires-2-clause-held : goal.new-requires-2-clause-held
new-requires-2-clause-held c =
    let same : c.as_slice-asked.result.now ≡ import_entries c.args.imports.now = c.as_slice-asked.ensures.value ∙ c.in_ok-entries.ensures in
    subst (λ (es : List Entry). AreHeld c.args.types.now es) (sym same) c.requires

pub returns : goal.returns
returns c =
    let same : c.as_slice-asked.result.now ≡ import_entries c.args.imports.now = c.as_slice-asked.ensures.value ∙ c.in_ok-entries.ensures in
    subst (λ (es : List Entry). IfOk c.new-2.result (λ b. AreBindings c.args.types.now es b)) same c.new-2.ensures
