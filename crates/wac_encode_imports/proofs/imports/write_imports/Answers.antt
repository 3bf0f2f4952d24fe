use Rattle.std.proofs.Common.{◌≡◌, List, IfOk, sym, ◌∙◌, subst}
use Rattle.wac_types_collection.specs.collection.Collection.{Collection, IsWellFormed}
use Rattle.wac_types_collection.specs.collection.Names.{ExportsOnce}
use Rattle.wac_merge_classes.specs.entries.Bindings.{AreBindings, AreHeld}
use Rattle.wac_merge_classes.specs.entries.Classes.{Entry}
use Rattle.wac_merge_classes.specs.terms.Merge.{Merged}
use Rattle.wac_encode_scopes.specs.private.Closed.{AreClosedTypes}
use Rattle.wac_encode_interfaces.specs.private.Worlds.{AreWorldTypes, written_in}
use Rattle.wac_encode_imports.specs.private.Imports.{AreImported}
use Rattle.wac_encode_imports.specs.private.Written.{AreCleanImports, AreWritable, HaveImportWorlds, IsImportWriter}
use Rattle.wac_encode_imports.proofs.Given.{clean-imports}
use Rattle.wac_merge_imports.specs.unions.Lighter.{types_of}
use Rattle.wac_encode_interfaces.specs.private.Paid.{AreSmallWorlds, IsHeavy}
use Rattle.wac_encode_imports.specs.private.Small.{ImportsWithin}
use Rattle.wac_encode_imports.proofs.ImportPaying.{imports-memory, worlds-heavy, entries-heavy}
use Rattle.wac_encode_imports.proofs.imports.write_imports.Goals as goal

-- The types and imports that the code reads are those of the merge.
same-merge : (a : Collection) (b : List Entry) (m : Merged) → a ≡ m.types → b ≡ m.imports → record { types = a; imports = b } ≡ m
same-merge a b m x y = λ j. record { types = x j; imports = y j }

pub import_bindings-requires : goal.import_bindings-requires
import_bindings-requires c = subst (λ (m : Merged). AreHeld m.types m.imports) (sym (same-merge _ _ c.args.merge.now.merge c.types-types.ensures c.imports-imports.ensures)) c.requires.held

pub import_worlds-requires-clause-held : goal.import_worlds-requires-clause-held
import_worlds-requires-clause-held c = subst (λ (m : Merged). AreHeld m.types m.imports) (sym (same-merge _ _ c.args.merge.now.merge c.types-types.ensures c.imports-imports.ensures)) c.requires.held

pub import_worlds-requires-clause-clean : goal.import_worlds-requires-clause-clean
import_worlds-requires-clause-clean c = subst (λ (m : Merged). AreCleanImports m.types m.imports) (sym (same-merge _ _ c.args.merge.now.merge c.types-types.ensures c.imports-imports.ensures)) (clean-imports c.args.merge.now.merge c.requires.clean)

-- All premises for the merge itself; where a premise speaks of what the code read, it is carried over.
pub write_all-requires : goal.write_all-requires
write_all-requires c =
    let m = c.args.merge.now.merge in
    let same = same-merge _ _ m c.types-types.ensures c.imports-imports.ensures in
    let ordered = subst IsWellFormed c.types-types.ensures c.law.ensures in
    let once = subst ExportsOnce c.types-types.ensures c.names_law.ensures.interfaces in
    let closed = subst (λ (x : Collection). AreClosedTypes x c.in_ok-closed.closed) c.types-types.ensures c.in_ok-closed.ensures in
    let bindings = subst (λ (x : Merged). AreBindings x.types x.imports c.in_ok-bindings.bindings) same c.in_ok-bindings.ensures in
    let written = subst (λ (x : Collection). AreWorldTypes x (written_in c.in_ok-worlds.worlds)) c.types-types.ensures c.in_ok-worlds.ensures.written in
    let sizes = subst (λ (x : Collection). AreSmallWorlds x (written_in c.in_ok-worlds.worlds)) c.types-types.ensures c.in_ok-worlds.ensures.sizes in
    let worlds = subst (λ (x : Merged). HaveImportWorlds x.types (written_in c.in_ok-worlds.worlds) x.imports) same c.in_ok-worlds.ensures.there in
    let writable : AreWritable m (written_in c.in_ok-worlds.worlds) = record { ordered = ordered; once = once; held = c.requires.held; distinct = c.requires.distinct; before = c.requires.before; clean = c.requires.clean; worlds = worlds } in
    let is = c.new-writer.ensures.writer m c.types-types.ensures closed bindings written sizes writable in
    subst (IsImportWriter c.new-writer.result) (sym (same-merge _ _ m (c.new-writer.ensures.types ∙ c.types-types.ensures) c.imports-imports.ensures)) is

pub returns-clause-imported : goal.returns-clause-imported
returns-clause-imported c =
    let same = same-merge _ _ c.args.merge.now.merge (c.new-writer.ensures.types ∙ c.types-types.ensures) c.imports-imports.ensures in
    subst (λ (x : Merged). IfOk c.write_all.result (λ w. AreImported x w.places.items w.state)) same c.write_all.ensures.imported

pub returns-clause-small : goal.returns-clause-small
returns-clause-small c =
    let same = same-merge _ _ c.args.merge.now.merge (c.new-writer.ensures.types ∙ c.types-types.ensures) c.imports-imports.ensures in
    subst (λ (x : Merged). ImportsWithin x c.write_all.result) same c.write_all.ensures.small

pub returns-in_err-closed-clause-small : goal.returns-in_err-closed-clause-small
returns-in_err-closed-clause-small c = imports-memory c.args.merge.now.merge c.from_residual.result c.from_residual.ensures.1

pub returns-in_err-bindings-clause-small : goal.returns-in_err-bindings-clause-small
returns-in_err-bindings-clause-small c = imports-memory c.args.merge.now.merge c.from_residual-in_err-bindings.result c.from_residual-in_err-bindings.ensures.1

pub returns-in_err-worlds-clause-small : goal.returns-in_err-worlds-clause-small
returns-in_err-worlds-clause-small c =
    let m = c.args.merge.now.merge in
    let same = same-merge _ _ m c.types-types.ensures c.imports-imports.ensures in
    worlds-heavy m (subst IsWellFormed c.types-types.ensures c.law.ensures) c.requires.held (c.in_err-worlds.field-0).0 c.from_residual-in_err-worlds.result c.from_residual-in_err-worlds.ensures.1
    (λ large. subst (λ (x : Merged). IsHeavy x.types (types_of x.imports)) same (entries-heavy c.types-types.result.now c.imports-imports.result.now (c.in_err-worlds.ensures.small large)))
