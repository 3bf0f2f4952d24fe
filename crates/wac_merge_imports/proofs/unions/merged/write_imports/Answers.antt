use Rattle.std.proofs.Common.{map, Some, None, slice_get, string_bytes, ap, sym, ◌∙◌}
use Rattle.std.specs.Option.{option_map}
use Rattle.std.proofs.lemmas.Result.{IfOk-weaker}
use Rattle.wac_merge_classes.specs.terms.Merge.{import_entries}
use Rattle.wac_merge_classes.specs.terms.Writing.{AreWritten}
use Rattle.wac_merge_classes.specs.terms.Became.{became}
use Rattle.wac_merge_resources.specs.renaming.MadeOf.{AreMade}
use Rattle.wac_merge_imports.specs.unions.MergedClasses.{AreImports}
use Rattle.wac_merge_imports.specs.unions.WritingSteps.{AreImportsMadeOf, IsUnionMadeOf, in_parts}
use Rattle.wac_merge_imports.proofs.lemmas.unions.AssembledMerge.{still-written-all, written-given}
use Rattle.wac_merge_imports.proofs.lemmas.unions.BasisLaws.{basis-known, by-basis}
use Rattle.wac_merge_tables.proofs.lemmas.made.Extending.{extended_twice}
use Rattle.wac_merge_resources.proofs.lemmas.renaming.StillRenamed.{still_can_all}
use Rattle.wac_merge_imports.proofs.lemmas.unions.Sharing.{still-shared}
use Rattle.wac_merge_imports.proofs.lemmas.unions.OneIds.{if-four, still-union-made}
use Rattle.wac_merge_imports.proofs.unions.merged.write_imports.Goals as goal

pub write_unions-requires-clause-unions : goal.write_unions-requires-clause-unions
write_unions-requires-clause-unions c = (c.requires.basis.unions.roots, c.requires.basis.unions.unions)

pub write_unions-requires-clause-fresh : goal.write_unions-requires-clause-fresh
write_unions-requires-clause-fresh c = rw (c.became-became.ensures.bindings, c.became-became.ensures.fresh) c.requires.basis.fresh

pub write_unions-requires-clause-known : goal.write_unions-requires-clause-known
write_unions-requires-clause-known c =
    basis-known c.args.asked.now.types.now c.args.merged.now c.args.asked.now.entries.now _ _ c.args.bindings.now c.args.basis.now c.became-became.result c.requires.basis c.became-became.ensures c.law.ensures c.uses_law.ensures c.requires.bindings c.requires.held c.requires.agreed

pub class_imports-requires-clause-known : goal.class_imports-requires-clause-known
class_imports-requires-clause-known c =
    still_can_all c.args.merged.now c.write_unions.new.merged c.write_unions.ensures.extended c.law-2.ensures c.args.asked.now.types.now c.became-became.result
    (basis-known c.args.asked.now.types.now c.args.merged.now c.args.asked.now.entries.now _ _ c.args.bindings.now c.args.basis.now c.became-became.result c.requires.basis c.became-became.ensures c.law.ensures c.uses_law.ensures c.requires.bindings c.requires.held c.requires.agreed)

pub class_imports-requires-clause-given : goal.class_imports-requires-clause-given
class_imports-requires-clause-given c i k class e at known one =
    let u = c.requires.basis.unions in
    let x = c.args.basis.now in
    let b = c.became-became.result in
    rw c.as_slice-written.ensures.value
    (written-given c.args.asked.now.types.now c.write_unions.new.merged c.args.asked.now.entries.now u.roots x.unions.unions.items x.unions.parts.items b.bindings.now b.fresh.now (map (option_map string_bytes) c.as_slice-ids.result.now) c.in_ok-written.written.items
    u.rooted.counted u.unions c.in_ok-written.ensures.written k class e.kind known)

pub returns-clause-extended : goal.returns-clause-extended
returns-clause-extended c = extended_twice c.args.merged.now c.write_unions.new.merged c.class_imports.new.merged c.write_unions.ensures.extended c.class_imports.ensures.extended

pub returns-clause-imports : goal.returns-clause-imports
returns-clause-imports c =
    let t = c.args.asked.now.types.now in
    let m = c.class_imports.new.merged in
    let es = c.args.asked.now.entries.now in
    let x = c.args.basis.now in
    let us = x.unions.unions.items in
    let ps = x.unions.parts.items in
    let b = c.became-became.result in
    let ids = map (option_map string_bytes) c.as_slice-ids.result.now in
    let ws = c.in_ok-written.written.items in
    IfOk-weaker c.class_imports.result _ _ (λ is imported. record {
      ids = ids;
      ws = c.as_slice-written.result.now;
      identified = rw c.as_slice-ids.ensures.value c.in_ok-ids.ensures;
      written = rw c.as_slice-written.ensures.value
          (by-basis (λ p bs f n. AreWritten t m us ps bs f ids ws) x c.args.bindings.now b c.became-became.ensures
          (still-written-all t c.write_unions.new.merged m c.class_imports.ensures.extended us ps b.bindings.now b.fresh.now ids ws c.in_ok-written.ensures.written));
      imported = by-basis (λ p bs f n. AreImports t m es p bs f c.as_slice-written.result.now c.args.order.now (import_entries is)) x c.args.bindings.now b c.became-became.ensures imported;
    }) c.class_imports.ensures.imports

pub returns-clause-once : goal.returns-clause-once
returns-clause-once c =
    let t = c.args.asked.now.types.now in
    let first = c.write_unions.new.merged in
    let m = c.class_imports.new.merged in
    let es = c.args.asked.now.entries.now in
    let x = c.args.basis.now in
    let us = x.unions.unions.items in
    let ps = x.unions.parts.items in
    let b = c.became-became.result in
    let made = c.class_imports.new.renamed.made in
    let ids = map (option_map string_bytes) c.as_slice-ids.result.now in
    let ws = c.in_ok-written.written.items in
    if-four c.class_imports.result
    (λ are stay is imported once. record {
      made = made;
      are = by-basis (λ p bs f n. AreMade t n m made) x c.args.bindings.now b c.became-became.ensures are;
      written = record {
        ids = ids;
        ws = c.as_slice-written.result.now;
        identified = rw c.as_slice-ids.ensures.value c.in_ok-ids.ensures;
        written = rw c.as_slice-written.ensures.value
            (by-basis (λ p bs f n. AreWritten t m us ps bs f ids ws) x c.args.bindings.now b c.became-became.ensures
            (still-written-all t first m c.class_imports.ensures.extended us ps b.bindings.now b.fresh.now ids ws c.in_ok-written.ensures.written));
        imported = by-basis (λ p bs f n. AreImports t m es p bs f c.as_slice-written.result.now c.args.order.now (import_entries is)) x c.args.bindings.now b c.became-became.ensures imported;
      };
      shared = rw c.as_slice-written.ensures.value (still-shared t first m c.class_imports.ensures.extended us ps ids ws c.in_ok-written.ensures.shared);
      unions = λ u y w at there. by-basis (λ p bs f n. IsUnionMadeOf t m (λ q. became t p bs f (Some q)) n made y w) x c.args.bindings.now b c.became-became.ensures
          (still-union-made t first m c.class_imports.ensures.extended (in_parts t b) b.named.now c.write_unions.new.renamed.made made stay y w
          (c.in_ok-written.ensures.once u y w at (ap (λ l. slice_get l u) (sym c.as_slice-written.ensures.value) ∙ there)));
      imported = by-basis (λ p bs f n. AreImportsMadeOf t m (became t p bs f None) n made es c.args.asked.now.classes.now.positions.items c.args.order.now (import_entries is)) x c.args.bindings.now b c.became-became.ensures once;
    })
    c.class_imports.ensures.made c.class_imports.ensures.stay c.class_imports.ensures.imports c.class_imports.ensures.once

pub write_unions-requires-clause-made : goal.write_unions-requires-clause-made
write_unions-requires-clause-made c = c.new-memo.ensures.made c.args.asked.now.types.now c.args.merged.now c.became-became.result.named.now
