use Rattle.std.proofs.Common.{◌≡◌, length, sym, ◌∙◌, subst, arith}
use Rattle.wac_merge_classes.specs.terms.Unions.{IsPart}
use Rattle.wac_merge_imports.specs.unions.WritingSteps.{IsBehind, IsFoundIn}
use Rattle.wac_merge_imports.proofs.lemmas.unions.WritingItems.{if-both, new-item, written-item}
use Rattle.wac_merge_imports.proofs.lemmas.unions.WritingUnions.{can-rename, export-behind, export-given, export-held, export-part}
use Rattle.wac_merge_imports.proofs.unions.writing.write_export.Goals as goal

pub returns-then-export-clause-written : goal.returns-then-export-clause-written
returns-then-export-clause-written c =
    let s = c.args.renaming.now in
    let q = c.unwrap-own.result in
    let at = sym c.own_in.ensures ∙ c.unwrap-own.ensures in
    new-item s.types.now c.args.merged.now s.became.now (length c.args.next.now.unions.now.unions.items) c.args.next.now.written.now c.args.next.now.union c.args.name.now c.args.export.now q c.if-export.true at
    (c.requires.writing.fresh.own c.args.next.now.union c.args.name.now q at)

pub written_inner-inner-requires : goal.written_inner-inner-requires
written_inner-inner-requires c =
    let s = c.args.renaming.now in
    let us = c.args.next.now.unions.now.unions.items in
    let can = c.requires.writing in
    let e = c.args.export.now in
    let count : c.len.result ≡ length us = omega (arith, c.len.ensures, c.args.next.now.unions.now.unions.ok.0) in
    subst (λ n. IsBehind n (length c.args.next.now.written.now) e.inner) (sym count)
    (export-behind s.types.now can.unions.0 us s.became.now.parts.now can.unions.1 c.args.next.now.union c.args.name.now e c.requires.export (length c.args.next.now.written.now) can.counted)

pub write_kind-requires-clause-held : goal.write_kind-requires-clause-held
write_kind-requires-clause-held c =
    let s = c.args.renaming.now in
    let can = c.requires.writing in
    export-held s.types.now can.unions.0 c.args.next.now.unions.now.unions.items s.became.now.parts.now can.unions.1 c.args.next.now.union c.args.name.now c.args.export.now c.requires.export c.law.ensures

pub write_kind-requires-clause-given : goal.write_kind-requires-clause-given
write_kind-requires-clause-given c =
    let s = c.args.renaming.now in
    let us = c.args.next.now.unions.now.unions.items in
    let can = c.requires.writing in
    let e = c.args.export.now in
    let o = c.written_inner-inner.result in
    let count : c.len.result ≡ length us = omega (arith, c.len.ensures, c.args.next.now.unions.now.unions.ok.0) in
    export-given s.types.now can.unions.0 us s.became.now.parts.now can.unions.1 c.args.next.now.union c.args.name.now e c.requires.export c.args.merged.now c.args.next.now.written.now o
    (subst (λ n. IsFoundIn n c.args.next.now.written.now e.inner o) count c.written_inner-inner.ensures) can.held

pub write_kind-requires-clause-known : goal.write_kind-requires-clause-known
write_kind-requires-clause-known c =
    let s = c.args.renaming.now in
    let can = c.requires.writing in
    can-rename c.args.merged.now s can.known
    (subst (IsPart s.became.now.parts.now) (sym c.requires.part)
    (export-part s.types.now can.unions.0 c.args.next.now.unions.now.unions.items s.became.now.parts.now can.unions.1 c.args.next.now.union c.args.name.now c.args.export.now c.requires.export))

pub returns-clause-written : goal.returns-clause-written
returns-clause-written c =
    let s = c.args.renaming.now in
    let us = c.args.next.now.unions.now.unions.items in
    let e = c.args.export.now in
    let o = c.written_inner-inner.result in
    let count : c.len.result ≡ length us = omega (arith, c.len.ensures, c.args.next.now.unions.now.unions.ok.0) in
    if-both c.write_kind.result
    (λ k held is.
    written-item s.types.now c.write_kind.new.merged s.became.now (length us) c.args.next.now.written.now c.args.next.now.union c.args.name.now e s.part o k c.if-export.false c.requires.part
    (subst (λ n. IsFoundIn n c.args.next.now.written.now e.inner o) count c.written_inner-inner.ensures) held is)
    c.write_kind.ensures.held c.write_kind.ensures.written
