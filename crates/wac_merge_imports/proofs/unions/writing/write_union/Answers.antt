use Rattle.std.proofs.Common.{◌≡◌, ◌<◌, List, Some, length, arith, Result, Ok, Err, OnOk, Option, None, IfSome, sym, ap, ◌∙◌, subst}
use Rattle.std.specs.Prelude.{string_bytes}
use Rattle.std.specs.Option.{option_map}
use Rattle.wac_types_shapes.specs.declared.shapes.component.UsedType.{UsedType}
use Rattle.wac_types_shapes.specs.primitives.Name.{Name}
use Rattle.wac_merge_tables.proofs.lemmas.made.Extending.{extended_twice, still_interface}
use Rattle.wac_merge_resources.proofs.lemmas.renaming.StillRenamed.{still_made}
use Rattle.wac_merge_classes.proofs.lemmas.entries.Lists.{some-at}
use Rattle.wac_merge_classes.proofs.lemmas.entries.Walking.{if-ok}
use Rattle.wac_merge_classes.specs.terms.Unions.{AreUnions}
use Rattle.wac_merge_classes.specs.declared.terms.parts.Part.{Part}
use Rattle.wac_merge_classes.proofs.lemmas.terms.Found.{some_same}
use Rattle.wac_merge_imports.specs.unions.SharedUnions.{IsAloneIn, first_in}
use Rattle.wac_merge_imports.specs.unions.WritingSteps.{in_parts}
use Rattle.wac_merge_imports.proofs.lemmas.unions.OneIds.{still-items}
use Rattle.wac_merge_imports.proofs.lemmas.unions.Sharing.{shares-along}
use Rattle.wac_merge_imports.proofs.lemmas.unions.WritingUnions.{union-written}
use Rattle.wac_merge_imports.proofs.unions.writing.write_union.Goals as goal

always : {A E P : Type 0} (r : Result A E) → P → OnOk r P
always (Ok x) p = p
always (Err e) p = tt

pub alone-source-requires-clause-unions : goal.alone-source-requires-clause-unions
alone-source-requires-clause-unions c =
    let u = c.requires.writing.unions in
    (u.0, subst (λ (ps : List Part). AreUnions c.args.renaming.now.types.now u.0 c.args.next.now.unions.now.unions.items ps) c.requires.parts u.1)

pub alone-source-requires-clause-within : goal.alone-source-requires-clause-within
alone-source-requires-clause-within c = let count = c.requires.writing.counted in omega (arith, count)

pub write-requires-clause-held : goal.write-requires-clause-held
write-requires-clause-held c =
    let us = c.args.next.now.unions.now.unions.items in
    let count = c.requires.writing.counted in
    let low : c.args.next.now.union < length us = omega (arith, count) in
    let x = some-at us c.args.next.now.union low in
    (c.in_ok-exports.ensures.written x.0 x.1).held

pub write-requires-clause-named : goal.write-requires-clause-named
write-requires-clause-named c =
    let us = c.args.next.now.unions.now.unions.items in
    let count = c.requires.writing.counted in
    let low : c.args.next.now.union < length us = omega (arith, count) in
    let x = some-at us c.args.next.now.union low in
    (c.in_ok-exports.ensures.written x.0 x.1).named

pub write-requires-clause-there : goal.write-requires-clause-there
write-requires-clause-there c i v at = still_interface c.args.merged.now c.write_exports.new.merged c.write_exports.ensures.extended v (c.requires.there i v at)

pub returns-clause-extended : goal.returns-clause-extended
returns-clause-extended c = extended_twice c.args.merged.now c.write_exports.new.merged c.write.new.merged c.write_exports.ensures.extended c.write.ensures.extended

pub returns-clause-made : goal.returns-clause-made
returns-clause-made c =
    always c.write.result (still_made c.write_exports.new.merged c.write.new.merged c.write.ensures.extended c.args.renaming.now.types.now c.args.renaming.now.became.now.named.now c.write_exports.new.renamed.made c.in_ok-exports.ensures.made)

pub returns-clause-written : goal.returns-clause-written
returns-clause-written c =
    if-ok c.write.result
    (λ w at x there.
    union-written c.args.renaming.now.types.now c.write_exports.new.merged c.write.new.merged c.args.renaming.now.became.now (length c.args.next.now.unions.now.unions.items) c.args.next.now.written.now c.args.next.now.union x
    c.in_ok-id.id _ c.in_ok-exports.exports w c.write.ensures.extended c.in_ok-id.ensures (c.in_ok-exports.ensures.written x there)
    (at ∙ ap (λ (us : List (Name × UsedType)). Some (record { id = c.in_ok-id.id; uses = us; exports = c.in_ok-exports.exports })) c.new-uses.ensures))
    c.write.ensures.added

pub returns-clause-once : goal.returns-clause-once
returns-clause-once c =
    let made = c.write_exports.new.renamed.made in
    if-ok c.write.result
    (λ w at x there. record {
      interface = record { id = c.in_ok-id.id; uses = c.new-uses.result; exports = c.in_ok-exports.exports };
      there = at;
      items = still-items c.args.renaming.now.types.now c.write_exports.new.merged c.write.new.merged c.write.ensures.extended (in_parts c.args.renaming.now.types.now c.args.renaming.now.became.now) c.args.renaming.now.became.now.named.now made made (λ f e is. is) x.exports c.in_ok-exports.exports (c.in_ok-exports.ensures.once x there);
    })
    c.write.ensures.added

pub returns-clause-stay : goal.returns-clause-stay
returns-clause-stay c = always c.write.result c.in_ok-exports.ensures.stay

if-some : {A : Type 0} (P : A → Type 0) (o : Option A) (a : A) → o ≡ Some a → IfSome o P → P a
if-some P None a is h = cc is
if-some P (Some b) a is h = subst P (some_same b a is) h

pub returns-clause-shared : goal.returns-clause-shared
returns-clause-shared c =
    let t = c.args.renaming.now.types.now in
    let ps = c.args.next.now.unions.now.parts.items in
    if-ok c.write.result
    (λ w shares x there.
    shares-along (λ i. c.alone-source.result ≡ Some i) (IsAloneIn t ps (option_map string_bytes c.args.id.now) x.parts.items) c.args.merged.now c.write_exports.new.merged c.write.new.merged (first_in c.args.shared.now) (first_in c.write.new.self) w
    c.write_exports.ensures.extended
    (λ i is. subst (λ (n : Option Name). IsAloneIn t ps n x.parts.items i) c.in_ok-id.ensures (if-some _ c.alone-source.result i is c.alone-source.ensures.is x there))
    (λ i alone. c.alone-source.ensures.all x i there (subst (λ (n : Option Name). IsAloneIn t ps n x.parts.items i) (sym c.in_ok-id.ensures) alone))
    shares)
    c.write.ensures.shared
