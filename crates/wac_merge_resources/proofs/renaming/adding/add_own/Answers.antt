use Rattle.std.proofs.Common.{◌≡◌, List, [], Some, None, Err, take, sym, ap, ◌∙◌, subst, arith, add-one}
use Rattle.std.proofs.lemmas.List.{take_all}
use Rattle.wac_types_shapes.specs.primitives.Name.{Name}
use Rattle.wac_types_shapes.specs.declared.shapes.component.ResourceId.{ResourceId}
use Rattle.wac_types_shapes.proofs.lemmas.shapes.Names.{none_before, take_at}
use Rattle.wac_merge_resources.specs.private.renaming.FreshSteps.{AreOwn}
use Rattle.wac_merge_classes.specs.declared.terms.parts.Export.{Export}
use Rattle.wac_merge_tables.proofs.lemmas.made.Extending.{extended_none, extended_twice}
use Rattle.wac_merge_resources.proofs.lemmas.renaming.FreshAdding.{own-left, own-none, own-put}
use Rattle.wac_merge_resources.proofs.renaming.adding.add_own.Goals as goal
use Rattle.wac_merge_resources.proofs.renaming.adding.add_own.Goals.{then-export+in_ok-resource+in-Ok, else-export}

pub loop-i-init : goal.loop-i-init
loop-i-init c =
    let m = c.args.merged.now in
    record { extended = extended_none m; own = subst (λ (o : List (Name × ResourceId)). AreOwn m [] o m) (sym c.new-own.ensures) (own-none m m) }

pub returns-in_err-resource-clause-extended : goal.returns-in_err-resource-clause-extended
returns-in_err-resource-clause-extended c = extended_twice c.args.merged.now c.loop-i.merged c.add.new.merged c.loop-i.invariant.extended c.add.ensures.extended

pub returns-in-Err-OutOfMemory-clause-extended : goal.returns-in-Err-OutOfMemory-clause-extended
returns-in-Err-OutOfMemory-clause-extended c = extended_twice c.args.merged.now c.loop-i.merged c.add.new.merged c.loop-i.invariant.extended c.add.ensures.extended

pub unreachable-requires : goal.unreachable-requires
unreachable-requires c =
    let n : Name = c.entry_at.result.0.now in
    let there = (c.loop-i.invariant.own.listed n).0 (c.insert.ensures.name_twice.0 (c.in-Err-NameTwice.is ∙ ap Err c.in-Err-NameTwice.field-0-is)) in
    let some : Some there.0 ≡ None = sym there.1 ∙ none_before c.args.exports.now c.loop-i.i n c.entry_at.result.1.now c.law.ensures c.entry_at.ensures in
    cc

pub loop-i-preserved : goal.loop-i-preserved
loop-i-preserved c =
    let m = c.args.merged.now in
    let now = c.loop-i.merged in
    let es : List (Name × Export) = c.args.exports.now in
    let i = c.loop-i.i in
    let own : List (Name × ResourceId) = c.loop-i.own in
    let n : Name = c.entry_at.result.0.now in
    let e : Export = c.entry_at.result.1.now in
    let v = c.loop-i.invariant in
    elim c.if-export.branch [
      | then-export+in_ok-resource+in-Ok w ↦
          record {
            extended = rw w.merged-is (extended_twice m now w.add.new.merged v.extended w.add.ensures.extended);
            own = rw (add-one, take_at es i (n, e) c.entry_at.ensures, w.merged-is, w.own-is, w.in-Ok.ensures.inserted)
                (own-put m now (take i es) own n e v.own w.add.new.merged v.extended w.add.ensures.extended c.law-in-loop-i.ensures (none_before es i n e c.law.ensures c.entry_at.ensures)
                w.in_ok-resource.resource w.if-export.true w.in_ok-resource.ensures.new);
          }
      | else-export w ↦
          record {
            extended = rw w.merged-is v.extended;
            own = rw (add-one, take_at es i (n, e) c.entry_at.ensures, w.merged-is, w.own-is) (own-left m now (take i es) own n e v.own w.if-export.false);
          }
    ]

pub returns-clause-extended : goal.returns-clause-extended
returns-clause-extended c = c.loop-i.invariant.extended

pub returns-clause-own : goal.returns-clause-own
returns-clause-own c =
    let es : List (Name × Export) = c.args.exports.now in
    subst (λ (l : List (Name × Export)). AreOwn c.args.merged.now l c.loop-i.own c.loop-i.merged) (take_all c.loop-i.i es (omega arith)) c.loop-i.invariant.own
