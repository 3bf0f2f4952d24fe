use Rattle.std.proofs.Common.{◌≡◌, List, [], ◌∷◌, ◌++◌, take, length, Some, slice_get, refl, sym, subst, arith, add-one}
use Rattle.std.proofs.lemmas.List.{take_all}
use Rattle.std.proofs.lemmas.Option.{slice_get_read}
use Rattle.wac_types_shapes.specs.primitives.Name.{Name}
use Rattle.wac_types_shapes.specs.declared.shapes.component.ResourceId.{ResourceId}
use Rattle.wac_types_shapes.proofs.lemmas.shapes.Names.{take_at}
use Rattle.wac_merge_resources.specs.private.renaming.FreshSteps.{AreAllOwn, AreOwn}
use Rattle.wac_merge_classes.specs.declared.terms.parts.Union.{Union}
use Rattle.wac_merge_tables.proofs.lemmas.made.Extending.{extended_none, extended_twice}
use Rattle.wac_merge_resources.proofs.lemmas.renaming.FreshAdding.{all-more, all-none}
use Rattle.wac_merge_resources.proofs.renaming.adding.add_all_own.Goals as goal

pub loop-u-init : goal.loop-u-init
loop-u-init c =
    let m = c.args.merged.now in
    record { extended = extended_none m; own = subst (λ (o : List (List (Name × ResourceId))). AreAllOwn m [] o m) (sym c.new-own.ensures.items) (all-none m m) }

pub returns-in_err-add_own-clause-extended : goal.returns-in_err-add_own-clause-extended
returns-in_err-add_own-clause-extended c = extended_twice c.args.merged.now c.loop-u.merged c.add_own.new.merged c.loop-u.invariant.extended c.add_own.ensures.extended

pub returns-in_err-push-clause-extended : goal.returns-in_err-push-clause-extended
returns-in_err-push-clause-extended c = extended_twice c.args.merged.now c.loop-u.merged c.add_own.new.merged c.loop-u.invariant.extended c.add_own.ensures.extended

pub loop-u-preserved : goal.loop-u-preserved
loop-u-preserved c =
    let us = c.args.unions.now in
    let u = c.loop-u.u in
    let m = c.args.merged.now in
    let now = c.loop-u.merged in
    let more = c.add_own.new.merged in
    let os : List (List (Name × ResourceId)) = c.loop-u.own.items in
    let x : Union = c.index-unions-u.result in
    let own : List (Name × ResourceId) = c.in_ok-add_own.field-0 in
    let at : slice_get us u ≡ Some x = slice_get_read us (length us) u x refl c.loop-u-test.true c.index-unions-u.is in
    let items : c.push.new.self.items ≡ os ++ own ∷ [] = c.in_ok-push.ensures.items in
    record {
      extended = extended_twice m now more c.loop-u.invariant.extended c.add_own.ensures.extended;
      own = rw (add-one, take_at us u x at, items) (all-more m now more (take u us) os x own c.loop-u.invariant.extended c.add_own.ensures.extended c.law.ensures c.loop-u.invariant.own
          (subst (λ (y : Union). AreOwn now y.exports own more) (sym c.index-unions-u.is) c.in_ok-add_own.ensures.own));
    }

pub returns-clause-extended : goal.returns-clause-extended
returns-clause-extended c = c.loop-u.invariant.extended

pub returns-clause-own : goal.returns-clause-own
returns-clause-own c =
    subst (λ (l : List Union). AreAllOwn c.args.merged.now l c.loop-u.own.items c.loop-u.merged) (take_all c.loop-u.u c.args.unions.now (omega arith)) c.loop-u.invariant.own
