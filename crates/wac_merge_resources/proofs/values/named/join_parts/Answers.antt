use Rattle.std.proofs.Common.{◌≡◌, ℕ, List, Some, slice_get, arith}
use Rattle.std.proofs.lemmas.Option.{slice_get-get_or}
use Rattle.wac_types_collection.specs.collection.Collection.{Collection}
use Rattle.wac_merge_classes.specs.declared.terms.parts.Part.{Part}
use Rattle.wac_merge_classes.specs.declared.terms.parts.Union.{Union}
use Rattle.wac_merge_resources.specs.values.NamedTypes.{AreAllOne, IsListedBy, IsUnited, JoinsAlong, no_join}
use Rattle.wac_merge_resources.specs.declared.values.named.NamedTypes.{NamedTypes}
use Rattle.wac_merge_resources.proofs.lemmas.values.Links.{joins-for, joins-then}
use Rattle.wac_merge_resources.proofs.lemmas.values.Joining.{item-last, within}
use Rattle.wac_merge_resources.proofs.values.named.join_parts.Goals as goal

along-more : (t : Collection) (us : List Union) (ps : List Part) (old mid new : NamedTypes) (p : ℕ) (x : Part) → slice_get ps p ≡ Some x
    → JoinsAlong (IsUnited t us ps) old mid → JoinsAlong (IsListedBy t us x) mid new → JoinsAlong (IsUnited t us ps) old new
along-more t us ps old mid new p x at before more =
    joins-then (IsUnited t us ps) old mid new before (joins-for (IsListedBy t us x) (IsUnited t us ps) mid new (λ a b h. (p, x, at, h)) more)

pub loop-p-init : goal.loop-p-init
loop-p-init c = record { stay = λ a b o. o; one = λ q x low at. absurd (omega (arith, low)); along = no_join }

pub join_in_union-requires : goal.join_in_union-requires
join_in_union-requires c = c.requires.held c.loop-p.p _ (slice_get-get_or c.args.parts.now c.loop-p.p _ c.loop-p-test.true)

pub loop-p-preserved : goal.loop-p-preserved
loop-p-preserved c =
    let t = c.args.types.now in
    let us = c.args.unions.now in
    let ps = c.args.parts.now in
    record {
      stay = λ a b o. c.in_ok-join_in_union.ensures.stay a b (c.loop-p.invariant.stay a b o);
      one = λ q x low at.
          item-last ps (λ _ (y : Part). AreAllOne (IsListedBy t us y) c.join_in_union.new.named) c.loop-p.p _ (slice_get-get_or ps c.loop-p.p _ c.loop-p-test.true) c.in_ok-join_in_union.ensures.one
          (λ r y less is a b p. c.in_ok-join_in_union.ensures.stay a b (c.loop-p.invariant.one r y less is a b p)) q x low at;
      along = along-more t us ps c.args.named.now c.loop-p.named c.join_in_union.new.named c.loop-p.p _ (slice_get-get_or ps c.loop-p.p _ c.loop-p-test.true) c.loop-p.invariant.along c.in_ok-join_in_union.ensures.along;
    }

pub returns-clause-one : goal.returns-clause-one
returns-clause-one c a b (p, x, at, with) = c.loop-p.invariant.one p x (omega (arith, within c.args.parts.now p x at)) at a b with
