use Rattle.std.proofs.Common.{List, length, ap, subst, sym, ◌∙◌}
use Rattle.wac_types_shapes.specs.primitives.Tree.{Leaf}
use Rattle.wac_types_shapes.specs.declared.shapes.component.ResourceId.{ResourceId}
use Rattle.wac_merge_classes.specs.terms.Became.{AreBoundParts, AreFresh}
use Rattle.wac_merge_classes.specs.declared.terms.parts.Part.{Part}
use Rattle.wac_merge_classes.specs.declared.terms.parts.Union.{Union}
use Rattle.wac_merge_resources.specs.private.renaming.Ways.{AreOutward}
use Rattle.wac_merge_tables.proofs.lemmas.made.Extending.{extended_twice}
use Rattle.wac_merge_imports.proofs.unions.merged.Basis.of.Goals as goal

pub outward_in-requires-clause-around : goal.outward_in-requires-clause-around
outward_in-requires-clause-around c = rw c.as_slice-2.ensures.value c.in_ok-unions.ensures.unions.unions.around

pub outward_in-requires-clause-counted : goal.outward_in-requires-clause-counted
outward_in-requires-clause-counted c =
    rw c.as_slice-3.ensures.value (c.in_ok-bound.ensures.counted ∙ ap (λ (xs : List Part). length xs) (c.as_slice.ensures.value ∙ sym c.as_slice-2.ensures.value))

pub named_in-requires : goal.named_in-requires
named_in-requires c = record { held = c.in_ok-unions.ensures.unions.unions.held }

pub returns-clause-basis : goal.returns-clause-basis
returns-clause-basis c =
    let t = c.args.types.now in
    let ps = c.in_ok-unions.unions.parts.items in
    let started = c.add_fresh.new.merged in
    record {
      unions = c.in_ok-unions.ensures.unions;
      listed = c.in_ok-unions.ensures.listed;
      bound = subst (λ (xs : List Part). AreBoundParts t xs c.in_ok-bound.bound.items) c.as_slice.ensures.value c.in_ok-bound.ensures.bound;
      outward = subst (λ (xs : List Part). AreOutward xs c.in_ok-bound.bound.items c.in_ok-outward.outward.items) c.as_slice-2.ensures.value
          (subst (λ (xs : List (List (ResourceId × Leaf))). AreOutward c.as_slice-2.result.now xs c.in_ok-outward.outward.items) c.as_slice-3.ensures.value c.in_ok-outward.ensures);
      extended = extended_twice t c.args.merged.now started c.requires.extended c.add_fresh.ensures.extended;
      fresh = subst (λ (xs : List Union). AreFresh t xs c.args.bindings.now c.in_ok-fresh.fresh started) c.as_slice-all.ensures.value c.in_ok-fresh.ensures.fresh;
      united = c.in_ok-named.ensures.united;
      classed = c.in_ok-named.ensures.classed;
      named = c.in_ok-named.ensures.named;
    }
