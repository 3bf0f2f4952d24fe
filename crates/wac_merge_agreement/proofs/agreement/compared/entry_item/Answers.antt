use Rattle.std.proofs.Common.{ap, length, List, Option, sym, subst, ◌∙◌}
use Rattle.wac_types_shapes.specs.primitives.Tree.{Leaf}
use Rattle.wac_types_shapes.specs.declared.shapes.component.ResourceId.{ResourceId}
use Rattle.wac_merge_classes.specs.declared.entries.outward.Outward.{Outward}
use Rattle.wac_merge_classes.specs.entries.Classes.{by_names, class_names}
use Rattle.wac_merge_classes.specs.private.entries.Walking.{AreBound}
use Rattle.wac_merge_classes.specs.private.entries.Ways.{AreOutward}
use Rattle.wac_merge_classes.proofs.lemmas.entries.Lists.{some-at}
use Rattle.wac_merge_agreement.proofs.agreement.compared.entry_item.Goals as goal

pub outward_in-requires-clause-around : goal.outward_in-requires-clause-around
outward_in-requires-clause-around c = c.in_ok-scopes.ensures.scopes.around

pub outward_in-requires-clause-counted : goal.outward_in-requires-clause-counted
outward_in-requires-clause-counted c = ap (λ (bs : List (List (ResourceId × Leaf))). length bs) c.as_slice-bound.ensures.value ∙ c.in_ok-found.ensures.counted

pub source_item-requires-clause-named : goal.source_item-requires-clause-named
source_item-requires-clause-named c =
    let w = some-at (class_names by_names c.args.asked.now.entries.now) c.args.class c.requires.class in
    record {
      name = w.0;
      class = w.1;
      bindings = c.requires.bindings;
      scopes = c.in_ok-scopes.ensures.scopes;
      nested = c.in_ok-scopes.ensures.nested;
      bound = subst (λ bs. AreBound c.args.asked.now.types.now c.in_ok-scopes.scopes bs) (sym c.as_slice-bound.ensures.value) c.in_ok-found.ensures;
      outward = subst (λ (ws : List (Option Outward)). AreOutward c.in_ok-scopes.scopes c.as_slice-bound.result.now ws) (sym c.as_slice-outward.ensures.value) c.in_ok-ways.ensures;
      within = tt;
    }
