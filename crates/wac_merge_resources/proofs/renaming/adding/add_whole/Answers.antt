use Rattle.std.proofs.Common.{◌≡◌, ◌<◌, List, [], length, Option, Some, not, refl, sym, subst, ap, ◌∙◌}
use Rattle.std.proofs.Math.ListN.{set}
use Rattle.std.proofs.lemmas.Bool.{false≢true}
use Rattle.std.proofs.lemmas.Option.{slice_get_read}
use Rattle.wac_types_shapes.specs.primitives.Name.{Name, option_case}
use Rattle.wac_types_shapes.specs.declared.shapes.component.ResourceId.{ResourceId}
use Rattle.wac_types_collection.specs.subtyping.Called.{resource_name}
use Rattle.wac_merge_classes.specs.terms.Became.{IsNew}
use Rattle.wac_merge_classes.specs.entries.Bindings.{first_in}
use Rattle.wac_types_collection.specs.subtyping.CalledViews.{path_view}
use Rattle.wac_merge_resources.specs.private.renaming.FreshSteps.{IsWhole}
use Rattle.wac_merge_resources.proofs.lemmas.renaming.FreshAdding.{stays-some, whole-here, whole-put, whole-stays}
use Rattle.wac_merge_resources.proofs.lemmas.renaming.FreshClasses.{first-same, is-path, no-path}
use Rattle.wac_merge_resources.proofs.renaming.adding.add_whole.Goals as goal
use Rattle.wac_merge_resources.proofs.renaming.adding.add_whole.Goals.{else-is_empty-via-else-is_empty, else-is_empty-via-then-is_empty+else-is_none}

pub returns-in_ok-add-clause-right : goal.returns-in_ok-add-clause-right
returns-in_ok-add-clause-right c a before were =
    let t = c.args.types.now in
    let bs = c.args.bindings.now in
    let r = c.in-Some.resource in
    let k = c.in-Some-first.class in
    let empty : path_view c.in-Some-first.path.now ≡ [] = is-path c.in-Some-first.path.now (sym c.is_empty.ensures ∙ c.if-is_empty.true) in
    let first : first_in bs r ≡ Some (k, []) = sym c.in-Some-first.ensures ∙ ap (λ p. Some (k, p)) empty in
    let named : c.as_str.result.now ≡ resource_name t r = c.as_str.ensures ∙ sym (ap (λ o. option_case o [] (λ it. it.name)) c.index-then-is_none.ensures) in
    whole-put c.args.whole.now.items k c.in_ok-add.field-0 (c.requires.counted r (k, []) first) a c.args.merged.now c.add.new.merged t bs r before c.add.ensures.extended c.law.ensures first
    (subst (λ (n : Name). IsNew c.args.merged.now c.add.new.merged c.in_ok-add.field-0 n) named c.in_ok-add.ensures.new) were

pub returns-in_ok-add-clause-stay : goal.returns-in_ok-add-clause-stay
returns-in_ok-add-clause-stay c =
    let k = c.in-Some-first.class in
    whole-stays c.args.whole.now.items k c.in_ok-add.field-0 (c.requires.counted c.in-Some.resource (k, path_view c.in-Some-first.path.now) (sym c.in-Some-first.ensures))

pub returns-in_ok-add-clause-put : goal.returns-in_ok-add-clause-put
returns-in_ok-add-clause-put c r k is first =
    let class = c.in-Some-first.class in
    let path = path_view c.in-Some-first.path.now in
    let ws : List (Option ResourceId) = c.args.whole.now.items in
    let same = first-same c.args.bindings.now c.in-Some.resource r _ class k path c.in-Some.ensures is c.in-Some-first.ensures first in
    subst (IsWhole (set ws class (Some c.in_ok-add.field-0))) same.0
    (whole-here ws class c.in_ok-add.field-0 (c.requires.counted c.in-Some.resource (class, path) (sym c.in-Some-first.ensures)))

pub returns-else-is_empty-clause-put : goal.returns-else-is_empty-clause-put
returns-else-is_empty-clause-put c r k is first =
    let class = c.in-Some-first.class in
    let path = path_view c.in-Some-first.path.now in
    let ws : List (Option ResourceId) = c.args.whole.now.items in
    let same = first-same c.args.bindings.now c.in-Some.resource r _ class k path c.in-Some.ensures is c.in-Some-first.ensures first in
    let low : class < length ws = c.requires.counted c.in-Some.resource (class, path) (sym c.in-Some-first.ensures) in
    elim c.else-is_empty.branch [
      | else-is_empty-via-then-is_empty+else-is_none w ↦
          subst (IsWhole ws) same.0
          (stays-some ws class w.index.result.now (slice_get_read ws (length ws) class w.index.result.now refl low w.index.ensures) (w.is_none.ensures ∙ ap not w.if-is_none.false))
      | else-is_empty-via-else-is_empty w ↦ absurd (false≢true (sym w.if-is_empty.false ∙ c.is_empty.ensures ∙ no-path c.in-Some-first.path.now same.1))
    ]
