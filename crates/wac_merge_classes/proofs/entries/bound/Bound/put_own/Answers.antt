use Rattle.std.proofs.Common.{◌≡◌, suc, List, take, length, Some, sym, subst, ◌∙◌, arith, add-one}
use Rattle.std.specs.Option.{option_copied}
use Rattle.std.proofs.lemmas.Bool.{eqb-true}
use Rattle.std.proofs.lemmas.List.{take_all}
use Rattle.wac_types_shapes.specs.primitives.Name.{Name}
use Rattle.wac_types_shapes.specs.declared.shapes.component.ItemKind.{ItemKind}
use Rattle.wac_types_shapes.proofs.lemmas.shapes.Loops.{entry_at}
use Rattle.wac_types_collection.specs.subtyping.CalledViews.{side_view}
use Rattle.wac_merge_classes.specs.entries.Places.{Adds, own_at}
use Rattle.wac_merge_classes.proofs.lemmas.entries.Places.{adds-no-own, held_at, own-stays, own-step}
use Rattle.wac_merge_classes.proofs.entries.bound.Bound.put_own.Goals as goal
use Rattle.wac_merge_classes.proofs.entries.bound.Bound.put_own.Goals.{in-Some+in_ok-put_under, in_default}

pub returns-then-holds_no_resource : goal.returns-then-holds_no_resource
returns-then-holds_no_resource c =
    let empty : length c.args.types.now.resources ≡ 0 = eqb-true (length c.args.types.now.resources) 0 (sym c.holds_no_resource.ensures ∙ c.if-holds_no_resource.true) in
    adds-no-own c.args.types.now c.args.uses.now empty (side_view c.args.side) (option_copied c.args.outer) c.args.listed.now c.args.self.now c.requires

pub own_resource-requires : goal.own_resource-requires
own_resource-requires c =
    held_at c.args.types.now c.args.listed.now c.loop-i.i (c.name_at-name.result.now, c.value_at.result.now) c.requires
    (entry_at c.args.listed.now c.loop-i.i c.name_at-name.result.now c.value_at.result.now c.name_at-name.ensures c.value_at.ensures)

pub loop-i-preserved : goal.loop-i-preserved
loop-i-preserved c =
    let n = c.name_at-name.result.now in
    let k = c.value_at.result.now in
    let outer = option_copied c.args.outer in
    let side = side_view c.args.side in
    let at = entry_at c.args.listed.now c.loop-i.i n k c.name_at-name.ensures c.value_at.ensures in
    rw add-one (elim c.match-own_resource.branch [
      | in-Some+in_ok-put_under w ↦
          subst (Adds c.args.self.now (own_at c.args.types.now c.args.uses.now side outer (take (suc c.loop-i.i) c.args.listed.now))) (sym w.self-is)
          (own-step c.args.types.now c.args.uses.now side outer c.args.listed.now c.loop-i.i n k c.args.self.now c.loop-i.self w.put_under.new.self (Some w.in-Some.resource) at
          (sym c.own_resource.ensures ∙ w.in-Some.is) c.loop-i.invariant w.in_ok-put_under.ensures)
      | in_default w ↦
          own-stays c.args.types.now c.args.uses.now side outer c.args.listed.now c.loop-i.i n k c.args.self.now c.loop-i.self c.match-own_resource.self c.own_resource.result at
          (sym c.own_resource.ensures) w.in_default.not-Some c.loop-i.invariant w.self-is
    ])

pub returns : goal.returns
returns c =
    let es = c.args.listed.now in
    let last : c.loop-i.i ≡ length es = omega arith in
    subst (λ (l : List (Name × ItemKind)). Adds c.args.self.now (own_at c.args.types.now c.args.uses.now (side_view c.args.side) (option_copied c.args.outer) l) c.loop-i.self)
    (take_all c.loop-i.i es (omega arith)) c.loop-i.invariant
