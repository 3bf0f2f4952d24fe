use Rattle.std.proofs.Common.{◌≡◌, List, length, subst, arith, add-one}
use Rattle.std.proofs.lemmas.List.{take_all}
use Rattle.wac_types_shapes.specs.primitives.Name.{Name}
use Rattle.wac_types_shapes.specs.declared.shapes.component.ItemKind.{ItemKind}
use Rattle.wac_types_shapes.proofs.lemmas.shapes.Loops.{entry_at}
use Rattle.wac_types_shapes.proofs.lemmas.shapes.Under.{on_ok}
use Rattle.wac_types_collection.specs.subtyping.CalledViews.{side_view}
use Rattle.wac_merge_classes.specs.entries.Places.{Adds}
use Rattle.wac_merge_classes.proofs.lemmas.entries.Places.{all-listed, held_at, instances, instances-step}
use Rattle.wac_merge_classes.proofs.entries.bound.Bound.put_listed.Goals as goal

pub put_instance-requires : goal.put_instance-requires
put_instance-requires c =
    held_at c.args.types.now c.args.listed.now c.loop-i.i (c.name_at.result.now, c.value_at.result.now) c.requires
    (entry_at c.args.listed.now c.loop-i.i c.name_at.result.now c.value_at.result.now c.name_at.ensures c.value_at.ensures)

pub loop-i-preserved : goal.loop-i-preserved
loop-i-preserved c =
    let n = c.name_at.result.now in
    let k = c.value_at.result.now in
    rw add-one
    (instances-step c.args.types.now c.args.uses.now (side_view c.args.side) c.args.listed.now c.loop-i.i (n, k) c.args.self.now c.loop-i.self c.put_instance.new.self
    (entry_at c.args.listed.now c.loop-i.i n k c.name_at.ensures c.value_at.ensures) c.loop-i.invariant c.in_ok-put_instance.ensures)

pub returns : goal.returns
returns c =
    let es = c.args.listed.now in
    let last : c.loop-i.i ≡ length es = omega arith in
    on_ok c.put_own.result
    (all-listed c.args.types.now c.args.uses.now (side_view c.args.side) es c.args.self.now c.loop-i.self c.put_own.new.self
    (subst (λ (l : List (Name × ItemKind)). Adds c.args.self.now (instances c.args.types.now c.args.uses.now (side_view c.args.side) l) c.loop-i.self) (take_all c.loop-i.i es (omega arith)) c.loop-i.invariant))
    c.put_own.ensures
