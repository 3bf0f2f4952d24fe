use Rattle.std.proofs.Common.{Option, sym, subst}
use Rattle.std.specs.Borrow.{Bor}
use Rattle.std.specs.Option.{option_copied}
use Rattle.std.specs.Result.{OnOk}
use Rattle.wac_types_shapes.specs.primitives.Name.{Name}
use Rattle.wac_types_collection.specs.subtyping.CalledViews.{side_view}
use Rattle.wac_merge_classes.specs.entries.Places.{Adds, leaf_at, only, under}
use Rattle.wac_merge_classes.proofs.entries.bound.Bound.put_under.Goals as goal

pub returns-in-None : goal.returns-in-None
returns-in-None c =
    subst (λ (o : Option (Bor Name)). OnOk c.put-in-None.result (Adds c.args.self.now (only c.args.resource (leaf_at (side_view c.args.side) (under (option_copied o) c.args.name.now))) c.put-in-None.new.self))
    (sym c.in-None.is) c.put-in-None.ensures
