use Rattle.std.proofs.Common.{◌≡◌, ◌-◌, Vec, length, map}
use Rattle.std.specs.Global.{Global}
use Rattle.wac_types_shapes.specs.declared.shapes.component.InterfaceId.{InterfaceId}
use Rattle.wac_merge_classes.specs.entries.Classes.{by_names}
use Rattle.wac_merge_classes.specs.terms.Merge.{import_entries}
use Rattle.wac_types_collection.specs.private.subtyping.Extended.{IsExtended}
use Rattle.wac_merge_unions.specs.uses.Using.{AreUsingFrom, uses_among}
use Rattle.wac_merge_unions.proofs.uses.nested.Inside.using.Given as goal

abbrev pub invariant-loop-back : goal.invariant-loop-back
invariant-loop-back l = record {
  extended : IsExtended l.fn.merged l.merged;
  counted : length l.done.items ≡ length l.self.interfaces.items;
  using : AreUsingFrom l.asked.types.now l.merged (uses_among by_names l.asked.types.now l.asked.entries.now l.merged (import_entries l.imports)) l.self.interfaces.items (map (λ (v : Vec InterfaceId Global). v.items) l.self.users.items) (length l.self.interfaces.items - l.back) l.done.items;
}
