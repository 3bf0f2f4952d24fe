use Rattle.std.proofs.Common.{◌≡◌, ℕ, [], length, slice_get, take, Some}
use Rattle.wac_types_shapes.specs.declared.shapes.component.ResourceId.{ResourceId}
use Rattle.wac_merge_classes.specs.entries.Bindings.{first_in}
use Rattle.wac_merge_classes.specs.entries.Classes.{Entry, by_names, class_names}
use Rattle.wac_merge_resources.specs.private.renaming.FreshSteps.{AreWhole, IsWhole}
use Rattle.wac_merge_classes.specs.entries.Places.{resource_itself}
use Rattle.wac_types_collection.specs.private.subtyping.Extended.{IsExtended}
use Rattle.wac_merge_resources.proofs.renaming.adding.add_all_whole.Given as goal

abbrev pub invariant-loop-i : goal.invariant-loop-i
invariant-loop-i l = record {
  extended : IsExtended l.initial.merged l.merged;
  counted : length l.whole.items ≡ length (class_names by_names l.entries);
  right : AreWhole l.initial.merged l.types l.bindings l.whole.items l.merged;
  seen : (j : ℕ) (e : Entry) (r : ResourceId) (k : ℕ) → slice_get (take l.i l.entries) j ≡ Some e → resource_itself l.types e.kind ≡ Some r → first_in l.bindings r ≡ Some (k, []) → IsWhole l.whole.items k;
}
