-- Resources that are added.
use Rattle.std.specs.Prelude.{◌≡◌, Result, Ok, Err, length}
use Rattle.wac_types_shapes.specs.declared.shapes.component.Resource.{Resource}
use Rattle.wac_types_collection.specs.collection.Collection.{with_resource, resource_mentions}
use Rattle.wac_types_collection.specs.collection.Uses.{mention_fault}
use Rattle.wac_graph_model.specs.nodes.Graph.{Graph}
use Rattle.wac_script.specs.declared.labels.things.Thing.{Thing}
use Rattle.wac_script.specs.declared.labels.things.Thing.TheVariants as thing
use Rattle.wac_script.specs.declared.refusal.Refusal.{Refusal}
use Rattle.wac_script.specs.declared.refusal.Refusal.TheVariants as refusal
use Rattle.wac_script.specs.Steps.{with_types}
use Rattle.wac_script.specs.Refusals.{IsErrorFor}

-- The resource is added, and the thing is it, or it is refused for its fault.
abbrev pub PutsResource : Resource → Graph → Result Thing Refusal → Graph → Type 0
PutsResource r old (Ok (thing.Resource id)) new = (id.0 ≡ length old.types.resources) × (new ≡ with_types old (with_resource old.types r))
PutsResource r old (Ok _) new = ⊥
PutsResource r old (Err (refusal.Type e)) new = IsErrorFor (mention_fault old.types (resource_mentions r)) e × (new ≡ old)
PutsResource r old (Err _) new = ⊥
