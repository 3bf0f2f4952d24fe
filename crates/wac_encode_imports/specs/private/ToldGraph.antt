-- What the imports of a merge are for the types of the entries' own collection.
use Rattle.std.specs.Prelude.{ℕ, false, List, [], ◌∷◌, Contains}
use Rattle.wac_types_shapes.specs.shapes.Kinds.{kind_type}
use Rattle.wac_types_collection.specs.collection.Collection.{Collection}
use Rattle.wac_types_collection.specs.collection.Bound.{Bindings}
use Rattle.wac_merge_classes.specs.entries.Binding.{root_bindings}
use Rattle.wac_merge_classes.specs.entries.Classes.{Entry, by_names}
use Rattle.wac_merge_classes.specs.terms.Merge.{position_in}
use Rattle.wac_encode_faults.specs.Free.{IsUnbound}
use Rattle.wac_encode_stacks.specs.Scopes.{Open}
use Rattle.wac_encode_stacks.specs.Good.{Good}
use Rattle.wac_encode_scopes.specs.declared.state.State.{State}
use Rattle.wac_encode_scopes.specs.States.{stack, RecordsHere}

-- The leaf of each resource of the entries at the root, if the classes are imported in this order.
abbrev pub entry_bindings : Collection → List Entry → List ℕ → Bindings
entry_bindings c es order = root_bindings by_names c es (position_in order)

-- No entry has a resource that nothing binds.
abbrev pub HasNoUnbound : Collection → List Entry → List ℕ → Type 0
HasNoUnbound c es order = (e : Entry) → Contains es e → IsUnbound c (entry_bindings c es order) (kind_type e.kind) → ⊥

-- The root binds each resource of the entries to what the first class that binds it imports. Only what is recorded of their
-- types changed.
pub record IsTold (c : Collection) (es : List Entry) (order : List ℕ) (old new : State) : Type 0 where
  pub good : Good c (entry_bindings c es order ∷ []) (stack false new)
  pub change : Open → Open
  pub records : RecordsHere false change old new
