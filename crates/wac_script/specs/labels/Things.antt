-- Labels, and what they stand for.
use Rattle.std.specs.Prelude.{◌≡◌, ◌⊎◌, List, Some}
use Rattle.std.specs.Option.{option_map}
use Rattle.wac_types_shapes.specs.primitives.Name.{Name, find_name}
use Rattle.wac_types_shapes.specs.declared.shapes.core_types.CoreExtern.{CoreExtern}
use Rattle.wac_script.specs.declared.labels.faults.WordError.{WordError}
use Rattle.wac_script.specs.declared.labels.faults.WordError.TheVariants as error
use Rattle.wac_script.specs.declared.labels.things.Thing.{Thing}
use Rattle.wac_script.specs.declared.labels.things.Labelled.{Labelled}
use Rattle.wac_script.specs.declared.labels.things.Things.{Things}

-- Labels with what they stand for, in the order of their lines.
abbrev pub Labelling : Type 0
Labelling = List (Name × Labelled)

-- The labels.
abbrev pub things_of : Things → Labelling
things_of t = t.things

-- The imports and exports of core modules that have labels.
abbrev pub cores_of : Things → List CoreExtern
cores_of t = t.cores.items

-- Words say nothing of a kind.
abbrev pub SayNone : {X : Type 0} → (X → Type 0) → Type 0
SayNone {X = X} Say = (x : X) → Say x → ⊥

-- Words say nothing of a kind, or something that is not such, as a record in which a name occurs twice.
abbrev pub SayNoSuch : {X : Type 0} → (X → Type 0) → (X → Type 0) → Type 0
SayNoSuch {X = X} Say IsSuch = SayNone Say ⊎ ((x : X) × Say x × (IsSuch x → ⊥))

-- Memory ran out for an error of words.
abbrev pub IsWordMemory : WordError → Type 0
IsWordMemory error.OutOfMemory = Unit {0}
IsWordMemory _ = ⊥

-- The label stands for this thing.
abbrev pub IsThing : Labelling → Name → Thing → Type 0
IsThing labels label t = option_map (λ l. l.thing) (find_name labels label) ≡ Some t
