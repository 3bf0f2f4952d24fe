-- What a line makes of a graph and its labels.
use Rattle.std.specs.Prelude.{◌≡◌, ◌⊎◌, ◌++◌, ℕ, List, [], ◌∷◌, None, Result, Ok, Err, length, string_bytes, IsSome}
use Rattle.std.specs.declared.alloc.AllocError.{AllocError}
use Rattle.wac_types_shapes.specs.primitives.Name.{Name, find_name}
use Rattle.wac_types_shapes.specs.declared.shapes.core_types.CoreExtern.{CoreExtern}
use Rattle.wac_graph_model.specs.nodes.Graph.{Graph}
use Rattle.wac_graph_model.specs.nodes.Steps.{IsEmpty}
use Rattle.wac_script.specs.lines.Words.{Word, AreWords}
use Rattle.wac_script.specs.lines.Says.{SaysLine, SaysNoLine}
use Rattle.wac_script.specs.lines.Called.{IsCall, IsCalled}
use Rattle.wac_script.specs.declared.lines.shapes.CoreItem.{CoreItem}
use Rattle.wac_script.specs.declared.lines.calls.Call.{Call}
use Rattle.wac_script.specs.declared.lines.calls.Line.{Line}
use Rattle.wac_script.specs.declared.lines.calls.Line.TheVariants as line
use Rattle.wac_script.specs.declared.labels.things.Thing.{Thing}
use Rattle.wac_script.specs.declared.labels.things.Thing.TheVariants as thing
use Rattle.wac_script.specs.labels.Things.{Labelling, things_of, cores_of, SayNone}
use Rattle.wac_script.specs.labels.Cores.{IsCoreItem}
use Rattle.wac_script.specs.declared.refusal.LineError.{LineError}
use Rattle.wac_script.specs.declared.refusal.LineError.TheVariants as error
use Rattle.wac_script.specs.declared.refusal.Refusal.{Refusal}
use Rattle.wac_script.specs.declared.refusal.Refusal.TheVariants as refusal
use Rattle.wac_script.specs.declared.script.Script.{Script}
use Rattle.wac_script.specs.Steps.{Makes, Alters}
use Rattle.wac_script.specs.Refusals.{RefusesCall, RefusesChange}
use Rattle.wac_script.specs.Naming.{AreNamed, AreSomeNamed}

-- A graph, the labels of what the lines made, and the imports and exports of core modules that have labels.
pub record State : Type 0 where
  pub graph : Graph
  pub labels : Labelling
  pub cores : List CoreExtern

-- The state of a script.
abbrev pub state_of : Script → State
state_of s = record { graph = s.graph; labels = things_of s.labels; cores = cores_of s.labels }

-- Nothing is made yet.
abbrev pub IsBlank : State → Type 0
IsBlank s = IsEmpty s.graph × (s.labels ≡ []) × (s.cores ≡ [])

-- A line makes this state of the old one. The label that it gives is that of nothing before.
abbrev pub Does : ℕ → Line → List ℕ → State → State → Type 0
Does number line.Nothing of_file old new = new ≡ old
Does number (line.Make label call) of_file old new =
    (t : Thing) × (find_name old.labels label.now ≡ None) × Makes old.labels old.cores of_file old.graph call t new.graph
    × (new.labels ≡ old.labels ++ (label.now, record { thing = t; line = number }) ∷ []) × (new.cores ≡ old.cores)
Does number (line.Core label item) of_file old new =
    (e : CoreExtern) × (find_name old.labels label.now ≡ None) × IsCoreItem item e × (new.graph ≡ old.graph)
    × (new.labels ≡ old.labels ++ (label.now, record { thing = thing.Core (length old.cores); line = number }) ∷ []) × (new.cores ≡ old.cores ++ e ∷ [])
Does number (line.Change change) of_file old new =
    Alters old.labels old.graph change new.graph × (new.labels ≡ old.labels) × (new.cores ≡ old.cores)

-- The labels and the core items stay.
abbrev pub KeepsLabels : State → State → Type 0
KeepsLabels old new = (new.labels ≡ old.labels) × (new.cores ≡ old.cores)

-- What the line makes is there, but has no label, since memory for the label ran out.
abbrev pub LacksLabel : Call → List ℕ → State → Refusal → State → Type 0
LacksLabel call of_file old refusal.OutOfMemory new = (t : Thing) × Makes old.labels old.cores of_file old.graph call t new.graph
LacksLabel call of_file old _ new = ⊥

-- Something has the label.
abbrev pub IsTaken : Name → State → Refusal → State → Type 0
IsTaken label old (refusal.Words e) new = IsSome (find_name old.labels label) × (new ≡ old)
IsTaken label old _ new = ⊥

-- An import or export of core modules is refused: memory runs out, something has the label, or its words stand for none.
abbrev pub RefusesCore : Name → CoreItem → State → Refusal → State → Type 0
RefusesCore label item old refusal.OutOfMemory new = new ≡ old
RefusesCore label item old (refusal.Words e) new = (IsSome (find_name old.labels label) ⊎ SayNone (IsCoreItem item)) × (new ≡ old)
RefusesCore label item old _ new = ⊥

-- A line is refused. No label and no core item is added.
abbrev pub Refuses : Line → List ℕ → State → Refusal → State → Type 0
Refuses line.Nothing of_file old e new = ⊥
Refuses (line.Make label call) of_file old e new =
    IsTaken label.now old e new
    ⊎ ((RefusesCall old.labels old.cores of_file old.graph call e new.graph ⊎ LacksLabel call of_file old e new) × KeepsLabels old new)
Refuses (line.Core label item) of_file old e new = RefusesCore label.now item old e new
Refuses (line.Change change) of_file old e new = RefusesChange old.labels old.graph change e new.graph × KeepsLabels old new

-- A line, with its result.
abbrev pub Runs : ℕ → Line → List ℕ → State → Result (Unit {0}) Refusal → State → Type 0
Runs number said of_file old (Ok _) new = Does number said of_file old new
Runs number said of_file old (Err e) new = Refuses said of_file old e new

-- The words of a line, with its result. No call takes them if there is none of the name, or if the call takes other words.
abbrev pub RunsWords : ℕ → List Word → List ℕ → State → Result (Unit {0}) LineError → State → Type 0
RunsWords number words of_file old (Ok _) new = (said : Line) × SaysLine words said × Runs number said of_file old (Ok tt) new
RunsWords number words of_file old (Err (error.Call e)) new = (said : Line) × SaysLine words said × Runs number said of_file old (Err e) new
RunsWords number words of_file old (Err (error.OtherWords call)) new =
    SaysNoLine words × IsCalled words (string_bytes call) × IsCall (string_bytes call) × (new ≡ old)
RunsWords number words of_file old (Err (error.UnknownCall call)) new =
    SaysNoLine words × IsCalled words (string_bytes call) × (IsCall (string_bytes call) → ⊥) × (new ≡ old)

-- There was no memory for the words of a line: nothing changes.
abbrev pub RanOut : State → Result (Unit {0}) LineError → State → Type 0
RanOut old result new = (result ≡ Err (error.Call refusal.OutOfMemory)) × (new ≡ old)

-- A line of text, with its result.
abbrev pub RunsLine : ℕ → List ℕ → List ℕ → State → Result (Unit {0}) LineError → State → Type 0
RunsLine number text of_file old result new =
    RanOut old result new ⊎ ((words : List Word) × AreWords text words × RunsWords number words of_file old result new)

-- The nodes are named by their labels, with the result. If memory runs out, those of the first labels are.
abbrev pub NamesNodes : State → Result (Unit {0}) AllocError → State → Type 0
NamesNodes old (Ok _) new = AreNamed old.labels old.graph new.graph × KeepsLabels old new
NamesNodes old (Err _) new = AreSomeNamed old.labels old.graph new.graph × KeepsLabels old new
