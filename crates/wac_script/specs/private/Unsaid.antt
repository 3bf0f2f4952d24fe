-- Words that say nothing of a kind.
use Rattle.std.specs.Prelude.{List}
use Rattle.wac_script.specs.lines.Words.{Word}
use Rattle.wac_script.specs.lines.Says.{SaysShape, SaysCoreItem, SaysCall, SaysChange, SaysMade}
use Rattle.wac_script.specs.declared.lines.shapes.Shape.{Shape}
use Rattle.wac_script.specs.declared.lines.shapes.CoreItem.{CoreItem}
use Rattle.wac_script.specs.declared.lines.calls.Call.{Call}
use Rattle.wac_script.specs.declared.lines.calls.Call.TheVariants as call
use Rattle.wac_script.specs.declared.lines.calls.Change.{Change}
use Rattle.wac_script.specs.declared.lines.calls.Line.{Line}

-- The words say no value type.
abbrev pub SaysNoShape : List Word → Type 0
SaysNoShape words = (said : Shape) → SaysShape words said → ⊥

-- The words after `core` say no import or export of a core module.
abbrev pub SaysNoCoreItem : List Word → Type 0
SaysNoCoreItem words = (said : CoreItem) → SaysCoreItem words said → ⊥

-- The call makes a resource, a function, an interface, a world or a core module.
abbrev pub IsTypeCall : Call → Type 0
IsTypeCall (call.Resource name) = Unit {0}
IsTypeCall (call.ResourceAlias name source) = Unit {0}
IsTypeCall (call.OwnedAlias name source owner) = Unit {0}
IsTypeCall (call.Func params results) = Unit {0}
IsTypeCall (call.AsyncFunc params results) = Unit {0}
IsTypeCall (call.Interface id items) = Unit {0}
IsTypeCall (call.World imports exports) = Unit {0}
IsTypeCall (call.Module imports exports) = Unit {0}
IsTypeCall _ = ⊥

-- The words after `LABEL =` say no such call.
abbrev pub SaysNoTypeCall : List Word → Type 0
SaysNoTypeCall words = (said : Call) → IsTypeCall said → SaysCall words said → ⊥

-- The call makes a package or a node.
abbrev pub IsNodeCall : Call → Type 0
IsNodeCall (call.Package words) = Unit {0}
IsNodeCall (call.New label) = Unit {0}
IsNodeCall (call.Alias node exported) = Unit {0}
IsNodeCall (call.Import name item) = Unit {0}
IsNodeCall (call.Define name item) = Unit {0}
IsNodeCall _ = ⊥

-- The words after `LABEL =` say no such call.
abbrev pub SaysNoNodeCall : List Word → Type 0
SaysNoNodeCall words = (said : Call) → IsNodeCall said → SaysCall words said → ⊥

-- The words after `LABEL =` say no call.
abbrev pub SaysNoCall : List Word → Type 0
SaysNoCall words = (said : Call) → SaysCall words said → ⊥

-- The words say no call without a label.
abbrev pub SaysNoChange : List Word → Type 0
SaysNoChange words = (said : Change) → SaysChange words said → ⊥

-- The words after `LABEL =` say nothing.
abbrev pub SaysNothingMade : Word → List Word → Type 0
SaysNothingMade label words = (said : Line) → SaysMade label words said → ⊥
