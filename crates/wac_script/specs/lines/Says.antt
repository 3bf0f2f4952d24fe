-- What the words of a line say.
use Rattle.std.specs.Prelude.{◌≡◌, List, [], ◌∷◌, codes}
use Rattle.std.specs.Borrow.{Bor}
use Rattle.wac_script.specs.lines.Words.{Word, spelled, AreHalves}
use Rattle.wac_script.specs.declared.lines.shapes.Shape.{Shape}
use Rattle.wac_script.specs.declared.lines.shapes.Shape.TheVariants as shape
use Rattle.wac_script.specs.declared.lines.shapes.CoreItem.{CoreItem}
use Rattle.wac_script.specs.declared.lines.shapes.CoreItem.TheVariants as core_item
use Rattle.wac_script.specs.declared.lines.calls.Call.{Call}
use Rattle.wac_script.specs.declared.lines.calls.Call.TheVariants as call
use Rattle.wac_script.specs.declared.lines.calls.Change.{Change}
use Rattle.wac_script.specs.declared.lines.calls.Change.TheVariants as change
use Rattle.wac_script.specs.declared.lines.calls.Line.{Line}
use Rattle.wac_script.specs.declared.lines.calls.Line.TheVariants as line

-- The words say this value type.
abbrev pub SaysShape : List Word → Shape → Type 0
SaysShape words (shape.Record fields) = words ≡ codes "record" ∷ spelled fields.now
SaysShape words (shape.Variant cases) = words ≡ codes "variant" ∷ spelled cases.now
SaysShape words (shape.Enum names) = words ≡ codes "enum" ∷ spelled names.now
SaysShape words (shape.Flags names) = words ≡ codes "flags" ∷ spelled names.now
SaysShape words (shape.Tuple types) = words ≡ codes "tuple" ∷ spelled types.now
SaysShape words (shape.List element) = words ≡ codes "list" ∷ element.now ∷ []
SaysShape words (shape.FixedSizeList element len) = words ≡ codes "list" ∷ element.now ∷ len.now ∷ []
SaysShape words (shape.Option t) = words ≡ codes "option" ∷ t.now ∷ []
SaysShape words (shape.Result ok err) = words ≡ codes "result" ∷ ok.now ∷ err.now ∷ []
SaysShape words (shape.Alias t) = words ≡ codes "type" ∷ t.now ∷ []
SaysShape words (shape.Stream t) = words ≡ codes "stream" ∷ t.now ∷ []
SaysShape words (shape.Future t) = words ≡ codes "future" ∷ t.now ∷ []

-- The words are `name`, then the two lists of words with the mark between them.
abbrev pub HasHalves : List Word → Word → Word → List (Bor Word) → List (Bor Word) → Type 0
HasHalves [] name mark before after = ⊥
HasHalves (first ∷ rest) name mark before after = (first ≡ name) × AreHalves rest mark (spelled before) (spelled after)

-- The words after `core` say this import or export of a core module.
abbrev pub SaysCoreItem : List Word → CoreItem → Type 0
SaysCoreItem words (core_item.Func params results) = HasHalves words (codes "func") (codes "->") params.now results.now
SaysCoreItem words (core_item.Tag params results) = HasHalves words (codes "tag") (codes "->") params.now results.now
SaysCoreItem words (core_item.Table element initial maximum marks) = words ≡ codes "table" ∷ element.now ∷ initial.now ∷ maximum.now ∷ spelled marks.now
SaysCoreItem words (core_item.Memory initial maximum marks) = words ≡ codes "memory" ∷ initial.now ∷ maximum.now ∷ spelled marks.now
SaysCoreItem words (core_item.Global t marks) = words ≡ codes "global" ∷ t.now ∷ spelled marks.now

-- The words after `LABEL =` say this call.
abbrev pub SaysCall : List Word → Call → Type 0
SaysCall words (call.Shape s) = SaysShape words s
SaysCall words (call.Resource name) = words ≡ codes "resource" ∷ name.now ∷ []
SaysCall words (call.ResourceAlias name source) = words ≡ codes "resource" ∷ name.now ∷ source.now ∷ []
SaysCall words (call.OwnedAlias name source owner) = words ≡ codes "resource" ∷ name.now ∷ source.now ∷ owner.now ∷ []
SaysCall words (call.Func params results) = HasHalves words (codes "func") (codes "->") params.now results.now
SaysCall [] (call.AsyncFunc params results) = ⊥
SaysCall (first ∷ words) (call.AsyncFunc params results) = (first ≡ codes "async") × HasHalves words (codes "func") (codes "->") params.now results.now
SaysCall words (call.Interface id items) = words ≡ codes "interface" ∷ id.now ∷ spelled items.now
SaysCall words (call.World imports exports) = HasHalves words (codes "world") (codes "exports") imports.now exports.now
SaysCall words (call.Module imports exports) = HasHalves words (codes "module") (codes "exports") imports.now exports.now
SaysCall words (call.Package p) = words ≡ codes "package" ∷ p.name.now ∷ p.version.now ∷ p.file.now ∷ p.world.now ∷ []
SaysCall words (call.New label) = words ≡ codes "new" ∷ label.now ∷ []
SaysCall words (call.Alias node exported) = words ≡ codes "alias" ∷ node.now ∷ exported.now ∷ []
SaysCall words (call.Import name item) = words ≡ codes "import" ∷ name.now ∷ item.now ∷ []
SaysCall words (call.Define name item) = words ≡ codes "define" ∷ name.now ∷ item.now ∷ []

-- The words say this call without a label.
abbrev pub SaysChange : List Word → Change → Type 0
SaysChange words (change.Set node name argument) = words ≡ codes "set" ∷ node.now ∷ name.now ∷ argument.now ∷ []
SaysChange words (change.Export node name) = words ≡ codes "export" ∷ node.now ∷ name.now ∷ []
SaysChange words (change.Name node name) = words ≡ codes "name" ∷ node.now ∷ name.now ∷ []
SaysChange words (change.Plug socket plugs) = words ≡ codes "plug" ∷ socket.now ∷ spelled plugs.now

-- The words after `LABEL =` say this, with this label.
abbrev pub SaysMade : Word → List Word → Line → Type 0
SaysMade label words line.Nothing = ⊥
SaysMade label words (line.Make name call) = (name.now ≡ label) × SaysCall words call
SaysMade label [] (line.Core name item) = ⊥
SaysMade label (first ∷ words) (line.Core name item) = (name.now ≡ label) × (first ≡ codes "core") × SaysCoreItem words item
SaysMade label words (line.Change change) = ⊥

-- The second word is `=`: the line gives a label, which is the first.
abbrev pub GivesLabel : List Word → Type 0
GivesLabel words = (label : Word) × (rest : List Word) × (words ≡ label ∷ codes "=" ∷ rest)

-- The words of a line say this. A line that gives a label is no change.
abbrev pub SaysLine : List Word → Line → Type 0
SaysLine words (line.Make label call) = (rest : List Word) × (words ≡ label.now ∷ codes "=" ∷ rest) × SaysCall rest call
SaysLine words (line.Core label item) = (rest : List Word) × (words ≡ label.now ∷ codes "=" ∷ codes "core" ∷ rest) × SaysCoreItem rest item
SaysLine words line.Nothing = words ≡ []
SaysLine words (line.Change change) = (GivesLabel words → ⊥) × SaysChange words change

-- The words of a line say nothing that a line can say.
abbrev pub SaysNoLine : List Word → Type 0
SaysNoLine words = (said : Line) → SaysLine words said → ⊥
