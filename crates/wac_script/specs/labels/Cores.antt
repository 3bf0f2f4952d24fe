-- The core modules that words say.
use Rattle.std.specs.Prelude.{◌≡◌, ◌≢◌, ◌++◌, ℕ, Bool, true, false, List, [], ◌∷◌, Option, Some, None, codes, map, slice_get}
use Rattle.wac_types_shapes.specs.primitives.Name.{find_name}
use Rattle.wac_types_shapes.specs.shapes.Imports.{find_import}
use Rattle.wac_types_shapes.specs.declared.primitives.CoreRefType.{CoreRefType}
use Rattle.wac_types_shapes.specs.declared.primitives.CoreRefType.TheVariants as reference
use Rattle.wac_types_shapes.specs.declared.primitives.CoreType.{CoreType}
use Rattle.wac_types_shapes.specs.declared.primitives.CoreType.TheVariants as core
use Rattle.wac_types_shapes.specs.declared.shapes.core_types.CoreFuncType.{CoreFuncType}
use Rattle.wac_types_shapes.specs.declared.shapes.core_types.CoreExtern.{CoreExtern}
use Rattle.wac_types_shapes.specs.declared.shapes.core_types.CoreExtern.TheVariants as core_extern
use Rattle.wac_types_shapes.specs.declared.shapes.core_types.ModuleType.{ModuleType}
use Rattle.wac_script.specs.lines.Words.{Word, spelled, IsPair, WordByWord}
use Rattle.wac_script.specs.lines.Numbers.{IsNumber}
use Rattle.wac_script.specs.declared.lines.shapes.CoreItem.{CoreItem}
use Rattle.wac_script.specs.declared.lines.shapes.CoreItem.TheVariants as said
use Rattle.wac_script.specs.declared.labels.things.Thing.TheVariants as thing
use Rattle.wac_script.specs.declared.labels.cores.Marks.{Marks}
use Rattle.wac_script.specs.labels.Things.{Labelling, IsThing}

-- The word of a reference type.
abbrev pub reference_word : CoreRefType → Word
reference_word reference.FuncRef = codes "funcref"
reference_word reference.ExternRef = codes "externref"

-- The word of a core type.
abbrev pub core_word : CoreType → Word
core_word core.I32 = codes "i32"
core_word core.I64 = codes "i64"
core_word core.F32 = codes "f32"
core_word core.F64 = codes "f64"
core_word core.V128 = codes "v128"
core_word (core.Ref r) = reference_word r

-- The words are these core types, in order.
abbrev pub AreCoreTypes : List Word → List CoreType → Type 0
AreCoreTypes words types = words ≡ map core_word types

-- The function type has these parameters and results.
abbrev pub IsCoreFunc : List Word → List Word → CoreFuncType → Type 0
IsCoreFunc params results f = AreCoreTypes params f.params × AreCoreTypes results f.results

-- The word is `page=` and a number.
abbrev pub IsPage : Word → Marks → Marks → Type 0
IsPage word old new = (digits : Word) × (log2 : ℕ) × (word ≡ codes "page=" ++ digits) × IsNumber 32 digits log2 × (new ≡ record old { page = Some log2 })

-- The word adds a mark.
pub data IsMark (word : Word) (old new : Marks) : Type 0 where
  wide : word ≡ codes "64" → new ≡ record old { is_64 = true } → IsMark word old new
  shared : word ≡ codes "shared" → new ≡ record old { is_shared = true } → IsMark word old new
  mutable : word ≡ codes "mut" → new ≡ record old { is_mutable = true } → IsMark word old new
  page : IsPage word old new → IsMark word old new

-- No mark.
abbrev pub no_marks : Marks
no_marks = record { is_64 = false; is_shared = false; is_mutable = false; page = None }

-- The words are these marks.
abbrev pub AreMarks : List Word → Marks → Type 0
AreMarks words marks = WordByWord IsMark words no_marks marks

-- The word is a greatest size, or `_` for none.
abbrev pub IsMaximum : Word → Option ℕ → Type 0
IsMaximum word None = word ≡ codes "_"
IsMaximum word (Some n) = IsNumber 64 word n

-- The words say this import or export of a core module.
abbrev pub IsCoreItem : CoreItem → CoreExtern → Type 0
IsCoreItem (said.Func params results) e = (f : CoreFuncType) × IsCoreFunc (spelled params.now) (spelled results.now) f × (e ≡ core_extern.Func f)
IsCoreItem (said.Tag params results) e = (f : CoreFuncType) × IsCoreFunc (spelled params.now) (spelled results.now) f × (e ≡ core_extern.Tag f)
IsCoreItem (said.Table element initial maximum words) e =
    (t : CoreRefType) × (min : ℕ) × (max : Option ℕ) × (marks : Marks) × (element.now ≡ reference_word t) × IsNumber 64 initial.now min × IsMaximum maximum.now max
    × AreMarks (spelled words.now) marks × (e ≡ core_extern.Table t min max marks.is_64 marks.is_shared)
IsCoreItem (said.Memory initial maximum words) e =
    (min : ℕ) × (max : Option ℕ) × (marks : Marks) × IsNumber 64 initial.now min × IsMaximum maximum.now max × AreMarks (spelled words.now) marks
    × (e ≡ core_extern.Memory marks.is_64 marks.is_shared min max marks.page)
IsCoreItem (said.Global t words) e =
    (v : CoreType) × (marks : Marks) × (t.now ≡ core_word v) × AreMarks (spelled words.now) marks × (e ≡ core_extern.Global v marks.is_mutable marks.is_shared)

-- The label stands for this import or export of a core module.
abbrev pub IsCore : Labelling → List CoreExtern → Word → CoreExtern → Type 0
IsCore labels cores label item = (n : ℕ) × IsThing labels label (thing.Core n) × (slice_get cores n ≡ Some item)

-- The word is `NAME=LABEL`, and adds such an import from the module, which is not there yet.
abbrev pub AddsImport : Labelling → List CoreExtern → Word → Word → ModuleType → ModuleType → Type 0
AddsImport labels cores source word old new =
    (name : Word) × (label : Word) × (item : CoreExtern) × IsPair word name label × IsCore labels cores label item
    × (find_import old.imports source name ≡ None) × (new ≡ record old { imports = old.imports ++ ((source, name), item) ∷ [] })

-- A module with some imports, the name of the module from which the next ones are, and whether the next word is this name.
pub record Importing : Type 0 where
  pub name : Word
  pub is_next : Bool
  pub ty : ModuleType

-- The word is `from`, or the name after it, or it adds an import.
pub data TakesImport (labels : Labelling) (cores : List CoreExtern) (word : Word) (old new : Importing) : Type 0 where
  name : old.is_next ≡ true → new ≡ record old { name = word; is_next = false } → TakesImport labels cores word old new
  next : old.is_next ≡ false → word ≡ codes "from" → new ≡ record old { is_next = true } → TakesImport labels cores word old new
  import : old.is_next ≡ false → word ≢ codes "from" → AddsImport labels cores old.name word old.ty new.ty → new ≡ record old { ty = new.ty } → TakesImport labels cores word old new

-- The words add imports; those before the first `from` are from the module of the empty name.
abbrev pub AddImports : Labelling → List CoreExtern → List Word → ModuleType → ModuleType → Type 0
AddImports labels cores words old new =
    (end : Importing) × WordByWord (TakesImport labels cores) words (record { name = []; is_next = false; ty = old }) end
    × (end.is_next ≡ false) × (new ≡ end.ty)

-- The word is `NAME=LABEL`, and adds such an export, which is not there yet.
abbrev pub AddsExport : Labelling → List CoreExtern → Word → ModuleType → ModuleType → Type 0
AddsExport labels cores word old new =
    (name : Word) × (label : Word) × (item : CoreExtern) × IsPair word name label × IsCore labels cores label item
    × (find_name old.exports name ≡ None) × (new ≡ record old { exports = old.exports ++ (name, item) ∷ [] })

-- The words are the imports and exports of this core module.
abbrev pub IsModule : Labelling → List CoreExtern → List Word → List Word → ModuleType → Type 0
IsModule labels cores imports exports m =
    (mid : ModuleType) × AddImports labels cores imports (record { imports = []; exports = [] }) mid × WordByWord (AddsExport labels cores) exports mid m
