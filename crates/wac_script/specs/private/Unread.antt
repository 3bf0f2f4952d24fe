-- Words that are not read.
use Rattle.std.specs.Prelude.{◌⊎◌, Result, MatchResult}
use Rattle.wac_types_shapes.specs.declared.shapes.named.ShapeError.{ShapeError}
use Rattle.wac_types_shapes.specs.declared.shapes.named.ShapeError.TheVariants as shape_error
use Rattle.wac_script.specs.declared.labels.faults.WordError.{WordError}
use Rattle.wac_script.specs.declared.labels.faults.WordError.TheVariants as word_error
use Rattle.wac_script.specs.labels.Things.{IsWordMemory, SayNone, SayNoSuch}

-- Memory ran out, or there is nothing to read.
abbrev pub IsUnread : Type 0 → WordError → Type 0
IsUnread Nothing e = IsWordMemory e ⊎ Nothing

-- The words say what is returned, or nothing of its kind.
abbrev pub Reads : {X : Type 0} → (X → Type 0) → Result X WordError → Type 0
Reads Say result = MatchResult result Say (IsUnread (SayNone Say))

-- The words say what is returned, or nothing of its kind, or something that is not such.
abbrev pub ReadsSuch : {X : Type 0} → (X → Type 0) → (X → Type 0) → Result X WordError → Type 0
ReadsSuch Say IsSuch result = MatchResult result Say (IsUnread (SayNoSuch Say IsSuch))

-- The error of words for one of shapes.
abbrev pub word_error_of : ShapeError → WordError
word_error_of shape_error.OutOfMemory = word_error.OutOfMemory
word_error_of shape_error.NameTwice = word_error.Shape shape_error.NameTwice
