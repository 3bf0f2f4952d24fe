-- What is read, after what was read before.
use Rattle.std.specs.Prelude.{ℕ, List, ◌++◌, Result, Ok, Err}
use Rattle.wac_component.specs.declared.fault.TextFault.{TextFault}
use Rattle.wac_component.specs.Reader.{done, after}

-- Values, and the bytes after them.
abbrev pub behind : {A : Type 0} → List A → Result (List A × List ℕ) TextFault → Result (List A × List ℕ) TextFault
behind front read = after (λ xs. done (front ++ xs)) read

-- Values that take all the bytes.
abbrev pub all_behind : {A : Type 0} → List A → Result (List A) TextFault → Result (List A) TextFault
all_behind front (Ok xs) = Ok (front ++ xs)
all_behind front (Err f) = Err f
