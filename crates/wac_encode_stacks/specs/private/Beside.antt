-- Two collections whose types are written into the same scopes, each with its own bindings and its own records.
use Rattle.std.specs.Prelude.{◌≡◌, List, [], ◌∷◌}
use Rattle.std.specs.List.{AllZip}
use Rattle.wac_types_collection.specs.collection.Collection.{Collection}
use Rattle.wac_types_collection.specs.collection.Bound.{Bindings}
use Rattle.wac_encode_stacks.specs.Scopes.{Open, Stack}
use Rattle.wac_encode_stacks.specs.Good.{Good, Onward}

-- The two stacks have the same content in each scope.
abbrev pub SameWritten : Stack → Stack → Type 0
SameWritten ps os = AllZip (λ p o. o.content ≡ p.content) ps os

-- The scope o with the content of p, and what o records.
abbrev pub written_as : Open → Open → Open
written_as p o = record o { content = p.content }

abbrev pub all_written_as : Stack → Stack → Stack
all_written_as (p ∷ ps) (o ∷ os) = written_as p o ∷ all_written_as ps os
all_written_as _ _ = []

-- A step that keeps the stack good for one collection keeps it good for another that shares its content.
abbrev pub GoesOnBeside : Type 0
GoesOnBeside = (c d : Collection) (ms ns : List Bindings) (ps qs os : Stack) → SameWritten ps os → Onward c ms ps qs → Good d ns os
    → Onward d ns os (all_written_as qs os) × SameWritten qs (all_written_as qs os)
