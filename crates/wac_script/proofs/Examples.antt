-- Worked examples: what lines say, and some that they do not say.
use Rattle.std.proofs.Common.{◌≡◌, ◌∷◌, [], List, Some, None, map, inl, inr, refl, codes}
use Rattle.std.specs.Borrow.{Bor}
use Rattle.wac_types_shapes.specs.declared.primitives.PrimitiveType.TheVariants as primitive_type
use Rattle.wac_types_shapes.specs.declared.shapes.component.ValueType.TheVariants as val
use Rattle.wac_script.specs.labels.Items.{IsWorldId}
use Rattle.wac_script.specs.labels.Values.{IsValue, primitive}
use Rattle.wac_script.specs.lines.Words.{Word}
use Rattle.wac_script.specs.lines.Says.{SaysLine, SaysNoLine, GivesLabel}
use Rattle.wac_script.specs.declared.lines.shapes.Shape.TheVariants as shape
use Rattle.wac_script.specs.declared.lines.shapes.CoreItem.TheVariants as core_item
use Rattle.wac_script.specs.declared.lines.calls.Call.TheVariants as call
use Rattle.wac_script.specs.declared.lines.calls.Change.{Change}
use Rattle.wac_script.specs.declared.lines.calls.Change.TheVariants as change
use Rattle.wac_script.specs.declared.lines.calls.Line.TheVariants as line

abbrev word : Word → Bor Word
word w = record { ref_ptr = (0, 0); now = w }

abbrev words : List Word → Bor (List (Bor Word))
words ws = record { ref_ptr = (0, 0); now = map word ws }

-- an empty line says nothing
pub empty : SaysLine [] line.Nothing
empty = refl

-- `level = enum debug info`
pub enumeration : SaysLine (codes "level" ∷ codes "=" ∷ codes "enum" ∷ codes "debug" ∷ codes "info" ∷ [])
    (line.Make (word (codes "level")) (call.Shape (shape.Enum (words (codes "debug" ∷ codes "info" ∷ [])))))
enumeration = (codes "enum" ∷ codes "debug" ∷ codes "info" ∷ [], refl, refl)

-- `r = resource r q`
pub alias_of : SaysLine (codes "r" ∷ codes "=" ∷ codes "resource" ∷ codes "r" ∷ codes "q" ∷ [])
    (line.Make (word (codes "r")) (call.ResourceAlias (word (codes "r")) (word (codes "q"))))
alias_of = (codes "resource" ∷ codes "r" ∷ codes "q" ∷ [], refl, refl)

-- `f = func a=u8 -> bool`
pub function : SaysLine (codes "f" ∷ codes "=" ∷ codes "func" ∷ codes "a=u8" ∷ codes "->" ∷ codes "bool" ∷ [])
    (line.Make (word (codes "f")) (call.Func (words (codes "a=u8" ∷ [])) (words (codes "bool" ∷ []))))
function = (codes "func" ∷ codes "a=u8" ∷ codes "->" ∷ codes "bool" ∷ [], refl, (refl, (((λ e. cc), tt), inl refl)))

-- `i = interface _ f=f`
pub instance : SaysLine (codes "i" ∷ codes "=" ∷ codes "interface" ∷ codes "_" ∷ codes "f=f" ∷ [])
    (line.Make (word (codes "i")) (call.Interface (word (codes "_")) (words (codes "f=f" ∷ []))))
instance = (codes "interface" ∷ codes "_" ∷ codes "f=f" ∷ [], refl, refl)

-- `w = world f=f`, which has no exports
pub component : SaysLine (codes "w" ∷ codes "=" ∷ codes "world" ∷ codes "f=f" ∷ [])
    (line.Make (word (codes "w")) (call.World (words (codes "f=f" ∷ [])) (words [])))
component = (codes "world" ∷ codes "f=f" ∷ [], refl, (refl, (((λ e. cc), tt), inr (refl, refl))))

-- `m = module exports f=c`, which has no imports
pub core_module : SaysLine (codes "m" ∷ codes "=" ∷ codes "module" ∷ codes "exports" ∷ codes "f=c" ∷ [])
    (line.Make (word (codes "m")) (call.Module (words []) (words (codes "f=c" ∷ []))))
core_module = (codes "module" ∷ codes "exports" ∷ codes "f=c" ∷ [], refl, (refl, (tt, inl refl)))

-- `c = core memory 1 _ shared`
pub memory : SaysLine (codes "c" ∷ codes "=" ∷ codes "core" ∷ codes "memory" ∷ codes "1" ∷ codes "_" ∷ codes "shared" ∷ [])
    (line.Core (word (codes "c")) (core_item.Memory (word (codes "1")) (word (codes "_")) (words (codes "shared" ∷ []))))
memory = (codes "memory" ∷ codes "1" ∷ codes "_" ∷ codes "shared" ∷ [], refl, refl)

-- `p = package a:b _ p.wasm w`
pub package_of : SaysLine (codes "p" ∷ codes "=" ∷ codes "package" ∷ codes "a:b" ∷ codes "_" ∷ codes "p.wasm" ∷ codes "w" ∷ [])
    (line.Make (word (codes "p")) (call.Package (record { name = word (codes "a:b"); version = word (codes "_"); file = word (codes "p.wasm"); world = word (codes "w") })))
package_of = (codes "package" ∷ codes "a:b" ∷ codes "_" ∷ codes "p.wasm" ∷ codes "w" ∷ [], refl, refl)

-- `n = new p`
pub instantiation : SaysLine (codes "n" ∷ codes "=" ∷ codes "new" ∷ codes "p" ∷ []) (line.Make (word (codes "n")) (call.New (word (codes "p"))))
instantiation = (codes "new" ∷ codes "p" ∷ [], refl, refl)

-- `set n b a` gives no label, so it is a change
pub argument : SaysLine (codes "set" ∷ codes "n" ∷ codes "b" ∷ codes "a" ∷ [])
    (line.Change (change.Set (word (codes "n")) (word (codes "b")) (word (codes "a"))))
argument = (second, refl)
  where
    second : GivesLabel (codes "set" ∷ codes "n" ∷ codes "b" ∷ codes "a" ∷ []) → ⊥
    second gives = let e : codes "set" ∷ codes "n" ∷ codes "b" ∷ codes "a" ∷ [] ≡ gives.0 ∷ codes "=" ∷ gives.1 = gives.2 in cc

-- `set = x y` gives a label, so it is no change
pub no_change : (c : Change) → SaysLine (codes "set" ∷ codes "=" ∷ codes "x" ∷ codes "y" ∷ []) (line.Change c) → ⊥
no_change c says = says.0 (codes "set", codes "x" ∷ codes "y" ∷ [], refl)

-- `a` says nothing that a line can say
pub unsaid : SaysNoLine (codes "a" ∷ [])
unsaid line.Nothing says = cc
unsaid (line.Make name c) says = let e : codes "a" ∷ [] ≡ name.now ∷ codes "=" ∷ says.0 = says.1 in cc
unsaid (line.Core name item) says = let e : codes "a" ∷ [] ≡ name.now ∷ codes "=" ∷ codes "core" ∷ says.0 = says.1 in cc
unsaid (line.Change (change.Set n m a)) says = let e : codes "a" ∷ [] ≡ codes "set" ∷ n.now ∷ m.now ∷ a.now ∷ [] = says.1 in cc
unsaid (line.Change (change.Export n m)) says = let e : codes "a" ∷ [] ≡ codes "export" ∷ n.now ∷ m.now ∷ [] = says.1 in cc
unsaid (line.Change (change.Name n m)) says = let e : codes "a" ∷ [] ≡ codes "name" ∷ n.now ∷ m.now ∷ [] = says.1 in cc
unsaid (line.Change (change.Plug s ps)) says = let e : codes "a" ∷ [] ≡ codes "plug" ∷ s.now ∷ map (λ w. w.now) ps.now = says.1 in cc

-- the first word `id:a` of a world is its id, and is no import
pub id_first : IsWorldId (codes "id:a" ∷ codes "f=f" ∷ []) (Some (codes "a")) (codes "f=f" ∷ [])
id_first = refl

pub id_not_dropped : (rest : List Word) → IsWorldId (codes "id:a" ∷ []) None rest → ⊥
id_not_dropped rest h = h.0 (codes "a") refl

-- `u8` is a value type without any label
pub primitive_value : IsValue [] (codes "u8") (val.Primitive primitive_type.U8)
primitive_value = primitive primitive_type.U8 refl refl
