-- A worked example of what merged imports weigh, decided by computing.
use Rattle.std.proofs.Common.{◌≡◌, ◌+◌, ℕ, false, List, [], ◌∷◌, None, codes, refl, arith}
use Rattle.std.specs.List.{sum_by}
use Rattle.wac_types_shapes.specs.primitives.Name.{Name}
use Rattle.wac_types_shapes.specs.declared.shapes.component.Interface.{Interface}
use Rattle.wac_types_shapes.specs.declared.shapes.component.ItemKind.{ItemKind}
use Rattle.wac_types_shapes.specs.declared.shapes.component.ItemKind.TheVariants as kind
use Rattle.wac_types_collection.specs.declared.collection.collection.Held.{Held}
use Rattle.wac_types_collection.specs.collection.Collection.{Collection}
use Rattle.wac_types_weight.specs.Weight.{near_all}
use Rattle.wac_types_weight.specs.Text.{bare_weight, scope_weight}
use Rattle.wac_merge_classes.specs.entries.Classes.{Entry}
use Rattle.wac_merge_imports.specs.unions.Lighter.{IsLighter, types_of}

abbrev held : {A : Type 0} → A → Held A
held x = record { item = x; before = 0 }

abbrev function : ItemKind
function = kind.Func (record { 0 = 0 })

abbrev instance : ℕ → ItemKind
instance n = kind.Instance (record { 0 = n })

abbrev exporting : List (Name × ItemKind) → Held Interface
exporting items = held (record { id = None; uses = []; exports = items })

-- Interface 0 exports a function, interface 1 three. Interfaces 2 and 3 export an instance of interface 0, interface 4 one
-- of interface 1.
abbrev collection : Collection
collection = record {
  resources = [];
  funcs = held (record { params = []; result = None; is_async = false }) ∷ [];
  defined = [];
  interfaces = exporting ((codes "f", function) ∷ [])
      ∷ exporting ((codes "f", function) ∷ (codes "g", function) ∷ (codes "h", function) ∷ [])
      ∷ exporting ((codes "k", instance 0) ∷ [])
      ∷ exporting ((codes "k", instance 0) ∷ [])
      ∷ exporting ((codes "k", instance 1) ∷ [])
      ∷ [];
  worlds = [];
  modules = [];
}

abbrev imports : ℕ → ℕ → ℕ → List Entry
imports a b c = record { name = codes "a"; kind = instance a } ∷ record { name = codes "b"; kind = instance b } ∷ record { name = codes "c"; kind = instance c } ∷ []

abbrev inside : List Entry → ℕ
inside es = sum_by (bare_weight collection) (types_of es)

-- An import has 1. The instance inside has 1, each of its functions 1 and a letter, and their function type 1, once.
inside_each : inside (imports 2 3 4) ≡ (1 + 4) + (1 + 4) + (1 + 8)
unfolding near_all scope_weight
inside_each = refl

inside_large : inside (imports 4 4 4) ≡ (1 + 8) + (1 + 8) + (1 + 8)
unfolding near_all scope_weight
inside_large = refl

-- If each import exports the instance with most functions, the imports weigh more.
pub large_for_each_is_heavier : IsLighter collection (imports 2 3 4) (record { types = collection; imports = imports 4 4 4 }) → ⊥
large_for_each_is_heavier light =
    let each = inside_each in
    let large = inside_large in
    let less = light.inside in
    omega (arith, each, large, less)
