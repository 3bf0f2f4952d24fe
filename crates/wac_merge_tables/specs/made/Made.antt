-- The memo of definitions and function types of a merged collection. Only contracts inside the merge cite this file.
use Rattle.std.specs.Prelude.{ℕ, ◌≡◌, cond, map, Option, Some}
use Rattle.std.specs.HashMap.{get}
use Rattle.wac_types_shapes.specs.declared.shapes.component.DefinedType.{DefinedType}
use Rattle.wac_types_shapes.specs.declared.shapes.component.DefinedTypeId.{DefinedTypeId}
use Rattle.wac_types_shapes.specs.declared.shapes.component.FuncType.{FuncType}
use Rattle.wac_types_shapes.specs.declared.shapes.component.FuncTypeId.{FuncTypeId}
use Rattle.wac_types_collection.specs.collection.Collection.{Collection, HasDefined, item_at, seconds}
use Rattle.wac_types_collection.specs.private.subtyping.Extended.{IsExtended}
use Rattle.wac_merge_tables.specs.made.Shapes.{shape_view}
use Rattle.wac_merge_tables.specs.contracts.made.made.FormPartialEq.TheImpl as FormEq
use Rattle.wac_merge_tables.specs.contracts.made.made.FuncFormPartialEq.TheImpl as FuncFormEq
use Rattle.wac_merge_tables.specs.declared.made.made.Form.{Form}
use Rattle.wac_merge_tables.specs.declared.made.made.FuncForm.{FuncForm}
use Rattle.wac_merge_tables.specs.declared.made.made.Made.{Made}

-- The named type of each definition, as the first definition of it.
abbrev pub NamedTypeOf : Type 0
NamedTypeOf = DefinedTypeId → Option DefinedTypeId

-- The id of a definition in the memo.
abbrev pub made_in : Made → Form → Option DefinedTypeId
made_in made f = get (FormEq.ghosts).eq made.ids f

-- The id of a function type in the memo.
abbrev pub func_made_in : Made → FuncForm → Option FuncTypeId
func_made_in made k = get (FuncFormEq.ghosts).eq made.funcs k

-- Both function types are async or neither is, and their parameters have the same names.
abbrev pub AreCalledAlike : FuncType → FuncType → Type 0
AreCalledAlike x y = (y.is_async ≡ x.is_async) × (map (λ e. e.0) y.params ≡ map (λ e. e.0) x.params)

-- The function type resembles one of the collection in this way.
abbrev pub IsCalledAlike : Collection → FuncTypeId → FuncType → Type 0
IsCalledAlike m f y = (x : FuncType) × (item_at m.funcs f.0 ≡ Some x) × AreCalledAlike x y

-- A function type of the collection with these parts. It resembles the one that it is rewritten from and differs from
-- it.
pub record IsOfForm (m : Collection) (k : FuncForm) (g : FuncTypeId) : Type 0 where
  pub after : FuncType
  pub is : item_at m.funcs g.0 ≡ Some after
  pub alike : IsCalledAlike m k.func after
  pub changed : item_at m.funcs k.func.0 ≡ Some after → ⊥
  pub params : seconds after.params ≡ k.params.items
  pub result : after.result ≡ k.result

-- Each recorded id is that of its definition or function type in the collection.
pub record AreThere (m : Collection) (made : Made) : Type 0 where
  pub defined : (f : Form) (e : DefinedTypeId) → made_in made f ≡ Some e → item_at m.defined e.0 ≡ Some (shape_view f.shape)
  pub funcs : (k : FuncForm) (g : FuncTypeId) → func_made_in made k ≡ Some g → IsOfForm m k g

-- An id is recorded for one named type only. If the first collection holds it, that is its named type there.
pub record AreApart (c : Collection) (t : NamedTypeOf) (made : Made) : Type 0 where
  pub one : (f g : Form) (e : DefinedTypeId) → made_in made f ≡ Some e → made_in made g ≡ Some e → f.named ≡ g.named
  pub own : (f : Form) (e : DefinedTypeId) → made_in made f ≡ Some e → HasDefined c e → f.named ≡ t e

-- The new memo has one more definition.
pub record HasMadeToo (old : Made) (f : Form) (e : DefinedTypeId) (new : Made) : Type 0 where
  pub ids : (k : Form) → made_in new k ≡ cond ((FormEq.ghosts).eq f k) (Some e) (made_in old k)
  pub funcs : new.funcs ≡ old.funcs

-- The new memo has one more function type.
pub record HasMadeFuncToo (old : Made) (f : FuncForm) (g : FuncTypeId) (new : Made) : Type 0 where
  pub funcs : (k : FuncForm) → func_made_in new k ≡ cond ((FuncFormEq.ghosts).eq f k) (Some g) (func_made_in old k)
  pub ids : new.ids ≡ old.ids

-- The key of a definition or of a function type.
pub data Key : Type 0 where
  form : Form → Key
  func_form : FuncForm → Key

-- The key has this id.
abbrev pub IsMadeAs : Made → Key → ℕ → Type 0
IsMadeAs made (form f) n = made_in made f ≡ Some (record { 0 = n })
IsMadeAs made (func_form k) n = func_made_in made k ≡ Some (record { 0 = n })

-- The new memo has all keys of the old one, with the same ids.
abbrev pub StayMade : Made → Made → Type 0
StayMade old new = (k : Key) (n : ℕ) → IsMadeAs old k n → IsMadeAs new k n

-- The definition has this id for the named type.
abbrev pub IsMadeFor : Made → Option DefinedTypeId → DefinedType → DefinedTypeId → Type 0
IsMadeFor made named x e = (f : Form) × (f.named ≡ named) × (shape_view f.shape ≡ x) × (made_in made f ≡ Some e)

-- The function type, rewritten from f, has this id.
abbrev pub IsFuncMadeFor : Made → FuncTypeId → FuncType → FuncTypeId → Type 0
IsFuncMadeFor made f x g = (k : FuncForm) × (k.func ≡ f) × (k.params.items ≡ seconds x.params) × (k.result ≡ x.result) × (func_made_in made k ≡ Some g)

-- The collection grew, if at all, and the definition has this id.
pub record IsDefinedBehind (c m : Collection) (d : DefinedType) (id : DefinedTypeId) : Type 0 where
  pub extended : IsExtended c m
  pub there : item_at m.defined id.0 ≡ Some d

-- The collection grew, if at all, and the function type has this id.
pub record IsFuncBehind (c m : Collection) (f : FuncType) (id : FuncTypeId) : Type 0 where
  pub extended : IsExtended c m
  pub there : item_at m.funcs id.0 ≡ Some f
