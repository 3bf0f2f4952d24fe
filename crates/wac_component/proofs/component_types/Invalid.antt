-- Samples that are not valid, each by one rule.
use Rattle.std.proofs.Common.{◌≡◌, List, [], ◌∷◌, Some, None, true, false, refl, ap}
use Rattle.wac_component.proofs.component_types.Terms.{no_module_type, of_type, IsValid, is_only, func_type, a, f, x, alias_of, maker, defined}
use Rattle.wac_component.proofs.component_types.Wrong.{hiding, hiding_wrong}
use Rattle.wac_types_shapes.specs.primitives.Tree.{Tree, absent, primitive, function, function_item}
use Rattle.wac_binary.specs.Items.{value_def, primitive_def}
use Rattle.wac_component.specs.Parts.{Part, parts, component_part, instantiate_part, type_part, import_part, export_part}
use Rattle.wac_component.specs.ItemSubtype.{IsItemSubtype, same}
use Rattle.wac_component.specs.Valid.{IsValidComponent}
use Rattle.wac_types_shapes.specs.declared.primitives.component.PrimitiveType.{PrimitiveType}
use Rattle.wac_types_shapes.specs.declared.primitives.component.PrimitiveType.TheVariants as p
use Rattle.wac_binary.specs.declared.sorts.Sort.TheVariants as s
use Rattle.wac_binary.specs.declared.sorts.Description.TheVariants as e

true_false : true ≡ false → ⊥
true_false h = cc h

-- Two exports, and two imports, of one name.
abbrev pub exported_twice : List Part
exported_twice = defined ∷ export_part a of_type 0 None ∷ export_part a of_type 0 None ∷ []

pub exported_twice_invalid : IsValid exported_twice → ⊥
exported_twice_invalid h = true_false h.1.1.0.0

abbrev pub imported_twice : List Part
imported_twice = import_part a e.Fresh ∷ import_part a e.Fresh ∷ []

pub imported_twice_invalid : IsValid imported_twice → ⊥
imported_twice_invalid h = true_false h.1.0.0

-- An alias of an export that is not there.
abbrev pub no_export : List Part
no_export = maker ∷ instantiate_part 0 [] ∷ alias_of of_type 0 a ∷ []

pub no_export_invalid : IsValid no_export → ⊥
no_export_invalid h = h.1.1.0

-- An export of an index that is not there.
abbrev pub no_index : List Part
no_index = defined ∷ export_part a of_type 1 None ∷ []

pub no_index_invalid : IsValid no_index → ⊥
no_index_invalid h = h.1.0.1

-- Of what is absent nothing else is a subtype.
abbrev pub IsNothing : Tree → Tree → Type 0
IsNothing absent t = t ≡ absent
IsNothing _ t = Unit

pub is_nothing : (u t : Tree) → IsItemSubtype u t → IsNothing u t
is_nothing u t (same w) = self w
  where
    self : (v : Tree) → IsNothing v v
    self absent = refl
    self _ = tt
is_nothing u t _ = tt

-- An import without an argument.
abbrev pub no_argument : List Part
no_argument = component_part (parts (import_part x e.Fresh ∷ [])) ∷ instantiate_part 0 [] ∷ []

pub no_argument_invalid : IsValid no_argument → ⊥
no_argument_invalid h = cc (is_nothing _ _ (h.1.0.1 x (λ ne. cc ne)))

-- A function that is exported as of another type.
abbrev prim : PrimitiveType → Part
prim t = type_part (value_def (primitive_def t))

abbrev pub misascribed : List Part
misascribed = prim p.U8 ∷ func_type 0 ∷ prim p.String ∷ func_type 2 ∷ import_part f (e.Func 1) ∷ export_part f s.Func 0 (Some (e.Func 3)) ∷ []

pub misascribed_invalid : IsValid misascribed → ⊥
misascribed_invalid h = differ (ap parameter (is_only _ _ h.1.1.1.1.1.0.2.1))
  where
    parameter : Tree → Tree
    parameter (function_item (function is_async names params result)) = params 0
    parameter t = t

    differ : ◌≡◌ {A = Tree} (primitive p.String) (primitive p.U8) → ⊥
    differ h = cc h

-- A nested component with a resource that nothing names.
abbrev pub hidden : List Part
hidden = component_part (parts hiding) ∷ []

pub hidden_invalid : IsValid hidden → ⊥
hidden_invalid h = hiding_wrong h.0.1.0 h.0.1.1

-- .. and the component itself.
pub hiding_invalid : IsValidComponent no_module_type (parts hiding) → ⊥
hiding_invalid h = hiding_wrong h.1.0 h.1.1
