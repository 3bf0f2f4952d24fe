-- The types and parts that variants are.
use Rattle.std.proofs.Common.{◌≡◌, List, [], ◌∷◌, map, refl, ap, sym, ◌∙◌, Vec, Global}
use Rattle.wac_binary.specs.Items.{TypeDef, value_def, component_def, instance_def, decls, Decl}
use Rattle.wac_component.specs.declared.types.ValueDef.{ValueDef as ReadValueDef}
use Rattle.wac_component.specs.declared.types.Decl.{Decl as ReadDecl}
use Rattle.wac_component.specs.declared.types.Decl.TheVariants as d
use Rattle.wac_component.specs.declared.types.TypeDef.{TypeDef as ReadTypeDef}
use Rattle.wac_component.specs.declared.types.TypeDef.TheVariants.{Value, Component, Instance, rolls-Value, rolls-Component, rolls-Instance}
use Rattle.wac_component.specs.declared.types.TypeDef.TheOpen as t
use Rattle.wac_component.specs.declared.types.TypeDef.TheFolds.{fold-roll-TypeDef, fold-TypeDef}
use Rattle.wac_component.specs.declared.types.TypeDef.TheShapes.{former-TypeDef-Component-0-at-7}
use Rattle.wac_component.specs.declared.parts.Entry.{Entry}
use Rattle.wac_component.specs.declared.parts.Part.{Part as ReadPart}
use Rattle.wac_component.specs.declared.parts.Part.TheVariants as v
use Rattle.wac_component.specs.declared.parts.Part.TheOpen as p
use Rattle.wac_component.specs.declared.parts.Part.TheFolds.{fold-roll-Part, fold-Part}
use Rattle.wac_component.specs.declared.parts.Part.TheShapes.{former-Part-Component-0-at-2}
use Rattle.wac_component.specs.Parts.{Part, component_part, resource_part, type_part, parts}
use Rattle.wac_component.specs.declared.resources.ResourceDef.{ResourceDef as ReadResourceDef}
use Rattle.wac_component.specs.CoreViews.{resource_of}
use Rattle.wac_component.specs.PartViews.{part_layer, part_of, parts_of_entries}
use Rattle.wac_component.specs.Views.{value_def_of, decl_of, type_layer, type_of}

pub value_is : (x : ReadValueDef) → type_of (Value x) ≡ value_def (value_def_of x)
value_is x = ap type_of (sym (rolls-Value x)) ∙ fold-roll-TypeDef TypeDef type_layer (t.Value x)

-- A layer of declarations, with the types in them in the place of the program's.
same : (g : ReadDecl ReadTypeDef → ReadDecl TypeDef) → ((x : ReadDecl ReadTypeDef) → decl_of (λ y. y) (g x) ≡ decl_of type_of x) → (l : List (ReadDecl ReadTypeDef)) → map (decl_of (λ y. y)) (map g l) ≡ map (decl_of type_of) l
same g each [] = refl
same g each (x ∷ l) = rw (each x, same g each l) refl

each_decl : (x : ReadDecl ReadTypeDef) → decl_of (λ y. y) (former-TypeDef-Component-0-at-7.map ReadTypeDef TypeDef (fold-TypeDef TypeDef type_layer) x) ≡ decl_of type_of x
each_decl (d.CoreType ms) = refl
each_decl (d.«Type» y) = refl
each_decl (d.Alias y) = refl
each_decl (d.Import name y) = refl
each_decl (d.Export name y) = refl

pub component_is : (ds : Vec (ReadDecl ReadTypeDef) Global) → type_of (Component ds) ≡ component_def (decls (map (decl_of type_of) ds.items))
component_is ds = ap type_of (sym (rolls-Component ds)) ∙ fold-roll-TypeDef TypeDef type_layer (t.Component ds) ∙ ap (λ (l : List Decl). component_def (decls l)) (same _ each_decl ds.items)

pub instance_is : (ds : Vec (ReadDecl ReadTypeDef) Global) → type_of (Instance ds) ≡ instance_def (decls (map (decl_of type_of) ds.items))
instance_is ds = ap type_of (sym (rolls-Instance ds)) ∙ fold-roll-TypeDef TypeDef type_layer (t.Instance ds) ∙ ap (λ (l : List Decl). instance_def (decls l)) (same _ each_decl ds.items)

-- The entries of a layer, with the parts in them in the place of the program's.
same_entries : (g : Entry ReadPart → Entry Part) → ((x : Entry ReadPart) → (g x).part ≡ part_of x.part) → (l : List (Entry ReadPart)) → map (λ (e : Entry Part). e.part) (map g l) ≡ map (λ (e : Entry ReadPart). part_of e.part) l
same_entries g each [] = refl
same_entries g each (x ∷ l) = rw (each x, same_entries g each l) refl

each_entry : (x : Entry ReadPart) → (former-Part-Component-0-at-2.map ReadPart Part (fold-Part Part part_layer) x).part ≡ part_of x.part
each_entry x = refl

pub nested_is : (entries : Vec (Entry ReadPart) Global) → part_of (v.Component entries) ≡ component_part (parts (parts_of_entries entries.items))
nested_is entries = ap part_of (sym (v.rolls-Component entries)) ∙ fold-roll-Part Part part_layer (p.Component entries) ∙ ap (λ (l : List Part). component_part (parts l)) (same_entries _ each_entry entries.items)

pub resource_is : (x : ReadResourceDef) → part_of (v.Resource x) ≡ resource_part (resource_of x)
resource_is x = ap part_of (sym (v.rolls-Resource x)) ∙ fold-roll-Part Part part_layer (p.Resource x)

pub type_is : (x : ReadTypeDef) → part_of (v.«Type» x) ≡ type_part (type_of x)
type_is x = ap part_of (sym (v.rolls-Type x)) ∙ fold-roll-Part Part part_layer (p.«Type» x)
