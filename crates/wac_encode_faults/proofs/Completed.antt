-- The component types of definitions: what they import and export is of the collection.
use Rattle.std.proofs.Common.{ℕ, ◌<◌, nat_lt, arith, true, List, [], ◌∷◌, length, Contains, ◌≡◌, ap, sym, ◌∙◌, subst}
use Rattle.wac_types_shapes.specs.primitives.Name.{Name}
use Rattle.wac_types_shapes.specs.shapes.Kinds.{kind_type}
use Rattle.wac_types_shapes.specs.declared.shapes.component.InterfaceId.{InterfaceId}
use Rattle.wac_types_shapes.specs.declared.shapes.component.ItemKind.{ItemKind}
use Rattle.wac_types_shapes.specs.declared.shapes.component.ItemKind.TheVariants as kind
use Rattle.wac_types_shapes.specs.declared.shapes.component.UsedType.{UsedType}
use Rattle.wac_types_shapes.specs.declared.shapes.component.World.{World}
use Rattle.wac_types_collection.specs.collection.Collection.{Collection, HasInterface, holds_type}
use Rattle.wac_types_collection.specs.wide.Wide.{wide_uses, each_once}
use Rattle.wac_types_collection.proofs.lemmas.wide.Members.{in_none, in_one}
use Rattle.wac_encode_faults.specs.Sides.{reached, unlisted, id_or_empty, interface_sides, completed_sides}
use Rattle.wac_encode_faults.specs.private.Binding.{sides_with}
use Rattle.wac_encode_faults.specs.private.Search.{AreHeld}

-- ---- imports and exports are of the collection
pub less_true : (i n : ℕ) → i < n → nat_lt i n ≡ true
less_true i n l = grind arith

pub none_held : (c : Collection) (items : List (Name × ItemKind)) → items ≡ [] → AreHeld c items
none_held c items none e h = absurd (in_none e (subst (λ l. Contains l e) none h))

pub instance_held : (c : Collection) (i : InterfaceId) (n : Name) (items : List (Name × ItemKind)) → HasInterface c i → items ≡ (n, kind.Instance i) ∷ [] → AreHeld c items
instance_held c i n items there is e h =
    subst (λ z. holds_type c (kind_type z.1) ≡ true) (sym (in_one (n, kind.Instance i) e (subst (λ l. Contains l e) is h))) (less_true i.0 (length c.interfaces) there)

-- ---- the sides
pub interface_same : (c : Collection) (i : InterfaceId) (uses : List (Name × UsedType)) (imports exports : List (Name × ItemKind)) (keys : List InterfaceId) → uses ≡ [] → imports ≡ []
    → keys ≡ each_once (reached c (wide_uses c i)) → exports ≡ (id_or_empty c i, kind.Instance i) ∷ [] → sides_with c uses imports keys exports ≡ interface_sides c i
interface_same c i uses imports exports keys no_uses no_imports are exported =
    ap (λ l. sides_with c l imports keys exports) no_uses ∙ ap (λ l. sides_with c [] l keys exports) no_imports ∙ ap (λ l. sides_with c [] [] l exports) are
    ∙ ap (sides_with c [] [] (each_once (reached c (wide_uses c i)))) exported

pub world_same : (c : Collection) (x y : World) (keys : List InterfaceId) → x ≡ y → keys ≡ unlisted c y → sides_with c x.uses x.imports keys x.exports ≡ completed_sides c y
world_same c x y keys same are = ap (λ (z : World). sides_with c z.uses z.imports keys z.exports) same ∙ ap (λ l. sides_with c y.uses y.imports l y.exports) are
