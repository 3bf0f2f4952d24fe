-- Which names the items of interfaces and worlds may have, each row decided by computing.
use Rattle.std.proofs.Common.{◌≡◌, ℕ, zero, suc, List, [], ◌∷◌, None, Some, refl, subst}
use Rattle.wac_types_shapes.specs.primitives.Name.{Name}
use Rattle.wac_types_shapes.specs.shapes.Named.{NoNameTwice}
use Rattle.wac_types_shapes.specs.declared.shapes.component.Interface.{Interface}
use Rattle.wac_types_shapes.specs.declared.shapes.component.ItemKind.{ItemKind}
use Rattle.wac_types_shapes.specs.declared.shapes.component.ItemKind.TheVariants as kind
use Rattle.wac_types_shapes.specs.declared.shapes.component.World.{World}
use Rattle.wac_types_collection.specs.collection.Collection.{Collection, empty, with_interface, with_world, item_at}
use Rattle.wac_types_collection.specs.collection.Names.{HasDistinctNames}

-- functions of one type that are named `a` and `b`
abbrev a : Name × ItemKind
a = (97 ∷ [], kind.Func (record { 0 = 0 }))

abbrev b : Name × ItemKind
b = (98 ∷ [], kind.Func (record { 0 = 0 }))

abbrev interface : List (Name × ItemKind) → Interface
interface exports = record { id = None; uses = []; exports = exports }

abbrev world : List (Name × ItemKind) → List (Name × ItemKind) → World
world imports exports = record { id = None; uses = []; imports = imports; exports = exports }

some_interface : (x y : Interface) → Some x ≡ Some y → x ≡ y
some_interface x y e = cc

some_world : (x y : World) → Some x ≡ Some y → x ≡ y
some_world x y e = cc

-- an interface that exports two names, and a world that imports and exports the same name
abbrev apart : Collection
apart = with_world (with_interface empty (interface (a ∷ b ∷ []))) (world (a ∷ []) (a ∷ []))

apart_interfaces : (n : ℕ) (it : Interface) → item_at apart.interfaces n ≡ Some it → NoNameTwice it.exports
apart_interfaces zero it at = subst (λ (i : Interface). NoNameTwice i.exports) (some_interface (interface (a ∷ b ∷ [])) it at) (refl, (refl, tt))
apart_interfaces (suc n) it at = let wrong : None ≡ Some it = at in absurd (cc)

apart_worlds : (n : ℕ) (w : World) → item_at apart.worlds n ≡ Some w → NoNameTwice w.imports × NoNameTwice w.exports
apart_worlds zero w at = subst (λ (v : World). NoNameTwice v.imports × NoNameTwice v.exports) (some_world (world (a ∷ []) (a ∷ [])) w at) ((refl, tt), (refl, tt))
apart_worlds (suc n) w at = let wrong : None ≡ Some w = at in absurd (cc)

names_apart : HasDistinctNames apart
names_apart = record { interfaces = λ i it at. apart_interfaces i.0 it at; worlds = λ i w at. apart_worlds i.0 w at }

some_kind : (k : ItemKind) → Some k ≡ None → ⊥
some_kind k e = cc

-- a name twice in an interface
exported_twice : HasDistinctNames (with_interface empty (interface (a ∷ b ∷ a ∷ []))) → ⊥
exported_twice h = some_kind a.1 (h.interfaces (record { 0 = 0 }) (interface (a ∷ b ∷ a ∷ [])) refl).0

-- a name twice in the imports of a world, and in its exports
imported_twice : HasDistinctNames (with_world empty (world (a ∷ a ∷ []) [])) → ⊥
imported_twice h = some_kind a.1 ((h.worlds (record { 0 = 0 }) (world (a ∷ a ∷ []) []) refl).0).0

given_twice : HasDistinctNames (with_world empty (world [] (b ∷ b ∷ []))) → ⊥
given_twice h = some_kind b.1 ((h.worlds (record { 0 = 0 }) (world [] (b ∷ b ∷ [])) refl).1).0
