use Rattle.std.proofs.Common.{ℕ, Option, subst}
use Rattle.std.specs.Prelude.{IsSomeAnd}
use Rattle.std.specs.Borrow.{Bor}
use Rattle.std.specs.Option.{option_map}
use Rattle.wac_types_shapes.specs.declared.shapes.component.ItemKind.{ItemKind}
use Rattle.wac_graph.specs.private.plugs.Positions.{IsInstancePosition}
use Rattle.wac_graph.proofs.lemmas.plugs.Each.{listed-exports}
use Rattle.wac_graph.proofs.lemmas.plugs.Worlds.{interface-within}
use Rattle.wac_graph.proofs.lemmas.plugs.Placed.{listed-instance, placed}
use Rattle.wac_graph.proofs.wiring.instance_position.Goals as goal

pub index-requires-2 : goal.index-requires-2
index-requires-2 c = interface-within c.args.graph.now c.args.id c.index-package.result.now c.instance_type.result c.types-2.result.now c.law.ensures c.index-package.ensures c.instance_type.ensures c.types-2.ensures

pub unreachable-requires : goal.unreachable-requires
unreachable-requires c =
    let g = c.args.graph.now in
    let id = c.args.id in
    let p = c.index-package.result.now in
    let x = c.index.result.now in
    let y = c.index-2.result.now in
    let world = listed-exports g id p c.ty.result c.types.result.now x c.index-package.ensures c.ty.ensures c.types.ensures c.index.ensures in
    let instance = listed-instance g id p c.instance_type.result c.types-2.result.now y c.index-package.ensures c.instance_type.ensures c.types-2.ensures c.index-2.ensures in
    let found = option_map (λ (f : ℕ × Bor ItemKind). (f.0, f.1.now)) c.get_full.result in
    let there = placed g id p x y c.args.export c.name_at-name.result.now found c.law.ensures c.index-package.ensures world instance c.law-2.ensures c.requires.within c.name_at-name.ensures c.get_full.ensures in
    subst (λ (r : Option (ℕ × Bor ItemKind)). IsSomeAnd (option_map (λ (f : ℕ × Bor ItemKind). (f.0, f.1.now)) r) (λ f. IsInstancePosition g id c.args.export f.0)) c.in-None.is there

pub returns : goal.returns
returns c =
    let g = c.args.graph.now in
    let id = c.args.id in
    let p = c.index-package.result.now in
    let x = c.index.result.now in
    let y = c.index-2.result.now in
    let world = listed-exports g id p c.ty.result c.types.result.now x c.index-package.ensures c.ty.ensures c.types.ensures c.index.ensures in
    let instance = listed-instance g id p c.instance_type.result c.types-2.result.now y c.index-package.ensures c.instance_type.ensures c.types-2.ensures c.index-2.ensures in
    let found = option_map (λ (f : ℕ × Bor ItemKind). (f.0, f.1.now)) c.get_full.result in
    let there = placed g id p x y c.args.export c.name_at-name.result.now found c.law.ensures c.index-package.ensures world instance c.law-2.ensures c.requires.within c.name_at-name.ensures c.get_full.ensures in
    subst (λ (r : Option (ℕ × Bor ItemKind)). IsSomeAnd (option_map (λ (f : ℕ × Bor ItemKind). (f.0, f.1.now)) r) (λ f. IsInstancePosition g id c.args.export f.0)) c.in-Some.is there
