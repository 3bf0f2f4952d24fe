use Rattle.std.proofs.Common.{sym, ◌∙◌, subst, le_refl, arith}
use Rattle.wac_types_shapes.specs.primitives.Tree.{exported}
use Rattle.wac_binary.specs.declared.sorts.Description.TheVariants as e
use Rattle.wac_encode_stacks.specs.Good.{nothing_bound}
use Rattle.wac_encode_scopes.specs.private.Components.{IsComponentType}
use Rattle.wac_encode_scopes.specs.Contents.{HasSide}
use Rattle.wac_encode_interfaces.proofs.Definitions.{exports-one}
use Rattle.wac_encode_interfaces.proofs.Items.{bottom-alone, component-more, component-item}
use Rattle.wac_encode_interfaces.proofs.Written.{side-on}
use Rattle.wac_encode_interfaces.proofs.SideCosts.{component-no-room, component-sized, exit-sized}
use Rattle.wac_encode_interfaces.proofs.Answered.{no-room-of}
use Rattle.wac_encode_scopes.proofs.Paying.{no-room-before, pays-both, priced-stays}
use Rattle.wac_encode_interfaces.proofs.DefinitionCosts.{component-listed, exporting-room, exporting-sized}
use Rattle.std.specs.Prelude.{◌+◌, ◌*◌, [], length}
use Rattle.std.specs.List.{flat_map}
use Rattle.wac_binary.specs.Bytes.{decl_bytes}
use Rattle.wac_encode_interfaces.proofs.writer.TypeWriter.exporting.Goals as goal

pub list-requires : goal.list-requires
list-requires c =
    side-on exported c.component-state.result.here.content c.define_component.new.self.here.content c.define_component.ensures.types.0 (subst (HasSide exported) (sym c.component-state.ensures.content) tt)

pub finish_component-requires : goal.finish_component-requires
finish_component-requires c =
    subst IsComponentType (sym c.in_ok-list.ensures.content)
    (component-item exported c.args.name.now (e.Component c.in_ok-index.index) c.define_component.new.self.here.content
    (component-more c.component-state.result.here.content c.define_component.new.self.here.content c.define_component.ensures.types.0 (subst IsComponentType (sym c.component-state.ensures.content) tt)))

pub returns-clause-is : goal.returns-clause-is
returns-clause-is c =
    let types = c.args.self.now.types.now in
    let b = c.args.self.now.merged in
    let done = exports-one types b c.args.name.now c.args.component.now c.component-state.result c.define_component.new.self c.list.new.self c.in_ok-index.index c.in_ok-list.field-0 c.requires (c.component-state.ensures.good types b) c.component-state.ensures.content c.in_ok-index.ensures.defines c.in_ok-list.ensures.lists c.in_ok-list.ensures.records in
    (c.finish_component.ensures.meaning types b nothing_bound done.good, c.finish_component.ensures.tree b (bottom-alone types b nothing_bound c.list.new.self done.good) ∙ done.tree)

pub returns-in_err-index-clause-small : goal.returns-in_err-index-clause-small
returns-in_err-index-clause-small c =
    exit-sized 17 (44 + 2 * length c.args.name.now + length (flat_map decl_bytes c.args.component.now)) _ c.from_residual.result c.from_residual.ensures.1
    (λ is. exporting-room (length (flat_map decl_bytes c.args.component.now)) (length c.args.name.now) (17 + length (flat_map decl_bytes c.args.component.now)) (omega arith) (component-no-room c.args.self.now.types.now c.args.self.now.merged [] [] (17 + length (flat_map decl_bytes c.args.component.now)) c.component-state.result (c.component-state.ensures.uncharged c.args.self.now.types.now c.args.self.now.merged).0 c.component-state.ensures.content (le_refl 0) (c.component-state.ensures.uncharged c.args.self.now.types.now c.args.self.now.merged).1 (no-room-of c.args.self.now.types.now c.args.self.now.merged [] (17 + length (flat_map decl_bytes c.args.component.now)) c.component-state.result _ is (c.in_err-index.ensures.paid c.args.self.now.types.now c.args.self.now.merged (c.component-state.ensures.uncharged c.args.self.now.types.now c.args.self.now.merged).2))))

pub returns-in_err-list-clause-small : goal.returns-in_err-list-clause-small
returns-in_err-list-clause-small c =
    exit-sized 17 (44 + 2 * length c.args.name.now + length (flat_map decl_bytes c.args.component.now)) _ c.from_residual-in_err-list.result c.from_residual-in_err-list.ensures.1
    (λ is. exporting-room (length (flat_map decl_bytes c.args.component.now)) (length c.args.name.now) ((17 + length (flat_map decl_bytes c.args.component.now)) + (10 + 2 * length c.args.name.now)) (omega arith) (component-no-room c.args.self.now.types.now c.args.self.now.merged [] [] ((17 + length (flat_map decl_bytes c.args.component.now)) + (10 + 2 * length c.args.name.now)) c.component-state.result (c.component-state.ensures.uncharged c.args.self.now.types.now c.args.self.now.merged).0 c.component-state.ensures.content (le_refl 0) (c.component-state.ensures.uncharged c.args.self.now.types.now c.args.self.now.merged).1
    (no-room-before c.args.self.now.types.now c.args.self.now.merged [] (17 + length (flat_map decl_bytes c.args.component.now)) (10 + 2 * length c.args.name.now) c.component-state.result c.define_component.new.self (c.in_ok-index.ensures.paid c.args.self.now.types.now c.args.self.now.merged (c.component-state.ensures.uncharged c.args.self.now.types.now c.args.self.now.merged).2) (no-room-of c.args.self.now.types.now c.args.self.now.merged [] (10 + 2 * length c.args.name.now) c.define_component.new.self _ is (c.in_err-list.ensures.paid c.args.self.now.types.now c.args.self.now.merged (priced-stays c.args.self.now.merged c.component-state.result c.define_component.new.self c.define_component.ensures.types (c.component-state.ensures.uncharged c.args.self.now.types.now c.args.self.now.merged).2))))))

pub returns-clause-small : goal.returns-clause-small
returns-clause-small c =
    let both = pays-both c.args.self.now.types.now c.args.self.now.merged [] (17 + length (flat_map decl_bytes c.args.component.now)) (10 + 2 * length c.args.name.now) c.component-state.result c.define_component.new.self c.list.new.self (c.in_ok-index.ensures.paid c.args.self.now.types.now c.args.self.now.merged (c.component-state.ensures.uncharged c.args.self.now.types.now c.args.self.now.merged).2) (c.in_ok-list.ensures.paid c.args.self.now.types.now c.args.self.now.merged (priced-stays c.args.self.now.merged c.component-state.result c.define_component.new.self c.define_component.ensures.types (c.component-state.ensures.uncharged c.args.self.now.types.now c.args.self.now.merged).2)) in
    exporting-sized (length (flat_map decl_bytes c.finish_component.result)) (length (flat_map decl_bytes c.args.component.now)) (length c.args.name.now)
    (component-sized c.args.self.now.types.now c.args.self.now.merged [] [] ((17 + length (flat_map decl_bytes c.args.component.now)) + (10 + 2 * length c.args.name.now)) c.component-state.result (c.component-state.ensures.uncharged c.args.self.now.types.now c.args.self.now.merged).0 c.component-state.ensures.content (le_refl 0) c.list.new.self both (component-listed exported c.args.name.now (e.Component c.in_ok-index.index) c.component-state.result c.define_component.new.self c.list.new.self c.component-state.ensures.content c.define_component.ensures.types.0 c.in_ok-list.ensures.content) c.finish_component.result c.finish_component.ensures.declarations)
