use Rattle.std.proofs.Common.{◌*◌, length, refl, sym, ◌∙◌, subst, arith}
use Rattle.std.proofs.lemmas.Option.{slice_get_read}
use Rattle.std.proofs.lemmas.Result.{on_ok_weaker}
use Rattle.wac_types_weight.specs.Weight.{named_parts}
use Rattle.wac_types_weight.specs.Text.{entry_weight}
use Rattle.wac_types_shapes.specs.shapes.Kinds.{kind_type}
use Rattle.wac_types_shapes.specs.declared.shapes.component.ItemKind.{ItemKind}
use Rattle.wac_encode_imports.specs.declared.told.Others.{Others}
use Rattle.wac_encode_imports.specs.private.Told.{IsTypeImport}
use Rattle.wac_encode_imports.proofs.Telling.{entry-exports, entry-interface, entry-type}
use Rattle.wac_encode_scopes.specs.private.Closed.{AreApartItems, is_closed_in}
use Rattle.wac_encode_scopes.specs.private.Telling.{is_one_of}
use Rattle.wac_encode_scopes.proofs.Telling.{sound-held}
use Rattle.wac_encode_imports.proofs.Noted.{import-low, others-low}
use Rattle.wac_encode_imports.proofs.ToldCosts.{tells-more, entry-items}
use Rattle.wac_encode_imports.proofs.told.Teller.tell_entry.Goals as goal

pub place_at-index-requires : goal.place_at-index-requires
place_at-index-requires c = import-low c.args.self.now c.requires.teller c.args.entry.now c.position_of-position.result c.position_of-position.ensures

pub tell_type-requires : goal.tell_type-requires
tell_type-requires c =
    subst (λ (k : ItemKind). IsTypeImport c.args.self.now k c.place_at-index.result.1 c.args.state.now) (sym c.kind-item.ensures)
    (entry-type c.args.self.now c.args.state.now c.requires.imports c.args.entry.now c.requires.entry c.position_of-position.result c.position_of-position.ensures c.place_at-index.result c.place_at-index.ensures)

pub index-interface-requires : goal.index-interface-requires
index-interface-requires c = entry-interface c.args.self.now c.requires.teller c.args.entry.now c.requires.entry c.in-Instance.id (sym c.kind-item.ensures ∙ c.in-Instance.is)

pub bounds-others-position : goal.bounds-others-position
bounds-others-position c = others-low c.args.self.now c.requires.teller c.args.entry.now c.position_of-position.result c.position_of-position.ensures c.args.others.now c.requires.others.counted

pub apart_items-requires-clause-closed : goal.apart_items-requires-clause-closed
apart_items-requires-clause-closed c = c.requires.teller.closed

pub apart_items-requires-clause-held : goal.apart_items-requires-clause-held
apart_items-requires-clause-held c = sound-held c.args.self.now.types.now c.uses_law.ensures c.in-Instance.id c.index-interface.result.now c.index-interface.ensures

pub tell_values-requires : goal.tell_values-requires
tell_values-requires c =
    entry-exports c.args.self.now c.args.state.now c.requires.imports c.args.entry.now c.requires.entry c.position_of-position.result c.position_of-position.ensures c.place_at-index.result c.place_at-index.ensures
    c.args.others.now c.requires.others c.index-others-position.result (slice_get_read c.args.others.now (length c.args.others.now) c.position_of-position.result c.index-others-position.result refl (others-low c.args.self.now c.requires.teller c.args.entry.now c.position_of-position.result c.position_of-position.ensures c.args.others.now c.requires.others.counted) c.index-others-position.is)
    c.in-Instance.id c.index-interface.result.now (sym c.kind-item.ensures ∙ c.in-Instance.is) c.index-interface.ensures (is_closed_in c.in_ok-apart.apart)
    (subst (λ (o : Others). AreApartItems c.args.self.now.types.now c.index-interface.result.now.exports (is_one_of o.resources.keys) (is_closed_in c.in_ok-apart.apart)) (sym c.index-others-position.is) c.in_ok-apart.ensures)

pub returns-clause-keeps : goal.returns-clause-keeps
returns-clause-keeps c = c.tell_values.ensures.keeps

pub returns-clause-cost : goal.returns-clause-cost
returns-clause-cost c =
    let t = c.args.self.now.types.now in
    let items = entry-items t c.args.entry.now c.in-Instance.id c.index-interface.result.now (sym c.kind-item.ensures ∙ c.in-Instance.is) c.index-interface.ensures in
    on_ok_weaker c.tell_values.result (λ paid. tells-more t (2 * named_parts c.index-interface.result.now.exports) (2 * entry_weight t (kind_type c.args.entry.now.kind)) c.args.state.now c.tell_values.new.state (omega (arith, items)) paid) c.tell_values.ensures.cost

pub returns-in_default-clause-cost : goal.returns-in_default-clause-cost
returns-in_default-clause-cost c =
    on_ok_weaker c.tell_type.result (λ paid. tells-more c.args.self.now.types.now 0 (2 * entry_weight c.args.self.now.types.now (kind_type c.args.entry.now.kind)) c.args.state.now c.tell_type.new.state (omega arith) paid) c.tell_type.ensures.cost
