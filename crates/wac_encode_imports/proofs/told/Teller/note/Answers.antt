use Rattle.std.proofs.Common.{◌≡◌, true, sym, ◌∙◌, subst}
use Rattle.std.proofs.lemmas.Result.{on_ok_weaker}
use Rattle.wac_types_shapes.specs.shapes.Kinds.{kind_type}
use Rattle.wac_types_shapes.specs.declared.shapes.component.ItemKind.{ItemKind}
use Rattle.wac_types_collection.specs.collection.Collection.{holds_type}
use Rattle.wac_encode_imports.proofs.Noted.{entry-held, exports-held, kind-interface, notes-instance, notes-none, others-low}
use Rattle.wac_encode_imports.proofs.told.Teller.note.Goals as goal

pub returns-in_default : goal.returns-in_default
returns-in_default c = notes-none c.args.self.now c.args.entry.now c.args.others.now.items (λ id is. c.in_default.not-Instance id (c.kind-item.ensures ∙ is))

pub index-interface-requires : goal.index-interface-requires
index-interface-requires c =
    kind-interface c.args.self.now c.kind-item.result c.in-Instance.id
    (subst (λ (k : ItemKind). holds_type c.args.self.now.types.now (kind_type k) ≡ true) (sym c.kind-item.ensures) (entry-held c.args.self.now c.requires.teller c.args.entry.now c.requires.entry)) c.in-Instance.is

pub note_own-requires-clause-held : goal.note_own-requires-clause-held
note_own-requires-clause-held c = exports-held c.args.self.now c.requires.teller c.in-Instance.id c.index-interface.result.now c.index-interface.ensures

pub note_own-requires-clause-position : goal.note_own-requires-clause-position
note_own-requires-clause-position c = others-low c.args.self.now c.requires.teller c.args.entry.now c.position_of-position.result c.position_of-position.ensures c.args.others.now.items c.requires.counted

pub returns : goal.returns
returns c = on_ok_weaker c.note_own.result
    (λ notes. notes-instance c.args.self.now c.requires.teller c.args.entry.now c.position_of-position.result c.position_of-position.ensures c.args.others.now.items c.note_own.new.others.items c.in-Instance.id c.index-interface.result.now (sym c.kind-item.ensures ∙ c.in-Instance.is) c.index-interface.ensures notes)
    c.note_own.ensures
