use Rattle.std.proofs.Common.{Some, refl, sym, ◌∙◌, ap, arith}
use Rattle.wac_types_collection.specs.collection.Collection.{defined_values}
use Rattle.wac_types_shapes.specs.declared.shapes.component.DefinedTypeId.{DefinedTypeId}
use Rattle.wac_merge_tables.specs.made.Shapes.{shape_view}
use Rattle.wac_merge_tables.proofs.lemmas.made.Extending.{extended_none, still_defined, still_there, within_held}
use Rattle.wac_merge_tables.proofs.lemmas.made.MadeForms.{apart_too, made_alike, put_stays, put_there, there_too}
use Rattle.wac_merge_tables.proofs.lemmas.made.Behind.{defined_behind, memory_alone}
use Rattle.wac_merge_tables.proofs.made.made.Made.make.Goals as goal

pub returns-in-Some-clause-extended : goal.returns-in-Some-clause-extended
returns-in-Some-clause-extended c = extended_none c.args.merged.now

pub returns-in-Some-clause-added : goal.returns-in-Some-clause-added
returns-in-Some-clause-added c =
    let form = c.in_ok-form.form in
    record {
      extended = extended_none c.args.merged.now;
      there = c.requires.made.defined form c.in-Some.id (sym c.get.ensures ∙ c.in-Some.is) ∙ ap Some c.in_ok-form.ensures.shape;
    }

pub out_of_memory-requires : goal.out_of_memory-requires
out_of_memory-requires c = memory_alone DefinedTypeId c.args.merged.now (defined_values c.args.definition) c.in-Err.fault c.requires.held c.in-Err.ensures.fault

pub returns-in_err-put-in-Ok-clause-extended : goal.returns-in_err-put-in-Ok-clause-extended
returns-in_err-put-in-Ok-clause-extended c = (defined_behind c.args.merged.now c.add_defined_type.new.self c.args.definition c.in-Ok.id c.growth_keeps_trees.ensures c.in-Ok.ensures.added.0 c.in-Ok.ensures.added.1).extended

pub returns-in_ok-put-in-Ok-clause-extended : goal.returns-in_ok-put-in-Ok-clause-extended
returns-in_ok-put-in-Ok-clause-extended c = (defined_behind c.args.merged.now c.add_defined_type.new.self c.args.definition c.in-Ok.id c.growth_keeps_trees.ensures c.in-Ok.ensures.added.0 c.in-Ok.ensures.added.1).extended

pub returns-in_ok-put-in-Ok-clause-added : goal.returns-in_ok-put-in-Ok-clause-added
returns-in_ok-put-in-Ok-clause-added c = defined_behind c.args.merged.now c.add_defined_type.new.self c.args.definition c.in-Ok.id c.growth_keeps_trees.ensures c.in-Ok.ensures.added.0 c.in-Ok.ensures.added.1

pub returns-in_ok-put-in-Ok-clause-made : goal.returns-in_ok-put-in-Ok-clause-made
returns-in_ok-put-in-Ok-clause-made c =
    let new = c.add_defined_type.new.self in
    let form = c.in_ok-form.form in
    let behind = defined_behind c.args.merged.now new c.args.definition c.in-Ok.id c.growth_keeps_trees.ensures c.in-Ok.ensures.added.0 c.in-Ok.ensures.added.1 in
    there_too c.args.self.now c.put.new.self form c.in-Ok.id c.in_ok-put-in-Ok.ensures new (still_there c.args.merged.now new behind.extended c.args.self.now c.requires.made) (behind.there ∙ sym (ap Some c.in_ok-form.ensures.shape))

pub returns-in_ok-put-in-Ok-clause-apart : goal.returns-in_ok-put-in-Ok-clause-apart
returns-in_ok-put-in-Ok-clause-apart c first t begins apart =
    let m = c.args.merged.now in
    let form = c.in_ok-form.form in
    let at = c.in-Ok.ensures.added.0 in
    apart_too c.args.self.now c.put.new.self form c.in-Ok.id c.in_ok-put-in-Ok.ensures first t apart
    (λ k is. let low = within_held m.defined c.in-Ok.id.0 (shape_view k.shape) (c.requires.made.defined k c.in-Ok.id is) in absurd (omega (arith, low, at)))
    (λ held. let low = still_defined first m begins c.in-Ok.id held in absurd (omega (arith, low, at)))

pub returns-in-Some-clause-once : goal.returns-in-Some-clause-once
returns-in-Some-clause-once c f n v =
    let form = c.in_ok-form.form in
    made_alike c.args.self.now f form (n ∙ sym c.in_ok-form.ensures.named) (v ∙ sym c.in_ok-form.ensures.shape) ∙ sym c.get.ensures ∙ c.in-Some.is

pub returns-in_ok-put-in-Ok-clause-once : goal.returns-in_ok-put-in-Ok-clause-once
returns-in_ok-put-in-Ok-clause-once c f n v =
    let form = c.in_ok-form.form in
    put_there c.args.self.now c.put.new.self form c.in-Ok.id c.in_ok-put-in-Ok.ensures f (n ∙ sym c.in_ok-form.ensures.named) (v ∙ sym c.in_ok-form.ensures.shape)

pub returns-in_ok-put-in-Ok-clause-stay : goal.returns-in_ok-put-in-Ok-clause-stay
returns-in_ok-put-in-Ok-clause-stay c =
    let form = c.in_ok-form.form in
    put_stays c.args.self.now c.put.new.self form c.in-Ok.id c.in_ok-put-in-Ok.ensures (λ e is. absurd (c.in_default.not-Some e (c.get.ensures ∙ is)))

pub returns-in-Some-clause-named : goal.returns-in-Some-clause-named
returns-in-Some-clause-named c =
    let form = c.in_ok-form.form in
    (form, c.in_ok-form.ensures.named, c.in_ok-form.ensures.shape, sym c.get.ensures ∙ c.in-Some.is)

pub returns-in_ok-put-in-Ok-clause-named : goal.returns-in_ok-put-in-Ok-clause-named
returns-in_ok-put-in-Ok-clause-named c =
    let form = c.in_ok-form.form in
    (form, c.in_ok-form.ensures.named, c.in_ok-form.ensures.shape, put_there c.args.self.now c.put.new.self form c.in-Ok.id c.in_ok-put-in-Ok.ensures form refl refl)
