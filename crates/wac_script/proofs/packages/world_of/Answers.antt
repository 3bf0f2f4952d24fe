use Rattle.std.proofs.Common.{ap, sym, inr, ◌∙◌}
use Rattle.std.proofs.lemmas.Bool.{false≢true}
use Rattle.wac_types_collection.specs.collection.Collection.{holds_type}
use Rattle.wac_types_shapes.specs.declared.shapes.component.«Type».TheVariants as ty
use Rattle.wac_script.specs.labels.Things.{things_of}
use Rattle.wac_script.proofs.ReadLemmas.{exit}
use Rattle.wac_script.proofs.RefuseLemmas.{one-world}
use Rattle.wac_script.proofs.packages.world_of.Goals as goal

pub returns-in_err-id : goal.returns-in_err-id
returns-in_err-id c = exit _ _ c.from_residual.result (c.in_err-id.field-0).0 c.from_residual.ensures.1 c.in_err-id.ensures (λ none n h. none n h.0)

pub returns-then-not-contains : goal.returns-then-not-contains
returns-then-not-contains c = inr (λ w h. false≢true (sym c.if-not-contains.true ∙ c.contains.ensures ∙ ap (λ t. holds_type t (ty.World c.in_ok-id.id)) c.types.ensures ∙ ap (λ v. holds_type c.args.graph.now.types (ty.World v)) (one-world (things_of c.args.labels.now) c.args.label.now c.in_ok-id.id w c.in_ok-id.ensures h.0) ∙ h.1))

pub returns : goal.returns
returns c = (c.in_ok-id.ensures, sym (c.contains.ensures ∙ ap (λ t. holds_type t (ty.World c.in_ok-id.id)) c.types.ensures) ∙ c.if-not-contains.false)
