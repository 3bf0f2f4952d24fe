use Rattle.std.proofs.Common.{◌≡◌, true, List, [], ◌∷◌, ◌++◌, Contains, ap, sym, ◌∙◌, subst}
use Rattle.wac_types_shapes.specs.declared.shapes.component.«Type».{«Type» as AnyType}
use Rattle.wac_types_collection.specs.collection.Collection.{holds_type}
use Rattle.wac_types_collection.proofs.lemmas.wide.Members.{in_first, in_one}
use Rattle.wac_encode_interfaces.specs.private.Ready.{IsClean}
use Rattle.wac_encode.proofs.Results.{if-ok}
use Rattle.wac_encode.proofs.encoder.TypeEncoder.worlds_inside.Goals as goal

pub world_types-requires-clause-held : goal.world_types-requires-clause-held
world_types-requires-clause-held c = λ a there. subst (λ (x : AnyType). holds_type c.args.self.now.types.now x ≡ true) (sym (in_one c.args.ty a (subst (λ (xs : List AnyType). Contains xs a) (c.as_slice.ensures.value ∙ c.in_ok-push.ensures.items ∙ ap (λ (xs : List AnyType). xs ++ c.args.ty ∷ []) c.new-roots.ensures.items) there))) c.requires.held

pub world_types-requires-clause-clean : goal.world_types-requires-clause-clean
world_types-requires-clause-clean c = λ a there. subst (IsClean c.args.self.now.types.now) (sym (in_one c.args.ty a (subst (λ (xs : List AnyType). Contains xs a) (c.as_slice.ensures.value ∙ c.in_ok-push.ensures.items ∙ ap (λ (xs : List AnyType). xs ++ c.args.ty ∷ []) c.new-roots.ensures.items) there))) c.requires.clean

pub returns-clause-there : goal.returns-clause-there
returns-clause-there c = if-ok _ _ c.world_types.result (λ ws h. h c.args.ty (subst (λ (xs : List AnyType). Contains xs c.args.ty) (sym (c.as_slice.ensures.value ∙ c.in_ok-push.ensures.items ∙ ap (λ (xs : List AnyType). xs ++ c.args.ty ∷ []) c.new-roots.ensures.items)) (in_first c.args.ty []))) c.world_types.ensures.there
