use Rattle.std.proofs.Common.{sym, ◌∙◌, subst}
use Rattle.wac_types_collection.specs.reach.Reach.{IsIn}
use Rattle.wac_types_collection.proofs.lemmas.reach.Lists.{tested, test_in}
use Rattle.wac_types_collection.proofs.reach.reached.Reached.contains.Goals as goal

pub returns : goal.returns
returns c = (
  λ h. subst (IsIn c.args.ty) c.self.view_is (tested c.args.ty c.self.inside.types.keys (sym c.contains.ensures ∙ h)),
  λ h. c.contains.ensures ∙ test_in c.args.ty c.self.inside.types.keys (subst (IsIn c.args.ty) (sym c.self.view_is) h),
)
