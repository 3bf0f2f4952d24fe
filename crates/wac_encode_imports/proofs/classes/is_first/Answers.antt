use Rattle.std.proofs.Common.{sym, ap, ◌∙◌}
use Rattle.std.specs.Option.{option_map}
use Rattle.wac_types_collection.specs.subtyping.CalledViews.{path_view}
use Rattle.wac_encode_imports.specs.private.Classes.{is_class}
use Rattle.wac_encode_imports.proofs.Looked.{class-of}
use Rattle.wac_encode_imports.proofs.classes.is_first.Goals as goal

pub returns-in-Some : goal.returns-in-Some
returns-in-Some c = class-of c.args.number c.first.result (c.in-Some.class, _) (λ x. path_view x.now) c.in-Some.is ∙ ap (is_class c.args.number) c.first.ensures

pub returns-in-None : goal.returns-in-None
returns-in-None c = sym (ap (λ o. is_class c.args.number (option_map (λ x. (x.0, path_view x.1.now)) o)) c.in-None.is) ∙ ap (is_class c.args.number) c.first.ensures
