use Rattle.std.proofs.Common.{Some, sym, ap, ◌∙◌}
use Rattle.std.specs.Option.{option_copied}
use Rattle.wac_types_shapes.specs.primitives.Name.{Name, find_name}
use Rattle.wac_merge_classes.specs.entries.Classes.{by_names, imported_as}
use Rattle.wac_merge_unions.specs.uses.KeptUses.{instance_of}
use Rattle.wac_merge_unions.proofs.lemmas.uses.KeptUses.{imported-is, no-instance}
use Rattle.wac_merge_unions.proofs.uses.uses.imported_interface.Goals as goal

pub returns : goal.returns
returns c =
    let t = c.args.asked.now.types.now in
    let es = c.args.asked.now.entries.now in
    let is = c.args.imports.now in
    sym (imported-is by_names t es is c.args.id c.index.result.now c.in-Some.text c.index.ensures c.in-Some.is
    ∙ ap (λ (n : Name). instance_of (find_name is n)) (sym (c.imported_name-name.ensures ∙ ap (imported_as by_names es) c.as_str.ensures))
    ∙ ap instance_of (sym c.in-Some-get.ensures) ∙ ap (λ k. instance_of (Some k)) c.in-Instance.is)

pub returns-in_default-kind : goal.returns-in_default-kind
returns-in_default-kind c =
    let t = c.args.asked.now.types.now in
    let es = c.args.asked.now.entries.now in
    let is = c.args.imports.now in
    sym (imported-is by_names t es is c.args.id c.index.result.now c.in-Some.text c.index.ensures c.in-Some.is
    ∙ ap (λ (n : Name). instance_of (find_name is n)) (sym (c.imported_name-name.ensures ∙ ap (imported_as by_names es) c.as_str.ensures))
    ∙ ap instance_of (sym c.in-Some-get.ensures) ∙ no-instance c.in-Some-get.kind.now c.in_default-kind.not-Instance)

pub returns-in_default-get : goal.returns-in_default-get
returns-in_default-get c =
    let t = c.args.asked.now.types.now in
    let es = c.args.asked.now.entries.now in
    let is = c.args.imports.now in
    sym (imported-is by_names t es is c.args.id c.index.result.now c.in-Some.text c.index.ensures c.in-Some.is
    ∙ ap (λ (n : Name). instance_of (find_name is n)) (sym (c.imported_name-name.ensures ∙ ap (imported_as by_names es) c.as_str.ensures))
    ∙ ap instance_of (sym c.get.ensures ∙ ap option_copied c.in_default-get.is))
