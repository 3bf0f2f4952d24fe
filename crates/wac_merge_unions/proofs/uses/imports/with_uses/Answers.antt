use Rattle.std.proofs.Common.{◌≡◌, [], false, sym, ap, ◌∙◌, subst}
use Rattle.std.specs.List.{list_any}
use Rattle.wac_types_shapes.specs.declared.shapes.component.Interface.{Interface}
use Rattle.wac_types_shapes.specs.declared.shapes.component.InterfaceId.{InterfaceId}
use Rattle.wac_types_shapes.specs.declared.shapes.component.ItemKind.{ItemKind}
use Rattle.wac_types_shapes.specs.declared.shapes.component.ItemKind.TheVariants as kind
use Rattle.wac_merge_classes.specs.entries.Classes.{by_names, is_instance}
use Rattle.wac_merge_classes.specs.terms.Merge.{import_entries}
use Rattle.wac_merge_unions.specs.uses.Using.{IsAmong, IsBareIn, IsKindUsing, kept_uses, uses_among}
use Rattle.wac_merge_unions.proofs.lemmas.uses.StaysBare.{bare-using}
use Rattle.wac_merge_unions.proofs.uses.imports.with_uses.Goals as goal

pub index-requires : goal.index-requires
index-requires c = let b = c.requires.bare in b.1.held c.in-Instance.id (subst (IsBareIn b.0) c.in-Instance.is b.2)

pub returns-then-not-lists_instance-clause-kind : goal.returns-then-not-lists_instance-clause-kind
returns-then-not-lists_instance-clause-kind c =
    let t = c.args.asked.now.types.now in
    let es = c.args.asked.now.entries.now in
    let m = c.args.merged.now in
    let is = import_entries c.args.imports.now in
    let us = c.args.users.now in
    let f = uses_among by_names t es m is in
    let b = c.requires.bare in
    let i : InterfaceId = c.in-Instance.id in
    let it : Interface = c.index.result.now in
    let among : IsAmong b.0 i = subst (IsBareIn b.0) c.in-Instance.is b.2 in
    let none : f us it.exports ≡ [] = ap (kept_uses by_names t es m is it.exports) (c.use_others.ensures.none c.if-not-use_others.true) in
    let plain : list_any (λ e. is_instance e.1) it.exports ≡ false = sym c.lists_instance.ensures ∙ c.if-not-lists_instance.true in
    subst (λ (k : ItemKind). IsKindUsing t m f us k (kind.Instance i)) (sym c.in-Instance.is) (bare-using t m f i us it c.index.ensures (b.1.unused i it among c.index.ensures) none plain)
