use Rattle.std.proofs.Common.{◌≡◌, ℕ, Option, None, Result, Ok, Err, OnOk, slice_get, sym, ◌∙◌, subst}
use Rattle.std.specs.Prelude.{IfOk}
use Rattle.std.specs.Option.{MatchOption}
use Rattle.wac_types_shapes.specs.primitives.Name.{Name}
use Rattle.wac_types_shapes.specs.declared.shapes.component.InterfaceId.{InterfaceId}
use Rattle.wac_types_shapes.specs.declared.shapes.component.ItemKind.{ItemKind}
use Rattle.wac_types_shapes.specs.declared.shapes.component.ItemKind.TheVariants as kind
use Rattle.wac_types_shapes.specs.declared.shapes.component.ResourceId.{ResourceId}
use Rattle.wac_types_shapes.specs.declared.shapes.component.«Type».TheVariants as ty
use Rattle.wac_merge_classes.specs.terms.Became.{became, whole_in}
use Rattle.wac_merge_classes.specs.terms.Unions.{IsPart}
use Rattle.wac_merge_classes.specs.terms.Writing.{IsGiven, IsWrittenAs}
use Rattle.wac_merge_resources.specs.private.renaming.RenamedTypes.{becomes}
use Rattle.wac_merge_resources.specs.renaming.MadeOf.{IsKindMadeOf}
use Rattle.wac_merge_tables.specs.made.Made.{StayMade}
use Rattle.wac_merge_tables.specs.declared.made.made.Made.{Made}
use Rattle.wac_merge_imports.proofs.lemmas.unions.WritingUnions.{can-rename}
use Rattle.wac_merge_imports.proofs.unions.merged.class_kind.Goals as goal

if_ok : {A E : Type 0} {P Q : A → Type 0} (r : Result A E) → ((x : A) → P x → Q x) → IfOk r P → IfOk r Q
if_ok (Ok x) f h = f x h
if_ok (Err e) f h = h

pub write_kind-requires-clause-given : goal.write_kind-requires-clause-given
write_kind-requires-clause-given c =
    subst (λ (k : ItemKind). IsGiven c.args.merged.now k c.interface_at-inner.result) (sym c.kind.ensures) (subst (λ (o : Option InterfaceId). IsGiven c.args.merged.now c.args.entry.now.kind o) (sym c.interface_at-inner.ensures) c.requires.given)

pub write_kind-requires-clause-known : goal.write_kind-requires-clause-known
write_kind-requires-clause-known c =
    let s = c.args.renaming.now in
    can-rename c.args.merged.now s c.requires.known (subst (IsPart s.became.now.parts.now) (sym c.requires.outside) tt)

on_ok : {A E P Q : Type 0} (r : Result A E) → (P → Q) → OnOk r P → OnOk r Q
on_ok (Ok x) f h = f h
on_ok (Err e) f h = h

pub write_kind-requires-clause-right : goal.write_kind-requires-clause-right
write_kind-requires-clause-right c = c.forget.ensures.right c.args.merged.now _ c.requires.made

pub returns-clause-made : goal.returns-clause-made
returns-clause-made c = on_ok c.write_kind.result (λ r. r.made) c.write_kind.ensures.right

pub returns-clause-kind : goal.returns-clause-kind
returns-clause-kind c =
    let t = c.args.renaming.now.types.now in
    let m = c.write_kind.new.merged in
    let b = c.args.renaming.now.became.now in
    let e = c.args.entry.now in
    let none : whole_in b.fresh.now c.args.number ≡ None = sym c.whole.ensures ∙ c.in_default.is in
    if_ok c.write_kind.result
    (λ k h. subst (λ (o : Option ResourceId). MatchOption o (IsWrittenAs t m (became t b.parts.now b.bindings.now b.fresh.now None) (slice_get c.args.written.now c.args.number) e.name e.kind k) (λ q. k ≡ kind.TypeItem (ty.Resource q))) (sym none)
    (subst (λ (o : Option InterfaceId). IsWrittenAs t m (became t b.parts.now b.bindings.now b.fresh.now None) o e.name e.kind k) c.interface_at-inner.ensures
    (subst (λ (n : Name). IsWrittenAs t m (became t b.parts.now b.bindings.now b.fresh.now None) c.interface_at-inner.result n e.kind k) c.name.ensures
    (subst (λ (l : ItemKind). IsWrittenAs t m (became t b.parts.now b.bindings.now b.fresh.now None) c.interface_at-inner.result c.name.result.now l k) c.kind.ensures
    (subst (λ (p : Option ℕ). IsWrittenAs t m (became t b.parts.now b.bindings.now b.fresh.now p) c.interface_at-inner.result c.name.result.now c.kind.result k) c.requires.outside h)))))
    c.write_kind.ensures.written

pub returns-clause-once : goal.returns-clause-once
returns-clause-once c =
    let t = c.args.renaming.now.types.now in
    let m = c.write_kind.new.merged in
    let n = c.args.renaming.now.became.now.named.now in
    if_ok c.write_kind.result (λ k h. subst (λ (l : ItemKind). IsKindMadeOf t m (becomes c.args.renaming.now) n c.write_kind.new.renamed.made l k) c.kind.ensures h) c.write_kind.ensures.once

pub returns-clause-stay : goal.returns-clause-stay
returns-clause-stay c = on_ok c.write_kind.result (λ h. subst (λ (made : Made). StayMade made c.write_kind.new.renamed.made) c.forget.ensures.made h) c.write_kind.ensures.stay
