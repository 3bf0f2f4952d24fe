use Rattle.std.proofs.Common.{◌≡◌, suc, true, List, Vec, Err, length, take, slice_get, refl, sym, ap, ◌∙◌, subst, arith, add-one}
use Rattle.std.specs.Global.{Global}
use Rattle.std.proofs.lemmas.List.{take_all}
use Rattle.std.proofs.lemmas.Option.{slice_get_read}
use Rattle.wac_types_shapes.specs.primitives.Name.{Name, find_name}
use Rattle.wac_types_shapes.specs.shapes.Kinds.{kind_type}
use Rattle.wac_types_shapes.specs.declared.shapes.component.InterfaceId.{InterfaceId}
use Rattle.wac_types_shapes.specs.declared.shapes.component.ItemKind.{ItemKind}
use Rattle.wac_types_shapes.proofs.lemmas.shapes.Under.{not_some}
use Rattle.wac_types_collection.specs.collection.Collection.{holds_type}
use Rattle.wac_merge_classes.specs.entries.Bindings.{AreHeld}
use Rattle.wac_merge_classes.specs.entries.Classes.{by_names, members}
use Rattle.wac_merge_classes.specs.terms.Merge.{import_entries}
use Rattle.wac_merge_unions.specs.uses.KeptUses.{instances}
use Rattle.wac_merge_unions.specs.uses.Using.{AreUsing, IsKindUsing, StaysBare, uses_among}
use Rattle.wac_merge_unions.proofs.lemmas.uses.Growing.{extended-twice, holds-kept}
use Rattle.wac_merge_unions.proofs.lemmas.uses.KeptUses.{members-held}
use Rattle.wac_merge_unions.proofs.lemmas.uses.ImportsUsing.{entries-push, entry-at, held-push, still-held, unnamed, users-at, using-held, using-next}
use Rattle.wac_merge_unions.proofs.lemmas.uses.UsingGrows.{bare-still}
use Rattle.wac_merge_unions.proofs.uses.imports.imports_with_uses.Goals as goal

pub unreachable-requires : goal.unreachable-requires
unreachable-requires c =
    let a = c.args.asked.now in
    let n : Name = c.entry_at.result.0.now in
    not_some (find_name a.classes.now.names n) (sym c.number.ensures ∙ c.in_default.is)
    ((c.requires.classes.found n).1 (c.requires.named c.loop-i.i _ (entry-at c.args.bare.now c.loop-i.i n c.entry_at.result.1.now c.entry_at.ensures)))

pub index-requires : goal.index-requires
index-requires c =
    let a = c.args.asked.now in
    let k = a.classes.now in
    let w = users-at a.types.now a.entries.now k.numbers.items k.positions.items k.names c.requires.classes c.in_ok-users.users.items c.in_ok-users.ensures c.entry_at.result.0.now c.in-Some.number (sym c.in-Some.ensures) in
    omega (arith, w.0, c.in_ok-users.users.ok.0)

pub with_uses-requires-clause-users : goal.with_uses-requires-clause-users
with_uses-requires-clause-users c j i at =
    let a = c.args.asked.now in
    let k = a.classes.now in
    let vs = c.in_ok-users.users.items in
    let n : Name = c.entry_at.result.0.now in
    let w = users-at a.types.now a.entries.now k.numbers.items k.positions.items k.names c.requires.classes vs c.in_ok-users.ensures n c.in-Some.number (sym c.in-Some.ensures) in
    let v : Vec InterfaceId Global = c.index.result.now in
    let those : c.as_slice.result.now ≡ instances (members by_names a.entries.now n) = c.as_slice.ensures.value ∙ w.1 v (slice_get_read vs (length vs) c.in-Some.number v refl w.0 c.index.ensures) in
    members-held a.types.now a.entries.now n c.requires.asked j i (ap (λ l. slice_get l j) (sym those) ∙ at)

pub with_uses-requires-clause-bare : goal.with_uses-requires-clause-bare
with_uses-requires-clause-bare c =
    let b = c.requires.bare in
    let k : ItemKind = c.entry_at.result.1.now in
    (b.0, bare-still c.args.merged.now c.loop-i.merged c.law-2.ensures c.loop-i.invariant.extended.kept b.0 b.1, b.2 c.loop-i.i _ (entry-at c.args.bare.now c.loop-i.i c.entry_at.result.0.now k c.entry_at.ensures))

pub returns-in_err-kind-clause-extended : goal.returns-in_err-kind-clause-extended
returns-in_err-kind-clause-extended c = extended-twice c.args.merged.now c.loop-i.merged c.with_uses.new.merged c.law-2.ensures c.loop-i.invariant.extended c.with_uses.ensures.extended

pub returns-in-Err-OutOfMemory-clause-extended : goal.returns-in-Err-OutOfMemory-clause-extended
returns-in-Err-OutOfMemory-clause-extended c = extended-twice c.args.merged.now c.loop-i.merged c.with_uses.new.merged c.law-2.ensures c.loop-i.invariant.extended c.with_uses.ensures.extended

pub unreachable-requires-in-Err-NameTwice : goal.unreachable-requires-in-Err-NameTwice
unreachable-requires-in-Err-NameTwice c =
    let a = c.args.asked.now in
    unnamed by_names a.types.now a.entries.now c.loop-i.merged c.args.bare.now c.loop-i.imports c.loop-i.i c.entry_at.result.0.now c.entry_at.result.1.now c.law.ensures c.entry_at.ensures c.loop-i.invariant.using
    (c.insert.ensures.name_twice.0 (c.in-Err-NameTwice.is ∙ ap Err c.in-Err-NameTwice.field-0-is))

pub loop-i-preserved : goal.loop-i-preserved
loop-i-preserved c =
    let a = c.args.asked.now in
    let t = a.types.now in
    let es = a.entries.now in
    let cs = a.classes.now in
    let now = c.loop-i.merged in
    let new = c.with_uses.new.merged in
    let is : List (Name × ItemKind) = c.loop-i.imports in
    let n : Name = c.entry_at.result.0.now in
    let k : ItemKind = c.entry_at.result.1.now in
    let l : ItemKind = c.in_ok-kind.kind in
    let vs = c.in_ok-users.users.items in
    let w = users-at t es cs.numbers.items cs.positions.items cs.names c.requires.classes vs c.in_ok-users.ensures n c.in-Some.number (sym c.in-Some.ensures) in
    let v : Vec InterfaceId Global = c.index.result.now in
    let those : c.as_slice.result.now ≡ instances (members by_names es n) = c.as_slice.ensures.value ∙ w.1 v (slice_get_read vs (length vs) c.in-Some.number v refl w.0 c.index.ensures) in
    let f = uses_among by_names t es new (import_entries is) in
    let of = instances (members by_names es n) in
    let kind : IsKindUsing t new f of k l = subst (λ (us : List InterfaceId). IsKindUsing t new f us k l) those c.in_ok-kind.ensures.kind in
    let stays : StaysBare t new of k l = subst (λ (us : List InterfaceId). StaysBare t new us k l) those c.in_ok-kind.ensures.stay in
    let kept = c.with_uses.ensures.extended.kept in
    let before = holds-kept c.args.merged.now now c.law-2.ensures c.loop-i.invariant.extended.kept (kind_type k) (c.requires.held c.loop-i.i _ (entry-at c.args.bare.now c.loop-i.i n k c.entry_at.ensures)) in
    let here : holds_type new (kind_type l) ≡ true = using-held t new f of k l (holds-kept now new c.law-in-loop-i.ensures kept (kind_type k) before) kind in
    record {
      extended = extended-twice c.args.merged.now now new c.law-2.ensures c.loop-i.invariant.extended c.with_uses.ensures.extended;
      held = subst (λ (xs : List (Name × ItemKind)). AreHeld new (import_entries xs)) (sym c.in-Ok.ensures.inserted)
          (subst (λ (xs : List _). AreHeld new xs) (sym (entries-push is n l)) (held-push new (import_entries is) _ (still-held t now new c.law-in-loop-i.ensures c.law-in-loop-i-2.ensures kept (import_entries is) c.loop-i.invariant.held) here));
      using = rw add-one (subst (λ (xs : List (Name × ItemKind)). AreUsing by_names t es new (import_entries (take (suc c.loop-i.i) c.args.bare.now)) (import_entries xs)) (sym c.in-Ok.ensures.inserted)
          (using-next by_names t es now new c.law-in-loop-i.ensures c.law-in-loop-i-2.ensures kept c.args.bare.now is c.loop-i.i n k l c.entry_at.ensures c.loop-i.invariant.held kind stays c.loop-i.invariant.using));
    }

pub returns-clause-using : goal.returns-clause-using
returns-clause-using c =
    let a = c.args.asked.now in
    subst (λ (xs : List (Name × ItemKind)). AreUsing by_names a.types.now a.entries.now c.loop-i.merged (import_entries xs) (import_entries c.loop-i.imports)) (take_all c.loop-i.i c.args.bare.now (omega arith)) c.loop-i.invariant.using
