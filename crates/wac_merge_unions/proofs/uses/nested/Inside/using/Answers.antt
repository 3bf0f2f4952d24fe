use Rattle.std.proofs.Common.{◌≡◌, ◌<◌, ◌-◌, ℕ, suc, List, Vec, Some, map, length, slice_get, refl, sym, subst, ◌∙◌, arith}
use Rattle.std.specs.Global.{Global}
use Rattle.std.proofs.Math.ListN.{length-set}
use Rattle.std.proofs.lemmas.Option.{slice_get_read}
use Rattle.wac_types_shapes.specs.shapes.Kinds.{kind_type}
use Rattle.wac_types_shapes.specs.declared.shapes.component.InterfaceId.{InterfaceId}
use Rattle.wac_types_collection.specs.collection.Collection.{interface_exports}
use Rattle.wac_merge_classes.specs.entries.Bindings.{AreHeld}
use Rattle.wac_merge_classes.specs.entries.Classes.{by_names}
use Rattle.wac_merge_classes.specs.terms.Merge.{import_entries}
use Rattle.wac_merge_classes.proofs.lemmas.terms.Found.{get_map, mapped_length}
use Rattle.wac_merge_unions.specs.uses.KeptUses.{uses_of}
use Rattle.wac_merge_unions.specs.uses.Using.{AreInterfaces, AreUsingFrom, HaveUses, IsUsing, uses_among}
use Rattle.wac_merge_unions.proofs.lemmas.uses.Growing.{exports-same, extended-twice, holds-kept, interface-held, uses-still}
use Rattle.wac_merge_unions.proofs.lemmas.uses.UsingGrows.{bare-still, have-uses, still-using, using-next}
use Rattle.wac_merge_unions.proofs.uses.nested.Inside.using.Goals as goal

abbrev lists : List (Vec InterfaceId Global) → List (List InterfaceId)
lists vs = map (λ v. v.items) vs

abbrev numbers : List (Vec ℕ Global) → List (List ℕ)
numbers vs = map (λ v. v.items) vs

-- the list at a position
list_at : {A : Type 0} (vs : List (Vec A Global)) (n q : ℕ) (v : Vec A Global) → length (map (λ (x : Vec A Global). x.items) vs) ≡ n → q < n → (q < length vs → slice_get vs q ≡ Some v) → slice_get (map (λ (x : Vec A Global). x.items) vs) q ≡ Some v.items
list_at {A} vs n q v counted low there =
    let count = mapped_length (λ (x : Vec A Global). x.items) vs in
    get_map (λ (x : Vec A Global). x.items) vs q v (there (omega (arith, counted, low, count)))

pub using_at-requires-clause-users : goal.using_at-requires-clause-users
using_at-requires-clause-users c =
    let t = c.args.asked.now.types.now in
    let a = c.requires.inside.2 in
    let is : List InterfaceId = c.args.self.now.interfaces.items in
    let us : List (Vec InterfaceId Global) = c.args.self.now.users.items in
    let q : ℕ = c.len-count.result - 1 - c.loop-back.back in
    let low : q < length is = omega (arith, c.len-count.ensures, c.args.self.now.interfaces.ok.0, c.loop-back-test.true) in
    let v : Vec InterfaceId Global = c.index.result.now in
    let users : slice_get (lists us) q ≡ Some v.items = list_at us (length is) q v a.counted low (λ l. slice_get_read us (length us) q v refl l c.index.ensures) in
    subst (AreInterfaces t) (sym c.as_slice-users.ensures.value) (a.held q v.items users)

pub using_at-requires-clause-there : goal.using_at-requires-clause-there
using_at-requires-clause-there c =
    let a = c.requires.inside.2 in
    let is : List InterfaceId = c.args.self.now.interfaces.items in
    let q : ℕ = c.len-count.result - 1 - c.loop-back.back in
    let low : q < length is = omega (arith, c.len-count.ensures, c.args.self.now.interfaces.ok.0, c.loop-back-test.true) in
    let i : InterfaceId = c.index-id.result.now in
    let at : slice_get is q ≡ Some i = slice_get_read is (length is) q i refl low c.index-id.ensures in
    interface-held c.args.merged.now c.loop-back.merged c.law.ensures c.loop-back.invariant.extended.kept i (a.are.held i (a.bare q i at))

pub using_at-requires-clause-imports : goal.using_at-requires-clause-imports
using_at-requires-clause-imports c p e at = holds-kept c.args.merged.now c.loop-back.merged c.law.ensures c.loop-back.invariant.extended.kept (kind_type e.kind) (c.requires.imports p e at)

pub using_at-requires-clause-none : goal.using_at-requires-clause-none
using_at-requires-clause-none c it there =
    let a = c.requires.inside.2 in
    let is : List InterfaceId = c.args.self.now.interfaces.items in
    let q : ℕ = c.len-count.result - 1 - c.loop-back.back in
    let low : q < length is = omega (arith, c.len-count.ensures, c.args.self.now.interfaces.ok.0, c.loop-back-test.true) in
    let i : InterfaceId = c.index-id.result.now in
    let at : slice_get is q ≡ Some i = slice_get_read is (length is) q i refl low c.index-id.ensures in
    let still = bare-still c.args.merged.now c.loop-back.merged c.law.ensures c.loop-back.invariant.extended.kept a.ws a.are in
    still.unused i it (a.bare q i at) there

pub using_at-requires-clause-inner : goal.using_at-requires-clause-inner
using_at-requires-clause-inner c =
    let t = c.args.asked.now.types.now in
    let was = c.args.merged.now in
    let now = c.loop-back.merged in
    let f = uses_among by_names t c.args.asked.now.entries.now now (import_entries c.args.imports.now) in
    let a = c.requires.inside.2 in
    let inv = c.loop-back.invariant in
    let is : List InterfaceId = c.args.self.now.interfaces.items in
    let us : List (Vec InterfaceId Global) = c.args.self.now.users.items in
    let ps : List (Vec ℕ Global) = c.args.self.now.inner.items in
    let done : List InterfaceId = c.loop-back.done.items in
    let back : ℕ = c.loop-back.back in
    let q : ℕ = c.len-count.result - 1 - back in
    let count : c.len-count.result ≡ length is = omega (arith, c.len-count.ensures, c.args.self.now.interfaces.ok.0) in
    let low : q < length is = omega (arith, count, c.loop-back-test.true) in
    let next : length is - back ≡ suc q = omega (arith, count, c.loop-back-test.true) in
    let i : InterfaceId = c.index-id.result.now in
    let at : slice_get is q ≡ Some i = slice_get_read is (length is) q i refl low c.index-id.ensures in
    let v : Vec InterfaceId Global = c.index.result.now in
    let users : slice_get (lists us) q ≡ Some v.items = list_at us (length is) q v a.counted low (λ l. slice_get_read us (length us) q v refl l c.index.ensures) in
    let w : Vec ℕ Global = c.index-in-loop-back.result.now in
    let places : slice_get (numbers ps) q ≡ Some w.items = list_at ps (length is) q w (mapped_length (λ (x : Vec ℕ Global). x.items) ps ∙ c.requires.all) low (λ l. slice_get_read ps (length ps) q w refl l c.index-in-loop-back.ensures) in
    let have : AreUsingFrom t now f is (lists us) (suc q) done = subst (λ n. AreUsingFrom t now f is (lists us) n done) next inv.using in
    let same = exports-same was now c.law.ensures c.law-in-loop-back.ensures inv.extended.kept i (a.are.held i (a.bare q i at)) in
    let all : HaveUses t now f v.items (interface_exports now i) w.items done =
    have-uses t was now f (c.requires.inside).0 (c.requires.inside).1 is (lists us) (numbers ps) a done inv.counted q have i v.items w.items at users places same in
    subst (λ (xs : List InterfaceId). HaveUses t now f c.as_slice-users.result.now (interface_exports now i) c.as_slice-places.result.now xs) (sym c.as_slice-in-loop-back.ensures.value)
    (subst (λ (xs : List ℕ). HaveUses t now f c.as_slice-users.result.now (interface_exports now i) xs done) (sym c.as_slice-places.ensures.value)
    (subst (λ (xs : List InterfaceId). HaveUses t now f xs (interface_exports now i) w.items done) (sym c.as_slice-users.ensures.value) all))

pub returns-in_err-id-clause-extended : goal.returns-in_err-id-clause-extended
returns-in_err-id-clause-extended c = extended-twice c.args.merged.now c.loop-back.merged c.using_at.new.merged c.law.ensures c.loop-back.invariant.extended c.using_at.ensures.extended

pub loop-back-preserved : goal.loop-back-preserved
loop-back-preserved c =
    let t = c.args.asked.now.types.now in
    let es = c.args.asked.now.entries.now in
    let imports = import_entries c.args.imports.now in
    let now = c.loop-back.merged in
    let new = c.using_at.new.merged in
    let f = uses_among by_names t es now imports in
    let g = uses_among by_names t es new imports in
    let a = c.requires.inside.2 in
    let inv = c.loop-back.invariant in
    let kept = c.using_at.ensures.extended.kept in
    let is : List InterfaceId = c.args.self.now.interfaces.items in
    let us : List (Vec InterfaceId Global) = c.args.self.now.users.items in
    let done : List InterfaceId = c.loop-back.done.items in
    let back : ℕ = c.loop-back.back in
    let q : ℕ = c.len-count.result - 1 - back in
    let count : c.len-count.result ≡ length is = omega (arith, c.len-count.ensures, c.args.self.now.interfaces.ok.0) in
    let low : q < length is = omega (arith, count, c.loop-back-test.true) in
    let i : InterfaceId = c.index-id.result.now in
    let w : InterfaceId = c.in_ok-id.id in
    let at : slice_get is q ≡ Some i = slice_get_read is (length is) q i refl low c.index-id.ensures in
    let v : Vec InterfaceId Global = c.index.result.now in
    let users : slice_get (lists us) q ≡ Some v.items = list_at us (length is) q v a.counted low (λ l. slice_get_read us (length us) q v refl l c.index.ensures) in
    let here : IsUsing t new g i w v.items = subst (IsUsing t new g i w) c.as_slice-users.ensures.value c.in_ok-id.ensures.using in
    let imports-held : AreHeld now imports = λ p e e-at. holds-kept c.args.merged.now now c.law.ensures inv.extended.kept (kind_type e.kind) (c.requires.imports p e e-at) in
    let others : AreUsingFrom t new g is (lists us) (suc q) done = λ p k x js behind k-at js-at x-at.
    still-using t now new c.law-in-loop-back.ensures kept f g
    (λ ks exports held. sym (uses-still now new c.law-in-loop-back.ensures c.law-in-loop-back-2.ensures kept exports held by_names t es imports imports-held (uses_of t ks)))
    k x js (inv.using p k x js (omega (arith, count, behind, c.loop-back-test.true)) k-at js-at x-at) in
    record {
      extended = extended-twice c.args.merged.now now new c.law.ensures inv.extended c.using_at.ensures.extended;
      counted = length-set done q w ∙ inv.counted;
      using = λ p k x js from. using-next t new g is (lists us) done q i w v.items at users here others p k x js (omega (arith, count, from, c.loop-back-test.true));
    }
