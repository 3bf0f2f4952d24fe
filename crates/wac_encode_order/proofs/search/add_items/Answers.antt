use Rattle.std.proofs.Common.{ap, sym, subst, ◌∙◌, ◌≡◌, ◌+◌, ℕ, true, [], ◌∷◌, length, arith}
use Rattle.wac_types_shapes.specs.declared.shapes.component.ItemKind.{ItemKind}
use Rattle.wac_types_shapes.specs.declared.shapes.component.«Type».{«Type» as AnyType}
use Rattle.wac_types_shapes.specs.shapes.Kinds.{kind_type}
use Rattle.wac_types_collection.specs.collection.Collection.{holds_type}
use Rattle.wac_types_collection.specs.private.reach.Found.{with_all}
use Rattle.wac_encode_order.specs.private.Graph.{AllHeld, HaveItems}
use Rattle.wac_encode_order.proofs.Lists.{second-is}
use Rattle.wac_encode_order.proofs.Naming.{listed-is, listed-here, listed-none, item-one}
use Rattle.wac_encode_order.proofs.Searching.{item-passed, item-added, held-added}
use Rattle.wac_encode_order.proofs.search.add_items.Goals as goal
use Rattle.wac_encode_order.proofs.search.add_items.Goals.{in-Some+in_ok-insert, in_default}

pub loop-i-preserved : goal.loop-i-preserved
loop-i-preserved c =
    let types = c.args.types.now in
    let es = c.args.items.now in
    let i = c.loop-i.i in
    let new = c.match-listed_type.found.keys in
    elim c.match-listed_type.branch [
      | in-Some+in_ok-insert w ↦
          (let item = listed-here es i c.value_at.result.now c.listed_type.result w.in-Some.ty c.value_at.ensures c.listed_type.ensures w.in-Some.is in
          let entry = second-is es i c.value_at.result.now c.value_at.ensures in
          let kind = listed-is c.value_at.result.now w.in-Some.ty (sym c.listed_type.ensures ∙ w.in-Some.is) in
          let holds : holds_type types w.in-Some.ty ≡ true = subst (λ (k : ItemKind). holds_type types (kind_type k) ≡ true) (entry.2 ∙ kind) (c.requires.items i entry.0 entry.1) in
          let is = ap (λ s. s.keys) w.found-is ∙ w.in_ok-insert.ensures.keys ∙ ap (λ (t : AnyType). with_all c.loop-i.found.keys (t ∷ [])) w.resolve.ensures in
          record {
            items = item-added types es i w.in-Some.ty c.loop-i.found.keys new (λ s other. item-one es i w.in-Some.ty s item other) c.loop-i.invariant.items is;
            held = held-added types c.law.ensures w.in-Some.ty c.loop-i.found.keys new holds c.loop-i.invariant.held is;
          })
      | in_default w ↦ record {
        items = subst (HaveItems types es (i + 1)) (sym (ap (λ s. s.keys) w.found-is)) (item-passed types es i c.loop-i.found.keys (listed-none es i c.value_at.result.now c.listed_type.result c.value_at.ensures c.listed_type.ensures w.in_default.is) c.loop-i.invariant.items);
        held = subst (AllHeld types) (sym (ap (λ s. s.keys) w.found-is)) c.loop-i.invariant.held;
      }
    ]

pub returns-clause-items : goal.returns-clause-items
returns-clause-items c =
    let whole : c.loop-i.i ≡ length c.args.items.now = (let l = c.len-i-end.ensures in let f = c.loop-i-test.false in let m = c.loop-i.auto.i-end in omega (arith, l, f, m)) in
    subst (λ (n : ℕ). HaveItems c.args.types.now c.args.items.now n c.loop-i.found.keys) whole c.loop-i.invariant.items
