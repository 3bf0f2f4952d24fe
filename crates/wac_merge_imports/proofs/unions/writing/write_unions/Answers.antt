use Rattle.std.proofs.Common.{◌≡◌, ◌+◌, ◌-◌, ◌<◌, ℕ, List, [], ◌∷◌, ◌++◌, length, map, slice_get, string_bytes, Option, Some, refl, sym, subst, ap, ◌∙◌, arith}
use Rattle.std.specs.Option.{option_map}
use Rattle.std.proofs.lemmas.List.{length-append}
use Rattle.std.proofs.lemmas.Option.{slice_get-map, slice_get_read}
use Rattle.wac_types_collection.specs.collection.Collection.{HasInterface}
use Rattle.wac_types_shapes.specs.primitives.Name.{Name}
use Rattle.wac_types_shapes.specs.declared.shapes.component.InterfaceId.{InterfaceId}
use Rattle.wac_merge_classes.specs.terms.Unions.{AreUnions}
use Rattle.wac_merge_classes.specs.terms.Writing.{AreWritten}
use Rattle.wac_merge_resources.proofs.lemmas.renaming.OneIds.{stay_twice}
use Rattle.wac_merge_imports.specs.unions.SharedUnions.{AreShared, AreSharedUnions, IsWrittenLast, first_in}
use Rattle.wac_merge_imports.specs.unions.WritingSteps.{AreUnionsMadeOf, CanWrite, IsUnionMadeOf, IsWrittenUnion, in_parts}
use Rattle.wac_merge_classes.specs.declared.terms.parts.Part.{Part}
use Rattle.wac_merge_classes.specs.declared.terms.parts.Union.{Union}
use Rattle.wac_merge_tables.proofs.lemmas.made.Extending.{extended_none, extended_twice}
use Rattle.wac_merge_resources.proofs.lemmas.renaming.StillRenamed.{still_can_all, still_fresh}
use Rattle.wac_merge_classes.proofs.lemmas.entries.Lists.{some-at}
use Rattle.wac_merge_imports.proofs.lemmas.unions.OneIds.{unions-made, unions-made-more}
use Rattle.wac_merge_imports.proofs.lemmas.unions.Sharing.{none-shared, shared-more, shared-unions}
use Rattle.wac_merge_imports.proofs.lemmas.unions.WritingUnions.{AreAllWritten, are-written, at-empty, held-more, length-mapped, union-held, union-more}
use Rattle.wac_merge_imports.proofs.unions.writing.write_unions.Goals as goal

pub loop-done-init : goal.loop-done-init
loop-done-init c =
    let empty : c.new-written.result.items ≡ [] = c.new-written.ensures.items in
    record {
      extended = extended_none c.args.merged.now;
      made = c.requires.made;
      counted = ap length empty;
      held = λ j w at. absurd (at-empty c.new-written.result.items j w empty at);
      once = λ j u w x at place there. absurd (at-empty c.new-written.result.items j w empty at);
      stay = λ f e is. is;
      written = λ j u w x id at place there named. absurd (at-empty c.new-written.result.items j w empty at);
      shared = none-shared c.args.renaming.now.types.now c.args.merged.now c.args.unions.now.unions.items c.args.unions.now.parts.items (map (option_map string_bytes) c.args.ids.now) c.new-written.result.items (first_in c.new-seen.result) empty c.new-seen.ensures;
    }

pub write_union-requires-clause-there : goal.write_union-requires-clause-there
write_union-requires-clause-there c i v at =
    let k = c.loop-done.invariant.shared.known i v at in
    c.loop-done.invariant.held k.2.0 v k.2.1

pub write_union-requires-clause-writing : goal.write_union-requires-clause-writing
write_union-requires-clause-writing c =
    let t = c.args.renaming.now.types.now in
    let us = c.args.unions.now.unions.items in
    let b = c.args.renaming.now.became.now in
    let m = c.args.merged.now in
    let now = c.loop-done.merged in
    let v = c.loop-done.invariant in
    let count : c.len-count.result ≡ length us = omega (arith, c.len-count.ensures, c.args.unions.now.unions.ok.0) in
    let low : c.loop-done.done < c.len-count.result = c.loop-done-test.true in
    let done = v.counted in
    subst (λ (l : List InterfaceId). CanWrite t now us b l (c.len-count.result - 1 - c.loop-done.done)) (sym c.as_slice.ensures.value)
    (record {
      unions = (c.requires.unions.0, subst (λ (ps : List Part). AreUnions t c.requires.unions.0 us ps) (sym c.requires.parts) c.requires.unions.1);
      fresh = still_fresh m now v.extended c.law.ensures t us b.bindings.now b.fresh.now c.requires.fresh;
      known = still_can_all m now v.extended c.law.ensures t b c.requires.known;
      counted = omega (arith, count, low, done);
      held = v.held;
    })

pub returns-in_err-interface-clause-extended : goal.returns-in_err-interface-clause-extended
returns-in_err-interface-clause-extended c = extended_twice c.args.merged.now c.loop-done.merged c.write_union.new.merged c.loop-done.invariant.extended c.write_union.ensures.extended

pub returns-in_err-push-clause-extended : goal.returns-in_err-push-clause-extended
returns-in_err-push-clause-extended c = extended_twice c.args.merged.now c.loop-done.merged c.write_union.new.merged c.loop-done.invariant.extended c.write_union.ensures.extended

pub loop-done-preserved : goal.loop-done-preserved
loop-done-preserved c =
    let t = c.args.renaming.now.types.now in
    let ps = c.args.unions.now.parts.items in
    let us = c.args.unions.now.unions.items in
    let b = c.args.renaming.now.became.now in
    let now = c.loop-done.merged in
    let more = c.write_union.new.merged in
    let v = c.loop-done.invariant in
    let ids = c.args.ids.now in
    let views = map (option_map string_bytes) ids in
    let written : List InterfaceId = c.loop-done.written.items in
    let w : InterfaceId = c.in_ok-interface.interface in
    let u : ℕ = c.len-count.result - 1 - c.loop-done.done in
    let count : c.len-count.result ≡ length us = omega (arith, c.len-count.ensures, c.args.unions.now.unions.ok.0) in
    let low : c.loop-done.done < c.len-count.result = c.loop-done-test.true in
    let done = v.counted in
    let named = c.requires.counted in
    let near : u < length us = omega (arith, count, low) in
    let place : length written + u + 1 ≡ length us = omega (arith, count, low, done) in
    let id = c.index-ids-union.result in
    let at : slice_get ids u ≡ Some id = slice_get_read ids (length ids) u id refl (omega (arith, near, named)) c.index-ids-union.is in
    let name : Option Name = option_map string_bytes id in
    let view : slice_get views u ≡ Some name = slice_get-map (option_map string_bytes) ids u ∙ ap (option_map (option_map string_bytes)) at in
    let is : (x : Union) → slice_get us u ≡ Some x → IsWrittenUnion t more b (length us) written u x name w =
    λ x there. subst (λ (l : List InterfaceId). IsWrittenUnion t more b (length us) l u x name w) c.as_slice.ensures.value (c.in_ok-interface.ensures.written x there) in
    let x = some-at us u near in
    let items : c.push.new.self.items ≡ written ++ w ∷ [] = c.in_ok-push.ensures.items in
    record {
      extended = extended_twice c.args.merged.now now more v.extended c.write_union.ensures.extended;
      made = c.in_ok-interface.ensures.made;
      counted = ap length items ∙ (length-append written (w ∷ []) ∙ ap (λ n. n + 1) v.counted);
      held = subst (λ (l : List InterfaceId). (j : ℕ) (y : InterfaceId) → slice_get l j ≡ Some y → HasInterface more y) (sym items)
          (held-more now more written w c.write_union.ensures.extended (union-held t more b (length us) written u x.0 name w (is x.0 x.1)) v.held);
      once = subst (λ (l : List InterfaceId). (j v : ℕ) (a : InterfaceId) (y : Union) → slice_get l j ≡ Some a → j + v + 1 ≡ length us → slice_get us v ≡ Some y → IsUnionMadeOf t more (in_parts t b) b.named.now c.write_union.new.renamed.made y a) (sym items)
          (unions-made-more t now more c.write_union.ensures.extended (in_parts t b) b.named.now c.loop-done.renamed.made c.write_union.new.renamed.made c.in_ok-interface.ensures.stay us written u w place v.once c.in_ok-interface.ensures.once);
      stay = stay_twice c.args.renamed.now.made c.loop-done.renamed.made c.write_union.new.renamed.made v.stay c.in_ok-interface.ensures.stay;
      shared = subst (λ (l : List InterfaceId). AreShared t more us ps views (first_in c.write_union.new.shared) (IsWrittenLast (length us) l)) (sym items)
          (shared-more t now more us ps views written u w x.0 name (first_in c.loop-done.seen) (first_in c.write_union.new.shared) c.write_union.ensures.extended place x.1 view v.held (c.in_ok-interface.ensures.shared x.0 x.1) v.shared);
      written = subst (λ (l : List InterfaceId). AreAllWritten t more b us views l) (sym items) (union-more t now more b us views written u w name c.write_union.ensures.extended place view v.written is);
    }

pub returns-clause-written : goal.returns-clause-written
returns-clause-written c =
    let t = c.args.renaming.now.types.now in
    let us = c.args.unions.now.unions.items in
    let b = c.args.renaming.now.became.now in
    let v = c.loop-done.invariant in
    let ids = c.args.ids.now in
    let views = map (option_map string_bytes) ids in
    let done = v.counted in
    let all : length c.loop-done.written.items ≡ length us = omega (arith, done, c.len-count.ensures, c.args.unions.now.unions.ok.0, c.loop-done-test.false, c.loop-done.auto.done-end) in
    subst (λ (l : List InterfaceId). AreWritten t c.loop-done.merged us c.args.unions.now.parts.items b.bindings.now b.fresh.now views l) (sym c.reverse.ensures.items)
    (are-written t c.loop-done.merged b us c.args.unions.now.parts.items views c.loop-done.written.items c.requires.parts all (length-mapped (option_map string_bytes) ids ∙ c.requires.counted) v.written)

pub returns-clause-shared : goal.returns-clause-shared
returns-clause-shared c =
    let t = c.args.renaming.now.types.now in
    let us = c.args.unions.now.unions.items in
    let ps = c.args.unions.now.parts.items in
    let v = c.loop-done.invariant in
    let views = map (option_map string_bytes) c.args.ids.now in
    let done = v.counted in
    let all : length c.loop-done.written.items ≡ length us = omega (arith, done, c.len-count.ensures, c.args.unions.now.unions.ok.0, c.loop-done-test.false, c.loop-done.auto.done-end) in
    subst (λ (l : List InterfaceId). AreSharedUnions t c.loop-done.merged us ps views l) (sym c.reverse.ensures.items)
    (shared-unions t c.loop-done.merged us ps views c.loop-done.written.items (first_in c.loop-done.seen) all v.shared)

pub returns-clause-once : goal.returns-clause-once
returns-clause-once c =
    let t = c.args.renaming.now.types.now in
    let us = c.args.unions.now.unions.items in
    let b = c.args.renaming.now.became.now in
    let n = b.named.now in
    let v = c.loop-done.invariant in
    let done = v.counted in
    let all : length c.loop-done.written.items ≡ length us = omega (arith, done, c.len-count.ensures, c.args.unions.now.unions.ok.0, c.loop-done-test.false, c.loop-done.auto.done-end) in
    subst (λ (l : List InterfaceId). AreUnionsMadeOf t c.loop-done.merged (in_parts t b) n c.loop-done.renamed.made us l) (sym c.reverse.ensures.items) (unions-made t c.loop-done.merged (in_parts t b) n c.loop-done.renamed.made us c.loop-done.written.items all v.once)

pub returns-clause-stay : goal.returns-clause-stay
returns-clause-stay c = c.loop-done.invariant.stay
