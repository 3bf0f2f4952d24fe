use Rattle.std.proofs.Common.{◌≡◌, ℕ, ◌≤◌, List, [], ◌∷◌, length, slice_get, Option, Some, None, refl, sym, ap, ◌∙◌, arith}
use Rattle.std.specs.Option.{option_eq}
use Rattle.std.specs.Prelude.{slice_index_or}
use Rattle.std.proofs.lemmas.Bool.{false≢true}
use Rattle.std.proofs.lemmas.Option.{slice_get_read, slice_get_within}
use Rattle.wac_types_shapes.specs.private.shapes.Equal.{same_text}
use Rattle.wac_types_shapes.specs.primitives.Name.{Name, option_case}
use Rattle.wac_types_shapes.specs.declared.shapes.component.Interface.{Interface}
use Rattle.wac_types_shapes.specs.declared.shapes.component.InterfaceId.{InterfaceId}
use Rattle.wac_types_shapes.specs.declared.shapes.component.ItemKind.TheVariants as kind
use Rattle.wac_types_shapes.proofs.lemmas.shapes.EqualLemmas.{not_false, not_true}
use Rattle.wac_types_collection.specs.collection.Collection.{Collection, item_at}
use Rattle.wac_merge_classes.specs.terms.Merge.{instance_id}
use Rattle.wac_merge_classes.specs.declared.terms.parts.Part.{Part}
use Rattle.wac_merge_classes.specs.declared.terms.parts.Union.{Union}
use Rattle.wac_merge_classes.proofs.lemmas.terms.Found.{one_some, some_same}
use Rattle.wac_merge_unions.proofs.lemmas.uniting.UnionLists.{contains_at}
use Rattle.wac_merge_imports.specs.unions.SharedUnions.{IsAloneIn}
use Rattle.wac_merge_imports.proofs.lemmas.unions.SharedWrites.{id_tells}
use Rattle.wac_merge_imports.proofs.unions.writing.alone.Goals as goal

single : (l : List ℕ) → 1 ≤ length l → length l ≤ 1 → l ≡ slice_index_or l 0 0 ∷ []
single [] some few = absurd (omega (arith, some))
single (a ∷ []) some few = refl
single (a ∷ b ∷ l) some few = absurd (omega (arith, few))

-- the id of an interface
id-of : (c : Collection) (i : InterfaceId) (it : Interface) → item_at c.interfaces i.0 ≡ Some it → instance_id c (kind.Instance i) ≡ it.id
id-of c i it at = ap (λ (o : Option Interface). option_case o None (λ x. x.id)) at

-- what is one interface alone has this one part
part-of : (c : Collection) (ps : List Part) (id : Option Name) (parts : List ℕ) (p : ℕ) (y : Part) (i : InterfaceId) → parts ≡ p ∷ [] → slice_get ps p ≡ Some y → IsAloneIn c ps id parts i → y.interface ≡ i
part-of c ps id parts p y i one at a =
    let same : p ≡ a.number = some_same p a.number (ap (λ l. slice_get l 0) (sym one ∙ a.only)) in
    ap (λ (z : Part). z.interface) (some_same y a.part (sym at ∙ (ap (slice_get ps) same ∙ a.at))) ∙ a.of

pub index-requires-2 : goal.index-requires-2
index-requires-2 c =
    let us = c.args.unions.now.unions.items in
    let x : Union = c.index.result.now in
    let l : List ℕ = c.as_slice.result.now in
    let p : ℕ = slice_index_or l 0 0 in
    let at : slice_get us c.args.union ≡ Some x = slice_get_read us (length us) c.args.union x refl (omega (arith, c.requires.within)) c.index.ensures in
    let one : x.parts.items ≡ p ∷ [] = sym c.as_slice.ensures.value ∙ single l (omega (arith, c.in-len1.len_at_least)) (omega (arith, c.in-len1.len_below)) in
    let (y, there, same) = (c.requires.unions).1.placed c.args.union p x at (contains_at x.parts.items 0 p (ap (λ k. slice_get k 0) one)) in
    omega (arith, slice_get_within c.args.unions.now.parts.items p y there)

pub index-requires-3 : goal.index-requires-3
index-requires-3 c =
    let us = c.args.unions.now.unions.items in
    let ps = c.args.unions.now.parts.items in
    let x : Union = c.index.result.now in
    let l : List ℕ = c.as_slice.result.now in
    let p : ℕ = slice_index_or l 0 0 in
    let y : Part = c.index-2.result.now in
    let at : slice_get us c.args.union ≡ Some x = slice_get_read us (length us) c.args.union x refl (omega (arith, c.requires.within)) c.index.ensures in
    let one : x.parts.items ≡ p ∷ [] = sym c.as_slice.ensures.value ∙ single l (omega (arith, c.in-len1.len_at_least)) (omega (arith, c.in-len1.len_below)) in
    let (z, there, same) = (c.requires.unions).1.placed c.args.union p x at (contains_at x.parts.items 0 p (ap (λ k. slice_get k 0) one)) in
    (c.requires.unions).1.held p y (slice_get_read ps (length ps) p y refl (slice_get_within ps p z there) c.index-2.ensures)

pub returns-clause-is : goal.returns-clause-is
returns-clause-is c u here =
    let us = c.args.unions.now.unions.items in
    let ps = c.args.unions.now.parts.items in
    let x : Union = c.index.result.now in
    let l : List ℕ = c.as_slice.result.now in
    let p : ℕ = slice_index_or l 0 0 in
    let y : Part = c.index-2.result.now in
    let it : Interface = c.index-3.result.now in
    let at : slice_get us c.args.union ≡ Some x = slice_get_read us (length us) c.args.union x refl (omega (arith, c.requires.within)) c.index.ensures in
    let one : x.parts.items ≡ p ∷ [] = sym c.as_slice.ensures.value ∙ single l (omega (arith, c.in-len1.len_at_least)) (omega (arith, c.in-len1.len_below)) in
    let (z, there, same) = (c.requires.unions).1.placed c.args.union p x at (contains_at x.parts.items 0 p (ap (λ k. slice_get k 0) one)) in
    let part = slice_get_read ps (length ps) p y refl (slice_get_within ps p z there) c.index-2.ensures in
    record {
      number = p;
      part = y;
      only = ap (λ (v : Union). v.parts.items) (one_some (slice_get us c.args.union) u x here at) ∙ one;
      at = part;
      of = refl;
      own = id-of c.args.types.now y.interface it c.index-3.ensures ∙ (id_tells it.id c.args.id.now).0 (not_false (option_eq same_text it.id c.args.id.now) (sym c.if-ne.false ∙ c.ne.ensures));
    }

pub returns-clause-all : goal.returns-clause-all
returns-clause-all c u i here alone =
    let us = c.args.unions.now.unions.items in
    let ps = c.args.unions.now.parts.items in
    let x : Union = c.index.result.now in
    let l : List ℕ = c.as_slice.result.now in
    let p : ℕ = slice_index_or l 0 0 in
    let y : Part = c.index-2.result.now in
    let at : slice_get us c.args.union ≡ Some x = slice_get_read us (length us) c.args.union x refl (omega (arith, c.requires.within)) c.index.ensures in
    let one : x.parts.items ≡ p ∷ [] = sym c.as_slice.ensures.value ∙ single l (omega (arith, c.in-len1.len_at_least)) (omega (arith, c.in-len1.len_below)) in
    let (z, there, same) = (c.requires.unions).1.placed c.args.union p x at (contains_at x.parts.items 0 p (ap (λ k. slice_get k 0) one)) in
    let part = slice_get_read ps (length ps) p y refl (slice_get_within ps p z there) c.index-2.ensures in
    ap Some (part-of c.args.types.now ps c.args.id.now u.parts.items p y i (ap (λ (v : Union). v.parts.items) (one_some (slice_get us c.args.union) u x here at) ∙ one) part alone)

pub returns-then-ne-clause-all : goal.returns-then-ne-clause-all
returns-then-ne-clause-all c u i here alone =
    let us = c.args.unions.now.unions.items in
    let ps = c.args.unions.now.parts.items in
    let x : Union = c.index.result.now in
    let l : List ℕ = c.as_slice.result.now in
    let p : ℕ = slice_index_or l 0 0 in
    let y : Part = c.index-2.result.now in
    let it : Interface = c.index-3.result.now in
    let at : slice_get us c.args.union ≡ Some x = slice_get_read us (length us) c.args.union x refl (omega (arith, c.requires.within)) c.index.ensures in
    let one : x.parts.items ≡ p ∷ [] = sym c.as_slice.ensures.value ∙ single l (omega (arith, c.in-len1.len_at_least)) (omega (arith, c.in-len1.len_below)) in
    let (z, there, same) = (c.requires.unions).1.placed c.args.union p x at (contains_at x.parts.items 0 p (ap (λ k. slice_get k 0) one)) in
    let part = slice_get_read ps (length ps) p y refl (slice_get_within ps p z there) c.index-2.ensures in
    let of = part-of c.args.types.now ps c.args.id.now u.parts.items p y i (ap (λ (v : Union). v.parts.items) (one_some (slice_get us c.args.union) u x here at) ∙ one) part alone in
    let id : it.id ≡ c.args.id.now = sym (id-of c.args.types.now y.interface it c.index-3.ensures) ∙ (ap (λ (k : InterfaceId). instance_id c.args.types.now (kind.Instance k)) of ∙ alone.own) in
    absurd (false≢true (sym (not_true (option_eq same_text it.id c.args.id.now) (sym c.if-ne.true ∙ c.ne.ensures)) ∙ (id_tells it.id c.args.id.now).1 id))
