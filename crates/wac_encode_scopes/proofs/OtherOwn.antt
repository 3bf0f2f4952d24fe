-- The own resources of an interface that do not belong to its instance, found item by item.
use Rattle.std.specs.Prelude.{ℕ, suc, ◌≡◌, ◌≤◌, ◌==◌, ◌&&◌, ◌||◌, Bool, true, false, not, List, [], ◌∷◌, ◌++◌, length, take, slice_get, Option, Some, None, is_some, if◌then◌else◌}
use Rattle.std.specs.List.{list_any}
use Rattle.std.proofs.Common.{refl, ap, ◌∙◌, sym, subst}
use Rattle.std.proofs.Math.Path.{fun_ext}
use Rattle.std.proofs.lemmas.Bool.{eq-eqb, eqb-true}
use Rattle.std.proofs.lemmas.List.{take_all}
use Rattle.std.proofs.lemmas.List.Folds.{list_any-append}
use Rattle.indexmap.specs.IndexSet.{insert_key}
use Rattle.wac_types_shapes.specs.primitives.Name.{Name, option_case}
use Rattle.wac_types_shapes.proofs.lemmas.shapes.Names.{take_at}
use Rattle.wac_types_shapes.specs.contracts.shapes.component.ResourceIdPartialEq.TheImpl as IdEq
use Rattle.wac_types_shapes.specs.declared.shapes.component.DefinedTypeId.{DefinedTypeId}
use Rattle.wac_types_shapes.specs.declared.shapes.component.Interface.{Interface}
use Rattle.wac_types_shapes.specs.declared.shapes.component.ItemKind.{ItemKind}
use Rattle.wac_types_shapes.specs.declared.shapes.component.ResourceId.{ResourceId}
use Rattle.wac_types_shapes.specs.declared.shapes.component.UsedType.{UsedType}
use Rattle.wac_types_collection.specs.collection.Collection.{Collection}
use Rattle.wac_types_collection.specs.collection.Bound.{lists_own, own_name}
use Rattle.wac_encode_scopes.specs.private.Closed.{AreApartItems}
use Rattle.wac_encode_scopes.specs.private.Interfaces.{own_in}
use Rattle.wac_encode_scopes.specs.private.Steps.{that_passes}
use Rattle.wac_encode_scopes.specs.private.Telling.{is_one_of, is_other, is_that}
use Rattle.wac_encode_scopes.proofs.Owned.{own-append, own-lists, own-none, same-id}
use Rattle.wac_encode_scopes.proofs.Types.{eqb-swap}

pub other-first : (c : Collection) (uses : List (Name × UsedType)) (own : ResourceId → Bool) (keys : List ResourceId) → keys ≡ [] → (r : ResourceId) → is_one_of keys r ≡ (is_some (own_name c uses [] r) && not (own r))
other-first c uses own keys none r = ap (λ (qs : List ResourceId). is_one_of qs r) none

-- whether the resource of one more item is another one
other-item : (c : Collection) (uses : List (Name × UsedType)) (own : ResourceId → Bool) (x : Name × ItemKind) (r : ResourceId) → is_that (that_passes (λ q. not (own q)) (own_in c uses x)) r ≡ (lists_own c uses r x && not (own r))
other-item c uses own x r = by (own_in c uses x) refl
  where
    passes : (q : ResourceId) (t : Bool) → not (own q) ≡ t → (s : Bool) → (q.0 == r.0) ≡ s → is_that (if t then Some q else None) r ≡ (s && not (own r))
    passes q true kept true same = eq-eqb r.0 q.0 (sym (eqb-true q.0 r.0 same)) ∙ sym kept ∙ ap (λ (z : ResourceId). not (own z)) (same-id c uses q r same)
    passes q true kept false apart = eqb-swap r.0 q.0 ∙ apart
    passes q false left true same = sym left ∙ ap (λ (z : ResourceId). not (own z)) (same-id c uses q r same)
    passes q false left false apart = refl

    by : (o : Option ResourceId) → own_in c uses x ≡ o → is_that (that_passes (λ q. not (own q)) o) r ≡ (lists_own c uses r x && not (own r))
    by None is = ap (λ (b : Bool). b && not (own r)) (sym (own-none c uses x.0 x.1 is r))
    by (Some q) is =
        passes q (not (own q)) refl (q.0 == r.0) refl ∙ ap (λ (b : Bool). b && not (own r)) (sym (own-lists c uses x.0 x.1 q is r))

pub other-next : (c : Collection) (uses : List (Name × UsedType)) (own : ResourceId → Bool) (es : List (Name × ItemKind)) (i k : ℕ) (x : Name × ItemKind) (a : Option ResourceId) (old new : List ResourceId) → k ≡ suc i → slice_get es i ≡ Some x → a ≡ that_passes (λ q. not (own q)) (own_in c uses x)
    → ((r : ResourceId) → is_one_of old r ≡ (is_some (own_name c uses (take i es) r) && not (own r))) → ((r : ResourceId) → is_one_of new r ≡ (is_one_of old r || is_that a r)) → (r : ResourceId) → is_one_of new r ≡ (is_some (own_name c uses (take k es) r) && not (own r))
other-next c uses own es i k x a old new one at is was step r =
    step r
    ∙ ap (λ (o : Option ResourceId). is_one_of old r || is_that o r) is
    ∙ ap (λ (b : Bool). b || is_that (that_passes (λ q. not (own q)) (own_in c uses x)) r) (was r)
    ∙ ap (λ (b : Bool). (is_some (own_name c uses (take i es) r) && not (own r)) || b) (other-item c uses own x r)
    ∙ both (own_name c uses (take i es) r) (lists_own c uses r x) (not (own r))
    ∙ ap (λ (o : Option Name). is_some o && not (own r)) (sym (own-append c uses (take i es) x r))
    ∙ ap (λ (l : List (Name × ItemKind)). is_some (own_name c uses l r) && not (own r)) (sym (ap (λ (n : ℕ). take n es) one ∙ take_at es i x at))
  where
    both : (o : Option Name) (l t : Bool) → ((is_some o && t) || (l && t)) ≡ (is_some (option_case o (if l then Some x.0 else None) (λ n. Some n)) && t)
    both None true t = refl
    both None false t = refl
    both (Some n) true true = refl
    both (Some n) true false = refl
    both (Some n) false true = refl
    both (Some n) false false = refl

pub other-all : (c : Collection) (it : Interface) (own : ResourceId → Bool) (i : ℕ) (keys : List ResourceId) → length it.exports ≤ i → ((r : ResourceId) → is_one_of keys r ≡ (is_some (own_name c it.uses (take i it.exports) r) && not (own r))) → (r : ResourceId) → is_one_of keys r ≡ is_other c it own r
other-all c it own i keys past was r = was r ∙ ap (λ (l : List (Name × ItemKind)). is_some (own_name c it.uses l r) && not (own r)) (take_all i it.exports past)

-- the same of a test that is the same
pub apart-as : (c : Collection) (es : List (Name × ItemKind)) (these others : ResourceId → Bool) (test : DefinedTypeId → Bool) → ((r : ResourceId) → these r ≡ others r) → AreApartItems c es these test → AreApartItems c es others test
apart-as c es these others test same are = subst (λ (f : ResourceId → Bool). AreApartItems c es f test) (fun_ext same) are

-- a resource is added to a set

id-is : (q r : ResourceId) → (q.0 == r.0) ≡ true → q ≡ r
id-is q r h = ap (λ k. record { 0 = k }) (eqb-true q.0 r.0 h)

pub resource-inserted : (old new : List ResourceId) (q : ResourceId) → new ≡ insert_key (IdEq.ghosts).eq old q → (r : ResourceId) → is_one_of new r ≡ (is_one_of old r || is_that (Some q) r)
resource-inserted old new q is r = by (list_any ((IdEq.ghosts).eq q) old) refl is
  where
    or-none : (b : Bool) → (b || false) ≡ b
    or-none true = refl
    or-none false = refl

    or-same : (a b : Bool) → (b ≡ true → a ≡ true) → a ≡ (a || b)
    or-same true b h = refl
    or-same false true h = h refl
    or-same false false h = refl

    old-there : list_any ((IdEq.ghosts).eq q) old ≡ true → (r.0 == q.0) ≡ true → is_one_of old r ≡ true
    old-there found same = ap (λ (z : ResourceId). is_one_of old z) (id-is r q same) ∙ found

    by : (b : Bool) → list_any ((IdEq.ghosts).eq q) old ≡ b → new ≡ (if b then old else old ++ q ∷ []) → is_one_of new r ≡ (is_one_of old r || (r.0 == q.0))
    by true found h = ap (λ (xs : List ResourceId). is_one_of xs r) h ∙ or-same (is_one_of old r) (r.0 == q.0) (old-there found)
    by false found h = ap (λ (xs : List ResourceId). is_one_of xs r) h ∙ list_any-append (λ (z : ResourceId). r.0 == z.0) old (q ∷ []) ∙ (λ j. is_one_of old r || or-none (r.0 == q.0) j)
