-- What a union lists, and unions that are written one by one.
use Rattle.std.proofs.Common.{◌≡◌, ℕ, suc, ◌+◌, ◌-◌, ◌<◌, true, List, [], ◌∷◌, ◌++◌, length, map, reverse, get_or, Option, Some, None, refl, sym, ap, ◌∙◌, subst, arith, inl, inr}
use Rattle.std.specs.Prelude.{slice_get}
use Rattle.std.specs.List.{AllZip, list_all}
use Rattle.std.specs.Option.{MatchOption}
use Rattle.std.proofs.lemmas.List.{get_or-reverse, length-reverse}
use Rattle.std.proofs.lemmas.Option.{get_or_from_slice_get, slice_get-get_or, slice_get_within}
use Rattle.wac_types_shapes.specs.primitives.Name.{Name, find_name, first_some, option_case}
use Rattle.wac_types_collection.specs.collection.Collection.{Collection, HasInterface, IsWellFormed, holds_all, holds_type, interface_exports, item_at, item_of, kind_types}
use Rattle.wac_types_shapes.specs.shapes.Kinds.{kind_type}
use Rattle.wac_types_collection.specs.collection.Uses.{interface_fault, is_named_right, unless}
use Rattle.wac_types_collection.specs.declared.collection.collection.AddTypeError.TheVariants as fault
use Rattle.wac_types_collection.specs.declared.collection.collection.Held.{Held}
use Rattle.wac_types_shapes.specs.declared.shapes.component.Interface.{Interface}
use Rattle.wac_types_shapes.specs.declared.shapes.component.InterfaceId.{InterfaceId}
use Rattle.wac_types_shapes.specs.declared.shapes.component.ItemKind.{ItemKind}
use Rattle.wac_types_shapes.specs.declared.shapes.component.ItemKind.TheVariants as kind
use Rattle.wac_types_shapes.specs.declared.shapes.component.ValueType.TheVariants as val
use Rattle.wac_types_shapes.specs.declared.shapes.component.«Type».TheVariants as ty
use Rattle.wac_types_shapes.proofs.lemmas.shapes.Names.{find_position}
use Rattle.wac_merge_classes.specs.terms.Became.{IsNew, became, own_in}
use Rattle.wac_merge_resources.specs.renaming.MadeOf.{AreMade, IsFuncMadeOf, IsMadeOf}
use Rattle.wac_merge_resources.specs.private.renaming.RenamedTypes.{AreRenamed, CanRename, CanRenameAll}
use Rattle.wac_types_collection.specs.private.subtyping.Extended.{IsExtended}
use Rattle.wac_merge_classes.specs.terms.Renaming.{IsRenamed}
use Rattle.wac_merge_classes.specs.terms.Unions.{AreUnions, IsExport, IsInner, IsPart, listed_under, part_lists, united}
use Rattle.wac_merge_classes.specs.terms.Writing.{AreWritten, IsGiven, IsWrittenExport}
use Rattle.wac_merge_imports.specs.unions.WritingSteps.{AreWrittenItems, CanWrite, HasExport, HasWritten, IsBehind, IsFoundIn, IsWrittenUnion}
use Rattle.wac_merge_resources.specs.declared.renaming.became.Became.{Became}
use Rattle.wac_merge_resources.specs.declared.renaming.renamer.Renamed.{Renamed}
use Rattle.wac_merge_resources.specs.declared.renaming.renamer.Renaming.{Renaming}
use Rattle.wac_merge_classes.specs.declared.terms.parts.Export.{Export}
use Rattle.wac_merge_classes.specs.declared.terms.parts.Part.{Part}
use Rattle.wac_merge_classes.specs.declared.terms.parts.Union.{Union}
use Rattle.wac_merge_resources.proofs.lemmas.renaming.StillRenamed.{still_can_all, still_fresh}
use Rattle.wac_merge_tables.proofs.lemmas.made.Extending.{still_interface, kept_item}
use Rattle.wac_merge_resources.proofs.lemmas.renaming.FreshAdding.{some-of}
use Rattle.wac_merge_classes.proofs.lemmas.entries.Lists.{at-push, push-cases, some-at}
use Rattle.wac_merge_classes.proofs.lemmas.entries.Places.{exports_held, held_at}
use Rattle.wac_merge_imports.proofs.lemmas.unions.WritingItems.{still-all-exported}

some-same : {A : Type 0} (x y : A) → Some x ≡ Some y → x ≡ y
some-same x y e = cc

-- ---- what stands under a name

-- the part whose interface lists the first of what is listed
pub record IsListedIn (c : Collection) (ps : List Part) (n : Name) (p : ℕ) (k : ItemKind) : Type 0 where
  pub part : Part
  pub at : slice_get ps p ≡ Some part
  pub lists : find_name (interface_exports c part.interface) n ≡ Some k

listed-in : (c : Collection) (ps : List Part) (qs : List ℕ) (n : Name) (p : ℕ) (k : ItemKind) (more : List (ℕ × ItemKind)) → listed_under c ps qs n ≡ (p, k) ∷ more → IsListedIn c ps n p k
listed-in c ps [] n p k more is = cc
listed-in c ps (q ∷ qs) n p k more is = by (find_name (part_lists c ps q) n) refl is (listed-in c ps qs n p k more) where
  there : (a : ItemKind) (o : Option Part) → slice_get ps q ≡ o → find_name (option_case o [] (λ x. interface_exports c x.interface)) n ≡ Some a → q ≡ p → a ≡ k → IsListedIn c ps n p k
  there a None at found same kinds = cc found
  there a (Some x) at found same kinds = record { part = x; at = ap (slice_get ps) (sym same) ∙ at; lists = found ∙ ap (λ y. Some y) kinds }

  by : (o : Option ItemKind) → find_name (part_lists c ps q) n ≡ o → option_case o (listed_under c ps qs n) (λ a. (q, a) ∷ listed_under c ps qs n) ≡ (p, k) ∷ more
      → (listed_under c ps qs n ≡ (p, k) ∷ more → IsListedIn c ps n p k) → IsListedIn c ps n p k
  by None found e rest = let w = rest e in record { part = w.part; at = w.at; lists = w.lists }
  by (Some a) found e rest =
      let first : ◌≡◌ {A = ℕ × ItemKind} (q, a) (p, k) = cc in
      there a (slice_get ps q) refl found (ap (λ z. z.0) first) (ap (λ z. z.1) first)

-- what a held interface lists is held
found-held : (c : Collection) → IsWellFormed c → (x : Part) → HasInterface c x.interface → (n : Name) (k : ItemKind) → find_name (interface_exports c x.interface) n ≡ Some k → holds_type c (kind_type k) ≡ true
found-held c wf x has n k found = by (item_at c.interfaces x.interface.0) refl found where
  by : (o : Option Interface) → item_at c.interfaces x.interface.0 ≡ o → find_name (option_case o [] (λ y. y.exports)) n ≡ Some k → holds_type c (kind_type k) ≡ true
  by None at e = cc
  by (Some it) at e = let w = find_position it.exports n k e in held_at c it.exports w.0 (n, k) (exports_held c wf x.interface it at) w.2

-- an inner union is behind
pub inner-behind : (us : List Union) (ps : List Part) (u : ℕ) (is : List (ℕ × InterfaceId)) (position : Option ℕ) (done : ℕ) → done + u + 1 ≡ length us → IsInner us ps u is position → IsBehind (length us) done position
inner-behind us ps u [] position done count h v at = cc
inner-behind us ps u (i ∷ is) position done count h v at =
    let same : h.0 ≡ v = some-same h.0 v (sym h.2 ∙ at) in
    let low = slice_get_within us h.0 h.1 h.4 in
    let less = h.3 in
    (omega (arith, same, low), omega (arith, same, less, count))

-- the interface of what lies in an item is given
pub inner-given : (us : List Union) (ps : List Part) (u : ℕ) (p : ℕ) (k : ItemKind) (more : List (ℕ × ItemKind)) (position : Option ℕ) (o : Option InterfaceId) (m : Collection) (written : List InterfaceId)
    → IsInner us ps u (united ((p, k) ∷ more)) position → IsFoundIn (length us) written position o → ((j : ℕ) (w : InterfaceId) → slice_get written j ≡ Some w → HasInterface m w) → IsGiven m k o
inner-given us ps u p (kind.Instance i) more position o m written h found held =
    let f = subst (λ (y : Option ℕ). IsFoundIn (length us) written y o) h.2 found in
    (f.1, f.4, held f.0 f.1 f.2)
inner-given us ps u p (kind.TypeItem (ty.Interface i)) more position o m written h found held =
    let f = subst (λ (y : Option ℕ). IsFoundIn (length us) written y o) h.2 found in
    (f.1, f.4, held f.0 f.1 f.2)
inner-given us ps u p k more position o m written h found held = tt

module _ (c : Collection) (roots : List (List InterfaceId)) (us : List Union) (ps : List Part) (are : AreUnions c roots us ps) (u : ℕ) (n : Name) (e : Export) (has : HasExport us u n e) where
  pub export-is : IsExport c us ps u n (listed_under c ps (has.0).parts.items n) e
  export-is =
      let x = has.0 in
      subst (λ (o : Option Export). MatchOption o (listed_under c ps x.parts.items n ≡ []) (λ y. IsExport c us ps u n (listed_under c ps x.parts.items n) y)) has.2 (are.exported u x n has.1)

  pub export-part : IsPart ps (Some e.part)
  export-part =
      let x = has.0 in
      let w = listed-in c ps x.parts.items n e.part e.kind export-is.more export-is.first in
      slice_get_within ps e.part w.part w.at

  pub export-held : IsWellFormed c → holds_type c (kind_type e.kind) ≡ true
  export-held wf =
      let x = has.0 in
      let w = listed-in c ps x.parts.items n e.part e.kind export-is.more export-is.first in
      found-held c wf w.part (are.held e.part w.part w.at) n e.kind w.lists

  pub export-inner : IsInner us ps u (united ((e.part, e.kind) ∷ export-is.more)) e.inner
  export-inner = subst (λ (ls : List (ℕ × ItemKind)). IsInner us ps u (united ls) e.inner) export-is.first export-is.inner

  -- the union of what lies in it is behind
  pub export-behind : (done : ℕ) → done + u + 1 ≡ length us → IsBehind (length us) done e.inner
  export-behind done count = inner-behind us ps u (united ((e.part, e.kind) ∷ export-is.more)) e.inner done count export-inner

  -- its interface is given
  pub export-given : (m : Collection) (written : List InterfaceId) (o : Option InterfaceId) → IsFoundIn (length us) written e.inner o → ((j : ℕ) (w : InterfaceId) → slice_get written j ≡ Some w → HasInterface m w) → IsGiven m e.kind o
  export-given m written o found held = inner-given us ps u e.part e.kind export-is.more e.inner o m written export-inner found held

-- an own resource has a new one
pub export-own : (c m : Collection) (us : List Union) (b : Became) (written : List InterfaceId) (u : ℕ) (n : Name) (e : Export) → CanWrite c m us b written u → HasExport us u n e → e.is_own ≡ true
    → (q : _) × (own_in b.fresh.now u n ≡ Some q) × IsNew c m q n
export-own c m us b written u n e can has own =
    let w = some-of (own_in b.fresh.now u n) ((can.fresh.listed u has.0 n has.1).1 (e, has.2, own)) in
    (w.0, w.1, can.fresh.own u n w.0 w.1)

-- ---- what can be renamed, and what was

pub can-rename : (m : Collection) (s : Renaming) → CanRenameAll m s.types.now s.became.now → IsPart s.became.now.parts.now s.part → CanRename m s
can-rename m s all within = record { extended = all.extended; ends = all.ends s.part within; bound = all.bound; outward = all.outward; around = all.around; within = within }

along : (F : Collection → Became → Option ℕ → Type 0) (s t : Renaming) → s.types.now ≡ t.types.now → s.became.now ≡ t.became.now → s.part ≡ t.part → F s.types.now s.became.now s.part → F t.types.now t.became.now t.part
along F s t x y z h = subst (λ (a : Collection). F a t.became.now t.part) x (subst (λ (b : Became). F s.types.now b t.part) y (subst (λ (p : Option ℕ). F s.types.now s.became.now p) z h))

-- the same in renamings that are alike
pub renamed-alike : (m : Collection) (memo : Renamed) (s t : Renaming) → s.types.now ≡ t.types.now → s.became.now ≡ t.became.now → s.part ≡ t.part → AreRenamed m s memo → AreRenamed m t memo
renamed-alike m memo s t x y z are = record {
  defined = λ d e at.
      along (λ c b p. IsRenamed c m (became c b.parts.now b.bindings.now b.fresh.now p) (ty.Value (val.Defined d)) (ty.Value (val.Defined e))) s t x y z (are.defined d e at);
  funcs = λ f g at. along (λ c b p. IsRenamed c m (became c b.parts.now b.bindings.now b.fresh.now p) (ty.Func f) (ty.Func g)) s t x y z (are.funcs f g at);
  made = along (λ c b p. AreMade c b.named.now m memo.made) s t x y z are.made;
  once = λ d e at. along (λ c b p. IsMadeOf c (became c b.parts.now b.bindings.now b.fresh.now p) b.named.now memo.made (val.Defined d) (val.Defined e)) s t x y z (are.once d e at);
  once_funcs = λ f g at. along (λ c b p. IsFuncMadeOf c m (became c b.parts.now b.bindings.now b.fresh.now p) b.named.now memo.made f g) s t x y z (are.once_funcs f g at);
}

-- ---- what stays

module _ (m more : Collection) (x : IsExtended m more) (wf : IsWellFormed m) where
  pub still-can : (c : Collection) (us : List Union) (b : Became) (written : List InterfaceId) (u : ℕ) → CanWrite c m us b written u → CanWrite c more us b written u
  still-can c us b written u can = record {
    unions = can.unions;
    fresh = still_fresh m more x wf c us b.bindings.now b.fresh.now can.fresh;
    known = still_can_all m more x wf c b can.known;
    counted = can.counted;
    held = λ j w at. still_interface m more x w (can.held j w at);
  }

pub still-union : (m more c : Collection) → IsExtended m more → (b : Became) (count : ℕ) (written : List InterfaceId) (u : ℕ) (y : Union) (id : Option Name) (w : InterfaceId)
    → IsWrittenUnion c m b count written u y id w → IsWrittenUnion c more b count written u y id w
still-union m more c x b count written u y id w is = record {
  interface = is.interface;
  there = kept_item m.interfaces more.interfaces x.kept.interfaces w.0 is.interface is.there;
  unused = is.unused;
  named = is.named;
  exports = λ ws has. still-all-exported m more x c b.parts.now b.bindings.now b.fresh.now ws u y.exports is.interface.exports (is.exports ws has);
}

-- ---- one interface

-- nothing stands against an interface of held items that uses no other
pub interface-right : (m : Collection) (id : Option Name) (ks : List (Name × ItemKind)) → holds_all m (kind_types ks) ≡ true → list_all (is_named_right m []) ks ≡ true
    → interface_fault m (record { id = id; uses = []; exports = ks }) ≡ None
interface-right m id ks held named = (λ i. first_some (unless (held i) fault.NotHeld) (unless (named i) fault.ResourceMisnamed))

pub union-written : (c m more : Collection) (b : Became) (count : ℕ) (written : List InterfaceId) (u : ℕ) (x : Union) (id name : Option Name) (ks : List (Name × ItemKind)) (w : InterfaceId) → IsExtended m more → id ≡ name
    → AreWrittenItems c m b count written u x.exports ks → item_at more.interfaces w.0 ≡ Some (record { id = id; uses = []; exports = ks }) → IsWrittenUnion c more b count written u x name w
union-written c m more b count written u x id name ks w grown same are at = record {
  interface = record { id = id; uses = []; exports = ks };
  there = at;
  unused = refl;
  named = sym same;
  exports = λ ws has. still-all-exported m more grown c b.parts.now b.bindings.now b.fresh.now ws u x.exports ks (are.exports ws has);
}

-- ---- all unions, from the last on

-- those that were written so far
abbrev pub AreAllWritten : Collection → Collection → Became → List Union → List (Option Name) → List InterfaceId → Type 0
AreAllWritten c m b us ids written = (j u : ℕ) (w : InterfaceId) (x : Union) (id : Option Name) → slice_get written j ≡ Some w → j + u + 1 ≡ length us → slice_get us u ≡ Some x → slice_get ids u ≡ Some id
    → IsWrittenUnion c m b (length us) written u x id w

-- one more
pub union-more : (c m more : Collection) (b : Became) (us : List Union) (ids : List (Option Name)) (written : List InterfaceId) (u : ℕ) (w : InterfaceId) (name : Option Name) → IsExtended m more → length written + u + 1 ≡ length us
    → slice_get ids u ≡ Some name → AreAllWritten c m b us ids written → ((x : Union) → slice_get us u ≡ Some x → IsWrittenUnion c more b (length us) written u x name w) → AreAllWritten c more b us ids (written ++ w ∷ [])
union-more c m more b us ids written u w name grown count named were is j v a x id at place there id_at = elim (push-cases written w j a at) [
  | inl old ↦ behind v x id a (still-union m more c grown b (length us) written v x id a (were j v a x id old place there id_at))
  | inr new ↦
      let same : v ≡ u = let e = new.0 in omega (arith, e, place, count) in
      let same_id : name ≡ id = some-same name id (sym named ∙ (ap (slice_get ids) (sym same) ∙ id_at)) in
      behind v x id a
      (subst (λ (y : InterfaceId). IsWrittenUnion c more b (length us) written v x id y) (sym new.1)
      (subst (λ (k : ℕ). IsWrittenUnion c more b (length us) written k x id w) (sym same)
      (subst (λ (y : Option Name). IsWrittenUnion c more b (length us) written u x y w) same_id (is x (ap (slice_get us) (sym same) ∙ there)))))
]
  where
    behind : (v : ℕ) (x : Union) (id : Option Name) (a : InterfaceId) → IsWrittenUnion c more b (length us) written v x id a → IsWrittenUnion c more b (length us) (written ++ w ∷ []) v x id a
    behind v x id a h = record {
      interface = h.interface;
      there = h.there;
      unused = h.unused;
      named = h.named;
      exports = λ ws has. h.exports ws (λ j k y at place. has j k y (at-push written w j y at) place);
    }

-- what was written is held
pub held-more : (m more : Collection) (written : List InterfaceId) (w : InterfaceId) → IsExtended m more → HasInterface more w → ((j : ℕ) (y : InterfaceId) → slice_get written j ≡ Some y → HasInterface m y)
    → (j : ℕ) (y : InterfaceId) → slice_get (written ++ w ∷ []) j ≡ Some y → HasInterface more y
held-more m more written w x has held j y at = elim (push-cases written w j y at) [
  | inl old ↦ still_interface m more x y (held j y old)
  | inr new ↦ subst (λ (z : InterfaceId). z.0 < length more.interfaces) (sym new.1) has
]

pub union-held : (c m : Collection) (b : Became) (count : ℕ) (written : List InterfaceId) (u : ℕ) (x : Union) (id : Option Name) (w : InterfaceId) → IsWrittenUnion c m b count written u x id w → HasInterface m w
union-held c m b count written u x id w is = by (slice_get m.interfaces w.0) refl is.there where
  by : (o : Option (Held Interface)) → slice_get m.interfaces w.0 ≡ o → item_of o ≡ Some is.interface → w.0 < length m.interfaces
  by None at e = cc
  by (Some h) at e = slice_get_within m.interfaces w.0 h at

-- in the end the list is turned round
pub turned : (written : List InterfaceId) → HasWritten (length written) written (reverse written)
turned written j v w at place =
    let low = slice_get_within written j w at in
    let near : v < length written = omega (arith, place) in
    let far : length written - 1 - v ≡ j = omega (arith, place) in
    slice_get-get_or (reverse written) v w (let e = length-reverse written in omega (arith, near, e))
    ∙ ap (λ y. Some y) (get_or-reverse written v w near ∙ ap (λ k. get_or written k w) far ∙ get_or_from_slice_get written j w w at)

pub are-written : (c m : Collection) (b : Became) (us : List Union) (ps : List Part) (ids : List (Option Name)) (written : List InterfaceId) → b.parts.now ≡ ps → length written ≡ length us → length ids ≡ length us
    → AreAllWritten c m b us ids written → AreWritten c m us ps b.bindings.now b.fresh.now ids (reverse written)
are-written c m b us ps ids written parts count id_count are =
    subst (λ (l : List Part). AreWritten c m us l b.bindings.now b.fresh.now ids (reverse written)) parts
    (record { written = λ u x at. one u x at (slice_get_within us u x at) })
  where
    has : HasWritten (length us) written (reverse written)
    has = subst (λ k. HasWritten k written (reverse written)) count (turned written)

    found : (u : ℕ) (x : Union) (w : InterfaceId) (id : Option Name) → slice_get ids u ≡ Some id → slice_get (reverse written) u ≡ Some w → IsWrittenUnion c m b (length us) written u x id w
        → (w : InterfaceId) × (it : Interface) × (slice_get (reverse written) u ≡ Some w) × (item_at m.interfaces w.0 ≡ Some it)
        × (it.uses ≡ []) × (slice_get ids u ≡ Some it.id) × AllZip (IsWrittenExport c m b.parts.now b.bindings.now b.fresh.now (reverse written) u) x.exports it.exports
    found u x w id named at is = (w, is.interface, at, is.there, is.unused, named ∙ ap (λ y. Some y) is.named, is.exports (reverse written) has)

    one : (u : ℕ) (x : Union) → slice_get us u ≡ Some x → u < length us → (w : InterfaceId) × (it : Interface) × (slice_get (reverse written) u ≡ Some w) × (item_at m.interfaces w.0 ≡ Some it)
        × (it.uses ≡ []) × (slice_get ids u ≡ Some it.id) × AllZip (IsWrittenExport c m b.parts.now b.bindings.now b.fresh.now (reverse written) u) x.exports it.exports
    one u x at low =
        let place : (length us - 1 - u) + u + 1 ≡ length us = omega (arith, low) in
        let w = some-at written (length us - 1 - u) (omega (arith, low, count)) in
        let id = some-at ids u (omega (arith, low, id_count)) in
        found u x w.0 id.0 id.1 (has (length us - 1 - u) u w.0 w.1 place) (are (length us - 1 - u) u w.0 x id.0 w.1 place at id.1)

pub length-mapped : {A B : Type 0} (f : A → B) (xs : List A) → length (map f xs) ≡ length xs
length-mapped f [] = refl
length-mapped f (x ∷ xs) = ap suc (length-mapped f xs)

pub at-empty : {A : Type 0} (xs : List A) (j : ℕ) (x : A) → xs ≡ [] → slice_get xs j ≡ Some x → ⊥
at-empty [] j x e at = cc
at-empty (y ∷ xs) j x e at = cc
