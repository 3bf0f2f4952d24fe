use Rattle.std.proofs.Common.{◌≡◌, ℕ, ◌<◌, ◌++◌, ◌∷◌, [], List, Vec, Some, slice_get, length, map, take, refl, sym, ap, ◌∙◌, subst, arith, add-one}
use Rattle.std.specs.Global.{Global}
use Rattle.std.proofs.lemmas.List.{map-append, take_all}
use Rattle.std.proofs.lemmas.Option.{slice_get_read, slice_get_within}
use Rattle.wac_types_shapes.specs.primitives.Name.{Name, option_case}
use Rattle.wac_types_shapes.specs.shapes.Named.{NoNameTwice}
use Rattle.wac_types_shapes.specs.declared.shapes.component.Interface.{Interface}
use Rattle.wac_types_shapes.specs.declared.shapes.component.InterfaceId.{InterfaceId}
use Rattle.wac_types_shapes.specs.declared.shapes.component.ItemKind.{ItemKind}
use Rattle.wac_types_shapes.proofs.lemmas.shapes.Names.{take_at}
use Rattle.wac_types_collection.specs.collection.Collection.{interface_exports}
use Rattle.wac_merge_classes.proofs.lemmas.terms.Found.{get_map, mapped_length, one_some}
use Rattle.wac_merge_unions.specs.uses.United.{instances_of, listed_by}
use Rattle.wac_merge_unions.specs.uses.Using.{AreKnown, ArePlaced, IsItemPlaced}
use Rattle.wac_merge_unions.proofs.lemmas.uses.Inside.{placed-first, placed-next}
use Rattle.wac_merge_unions.proofs.uses.nested.Inside.open.Goals as goal

abbrev lists : List (Vec InterfaceId Global) → List (List InterfaceId)
lists vs = map (λ v. v.items) vs

pub place-requires-clause-within : goal.place-requires-clause-within
place-requires-clause-within c =
    let first : List InterfaceId = c.args.self.now.interfaces.items in
    let before : List (Vec InterfaceId Global) = c.args.self.now.users.items in
    let i : InterfaceId = c.index.result.now in
    let v : Vec InterfaceId Global = c.index-3.result.now in
    let v-at : slice_get before c.args.position ≡ Some v = slice_get_read before (length before) c.args.position v refl (omega (arith, c.requires.within, c.requires.counted)) c.index-3.ensures in
    let at : slice_get first c.args.position ≡ Some i = slice_get_read first (length first) c.args.position i refl c.requires.within c.index.ensures in
    slice_get_within c.loop-j.self.interfaces.items c.args.position i ((c.loop-j.invariant.placed v v-at).kept c.args.position i at)

pub place-requires-clause-counted : goal.place-requires-clause-counted
place-requires-clause-counted c =
    let before : List (Vec InterfaceId Global) = c.args.self.now.users.items in
    let v : Vec InterfaceId Global = c.index-3.result.now in
    let v-at : slice_get before c.args.position ≡ Some v = slice_get_read before (length before) c.args.position v refl (omega (arith, c.requires.within, c.requires.counted)) c.index-3.ensures in
    sym (mapped_length (λ (x : Vec InterfaceId Global). x.items) c.loop-j.self.users.items) ∙ (c.loop-j.invariant.placed v v-at).counted

pub loop-j-init : goal.loop-j-init
loop-j-init c =
    let q = c.args.position in
    let first : List InterfaceId = c.args.self.now.interfaces.items in
    let before : List (Vec InterfaceId Global) = c.args.self.now.users.items in
    record {
      placed = λ v v-at. subst (λ (l : List ℕ). ArePlaced c.args.asked.now.types.now c.args.merged.now q first (lists before) v.items [] first (lists before) l) (sym c.new-places.ensures.items)
          (placed-first c.args.asked.now.types.now c.args.merged.now q first (lists before) v.items (mapped_length (λ (x : Vec InterfaceId Global). x.items) before ∙ c.requires.counted));
      known = subst (λ es. AreKnown q first (lists before) es) (sym c.new-known.ensures.empty) tt;
      inner = refl;
    }

pub loop-j-preserved : goal.loop-j-preserved
loop-j-preserved c =
    let t = c.args.asked.now.types.now in
    let es : List (Name × ItemKind) = c.index-2.result.now.exports in
    let e : Name × ItemKind = (c.entry_at.result.0.now, c.entry_at.result.1.now) in
    let j : ℕ = c.loop-j.j in
    let at : slice_get es j ≡ Some e = c.entry_at.ensures in
    let q = c.args.position in
    let first : List InterfaceId = c.args.self.now.interfaces.items in
    let before : List (Vec InterfaceId Global) = c.args.self.now.users.items in
    let inv = c.loop-j.invariant in
    let is : List InterfaceId = c.loop-j.self.interfaces.items in
    let us : List (List InterfaceId) = lists c.loop-j.self.users.items in
    let js : List InterfaceId = c.place.new.self.interfaces.items in
    let vs : List (List InterfaceId) = lists c.place.new.self.users.items in
    let p : ℕ = c.in_ok-place.place in
    let made : List (Vec InterfaceId Global) = c.in_ok-lists.lists.items in
    let have = c.in_ok-lists.ensures in
    let w : Vec InterfaceId Global = c.index-in-loop-j.result.now in
    let within : j < length made = let low = slice_get_within es j e at in let count = have.counted in omega (arith, low, count) in
    let w-at : slice_get made j ≡ Some w = slice_get_read made (length made) j w refl within c.index-in-loop-j.ensures in
    record {
      placed = λ v v-at.
          let u : Vec InterfaceId Global = c.index-3.result.now in
          let u-at : slice_get before q ≡ Some u = slice_get_read before (length before) q u refl (omega (arith, c.requires.within, c.requires.counted)) c.index-3.ensures in
          let same : u ≡ v = one_some (slice_get before q) u v u-at v-at in
          let those : c.as_slice-users.result.now ≡ instances_of (listed_by t v.items e.0) =
          c.as_slice-users.ensures.value ∙ (have.each j e.0 e.1 w at w-at ∙ ap (λ l. instances_of (listed_by t l e.0)) (c.as_slice.ensures.value ∙ ap (λ (x : Vec InterfaceId Global). x.items) same)) in
          let put : IsItemPlaced q is us e.1 (instances_of (listed_by t v.items e.0)) js vs p = subst (λ (l : List InterfaceId). IsItemPlaced q is us e.1 l js vs p) those c.in_ok-place.ensures.placed in
          rw (add-one, take_at es j e at)
          (subst (λ (l : List ℕ). ArePlaced t c.args.merged.now q first (lists before) v.items (take j es ++ e ∷ []) js vs l) (sym c.in_ok-push.ensures.items)
          (placed-next t c.args.merged.now q first (lists before) v.items (take j es) is js us vs c.loop-j.places.items p (inv.placed v v-at) e put));
      known = c.in_ok-place.ensures.known;
      inner = c.place.ensures.inner ∙ inv.inner;
    }

pub returns : goal.returns
returns c =
    let m = c.args.merged.now in
    let t = c.args.asked.now.types.now in
    let q = c.args.position in
    let first : List InterfaceId = c.args.self.now.interfaces.items in
    let before : List (Vec InterfaceId Global) = c.args.self.now.users.items in
    let it : Interface = c.index-2.result.now in
    let i : InterfaceId = c.index.result.now in
    let v : Vec InterfaceId Global = c.index-3.result.now in
    let v-at : slice_get before q ≡ Some v = slice_get_read before (length before) q v refl (omega (arith, c.requires.within, c.requires.counted)) c.index-3.ensures in
    let listed : it.exports ≡ interface_exports m i = sym (ap (λ o. option_case o [] (λ (x : Interface). x.exports)) c.index-2.ensures) in
    let all : take c.loop-j.j it.exports ≡ interface_exports m i = take_all c.loop-j.j it.exports (omega (arith, c.loop-j-test.false)) ∙ listed in
    let inv = c.loop-j.invariant in
    record {
      interface = i;
      made_of = v.items;
      places = c.loop-j.places.items;
      at = slice_get_read first (length first) q i refl c.requires.within c.index.ensures;
      at_users = get_map (λ (x : Vec InterfaceId Global). x.items) before q v v-at;
      once = subst NoNameTwice listed c.law.ensures;
      placed = subst (λ (l : List (Name × ItemKind)). ArePlaced t m q first (lists before) v.items l c.loop-j.self.interfaces.items (lists c.loop-j.self.users.items) c.loop-j.places.items) all (inv.placed v v-at);
      inner_more = ap (map (λ (x : Vec ℕ Global). x.items)) c.in_ok-push-2.ensures.items ∙ (map-append (λ (x : Vec ℕ Global). x.items) c.loop-j.self.inner.items (c.loop-j.places ∷ [])
          ∙ ap (λ (l : Vec (Vec ℕ Global) Global). map (λ (x : Vec ℕ Global). x.items) l.items ++ c.loop-j.places.items ∷ []) inv.inner);
    }
