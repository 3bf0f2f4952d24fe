use Rattle.std.proofs.Common.{◌≡◌, ◌++◌, ◌∷◌, [], ◌∙◌, ℕ, List, Vec, length, map, inl, refl, sym, ap, subst, arith}
use Rattle.std.specs.Global.{Global}
use Rattle.std.proofs.lemmas.List.{map-append}
use Rattle.wac_types_shapes.specs.declared.shapes.component.InterfaceId.{InterfaceId}
use Rattle.wac_types_shapes.specs.declared.shapes.component.ItemKind.{ItemKind}
use Rattle.wac_types_shapes.specs.declared.shapes.component.ItemKind.TheVariants as kind
use Rattle.wac_merge_classes.proofs.lemmas.terms.Found.{mapped_length}
use Rattle.wac_merge_unions.specs.uses.Using.{AreKnown, IsItemPlaced, StandsBehind}
use Rattle.wac_merge_unions.proofs.lemmas.uses.Inside.{keeps-push, known-still}
use Rattle.wac_merge_unions.proofs.lemmas.uses.KnownPlaces.{known_at, known_put, new_placed}
use Rattle.wac_merge_unions.proofs.uses.nested.Inside.place.Goals as goal

abbrev lists : List (Vec InterfaceId Global) → List (List InterfaceId)
lists vs = map (λ v. v.items) vs

pub returns-in-Some-clause-placed : goal.returns-in-Some-clause-placed
returns-in-Some-clause-placed c =
    let q = c.args.position in
    let is : List InterfaceId = c.args.self.now.interfaces.items in
    let us : List (List InterfaceId) = lists c.args.self.now.users.items in
    let i : InterfaceId = c.in-Instance.id in
    let of : Vec InterfaceId Global = c.in_ok-copied_ids.field-0 in
    let p : ℕ = c.in-Some.there.now in
    let stands : StandsBehind q is us i of.items p = known_at q is us c.args.known.now.entries (i, of) c.in-Some.field-0-1.now p c.in-Some.field-0-0 (sym c.in-Some.ensures.key) c.in-Some.ensures.entry c.requires.known in
    subst (λ (k : ItemKind). IsItemPlaced q is us k c.args.users.now is us p) (sym c.in-Instance.is) (subst (λ (l : List InterfaceId). IsItemPlaced q is us (kind.Instance i) l is us p) c.in_ok-copied_ids.ensures (stands, inl (refl, refl)))

pub returns-clause-placed : goal.returns-clause-placed
returns-clause-placed c =
    let q = c.args.position in
    let is : List InterfaceId = c.args.self.now.interfaces.items in
    let before : List (Vec InterfaceId Global) = c.args.self.now.users.items in
    let us : List (List InterfaceId) = lists before in
    let i : InterfaceId = c.in-Instance.id in
    let js : List InterfaceId = c.push-2.new.self.items in
    let vs : List (List InterfaceId) = lists c.push.new.self.items in
    let of : List InterfaceId = c.args.users.now in
    let number : c.len-place.result ≡ length is = omega (arith, c.len-place.ensures, c.args.self.now.interfaces.ok.0) in
    let counted : length us ≡ length is = mapped_length (λ (v : Vec InterfaceId Global). v.items) before ∙ c.requires.counted in
    let more-users : vs ≡ us ++ of ∷ [] =
    ap lists c.in_ok-push.ensures.items ∙ (map-append (λ (v : Vec InterfaceId Global). v.items) before (c.in_ok-copied_ids-2.field-0 ∷ []) ∙ ap (λ l. us ++ l ∷ []) c.in_ok-copied_ids-2.ensures) in
    subst (λ (k : ItemKind). IsItemPlaced q is us k of js vs c.len-place.result) (sym c.in-Instance.is) (new_placed q is js us vs i of c.len-place.result c.requires.within counted number c.in_ok-push-2.ensures.items more-users)

pub returns-clause-known : goal.returns-clause-known
returns-clause-known c =
    let q = c.args.position in
    let is : List InterfaceId = c.args.self.now.interfaces.items in
    let before : List (Vec InterfaceId Global) = c.args.self.now.users.items in
    let us : List (List InterfaceId) = lists before in
    let i : InterfaceId = c.in-Instance.id in
    let js : List InterfaceId = c.push-2.new.self.items in
    let vs : List (List InterfaceId) = lists c.push.new.self.items in
    let of : List InterfaceId = c.args.users.now in
    let key : Vec InterfaceId Global = c.in_ok-copied_ids.field-0 in
    let p : ℕ = c.len-place.result in
    let known = c.args.known.now.entries in
    let number : p ≡ length is = omega (arith, c.len-place.ensures, c.args.self.now.interfaces.ok.0) in
    let counted : length us ≡ length is = mapped_length (λ (v : Vec InterfaceId Global). v.items) before ∙ c.requires.counted in
    let more : js ≡ is ++ i ∷ [] = c.in_ok-push-2.ensures.items in
    let more-users : vs ≡ us ++ of ∷ [] =
    ap lists c.in_ok-push.ensures.items ∙ (map-append (λ (v : Vec InterfaceId Global). v.items) before (c.in_ok-copied_ids-2.field-0 ∷ []) ∙ ap (λ l. us ++ l ∷ []) c.in_ok-copied_ids-2.ensures) in
    let new = new_placed q is js us vs i of p c.requires.within counted number more more-users in
    let stands : StandsBehind q js vs i key.items p = subst (λ (l : List InterfaceId). StandsBehind q js vs i l p) (sym c.in_ok-copied_ids.ensures) new.0 in
    let still = known-still q is js us vs known (keeps-push is js i more) (keeps-push us vs of more-users) c.requires.known in
    subst (λ es. AreKnown q js vs es) (sym c.in_ok-insert.ensures.entries) (known_put q js vs known (i, key) p stands still)
