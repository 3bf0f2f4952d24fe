-- Open instance types over the scopes of a state, from step to step.
use Rattle.std.specs.Prelude.{not}
use Rattle.std.specs.List.{AllZip, AllByRecursion}
use Rattle.std.proofs.Common.{ℕ, zero, suc, ◌+◌, ◌≡◌, Bool, true, false, arith, List, [], ◌∷◌, ◌++◌, length, refl, ap, sym, ◌∙◌, subst}
use Rattle.std.proofs.lemmas.List.{append_assoc, length-append}
use Rattle.wac_types_shapes.specs.primitives.Name.{Name}
use Rattle.wac_types_shapes.specs.primitives.Tree.{exported}
use Rattle.wac_types_shapes.specs.declared.shapes.component.ItemKind.{ItemKind}
use Rattle.wac_types_shapes.specs.declared.shapes.component.Interface.{Interface}
use Rattle.wac_types_collection.specs.collection.Collection.{Collection}
use Rattle.wac_binary.specs.declared.sorts.Description.{Description}
use Rattle.wac_binary.specs.Items.{instance_def, Decl, import_decl, decls, core_type_decl, type_decl, alias_decl, export_decl}
use Rattle.wac_binary.specs.HasMeaning.{ImportNothing}
use Rattle.wac_encode_stacks.specs.Scopes.{Content, Open, Stack, opening}
use Rattle.wac_encode_stacks.specs.private.Beside.{written_as, all_written_as}
use Rattle.wac_encode_scopes.specs.declared.book.Book.{Book}
use Rattle.wac_encode_scopes.specs.declared.encodable.Encodable.{Encodable}
use Rattle.wac_encode_scopes.specs.declared.encodable.Encodable.TheVariants.{Builder, Instance, Component}
use Rattle.wac_encode_scopes.specs.declared.scope.Scope.{Scope}
use Rattle.wac_encode_scopes.specs.declared.state.State.{State}
use Rattle.wac_encode_scopes.specs.Contents.{AddsTypes, IsTypeDecl, declarations_of, and_item, and_type, content_of}
use Rattle.wac_encode_scopes.specs.Books.{opened, book_of, recorded}
use Rattle.wac_encode_scopes.specs.States.{outward, stack, Goes, AllAddTypes}
use Rattle.wac_encode_scopes.specs.private.Interfaces.{BeginsInterface, own_items, fresh_exports}
use Rattle.wac_encode_scopes.specs.private.Listing.{ClosesInto}
use Rattle.wac_encode_scopes.proofs.Added.{adds-none, adds-def, adds-both}
use Rattle.wac_encode_scopes.proofs.Stepped.{same-as, same-stack}
use Rattle.wac_encode_interfaces.specs.private.Items.{AddsBeside}
use Rattle.wac_encode_interfaces.specs.private.Levels.{IsLevelContent, opens, AreLevels}
use Rattle.wac_encode_interfaces.proofs.Besides.{Long, as-twice}

abbrev Added : Scope → Scope → Type 0
Added s t = AddsTypes s.content t.content

-- lists of scopes

pub record Split (xs ys zs : List Scope) : Type 0 where
  pub front : List Scope
  pub rest : List Scope
  pub is : zs ≡ front ++ rest
  pub first : AllZip Added xs front
  pub second : AllZip Added ys rest

pub zip-split : (xs ys zs : List Scope) → AllZip Added (xs ++ ys) zs → Split xs ys zs
zip-split [] ys zs h = record { front = []; rest = zs; is = refl; first = tt; second = h }
zip-split (x ∷ xs) ys (z ∷ zs) h =
    let r = zip-split xs ys zs h.1 in
    record { front = z ∷ r.front; rest = r.rest; is = ap (λ (ws : List Scope). z ∷ ws) r.is; first = (h.0, r.first); second = r.second }
zip-split (x ∷ xs) ys [] h = absurd h

pub zip-both : (ss ts us : List Scope) → AllZip Added ss ts → AllZip Added ts us → AllZip Added ss us
zip-both [] [] [] g h = tt
zip-both (s ∷ ss) (t ∷ ts) (u ∷ us) g h = (adds-both s.content t.content u.content g.0 h.0, zip-both ss ts us g.1 h.1)
zip-both [] (t ∷ ts) us g h = absurd g
zip-both (s ∷ ss) [] us g h = absurd g
zip-both [] [] (u ∷ us) g h = absurd h
zip-both (s ∷ ss) (t ∷ ts) [] g h = absurd h

pub zip-long : (ss ts : List Scope) → AllZip Added ss ts → length ts ≡ length ss
zip-long [] [] h = refl
zip-long (s ∷ ss) (t ∷ ts) h = ap suc (zip-long ss ts h.1)
zip-long [] (t ∷ ts) h = absurd h
zip-long (s ∷ ss) [] h = absurd h

-- contents

-- declarations that are types import nothing (each other constructor of Decl: the tail)
pub imports-on : (ds more : List Decl) → ImportNothing (decls ds) → AllByRecursion IsTypeDecl more → ImportNothing (decls (ds ++ more))
imports-on [] [] h g = tt
imports-on [] (core_type_decl t ∷ more) h g = imports-on [] more h g.1
imports-on [] (type_decl t ∷ more) h g = imports-on [] more h g.1
imports-on [] (alias_decl a ∷ more) h g = imports-on [] more h g.1
imports-on [] (import_decl n d ∷ more) h g = absurd g.0
imports-on [] (export_decl n d ∷ more) h g = absurd g.0
imports-on (import_decl n d ∷ ds) more h g = absurd h
imports-on (core_type_decl t ∷ ds) more h g = imports-on ds more h g
imports-on (type_decl t ∷ ds) more h g = imports-on ds more h g
imports-on (alias_decl a ∷ ds) more h g = imports-on ds more h g
imports-on (export_decl n d ∷ ds) more h g = imports-on ds more h g

pub content-on : (x y : Encodable) → AddsTypes x y → IsLevelContent x → IsLevelContent y
content-on (Instance ds) (Instance es) h g = (tt, subst (λ (xs : List Decl). ImportNothing (decls xs)) (sym h.1) (imports-on ds h.0 g.1 h.2))
content-on (Instance ds) (Builder xs) h g = absurd h
content-on (Instance ds) (Component xs) h g = absurd h
content-on (Builder xs) y h g = absurd g.0
content-on (Component xs) y h g = absurd g.0

contents-on : (ss ts : List Scope) → AllZip Added ss ts → AllByRecursion (λ s. IsLevelContent s.content) ss → AllByRecursion (λ s. IsLevelContent s.content) ts
contents-on [] [] h g = tt
contents-on (s ∷ ss) (t ∷ ts) h g = (content-on s.content t.content h.0 g.0, contents-on ss ts h.1 g.1)
contents-on [] (t ∷ ts) h g = absurd h
contents-on (s ∷ ss) [] h g = absurd h

imports-exported : (ds : List Decl) (n : Name) (d : Description) → ImportNothing (decls ds) → ImportNothing (decls (ds ++ export_decl n d ∷ []))
imports-exported [] n d h = tt
imports-exported (import_decl m e ∷ ds) n d h = absurd h
imports-exported (core_type_decl t ∷ ds) n d h = imports-exported ds n d h
imports-exported (type_decl t ∷ ds) n d h = imports-exported ds n d h
imports-exported (alias_decl a ∷ ds) n d h = imports-exported ds n d h
imports-exported (export_decl m e ∷ ds) n d h = imports-exported ds n d h

content-exported : (n : Name) (d : Description) (x : Encodable) → IsLevelContent x → IsLevelContent (and_item exported n d x)
content-exported n d (Instance ds) h = (tt, imports-exported ds n d h.1)
content-exported n d (Builder xs) h = absurd h.0
content-exported n d (Component xs) h = absurd h.0

imports-fresh : (es : List (Name × ItemKind)) → ImportNothing (decls (fresh_exports es))
imports-fresh [] = tt
imports-fresh (e ∷ es) = imports-fresh es

-- lengths

length-snoc : (ps : Stack) (p : Open) → length (ps ++ p ∷ []) ≡ suc (length ps)
length-snoc [] p = refl
length-snoc (x ∷ ps) p = ap suc (length-snoc ps p)

length-outward : (b : Bool) (ss : List Scope) → length (outward b ss) ≡ length ss
length-outward b [] = refl
length-outward b (s ∷ ss) = length-snoc (outward b ss) (opened b s) ∙ ap suc (length-outward b ss)

length-opens : (n : ℕ) (st : Stack) → length (opens n st) ≡ n + length st
length-opens zero st = omega arith
length-opens (suc n) st = let rest : length (opens n st) ≡ n + length st = length-opens n st in let more : suc (n + length st) ≡ suc n + length st = omega arith in ap suc rest ∙ more

long-by : (ps os : Stack) → length ps ≡ length os → Long ps os
long-by [] [] h = tt
long-by (p ∷ ps) (o ∷ os) h = let same : suc (length ps) ≡ suc (length os) = h in long-by ps os (omega (arith, same))
long-by [] (o ∷ os) h = let no : zero ≡ suc (length os) = h in absurd (omega (arith, no))
long-by (p ∷ ps) [] h = let no : suc (length ps) ≡ zero = h in absurd (omega (arith, no))

length-stack : (b : Bool) (s : State) → length (stack b s) ≡ suc (length s.around.items)
length-stack b s = ap suc (length-outward b s.around.items)

levels-long : (b : Bool) (n : ℕ) (old s : State) → AreLevels b n old s → length (stack b s) ≡ length (opens n (stack (not b) old))
levels-long b n old s h =
    let one = length-stack b s in
    let two = ap (λ (ss : List Scope). length ss) h.around ∙ length-append h.base h.levels in
    let three = zip-long (old.around.items ++ old.here ∷ []) h.base h.types ∙ length-append old.around.items (old.here ∷ []) in
    let four = length-opens n (stack (not b) old) in
    let five = length-stack (not b) old in
    let six = h.count in
    let last : length (old.here ∷ []) ≡ 1 = refl in
    omega (arith, one, two, three, four, five, six, last)

-- a step inside

levels-step : (b : Bool) (n : ℕ) (old s t : State) → AreLevels b n old s → stack (not b) t ≡ all_written_as (stack b t) (stack (not b) s) → AllZip Added s.around.items t.around.items → IsLevelContent t.here.content → AreLevels b n old t
levels-step b n old s t h other around here =
    let r = zip-split h.base h.levels t.around.items (subst (λ (ss : List Scope). AllZip Added ss t.around.items) h.around around) in
    let same = zip-long s.around.items t.around.items around in
    let one = length-stack b s in
    let two = length-stack b t in
    record {
      base = r.front;
      levels = r.rest;
      around = r.is;
      count = ap suc (zip-long h.levels r.rest r.second) ∙ h.count;
      types = zip-both (old.around.items ++ old.here ∷ []) h.base r.front h.types r.first;
      contents = contents-on h.levels r.rest r.second h.contents;
      here = here;
      other = other ∙ ap (all_written_as (stack b t)) h.other ∙ as-twice (stack b s) (stack b t) (opens n (stack (not b) old)) (long-by (stack b s) (stack b t) (omega (arith, same, one, two))) (long-by (stack b s) (opens n (stack (not b) old)) (levels-long b n old s h));
    }

-- A step that adds types anywhere keeps the levels.
pub levels-on : (c : Collection) (b : Bool) (n : ℕ) (old s t : State) → AreLevels b n old s → Goes c b s t → AreLevels b n old t
levels-on c b n old s t h g = levels-step b n old s t h g.other g.types.1 (content-on s.here.content t.here.content g.types.0 h.here)

-- So does an export that is added.
pub levels-exported : (b : Bool) (n : ℕ) (name : Name) (old s t : State) → AreLevels b n old s → AddsBeside b exported name s t → AreLevels b n old t
levels-exported b n name old s t h g = levels-step b n old s t h g.other g.around (subst IsLevelContent (sym g.content) (content-exported name g.description g.between (content-on s.here.content g.between g.types h.here)))

-- an instance type is opened

pub outward-snoc : (b : Bool) (ss : List Scope) (s : Scope) → outward b (ss ++ s ∷ []) ≡ opened b s ∷ outward b ss
outward-snoc b [] s = refl
outward-snoc b (x ∷ ss) s = ap (λ (zs : Stack). zs ++ opened b x ∷ []) (outward-snoc b ss s)

opened-other : (c : Collection) (b : Bool) (it : Interface) (s t : State) (under : Stack) → BeginsInterface c b it s t → stack (not b) s ≡ all_written_as (stack b s) under → stack (not b) t ≡ all_written_as (stack b t) (opening true ∷ under)
opened-other c b it s t under g h =
    ap (λ (ss : List Scope). opened (not b) t.here ∷ outward (not b) ss) g.around
    ∙ ap (λ (zs : Stack). opened (not b) t.here ∷ zs) (outward-snoc (not b) s.around.items s.here)
    ∙ ap (λ (o : Open). o ∷ stack (not b) s) g.beside
    ∙ ap (λ (zs : Stack). written_as (opened b t.here) (opening true) ∷ zs) h
    ∙ ap (λ (zs : Stack). written_as (opened b t.here) (opening true) ∷ all_written_as zs under) (sym (outward-snoc b s.around.items s.here))
    ∙ ap (λ (ss : List Scope). written_as (opened b t.here) (opening true) ∷ all_written_as (outward b ss) under) (sym g.around)

opened-content : (c : Collection) (b : Bool) (it : Interface) (s t : State) → BeginsInterface c b it s t → IsLevelContent t.here.content
opened-content c b it s t g = subst IsLevelContent (sym g.content) (tt, imports-fresh (own_items c it.uses it.exports))

zip-none : (ss : List Scope) → AllZip Added ss ss
zip-none [] = tt
zip-none (s ∷ ss) = (adds-none s.content, zip-none ss)

append-none : (ss : List Scope) → ss ≡ ss ++ []
append-none [] = refl
append-none (s ∷ ss) = ap (λ (ws : List Scope). s ∷ ws) (append-none ss)

contents-and : (ss : List Scope) (s : Scope) → AllByRecursion (λ s. IsLevelContent s.content) ss → IsLevelContent s.content → AllByRecursion (λ s. IsLevelContent s.content) (ss ++ s ∷ [])
contents-and [] s h g = (g, tt)
contents-and (x ∷ ss) s h g = (h.0, contents-and ss s h.1 g)

-- The first level.
pub levels-first : (c : Collection) (b : Bool) (it : Interface) (s t : State) → BeginsInterface c b it s t → AreLevels b 1 s t
levels-first c b it s t g = record {
  base = s.around.items ++ s.here ∷ [];
  levels = [];
  around = g.around ∙ append-none (s.around.items ++ s.here ∷ []);
  count = refl;
  types = zip-none (s.around.items ++ s.here ∷ []);
  contents = tt;
  here = opened-content c b it s t g;
  other = opened-other c b it s t (stack (not b) s) g (sym (same-as (stack b s) (stack (not b) s) (same-stack b (not b) s)));
}

-- A level inside the innermost one.
pub levels-inner : (c : Collection) (b : Bool) (n : ℕ) (it : Interface) (old s t : State) → AreLevels b n old s → BeginsInterface c b it s t → AreLevels b (suc n) old t
levels-inner c b n it old s t h g = record {
  base = h.base;
  levels = h.levels ++ s.here ∷ [];
  around = g.around ∙ ap (λ (ss : List Scope). ss ++ s.here ∷ []) h.around ∙ append_assoc h.base h.levels (s.here ∷ []);
  count =
      let one = length-append h.levels (s.here ∷ []) in
      let two = h.count in
      let last : length (s.here ∷ []) ≡ 1 = refl in
      omega (arith, one, two, last);
  types = h.types;
  contents = contents-and h.levels s.here h.contents h.here;
  here = opened-content c b it s t g;
  other = opened-other c b it s t (opens n (stack (not b) old)) g h.other;
}

-- an instance type is closed

same-book : (b : Bool) (s : Scope) (x : Encodable) → book_of b (record s { content = x }) ≡ book_of b s
same-book true s x = refl
same-book false s x = refl

-- The enclosing scope, with another content.
closed-here : (b : Bool) (s t : Scope) (x : Encodable) → t ≡ record s { content = x } → opened b t ≡ recorded (book_of b s) (content_of x)
closed-here b s t x h = ap (opened b) h ∙ ap (λ (k : Book). recorded k (content_of x)) (same-book b s x)

heads : (p q : Open) (ps qs : Stack) → p ∷ ps ≡ q ∷ qs → p ≡ q
heads p q ps qs h = cc

tails : {A : Type 0} → (p q : A) (ps qs : List A) → p ∷ ps ≡ q ∷ qs → ps ≡ qs
tails p q ps qs h = cc

abbrev with-content : Content → Open → Open
with-content x o = record o { content = x }

closed-other : (b : Bool) (outer here : Scope) (x : Encodable) (os : List Scope) (under : Stack) → here ≡ record outer { content = x } → opened (not b) outer ∷ outward (not b) os ≡ all_written_as (opened b outer ∷ outward b os) under
    → opened (not b) here ∷ outward (not b) os ≡ all_written_as (opened b here ∷ outward b os) under
closed-other b outer here x os [] is h = let no : opened (not b) outer ∷ outward (not b) os ≡ [] = h in absurd (no-cons (opened (not b) outer) (outward (not b) os) no)
  where
    no-cons : (o : Open) (os : Stack) → o ∷ os ≡ [] → ⊥
    no-cons o os h = cc
closed-other b outer here x os (u ∷ us) is h =
    let head : opened (not b) outer ≡ written_as (opened b outer) u = heads (opened (not b) outer) (written_as (opened b outer) u) (outward (not b) os) (all_written_as (outward b os) us) h in
    let rest : outward (not b) os ≡ all_written_as (outward b os) us = tails (opened (not b) outer) (written_as (opened b outer) u) (outward (not b) os) (all_written_as (outward b os) us) h in
    let mine : opened b here ≡ recorded (book_of b outer) (content_of x) = closed-here b outer here x is in
    let first : opened (not b) here ≡ written_as (opened b here) u =
    closed-here (not b) outer here x is
    ∙ ap (with-content (content_of x)) head
    ∙ ap (λ (p : Open). written_as p u) (sym mine) in
    ap (λ (o : Open). o ∷ outward (not b) os) first ∙ ap (λ (zs : Stack). written_as (opened b here) u ∷ zs) rest

-- What remains of the stacks when the innermost scope is closed.
outer-other : (b : Bool) (s t : State) (p : Open) (under : Stack) (g : ClosesInto s t) → stack (not b) s ≡ all_written_as (stack b s) (p ∷ under) → stack (not b) t ≡ all_written_as (stack b t) under
outer-other b s t p under g h =
    let rest : outward (not b) s.around.items ≡ all_written_as (outward b s.around.items) under = tails (opened (not b) s.here) (written_as (opened b s.here) p) (outward (not b) s.around.items) (all_written_as (outward b s.around.items) under) h in
    let snoc = subst (λ (ss : List Scope). outward (not b) ss ≡ all_written_as (outward b ss) under) g.1 rest in
    let one = sym (outward-snoc (not b) t.around.items g.0) ∙ snoc ∙ ap (λ (zs : Stack). all_written_as zs under) (outward-snoc b t.around.items g.0) in
    closed-other b g.0 t.here (and_type (instance_def (decls (declarations_of s.here.content))) g.0.content) t.around.items under g.2 one

outer-types : (s t : State) (g : ClosesInto s t) → AddsTypes g.0.content t.here.content
outer-types s t g = subst (λ (x : Scope). AddsTypes g.0.content x.content) (sym g.2) (adds-def (instance_def (decls (declarations_of s.here.content))) g.0.content)

-- the last of a list of scopes

snocs : (xs ys : List Scope) (x y : Scope) → xs ++ x ∷ [] ≡ ys ++ y ∷ [] → (xs ≡ ys) × (x ≡ y)
snocs [] [] x y h = (refl, (let same : x ∷ [] ≡ y ∷ [] = h in cc))
snocs (a ∷ xs) (d ∷ ys) x y h =
    let same : a ∷ (xs ++ x ∷ []) ≡ d ∷ (ys ++ y ∷ []) = h in
    let rest = snocs xs ys x y (tails a d (xs ++ x ∷ []) (ys ++ y ∷ []) same) in
    let one : a ≡ d = first-is a d (xs ++ x ∷ []) (ys ++ y ∷ []) same in
    ((let all = rest.0 in cc), rest.1)
  where
    first-is : (a d : Scope) (xs ys : List Scope) → a ∷ xs ≡ d ∷ ys → a ≡ d
    first-is a d xs ys h = cc
snocs [] (d ∷ []) x y h = let no : x ∷ [] ≡ d ∷ y ∷ [] = h in absurd (short x d y [] no)
  where
    short : (x d y : Scope) (ys : List Scope) → x ∷ [] ≡ d ∷ y ∷ ys → ⊥
    short x d y ys h = let no : [] ≡ y ∷ ys = tails x d [] (y ∷ ys) h in cc
snocs [] (d ∷ e ∷ ys) x y h = let no : x ∷ [] ≡ d ∷ e ∷ (ys ++ y ∷ []) = h in absurd (short x d e (ys ++ y ∷ []) no)
  where
    short : (x d y : Scope) (ys : List Scope) → x ∷ [] ≡ d ∷ y ∷ ys → ⊥
    short x d y ys h = let no : [] ≡ y ∷ ys = tails x d [] (y ∷ ys) h in cc
snocs (a ∷ []) [] x y h = let no : a ∷ x ∷ [] ≡ y ∷ [] = h in absurd (short y a x [] (sym no))
  where
    short : (x d y : Scope) (ys : List Scope) → x ∷ [] ≡ d ∷ y ∷ ys → ⊥
    short x d y ys h = let no : [] ≡ y ∷ ys = tails x d [] (y ∷ ys) h in cc
snocs (a ∷ e ∷ xs) [] x y h = let no : a ∷ e ∷ (xs ++ x ∷ []) ≡ y ∷ [] = h in absurd (short y a e (xs ++ x ∷ []) (sym no))
  where
    short : (x d y : Scope) (ys : List Scope) → x ∷ [] ≡ d ∷ y ∷ ys → ⊥
    short x d y ys h = let no : [] ≡ y ∷ ys = tails x d [] (y ∷ ys) h in cc

pub record Last (P : Scope → Type 0) (ss : List Scope) : Type 0 where
  pub front : List Scope
  pub end : Scope
  pub is : ss ≡ front ++ end ∷ []
  pub all : AllByRecursion P front
  pub holds : P end

last-of : (P : Scope → Type 0) (s : Scope) (ss : List Scope) → AllByRecursion P (s ∷ ss) → Last P (s ∷ ss)
last-of P s [] h = record { front = []; end = s; is = refl; all = tt; holds = h.0 }
last-of P s (x ∷ ss) h =
    let r = last-of P x ss h.1 in
    record { front = s ∷ r.front; end = r.end; is = ap (λ (ws : List Scope). s ∷ ws) r.is; all = (h.0, r.all); holds = r.holds }

-- An inner level is closed.
pub levels-closed : (b : Bool) (n : ℕ) (old s t : State) → AreLevels b (suc (suc n)) old s → ClosesInto s t → AreLevels b (suc n) old t
levels-closed b n old s t h g = closed h.levels refl
  where
    IsLevel : Scope → Type 0
    IsLevel x = IsLevelContent x.content

    closed : (ls : List Scope) → h.levels ≡ ls → AreLevels b (suc n) old t
    closed [] is =
        let count = h.count in
        let none = ap (λ (ss : List Scope). length ss) is in
        let zero-long : length {A = Scope} [] ≡ 0 = refl in
        absurd (omega (arith, count, none, zero-long))
    closed (l ∷ ls) is =
        let r = last-of IsLevel l ls (subst (AllByRecursion IsLevel) is h.contents) in
        let same = snocs t.around.items (h.base ++ r.front) g.0 r.end (sym g.1 ∙ h.around ∙ ap (λ (ss : List Scope). h.base ++ ss) (is ∙ r.is) ∙ sym (append_assoc h.base r.front (r.end ∷ []))) in
        let count = h.count in
        let long = ap (λ (ss : List Scope). length ss) (is ∙ r.is) ∙ length-append r.front (r.end ∷ []) in
        let one-long : length (r.end ∷ []) ≡ 1 = refl in
        record {
          base = h.base;
          levels = r.front;
          around = same.0;
          count = omega (arith, count, long, one-long);
          types = h.types;
          contents = r.all;
          here = content-on g.0.content t.here.content (outer-types s t g) (subst IsLevel (sym same.1) r.holds);
          other = outer-other b s t (opening true) (opens (suc n) (stack (not b) old)) g h.other;
        }

-- The first level is closed: types alone are appended to the scopes.
pub levels-ended : (b : Bool) (old s t : State) → AreLevels b 1 old s → ClosesInto s t → AllAddTypes old t × (stack (not b) t ≡ all_written_as (stack b t) (stack (not b) old))
levels-ended b old s t h g = (types, outer-other b s t (opening true) (stack (not b) old) g h.other)
  where
    no-levels : (ls : List Scope) → suc (length ls) ≡ 1 → ls ≡ []
    no-levels [] is = refl
    no-levels (l ∷ ls) is = let long : suc (suc (length ls)) ≡ 1 = is in absurd (omega (arith, long))

    append-empty : (ss ls : List Scope) → ls ≡ [] → ss ++ ls ≡ ss
    append-empty ss ls is = ap (λ (xs : List Scope). ss ++ xs) is ∙ sym (append-none ss)

    base-is : h.base ≡ t.around.items ++ g.0 ∷ []
    base-is = sym (append-empty h.base h.levels (no-levels h.levels h.count)) ∙ sym h.around ∙ g.1

    zip-snoc : (ss ts : List Scope) (s t : Scope) → AllZip Added (ss ++ s ∷ []) (ts ++ t ∷ []) → AllZip Added ss ts × Added s t
    zip-snoc [] [] s t h = (tt, h.0)
    zip-snoc (x ∷ ss) (y ∷ ts) s t h = let r = zip-snoc ss ts s t h.1 in ((h.0, r.0), r.1)
    zip-snoc [] (y ∷ []) s t h = absurd h.1
    zip-snoc [] (y ∷ z ∷ ts) s t h = absurd h.1
    zip-snoc (x ∷ []) [] s t h = absurd h.1
    zip-snoc (x ∷ z ∷ ss) [] s t h = absurd h.1

    types : AllAddTypes old t
    types =
        let both = zip-snoc old.around.items t.around.items old.here g.0 (subst (AllZip Added (old.around.items ++ old.here ∷ [])) base-is h.types) in
        (adds-both old.here.content g.0.content t.here.content both.1 (outer-types s t g), both.0)
