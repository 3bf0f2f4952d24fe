-- Levels of open instance types.
use Rattle.std.proofs.Common.{ℕ, zero, suc, ◌≡◌, Bool, false, List, [], ◌∷◌, ◌++◌, length, take, slice_get, Option, Some, None, refl, ap, sym, ◌∙◌, subst, arith}
use Rattle.std.proofs.lemmas.List.{append_assoc}
use Rattle.wac_types_shapes.specs.primitives.Name.{Name, option_case, find_name}
use Rattle.wac_types_shapes.specs.primitives.Tree.{exported, named, absent, Tree}
use Rattle.wac_types_shapes.specs.declared.shapes.component.InterfaceId.{InterfaceId}
use Rattle.wac_types_shapes.specs.declared.shapes.component.Interface.{Interface}
use Rattle.wac_types_shapes.specs.declared.shapes.component.ItemKind.{ItemKind}
use Rattle.wac_types_collection.specs.collection.Collection.{Collection, item_at}
use Rattle.wac_types_collection.specs.collection.Bound.{Bindings, binds_here, inside_interface}
use Rattle.wac_binary.specs.HasMeaning.{IsFree}
use Rattle.wac_binary.specs.Unfold.{Scope}
use Rattle.wac_encode_stacks.specs.Scopes.{Stack, env, envs}
use Rattle.wac_encode_stacks.specs.Good.{Kept, Grown, Good, Onward, top}
use Rattle.wac_encode_stacks.specs.Listed.{AreListed, IsItem, IsUnder, ListsOneMore}
use Rattle.wac_encode_scopes.specs.declared.state.State.{State}
use Rattle.wac_encode_scopes.specs.Books.{opened}
use Rattle.wac_encode_scopes.specs.private.Interfaces.{BeginsInterface, own_items}
use Rattle.wac_encode_scopes.specs.private.Listing.{Closes, ClosesInto}
use Rattle.wac_encode_scopes.specs.States.{outward, stack, Goes}
use Rattle.wac_encode_interfaces.specs.declared.level.Level.{Level}
use Rattle.wac_encode_interfaces.specs.private.Nests.{IsLevel, following, items_at, listed_items, HasListed, IsInsideLevel, WaitsFor, IsNextItem, IsNest, Nest}
use Rattle.wac_encode_interfaces.specs.private.Items.{AddsBeside, AddsItem, AddsTree}
use Rattle.wac_encode_interfaces.proofs.Adding.{grown-on}
use Rattle.wac_encode_interfaces.proofs.Levels.{levels-on, levels-ended, levels-closed, levels-exported, levels-first, levels-inner, outward-snoc}

listed-kept : (c : Collection) (m : Bindings) (e f : Scope) (l : Level) → f.exports ≡ e.exports → HasListed c m e l → HasListed c m f l
listed-kept c m e f l same h = λ it at. subst (λ (items : Name → Tree). AreListed c m exported (listed_items c it l) items) (sym same) (h it at)

-- Whatever grows in the scopes, the levels stay what they are.
pub nest-grown : (c : Collection) (i : InterfaceId) (cut : Bool) (ms0 : List Bindings) (st0 : Stack) (l : Level) (ks : List Level) (ms : List Bindings) (st st' : Stack) → Grown (envs st) (envs st') → IsNest c i cut ms0 st0 l ks ms st → IsNest c i cut ms0 st0 l ks ms st'
nest-grown c i cut ms0 st0 l [] (m ∷ ms) (o ∷ os) (p ∷ ps) g h = (h.0, h.1, h.2, h.3, listed-kept c m (env o (envs os)) (env p (envs ps)) l g.0.exports h.4, grown-on (envs st0) (envs os) (envs ps) h.5 g.1)
nest-grown c i cut ms0 st0 l (k ∷ ks) (m ∷ ms) (o ∷ os) (p ∷ ps) g h = (h.0, h.1, listed-kept c m (env o (envs os)) (env p (envs ps)) l g.0.exports h.2, h.3, nest-grown c i cut ms0 st0 k ks ms os ps g.1 h.4)
nest-grown c i cut ms0 st0 l [] [] st st' g h = absurd h
nest-grown c i cut ms0 st0 l (k ∷ ks) [] st st' g h = absurd h
nest-grown c i cut ms0 st0 l [] (m ∷ ms) [] st' g h = absurd h
nest-grown c i cut ms0 st0 l (k ∷ ks) (m ∷ ms) [] st' g h = absurd h
nest-grown c i cut ms0 st0 l [] (m ∷ ms) (o ∷ os) [] g h = absurd g
nest-grown c i cut ms0 st0 l (k ∷ ks) (m ∷ ms) (o ∷ os) [] g h = absurd g

-- A step that adds types anywhere keeps the levels.
pub goes-on : (c : Collection) (b : Bool) (i : InterfaceId) (cut : Bool) (old : State) (l : Level) (ks : List Level) (s t : State) → Nest c b i cut old l ks s → Goes c b s t → Nest c b i cut old l ks t
goes-on c b i cut old l ks s t h step = (
  levels-on c b (suc (length ks)) old s t h.0 step,
  (λ ms0 good0.
      let at = h.1 ms0 good0 in
      let on = step.onward at.0 at.1 in
      (at.0, on.0, nest-grown c i cut ms0 (stack b old) l ks at.0 (stack b s) (stack b t) on.1 at.2)),
  h.2,
)

-- One more item of a level is listed.

taken-one : (ps : List ℕ) (n p : ℕ) → slice_get ps n ≡ Some p → take (suc n) ps ≡ take n ps ++ p ∷ []
taken-one [] n p h = let no : None ≡ Some p = h in absurd (no-some p no)
  where
    no-some : (p : ℕ) → None ≡ Some p → ⊥
    no-some p h = cc
taken-one (q ∷ ps) zero p h = let is : Some q ≡ Some p = h in ap (λ (x : ℕ). x ∷ []) (the-same q p is)
  where
    the-same : (q p : ℕ) → Some q ≡ Some p → q ≡ p
    the-same q p h = cc
taken-one (q ∷ ps) (suc n) p h = ap (λ (xs : List ℕ). q ∷ xs) (taken-one ps n p h)

items-append : (es : List (Name × ItemKind)) (ps qs : List ℕ) → items_at es (ps ++ qs) ≡ items_at es ps ++ items_at es qs
items-append es [] qs = refl
items-append es (p ∷ ps) qs =
    let first = option_case (slice_get es p) [] (λ (e : Name × ItemKind). e ∷ []) in
    ap (λ (xs : List (Name × ItemKind)). first ++ xs) (items-append es ps qs) ∙ sym (append_assoc first (items_at es ps) (items_at es qs))

item-at : (es : List (Name × ItemKind)) (p : ℕ) (e : Name × ItemKind) → slice_get es p ≡ Some e → items_at es (p ∷ []) ≡ e ∷ []
item-at es p e h = ap (λ (o : Option (Name × ItemKind)). option_case o [] (λ (x : Name × ItemKind). x ∷ []) ++ []) h

pub one-more : (es : List (Name × ItemKind)) (ps : List ℕ) (n p : ℕ) (e : Name × ItemKind) → slice_get ps n ≡ Some p → slice_get es p ≡ Some e → items_at es (take (suc n) ps) ≡ items_at es (take n ps) ++ e ∷ []
one-more es ps n p e at is = ap (items_at es) (taken-one ps n p at) ∙ items-append es (take n ps) (p ∷ []) ∙ ap (λ (xs : List (Name × ItemKind)). items_at es (take n ps) ++ xs) (item-at es p e is)

-- A level is opened.

kept-same : (e : Scope) → Kept e e
kept-same e = record {
  keeps = record {
    core_types = λ i t at. at;
    types = λ i t at. at;
    instances = λ i t at. at;
    modules = omega arith;
    components = omega arith;
  };
  imports = refl;
  exports = refl;
}

grown-same : (es : List Scope) → Grown es es
grown-same [] = tt
grown-same (e ∷ es) = (kept-same e, grown-same es)

pub one-interface : (c : Collection) (i : InterfaceId) (it u : Interface) → item_at c.interfaces i.0 ≡ Some it → item_at c.interfaces i.0 ≡ Some u → it ≡ u
one-interface c i it u h g = let is : Some it ≡ Some u = sym h ∙ g in same-some it u is
  where
    same-some : (it u : Interface) → Some it ≡ Some u → it ≡ u
    same-some it u h = cc

opened-around : (c : Collection) (b : Bool) (it : Interface) (s t : State) → BeginsInterface c b it s t → outward b t.around.items ≡ stack b s
opened-around c b it s t g = ap (outward b) g.around ∙ outward-snoc b s.around.items s.here

none-after : (es : List (Name × ItemKind)) → es ++ [] ≡ es
none-after [] = refl
none-after (e ∷ es) = ap (λ (xs : List (Name × ItemKind)). e ∷ xs) (none-after es)

listed-own : (c : Collection) (it : Interface) (l : Level) → l.next ≡ 0 → listed_items c it l ≡ own_items c it.uses it.exports
listed-own c it l h = ap (λ (n : ℕ). own_items c it.uses it.exports ++ items_at it.exports (take n l.order.items)) h ∙ none-after (own_items c it.uses it.exports)

opened-inside : (c : Collection) (it : Interface) (mo : Bindings) (l : Level) → item_at c.interfaces l.interface.0 ≡ Some it → IsInsideLevel c (inside_interface c it mo) mo l
opened-inside c it mo l at = λ u there. ap (λ (x : Interface). inside_interface c x mo) (one-interface c l.interface it u at there)

opened-listed : (c : Collection) (b : Bool) (it : Interface) (s t : State) (ms : List Bindings) (l : Level) → item_at c.interfaces l.interface.0 ≡ Some it → l.next ≡ 0 → BeginsInterface c b it s t → Good c ms (stack b s)
    → HasListed c (inside_interface c it (top ms)) (env (opened b t.here) (envs (outward b t.around.items))) l
opened-listed c b it s t ms l at none g good = λ u there.
    let e = env (opened b t.here) (envs (outward b t.around.items)) in
    let m = inside_interface c it (top ms) in
    subst (λ (es : List (Name × ItemKind)). AreListed c m exported es e.exports) (sym (listed-own c it l none) ∙ ap (λ (x : Interface). listed_items c x l) (one-interface c l.interface it u at there)) (g.exports ms good)

pub nest-first : (c : Collection) (b cut : Bool) (it : Interface) (s t : State) (l : Level) → IsLevel c l → item_at c.interfaces l.interface.0 ≡ Some it → l.types_only ≡ cut → l.next ≡ 0 → BeginsInterface c b it s t → Nest c b l.interface cut s l [] t
nest-first c b cut it s t l is at same none g = (
  levels-first c b it s t g,
  (λ ms0 good0. (
    inside_interface c it (top ms0) ∷ ms0,
    g.good ms0 good0,
    (
      refl,
      same,
      refl,
      opened-inside c it (top ms0) l at,
      opened-listed c b it s t ms0 l at none g good0,
      subst (λ (st : Stack). Grown (envs (stack b s)) (envs st)) (sym (opened-around c b it s t g)) (grown-same (envs (stack b s))),
    ),
  )),
  (is, tt),
)

pub nest-inner : (c : Collection) (b cut : Bool) (i : InterfaceId) (it : Interface) (old s t : State) (k l : Level) (ks : List Level) → IsLevel c l → item_at c.interfaces l.interface.0 ≡ Some it → l.types_only ≡ false → l.next ≡ 0 → WaitsFor c k l.interface → BeginsInterface c b it s t → Nest c b i cut old k ks s → Nest c b i cut old l (k ∷ ks) t
nest-inner c b cut i it old s t k l ks is at whole none waits g h = (
  levels-inner c b (suc (length ks)) it old s t h.0 g,
  (λ ms0 good0.
      let under = h.1 ms0 good0 in (
        inside_interface c it (top under.0) ∷ under.0,
        g.good under.0 under.1,
        (
          whole,
          opened-inside c it (top under.0) l at,
          opened-listed c b it s t under.0 l at none g under.1,
          waits,
          subst (λ (st : Stack). IsNest c i cut ms0 (stack b old) k ks under.0 st) (sym (opened-around c b it s t g)) under.2,
        ),
      )),
  (is, h.2),
)

-- The next item of a level is exported.

level-following : (c : Collection) (l : Level) → IsLevel c l → IsLevel c (following l)
level-following c l is = record { it = is.it; interface = is.interface; names = is.names; each = is.each; once = is.once }

listed-more : (c : Collection) (n : Name) (kd : ItemKind) (l : Level) (x : IsNextItem c l n kd) → listed_items c x.it (following l) ≡ listed_items c x.it l ++ (n, kd) ∷ []
listed-more c n kd l x =
    let own = own_items c x.it.uses x.it.exports in
    ap (λ (es : List (Name × ItemKind)). own ++ es) (one-more x.it.exports l.order.items l.next x.position (n, kd) x.next x.item)
    ∙ sym (append_assoc own (items_at x.it.exports (take l.next l.order.items)) ((n, kd) ∷ []))

abbrev pub Added : Collection → Bool → Name → ItemKind → ℕ → Bindings → List Bindings → State → State → Type 0
Added c b n kd i m ms s t = (tree : Tree) × IsItem c m exported n kd tree × AddsTree c b exported n kd i m ms tree s t

-- The item is new in the scope, and is added.
pub added-next : (c : Collection) (b : Bool) (n : Name) (kd : ItemKind) (i : ℕ) (s t : State) (l : Level) (x : IsNextItem c l n kd) (m : Bindings) (ms : List Bindings) → find_name (listed_items c x.it l) n ≡ None
    → ((mo : Bindings) → binds_here c (inside_interface c x.it mo) exported (named n ∷ []) kd ≡ false) → AddsItem c b exported n kd s t i → Good c (m ∷ ms) (stack b s)
    → IsInsideLevel c m (top ms) l → HasListed c m (env (opened b s.here) (envs (outward b s.around.items))) l → Added c b n kd i m ms s t
added-next c b n kd i s t l x m ms unlisted here adds good inside has =
    let e = env (opened b s.here) (envs (outward b s.around.items)) in
    let none : e.exports n ≡ absent = subst (λ (o : Option ItemKind). IsUnder c m exported n o (e.exports n)) unlisted (has x.it x.interface n) in
    let free : IsFree (e.exports n) = subst IsFree (sym none) tt in
    let not_here : binds_here c m exported (named n ∷ []) kd ≡ false = subst (λ (y : Bindings). binds_here c y exported (named n ∷ []) kd ≡ false) (sym (inside x.it x.interface)) (here (top ms)) in
    adds m ms good free not_here

abbrev Exports : Collection → Bool → State → State → Level → Bindings → List Bindings → Type 0
Exports c b s t l m ms = Good c (m ∷ ms) (stack b t) × HasListed c m (env (opened b t.here) (envs (outward b t.around.items))) (following l) × Grown (envs (outward b s.around.items)) (envs (outward b t.around.items))

exports-next : ListsOneMore → (c : Collection) (b : Bool) (n : Name) (kd : ItemKind) (i : ℕ) (s t : State) (l : Level) (x : IsNextItem c l n kd) (m : Bindings) (ms : List Bindings) → find_name (listed_items c x.it l) n ≡ None
    → HasListed c m (env (opened b s.here) (envs (outward b s.around.items))) l → Added c b n kd i m ms s t → Exports c b s t l m ms
exports-next law c b n kd i s t l x m ms unlisted has step =
    let e = env (opened b s.here) (envs (outward b s.around.items)) in
    let f = env (opened b t.here) (envs (outward b t.around.items)) in
    let es = listed_items c x.it l in
    let more = law c m exported es e.exports n kd step.0 (has x.it x.interface) unlisted step.1 in
    let now : AreListed c m exported (es ++ (n, kd) ∷ []) f.exports = subst (λ (items : Name → Tree). AreListed c m exported (es ++ (n, kd) ∷ []) items) (sym step.2.this) more in (
      step.2.good,
      (λ u there. subst (λ (ys : List (Name × ItemKind)). AreListed c m exported ys f.exports) (sym (listed-more c n kd l x) ∙ ap (λ (y : Interface). listed_items c y (following l)) (one-interface c l.interface x.it u x.interface there)) now),
      step.2.around,
    )

nest-next : ListsOneMore → (c : Collection) (b cut : Bool) (i : InterfaceId) (ms0 : List Bindings) (st0 : Stack) (n : Name) (kd : ItemKind) (k : ℕ) (s t : State) (l : Level) (x : IsNextItem c l n kd) (ks : List Level) (ms : List Bindings) → find_name (listed_items c x.it l) n ≡ None
    → ((mo : Bindings) → binds_here c (inside_interface c x.it mo) exported (named n ∷ []) kd ≡ false) → AddsItem c b exported n kd s t k → Good c ms (stack b s)
    → IsNest c i cut ms0 st0 l ks ms (stack b s) → Good c ms (stack b t) × IsNest c i cut ms0 st0 (following l) ks ms (stack b t)
nest-next law c b cut i ms0 st0 n kd k s t l x [] (m ∷ ms) unlisted here adds good h =
    let r = exports-next law c b n kd k s t l x m ms unlisted h.4 (added-next c b n kd k s t l x m ms unlisted here adds good h.3 h.4) in
    (r.0, (h.0, h.1, h.2, h.3, r.1, grown-on (envs st0) (envs (outward b s.around.items)) (envs (outward b t.around.items)) h.5 r.2))
nest-next law c b cut i ms0 st0 n kd k s t l x (j ∷ ks) (m ∷ ms) unlisted here adds good h =
    let r = exports-next law c b n kd k s t l x m ms unlisted h.2 (added-next c b n kd k s t l x m ms unlisted here adds good h.1 h.2) in
    (r.0, (h.0, h.1, r.1, h.3, nest-grown c i cut ms0 st0 j ks ms (outward b s.around.items) (outward b t.around.items) r.2 h.4))
nest-next law c b cut i ms0 st0 n kd k s t l x [] [] unlisted here adds good h = absurd h
nest-next law c b cut i ms0 st0 n kd k s t l x (j ∷ ks) [] unlisted here adds good h = absurd h

pub nest-exported : ListsOneMore → (c : Collection) (b cut : Bool) (i : InterfaceId) (n : Name) (kd : ItemKind) (k : ℕ) (old s t : State) (l : Level) (x : IsNextItem c l n kd) (ks : List Level) → find_name (listed_items c x.it l) n ≡ None
    → ((mo : Bindings) → binds_here c (inside_interface c x.it mo) exported (named n ∷ []) kd ≡ false) → AddsItem c b exported n kd s t k → AddsBeside b exported n s t → Nest c b i cut old l ks s → Nest c b i cut old (following l) ks t
nest-exported law c b cut i n kd k old s t l x ks unlisted here adds beside h = (
  levels-exported b (suc (length ks)) n old s t h.0 beside,
  (λ ms0 good0.
      let at = h.1 ms0 good0 in
      let on = nest-next law c b cut i ms0 (stack b old) n kd k s t l x ks at.0 unlisted here adds at.1 at.2 in
      (at.0, on.0, on.1)),
  (level-following c l h.2.0, h.2.1),
)

-- An inner level is closed.

closed-nest : (c : Collection) (b cut : Bool) (i : InterfaceId) (ms0 : List Bindings) (st0 : Stack) (s t : State) (l k : Level) (ks : List Level) (x : ℕ) → Closes s t x → (ms : List Bindings) → Good c ms (stack b s) → IsNest c i cut ms0 st0 l (k ∷ ks) ms (stack b s)
    → (ns : List Bindings) × Good c ns (stack b t) × IsNest c i cut ms0 st0 k ks ns (stack b t)
closed-nest c b cut i ms0 st0 s t l k ks x closes (inner ∷ m ∷ ms) good h =
    let on = closes c b inner m ms good in
    (m ∷ ms, on.0.0, nest-grown c i cut ms0 st0 k ks (m ∷ ms) (outward b s.around.items) (stack b t) on.0.1 h.4)
closed-nest c b cut i ms0 st0 s t l k [] x closes (inner ∷ []) good h = absurd h.4
closed-nest c b cut i ms0 st0 s t l k (j ∷ ks) x closes (inner ∷ []) good h = absurd h.4
closed-nest c b cut i ms0 st0 s t l k ks x closes [] good h = absurd h

pub nest-closed : (c : Collection) (b cut : Bool) (i : InterfaceId) (old s t : State) (l k : Level) (ks : List Level) (x : ℕ) → Closes s t x → ClosesInto s t → Nest c b i cut old l (k ∷ ks) s → Nest c b i cut old k ks t
nest-closed c b cut i old s t l k ks x closes into h = (
  levels-closed b (length ks) old s t h.0 into,
  (λ ms0 good0.
      let at = h.1 ms0 good0 in
      closed-nest c b cut i ms0 (stack b old) s t l k ks x closes at.0 at.1 at.2),
  h.2.1,
)

-- The first level is closed.

ended-onward : (c : Collection) (b cut : Bool) (i : InterfaceId) (old s t : State) (l : Level) (x : ℕ) → Closes s t x → (ms0 : List Bindings) → Good c ms0 (stack b old) → (ms : List Bindings) → Good c ms (stack b s) → IsNest c i cut ms0 (stack b old) l [] ms (stack b s)
    → Onward c ms0 (stack b old) (stack b t)
ended-onward c b cut i old s t l x closes (m0 ∷ ms0) good0 (m ∷ ms) good h =
    let on = closes c b m m0 ms0 (subst (λ (xs : List Bindings). Good c (m ∷ xs) (stack b s)) h.2 good) in
    (on.0.0, grown-on (envs (stack b old)) (envs (outward b s.around.items)) (envs (stack b t)) h.5 on.0.1)
ended-onward c b cut i old s t l x closes [] good0 ms good h = absurd good0
ended-onward c b cut i old s t l x closes (m0 ∷ ms0) good0 [] good h = absurd h

pub nest-ended : (c : Collection) (b cut : Bool) (i : InterfaceId) (old s t : State) (l : Level) (x : ℕ) → Closes s t x → ClosesInto s t → Nest c b i cut old l [] s → Goes c b old t
nest-ended c b cut i old s t l x closes into h =
    let beside = levels-ended b old s t h.0 into in
    record {
      onward = λ ms0 good0. (let at = h.1 ms0 good0 in ended-onward c b cut i old s t l x closes ms0 good0 at.0 at.1 at.2);
      other = beside.1;
      types = beside.0;
    }
