-- Open scopes into which types are written by hand.
use Rattle.std.specs.Prelude.{ℕ, zero, suc, ◌≡◌, ◌==◌, Bool, true, false, if◌then◌else◌, List, [], ◌∷◌, ◌++◌, map, take, Option, Some, None, slice_get, ◌<◌, length, Result, Ok, IfOk, OnOk, IfSome}
use Rattle.std.specs.List.{AllZip, AllByRecursion}
use Rattle.std.proofs.Common.{refl, ap, ◌∙◌, sym, subst, arith}
use Rattle.std.proofs.lemmas.Bool.{eqb-true}
use Rattle.wac_types_shapes.specs.primitives.Name.{Name, option_case}
use Rattle.wac_types_shapes.specs.declared.primitives.component.PrimitiveType.{PrimitiveType}
use Rattle.wac_types_shapes.specs.primitives.Tree.{imported, exported, Leaf, Tree, primitive, own, borrow, function, instance, type_equal, instance_item, items_in, moved}
use Rattle.wac_types_shapes.specs.declared.shapes.component.ResourceId.{ResourceId}
use Rattle.wac_types_shapes.specs.declared.shapes.component.DefinedTypeId.{DefinedTypeId}
use Rattle.wac_types_shapes.specs.declared.shapes.component.FuncTypeId.{FuncTypeId}
use Rattle.wac_types_shapes.specs.declared.shapes.component.FuncType.{FuncType}
use Rattle.wac_types_shapes.specs.declared.shapes.component.Interface.{Interface}
use Rattle.wac_types_shapes.specs.declared.shapes.component.InterfaceId.{InterfaceId}
use Rattle.wac_types_collection.specs.declared.collection.collection.Held.{Held}
use Rattle.wac_types_shapes.specs.declared.shapes.component.ItemKind.{ItemKind}
use Rattle.wac_types_shapes.specs.declared.shapes.component.ItemKind.TheVariants as kind
use Rattle.wac_types_shapes.specs.declared.shapes.component.ValueType.{ValueType}
use Rattle.wac_types_shapes.specs.declared.shapes.component.ValueType.TheVariants as val
use Rattle.wac_types_shapes.specs.declared.shapes.component.«Type».{«Type» as AnyType}
use Rattle.wac_types_shapes.specs.declared.shapes.component.«Type».TheVariants as ty
use Rattle.wac_types_collection.specs.collection.Collection.{Collection, IsWellFormed, HasDefined, HasFunc, HasInterface, holds_value, holds_type, item_at, seconds, and_maybe, func_values}
use Rattle.wac_types_collection.specs.collection.Held.{resolved, part_at, option_tree, func_tree}
use Rattle.wac_types_collection.specs.collection.Bound.{Bindings, own_name, inside_interface}
use Rattle.wac_binary.specs.declared.sorts.Description.{Description}
use Rattle.wac_binary.specs.declared.sorts.Description.TheVariants as desc
use Rattle.wac_binary.specs.declared.types.ComponentValType.TheVariants.{Index}
use Rattle.wac_binary.specs.Unfold.{Bound}
use Rattle.wac_binary.specs.declared.types.ComponentValType.{ComponentValType}
use Rattle.wac_binary.specs.Items.{TypeDef, Decl, Decls, next, decls, core_type_decl, type_decl, alias_decl, import_decl, export_decl, instance_def}
use Rattle.wac_binary.specs.HasMeaning.{IsValue, ImportNothing}
use Rattle.wac_encode_stacks.specs.Scopes.{Open, Stack}
use Rattle.wac_encode_stacks.specs.Good.{At, Good, Carries, IsHeld, Holds, nothing_bound, top, innermost}
use Rattle.wac_encode_stacks.specs.private.Brought.{GoodOnce}
use Rattle.wac_encode_stacks.specs.private.HeldParts.{HeldUnderMore, HoldsAll}
use Rattle.wac_encode_stacks.specs.Listed.{AreListed, IsUnder, IsItem}
use Rattle.wac_encode_stacks.specs.Instances.{Shows, position_of, taken_leaf}
use Rattle.wac_encode_stacks.proofs.Meant.{value-type}
use Rattle.wac_encode_stacks.proofs.Moved.{ap2, held-here, moved-func}
use Rattle.wac_encode_stacks.proofs.Values.{held_value, func-step, own-held, borrow-held, primitive-held}
use Rattle.wac_encode_scopes.specs.declared.closed.ClosedTypes.{ClosedTypes}
use Rattle.wac_encode_scopes.specs.declared.encodable.Encodable.{Encodable}
use Rattle.wac_encode_scopes.specs.declared.encodable.Encodable.TheVariants.{Builder, Instance, Component}
use Rattle.wac_encode_scopes.specs.declared.scope.Scope.{Scope}
use Rattle.wac_encode_scopes.specs.declared.state.State.{State}
use Rattle.wac_encode_scopes.specs.private.Closed.{AreClosedTypes, SaysClosed, is_closed_in}
use Rattle.wac_encode_scopes.specs.Contents.{AddsTypes, IsTypeDecl, HasSide, IsInstanceType, and_item, and_type, declarations_of}
use Rattle.wac_encode_scopes.specs.Books.{opened}
use Rattle.wac_encode_scopes.specs.private.Interfaces.{own_in, own_items, fresh_exports, BeginsInterface}
use Rattle.wac_encode_scopes.specs.private.Listing.{IsNonempty, Closes, ClosesInto}
use Rattle.wac_encode_scopes.specs.Roots.{IsRoot, items_of, ImportsItem, and_import}
use Rattle.wac_encode_scopes.specs.States.{outward, stack, AllAddTypes, Goes, IsTypeAt}
use Rattle.wac_encode_scopes.specs.private.Telling.{with_own_names, MayBind, TellsInstance}
use Rattle.wac_encode_scopes.proofs.Owned.{own-lists}
use Rattle.wac_encode_scopes.proofs.Added.{adds-both, adds-def}
use Rattle.wac_encode_values.specs.private.Values.{IsReady, IsWrittenAs}
use Rattle.wac_encode_tests.specs.private.Stacks.{AreGood, IsGoodRoot, HasNoImports, MayWrite, MayWriteAll, HasOnly}

-- instance types without imports

nothing-next : (d : Decl) (ds : Decls) → IsTypeDecl d → ImportNothing ds → ImportNothing (next d ds)
nothing-next (core_type_decl t) ds k h = h
nothing-next (type_decl t) ds k h = h
nothing-next (alias_decl a) ds k h = h
nothing-next (import_decl n d) ds k h = absurd k
nothing-next (export_decl n d) ds k h = absurd k

nothing-tail : (d : Decl) (ds es : Decls) → ImportNothing (next d ds) → (ImportNothing ds → ImportNothing es) → ImportNothing (next d es)
nothing-tail (core_type_decl t) ds es h f = f h
nothing-tail (type_decl t) ds es h f = f h
nothing-tail (alias_decl a) ds es h f = f h
nothing-tail (import_decl n d) ds es h f = absurd h
nothing-tail (export_decl n d) ds es h f = f h

nothing-more : (ds more : List Decl) → ImportNothing (decls ds) → ImportNothing (decls more) → ImportNothing (decls (ds ++ more))
nothing-more [] more h k = k
nothing-more (d ∷ ds) more h k = nothing-tail d (decls ds) (decls (ds ++ more)) h (λ x. nothing-more ds more x k)

nothing-types : (ds : List Decl) → AllByRecursion IsTypeDecl ds → ImportNothing (decls ds)
nothing-types [] h = tt
nothing-types (d ∷ ds) h = nothing-next d (decls ds) h.0 (nothing-types ds h.1)

nothing-fresh : (es : List (Name × ItemKind)) → ImportNothing (decls (fresh_exports es))
nothing-fresh [] = tt
nothing-fresh (e ∷ es) = nothing-fresh es

pub plain-fresh : (x : Encodable) (es : List (Name × ItemKind)) → x ≡ Instance (fresh_exports es) → HasNoImports x
plain-fresh x es is = subst HasNoImports (sym is) (nothing-fresh es)

pub plain-types : (x y : Encodable) → AddsTypes x y → HasNoImports x → HasNoImports y
plain-types (Instance xs) (Instance ys) a h = subst (λ (ds : List Decl). ImportNothing (decls ds)) (sym a.1) (nothing-more xs a.0 h (nothing-types a.0 a.2))
plain-types (Instance xs) (Builder ys) a h = absurd a
plain-types (Instance xs) (Component ys) a h = absurd a
plain-types (Builder xs) y a h = absurd h
plain-types (Component xs) y a h = absurd h

item-plain : (x : Encodable) (n : Name) (d : Description) → HasNoImports x → HasNoImports (and_item exported n d x)
item-plain (Instance ds) n d h = nothing-more ds (export_decl n d ∷ []) h tt
item-plain (Builder xs) n d h = absurd h
item-plain (Component xs) n d h = absurd h

pub plain-item : (x y : Encodable) (n : Name) (d : Description) → y ≡ and_item exported n d x → HasNoImports x → HasNoImports y
plain-item x y n d is h = subst HasNoImports (sym is) (item-plain x n d h)

pub plain-side : (x : Encodable) → HasNoImports x → HasSide exported x
plain-side (Instance ds) h = tt
plain-side (Builder xs) h = absurd h
plain-side (Component xs) h = absurd h

pub plain-instance : (x : Encodable) → HasNoImports x → IsInstanceType x
plain-instance (Instance ds) h = tt
plain-instance (Builder xs) h = absurd h
plain-instance (Component xs) h = absurd h

pub plain-imports : (x : Encodable) → HasNoImports x → ImportNothing (decls (declarations_of x))
plain-imports (Instance ds) h = h
plain-imports (Builder xs) h = absurd h
plain-imports (Component xs) h = absurd h

-- the root

pub root-types : (x y : Encodable) → AddsTypes x y → IsRoot x → IsRoot y
root-types (Builder xs) (Builder ys) h r = tt
root-types (Builder xs) (Instance ys) h r = absurd h
root-types (Builder xs) (Component ys) h r = absurd h
root-types (Instance xs) y h r = absurd r
root-types (Component xs) y h r = absurd r

pub root-import : (x y : Encodable) (n : Name) (d : Description) → y ≡ and_import n d x → IsRoot y
root-import x y n d is = subst IsRoot (sym is) tt

-- the scopes around one that is opened and closed again

abbrev Added : Scope → Scope → Type 0
Added s t = AddsTypes s.content t.content

none-added : (ys : List Scope) → AllZip Added [] ys → ys ≡ []
none-added [] h = refl
none-added (y ∷ ys) h = absurd h

pub bottom-types : (s t : State) → AllAddTypes s t → s.around.items ≡ [] → t.around.items ≡ []
bottom-types s t h is = none-added t.around.items (subst (λ (xs : List Scope). AllZip Added xs t.around.items) is h.1)

none-before : (ys : List Scope) (y : Scope) → AllZip Added [] (ys ++ y ∷ []) → ⊥
none-before [] y h = h
none-before (z ∷ zs) y h = h

none-after : (xs : List Scope) (x : Scope) → AllZip Added (xs ++ x ∷ []) [] → ⊥
none-after [] x h = h
none-after (w ∷ ws) x h = h

zip-last : (xs : List Scope) (x : Scope) (ys : List Scope) (y : Scope) → AllZip Added (xs ++ x ∷ []) (ys ++ y ∷ []) → AllZip Added xs ys × Added x y
zip-last [] x [] y h = (tt, h.0)
zip-last [] x (z ∷ zs) y h = absurd (none-before zs y h.1)
zip-last (w ∷ ws) x [] y h = absurd (none-after ws x h.1)
zip-last (w ∷ ws) x (z ∷ zs) y h = let rest = zip-last ws x zs y h.1 in ((h.0, rest.0), rest.1)

nonempty-zip : (xs : List Scope) (x : Scope) (zs : List Scope) → AllZip Added (xs ++ x ∷ []) zs → IsNonempty zs
nonempty-zip xs x [] h = absurd (none-after xs x h)
nonempty-zip xs x (z ∷ zs) h = tt

module _ (s s1 s2 s3 : State) (around : s1.around.items ≡ s.around.items ++ s.here ∷ []) (adds : AllAddTypes s1 s2) (same : s3.around ≡ s2.around) where
  zipped : AllZip Added (s.around.items ++ s.here ∷ []) s3.around.items
  zipped = subst (λ (zs : List Scope). AllZip Added zs s3.around.items) around (subst (λ (zs : List Scope). AllZip Added s1.around.items zs) (λ i. (sym same i).items) adds.1)

  pub nonempty-around : IsNonempty s3.around.items
  nonempty-around = nonempty-zip s.around.items s.here s3.around.items zipped

  pub closed-again : (t : State) → ClosesInto s3 t → AllAddTypes s t
  closed-again t closes =
      let both = zip-last s.around.items s.here t.around.items closes.0 (subst (λ (zs : List Scope). AllZip Added (s.around.items ++ s.here ∷ []) zs) closes.1 zipped) in
      let def : TypeDef = instance_def (decls (declarations_of s3.here.content)) in
      (subst (AddsTypes s.here.content) (sym (ap (λ (x : Scope). x.content) closes.2)) (adds-both s.here.content closes.0.content (and_type def closes.0.content) both.1 (adds-def def closes.0.content)), both.0)

-- what may be written

pub may-primitive : (c : Collection) (s : State) (p : PrimitiveType) → MayWrite c s (ty.Value (val.Primitive p))
may-primitive c s p ms g = (primitive p, primitive-held c (top ms) p)

abbrev pub BindsTop : State → ResourceId → Type 0
BindsTop s r = (c : Collection) (ms : List Bindings) → Good c ms (stack true s) → (l : Leaf) × (top ms r ≡ Some l)

pub may-own : (c : Collection) (s : State) (r e : ResourceId) → e ≡ resolved c r → BindsTop s e → MayWrite c s (ty.Value (val.Own r))
may-own c s r e is h ms g = let b = h c ms g in (own b.0, own-held c (top ms) r b.0 (ap (top ms) (sym is) ∙ b.1))

pub may-borrow : (c : Collection) (s : State) (r e : ResourceId) → e ≡ resolved c r → BindsTop s e → MayWrite c s (ty.Value (val.Borrow r))
may-borrow c s r e is h ms g = let b = h c ms g in (borrow b.0, borrow-held c (top ms) r b.0 (ap (top ms) (sym is) ∙ b.1))

pub may-closed : HeldUnderMore → (c : Collection) (x : ClosedTypes) (s : State) (d : DefinedTypeId) → AreClosedTypes c x → holds_value c (val.Defined d) ≡ true → is_closed_in x d ≡ true → MayWrite c s (ty.Value (val.Defined d))
may-closed law c x s d closed held is ms g =
    let within : HasDefined c d = grind (arith, held) in
    let tree = subst (SaysClosed c d) is (closed d within) in
    (tree.0, law c nothing_bound (top ms) (ty.Value (val.Defined d)) tree.0 (λ r l e. let no_some : None ≡ Some l = e in cc) tree.1)

all-moved : (c : Collection) (m m' : Bindings) (f : Leaf → Leaf) → Carries f m m' → (vs : List ValueType) → HoldsAll c m vs → AllByRecursion (λ v. held_value c m' v ≡ moved f (held_value c m v)) vs
all-moved c m m' f k [] h = tt
all-moved c m m' f k (v ∷ vs) h = (h.0.1 f m' k ∙ ap (moved f) (sym (held-here c m (ty.Value v) h.0.0 h.0.1)), all-moved c m m' f k vs h.1)

module _ (g h : ValueType → Tree) where
  params-same : (ps : List (Name × ValueType)) → AllByRecursion (λ v. g v ≡ h v) (seconds ps) → map (λ p. g p.1) ps ≡ map (λ p. h p.1) ps
  params-same [] e = refl
  params-same (p ∷ ps) e = ap2 (λ (t : Tree) (ts : List Tree). t ∷ ts) e.0 (params-same ps e.1)

  result-same : (o : Option ValueType) (vs : List ValueType) → AllByRecursion (λ v. g v ≡ h v) (and_maybe o vs) → (option_tree g o ≡ option_tree h o) × AllByRecursion (λ v. g v ≡ h v) vs
  result-same None vs e = (refl, e)
  result-same (Some v) vs e = (e.0, e.1)

  func-same : (x : FuncType) → AllByRecursion (λ v. g v ≡ h v) (func_values x) → func_tree g x ≡ func_tree h x
  func-same x e =
      let both = result-same x.result (seconds x.params) e in
      ap2 (λ (ts : List Tree) (t : Tree). function x.is_async (map (λ p. p.0) x.params) (part_at ts) t) (params-same x.params both.1) both.0

holds-func : (c : Collection) → IsWellFormed c → (m : Bindings) (f : FuncTypeId) (x : FuncType) → item_at c.funcs f.0 ≡ Some x → HoldsAll c m (func_values x) → Holds c m (ty.Func f)
holds-func c wf m f x at h = (
  func_tree (held_value c m) x,
  λ g m' k. func-step c wf f x at m' ∙ func-same (held_value c m') (λ v. moved g (held_value c m v)) x (all-moved c m m' g k (func_values x) h) ∙ sym (moved-func g (held_value c m) (λ v. moved g (held_value c m v)) x (λ v. refl)),
)

and-result : (c : Collection) (s : State) (ms : List Bindings) → Good c ms (stack true s) → (o : Option ValueType) (vs : List ValueType) → IfSome o (λ v. MayWrite c s (ty.Value v)) → HoldsAll c (top ms) vs → HoldsAll c (top ms) (and_maybe o vs)
and-result c s ms g None vs h all = all
and-result c s ms g (Some v) vs h all = (h ms g, all)

pub may-func : (c : Collection) → IsWellFormed c → (s : State) (f : FuncTypeId) (x : FuncType) → item_at c.funcs f.0 ≡ Some x → IfSome x.result (λ v. MayWrite c s (ty.Value v)) → MayWriteAll c s x.params → MayWrite c s (ty.Func f)
may-func c wf s f x at outcome params ms g = holds-func c wf (top ms) f x at (and-result c s ms g x.result (seconds x.params) outcome (params ms g))

take-more : (P : ValueType → Type 0) (ps : List (Name × ValueType)) (i : ℕ) (x : Name × ValueType) → slice_get ps i ≡ Some x → AllByRecursion P (seconds (take i ps)) → P x.1 → AllByRecursion P (seconds (take (suc i) ps))
take-more P [] i x at h p = let no : None ≡ Some x = at in cc
take-more P (y ∷ ys) zero x at h p = (subst (λ (z : Name × ValueType). P z.1) (some-is x y at) p, tt)
  where
    some-is : (x y : Name × ValueType) → Some y ≡ Some x → x ≡ y
    some-is x y q = cc
take-more P (y ∷ ys) (suc i) x at h p = (h.0, take-more P ys i x at h.1 p)

pub may-next : (c : Collection) (s : State) (ps : List (Name × ValueType)) (i j : ℕ) (x : Name × ValueType) → j ≡ suc i → slice_get ps i ≡ Some x → MayWriteAll c s (take i ps) → MayWrite c s (ty.Value x.1) → MayWriteAll c s (take j ps)
may-next c s ps i j x is at h p ms g = subst (λ (k : ℕ). HoldsAll c (top ms) (seconds (take k ps))) (sym is) (take-more (λ v. Holds c (top ms) (ty.Value v)) ps i x at (h ms g) (p ms g))

pub may-none : (c : Collection) (s : State) (ps : List (Name × ValueType)) → MayWriteAll c s (take 0 ps)
may-none c s [] ms g = tt
may-none c s (p ∷ ps) ms g = tt

-- what is written

pub ready : (c u : Collection) (b : Bool) (s : State) (a : AnyType) → u ≡ c → b ≡ true → AreGood c s → MayWrite c s a → IsReady u b s a
ready c u b s a p q g may = subst (λ (k : Collection). IsReady k b s a) (sym p) (subst (λ (d : Bool). IsReady c d s a) (sym q) (g.0, g.1, may g.0 g.1))

pub closed-as : (c u : Collection) (x y : ClosedTypes) → u ≡ c → y ≡ x → AreClosedTypes c x → AreClosedTypes u y
closed-as c u x y p q h = subst (λ (k : Collection). AreClosedTypes k y) (sym p) (subst (λ (z : ClosedTypes). AreClosedTypes c z) (sym q) h)

pub good-on : (c u : Collection) (b : Bool) (s t : State) → u ≡ c → b ≡ true → Goes u b s t → AreGood c s → AreGood c t
good-on c u b s t p q h g = (g.0, ((subst (λ (k : Collection). Goes k true s t) p (subst (λ (d : Bool). Goes u d s t) q h)).onward g.0 g.1).0)

pub written-as : (c u : Collection) (b : Bool) (s : State) (v : ValueType) (x : ComponentValType) → u ≡ c → b ≡ true → IsWrittenAs u b s v x → IsWrittenAs c true s v x
written-as c u b s v x p q h = subst (λ (k : Collection). IsWrittenAs k true s v x) p (subst (λ (d : Bool). IsWrittenAs u d s v x) q h)

pub good-open : (c : Collection) (it : Interface) (s t : State) → BeginsInterface c true it s t → AreGood c s → AreGood c t
good-open c it s t begins g = (inside_interface c it (top g.0) ∷ g.0, begins.good g.0 g.1)

-- a definition that the root imports

pub named-good : GoodOnce → (c : Collection) (s t u : State) (v : ValueType) (i k : ℕ) (ms : List Bindings) → Good c ms (stack true s) → IsWrittenAs c true s v (Index i) → ImportsItem (desc.Equal i) s t k → (IsTypeAt c true t (ty.Value v) k → Goes c true t u) → AreGood c u
named-good once c s t u v i k [] g w imports records = absurd g
named-good once c s t u v i k (m ∷ ms) g w imports records =
    let is = w (m ∷ ms) g in
    let step = imports c true m ms (type_equal is.0) g (value-type is.0 is.2.1, is.2.0) in
    let at : IsTypeAt c true t (ty.Value v) k = λ ns h. subst (λ (ls : List Bindings). (x : Tree) × IsHeld c (top ls) (ty.Value v) x × IsValue x × At ((innermost (stack true t)).types) k x) (once c (m ∷ ms) ns (stack true t) step.0.0 h) (is.0, is.1, is.2.1, step.1) in
    (m ∷ ms, ((records at).onward (m ∷ ms) step.0.0).0)

-- a resource that an instance exports

pub own-only : (c : Collection) (it : Interface) (r : ResourceId) → HasOnly c it r → own_items c it.uses it.exports ≡ it.exports
own-only c it r h =
    let x : Name × ItemKind = (h.0, h.1) in
    ap (own_items c it.uses) h.2 ∙ ap (λ (o : Option ResourceId). option_case o [] (λ q. x ∷ []) ++ []) h.3 ∙ sym h.2

is-first : (b : Bool) (n k : Name) → (if b then Some n else None) ≡ Some k → b ≡ true
is-first true n k h = refl
is-first false n k h = let no : None ≡ Some k = h in cc

only-one : (c : Collection) (it : Interface) (r q : ResourceId) (n : Name) → HasOnly c it r → own_name c it.uses it.exports q ≡ Some n → r ≡ q
only-one c it r q n h named =
    let one : own_name c it.uses ((h.0, h.1) ∷ []) q ≡ Some n = subst (λ (es : List (Name × ItemKind)). own_name c it.uses es q ≡ Some n) h.2 named in
    let number : (r.0 == q.0) ≡ true = is-first (r.0 == q.0) h.0 n (ap (λ b. if b then Some h.0 else None) (sym (own-lists c it.uses h.0 h.1 r h.3 q)) ∙ one) in
    ap (λ i. record { 0 = i }) (eqb-true r.0 q.0 number)

only-entry : (xs : List (Name × ItemKind)) (x : Name × ItemKind) → length xs ≡ 1 → slice_get xs 0 ≡ Some x → xs ≡ x ∷ []
only-entry [] x len at = let no : None ≡ Some x = at in cc
only-entry (y ∷ []) x len at = let same : y ≡ x = some-is y x at in ap (λ z. z ∷ []) same
  where
    some-is : (y x : Name × ItemKind) → Some y ≡ Some x → y ≡ x
    some-is y x q = cc
only-entry (y ∷ z ∷ zs) x len at = absurd (omega (arith, len))

pub has-only : (c : Collection) (it : Interface) (n : Name) (k : ItemKind) (o : Option ResourceId) → length it.exports ≡ 1 → slice_get it.exports 0 ≡ Some (n, k) → o ≡ own_in c it.uses (n, k) → IfSome o (HasOnly c it)
has-only c it n k None len at is = tt
has-only c it n k (Some r) len at is = (n, k, only-entry it.exports (n, k) len at, sym is)

shows-only : (c : Collection) (it : Interface) (m : Bindings) (r : ResourceId) (items : Name → Tree) (b : Bound) → HasOnly c it r → AreListed c (inside_interface c it m) exported (own_items c it.uses it.exports) items → b.type ≡ instance items → Shows c m it b
shows-only c it m r items b only listed is n a found =
    let all : AreListed c (inside_interface c it m) exported it.exports items = subst (λ (es : List (Name × ItemKind)). AreListed c (inside_interface c it m) exported es items) (own-only c it r only) listed in
    let here = subst (λ (o : Option ItemKind). IsUnder c (inside_interface c it m) exported n o (items n)) found (all n) in
    subst (λ (t : Tree). IsItem c (inside_interface c it m) exported n (kind.TypeItem a) (items_in t n)) (sym is) here

no-more : (c : Collection) (ms : List Bindings) → Good c ms [] → ms ≡ []
no-more c [] g = refl
no-more c (m ∷ ms) g = absurd g

pub owner-good : (c : Collection) (it : Interface) (r : ResourceId) (test : ResourceId → Bool) (s t u v w : State) (k j : ℕ) (ms : List Bindings)
    → HasOnly c it r → s.around.items ≡ [] → ((d : Collection) (ns : List Bindings) → Good d ns (stack true s) → top ns r ≡ None) → BeginsInterface c true it s t → Closes t u k → ImportsItem (desc.Instance k) u v j → TellsInstance c true it test j v w
    → Good c ms (stack true s) → AreGood c w
owner-good c it r test s t u v w k j [] only bottom unbound begins closes imports tells g = absurd g
owner-good c it r test s t u v w k j (m ∷ ms) only bottom unbound begins closes imports tells g =
    let items = (innermost (stack true t)).exports in
    let x : Bound = record { type = instance items; side = imported; path = position_of (items_of u.here.content) ∷ [] } in
    let closed = closes c true (inside_interface c it m) m ms (begins.good (m ∷ ms) g) in
    let step = imports c true m ms (instance_item (instance items)) closed.0.0 (tt, closed.1) in
    let none : ms ≡ [] = no-more c ms (subst (λ (ss : List Scope). Good c ms (outward true ss)) bottom g.1) in
    let free : MayBind c it test m ms = λ q n passes named. (subst (λ (y : ResourceId). m y ≡ None) (only-one c it r q n only named) (unbound c (m ∷ ms) g), none) in
    let told = tells m ms x step.0.0 step.1 (shows-only c it m r items x only (begins.exports (m ∷ ms) g) refl) free in
    (with_own_names c it.uses it.exports test (taken_leaf x) m ∷ ms, told.0)

-- results that are in order

pub on-ok-is : {T E P : Type 0} → (r : Result T E) (x : T) → r ≡ Ok x → OnOk r P → P
on-ok-is {T} {E} {P} r x is h = subst (λ (q : Result T E). OnOk q P) is h

pub if-ok-is : {T E : Type 0} (Q : T → Type 0) (r : Result T E) (x : T) → r ≡ Ok x → IfOk r Q → Q x
if-ok-is {T} {E} Q r x is h = subst (λ (q : Result T E). IfOk q Q) is h

pub if-some-is : {T : Type 0} (Q : T → Type 0) (o : Option T) (x : T) → o ≡ Some x → IfSome o Q → Q x
if-some-is {T} Q o x is h = subst (λ (q : Option T). IfSome q Q) is h

-- an id in range has an item

item-there : {A : Type 0} (xs : List (Held A)) (i : ℕ) → i < length xs → (x : A) × (item_at xs i ≡ Some x)
item-there [] i lt = absurd (omega (arith, lt))
item-there (x ∷ xs) zero lt = (x.item, refl)
item-there (x ∷ xs) (suc i) lt = item-there xs i (omega (arith, lt))

pub interface-there : (c : Collection) (i : InterfaceId) → holds_type c (ty.Interface i) ≡ true → HasInterface c i
interface-there c i h = grind (arith, h)

pub interface-at : (c : Collection) (i : InterfaceId) → HasInterface c i → (it : Interface) × (item_at c.interfaces i.0 ≡ Some it)
interface-at c i h = item-there c.interfaces i.0 h

-- the root, when a step is done

never : (c : Collection) (xs : Stack) (x : Open) → Good c [] (xs ++ x ∷ []) → ⊥
never c [] x g = g
never c (y ∷ ys) x g = g

no-scopes : (c : Collection) (ss : List Scope) → Good c [] (outward true ss) → ss ≡ []
no-scopes c [] g = refl
no-scopes c (s ∷ ss) g = absurd (never c (outward true ss) (opened true s) g)

pub right-root : (c : Collection) (s : State) → Good c (nothing_bound ∷ []) (stack true s) → s.here.content ≡ Builder [] → IsGoodRoot c s
right-root c s g is = record {
  good = (nothing_bound ∷ [], g);
  root = subst IsRoot (sym is) tt;
  bottom = no-scopes c s.around.items g.1;
}

pub right-types : (c : Collection) (s t : State) → IsGoodRoot c s → AreGood c t → AllAddTypes s t → IsGoodRoot c t
right-types c s t right g types = record {
  good = g;
  root = root-types s.here.content t.here.content types.0 right.root;
  bottom = bottom-types s t types right.bottom;
}

-- after an import, and types alone
pub right-import : (c : Collection) (s t u v : State) (n : Name) (d : Description) → s.around.items ≡ [] → AllAddTypes s t → u.here.content ≡ and_import n d t.here.content → u.around ≡ t.around → AllAddTypes u v → AreGood c v → IsGoodRoot c v
right-import c s t u v n d bottom types is same more g =
    let items : u.around.items ≡ t.around.items = λ i. (same i).items in
    record {
      good = g;
      root = root-types u.here.content v.here.content more.0 (root-import t.here.content u.here.content n d is);
      bottom = bottom-types u v more (items ∙ bottom-types s t types bottom);
    }

pub func-there : (c : Collection) (i : FuncTypeId) → holds_type c (ty.Func i) ≡ true → HasFunc c i
func-there c i h = grind (arith, h)
