-- What the imports of a merge cost.
use Rattle.std.proofs.Common.{ℕ, zero, suc, ◌+◌, ◌*◌, ◌^◌, ◌<◌, ◌≤◌, Bool, true, false, not, if◌then◌else◌, List, [], ◌∷◌, ◌++◌, length, take, Contains, Option, Some, None, ◌≡◌, inl, inr, refl, ap, sym, ◌∙◌, subst, arith, slice_get, add-one}
use Rattle.std.specs.Prelude.{Result, Ok, Err}
use Rattle.std.specs.List.{sum_by}
use Rattle.std.proofs.lemmas.List.Sums.{sum_by-cons, sum_by-take-le}
use Rattle.wac_types_shapes.specs.primitives.Name.{Name, option_case}
use Rattle.wac_types_shapes.specs.primitives.Tree.{Leaf}
use Rattle.wac_types_shapes.specs.shapes.Kinds.{kind_type}
use Rattle.wac_types_shapes.specs.declared.shapes.component.Interface.{Interface}
use Rattle.wac_types_shapes.specs.declared.shapes.component.InterfaceId.{InterfaceId}
use Rattle.wac_types_shapes.specs.declared.shapes.component.ItemKind.{ItemKind}
use Rattle.wac_types_shapes.specs.declared.shapes.component.ItemKind.TheVariants as kind
use Rattle.wac_types_shapes.specs.declared.shapes.component.ModuleTypeId.{ModuleTypeId}
use Rattle.wac_types_shapes.specs.declared.shapes.component.ResourceId.{ResourceId}
use Rattle.wac_types_shapes.specs.declared.shapes.component.ValueType.TheVariants as val
use Rattle.wac_types_shapes.specs.declared.shapes.component.«Type».{«Type» as AnyType}
use Rattle.wac_types_shapes.specs.declared.shapes.component.«Type».TheVariants as ty
use Rattle.wac_types_shapes.specs.declared.shapes.component.DefinedType.{DefinedType}
use Rattle.wac_types_shapes.specs.declared.shapes.component.FuncType.{FuncType}
use Rattle.wac_types_shapes.specs.declared.shapes.component.Resource.{Resource}
use Rattle.wac_types_shapes.specs.declared.shapes.component.ResourceAlias.{ResourceAlias}
use Rattle.wac_types_shapes.specs.declared.shapes.component.ValueType.{ValueType}
use Rattle.wac_types_collection.specs.collection.Collection.{Collection, IsWellFormed, holds_type, item_at, value_types, func_values, func_mentions, defined_values, defined_mentions, owner_types, alias_types, resource_mentions}
use Rattle.wac_types_collection.specs.reach.Reach.{mentions, IsIn}
use Rattle.wac_types_collection.proofs.lemmas.wide.Members.{in_none, in_parts, in_map, map_in, in_at, at_in}
use Rattle.wac_types_weight.specs.Weight.{own, named_part, named_parts, is_scope, near_all}
use Rattle.wac_types_weight.specs.Text.{own_text, own_texts, entry_weight, inner_weight, bare_weight, scope_weight}
use Rattle.wac_types_weight.specs.private.Laws.{IsNearClosed, Covers}
use Rattle.wac_types_weight.proofs.Sums.{sum_in, sum_same, sum_both, sum_scaled, sum_filter, sum_mapped, in_filter, filter_in, term_less}
use Rattle.wac_types_weight.proofs.Near.{to_contains, from_contains, near_holds, near-is-closed}
use Rattle.wac_types_weight.proofs.Scopes.{scope-weighs-its-parts, plain-has-none}
use Rattle.wac_merge_classes.specs.entries.Classes.{Entry}
use Rattle.wac_merge_classes.specs.terms.Merge.{Merged}
use Rattle.wac_merge_imports.specs.unions.Lighter.{name_weight, types_of}
use Rattle.wac_binary.specs.declared.fault.BinaryFault.{BinaryFault}
use Rattle.wac_binary.specs.declared.fault.BinaryFault.TheVariants.{TooLarge, OutOfMemory}
use Rattle.wac_encode_stacks.specs.Good.{Good}
use Rattle.wac_encode_stacks.specs.Scopes.{Content, declarations, root, Open, Stack}
use Rattle.wac_encode_scopes.specs.declared.encodable.Encodable.{Encodable}
use Rattle.wac_encode_scopes.specs.declared.encodable.Encodable.TheVariants.{Builder, Instance, Component}
use Rattle.wac_encode_scopes.specs.declared.scope.Scope.{Scope}
use Rattle.wac_encode_scopes.specs.declared.state.State.{State}
use Rattle.wac_encode_scopes.specs.Books.{opened}
use Rattle.wac_encode_scopes.specs.Contents.{content_of}
use Rattle.wac_encode_scopes.specs.Roots.{IsRoot}
use Rattle.wac_encode_scopes.specs.States.{outward, stack}
use Rattle.wac_encode_scopes.specs.private.Paid.{total, rate, IsPaid, HasNoRoom, too_large, too_deep, ArePriced, IsPriced, IsAnswerPaid, telling_cost, interface_cost}
use Rattle.wac_encode_scopes.proofs.Paying.{pays-up-to, no-room-up-to, pays-with-more, no-room-with-more, pays-at-most}
use Rattle.wac_encode_interfaces.specs.private.Paid.{import_type_cost}
use Rattle.wac_encode_imports.specs.private.Classes.{interface_of}
use Rattle.wac_encode_imports.specs.private.Small.{imports_cost, one_cost, near_imports, is_module, plain_imports, module_weight, modules_weight, all_modules, after_weight, AreFirstWithin}

-- ---- a stack of one scope
no-more : (c : Collection) (os : Stack) (o : Open) → Good c [] (os ++ o ∷ []) → ⊥
no-more c [] o good = good
no-more c (x ∷ os) o good = good

alone : (c : Collection) (b : Bool) (ss : List Scope) → Good c [] (outward b ss) → ss ≡ []
alone c b [] good = refl
alone c b (s ∷ ss) good = absurd (no-more c (outward b ss) (opened b s) good)

pub single-around : (c : Collection) (b : Bool) (s : State) → (m : ResourceId → Option Leaf) → Good c (m ∷ []) (stack b s) → s.around.items ≡ []
single-around c b s m good = alone c b s.around.items good.1

pub single-priced : (b : Bool) (s : State) → s.around.items ≡ [] → IsPriced b s
single-priced b s none = subst (λ ss. ArePriced b ss s.here.content) (sym none) tt

pub root-rate : (s : State) → IsRoot s.here.content → rate true (opened true s.here).content ≡ 34
root-rate s is = by s.here.content is
  where
    by : (x : Encodable) → IsRoot x → rate true (content_of x) ≡ 34
    by (Builder items) is = refl
    by (Instance ds) is = absurd is
    by (Component ds) is = absurd is

-- ---- near types of imports, without core modules
value-no-module : (vs : List ValueType) (u : AnyType) → IsIn u (value_types vs) → is_module u ≡ false
value-no-module [] u h = absurd h
value-no-module (v ∷ vs) u (inl e) = ap is_module e
value-no-module (v ∷ vs) u (inr h) = value-no-module vs u h

mentions-values : (c : Collection) (t : AnyType) → is_scope t ≡ false → (u : AnyType) → IsIn u (mentions c t) → is_module u ≡ false
mentions-values c (ty.Interface i) is u h = let no : true ≡ false = is in cc
mentions-values c (ty.World w) is u h = let no : true ≡ false = is in cc
mentions-values c (ty.Module k) is u h = absurd h
mentions-values c (ty.Value (val.Primitive p)) is u h = absurd h
mentions-values c (ty.Value (val.Borrow r)) is u (inl e) = ap is_module e
mentions-values c (ty.Value (val.Borrow r)) is u (inr h) = absurd h
mentions-values c (ty.Value (val.Own r)) is u (inl e) = ap is_module e
mentions-values c (ty.Value (val.Own r)) is u (inr h) = absurd h
mentions-values c (ty.Value (val.Defined d)) is u h = by (item_at c.defined d.0) h
  where
    by : (o : Option DefinedType) → IsIn u (option_case o [] defined_mentions) → is_module u ≡ false
    by None h = absurd h
    by (Some x) h = value-no-module (defined_values x) u h
mentions-values c (ty.Func f) is u h = by (item_at c.funcs f.0) h
  where
    by : (o : Option FuncType) → IsIn u (option_case o [] func_mentions) → is_module u ≡ false
    by None h = absurd h
    by (Some x) h = value-no-module (func_values x) u h
mentions-values c (ty.Resource r) is u h = by (item_at c.resources r.0) h
  where
    of_owner : (o : Option InterfaceId) → IsIn u (owner_types o) → is_module u ≡ false
    of_owner None h = absurd h
    of_owner (Some i) (inl e) = ap is_module e
    of_owner (Some i) (inr h) = absurd h

    of_alias : (a : Option ResourceAlias) → IsIn u (alias_types a) → is_module u ≡ false
    of_alias None h = absurd h
    of_alias (Some a) (inl e) = ap is_module e
    of_alias (Some a) (inr h) = of_owner a.owner h

    by : (o : Option Resource) → IsIn u (option_case o [] resource_mentions) → is_module u ≡ false
    by None h = absurd h
    by (Some x) h = of_alias x.alias h

near-plain : (c : Collection) (ts : List AnyType) (t : AnyType) → IsIn t (near_all c ts) → is_scope t ≡ false
near-plain c ts t h = near_holds c (λ u. is_scope u ≡ false) (λ u v w among is. is) ts (λ u w is. is) t h

not-true : (b : Bool) → not b ≡ true → b ≡ false
not-true true h = let no : false ≡ true = h in cc
not-true false h = refl

module _ (m : Merged) where
  plain-in : (t : AnyType) → IsIn t (plain_imports m) → IsIn t (near_imports m) × (is_module t ≡ false)
  plain-in t h =
      let (there, is) = filter_in (λ u. not (is_module u)) (near_imports m) t (to_contains t (plain_imports m) h) in
      (from_contains t (near_imports m) there, not-true (is_module t) is)

  in-plain : (t : AnyType) → IsIn t (near_imports m) → is_module t ≡ false → IsIn t (plain_imports m)
  in-plain t h is = from_contains t (plain_imports m) (in_filter (λ u. not (is_module u)) (near_imports m) t (to_contains t (near_imports m) h) (ap not is))

  import-in : (p : ℕ) (e : Entry) → slice_get m.imports p ≡ Some e → IsIn (kind_type e.kind) (types_of m.imports)
  import-in p e at = from_contains (kind_type e.kind) (types_of m.imports) (in_map (λ (x : Entry). kind_type x.kind) m.imports e (at_in m.imports p e at))

  pub covers-import : IsWellFormed m.types → (p : ℕ) (e : Entry) → slice_get m.imports p ≡ Some e → is_module (kind_type e.kind) ≡ false → Covers m.types (plain_imports m) (kind_type e.kind)
  covers-import wf p e at other =
      let near = near-is-closed m.types (types_of m.imports) wf (kind_type e.kind) (import-in p e at) in
      record { closed = closed near.closed; there = λ is. in-plain (kind_type e.kind) (near.there is) other }
    where
      closed : IsNearClosed m.types (near_imports m) → IsNearClosed m.types (plain_imports m)
      closed all t u h among is =
          let (near, not_module) = plain-in t h in
          in-plain u (all t u near among is) (mentions-values m.types t (near-plain m.types (types_of m.imports) t near) u among)

  pub module-in : IsWellFormed m.types → (p : ℕ) (e : Entry) (k : ModuleTypeId) → slice_get m.imports p ≡ Some e → e.kind ≡ kind.Module k → IsIn (ty.Module k) (near_imports m)
  module-in wf p e k at is = subst (λ t. IsIn t (near_imports m)) (ap kind_type is) ((near-is-closed m.types (types_of m.imports) wf (kind_type e.kind) (import-in p e at)).there (ap (λ x. is_scope (kind_type x)) is))

  -- ---- the weight of core modules
  module-less : (f g : ModuleTypeId → Option ℕ) → ((k : ModuleTypeId) (i : ℕ) → f k ≡ Some i → (j : ℕ) × (g k ≡ Some j)) → (t : AnyType) → module_weight m.types f t ≤ module_weight m.types g t
  module-less f g more (ty.Module k) = by (f k) refl
    where
      by : (o : Option ℕ) → f k ≡ o → option_case o 0 (λ i. own m.types (ty.Module k)) ≤ option_case (g k) 0 (λ i. own m.types (ty.Module k))
      by None is = omega arith
      by (Some i) is = let (j, there) = more k i is in let same = ap (λ o. option_case o 0 (λ x. own m.types (ty.Module k))) there in omega (arith, same)
  module-less f g more (ty.Resource r) = omega arith
  module-less f g more (ty.Func x) = omega arith
  module-less f g more (ty.Value v) = omega arith
  module-less f g more (ty.Interface i) = omega arith
  module-less f g more (ty.World w) = omega arith

  pub modules-all : (f : ModuleTypeId → Option ℕ) → modules_weight m f ≤ all_modules m
  modules-all f = sum_in (module_weight m.types f) (module_weight m.types (λ k. Some 0)) (near_imports m) (λ t h. module-less f (λ k. Some 0) (λ k i is. (0, refl)) t)

  sum-gain : (f g : AnyType → ℕ) (n : ℕ) (x : AnyType) (ts : List AnyType) → Contains ts x → ((t : AnyType) → f t ≤ g t) → f x + n ≤ g x → sum_by f ts + n ≤ sum_by g ts
  sum-gain f g n x [] h less gain = absurd (in_none x h)
  sum-gain f g n x (t ∷ ts) h less gain = elim (in_parts t x ts h) [
    | inl e ↦
        let rest = sum_in f g ts (λ u w. less u) in
        let here : f t + n ≤ g t = subst (λ z. f z + n ≤ g z) e gain in
        omega (arith, rest, here, sum_by-cons f t ts, sum_by-cons g t ts)
    | inr w ↦
        let rest = sum-gain f g n x ts w less gain in
        let here = less t in
        omega (arith, rest, here, sum_by-cons f t ts, sum_by-cons g t ts)
  ]

  -- a module type that is written now
  pub module-more : (f g : ModuleTypeId → Option ℕ) (k : ModuleTypeId) (i : ℕ) → IsIn (ty.Module k) (near_imports m) → ((j : ModuleTypeId) (n : ℕ) → f j ≡ Some n → (x : ℕ) × (g j ≡ Some x)) → g k ≡ Some i
      → modules_weight m f + option_case (f k) (own m.types (ty.Module k)) (λ j. 0) ≤ modules_weight m g
  module-more f g k i among more there =
      sum-gain (module_weight m.types f) (module_weight m.types g) (option_case (f k) (own m.types (ty.Module k)) (λ j. 0)) (ty.Module k) (near_imports m) (to_contains (ty.Module k) (near_imports m) among) (module-less f g more) (gain (f k))
    where
      gain : (o : Option ℕ) → option_case o 0 (λ j. own m.types (ty.Module k)) + option_case o (own m.types (ty.Module k)) (λ j. 0) ≤ module_weight m.types g (ty.Module k)
      gain None = let same = ap (λ o. option_case o 0 (λ x. own m.types (ty.Module k))) there in omega (arith, same)
      gain (Some j) = let same = ap (λ o. option_case o 0 (λ x. own m.types (ty.Module k))) there in omega (arith, same)

  -- plain types and core modules together are what is near
  near-parts : own_texts m.types (plain_imports m) + all_modules m ≡ own_texts m.types (near_imports m)
  near-parts =
      let kept = sum_filter (λ t. not (is_module t)) (own_text m.types) (near_imports m) in
      let both = sum_both (λ t. if not (is_module t) then own_text m.types t else 0) (module_weight m.types (λ k. Some 0)) (near_imports m) in
      let whole = sum_same (λ t. (if not (is_module t) then own_text m.types t else 0) + module_weight m.types (λ k. Some 0) t) (own_text m.types) (near_imports m) (λ t h. either t) in
      omega (arith, kept, both, whole)
    where
      either : (t : AnyType) → (if not (is_module t) then own_text m.types t else 0) + module_weight m.types (λ k. Some 0) t ≡ own_text m.types t
      either (ty.Module k) = omega arith
      either (ty.Resource r) = omega arith
      either (ty.Func x) = omega arith
      either (ty.Value v) = omega arith
      either (ty.Interface i) = omega arith
      either (ty.World w) = omega arith

  -- ---- the sum of all imports
  pub all-cost : sum_by (one_cost m.types) m.imports + 34 * own_texts m.types (near_imports m) ≡ imports_cost m
  all-cost =
      let es = m.imports in
      let a = sum_both (λ (e : Entry). 33 * name_weight e + 32 * entry_weight m.types (kind_type e.kind)) (λ e. 37 * bare_weight m.types (kind_type e.kind)) es in
      let b = sum_both (λ (e : Entry). 33 * name_weight e) (λ e. 32 * entry_weight m.types (kind_type e.kind)) es in
      let names = sum_scaled 33 name_weight es in
      let items = sum_scaled 32 (λ (e : Entry). entry_weight m.types (kind_type e.kind)) es in
      let inside = sum_scaled 37 (λ (e : Entry). bare_weight m.types (kind_type e.kind)) es in
      let x = sum_mapped (entry_weight m.types) (λ (e : Entry). kind_type e.kind) es in
      let y = sum_mapped (bare_weight m.types) (λ (e : Entry). kind_type e.kind) es in
      omega (arith, a, b, names, items, inside, x, y)

  next-cost : (p : ℕ) (e : Entry) → slice_get m.imports p ≡ Some e → sum_by (one_cost m.types) (take (p + 1) m.imports) ≡ sum_by (one_cost m.types) (take p m.imports) + one_cost m.types e
  next-cost p e at = ap (λ n. sum_by (one_cost m.types) (take n m.imports)) (add-one p) ∙ by m.imports p at
    where
      by : (es : List Entry) (q : ℕ) → slice_get es q ≡ Some e → sum_by (one_cost m.types) (take (suc q) es) ≡ sum_by (one_cost m.types) (take q es) + one_cost m.types e
      by [] q at = cc
      by (x ∷ es) zero at = let same : x ≡ e = cc in let cost = ap (one_cost m.types) same in omega (arith, cost, sum_by-cons (one_cost m.types) x [])
      by (x ∷ es) (suc q) at = let rest = by es q at in omega (arith, rest, sum_by-cons (one_cost m.types) x (take (suc q) es), sum_by-cons (one_cost m.types) x (take q es))

  -- ---- the loop
  pub within-next : (p : ℕ) (e : Entry) (cost : ℕ) (f g : ModuleTypeId → Option ℕ) (s t : State) → slice_get m.imports p ≡ Some e → AreFirstWithin m p f s → IsPaid m.types true (plain_imports m) cost s t
      → cost + 34 * modules_weight m f ≤ one_cost m.types e + 34 * modules_weight m g → AreFirstWithin m (p + 1) g t
  within-next p e cost f g s t at within paid less =
      let next = next-cost p e at in
      let pays = paid.pays in
      omega (arith, next, pays, within, less)

  pub within-end : (p : ℕ) (f : ModuleTypeId → Option ℕ) (s : State) → IsRoot s.here.content → AreFirstWithin m p f s → total m.types true s ≤ imports_cost m
  within-end p f s is within =
      let most = pays-at-most m.types true (plain_imports m) s in
      let whole = all-cost in
      let parts = near-parts in
      let modules = modules-all f in
      let taken = sum_by-take-le (one_cost m.types) m.imports p in
      let rated = ap (λ n. n * own_texts m.types (plain_imports m)) (root-rate s is) in
      omega (arith, most, whole, parts, modules, taken, within, rated)

  pub within-refused : (p : ℕ) (e : Entry) (cost : ℕ) (f : ModuleTypeId → Option ℕ) (s : State) → IsRoot s.here.content → s.around.items ≡ [] → slice_get m.imports p ≡ Some e → AreFirstWithin m p f s → HasNoRoom m.types true (plain_imports m) cost s
      → cost + 34 * modules_weight m f ≤ one_cost m.types e + 34 * all_modules m → 2 ^ 32 ≤ imports_cost m
  within-refused p e cost f s is none at within (too_large large) less =
      let next = next-cost p e at in
      let taken = sum_by-take-le (one_cost m.types) m.imports (p + 1) in
      let whole = all-cost in
      let parts = near-parts in
      let rated = ap (λ n. n * own_texts m.types (plain_imports m)) (root-rate s is) in
      omega (arith, large, next, taken, whole, parts, within, less, rated)
  within-refused p e cost f s is none at within (too_deep deep) less =
      let next = next-cost p e at in
      let taken = sum_by-take-le (one_cost m.types) m.imports (p + 1) in
      let whole = all-cost in
      let parts = near-parts in
      let no = ap length none in
      omega (arith, deep, next, taken, whole, parts, less, no)

  -- a world inside an import that does not fit
  pub heavy-import : IsWellFormed m.types → ((p : ℕ) (e : Entry) → slice_get m.imports p ≡ Some e → holds_type m.types (kind_type e.kind) ≡ true) → (t : AnyType) → IsIn t (types_of m.imports) → 2 ^ 32 ≤ 27 * scope_weight m.types t → 2 ^ 32 ≤ imports_cost m
  heavy-import wf held t among heavy =
      let (e, there, same) = map_in (λ (x : Entry). kind_type x.kind) m.imports t (to_contains t (types_of m.imports) among) in
      let (p, l, at) = there_at e there in
      let less = scope-cost e (held p e at) in
      let term = term_less (one_cost m.types) m.imports e there in
      let whole = all-cost in
      let weigh = ap (scope_weight m.types) same in
      omega (arith, heavy, less, term, whole, weigh)
    where
      there_at : (e : Entry) → Contains m.imports e → (p : ℕ) × (p < length m.imports) × (slice_get m.imports p ≡ Some e)
      there_at e there = in_at m.imports e there

      scope-cost : (e : Entry) → holds_type m.types (kind_type e.kind) ≡ true → 27 * scope_weight m.types (kind_type e.kind) ≤ one_cost m.types e
      scope-cost e held = by (is_scope (kind_type e.kind)) refl
        where
          by : (b : Bool) → is_scope (kind_type e.kind) ≡ b → 27 * scope_weight m.types (kind_type e.kind) ≤ one_cost m.types e
          by true is =
              let whole = scope-weighs-its-parts m.types (kind_type e.kind) wf held is in
              let bare : bare_weight m.types (kind_type e.kind) ≡ 1 + inner_weight m.types (kind_type e.kind) = ap (λ b. if b then 1 + inner_weight m.types (kind_type e.kind) else 0) is in
              omega (arith, whole, bare)
          by false is = let none = plain-has-none m.types (kind_type e.kind) is in omega (arith, none)

-- ---- what an import costs
pub up-to : {T : Type 0} (c : Collection) (b : Bool) (ts : List AnyType) (n k : ℕ) (s t : State) (r : Result T BinaryFault) → n ≤ k → IsAnswerPaid c b ts n s t r → IsAnswerPaid c b ts k s t r
up-to c b ts n k s t (Ok x) less paid = pays-up-to c b ts n k s t less paid
up-to c b ts n k s t (Err TooLarge) less paid = no-room-up-to c b ts n k s less paid
up-to c b ts n k s t (Err OutOfMemory) less paid = tt

pub with-more : {T : Type 0} (c : Collection) (b : Bool) (ts : List AnyType) (n : ℕ) (s t : State) (r : Result T BinaryFault) → IsAnswerPaid c b [] n s t r → IsAnswerPaid c b ts n s t r
with-more c b ts n s t (Ok x) paid = pays-with-more c b ts n s t paid
with-more c b ts n s t (Err TooLarge) paid = no-room-with-more c b ts n s paid
with-more c b ts n s t (Err OutOfMemory) paid = tt

pub other-cost : (c : Collection) (n : Name) (k : ItemKind) → interface_of k ≡ None → 20 + 2 * length n + import_type_cost c (kind_type k) ≤ one_cost c (record { name = n; kind = k })
other-cost c n (kind.Instance i) is = let no : Some i ≡ None = is in cc
other-cost c n (kind.TypeItem (ty.Resource r)) is = omega arith
other-cost c n (kind.TypeItem (ty.Func f)) is = omega arith
other-cost c n (kind.TypeItem (ty.Value v)) is = omega arith
other-cost c n (kind.TypeItem (ty.Interface i)) is = omega arith
other-cost c n (kind.TypeItem (ty.World w)) is = omega arith
other-cost c n (kind.TypeItem (ty.Module m)) is = omega arith
other-cost c n (kind.Func f) is = omega arith
other-cost c n (kind.Component w) is = omega arith
other-cost c n (kind.Module m) is = omega arith
other-cost c n (kind.Value v) is = omega arith

telling-less : (x : Content) (is : rate true x ≡ 34) (es : List (Name × ItemKind)) → telling_cost true x es ≤ 19 * named_parts es
telling-less (declarations ds) is es = let no : 27 ≡ 34 = is in absurd (omega (arith, no))
telling-less (root items) is es =
    let less = sum_in (λ (e : Name × ItemKind). 19 + 2 * length e.0) (λ e. 19 * named_part e) es (λ e h. one e) in
    let scaled = sum_scaled 19 (λ (e : Name × ItemKind). named_part e) es in
    omega (arith, less, scaled)
  where
    one : (e : Name × ItemKind) → 19 + 2 * length e.0 ≤ 19 * named_part e
    one e = omega arith

pub instance-cost : (c : Collection) (n : Name) (i : InterfaceId) (it : Interface) (s : State) → rate true (opened true s.here).content ≡ 34 → item_at c.interfaces i.0 ≡ Some it
    → (20 + 2 * length n + interface_cost c i) + telling_cost true (content_of s.here.content) it.exports ≤ one_cost c (record { name = n; kind = kind.Instance i })
instance-cost c n i it s is at =
    let less = telling-less (content_of s.here.content) is it.exports in
    let items : entry_weight c (ty.Interface i) ≡ named_parts it.exports = ap (λ o. named_parts (option_case o [] (λ (x : Interface). x.exports))) at in
    omega (arith, less, items)

pub fresh-cost : (c : Collection) (n : Name) (r : ResourceId) → 20 + 2 * length n ≤ one_cost c (record { name = n; kind = kind.TypeItem (ty.Resource r) })
fresh-cost c n r = omega arith

pub module-cost : (c : Collection) (n : Name) (k : ModuleTypeId) → 20 + 2 * length n ≤ one_cost c (record { name = n; kind = kind.Module k })
module-cost c n k = omega arith

-- ---- a module is written or not
pub after-least : {T : Type 0} (m : Merged) (f : ModuleTypeId → Option ℕ) (r : Result T BinaryFault) → modules_weight m f ≤ after_weight m f r
after-least m f (Ok x) = omega arith
after-least m f (Err e) = modules-all m f
