-- The root is good after each record of what an import is for the entries' types.
use Rattle.std.proofs.Common.{ℕ, ◌≡◌, ◌<◌, ◌≤◌, ◌+◌, Bool, true, false, if◌then◌else◌, [], ◌∷◌, Option, Some, None, refl, ap, sym, ◌∙◌, subst, inl, inr, arith}
use Rattle.std.specs.Prelude.{◌==◌, nat_lt}
use Rattle.std.proofs.Math.Path.{fun_ext}
use Rattle.std.proofs.lemmas.Bool.{cases_lt, eqb-true, eq-eqb}
use Rattle.wac_types_shapes.specs.primitives.Tree.{Leaf, Tree, resource}
use Rattle.wac_types_shapes.specs.declared.shapes.component.DefinedTypeId.{DefinedTypeId}
use Rattle.wac_types_shapes.specs.declared.shapes.component.ResourceId.{ResourceId}
use Rattle.wac_types_shapes.specs.declared.shapes.component.ValueType.TheVariants as val
use Rattle.wac_types_shapes.specs.declared.shapes.component.«Type».TheVariants as ty
use Rattle.wac_types_collection.specs.collection.Collection.{Collection}
use Rattle.wac_types_collection.specs.collection.Bound.{Bindings}
use Rattle.wac_binary.specs.HasMeaning.{IsValue}
use Rattle.wac_encode_stacks.specs.Good.{Good, GoodScope, IsHeld, Stands, innermost, nothing_bound}
use Rattle.wac_encode_stacks.specs.Listed.{calling}
use Rattle.wac_encode_stacks.specs.Scopes.{Open, Stack, Where, at_type, bind_at, envs, export_at, index_at, listed, scope_of}
use Rattle.wac_encode_stacks.proofs.Steps.{good-called, good-export_at, good-index_at, id-equal}
use Rattle.wac_encode_scopes.specs.declared.state.State.{State}
use Rattle.wac_encode_scopes.specs.Books.{opened}
use Rattle.wac_encode_scopes.specs.Contents.{content_of}
use Rattle.wac_encode_scopes.specs.States.{RecordsHere, outward, stack}
use Rattle.wac_encode_imports.specs.private.Told.{and_bound, bound_below, ChangesRecords}

-- changes of records

pub none-changed : (s : State) → ChangesRecords s s
none-changed s = record { change = λ o. o; records = record { here = refl; other = refl; content = refl; around = refl } }

pub one-changed : (f : Open → Open) (old new : State) → RecordsHere false f old new → ChangesRecords old new
one-changed f old new r = record { change = f; records = r }

pub then-changed : (a b d : State) → ChangesRecords a b → ChangesRecords b d → ChangesRecords a d
then-changed a b d x y = record {
  change = λ o. y.change (x.change o);
  records = record {
    here = (y.records).here ∙ ap y.change (x.records).here;
    other = (y.records).other ∙ (x.records).other;
    content = (y.records).content ∙ (x.records).content;
    around = (y.records).around ∙ (x.records).around;
  };
}

-- Indexes refer to what they did.
pub same-scope : (old new : State) → ChangesRecords old new → innermost (stack false new) ≡ innermost (stack false old)
same-scope old new x =
    let content = (x.records).content in
    let around = (x.records).around in
    λ i. scope_of (content_of (content i)) (envs (outward false ((around i).items)))

changed-stack : (f : Open → Open) (old new : State) → RecordsHere false f old new → stack false new ≡ f (opened false old.here) ∷ outward false old.around.items
changed-stack f old new r =
    let here = r.here in
    let around = r.around in
    λ i. here i ∷ outward false ((around i).items)

-- one more record

module _ (c : Collection) (m : Bindings) (old new : State) (good : Good c (m ∷ []) (stack false old)) where
  abbrev o : Open
  o = opened false old.here

  abbrev os : Stack
  os = outward false old.around.items

  to-new : (f : Open → Open) (n : Bindings) → RecordsHere false f old new → GoodScope c n nothing_bound (f o) (envs os) → Good c (n ∷ []) (stack false new)
  to-new f n r h = subst (λ (st : Stack). Good c (n ∷ []) st) (sym (changed-stack f old new r)) (h, good.1)

  pub exported-good : (d : DefinedTypeId) (w : Where) (t : Tree) → RecordsHere false (export_at d w) old new → IsHeld c m (ty.Value (val.Defined d)) t → IsValue t → Stands (innermost (stack false old)) t w → Good c (m ∷ []) (stack false new)
  exported-good d w t r held value stands = to-new (export_at d w) m r (good-export_at c m nothing_bound o (envs os) d w t good.0 held value stands)

  pub indexed-good : (d : DefinedTypeId) (i : ℕ) (t : Tree) → RecordsHere false (index_at (ty.Value (val.Defined d)) listed i) old new → IsHeld c m (ty.Value (val.Defined d)) t → IsValue t → Stands (innermost (stack false old)) t (at_type i) → Good c (m ∷ []) (stack false new)
  indexed-good d i t r held value stands = to-new (index_at (ty.Value (val.Defined d)) listed i) m r (good-index_at c m nothing_bound o (envs os) (ty.Value (val.Defined d)) listed i t good.0 held value stands)

  module _ (far : Bindings) (r : ResourceId) (unbound : m r ≡ None) where
    calling-is : (l : Leaf) → far r ≡ Some l → calling r l m ≡ and_bound far r m
    calling-is l is = fun_ext (λ q. by q (q.0 == r.0) refl)
      where
        by : (q : ResourceId) (b : Bool) → (q.0 == r.0) ≡ b → (if b then Some l else m q) ≡ (if b then far q else m q)
        by q true same = sym (ap far (id-equal q r same) ∙ is)
        by q false other = refl

    pub bound-good : (l : Leaf) (w : Where) → RecordsHere false (bind_at r w) old new → far r ≡ Some l → Stands (innermost (stack false old)) (resource l) w → Good c (and_bound far r m ∷ []) (stack false new)
    bound-good l w records is stands =
        subst (λ (n : Bindings). Good c (n ∷ []) (stack false new)) (calling-is l is)
        (to-new (bind_at r w) (calling r l m) records (good-called c m nothing_bound o (envs os) r l w good.0 unbound stands))

    -- Nothing changes if nothing binds the resource.
    pub unbound-good : far r ≡ None → Good c (and_bound far r m ∷ []) (stack false old)
    unbound-good is = subst (λ (n : Bindings). Good c (n ∷ []) (stack false old)) (fun_ext (λ q. by q (q.0 == r.0) refl)) good
      where
        by : (q : ResourceId) (b : Bool) → (q.0 == r.0) ≡ b → m q ≡ (if b then far q else m q)
        by q true same = let one = id-equal q r same in ap m one ∙ unbound ∙ sym (ap far one ∙ is)
        by q false other = refl

-- resources in the order of their ids

less : (i n : ℕ) → nat_lt i n ≡ true → i < n
less i n h = grind arith

is-less : (i n : ℕ) → i < n → nat_lt i n ≡ true
is-less i n h = grind arith

not-less : (i n : ℕ) → n ≤ i → nat_lt i n ≡ false
not-less i n h = grind arith

module _ (far : Bindings) where
  pub below-none : bound_below far 0 ≡ nothing_bound
  below-none = fun_ext (λ r. ap (λ b. if b then far r else None) (not-less r.0 0 (omega arith)))

  pub below-next : (n k : ℕ) → k ≡ n + 1 → and_bound far (record { 0 = n }) (bound_below far n) ≡ bound_below far k
  below-next n k one = fun_ext (λ q. by q (q.0 == n) refl)
    where
      by : (q : ResourceId) (b : Bool) → (q.0 == n) ≡ b → (if b then far q else bound_below far n q) ≡ bound_below far k q
      by q true same = let at = eqb-true q.0 n same in sym (ap (λ x. if x then far q else None) (is-less q.0 k (omega (arith, at, one))))
      by q false other = ap (λ x. if x then far q else None) (apart q.0 other)
        where
          apart : (i : ℕ) → (i == n) ≡ false → nat_lt i n ≡ nat_lt i k
          apart i not = elim (cases_lt i n) [
            | inl low ↦ is-less i n low ∙ sym (is-less i k (omega (arith, low, one)))
            | inr high ↦ not-less i n high ∙ sym (not-less i k (past i not high))
          ]
            where
              past : (i : ℕ) → (i == n) ≡ false → n ≤ i → k ≤ i
              past i not high = elim (cases_lt n i) [
                | inl more ↦ omega (arith, more, one)
                | inr at_most ↦ (let same : i ≡ n = omega (arith, high, at_most) in let both : true ≡ false = sym (eq-eqb i n same) ∙ not in cc)
              ]

  pub below-unbound : (n : ℕ) → bound_below far n (record { 0 = n }) ≡ None
  below-unbound n = ap (λ b. if b then far (record { 0 = n }) else None) (not-less n n (omega arith))

  pub below-all : (n k : ℕ) → ((r : ResourceId) (l : Leaf) → far r ≡ Some l → r.0 < k) → nat_lt n k ≡ false → bound_below far n ≡ far
  below-all n k low past = fun_ext (λ r. by r (far r) refl)
    where
      over : k ≤ n
      over = elim (cases_lt n k) [ inl low_n ↦ (let both : true ≡ false = sym (is-less n k low_n) ∙ past in cc) | inr more ↦ more ]

      by : (r : ResourceId) (o : Option Leaf) → far r ≡ o → (if nat_lt r.0 n then o else None) ≡ o
      by r None is = either (nat_lt r.0 n)
        where
          either : (b : Bool) → ◌≡◌ {A = Option Leaf} (if b then None else None) None
          either true = refl
          either false = refl
      by r (Some l) is = let h = low r l is in let more = over in ap (λ b. if b then Some l else None) (is-less r.0 n (omega (arith, h, more)))
