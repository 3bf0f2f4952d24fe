-- What the answers for two value types rest on.
use Rattle.std.proofs.Common.{ℕ, zero, suc, Bool, true, List, [], ◌∷◌, ◌≡◌, length, refl, ap, sym, ◌∙◌, Option, Some, None, arith, nat_lt}
use Rattle.wac_types_shapes.specs.primitives.Name.{Name, option_case}
use Rattle.wac_types.specs.declared.comparison.questions.Asked.{Asked}
use Rattle.wac_types_collection.specs.declared.collection.collection.Held.{Held}
use Rattle.wac_types_shapes.specs.declared.shapes.component.ResourceId.{ResourceId}
use Rattle.wac_types_shapes.specs.declared.primitives.component.PrimitiveType.{PrimitiveType}
use Rattle.wac_types_shapes.specs.declared.shapes.component.DefinedTypeId.{DefinedTypeId}
use Rattle.wac_types_shapes.specs.declared.shapes.component.DefinedType.{DefinedType}
use Rattle.wac_types_shapes.specs.declared.shapes.component.DefinedType.TheVariants as def
use Rattle.wac_types_shapes.specs.declared.shapes.component.ValueType.{ValueType}
use Rattle.wac_types_shapes.specs.declared.shapes.component.ValueType.TheVariants as val
use Rattle.wac_types_shapes.specs.declared.shapes.component.«Type».TheVariants as ty
use Rattle.wac_types_collection.specs.collection.Collection.{Collection, size, IsWellFormed, defined_mentions, holds_value, holds_type, item_at}
use Rattle.wac_types_shapes.specs.primitives.Tree.{TypeTree, absent, primitive, own, borrow}
use Rattle.wac_types_collection.specs.subtyping.Subtype.{resource_names}
use Rattle.wac_types_collection.specs.collection.Held.{resolved, defined_tree}
use Rattle.wac_types_collection.specs.collection.Aliases.{aliased, target_of, value_resolved_in, value_resolved}
use Rattle.wac_types.specs.private.comparison.Compare.{value_in, defined_in}
use Rattle.wac_types.specs.private.comparison.Weights.{weight}
use Rattle.wac_types_collection.proofs.lemmas.subtyping.Trees.{aliases_agree}
use Rattle.wac_types.specs.private.comparison.Settling.{Asks, HasEnd, RestsOn}
use Rattle.wac_types.proofs.lemmas.comparison.Opens.{opens_defined, primitive_in}
use Rattle.wac_types.proofs.lemmas.comparison.Lighter.{lowers_defined, own_in, borrow_in}
use Rattle.wac_types.proofs.lemmas.comparison.Asking.{rests_on}
use Rattle.wac_types.proofs.lemmas.comparison.Sorts.{name_of_resource}

-- the end of a chain of aliases has the same tree
end_is : (c : Collection) → IsWellFormed c → (k : ℕ) (v : ValueType) → value_in c v ≡ value_in c (value_resolved_in k c v)
end_is c wf zero v = refl
end_is c wf (suc k) v = by (λ u. end_is c wf k u) (target_of c v) refl
  where
    by : ((u : ValueType) → value_in c u ≡ value_in c (value_resolved_in k c u)) → (o : Option ValueType) → target_of c v ≡ o → value_in c v ≡ value_in c (option_case o v (λ u. value_resolved_in k c u))
    by rest None e = refl
    by rest (Some u) e = (aliases_agree c wf v u e).0 ∙ rest u

-- the end of the aliases of a type
pub value_end : (c : Collection) → IsWellFormed c → (v a : ValueType) → a ≡ value_resolved c v → target_of c a ≡ None → holds_value c a ≡ holds_value c v → holds_value c v ≡ true → HasEnd c (ty.Value v) (ty.Value a)
value_end c wf v a e none held h =
    let same = end_is c wf (size c) v ∙ sym (ap (value_in c) e) in
    record { end = none; held = held ∙ h; is = same; weight = ap weight same }

module _ (x y : Collection) (wx : IsWellFormed x) (wy : IsWellFormed y) (i j : DefinedTypeId) (D E : DefinedType) (p : item_at x.defined i.0 ≡ Some D) (q : item_at y.defined j.0 ≡ Some E) where
  pub definitions_rest : (t : Bool) (o k : Asked) → aliased D ≡ None → aliased E ≡ None → Asks t x y (defined_mentions D) (defined_mentions E) o k (defined_in x D ≡ defined_in y E)
      → RestsOn t x y (ty.Value (val.Defined i)) (ty.Value (val.Defined j)) o k (value_in x (val.Defined i) ≡ value_in y (val.Defined j))
  definitions_rest t o k m n asks =
      let la = lowers_defined x wx i D p m in
      let lb = lowers_defined y wy j E q n in
      rests_on t x y _ _ _ _ _ _ o k la lb (λ h. la.is ∙ h ∙ sym lb.is) (λ h. sym la.is ∙ h ∙ lb.is) asks

  pub definitions_differ : (defined_in x D ≡ defined_in y E → ⊥) → value_in x (val.Defined i) ≡ value_in y (val.Defined j) → ⊥
  definitions_differ n h = n (sym (opens_defined x wx i D p).is ∙ h ∙ (opens_defined y wy j E q).is)

-- what goes by names goes by the same, or by none
pub named_inj : (tree : Name → TypeTree Name) → ((m n : Name) → tree m ≡ tree n → m ≡ n) → ((n : Name) → tree n ≡ absent → ⊥) → (o p : Option Name) → option_case o absent tree ≡ option_case p absent tree → o ≡ p
named_inj tree same some None None e = refl
named_inj tree same some None (Some n) e = absurd (some n (sym e))
named_inj tree same some (Some m) None e = absurd (some m e)
named_inj tree same some (Some m) (Some n) e = ap Some (same m n e)

module _ (x y : Collection) (r s : ResourceId) where
  pub owns_same : resource_names x (resolved x r) ≡ resource_names y (resolved y s) → value_in x (val.Own r) ≡ value_in y (val.Own s)
  owns_same e = own_in x r ∙ ap (λ o. option_case o absent own) e ∙ sym (own_in y s)

  pub owns_back : value_in x (val.Own r) ≡ value_in y (val.Own s) → resource_names x (resolved x r) ≡ resource_names y (resolved y s)
  owns_back e = named_inj own (λ m n e. cc) (λ n e. cc) _ _ (sym (own_in x r) ∙ e ∙ own_in y s)

  pub borrows_same : resource_names x (resolved x r) ≡ resource_names y (resolved y s) → value_in x (val.Borrow r) ≡ value_in y (val.Borrow s)
  borrows_same e = borrow_in x r ∙ ap (λ o. option_case o absent borrow) e ∙ sym (borrow_in y s)

  pub borrows_back : value_in x (val.Borrow r) ≡ value_in y (val.Borrow s) → resource_names x (resolved x r) ≡ resource_names y (resolved y s)
  borrows_back e = named_inj borrow (λ m n e. cc) (λ n e. cc) _ _ (sym (borrow_in x r) ∙ e ∙ borrow_in y s)

-- what sort of value type a tree is of
abbrev shape : TypeTree Name → ℕ
shape (primitive p) = 1
shape (own r) = 2
shape (borrow r) = 3
shape _ = 4

abbrev pub value_shape : ValueType → ℕ
value_shape (val.Primitive p) = 1
value_shape (val.Own r) = 2
value_shape (val.Borrow r) = 3
value_shape (val.Defined d) = 4

defined_shape : (t : ValueType → TypeTree Name) (d : DefinedType) → aliased d ≡ None → shape (defined_tree t d) ≡ 4
defined_shape t (def.Alias v) e = cc
defined_shape t _ e = refl

there_at : {A : Type 0} (xs : List (Held A)) (i : ℕ) → nat_lt i (length xs) ≡ true → (y : A) × (item_at xs i ≡ Some y)
there_at [] i h = absurd (grind arith)
there_at (x ∷ xs) zero h = (x.item, refl)
there_at (x ∷ xs) (suc i) h = there_at xs i (grind arith)

shape_of : (c : Collection) → IsWellFormed c → (v : ValueType) → holds_type c (ty.Value v) ≡ true → target_of c v ≡ None → shape (value_in c v) ≡ value_shape v
shape_of c wf (val.Primitive p) h e = ap shape (primitive_in c p)
shape_of c wf (val.Own r) h e = ap shape (own_in c r) ∙ name_of_resource c wf r (λ o. shape (option_case o absent own) ≡ 2) (λ n. refl) h
shape_of c wf (val.Borrow r) h e = ap shape (borrow_in c r) ∙ name_of_resource c wf r (λ o. shape (option_case o absent borrow) ≡ 3) (λ n. refl) h
shape_of c wf (val.Defined d) h e =
    let x = there_at c.defined d.0 h in
    ap shape (opens_defined c wf d x.0 x.1).is ∙ defined_shape (value_in c) x.0 (sym (ap (λ o. option_case o None aliased) x.1) ∙ e)

module _ (x y : Collection) (wx : IsWellFormed x) (wy : IsWellFormed y) (v w : ValueType) (hv : holds_type x (ty.Value v) ≡ true) (hw : holds_type y (ty.Value w) ≡ true) (av : target_of x v ≡ None) (aw : target_of y w ≡ None) where
  shapes : value_in x v ≡ value_in y w → value_shape v ≡ value_shape w
  shapes e = sym (shape_of x wx v hv av) ∙ ap shape e ∙ shape_of y wy w hw aw

  pub other_value : (V : ValueType) → v ≡ V → (value_shape V ≡ value_shape w → ⊥) → value_in x v ≡ value_in y w → ⊥
  other_value V e n h = n (sym (ap value_shape e) ∙ shapes h)

pub no_primitive : (w : ValueType) → ((q : PrimitiveType) → w ≡ val.Primitive q → ⊥) → 1 ≡ value_shape w → ⊥
no_primitive (val.Primitive q) n e = n q refl
no_primitive _ n e = cc

pub no_own : (w : ValueType) → ((q : ResourceId) → w ≡ val.Own q → ⊥) → 2 ≡ value_shape w → ⊥
no_own (val.Own q) n e = n q refl
no_own _ n e = cc

pub no_borrow : (w : ValueType) → ((q : ResourceId) → w ≡ val.Borrow q → ⊥) → 3 ≡ value_shape w → ⊥
no_borrow (val.Borrow q) n e = n q refl
no_borrow _ n e = cc

pub no_defined : (w : ValueType) → ((q : DefinedTypeId) → w ≡ val.Defined q → ⊥) → 4 ≡ value_shape w → ⊥
no_defined (val.Defined q) n e = n q refl
no_defined _ n e = cc
