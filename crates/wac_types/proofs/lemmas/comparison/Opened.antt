-- Small types, which are looked into wherever they are mentioned.
use Rattle.std.proofs.Common.{Bool, true, ◌≡◌, ◌↔◌, ◌⊎◌, inl, inr, ℕ, [], ◌∷◌, map, refl, ap, sym, ◌∙◌, Some, None, arith}
use Rattle.wac_types_shapes.specs.declared.primitives.component.PrimitiveType.{PrimitiveType}
use Rattle.wac_types_shapes.specs.declared.shapes.component.DefinedTypeId.{DefinedTypeId}
use Rattle.wac_types_shapes.specs.declared.shapes.component.Record.{Record}
use Rattle.wac_types_shapes.specs.declared.shapes.component.DefinedType.{DefinedType}
use Rattle.wac_types_shapes.specs.declared.shapes.component.DefinedType.TheVariants as def
use Rattle.wac_types_shapes.specs.declared.shapes.component.ValueType.{ValueType}
use Rattle.wac_types_shapes.specs.declared.shapes.component.ValueType.TheVariants as val
use Rattle.wac_types_shapes.specs.declared.shapes.component.«Type».TheVariants as ty
use Rattle.wac_types_collection.specs.collection.Collection.{Collection, IsWellFormed, defined_mentions, holds_value, item_at}
use Rattle.wac_types_collection.specs.collection.Aliases.{aliased}
use Rattle.wac_types_shapes.specs.primitives.Tree.{list_of, option_of, record_of}
use Rattle.wac_types.specs.declared.comparison.questions.Asked.{Asked}
use Rattle.wac_types.specs.private.comparison.Compare.{value_in, optional_in, defined_in, entry_in}
use Rattle.wac_types.specs.private.comparison.Questions.{AreBelow}
use Rattle.wac_types.specs.private.comparison.Settling.{Asks, Tells}
use Rattle.wac_types.proofs.lemmas.comparison.Opens.{opens_defined, defined_held}
use Rattle.wac_types.proofs.lemmas.comparison.Lighter.{lowers_defined}
use Rattle.wac_types.proofs.lemmas.comparison.Values.{inner, primitives_same, primitives_inj}
use Rattle.wac_types.proofs.lemmas.comparison.Asking.{settles_iff}
use Rattle.wac_types.proofs.lemmas.comparison.Sorts.{type_there}
use Rattle.wac_types.proofs.lemmas.comparison.Definitions.{entries_from}

pub opened_itself : (x y : Collection) (v w : ValueType) → holds_value x v ≡ true → holds_value y w ≡ true → Tells x y v w v w
opened_itself x y v w hv hw = record { first = hv; second = hw; same = (λ e. e, λ e. e); lighter_first = omega arith; lighter_second = omega arith }

-- two definitions of a part each, of which the trees are the same just where those of the parts are
tells : (x y : Collection) → IsWellFormed x → IsWellFormed y → (i j : DefinedTypeId) (a b : ValueType) (D E : DefinedType) → aliased D ≡ None → aliased E ≡ None → defined_mentions D ≡ ty.Value a ∷ [] → defined_mentions E ≡ ty.Value b ∷ []
    → (defined_in x D ≡ defined_in y E) ↔ (value_in x a ≡ value_in y b) → item_at x.defined i.0 ≡ Some D → item_at y.defined j.0 ≡ Some E → Tells x y (val.Defined i) (val.Defined j) a b
tells x y wx wy i j a b D E m n s t iff p q =
    let la = lowers_defined x wx i D p m in
    let lb = lowers_defined y wy j E q n in
    let held = defined_held x wx i D p in
    let held_too = defined_held y wy j E q in
    let lighter = (rw s at la.lower).0 in
    let lighter_too = (rw t at lb.lower).0 in
    record {
      first = (rw s at held).0;
      second = (rw t at held_too).0;
      same = (λ e. iff.0 (sym la.is ∙ e ∙ lb.is), λ e. la.is ∙ iff.1 e ∙ sym lb.is);
      lighter_first = omega (arith, lighter);
      lighter_second = omega (arith, lighter_too);
    }

module _ (x y : Collection) (wx : IsWellFormed x) (wy : IsWellFormed y) (v w : ValueType) (i j : DefinedTypeId) (D E : DefinedType) (is : v ≡ val.Defined i) (js : w ≡ val.Defined j) (p : item_at x.defined i.0 ≡ Some D)
    (q : item_at y.defined j.0 ≡ Some E) where
  pub opened_lists : (a b : ValueType) → D ≡ def.List a → E ≡ def.List b → Tells x y v w a b
  opened_lists a b d e = rw (is, js) (tells x y wx wy i j a b (def.List a) (def.List b) refl refl refl refl (ap inner, ap list_of) (rw d at p) (rw e at q))

  pub opened_options : (a b : ValueType) → D ≡ def.Option a → E ≡ def.Option b → Tells x y v w a b
  opened_options a b d e = rw (is, js) (tells x y wx wy i j a b (def.Option a) (def.Option b) refl refl refl refl (ap inner, ap option_of) (rw d at p) (rw e at q))

  pub same_records : (r s : Record) → D ≡ def.Record r → E ≡ def.Record s → map (entry_in x) r.fields ≡ map (entry_in y) s.fields → value_in x v ≡ value_in y w
  same_records r s d e h = rw (is, js)
      ((opens_defined x wx i (def.Record r) (rw d at p)).is ∙ entries_from (value_in x) (value_in y) record_of r.fields s.fields h ∙ sym (opens_defined y wy j (def.Record s) (rw e at q)).is)

-- what tells whether two value types are the same is asked in their place
pub asks_told : {t : Bool} {x y : Collection} (v w a b : ValueType) {o k : Asked} → Tells x y v w a b → Asks t x y (ty.Value a ∷ []) (ty.Value b ∷ []) o k (value_in x a ≡ value_in y b)
    → Asks t x y (ty.Value v ∷ []) (ty.Value w ∷ []) o k (value_in x v ≡ value_in y w)
asks_told {x = x} {y = y} v w a b told s = record { settles = λ n below. settles_iff _ _ _ _ told.same.1 told.same.0 (s.settles n (by n below)) }
  where
    by : (n : ℕ) → AreBelow x n (ty.Value v ∷ []) ⊎ AreBelow y n (ty.Value w ∷ []) → AreBelow x n (ty.Value a ∷ []) ⊎ AreBelow y n (ty.Value b ∷ [])
    by n (inl h) = let lt = h.0 in let le = told.lighter_first in inl (omega (arith, lt, le), tt)
    by n (inr h) = let lt = h.0 in let le = told.lighter_second in inr (omega (arith, lt, le), tt)

-- primitives that tell it
pub told_primitives : (x y : Collection) (v w : ValueType) (p q : PrimitiveType) → Tells x y v w (val.Primitive p) (val.Primitive q) → p ≡ q → value_in x v ≡ value_in y w
told_primitives x y v w p q told e = told.same.1 (primitives_same x y p q e)

-- what is there is not what is not
pub some_none : (x y : Collection) → IsWellFormed x → (v : ValueType) → holds_value x v ≡ true → optional_in x (Some v) ≡ optional_in y None → ⊥
some_none x y wf v h e = type_there x wf (ty.Value v) h e

pub none_some : (x y : Collection) → IsWellFormed y → (w : ValueType) → holds_value y w ≡ true → optional_in x None ≡ optional_in y (Some w) → ⊥
none_some x y wf w h e = type_there y wf (ty.Value w) h (sym e)

pub untold_primitives : (x y : Collection) (v w : ValueType) (p q : PrimitiveType) → Tells x y v w (val.Primitive p) (val.Primitive q) → (p ≡ q → ⊥) → value_in x v ≡ value_in y w → ⊥
untold_primitives x y v w p q told n e = n (primitives_inj x y p q (told.same.0 e))
