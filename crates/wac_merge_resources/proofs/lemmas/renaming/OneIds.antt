-- What was made for the named types that value types are, and what stays of it.
use Rattle.std.proofs.Common.{◌≡◌, ℕ, zero, suc, List, [], ◌∷◌, map, Option, Some, None, ◌⊎◌, inl, inr, refl, sym, subst}
use Rattle.std.specs.Prelude.{slice_get}
use Rattle.std.specs.List.{AllZip}
use Rattle.wac_types_shapes.specs.primitives.Name.{Name}
use Rattle.wac_types_collection.specs.collection.Collection.{Collection, and_maybe, case_values, defined_values, func_values, item_at, seconds}
use Rattle.wac_types_shapes.specs.declared.shapes.component.DefinedType.{DefinedType}
use Rattle.wac_types_shapes.specs.declared.shapes.component.DefinedType.TheVariants as def
use Rattle.wac_types_shapes.specs.declared.shapes.component.DefinedTypeId.{DefinedTypeId}
use Rattle.wac_types_shapes.specs.declared.shapes.component.FuncType.{FuncType}
use Rattle.wac_types_shapes.specs.declared.shapes.component.FuncTypeId.{FuncTypeId}
use Rattle.wac_types_shapes.specs.declared.shapes.component.ItemKind.{ItemKind}
use Rattle.wac_types_shapes.specs.declared.shapes.component.ItemKind.TheVariants as kind
use Rattle.wac_types_shapes.specs.declared.shapes.component.ResourceId.{ResourceId}
use Rattle.wac_types_shapes.specs.declared.shapes.component.ValueType.{ValueType}
use Rattle.wac_types_shapes.specs.declared.shapes.component.ValueType.TheVariants as val
use Rattle.wac_types_shapes.specs.declared.shapes.component.«Type».TheVariants as ty
use Rattle.wac_merge_resources.specs.declared.values.named.NamedTypes.{NamedTypes}
use Rattle.wac_types_collection.specs.private.subtyping.Extended.{IsExtended}
use Rattle.wac_merge_tables.specs.made.Made.{IsFuncMadeFor, IsMadeFor, StayMade, form, func_form}
use Rattle.wac_merge_resources.specs.renaming.MadeOf.{IsFuncMadeOf, IsKindMadeOf, IsMadeOf, alias, anew, other_name, plain}
use Rattle.wac_merge_resources.specs.private.renaming.RenamedTypes.{becomes}
use Rattle.wac_merge_resources.specs.private.renaming.RenamingSteps.{CasesGoTogether, FieldsGoTogether, GoTogether, HaveOneFuncShape, HaveOneShape, IsRenamedIn, aliases, enums, fixed_lists, flags, futures, lists, options, records, results, streams, tuples, variants}
use Rattle.wac_merge_tables.specs.declared.made.made.Made.{Made}
use Rattle.wac_merge_resources.specs.declared.renaming.renamer.Renaming.{Renaming}
use Rattle.wac_merge_tables.proofs.lemmas.made.Extending.{kept_item}
use Rattle.wac_merge_resources.proofs.lemmas.renaming.Outlines.{func_outlined}

-- ---- the values of definitions of one shape, and of function types, beside each other
module _ (R : ValueType → ValueType → Type 0) where
  maybe_beside : (v w : Option ValueType) (vs ws : List ValueType) → GoTogether R v w → AllZip R vs ws → AllZip R (and_maybe v vs) (and_maybe w ws)
  maybe_beside None None vs ws h g = g
  maybe_beside None (Some w) vs ws h g = absurd h
  maybe_beside (Some v) None vs ws h g = absurd h
  maybe_beside (Some v) (Some w) vs ws h g = (h, g)

  fields_beside : (es fs : List (Name × ValueType)) → FieldsGoTogether R es fs → AllZip R (seconds es) (seconds fs)
  fields_beside [] [] h = tt
  fields_beside [] (f ∷ fs) h = absurd h
  fields_beside (e ∷ es) [] h = absurd h
  fields_beside (e ∷ es) (f ∷ fs) h = (h.0.1, fields_beside es fs h.1)

  cases_beside : (es fs : List (Name × Option ValueType)) → CasesGoTogether R es fs → AllZip R (case_values es) (case_values fs)
  cases_beside [] [] h = tt
  cases_beside [] (f ∷ fs) h = absurd h
  cases_beside (e ∷ es) [] h = absurd h
  cases_beside (e ∷ es) (f ∷ fs) h = maybe_beside e.1 f.1 (case_values es) (case_values fs) h.0.1 (cases_beside es fs h.1)

  of_both : (d e x y : DefinedType) → d ≡ x → e ≡ y → AllZip R (defined_values x) (defined_values y) → AllZip R (defined_values d) (defined_values e)
  of_both d e x y a b h = subst (λ z. AllZip R (defined_values z) (defined_values e)) (sym a) (subst (λ z. AllZip R (defined_values x) (defined_values z)) (sym b) h)

  shape_beside : (d e : DefinedType) → HaveOneShape R d e → AllZip R (defined_values d) (defined_values e)
  shape_beside d e (tuples vs ws a b h) = of_both d e _ _ a b h
  shape_beside d e (lists v w a b h) = of_both d e _ _ a b (h, tt)
  shape_beside d e (fixed_lists v w n a b h) = of_both d e _ _ a b (h, tt)
  shape_beside d e (options v w a b h) = of_both d e _ _ a b (h, tt)
  shape_beside d e (results v w p q a b h g) = of_both d e _ _ a b (maybe_beside v w (and_maybe p []) (and_maybe q []) h (maybe_beside p q [] [] g tt))
  shape_beside d e (variants x y a b h) = of_both d e _ _ a b (cases_beside x.cases y.cases h)
  shape_beside d e (records x y a b h) = of_both d e _ _ a b (fields_beside x.fields y.fields h)
  shape_beside d e (flags x y a b h) = of_both d e _ _ a b tt
  shape_beside d e (enums x y a b h) = of_both d e _ _ a b tt
  shape_beside d e (aliases v w a b h) = of_both d e _ _ a b (h, tt)
  shape_beside d e (streams v w a b h) = of_both d e _ _ a b (maybe_beside v w [] [] h tt)
  shape_beside d e (futures v w a b h) = of_both d e _ _ a b (maybe_beside v w [] [] h tt)

  one_some : {A : Type 0} (a b : A) → Some a ≡ Some b → a ≡ b
  one_some a b e = cc

  pair_at : (vs ws : List ValueType) → AllZip R vs ws → (i : ℕ) (a b : ValueType) → slice_get vs i ≡ Some a → slice_get ws i ≡ Some b → R a b
  pair_at [] ws h i a b p q = cc p
  pair_at (v ∷ vs) [] h i a b p q = cc q
  pair_at (v ∷ vs) (w ∷ ws) h zero a b p q = subst (λ x. R x b) (one_some v a p) (subst (λ x. R v x) (one_some w b q) h.0)
  pair_at (v ∷ vs) (w ∷ ws) h (suc i) a b p q = pair_at vs ws h.1 i a b p q

  pub shape_pairs : (d e : DefinedType) → HaveOneShape R d e → (i : ℕ) (a b : ValueType) → slice_get (defined_values d) i ≡ Some a → slice_get (defined_values e) i ≡ Some b → R a b
  shape_pairs d e h = pair_at (defined_values d) (defined_values e) (shape_beside d e h)

  pub names_beside : (es fs : List (Name × ValueType)) → FieldsGoTogether R es fs → map (λ e. e.0) fs ≡ map (λ e. e.0) es
  names_beside [] [] h = refl
  names_beside [] (f ∷ fs) h = absurd h
  names_beside (e ∷ es) [] h = absurd h
  names_beside (e ∷ es) (f ∷ fs) h = let a = h.0.0 in let b = names_beside es fs h.1 in (λ i. a i ∷ b i)

  pub func_pairs : (x y : FuncType) → FieldsGoTogether R x.params y.params → GoTogether R x.result y.result → (i : ℕ) (a b : ValueType) → slice_get (func_values x) i ≡ Some a → slice_get (func_values y) i ≡ Some b → R a b
  func_pairs x y h g = pair_at (func_values x) (func_values y) (maybe_beside x.result y.result (seconds x.params) (seconds y.params) g (fields_beside x.params y.params h))

-- ---- what was made stays so as more is made
pub stay_twice : (a b c : Made) → StayMade a b → StayMade b c → StayMade a c
stay_twice a b c g h f e is = h f e (g f e is)

module _ (c : Collection) (end_of : ResourceId → ResourceId) (t : NamedTypes) (old new : Made) (stay : StayMade old new) where
  still_for : (n : Option DefinedTypeId) (x : DefinedType) (e : DefinedTypeId) → IsMadeFor old n x e → IsMadeFor new n x e
  still_for n x e (f, p, q, is) = (f, p, q, stay (form f) e.0 is)

  still_func_for : (f : FuncTypeId) (x : FuncType) (g : FuncTypeId) → IsFuncMadeFor old f x g → IsFuncMadeFor new f x g
  still_func_for f x g (k, p, q, r, is) = (k, p, q, r, stay (func_form k) g.0 is)

  still_once : (f g : FuncTypeId) (x : FuncType) → (g ≡ f) ⊎ IsFuncMadeFor old f x g → (g ≡ f) ⊎ IsFuncMadeFor new f x g
  still_once f g x (inl same) = inl same
  still_once f g x (inr made) = inr (still_func_for f x g made)

  pub still_of : (v w : ValueType) → IsMadeOf c end_of t old v w → IsMadeOf c end_of t new v w
  still_of v w (plain _ _ is) = plain v w is
  still_of v w (alias _ _ d end y p at other h) = alias v w d end y p at other (still_of (val.Defined end) w h)
  still_of v w (anew _ _ d e y x p q at none made out parts) = anew v w d e y x p q at none (still_for _ x e made) out (λ i a b g h. still_of a b (parts i a b g h))

  module _ (m more : Collection) (x : IsExtended m more) where
    pub still_func_of : (f g : FuncTypeId) → IsFuncMadeOf c m end_of t old f g → IsFuncMadeOf c more end_of t new f g
    still_func_of f g r = record {
      before = r.before;
      after = r.after;
      is = r.is;
      became = kept_item m.funcs more.funcs x.kept.funcs g.0 r.after r.became;
      outlined = r.outlined;
      values = λ i a b p q. still_of a b (r.values i a b p q);
      once = still_once f g r.after r.once;
    }

    pub still_kind_of : (k l : ItemKind) → IsKindMadeOf c m end_of t old k l → IsKindMadeOf c more end_of t new k l
    still_kind_of k (kind.TypeItem (ty.Resource q)) h = tt
    still_kind_of (kind.Value v) (kind.Value w) h = still_of v w h
    still_kind_of (kind.TypeItem (ty.Value v)) (kind.TypeItem (ty.Value w)) h = still_of v w h
    still_kind_of (kind.Func f) (kind.Func g) h = still_func_of f g h
    still_kind_of (kind.TypeItem (ty.Func f)) (kind.TypeItem (ty.Func g)) h = still_func_of f g h
    still_kind_of (kind.Value v) l h = absurd h
    still_kind_of (kind.TypeItem (ty.Value v)) l h = absurd h
    still_kind_of (kind.Func f) l h = absurd h
    still_kind_of (kind.TypeItem (ty.Func f)) l h = absurd h
    still_kind_of k (kind.Value w) h = absurd h
    still_kind_of k (kind.TypeItem (ty.Value w)) h = absurd h
    still_kind_of k (kind.Func g) h = absurd h
    still_kind_of k (kind.TypeItem (ty.Func g)) h = absurd h
    still_kind_of k l h = tt

-- what a function type mentions was made where its parameters and its result were
pub func_once : (s : Renaming) (m more : Collection) (made new : Made) (stay : StayMade made new) (f g : FuncTypeId) (x y : FuncType) → item_at s.types.now.funcs f.0 ≡ Some x → item_at more.funcs g.0 ≡ Some y → (g ≡ f) ⊎ IsFuncMadeFor new f y g
    → HaveOneFuncShape (IsRenamedIn s m made) x y → IsFuncMadeOf s.types.now more (becomes s) s.became.now.named.now new f g
func_once s m more made new stay f g x y at there once shape = record {
  before = x;
  after = y;
  is = at;
  became = there;
  outlined = func_outlined (IsRenamedIn s m made) x y shape.params shape.result shape.sort;
  values = λ i a b p q. still_of s.types.now (becomes s) s.became.now.named.now made new stay a b (func_pairs (IsRenamedIn s m made) x y shape.params shape.result i a b p q).1;
  once = once;
}

-- ---- names of others
pub no_other : (y : DefinedType) → ((v : ValueType) → y ≡ def.Alias v → ⊥) → other_name y ≡ None
no_other (def.Alias v) h = absurd (h v refl)
no_other (def.Tuple _) h = refl
no_other (def.List _) h = refl
no_other (def.FixedSizeList _ _) h = refl
no_other (def.Option _) h = refl
no_other (def.Result _ _) h = refl
no_other (def.Variant _) h = refl
no_other (def.Record _) h = refl
no_other (def.Flags _) h = refl
no_other (def.Enum _) h = refl
no_other (def.Stream _) h = refl
no_other (def.Future _) h = refl
