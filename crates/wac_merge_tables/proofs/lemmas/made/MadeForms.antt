-- `==` tells keys of definitions and of function types apart by what they stand for, and what one more of them leaves.
use Rattle.std.proofs.Common.{◌≡◌, Bool, true, false, cond, ◌&&◌, ℕ, ◌+◌, nat_eq, List, [], ◌∷◌, ◌++◌, map, take, Option, Some, None, refl, ap, sym, ◌∙◌, subst, eq-eqb, rules, add-one, ◌⊎◌, inl, inr}
use Rattle.std.proofs.lemmas.Bool.{cases_Bool, eqb-true, and_parts as both}
use Rattle.std.proofs.lemmas.List.{map-append}
use Rattle.std.specs.Cmp.Lexicographic.{pointwise, pointwise_decides}
use Rattle.std.specs.HashMap.{get, get_by}
use Rattle.std.specs.Option.{option_eq, unwrap_or}
use Rattle.std.specs.Prelude.{slice_get, string_bytes}
use denote.Enum.Bare.{same_true, true_same}
use Rattle.wac_types_shapes.specs.primitives.Name.{Name}
use Rattle.wac_types_shapes.specs.contracts.primitives.component.PrimitiveType.{the_type}
use Rattle.wac_types_shapes.specs.contracts.shapes.component.ValueTypePartialEq.TheImpl as ValueEq
use Rattle.wac_types_shapes.specs.declared.shapes.component.DefinedType.{DefinedType}
use Rattle.wac_types_shapes.specs.declared.shapes.component.DefinedType.TheVariants as def
use Rattle.wac_types_shapes.specs.declared.shapes.component.DefinedTypeId.{DefinedTypeId}
use Rattle.wac_types_shapes.specs.declared.shapes.component.FuncType.{FuncType}
use Rattle.wac_types_shapes.specs.declared.shapes.component.FuncTypeId.{FuncTypeId}
use Rattle.wac_types_shapes.specs.declared.shapes.component.ValueType.{ValueType}
use Rattle.wac_types_shapes.specs.declared.shapes.component.ValueType.TheVariants as val
use Rattle.wac_types_shapes.proofs.lemmas.shapes.Names.{take_at}
use Rattle.wac_types_collection.specs.collection.Collection.{Collection, HasDefined, item_at, seconds}
use Rattle.wac_types_collection.proofs.lemmas.subtyping.Telling.{Tells, and_true, list_itself, list_same, Text, text_eq, text_tells}
use Rattle.wac_merge_tables.specs.contracts.made.made.FormPartialEq.TheImpl as FormEq
use Rattle.wac_merge_tables.specs.contracts.made.made.FuncFormPartialEq.TheImpl as FuncFormEq
use Rattle.wac_merge_tables.specs.contracts.made.shapes.ShapePartialEq.TheImpl as ShapeEq
use Rattle.wac_merge_tables.specs.declared.made.made.Form.{Form}
use Rattle.wac_merge_tables.specs.declared.made.made.FuncForm.{FuncForm}
use Rattle.wac_merge_tables.specs.declared.made.made.Made.{Made}
use Rattle.wac_merge_tables.specs.declared.made.shapes.Shape.{Shape}
use Rattle.wac_merge_tables.specs.declared.made.shapes.Shape.TheVariants as shape
use Rattle.wac_merge_tables.specs.made.Made.{AreApart, AreCalledAlike, AreThere, HasMadeFuncToo, HasMadeToo, IsCalledAlike, IsOfForm, NamedTypeOf, StayMade, form, func_form, func_made_in, made_in}
use Rattle.wac_merge_tables.specs.made.Shapes.{pairs, shape_view}

abbrev pub value_eq : ValueType → ValueType → Bool
value_eq = (ValueEq.ghosts).eq

same_value : (v w : ValueType) → value_eq v w ≡ true → v ≡ w
same_value (val.Primitive p) (val.Primitive q) e = ap val.Primitive (same_true the_type (search rules) p q e)
same_value (val.Own r) (val.Own s) e = ap (λ n. val.Own (record { 0 = n })) (eqb-true r.0 s.0 e)
same_value (val.Borrow r) (val.Borrow s) e = ap (λ n. val.Borrow (record { 0 = n })) (eqb-true r.0 s.0 e)
same_value (val.Defined r) (val.Defined s) e = ap (λ n. val.Defined (record { 0 = n })) (eqb-true r.0 s.0 e)
same_value _ _ e = cc e

value_itself : (v : ValueType) → value_eq v v ≡ true
value_itself (val.Primitive p) = true_same the_type p p refl
value_itself (val.Own r) = eq-eqb r.0 r.0 refl
value_itself (val.Borrow r) = eq-eqb r.0 r.0 refl
value_itself (val.Defined r) = eq-eqb r.0 r.0 refl

pub value_tells : (v w : ValueType) → (value_eq v w ≡ true → v ≡ w) × (v ≡ w → value_eq v w ≡ true)
value_tells v w = (same_value v w, λ e. subst (λ u. value_eq v u ≡ true) e (value_itself v))

optional_tells : (x y : Option ValueType) → (option_eq value_eq x y ≡ true → x ≡ y) × (x ≡ y → option_eq value_eq x y ≡ true)
optional_tells None None = (λ _. refl, λ _. refl)
optional_tells None (Some b) = (λ e. cc e, λ e. cc e)
optional_tells (Some a) None = (λ e. cc e, λ e. cc e)
optional_tells (Some a) (Some b) = (λ e. ap Some (same_value a b e), λ e. (value_tells a b).1 (inner e)) where
  inner : Some a ≡ Some b → a ≡ b
  inner e = cc

abbrev entry_eq : {V : Type 0} → (V → V → Bool) → Text × V → Text × V → Bool
entry_eq E x y = text_eq x.0 y.0 && E x.1 y.1

abbrev pair_view : {V : Type 0} → Text × V → Name × V
pair_view e = (string_bytes e.0, e.1)

module _ {V : Type 0} (E : V → V → Bool) (t : (x y : V) → (E x y ≡ true → x ≡ y) × (x ≡ y → E x y ≡ true)) where
  pair_there : (x y : Text × V) → entry_eq E x y ≡ true → pair_view x ≡ pair_view y
  pair_there x y e = let (p, q) = both (text_eq x.0 y.0) (E x.1 y.1) e in rw ((text_tells x.0 y.0).0 p, (t x.1 y.1).0 q) refl

  pair_back : (x y : Text × V) → pair_view x ≡ pair_view y → entry_eq E x y ≡ true
  pair_back x y e = and_true (text_eq x.0 y.0) (E x.1 y.1) ((text_tells x.0 y.0).1 (ap (λ p. p.0) e)) ((t x.1 y.1).1 (ap (λ p. p.1) e))

  pair_tells : Tells pair_view (entry_eq E)
  pair_tells x y = (pair_there x y, pair_back x y)

same_shape : (a b : Shape) → (ShapeEq.ghosts).eq a b ≡ true → shape_view a ≡ shape_view b
same_shape (shape.Tuple a) (shape.Tuple b) e = ap def.Tuple ((pointwise_decides value_tells a.items b.items).0 e)
same_shape (shape.List a) (shape.List b) e = ap def.List (same_value a b e)
same_shape (shape.FixedSizeList a x) (shape.FixedSizeList b y) e = let (p, q) = both (value_eq a b) (nat_eq x y) e in rw (same_value a b p, eqb-true x y q) refl
same_shape (shape.Option a) (shape.Option b) e = ap def.Option (same_value a b e)
same_shape (shape.Result a x) (shape.Result b y) e = let (p, q) = both (option_eq value_eq a b) (option_eq value_eq x y) e in rw ((optional_tells a b).0 p, (optional_tells x y).0 q) refl
same_shape (shape.Variant a) (shape.Variant b) e = ap (λ cs. def.Variant (record { cases = cs })) (list_same pair_view (entry_eq (option_eq value_eq)) (pair_tells (option_eq value_eq) optional_tells) a.items b.items e)
same_shape (shape.Record a) (shape.Record b) e = ap (λ fs. def.Record (record { fields = fs })) (list_same pair_view (entry_eq value_eq) (pair_tells value_eq value_tells) a.items b.items e)
same_shape (shape.Flags a) (shape.Flags b) e = ap (λ ns. def.Flags (record { 0 = ns })) (list_same string_bytes text_eq text_tells a.items b.items e)
same_shape (shape.Enum a) (shape.Enum b) e = ap (λ ns. def.Enum (record { 0 = ns })) (list_same string_bytes text_eq text_tells a.items b.items e)
same_shape (shape.Alias a) (shape.Alias b) e = ap def.Alias (same_value a b e)
same_shape (shape.Stream a) (shape.Stream b) e = ap def.Stream ((optional_tells a b).0 e)
same_shape (shape.Future a) (shape.Future b) e = ap def.Future ((optional_tells a b).0 e)
same_shape _ _ e = cc e

one_some : {A : Type 0} (a b : A) → Some a ≡ Some b → a ≡ b
one_some a b e = cc

-- ---- copies, as far as a loop has come
pub texts_further : (labels : List Name) (i : ℕ) (n : Name) (t : Text) (ns ms : List Text) → slice_get labels i ≡ Some n → string_bytes t ≡ n → ms ≡ ns ++ t ∷ [] → map string_bytes ns ≡ take i labels → map string_bytes ms ≡ take (i + 1) labels
texts_further labels i n t ns ms at is more so =
    ap (map string_bytes) more ∙ map-append string_bytes ns (t ∷ []) ∙ ap (λ x. map string_bytes ns ++ x ∷ []) is ∙ ap (λ xs. xs ++ n ∷ []) so ∙ sym (rw add-one (take_at labels i n at))

pub pairs_further : {V : Type 0} (es : List (Name × V)) (i : ℕ) (n : Name) (v : V) (t : Text) (fs gs : List (Text × V)) → slice_get es i ≡ Some (n, v) → string_bytes t ≡ n → gs ≡ fs ++ (t, v) ∷ [] → pairs fs ≡ take i es → pairs gs ≡ take (i + 1) es
pairs_further es i n v t fs gs at is more so =
    ap pairs more ∙ map-append (λ (e : Text × _). (string_bytes e.0, e.1)) fs ((t, v) ∷ []) ∙ ap (λ x. pairs fs ++ (x, v) ∷ []) is ∙ ap (λ xs. xs ++ (n, v) ∷ []) so ∙ sym (rw add-one (take_at es i (n, v) at))

-- ---- what stands for one definition of one named type is looked up alike

abbrev id_eq : DefinedTypeId → DefinedTypeId → Bool
id_eq x y = nat_eq x.0 y.0

named_same : (x y : Option DefinedTypeId) → option_eq id_eq x y ≡ true → x ≡ y
named_same None None e = refl
named_same None (Some b) e = cc e
named_same (Some a) None e = cc e
named_same (Some a) (Some b) e = ap (λ n. Some (record { 0 = n })) (eqb-true a.0 b.0 e)

named_itself : (x : Option DefinedTypeId) → option_eq id_eq x x ≡ true
named_itself None = refl
named_itself (Some a) = eq-eqb a.0 a.0 refl

shape_itself : (a b : Shape) → shape_view a ≡ shape_view b → (ShapeEq.ghosts).eq a b ≡ true
shape_itself (shape.Tuple a) (shape.Tuple b) e = let i : a.items ≡ b.items = cc e in (pointwise_decides value_tells a.items b.items).1 i
shape_itself (shape.List a) (shape.List b) e = let i : a ≡ b = cc e in (value_tells a b).1 i
shape_itself (shape.FixedSizeList a x) (shape.FixedSizeList b y) e = let i : a ≡ b = cc e in let j : x ≡ y = cc e in and_true (value_eq a b) (nat_eq x y) ((value_tells a b).1 i) (eq-eqb x y j)
shape_itself (shape.Option a) (shape.Option b) e = let i : a ≡ b = cc e in (value_tells a b).1 i
shape_itself (shape.Result a x) (shape.Result b y) e = let i : a ≡ b = cc e in let j : x ≡ y = cc e in and_true (option_eq value_eq a b) (option_eq value_eq x y) ((optional_tells a b).1 i) ((optional_tells x y).1 j)
shape_itself (shape.Variant a) (shape.Variant b) e = let i : pairs a.items ≡ pairs b.items = ap cases_of e in list_itself pair_view (entry_eq (option_eq value_eq)) (pair_tells (option_eq value_eq) optional_tells) a.items b.items i where
  cases_of : DefinedType → List (Name × Option ValueType)
  cases_of (def.Variant v) = v.cases
  cases_of d = []
shape_itself (shape.Record a) (shape.Record b) e = let i : pairs a.items ≡ pairs b.items = ap fields_of e in list_itself pair_view (entry_eq value_eq) (pair_tells value_eq value_tells) a.items b.items i where
  fields_of : DefinedType → List (Name × ValueType)
  fields_of (def.Record v) = v.fields
  fields_of d = []
shape_itself (shape.Flags a) (shape.Flags b) e = let i : map string_bytes a.items ≡ map string_bytes b.items = ap flags_of e in list_itself string_bytes text_eq text_tells a.items b.items i where
  flags_of : DefinedType → List Name
  flags_of (def.Flags v) = v.0
  flags_of d = []
shape_itself (shape.Enum a) (shape.Enum b) e = let i : map string_bytes a.items ≡ map string_bytes b.items = ap names_in e in list_itself string_bytes text_eq text_tells a.items b.items i where
  names_in : DefinedType → List Name
  names_in (def.Enum v) = v.0
  names_in d = []
shape_itself (shape.Alias a) (shape.Alias b) e = let i : a ≡ b = cc e in (value_tells a b).1 i
shape_itself (shape.Stream a) (shape.Stream b) e = let i : a ≡ b = cc e in (optional_tells a b).1 i
shape_itself (shape.Future a) (shape.Future b) e = let i : a ≡ b = cc e in (optional_tells a b).1 i
shape_itself _ _ e = cc e

form_there : (a b : Form) → (FormEq.ghosts).eq a b ≡ true → (a.named ≡ b.named) × (shape_view a.shape ≡ shape_view b.shape)
form_there a b e =
    let (p, q) = both (option_eq id_eq a.named b.named) ((ShapeEq.ghosts).eq a.shape b.shape) e in
    (named_same a.named b.named p, same_shape a.shape b.shape q)

pub form_itself : (a b : Form) → a.named ≡ b.named → shape_view a.shape ≡ shape_view b.shape → (FormEq.ghosts).eq a b ≡ true
form_itself a b n v = and_true (option_eq id_eq a.named b.named) ((ShapeEq.ghosts).eq a.shape b.shape) (subst (λ o. option_eq id_eq a.named o ≡ true) n (named_itself a.named)) (shape_itself a.shape b.shape v)

bool_same : (p q : Bool) → (p ≡ true → q ≡ true) → (q ≡ true → p ≡ true) → p ≡ q
bool_same true q f g = sym (f refl)
bool_same false true f g = g refl
bool_same false false f g = refl

alike : (a b : Form) → a.named ≡ b.named → shape_view a.shape ≡ shape_view b.shape → (k : Form) → (FormEq.ghosts).eq a k ≡ (FormEq.ghosts).eq b k
alike a b n v k =
    bool_same ((FormEq.ghosts).eq a k) ((FormEq.ghosts).eq b k) (λ e. let (p, q) = form_there a k e in form_itself b k (sym n ∙ p) (sym v ∙ q))
    (λ e. let (p, q) = form_there b k e in form_itself a k (n ∙ p) (v ∙ q))

pub made_alike : (made : Made) (a b : Form) → a.named ≡ b.named → shape_view a.shape ≡ shape_view b.shape → made_in made a ≡ made_in made b
made_alike made a b n v = λ i. get_by (λ k. alike a b n v k i) made.ids

-- ---- one more definition

-- what was made stays so with one more definition
module _ (old new : Made) (f : Form) (id : DefinedTypeId) (put : HasMadeToo old f id new) where
  -- what is looked up is the new one, or was there
  looked_up : (k : Form) (e : DefinedTypeId) → made_in new k ≡ Some e → ((f.named ≡ k.named) × (shape_view f.shape ≡ shape_view k.shape) × (id ≡ e)) ⊎ (made_in old k ≡ Some e)
  looked_up k e is = elim (cases_Bool ((FormEq.ghosts).eq f k)) [
    | inl same ↦ let (p, q) = form_there f k same in inl (p, q, one_some id e (sym (put.ids k ∙ ap (λ b. cond b (Some id) (made_in old k)) same) ∙ is))
    | inr other ↦ inr (sym (put.ids k ∙ ap (λ b. cond b (Some id) (made_in old k)) other) ∙ is)
  ]

  module _ (m : Collection) (are : AreThere m old) (at : item_at m.defined id.0 ≡ Some (shape_view f.shape)) where
    is_there : (k : Form) (e : DefinedTypeId) → made_in new k ≡ Some e → item_at m.defined e.0 ≡ Some (shape_view k.shape)
    is_there k e is = elim (looked_up k e is) [
      | inl new ↦ subst (λ (x : DefinedTypeId). item_at m.defined x.0 ≡ Some (shape_view k.shape)) new.2 (at ∙ ap Some new.1)
      | inr before ↦ are.defined k e before
    ]

    pub there_too : AreThere m new
    there_too = record { defined = is_there; funcs = λ k g is. are.funcs k g (ap (λ fs. get (FuncFormEq.ghosts).eq fs k) (sym put.funcs) ∙ is) }

  -- where each key that has the id is of the same named type
  module _ (c : Collection) (t : NamedTypeOf) (are : AreApart c t old) (alone : (k : Form) → made_in old k ≡ Some id → k.named ≡ f.named) (own : HasDefined c id → f.named ≡ t id) where
    is_one : (g k : Form) (e : DefinedTypeId) → made_in new g ≡ Some e → made_in new k ≡ Some e → g.named ≡ k.named
    is_one g k e p q = elim (looked_up g e p) [
      | inl one ↦ elim (looked_up k e q) [
        | inl other ↦ sym one.0 ∙ other.0
        | inr before ↦ sym one.0 ∙ sym (alone k (before ∙ ap Some (sym one.2)))
      ]
      | inr before ↦ elim (looked_up k e q) [
        | inl other ↦ alone g (before ∙ ap Some (sym other.2)) ∙ other.0
        | inr both ↦ are.one g k e before both
      ]
    ]

    is_own : (k : Form) (e : DefinedTypeId) → made_in new k ≡ Some e → HasDefined c e → k.named ≡ t e
    is_own k e is held = elim (looked_up k e is) [
      | inl now ↦ sym now.0 ∙ (own (subst (λ (x : DefinedTypeId). HasDefined c x) (sym now.2) held) ∙ ap t now.2)
      | inr before ↦ are.own k e before held
    ]

    pub apart_too : AreApart c t new
    apart_too = record { one = is_one; own = is_own }

module _ (old new : Made) (f : Form) (id : DefinedTypeId) (put : HasMadeToo old f id new) where
  pub put_there : (k : Form) → k.named ≡ f.named → shape_view k.shape ≡ shape_view f.shape → made_in new k ≡ Some id
  put_there k n v = put.ids k ∙ ap (λ b. cond b (Some id) (made_in old k)) (form_itself f k (sym n) (sym v))

  put_stays_defined : ((e : DefinedTypeId) → made_in old f ≡ Some e → e ≡ id) → (k : Form) (e : DefinedTypeId) → made_in old k ≡ Some e → made_in new k ≡ Some e
  put_stays_defined one k e is = elim (cases_Bool ((FormEq.ghosts).eq f k)) [
    | inl same ↦ let (p, q) = form_there f k same in put.ids k ∙ ap (λ b. cond b (Some id) (made_in old k)) same ∙ ap Some (sym (one e (made_alike old f k p q ∙ is)))
    | inr other ↦ put.ids k ∙ ap (λ b. cond b (Some id) (made_in old k)) other ∙ is
  ]

  -- where the key had that id, if one
  pub put_stays : ((e : DefinedTypeId) → made_in old f ≡ Some e → e ≡ id) → StayMade old new
  put_stays one (form k) n is = put_stays_defined one k (record { 0 = n }) is
  put_stays one (func_form k) n is = ap (λ fs. get (FuncFormEq.ghosts).eq fs k) put.funcs ∙ is

-- the id that was there, or else another, which was put there
module _ (old new : Made) (f : Form) (id e : DefinedTypeId) (put : HasMadeToo old f e new) (is : e ≡ unwrap_or (made_in old f) id) where
  which : (made_in old f ≡ Some e) ⊎ ((made_in old f ≡ None) × (e ≡ id))
  which = by (made_in old f) refl is where
    by : (o : Option DefinedTypeId) → made_in old f ≡ o → e ≡ unwrap_or o id → (made_in old f ≡ Some e) ⊎ ((made_in old f ≡ None) × (e ≡ id))
    by None at same = inr (at, same)
    by (Some k) at same = inl (at ∙ ap Some (sym same))

  pub kept_defined : (m : Collection) → AreThere m old → item_at m.defined id.0 ≡ Some (shape_view f.shape) → item_at m.defined e.0 ≡ Some (shape_view f.shape)
  kept_defined m are at = elim which [
    | inl before ↦ are.defined f e before
    | inr own ↦ subst (λ (x : DefinedTypeId). item_at m.defined x.0 ≡ Some (shape_view f.shape)) (sym own.1) at
  ]

  pub kept_apart : (c : Collection) (t : NamedTypeOf) → HasDefined c id → f.named ≡ t id → AreApart c t old → AreApart c t new
  kept_apart c t held named are = elim which [
    | inl before ↦ apart_too old new f e put c t are (λ k at. are.one k f e at before) (λ h. are.own f e before h)
    | inr own ↦
        let is_named : f.named ≡ t e = named ∙ ap t (sym own.1) in
        apart_too old new f e put c t are (λ k at. are.own k e at (subst (λ (x : DefinedTypeId). HasDefined c x) (sym own.1) held) ∙ sym is_named) (λ h. is_named)
  ]

  pub kept_stay : StayMade old new
  kept_stay = put_stays old new f e put (λ k at. elim which [
    | inl before ↦ one_some k e (sym at ∙ before)
    | inr own ↦ cc (sym own.0 ∙ at)
  ])

  pub kept_itself : made_in old f ≡ None → e ≡ id
  kept_itself none = is ∙ ap (λ o. unwrap_or o id) none

-- ---- function types
func_form_there : (a b : FuncForm) → (FuncFormEq.ghosts).eq a b ≡ true → (a.func ≡ b.func) × (a.params.items ≡ b.params.items) × (a.result ≡ b.result)
func_form_there a b e =
    let (p, rest) = both (nat_eq a.func.0 b.func.0) (pointwise value_eq a.params.items b.params.items && option_eq value_eq a.result b.result) e in
    let (q, r) = both (pointwise value_eq a.params.items b.params.items) (option_eq value_eq a.result b.result) rest in
    (rw (eqb-true a.func.0 b.func.0 p) refl, (pointwise_decides value_tells a.params.items b.params.items).0 q, (optional_tells a.result b.result).0 r)

func_form_itself : (a b : FuncForm) → a.func ≡ b.func → a.params.items ≡ b.params.items → a.result ≡ b.result → (FuncFormEq.ghosts).eq a b ≡ true
func_form_itself a b f v r =
    and_true (nat_eq a.func.0 b.func.0) (pointwise value_eq a.params.items b.params.items && option_eq value_eq a.result b.result) (eq-eqb a.func.0 b.func.0 (ap (λ (x : FuncTypeId). x.0) f))
    (and_true (pointwise value_eq a.params.items b.params.items) (option_eq value_eq a.result b.result) ((pointwise_decides value_tells a.params.items b.params.items).1 v) ((optional_tells a.result b.result).1 r))

func_alike : (a b : FuncForm) → a.func ≡ b.func → a.params.items ≡ b.params.items → a.result ≡ b.result → (k : FuncForm) → (FuncFormEq.ghosts).eq a k ≡ (FuncFormEq.ghosts).eq b k
func_alike a b f v r k =
    bool_same ((FuncFormEq.ghosts).eq a k) ((FuncFormEq.ghosts).eq b k) (λ e. let (p, q, s) = func_form_there a k e in func_form_itself b k (sym f ∙ p) (sym v ∙ q) (sym r ∙ s))
    (λ e. let (p, q, s) = func_form_there b k e in func_form_itself a k (f ∙ p) (v ∙ q) (r ∙ s))

-- a function type that became the same twice has one id
pub func_made_alike : (made : Made) (a b : FuncForm) → a.func ≡ b.func → a.params.items ≡ b.params.items → a.result ≡ b.result → func_made_in made a ≡ func_made_in made b
func_made_alike made a b f v r = λ i. get_by (λ k. func_alike a b f v r k i) made.funcs

-- names and values tell fields apart
same_fields : {V : Type 0} (es fs : List (Name × V)) → map (λ e. e.0) es ≡ map (λ e. e.0) fs → seconds es ≡ seconds fs → es ≡ fs
same_fields [] [] n v = refl
same_fields [] (f ∷ fs) n v = cc n
same_fields (e ∷ es) [] n v = cc n
same_fields (e ∷ es) (f ∷ fs) n v =
    let first : e.0 ≡ f.0 = cc n in
    let second : e.1 ≡ f.1 = cc v in
    let names : map (λ x. x.0) es ≡ map (λ x. x.0) fs = cc n in
    let values : seconds es ≡ seconds fs = cc v in
    let rest = same_fields es fs names values in
    (λ i. (first i, second i) ∷ rest i)

-- function types that are called as a third, with the same parameters and the same result, are one
same_func_type : (b x y : FuncType) → AreCalledAlike b x → AreCalledAlike b y → seconds x.params ≡ seconds y.params → x.result ≡ y.result → x ≡ y
same_func_type b x y p q e result =
    let params = same_fields x.params y.params (p.1 ∙ sym q.1) e in
    let async = p.0 ∙ sym q.0 in
    (λ i. record { params = params i; result = result i; is_async = async i })

-- a function type of a form is any that is called as that one, with the same parameters and the same result
pub is_of_form : (m : Collection) (k : FuncForm) (g : FuncTypeId) (y : FuncType) → IsOfForm m k g → IsCalledAlike m k.func y → k.params.items ≡ seconds y.params → k.result ≡ y.result → item_at m.funcs g.0 ≡ Some y
is_of_form m k g y of (b, at, alike) v r =
    let (a, at_a, alike_a) = of.alike in
    let same : a ≡ b = one_some a b (sym at_a ∙ at) in
    of.is ∙ ap Some (same_func_type b of.after y (subst (λ (z : FuncType). AreCalledAlike z of.after) same alike_a) alike (of.params ∙ v) (of.result ∙ r))

module _ (m : Collection) (old new : Made) (f : FuncForm) (id : FuncTypeId) (put : HasMadeFuncToo old f id new) where
  of_form_alike : (k : FuncForm) → f.func ≡ k.func → f.params.items ≡ k.params.items → f.result ≡ k.result → IsOfForm m f id → IsOfForm m k id
  of_form_alike k p q r of = record {
    after = of.after;
    is = of.is;
    alike = subst (λ (x : FuncTypeId). IsCalledAlike m x of.after) p of.alike;
    changed = subst (λ (x : FuncTypeId). item_at m.funcs x.0 ≡ Some of.after → ⊥) p of.changed;
    params = of.params ∙ q;
    result = of.result ∙ r;
  }

  of_form : AreThere m old → IsOfForm m f id → (k : FuncForm) (g : FuncTypeId) → func_made_in new k ≡ Some g → IsOfForm m k g
  of_form are of k g is = elim (cases_Bool ((FuncFormEq.ghosts).eq f k)) [
    | inl same ↦ let (p, q, r) = func_form_there f k same in subst (λ (x : FuncTypeId). IsOfForm m k x) (one_some id g (sym (put.funcs k ∙ ap (λ b. cond b (Some id) (func_made_in old k)) same) ∙ is)) (of_form_alike k p q r of)
    | inr other ↦ are.funcs k g (sym (put.funcs k ∙ ap (λ b. cond b (Some id) (func_made_in old k)) other) ∙ is)
  ]

  -- with one more function type
  pub func_there_too : AreThere m old → IsOfForm m f id → AreThere m new
  func_there_too are of = record { defined = λ k e is. are.defined k e (ap (λ fs. get (FormEq.ghosts).eq fs k) (sym put.ids) ∙ is); funcs = of_form are of }

  pub func_apart_too : (c : Collection) (t : NamedTypeOf) → AreApart c t old → AreApart c t new
  func_apart_too c t are = record {
    one = λ g k e p q. are.one g k e (ap (λ fs. get (FormEq.ghosts).eq fs g) (sym put.ids) ∙ p) (ap (λ fs. get (FormEq.ghosts).eq fs k) (sym put.ids) ∙ q);
    own = λ k e is held. are.own k e (ap (λ fs. get (FormEq.ghosts).eq fs k) (sym put.ids) ∙ is) held;
  }

  pub func_there : func_made_in new f ≡ Some id
  func_there = put.funcs f ∙ ap (λ b. cond b (Some id) (func_made_in old f)) (func_form_itself f f refl refl refl)

  pub func_put_stays : ((g : FuncTypeId) → func_made_in old f ≡ Some g → ⊥) → StayMade old new
  func_put_stays free (form k) n is = ap (λ fs. get (FormEq.ghosts).eq fs k) put.ids ∙ is
  func_put_stays free (func_form k) n is = elim (cases_Bool ((FuncFormEq.ghosts).eq f k)) [
    | inl same ↦ let (p, q, r) = func_form_there f k same in absurd (free (record { 0 = n }) (func_made_alike old f k p q r ∙ is))
    | inr other ↦ put.funcs k ∙ ap (λ b. cond b (Some id) (func_made_in old k)) other ∙ is
  ]
