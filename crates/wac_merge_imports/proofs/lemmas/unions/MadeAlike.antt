-- What became of one type twice is one type: of value types without handles, of functions of such, and of function types that became the same.
use Rattle.std.proofs.Common.{◌≡◌, ℕ, List, slice_get, Some, None, refl, ◌⊎◌, inl, inr, sym, ap, ◌∙◌, subst}
use Rattle.wac_types_shapes.specs.declared.shapes.component.DefinedType.{DefinedType}
use Rattle.wac_types_shapes.specs.declared.shapes.component.DefinedType.TheVariants as def
use Rattle.wac_types_shapes.specs.declared.shapes.component.DefinedTypeId.{DefinedTypeId}
use Rattle.wac_types_shapes.specs.declared.shapes.component.FuncType.{FuncType}
use Rattle.wac_types_shapes.specs.declared.shapes.component.FuncTypeId.{FuncTypeId}
use Rattle.wac_types_shapes.specs.declared.shapes.component.Interface.{Interface}
use Rattle.wac_types_shapes.specs.declared.shapes.component.ItemKind.{ItemKind}
use Rattle.wac_types_shapes.specs.declared.shapes.component.ItemKind.TheVariants as kind
use Rattle.wac_types_shapes.specs.declared.primitives.component.PrimitiveType.{PrimitiveType}
use Rattle.wac_types_shapes.specs.declared.shapes.component.ResourceId.{ResourceId}
use Rattle.wac_types_shapes.specs.declared.shapes.component.ValueType.{ValueType}
use Rattle.wac_types_shapes.specs.declared.shapes.component.ValueType.TheVariants as val
use Rattle.wac_types_shapes.specs.declared.shapes.component.«Type».TheVariants as ty
use Rattle.wac_types_collection.specs.collection.Collection.{Collection, defined_values, func_values, item_at, seconds}
use Rattle.wac_merge_classes.specs.entries.Bindings.{ClassBindings}
use Rattle.wac_merge_classes.specs.entries.Classes.{Entry}
use Rattle.wac_merge_classes.specs.terms.Became.{became}
use Rattle.wac_merge_classes.specs.terms.Values.{definition}
use Rattle.wac_merge_classes.specs.declared.terms.fresh.Fresh.{Fresh}
use Rattle.wac_merge_classes.specs.declared.terms.parts.Part.{Part}
use Rattle.wac_merge_classes.specs.declared.terms.parts.Union.{Union}
use Rattle.wac_merge_classes.proofs.lemmas.terms.Found.{one_some, some_same}
use Rattle.wac_merge_resources.specs.values.NamedTypes.{named_type}
use Rattle.wac_merge_resources.specs.declared.values.named.NamedTypes.{NamedTypes}
use Rattle.wac_merge_tables.specs.made.Made.{AreThere, IsFuncMadeFor, IsMadeFor}
use Rattle.wac_merge_resources.specs.renaming.MadeOf.{IsFuncMadeOf, IsKindMadeOf, IsMadeOf, alias, anew, func_outline, other_name, outline, plain, plain_value}
use Rattle.wac_merge_tables.specs.declared.made.made.Made.{Made}
use Rattle.wac_merge_tables.proofs.lemmas.made.MadeForms.{func_made_alike, made_alike}
use Rattle.wac_merge_resources.proofs.lemmas.renaming.Outlines.{AreBesideAlike, func_outline_many, func_outline_same, outline_many, outline_same}
use Rattle.wac_merge_imports.specs.unions.OneId.{AreMadeOnce, FuncBecame, func_of, of_entry, under_name}
use Rattle.wac_merge_imports.specs.unions.OneInterface.{HasNoHandle, defined, primitive}
use Rattle.wac_merge_imports.specs.unions.WritingSteps.{AreItemsMadeOf}
use Rattle.wac_merge_imports.proofs.lemmas.unions.OneIds.{items-at}

pub defined-of : (w : ValueType) (e : DefinedTypeId) → definition w ≡ Some e → w ≡ val.Defined e
defined-of (val.Defined d) e is = ap val.Defined (some_same d e is)
defined-of (val.Primitive p) e is = cc is
defined-of (val.Own r) e is = cc is
defined-of (val.Borrow r) e is = cc is

pub end-listed : (y : DefinedType) (end : DefinedTypeId) → other_name y ≡ Some end → slice_get (defined_values y) 0 ≡ Some (val.Defined end)
end-listed (def.Alias (val.Defined d)) end is = ap (λ (e : DefinedTypeId). Some (val.Defined e)) (some_same d end is)
end-listed y end is = cc is

-- what became of a value type without a definition
no-definition : (c : Collection) (f : ResourceId → ResourceId) (v w : ValueType) → plain_value c f v ≡ Some w → definition v ≡ None
no-definition c f (val.Primitive p) w is = refl
no-definition c f (val.Own r) w is = refl
no-definition c f (val.Borrow r) w is = refl
no-definition c f (val.Defined d) w is = cc is

no-primitive : (v : ValueType) (p : PrimitiveType) (d : DefinedTypeId) → v ≡ val.Primitive p → definition v ≡ Some d → ⊥
no-primitive v p d is here = cc (sym here ∙ ap definition is)

module _ (c : Collection) (t : NamedTypes) (made : Made) where
  -- a definition is told by where it stands
  item-is : (d k : DefinedTypeId) (x y : DefinedType) (v : ValueType) → v ≡ val.Defined d → definition v ≡ Some k → item_at c.defined d.0 ≡ Some x → item_at c.defined k.0 ≡ Some y → (k ≡ d) × (y ≡ x)
  item-is d k x y v is here at there =
      let same : k ≡ d = some_same k d (sym here ∙ ap definition is) in
      (same, some_same y x (sym there ∙ ap (λ (e : DefinedTypeId). item_at c.defined e.0) same ∙ at))

  -- a definition is no plain value type
  not-plain : (f : ResourceId → ResourceId) (v w : ValueType) (d : DefinedTypeId) → definition v ≡ Some d → plain_value c f v ≡ Some w → ⊥
  not-plain f v w d is free = cc (sym is ∙ no-definition c f v w free)

  -- an alias is the definition that it refers to, whichever way it is read
  alias-once : (v : ValueType) (d k end last : DefinedTypeId) (y z : DefinedType) → definition v ≡ Some d → definition v ≡ Some k → item_at c.defined d.0 ≡ Some y → item_at c.defined k.0 ≡ Some z → other_name y ≡ Some end → other_name z ≡ Some last → last ≡ end
  alias-once v d k end last y z p q at there o n =
      let same : k ≡ d = some_same k d (sym q ∙ p) in
      let item : z ≡ y = some_same z y (sym there ∙ ap (λ (e : DefinedTypeId). item_at c.defined e.0) same ∙ at) in
      some_same last end (sym n ∙ ap other_name item ∙ o)

  alias-apart : (v : ValueType) (d k end : DefinedTypeId) (y z : DefinedType) → definition v ≡ Some d → definition v ≡ Some k → item_at c.defined d.0 ≡ Some y → item_at c.defined k.0 ≡ Some z → other_name y ≡ Some end → other_name z ≡ None → ⊥
  alias-apart v d k end y z p q at there o n =
      let same : k ≡ d = some_same k d (sym q ∙ p) in
      let item : z ≡ y = some_same z y (sym there ∙ ap (λ (e : DefinedTypeId). item_at c.defined e.0) same ∙ at) in
      cc (sym n ∙ ap other_name item ∙ o)

  -- what was made of one definition with the same parts is one
  made-same : (v w z : ValueType) (a b e g : DefinedTypeId) (p q x u : DefinedType) → definition v ≡ Some a → definition v ≡ Some b → item_at c.defined a.0 ≡ Some p → item_at c.defined b.0 ≡ Some q → definition w ≡ Some e → definition z ≡ Some g
      → IsMadeFor made (named_type t a) x e → IsMadeFor made (named_type t b) u g → outline x ≡ outline p → outline u ≡ outline q → ((i : ℕ) (r m k : ValueType) → slice_get (defined_values p) i ≡ Some r → slice_get (defined_values x) i ≡ Some m → slice_get (defined_values q) i ≡ Some r → slice_get (defined_values u) i ≡ Some k → m ≡ k) → w ≡ z
  made-same v w z a b e g p q x u here also there where_to into to_this for other out bare parts =
      let same_id : b ≡ a = some_same b a (sym also ∙ here) in
      let item : q ≡ p = some_same q p (sym where_to ∙ ap (λ (d : DefinedTypeId). item_at c.defined d.0) same_id ∙ there) in
      let bare_p : outline u ≡ outline p = bare ∙ ap outline item in
      let values : AreBesideAlike (defined_values x) (defined_values u) =
      λ i m k at_m at_k.
      let (r, at_r) = outline_many x p out i m at_m in
      parts i r m k at_r at_m (ap (λ (l : DefinedType). slice_get (defined_values l) i) item ∙ at_r) at_k in
      let same : x ≡ u = outline_same x u (out ∙ sym bare_p) values in
      let (form, named, shape, found) = for in
      let (form_too, named_too, shape_too, found_too) = other in
      let ids : e ≡ g = some_same e g (sym found ∙ sym (made_alike made form_too form (named_too ∙ ap (named_type t) same_id ∙ sym named) (shape_too ∙ sym same ∙ sym shape)) ∙ found_too) in
      defined-of w e into ∙ (ap val.Defined ids ∙ sym (defined-of z g to_this))

  -- a value type without handles became one, wherever it is rewritten
  pub value-once : (f h : ResourceId → ResourceId) (v w z : ValueType) → HasNoHandle c v → IsMadeOf c f t made v w → IsMadeOf c h t made v z → w ≡ z
  value-once f h v w z (primitive _ p is) (plain _ _ one) (plain _ _ two) = some_same w z (sym one ∙ (ap (plain_value c f) is ∙ (sym (ap (plain_value c h) is) ∙ two)))
  value-once f h v w z (primitive _ p is) (plain _ _ one) (alias _ _ d end y here at o r) = absurd (no-primitive v p d is here)
  value-once f h v w z (primitive _ p is) (plain _ _ one) (anew _ _ d e y x here into at o for out parts) = absurd (no-primitive v p d is here)
  value-once f h v w z (primitive _ p is) (alias _ _ d end y here at o r) other = absurd (no-primitive v p d is here)
  value-once f h v w z (primitive _ p is) (anew _ _ d e y x here into at o for out parts) other = absurd (no-primitive v p d is here)
  value-once f h v w z (defined _ d y is at inner) (plain _ _ one) other = absurd (not-plain f v w d (ap definition is) one)
  value-once f h v w z (defined _ d y is at inner) (alias _ _ a end p here there o r) (plain _ _ two) = absurd (not-plain h v z a here two)
  value-once f h v w z (defined _ d y is at inner) (alias _ _ a end p here there o r) (alias _ _ b last q also where_to n k) =
      let first = item-is d a y p v is here at there in
      let one : other_name y ≡ Some end = ap other_name (sym first.1) ∙ o in
      let ends : last ≡ end = alias-once v a b end last p q here also there where_to o n in
      value-once f h (val.Defined end) w z (inner 0 (val.Defined end) (end-listed y end one)) r (subst (λ (e : DefinedTypeId). IsMadeOf c h t made (val.Defined e) z) ends k)
  value-once f h v w z (defined _ d y is at inner) (alias _ _ a end p here there o r) (anew _ _ b e q x also into where_to n for out parts) = absurd (alias-apart v a b end p q here also there where_to o n)
  value-once f h v w z (defined _ d y is at inner) (anew _ _ a e p x here into there o for out parts) (plain _ _ two) = absurd (not-plain h v z a here two)
  value-once f h v w z (defined _ d y is at inner) (anew _ _ a e p x here into there o for out parts) (alias _ _ b last q also where_to n k) = absurd (alias-apart v b a last q p also here where_to there n o)
  value-once f h v w z (defined _ d y is at inner) (anew _ _ a e p x here into there o for out parts) (anew _ _ b g q u also to_this where_to n other bare pieces) =
      let first = item-is d a y p v is here at there in
      made-same v w z a b e g p q x u here also there where_to into to_this for other out bare (λ i r m k at_r at_m at_q at_k.
      value-once f h r m k (inner i r (ap (λ (l : DefinedType). slice_get (defined_values l) i) (sym first.1) ∙ at_r)) (parts i r m at_r at_m) (pieces i r k at_q at_k))

  -- a value type became one where resources become the same
  pub made-once : (f : ResourceId → ResourceId) (v w z : ValueType) → IsMadeOf c f t made v w → IsMadeOf c f t made v z → w ≡ z
  made-once f v w z (plain _ _ one) (plain _ _ two) = some_same w z (sym one ∙ two)
  made-once f v w z (plain _ _ one) (alias _ _ d end y here at o r) = absurd (not-plain f v w d here one)
  made-once f v w z (plain _ _ one) (anew _ _ d e y x here into at o for out parts) = absurd (not-plain f v w d here one)
  made-once f v w z (alias _ _ a end p here there o r) (plain _ _ two) = absurd (not-plain f v z a here two)
  made-once f v w z (alias _ _ a end p here there o r) (alias _ _ b last q also where_to n k) =
      let ends : last ≡ end = alias-once v a b end last p q here also there where_to o n in
      made-once f (val.Defined end) w z r (subst (λ (e : DefinedTypeId). IsMadeOf c f t made (val.Defined e) z) ends k)
  made-once f v w z (alias _ _ a end p here there o r) (anew _ _ b e q x also into where_to n for out parts) = absurd (alias-apart v a b end p q here also there where_to o n)
  made-once f v w z (anew _ _ a e p x here into there o for out parts) (plain _ _ two) = absurd (not-plain f v z a here two)
  made-once f v w z (anew _ _ a e p x here into there o for out parts) (alias _ _ b last q also where_to n k) = absurd (alias-apart v b a last q p also here where_to there n o)
  made-once f v w z (anew _ _ a e p x here into there o for out parts) (anew _ _ b g q u also to_this where_to n other bare pieces) =
      made-same v w z a b e g p q x u here also there where_to into to_this for other out bare (λ i r m k at_r at_m at_q at_k. made-once f r m k (parts i r m at_r at_m) (pieces i r k at_q at_k))

  module _ (m : Collection) where
    -- what was made of a function type is another than it
    made-another : AreThere m made → (f g h : FuncTypeId) (x y : FuncType) → g ≡ f → item_at m.funcs g.0 ≡ Some x → item_at m.funcs h.0 ≡ Some y → x ≡ y → IsFuncMadeFor made f y h → ⊥
    made-another are f g h x y itself at_g at_h same (k, of, params, result, found) =
        let form = are.funcs k h found in
        form.changed (ap (λ (z : FuncTypeId). item_at m.funcs z.0) (of ∙ sym itself) ∙ at_g ∙ ap Some same ∙ sym at_h ∙ form.is)

    -- a function type that became the same twice became one
    pub func-alike : AreThere m made → (k l : ResourceId → ResourceId) (f g h : FuncTypeId) (one : IsFuncMadeOf c m k t made f g) (two : IsFuncMadeOf c m l t made f h) → one.after ≡ two.after → g ≡ h
    func-alike are k l f g h one two same = by one.once two.once where
      by : (g ≡ f) ⊎ IsFuncMadeFor made f one.after g → (h ≡ f) ⊎ IsFuncMadeFor made f two.after h → g ≡ h
      by (inl p) (inl q) = p ∙ sym q
      by (inl p) (inr q) = absurd (made-another are f g h one.after two.after p one.became two.became same q)
      by (inr p) (inl q) = absurd (made-another are f h g two.after one.after q two.became one.became (sym same) p)
      by (inr (form, of, params, result, found)) (inr (form_too, of_too, params_too, result_too, found_too)) =
          one_some _ g h found
          (sym (func_made_alike made form_too form (of_too ∙ sym of) (params_too ∙ ap (λ (x : FuncType). seconds x.params) (sym same) ∙ sym params) (result_too ∙ ap (λ (x : FuncType). x.result) (sym same) ∙ sym result)) ∙ found_too)

    -- so did one whose value types became the same
    func-same : AreThere m made → (k l : ResourceId → ResourceId) (f g h : FuncTypeId) → ((x : FuncType) (i : ℕ) (v w z : ValueType) → item_at c.funcs f.0 ≡ Some x → slice_get (func_values x) i ≡ Some v → IsMadeOf c k t made v w → IsMadeOf c l t made v z → w ≡ z)
        → IsFuncMadeOf c m k t made f g → IsFuncMadeOf c m l t made f h → g ≡ h
    func-same are k l f g h each one two =
        let before : two.before ≡ one.before = one_some (item_at c.funcs f.0) two.before one.before two.is one.is in
        let out : func_outline two.after ≡ func_outline one.before = two.outlined ∙ ap func_outline before in
        let values : AreBesideAlike (func_values one.after) (func_values two.after) =
        λ i a b at_a at_b.
        let (r, at_r) = func_outline_many one.after one.before one.outlined i a at_a in
        each one.before i r a b one.is at_r (one.values i r a at_r at_a) (two.values i r b (ap (λ (x : FuncType). slice_get (func_values x) i) before ∙ at_r) at_b) in
        func-alike are k l f g h one two (func_outline_same one.after two.after (one.outlined ∙ sym out) values)

    pub func-once : AreThere m made → (k l : ResourceId → ResourceId) (f g h : FuncTypeId) → ((x : FuncType) → item_at c.funcs f.0 ≡ Some x → (i : ℕ) (v : ValueType) → slice_get (func_values x) i ≡ Some v → HasNoHandle c v) → IsFuncMadeOf c m k t made f g → IsFuncMadeOf c m l t made f h → g ≡ h
    func-once are k l f g h none one two = func-same are k l f g h (λ x i v w z at at_v p q. value-once k l v w z (none x at i v at_v) p q) one two

    pub func-made-once : AreThere m made → (k : ResourceId → ResourceId) (f g h : FuncTypeId) → IsFuncMadeOf c m k t made f g → IsFuncMadeOf c m k t made f h → g ≡ h
    func-made-once are k f g h one two = func-same are k k f g h (λ x i v w z at at_v p q. made-once k v w z p q) one two

    kind-func : (e : ResourceId → ResourceId) (k l : ItemKind) (f g : FuncTypeId) → func_of k ≡ Some f → func_of l ≡ Some g → IsKindMadeOf c m e t made k l → IsFuncMadeOf c m e t made f g
    kind-func e (kind.Func a) (kind.Func b) f g p q h = subst (λ (x : FuncTypeId). IsFuncMadeOf c m e t made x g) (some_same a f p) (subst (λ (x : FuncTypeId). IsFuncMadeOf c m e t made a x) (some_same b g q) h)
    kind-func e (kind.TypeItem (ty.Func a)) (kind.TypeItem (ty.Func b)) f g p q h = subst (λ (x : FuncTypeId). IsFuncMadeOf c m e t made x g) (some_same a f p) (subst (λ (x : FuncTypeId). IsFuncMadeOf c m e t made a x) (some_same b g q) h)
    kind-func e k (kind.TypeItem (ty.Resource r)) f g p q h = cc q
    kind-func e (kind.Func a) l f g p q h = absurd h
    kind-func e (kind.TypeItem (ty.Func a)) l f g p q h = absurd h
    kind-func e k l f g p q h = cc p

-- ---- function types of a merge
module _ (c m : Collection) (es : List Entry) (us : List Union) (ps : List Part) (bs : ClassBindings) (f : Fresh) (t : NamedTypes) (positions order : List ℕ) (imports : List Entry) (once : AreMadeOnce c m es us ps bs f t positions order imports) where
  mention-func : (a b : FuncTypeId) → FuncBecame c m es imports us once.written.ws positions order a b → (g : ResourceId → ResourceId) × IsFuncMadeOf c m g t once.made a b
  mention-func a b (under_name _ _ u i x y it e k at there is p q of to) =
      let h = once.unions u x y at there in
      let in_part = λ (n : ℕ). became c ps bs f (Some n) in
      let same : h.interface ≡ it = one_some (item_at m.interfaces y.0) h.interface it h.there is in
      (in_part e.1.part, kind-func c t once.made m (in_part e.1.part) e.1.kind k.1 a b of to (items-at c m in_part t once.made x.exports it.exports i e k (subst (λ (z : Interface). AreItemsMadeOf c m in_part t once.made x.exports z.exports) same h.items) p q))
  mention-func a b (of_entry _ _ p k q e x at_p at_k at_q at_x of to) = (became c ps bs f None, kind-func c t once.made m (became c ps bs f None) e.kind x.kind a b of to (once.imported p k q e x at_p at_k at_q at_x))

  pub one-func : (a g h : FuncTypeId) (x : FuncType) → FuncBecame c m es imports us once.written.ws positions order a g → FuncBecame c m es imports us once.written.ws positions order a h → item_at m.funcs g.0 ≡ Some x → item_at m.funcs h.0 ≡ Some x → g ≡ h
  one-func a g h x p q at_g at_h =
      let (k, one) = mention-func a g p in
      let (l, two) = mention-func a h q in
      func-alike c t once.made m once.are.there k l a g h one two (one_some (item_at m.funcs g.0) one.after x one.became at_g ∙ sym (one_some (item_at m.funcs h.0) two.after x two.became at_h))
