-- What parts list, grouped by name: what is under each, in which order the names are, and that nothing is lost.
use Rattle.std.proofs.Common.{◌≡◌, ◌≢◌, ℕ, ◌+◌, Bool, true, false, cond, ◌||◌, List, [], ◌∷◌, ◌++◌, map, slice_get, Option, Some, None, inl, inr, refl, sym, ap, ◌∙◌, subst, arith, append_assoc}
use Rattle.std.specs.List.{AllByRecursion, list_any}
use Rattle.std.proofs.lemmas.Bool.{cases_Bool}
use Rattle.std.proofs.lemmas.List.{append-nil}
use Rattle.wac_types_shapes.specs.primitives.Name.{Name, same_name, find_name, option_case}
use Rattle.wac_types_shapes.specs.shapes.Named.{NoNameTwice, names_of}
use Rattle.wac_types_collection.specs.collection.Collection.{Collection, IsWellFormed, kind_types, interface_exports, IsBefore}
use Rattle.wac_types_shapes.specs.shapes.Kinds.{kind_type}
use Rattle.wac_types_shapes.specs.declared.shapes.component.ItemKind.{ItemKind}
use Rattle.wac_types_shapes.proofs.lemmas.shapes.Names.{same_name-true, same_name-from}
use Rattle.wac_types_collection.proofs.lemmas.collection.Growth.{type_within}
use Rattle.wac_merge_classes.specs.entries.Scopes.{opened, opened_by}
use Rattle.wac_merge_classes.specs.entries.Opening.{total, count_in}
use Rattle.wac_merge_classes.specs.declared.entries.scopes.Opener.{Opener}
use Rattle.wac_merge_classes.specs.declared.entries.scopes.Opener.TheVariants as opener
use Rattle.wac_merge_classes.specs.declared.terms.parts.Part.{Part}
use Rattle.wac_merge_classes.specs.terms.Merge.{with_names, names_behind}
use Rattle.wac_merge_classes.specs.terms.Unions.{part_lists, listed_under}
use Rattle.wac_merge_unions.specs.private.uniting.UnionSteps.{with_listed, with_all_listed, grouped, IsHeldPart, IsHeldListing, IsHeldGroup, listed_weight, parts_weight, kind_weight, group_weight, groups_weight}
use Rattle.wac_merge_classes.proofs.lemmas.entries.Opening.{lists}
use Rattle.wac_merge_unions.proofs.lemmas.uniting.UnionLists.{all_push}

abbrev Groups : Type 0
Groups = List (Name × List (ℕ × ItemKind))

-- what is under a name
abbrev pub under : Groups → Name → List (ℕ × ItemKind)
under gs n = option_case (find_name gs n) [] (λ ls. ls)

abbrev one_where : Bool → ℕ × ItemKind → List (ℕ × ItemKind)
one_where b l = cond b (l ∷ []) []

-- ---- what is under a name

under_first : (b : Bool) (l : ℕ × ItemKind) → option_case (cond b (Some (l ∷ [])) None) [] (λ ls. ls) ≡ one_where b l
under_first true l = refl
under_first false l = refl

other_name : (m n k : Name) → same_name n k ≡ false → same_name m k ≡ true → same_name m n ≡ false
other_name m n k f t = elim (cases_Bool (same_name m n)) [
  | inl s ↦
      let same : n ≡ k = sym (same_name-true m n s) ∙ same_name-true m k t in
      let no : true ≡ false = sym (same_name-from n k same) ∙ f in
      cc
  | inr g ↦ g
]

pub under_listed : (gs : Groups) (n : Name) (l : ℕ × ItemKind) (m : Name) → under (with_listed gs n l) m ≡ under gs m ++ one_where (same_name m n) l
under_listed [] n l m = under_first (same_name m n) l
under_listed (g ∷ gs) n l m = elim (cases_Bool (same_name n g.0)) [
  | inl t ↦
      let same : same_name m n ≡ same_name m g.0 = ap (same_name m) (same_name-true n g.0 t) in
      ap (λ b. under (cond b ((g.0, g.1 ++ l ∷ []) ∷ gs) (g ∷ with_listed gs n l)) m) t
      ∙ here (same_name m g.0)
      ∙ ap (λ b. under (g ∷ gs) m ++ one_where b l) (sym same)
  | inr f ↦
      ap (λ b. under (cond b ((g.0, g.1 ++ l ∷ []) ∷ gs) (g ∷ with_listed gs n l)) m) f
      ∙ elim (cases_Bool (same_name m g.0)) [
        | inl s ↦
            let not : same_name m n ≡ false = other_name m n g.0 f s in
            ap (λ b. option_case (cond b (Some g.1) (find_name (with_listed gs n l) m)) [] (λ ls. ls)) s
            ∙ sym (append-nil g.1)
            ∙ ap (λ b. option_case (cond b (Some g.1) (find_name gs m)) [] (λ ls. ls) ++ []) (sym s)
            ∙ ap (λ b. under (g ∷ gs) m ++ one_where b l) (sym not)
        | inr s ↦
            ap (λ b. option_case (cond b (Some g.1) (find_name (with_listed gs n l) m)) [] (λ ls. ls)) s
            ∙ under_listed gs n l m
            ∙ ap (λ b. option_case (cond b (Some g.1) (find_name gs m)) [] (λ ls. ls) ++ one_where (same_name m n) l) (sym s)
      ]
] where
  -- both are the first of the two, or what is behind it
  here : (b : Bool) → option_case (cond b (Some (g.1 ++ l ∷ [])) (find_name gs m)) [] (λ ls. ls) ≡ option_case (cond b (Some g.1) (find_name gs m)) [] (λ ls. ls) ++ one_where b l
  here true = refl
  here false = sym (append-nil (option_case (find_name gs m) [] (λ ls. ls)))

abbrev one_of : ℕ → Option ItemKind → List (ℕ × ItemKind)
one_of p o = option_case o [] (λ k. (p, k) ∷ [])

under_all : (gs : Groups) (p : ℕ) (es : List (Name × ItemKind)) (m : Name) → NoNameTwice es → under (with_all_listed gs p es) m ≡ under gs m ++ one_of p (find_name es m)
under_all gs p [] m once = sym (append-nil (under gs m))
under_all gs p (e ∷ es) m once =
    under_all (with_listed gs e.0 (p, e.1)) p es m once.1
    ∙ ap (λ x. x ++ one_of p (find_name es m)) (under_listed gs e.0 (p, e.1) m)
    ∙ append_assoc (under gs m) (one_where (same_name m e.0) (p, e.1)) (one_of p (find_name es m))
    ∙ ap (λ x. under gs m ++ x) (elim (cases_Bool (same_name m e.0)) [
      | inl t ↦
          let none : find_name es m ≡ None = ap (find_name es) (same_name-true m e.0 t) ∙ once.0 in
          ap (λ b. one_where b (p, e.1) ++ one_of p (find_name es m)) t
          ∙ ap (λ o. (p, e.1) ∷ one_of p o) none
          ∙ ap (λ b. one_of p (cond b (Some e.1) (find_name es m))) (sym t)
      | inr f ↦
          ap (λ b. one_where b (p, e.1) ++ one_of p (find_name es m)) f
          ∙ ap (λ b. one_of p (cond b (Some e.1) (find_name es m))) (sym f)
    ])

one_then : (p : ℕ) (o : Option ItemKind) (rest : List (ℕ × ItemKind)) → one_of p o ++ rest ≡ option_case o rest (λ k. (p, k) ∷ rest)
one_then p None rest = refl
one_then p (Some k) rest = refl

pub under_grouped : (c : Collection) (ps : List Part) (gs : Groups) (xs : List ℕ) (m : Name) → AllByRecursion (λ p. NoNameTwice (part_lists c ps p)) xs → under (grouped c ps gs xs) m ≡ under gs m ++ listed_under c ps xs m
under_grouped c ps gs [] m once = sym (append-nil (under gs m))
under_grouped c ps gs (p ∷ xs) m once =
    under_grouped c ps (with_all_listed gs p (part_lists c ps p)) xs m once.1
    ∙ ap (λ x. x ++ listed_under c ps xs m) (under_all gs p (part_lists c ps p) m once.0)
    ∙ append_assoc (under gs m) (one_of p (find_name (part_lists c ps p) m)) (listed_under c ps xs m)
    ∙ ap (λ x. under gs m ++ x) (one_then p (find_name (part_lists c ps p) m) (listed_under c ps xs m))

-- ---- the names

first_or : (b : Bool) (n : Name) (ns : List Name) (k : Name) → n ∷ cond b ns (ns ++ k ∷ []) ≡ cond b (n ∷ ns) (n ∷ ns ++ k ∷ [])
first_or true n ns k = refl
first_or false n ns k = refl

names_listed : (gs : Groups) (n : Name) (l : ℕ × ItemKind) → names_of (with_listed gs n l) ≡ cond (list_any (same_name n) (names_of gs)) (names_of gs) (names_of gs ++ n ∷ [])
names_listed [] n l = refl
names_listed (g ∷ gs) n l = elim (cases_Bool (same_name n g.0)) [
  | inl t ↦
      ap (λ b. names_of (cond b ((g.0, g.1 ++ l ∷ []) ∷ gs) (g ∷ with_listed gs n l))) t
      ∙ ap (λ b. cond (b || list_any (same_name n) (names_of gs)) (names_of (g ∷ gs)) (names_of (g ∷ gs) ++ n ∷ [])) (sym t)
  | inr f ↦
      ap (λ b. names_of (cond b ((g.0, g.1 ++ l ∷ []) ∷ gs) (g ∷ with_listed gs n l))) f
      ∙ ap (λ r. g.0 ∷ r) (names_listed gs n l)
      ∙ first_or (list_any (same_name n) (names_of gs)) g.0 (names_of gs) n
      ∙ ap (λ b. cond (b || list_any (same_name n) (names_of gs)) (names_of (g ∷ gs)) (names_of (g ∷ gs) ++ n ∷ [])) (sym f)
]

names_all : (gs : Groups) (p : ℕ) (es : List (Name × ItemKind)) → names_of (with_all_listed gs p es) ≡ with_names (names_of gs) es
names_all gs p [] = refl
names_all gs p (e ∷ es) = names_all (with_listed gs e.0 (p, e.1)) p es ∙ ap (λ ns. with_names ns es) (names_listed gs e.0 (p, e.1))

pub names_grouped : (c : Collection) (ps : List Part) (gs : Groups) (xs : List ℕ) → names_of (grouped c ps gs xs) ≡ names_behind (names_of gs) (map (part_lists c ps) xs)
names_grouped c ps gs [] = refl
names_grouped c ps gs (p ∷ xs) = names_grouped c ps (with_all_listed gs p (part_lists c ps p)) xs ∙ ap (λ ns. names_behind ns (map (part_lists c ps) xs)) (names_all gs p (part_lists c ps p))

-- ---- what holds of each that is listed, and that some is under each name

push_some : {A : Type 0} (xs : List A) (x : A) → (xs ++ x ∷ []) ≢ []
push_some [] x e = cc
push_some (y ∷ xs) x e = cc

each_listed : (P : ℕ × ItemKind → Type 0) (gs : Groups) (n : Name) (l : ℕ × ItemKind) → AllByRecursion (λ g. (g.1 ≢ []) × AllByRecursion P g.1) gs → P l → AllByRecursion (λ g. (g.1 ≢ []) × AllByRecursion P g.1) (with_listed gs n l)
each_listed P [] n l h p = ((push_some [] l, (p, tt)), tt)
each_listed P (g ∷ gs) n l h p = elim (cases_Bool (same_name n g.0)) [
  | inl t ↦ subst (λ (b : Bool). AllByRecursion (λ g. (g.1 ≢ []) × AllByRecursion P g.1) (cond b ((g.0, g.1 ++ l ∷ []) ∷ gs) (g ∷ with_listed gs n l))) (sym t) ((push_some g.1 l, all_push P g.1 l h.0.1 p), h.1)
  | inr f ↦ subst (λ (b : Bool). AllByRecursion (λ g. (g.1 ≢ []) × AllByRecursion P g.1) (cond b ((g.0, g.1 ++ l ∷ []) ∷ gs) (g ∷ with_listed gs n l))) (sym f) (h.0, each_listed P gs n l h.1 p)
]

each_all : (P : ℕ × ItemKind → Type 0) (gs : Groups) (p : ℕ) (es : List (Name × ItemKind)) → AllByRecursion (λ g. (g.1 ≢ []) × AllByRecursion P g.1) gs → AllByRecursion (λ e. P (p, e.1)) es → AllByRecursion (λ g. (g.1 ≢ []) × AllByRecursion P g.1) (with_all_listed gs p es)
each_all P gs p [] h k = h
each_all P gs p (e ∷ es) h k = each_all P (with_listed gs e.0 (p, e.1)) p es (each_listed P gs e.0 (p, e.1) h k.0) k.1

-- what is of a type before another is held
held_kinds : (c : Collection) (n : ℕ) (ps : List Part) (p : ℕ) (es : List (Name × ItemKind)) → IsHeldPart c ps p → AllByRecursion (IsBefore c n) (kind_types es) → AllByRecursion (λ e. IsHeldListing c ps (p, e.1)) es
held_kinds c n ps p [] here h = tt
held_kinds c n ps p (e ∷ es) here h = ((here, type_within c n (kind_type e.1) h.0), held_kinds c n ps p es here h.1)

part_listed : (c : Collection) (ps : List Part) (p : ℕ) (x : Part) → slice_get ps p ≡ Some x → part_lists c ps p ≡ interface_exports c x.interface
part_listed c ps p x at = ap (λ o. option_case o [] (λ (y : Part). interface_exports c y.interface)) at

held_listed : (c : Collection) → IsWellFormed c → (ps : List Part) (p : ℕ) → IsHeldPart c ps p → AllByRecursion (λ e. IsHeldListing c ps (p, e.1)) (part_lists c ps p)
held_listed c wf ps p here =
    let l = lists c wf (opener.Interface here.0.interface) (grind (arith, here.2)) in
    subst (λ (es : List (Name × ItemKind)). AllByRecursion (λ e. IsHeldListing c ps (p, e.1)) es) (sym (part_listed c ps p here.0 here.1))
    (held_kinds c l.before ps p (interface_exports c here.0.interface) here l.listed)

pub each_grouped : (c : Collection) → IsWellFormed c → (ps : List Part) (gs : Groups) (xs : List ℕ) → AllByRecursion (IsHeldGroup c ps) gs → AllByRecursion (IsHeldPart c ps) xs → AllByRecursion (IsHeldGroup c ps) (grouped c ps gs xs)
each_grouped c wf ps gs [] h held = h
each_grouped c wf ps gs (p ∷ xs) h held = each_grouped c wf ps (with_all_listed gs p (part_lists c ps p)) xs (each_all (IsHeldListing c ps) gs p (part_lists c ps p) h (held_listed c wf ps p held.0)) held.1

-- ---- nothing is lost

module _ (c : Collection) where
  group_push : (ls : List (ℕ × ItemKind)) (l : ℕ × ItemKind) → group_weight c (ls ++ l ∷ []) ≡ group_weight c ls + kind_weight c l.1
  group_push [] l = omega arith
  group_push (k ∷ ls) l = let r = group_push ls l in omega (arith, r)

  weight_listed : (gs : Groups) (n : Name) (l : ℕ × ItemKind) → groups_weight c (with_listed gs n l) ≡ groups_weight c gs + kind_weight c l.1
  weight_listed [] n l = omega arith
  weight_listed (g ∷ gs) n l = elim (cases_Bool (same_name n g.0)) [
    | inl t ↦ let r = group_push g.1 l in ap (λ b. groups_weight c (cond b ((g.0, g.1 ++ l ∷ []) ∷ gs) (g ∷ with_listed gs n l))) t ∙ omega (arith, r)
    | inr f ↦ let r = weight_listed gs n l in ap (λ b. groups_weight c (cond b ((g.0, g.1 ++ l ∷ []) ∷ gs) (g ∷ with_listed gs n l))) f ∙ omega (arith, r)
  ]

  total_both : (f : Opener → ℕ) (xs ys : List Opener) → total f (xs ++ ys) ≡ total f xs + total f ys
  total_both f [] ys = omega arith
  total_both f (x ∷ xs) ys = let r = total_both f xs ys in omega (arith, r)

  weight_all : (gs : Groups) (p : ℕ) (es : List (Name × ItemKind)) → groups_weight c (with_all_listed gs p es) ≡ groups_weight c gs + listed_weight c es
  weight_all gs p [] = omega arith
  weight_all gs p (e ∷ es) =
      let r = weight_all (with_listed gs e.0 (p, e.1)) p es in
      let s = weight_listed gs e.0 (p, e.1) in
      let t = total_both (count_in c) (opened_by e.1) (opened es) in
      omega (arith, r, s, t)

  pub weight_grouped : (ps : List Part) (gs : Groups) (xs : List ℕ) → groups_weight c (grouped c ps gs xs) ≡ groups_weight c gs + parts_weight c ps xs
  weight_grouped ps gs [] = omega arith
  weight_grouped ps gs (p ∷ xs) =
      let r = weight_grouped ps (with_all_listed gs p (part_lists c ps p)) xs in
      let s = weight_all gs p (part_lists c ps p) in
      omega (arith, r, s)

-- ---- the steps of the loops

pub all_listed_push : (gs : Groups) (p : ℕ) (es : List (Name × ItemKind)) (e : Name × ItemKind) → with_all_listed gs p (es ++ e ∷ []) ≡ with_listed (with_all_listed gs p es) e.0 (p, e.1)
all_listed_push gs p [] e = refl
all_listed_push gs p (d ∷ es) e = all_listed_push (with_listed gs d.0 (p, d.1)) p es e

pub grouped_push : (c : Collection) (ps : List Part) (gs : Groups) (xs : List ℕ) (x : ℕ) → grouped c ps gs (xs ++ x ∷ []) ≡ with_all_listed (grouped c ps gs xs) x (part_lists c ps x)
grouped_push c ps gs [] x = refl
grouped_push c ps gs (y ∷ xs) x = grouped_push c ps (with_all_listed gs y (part_lists c ps y)) xs x
