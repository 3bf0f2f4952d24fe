-- Words for the samples.
use Rattle.std.proofs.Common.{◌≡◌, ℕ, List, [], ◌∷◌, None, codes, refl, false, zero, suc}
use Rattle.std.proofs.Common.{eqb}
use Rattle.std.proofs.lemmas.Bool.{both_ways, eq-eqb}
use Rattle.std.proofs.Common.{◌≢◌, subst, sym, ◌∙◌}
use Rattle.wac_component.proofs.component_types.Cases.{first, split, split2, names1, names2}
use Rattle.wac_types_shapes.specs.primitives.Name.{Name, same_name}
use Rattle.wac_types_shapes.specs.primitives.Tree.{Side, exported, Place, position, named, Leaf, Tree, absent, resource, own, function, instance, component, module_of, fresh, type_equal, function_item, instance_item, component_item}
use Rattle.wac_types_shapes.specs.primitives.Core.{no_item}
use Rattle.wac_binary.specs.Items.{value_def, own_def, func_def, instance_def, Decl, decls, type_decl, export_decl, export_alias}
use Rattle.wac_component.specs.Parts.{Part, parts, component_part, alias_part, component_alias, type_part, resource_part, resource_def, export_part}
use Rattle.wac_component.specs.Context.{Context, empty_context, after_parts, items_named}
use Rattle.wac_component.specs.Open.{argument_type}
use Rattle.wac_component.specs.ResourceNames.{component_type}
use Rattle.wac_component.specs.Valid.{PartsAreValid, MentionsNothingMade, HasComponentType}
use Rattle.wac_binary.specs.Unfold.{described_item}
use Rattle.wac_component.specs.ItemSubtype.{IsItemSubtype, same}
use Rattle.wac_binary.specs.declared.types.ComponentValType.TheVariants.{Index}
use Rattle.wac_types_shapes.specs.declared.primitives.core_types.CoreType.TheVariants as core
use Rattle.wac_binary.specs.declared.sorts.Sort.{Sort}
use Rattle.wac_binary.specs.declared.types.ComponentValType.{ComponentValType}
use Rattle.wac_binary.specs.declared.sorts.Sort.TheVariants as s
use Rattle.wac_binary.specs.declared.sorts.Description.TheVariants as e

abbrev pub no_module_type : List ℕ → Tree
no_module_type bytes = module_of (λ _ _. no_item) (λ _. no_item)

abbrev pub context_after : List Part → Context
context_after ps = after_parts no_module_type (parts ps) empty_context []

abbrev pub at : Side → ℕ → List Place → Leaf
at s o p = record { out = o; side = s; path = p }

pub component_eq : {i j x y : Name → Tree} → i ≡ j → x ≡ y → component i x ≡ component j y
component_eq p q = λ k. component (p k) (q k)

pub instance_eq : {x y : Name → Tree} → x ≡ y → instance_item (instance x) ≡ instance_item (instance y)
instance_eq q = λ k. instance_item (instance (q k))

pub component_item_eq : {i j x y : Name → Tree} → i ≡ j → x ≡ y → component_item (component i x) ≡ component_item (component j y)
component_item_eq p q = λ k. component_item (component (p k) (q k))

abbrev pub only : Tree → ℕ → Tree
only t zero = t
only t (suc i) = absent

pub only_eq : {f : ℕ → Tree} {t : Tree} → f 0 ≡ t → ((i : ℕ) → f (suc i) ≡ absent) → function_item (function false (codes "x" ∷ []) f absent) ≡ function_item (function false (codes "x" ∷ []) (only t) absent)
only_eq {f} {t} p q = λ j. function_item (function false (codes "x" ∷ []) (first f (only t) p q j) absent)

-- A function of one parameter `x`, without a result.
abbrev pub takes : Tree → Tree
takes t = function false (codes "x" ∷ []) (only t) absent

abbrev pub item_in : Tree → Name → Tree
item_in (instance_item (instance items)) n = items n
item_in _ n = absent

-- The item at a path of names.
abbrev pub below_item : List Name → Tree → Tree
below_item [] t = t
below_item (n ∷ p) t = below_item p (item_in t n)

-- The export of a component at a path of names.
abbrev pub export_of : Tree → Name → List Name → Tree
export_of (component imports exports) n p = below_item p (exports n)
export_of _ n p = absent

-- The instance type { r: fresh, f: (x: own r) }.
abbrev pub with_resource : List Decl
with_resource = export_decl (codes "r") e.Fresh ∷ type_decl (value_def (own_def 0)) ∷ type_decl (func_def false ((codes "x", Index 1) ∷ []) None) ∷ export_decl (codes "f") (e.Func 2) ∷ []

abbrev pub of_type : Sort
of_type = s.«Type»

abbrev pub none : Name → Tree
none = λ n. absent

abbrev pub inst : List (Name × Tree) → Tree
inst es = instance_item (instance (items_named es))

abbrev pub eqr : Side → ℕ → List Place → Tree
eqr s o p = type_equal (resource (at s o p))

abbrev pub fn : Leaf → Tree
fn l = function_item (takes (own l))

abbrev pub IsValid : List Part → Type 0
IsValid ps = PartsAreValid no_module_type (parts ps) empty_context []

abbrev pub x_of : ℕ → List (Name × ComponentValType)
x_of i = (codes "x", Index i) ∷ []

-- Names of the samples.
abbrev pub a : Name
a = codes "a"

abbrev pub b : Name
b = codes "b"

abbrev pub f : Name
f = codes "f"

abbrev pub g : Name
g = codes "g"

abbrev pub i : Name
i = codes "i"

abbrev pub j : Name
j = codes "j"

abbrev pub q : Name
q = codes "q"

abbrev pub r : Name
r = codes "r"

abbrev pub x : Name
x = codes "x"

abbrev pub y : Name
y = codes "y"

abbrev pub path : Name → List Place
path n = named n ∷ []

abbrev pub path2 : Name → Name → List Place
path2 m n = named m ∷ named n ∷ []

-- A component whose exports are these under these paths.
pub has_type : (c : Context) (paths : List (List Place)) (es : List (Name × Tree)) → ((z : Leaf) → component_type z paths c ≡ component (items_named c.imports) (items_named es)) → HasComponentType c
has_type c paths es p = (component (items_named c.imports) (items_named es), (paths, λ z. sym (p z)))

-- A component that defines a resource and exports it as r.
abbrev pub maker_parts : List Part
maker_parts = resource_part (resource_def core.I32 None) ∷ export_part r of_type 0 None ∷ []

abbrev pub maker : Part
maker = component_part (parts maker_parts)

pub maker_has : HasComponentType (context_after maker_parts)
maker_has = has_type (context_after maker_parts) (path r ∷ []) ((r, fresh) ∷ []) (λ z. component_eq refl (names1 r refl (λ n h. rw h refl)))

abbrev pub alias_of : Sort → ℕ → Name → Part
alias_of t k n = alias_part (component_alias (export_alias t k n))

abbrev pub own_type : ℕ → Part
own_type k = type_part (value_def (own_def k))

abbrev pub func_type : ℕ → Part
func_type k = type_part (func_def false (x_of k) None)

abbrev pub defined : Part
defined = resource_part (resource_def core.I32 None)

-- The exports of with_resource, where its resource is this one.
abbrev pub both : Tree → Leaf → Tree
both t l = inst ((r, t) ∷ (f, fn l) ∷ [])

-- Each name but these has no item, so that no item under it has to fit.
pub all0 : (xs : Name → Tree) {ys : Name → Tree} → ((n : Name) → ys n ≡ absent) → (n : Name) → ys n ≢ absent → IsItemSubtype (xs n) (ys n)
all0 xs {ys} none_is n ne = absurd (ne (none_is n))

pub all1 : (xs : Name → Tree) {ys : Name → Tree} (c : Name) → IsItemSubtype (xs c) (ys c) → ((n : Name) → same_name n c ≡ false → ys n ≡ absent) → (n : Name) → ys n ≢ absent → IsItemSubtype (xs n) (ys n)
all1 xs {ys} c p none_is = split (λ n. ys n ≢ absent → IsItemSubtype (xs n) (ys n)) c (λ ne. p) (λ n h ne. absurd (ne (none_is n h)))

pub all2 : (xs : Name → Tree) {ys : Name → Tree} (c d : Name) → IsItemSubtype (xs c) (ys c) → IsItemSubtype (xs d) (ys d) → ((n : Name) → same_name n c ≡ false → same_name n d ≡ false → ys n ≡ absent) → (n : Name) → ys n ≢ absent → IsItemSubtype (xs n) (ys n)
all2 xs {ys} c d p o none_is = split2 (λ n. ys n ≢ absent → IsItemSubtype (xs n) (ys n)) c d (λ ne. p) (λ ne. o) (λ n h k ne. absurd (ne (none_is n h k)))

pub args1 : (k : ℕ) (args : Name → Tree) {im : Name → Tree} (c : Name) → IsItemSubtype (args c) (argument_type k args c (im c)) → ((n : Name) → same_name n c ≡ false → im n ≡ absent) → (n : Name) → im n ≢ absent → IsItemSubtype (args n) (argument_type k args n (im n))
args1 k args {im} c p none_is = split (λ n. im n ≢ absent → IsItemSubtype (args n) (argument_type k args n (im n))) c (λ ne. p) (λ n h ne. absurd (ne (none_is n h)))

pub args2 : (k : ℕ) (args : Name → Tree) {im : Name → Tree} (c d : Name) → IsItemSubtype (args c) (argument_type k args c (im c)) → IsItemSubtype (args d) (argument_type k args d (im d)) → ((n : Name) → same_name n c ≡ false → same_name n d ≡ false → im n ≡ absent) → (n : Name) → im n ≢ absent → IsItemSubtype (args n) (argument_type k args n (im n))
args2 k args {im} c d p o none_is = split2 (λ n. im n ≢ absent → IsItemSubtype (args n) (argument_type k args n (im n))) c d (λ ne. p) (λ ne. o) (λ n h l ne. absurd (ne (none_is n h l)))

-- Of a function item nothing else is a subtype.
abbrev pub IsOnly : Tree → Tree → Type 0
IsOnly (function_item s) t = t ≡ function_item s
IsOnly _ t = Unit

pub is_only : (s t : Tree) → IsItemSubtype s t → IsOnly s t
is_only s t (same u) = self u
  where
    self : (v : Tree) → IsOnly v v
    self (function_item v) = refl
    self _ = tt
is_only s t _ = tt

-- The names on the way to the resource of a handle in the first parameter, or of a type item.
abbrev pub leaf_names : Tree → List Place
leaf_names (function_item (function is_async names params result)) = of_handle (params 0)
  where
    of_handle : Tree → List Place
    of_handle (own l) = l.path
    of_handle _ = []
leaf_names (type_equal (resource l)) = l.path
leaf_names (resource l) = l.path
leaf_names _ = []

abbrev pub first_name : List Place → ℕ
first_name (named (k ∷ n) ∷ p) = k
first_name (position k ∷ p) = suc k
first_name _ = 0

pub fits_eq : (s t : Tree) → s ≡ t → IsItemSubtype s t
fits_eq s t p = subst (IsItemSubtype s) p (same s)

pub when1 : (zs xs ys : Name → Tree) (c : Name) → IsItemSubtype (xs c) (ys c) → ((n : Name) → same_name n c ≡ false → zs n ≡ absent) → (n : Name) → zs n ≢ absent → IsItemSubtype (xs n) (ys n)
when1 zs xs ys c p none_is = split (λ n. zs n ≢ absent → IsItemSubtype (xs n) (ys n)) c (λ ne. p) (λ n h ne. absurd (ne (none_is n h)))

-- Numbers that a comparison tells apart.
pub apart_numbers : (m n : ℕ) → eqb m n ≡ false → m ≡ n → ⊥
apart_numbers m n h e = both_ways (eqb m n) h (eq-eqb m n e)

-- The import of with_resource mentions nothing that is made.
pub import_nowhere : MentionsNothingMade (described_item (context_after (type_part (instance_def (decls with_resource)) ∷ [])).scope (e.Instance 0))
import_nowhere = instance_eq (names2 r f refl (only_eq {t = own (at exported 0 (path r))} refl (λ k. refl) ∙ sym (only_eq refl (λ k. refl))) (λ n h k. rw (k, h) refl))
