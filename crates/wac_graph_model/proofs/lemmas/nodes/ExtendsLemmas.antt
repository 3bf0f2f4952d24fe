-- A collection with more items has all that it had.
use Rattle.std.proofs.Common.{◌≡◌, ℕ, zero, suc, ◌+◌, ◌<◌, true, List, [], ◌∷◌, ◌++◌, length, refl, ap, ◌∙◌, sym, subst, arith, Option, Result, Ok, Err, IfOk, OnErr}
use Rattle.std.specs.Prelude.{slice_get, nat_lt}
use Rattle.std.proofs.lemmas.List.{append-nil, length-append}
use Rattle.std.proofs.lemmas.Bool.Decides.{nat_tests}
use Rattle.wac_types_shapes.specs.primitives.Name.{Name, find_name, option_case}
use Rattle.wac_types_collection.specs.collection.Collection.{Collection, holds_type, item_of, with_resource, with_func, with_defined, with_interface, with_world, with_module}
use Rattle.wac_types_collection.specs.collection.Package.{with_instance_of, PackageParts, HoldsPackage}
use Rattle.wac_types_shapes.specs.keys.Key.{VersionParts}
use Rattle.wac_edges.proofs.WrittenOrder.{slice_get-middle}
use Rattle.wac_types_collection.specs.declared.collection.collection.Held.{Held}
use Rattle.wac_types_shapes.specs.declared.shapes.component.Resource.{Resource}
use Rattle.wac_types_shapes.specs.declared.shapes.component.FuncType.{FuncType}
use Rattle.wac_types_shapes.specs.declared.shapes.component.DefinedType.{DefinedType}
use Rattle.wac_types_shapes.specs.declared.shapes.core_types.ModuleType.{ModuleType}
use Rattle.wac_types_shapes.specs.declared.shapes.component.Interface.{Interface}
use Rattle.wac_types_shapes.specs.declared.shapes.component.World.{World}
use Rattle.wac_types_shapes.specs.declared.shapes.component.WorldId.{WorldId}
use Rattle.wac_types_shapes.specs.declared.shapes.component.«Type».{«Type» as AnyType}
use Rattle.wac_types_shapes.specs.declared.shapes.component.«Type».TheVariants as ty
use Rattle.wac_types_shapes.specs.declared.shapes.component.ValueType.TheVariants as val
use Rattle.wac_types_collection.specs.subtyping.Subtype.{type_tree}
use Rattle.wac_types_collection.specs.subtyping.TreeLaws.{GrowthKeepsTrees}
use Rattle.wac_graph_model.proofs.lemmas.nodes.JoinLemmas.{Extends}

lt_more : {A : Type 0} (k : ℕ) (xs ys : List A) → nat_lt k (length xs) ≡ true → nat_lt k (length (xs ++ ys)) ≡ true
lt_more k xs ys h = rw (length-append xs ys) (more k (length xs) (length ys) h) where
  more : (k m n : ℕ) → nat_lt k m ≡ true → nat_lt k (m + n) ≡ true
  more k m n h = grind (arith, nat_tests)

lt_length : {A : Type 0} (k : ℕ) (xs : List A) → nat_lt k (length xs) ≡ true → k < length xs
lt_length k xs h = grind (arith, nat_tests)

get_left : {A : Type 0} (xs ys : List A) (k : ℕ) → k < length xs → slice_get (xs ++ ys) k ≡ slice_get xs k
get_left [] ys k h = absurd (omega arith)
get_left (x ∷ xs) ys zero h = refl
get_left (x ∷ xs) ys (suc k) h = get_left xs ys k (omega arith)

-- the first has all lists of the second, perhaps with more behind
pub record HasMore (c d : Collection) : Type 0 where
  pub resources : List (Held Resource)
  pub funcs : List (Held FuncType)
  pub defined : List (Held DefinedType)
  pub interfaces : List (Held Interface)
  pub worlds : List (Held World)
  pub modules : List (Held ModuleType)
  pub resources_are : d.resources ≡ c.resources ++ resources
  pub funcs_are : d.funcs ≡ c.funcs ++ funcs
  pub defined_are : d.defined ≡ c.defined ++ defined
  pub interfaces_are : d.interfaces ≡ c.interfaces ++ interfaces
  pub worlds_are : d.worlds ≡ c.worlds ++ worlds
  pub modules_are : d.modules ≡ c.modules ++ modules

lt_list : {A : Type 0} (k : ℕ) (xs ys zs : List (Held A)) → zs ≡ xs ++ ys → nat_lt k (length xs) ≡ true → nat_lt k (length zs) ≡ true
lt_list k xs ys zs is h = ap (λ (l : List (Held _)). nat_lt k (length l)) is ∙ lt_more k xs ys h

abbrev KeepsTypes : Collection → Collection → Type 0
KeepsTypes c d = (t : AnyType) → holds_type c t ≡ true → type_tree d t ≡ type_tree c t

pub extends_by : (c d : Collection) → HasMore c d → KeepsTypes c d → Extends c d
extends_by c d m trees = record {
  held = held;
  interfaces = λ i h. ap (λ (xs : List (Held Interface)). option_case (item_of (slice_get xs i.0)) [] (λ x. x.exports)) m.interfaces_are ∙ ap (λ o. option_case (item_of o) [] (λ x. x.exports)) (get_left c.interfaces m.interfaces i.0 (lt_length i.0 c.interfaces h));
  exports = λ w h. ap (λ (xs : List (Held World)). option_case (item_of (slice_get xs w.0)) [] (λ x. x.exports)) m.worlds_are ∙ ap (λ o. option_case (item_of o) [] (λ x. x.exports)) (get_left c.worlds m.worlds w.0 (lt_length w.0 c.worlds h));
  imports = λ w h. ap (λ (xs : List (Held World)). option_case (item_of (slice_get xs w.0)) [] (λ x. x.imports)) m.worlds_are ∙ ap (λ o. option_case (item_of o) [] (λ x. x.imports)) (get_left c.worlds m.worlds w.0 (lt_length w.0 c.worlds h));
  trees = trees;
} where
  held : (t : AnyType) → holds_type c t ≡ true → holds_type d t ≡ true
  held (ty.Resource r) h = lt_list r.0 c.resources m.resources d.resources m.resources_are h
  held (ty.Func f) h = lt_list f.0 c.funcs m.funcs d.funcs m.funcs_are h
  held (ty.Value (val.Primitive p)) h = refl
  held (ty.Value (val.Borrow r)) h = lt_list r.0 c.resources m.resources d.resources m.resources_are h
  held (ty.Value (val.Own r)) h = lt_list r.0 c.resources m.resources d.resources m.resources_are h
  held (ty.Value (val.Defined t)) h = lt_list t.0 c.defined m.defined d.defined m.defined_are h
  held (ty.Interface i) h = lt_list i.0 c.interfaces m.interfaces d.interfaces m.interfaces_are h
  held (ty.World w) h = lt_list w.0 c.worlds m.worlds d.worlds m.worlds_are h
  held (ty.Module k) h = lt_list k.0 c.modules m.modules d.modules m.modules_are h

nil : {A : Type 0} (xs : List A) → xs ≡ xs ++ []
nil xs = rw append-nil refl

has_more : (c d : Collection) (resources : List (Held Resource)) (funcs : List (Held FuncType)) (defined : List (Held DefinedType)) (interfaces : List (Held Interface)) (worlds : List (Held World)) (modules : List (Held ModuleType))
    → d.resources ≡ c.resources ++ resources → d.funcs ≡ c.funcs ++ funcs → d.defined ≡ c.defined ++ defined → d.interfaces ≡ c.interfaces ++ interfaces → d.worlds ≡ c.worlds ++ worlds → d.modules ≡ c.modules ++ modules → HasMore c d
has_more c d resources funcs defined interfaces worlds modules r f t i w m = record {
  resources = resources;
  funcs = funcs;
  defined = defined;
  interfaces = interfaces;
  worlds = worlds;
  modules = modules;
  resources_are = r;
  funcs_are = f;
  defined_are = t;
  interfaces_are = i;
  worlds_are = w;
  modules_are = m;
}

pub extends_itself : (c : Collection) → Extends c c
extends_itself c = extends_by c c (has_more c c [] [] [] [] [] [] (nil c.resources) (nil c.funcs) (nil c.defined) (nil c.interfaces) (nil c.worlds) (nil c.modules)) (λ t h. refl)

pub extends_resource : (c : Collection) → GrowthKeepsTrees c → (r : Resource) → Extends c (with_resource c r)
extends_resource c law r = extends_by c (with_resource c r) (has_more c (with_resource c r) _ [] [] [] [] [] refl (nil c.funcs) (nil c.defined) (nil c.interfaces) (nil c.worlds) (nil c.modules)) (law.resource r).0

pub extends_func : (c : Collection) → GrowthKeepsTrees c → (f : FuncType) → Extends c (with_func c f)
extends_func c law f = extends_by c (with_func c f) (has_more c (with_func c f) [] _ [] [] [] [] (nil c.resources) refl (nil c.defined) (nil c.interfaces) (nil c.worlds) (nil c.modules)) (law.func f).0

pub extends_defined : (c : Collection) → GrowthKeepsTrees c → (t : DefinedType) → Extends c (with_defined c t)
extends_defined c law t = extends_by c (with_defined c t) (has_more c (with_defined c t) [] [] _ [] [] [] (nil c.resources) (nil c.funcs) refl (nil c.interfaces) (nil c.worlds) (nil c.modules)) (law.defined t).0

pub extends_interface : (c : Collection) → GrowthKeepsTrees c → (i : Interface) → Extends c (with_interface c i)
extends_interface c law i = extends_by c (with_interface c i) (has_more c (with_interface c i) [] [] [] _ [] [] (nil c.resources) (nil c.funcs) (nil c.defined) refl (nil c.worlds) (nil c.modules)) (law.interface i).0

pub extends_world : (c : Collection) → GrowthKeepsTrees c → (w : World) → Extends c (with_world c w)
extends_world c law w = extends_by c (with_world c w) (has_more c (with_world c w) [] [] [] [] _ [] (nil c.resources) (nil c.funcs) (nil c.defined) (nil c.interfaces) refl (nil c.modules)) (law.world w).0

pub extends_module : (c : Collection) → GrowthKeepsTrees c → (m : ModuleType) → Extends c (with_module c m)
extends_module c law m = extends_by c (with_module c m) (has_more c (with_module c m) [] [] [] [] [] _ (nil c.resources) (nil c.funcs) (nil c.defined) (nil c.interfaces) (nil c.worlds) refl) (law.module_type m).0

-- what an adder leaves
pub extends_result : {Id E : Type 0} (P : Id → Type 0) (result : Result Id E) (c d more : Collection) → Extends c more → IfOk result (λ id. P id × (d ≡ more)) → OnErr result (d ≡ c) → Extends c d
extends_result P (Ok id) c d more h ok err = subst (Extends c) (sym ok.1) h
extends_result P (Err e) c d more h ok err = subst (Extends c) (sym err) (extends_itself c)

pub extends_made : {Id E : Type 0} (result : Result Id E) (c d more : Collection) → Extends c more → IfOk result (λ _. d ≡ more) → OnErr result (d ≡ c) → Extends c d
extends_made (Ok id) c d more h ok err = subst (Extends c) (sym ok) h
extends_made (Err e) c d more h ok err = subst (Extends c) (sym err) (extends_itself c)

-- a package of a held world holds
pub holds_made : {E : Type 0} (result : Result PackageParts E) (c d : Collection) (name : Name) (version : Option VersionParts) (bytes : List ℕ) (world : WorldId) → holds_type c (ty.World world) ≡ true
    → IfOk result (λ p. p ≡ record { name = name; version = version; bytes = bytes; world = world; instance_type = record { 0 = length c.interfaces } }) → IfOk result (λ _. d ≡ with_instance_of c world) → IfOk result (λ p. HoldsPackage d p)
holds_made (Err e) c d name version bytes world held built added = tt
holds_made (Ok p) c d name version bytes world held built added =
    subst (λ q. HoldsPackage d q) (sym built) (subst (λ e. HoldsPackage e (record { name = name; version = version; bytes = bytes; world = world; instance_type = record { 0 = length c.interfaces } })) (sym added)
    (held, lt_last c.interfaces _, λ n. ap (λ (o : Option (Held Interface)). find_name (option_case (item_of o) [] (λ x. x.exports)) n) (slice_get-middle c.interfaces _ []))) where
      lt_last : {A : Type 0} (xs : List A) (x : A) → nat_lt (length xs) (length (xs ++ x ∷ [])) ≡ true
      lt_last xs x = rw (length-append xs (x ∷ [])) (one (length xs)) where
        one : (n : ℕ) → nat_lt n (n + 1) ≡ true
        one n = grind (arith, nat_tests)
