-- The resource that the import of an interface's id binds under a name.
use Rattle.std.proofs.Common.{Bool, true, false, not, cond, inl, inr, ◌≡◌, refl, ap, sym, ◌∙◌, List, [], ◌∷◌, Option, Some, None}
use Rattle.std.proofs.lemmas.Bool.{cases_Bool}
use Rattle.std.specs.Borrow.{Bor}
use Rattle.std.specs.Str.{bytes_eq}
use Rattle.std.specs.Option.{option_copied}
use Rattle.wac_types_shapes.specs.primitives.Name.{Name, same_name, find_name, option_case}
use Rattle.wac_types_collection.specs.collection.Collection.{Collection, item_at}
use Rattle.wac_types_shapes.proofs.lemmas.shapes.Names.{ne-false, ne-true, same_name-from, same_name-true}
use Rattle.wac_types_shapes.specs.declared.shapes.component.Interface.{Interface}
use Rattle.wac_types_shapes.specs.declared.shapes.component.InterfaceId.{InterfaceId}
use Rattle.wac_types_shapes.specs.declared.shapes.component.ItemKind.{ItemKind}
use Rattle.wac_types_shapes.specs.declared.shapes.component.ItemKind.TheVariants as kind
use Rattle.wac_merge_classes.specs.terms.Merge.{Merged, bound_resource, import_entries, import_under, listed_resource, own_resource}

-- the import under a name is what is found under it
pub import-found : (es : List (Name × ItemKind)) (n : Name) → import_under (import_entries es) n ≡ find_name es n
import-found [] n = refl
import-found (e ∷ es) n = ap (cond (same_name n e.0) (Some e.1)) (import-found es n)

module _ (m : Merged) (id n : Name) where
  pub bound-none : import_under m.imports id ≡ None → bound_resource m id n ≡ None
  bound-none h = rw (h) refl

  pub bound-some : (k : ItemKind) → import_under m.imports id ≡ Some k → bound_resource m id n ≡ own_resource m.types id n k
  bound-some k h = rw (h) refl

  module _ (es : List (Name × ItemKind)) (listed : import_entries es ≡ m.imports) where
    found : import_under m.imports id ≡ find_name es id
    found = ap (λ l. import_under l id) (sym listed) ∙ import-found es id

    pub bound-nowhere : (o : Option (Bor ItemKind)) → option_copied o ≡ find_name es id → o ≡ None → bound_resource m id n ≡ None
    bound-nowhere o get none = bound-none (found ∙ sym get ∙ ap option_copied none)

    pub bound-there : (o : Option (Bor ItemKind)) (x : Bor ItemKind) → option_copied o ≡ find_name es id → o ≡ Some x → bound_resource m id n ≡ own_resource m.types id n x.now
    bound-there o x get some = bound-some x.now (found ∙ sym get ∙ ap option_copied some)

-- what a comparison of texts tells of names
pub told-other : (r : Bool) (a b : Name) → r ≡ not (bytes_eq a b) → r ≡ true → same_name b a ≡ false
told-other r a b tells other = elim (cases_Bool (same_name b a)) [
  | inl t ↦ absurd (ne-true r a b tells other (sym (same_name-true b a t)))
  | inr f ↦ f
]

pub told-same : (r : Bool) (a b : Name) → r ≡ not (bytes_eq a b) → r ≡ false → same_name b a ≡ true
told-same r a b tells same = same_name-from b a (sym (ne-false r a b tells same))

-- the interface's id decides
module _ (c : Collection) (id n : Name) (i : InterfaceId) (it : Interface) (there : item_at c.interfaces i.0 ≡ Some it) (text : Name) (is : it.id ≡ Some text) where
  pub own-other : same_name id text ≡ false → own_resource c id n (kind.Instance i) ≡ None
  own-other h = rw (there) rw (is) rw (h) refl

  pub own-same : same_name id text ≡ true → own_resource c id n (kind.Instance i) ≡ option_case (find_name it.exports n) None (listed_resource c)
  own-same h = rw (there) rw (is) rw (h) refl

  pub own-nowhere : (o : Option (Bor ItemKind)) → same_name id text ≡ true → option_copied o ≡ find_name it.exports n → o ≡ None → own_resource c id n (kind.Instance i) ≡ None
  own-nowhere o h get none = own-same h ∙ ap (λ x. option_case x None (listed_resource c)) (sym get ∙ ap option_copied none)

  pub own-there : (o : Option (Bor ItemKind)) (x : Bor ItemKind) → same_name id text ≡ true → option_copied o ≡ find_name it.exports n → o ≡ Some x → own_resource c id n (kind.Instance i) ≡ listed_resource c x.now
  own-there o x h get some = own-same h ∙ ap (λ y. option_case y None (listed_resource c)) (sym get ∙ ap option_copied some)
