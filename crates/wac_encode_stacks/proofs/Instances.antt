-- What an instance in scope has.
use Rattle.std.specs.Prelude.{ℕ, zero, suc, ◌≡◌, ◌==◌, ◌&&◌, Bool, true, false, not, List, [], ◌∷◌, ◌++◌, length, Option, Some, None, is_some, is_none, slice_get, if◌then◌else◌}
use Rattle.std.proofs.Common.{refl, ap, ◌∙◌, sym, subst}
use Rattle.std.proofs.lemmas.Bool.{eqb-true}
use Rattle.wac_types_shapes.specs.primitives.Name.{Name, same_name, find_name, option_case}
use Rattle.wac_types_shapes.proofs.lemmas.shapes.Names.{same_name-refl}
use Rattle.wac_types_shapes.specs.declared.shapes.component.ResourceId.{ResourceId}
use Rattle.wac_types_shapes.specs.declared.shapes.component.Interface.{Interface}
use Rattle.wac_types_shapes.specs.declared.shapes.component.DefinedTypeId.{DefinedTypeId}
use Rattle.wac_types_shapes.specs.declared.shapes.component.UsedType.{UsedType}
use Rattle.wac_types_shapes.specs.declared.shapes.component.ValueType.{ValueType}
use Rattle.wac_types_shapes.specs.declared.shapes.component.ValueType.TheVariants as val
use Rattle.wac_types_shapes.specs.declared.shapes.component.«Type».TheVariants as ty
use Rattle.wac_types_shapes.specs.declared.shapes.component.ItemKind.{ItemKind}
use Rattle.wac_types_shapes.specs.declared.shapes.component.ItemKind.TheVariants as kind
use Rattle.wac_types_shapes.specs.primitives.Tree.{Side, imported, exported, Place, named, Leaf, Tree, fresh, type_equal, further_out, taken_from, items_in}
use Rattle.wac_types_collection.specs.collection.Collection.{Collection, IsWellFormed}
use Rattle.wac_types_collection.specs.collection.Aliases.{value_resolved}
use Rattle.wac_types_collection.specs.collection.Held.{source_of, resolved_in, resolved}
use Rattle.wac_types_collection.specs.collection.Bound.{Bindings, is_alias, own_name, inside_interface, is_here, binds_here}
use Rattle.wac_binary.specs.Unfold.{Bound, bound_type}
use Rattle.wac_encode_stacks.specs.Scopes.{at_export, env, envs, export_at}
use Rattle.wac_encode_stacks.specs.Good.{IsHeld, top}
use Rattle.wac_encode_stacks.specs.Instances.{BindsBut, IsApart, HasExported, ShowsWhole, HasOwn}
use Rattle.wac_encode_stacks.specs.Listed.{FreshInInterface, CallsOwn, IsItem}
use Rattle.wac_encode_stacks.proofs.Aliases.{end-held}
use Rattle.wac_encode_stacks.proofs.HeldValues.{holds-value}
use Rattle.wac_encode_stacks.proofs.Grow.{kept-refl}
use Rattle.wac_encode_stacks.proofs.Steps.{top-onward, good-export_at}
use Rattle.wac_encode_stacks.proofs.Moved.{on, own_leaf, taken}
use Rattle.wac_encode_stacks.proofs.Whole.{not-here}
use Rattle.wac_types_shapes.specs.declared.shapes.component.«Type».{«Type» as AnyType}
use Rattle.wac_encode_stacks.proofs.HeldParts.{holds-items, apart-carried}

-- what is listed as its own is no alias
own-no-alias : (c : Collection) (uses : List (Name × UsedType)) (es : List (Name × ItemKind)) (r : ResourceId) (n : Name) → own_name c uses es r ≡ Some n → is_alias c r ≡ false
own-no-alias c uses [] r n h = let no_none : None ≡ Some n = h in cc
own-no-alias c uses ((k, kind.TypeItem (ty.Resource q)) ∷ es) r n h = by_case (q.0 == r.0) refl (is_alias c q) refl (is_none (find_name uses k)) h (own-no-alias c uses es r n)
  where
    same_id : (q.0 == r.0) ≡ true → is_alias c r ≡ is_alias c q
    same_id s = ap (λ j. is_some (source_of (slice_get c.resources j))) (sym (eqb-true q.0 r.0 s))

    by_case : (b : Bool) → (q.0 == r.0) ≡ b → (a : Bool) → is_alias c q ≡ a → (z : Bool) → (if b && (not a && z) then Some k else own_name c uses es r) ≡ Some n → (own_name c uses es r ≡ Some n → is_alias c r ≡ false) → is_alias c r ≡ false
    by_case true s false i z x more = same_id s ∙ i
    by_case true s true i z x more = more x
    by_case false s a i z x more = more x
own-no-alias c uses ((k, kind.TypeItem (ty.Value v)) ∷ es) r n h = own-no-alias c uses es r n h
own-no-alias c uses ((k, kind.TypeItem (ty.Func v)) ∷ es) r n h = own-no-alias c uses es r n h
own-no-alias c uses ((k, kind.TypeItem (ty.Interface v)) ∷ es) r n h = own-no-alias c uses es r n h
own-no-alias c uses ((k, kind.TypeItem (ty.World v)) ∷ es) r n h = own-no-alias c uses es r n h
own-no-alias c uses ((k, kind.TypeItem (ty.Module v)) ∷ es) r n h = own-no-alias c uses es r n h
own-no-alias c uses ((k, kind.Func v) ∷ es) r n h = own-no-alias c uses es r n h
own-no-alias c uses ((k, kind.Instance v) ∷ es) r n h = own-no-alias c uses es r n h
own-no-alias c uses ((k, kind.Component v) ∷ es) r n h = own-no-alias c uses es r n h
own-no-alias c uses ((k, kind.Module v) ∷ es) r n h = own-no-alias c uses es r n h
own-no-alias c uses ((k, kind.Value v) ∷ es) r n h = own-no-alias c uses es r n h

-- what is no alias is its own end
resolved-self : (c : Collection) (k : ℕ) (r : ResourceId) → is_alias c r ≡ false → resolved_in k c r ≡ r
resolved-self c zero r h = refl
resolved-self c (suc k) r h = by_case (source_of (slice_get c.resources r.0)) h
  where
    by_case : (o : Option ResourceId) → is_some o ≡ false → option_case o r (λ source. resolved_in k c source) ≡ r
    by_case None h = refl
    by_case (Some x) h = let both : true ≡ false = h in cc

here-self : (side : Side) (n : Name) → is_here side (named n ∷ []) (Some (record { out = 0; side = side; path = named n ∷ [] })) ≡ true
here-self imported n = ap (λ b. if b then true else false) (same_name-refl n)
here-self exported n = ap (λ b. if b then true else false) (same_name-refl n)

pub own-here : (c : Collection) (it : Interface) (m : Bindings) (r : ResourceId) (n : Name) → own_name c it.uses it.exports r ≡ Some n → binds_here c (inside_interface c it m) exported (named n ∷ []) (kind.TypeItem (ty.Resource r)) ≡ true
own-here c it m r n own = ap (λ (q : ResourceId). is_here exported (named n ∷ []) (inside_interface c it m q)) (resolved-self c (length c.resources) r (own-no-alias c it.uses it.exports r n own)) ∙ ap (λ (o : Option Name). is_here exported (named n ∷ []) (option_case o (option_case (m r) None (λ l. Some (further_out l))) (λ k. Some (own_leaf k)))) own ∙ here-self exported n

pub shows-whole : ShowsWhole
shows-whole c wf m i it b at held n a found = holds-items c wf m i it b.type n (kind.TypeItem a) at found held

-- an item that is bound is fresh
fresh-item : (c : Collection) (m : Bindings) (n : Name) (a : AnyType) (x : Tree) → binds_here c m exported (named n ∷ []) (kind.TypeItem a) ≡ true → IsItem c m exported n (kind.TypeItem a) x → x ≡ fresh
fresh-item c m n a fresh bound h = refl
fresh-item c m n a (type_equal t) bound h = let both : true ≡ false = sym bound ∙ h.0 in cc
fresh-item c m n a x bound h = absurd h

pub has-own : HasOwn
has-own c m o os it j b r n at shows found own =
    (b, at, ap (λ (x : Tree). bound_type b.side (b.path ++ named n ∷ []) (taken_from b.side b.path x)) (fresh-item c (inside_interface c it m) n (ty.Resource r) (items_in b.type n) (own-here c it m r n own) (shows n (ty.Resource r) found)))

-- what an instance binds, but for the others, taken out of it
carries-taken : (c : Collection) (it : Interface) (others : ResourceId → Bool) (side : Side) (path : List Place) (m : Bindings) → BindsBut c it others side path m → (r : ResourceId) (l : Leaf) → others r ≡ false → inside_interface c it m r ≡ Some l → m r ≡ Some (taken side path l)
carries-taken c it others side path m binds r l other = by_case (own_name c it.uses it.exports r) (m r) refl (λ n own. binds r n own other)
  where
    by_case : (o : Option Name) (b : Option Leaf) → m r ≡ b → ((n : Name) → o ≡ Some n → m r ≡ Some (record { out = 0; side = side; path = path ++ named n ∷ [] })) → option_case o (option_case b None (λ x. Some (further_out x))) (λ n. Some (own_leaf n)) ≡ Some l → m r ≡ Some (taken side path l)
    by_case (Some n) b e own h = own n refl ∙ ap (on (taken side path)) h
    by_case None None e own h = let no_none : None ≡ Some l = h in cc
    by_case None (Some x) e own h = e ∙ ap (on (taken side path)) h

module _ (c : Collection) (wf : IsWellFormed c) (m : Bindings) (it : Interface) (b : Bound) (v : ValueType) (d : DefinedTypeId) (n : Name) (is : value_resolved c v ≡ val.Defined d) (others : ResourceId → Bool) (binds : BindsBut c it others b.side b.path m) (apart : IsApart c others (ty.Value (val.Defined d))) where
  held-taken-out : (u : Tree) → IsHeld c (inside_interface c it m) (ty.Value v) u → IsHeld c m (ty.Value (val.Defined d)) (taken_from b.side b.path u)
  held-taken-out u held =
      apart-carried c (taken b.side b.path) others (inside_interface c it m) m (ty.Value (val.Defined d)) u apart (carries-taken c it others b.side b.path m binds)
      (subst (λ (w : ValueType). IsHeld c (inside_interface c it m) (ty.Value w) u) is (end-held c wf (inside_interface c it m) v u held))

  exported-value : (x : Tree) → items_in b.type n ≡ x → IsItem c (inside_interface c it m) exported n (kind.TypeItem (ty.Value v)) x → (t : Tree) × IsHeld c m (ty.Value (val.Defined d)) t × (bound_type b.side (b.path ++ named n ∷ []) (taken_from b.side b.path (items_in b.type n)) ≡ t)
  exported-value fresh e h = let both : false ≡ true = h in cc
  exported-value (type_equal u) e h = (taken_from b.side b.path u, held-taken-out u h.1, ap (λ (x : Tree). bound_type b.side (b.path ++ named n ∷ []) (taken_from b.side b.path x)) e)
  exported-value x e h = absurd h

pub has-exported : HasExported
has-exported c wf m ms o os it j b v d n others g at shows found is holds binds apart =
    let t = exported-value c wf m it b v d n is others binds apart (items_in b.type n) refl (shows n (ty.Value v) found) in
    top-onward c m ms o (export_at d (at_export j n) o) os g (good-export_at c m (top ms) o (envs os) d (at_export j n) t.0 g.0 t.1 (holds-value c wf m (val.Defined d) t.0 holds t.1) (b, at, t.2)) (kept-refl (env o (envs os)))

here-named : (q n : Name) → is_here exported (named n ∷ []) (Some (own_leaf q)) ≡ same_name q n
here-named q n = by_case (same_name q n)
  where
    by_case : (b : Bool) → (if b then true else false) ≡ b
    by_case true = refl
    by_case false = refl

pub fresh-in-interface : FreshInInterface
fresh-in-interface c it m n r = by_case (own_name c it.uses it.exports (resolved c r))
  where
    by_case : (o : Option Name) → is_here exported (named n ∷ []) (option_case o (option_case (m (resolved c r)) None (λ l. Some (further_out l))) (λ k. Some (own_leaf k))) ≡ option_case o false (λ q. same_name q n)
    by_case None = not-here exported (named n ∷ []) (m (resolved c r))
    by_case (Some q) = here-named q n

pub calls-own : CallsOwn
calls-own c it m r n own = (resolved-self c (length c.resources) r (own-no-alias c it.uses it.exports r n own), ap (λ (o : Option Name). option_case o (option_case (m r) None (λ l. Some (further_out l))) (λ k. Some (own_leaf k))) own)
