-- What fits outside a part fits inside it, and at the root.
use Rattle.std.proofs.Common.{◌≡◌, ℕ, suc, ◌<◌, List, [], ◌∷◌, length, slice_get, Option, Some, None, refl, sym, ap, ◌∙◌, arith}
use Rattle.std.proofs.lemmas.Option.{slice_get_within}
use Rattle.wac_types_shapes.specs.primitives.Name.{Name, option_case, first_some}
use Rattle.wac_types_shapes.specs.primitives.Tree.{Place, Leaf, exported, named, further_out}
use Rattle.wac_types_collection.specs.collection.Collection.{Collection, HasResource, IsWellFormed, item_at}
use Rattle.wac_types_collection.specs.collection.Held.{resolved}
use Rattle.wac_types_collection.specs.collection.Bound.{Bindings, inside_interface, own_name}
use Rattle.wac_types_shapes.specs.declared.shapes.component.Interface.{Interface}
use Rattle.wac_types_shapes.specs.declared.shapes.component.InterfaceId.{InterfaceId}
use Rattle.wac_types_shapes.specs.declared.shapes.component.ResourceId.{ResourceId}
use Rattle.wac_merge_classes.specs.declared.terms.fresh.Fresh.{Fresh}
use Rattle.wac_merge_classes.specs.declared.terms.parts.Part.{Part}
use Rattle.wac_merge_classes.specs.declared.terms.parts.Union.{Union}
use Rattle.wac_merge_classes.specs.terms.Became.{AreFresh, became, became_in_class, became_outside, became_to, new_at, or_itself, own_in, own_of_part}
use Rattle.wac_merge_classes.specs.entries.Bindings.{AreBindings, ClassBindings, first_in, path_in}
use Rattle.wac_merge_classes.specs.entries.Classes.{Entry, by_names, class_names, members}
use Rattle.wac_merge_classes.specs.terms.Renaming.{Fits}
use Rattle.wac_merge_classes.specs.terms.Union.{inside_member}
use Rattle.wac_merge_classes.specs.terms.Unions.{AreUnions}
use Rattle.wac_merge_classes.specs.terms.Writing.{AreWritten}
use Rattle.wac_merge_classes.specs.private.terms.MergedKinds.{AreInstancesOf, AreListedOnce}
use Rattle.wac_merge_classes.proofs.lemmas.terms.Found.{no_some}
use Rattle.wac_merge_imports.proofs.lemmas.fitting.FittingClasses.{IsOwnOf, instances-own}
use Rattle.wac_merge_classes.proofs.lemmas.entries.Lists.{some-at}
use Rattle.wac_merge_imports.proofs.lemmas.fitting.FittingParts.{IsWritten, listed-own, own-listed, part-owns}
use Rattle.wac_merge_imports.proofs.lemmas.fitting.FittingSteps.{IsOther, enough, first-class, first-path, in-part-around, in-part-own, outside-other, part-other}
use Rattle.wac_merge_classes.proofs.lemmas.entries.Walking.{resolved-held}

-- what an interface binds itself, else what is bound around it
abbrev own_leaf_at : Option Name → Option Leaf → Option Leaf
own_leaf_at o around = option_case o around (λ n. Some (record { out = 0; side = exported; path = named n ∷ [] }))

abbrev one_out : Option Leaf → Option Leaf
one_out o = option_case o None (λ l. Some (further_out l))

module _ (c m : Collection) (es : List Entry) (roots : List (List InterfaceId)) (us : List Union) (ps : List Part) (bs : ClassBindings) (f : Fresh) (ids : List (Option Name)) (ws : List InterfaceId) where
  -- The unions of the classes of these entries became interfaces of the second collection, which has new resources for them.
  pub record AreMerged : Type 0 where
    pub source : IsWellFormed c
    pub target : IsWellFormed m
    pub listed : AreListedOnce c ps
    pub bindings : AreBindings c es bs
    pub counted : length roots ≡ length (class_names by_names es)
    pub unions : AreUnions c roots us ps
    pub fresh : AreFresh c us bs f m
    pub written : AreWritten c m us ps bs f ids ws

  module _ (merged : AreMerged) (p : ℕ) (y : Part) (ip jt : Interface) (w : InterfaceId) (at : slice_get ps p ≡ Some y) (here : item_at c.interfaces (y.interface).0 ≡ Some ip)
      (given : slice_get ws y.union ≡ Some w) (there : item_at m.interfaces w.0 ≡ Some jt) where
    is-written : IsWritten c m us ps bs f ids ws merged.target merged.fresh merged.written y.union jt
    is-written = let u = (merged.unions).within p y at in record { from = u.0; at = u.1; id = w; given = given; there = there }

    part-name : (r : ResourceId) → own_of_part c y r ≡ own_name c ip.uses ip.exports r
    part-name r = ap (λ (o : Option Interface). option_case o None (λ it. own_name c it.uses it.exports r)) here

    abbrev inside : Bindings → ResourceId → Option Leaf
    inside outside t = inside_interface m jt outside t

    -- the union's own resource
    inside-own : (outside : Bindings) (t q : ResourceId) (n : Name) → t ≡ q → own_in f y.union n ≡ Some q → inside outside t ≡ Some (record { out = 0; side = exported; path = named n ∷ [] })
    inside-own outside t q n same own =
        ap (λ (r : ResourceId). inside outside r) same
        ∙ ap (λ (o : Option Name). own_leaf_at o (one_out (outside q))) (own-listed c m us ps bs f ids ws merged.target merged.fresh merged.written y.union jt is-written q n own)

    -- another
    inside-other : (outside : Bindings) (t : ResourceId) → IsOther c m us ps bs f merged.fresh y.union t → inside outside t ≡ one_out (outside t)
    inside-other outside t other = go (own_name m jt.uses jt.exports t) refl where
      go : (o : Option Name) → own_name m jt.uses jt.exports t ≡ o → inside outside t ≡ one_out (outside t)
      go None is = ap (λ (o : Option Name). own_leaf_at o (one_out (outside t))) is
      go (Some n) is = absurd (other n (listed-own c m us ps bs f ids ws merged.target merged.fresh merged.written y.union jt is-written t n is))

    -- what the part lists as its own is bound by its union
    placed : (outside : Bindings) (x : Option Leaf) (s : ResourceId) → (own_of_part c y s ≡ None → inside outside (became c ps bs f (Some p) s) ≡ x)
        → inside outside (became c ps bs f (Some p) s) ≡ own_leaf_at (own_name c ip.uses ip.exports s) x
    placed outside x s other = go (own_name c ip.uses ip.exports s) refl where
      go : (o : Option Name) → own_name c ip.uses ip.exports s ≡ o → inside outside (became c ps bs f (Some p) s) ≡ own_leaf_at o x
      go None is = other (part-name s ∙ is)
      go (Some l) is =
          let new = part-owns c ps merged.listed p y ip at here m roots us bs f merged.unions merged.fresh s l is in
          inside-own outside (became c ps bs f (Some p) s) new.0 l (in-part-own c ps bs f p y at p s new.0 l (part-name s ∙ is) new.1) new.1

    -- the first class that binds a resource is no union of what lies in others
    within-roots : (s : ResourceId) (k : ℕ) (path : List Place) → first_in bs s ≡ Some (k, path) → k < length roots
    within-roots s k path e =
        let b = first-class c es bs merged.bindings s k path e in
        let lt = slice_get_within (class_names by_names es) k b.class b.at in
        let counted = merged.counted in
        omega (arith, lt, counted)

    module _ (o : ℕ) (outer : y.outer ≡ Some o) where
      around-inner : (s : ResourceId) → own_of_part c y s ≡ None → became c ps bs f (Some p) s ≡ became c ps bs f (Some o) s
      around-inner s none =
          let below = (merged.unions).around p o y at outer in
          in-part-around c ps bs f p y at p s none
          ∙ ap (λ (w : Option ℕ). option_case w (became_in_class bs f y.union s) (λ i. became_to p c ps bs f i s)) outer
          ∙ enough c ps bs f (merged.unions).around p (suc o) o below (omega arith) s

      other-inner : (s : ResourceId) → HasResource c s → IsOther c m us ps bs f merged.fresh y.union (became c ps bs f (Some o) s)
      other-inner s held =
          let below = (merged.unions).around p o y at outer in
          let within = slice_get_within ps p y at in
          let z = some-at ps o (omega (arith, below, within)) in
          let later = (merged.unions).inner p o y z.0 at outer z.1 in
          part-other c m us ps bs f merged.fresh y.union s held (λ k path e same. let lt = within-roots s k path e in let le = later.0 in omega (arith, lt, le, same)) roots merged.unions (suc o) o
          (λ x there. ((merged.unions).inner p o y x at outer there).1)

      -- what fits outside an inner part fits inside it
      pub fits-inside : (n outside : Bindings) → Fits c n outside (became c ps bs f (Some o)) → Fits c (inside_interface c ip n) (inside_interface m jt outside) (became c ps bs f (Some p))
      fits-inside n outside fits r held =
          let s = resolved c r in
          placed outside (one_out (n s)) s (λ none.
          ap (λ (t : ResourceId). inside outside t) (around-inner s none)
          ∙ inside-other outside (became c ps bs f (Some o) s) (other-inner s (resolved-held c merged.source r held))
          ∙ ap one_out (fits r held))

    module _ (outer : y.outer ≡ None) (root around : Bindings) (fits : Fits c root around (became c ps bs f None)) where
      around-root : (s : ResourceId) → own_of_part c y s ≡ None → became c ps bs f (Some p) s ≡ became_in_class bs f y.union s
      around-root s none =
          in-part-around c ps bs f p y at p s none
          ∙ ap (λ (w : Option ℕ). option_case w (became_in_class bs f y.union s) (λ i. became_to p c ps bs f i s)) outer

      abbrev class_leaf : Option (List Place) → Option Leaf
      class_leaf o = option_case o None (λ path. Some (record { out = 0; side = exported; path = path }))

      -- what the class binds, else what is bound at the root
      in-class : ((r : ResourceId) (path : List Place) → path_in bs y.union r ≡ Some path → IsOwnOf c m roots us ps bs f merged.listed merged.unions merged.fresh y.union path)
          → (r : ResourceId) → HasResource c r → inside around (became_in_class bs f y.union (resolved c r)) ≡ first_some (class_leaf (path_in bs y.union (resolved c r))) (one_out (root (resolved c r)))
      in-class owns r held = go (resolved c r) (resolved-held c merged.source r held) (fits r held) (path_in bs y.union (resolved c r)) refl where
        go : (s : ResourceId) → HasResource c s → around (became_outside bs f s) ≡ root s → (o : Option (List Place)) → path_in bs y.union s ≡ o
            → inside around (option_case o (became_outside bs f s) (λ path. or_itself s (new_at f y.union path))) ≡ first_some (class_leaf o) (one_out (root s))
        go s there alike None is =
            inside-other around (became_outside bs f s) (outside-other c m us ps bs f merged.fresh y.union s there
            (λ k path e same. no_some path (sym is ∙ ap (λ i. path_in bs i s) (sym same) ∙ first-path bs s k path e)))
            ∙ ap one_out alike
        go s there alike (Some path) is =
            let x = owns s path is in
            inside-own around (or_itself s (new_at f y.union path)) x.resource x.name (ap (λ l. or_itself s (new_at f y.union l)) x.is ∙ ap (or_itself s) x.own) x.own
            ∙ ap (λ l. Some (record { out = 0; side = exported; path = l })) (sym x.is)

      -- what a class of instances is at the root
      pub fits-at-root : (class : Name) (is : List InterfaceId) → slice_get (class_names by_names es) y.union ≡ Some class → slice_get roots y.union ≡ Some is → AreInstancesOf (members by_names es class) is
          → Fits c (inside_member by_names c es class ip root) (inside_interface m jt around) (became c ps bs f (Some p))
      fits-at-root class is named_so rooted are r held =
          let s = resolved c r in
          placed around (first_some (class_leaf (path_in bs y.union s)) (one_out (root s))) s (λ none.
          ap (λ (t : ResourceId). inside around t) (around-root s none)
          ∙ in-class (λ q path binds. instances-own c m roots us ps bs f merged.listed merged.unions merged.fresh es y.union class is rooted are q path (sym ((merged.bindings).paths y.union class q named_so) ∙ binds)) r held)
          ∙ last (own_name c ip.uses ip.exports s) (path_in bs y.union s) (one_out (root s))
          ∙ ap (λ (o : Option (List Place)). first_some (own_leaf_at (own_name c ip.uses ip.exports s) None) (first_some (class_leaf o) (one_out (root s)))) ((merged.bindings).paths y.union class s named_so)
        where
          last : (o : Option Name) (l : Option (List Place)) (x : Option Leaf) → own_leaf_at o (first_some (class_leaf l) x) ≡ first_some (own_leaf_at o None) (first_some (class_leaf l) x)
          last None l x = refl
          last (Some n) l x = refl

      -- what the class of a type item is at the root, where it binds nothing
      pub fits-at-root-bare : ((r : ResourceId) → path_in bs y.union r ≡ None) → Fits c (inside_interface c ip root) (inside_interface m jt around) (became c ps bs f (Some p))
      fits-at-root-bare bare r held =
          let s = resolved c r in
          placed around (one_out (root s)) s (λ none.
          ap (λ (t : ResourceId). inside around t) (around-root s none)
          ∙ in-class (λ q path binds. absurd (no_some path (sym (bare q) ∙ binds))) r held
          ∙ ap (λ (o : Option (List Place)). first_some (class_leaf o) (one_out (root s))) (bare s))
