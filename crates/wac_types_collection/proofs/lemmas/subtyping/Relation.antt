-- Subtyping is reflexive and transitive.
use Rattle.std.proofs.Common.{ℕ, ◌≡◌, ◌≢◌, refl, sym, ◌∙◌, subst, Option, Some, None, arith}
use Rattle.wac_types_shapes.specs.primitives.Core.{CoreItem, no_item, core_function, core_table, core_memory, core_global, core_tag}
use Rattle.wac_types_shapes.specs.primitives.Tree.{TypeTree, absent, instance, component, module_of, type_equal, instance_item, component_item, module_item}
use Rattle.wac_types_collection.specs.subtyping.Subtype.{Sub, IsPlain, IsCoreSubtype, IsMaximumWithin}

module _ {L : Type 0} where
  -- what is plain is a subtype of its equal alone
  pub plain_sub : (a b : TypeTree L) → IsPlain a → Sub a b → a ≡ b
  plain_sub a b p (Sub.same _ q) = refl
  plain_sub a b p _ = absurd p

  pub plain_same : (a b : TypeTree L) → IsPlain a → a ≡ b → Sub a b
  plain_same a b p e = let P : TypeTree L → Type 0 = λ x. Sub a x in subst P e (Sub.same a p)

maximum_refl : (m : Option ℕ) → IsMaximumWithin m m
maximum_refl None = tt
maximum_refl (Some a) = omega arith

maximum_trans : (l m n : Option ℕ) → IsMaximumWithin l m → IsMaximumWithin m n → IsMaximumWithin l n
maximum_trans l m None h k = tt
maximum_trans l None (Some c) h k = absurd k
maximum_trans None (Some b) (Some c) h k = absurd h
maximum_trans (Some a) (Some b) (Some c) h k = omega (arith, h, k)

core_refl : (a : CoreItem) → IsCoreSubtype a a
core_refl (core_table e wide shared least most) = (refl, refl, refl, omega arith, maximum_refl most)
core_refl (core_memory wide shared least most page) = (refl, refl, refl, omega arith, maximum_refl most)
core_refl no_item = refl
core_refl (core_function p r) = refl
core_refl (core_global v m s) = refl
core_refl (core_tag p r) = refl

core_trans : (a b c : CoreItem) → IsCoreSubtype a b → IsCoreSubtype b c → IsCoreSubtype a c
core_trans (core_table e1 w1 s1 l1 m1) (core_table e2 w2 s2 l2 m2) (core_table e3 w3 s3 l3 m3) h k =
    let p = h.3 in let q = k.3 in
    (h.0 ∙ k.0, h.1 ∙ k.1, h.2 ∙ k.2, omega (arith, p, q), maximum_trans m1 m2 m3 h.4 k.4)
core_trans (core_memory w1 s1 l1 m1 p1) (core_memory w2 s2 l2 m2 p2) (core_memory w3 s3 l3 m3 p3) h k =
    let p = h.3 in let q = k.3 in
    (h.0 ∙ k.0, h.1 ∙ k.1, h.2 ∙ k.2, omega (arith, p, q), maximum_trans m1 m2 m3 h.4 k.4)
core_trans (core_table e1 w1 s1 l1 m1) (core_table e2 w2 s2 l2 m2) c h k = let P : CoreItem → Type 0 = λ z. IsCoreSubtype (core_table e1 w1 s1 l1 m1) z in subst P k h
core_trans (core_memory w1 s1 l1 m1 p1) (core_memory w2 s2 l2 m2 p2) c h k = let P : CoreItem → Type 0 = λ z. IsCoreSubtype (core_memory w1 s1 l1 m1 p1) z in subst P k h
core_trans a b c h k = let P : CoreItem → Type 0 = λ z. IsCoreSubtype z c in subst P (sym h) k

core_not : (a b : CoreItem) → IsCoreSubtype a b → b ≢ no_item → a ≢ no_item
core_not a b s n e = n (sym (let P : CoreItem → Type 0 = λ z. IsCoreSubtype z b in subst P e s))

module _ {L : Type 0} where
  pub sub_refl : (t : TypeTree L) → Sub t t
  sub_refl (instance es) = Sub.instances es es (λ n h. sub_refl (es n))
  sub_refl (component is es) = Sub.components is es is es (λ n h. sub_refl (is n)) (λ n h. sub_refl (es n))
  sub_refl (module_of is es) = Sub.modules is is es es (λ m n h. core_refl (is m n)) (λ n h. core_refl (es n))
  sub_refl (type_equal t) = Sub.type_items t t (sub_refl t) (sub_refl t)
  sub_refl (instance_item t) = Sub.instance_items t t (sub_refl t)
  sub_refl (component_item t) = Sub.component_items t t (sub_refl t)
  sub_refl (module_item t) = Sub.module_items t t (sub_refl t)
  sub_refl t = Sub.same t tt

  not_absent : (a b : TypeTree L) → Sub a b → b ≢ absent → a ≢ absent
  not_absent a b s n e = n (sym (plain_sub absent b tt (let P : TypeTree L → Type 0 = λ z. Sub z b in subst P e s)))

  pub sub_trans : (b a c : TypeTree L) → Sub a b → Sub b c → Sub a c
  sub_trans (instance ys) a c (Sub.instances xs _ f) (Sub.instances _ zs g) = Sub.instances xs zs
      (λ n there. let r = g n there in sub_trans (ys n) (xs n) (zs n) (f n (not_absent (ys n) (zs n) r there)) r)
  sub_trans (component yi ye) a c (Sub.components xi xe _ _ f g) (Sub.components _ _ zi ze h k) = Sub.components xi xe zi ze
      (λ n there. let r = f n there in sub_trans (yi n) (zi n) (xi n) (h n (not_absent (yi n) (xi n) r there)) r)
      (λ n there. let r = k n there in sub_trans (ye n) (xe n) (ze n) (g n (not_absent (ye n) (ze n) r there)) r)
  sub_trans (module_of yi ye) a c (Sub.modules xi _ xe _ f g) (Sub.modules _ zi _ ze h k) = Sub.modules xi zi xe ze
      (λ m n there. let r = f m n there in core_trans (zi m n) (yi m n) (xi m n) (h m n (core_not (yi m n) (xi m n) r there)) r)
      (λ n there. let r = k n there in core_trans (xe n) (ye n) (ze n) (g n (core_not (ye n) (ze n) r there)) r)
  sub_trans (type_equal b) a c (Sub.type_items x _ f g) (Sub.type_items _ z h k) = Sub.type_items x z (sub_trans b x z f h) (sub_trans b z x k g)
  sub_trans (instance_item b) a c (Sub.instance_items x _ f) (Sub.instance_items _ z h) = Sub.instance_items x z (sub_trans b x z f h)
  sub_trans (component_item b) a c (Sub.component_items x _ f) (Sub.component_items _ z h) = Sub.component_items x z (sub_trans b x z f h)
  sub_trans (module_item b) a c (Sub.module_items x _ f) (Sub.module_items _ z h) = Sub.module_items x z (sub_trans b x z f h)
  sub_trans b a c (Sub.same _ p) t = t
  sub_trans b a c s (Sub.same _ p) = s
