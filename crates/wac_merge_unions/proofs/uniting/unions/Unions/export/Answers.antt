use Rattle.std.proofs.Common.{◌∙◌, ap, sym, subst, ℕ, List}
use Rattle.std.specs.List.{list_any}
use Rattle.wac_types_shapes.specs.declared.shapes.component.InterfaceId.{InterfaceId}
use Rattle.wac_types_shapes.specs.declared.shapes.component.ItemKind.{ItemKind}
use Rattle.wac_types_shapes.specs.declared.shapes.component.ItemKind.TheVariants as kind
use Rattle.wac_types_shapes.specs.declared.shapes.component.«Type».TheVariants as ty
use Rattle.wac_merge_classes.specs.declared.terms.parts.Part.{Part}
use Rattle.wac_merge_classes.specs.terms.Unions.{united, is_own_of, IsInner}
use Rattle.wac_merge_unions.specs.private.uniting.UnionSteps.{IsUnited}
use Rattle.wac_merge_unions.proofs.lemmas.uniting.UnionPlaces.{own_still, first_listed}
use Rattle.wac_merge_unions.proofs.lemmas.uniting.UnionJoins.{extends_united, listing_parts}
use Rattle.wac_merge_unions.proofs.uniting.unions.Unions.export.Goals as goal

pub returns-clause-united : goal.returns-clause-united
returns-clause-united c =
    let us = c.args.self.now.unions.items in
    let ps = c.args.self.now.parts.items in
    let vs = c.inner.new.self.unions.items in
    let qs = c.inner.new.self.parts.items in
    subst (λ (is : List (ℕ × InterfaceId)). IsUnited us ps is vs qs) c.in_ok-interfaces.ensures c.in_ok-inner.ensures.united

pub returns-clause-export : goal.returns-clause-export
returns-clause-export c =
    let t = c.args.types.now in
    let us = c.args.self.now.unions.items in
    let ps = c.args.self.now.parts.items in
    let vs = c.inner.new.self.unions.items in
    let qs = c.inner.new.self.parts.items in
    let ls = c.args.listed.now in
    let n = c.args.name.now in
    let d : ℕ × ItemKind = (0, kind.TypeItem (ty.Resource (record { 0 = 0 }))) in
    let first = first_listed ls d c.requires.some in
    let joined : IsUnited us ps (united ls) vs qs = subst (λ (is : List (ℕ × InterfaceId)). IsUnited us ps is vs qs) c.in_ok-interfaces.ensures c.in_ok-inner.ensures.united in
    record {
      more = first.0;
      first = first.1;
      own =
          c.is_own-is_own.ensures ∙ ap (λ (l : List Part). list_any (is_own_of t l n) ls) c.as_slice.ensures.value
          ∙ sym (own_still t ps qs n ls (extends_united t us vs ps qs (united ls) joined).1 (listing_parts t ps ls c.requires.held));
      inner = subst (λ (is : List (ℕ × InterfaceId)). IsInner vs qs c.args.position is c.in_ok-inner.inner) c.in_ok-interfaces.ensures c.in_ok-inner.ensures.inner;
    }
