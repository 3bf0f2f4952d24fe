use Rattle.std.proofs.Common.{◌≡◌, ◌-◌, ℕ, List, [], ◌++◌, Option, Some, None, IsSome, map, take, refl, ap, sym, ◌∙◌, subst, string_bytes}
use Rattle.std.specs.List.{AllByRecursion}
use Rattle.std.specs.Option.{MatchOption, option_to_list}
use Rattle.std.proofs.lemmas.List.{append-nil}
use Rattle.wac_types_shapes.specs.primitives.Name.{Name}
use Rattle.wac_types_shapes.specs.declared.shapes.component.ItemKind.{ItemKind}
use Rattle.wac_types_shapes.specs.declared.shapes.component.ItemKind.TheVariants as kind
use Rattle.wac_merge_classes.specs.entries.Agreement.{AreInstances, LeadsApart, here}
use Rattle.wac_merge_tables.specs.private.tables.Nodes.{Item, item_tree, tree_at}
use Rattle.wac_merge_tables.specs.private.tables.NodeViews.{item_view}
use Rattle.wac_merge_tables.specs.declared.tables.nodes.Item.{Item as AnItem}
use Rattle.wac_merge_agreement.specs.private.agreeing.Apart.{ItemsAgree}
use Rattle.wac_merge_agreement.specs.private.agreement.Levels.{AreLevels, HasPassed, IsStart, at_root, name_of, under}
use Rattle.wac_merge_agreement.specs.declared.agreement.apart.Level.{Level}
use Rattle.wac_merge_agreement.proofs.lemmas.agreement.Descending.{back_at, last_level, less_agree, less_done, less_inside, no_level, way_found}
use Rattle.wac_merge_agreement.proofs.lemmas.agreement.Leading.{if_ok, match_some}
use Rattle.wac_merge_agreement.proofs.agreement.apart.path_apart.Goals as goal

pub returns-in_default : goal.returns-in_default
returns-in_default c =
    let types = c.args.types.now in
    let ns = c.args.nodes.now in
    let t = item_tree (tree_at ns) (item_view c.args.first) in
    let u = item_tree (tree_at ns) (item_view c.args.second) in
    let closed : AreInstances t u → ⊥ = subst (λ o. MatchOption o (AreInstances t u → ⊥) (IsStart types ns c.args.first c.args.second c.args.kind)) c.in_default.is (c.of.ensures types c.requires.of_kind) in
    subst (λ zs. LeadsApart types t u c.args.kind (map string_bytes zs)) (sym c.new.ensures.items) (here t u c.args.kind closed c.requires.apart)

pub loop-inner-init : goal.loop-inner-init
loop-inner-init c =
    let types = c.args.types.now in
    let ns = c.args.nodes.now in
    let x = item_view c.args.first in
    let y = item_view c.args.second in
    let k = c.args.kind in
    let l = c.in-Some.level in
    let start : IsStart types ns c.args.first c.args.second k l =
    match_some (AreInstances (item_tree (tree_at ns) x) (item_tree (tree_at ns) y) → ⊥) (IsStart types ns c.args.first c.args.second k) c.of.result l (c.of.ensures types c.requires.of_kind) c.in-Some.is in
    let root : AreLevels types ns x y k [] x y (kind.Instance l.interface) = subst (λ (z : ItemKind). AreLevels types ns x y k [] x y z) start.kind_is at_root in
    let second : AreLevels types ns x y k [] x (item_view l.second) (kind.Instance l.interface) = subst (λ (z : AnItem). AreLevels types ns x y k [] x (item_view z) (kind.Instance l.interface)) (sym start.second_is) root in
    let both : AreLevels types ns x y k [] (item_view l.first) (item_view l.second) (kind.Instance l.interface) =
    subst (λ (z : AnItem). AreLevels types ns x y k [] (item_view z) (item_view l.second) (kind.Instance l.interface)) (sym start.first_is) second in
    record { levels = subst (λ (zs : List Level). AreLevels types ns x y k zs (item_view l.first) (item_view l.second) (kind.Instance l.interface)) (sym c.new-levels.ensures.items) both; level = start.level }

pub loop-inner-smaller-in-Agree : goal.loop-inner-smaller-in-Agree
loop-inner-smaller-in-Agree c = less_agree c.args.types.now c.loop-inner.levels.items c.loop-inner.level c.look.new.self c.in-Agree.ensures.0

pub loop-inner-smaller-in-Inside : goal.loop-inner-smaller-in-Inside
loop-inner-smaller-in-Inside c =
    let found = c.in-Inside.ensures in
    less_inside c.args.types.now c.law.ensures c.args.nodes.now c.loop-inner.levels.items c.push.new.self.items c.loop-inner.level c.look.new.self c.in-Inside.inner found.0 found.1.0 found.1.1.0.opened.held found.1.1.1 c.in_ok-push-in-Inside.ensures.items

pub loop-inner-preserved-in-Inside : goal.loop-inner-preserved-in-Inside
loop-inner-preserved-in-Inside c =
    let types = c.args.types.now in
    let ns = c.args.nodes.now in
    let x = item_view c.args.first in
    let y = item_view c.args.second in
    let k = c.args.kind in
    let ls = c.loop-inner.levels.items in
    let m = c.look.new.self in
    let inner = c.in-Inside.inner in
    let found = c.in-Inside.ensures in
    let rest : AreLevels types ns x y k ls (item_view m.first) (item_view m.second) (kind.Instance m.interface) =
    subst (λ (z : Level). AreLevels types ns x y k ls (item_view z.first) (item_view z.second) (kind.Instance z.interface)) (sym found.0.is) c.loop-inner.invariant.levels in
    record {
      levels = under c.push.new.self.items ls m (item_view inner.first) (item_view inner.second) (kind.Instance inner.interface) c.in_ok-push-in-Inside.ensures.items rest found.1.0;
      level = found.1.1.0;
    }

-- where levels are left, the last is taken
last-there : (o : Option Level) (n m : ℕ) (ls new : List Level) (P : Level → Type 0) → ls ≡ new ++ option_to_list o → new ≡ take (n - 1) ls → MatchOption o ((n ≡ 0) × (m ≡ 0)) P → (ls ≡ [] → ⊥) → IsSome o
last-there (Some l) n m ls new P is rest cases some = refl
last-there None n m ls new P is rest cases some = absurd (some (is ∙ ap (λ (ks : List Level). ks ++ []) (rest ∙ ap (λ (k : ℕ). take (k - 1) ls) cases.0)))

pub unwrap-level-requires : goal.unwrap-level-requires
unwrap-level-requires c =
    let ns = c.args.nodes.now in
    let x = item_view c.args.first in
    let y = item_view c.args.second in
    let l = c.loop-inner.level in
    last-there c.pop.result _ _ c.loop-inner.levels.items c.pop.new.self.items _ c.pop.ensures.items c.pop.ensures.rest c.pop.ensures.cases (λ none.
    let (p, q) = no_level c.args.types.now ns c.table_law.ensures x y c.args.kind c.loop-inner.levels.items (item_view l.first) (item_view l.second) (kind.Instance l.interface) c.loop-inner.invariant.levels none in
    c.requires.apart (subst (λ (z : Item). ItemsAgree ns z y) p (subst (λ (z : Item). ItemsAgree ns (item_view l.first) z) q c.in-Done.ensures)))

pub loop-inner-smaller : goal.loop-inner-smaller
loop-inner-smaller c = less_done c.args.types.now c.pop.new.self.items c.loop-inner.levels.items c.unwrap-level.result c.loop-inner.level (c.pop.ensures.items ∙ ap (λ (o : Option Level). c.pop.new.self.items ++ option_to_list o) c.unwrap-level.ensures)

pub loop-inner-preserved : goal.loop-inner-preserved
loop-inner-preserved c =
    let types = c.args.types.now in
    let ns = c.args.nodes.now in
    let l = c.loop-inner.level in
    let outer = c.unwrap-level.result in
    let (rest, over) = last_level types ns c.table_law.ensures (item_view c.args.first) (item_view c.args.second) c.args.kind c.loop-inner.levels.items c.pop.new.self.items outer (item_view l.first) (item_view l.second) (kind.Instance l.interface)
    c.loop-inner.invariant.levels (c.pop.ensures.items ∙ ap (λ (o : Option Level). c.pop.new.self.items ++ option_to_list o) c.unwrap-level.ensures) in
    record { levels = rest; level = back_at types ns c.table_law.ensures outer (item_view l.first) (item_view l.second) (kind.Instance l.interface) over c.in-Done.ensures }

pub names-requires : goal.names-requires
names-requires c =
    let types = c.args.types.now in
    let ns = c.args.nodes.now in
    let x = item_view c.args.first in
    let y = item_view c.args.second in
    let k = c.args.kind in
    let ls = c.loop-inner.levels.items in
    let m = c.look.new.self in
    let found = c.in-Apart.ensures in
    let rest : AreLevels types ns x y k ls (item_view m.first) (item_view m.second) (kind.Instance m.interface) =
    subst (λ (z : Level). AreLevels types ns x y k ls (item_view z.first) (item_view z.second) (kind.Instance z.interface)) (sym found.0.is) c.loop-inner.invariant.levels in
    subst (λ (zs : List Level). AllByRecursion (HasPassed types) zs) (sym c.as_slice.ensures.value) (way_found types ns c.table_law.ensures x y k c.push-in-Apart.new.self.items ls m c.in_ok-push-in-Apart.ensures.items rest found.1).0

pub returns-in-Apart : goal.returns-in-Apart
returns-in-Apart c =
    let types = c.args.types.now in
    let ns = c.args.nodes.now in
    let x = item_view c.args.first in
    let y = item_view c.args.second in
    let k = c.args.kind in
    let ls = c.loop-inner.levels.items in
    let all = c.push-in-Apart.new.self.items in
    let m = c.look.new.self in
    let found = c.in-Apart.ensures in
    let rest : AreLevels types ns x y k ls (item_view m.first) (item_view m.second) (kind.Instance m.interface) =
    subst (λ (z : Level). AreLevels types ns x y k ls (item_view z.first) (item_view z.second) (kind.Instance z.interface)) (sym found.0.is) c.loop-inner.invariant.levels in
    let leads = (way_found types ns c.table_law.ensures x y k all ls m c.in_ok-push-in-Apart.ensures.items rest found.1).1 in
    if_ok (λ names. map string_bytes names.items ≡ map (name_of types) c.as_slice.result.now) (λ names. LeadsApart types (item_tree (tree_at ns) x) (item_tree (tree_at ns) y) k (map string_bytes names.items)) c.names.result
    (λ names e. subst (λ (zs : List Name). LeadsApart types (item_tree (tree_at ns) x) (item_tree (tree_at ns) y) k zs) (append-nil (map (name_of types) all) ∙ ap (map (name_of types)) (sym c.as_slice.ensures.value) ∙ sym e) leads) c.names.ensures
