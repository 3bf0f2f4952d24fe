use Rattle.std.proofs.Common.{◌≡◌, ◌+◌, ◌<◌, [], length, Some, false, true, refl, sym, ap, ◌∙◌, subst, arith}
use Rattle.std.specs.Prelude.{slice_get}
use Rattle.std.specs.Option.{MatchOption}
use Rattle.std.proofs.lemmas.Option.{slice_get_within}
use Rattle.wac_types_shapes.specs.primitives.Name.{find_name, option_case}
use Rattle.wac_types_shapes.specs.declared.shapes.component.ItemKind.{ItemKind}
use Rattle.wac_types_shapes.specs.declared.shapes.component.ItemKind.TheVariants as kind
use Rattle.wac_types_shapes.proofs.lemmas.shapes.Names.{find_name-at}
use Rattle.wac_types_collection.specs.collection.Collection.{interface_exports}
use Rattle.wac_merge_classes.specs.entries.Agreement.{AreInstances}
use Rattle.wac_merge_tables.specs.private.tables.Nodes.{item_tree, tree_at, type_of}
use Rattle.wac_merge_tables.specs.private.tables.NodeViews.{item_view}
use Rattle.wac_merge_tables.specs.declared.tables.nodes.Item.{Item}
use Rattle.wac_merge_classes.proofs.lemmas.terms.Found.{some_same}
use Rattle.wac_merge_agreement.specs.private.agreement.Levels.{IsAbove, IsStart}
use Rattle.wac_merge_agreement.specs.private.agreement.Shapes.{IsOfKind}
use Rattle.wac_merge_agreement.specs.private.agreeing.Fitting.{exports_of}
use Rattle.wac_merge_agreement.specs.declared.agreement.apart.Level.{Level}
use Rattle.wac_merge_agreement.proofs.lemmas.agreeing.Comparing.{agree_same, child_lower}
use Rattle.wac_merge_agreement.proofs.lemmas.agreement.Descending.{above, all_looked_at, apart_closed, found_in, further, none_in}
use Rattle.wac_merge_agreement.proofs.lemmas.agreement.Leading.{of_kind_under, shaped_under, match_some}
use Rattle.wac_merge_agreement.proofs.agreement.apart.Level.look.Goals as goal

pub returns-then-position-len : goal.returns-then-position-len
returns-then-position-len c =
    let order : interface_exports c.args.types.now c.args.self.now.interface ≡ c.index.result.now.exports = ap (λ o. option_case o [] (λ x. x.exports)) c.index.ensures in
    let long = ap length order in
    all_looked_at c.args.types.now c.args.nodes.now c.table_law.ensures c.args.self.now c.requires (omega (arith, c.if-position-len.true, c.len.ensures, long))

pub returns-in_default : goal.returns-in_default
returns-in_default c =
    let l = c.args.self.now in
    let n = c.entry_at.result.0.now in
    let order : interface_exports c.args.types.now l.interface ≡ c.index.result.now.exports = ap (λ o. option_case o [] (λ x. x.exports)) c.index.ensures in
    let at = ap (λ es. slice_get es l.passed) order ∙ c.entry_at.ensures in
    let m : Level = record { first = l.first; second = l.second; interface = l.interface; passed = l.passed + 1 } in
    further c.args.types.now c.args.nodes.now c.table_law.ensures l m n c.entry_at.result.1.now c.requires at
    (λ a b p q. absurd (none_in (exports_of c.args.nodes.now (item_view l.first)) c.requires.es n c.export_of.result c.requires.opened.first c.export_of.ensures c.in_default.not-Some a p)) refl

pub returns-in_default-export_of : goal.returns-in_default-export_of
returns-in_default-export_of c =
    let l = c.args.self.now in
    let n = c.entry_at.result.0.now in
    let order : interface_exports c.args.types.now l.interface ≡ c.index.result.now.exports = ap (λ o. option_case o [] (λ x. x.exports)) c.index.ensures in
    let at = ap (λ es. slice_get es l.passed) order ∙ c.entry_at.ensures in
    let m : Level = record { first = l.first; second = l.second; interface = l.interface; passed = l.passed + 1 } in
    further c.args.types.now c.args.nodes.now c.table_law.ensures l m n c.entry_at.result.1.now c.requires at
    (λ a b p q. absurd (none_in (exports_of c.args.nodes.now (item_view l.second)) c.requires.fs n c.export_of-2.result c.requires.opened.second c.export_of-2.ensures c.in_default-export_of.not-Some b q)) refl

pub returns-then-is_one : goal.returns-then-is_one
returns-then-is_one c =
    let l = c.args.self.now in
    let ns = c.args.nodes.now in
    let n = c.entry_at.result.0.now in
    let x = item_view c.in-Some.first in
    let y = item_view c.in-Some-export_of.second in
    let order : interface_exports c.args.types.now l.interface ≡ c.index.result.now.exports = ap (λ o. option_case o [] (λ z. z.exports)) c.index.ensures in
    let at = ap (λ es. slice_get es l.passed) order ∙ c.entry_at.ensures in
    let m : Level = record { first = l.first; second = l.second; interface = l.interface; passed = l.passed + 1 } in
    let in_first : find_name c.requires.es n ≡ Some x = found_in (exports_of ns (item_view l.first)) c.requires.es n c.export_of.result c.requires.opened.first c.export_of.ensures c.in-Some.first c.in-Some.is in
    let in_second : find_name c.requires.fs n ≡ Some y = found_in (exports_of ns (item_view l.second)) c.requires.fs n c.export_of-2.result c.requires.opened.second c.export_of-2.ensures c.in-Some-export_of.second c.in-Some-export_of.is in
    let same : x ≡ y = c.is_one.ensures.0 c.if-is_one.true in
    further c.args.types.now ns c.table_law.ensures l m n c.entry_at.result.1.now c.requires at
    (λ a b p q. agree_same ns c.table_law.ensures a b (some_same a x (sym p ∙ in_first) ∙ same ∙ some_same y b (sym in_second ∙ q))) refl

pub of-requires-clause-first_low : goal.of-requires-clause-first_low
of-requires-clause-first_low c =
    let l = c.args.self.now in
    let ns = c.args.nodes.now in
    let n = c.entry_at.result.0.now in
    let x = item_view c.in-Some.first in
    let in_first : find_name c.requires.es n ≡ Some x = found_in (exports_of ns (item_view l.first)) c.requires.es n c.export_of.result c.requires.opened.first c.export_of.ensures c.in-Some.first c.in-Some.is in
    let lower : type_of x < type_of (item_view l.first) = child_lower ns c.table_law.ensures (item_view l.first) x c.requires.es n c.requires.opened.first in_first in
    omega (arith, lower, c.requires.opened.first_low)

pub of-requires-clause-second_low : goal.of-requires-clause-second_low
of-requires-clause-second_low c =
    let l = c.args.self.now in
    let ns = c.args.nodes.now in
    let n = c.entry_at.result.0.now in
    let y = item_view c.in-Some-export_of.second in
    let in_second : find_name c.requires.fs n ≡ Some y = found_in (exports_of ns (item_view l.second)) c.requires.fs n c.export_of-2.result c.requires.opened.second c.export_of-2.ensures c.in-Some-export_of.second c.in-Some-export_of.is in
    let lower : type_of y < type_of (item_view l.second) = child_lower ns c.table_law.ensures (item_view l.second) y c.requires.fs n c.requires.opened.second in_second in
    omega (arith, lower, c.requires.opened.second_low)

pub of-requires-clause-shaped : goal.of-requires-clause-shaped
of-requires-clause-shaped c =
    let l = c.args.self.now in
    let ns = c.args.nodes.now in
    let n = c.entry_at.result.0.now in
    let x = item_view c.in-Some.first in
    let in_first : find_name c.requires.es n ≡ Some x = found_in (exports_of ns (item_view l.first)) c.requires.es n c.export_of.result c.requires.opened.first c.export_of.ensures c.in-Some.first c.in-Some.is in
    shaped_under c.args.types.now ns c.table_law.ensures (item_view l.first) (item_view l.second) c.requires.es c.requires.fs l.interface c.requires.opened.first c.requires.opened.second c.requires.opened.of_kind n x in_first c.requires.opened.shaped

pub returns-in-Some-of : goal.returns-in-Some-of
returns-in-Some-of c =
    let l = c.args.self.now in
    let types = c.args.types.now in
    let ns = c.args.nodes.now in
    let n = c.entry_at.result.0.now in
    let k = c.entry_at.result.1.now in
    let x = item_view c.in-Some.first in
    let y = item_view c.in-Some-export_of.second in
    let order : interface_exports types l.interface ≡ c.index.result.now.exports = ap (λ o. option_case o [] (λ z. z.exports)) c.index.ensures in
    let at = ap (λ es. slice_get es l.passed) order ∙ c.entry_at.ensures in
    let m : Level = record { first = l.first; second = l.second; interface = l.interface; passed = l.passed + 1 } in
    let in_first : find_name c.requires.es n ≡ Some x = found_in (exports_of ns (item_view l.first)) c.requires.es n c.export_of.result c.requires.opened.first c.export_of.ensures c.in-Some.first c.in-Some.is in
    let in_second : find_name c.requires.fs n ≡ Some y = found_in (exports_of ns (item_view l.second)) c.requires.fs n c.export_of-2.result c.requires.opened.second c.export_of-2.ensures c.in-Some-export_of.second c.in-Some-export_of.is in
    let listed = ap (λ es. find_name es n) order ∙ find_name-at c.index.result.now.exports l.passed n k c.law.ensures c.entry_at.ensures in
    let of : IsOfKind types (item_tree (tree_at ns) y) k =
    of_kind_under types ns c.table_law.ensures (item_view l.first) (item_view l.second) c.requires.es c.requires.fs l.interface c.requires.opened.first c.requires.opened.second c.requires.opened.of_kind n y k in_second listed in
    let start : IsStart types ns c.in-Some.first c.in-Some-export_of.second k c.in-Some-of.level =
    match_some (AreInstances (item_tree (tree_at ns) x) (item_tree (tree_at ns) y) → ⊥) (IsStart types ns c.in-Some.first c.in-Some-export_of.second k) c.of.result c.in-Some-of.level (c.of.ensures types of) c.in-Some-of.is in
    let over : IsAbove types ns m x y k = above types ns c.table_law.ensures l m n k x y c.requires at in_first in_second refl in (
      record { within = slice_get_within (interface_exports types l.interface) l.passed (n, k) at; is = refl },
      (
        subst (λ (z : Item). IsAbove types ns m (item_view z) (item_view c.in-Some-of.level.second) (kind.Instance c.in-Some-of.level.interface)) (sym start.first_is)
            (subst (λ (z : Item). IsAbove types ns m x (item_view z) (kind.Instance c.in-Some-of.level.interface)) (sym start.second_is) (subst (λ (z : ItemKind). IsAbove types ns m x y z) start.kind_is over)),
        (start.level, start.none_passed),
      ),
    )

pub returns-in-None : goal.returns-in-None
returns-in-None c =
    let l = c.args.self.now in
    let types = c.args.types.now in
    let ns = c.args.nodes.now in
    let n = c.entry_at.result.0.now in
    let k = c.entry_at.result.1.now in
    let x = item_view c.in-Some.first in
    let y = item_view c.in-Some-export_of.second in
    let order : interface_exports types l.interface ≡ c.index.result.now.exports = ap (λ o. option_case o [] (λ z. z.exports)) c.index.ensures in
    let at = ap (λ es. slice_get es l.passed) order ∙ c.entry_at.ensures in
    let m : Level = record { first = l.first; second = l.second; interface = l.interface; passed = l.passed + 1 } in
    let in_first : find_name c.requires.es n ≡ Some x = found_in (exports_of ns (item_view l.first)) c.requires.es n c.export_of.result c.requires.opened.first c.export_of.ensures c.in-Some.first c.in-Some.is in
    let in_second : find_name c.requires.fs n ≡ Some y = found_in (exports_of ns (item_view l.second)) c.requires.fs n c.export_of-2.result c.requires.opened.second c.export_of-2.ensures c.in-Some-export_of.second c.in-Some-export_of.is in
    let listed = ap (λ es. find_name es n) order ∙ find_name-at c.index.result.now.exports l.passed n k c.law.ensures c.entry_at.ensures in
    let of : IsOfKind types (item_tree (tree_at ns) y) k =
    of_kind_under types ns c.table_law.ensures (item_view l.first) (item_view l.second) c.requires.es c.requires.fs l.interface c.requires.opened.first c.requires.opened.second c.requires.opened.of_kind n y k in_second listed in
    let closed : AreInstances (item_tree (tree_at ns) x) (item_tree (tree_at ns) y) → ⊥ =
    subst (λ o. MatchOption o (AreInstances (item_tree (tree_at ns) x) (item_tree (tree_at ns) y) → ⊥) (IsStart types ns c.in-Some.first c.in-Some-export_of.second k)) c.in-None.is (c.of.ensures types of) in
    let first_lower : type_of x < type_of (item_view l.first) = child_lower ns c.table_law.ensures (item_view l.first) x c.requires.es n c.requires.opened.first in_first in
    let second_lower : type_of y < type_of (item_view l.second) = child_lower ns c.table_law.ensures (item_view l.second) y c.requires.fs n c.requires.opened.second in_second in (
      record { within = slice_get_within (interface_exports types l.interface) l.passed (n, k) at; is = refl },
      record {
        x = x;
        y = y;
        k = k;
        above = above types ns c.table_law.ensures l m n k x y c.requires at in_first in_second refl;
        closed = closed;
        apart = apart_closed types ns c.table_law.ensures x y (omega (arith, first_lower, c.requires.opened.first_low)) (omega (arith, second_lower, c.requires.opened.second_low))
            (λ same. let wrong : false ≡ true = sym c.if-is_one.false ∙ c.is_one.ensures.1 same in cc wrong) closed;
      },
    )
