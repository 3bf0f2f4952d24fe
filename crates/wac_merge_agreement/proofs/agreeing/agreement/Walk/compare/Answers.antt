use Rattle.std.proofs.Common.{◌≡◌, zero, ◌∙◌, ◌<◌, ◌≤◌, [], ◌∷◌, ◌++◌, map, take, length, slice_index_or, inl, List, Some, refl, ap, subst, arith, add-one}
use Rattle.std.specs.Prelude.{slice_get}
use Rattle.std.proofs.lemmas.Option.{slice_get-get_or}
use Rattle.wac_types_shapes.proofs.lemmas.shapes.Names.{take_at}
use Rattle.wac_merge_classes.proofs.lemmas.terms.Found.{get_map, mapped_length}
use Rattle.wac_merge_tables.specs.private.tables.Nodes.{type_of}
use Rattle.wac_merge_tables.specs.private.tables.NodeViews.{item_view}
use Rattle.wac_merge_tables.specs.declared.tables.nodes.Item.TheVariants as item
use Rattle.wac_merge_agreement.specs.private.agreeing.Groups.{Splits}
use Rattle.wac_merge_agreement.specs.private.agreeing.Rows.{groups_view, Row, row_view}
use Rattle.wac_merge_agreement.proofs.lemmas.agreeing.Comparing.{all_at}
use Rattle.wac_merge_agreement.proofs.lemmas.agreeing.GroupKeys.{grouped_keys, split_start}
use Rattle.wac_merge_agreement.proofs.lemmas.agreeing.SpotKeys.{push_view}
use Rattle.wac_merge_agreement.proofs.lemmas.agreeing.Tables.{taken}
use Rattle.wac_merge_agreement.proofs.agreeing.agreement.Walk.compare.Goals as goal

pub loop-i-init : goal.loop-i-init
loop-i-init c =
    let rows = c.args.rows.now in
    let p = slice_index_or rows zero (0, item.«Type» 0) in
    let some : 0 < length rows = omega (arith, mapped_length row_view rows, c.requires.0) in
    let at : slice_get (map row_view rows) 0 ≡ Some (row_view p) = get_map row_view rows zero p (slice_get-get_or rows zero (0, item.«Type» 0) some) in
    let alone : map row_view c.push.new.self.items ≡ row_view p ∷ [] = push_view [] c.push.new.self.items (p.0, p.1) (c.in_ok-push.ensures.items ∙ ap (λ xs. xs ++ (p.0, p.1) ∷ []) c.new-group.ensures.items) in
    record {
      from = omega arith;
      groups = refl;
      splits = split_start c.args.nodes.now p.0 (item_view p.1) c.args.self.now.first (map row_view rows) (map row_view c.push.new.self.items) at alone;
    }

pub set_beside-requires-clause-item : goal.set_beside-requires-clause-item
set_beside-requires-clause-item c =
    let rows = c.args.rows.now in
    let i = c.loop-i.i in
    let q = slice_index_or rows i (0, item.«Type» 0) in
    let at : slice_get (map row_view rows) i ≡ Some (row_view q) = get_map row_view rows i q (slice_get-get_or rows i (0, item.«Type» 0) c.loop-i-test.true) in
    all_at (λ (r : Row). type_of r.1 < length c.args.nodes.now) (map row_view rows) i (row_view q) c.requires.1 at

pub loop-i-preserved : goal.loop-i-preserved
loop-i-preserved c =
    let rows = c.args.rows.now in
    let i = c.loop-i.i in
    let from = c.loop-i.invariant.from in
    let q = slice_index_or rows i (0, item.«Type» 0) in
    let at : slice_get (map row_view rows) i ≡ Some (row_view q) = get_map row_view rows i q (slice_get-get_or rows i (0, item.«Type» 0) c.loop-i-test.true) in
    record {
      from = omega (arith, from);
      groups = c.set_beside.ensures.groups ∙ c.loop-i.invariant.groups;
      splits = rw (add-one, take_at (map row_view rows) i (row_view q) at) (c.in_ok-set_beside.ensures.splits c.args.self.now.first (take i (map row_view rows)) c.loop-i.invariant.splits);
    }

pub returns-in_ok-insert : goal.returns-in_ok-insert
returns-in_ok-insert c =
    let rows = c.args.rows.now in
    let g = c.loop-i.group in
    let p = slice_index_or rows zero (0, item.«Type» 0) in
    let some : 0 < length rows = omega (arith, mapped_length row_view rows, c.requires.0) in
    let long : length (map row_view rows) ≤ c.loop-i.i = omega (arith, mapped_length row_view rows, c.loop-i-test.false) in
    let several : 1 < length (map row_view g.items) = omega (arith, mapped_length row_view g.items, c.if-len-gt1.true, c.len.ensures) in
    record {
      holder = p.0;
      held = item_view p.1;
      group = map row_view g.items;
      at = get_map row_view rows zero p (slice_get-get_or rows zero (0, item.«Type» 0) some);
      splits = subst (λ (l : List Row). Splits c.args.nodes.now p.0 (item_view p.1) c.args.self.now.first l (map row_view g.items) c.loop-i.self.first) (taken (map row_view rows) c.loop-i.i long) c.loop-i.invariant.splits;
      grouped = grouped_keys c.loop-i.self.groups.keys c.args.self.now.groups.keys c.insert.new.self.keys g (ap (λ s. s.keys) c.loop-i.invariant.groups) c.in_ok-insert.ensures.keys several;
    }

pub returns-else-len-gt1 : goal.returns-else-len-gt1
returns-else-len-gt1 c =
    let rows = c.args.rows.now in
    let g = c.loop-i.group in
    let p = slice_index_or rows zero (0, item.«Type» 0) in
    let some : 0 < length rows = omega (arith, mapped_length row_view rows, c.requires.0) in
    let long : length (map row_view rows) ≤ c.loop-i.i = omega (arith, mapped_length row_view rows, c.loop-i-test.false) in
    let few : length (map row_view g.items) ≤ 1 = omega (arith, mapped_length row_view g.items, c.if-len-gt1.false, c.len.ensures) in
    record {
      holder = p.0;
      held = item_view p.1;
      group = map row_view g.items;
      at = get_map row_view rows zero p (slice_get-get_or rows zero (0, item.«Type» 0) some);
      splits = subst (λ (l : List Row). Splits c.args.nodes.now p.0 (item_view p.1) c.args.self.now.first l (map row_view g.items) c.loop-i.self.first) (taken (map row_view rows) c.loop-i.i long) c.loop-i.invariant.splits;
      grouped = inl (few, ap (λ s. groups_view s.keys) c.loop-i.invariant.groups);
    }
