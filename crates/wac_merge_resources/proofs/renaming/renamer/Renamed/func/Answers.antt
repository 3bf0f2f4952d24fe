use Rattle.std.proofs.Common.{inl, inr, refl, sym, ◌∙◌, subst}
use Rattle.wac_merge_tables.proofs.lemmas.tables.TaskLemmas.{func_values_hold}
use Rattle.wac_merge_resources.specs.values.NamedTypes.{named_type}
use Rattle.wac_merge_resources.specs.private.renaming.RenamedTypes.{becomes}
use Rattle.wac_merge_resources.specs.renaming.MadeOf.{IsFuncMadeOf}
use Rattle.wac_merge_tables.specs.made.Made.{StayMade}
use Rattle.wac_merge_resources.specs.private.renaming.RenamingSteps.{IsBecome, IsRenamedIn, IsRenamedValue}
use Rattle.wac_merge_tables.specs.declared.made.made.Made.{Made}
use Rattle.wac_merge_resources.specs.declared.renaming.renamer.Renamed.{Renamed}
use Rattle.wac_merge_tables.proofs.lemmas.made.Extending.{extended_none, extended_twice, kept_item}
use Rattle.wac_merge_resources.proofs.lemmas.renaming.StillRenamed.{still_can}
use Rattle.wac_merge_resources.proofs.lemmas.renaming.OneIds.{func_once, names_beside, stay_twice}
use Rattle.wac_merge_resources.proofs.lemmas.renaming.RenamingMemo.{func_closed, func_right, still_with}
use Rattle.wac_merge_resources.proofs.lemmas.renaming.RenamingShapes.{fields_more, option_more}
use Rattle.wac_merge_resources.proofs.lemmas.renaming.RenamingTrees as trees
use Rattle.wac_merge_resources.proofs.lemmas.renaming.Staying.{func_parts_stay, func_shape_renamed, func_shape_stays, same_some}
use Rattle.wac_merge_resources.proofs.renaming.renamer.Renamed.func.Goals as goal

pub returns-in-Some-clause-extended : goal.returns-in-Some-clause-extended
returns-in-Some-clause-extended c = extended_none c.args.merged.now

pub returns-in-Some-clause-func : goal.returns-in-Some-clause-func
returns-in-Some-clause-func c = c.requires.right.funcs c.args.id c.in-Some.became (sym c.func_type.ensures ∙ c.in-Some.is)

pub returns-in-Some-clause-once : goal.returns-in-Some-clause-once
returns-in-Some-clause-once c = c.requires.right.once_funcs c.args.id c.in-Some.became (sym c.func_type.ensures ∙ c.in-Some.is)

pub reach-requires-clause-held : goal.reach-requires-clause-held
reach-requires-clause-held c = func_values_hold c.args.renaming.now.types.now c.law.ensures c.args.id c.index-func.result.now c.index-func.ensures

pub func_stays-requires-clause-held : goal.func_stays-requires-clause-held
func_stays-requires-clause-held c = func_values_hold c.args.renaming.now.types.now c.law.ensures c.args.id c.index-func.result.now c.index-func.ensures

pub func_stays-requires-clause-known : goal.func_stays-requires-clause-known
func_stays-requires-clause-known c = still_can c.args.merged.now c.reach.new.merged c.reach.ensures.extended c.law-2.ensures c.args.renaming.now c.requires.known

-- where each parameter and the result became themselves

pub returns-in_err-put_func-clause-extended : goal.returns-in_err-put_func-clause-extended
returns-in_err-put_func-clause-extended c = c.reach.ensures.extended

pub returns-then-func_stays-clause-func : goal.returns-then-func_stays-clause-func
returns-then-func_stays-clause-func c =
    let s = c.args.renaming.now in
    let m = c.reach.new.merged in
    let memo = c.reach.new.self in
    let x = c.index-func.result.now in
    let known = still_can c.args.merged.now m c.reach.ensures.extended c.law-2.ensures s c.requires.known in
    let held = func_values_hold s.types.now c.law.ensures c.args.id x c.index-func.ensures in
    let shape = func_shape_renamed s m memo known c.in_ok-reach.ensures.right x x (func_shape_stays s memo x held (c.func_stays.ensures.0 c.if-func_stays.true)) in
    func_closed s m m (record { named = c.trees_are_whole.ensures.named; placed = c.trees_are_whole.ensures.placed }) (record { named = c.trees_are_whole-then-func_stays.ensures.named; placed = c.trees_are_whole-then-func_stays.ensures.placed }) memo.made
    c.args.id c.args.id x x c.index-func.ensures (record { extended = extended_none m; there = kept_item s.types.now.funcs m.funcs known.extended.kept.funcs c.args.id.0 x c.index-func.ensures }) shape

itself : goal.returns-then-func_stays-clause-once
itself c =
    let s = c.args.renaming.now in
    let m = c.reach.new.merged in
    let memo = c.reach.new.self in
    let x = c.index-func.result.now in
    let known = still_can c.args.merged.now m c.reach.ensures.extended c.law-2.ensures s c.requires.known in
    let held = func_values_hold s.types.now c.law.ensures c.args.id x c.index-func.ensures in
    let shape = func_shape_renamed s m memo known c.in_ok-reach.ensures.right x x (func_shape_stays s memo x held (c.func_stays.ensures.0 c.if-func_stays.true)) in
    subst (λ (made : Made). IsFuncMadeOf s.types.now m (becomes s) s.became.now.named.now made c.args.id c.args.id) (sym c.in_ok-put_func.ensures.made)
    (func_once s m m memo.made memo.made (λ f e is. is) c.args.id c.args.id x x c.index-func.ensures (kept_item s.types.now.funcs m.funcs known.extended.kept.funcs c.args.id.0 x c.index-func.ensures) (inl refl) shape)

pub returns-then-func_stays-clause-once : goal.returns-then-func_stays-clause-once
returns-then-func_stays-clause-once c = itself c

pub returns-then-func_stays-clause-right : goal.returns-then-func_stays-clause-right
returns-then-func_stays-clause-right c =
    let s = c.args.renaming.now in
    let m = c.reach.new.merged in
    let memo = c.reach.new.self in
    let put = c.in_ok-put_func.ensures in
    func_right s m memo c.put_func.new.self c.args.id c.args.id put c.in_ok-reach.ensures.right (returns-then-func_stays-clause-func c)
    (subst (λ (made : Made). IsFuncMadeOf s.types.now m (becomes s) s.became.now.named.now made c.args.id c.args.id) put.made (itself c))

pub returns-then-func_stays-clause-stay : goal.returns-then-func_stays-clause-stay
returns-then-func_stays-clause-stay c = subst (StayMade c.args.self.now.made) (sym c.in_ok-put_func.ensures.made) c.in_ok-reach.ensures.stay

-- where it is made of another

pub function-requires-clause-held : goal.function-requires-clause-held
function-requires-clause-held c = func_values_hold c.args.renaming.now.types.now c.law.ensures c.args.id c.index-func.result.now c.index-func.ensures

pub function-requires-clause-known : goal.function-requires-clause-known
function-requires-clause-known c = still_can c.args.merged.now c.reach.new.merged c.reach.ensures.extended c.law-2.ensures c.args.renaming.now c.requires.known

pub make_func-requires-clause-held : goal.make_func-requires-clause-held
make_func-requires-clause-held c =
    let s = c.args.renaming.now in
    let m = c.reach.new.merged in
    let memo = c.reach.new.self in
    let x = c.index-func.result.now in
    let y = c.in_ok-renamed.renamed in
    let known = still_can c.args.merged.now m c.reach.ensures.extended c.law-2.ensures s c.requires.known in
    let shape = func_shape_renamed s m memo known c.in_ok-reach.ensures.right x y c.in_ok-renamed.ensures in
    let R = IsRenamedIn s m memo.made in
    let S = IsRenamedValue s.types.now m (becomes s) in
    trees.func_held s.types.now m (becomes s) x y (fields_more R S (λ v w r. r.0) x.params y.params shape.params) (option_more R S (λ v w r. r.0) x.result y.result shape.result)

pub make_func-requires-clause-alike : goal.make_func-requires-clause-alike
make_func-requires-clause-alike c =
    let s = c.args.renaming.now in
    let m = c.reach.new.merged in
    let x = c.index-func.result.now in
    let grown = extended_twice s.types.now c.args.merged.now m c.requires.known.extended c.reach.ensures.extended in
    (x, kept_item s.types.now.funcs m.funcs grown.kept.funcs c.args.id.0 x c.index-func.ensures, (c.in_ok-renamed.ensures.sort, names_beside (IsBecome s c.reach.new.self) x.params c.in_ok-renamed.renamed.params c.in_ok-renamed.ensures.params))

pub make_func-requires-clause-changed : goal.make_func-requires-clause-changed
make_func-requires-clause-changed c is =
    let s = c.args.renaming.now in
    let m = c.reach.new.merged in
    let x = c.index-func.result.now in
    let y = c.in_ok-renamed.renamed in
    let grown = extended_twice s.types.now c.args.merged.now m c.requires.known.extended c.reach.ensures.extended in
    let same = same_some x y (sym (kept_item s.types.now.funcs m.funcs grown.kept.funcs c.args.id.0 x c.index-func.ensures) ∙ is) in
    cc (sym c.if-func_stays.false ∙ c.func_stays.ensures.1 (func_parts_stay s c.reach.new.self x y same c.in_ok-renamed.ensures))

pub make_func-requires-clause-made : goal.make_func-requires-clause-made
make_func-requires-clause-made c = c.in_ok-reach.ensures.right.made.there

pub returns-in_err-became-clause-extended : goal.returns-in_err-became-clause-extended
returns-in_err-became-clause-extended c = extended_twice c.args.merged.now c.reach.new.merged c.make_func.new.merged c.reach.ensures.extended c.make_func.ensures.extended

pub returns-in_err-put_func-2-clause-extended : goal.returns-in_err-put_func-2-clause-extended
returns-in_err-put_func-2-clause-extended c = extended_twice c.args.merged.now c.reach.new.merged c.make_func.new.merged c.reach.ensures.extended c.make_func.ensures.extended

pub returns-clause-extended : goal.returns-clause-extended
returns-clause-extended c = extended_twice c.args.merged.now c.reach.new.merged c.make_func.new.merged c.reach.ensures.extended c.make_func.ensures.extended

pub returns-clause-func : goal.returns-clause-func
returns-clause-func c =
    let s = c.args.renaming.now in
    let m = c.reach.new.merged in
    let memo = c.reach.new.self in
    let x = c.index-func.result.now in
    let y = c.in_ok-renamed.renamed in
    let known = still_can c.args.merged.now m c.reach.ensures.extended c.law-2.ensures s c.requires.known in
    func_closed s m c.make_func.new.merged (record { named = c.trees_are_whole.ensures.named; placed = c.trees_are_whole.ensures.placed }) (record { named = c.trees_are_whole-2.ensures.named; placed = c.trees_are_whole-2.ensures.placed }) memo.made
    c.args.id c.in_ok-became.became x y c.index-func.ensures c.in_ok-became.ensures.added (func_shape_renamed s m memo known c.in_ok-reach.ensures.right x y c.in_ok-renamed.ensures)

remade : goal.returns-clause-once
remade c =
    let s = c.args.renaming.now in
    let m = c.reach.new.merged in
    let memo = c.reach.new.self in
    let more = c.make_func.new.merged in
    let x = c.index-func.result.now in
    let y = c.in_ok-renamed.renamed in
    let known = still_can c.args.merged.now m c.reach.ensures.extended c.law-2.ensures s c.requires.known in
    subst (λ (made : Made). IsFuncMadeOf s.types.now more (becomes s) s.became.now.named.now made c.args.id c.in_ok-became.became) (sym c.in_ok-put_func-2.ensures.made)
    (func_once s m more memo.made c.make_func.new.self c.in_ok-became.ensures.stay c.args.id c.in_ok-became.became x y c.index-func.ensures c.in_ok-became.ensures.added.there (inr c.in_ok-became.ensures.once)
    (func_shape_renamed s m memo known c.in_ok-reach.ensures.right x y c.in_ok-renamed.ensures))

pub returns-clause-once : goal.returns-clause-once
returns-clause-once c = remade c

pub returns-clause-right : goal.returns-clause-right
returns-clause-right c =
    let s = c.args.renaming.now in
    let m = c.reach.new.merged in
    let more = c.make_func.new.merged in
    let memo = c.reach.new.self in
    let made = c.make_func.new.self in
    let mid : Renamed = record { defined = memo.defined; funcs = memo.funcs; made = made; tasks = memo.tasks } in
    let put = c.in_ok-put_func-2.ensures in
    let right = c.in_ok-reach.ensures.right in
    func_right s more mid c.put_func-2.new.self c.args.id c.in_ok-became.became put
    (still_with s m more c.make_func.ensures.extended memo made c.in_ok-became.ensures.stay c.in_ok-became.ensures.made (c.in_ok-became.ensures.apart s.types.now (named_type s.became.now.named.now) right.made.apart) right) (returns-clause-func c)
    (subst (λ (z : Made). IsFuncMadeOf s.types.now more (becomes s) s.became.now.named.now z c.args.id c.in_ok-became.became) put.made (remade c))

pub returns-clause-stay : goal.returns-clause-stay
returns-clause-stay c =
    stay_twice c.args.self.now.made c.reach.new.self.made c.put_func-2.new.self.made c.in_ok-reach.ensures.stay
    (subst (StayMade c.reach.new.self.made) (sym c.in_ok-put_func-2.ensures.made) c.in_ok-became.ensures.stay)
