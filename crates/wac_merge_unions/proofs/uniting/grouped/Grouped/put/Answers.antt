use Rattle.std.proofs.Common.{◌≡◌, Bool, ℕ, List, Bor, sym, ap, ◌∙◌, subst, ◌++◌, ◌∷◌, []}
use Rattle.std.specs.Str.{bytes_eq}
use Rattle.std.specs.List.{position_or_len}
use Rattle.std.specs.Map.{keys_of}
use Rattle.indexmap.specs.IndexMap.{insert_entry, set_value_at}
use Rattle.wac_types_shapes.specs.primitives.Name.{same_name}
use Rattle.wac_types_shapes.specs.shapes.Named.{NoNameTwice}
use Rattle.wac_types_shapes.proofs.lemmas.shapes.Names.{same_name-bytes_eq}
use Rattle.wac_merge_unions.specs.declared.uniting.grouped.Listed.{Listed}
use Rattle.wac_merge_unions.specs.private.uniting.UnionSteps.{with_listed}
use Rattle.wac_merge_unions.specs.private.uniting.GroupViews.{groups_of}
use Rattle.wac_merge_unions.proofs.lemmas.uniting.GroupViews.{items_or, put_listed, written_there, once_put}
use Rattle.wac_merge_unions.proofs.uniting.grouped.Grouped.put.Goals as goal

abbrev E : Bor (List ℕ) → Bor (List ℕ) → Bool
E a b = bytes_eq a.now b.now

tells : (a b : Bor (List ℕ)) → E a b ≡ same_name a.now b.now
tells a b = same_name-bytes_eq a.now b.now

-- the entries where one was put under a name, and written there
written : (es new : List (Bor (List ℕ) × Listed)) (k : Bor (List ℕ)) (v w : Listed) (i : ℕ) → new ≡ insert_entry E es k v → i ≡ position_or_len (E k) (keys_of es) → set_value_at new i w ≡ insert_entry E es k w
written es new k v w i is at = ap (λ xs. set_value_at xs i w) is ∙ ap (λ j. set_value_at (insert_entry E es k v) j w) at ∙ written_there E tells k w es v

pub invariant_of-self-in-Continue-branch-2 : goal.invariant_of-self-in-Continue-branch-2
invariant_of-self-in-Continue-branch-2 c =
    let es = c.self.inside.entries.entries in
    subst (λ xs. NoNameTwice (groups_of xs)) (sym (written es c.insert_full.new.self.entries c.args.name _ c.push.new.self c.in_ok-index.index c.in_ok-index.ensures.entries c.in_ok-index.ensures.index)) (once_put E tells c.args.name c.push.new.self es c.self.invariant)

pub invariant_of-self-in_err-push : goal.invariant_of-self-in_err-push
invariant_of-self-in_err-push c =
    let es = c.self.inside.entries.entries in
    subst (λ xs. NoNameTwice (groups_of xs)) (sym (written es c.insert_full.new.self.entries c.args.name _ c.push.new.self c.in_ok-index.index c.in_ok-index.ensures.entries c.in_ok-index.ensures.index)) (once_put E tells c.args.name c.push.new.self es c.self.invariant)

pub invariant_of-self-in_default : goal.invariant_of-self-in_default
invariant_of-self-in_default c = subst (λ xs. NoNameTwice (groups_of xs)) (sym c.in_ok-index.ensures.entries) (once_put E tells c.args.name _ c.self.inside.entries.entries c.self.invariant)

pub returns-in_ok-push : goal.returns-in_ok-push
returns-in_ok-push c =
    let es = c.self.inside.entries.entries in
    ap groups_of (written es c.insert_full.new.self.entries c.args.name _ c.push.new.self c.in_ok-index.index c.in_ok-index.ensures.entries c.in_ok-index.ensures.index)
    ∙ put_listed E tells c.args.name c.push.new.self es (c.args.part, c.args.kind) (c.in_ok-push.ensures ∙ ap (λ o. items_or o ++ (c.args.part, c.args.kind) ∷ []) (sym c.in-Some.is ∙ c.in_ok-index.ensures.old))
    ∙ ap (λ gs. with_listed gs c.args.name.now (c.args.part, c.args.kind)) c.self.view_is

pub returns-in_default : goal.returns-in_default
returns-in_default c =
    let es = c.self.inside.entries.entries in
    ap groups_of c.in_ok-index.ensures.entries
    ∙ put_listed E tells c.args.name _ es (c.args.part, c.args.kind) (ap (λ o. items_or o ++ (c.args.part, c.args.kind) ∷ []) (sym c.in_default.is ∙ c.in_ok-index.ensures.old))
    ∙ ap (λ gs. with_listed gs c.args.name.now (c.args.part, c.args.kind)) c.self.view_is
