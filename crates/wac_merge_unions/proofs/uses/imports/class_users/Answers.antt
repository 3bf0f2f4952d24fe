use Rattle.std.proofs.Common.{◌≡◌, ℕ, List, Vec, [], ◌++◌, Some, slice_get, get_or, length, refl, sym, ap, ◌∙◌, subst, arith, add-one}
use Rattle.std.specs.Global.{Global}
use Rattle.std.proofs.Math.ListN.{length-set}
use Rattle.std.proofs.lemmas.List.{take_all}
use Rattle.std.proofs.lemmas.Option.{slice_get_read, slice_get_within, slice_get-get_or}
use Rattle.wac_types_shapes.specs.primitives.Name.{Name}
use Rattle.wac_types_shapes.specs.declared.shapes.component.InterfaceId.{InterfaceId}
use Rattle.wac_types_shapes.specs.declared.shapes.component.ItemKind.{ItemKind}
use Rattle.wac_merge_classes.specs.entries.Classes.{Entry, by_names, class_names}
use Rattle.wac_merge_unions.specs.uses.KeptUses.{instances, with_instance}
use Rattle.wac_merge_unions.proofs.lemmas.uses.KeptUses.{instances-next}
use Rattle.wac_merge_unions.proofs.lemmas.uses.ClassFolds.{HaveFolded, folded-more, mapped_at}
use Rattle.wac_merge_classes.proofs.lemmas.entries.Lists.{some-at}
use Rattle.wac_merge_classes.proofs.lemmas.terms.Found.{get_map, mapped_length}
use Rattle.wac_merge_unions.proofs.uses.imports.class_users.Goals as goal

abbrev users_of : Name → List Entry → List InterfaceId
users_of n xs = instances xs

pub loop-i-init : goal.loop-i-init
loop-i-init c = record {
  counted = c.in_ok-users.ensures.counted ∙ ap length c.positions.ensures ∙ c.requires.classes.positioned;
  users = λ k n v here at. c.in_ok-users.ensures.empty k v.items (get_map (λ (x : Vec InterfaceId Global). x.items) c.in_ok-users.users.items k v at);
}

pub index_mut-requires : goal.index_mut-requires
index_mut-requires c =
    let es = c.args.entries.now in
    let i : ℕ = c.loop-i.i in
    let numbers : List ℕ = c.args.classes.now.numbers.items in
    let k : ℕ = get_or c.numbers-numbers.result.now i 0 in
    let (e, at) = some-at es i c.loop-i-test.true in
    let number : slice_get numbers i ≡ Some k =
    ap (λ l. slice_get l i) (sym c.numbers-numbers.ensures) ∙ slice_get-get_or c.numbers-numbers.result.now i 0 (omega (arith, ap length c.numbers-numbers.ensures, c.requires.classes.counted)) in
    let w = c.requires.classes.numbered i k e at number in
    omega (arith, slice_get_within (class_names by_names es) k w.0 w.1, c.loop-i.invariant.counted)

pub loop-i-preserved : goal.loop-i-preserved
loop-i-preserved c =
    let es = c.args.entries.now in
    let i : ℕ = c.loop-i.i in
    let numbers : List ℕ = c.args.classes.now.numbers.items in
    let k : ℕ = get_or c.numbers-numbers.result.now i 0 in
    let users : List (Vec InterfaceId Global) = c.loop-i.users.items in
    let e : Entry = c.index-entries-i.result in
    let old : Vec InterfaceId Global = c.index_mut.result.now in
    let new : Vec InterfaceId Global = c.put_user.new.users in
    let at : slice_get es i ≡ Some e = slice_get_read es (length es) i e refl c.loop-i-test.true c.index-entries-i.is in
    let number : slice_get numbers i ≡ Some k =
    ap (λ l. slice_get l i) (sym c.numbers-numbers.ensures) ∙ slice_get-get_or c.numbers-numbers.result.now i 0 (omega (arith, ap length c.numbers-numbers.ensures, c.requires.classes.counted)) in
    let w = c.requires.classes.numbered i k e at number in
    let within = slice_get_within (class_names by_names es) k w.0 w.1 in
    let known : slice_get users k ≡ Some old = slice_get_read users (length users) k old refl (omega (arith, within, c.loop-i.invariant.counted)) c.index_mut.ensures.value in
    let put : new.items ≡ old.items ++ with_instance e.kind [] = subst (λ (q : ItemKind). new.items ≡ old.items ++ with_instance q []) c.kind.ensures c.in_ok-put_user.ensures in
    record {
      counted = length-set users k new ∙ c.loop-i.invariant.counted;
      users = rw add-one (folded-more (λ (v : Vec InterfaceId Global). v.items) users_of es i k e users old new at w known
          (λ n xs here have. put ∙ ap (λ l. l ++ with_instance e.kind []) have ∙ sym (instances-next xs e))
          c.loop-i.invariant.users);
    }

pub returns : goal.returns
returns c =
    let es = c.args.entries.now in
    let users : List (Vec InterfaceId Global) = c.loop-i.users.items in
    record {
      counted = mapped_length (λ (v : Vec InterfaceId Global). v.items) users ∙ c.loop-i.invariant.counted;
      each = λ k class is here at.
          let (v, there, same) = mapped_at (λ (v : Vec InterfaceId Global). v.items) users k is at in
          sym same ∙ subst (λ (l : List Entry). HaveFolded (λ (v : Vec InterfaceId Global). v.items) users_of es l users) (take_all c.loop-i.i es (omega arith)) c.loop-i.invariant.users k class v here there;
    }
