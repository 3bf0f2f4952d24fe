use Rattle.std.proofs.Common.{sym, ◌∙◌, ◌≡◌}
use Rattle.std.proofs.Common.{◌++◌}
use Rattle.wac_types_collection.specs.collection.Collection.{HasInterface}
use Rattle.wac_graph_model.specs.nodes.Entries.{with_used}
use Rattle.wac_graph_fields.specs.private.EntriesLeft.{entry_view, entries_of, added}
use Rattle.wac_graph_fields.proofs.AskingTasks.{on_ok, on_both, added_settled, held_instance, asked_there, asked_new, with_settled, other_asked, other_settled, stands_settled}
use Rattle.wac_graph_fields.proofs.asked.Asking.ask.Goals as goal

pub returns-in_default : goal.returns-in_default
returns-in_default c =
    let t = c.args.types.now in
    let e = entry_view c.args.asked in
    let old = entries_of c.args.self.now in
    let new = entries_of c.add.new.self in
    let stands = λ (is : new ≡ added old e). other_asked t e c.in_default.not-Instance old new is in
    record {
      right = c.add.ensures.right;
      settled = on_both c.add.result (λ (is : new ≡ added old e) same. added_settled t c.args.self.now c.add.new.self e c.requires.settled (stands_settled t (old ++ with_used t e) new (stands is) (other_settled t e c.in_default.not-Instance old c.requires.settled.listed)) is same)
          c.add.ensures.entries c.add.ensures.visited;
      stands = on_ok c.add.result stands c.add.ensures.entries;
    }

pub returns-then-has-clause-stands : goal.returns-then-has-clause-stands
returns-then-has-clause-stands c =
    asked_there c.args.types.now (entry_view c.args.asked) c.in-Instance.id c.in-Instance.is (entries_of c.args.self.now) c.requires.settled.listed (sym c.has.ensures ∙ c.if-has.true)

pub returns : goal.returns
returns c =
    let t = c.args.types.now in
    let e = entry_view c.args.asked in
    let old = entries_of c.args.self.now in
    let mid = entries_of c.ask_used.new.self in
    let new = entries_of c.add-2.new.self in
    let held : HasInterface t c.in-Instance.id = held_instance t c.args.asked.kind c.in-Instance.id c.in-Instance.is c.requires.held in
    let stands = λ (is : new ≡ added mid e). asked_new t e c.in-Instance.id c.in-Instance.is old mid new c.in_ok-ask_used.ensures.stands is in
    record {
      right = c.add-2.ensures.right;
      settled = on_both c.add-2.result (λ (is : new ≡ added mid e) same. added_settled t c.ask_used.new.self c.add-2.new.self e c.in_ok-ask_used.ensures.settled (stands_settled t (old ++ with_used t e) new (stands is) (with_settled t e c.in-Instance.id c.in-Instance.is c.law.ensures old held c.requires.settled.listed)) is same)
          c.add-2.ensures.entries c.add-2.ensures.visited;
      stands = on_ok c.add-2.result stands c.add-2.ensures.entries;
    }
