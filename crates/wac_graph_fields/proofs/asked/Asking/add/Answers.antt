use Rattle.std.proofs.Common.{refl, ap, sym, ◌∙◌, subst}
use Rattle.std.specs.HashSet.{contains}
use Rattle.wac_graph_fields.specs.declared.asked.Asking.{Asking}
use Rattle.wac_graph_fields.specs.private.EntriesLeft.{entry_view}
use Rattle.wac_graph_fields.proofs.AskingKnown.{IsNoted, key_eq, there_already, instance_noted, other_noted, entries_added, right_pushed}
use Rattle.wac_graph_fields.proofs.asked.Asking.add.Goals as goal
use Rattle.wac_graph_fields.proofs.asked.Asking.add.Goals.{in-Instance+in-Ok-true, in_default}

pub returns-in-Ok-false-clause-entries : goal.returns-in-Ok-false-clause-entries
returns-in-Ok-false-clause-entries c = there_already c.args.self.now c.requires (c.args.asked.name, c.in-Instance.id) (entry_view c.args.asked) refl c.in-Instance.is (sym c.in-Ok-false.field-0-test ∙ c.in-Ok-false.ensures.added)

noted : (c : goal.In_ok-push) → IsNoted c.args.self.now (entry_view c.args.asked) c.match-asked.self
noted c = elim c.match-asked.branch [
  | in-Instance+in-Ok-true w ↦
      instance_noted c.args.self.now c.match-asked.self c.requires (c.args.asked.name, w.in-Instance.id) (entry_view c.args.asked) refl w.in-Instance.is (ap (λ (a : Asking). a.entries) w.self-is)
      (sym w.in-Ok-true.field-0-test ∙ w.in-Ok-true.ensures.added)
      (λ q. ap (λ (a : Asking). contains key_eq a.known q) w.self-is ∙ w.in-Ok-true.ensures.updates.0 q)
  | in_default w ↦ subst (λ (a : Asking). IsNoted c.args.self.now (entry_view c.args.asked) a) (sym w.self-is) (other_noted c.args.self.now c.requires (entry_view c.args.asked) w.in_default.not-Instance)
]

pub returns-clause-right : goal.returns-clause-right
returns-clause-right c =
    right_pushed c.args.self.now c.match-asked.self (record { alloc = c.match-asked.self.alloc; entries = c.push.new.self; known = c.match-asked.self.known; visited = c.match-asked.self.visited }) c.args.asked (noted c) c.in_ok-push.ensures.items c.requires refl

pub returns-clause-entries : goal.returns-clause-entries
returns-clause-entries c =
    entries_added c.args.self.now c.match-asked.self (record { alloc = c.match-asked.self.alloc; entries = c.push.new.self; known = c.match-asked.self.known; visited = c.match-asked.self.visited }) c.args.asked (noted c) c.in_ok-push.ensures.items

pub returns-clause-visited : goal.returns-clause-visited
returns-clause-visited c = elim c.match-asked.branch [
  | in-Instance+in-Ok-true w ↦ ap (λ (a : Asking). a.visited.keys) w.self-is
  | in_default w ↦ ap (λ (a : Asking). a.visited.keys) w.self-is
]
