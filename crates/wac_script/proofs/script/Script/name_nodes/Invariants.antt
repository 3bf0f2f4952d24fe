use Rattle.std.proofs.Common.{◌≡◌, take}
use Rattle.wac_script.specs.labels.Things.{things_of, cores_of}
use Rattle.wac_script.specs.Naming.{AreNamed}
use Rattle.wac_script.proofs.script.Script.name_nodes.Given as goal

abbrev pub invariant-loop-i : goal.invariant-loop-i
invariant-loop-i l = record {
  labels : things_of l.self.labels ≡ things_of l.initial.self.labels;
  cores : cores_of l.self.labels ≡ cores_of l.initial.self.labels;
  named : AreNamed (take l.i (things_of l.initial.self.labels)) l.initial.self.graph l.self.graph;
}
