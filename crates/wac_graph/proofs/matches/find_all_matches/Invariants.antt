use Rattle.std.proofs.Common.{List, map, IfSome}
use Rattle.wac_types_shapes.specs.primitives.Name.{Name}
use Rattle.wac_graph.specs.plugs.Precedence.{named_by}
use Rattle.wac_graph.specs.private.plugs.Ready.{plugs_at, AreReady, AreNamed}
use Rattle.wac_graph.specs.private.plugs.Taking.{AreTaken}
use Rattle.wac_graph.specs.private.plugs.Tracks.{AreFirsts}
use Rattle.wac_graph.proofs.lemmas.plugs.Finding.{AreSoFar}
use Rattle.wac_graph.proofs.matches.find_all_matches.Given as goal

abbrev pub invariant-loop-i : goal.invariant-loop-i
invariant-loop-i l = record {
  firsts : IfSome l.firsts (AreFirsts l.imports);
  so_far : (names : List Name) × AreTaken l.imports names l.taken.items × AreSoFar l.graph l.fn.socket l.plugs l.i names (plugs_at l.graph l.fn.socket l.wired.items) (map named_by l.passed.items);
  ready : AreReady l.graph l.fn.socket l.wired.items;
  named : AreNamed l.graph l.plugs l.i;
}
