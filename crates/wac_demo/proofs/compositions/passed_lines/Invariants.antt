use Rattle.std.proofs.Common.{◌≡◌, ◌++◌, drop, map, string_bytes}
use Rattle.wac_graph.specs.plugs.Precedence.{named_by}
use Rattle.wac_demo.specs.private.Lines.{lines_of}
use Rattle.wac_demo.proofs.compositions.passed_lines.Given as goal

abbrev pub invariant-loop-i : goal.invariant-loop-i
invariant-loop-i l = string_bytes l.lines ++ lines_of l.graph (map named_by (drop l.i l.passed)) ≡ lines_of l.graph (map named_by l.passed)
