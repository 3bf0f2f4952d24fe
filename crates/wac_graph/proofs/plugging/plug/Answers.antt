use Rattle.std.proofs.Common.{◌≡◌, ◌∙◌, [], length, map, slice_get, Some, Ok, ap, sym, subst}
use Rattle.wac_types_shapes.specs.shapes.Named.{names_of}
use Rattle.wac_graph_model.specs.nodes.Graph.{package_at}
use Rattle.wac_graph.specs.plugs.Matching.{AreAllMatches, exports_of_package}
use Rattle.wac_graph.specs.plugs.Plugging.{answer_of, PlugsAndExports}
use Rattle.wac_graph.specs.plugs.Precedence.{wired, named_by}
use Rattle.wac_graph.specs.private.plugs.Ready.{plugs_at, AreReady, AreNamed}
use Rattle.wac_graph.proofs.lemmas.plugs.Order.{exit-is}
use Rattle.wac_graph.proofs.lemmas.plugs.Steps.{some-of, instance-keeps}
use Rattle.wac_graph.proofs.lemmas.plugs.Fitting.{node-made}
use Rattle.wac_graph.proofs.lemmas.plugs.Readied.{package-kept}
use Rattle.wac_graph.proofs.lemmas.plugs.Ending.{over, steps, is-refused-so, only-refused-so, nothing-so, only-nothing-so}
use Rattle.wac_graph.proofs.plugging.plug.Goals as goal

pub find_all_matches-requires-clause-plugs : goal.find_all_matches-requires-clause-plugs
find_all_matches-requires-clause-plugs c = λ i id at.
    let made = instance-keeps c.args.graph.now c.instantiate.new.self c.args.socket c.in_ok-node.node c.requires.socket c.in_ok-node.ensures.step in
    package-kept c.args.graph.now c.instantiate.new.self c.args.socket made.0 id (c.requires.plugs i id (subst (λ l. slice_get l i ≡ Some id) c.deref.ensures.value at))

pub find_all_matches-requires-clause-socket : goal.find_all_matches-requires-clause-socket
find_all_matches-requires-clause-socket c =
    let made = instance-keeps c.args.graph.now c.instantiate.new.self c.args.socket c.in_ok-node.node c.requires.socket c.in_ok-node.ensures.step in
    package-kept c.args.graph.now c.instantiate.new.self c.args.socket made.0 c.args.socket c.requires.socket

pub plug_all-requires-clause-ready : goal.plug_all-requires-clause-ready
plug_all-requires-clause-ready c = subst (AreReady c.instantiate.new.self c.args.socket) (sym c.deref-2.ensures.value) c.in_ok-wired.ensures.ready

pub plug_all-requires-clause-socket : goal.plug_all-requires-clause-socket
plug_all-requires-clause-socket c =
    let made = instance-keeps c.args.graph.now c.instantiate.new.self c.args.socket c.in_ok-node.node c.requires.socket c.in_ok-node.ensures.step in
    package-kept c.args.graph.now c.instantiate.new.self c.args.socket made.0 c.args.socket c.requires.socket

pub plug_all-requires-clause-node : goal.plug_all-requires-clause-node
plug_all-requires-clause-node c = node-made c.args.graph.now c.instantiate.new.self c.args.socket c.in_ok-node.node c.requires.socket c.in_ok-node.ensures.step

pub returns-in_err-plug_all-clause-step : goal.returns-in_err-plug_all-clause-step
returns-in_err-plug_all-clause-step c =
    let g = c.args.graph.now in
    let made = c.instantiate.new.self in
    let plugs = c.args.plugs.items in
    let s = c.args.socket in
    let q = some-of (package_at g s) c.requires.socket in
    let m = c.in_ok-wired.ensures.matched in
    let are : AreAllMatches made s plugs m.0 = subst (λ l. AreAllMatches made s l m.0) c.deref.ensures.value m.1 in
    let named : AreNamed made plugs (length plugs) = subst (λ l. AreNamed made l (length l)) c.deref.ensures.value c.in_ok-wired.ensures.named in
    let ws = c.deref-2.result.now in
    let is : plugs_at made s ws ≡ wired [] m.0 = ap (plugs_at made s) c.deref-2.ensures.value ∙ m.2 in
    let e = (c.in_err-plug_all.field-0).0 in
    let result = c.from_residual-in_err-plug_all.result in
    let node = c.in_ok-node.node in
    let names = names_of (exports_of_package made s) in
    let h : PlugsAndExports node names made (plugs_at made s ws) (answer_of result) c.plug_all.new.graph = subst (λ r. PlugsAndExports node names made (plugs_at made s ws) (answer_of r) c.plug_all.new.graph) (sym (exit-is result e c.from_residual-in_err-plug_all.ensures.1)) c.in_err-plug_all.ensures in
    steps g made c.plug_all.new.graph plugs s q.0 c.law.ensures q.1 c.imports_law.ensures c.exports_law.ensures c.requires.plugs c.one_export_answer.ensures c.in_ok-node.node c.in_ok-node.ensures.step named m.0 are ws is result h

pub returns-in_err-plug_all-clause-refused : goal.returns-in_err-plug_all-clause-refused
returns-in_err-plug_all-clause-refused c =
    let g = c.args.graph.now in
    let made = c.instantiate.new.self in
    let plugs = c.args.plugs.items in
    let s = c.args.socket in
    let q = some-of (package_at g s) c.requires.socket in
    let m = c.in_ok-wired.ensures.matched in
    let are : AreAllMatches made s plugs m.0 = subst (λ l. AreAllMatches made s l m.0) c.deref.ensures.value m.1 in
    let named : AreNamed made plugs (length plugs) = subst (λ l. AreNamed made l (length l)) c.deref.ensures.value c.in_ok-wired.ensures.named in
    let ws = c.deref-2.result.now in
    let is : plugs_at made s ws ≡ wired [] m.0 = ap (plugs_at made s) c.deref-2.ensures.value ∙ m.2 in
    let e = (c.in_err-plug_all.field-0).0 in
    let result = c.from_residual-in_err-plug_all.result in
    let node = c.in_ok-node.node in
    let names = names_of (exports_of_package made s) in
    let h : PlugsAndExports node names made (plugs_at made s ws) (answer_of result) c.plug_all.new.graph = subst (λ r. PlugsAndExports node names made (plugs_at made s ws) (answer_of r) c.plug_all.new.graph) (sym (exit-is result e c.from_residual-in_err-plug_all.ensures.1)) c.in_err-plug_all.ensures in
    is-refused-so g made c.plug_all.new.graph plugs s q.0 c.law.ensures q.1 c.imports_law.ensures c.exports_law.ensures c.requires.plugs c.one_export_answer.ensures c.in_ok-node.node c.in_ok-node.ensures.step named m.0 are ws is result h

pub returns-in_err-plug_all-clause-only_refused : goal.returns-in_err-plug_all-clause-only_refused
returns-in_err-plug_all-clause-only_refused c =
    let g = c.args.graph.now in
    let made = c.instantiate.new.self in
    let plugs = c.args.plugs.items in
    let s = c.args.socket in
    let q = some-of (package_at g s) c.requires.socket in
    let m = c.in_ok-wired.ensures.matched in
    let are : AreAllMatches made s plugs m.0 = subst (λ l. AreAllMatches made s l m.0) c.deref.ensures.value m.1 in
    let named : AreNamed made plugs (length plugs) = subst (λ l. AreNamed made l (length l)) c.deref.ensures.value c.in_ok-wired.ensures.named in
    let ws = c.deref-2.result.now in
    let is : plugs_at made s ws ≡ wired [] m.0 = ap (plugs_at made s) c.deref-2.ensures.value ∙ m.2 in
    let e = (c.in_err-plug_all.field-0).0 in
    let result = c.from_residual-in_err-plug_all.result in
    let node = c.in_ok-node.node in
    let names = names_of (exports_of_package made s) in
    let h : PlugsAndExports node names made (plugs_at made s ws) (answer_of result) c.plug_all.new.graph = subst (λ r. PlugsAndExports node names made (plugs_at made s ws) (answer_of r) c.plug_all.new.graph) (sym (exit-is result e c.from_residual-in_err-plug_all.ensures.1)) c.in_err-plug_all.ensures in
    only-refused-so g made c.plug_all.new.graph plugs s q.0 c.law.ensures q.1 c.imports_law.ensures c.exports_law.ensures c.requires.plugs c.one_export_answer.ensures c.in_ok-node.node c.in_ok-node.ensures.step named m.0 are ws is result h

pub returns-in_err-plug_all-clause-nothing : goal.returns-in_err-plug_all-clause-nothing
returns-in_err-plug_all-clause-nothing c =
    let g = c.args.graph.now in
    let made = c.instantiate.new.self in
    let plugs = c.args.plugs.items in
    let s = c.args.socket in
    let q = some-of (package_at g s) c.requires.socket in
    let m = c.in_ok-wired.ensures.matched in
    let are : AreAllMatches made s plugs m.0 = subst (λ l. AreAllMatches made s l m.0) c.deref.ensures.value m.1 in
    let named : AreNamed made plugs (length plugs) = subst (λ l. AreNamed made l (length l)) c.deref.ensures.value c.in_ok-wired.ensures.named in
    let ws = c.deref-2.result.now in
    let is : plugs_at made s ws ≡ wired [] m.0 = ap (plugs_at made s) c.deref-2.ensures.value ∙ m.2 in
    let e = (c.in_err-plug_all.field-0).0 in
    let result = c.from_residual-in_err-plug_all.result in
    let node = c.in_ok-node.node in
    let names = names_of (exports_of_package made s) in
    let h : PlugsAndExports node names made (plugs_at made s ws) (answer_of result) c.plug_all.new.graph = subst (λ r. PlugsAndExports node names made (plugs_at made s ws) (answer_of r) c.plug_all.new.graph) (sym (exit-is result e c.from_residual-in_err-plug_all.ensures.1)) c.in_err-plug_all.ensures in
    nothing-so g made c.plug_all.new.graph plugs s q.0 c.law.ensures q.1 c.imports_law.ensures c.exports_law.ensures c.requires.plugs c.one_export_answer.ensures c.in_ok-node.node c.in_ok-node.ensures.step named m.0 are ws is result h

pub returns-in_err-plug_all-clause-only_nothing : goal.returns-in_err-plug_all-clause-only_nothing
returns-in_err-plug_all-clause-only_nothing c =
    let g = c.args.graph.now in
    let made = c.instantiate.new.self in
    let plugs = c.args.plugs.items in
    let s = c.args.socket in
    let q = some-of (package_at g s) c.requires.socket in
    let m = c.in_ok-wired.ensures.matched in
    let are : AreAllMatches made s plugs m.0 = subst (λ l. AreAllMatches made s l m.0) c.deref.ensures.value m.1 in
    let named : AreNamed made plugs (length plugs) = subst (λ l. AreNamed made l (length l)) c.deref.ensures.value c.in_ok-wired.ensures.named in
    let ws = c.deref-2.result.now in
    let is : plugs_at made s ws ≡ wired [] m.0 = ap (plugs_at made s) c.deref-2.ensures.value ∙ m.2 in
    let e = (c.in_err-plug_all.field-0).0 in
    let result = c.from_residual-in_err-plug_all.result in
    let node = c.in_ok-node.node in
    let names = names_of (exports_of_package made s) in
    let h : PlugsAndExports node names made (plugs_at made s ws) (answer_of result) c.plug_all.new.graph = subst (λ r. PlugsAndExports node names made (plugs_at made s ws) (answer_of r) c.plug_all.new.graph) (sym (exit-is result e c.from_residual-in_err-plug_all.ensures.1)) c.in_err-plug_all.ensures in
    only-nothing-so g made c.plug_all.new.graph plugs s q.0 c.law.ensures q.1 c.imports_law.ensures c.exports_law.ensures c.requires.plugs c.one_export_answer.ensures c.in_ok-node.node c.in_ok-node.ensures.step named m.0 are ws is result h

pub returns-clause-step : goal.returns-clause-step
returns-clause-step c =
    let g = c.args.graph.now in
    let made = c.instantiate.new.self in
    let plugs = c.args.plugs.items in
    let s = c.args.socket in
    let q = some-of (package_at g s) c.requires.socket in
    let m = c.in_ok-wired.ensures.matched in
    let are : AreAllMatches made s plugs m.0 = subst (λ l. AreAllMatches made s l m.0) c.deref.ensures.value m.1 in
    let named : AreNamed made plugs (length plugs) = subst (λ l. AreNamed made l (length l)) c.deref.ensures.value c.in_ok-wired.ensures.named in
    let ws = c.deref-2.result.now in
    let is : plugs_at made s ws ≡ wired [] m.0 = ap (plugs_at made s) c.deref-2.ensures.value ∙ m.2 in
    steps g made c.plug_all.new.graph plugs s q.0 c.law.ensures q.1 c.imports_law.ensures c.exports_law.ensures c.requires.plugs c.one_export_answer.ensures c.in_ok-node.node c.in_ok-node.ensures.step named m.0 are ws is (Ok c.in_ok-wired.field-0.passed) c.in_ok-plug_all.ensures

pub returns-clause-refused : goal.returns-clause-refused
returns-clause-refused c =
    let g = c.args.graph.now in
    let made = c.instantiate.new.self in
    let plugs = c.args.plugs.items in
    let s = c.args.socket in
    let q = some-of (package_at g s) c.requires.socket in
    let m = c.in_ok-wired.ensures.matched in
    let are : AreAllMatches made s plugs m.0 = subst (λ l. AreAllMatches made s l m.0) c.deref.ensures.value m.1 in
    let named : AreNamed made plugs (length plugs) = subst (λ l. AreNamed made l (length l)) c.deref.ensures.value c.in_ok-wired.ensures.named in
    let ws = c.deref-2.result.now in
    let is : plugs_at made s ws ≡ wired [] m.0 = ap (plugs_at made s) c.deref-2.ensures.value ∙ m.2 in
    is-refused-so g made c.plug_all.new.graph plugs s q.0 c.law.ensures q.1 c.imports_law.ensures c.exports_law.ensures c.requires.plugs c.one_export_answer.ensures c.in_ok-node.node c.in_ok-node.ensures.step named m.0 are ws is (Ok c.in_ok-wired.field-0.passed) c.in_ok-plug_all.ensures

pub returns-clause-nothing : goal.returns-clause-nothing
returns-clause-nothing c =
    let g = c.args.graph.now in
    let made = c.instantiate.new.self in
    let plugs = c.args.plugs.items in
    let s = c.args.socket in
    let q = some-of (package_at g s) c.requires.socket in
    let m = c.in_ok-wired.ensures.matched in
    let are : AreAllMatches made s plugs m.0 = subst (λ l. AreAllMatches made s l m.0) c.deref.ensures.value m.1 in
    let named : AreNamed made plugs (length plugs) = subst (λ l. AreNamed made l (length l)) c.deref.ensures.value c.in_ok-wired.ensures.named in
    let ws = c.deref-2.result.now in
    let is : plugs_at made s ws ≡ wired [] m.0 = ap (plugs_at made s) c.deref-2.ensures.value ∙ m.2 in
    nothing-so g made c.plug_all.new.graph plugs s q.0 c.law.ensures q.1 c.imports_law.ensures c.exports_law.ensures c.requires.plugs c.one_export_answer.ensures c.in_ok-node.node c.in_ok-node.ensures.step named m.0 are ws is (Ok c.in_ok-wired.field-0.passed) c.in_ok-plug_all.ensures

pub returns-clause-passed_over : goal.returns-clause-passed_over
returns-clause-passed_over c = λ other h.
    let g = c.args.graph.now in
    let made = c.instantiate.new.self in
    let plugs = c.args.plugs.items in
    let s = c.args.socket in
    let q = some-of (package_at g s) c.requires.socket in
    let m = c.in_ok-wired.ensures.matched in
    let are : AreAllMatches made s plugs m.0 = subst (λ l. AreAllMatches made s l m.0) c.deref.ensures.value m.1 in
    let named : AreNamed made plugs (length plugs) = subst (λ l. AreNamed made l (length l)) c.deref.ensures.value c.in_ok-wired.ensures.named in
    let ws = c.deref-2.result.now in
    let is : plugs_at made s ws ≡ wired [] m.0 = ap (plugs_at made s) c.deref-2.ensures.value ∙ m.2 in
    over g made c.plug_all.new.graph plugs s q.0 c.law.ensures q.1 c.imports_law.ensures c.exports_law.ensures c.requires.plugs c.one_export_answer.ensures c.in_ok-node.node c.in_ok-node.ensures.step named m.0 are ws is (map named_by c.in_ok-wired.field-0.passed.items) m.3 other h
