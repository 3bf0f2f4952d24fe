use Rattle.std.proofs.Common.{◌≡◌, ◌-◌, ◌∙◌, ap, arith, subst, sym}
use Rattle.std.proofs.lemmas.Bool.{false≢true}
use Rattle.wac_edges.specs.Edge.{node_number}
use Rattle.wac_graph_reader.specs.private.writing.Naming.{IsNamed}
use Rattle.wac_graph_reader.proofs.lemmas.writing.EncodingLemmas.{by_lt, none_past}
use Rattle.wac_graph_reader.proofs.lemmas.writing.NamingLemmas.{none_there}
use Rattle.wac_graph_reader.specs.private.reading.Inside.{fields_of}
use Rattle.wac_graph_reader.proofs.reading.reader.GraphReader.names_end.Goals as goal

pub loop-n-init : goal.loop-n-init
loop-n-init c = λ sort m far is.
    none_there (fields_of c.self.inside) m sort (none_past (fields_of c.self.inside) m.0 (omega (arith, c.capacity-n.ensures.slots, far))) (subst (λ g. IsNamed g sort m) (sym c.self.view_is) is)

pub loop-n-preserved : goal.loop-n-preserved
loop-n-preserved c = λ sort m far is. by_lt m.0 c.loop-n.n
    (λ small.
    let here : m.0 ≡ c.loop-n.n - 1 = omega (arith, small, far, c.loop-n-test.true) in
    absurd (false≢true (sym c.if-has_name.false ∙ c.has_name.ensures sort (subst (λ x. IsNamed c.args.self.now sort x) (ap node_number here) is))))
    (λ above. c.loop-n.invariant sort m above is)

pub returns-then-has_name : goal.returns-then-has_name
returns-then-has_name c = λ sort m far is. c.loop-n.invariant sort m (omega (arith, far, c.loop-n-test.true)) is
