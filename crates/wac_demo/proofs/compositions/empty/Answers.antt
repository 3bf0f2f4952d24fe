use Rattle.wac_demo.proofs.compositions.empty.Goals as goal

pub returns : goal.returns
returns c =
    let means = c.in_ok-encode.ensures.means in
    (means.0, c.default.result, c.new-graph.result, means.1, c.default.ensures, means.4, c.new-graph.ensures)
