use Rattle.std.proofs.Common.{refl, ap}
use Rattle.wac_graph_model.specs.declared.nodes.options.EncodeOptions.{EncodeOptions}
use Rattle.wac_demo.proofs.Weakening.{composes}
use Rattle.wac_demo.proofs.compositions.processor.Goals as goal

pub returns : goal.returns
returns c =
    let means = c.in_ok-encode.ensures.means in
    composes means.0 _ c.new-empty.result means.1 means.4 (ap (λ (o : EncodeOptions). o.define_components) c.default.ensures, ap (λ (o : EncodeOptions). o.validate) c.default.ensures, (refl, refl)) c.new-empty.ensures
