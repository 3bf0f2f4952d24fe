use Rattle.std.proofs.Common.{[], ◌∷◌, ◌∙◌, ap, cond, sym}
use Rattle.wac_graph_reader.proofs.lemmas.reading.SeenLemmas.{open_is}
use Rattle.wac_graph_reader.proofs.reading.reader.GraphReader.is_open.Goals as goal

pub returns : goal.returns
returns c = open_is c.args.self.now c.args.n c.unset_at.result c.unset_at.ensures ∙ ap (λ b. cond b (c.args.n ∷ []) []) (sym c.is_some.ensures)
