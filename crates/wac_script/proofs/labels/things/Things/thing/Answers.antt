use Rattle.std.proofs.Common.{ap, sym, inr, option_map}
use Rattle.wac_script.specs.labels.Things.{things_of}
use Rattle.wac_script.proofs.LabelLemmas.{no-thing}
use Rattle.wac_script.proofs.labels.things.Things.thing.Goals as goal

pub returns-in-Some : goal.returns-in-Some
returns-in-Some c = ap (option_map (λ l. l.thing)) (sym c.in-Some.ensures)

pub returns-in-None : goal.returns-in-None
returns-in-None c = inr (no-thing (things_of c.args.self.now) c.args.label.now c.in-None.ensures)
