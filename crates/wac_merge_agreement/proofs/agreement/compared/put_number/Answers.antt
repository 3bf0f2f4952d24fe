use Rattle.std.proofs.Common.{refl}
use Rattle.wac_merge_agreement.proofs.lemmas.agreement.Unmarked.{number_pushed, number_set}
use Rattle.wac_merge_agreement.proofs.agreement.compared.put_number.Goals as goal

pub loop-known-init : goal.loop-known-init
loop-known-init c = λ v k at. at

pub loop-known-preserved : goal.loop-known-preserved
loop-known-preserved c = number_pushed c.args.known.now.items c.loop-known.known.items c.push.new.self.items c.in_ok-push.ensures.items c.loop-known.invariant

pub returns : goal.returns
returns c = number_set c.args.known.now.items c.loop-known.known.items _ c.args.id c.args.number refl c.loop-known.invariant
