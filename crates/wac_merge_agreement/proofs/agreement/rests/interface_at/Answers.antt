use Rattle.std.proofs.Common.{length, refl}
use Rattle.wac_types_collection.proofs.lemmas.wide.Members.{read_here}
use Rattle.wac_merge_agreement.proofs.agreement.rests.interface_at.Goals as goal

pub returns : goal.returns
returns c = read_here c.args.used.now.keys c.as_slice.result.now (length c.args.used.now.keys) c.args.index _ c.requires refl c.as_slice.ensures.keys
