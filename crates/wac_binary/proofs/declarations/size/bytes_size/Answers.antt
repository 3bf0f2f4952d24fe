use Rattle.wac_binary.proofs.lemmas.declarations.FormatLaws.{all-bytes}
use Rattle.wac_binary.proofs.declarations.size.bytes_size.Goals as goal

pub returns-clause-in_format : goal.returns-clause-in_format
returns-clause-in_format c = all-bytes c.args.bytes.now (λ k. (c.type_inv.bytes k).fits)
