-- What stands under each key after a change at one.
use Rattle.std.proofs.Common.{Some, string_bytes}
use Rattle.std.proofs.lemmas.Map.Text.{hash_map_updates_text}
use Rattle.wac_names.proofs.validation.earlier.Earlier.put.Goals as goal

pub returns : goal.returns
returns c = λ bytes. hash_map_updates_text (string_bytes c.args.key) c.args.self.now.alike c.insert.new.self (Some c.args.alike) c.in_ok-insert.ensures.updates bytes
