use Rattle.wac_encode_scopes.proofs.Paying.{pays-both, no-room-before, pays-up-to, no-room-up-to, pays-with-more, no-room-with-more, pays-nothing, pays-at-most, adds-at-most, stays-priced}
use Rattle.wac_encode_scopes.proofs.laws.paying_law.Goals as goal

pub returns : goal.returns
returns c = record {
  pays_both = pays-both;
  no_room_before = no-room-before;
  pays_up_to = pays-up-to;
  no_room_up_to = no-room-up-to;
  pays_with_more = pays-with-more;
  no_room_with_more = no-room-with-more;
  pays_nothing = pays-nothing;
  pays_at_most = pays-at-most;
  adds_at_most = adds-at-most;
  stays_priced = stays-priced;
}
