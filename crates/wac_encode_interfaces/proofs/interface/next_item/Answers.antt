use Rattle.std.specs.Prelude.{slice_index}
use Rattle.wac_encode_interfaces.proofs.Ended.{level-within, position-within, next-place}
use Rattle.wac_encode_interfaces.proofs.interface.next_item.Goals as goal

pub index-requires : goal.index-requires
index-requires c = level-within c.args.types.now c.args.level.now c.requires.level

pub entry_at-requires : goal.entry_at-requires
entry_at-requires c =
    let l = c.args.level.now in
    position-within c.args.types.now l c.requires.level c.index.result.now c.index.ensures (slice_index c.as_slice.result.now l.next) (next-place c.as_slice.result.now l.order.items l.next c.as_slice.ensures.value c.requires.left)

pub returns : goal.returns
returns c =
    let l = c.args.level.now in
    record {
      it = c.index.result.now;
      interface = c.index.ensures;
      position = slice_index c.as_slice.result.now l.next;
      next = next-place c.as_slice.result.now l.order.items l.next c.as_slice.ensures.value c.requires.left;
      item = c.entry_at.ensures;
    }
