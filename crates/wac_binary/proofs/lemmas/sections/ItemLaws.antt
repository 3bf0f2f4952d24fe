-- Which items share sections.
use Rattle.std.proofs.Common.{◌≡◌, refl, true, false}
use Rattle.wac_binary.specs.Bytes.{is_shared, section_id}
use Rattle.wac_binary.specs.private.sections.ItemView.{item_of, alone_of}
use Rattle.wac_binary.specs.declared.sections.item.ItemRef.{ItemRef}
use Rattle.wac_binary.specs.declared.sections.item.ItemRef.TheVariants as h
use Rattle.wac_binary.specs.declared.sections.item.AloneRef.{AloneRef}
use Rattle.wac_binary.specs.declared.sections.item.AloneRef.TheVariants as o

pub item_shared : (x : ItemRef) → is_shared (section_id (item_of x)) ≡ true
item_shared (h.Alias a) = refl
item_shared _ = refl

pub item_alone : (x : AloneRef) → is_shared (section_id (alone_of x)) ≡ false
item_alone (o.Component b) = refl
item_alone (o.Custom n b) = refl
