use Rattle.std.proofs.Common.{sym, ◌∙◌, arith}
use Rattle.wac_binary.specs.private.declarations.DeclView.{decl_of}
use Rattle.wac_binary.proofs.lemmas.declarations.DeclLaws.{room_fits, room_for}
use Rattle.wac_binary.proofs.declarations.declarations.Declarations.has_room.Goals as goal

pub returns-clause-room : goal.returns-clause-room
returns-clause-room c =
    let k = c.requires ∙ sym c.number.ensures.is in
    rw (← c.self.view_is) (
      λ t. room_fits c.self.invariant (decl_of c.args.d.now) c.number.result k c.number.ensures.small c.decl_size.result c.len.result c.decl_size.ensures.is (omega arith) (c.fits.ensures.0 t),
      λ f. c.fits.ensures.1 (room_for c.self.invariant (decl_of c.args.d.now) c.number.result k c.number.ensures.small c.decl_size.result c.len.result c.decl_size.ensures.is (omega arith) f),
    )
