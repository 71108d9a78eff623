use Rattle.std.proofs.Common.{refl}
use Rattle.memory.proofs.Lending.{take_filled, drop_filled}
use Rattle.memory.proofs.lent.Lent+u8.insert_sized.Goals as goal

pub returns-clause-all : goal.returns-clause-all
returns-clause-all g c =
    let s = c.args.self.now in
    let bytes = g.P.Piece.bytes c.args.piece.now in
    take_filled s.most s.all.now c.shift-self.new.out c.lay.new.out bytes c.args.at s.used c.args.size c.requires.within c.requires.room c.requires.size c.shift-self.ensures.bytes c.lay.ensures.bytes

pub returns-clause-stays : goal.returns-clause-stays
returns-clause-stays g c =
    let s = c.args.self.now in
    let bytes = g.P.Piece.bytes c.args.piece.now in
    (refl, refl, drop_filled s.most s.all.now c.shift-self.new.out c.lay.new.out bytes c.args.at s.used c.args.size c.requires.within c.requires.room c.requires.size c.shift-self.ensures.bytes c.lay.ensures.bytes)
