use Rattle.std.proofs.Common.{arith}
use Rattle.std.proofs.lemmas.List.{length-append}
use Rattle.memory.proofs.Laying.{laid-laid}
use Rattle.memory.proofs.piece.Tuple2Piece.lay.Goals as goal

pub returns-clause-bytes : goal.returns-clause-bytes
returns-clause-bytes g c =
    let a = g.A.Piece.bytes c.args.self.now.0 in
    let b = g.B.Piece.bytes c.args.self.now.1 in
    let n = length-append a b in
    rw (c.lay.ensures.bytes, c.lay-middle.ensures.bytes, c.lay-middle.ensures.end) (laid-laid c.args.out.now a b c.args.at (omega arith))
