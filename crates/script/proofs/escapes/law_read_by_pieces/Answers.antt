use Rattle.script.proofs.Piecing.{read_by_pieces}
use Rattle.script.proofs.escapes.law_read_by_pieces.Goals as goal

pub returns : goal.returns
returns c = record { law = read_by_pieces }
