use Rattle.script.proofs.Piecing.{any_bytes}
use Rattle.script.proofs.escapes.law_any_bytes.Goals as goal

pub returns : goal.returns
returns c = record { law = any_bytes }
