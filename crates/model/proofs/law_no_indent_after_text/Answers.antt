use Rattle.model.proofs.Settled.{no_indent_after_text}
use Rattle.model.proofs.law_no_indent_after_text.Goals as goal

pub returns : goal.returns
returns c = record { law = no_indent_after_text }
