use Rattle.model.proofs.Sheets.{ten_sheets_come_true}
use Rattle.model.proofs.law_ten_sheets.Goals as goal

pub returns : goal.returns
returns c = record { law = ten_sheets_come_true }
