use Rattle.model.proofs.Swapping.{attributes_change_places}
use Rattle.model.proofs.law_attributes_change_places.Goals as goal

pub returns : goal.returns
returns c = record { law = attributes_change_places }
