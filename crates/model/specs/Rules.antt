-- The three levels as escaping rules. Assumes nothing.
use Rattle.xml.specs.declared.escape.QuoteLevel.{QuoteLevel}
use Rattle.xml.specs.Escaping.{level_chooses}
use Rattle.xml.specs.Levels.{level_within, level_enough}
use Rattle.model.specs.Calls.{Rule}

-- what a level means as a rule, with the laws that it keeps
abbrev pub level_rule : QuoteLevel → Rule
level_rule q = record { chooses = level_chooses q; within = level_within q; enough = level_enough q }
