-- The lines that tell of errors. Assumes nothing.
use Rattle.std.specs.Prelude.{ℕ, List, ◌++◌, codes, decimal}
use Rattle.script.specs.declared.fault.Fault.{Fault}
use Rattle.script.specs.declared.fault.Fault.TheVariants.{UnknownWord, UnwantedArgument, BadEscape, BadNumber, BadSetting, TooLate, Memory}

abbrev pub message : Fault → List ℕ
message UnknownWord = codes "unknown word"
message UnwantedArgument = codes "this word takes no argument, not even a space"
message BadEscape = codes "a backslash begins no escape"
message BadNumber = codes "a number is missing, too large or no number"
message BadSetting = codes "no such form, sink or level"
message TooLate = codes "style, memory and sink stand before the first call"
message Memory = codes "not enough memory"

-- as in `line 3: unknown word`
abbrev pub told : ℕ → Fault → List ℕ
told line fault = codes "line " ++ (decimal line ++ (codes ": " ++ message fault))
