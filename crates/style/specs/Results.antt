-- What may follow a written value. Assumes nothing.
use Rattle.std.specs.Prelude.{Bool, true, false}
use Rattle.style.specs.declared.result.WriteResult.{WriteResult}
use Rattle.style.specs.declared.result.WriteResult.TheVariants.{Text, Element, Nothing, SensitiveText, SensitiveNothing}

-- after a tag, or after what is nothing at all, an indent changes nothing that is said
abbrev pub allows_indent : WriteResult → Bool
allows_indent Text = false
allows_indent Element = true
allows_indent Nothing = true
allows_indent SensitiveText = false
allows_indent SensitiveNothing = false

abbrev pub says_text : WriteResult → Bool
says_text Text = true
says_text Element = false
says_text Nothing = false
says_text SensitiveText = true
says_text SensitiveNothing = false
