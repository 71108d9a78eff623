use Rattle.std.proofs.Common.{rules, tests, ◌∙◌}
use Rattle.std.specs.Str.{bytes_eq}
use Rattle.std.proofs.lemmas.Iterator.{YieldsList-from_slice}
use Rattle.std.proofs.lemmas.Iterator.Search.{find_from_yields_List}
use Rattle.script.specs.Words.{words, spelling}
use Rattle.script.proofs.Wording.{names}
use Rattle.script.proofs.words.Word.find.Goals as goal

pub returns : goal.returns
returns c =
    let text = c.args.text.now in
    let found = find_from_yields_List (λ w. bytes_eq text (spelling w)) _ _ c.find.result c.find.ensures.ran (YieldsList-from_slice words cc) (λ w b q k. search (rules, tests)) in
    record { names = names _ text (c.copied.ensures ∙ found) }
