use Rattle.std.proofs.Common.{◌≡◌, ◌+◌, ◌<◌, length, get_or, take, set, refl, ap, ◌∙◌, arith, rules}
use lib.Seq.{paste}
use Rattle.std.proofs.lemmas.List.Edits.{paste_none, paste_more, paste_all}
use Rattle.sink.specs.Pages.{flat}
use Rattle.memory.proofs.Laying.{take-laid}
use Rattle.sink.proofs.pages.Pages.write.Goals as goal

pub loop-i-init : goal.loop-i-init
loop-i-init c = (c.requires.whole, search (rules, paste_none))

pub loop-i-preserved : goal.loop-i-preserved
loop-i-preserved c =
    let d = flat c.args.self.now.pages in
    let src = c.args.src.now in
    let i = c.loop-i.i in
    let room : c.args.from + i < length d = omega (arith, c.requires.room, c.requires.whole, c.loop-i-test.true) in
    (c.store.ensures.len, c.store.ensures.bytes ∙ ap (λ l. set l (c.args.from + i) (get_or src i 0)) c.loop-i.invariant.1 ∙ paste_more d c.args.from src i 0 room c.loop-i-test.true)

pub returns : goal.returns
returns c =
    let d = flat c.args.self.now.pages in
    let src = c.args.src.now in
    let all : c.loop-i.i ≡ length src = omega arith in
    let whole = c.loop-i.invariant.1 ∙ ap (paste d c.args.from src) all ∙ paste_all d c.args.from src (length src) refl in
    record {
      end = refl;
      bytes = whole;
      front = ap (take (c.args.from + length src)) whole ∙ take-laid d src c.args.from (omega (arith, c.requires.room, c.requires.whole));
      len = c.loop-i.invariant.0;
    }
