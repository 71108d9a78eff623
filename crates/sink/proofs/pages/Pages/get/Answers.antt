use Rattle.std.proofs.Common.{◌≡◌, ◌+◌, ◌*◌, ◌/◌, ◌%◌, length, get_or, sym, ap, ◌∙◌, arith, rules}
use Rattle.sink.specs.Pages.{flat}
use Rattle.sink.proofs.Paging.{flat_get}
use Rattle.sink.proofs.pages.Pages.get.Goals as goal

pub returns : goal.returns
returns c =
    let pages = c.args.self.now.pages in
    let at = c.args.at in
    let whole : length pages ≡ 16 = search rules in
    let split : at / 256 * 256 + at % 256 ≡ at = omega arith in
    record { value = sym (ap (λ n. get_or (flat pages) n 0) (sym split) ∙ flat_get pages (at / 256) (at % 256) c.index-self-at.result (omega arith) (omega arith)) }
