use Rattle.std.proofs.Common.{◌≡◌, ◌+◌, ◌*◌, ◌/◌, ◌%◌, length, set, ap, ◌∙◌, arith, length-set, rules}
use Rattle.sink.specs.Pages.{flat}
use Rattle.sink.proofs.Paging.{flat_set, flat_length}
use Rattle.sink.proofs.pages.Pages.store.Goals as goal

pub returns : goal.returns
returns c =
    let pages = c.args.self.now.pages in
    let at = c.args.at in
    let whole : length pages ≡ 16 = search rules in
    let split : at / 256 * 256 + at % 256 ≡ at = omega arith in
    record {
      bytes = flat_set pages (at / 256) (at % 256) c.args.byte c.store.new.self _ (omega arith) (omega arith) c.store.ensures.bytes ∙ ap (λ n. set (flat pages) n c.args.byte) split;
      len = flat_length (set pages (at / 256) _) ∙ ap (λ n. n * 256) (length-set pages (at / 256) _ ∙ whole);
    }
