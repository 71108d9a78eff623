use Rattle.std.proofs.Common.{ap, replicate}
use Rattle.std.specs.List.{flat_map}
use Rattle.sink.proofs.Paging.{flat_length}
use Rattle.sink.proofs.pages.Pages.new.Goals as goal

-- sixteen times the bytes of one page
pub returns : goal.returns
returns c =
    let pages = replicate 16 c.new.result in
    record { bytes = ap (λ bs. flat_map (λ p. bs) pages) c.new.ensures.bytes; len = flat_length pages }
