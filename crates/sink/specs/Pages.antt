-- Pages, one after another, as one run of bytes. Assumes nothing.
use Rattle.std.specs.Prelude.{ℕ, List}
use Rattle.std.specs.List.{flat_map}
use Rattle.sink.specs.declared.page.Page.{Page}

abbrev pub flat : List Page → List ℕ
flat pages = flat_map (λ p. p.bytes) pages
