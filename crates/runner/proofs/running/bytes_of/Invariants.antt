use Rattle.std.proofs.Common.{◌≡◌, ℕ, ◌<◌, length, slice_index}
use Rattle.sink.specs.Pages.{flat}
use Rattle.runner.proofs.running.bytes_of.Given as goal

-- the bytes so far are those of the sink
abbrev pub invariant-loop-at : goal.invariant-loop-at
invariant-loop-at l = (length l.bytes.items ≡ l.len) × ((k : ℕ) → k < l.at → slice_index l.bytes.items k ≡ slice_index (flat l.sink.pages.pages) k)
