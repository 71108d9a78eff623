use Rattle.std.proofs.Common.{◌≡◌, length, rules}
use Rattle.engine.specs.Memory.{mem}
use Rattle.fields.proofs.Listing.{item_by}
use Rattle.fields.proofs.items.string_as_item.Goals as goal

pub returns-else-is_empty : goal.returns-else-is_empty
returns-else-is_empty g c =
    let s = c.args.string.value.now in
    let some : length s ≡ 0 → ⊥ = search rules in
    record {
      does = λ room ρ v e is.
          item_by v ρ s is room c.args.written (mem c.args.core.now) (mem c.append_item.new.core) c.requires.place c.requires.safe c.in_ok-check_bytes.ensures.checked some e c.append_item.result c.append_item.ensures.adds;
    }
