use Rattle.std.proofs.Common.{refl}
use Rattle.model.specs.Calls.{val_text, val_variant}
use Rattle.model.specs.Model.{simple}
use Rattle.engine.specs.Memory.{mem}
use Rattle.rows.proofs.Wording.{takes_simple, spot_words, only_words}
use Rattle.rows.proofs.words.string_as_words.Goals as goal

pub returns-clause-text : goal.returns-clause-text
returns-clause-text g c =
    let w = mem c.args.core.now in
    let s = c.args.string.value.now in
    λ room ρ e.
    only_words (val_text ρ s) room w (mem c.write_words.new.core) c.requires.safe c.in_ok-check_bytes.ensures.checked refl c.requires.place refl c.write_words.result ρ s e (λ b. refl) (λ b. refl) c.write_words.ensures.writes

pub returns-clause-variant : goal.returns-clause-variant
returns-clause-variant g c =
    let w = mem c.args.core.now in
    let s = c.args.string.value.now in
    λ at room ρ e.
    spot_words (val_variant ρ s) room w (mem c.write_words.new.core) c.requires.safe c.in_ok-check_bytes.ensures.checked refl simple at (takes_simple (val_variant ρ s) refl) c.write_words.result ρ s e (λ rs l ls. refl) c.write_words.ensures.writes
