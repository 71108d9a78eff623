use Rattle.std.proofs.Common.{◌≡◌, true, ◌||◌, length, refl, eqb, rules}
use Rattle.model.specs.Calls.{val_text}
use Rattle.model.specs.Model.{content}
use Rattle.engine.specs.Memory.{mem}
use Rattle.rows.proofs.Wording.{may_stand, takes_content, spot_words}
use Rattle.rows.proofs.words.text_at_content.Goals as goal

pub returns-then-is_empty : goal.returns-then-is_empty
returns-then-is_empty g c =
    let w = mem c.args.core.now in
    let s = c.args.text.value.now in
    let may : (c.args.allowed || eqb (length s) 0) ≡ true = search rules in
    record {
      does = λ room ρ e.
          spot_words (val_text ρ s) room w (mem c.write_words.new.core) c.requires.safe c.in_ok-check_bytes.ensures.checked refl (content c.args.allowed) c.requires.place (takes_content (val_text ρ s) c.args.allowed refl (may_stand s c.args.allowed may) refl refl) c.write_words.result ρ s e (λ rs l ls. refl) c.write_words.ensures.writes;
    }
