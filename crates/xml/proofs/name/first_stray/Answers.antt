use Rattle.std.proofs.Common.{Some, sym, ap, ◌∙◌}
use Rattle.std.specs.Str.Iter.{char_indices_rest, char_indices_offset}
use Rattle.std.specs.Str.{chars}
use Rattle.std.proofs.lemmas.Str.{IsUtf8-past_char}
use Rattle.xml.specs.Names.{stray_from}
use Rattle.xml.proofs.Naming.{stray_later, stray_here, stray_past}
use Rattle.xml.proofs.name.first_stray.Goals as goal

pub loop-at-preserved : goal.loop-at-preserved
loop-at-preserved c =
    let bs = char_indices_rest c.loop-at.at-iterator in
    let rest = char_indices_rest c.next.new.self in
    let inv = c.loop-at.invariant in
    let step = c.in-Some.ensures.steps in
    let more = sym c.is_name_char.ensures ∙ c.if-not-is_name_char.false in (
      IsUtf8-past_char bs rest c.in-Some.c inv.0 step.1,
      ap (stray_from (chars rest)) step.2 ∙ stray_later bs rest c.in-Some.c (char_indices_offset c.loop-at.at-iterator) inv.0 step.1 more ∙ inv.1,
      inv.2,
    )

pub returns-in-None : goal.returns-in-None
returns-in-None c =
    let it = c.loop-at.at-iterator in
    c.loop-at.invariant.2 ∙ stray_past (char_indices_rest it) (char_indices_offset it) c.in-None.ensures.steps.0 ∙ c.loop-at.invariant.1

pub returns-then-not-is_name_char : goal.returns-then-not-is_name_char
returns-then-not-is_name_char c =
    let it = c.loop-at.at-iterator in
    let inv = c.loop-at.invariant in
    let step = c.in-Some.ensures.steps in
    let stray = sym c.is_name_char.ensures ∙ c.if-not-is_name_char.true in
    ap Some step.0 ∙ stray_here (char_indices_rest it) (char_indices_rest c.next.new.self) c.in-Some.c (char_indices_offset it) inv.0 step.1 stray ∙ inv.1
