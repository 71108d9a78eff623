use Rattle.std.proofs.Common.{true, false, ◌&&◌, get_or, sym, ap, ◌∙◌}
use Rattle.std.proofs.lemmas.List.{take_all}
use Rattle.xml.specs.Escaping.{among}
use Rattle.xml.specs.Marked.{marked}
use Rattle.xml.proofs.Nine.{nines}
use Rattle.xml.proofs.Marking.{unmarked, mark, below_64, marked_more, only_nine}
use Rattle.xml.proofs.chosen.Chosen.by.Goals.{then-replaces, else-replaces}
use Rattle.xml.proofs.chosen.Chosen.by.Goals as goal

pub loop-byte-init : goal.loop-byte-init
loop-byte-init g c = unmarked

pub loop-byte-preserved : goal.loop-byte-preserved
loop-byte-preserved g c =
    let l = c.loop-byte in
    let chosen = g.R.EscapeRule.chooses c.args.rule.now c.args.target in
    let more = marked_more chosen nines l.byte-index l.bits c.loop-byte-test.true l.invariant in
    elim c.if-replaces.branch [
      | then-replaces w ↦ more true (sym w.if-replaces.true ∙ c.replaces.ensures.value) c.if-replaces.bits (λ b. ap (λ y. marked y b) w.bits-is ∙ mark l.bits (get_or nines l.byte-index 0) (below_64 l.byte-index c.loop-byte-test.true) b)
      | else-replaces w ↦ more false (sym w.if-replaces.false ∙ c.replaces.ensures.value) c.if-replaces.bits (λ b. ap (λ y. marked y b) w.bits-is)
    ]

pub returns : goal.returns
returns g c =
    let chosen = g.R.EscapeRule.chooses c.args.rule.now c.args.target in
    record { marks = λ b. c.loop-byte.invariant b ∙ ap (λ l. among b l && chosen b) (take_all c.loop-byte.byte-index nines c.loop-byte-test.false) ∙ only_nine chosen (g.met.R.EscapeRule.within c.args.rule.now c.args.target) b }
