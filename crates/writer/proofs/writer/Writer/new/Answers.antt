use Rattle.std.proofs.Common.{sym, subst}
use Rattle.model.specs.Model.{idle}
use Rattle.places.specs.Sound.{Sound, Sizes}
use Rattle.writer.proofs.Starting.{narrow, starting_idle, starting_sizes, just_lent, started}
use Rattle.writer.proofs.writer.Writer.new.Goals as goal

pub invariant_of-result : goal.invariant_of-result
invariant_of-result c =
    let a = c.args in
    let f = a.style.empty_elements in
    let i = a.style.indentation in
    let p = c.first.ensures in
    let q = c.first-2.ensures in
    let r = c.first-3.ensures in
    let is = started a.stage a.names a.frames a.style c.first.result c.first-2.result c.first-3.result (just_lent 65536 a.stage c.first.result p.reference p.all p.most p.used) (just_lent 4096 a.names c.first-2.result q.reference q.all q.most q.used)
    (just_lent 64 a.frames c.first-3.result r.reference r.all r.most r.used) in
    record {
      sound = subst Sound (sym is) ∣ (idle, starting_idle f i a.stage a.names a.frames) ∣₁;
      sizes = subst Sizes (sym is) (starting_sizes f i a.stage a.names a.frames (narrow i a.style.narrow));
    }

pub returns : goal.returns
returns c =
    let a = c.args in
    let p = c.first.ensures in
    let q = c.first-2.ensures in
    let r = c.first-3.ensures in
    record {
      memory = started a.stage a.names a.frames a.style c.first.result c.first-2.result c.first-3.result (just_lent 65536 a.stage c.first.result p.reference p.all p.most p.used) (just_lent 4096 a.names c.first-2.result q.reference q.all q.most q.used)
          (just_lent 64 a.frames c.first-3.result r.reference r.all r.most r.used);
    }
