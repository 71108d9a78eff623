use Rattle.std.proofs.Common.{◌≡◌, ◌∷◌, ◌∙◌, sym, ap, subst, inl, inr}
use Rattle.compared.specs.Replaying.{Tells}
use Rattle.compared.proofs.judge.Goals as goal

-- behind the mark stands the crate's answer, and ours is what is told of the sheet
pub returns-in_ok-told : goal.returns-in_ok-told
returns-in_ok-told c =
    let cut = c.in-Some.ensures.cases in
    let text : c.args.text.now ≡ 35 ∷ 61 ∷ 32 ∷ c.in-Some.answer.now = cut.1.1 ∙ ap (λ l. 35 ∷ 61 ∷ 32 ∷ l) (sym cut.2) in
    let tells : Tells c.args.sheet.now c.as_str.result.now = subst (Tells c.args.sheet.now) (sym c.as_str.ensures.value) c.in_ok-told.ensures.tells in
    record { judged = (c.in-Some.answer.now, c.as_str.result.now, tells, inl (text, c.same.ensures.counted)) }

pub returns-in_ok-told-2 : goal.returns-in_ok-told-2
returns-in_ok-told-2 c =
    let cut = c.in-Some-strip_prefix.ensures.cases in
    let text : c.args.text.now ≡ 35 ∷ 33 ∷ 32 ∷ c.in-Some-strip_prefix.answer.now = cut.1.1 ∙ ap (λ l. 35 ∷ 33 ∷ 32 ∷ l) (sym cut.2) in
    let tells : Tells c.args.sheet.now c.as_str-in-Some-strip_prefix.result.now = subst (Tells c.args.sheet.now) (sym c.as_str-in-Some-strip_prefix.ensures.value) c.in_ok-told-2.ensures.tells in
    record { judged = (c.in-Some-strip_prefix.answer.now, c.as_str-in-Some-strip_prefix.result.now, tells, inr (text, c.different.ensures.counted)) }
