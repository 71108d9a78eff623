use Rattle.std.proofs.Common.{◌≡◌, Bool, false, List, ◌+◌, [], ◌∷◌, ◌++◌, true, map, take, get_or, if◌then◌else◌, sym, ap, ◌∙◌}
use Rattle.std.proofs.lemmas.List.{take_more, get_or-map, length-map, map-append}
use Rattle.std.specs.Option.{is_some}
use Rattle.std.specs.Result.{is_ok}
use Rattle.timed.specs.Steps.{call_of_step, call_of_part}
use Rattle.timed.proofs.record.parts_of.Goals as goal

-- there was room for it
taken : {A : Type 0} (b : Bool) → b ≡ true → (xs ys zs : List A) → zs ≡ (if b then xs else ys) → zs ≡ xs
taken true e xs ys zs is = is
taken false e xs ys zs is = absurd (cc)

pub loop-step-preserved : goal.loop-step-preserved
loop-step-preserved c =
    let l = c.loop-step in
    let call = call_of_step c.args.text.now in
    let steps = c.args.steps.now in
    let part = c.in_ok-part.field-0 in
    let step = get_or steps l.step-index (record { kind = 0; from = 0; end = 0 }) in
    let pushed : c.push.new.self.items ≡ l.parts.items ++ (part ∷ []) = taken (is_ok c.push.result) (sym c.ok.ensures.variant ∙ ap is_some c.in_ok-ok.was) (l.parts.items ++ (part ∷ [])) l.parts.items c.push.new.self.items c.push.ensures.items in
    let next : take (l.step-index + 1) (map call steps) ≡ take l.step-index (map call steps) ++ (call step ∷ []) =
    take_more (map call steps) l.step-index (call step) (rw length-map c.loop-step-test.true) ∙ ap (λ z. take l.step-index (map call steps) ++ (z ∷ [])) (get_or-map call steps l.step-index (record { kind = 0; from = 0; end = 0 }) (call step) c.loop-step-test.true) in
    ap (map call_of_part) pushed ∙ map-append call_of_part l.parts.items (part ∷ []) ∙ ap (λ z. z ++ (call_of_part part ∷ [])) l.invariant ∙ ap (λ z. take l.step-index (map call steps) ++ (z ∷ [])) c.in_ok-part.ensures.part ∙ sym next
