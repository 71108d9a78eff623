use Rattle.std.proofs.Common.{rules, ◌≡◌, ℕ, List, [], ◌∷◌, Ok, Err, Result, refl, subst, inl, inr}
use Rattle.refusal.specs.declared.Refusal.{Refusal}
use Rattle.xml.specs.declared.escape.QuoteLevel.TheVariants.{Partial}
use Rattle.model.specs.Rules.{level_rule}
use Rattle.model.specs.Calls.{call_value, call_end, val_text}
use Rattle.engine.specs.Memory.{Mem, mem}
use Rattle.engine.specs.Lays.{Does}
use Rattle.tickets.specs.Settling.{Makes}
use Rattle.tickets.proofs.fill.Goals as goal

-- the call of a text, in other words for it
spelled : (s t : List ℕ) (r : Result (Unit {0}) Refusal) (w v : Mem) → s ≡ t → ((room : ℕ) → Does (call_value (val_text (level_rule Partial) s)) room r w v) → (room : ℕ) → Does (call_value (val_text (level_rule Partial) t)) room r w v
spelled s t r w v same does room = subst (λ x. Does (call_value (val_text (level_rule Partial) x)) room r w v) same (does room)

-- the last call gives the answer
last : (r : Result (Unit {0}) Refusal) (w v : Mem) → ((room : ℕ) → Does call_end room r w v) → Makes (call_end ∷ []) r w v
last (Ok x) w v does = inl (v, does, (refl, refl))
last (Err e) w v does = inr (e, does, refl)

pub returns-in_err-text : goal.returns-in_err-text
returns-in_err-text c =
    let w = mem c.field.new.self.core in
    let v = mem c.text.new.self.core in
    let e = c.in_err-text.field-0.0 in
    let trail = spelled c.as_bytes.result.now c.args.trail.now (Err e) w v c.as_bytes.ensures.value (λ room. c.in_err-text.ensures.does room (level_rule Partial) refl) in
    record { makes = inl (w, c.in_ok-field.ensures.does, inr (e, trail, search rules)) }

pub returns-in_err-field-2 : goal.returns-in_err-field-2
returns-in_err-field-2 c =
    let w = mem c.field.new.self.core in
    let v = mem c.text.new.self.core in
    let e = c.in_err-field-2.field-0.0 in
    let trail = spelled c.as_bytes.result.now c.args.trail.now (Ok tt) w v c.as_bytes.ensures.value (λ room. c.in_ok-text.ensures.does room (level_rule Partial) refl) in
    record { makes = inl (w, c.in_ok-field.ensures.does, inl (v, trail, inr (e, c.in_err-field-2.ensures.does, search rules))) }

pub returns-in_err-text-2 : goal.returns-in_err-text-2
returns-in_err-text-2 c =
    let w = mem c.field.new.self.core in
    let v = mem c.text.new.self.core in
    let u = mem c.field-2.new.self.core in
    let e = c.in_err-text-2.field-0.0 in
    let trail = spelled c.as_bytes.result.now c.args.trail.now (Ok tt) w v c.as_bytes.ensures.value (λ room. c.in_ok-text.ensures.does room (level_rule Partial) refl) in
    record { makes = inl (w, c.in_ok-field.ensures.does, inl (v, trail, inl (u, c.in_ok-field-2.ensures.does, inr (e, (λ room. c.in_err-text-2.ensures.does room (level_rule Partial) refl), search rules)))) }

pub returns : goal.returns
returns c =
    let w = mem c.field.new.self.core in
    let v = mem c.text.new.self.core in
    let u = mem c.field-2.new.self.core in
    let t = mem c.text-2.new.self.core in
    let trail = spelled c.as_bytes.result.now c.args.trail.now (Ok tt) w v c.as_bytes.ensures.value (λ room. c.in_ok-text.ensures.does room (level_rule Partial) refl) in
    let number = λ (room : ℕ). c.in_ok-text-2.ensures.does room (level_rule Partial) refl in
    record { makes = inl (w, c.in_ok-field.ensures.does, inl (v, trail, inl (u, c.in_ok-field-2.ensures.does, inl (t, number, last c.end.result t (mem c.end.new.self.core) c.end.ensures.does)))) }
