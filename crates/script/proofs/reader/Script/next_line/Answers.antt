use Rattle.std.proofs.Common.{◌≡◌, ℕ, ◌+◌, Ok, Err, Result, MatchResult, rules, refl}
use Rattle.std.specs.Result.{IsErrAnd}
use Rattle.std.proofs.lemmas.Result.{err_from_is_err_and, MatchResult-at_ok, MatchResult-at_err}
use Rattle.script.specs.declared.fault.Fault.{Fault}
use Rattle.script.specs.declared.fault.ScriptError.{ScriptError}
use Rattle.script.proofs.reader.Script.next_line.Goals as goal

-- the same cases, each fault with the number of its line
numbered : {A : Type 0} (P : A → Type 0) (Q : Fault → Type 0) (r : Result A Fault) (s : Result A ScriptError) (n : ℕ) (R : Fault → ScriptError → Type 0) → MatchResult r (λ x. s ≡ Ok x) (λ e. IsErrAnd s (R e)) → ((e : Fault) (x : ScriptError) → R e x → x ≡ record { line = n; fault = e }) → MatchResult r P Q → MatchResult s P (λ x. (x.line ≡ n) × Q x.fault)
numbered P Q (Ok x) s n R m k h = rw m h
numbered P Q (Err e) (Ok x) n R m k h = absurd m
numbered P Q (Err e) (Err x) n R m k h = rw (k e x m) (refl, h)

pub returns-in_err-line : goal.returns-in_err-line
returns-in_err-line c =
    let p = err_from_is_err_and c.from_residual.result c.from_residual.ensures.1 in
    let at = MatchResult-at_err _ _ c.in_err-line.field-0.0 c.in_err-line.was (numbered _ _ c.read_in_phase.result c.map_err.result (c.args.self.now.reader.read + 1) _ c.map_err.ensures.cases (λ e x h. search rules) c.read_in_phase.ensures.cases) in
    rw (p.1, p.2) (search (rules, at))

pub returns : goal.returns
returns c =
    let at = MatchResult-at_ok _ _ (c.in_ok-line.line, c.in_ok-line.phase) c.in_ok-line.was (numbered _ _ c.read_in_phase.result c.map_err.result (c.args.self.now.reader.read + 1) _ c.map_err.ensures.cases (λ e x h. search rules) c.read_in_phase.ensures.cases) in
    search (rules, at)
