-- A record as a run of calls: how far it has come, and what a refused call shows. Assumes nothing.
use Rattle.std.proofs.Common.{◌≡◌, ◌≢◌, ℕ, ◌+◌, ◌<◌, ◌≤◌, Bool, true, false, List, [], ◌∷◌, ◌++◌, length, get_or, take, drop, Ok, Err, Result, IsErr, sym, refl, ap, ◌∙◌, subst}
use Rattle.std.proofs.lemmas.List.{take_more, take_all, take-append-drop}
use Rattle.std.specs.Result.{is_err}
use Rattle.refusal.specs.declared.Refusal.{Refusal}
use Rattle.reader.specs.Trees.{Bytes}
use Rattle.model.specs.Calls.{Call, Answer, accepted, refused}
use Rattle.model.specs.Model.{State}
use Rattle.model.specs.Table.{Setting, handed}
use Rattle.model.specs.Run.{Session, after, answer, answers, run, all_accepted}
use Rattle.engine.specs.Memory.{Mem}
use Rattle.engine.specs.Lays.{Lays, setting, Does}
use Rattle.writer.specs.Served.{answered, session}
use Rattle.writer.specs.Replayed.{Ran}
use Rattle.writer.proofs.Running.{ran_none, ran_one, ran_then}
use Rattle.writer.proofs.Sinking.{does_serves}
use Rattle.xml.specs.declared.escape.QuoteLevel.{QuoteLevel}
use Rattle.xml.specs.Escaping.{level_chooses}
use Rattle.model.specs.Rules.{level_rule}
use Rattle.places.specs.declared.value.Value.{Value}
use Rattle.places.specs.declared.value.Value.TheVariants as value
use Rattle.places.specs.Values.{ValueIs}
use Rattle.timed.specs.declared.record.Part.{Part}
use Rattle.timed.specs.declared.record.Part.TheVariants as part
use Rattle.timed.specs.Steps.{meant, call_of_part}
use Rattle.timed.specs.Whole.{Accepted, Filled}

pub all_accepted-++ : (xs ys : List Call) → all_accepted (xs ++ ys) ≡ all_accepted xs ++ all_accepted ys
all_accepted-++ [] ys = refl
all_accepted-++ (x ∷ xs) ys = ap (λ z. accepted ∷ z) (all_accepted-++ xs ys)

-- all are accepted only where each part of them is
pub accepted_both : (w : Setting) (xs ys : List Call) (s : Session) → Accepted w (xs ++ ys) s → Accepted w xs s × Accepted w ys (run w xs s)
accepted_both w [] ys s e = (refl, e)
accepted_both w (x ∷ xs) ys s e =
    let one : answer w x s ≡ accepted = cc in
    let rest : answers w (xs ++ ys) (after w x s) ≡ all_accepted (xs ++ ys) = cc in
    let both = accepted_both w xs ys (after w x s) rest in
    (ap (λ z. z ∷ answers w xs (after w x s)) one ∙ ap (λ z. accepted ∷ z) both.0, both.1)

-- the last of them is refused
one_refused : (xs : List Answer) (e : Refusal) → xs ++ (refused e ∷ []) ≢ xs ++ (accepted ∷ [])
one_refused [] e same = let h : refused e ≡ accepted = cc in clash h
  where
    clash : refused e ≡ accepted → ⊥
    clash h = absurd (cc)
one_refused (x ∷ xs) e same = one_refused xs e cc

-- a refused call among the calls of a record
pub stopped : (xs ys : List Call) (c : Call) (e : Refusal) (w v : Mem) (bs bs' : Bytes) (k k' : ℕ) (m : State) → Ran (xs ++ (c ∷ [])) w v bs k bs' k' (all_accepted xs ++ (refused e ∷ [])) m → answers (setting w) ((xs ++ (c ∷ [])) ++ ys) (session m bs k) ≢ all_accepted ((xs ++ (c ∷ [])) ++ ys)
stopped xs ys c e w v bs bs' k k' m p all =
    let front = (accepted_both (setting w) (xs ++ (c ∷ [])) ys (session m bs k) all).0 in
    one_refused (all_accepted xs) e (p.told ∙ front ∙ all_accepted-++ xs (c ∷ []))

-- which refusal it is does not matter
pub as_refused : (cs : List Call) (r : Result (Unit {0}) Refusal) (e : Refusal) (w v : Mem) → IsErr r → Filled cs (Err e) w v → Filled cs r w v
as_refused cs (Ok done) e w v h f = let never : ◌≡◌ {A = Bool} false true = h in absurd (cc)
as_refused cs (Err d) e w v h f = f

pub as_accepted : (cs : List Call) (r : Result (Unit {0}) Refusal) (w v : Mem) → is_err r ≡ false → Filled cs r w v → Filled cs (Ok tt) w v
as_accepted cs (Ok done) w v h f = f
as_accepted cs (Err e) w v h f = absurd (cc)

-- calls that hand nothing to the sink, one after another, up to one that is refused
module _ (cs : List Call) (w : Mem) where
  -- the first i are accepted
  abbrev pub SoFar : ℕ → Mem → Type 0
  SoFar i v = (m : State) (bs : Bytes) (k : ℕ) → Lays m w → Ran (take i cs) w v bs k bs k (all_accepted (take i cs)) m

  pub none_yet : SoFar 0 w
  none_yet m bs k lay = ran_none w bs k m lay

  module _ (i : ℕ) (c : Call) (u v : Mem) (low : i < length cs) (is : get_or cs i c ≡ c) (far : SoFar i u) (nothing : (m : State) → handed u.indentation c m ≡ []) where
    next : take (i + 1) cs ≡ take i cs ++ (c ∷ [])
    next = take_more cs i c low ∙ ap (λ z. take i cs ++ (z ∷ [])) is

    tried : (r : Result (Unit {0}) Refusal) (a : Answer) → answered r ≡ a → ((room : ℕ) → Does c room r u v) → (m : State) (bs : Bytes) (k : ℕ) → Lays m w → Ran (take i cs ++ (c ∷ [])) w v bs k bs k (all_accepted (take i cs) ++ (a ∷ [])) m
    tried r a said does m bs k lay =
        let one = ran_one c r u v bs bs k k (does_serves c r u v bs k nothing (does k)) in
        subst (λ z. Ran (take i cs ++ (c ∷ [])) w v bs k bs k (all_accepted (take i cs) ++ (z ∷ [])) m) said (ran_then (take i cs) (c ∷ []) w u v bs bs bs k k k (all_accepted (take i cs)) (answered r ∷ []) m (far m bs k lay) one)

    pub one_more : ((room : ℕ) → Does c room (Ok tt) u v) → SoFar (i + 1) v
    one_more does m bs k lay =
        let told : all_accepted (take i cs) ++ (accepted ∷ []) ≡ all_accepted (take (i + 1) cs) = sym (ap all_accepted next ∙ all_accepted-++ (take i cs) (c ∷ [])) in
        subst (λ z. Ran (take (i + 1) cs) w v bs k bs k z m) told (subst (λ z. Ran z w v bs k bs k (all_accepted (take i cs) ++ (accepted ∷ [])) m) (sym next) (tried (Ok tt) accepted refl does m bs k lay))

    pub one_fails : (e : Refusal) → ((room : ℕ) → Does c room (Err e) u v) → Filled cs (Err e) w v
    one_fails e does m bs k lay =
        let parted : cs ≡ (take i cs ++ (c ∷ [])) ++ drop (i + 1) cs = sym (ap (λ z. z ++ drop (i + 1) cs) (sym next) ∙ take-append-drop (i + 1) cs) in
        subst (λ z. answers (setting w) z (session m bs k) ≢ all_accepted z) (sym parted) (stopped (take i cs) (drop (i + 1) cs) c e w v bs bs k k m (tried (Err e) (refused e) refl does m bs k lay))

  pub all_of_them : (i : ℕ) (v : Mem) → length cs ≤ i → SoFar i v → Filled cs (Ok tt) w v
  all_of_them i v high far m bs k lay = subst (λ z. Ran z w v bs k bs k (all_accepted z) m) (take_all i cs high) (far m bs k lay)

-- a value in code is what it means
pub is_meant : (x : Value QuoteLevel) → ValueIs level_chooses x (meant x)
is_meant (value.Text bytes level) = (level_rule level, refl, refl)
is_meant value.Nothing = refl
is_meant (value.Variant name level) = (level_rule level, refl, refl)
is_meant (value.Wrapped name) = refl
is_meant value.Row = refl
is_meant (value.VariantRow name) = refl
is_meant (value.Record name) = refl
is_meant (value.VariantRecord name) = refl

-- the parts of a record hand nothing to the sink
pub hands_nothing : (p : Part) (w : Mem) (m : State) → handed w.indentation (call_of_part p) m ≡ []
hands_nothing (part.Field key) w m = refl
hands_nothing (part.Value value) w m = refl
hands_nothing part.End w m = refl
