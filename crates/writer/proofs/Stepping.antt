-- The loop of a run: what it has made of the first steps, and of one more. Assumes nothing.
use Rattle.std.proofs.Common.{◌≡◌, ℕ, ◌+◌, ◌<◌, ◌≤◌, Bool, List, [], ◌∷◌, ◌++◌, length, get_or, take, set, Result, sym, refl, ap, ◌∙◌, subst, arith}
use Rattle.std.proofs.lemmas.List.{take_more, take_more_set, take_all, get_or-map, length-map, map-set}
use Rattle.refusal.specs.declared.Refusal.{Refusal}
use Rattle.reader.specs.Trees.{Bytes}
use Rattle.model.specs.Calls as model
use Rattle.engine.specs.Memory.{Mem}
use Rattle.places.specs.Values.{Chooses}
use Rattle.writer.specs.declared.call.Call.{Call}
use Rattle.writer.specs.Spelled.{CallIs, CallsAre}
use Rattle.writer.specs.Served.{answered, all_answered, Serves, holds_on, holds_after}
use Rattle.writer.specs.declared.replay.Step.{Step}
use Rattle.writer.specs.Handed.{Leaving, SinkAfter}
use Rattle.writer.specs.Replayed.{calls_of, answers_of, Chain}
use Rattle.writer.proofs.Chaining.{chain_last}

-- the calls up to one more: the last of them is one more call
calls_last : {R : Type 0} (ch : Chooses R) (xs : List (Call R)) (x : Call R) (cs : List model.Call) → CallsAre ch (xs ++ (x ∷ [])) cs → (ds : List model.Call) × (d : model.Call) × (cs ≡ ds ++ (d ∷ [])) × CallsAre ch xs ds × CallIs ch x d
calls_last ch [] x [] h = absurd h
calls_last ch [] x (c ∷ []) h = ([], c, refl, tt, h.0)
calls_last ch [] x (c ∷ d ∷ cs) h = absurd h.1
calls_last ch (y ∷ ys) x [] h = absurd h
calls_last ch (y ∷ ys) x (c ∷ cs) h =
    let q = calls_last ch ys x cs h.1 in
    (c ∷ q.0, q.1, ap (λ z. c ∷ z) q.2, (h.0, q.3), q.4)

module _ {S : Type 0} (held : S → Bytes) (room : S → ℕ) (leaves : Leaving S) (first : Bool) (w : Mem) (s : S) where
  -- the calls are made, and a ticket is held as they leave it
  pub record Made (cs : List model.Call) (rs : List (Result (Unit {0}) Refusal)) (v : Mem) (t : S) (now : Bool) : Type 0 where
    pub chain : Chain held room leaves cs rs w s v t
    pub ticket : now ≡ holds_after cs (all_answered rs) first

  -- one call more
  holds_last : (cs : List model.Call) (rs : List (Result (Unit {0}) Refusal)) (c : model.Call) (r : Result (Unit {0}) Refusal) (b : Bool) (u v : Mem) (x t : S) → Chain held room leaves cs rs u x v t → holds_after (cs ++ (c ∷ [])) (all_answered (rs ++ (r ∷ []))) b ≡ holds_on c (answered r) (holds_after cs (all_answered rs) b)
  holds_last [] [] c r b u v x t p = refl
  holds_last [] (q ∷ rs) c r b u v x t p = absurd p
  holds_last (d ∷ cs) [] c r b u v x t p = absurd p
  holds_last (d ∷ cs) (q ∷ rs) c r b u v x t p = holds_last cs rs c r (holds_on d (answered q) b) p.0 v p.1 t p.4

  made_last : (cs : List model.Call) (rs : List (Result (Unit {0}) Refusal)) (c : model.Call) (r : Result (Unit {0}) Refusal) (u v : Mem) (x t : S) (before now : Bool) → Made cs rs u x before → Serves c r u v (held x) (room x) (held t) (room t) → SinkAfter leaves c r u x t → now ≡ holds_on c (answered r) before → Made (cs ++ (c ∷ [])) (rs ++ (r ∷ [])) v t now
  made_last cs rs c r u v x t before now p serves stays is =
      record {
        chain = chain_last held room leaves cs rs c r w u v s x t p.chain serves stays;
        ticket = is ∙ ap (holds_on c (answered r)) p.ticket ∙ sym (holds_last cs rs c r first w u s x p.chain);
      }

  module _ {R : Type 0} (ch : Chooses R) (calls : List (Call R)) where
    -- so it is with the first i calls, and these results
    abbrev pub SoFar : ℕ → List (Result (Unit {0}) Refusal) → Mem → S → Bool → Type 0
    SoFar i rs v t now = (cs : List model.Call) → CallsAre ch (take i calls) cs → Made cs (take i rs) v t now

    -- before the first call
    pub none_yet : (rs : List (Result (Unit {0}) Refusal)) → SoFar 0 rs w s first
    none_yet rs [] are = record { chain = (refl, refl); ticket = refl }
    none_yet rs (c ∷ cs) are = absurd are

    -- the next call is made, and its answer is stored
    pub one_more : (i : ℕ) (y : Call R) (rs : List (Result (Unit {0}) Refusal)) (r : Result (Unit {0}) Refusal) (u v : Mem) (x t : S) (before now : Bool) → i < length calls → i < length rs → y ≡ get_or calls i y → SoFar i rs u x before → ((c : model.Call) → CallIs ch y c → Serves c r u v (held x) (room x) (held t) (room t)) → ((c : model.Call) → CallIs ch y c → SinkAfter leaves c r u x t) → ((c : model.Call) → CallIs ch y c → now ≡ holds_on c (answered r) before) → SoFar (i + 1) (set rs i r) v t now
    one_more i y rs r u v x t before now low lower is far serves stays holds cs are =
        let next : take (i + 1) calls ≡ take i calls ++ (y ∷ []) = take_more calls i y low ∙ ap (λ z. take i calls ++ (z ∷ [])) (sym is) in
        let q = calls_last ch (take i calls) y cs (subst (λ z. CallsAre ch z cs) next are) in
        let p = made_last q.0 (take i rs) q.1 r u v x t before now (far q.0 q.3) (serves q.1 q.4) (stays q.1 q.4) (holds q.1 q.4) in
        subst (λ z. Made z (take (i + 1) (set rs i r)) v t now) (sym q.2) (subst (λ z. Made (q.0 ++ (q.1 ∷ [])) z v t now) (sym (take_more_set rs i r lower)) p)

    -- all calls are made
    pub all_of_them : (i : ℕ) (rs : List (Result (Unit {0}) Refusal)) (v : Mem) (t : S) (now : Bool) → length calls ≤ i → length rs ≤ i → SoFar i rs v t now → (cs : List model.Call) → CallsAre ch calls cs → Made cs rs v t now
    all_of_them i rs v t now high higher far cs are =
        subst (λ z. Made cs z v t now) (take_all i rs higher) (far cs (subst (λ z. CallsAre ch z cs) (sym (take_all i calls high)) are))

    -- the same of steps that keep these calls: the next one, as it is read, is made, and its answer is stored in it
    pub step_more : (steps : List (Step R)) (i : ℕ) (d : Step R) (new : Step R) (u v : Mem) (x t : S) (before now : Bool) → calls_of steps ≡ calls → i < length steps → SoFar i (answers_of steps) u x before → ((c : model.Call) → CallIs ch (get_or steps i d).call c → Serves c new.answer u v (held x) (room x) (held t) (room t)) → ((c : model.Call) → CallIs ch (get_or steps i d).call c → SinkAfter leaves c new.answer u x t) → ((c : model.Call) → CallIs ch (get_or steps i d).call c → now ≡ holds_on c (answered new.answer) before) → SoFar (i + 1) (answers_of (set steps i new)) v t now
    step_more steps i d new u v x t before now keep low far serves stays holds =
        let y = (get_or steps i d).call in
        let read : y ≡ get_or calls i y = sym (get_or-map (λ z. z.call) steps i d y low) ∙ ap (λ zs. get_or zs i y) keep in
        let inside : i < length calls = omega (arith, low, length-map steps (λ z. z.call), ap length keep) in
        let inside_too : i < length (answers_of steps) = omega (arith, low, length-map steps (λ z. z.answer)) in
        subst (λ rs. SoFar (i + 1) rs v t now) (sym (map-set (λ z. z.answer) steps i new)) (one_more i y (answers_of steps) new.answer u v x t before now inside inside_too read far serves stays holds)
