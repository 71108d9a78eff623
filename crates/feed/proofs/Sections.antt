-- One line more: the sections of a script, and the batch of the last of them.
use Rattle.std.proofs.Common.{◌≡◌, ◌≢◌, ℕ, Bool, true, false, ◌||◌, List, [], ◌∷◌, ◌++◌, map, flat_map, Some, None, Option, vec_items, refl, sym, ap, ◌∙◌, append_assoc}
use Rattle.std.proofs.lemmas.List.{append-nil, map-append}
use Rattle.xml.specs.declared.escape.QuoteLevel.{QuoteLevel}
use Rattle.script.specs.declared.line.Line.{Line}
use Rattle.script.specs.declared.line.Line.TheVariants.{Blank, New, Style, Memory, Sink, Level}
use Rattle.script.specs.declared.line.Numbered.{Numbered}
use Rattle.script.specs.declared.order.Role.{Role}
use Rattle.script.specs.declared.order.Role.TheVariants.{Starts, Sets, Anywhere, Calls}
use Rattle.script.specs.Order.{role}
use Rattle.feed.specs.declared.setup.Setup.{Setup}
use Rattle.feed.specs.declared.batch.Batch.{Batch}
use Rattle.feed.specs.Setups.{defaults, setup_after, setup_after_all, Each, GoesOn}
use Rattle.feed.specs.Batches as batches
use Rattle.feed.specs.Batches.{says_something, Begins, AddsCall, Goes, GoesAs}
use Rattle.feed.specs.Sections.{Section, opening_lines, lines_of, IsLater, InOrder, FallInto, first_of, called, calls_among, any_says, is_reported, shown, IsBatchOf, opened, longer, Extends, CallsInOrder}

-- what holds of several, and of one more
all_more : {A : Type 0} (P : A → Type 0) (xs : List A) (x : A) → Each P xs → P x → Each P (xs ++ x ∷ [])
all_more P [] x all here = (here, tt)
all_more P (y ∷ ys) x all here = (all.0, all_more P ys x all.1 here)

all_front : {A : Type 0} (P : A → Type 0) (xs : List A) (x : A) → Each P (xs ++ x ∷ []) → Each P xs × P x
all_front P [] x all = (tt, all.0)
all_front P (y ∷ ys) x all = let more = all_front P ys x all.1 in ((all.0, more.0), more.1)

order_longer : (ss : List Section) (s : Section) (n : Numbered) → InOrder (ss ++ s ∷ []) → GoesOn n → InOrder (ss ++ longer s n ∷ [])
order_longer [] s n order on = (order.0, all_more GoesOn s.said n order.1 on, tt)
order_longer (t ∷ ts) s n order on =
    let parts = all_front IsLater ts s order.2 in
    let last : IsLater (longer s n) = (parts.1.0, all_more GoesOn s.said n parts.1.1 on) in
    (order.0, order.1, all_more IsLater ts (longer s n) parts.0 last)

order_opened : (ss : List Section) (s : Section) (n : Numbered) → InOrder (ss ++ s ∷ []) → role n.line ≡ Starts → InOrder ((ss ++ s ∷ []) ++ opened n ∷ [])
order_opened [] s n order new = (order.0, order.1, ((new, tt), tt))
order_opened (t ∷ ts) s n order new = (order.0, order.1, all_more IsLater (ts ++ s ∷ []) (opened n) order.2 (new, tt))

-- the lines of the last section stand last
lines_last : (ss : List Section) (s : Section) → flat_map lines_of (ss ++ s ∷ []) ≡ flat_map lines_of ss ++ lines_of s
lines_last [] s = append-nil (lines_of s)
lines_last (t ∷ ts) s = ap (λ x. lines_of t ++ x) (lines_last ts s) ∙ sym (append_assoc (lines_of t) (flat_map lines_of ts) (lines_of s))

pub falls_longer : (ns : List Numbered) (ss : List Section) (s : Section) (n : Numbered) → FallInto ns (ss ++ s ∷ []) → GoesOn n → FallInto (ns ++ n ∷ []) (ss ++ longer s n ∷ [])
falls_longer ns ss s n falls on =
    let front = flat_map lines_of ss in
    (order_longer ss s n falls.0 on, lines_last ss (longer s n) ∙ ap (λ x. front ++ x) (sym (append_assoc (opening_lines s.opening) s.said (n ∷ []))) ∙ sym (append_assoc front (lines_of s) (n ∷ [])) ∙ ap (λ x. x ++ n ∷ []) (sym (lines_last ss s) ∙ falls.1))

pub falls_opened : (ns : List Numbered) (ss : List Section) (s : Section) (n : Numbered) → FallInto ns (ss ++ s ∷ []) → role n.line ≡ Starts → FallInto (ns ++ n ∷ []) ((ss ++ s ∷ []) ++ opened n ∷ [])
falls_opened ns ss s n falls new = (order_opened ss s n falls.0 new, lines_last (ss ++ s ∷ []) (opened n) ∙ ap (λ x. x ++ n ∷ []) falls.1)

setup_more : (s : Setup) (ns : List Numbered) (n : Numbered) → setup_after_all s (ns ++ n ∷ []) ≡ setup_after (setup_after_all s ns) n.number n.line
setup_more s [] n = refl
setup_more s (m ∷ ms) n = setup_more (setup_after s m.number m.line) ms n

called_before : {A : Type 0} (r : Role) (x : A) (xs ys : List A) → called r x (xs ++ ys) ≡ called r x xs ++ ys
called_before Starts x xs ys = refl
called_before Sets x xs ys = refl
called_before Anywhere x xs ys = refl
called_before Calls x xs ys = refl

calls_at : (s : Setup) (front rest : List Numbered) (n : Numbered) → calls_among s (front ++ n ∷ rest) ≡ calls_among s front ++ called (role n.line) (n.number, n.line, (setup_after_all s front).level) (calls_among (setup_after_all s (front ++ n ∷ [])) rest)
calls_at s [] rest n = refl
calls_at s (m ∷ ms) rest n =
    let t = setup_after s m.number m.line in
    let last = called (role n.line) (n.number, n.line, (setup_after_all t ms).level) (calls_among (setup_after_all t (ms ++ n ∷ [])) rest) in
    ap (called (role m.line) (m.number, m.line, s.level)) (calls_at t ms rest n) ∙ called_before (role m.line) (m.number, m.line, s.level) (calls_among t ms) last

or_false : (a : Bool) → a || false ≡ a
or_false true = refl
or_false false = refl

or_assoc : (a b c : Bool) → a || (b || c) ≡ (a || b) || c
or_assoc true b c = refl
or_assoc false b c = refl

says_more : (ns : List Numbered) (n : Numbered) → any_says (ns ++ n ∷ []) ≡ any_says ns || says_something n.line
says_more [] n = or_false (says_something n.line)
says_more (m ∷ ms) n = ap (λ x. says_something m.line || x) (says_more ms n) ∙ or_assoc (says_something m.line) (any_says ms) (says_something n.line)

reported_longer : (s : Section) (n : Numbered) → is_reported (longer s n) ≡ is_reported s || says_something n.line
reported_longer s n = ap any_says (sym (append_assoc (opening_lines s.opening) s.said (n ∷ []))) ∙ says_more (lines_of s) n

-- a `new` says something
new_says : (l : Line) → role l ≡ Starts → says_something l ≡ true
new_says Blank e = cc
new_says _ e = refl

-- a call says something, and leaves the settings
call_says : (l : Line) → role l ≡ Calls → says_something l ≡ true
call_says Blank e = cc
call_says _ e = refl

call_keeps : (s : Setup) (n : ℕ) (l : Line) → role l ≡ Calls → setup_after s n l ≡ s
call_keeps s n New e = cc
call_keeps s n (Style layout) e = cc
call_keeps s n (Memory sizes) e = cc
call_keeps s n (Sink choice) e = cc
call_keeps s n (Level level) e = cc
call_keeps s n _ e = refl

others_add_none : {A : Type 0} (r : Role) (x : A) (xs : List A) → r ≢ Calls → called r x xs ≡ xs
others_add_none Starts x xs h = refl
others_add_none Sets x xs h = refl
others_add_none Anywhere x xs h = refl
others_add_none Calls x xs h = absurd (h refl)

pub calls_in_order : CallsInOrder
calls_in_order s front rest n =
    let x : ℕ × Line × QuoteLevel = (n.number, n.line, (setup_after_all s front).level) in
    let after = setup_after_all s (front ++ n ∷ []) in
    let at = calls_at s front rest n in (
      λ call. at ∙ ap (λ z. calls_among s front ++ z) (ap (λ r. called r x (calls_among after rest)) call ∙ ap (λ t. x ∷ calls_among t rest) (setup_more s front n ∙ call_keeps (setup_after_all s front) n.number n.line call)),
      λ other. at ∙ ap (λ z. calls_among s front ++ z) (others_add_none (role n.line) x (calls_among after rest) other),
    )

or_true : (a b : Bool) → b ≡ true → true ≡ a || b
or_true true b e = refl
or_true false b e = sym e

batch_opened : (b : Batch) (n : Numbered) → role n.line ≡ Starts → Begins b n.number true → IsBatchOf (opened n) b
batch_opened b n new h = record { setup = h.setup; calls = ap (map shown) h.calls; reports = h.reports ∙ sym (ap (λ x. x || false) (new_says n.line new)) }

batch_calls : (s : Section) (b : Batch) (n : Numbered) (b' : Batch) → IsBatchOf s b → role n.line ≡ Calls → AddsCall b n.number n.line b' → IsBatchOf (longer s n) b'
batch_calls s b n b' is call h =
    let first = defaults (first_of s.opening) in
    let settings = setup_after_all first s.said in
    let last : shown h.added ∷ [] ≡ called (role n.line) (n.number, n.line, settings.level) [] =
    ap (λ x. (x, h.added.line, h.added.level) ∷ []) h.number
    ∙ ap (λ x. (n.number, x, h.added.level) ∷ []) h.text
    ∙ ap (λ x. (n.number, n.line, x) ∷ []) (h.rule ∙ ap (λ x. x.level) is.setup)
    ∙ sym (ap (λ r. called r (n.number, n.line, settings.level) []) call) in
    record {
      setup = h.setup ∙ is.setup ∙ sym (setup_more first s.said n ∙ call_keeps settings n.number n.line call);
      calls = ap (map shown) h.calls ∙ map-append shown (vec_items b.calls) (h.added ∷ []) ∙ ap (λ x. x ++ shown h.added ∷ []) is.calls ∙ ap (λ x. calls_among first s.said ++ x) last ∙ sym (calls_at first s.said [] n);
      reports = h.reports ∙ or_true (is_reported s) (says_something n.line) (call_says n.line call) ∙ sym (reported_longer s n);
    }

batch_sets : (s : Section) (b : Batch) (n : Numbered) (b' : Batch) → IsBatchOf s b → ((x : ℕ × Line × QuoteLevel) → called (role n.line) x [] ≡ []) → batches.Sets b n.number n.line b' → IsBatchOf (longer s n) b'
batch_sets s b n b' is none h =
    let first = defaults (first_of s.opening) in
    let settings = setup_after_all first s.said in
    record {
      setup = h.setup ∙ ap (λ x. setup_after x n.number n.line) is.setup ∙ sym (setup_more first s.said n);
      calls = ap (map shown) h.calls ∙ is.calls ∙ sym (append-nil (calls_among first s.said)) ∙ ap (λ x. calls_among first s.said ++ x) (sym (none (n.number, n.line, settings.level))) ∙ sym (calls_at first s.said [] n);
      reports = h.reports ∙ ap (λ x. x || says_something n.line) is.reports ∙ sym (reported_longer s n);
    }

extends_on : (ρ : Role) (b b' : Batch) (n : Numbered) → role n.line ≡ ρ → GoesAs ρ None b n.number n.line b' → Extends None b n b'
extends_on Starts b b' n e h = let no : ⊥ = cc (h.0) in absurd no
extends_on Sets b b' n e h = ((λ q. cc), λ s is. batch_sets s b n b' is (λ x. ap (λ r. called r x []) e) h.1)
extends_on Anywhere b b' n e h = ((λ q. cc), λ s is. batch_sets s b n b' is (λ x. ap (λ r. called r x []) e) h.1)
extends_on Calls b b' n e h = ((λ q. cc), λ s is. batch_calls s b n b' is e h.1)

extends_new : (ρ : Role) (d b b' : Batch) (n : Numbered) → role n.line ≡ ρ → GoesAs ρ (Some d) b n.number n.line b' → Extends (Some d) b n b'
extends_new Starts d b b' n e h = let same : d ≡ b = cc (h.0) in (e, same, batch_opened b' n e h.1)
extends_new Sets d b b' n e h = let no : ⊥ = cc (h.0) in absurd no
extends_new Anywhere d b b' n e h = let no : ⊥ = cc (h.0) in absurd no
extends_new Calls d b b' n e h = let no : ⊥ = cc (h.0) in absurd no

-- a batch goes on as the sections do
pub goes_extends : (done : Option Batch) (b b' : Batch) (n : Numbered) → Goes done b n.number n.line b' → Extends done b n b'
goes_extends None b b' n h = extends_on (role n.line) b b' n refl h
goes_extends (Some d) b b' n h = extends_new (role n.line) d b b' n refl h
