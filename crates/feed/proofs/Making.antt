-- Each line makes one call, its own.
use Rattle.std.proofs.Common.{◌≡◌, ◌≢◌, ℕ, List, [], ◌∷◌, ◌++◌, map, ap, refl, sym, subst, length, take, ◌<◌, ◌+◌, ◌∙◌}
use Rattle.std.specs.Prelude.{Some, None, Option, get_or}
use Rattle.std.proofs.lemmas.List.{take_more}
use Rattle.xml.specs.declared.escape.QuoteLevel.{QuoteLevel}
use Rattle.xml.specs.Escaping.{level_chooses}
use Rattle.script.specs.declared.line.Line.{Line}
use Rattle.script.specs.declared.line.Line.TheVariants.{Blank, New, Style, Memory, Sink, Level}
use Rattle.script.specs.declared.order.Role.TheVariants.{Calls}
use Rattle.script.specs.Order.{role}
use Rattle.model.specs.Calls as model
use Rattle.places.specs.Values.{Chooses}
use Rattle.writer.specs.declared.call.Call.{Call}
use Rattle.writer.specs.Spelled.{CallIs, CallsAre}
use Rattle.feed.specs.declared.call_line.CallLine.{CallLine}
use Rattle.feed.specs.Making.{call_of, Makes, with_call, calls_made, CallsOnly, OneCallEach}

are_more : {R : Type 0} (ch : Chooses R) (xs : List (Call R)) (x : Call R) (cs : List model.Call) (c : model.Call) → CallsAre ch xs cs → CallIs ch x c → CallsAre ch (xs ++ x ∷ []) (cs ++ c ∷ [])
are_more ch [] x [] c h i = (i, tt)
are_more ch [] x (d ∷ ds) c h i = absurd h
are_more ch (y ∷ ys) x [] c h i = absurd h
are_more ch (y ∷ ys) x (d ∷ ds) c h i = (h.0, are_more ch ys x ds c h.1 i)

with_more : (o : Option model.Call) (cs ds : List model.Call) → with_call o (cs ++ ds) ≡ with_call o cs ++ ds
with_more None cs ds = refl
with_more (Some c) cs ds = refl

made_more : (ls : List CallLine) (l : CallLine) (c : model.Call) → call_of l.level l.line ≡ Some c → calls_made (ls ++ l ∷ []) ≡ calls_made ls ++ c ∷ []
made_more [] l c h = ap (λ o. with_call o []) h
made_more (k ∷ ks) l c h = ap (λ cs. with_call (call_of k.level k.line) cs) (made_more ks l c h) ∙ with_more (call_of k.level k.line) (calls_made ks) (c ∷ [])

-- the calls of the lines before, and the call of the next line
pub one_more : (lines : List CallLine) (i : ℕ) (l : CallLine) (xs : List (Call QuoteLevel)) (x : Call QuoteLevel) → i < length lines → l ≡ get_or lines i l → CallsAre level_chooses xs (calls_made (take i lines)) → Makes x l.level l.line → CallsAre level_chooses (xs ++ x ∷ []) (calls_made (take (i + 1) lines))
one_more lines i l xs x low is far makes =
    let next : take (i + 1) lines ≡ take i lines ++ l ∷ [] = take_more lines i l low ∙ ap (λ y. take i lines ++ y ∷ []) (sym is) in
    let made : calls_made (take (i + 1) lines) ≡ calls_made (take i lines) ++ makes.0 ∷ [] = ap calls_made next ∙ made_more (take i lines) l makes.0 makes.2 in
    subst (λ cs. CallsAre level_chooses (xs ++ x ∷ []) cs) (sym made) (are_more level_chooses xs x (calls_made (take i lines)) makes.0 far makes.1)

is_call : (level : QuoteLevel) (l : Line) → call_of level l ≢ None → role l ≡ Calls
is_call level Blank h = absurd (h refl)
is_call level New h = absurd (h refl)
is_call level (Style layout) h = absurd (h refl)
is_call level (Memory sizes) h = absurd (h refl)
is_call level (Sink choice) h = absurd (h refl)
is_call level (Level other) h = absurd (h refl)
is_call level _ h = refl

makes_call : (level : QuoteLevel) (l : Line) → role l ≡ Calls → call_of level l ≢ None
makes_call level Blank e h = cc
makes_call level _ e h = cc

pub calls_only : CallsOnly
calls_only level l = (is_call level l, makes_call level l)

with_some : (o : Option model.Call) (cs : List model.Call) → o ≢ None → map Some (with_call o cs) ≡ o ∷ map Some cs
with_some None cs h = absurd (h refl)
with_some (Some c) cs h = refl

pub one_call_each : OneCallEach
one_call_each [] = refl
one_call_each (l ∷ ls) = with_some (call_of l.level l.line) (calls_made ls) (makes_call l.level l.line l.calls) ∙ ap (λ z. call_of l.level l.line ∷ z) (one_call_each ls)
