-- Which of several settings counts: by induction over the lines.
use Rattle.std.proofs.Common.{◌≡◌, ◌≢◌, ℕ, List, [], ◌∷◌, Some, None, Option, unwrap_or, refl, sym, ap, ◌∙◌, inl, inr}
use Rattle.script.specs.declared.line.Line.{Line}
use Rattle.script.specs.declared.line.Line.TheVariants.{New}
use Rattle.script.specs.declared.line.Numbered.{Numbered}
use Rattle.script.specs.declared.order.Role.TheVariants.{Starts}
use Rattle.script.specs.Order.{role}
use Rattle.feed.specs.declared.setup.Setup.{Setup}
use Rattle.feed.specs.Setups.{setup_after, setup_after_all, style_in, memory_in, sink_in, level_in, Counts, LastCounts}

-- one line before the others sets it, or leaves it
counts_more : {A : Type 0} (set : ℕ → Line → Option A) (n : Numbered) (before after : A) (ns : List Numbered) (x : A) (o : Option A) → set n.number n.line ≡ o → after ≡ unwrap_or o before → Counts set after ns x → Counts set before (n ∷ ns) x
counts_more set n before after ns x None is e (inl h) = inl ((is, h.0), h.1 ∙ e)
counts_more set n before after ns x (Some y) is e (inl h) = inr (record { front = []; line = n; rest = ns; is = refl; sets = is ∙ ap Some (sym (h.1 ∙ e)); none = h.0 })
counts_more set n before after ns x o is e (inr l) = inr (record { front = n ∷ l.front; line = l.line; rest = l.rest; is = ap (λ z. n ∷ z) l.is; sets = l.sets; none = l.none })

style_after : (s : Setup) (n : ℕ) (l : Line) → role l ≢ Starts → (setup_after s n l).style ≡ unwrap_or (style_in n l) s.style
style_after s n New on = absurd (on refl)
style_after s n _ on = refl

memory_after : (s : Setup) (n : ℕ) (l : Line) → role l ≢ Starts → (setup_after s n l).memory ≡ unwrap_or (memory_in n l) s.memory
memory_after s n New on = absurd (on refl)
memory_after s n _ on = refl

sink_after : (s : Setup) (n : ℕ) (l : Line) → role l ≢ Starts → (setup_after s n l).sink ≡ unwrap_or (sink_in n l) s.sink
sink_after s n New on = absurd (on refl)
sink_after s n _ on = refl

level_after : (s : Setup) (n : ℕ) (l : Line) → role l ≢ Starts → (setup_after s n l).level ≡ unwrap_or (level_in n l) s.level
level_after s n New on = absurd (on refl)
level_after s n _ on = refl

pub last_counts : LastCounts
last_counts s [] on = (inl (tt, refl), inl (tt, refl), inl (tt, refl), inl (tt, refl))
last_counts s (n ∷ ns) on =
    let k = n.number in
    let l = n.line in
    let t = setup_after s k l in
    let x = setup_after_all t ns in
    let more = last_counts t ns on.1 in
    (counts_more style_in n s.style t.style ns x.style (style_in k l) refl (style_after s k l on.0) more.0, counts_more memory_in n s.memory t.memory ns x.memory (memory_in k l) refl (memory_after s k l on.0) more.1, counts_more sink_in n s.sink t.sink ns x.sink (sink_in k l) refl (sink_after s k l on.0) more.2, counts_more level_in n s.level t.level ns x.level (level_in k l) refl (level_after s k l on.0) more.3)
