-- Which orders are stopped: by induction over the lines, in either phase.
use Rattle.std.proofs.Common.{◌≡◌, ◌⊎◌, List, [], ◌∷◌, ◌++◌, Err, refl, ap, ◌∙◌, inl, inr, arith}
use Rattle.script.specs.declared.fault.Fault.TheVariants.{TooLate}
use Rattle.script.specs.declared.order.Role.{Role}
use Rattle.script.specs.declared.order.Role.TheVariants.{Starts, Sets, Anywhere, Calls}
use Rattle.script.specs.declared.order.Phase.{Phase}
use Rattle.script.specs.declared.order.Phase.TheVariants.{SettingUp, Calling}
use Rattle.script.specs.Order.{after_all, SameWriter, Late, SetUpFirst}

-- a set-up word before the next writer
record Pending (rs : List Role) : Type 0 where
  pub between : List Role
  pub rest : List Role
  pub is : rs ≡ between ++ Sets ∷ rest
  pub same : SameWriter between

late_cons : (r : Role) (rs : List Role) → Late rs → Late (r ∷ rs)
late_cons r rs l = record { front = r ∷ l.front; between = l.between; rest = l.rest; is = ap (λ t. r ∷ t) l.is; same = l.same }

-- a call, and then a set-up word before the next writer
late_call : (rs : List Role) → Pending rs ⊎ Late rs → Late (Calls ∷ rs)
late_call rs (inl p) = record { front = []; between = p.between; rest = p.rest; is = ap (λ t. Calls ∷ t) p.is; same = p.same }
late_call rs (inr l) = late_cons Calls rs l

pending_any : (rs : List Role) → Pending rs ⊎ Late rs → Pending (Anywhere ∷ rs) ⊎ Late (Anywhere ∷ rs)
pending_any rs (inl p) = inl (record { between = Anywhere ∷ p.between; rest = p.rest; is = ap (λ t. Anywhere ∷ t) p.is; same = p.same })
pending_any rs (inr l) = inr (late_cons Anywhere rs l)

mutual
  stopped_setting : (rs : List Role) → after_all SettingUp rs ≡ Err TooLate → Late rs
  stopped_setting [] e = cc
  stopped_setting (Starts ∷ rs) e = late_cons Starts rs (stopped_setting rs e)
  stopped_setting (Sets ∷ rs) e = late_cons Sets rs (stopped_setting rs e)
  stopped_setting (Anywhere ∷ rs) e = late_cons Anywhere rs (stopped_setting rs e)
  stopped_setting (Calls ∷ rs) e = late_call rs (stopped_calling rs e)

  stopped_calling : (rs : List Role) → after_all Calling rs ≡ Err TooLate → Pending rs ⊎ Late rs
  stopped_calling [] e = cc
  stopped_calling (Starts ∷ rs) e = inr (late_cons Starts rs (stopped_setting rs e))
  stopped_calling (Sets ∷ rs) e = inl (record { between = []; rest = rs; is = refl; same = tt })
  stopped_calling (Anywhere ∷ rs) e = pending_any rs (stopped_calling rs e)
  stopped_calling (Calls ∷ rs) e = inr (late_call rs (stopped_calling rs e))

-- behind a call, a set-up word of the same writer stops the script
pending_stops : (between rest : List Role) → SameWriter between → after_all Calling (between ++ Sets ∷ rest) ≡ Err TooLate
pending_stops [] rest s = refl
pending_stops (r ∷ rs) rest s = grind (arith, pending_stops rs rest)

-- whatever comes before
late_stops : (p : Phase) (front between rest : List Role) → SameWriter between → after_all p (front ++ Calls ∷ (between ++ Sets ∷ rest)) ≡ Err TooLate
late_stops p [] between rest s = grind (arith, pending_stops between rest s)
late_stops p (r ∷ rs) between rest s = grind (arith, late_stops SettingUp rs between rest s, late_stops Calling rs between rest s)

pub set_up_first : SetUpFirst
set_up_first rs = (stopped_setting rs, λ l. ap (after_all SettingUp) l.is ∙ late_stops SettingUp l.front l.between l.rest l.same)
