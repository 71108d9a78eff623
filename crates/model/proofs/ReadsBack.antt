-- Reading back: over a run, the sink reads as the trees of the records finished into it.
use Rattle.std.proofs.Common.{◌≡◌, List, [], ◌∷◌, ◌++◌, Some, None, Option, sym, refl, subst, append_assoc}
use Rattle.std.proofs.lemmas.List.{append-nil}
use Rattle.std.proofs.lemmas.Bool.{not-false}
use Rattle.refusal.specs.declared.Refusal.{Refusal}
use Rattle.refusal.specs.declared.Refusal.TheVariants.{Order, Bytes as BytesAt, Shape}
use Rattle.style.specs.declared.style.EmptyElementHandling.{EmptyElementHandling}
use Rattle.reader.specs.Trees.{Tree}
use Rattle.reader.specs.Reader.{Row}
use Rattle.reader.proofs.OneReading.{one_reading}
use Rattle.reader.proofs.Sound.{Written}
use Rattle.reader.proofs.Written.{no_rows, row-++, row_one, row_reads}
use Rattle.model.specs.Strings.{utf8, whole}
use Rattle.model.specs.Calls.{Call, call_open, call_field, call_value, call_end, call_finish, call_abandon}
use Rattle.model.specs.Model.{State}
use Rattle.model.specs.Step.{step}
use Rattle.model.specs.Grounds.{allowed, out_of_order, ill_formed, string_of, misshapen, misnamed}
use Rattle.model.specs.Table.{Memory, Setting, table, first, judged, next, handed}
use Rattle.model.specs.Run.{Session, new, writer, run, answer_of, answers, moved_on}
use Rattle.model.specs.Says.{Said, nothing, says, sends, trees_from, trees}
use Rattle.model.specs.Laws.{ReadsBack}
use Rattle.model.proofs.Moves.{moves, land}
use Rattle.model.proofs.Tables.{none_first, when_none, fault_none}
use Rattle.model.proofs.Spelling.{utf8_true}
use Rattle.model.proofs.Together.{Sim, sim_idle, sim_between, sim_inside, sim_quote, sim_complete}
use Rattle.model.proofs.Simulation.{sim_step}

-- what a call hands to the sink reads as the trees that it sends
sim_handed : (c : Call) {st : State} {sd : Said} → Sim st sd → Written Row (handed None c st) (sends c sd)
sim_handed (call_open n) m = no_rows
sim_handed (call_field k) m = no_rows
sim_handed (call_value v) m = no_rows
sim_handed call_end m = no_rows
sim_handed call_finish sim_idle = no_rows
sim_handed call_finish (sim_between h a k os) = no_rows
sim_handed call_finish (sim_inside s h a k rd os) = no_rows
sim_handed call_finish (sim_quote q h a k os) = no_rows
sim_handed call_finish (sim_complete t) = row_one t
sim_handed call_abandon m = no_rows

module _ (f : EmptyElementHandling) (m : Memory) where
  abbrev w : Setting
  w = writer f None m

  -- an accepted call keeps both sides together
  sim_next : (c : Call) (s : Session) {sd : Said} → Sim s.model sd → first (table w s.room c s.model) ≡ None → Sim (next f c s.model) (says c sd)
  sim_next c s {sd} h e =
      let st = s.model in
      let n = none_first (table w s.room c st) e in
      let a = not-false (allowed c st) (when_none (out_of_order c st) Order n.0) in
      let u = utf8_true (string_of c) (not-false (utf8 (string_of c)) (when_none (ill_formed c) (BytesAt (whole (string_of c))) n.1.0)) in
      let p = when_none (misshapen c st) Shape n.1.1.0 in
      let k = fault_none (misnamed c st) n.1.1.1.1.0 in
      land (λ x. Sim x (says c sd)) st (step f c st) (moves f c st a p) (sim_step f c h u k)

  -- the sink, behind what it held, reads as the trees that are sent
  abbrev ReadsOn : List Call → Session → Said → List Tree → Type 0
  ReadsOn cs s sd ts = Written Row (run w cs s).sink (ts ++ trees_from sd cs (answers w cs s))

  -- one call, by the first row of the table that applies
  reads_more : (c : Call) (cs : List Call) (s : Session) (sd : Said) (ts : List Tree) → Sim s.model sd → Written Row s.sink ts → ((t : Session) (td : Said) (us : List Tree) → Sim t.model td → Written Row t.sink us → ReadsOn cs t td us) →
      (o : Option Refusal) → first (table w s.room c s.model) ≡ o →
      Written Row (run w cs (moved_on s (handed None c s.model) (judged o (next f c s.model)))).sink (ts ++ trees_from sd (c ∷ cs) (answer_of (judged o (next f c s.model)) ∷ answers w cs (moved_on s (handed None c s.model) (judged o (next f c s.model)))))
  reads_more c cs s sd ts h r rest (Some x) e = rest s sd ts h r
  reads_more c cs s sd ts h r rest None e =
      let t = moved_on s (handed None c s.model) (judged None (next f c s.model)) in
      let x = rest t (says c sd) (ts ++ sends c sd) (sim_next c s h e) (row-++ r (sim_handed c h)) in
      subst (λ (y : List Tree). Written Row (run w cs t).sink y) (append_assoc ts (sends c sd) (trees_from (says c sd) cs (answers w cs t))) x

  reads_on : (cs : List Call) (s : Session) (sd : Said) (ts : List Tree) → Sim s.model sd → Written Row s.sink ts → ReadsOn cs s sd ts
  reads_on [] s sd ts h r = subst (λ (y : List Tree). Written Row s.sink y) (sym (append-nil ts)) r
  reads_on (c ∷ cs) s sd ts h r = reads_more c cs s sd ts h r (λ t td us. reads_on cs t td us) (first (table w s.room c s.model)) refl

pub reads_back : ReadsBack
reads_back f m r cs =
    let k = row_reads (reads_on f m cs (new r) nothing [] sim_idle no_rows) in
    record { reads = k; only = λ ts h. one_reading (run (writer f None m) cs (new r)).sink ts (trees cs (answers (writer f None m) cs (new r))) h k }
