-- The verdict's rows one by one: what a call answers where a row is the first to apply, and where none does. Assumes nothing.
use Rattle.std.proofs.Common.{◌≡◌, ℕ, ◌+◌, ◌-◌, ◌<◌, ◌≤◌, min, Bool, true, false, not, leb, [], ◌∷◌, length, Some, None, Ok, Err, Option, sym, refl, ap, subst, arith}
use Rattle.std.proofs.lemmas.Str.{IsUtf8-nil}
use Rattle.std.proofs.lemmas.Bool.{not_from_true, lt-ltb, le-ltb, le-leb, lt-leb, and_left, and_right, and_from}
use Rattle.refusal.specs.declared.Refusal.{Refusal}
use Rattle.refusal.specs.declared.Refusal.TheVariants.{Order, Bytes as BytesAt, Shape, RunOn, Name as NameAt, Stack, Depth, Stage, Sink}
use Rattle.model.specs.Strings.{whole, utf8}
use Rattle.model.specs.Calls.{Call}
use Rattle.model.specs.Model.{State}
use Rattle.model.specs.Layout.{stage, names, frames}
use Rattle.model.specs.Grounds.{out_of_order, ill_formed, string_of, misshapen, runs_on, misnamed}
use Rattle.model.specs.Table.{Verdict, refuse, accept, verdict, judged, first, when, fault_at, next, name_brought, takes_frame, handed, stack_full, too_deep, stage_full, sink_full}
use Rattle.model.proofs.Spelling.{utf8_from}
use Rattle.engine.specs.Memory.{Mem, Safe}
use Rattle.engine.specs.Lays.{Front, Holds, Lays, Beyond, setting, Told}
use Rattle.engine.proofs.Fronts.{front_length}

-- the first five rows do not apply
pub record Clear (c : Call) (m : State) : Type 0 where
  pub order : out_of_order c m ≡ false
  pub bytes : ill_formed c ≡ false
  pub shape : misshapen c m ≡ false
  pub text : runs_on c m ≡ false
  pub name : misnamed c m ≡ None

-- no bytes are well-formed
pub well_formed_none : utf8 [] ≡ true
well_formed_none = utf8_from [] IsUtf8-nil

pub no_bytes : not (utf8 []) ≡ false
no_bytes = not_from_true (utf8 []) well_formed_none

-- the call brings no name, takes no frame, and hands nothing to the sink
pub record Small (c : Call) (m : State) (w : Mem) : Type 0 where
  pub brought : name_brought c m ≡ []
  pub takes : takes_frame c ≡ false
  pub handed : handed w.indentation c m ≡ []

-- what each of the nine grounds says of a call, and the offset that the second tells
record Grounds : Type 0 where
  order : Bool
  bytes : Bool
  shape : Bool
  text : Bool
  name : Option ℕ
  names : Bool
  depth : Bool
  stage : Bool
  sink : Bool
  upto : ℕ

abbrev decided : Grounds → State → Verdict
decided g m =
    judged (first (when g.order Order ∷ when g.bytes (BytesAt g.upto) ∷ when g.shape Shape ∷ when g.text RunOn ∷ fault_at g.name ∷ when g.names Stack ∷ when g.depth Depth ∷ when g.stage Stage ∷ when g.sink Sink ∷ [])) m

module _ (g : Grounds) (m : State) where
  on_order : g.order ≡ true → decided g m ≡ refuse Order
  on_order p = rw p

  module _ (p : g.order ≡ false) (q : g.bytes ≡ false) (r : g.shape ≡ false) (s : g.text ≡ false) where
    on_name : (j : ℕ) → g.name ≡ Some j → decided g m ≡ refuse (NameAt j)
    on_name j t = rw (p, q, r, s, t)

    module _ (t : g.name ≡ None) where
      on_stack : g.names ≡ true → decided g m ≡ refuse Stack
      on_stack u = rw (p, q, r, s, t, u)

      on_depth : g.names ≡ false → g.depth ≡ true → decided g m ≡ refuse Depth
      on_depth u v = rw (p, q, r, s, t, u, v)

      on_stage : g.names ≡ false → g.depth ≡ false → g.stage ≡ true → decided g m ≡ refuse Stage
      on_stage u v x = rw (p, q, r, s, t, u, v, x)

      on_sink : g.names ≡ false → g.depth ≡ false → g.stage ≡ false → g.sink ≡ true → decided g m ≡ refuse Sink
      on_sink u v x y = rw (p, q, r, s, t, u, v, x, y)

      on_none : g.names ≡ false → g.depth ≡ false → g.stage ≡ false → g.sink ≡ false → decided g m ≡ accept m
      on_none u v x y = rw (p, q, r, s, t, u, v, x, y)

module _ (w : Mem) (room : ℕ) (c : Call) (m : State) where
  abbrev grounds : Grounds
  grounds = record {
    order = out_of_order c m;
    bytes = ill_formed c;
    shape = misshapen c m;
    text = runs_on c m;
    name = misnamed c m;
    names = stack_full (setting w) c m;
    depth = too_deep (setting w) c m;
    stage = stage_full (setting w) c m;
    sink = sink_full (setting w) room c m;
    upto = whole (string_of c);
  }

  -- a refusal leaves all as it was
  told_by : (e : Refusal) → verdict (setting w) room c m ≡ refuse e → Told (verdict (setting w) room c m) (Err e) w w
  told_by e h = subst (λ v. Told v (Err e) w w) (sym h) (refl, refl)

  pub told_order : out_of_order c m ≡ true → Told (verdict (setting w) room c m) (Err Order) w w
  told_order h = told_by Order (on_order grounds (next w.form c m) h)

  pub told_name : (j : ℕ) → out_of_order c m ≡ false → ill_formed c ≡ false → misshapen c m ≡ false → runs_on c m ≡ false → misnamed c m ≡ Some j → Told (verdict (setting w) room c m) (Err (NameAt j)) w w
  told_name j p q r s t =
      told_by (NameAt j) (on_name grounds (next w.form c m) p q r s j t)

  -- the sizes are the slices' lengths
  stack_is_full : Safe w → Front w.names (names m) → length w.names.all < w.names.used + length (name_brought c m) → stack_full (setting w) c m ≡ true
  stack_is_full s f h = lt-ltb (min (length w.names.all) 4096 - length (names m)) (length (name_brought c m)) (omega (arith, s.names_size, front_length w.names (names m) f, f.fits, h))

  pub stack_is_free : Safe w → Front w.names (names m) → w.names.used + length (name_brought c m) ≤ length w.names.all → stack_full (setting w) c m ≡ false
  stack_is_free s f h = le-ltb (min (length w.names.all) 4096 - length (names m)) (length (name_brought c m)) (omega (arith, s.names_size, front_length w.names (names m) f, f.fits, h))

  depth_is_full : Safe w → Front w.frames (frames w.indentation m) → takes_frame c ≡ true → length w.frames.all ≤ w.frames.used → too_deep (setting w) c m ≡ true
  depth_is_full s f t h =
      and_from (takes_frame c) (leb (min (length w.frames.all) 64) (length (frames w.indentation m))) t
      (le-leb (min (length w.frames.all) 64) (length (frames w.indentation m)) (omega (arith, s.frames_size, front_length w.frames (frames w.indentation m) f, h)))

  pub depth_is_free : Safe w → Front w.frames (frames w.indentation m) → w.frames.used < length w.frames.all → too_deep (setting w) c m ≡ false
  depth_is_free s f h =
      and_right (takes_frame c) (leb (min (length w.frames.all) 64) (length (frames w.indentation m)))
      (lt-leb (min (length w.frames.all) 64) (length (frames w.indentation m)) (omega (arith, s.frames_size, front_length w.frames (frames w.indentation m) f, h)))

  pub depth_unasked : takes_frame c ≡ false → too_deep (setting w) c m ≡ false
  depth_unasked t = and_left (takes_frame c) (leb (min (length w.frames.all) 64) (length (frames w.indentation m))) t

  pub sink_unasked : handed w.indentation c m ≡ [] → sink_full (setting w) room c m ≡ false
  sink_unasked e = le-ltb room (length (handed w.indentation c m)) (omega (arith, ap length e))

  pub told_stack : Clear c m → Safe w → Holds m w → length w.names.all < w.names.used + length (name_brought c m) → Told (verdict (setting w) room c m) (Err Stack) w w
  told_stack k s l h =
      told_by Stack (on_stack grounds (next w.form c m) k.order k.bytes k.shape k.text k.name (stack_is_full s l.names h))

  pub told_depth : Clear c m → Safe w → Holds m w → w.names.used + length (name_brought c m) ≤ length w.names.all → takes_frame c ≡ true → length w.frames.all ≤ w.frames.used → Told (verdict (setting w) room c m) (Err Depth) w w
  told_depth k s l n t h =
      told_by Depth (on_depth grounds (next w.form c m) k.order k.bytes k.shape k.text k.name (stack_is_free s l.names n) (depth_is_full s l.frames t h))

  pub told_stage : Clear c m → Safe w → Holds m w → w.names.used + length (name_brought c m) ≤ length w.names.all → too_deep (setting w) c m ≡ false → length w.stage.all < length (stage w.indentation (next w.form c m)) → Told (verdict (setting w) room c m) (Err Stage) w w
  told_stage k s l n d h =
      let full : stage_full (setting w) c m ≡ true =
      lt-ltb (min (length w.stage.all) 65536 - length (stage w.indentation m)) (length (stage w.indentation (next w.form c m)) - length (stage w.indentation m)) (omega (arith, s.stage_size, front_length w.stage (stage w.indentation m) l.stage, l.stage.fits, h)) in
      told_by Stage (on_stage grounds (next w.form c m) k.order k.bytes k.shape k.text k.name (stack_is_free s l.names n) d full)

  pub told_sink : Clear c m → Safe w → Holds m w → w.names.used + length (name_brought c m) ≤ length w.names.all → too_deep (setting w) c m ≡ false → stage_full (setting w) c m ≡ false → room < length (handed w.indentation c m) → Told (verdict (setting w) room c m) (Err Sink) w w
  told_sink k s l n d g h =
      told_by Sink (on_sink grounds (next w.form c m) k.order k.bytes k.shape k.text k.name (stack_is_free s l.names n) d g (lt-ltb room (length (handed w.indentation c m)) h))

  -- that it fits follows from what the memory then holds
  pub told_ok : (v : Mem) → Clear c m → Safe w → Holds m w → w.names.used + length (name_brought c m) ≤ length w.names.all → too_deep (setting w) c m ≡ false → sink_full (setting w) room c m ≡ false → Lays (next w.form c m) v → Beyond w v → Told (verdict (setting w) room c m) (Ok tt) w v
  told_ok v k s l n d z lay b =
      let m' = next w.form c m in
      let i : length (stage v.indentation m') ≡ length (stage w.indentation m') = ap (λ x. length (stage x m')) b.indentation in
      let free : stage_full (setting w) c m ≡ false =
      le-ltb (min (length w.stage.all) 65536 - length (stage w.indentation m)) (length (stage w.indentation m') - length (stage w.indentation m))
      (omega (arith, s.stage_size, i, front_length v.stage (stage v.indentation m') lay.holds.stage, lay.holds.stage.fits, b.stage.size)) in
      let e : verdict (setting w) room c m ≡ accept m' = on_none grounds m' k.order k.bytes k.shape k.text k.name (stack_is_free s l.names n) d free z in
      subst (λ x. Told x (Ok tt) w v) (sym e) (refl, lay, b)

  -- for a call that brings no name, takes no frame and hands nothing on
  pub told_small : (v : Mem) → Clear c m → Small c m w → Safe w → Holds m w → Lays (next w.form c m) v → Beyond w v → Told (verdict (setting w) room c m) (Ok tt) w v
  told_small v k x s l lay b = told_ok v k s l (omega (arith, ap length x.brought, l.names.fits)) (depth_unasked x.takes) (sink_unasked x.handed) lay b

  pub told_small_full : Clear c m → Small c m w → Safe w → Holds m w → length w.stage.all < length (stage w.indentation (next w.form c m)) → Told (verdict (setting w) room c m) (Err Stage) w w
  told_small_full k x s l h = told_stage k s l (omega (arith, ap length x.brought, l.names.fits)) (depth_unasked x.takes) h
