-- What steps that bring a name, take a frame or open a record answer, and the memory once a record is open. Assumes nothing.
use Rattle.std.specs.Prelude.{◌≡◌, ℕ, ◌+◌, ◌<◌, ◌≤◌, false, ◌⊎◌, List, ◌++◌, length, Some, None, Ok, Err, Result}
use Rattle.refusal.specs.declared.Refusal.{Refusal}
use Rattle.refusal.specs.declared.Refusal.TheVariants.{Name as NameAt, Stack, Depth, Stage}
use Rattle.refusal.specs.Refusals.{offset}
use Rattle.xml.specs.Names.{name_fault}
use Rattle.model.specs.declared.place.Place.TheVariants.{Field, Element}
use Rattle.model.specs.Frames.{new_frame}
use Rattle.engine.specs.Memory.{Mem, appended, name_put, pushed, placed, worded, counted}

-- a frame is free, or none is
abbrev pub FrameFree : Result (Unit {0}) Refusal → Mem → Type 0
FrameFree (Ok x) w = w.frames.used < length w.frames.all
FrameFree (Err e) w = (e ≡ Depth) × (length w.frames.all ≤ w.frames.used)

-- the bytes are a name for which the name stack has room; or they are none, or there is none
abbrev pub Named : {A : Type 0} → Result A Refusal → List ℕ → Mem → Type 0
Named (Ok x) n w = (name_fault n ≡ None) × (w.names.used + length n ≤ length w.names.all)
Named (Err e) n w =
    ((name_fault n ≡ Some (offset e)) × (e ≡ NameAt (offset e)))
    ⊎ ((name_fault n ≡ None) × (e ≡ Stack) × (length w.names.all < w.names.used + length n))

-- the next value becomes an element of this name; or the bytes are no name, or there is no room for it, and nothing has changed
abbrev pub Awaits : Result (Unit {0}) Refusal → List ℕ → Mem → Mem → Type 0
Awaits (Ok x) n w v = Named (Ok x) n w × (v ≡ placed (Element w.names.used) (name_put n w))
Awaits (Err e) n w v = Named {A = Unit {0}} (Err e) n w × (v ≡ w)

-- one more record is open, whose tag ends where the stage does and whose name begins here; its first field is awaited
abbrev pub begun : ℕ → Mem → Mem
begun from w = placed Field (worded false (counted (w.records + 1) (pushed (new_frame w.stage.used w.names.used from) w)))

-- a record of this name is open, its tag behind this lead; or the bytes are no name, or there is no room for the name, for its
-- frame or for the start of its tag, and nothing has changed
abbrev pub Opens : Result (Unit {0}) Refusal → List ℕ → List ℕ → Mem → Mem → Type 0
Opens (Ok x) lead n w v =
    Named (Ok x) n w × FrameFree (Ok x) w × (w.stage.used + length (lead ++ n) ≤ length w.stage.all)
    × (v ≡ begun w.names.used (name_put n (appended (lead ++ n) w)))
Opens (Err e) lead n w v =
    (v ≡ w)
    × (Named {A = Unit {0}} (Err e) n w
    ⊎ (Named {A = Unit {0}} (Ok tt) n w
    × (FrameFree (Err e) w ⊎ (FrameFree (Ok tt) w × (e ≡ Stage) × (length w.stage.all < w.stage.used + length (lead ++ n))))))
