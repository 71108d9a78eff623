-- For each of the ten refusals a run that meets it, and the same with the fault removed or with one byte, frame or room more, that does not.
-- Assumes nothing.
use Rattle.std.specs.Prelude.{◌≡◌, ℕ, zero, suc, true, false, List, [], ◌∷◌, replicate, Some, None, codes}
use Rattle.refusal.specs.declared.Refusal.{Refusal}
use Rattle.refusal.specs.declared.Refusal.TheVariants.{Order, Bytes as BytesAt, Shape, RunOn, Name as NameAt, Stack, Depth, Stage, Sink}
use Rattle.style.specs.declared.style.EmptyElementHandling.TheVariants.{SelfClosed}
use Rattle.style.specs.Indents.{allowed}
use Rattle.std.specs.List.{AllByRecursion}
use Rattle.model.specs.Calls.{val_wrapped, Call, call_open, call_field, call_value, call_end, call_finish, Answer, accepted, refused}
use Rattle.model.specs.Table.{Memory}
use Rattle.model.specs.Run.{new, writer, answers}
use Rattle.model.specs.Sheets.{string, row, ample}

-- calls over a memory, into a sink of a room
pub record Case : Type 0 where
  pub memory : Memory
  pub room : ℕ
  pub calls : List Call

-- the answer to the last call; there is always a first
abbrev pub last : Answer → List Answer → Answer
last a [] = a
last a (b ∷ bs) = last b bs

-- how the last call of a case is answered
abbrev pub last_answer : Case → Answer
last_answer c = last accepted (answers (writer SelfClosed None c.memory) c.calls (new c.room))

-- the last call of one case is refused so, and that of the other is accepted
pub record Pair : Type 0 where
  pub refusal : Refusal
  pub meets : Case
  pub avoids : Case

-- the pair is as it says
abbrev pub Holds : Pair → Type 0
Holds p = (last_answer p.meets ≡ refused p.refusal) × (last_answer p.avoids ≡ accepted)

-- a case with memory enough
abbrev pub with_room : ℕ → List Call → Case
with_room r cs = record { memory = ample; room = r; calls = cs }

-- a case with room enough, over these sizes of stage, name stack and frames
abbrev pub over : ℕ → ℕ → ℕ → List Call → Case
over s n f cs = record { memory = record { stage = s; names = n; frames = f }; room = 100; calls = cs }

-- calls in a record `a`
abbrev pub begun : List Call → List Call
begun cs = call_open (codes "a") ∷ cs

-- finish before the record's end, and behind it
abbrev pub order_pair : Pair
order_pair = record { refusal = Order; meets = with_room 100 (begun (call_finish ∷ [])); avoids = with_room 100 (begun (call_end ∷ call_finish ∷ [])) }

-- a string that breaks off in its second character, and the whole of it
abbrev pub bytes_pair : Pair
bytes_pair =
    record { refusal = BytesAt 1; meets = with_room 100 (begun (call_field (codes "b") ∷ string (0x61 ∷ 0xC3 ∷ []) ∷ [])); avoids = with_room 100 (begun (call_field (codes "b") ∷ string (0x61 ∷ 0xC3 ∷ 0xA9 ∷ []) ∷ [])) }

-- a wrapped value at an element place, and at a content place
abbrev pub shape_pair : Pair
shape_pair =
    record { refusal = Shape; meets = with_room 100 (begun (call_field (codes "b") ∷ call_value (val_wrapped (codes "c")) ∷ [])); avoids = with_room 100 (begun (call_field (codes "$value") ∷ call_value (val_wrapped (codes "c")) ∷ [])) }

-- two texts next to each other in a row, and with an empty one in place of the second
abbrev pub run_on_pair : Pair
run_on_pair =
    record { refusal = RunOn; meets = with_room 100 (begun (call_field (codes "$value") ∷ row ∷ string (codes "x") ∷ string (codes "y") ∷ [])); avoids = with_room 100 (begun (call_field (codes "$value") ∷ row ∷ string (codes "x") ∷ string [] ∷ [])) }

-- a name that begins with a digit, and one that ends in it
abbrev pub name_pair : Pair
name_pair = record { refusal = NameAt 0; meets = with_room 100 (call_open (codes "1a") ∷ []); avoids = with_room 100 (call_open (codes "a1") ∷ []) }

-- a name of three bytes on a name stack of two, and of three
abbrev pub stack_pair : Pair
stack_pair = record { refusal = Stack; meets = over 100 2 1 (call_open (codes "abc") ∷ []); avoids = over 100 3 1 (call_open (codes "abc") ∷ []) }

-- a row in a record, with one frame, and with two
abbrev pub depth_pair : Pair
depth_pair =
    record { refusal = Depth; meets = over 100 20 1 (begun (call_field (codes "b") ∷ row ∷ [])); avoids = over 100 20 2 (begun (call_field (codes "b") ∷ row ∷ [])) }

-- an empty record of four bytes on a stage of three, and of four
abbrev pub stage_pair : Pair
stage_pair = record { refusal = Stage; meets = over 3 20 1 (begun (call_end ∷ [])); avoids = over 4 20 1 (begun (call_end ∷ [])) }

-- the same into a sink of three bytes, and of four
abbrev pub sink_pair : Pair
sink_pair = record { refusal = Sink; meets = with_room 3 (begun (call_end ∷ call_finish ∷ [])); avoids = with_room 4 (begun (call_end ∷ call_finish ∷ [])) }

-- the nine refusals of calls
abbrev pub pairs : List Pair
pairs = order_pair ∷ bytes_pair ∷ shape_pair ∷ run_on_pair ∷ name_pair ∷ stack_pair ∷ depth_pair ∷ stage_pair ∷ sink_pair ∷ []

-- an indent of seventeen spaces, and of sixteen; of line feeds, and of tabs
abbrev pub StylesPair : Type 0
StylesPair =
    ((allowed (Some (record { byte = 32; size = 17 })) ≡ false) × (allowed (Some (record { byte = 32; size = 16 })) ≡ true)) × ((allowed (Some (record { byte = 10; size = 1 })) ≡ false) × (allowed (Some (record { byte = 9; size = 1 })) ≡ true))

-- so many rows, one in the other
abbrev pub nested : ℕ → List Call
nested zero = []
nested (suc n) = row ∷ nested n

-- of a hundred frames lent, 64 are used: a record and 63 rows are open, and one row more is too deep
abbrev pub FramesUsed : Type 0
FramesUsed =
    (last_answer (over 100 20 100 (begun (call_field (codes "b") ∷ nested 63))) ≡ accepted) × (last_answer (over 100 20 100 (begun (call_field (codes "b") ∷ nested 64))) ≡ refused Depth)

-- of 5,000 bytes lent for names, 4,096 are used: a name of so many fits, and one of a byte more does not
abbrev pub NamesUsed : Type 0
NamesUsed =
    (last_answer (over 6000 5000 1 (call_open (replicate 4096 97) ∷ [])) ≡ accepted) × (last_answer (over 6000 5000 1 (call_open (replicate 4097 97) ∷ [])) ≡ refused Stack)

-- of 70,000 bytes lent for the stage, 65,536 are used: `<a` and a text of 65,534 bytes fit, and a byte more does not
abbrev pub StageUsed : Type 0
StageUsed =
    (last_answer (over 70000 20 1 (begun (call_field (codes "$text") ∷ string (replicate 65534 97) ∷ []))) ≡ accepted) × (last_answer (over 70000 20 1 (begun (call_field (codes "$text") ∷ string (replicate 65535 97) ∷ []))) ≡ refused Stage)

-- each of the ten refusals is met, and is not met where its ground is removed
abbrev pub MetAndNotMet : Type 0
MetAndNotMet = AllByRecursion Holds pairs × StylesPair × FramesUsed × NamesUsed × StageUsed
