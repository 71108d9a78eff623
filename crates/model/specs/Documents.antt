-- What the accepted calls alone write, as marks: no memory, no room and no indentation has a say in it. Assumes nothing.
use Rattle.std.specs.Prelude.{List, [], ◌∷◌, ◌++◌, Option}
use Rattle.style.specs.declared.indentation.Indentation.{Indentation}
use Rattle.style.specs.declared.style.EmptyElementHandling.{EmptyElementHandling}
use Rattle.reader.specs.Trees.{Bytes}
use Rattle.model.specs.Calls.{Call, call_open, call_field, call_value, call_end, call_finish, call_abandon, Answer, accepted, refused}
use Rattle.model.specs.Marks.{Mark, flatten}
use Rattle.model.specs.Model.{State, idle, between, inside, quote, complete}
use Rattle.model.specs.Table.{next}

-- the calls that were accepted, by their answers
abbrev pub accepted_calls : List Call → List Answer → List Call
accepted_calls [] rs = []
accepted_calls (c ∷ cs) [] = []
accepted_calls (c ∷ cs) (accepted ∷ rs) = c ∷ accepted_calls cs rs
accepted_calls (c ∷ cs) (refused e ∷ rs) = accepted_calls cs rs

-- the marks of the record that is complete, if one is
abbrev pub document_at : State → List (List Mark)
document_at idle = []
document_at (between l ls) = []
document_at (inside s rs l ls) = []
document_at (quote q l ls) = []
document_at (complete ms) = ms ∷ []

-- the marks of the record that a call finishes
abbrev pub document : Call → State → List (List Mark)
document (call_open n) st = []
document (call_field k) st = []
document (call_value v) st = []
document call_end st = []
document call_finish st = document_at st
document call_abandon st = []

-- the records that accepted calls finish, in their order, from a state on
abbrev pub documents : EmptyElementHandling → List Call → State → List (List Mark)
documents f [] st = []
documents f (c ∷ cs) st = document c st ++ documents f cs (next f c st)

-- records one after another, laid out
abbrev pub layouts : Option Indentation → List (List Mark) → Bytes
layouts i [] = []
layouts i (d ∷ ds) = flatten i d ++ layouts i ds
