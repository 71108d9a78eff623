-- How the writing of the record of a trail is answered, and what its sink reads back as. Assumes nothing.
use Rattle.std.specs.Prelude.{◌≡◌, ℕ, List, [], ◌∷◌, ◌++◌, None, codes, Ok, Err, Result}
use Rattle.refusal.specs.declared.Refusal.{Refusal}
use Rattle.reader.specs.Trees.{Bytes, done, elem, Tree, tree, before}
use Rattle.model.specs.Calls.{Call, call_open, call_finish, Answer, accepted, refused}
use Rattle.model.specs.Table.{Setting}
use Rattle.model.specs.Laws.{answers_to, ReadsExactly}
use Rattle.tickets.specs.Settling.{fields}

-- what the record says: the number of the sheet, and the trail on it
abbrev pub sheet_of : Bytes → Tree
sheet_of trail = tree (codes "sheet") ((codes "no", codes "1134") ∷ []) (elem (codes "trail") [] (before trail done) done)

-- the calls of the record, one after another
abbrev pub sheet_calls : Bytes → List Call
sheet_calls trail = call_open (codes "sheet") ∷ (fields trail ++ (call_finish ∷ []))

-- the first of these answers that is a refusal, if one is
abbrev pub first_refusal : List Answer → Result (Unit {0}) Refusal
first_refusal [] = Ok tt
first_refusal (accepted ∷ rs) = first_refusal rs
first_refusal (refused e ∷ rs) = Err e

-- what a new writer x and an empty sink of room k are left with, which then holds bs
pub record Written (trail : Bytes) (r : Result (Unit {0}) Refusal) (x : Setting) (k : ℕ) (bs : Bytes) : Type 0 where
  -- it is refused only where a call of the record is, and with the first such refusal
  pub told : r ≡ first_refusal (answers_to x (sheet_calls trail) k)
  -- written without indents, the sink reads back as exactly that record
  pub reads_back : r ≡ Ok tt → x.indentation ≡ None → ReadsExactly bs (sheet_of trail ∷ [])
  -- refused, it stays empty
  pub stays : (e : Refusal) → r ≡ Err e → bs ≡ []
