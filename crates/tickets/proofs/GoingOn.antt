-- Runs that go on where another ended are one behind another in a history. Assumes nothing.
use Rattle.std.proofs.Common.{◌≡◌, ℕ, List, ◌++◌, ◌∙◌, subst}
use Rattle.std.proofs.lemmas.List.{append_assoc}
use Rattle.reader.specs.Trees.{Bytes}
use Rattle.model.specs.Calls.{Call, Answer}
use Rattle.model.specs.Table.{Setting}
use Rattle.engine.specs.Memory.{Mem}
use Rattle.writer.specs.Histories.{History}

-- what stands behind hs in three parts, taken as one
pub taken_as_one : {A : Type 0} (hs cs ds es : List A) → ((hs ++ cs) ++ ds) ++ es ≡ hs ++ (cs ++ (ds ++ es))
taken_as_one hs cs ds es = append_assoc (hs ++ cs) ds es ∙ append_assoc hs cs (ds ++ es)

pub as_one : (x : Setting) (hs cs ds es : List Call) (qs ps rs ts : List Answer) (r : ℕ) (v : Mem) (held : Bytes) (k : ℕ) → History x (((hs ++ cs) ++ ds) ++ es) (((qs ++ ps) ++ rs) ++ ts) r v held k → (told : List Answer) × History x (hs ++ (cs ++ (ds ++ es))) (qs ++ told) r v held k
as_one x hs cs ds es qs ps rs ts r v held k h =
    (ps ++ (rs ++ ts), subst (λ z. History x (hs ++ (cs ++ (ds ++ es))) z r v held k) (taken_as_one qs ps rs ts) (subst (λ z. History x z (((qs ++ ps) ++ rs) ++ ts) r v held k) (taken_as_one hs cs ds es) h))
