-- What is done with the record: the calls of its fields, and how it ends. Assumes nothing.
use Rattle.std.specs.Prelude.{◌≡◌, ◌⊎◌, ℕ, List, [], ◌∷◌, codes, Ok, Err, Result}
use Rattle.refusal.specs.declared.Refusal.{Refusal}
use Rattle.xml.specs.declared.escape.QuoteLevel.TheVariants.{Partial}
use Rattle.reader.specs.Trees.{Bytes}
use Rattle.model.specs.Rules.{level_rule}
use Rattle.model.specs.Calls.{Call, call_field, call_value, call_end, call_finish, call_abandon, val_text}
use Rattle.engine.specs.Memory.{Mem}
use Rattle.engine.specs.Lays.{Does}
use Rattle.writer.specs.Served.{Serves}

-- these calls are made one after another, up to the first that is refused, and that refusal is the answer
abbrev pub Makes : List Call → Result (Unit {0}) Refusal → Mem → Mem → Type 0
Makes [] r w v = (r ≡ Ok tt) × (v ≡ w)
Makes (c ∷ cs) r w v =
    ((u : Mem) × ((room : ℕ) → Does c room (Ok tt) w u) × Makes cs r u v)
    ⊎ ((e : Refusal) × ((room : ℕ) → Does c room (Err e) w v) × (r ≡ Err e))

-- the calls of the record behind its name: a trail, and the number of its sheet
abbrev pub fields : Bytes → List Call
fields trail =
    call_field (codes "trail")
    ∷ call_value (val_text (level_rule Partial) trail)
    ∷ call_field (codes "@no")
    ∷ call_value (val_text (level_rule Partial) (codes "1134"))
    ∷ call_end
    ∷ []

-- a record that is refused is dropped, and the refusal is the answer
abbrev pub GivesUp : Refusal → Result (Unit {0}) Refusal → Mem → Mem → Type 0
GivesUp e r w v = (r ≡ Err e) × ((room : ℕ) → (q : Result (Unit {0}) Refusal) × Does call_abandon room q w v)

-- a record is handed to the sink, and dropped where the sink refuses it
abbrev pub HandsIn : Result (Unit {0}) Refusal → Mem → Mem → Bytes → ℕ → Bytes → ℕ → Type 0
HandsIn (Ok done) w v bs k bs' k' = Serves call_finish (Ok done) w v bs k bs' k'
HandsIn (Err e) w v bs k bs' k' = (u : Mem) × Serves call_finish (Err e) w u bs k bs' k' × GivesUp e (Err e) u v

-- a whole record is handed in, and one that was refused a field is dropped, which leaves the sink alone
abbrev pub Settles : Result (Unit {0}) Refusal → Result (Unit {0}) Refusal → Mem → Mem → Bytes → ℕ → Bytes → ℕ → Type 0
Settles (Ok filled) r w v bs k bs' k' = HandsIn r w v bs k bs' k'
Settles (Err e) r w v bs k bs' k' = GivesUp e r w v × (bs' ≡ bs) × (k' ≡ k)
