-- The readings worked by hand, derived, and the bytes that have none, scanned.
use Rattle.std.proofs.Common.{◌≡◌, ℕ, ◌<◌, Bool, true, not, List, [], ◌∷◌, ◌++◌, length, codes, refl, ap, arith}
use lib.Utf8.{encode, encodes, scalars}
use Rattle.std.specs.List.{AllByRecursion, list_all}
use Rattle.std.specs.Str.{chars}
use Rattle.std.proofs.lemmas.Str.{encodes-chars}
use Rattle.std.proofs.lemmas.Bool.{and_parts, not-true, both_ways}
use Rattle.xml.specs.declared.escape.Use.{Use}
use Rattle.xml.specs.declared.escape.Use.TheVariants.{Text, Attribute}
use Rattle.xml.specs.Names.{Name, is_name}
use Rattle.xml.specs.Escaping.{asked}
use Rattle.xml.specs.Reading.{AttValue, value_end, value_raw, value_reference, amp, line_feed, gt, lines}
use Rattle.reader.specs.Trees.{Bytes, Nodes, Tree, before}
use Rattle.reader.specs.Reader.{attribs_end, attribs_more, empty_tag, spaced_empty_tag, tags, content_end, content_element, row_end, row_more, Reads}
use Rattle.reader.specs.Examples.{titled, white_space, repeated, ExampleReads, ExampleUnreadable, unreadable_text, unreadable_tags, unreadable_rows, unreadable_bytes}
use Rattle.reader.proofs.Scanner.{scan, at_end}
use Rattle.reader.proofs.Written.{value_byte_same}
use Rattle.reader.proofs.OneReading.{start, scan_reads}
use Rattle.reader.proofs.Calm.{Calm, calm_end, calm_raw, calm_reference, calm_element, read_calm}

-- a name that is written out
word : (s : Bytes) → scalars s ≡ true → encodes s ≡ s → is_name s ≡ true → Name s
word s a b c = record { chars = s; scalar = a; spelt = b; is = c }

-- bytes that need no escaping say themselves
abbrev harmless : Use → ℕ → Bool
harmless u b = not (asked u b)

raw_text : (s : Bytes) {c : Bytes} {ns : Nodes} → list_all (harmless Text) s ≡ true → Calm c ns → Calm (s ++ c) (before s ns)
raw_text [] e k = k
raw_text (b ∷ s) e k =
    let h = and_parts (harmless Text b) (list_all (harmless Text) s) e in
    calm_raw (not-true (asked Text b) h.0) (raw_text s h.1 k)

raw_value : (s : Bytes) {c v : Bytes} → list_all (harmless Attribute) s ≡ true → AttValue c v → AttValue (s ++ c) (s ++ v)
raw_value [] e k = k
raw_value (b ∷ s) e k =
    let h = and_parts (harmless Attribute b) (list_all (harmless Attribute) s) e in
    value_byte_same (not-true (asked Attribute b) h.0) (raw_value s h.1 k)

titled_reads : Reads titled.bytes titled.says
unfolding encode
titled_reads =
    let title = content_element (tags (word (codes "title") refl refl refl) attribs_end (read_calm (raw_text (codes "Alp ") refl (calm_reference amp (raw_text (codes " Tal") refl calm_end))))) content_end in
    let no = attribs_more (word (codes "no") refl refl refl) (raw_value (codes "12") refl value_end) attribs_end in
    ((titled.bytes, (refl, refl)), row_more (tags (word (codes "sheet") refl refl refl) no title) row_end)

white_space_reads : Reads white_space.bytes white_space.says
unfolding encode
white_space_reads =
    let tab-line : AttValue (9 ∷ codes "2" ++ (10 ∷ codes "3&#10;")) (codes " 2 3" ++ (10 ∷ [])) =
    value_raw (omega arith) (omega arith) (omega arith) (raw_value (codes "2") refl (value_raw (omega arith) (omega arith) (omega arith) (raw_value (codes "3") refl (value_reference line_feed value_end)))) in
    let b = attribs_more (word (codes "b") refl refl refl) (raw_value (codes "1") refl tab-line) attribs_end in
    let c = tags (word (codes "c") refl refl refl) attribs_end (read_calm (raw_text (10 ∷ []) refl calm_end)) in
    ((white_space.bytes, (refl, refl)), row_more (empty_tag (word (codes "a") refl refl refl) b) (row_more c row_end))

repeated_reads : Reads repeated.bytes repeated.says
unfolding encode
repeated_reads =
    let q = word (codes "q") refl refl refl in
    let qs = attribs_more q value_end (attribs_more q (raw_value (codes ">") refl value_end) attribs_end) in
    let r = tags (word (codes "r") refl refl refl) attribs_end content_end in
    let s = spaced_empty_tag (word (codes "s") refl refl refl) attribs_end in
    let kids = calm_element r (raw_text (codes "]]") refl (calm_reference gt (calm_element s (raw_text (1 ∷ []) refl calm_end)))) in
    ((repeated.bytes, (refl, refl)), row_more (tags (word (codes "p") refl refl refl) qs (read_calm kids)) row_end)

pub example_reads : ExampleReads
unfolding encode
example_reads = (titled_reads, (white_space_reads, (repeated_reads, ((([], (refl, refl)), row_end), tt))))

-- the scanner ends elsewhere than between the elements of a row
abbrev unreadable : Bytes → Bool
unreadable bs = not (at_end (scan start (lines bs)))

abbrev Unreadable : Bytes → Type 0
Unreadable bs = (ts : List Tree) → Reads bs ts → ⊥

no_reading : (bs : Bytes) → unreadable bs ≡ true → Unreadable bs
no_reading bs e ts p = both_ways (at_end (scan start (lines bs))) (not-true (at_end (scan start (lines bs))) e) (ap at_end (scan_reads p))

-- the same for each of a list, in front of others
no_readings : (xs ys : List Bytes) → list_all unreadable xs ≡ true → AllByRecursion Unreadable ys → AllByRecursion Unreadable (xs ++ ys)
no_readings [] ys e more = more
no_readings (bs ∷ xs) ys e more =
    let h = and_parts (unreadable bs) (list_all unreadable xs) e in
    (no_reading bs h.0, no_readings xs ys h.1 more)

not_utf8 : (bs : Bytes) → length (encodes (chars bs)) < length bs → Unreadable bs
not_utf8 bs l ts p = omega (arith, ap length (encodes-chars bs p.0))

pub example_unreadable : ExampleUnreadable
unfolding chars encode
example_unreadable =
    let scanned = unreadable_text ++ (unreadable_tags ++ unreadable_rows) in
    no_readings scanned unreadable_bytes refl (not_utf8 (codes "<a>" ++ (128 ∷ codes "</a>")) (omega arith), tt)
