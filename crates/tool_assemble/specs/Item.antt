-- What a line of text says: a record, in the form that `text` prints, with its number in front or without; a text sent on RXD; nothing.
use Rattle.std.specs.Prelude.{Bool, true, false, cond, Option, Some, None, is_some, Result, Ok, Err, List, [], ◌∷◌, ◌++◌, ℕ, suc, ◌-◌, ◌%◌, eqb, ltb, length, drop}
use Rattle.qsm.specs.declared.event.Access.TheVariants.{Read, Write}
use Rattle.qsm.specs.declared.event.Event.{Event}
use Rattle.qsm.specs.declared.event.Event.TheVariants.{Reset, Hold}
use Rattle.qsm.specs.declared.event.Event.TheVariants as events
use Rattle.trace.specs.Trace.{reset_kind, hold_kind, read_kind, write_kind, long_hold_kind}
use Rattle.text.specs.Digits.{ascii}
use Rattle.tool_assemble.specs.Scan.{blanks, digit_of, ending, scan}
use Rattle.tool_assemble.specs.Names.{name_length, is_name, sought}
use Rattle.tool_assemble.specs.Sent.{quoted}
use Rattle.tool_assemble.specs.declared.names.Offset.{Offset}
use Rattle.tool_assemble.specs.declared.names.Offset.TheVariants.{Nowhere, At, Several}
use Rattle.tool_assemble.specs.declared.scan.Numbers.{Numbers}
use Rattle.tool_assemble.specs.declared.scan.Found.{Found}
use Rattle.tool_assemble.specs.declared.item.Fault.{Fault}
use Rattle.tool_assemble.specs.declared.item.Wrong.{Wrong}
use Rattle.tool_assemble.specs.declared.item.Fault.TheVariants.{OtherName, NoName, ManyNames, NoRate}
use Rattle.tool_assemble.specs.declared.item.Item.{Item}
use Rattle.tool_assemble.specs.declared.item.Item.TheVariants.{Record, Text}

-- What is wrong, with the bytes left from there on.
abbrev pub bad : Fault → ℕ → Result Item Wrong
bad f left = Err (record { fault = f; left = left })

-- What was understood further, or what is not wrong.
abbrev pub further : Wrong → Result Item Wrong → Result Item Wrong
further w (Ok y) = Ok y
further w (Err v) = cond (ltb v.left w.left) (Err v) (Err w)

-- The first of two that is not wrong; else what was understood further.
abbrev pub better : Result Item Wrong → Result Item Wrong → Result Item Wrong
better (Ok x) y = Ok x
better (Err w) y = further w y

-- What a text says that a pattern was held against, by what was found.
abbrev pub on_found : Result Found Wrong → (Found → Result Item Wrong) → Result Item Wrong
on_found (Ok f) says = says f
on_found (Err w) says = Err w

unfoldable pub reset_item : List ℕ → Result Item Wrong
reset_item t = on_found (scan (ascii "reset" ++ (31 ∷ [])) t) (λ _. Ok (Record reset_kind Reset))

abbrev pub hold_of : Numbers → Event
hold_of n = Hold (n.first % 256) (eqb n.second 1) (n.third % 4294967296)

unfoldable pub hold_item : ℕ → List ℕ → List ℕ → Result Item Wrong
hold_item kind pattern t = on_found (scan pattern t) (λ f. Ok (Record kind (hold_of f.numbers)))

abbrev pub access_of : Bool → Bool → ℕ → ℕ → ℕ → Item
access_of true supervisor width offset value = Record write_kind (events.Access (Write supervisor width offset (value % 4294967296)))
access_of false supervisor width offset value = Record read_kind (events.Access (Read supervisor width offset))

-- The offset, among the numbers behind the names: the last but the value.
abbrev pub offset_of : Bool → Numbers → ℕ
offset_of writes n = cond writes n.second n.third % 65536

-- With an offset: the names are those of its registers.
unfoldable pub access_at : Bool → Bool → ℕ → List ℕ → ℕ → Numbers → Result Item Wrong
access_at writes supervisor width t k n =
    cond (is_name width (offset_of writes n) t k) (Ok (access_of writes supervisor width (offset_of writes n) n.third)) (bad OtherName (length t))

-- Without one: the offset is the only one of the map with these names.
abbrev pub map_end : ℕ
map_end = 336

abbrev pub at : Bool → Bool → ℕ → ℕ → ℕ → Offset → Result Item Wrong
at writes supervisor width value left Nowhere = bad NoName left
at writes supervisor width value left (At offset) = Ok (access_of writes supervisor width offset value)
at writes supervisor width value left Several = bad ManyNames left

unfoldable pub access_named : Bool → Bool → ℕ → List ℕ → ℕ → Numbers → Result Item Wrong
access_named writes supervisor width t k n = at writes supervisor width n.third (length t) (sought width t k map_end)

-- What stands behind the names.
abbrev pub behind_at : Bool → List ℕ
behind_at true = ascii " at " ++ 2 ∷ ascii ", value " ++ 3 ∷ 31 ∷ []
behind_at false = ascii " at " ++ 2 ∷ 31 ∷ []

abbrev pub behind_name : Bool → List ℕ
behind_name true = ascii ", value " ++ 3 ∷ 31 ∷ []
behind_name false = 31 ∷ []

-- From the names on, k bytes of them, by what stands behind: an offset, or none.
abbrev pub by_what_follows : Bool → Bool → ℕ → List ℕ → ℕ → Result Found Wrong → Result Found Wrong → Result Item Wrong
by_what_follows writes supervisor width t k (Ok f) y = access_at writes supervisor width t k f.numbers
by_what_follows writes supervisor width t k (Err w) (Ok g) = access_named writes supervisor width t k g.numbers
by_what_follows writes supervisor width t k (Err w) (Err v) = better (Err w) (Err v)

unfoldable pub named : Bool → Bool → ℕ → List ℕ → Result Item Wrong
named writes supervisor width t =
    by_what_follows writes supervisor width t (name_length t)
    (scan (behind_at writes) (drop (name_length t) t))
    (scan (behind_name writes) (drop (name_length t) t))

-- The rest of a text that a pattern left.
abbrev pub behind : List ℕ → Found → List ℕ
behind t f = drop (length t - f.left) t

unfoldable pub access_item : Bool → Bool → List ℕ → List ℕ → Result Item Wrong
access_item writes supervisor pattern t =
    on_found (scan pattern t) (λ f. named writes supervisor (f.numbers.third % 128) (behind t f))

-- A text sent on RXD, at a rate that is not above the clock.
abbrev pub sent_of : ℕ → ℕ → ℕ → ℕ → Result Item Wrong
sent_of start baud clock pins =
    cond (eqb baud 0) (bad NoRate start)
    (cond (ltb clock baud) (bad NoRate start)
    (Ok (Text (record { start = start; baud = baud % 4294967296; clock = clock % 4294967296; pins = pins % 256 }))))

-- Behind it: the rate, and the clock in hertz and the levels of the pins where they are said; 16,777,216 and 00 otherwise.
abbrev pub rate_pattern : List ℕ
rate_pattern = ascii "\" at " ++ 7 ∷ 31 ∷ []

abbrev pub clock_pattern : List ℕ
clock_pattern = ascii "\" at " ++ 7 ∷ ascii ", clock " ++ 7 ∷ 31 ∷ []

abbrev pub pins_pattern : List ℕ
pins_pattern = ascii "\" at " ++ 7 ∷ ascii ", pins " ++ 1 ∷ 31 ∷ []

abbrev pub full_pattern : List ℕ
full_pattern = ascii "\" at " ++ 7 ∷ ascii ", clock " ++ 7 ∷ ascii ", pins " ++ 1 ∷ 31 ∷ []

-- By what stands there: with the pins, and with the clock too; then the rate alone, the clock, or either of those.
abbrev pub by_pins : ℕ → Result Found Wrong → Result Found Wrong → Result Item Wrong
by_pins start (Ok h) i = sent_of start h.numbers.second 16777216 h.numbers.third
by_pins start (Err w) (Ok i) = sent_of start i.numbers.first i.numbers.second i.numbers.third
by_pins start (Err w) (Err v) = better (Err w) (Err v)

abbrev pub by_rate : ℕ → Result Found Wrong → Result Found Wrong → Result Found Wrong → Result Found Wrong → Result Item Wrong
by_rate start (Ok f) g h i = sent_of start f.numbers.third 16777216 0
by_rate start (Err w) (Ok g) h i = sent_of start g.numbers.second g.numbers.third 0
by_rate start (Err w) (Err v) h i = by_pins start h i

unfoldable pub behind_text : ℕ → List ℕ → Result Item Wrong
behind_text start t = by_rate start (scan rate_pattern t) (scan clock_pattern t) (scan pins_pattern t) (scan full_pattern t)

unfoldable pub inner : ℕ → List ℕ → Result Item Wrong
inner start t = behind_text start (drop (quoted (length t) 0 t) t)

abbrev pub line_pattern : List ℕ
line_pattern = ascii "line \""

unfoldable pub line_item : List ℕ → Result Item Wrong
line_item t = on_found (scan line_pattern t) (λ f. inner f.left (behind t f))

-- The bytes of the number in front of a record and of the colon behind it, 0 if there are none; behind so many digits.
abbrev pub colon : ℕ → ℕ → ℕ
colon b n = cond (eqb b 58) (cond (ltb 0 n) (suc n) 0) 0

unfoldable pub fronted_from : ℕ → List ℕ → ℕ
fronted_from n [] = 0
fronted_from n (b ∷ t) = cond (ltb 9 (digit_of b)) (colon b n) (fronted_from (suc n) t)

abbrev pub fronted : List ℕ → ℕ
fronted t = fronted_from 0 t

-- The records, as `text` prints them.
abbrev pub hold_pattern : List ℕ
hold_pattern = ascii "hold pins " ++ 1 ∷ ascii ", RXD " ++ 4 ∷ ascii ", clocks " ++ 6 ∷ 31 ∷ []

abbrev pub long_hold_pattern : List ℕ
long_hold_pattern = ascii "long hold pins " ++ 1 ∷ ascii ", RXD " ++ 4 ∷ ascii ", clocks " ++ 7 ∷ 31 ∷ []

abbrev pub access_pattern : Bool → Bool → List ℕ
access_pattern false true = ascii "read as supervisor, width " ++ 5 ∷ ascii ", "
access_pattern false false = ascii "read as user, width " ++ 5 ∷ ascii ", "
access_pattern true true = ascii "write as supervisor, width " ++ 5 ∷ ascii ", "
access_pattern true false = ascii "write as user, width " ++ 5 ∷ ascii ", "

unfoldable pub holds : List ℕ → Result Item Wrong
holds t = better (hold_item hold_kind hold_pattern t) (hold_item long_hold_kind long_hold_pattern t)

unfoldable pub reads : List ℕ → Result Item Wrong
reads t = better (access_item false true (access_pattern false true) t) (access_item false false (access_pattern false false) t)

unfoldable pub writes : List ℕ → Result Item Wrong
writes t = better (access_item true true (access_pattern true true) t) (access_item true false (access_pattern true false) t)

unfoldable pub entries : List ℕ → Result Item Wrong
entries t = better (better (holds t) (better (reads t) (writes t))) (better (reset_item t) (line_item t))

-- Behind the number in front.
unfoldable pub body_item : List ℕ → Result Item Wrong
body_item t = entries (drop (blanks t) t)

-- What a line says, behind its blanks and without the byte that ends it.
abbrev pub said : Result Item Wrong → Result (Option Item) Wrong
said (Ok x) = Ok (Some x)
said (Err w) = Err w

unfoldable pub unblanked : List ℕ → Result (Option Item) Wrong
unblanked t = cond (is_some (ending t)) (Ok None) (said (body_item (drop (fronted t) t)))

unfoldable pub item : List ℕ → Result (Option Item) Wrong
item t = unblanked (drop (blanks t) t)
