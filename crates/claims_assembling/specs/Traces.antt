-- A text as `show --trace` prints it of a trace, and the trace that is assembled from a text.
use Rattle.std.specs.Prelude.{◌≡◌, Bool, true, false, cond, Option, Some, None, Result, Ok, Err, List, [], ◌∷◌, ◌++◌, ℕ, zero, suc, ◌+◌, ◌-◌, ◌<◌, eqb, length, drop}
use Rattle.qsm.specs.declared.event.Event.{Event}
use Rattle.trace.specs.Trace.{byte_at, parsed}
use Rattle.trace.specs.declared.Parsed.{Parsed}
use Rattle.trace.specs.declared.Parsed.TheVariants as traced
use Rattle.text.specs.Record.{record_line}
use Rattle.tool_assemble.specs.Encode.{record_bytes}
use Rattle.tool_assemble.specs.Item.{item}
use Rattle.tool_assemble.specs.Sent.{sent_bytes, edge, bit_clocks, bit_hold}
use Rattle.tool_assemble.specs.declared.sent.Sent.{Sent}
use Rattle.tool_assemble.specs.declared.item.Item.{Item}
use Rattle.tool_assemble.specs.declared.item.Item.TheVariants.{Record, Text}
use Rattle.tool_assemble.specs.declared.item.Wrong.{Wrong}
use Rattle.claims_assembling.specs.Laws.{Fits, LinesGiveBack, BytesGiveBack}

-- A whole trace whose RXD bytes are 00 or 01: record after record, each with fields that fit its bytes.
pub data Whole : List ℕ → Type 0 where
  none : Whole []
  more : (kind : ℕ) (e : Event) (t : List ℕ) → Fits kind e → Whole t → Whole (record_bytes kind e ++ t)

-- The lines of at most so many records, numbered from n on, up to what is no whole record.
abbrev pub shown_by : ℕ → List ℕ → Parsed → (List ℕ → List ℕ) → List ℕ
shown_by n t (traced.Record e size) rest = record_line n (byte_at t 0) e ++ rest (drop size t)
shown_by n t traced.Unknown rest = []
shown_by n t traced.Cut rest = []

unfoldable pub shown_from : ℕ → ℕ → List ℕ → List ℕ
shown_from zero n t = []
shown_from (suc most) n t = shown_by n t (parsed t) (shown_from most (n + 1))

abbrev pub shown : List ℕ → List ℕ
shown t = shown_from (length t) 0 t

-- The holds of the first i bits of a byte, whose start bit is bit k of the text; and those of bytes, one after the other.
unfoldable pub framed : Sent → ℕ → ℕ → ℕ → List ℕ
framed s b k zero = []
framed s b k (suc i) = framed s b k i ++ record_bytes (bit_hold s b i (k + i)).kind (bit_hold s b i (k + i)).event

unfoldable pub held : Sent → ℕ → List ℕ → List ℕ
held s k [] = []
held s k (b ∷ bs) = framed s b k 10 ++ held s (k + 10) bs

-- The clocks of the first k bits of a text. They end where bit k begins, so that no rounding adds up.
unfoldable pub clocks_of : Sent → ℕ → ℕ
clocks_of s zero = 0
clocks_of s (suc k) = clocks_of s k + bit_clocks s k

abbrev pub EdgesKept : Type 0
EdgesKept = (s : Sent) (k : ℕ) → 0 < s.baud → clocks_of s k ≡ edge s.baud s.clock k

-- What a text makes, or that it makes nothing.
pub record Assembled : Type 0 where
  pub good : Bool
  pub bytes : List ℕ

abbrev pub made : List ℕ → Assembled
made t = record { good = true; bytes = t }

abbrev pub refused : Assembled
refused = record { good = false; bytes = [] }

abbrev pub behind : List ℕ → Assembled → Assembled
behind x a = cond a.good (made (x ++ a.bytes)) refused

-- A line, and then what the lines behind it make.
abbrev pub after : List ℕ → Result (Option Item) Wrong → Assembled → Assembled
after line (Ok None) a = a
after line (Ok (Some (Record kind e))) a = behind (record_bytes kind e) a
after line (Ok (Some (Text s))) a = behind (held s 0 (sent_bytes (length line) (drop (length line - s.start) line))) a
after line (Err w) a = refused

-- A text behind the bytes of a line that has not ended. Each line ends with byte 10, and the last with the text.
unfoldable pub assembled_from : List ℕ → List ℕ → Assembled
assembled_from line [] = after line (item line) (made [])
assembled_from line (b ∷ t) =
    cond (eqb b 10) (after line (item line) (assembled_from [] t)) (assembled_from (line ++ (b ∷ [])) t)

abbrev pub assembled : List ℕ → Assembled
assembled t = assembled_from [] t

-- Assembling what `show --trace` prints gives the trace back.
abbrev pub TracesGiveBack : Type 0
TracesGiveBack = (t : List ℕ) → Whole t → assembled (shown t) ≡ made t

-- A trace that is whole: a reset, a hold, a long hold.
abbrev pub sample : List ℕ
sample = 0x01 ∷ 0x02 ∷ 0xFF ∷ 0x01 ∷ 0x00 ∷ 0x40 ∷ 0x05 ∷ 0x00 ∷ 0x00 ∷ 0x4A ∷ 0xFE ∷ 0x9B ∷ 0xC0 ∷ []

pub record GivenBack : Type 0 where
  pub lines : LinesGiveBack
  pub bytes : BytesGiveBack
  pub traces : TracesGiveBack
  pub edges : EdgesKept
  pub met : Whole sample
