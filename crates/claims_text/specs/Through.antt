-- A text all the way: the trace that sets a receiver up and that `assemble` makes of the text, replayed by `lines`, gives exactly the text's lines.
use Rattle.std.specs.Prelude.{true, List, [], ◌∷◌, ◌++◌, ◌≡◌, ℕ, ◌+◌, ◌*◌, ◌^◌, ◌≤◌, ◌<◌, length}
use Rattle.qsm.specs.model.Event.{clock_limit}
use Rattle.qsm.specs.declared.event.Access.TheVariants.{Write}
use Rattle.qsm.specs.declared.event.Event.{Event}
use Rattle.qsm.specs.declared.event.Event.TheVariants.{Hold}
use Rattle.qsm.specs.declared.event.Event.TheVariants as event
use Rattle.trace.specs.Trace.{write_kind}
use Rattle.tool_lines.specs.Gather.{handed}
use Rattle.tool_lines.specs.Replay.{lines}
use Rattle.tool_assemble.specs.Encode.{record_bytes}
use Rattle.tool_assemble.specs.Sent.{hold_kind_of}
use Rattle.tool_assemble.specs.declared.sent.Sent.{Sent}
use Rattle.claims_assembling.specs.Traces.{held, clocks_of}
use Rattle.claims_text.specs.Text.{Bytes}
use Rattle.claims_text.specs.Lines.{text_lines}

-- SCCR0 and SCCR1 are written as supervisor words: SCBR, then RE alone, which is 8 data bits and no parity.
abbrev pub rate : ℕ → Event
rate scbr = event.Access (Write true 2 0x08 scbr)

abbrev pub enable : Event
enable = event.Access (Write true 2 0x0A 0x0004)

-- RXD at one for so many clocks.
abbrev pub ones : ℕ → ℕ → List ℕ
ones pins clocks = record_bytes (hold_kind_of clocks) (Hold pins true clocks)

-- The trace: these, ones, the text, and ones.
abbrev pub sent_trace : Sent → ℕ → ℕ → List ℕ → ℕ → List ℕ
sent_trace s scbr before text behind =
    record_bytes write_kind (rate scbr)
    ++ (record_bytes write_kind enable ++ (ones s.pins before ++ (held s 0 text ++ ones s.pins behind)))

-- A sample is 2 x SCBR clocks. Ten bits last 154 samples and a clock at least, nine 151 less a clock at most: bits 3.75 % shorter to 4.86 % longer
-- than the receiver's. Three samples of ones go before the text; a poll comes every 148 samples or sooner, and once more behind the text. All clocks are within
-- the limit, and each hold fits its record.
pub record Within (s : Sent) (scbr before : ℕ) (text : List ℕ) (behind period : ℕ) : Type 0 where
  pub bytes : Bytes text
  pub pins : s.pins < 256
  pub some : 0 < s.baud
  pub runs : 0 < scbr
  pub whole : scbr < 2 ^ 13
  pub slow : 154 * (2 * scbr) * s.baud + s.baud ≤ 10 * s.clock
  pub fast : 9 * s.clock + s.baud ≤ 151 * (2 * scbr) * s.baud
  pub three : 3 * (2 * scbr) ≤ before
  pub polled : 0 < period
  pub close : period ≤ 148 * (2 * scbr)
  pub once : period ≤ behind
  pub fits : (before < 2 ^ 32) × (behind < 2 ^ 32)
  pub room : before + clocks_of s (10 * length text) + behind ≤ clock_limit

-- Its lines, each once, in order: cut at 0A, the low 7 bits of up to 128 characters, a longer one dropped for its length; what is unfinished gives
-- nothing.
abbrev pub AllLines : Type 0
AllLines =
    (s : Sent) (scbr before : ℕ) (text : List ℕ) (behind period : ℕ) → Within s scbr before text behind period →
    lines period (sent_trace s scbr before text behind) ≡ text_lines text

-- X112.5 at 9,600 baud with the usual clock and SCBR 55: 1,747.6 clocks a bit for 1,760.
abbrev pub cable : Sent
cable = record { start = 0; baud = 9600; clock = 16777216; pins = 0 }

abbrev pub order : List ℕ
order = 0x58 ∷ 0x31 ∷ 0x31 ∷ 0x32 ∷ 0x2E ∷ 0x35 ∷ []

pub record Met : Type 0 where
  pub within : Within cable 55 330 (order ++ (0x0A ∷ [])) 16280 16280
  -- So, without playing its 138,944 clocks:
  pub handed : lines 16280 (sent_trace cable 55 330 (order ++ (0x0A ∷ [])) 16280) ≡ handed 0 order ∷ []

pub record TextThrough : Type 0 where
  pub through : AllLines
  pub met : Met
