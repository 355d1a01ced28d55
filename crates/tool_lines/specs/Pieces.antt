-- Document 02, L8, of a trace that comes in pieces: what pieces give is what the whole gives.
use Rattle.std.specs.Prelude.{◌≡◌, Bool, true, false, cond, ℕ, zero, suc, ◌+◌, ◌^◌, ◌<◌, eqb, drop}
use mathlib.Core.List.{List, [], ◌∷◌, ◌++◌, flatten}
use Rattle.tool_lines.specs.Call.{started, turned, moved_to, nothing, go_on}
use Rattle.tool_lines.specs.Laws.{Bytes}
use Rattle.tool_lines.specs.declared.line.Outcome.{Outcome}
use Rattle.tool_lines.specs.declared.line.Outcome.TheVariants.{Nothing, Handed, Dropped, Stopped, Ended, Refused}
use Rattle.tool_lines.specs.Stop.{number_of}
use Rattle.tool_lines.specs.declared.stop.Stop.TheVariants.{CutRecord}
use Rattle.tool_lines.specs.declared.Lines.{Lines}
use Rattle.tool_lines.specs.declared.Turned.{Turned}

-- More bytes could change what a call told: at the end of the trace, or before a record that its end cuts.
abbrev pub wants : Outcome → Bool
wants Nothing = false
wants (Handed number n) = false
wants (Dropped number cause) = false
wants (Stopped why) = eqb (number_of why) 6
wants Ended = true
wants (Refused why) = false

-- Of a piece that is not the last there is nothing to tell then.
abbrev pub waiting : Bool → Turned → Turned
waiting true r = r
waiting false r = turned r.state (cond (wants r.outcome) Nothing r.outcome)

-- The bytes from the state's place on come first in the next piece, so that the place counts from them.
abbrev pub rebased : Lines → Lines
rebased s = moved_to s 0

-- Where a replay by pieces stands: its state, how many bytes of the trace came before those at hand, these, and the pieces to come.
pub record Stand : Type 0 where
  pub state : Lines
  pub before : ℕ
  pub bytes : List ℕ
  pub coming : List (List ℕ)

pub record Told : Type 0 where
  pub outcome : Outcome
  pub stand : Stand

abbrev pub stands : Turned → ℕ → List ℕ → List (List ℕ) → Told
stands r before t ps = record { outcome = r.outcome; stand = record { state = r.state; before = before; bytes = t; coming = ps } }

abbrev pub next_piece : (ℕ → List ℕ → Lines → Told) → List ℕ → List (List ℕ) → ℕ → List ℕ → Turned → Told
next_piece on p ps before t r =
    cond (nothing r.outcome) (on (before + r.state.at) (drop r.state.at t ++ p) (rebased r.state))
    (stands r before t (p ∷ ps))

-- A call: while there is nothing to tell and a piece is to come, it goes on with what was left and that piece.
unfoldable pub call_on : List (List ℕ) → ℕ → ℕ → List ℕ → Lines → Told
call_on [] period before t s = stands (waiting true (go_on period t s)) before t []
call_on (p ∷ ps) period before t s = next_piece (call_on ps period) p ps before t (waiting false (go_on period t s))

-- The place counted from so many bytes before.
abbrev pub ahead : ℕ → Lines → Lines
ahead n s = moved_to s (n + s.at)

-- So many calls, one after the other: by pieces, the place counted from the trace's first byte, and on a whole trace.
unfoldable pub piece_calls : ℕ → ℕ → Stand → List Turned
piece_calls zero period w = []
piece_calls (suc k) period w =
    let x : Told = call_on w.coming period w.before w.bytes w.state in
    turned (ahead x.stand.before x.stand.state) x.outcome ∷ piece_calls k period x.stand

unfoldable pub calls : ℕ → ℕ → List ℕ → Lines → List Turned
calls zero period t s = []
calls (suc k) period t s = go_on period t s ∷ calls k period t (go_on period t s).state

-- However a trace is cut into pieces, calls over and over tell what they tell of the whole, and each leaves the same state.
abbrev pub InPieces : Type 0
InPieces =
    (ps : List (List ℕ)) (period : ℕ) (s : Lines) (k : ℕ) → 0 < period → Bytes (flatten ps) → s.left < 2 ^ 32 → s.at ≡ 0 →
    piece_calls k period (record { state = s; before = 0; bytes = []; coming = ps }) ≡ calls k period (flatten ps) s

-- A hold that a piece cuts after two of its five bytes is not refused there, and is at the end of the trace.
pub record Cuts : Type 0 where
  pub waits : (waiting false (go_on 1000 (2 ∷ 0 ∷ []) started)).outcome ≡ Nothing
  pub stops : (waiting true (go_on 1000 (2 ∷ 0 ∷ []) started)).outcome ≡ Stopped CutRecord
