-- The lines that what happened comes to, happening by happening: a line closes when its last word comes, and is told when that is delivered.
-- Assumes nothing.
use mathlib.Core.Bool.{cond}
use mathlib.Core.List.{List, [], ◌∷◌, ◌++◌}
use mathlib.Core.Option.{Option, none, some}
use mathlib.Core.Path.{◌≡◌}
use Prim.Native.Nat.{ℕ, suc, ◌%◌}
use lib.Dec.{eqb, ltb}
use lib.ListN.{length}
use Rattle.tool_lines.specs.Gather.{Report, handed, dropped, most, too_long, overrun}
use Rattle.claims_lines.specs.Happened.{Damage, Happening, frame_lost, word_came, status_read, word_delivered, was_reset}
use Rattle.claims_lines.specs.Segment.{ends, or_else, damaged, numbered}

-- How many lines ended; the cause and the letters of the one under way; those of the last that closed.
pub record Account : Type 0 where
  pub number : ℕ
  pub cause : ℕ
  pub letters : List ℕ
  pub closed_cause : ℕ
  pub closed_letters : List ℕ

abbrev pub fresh : Account
fresh = record { number = 0; cause = 0; letters = []; closed_cause = 0; closed_letters = [] }

abbrev pub closing : Account → Damage → Account
closing a d =
    record { number = a.number; cause = 0; letters = []; closed_cause = or_else a.cause (damaged d); closed_letters = a.letters }

abbrev pub growing : Account → ℕ → Damage → Account
growing a c d =
    record {
      number = a.number;
      cause = or_else (or_else a.cause (damaged d)) (cond (ltb (length a.letters) most) 0 too_long);
      letters = a.letters ++ (c ∷ []);
      closed_cause = a.closed_cause;
      closed_letters = a.closed_letters;
    }

abbrev pub came : Account → ℕ → Damage → Account
came a w d = cond (ends w) (closing a d) (growing a (w % 128) d)

abbrev pub touched : Account → Account
touched a =
    record {
      number = a.number;
      cause = or_else a.cause overrun;
      letters = a.letters;
      closed_cause = a.closed_cause;
      closed_letters = a.closed_letters;
    }

abbrev pub counted : Account → Account
counted a =
    record {
      number = suc a.number;
      cause = a.cause;
      letters = a.letters;
      closed_cause = a.closed_cause;
      closed_letters = a.closed_letters;
    }

abbrev pub restarted : Account → Account
restarted a =
    record { number = a.number; cause = 0; letters = []; closed_cause = a.closed_cause; closed_letters = a.closed_letters }

abbrev pub report : Account → Report
report a =
    cond (eqb a.closed_cause 0) (handed (numbered a.number) a.closed_letters)
    (dropped (numbered a.number) a.closed_cause)

abbrev pub next : Account → Happening → Account
next a (frame_lost raises) = touched a
next a (word_came w d) = came a w d
next a status_read = a
next a (word_delivered w) = cond (ends w) (counted a) a
next a was_reset = restarted a

abbrev pub tells : Account → Happening → List Report
tells a (frame_lost raises) = []
tells a (word_came w d) = []
tells a status_read = []
tells a (word_delivered w) = cond (ends w) (report a ∷ []) []
tells a was_reset = []

unfoldable pub account : Account → List Happening → List Report
account a [] = []
account a (e ∷ h) = tells a e ++ account (next a e) h

unfoldable pub accounted : Account → List Happening → Account
accounted a [] = a
accounted a (e ∷ h) = accounted (next a e) h

-- Words come and are delivered in turn: the one that waits is the last that came.
abbrev pub InTurn : Option ℕ → List Happening → Type 0
InTurn waits [] = Unit {0}
InTurn waits (frame_lost raises ∷ h) = InTurn waits h
InTurn none (word_came w d ∷ h) = InTurn (some w) h
InTurn (some v) (word_came w d ∷ h) = ⊥
InTurn waits (status_read ∷ h) = InTurn waits h
InTurn none (word_delivered w ∷ h) = ⊥
InTurn (some v) (word_delivered w ∷ h) = (w ≡ v) × InTurn none h
InTurn waits (was_reset ∷ h) = InTurn none h
