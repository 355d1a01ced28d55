-- The noise of lines: what a poll adds to it, and what a line's words give. Assumes nothing.
use mathlib.Core.Path.{◌≡◌, refl, ap, ◌∙◌}
use mathlib.Core.Bool.{Bool, true, false, cond}
use mathlib.Core.List.{List, [], ◌∷◌, ◌++◌}
use Prim.Native.Nat.{ℕ, ◌+◌, ◌-◌, ◌%◌, ◌^◌, min, max}
use native.Mathlib.Omega.{arith}
use lib.Dec.{eqb}
use borrow.Author.Tests.{ne_eqb}
use Rattle.steps.specs.Bits.{bit}
use Rattle.qsm.specs.claims.StatusFlags.{RDRF, place}
use Rattle.tool_lines.specs.Gather.{newline, caused, damage, typed, ended, goes_on, put, shown}
use Rattle.tool_lines.specs.Noise.{Heard, was_reset, delivered, silent, with_figure, of_poll, noises, added, heard}
use Rattle.tool_lines.specs.Laws.{Within, figures, total, worst, LineByLine, NoisyLine}
use Rattle.tool_lines.specs.declared.line.Line.{Line}
use Rattle.tool_lines.specs.declared.line.Outcome.{Outcome}
use Rattle.tool_lines.specs.declared.line.Outcome.TheVariants.{Nothing, Handed, Dropped, Stopped, Ended, Refused}
use Rattle.tool_lines.specs.declared.noise.Noise.{Noise}
use Rattle.tool_lines.specs.declared.noise.Noises.{Noises}

-- The noise of a line that ended stands before that of the lines after it.
abbrev pub beside : Outcome → Noise → List Noise → List Noise
beside Nothing n rest = rest
beside (Handed number k) n rest = n ∷ rest
beside (Dropped number cause) n rest = n ∷ rest
beside (Stopped why) n rest = rest
beside Ended n rest = rest
beside (Refused why) n rest = rest

told : (good : Bool) (number k cause : ℕ) (n : Noise) (rest : List Noise) → n ∷ rest ≡ beside (cond good (Handed number k) (Dropped number cause)) n rest
told true number k cause n rest = refl
told false number k cause n rest = refl

module _ (l : Line) (n : Noises) (read word figure : ℕ) (hs : List Heard) where
  by_newline : (ends : Bool) →
      cond ends (with_figure n.line figure ∷ noises silent hs) (noises (with_figure n.line figure) hs)
      ≡ beside (cond ends (ended (caused l (damage read))) (goes_on (typed (caused l (damage read)) (word % 128)))).outcome (added n ends figure).last
      (noises (added n ends figure).line hs)
  by_newline true = told (eqb (caused l (damage read)).cause 0) _ _ _ (with_figure n.line figure) (noises silent hs)
  by_newline false = refl

  by_word : (comes : Bool) →
      noises n.line (cond comes (delivered (word % 128) figure ∷ []) [] ++ hs)
      ≡ beside (cond comes (put l read (word % 128)) (goes_on l)).outcome (cond comes (added n (eqb (word % 128) newline) figure) n).last
      (noises (cond comes (added n (eqb (word % 128) newline) figure) n).line hs)
  unfolding noises
  by_word true = by_newline (eqb (word % 128) newline)
  by_word false = refl

  -- A poll that ends a line adds its noise to those of the lines that ended.
  pub heard_told : noises n.line (of_poll read word figure ++ hs)
      ≡ beside (shown l read word).outcome (heard n read word figure).last (noises (heard n read word figure).line hs)
  unfolding shown
  heard_told = by_word (bit (place RDRF) read)

-- ---- line by line

abbrev most : ℕ
most = 2 ^ 64 - 1

abbrev before : ℕ → ℕ → List Noise → List Noise
before t w rest = record { total = t; worst = w } ∷ rest

same : (t t' w w' : ℕ) (rest : List Noise) → t ≡ t' → w ≡ w' → before t w rest ≡ before t' w' rest
same t t' w w' rest e f = ap (λ (x : ℕ). before x w rest) e ∙ ap (λ (x : ℕ). before t' x rest) f

from : (n : Noise) (ws : List Heard) (figure : ℕ) (hs : List Heard) → Within ws →
    noises n (ws ++ delivered newline figure ∷ hs)
    ≡ before (min (n.total + (total (figures ws) + figure)) most) (max n.worst (max (worst (figures ws)) figure)) (noises silent hs)
unfolding noises
from n [] figure hs h = same _ _ _ _ (noises silent hs) (omega arith) (omega arith)
from n (was_reset ∷ ws) figure hs h = absurd h
from n (delivered c f ∷ ws) figure hs h =
    rw (ne_eqb c newline h.0)
    (from (with_figure n f) ws figure hs h.1 ∙ same _ _ _ _ (noises silent hs) (omega arith) (omega arith))

pub line_by_line : LineByLine
line_by_line ws figure hs h = from silent ws figure hs h ∙ same _ _ _ _ (noises silent hs) (omega arith) (omega arith)

pub noisy_line : NoisyLine
unfolding noises
noisy_line = refl
