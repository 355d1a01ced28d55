-- The deadline is the last clock: a word delivered one clock later can cost a frame.
use Rattle.std.specs.Prelude.{Bool, true, false, not, List, [], ◌∷◌, ◌++◌, ◌≡◌, ℕ, suc, ◌-◌, ◌*◌, length, take, replicate}
use Rattle.sci.specs.model.Control.{SCBR, RE}
use Rattle.sci.specs.claims.Levels.{frame_levels, low_bits}
use Rattle.sci.specs.claims.Overrun.{Mark, frame_lost, word_came, status_read, word_delivered}
use Rattle.qsm.specs.declared.event.Event.{Event}
use Rattle.qsm.specs.declared.event.Event.TheVariants.{Hold}
use Rattle.claims_histories.specs.History.{log}
use Rattle.claims_histories.specs.Witness.{fetch}
use Rattle.claims_polling.specs.Spacing.{apart, shortest}
use Rattle.claims_polling.specs.Rule.{waiting, MovingIn, levels, started}
use Rattle.claims_deadlines.specs.Deadline.{InTime, SpacedBy, StaysOn}

-- With SCBR 1, so two clocks a sample: the samples up to a frame's end, and those from there to the end of the next, of which the last one is
-- a one and lacks its last clock.
abbrev pub almost_two : List Bool → List Bool → List Event
almost_two xs ys = levels xs ++ (levels (take (length ys - 1) ys) ++ (Hold 0 true 1 ∷ []))

-- The first word is read just before the other's end, or just after it.
abbrev pub read_before : List Bool → List Bool → List Event
read_before xs ys = almost_two xs ys ++ (fetch ++ (Hold 0 true 1 ∷ fetch))

abbrev pub read_after : List Bool → List Bool → List Event
read_after xs ys = almost_two xs ys ++ (Hold 0 true 1 ∷ fetch)

-- What `Deadline` asks, and where no point moves `Served`.
pub record Meets (moves m : Bool) (d limit : ℕ) (es : List Event) : Type 0 where
  pub on : RE (started m).sci.sccr1 ≡ true
  pub clear : waiting (started m) ≡ false
  pub stays : StaysOn es (started m)
  pub moving : MovingIn moves es (started m)
  pub spaced : SpacedBy d es (started m)
  pub in_time : InTime limit es (started m) 0

-- A word w comes and is delivered; and of w and another the other is lost.
abbrev pub comes_delivered : ℕ → List Mark → List Mark
comes_delivered w rest = word_came w ∷ (status_read ∷ (word_delivered w ∷ rest))

abbrev pub second_lost : ℕ → List Mark
second_lost w = word_came w ∷ (frame_lost true ∷ (status_read ∷ (word_delivered w ∷ [])))

-- Both meet it, but that the second is late by one clock.
pub record Reached (moves m : Bool) (d w v : ℕ) (xs ys : List Bool) : Type 0 where
  pub rate : 2 * SCBR (started m).sci.sccr0 ≡ 2
  pub prompt : Meets moves m d (d * 2) (read_before xs ys)
  pub delivers : log (read_before xs ys) (started m) ≡ comes_delivered w (comes_delivered v [])
  pub late : Meets moves m d (suc (d * 2)) (read_after xs ys)
  pub loses : log (read_after xs ys) (started m) ≡ second_lost w

-- A frame as short as can be twice, and FF twice at 16 samples a bit.
abbrev pub AnyReached : Bool → ℕ → ℕ → Type 0
AnyReached m n w = Reached true m (apart true n) w w (shortest n) (shortest n)

abbrev pub StillReached : Bool → ℕ → ℕ → Type 0
StillReached m n w =
    Reached false m (apart false n) w w (take (apart false n) (frame_levels (low_bits n w))) (take (apart false n) (frame_levels (low_bits n w)))

-- Levels by how many samples each lasts, x first.
abbrev pub changing : Bool → List ℕ → List Bool
changing x [] = []
changing x (n ∷ ns) = replicate n x ++ changing (not x) ns

-- 05 with changes at samples 16, 38, 54, 71 and 151, and 161 samples after its start 01 with changes at 16, 26 and 138; with M=1 at 167, 177
-- and 154: each change is within 6 samples before and 7 after its place, counted from the start and from each fall.
abbrev pub FairReached : Type 0
FairReached =
    Reached true false 148 5 1 (changing false (16 ∷ (22 ∷ (16 ∷ (17 ∷ (80 ∷ (10 ∷ []))))))) (changing false (16 ∷ (10 ∷ (112 ∷ (10 ∷ [])))))
    × Reached true true 164 5 1 (changing false (16 ∷ (22 ∷ (16 ∷ (17 ∷ (96 ∷ (10 ∷ []))))))) (changing false (16 ∷ (10 ∷ (128 ∷ (10 ∷ [])))))
