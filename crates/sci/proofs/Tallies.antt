-- The marks of a history counted from left to right, a reset beginning anew; and where OR may rise.
use mathlib.Core.Path.{◌≡◌, refl, ap, subst, ◌∙◌}
use mathlib.Core.Bool.{Bool, true, false, not, true≢false, false≢true}
use mathlib.Core.List.{List, [], ◌∷◌, ◌++◌}
use Prim.Native.Nat.{ℕ, suc, ◌+◌}
use native.Mathlib.Omega.{arith}
use Rattle.sci.specs.claims.Overrun.{Mark, frame_lost, word_came, status_read, word_delivered, was_reset, has_reset, one_run, open_run}
use Rattle.sci.specs.claims.Balance.{taken_in, lost_in, delivered_in, rises_in, OneRise}

pub record Tally : Type 0 where
  pub taken : ℕ
  pub lost : ℕ
  pub delivered : ℕ

abbrev pub none : Tally
none = record { taken = 0; lost = 0; delivered = 0 }

abbrev pub tally : Tally → List Mark → Tally
tally n [] = n
tally n (frame_lost raises ∷ h) = tally (record { taken = suc n.taken; lost = suc n.lost; delivered = n.delivered }) h
tally n (word_came w ∷ h) = tally (record { taken = suc n.taken; lost = n.lost; delivered = n.delivered }) h
tally n (status_read ∷ h) = tally n h
tally n (word_delivered w ∷ h) = tally (record { taken = n.taken; lost = n.lost; delivered = suc n.delivered }) h
tally n (was_reset ∷ h) = tally none h

pub tally_append : (a b : List Mark) (n : Tally) → tally n (a ++ b) ≡ tally (tally n a) b
tally_append [] b n = refl
tally_append (frame_lost raises ∷ a) b n = tally_append a b _
tally_append (word_came w ∷ a) b n = tally_append a b _
tally_append (status_read ∷ a) b n = tally_append a b n
tally_append (word_delivered w ∷ a) b n = tally_append a b _
tally_append (was_reset ∷ a) b n = tally_append a b none

-- Without a reset it is the sum.
pub record Adds (n : Tally) (h : List Mark) : Type 0 where
  pub taken : (tally n h).taken ≡ n.taken + taken_in h
  pub lost : (tally n h).lost ≡ n.lost + lost_in h
  pub delivered : (tally n h).delivered ≡ n.delivered + delivered_in h

pub adds : (h : List Mark) (n : Tally) → has_reset h ≡ false → Adds n h
adds [] n e = record { taken = omega arith; lost = omega arith; delivered = omega arith }
adds (frame_lost raises ∷ h) n e =
    let k : Adds _ h = adds h (record { taken = suc n.taken; lost = suc n.lost; delivered = n.delivered }) e in
    record { taken = omega (arith, k.taken); lost = omega (arith, k.lost); delivered = k.delivered }
adds (word_came w ∷ h) n e =
    let k : Adds _ h = adds h (record { taken = suc n.taken; lost = n.lost; delivered = n.delivered }) e in
    record { taken = omega (arith, k.taken); lost = k.lost; delivered = k.delivered }
adds (status_read ∷ h) n e =
    let k : Adds n h = adds h n e in
    record { taken = k.taken; lost = k.lost; delivered = k.delivered }
adds (word_delivered w ∷ h) n e =
    let k : Adds _ h = adds h (record { taken = n.taken; lost = n.lost; delivered = suc n.delivered }) e in
    record { taken = k.taken; lost = k.lost; delivered = omega (arith, k.delivered) }
adds (was_reset ∷ h) n e = absurd (true≢false e)

pub open_append : (a b : List Mark) (opn : Bool) → open_run opn (a ++ b) ≡ open_run (open_run opn a) b
open_append [] b opn = refl
open_append (frame_lost raises ∷ a) b opn = open_append a b true
open_append (word_came w ∷ a) b opn = open_append a b false
open_append (status_read ∷ a) b opn = open_append a b opn
open_append (word_delivered w ∷ a) b opn = open_append a b opn
open_append (was_reset ∷ a) b opn = open_append a b false

-- OR rises with a lost frame exactly if no run of losses is open.
abbrev pub Rising : Bool → List Mark → Type 0
Rising opn [] = Unit {0}
Rising opn (frame_lost raises ∷ h) = (raises ≡ not opn) × Rising true h
Rising opn (word_came w ∷ h) = Rising false h
Rising opn (status_read ∷ h) = Rising opn h
Rising opn (word_delivered w ∷ h) = Rising opn h
Rising opn (was_reset ∷ h) = Rising false h

pub rising_append : (a b : List Mark) (opn : Bool) → Rising opn a → Rising (open_run opn a) b → Rising opn (a ++ b)
rising_append [] b opn f g = g
rising_append (frame_lost raises ∷ a) b opn f g = (f.0, rising_append a b true f.1 g)
rising_append (word_came w ∷ a) b opn f g = rising_append a b false f g
rising_append (status_read ∷ a) b opn f g = rising_append a b opn f g
rising_append (word_delivered w ∷ a) b opn f g = rising_append a b opn f g
rising_append (was_reset ∷ a) b opn f g = rising_append a b false f g

rising_after : (a b : List Mark) (opn : Bool) → Rising opn (a ++ b) → Rising (open_run opn a) b
rising_after [] b opn f = f
rising_after (frame_lost raises ∷ a) b opn f = rising_after a b true f.1
rising_after (word_came w ∷ a) b opn f = rising_after a b false f
rising_after (status_read ∷ a) b opn f = rising_after a b opn f
rising_after (word_delivered w ∷ a) b opn f = rising_after a b opn f
rising_after (was_reset ∷ a) b opn f = rising_after a b false f

-- Inside a run OR doesn't rise again.
no_rise : (run b : List Mark) → one_run run ≡ true → Rising true (run ++ b) → rises_in run ≡ 0
no_rise [] b o f = refl
no_rise (frame_lost raises ∷ run) b o f = rw f.0 (omega (arith, no_rise run b o f.1))
no_rise (word_came w ∷ run) b o f = absurd (false≢true o)
no_rise (status_read ∷ run) b o f = no_rise run b o f
no_rise (word_delivered w ∷ run) b o f = no_rise run b o f
no_rise (was_reset ∷ run) b o f = absurd (false≢true o)

pub one_rise_holds : (h : List Mark) → Rising false h → OneRise h
one_rise_holds h f before run after raises e first one =
    let g : Rising (open_run false before) (frame_lost raises ∷ (run ++ after)) =
    rising_after before (frame_lost raises ∷ (run ++ after)) false (subst (Rising false) e f) in
    (g.0 ∙ ap not first, no_rise run after one g.1)
