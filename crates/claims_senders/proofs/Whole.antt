-- Frames one after another. Assumes nothing.
use mathlib.Core.Path.{◌≡◌, refl, sym, subst}
use mathlib.Core.Bool.{true}
use mathlib.Core.List.{List, [], ◌∷◌, ◌++◌}
use Prim.Native.Nat.{ℕ, ◌+◌, ◌≤◌}
use native.Mathlib.Omega.{arith}
use lib.ListN.{length}
use Rattle.sci.specs.model.Framer.{searching}
use Rattle.claims_senders.specs.Fair.{SentFrame, FairFrames, levels_of, word_of, line}
use Rattle.claims_senders.specs.Heard.{Ended, ended_in, frames, samples, as_sent, earliest, EndInTime, Apart, FramesHeard}
use Rattle.claims_senders.proofs.Level.{Comes}
use Rattle.claims_senders.proofs.Through.{frame_heard}

-- The ends of frames that begin after t samples.
record Whole (n t : ℕ) (fs : List SentFrame) (es : List Ended) : Type 0 where
  words : frames es ≡ as_sent fs
  in_time_holds : EndInTime n t fs (samples es)
  apart : Apart (earliest n) (samples es)

-- An end before them.
apart_more : (n t at : ℕ) (fs : List SentFrame) (ts : List ℕ) → at ≤ t → EndInTime n t fs ts → Apart (earliest n) ts → Apart (earliest n) (at ∷ ts)
unfolding EndInTime Apart
apart_more n t at fs [] h i a = tt
apart_more n t at [] (u ∷ us) h i a = absurd i
apart_more n t at (f ∷ fs) (u ∷ us) h i a = (omega (arith, i.0), a)

whole : (n t : ℕ) (fs : List SentFrame) → FairFrames 1 n fs → Whole n t fs (ended_in n t true true true searching (line fs))
unfolding FairFrames line ended_in frames samples as_sent EndInTime Apart
whole n t [] h = record { words = refl; in_time_holds = tt; apart = tt }
whole n t (f ∷ fs) h = go (frame_heard n t f (line fs) h.0 h.1) (whole n (t + length (levels_of f)) fs h.2)
  where
    go : Comes n f.stop t (t + length (levels_of f)) (word_of f) (line fs) t true true true searching (levels_of f ++ line fs) →
        Whole n (t + length (levels_of f)) fs (ended_in n (t + length (levels_of f)) true true true searching (line fs)) →
        Whole n t (f ∷ fs) (ended_in n t true true true searching (levels_of f ++ line fs))
    go c r =
        subst (Whole n t (f ∷ fs)) (sym c.same)
        (record {
          words = rw r.words;
          in_time_holds = (c.soon, c.late, r.in_time_holds);
          apart = apart_more n (t + length (levels_of f)) c.at fs _ c.before r.in_time_holds r.apart;
        })

pub frames_are_heard : FramesHeard
frames_are_heard =
    record {
      heard = λ n fs h. let w : Whole n 0 fs (ended_in n 0 true true true searching (line fs)) = whole n 0 fs h in
          record { words = w.words; in_time = w.in_time_holds; apart = w.apart };
      figures = (refl, refl, refl, refl);
    }
