-- Demand 2 of the serial half, in one record: what a transmitter of this model puts on the line, a receiver of this model takes off it, word
-- for word and clean, if both are set alike and the receiver is ready for it. Of modules and their events: claims_histories.
use Rattle.sci.specs.claims.Link.{FramesHeard, FramesBegin, FramesShown, ParityRight, Linked}
use Rattle.sci.specs.claims.BackToBack.{BackToBack}
use Rattle.sci.specs.claims.Wire.{Wired, Frame, begun, Matched, Sends, Arrives, Waits, ArriveInTurn, FreeAtOne, StopBitRests, FrameDrives}

pub record Demand2 : Type 0 where
  -- Frames of any number of bits, at the receiver and at the transmitter.
  pub heard : FramesHeard
  pub shown : FramesShown
  pub begins : FramesBegin
  pub parity : ParityRight
  -- Sample by sample.
  pub linked : Linked
  pub back_to_back : BackToBack
  -- Clock by clock.
  pub arrives : Arrives
  pub waits : Waits
  pub in_turn : ArriveInTurn
  pub stop_bit : StopBitRests
  pub drives : FrameDrives
  pub at_one : FreeAtOne
  -- What is asked of the two can be met.
  pub met : (q : Wired) × (f : Frame) × Sends f q × Matched (begun f q)
