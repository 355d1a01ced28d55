-- The laws are about something: cases that meet their hypotheses.
use Rattle.std.specs.Prelude.{◌≡◌, Bool, true, false, List, [], ◌∷◌, ◌++◌, ℕ, ◌+◌, take, drop}
use Rattle.sci.specs.model.Flags.{RDRF, flag}
use Rattle.sci.specs.model.Status.{has}
use Rattle.sci.specs.model.Parts.{with_status}
use Rattle.sci.specs.model.Serial.{reset_sci}
use Rattle.sci.specs.claims.Levels.{low_bits}
use Rattle.sci.specs.claims.Moves.{lasting}
use Rattle.sci.specs.declared.receiver.Received.{Received}
use Rattle.qsm.specs.model.State.{reset_module, with_sci}
use Rattle.qsm.specs.declared.state.Module.{Module}
use Rattle.qsm.specs.declared.event.Access.TheVariants.{Read, Write}
use Rattle.qsm.specs.declared.event.Event.TheVariants as event
use Rattle.claims_clauses.specs.FlagsFall.{after, set, falls}
use Rattle.claims_clauses.specs.SeenBy.{shown}
use Rattle.claims_clauses.specs.Starts.{hear, from, in_frame}
use Rattle.claims_clauses.specs.Noise.{given, gives, stays}

-- A word waits, its RDRF not seen.
abbrev pub word_waits : Module
word_waits = with_sci reset_module (with_status reset_sci (record { flags = flag 0x1C0; seen = flag 0 }))

pub record FallMet : Type 0 where
  pub set : set word_waits 6 ≡ true
  -- A long read at 0C sees it and makes it fall; a byte at 0F alone does not, nor one at 0E, nor a user's; and TDRE, unseen, does not fall by
  -- a write.
  pub long : falls word_waits (Read true 4 0x0C) 6 ≡ true
  pub unseen : falls word_waits (Read true 1 0x0F) 6 ≡ false
  pub upper : falls (after word_waits (Read true 1 0x0D)) (Read true 1 0x0E) 6 ≡ false
  pub lower : falls (after word_waits (Read true 1 0x0D)) (Read true 1 0x0F) 6 ≡ true
  pub user : falls (after word_waits (Read true 1 0x0D)) (Read false 1 0x0F) 6 ≡ false
  pub write : falls (after word_waits (Read true 1 0x0C)) (Write true 1 0x0F 0x41) 8 ≡ true
  pub write_unseen : falls word_waits (Write true 1 0x0F 0x41) 8 ≡ false
  pub shown : shown 8 (event.Access (Read true 1 0x0D) ∷ []) reset_module false ≡ true

-- Samples with a one at place k.
abbrev pub flip : ℕ → List Bool → List Bool
flip k xs = take k xs ++ (true ∷ drop (k + 1) xs)

-- The word 55 with M=0, from a sender whose bits last 14 samples, so that points move; RT5 of the start bit and a sample of a data bit are
-- wrong.
abbrev pub samples : List Bool
samples = take 137 (flip 36 (flip 4 (lasting 14 (false ∷ low_bits 8 0x55 ++ (true ∷ [])))))

abbrev pub idle : Received
idle = hear 0x0004 (true ∷ true ∷ true ∷ []) (from reset_sci.receiver reset_sci.status)

pub record NoiseMet : Type 0 where
  pub searching : in_frame idle ≡ false
  pub stays : stays 0x0004 samples idle ≡ true
  pub moves : (hear 0x0004 (take 30 samples) idle).receiver.framer.moved ≡ true
  pub clear : has (hear 0x0004 samples idle).status RDRF ≡ false
  pub rises : has (hear 0x0004 (true ∷ []) (hear 0x0004 samples idle)).status RDRF ≡ true
  pub sum : given 0x0004 samples idle + gives (hear 0x0004 samples idle).receiver true ≡ 2
