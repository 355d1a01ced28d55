-- What a fair sender's receiver shows: of the error flags at most OR, and the figure beside SCDR (document 02, L1) is 0.
use Rattle.std.specs.Prelude.{false, ◌&&◌, List, [], ◌∷◌, ◌≡◌, ℕ}
use Rattle.sci.specs.model.Bits.{parity_bit}
use Rattle.sci.specs.model.Flags.{PF, FE, NF}
use Rattle.sci.specs.model.Status.{has}
use Rattle.sci.specs.model.Control.{PT, PE}
use Rattle.sci.specs.declared.serial.Sci.{Sci}
use Rattle.claims_senders.specs.Fair.{SentFrame, word_of}

pub record Undamaged (s : Sci) : Type 0 where
  pub nf : has s.status NF ≡ false
  pub fe : has s.status FE ≡ false
  pub pf : has s.status PF ≡ false
  pub figure : s.receiver.noise ≡ 0

-- With PE set each word has the parity that PT asks for.
unfoldable pub RightParity : ℕ → List SentFrame → Type 0
RightParity sccr1 [] = Unit {0}
RightParity sccr1 (f ∷ fs) = (PE sccr1 && parity_bit (PT sccr1) (word_of f) ≡ false) × RightParity sccr1 fs
