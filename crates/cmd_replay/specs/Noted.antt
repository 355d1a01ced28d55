-- A trace played record by record, and the tally of the words that it brought.
use Rattle.std.specs.Prelude.{List, [], Option, Some, None, ◌≡◌, ℕ}
use Rattle.qsm.specs.model.State.{reset_module}
use Rattle.reception.specs.Arrival.{arrival, figures}
use Rattle.reception.specs.Tally.{tally_of, with_arrival}
use Rattle.reception.specs.declared.tally.Tally.{Tally}
use Rattle.text.specs.Noise.{noise_line}
use Rattle.trace.specs.Records.{events, leaves}
use Rattle.cmd_replay.specs.Reached.{Turns}
use Rattle.cmd_replay.specs.declared.piece.Run.{Run}
use Rattle.cmd_replay.specs.declared.noise.Noted.{Noted}

-- The line of a word behind those of a tally: its number, from 0, is how many came before it.
abbrev pub arrival_text : Tally → Option ℕ → List ℕ
arrival_text t (Some figure) = noise_line t.words figure
arrival_text t None = []

-- A turn, with the word that it brought.
pub record Notices (n : Noted) (room : ℕ) (r : Noted) : Type 0 where
  pub turn : Turns n.turned.run room r.turned
  pub tally : r.tally ≡ with_arrival n.tally (arrival n.turned.run.state r.turned.run.state)

-- Module and tally are those of one list of records, played from reset on. Which records come is the system's; that each turn adds the word of its own
-- record is the contract of `noticed`. With the law `FiguresTold` of claims_words the tally is of the words that enter SCDR clock by clock.
pub record Notes (r : Run) (t : Tally) : Type 0 where
  pub answered : List (List ℕ)
  pub state : r.state ≡ leaves (events answered) reset_module
  pub tally : t ≡ tally_of (figures (events answered) reset_module)
