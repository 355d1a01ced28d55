-- What playing a piece leaves. Assumes nothing.
use mathlib.Core.Path.{◌≡◌, sym, ap, subst, ◌∙◌}
use mathlib.Core.List.{List}
use Prim.Native.Nat.{ℕ, ◌*◌, ◌/◌, ◌≤◌}
use native.Mathlib.Omega.{arith}
use lib.ListN.{length, take, drop}
use lib.Seq.{take_at}
use Rattle.trace.specs.Trace.{answer_length}
use Rattle.trace.specs.Play.{play, Plays}
use Rattle.trace.specs.declared.Played.{Played}
use Rattle.trace.proofs.Laws.{bytes_each, read_within, written_within}
use Rattle.files.specs.Pieces.{counted}
use Rattle.console.specs.Output.{Gives}
use Rattle.console.specs.declared.output.Out.{Out}
use Rattle.cmd_replay.specs.Piece.{ran}
use Rattle.cmd_replay.specs.declared.piece.Run.{Run}

per_answer : (n : ℕ) → answer_length * n / answer_length ≡ n
per_answer n = omega arith

module _ (r : Run) (t out₀ out : List ℕ) (p : Played) (plays : Plays (play r.state t (length out₀)) out₀ p out) where
  log : take p.written out ≡ (play r.state t (length out₀)).answers
  log =
      ap (take p.written) plays.output
      ∙ take_at (play r.state t (length out₀)).answers (drop p.written out₀) p.written (bytes_each r.state t (length out₀) ∙ sym plays.written)

  pub fits : p.written ≤ length out₀
  fits = omega (arith, plays.written, written_within r.state t (length out₀))

  pub inside : p.read ≤ length t
  inside = omega (arith, plays.read, read_within r.state t (length out₀))

  pub run_is : (records : ℕ) → records ≡ counted r.records (p.written / answer_length)
      → ◌≡◌ {A = Run} (record { state = p.state; records = records }) (ran r (play r.state t (length out₀)))
  run_is records is =
      let count : p.written / answer_length ≡ length (play r.state t (length out₀)).records =
      ap (λ (n : ℕ). n / answer_length) plays.written ∙ per_answer (length (play r.state t (length out₀)).records) in
      rw (is, count, plays.state)

  pub logged : (o : Out) (buf : List ℕ) (o' : Out) (buf' : List ℕ) → Gives o buf (take p.written out) o' buf'
      → Gives o buf (play r.state t (length out₀)).answers o' buf'
  logged o buf o' buf' g = subst (λ (x : List ℕ). Gives o buf x o' buf') log g
