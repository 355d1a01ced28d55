-- K7 to K10 from the laws. Assumes nothing.
use mathlib.Core.Path.{◌≡◌, refl, ap, ◌∙◌}
use mathlib.Core.Bool.{true, false}
use Prim.Native.Nat.{ℕ, zero, suc, ◌*◌, ◌≤◌}
use native.Mathlib.Nat.{mul-le-mul}
use native.Mathlib.Omega.{arith}
use Rattle.qspi.specs.model.Fields.{spe, spbr, bits_of, pre_delay, delay_after}
use Rattle.qspi.specs.model.Registers.{reset, write_spcr1}
use Rattle.qspi.specs.model.Queue.{completed}
use Rattle.qspi.specs.model.Entry.{mosi_after, collected_after}
use Rattle.qspi.specs.claims.Run.{run, edge_at, length_of, begins_at, waited, mosi_by, collected_by}
use Rattle.qspi.specs.claims.Laws.{Starting}
use Rattle.qspi.specs.claims.Marked.{set_up, wrapping, ComesRound, plain, around, longest, K7, K8, K9, K10}
use Rattle.qspi.specs.declared.Pins.{Pins}
use Rattle.qspi.proofs.Bounds.{bits_small, pre_small, delay_small}
use Rattle.qspi.proofs.Edges.{hold_runs, last_edge_holds, edges_fall}
use Rattle.qspi.proofs.Delay.{in_delay_holds, next_starts}
use Rattle.qspi.proofs.Order.{entries_run, last_of_queue}
use Rattle.qspi.proofs.Sooner.{not_sooner}

plain_starts : Starting plain
unfolding set_up reset write_spcr1
plain_starts = record { on = refl; not_playing = refl; not_delaying = refl; goes = refl }

wrapping_starts : Starting wrapping
unfolding set_up reset write_spcr1
wrapping_starts = record { on = refl; not_playing = refl; not_delaying = refl; goes = refl }

pub comes_round : ComesRound
unfolding set_up reset write_spcr1 bits_of pre_delay delay_after completed mosi_by collected_by mosi_after collected_after
comes_round =
    let low : Pins = record { levels = 0; pqspar = 0; ddrqs = 0 } in
    hold_runs low 49 wrapping
    ∙ (next_starts wrapping (λ c. low) wrapping_starts (λ c. refl) refl refl).0
    ∙ ap waited (last_edge_holds wrapping (λ c. low) wrapping_starts (λ c. refl))

pub k7 : K7
unfolding set_up reset write_spcr1 bits_of pre_delay delay_after
k7 pins calm = (
  ap (λ r. r.entry.edges) (edges_fall plain pins plain_starts calm 15 3 (omega arith) (omega arith) (omega arith)),
  in_delay_holds plain pins plain_starts calm refl 0 (omega arith),
  in_delay_holds plain pins plain_starts calm refl 16 (omega arith),
  (next_starts plain pins plain_starts calm refl refl).1,
)

pub k8 : K8
unfolding set_up reset write_spcr1 bits_of pre_delay delay_after begins_at
k8 pins calm =
    let still : (spe (run pins 1278 plain).registers.spcr1 ≡ true) × ((run pins 1278 plain).spsr.flags.spif ≡ false) =
    not_sooner plain pins plain_starts calm refl refl 1278 (omega arith) in
    (still.0, still.1, last_of_queue plain pins plain_starts calm refl refl)

-- Edge 2n of the longest entry.
last_small : (p s j : ℕ) → p ≤ 255 → s ≤ 255 → j ≤ 32 → edge_at p s j ≤ 8160
last_small p s zero a b c = omega arith
last_small p s (suc j) a b c =
    let few : j ≤ 31 = omega arith in
    let most : j * s ≤ 31 * 255 = mul-le-mul few b in
    omega arith

length_small : (spcr0 spcr1 command : ℕ) → length_of spcr0 spcr1 command ≤ 16352
length_small spcr0 spcr1 command =
    omega (
      arith,
      last_small (pre_delay spcr0 spcr1 command) (spbr spcr0) (bits_of spcr0 command * 2)
          (pre_small spcr0 spcr1 command) (omega arith) (omega (arith, bits_small spcr0 command)),
      delay_small spcr1 command,
    )

longest_starts : Starting longest
unfolding set_up reset write_spcr1
longest_starts = record { on = refl; not_playing = refl; not_delaying = refl; goes = refl }

pub k9 : K9
unfolding set_up reset write_spcr1 bits_of pre_delay delay_after
k9 = (
  length_small,
  λ pins calm. (
    in_delay_holds longest pins longest_starts calm refl 8191 (omega arith),
    (next_starts longest pins longest_starts calm refl refl).1,
  ),
)

around_starts : Starting around
unfolding set_up reset write_spcr1
around_starts = record { on = refl; not_playing = refl; not_delaying = refl; goes = refl }

pub k10 : K10
unfolding set_up reset write_spcr1 bits_of pre_delay delay_after begins_at
k10 pins calm = (
  refl,
  (entries_run around pins around_starts calm refl 1 (omega arith)).here,
  (entries_run around pins around_starts calm refl 2 (omega arith)).here,
  (entries_run around pins around_starts calm refl 3 (omega arith)).here,
  last_of_queue around pins around_starts calm refl refl,
)
