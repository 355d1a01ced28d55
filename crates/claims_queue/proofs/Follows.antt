-- What follows an entry. Assumes nothing.
use mathlib.Core.Path.{◌≡◌, refl, ap, subst, ◌∙◌}
use mathlib.Core.Bool.{Bool, true, false, cond, not, ◌&&◌, true≢false}
use Prim.Native.Nat.{ℕ, zero, suc, ◌+◌, ◌/◌, ◌%◌}
use native.Mathlib.Omega.{arith}
use Rattle.steps.specs.Bits.{bit}
use Rattle.qspi.specs.model.Fields.{cont, pcs_field, delay_after, bits_of, pre_delay}
use Rattle.qspi.specs.model.Registers.{write_spcr3_spsr}
use Rattle.qspi.specs.model.Queue.{entry_at, begun, clock, stored, followed}
use Rattle.qspi.specs.model.Outputs.{pcs}
use Rattle.qspi.specs.claims.Run.{run, delay_in, last_clock, length_in, waited, stopped}
use Rattle.qspi.specs.claims.Laws.{Starting, Halted}
use Rattle.qspi.specs.declared.Qspi.{Qspi}
use Rattle.qspi.specs.declared.Pins.{Pins}
use Rattle.qspi.proofs.Delay.{next_starts, halt_comes, halt_holds, halt_releases, field_on}
use Rattle.qspi.proofs.Quiet.{clock_off}
use Rattle.claims_queue.specs.Numbers.{Calm, is_last, ends, after}
use Rattle.claims_queue.specs.Entry.{last_at}
use Rattle.claims_queue.specs.Follows.{length, Over, GoesOn, EntryFollows, Halts, EntryHalts}
use Rattle.claims_queue.specs.Stops.{Off}
use Rattle.claims_queue.proofs.Entry.{starting, next_of, last_is}
use Rattle.claims_queue.proofs.Complete.{at_end, ended, complete, on}

-- With SPE clear nothing moves.
pub off : Off
unfolding run
off q pins h zero = refl
off q pins h (suc c) = ap (λ r. clock r (pins (suc c))) (off q pins h c) ∙ clock_off q (pins (suc c)) h

pub length_is : (q : Qspi) → length_in (begun q) ≡ length q (entry_at q)
unfolding bits_of pre_delay delay_after
length_is q = ap (λ c. c + delay_in (begun q)) (last_is q)

cond_mod : (b : Bool) (x : ℕ) → cond b (x % 16) 0 % 16 ≡ cond b (x % 16) 0
cond_mod true x = omega arith
cond_mod false x = refl

module _ (q : Qspi) (pins : ℕ → Pins) (s : Starting q) (calm : Calm pins) where
  over_here : ends q.registers.spcr2 (entry_at q) ≡ true → (later : ℕ → Pins) (c : ℕ) →
      run later c (run pins (last_at q (entry_at q)) q) ≡ run pins (last_at q (entry_at q)) q
  over_here e later c = off (run pins (last_at q (entry_at q)) q) later ((complete q pins s calm).SPE ∙ ap not e) c

  -- The pointer that edge 2n leaves.
  at_by : (last wrap : Bool) → last && not wrap ≡ false → is_last q.registers.spcr2 (entry_at q) ≡ last →
      entry_at (followed last wrap (stored (at_end q pins))) ≡ after q.registers.spcr2 (entry_at q)
  at_by true true e l = rw l (cond_mod (bit 13 q.registers.spcr2) q.registers.spcr2)
  at_by true false e l = absurd (true≢false e)
  at_by false wrap e l = rw l (plus (entry_at q))
    where
      plus : (i : ℕ) → (i % 16 + 1) % 16 % 16 ≡ (i + 1) % 16
      plus i = omega arith

  module _ (goes : ends q.registers.spcr2 (entry_at q) ≡ false) where
    pub at_last : entry_at (run pins (last_clock (begun q)) q) ≡ after q.registers.spcr2 (entry_at q)
    at_last =
        ap (λ c. entry_at (run pins c q)) (last_is q) ∙ ap entry_at (ended q pins s calm)
        ∙ at_by (is_last q.registers.spcr2 (entry_at q)) (bit 14 q.registers.spcr2) goes refl

    follows_here : bit 0 q.registers.spcr3 ≡ false → GoesOn q (entry_at q) pins (run pins (length_in (begun q)) q)
    follows_here clear =
        let there : run pins (length_in (begun q)) q ≡ waited (run pins (last_clock (begun q)) q) =
        (next_starts q pins s calm (on q pins s calm goes) clear).0 in
        let same : run pins (last_clock (begun q)) q ≡ run pins (last_at q (entry_at q)) q = ap (λ c. run pins c q) (last_is q) in
        let whole : run pins (length_in (begun q)) q ≡ waited (run pins (last_at q (entry_at q)) q) = there ∙ ap waited same in
        record {
          next =
              next_of (run pins (length_in (begun q)) q) (after q.registers.spcr2 (entry_at q))
              (next_starts q pins s calm (on q pins s calm goes) clear).1 (ap entry_at there ∙ at_last);
          HALTA = ap (λ r. r.spsr.flags.halta) whole ∙ (complete q pins s calm).HALTA;
          kept =
              record {
                registers = ap (λ r. r.registers) whole;
                ram = ap (λ r. r.ram) whole;
                cptqp = ap (λ r. r.spsr.cptqp) whole;
                SPIF = ap (λ r. r.spsr.flags.spif) whole;
                MODF = ap (λ r. r.spsr.flags.modf) whole;
                seen = ap (λ r. r.spsr.seen) whole;
              };
        }

    halts_here : bit 0 q.registers.spcr3 ≡ true → Halts q (entry_at q) pins (run pins (length_in (begun q)) q)
    halts_here sets =
        let comes : (run pins (length_in (begun q)) q ≡ stopped (run pins (last_clock (begun q)) q)) × Halted (run pins (length_in (begun q)) q) =
        halt_comes q pins s calm (on q pins s calm goes) sets in
        let same : run pins (last_clock (begun q)) q ≡ run pins (last_at q (entry_at q)) q = ap (λ c. run pins c q) (last_is q) in
        let whole : run pins (length_in (begun q)) q ≡ stopped (run pins (last_at q (entry_at q)) q) = comes.0 ∙ ap stopped same in
        let command : (run pins (last_clock (begun q)) q).entry.command ≡ (begun q).entry.command =
        field_on q pins s calm (on q pins s calm goes) (λ r. r.entry.command) (begun q).entry.command refl refl in
        record {
          HALTA = ap (λ r. r.spsr.flags.halta) whole;
          kept =
              record {
                registers = ap (λ r. r.registers) whole;
                ram = ap (λ r. r.ram) whole;
                cptqp = ap (λ r. r.spsr.cptqp) whole;
                SPIF = ap (λ r. r.spsr.flags.spif) whole;
                MODF = ap (λ r. r.spsr.flags.modf) whole;
                seen = ap (λ r. r.spsr.seen) whole;
              };
          Pcs =
              λ portqs.
              ap (λ r. pcs r portqs) comes.0 ∙ ap (λ c. cond (cont c) (pcs_field c) (portqs / 8 % 16)) command;
          waits =
              λ later still c.
              halt_holds (run pins (length_in (begun q)) q) later comes.1 still
              (ap (λ r. bit 0 r.registers.spcr3) whole ∙ ap (bit 0) (complete q pins s calm).spcr3 ∙ sets) c;
          released =
              λ v lower zero.
              next_of (write_spcr3_spsr (run pins (length_in (begun q)) q) v true lower) (after q.registers.spcr2 (entry_at q))
              (halt_releases (run pins (length_in (begun q)) q) v lower comes.1 zero) (ap entry_at comes.0 ∙ at_last);
        }

pub over : Over
over q i pins later x calm =
    subst
    (λ k. ends q.registers.spcr2 k ≡ true → (c : ℕ) → run later c (run pins (last_at q k) q) ≡ run pins (last_at q k) q)
    x.here
    (λ e. over_here q pins (starting q i x) calm e later)

pub follows : EntryFollows
follows q i pins x calm =
    subst
    (λ k. ends q.registers.spcr2 k ≡ false → bit 0 q.registers.spcr3 ≡ false → GoesOn q k pins (run pins (length q k) q))
    x.here
    (λ e clear. subst (λ c. GoesOn q (entry_at q) pins (run pins c q)) (length_is q) (follows_here q pins (starting q i x) calm e clear))

pub halts : EntryHalts
halts q i pins x calm =
    subst
    (λ k. ends q.registers.spcr2 k ≡ false → bit 0 q.registers.spcr3 ≡ true → Halts q k pins (run pins (length q k) q))
    x.here
    (λ e sets. subst (λ c. Halts q (entry_at q) pins (run pins c q)) (length_is q) (halts_here q pins (starting q i x) calm e sets))
