-- What writes do before and in an entry. Assumes nothing.
use mathlib.Core.Path.{◌≡◌, refl, sym, ap, subst, ◌∙◌}
use mathlib.Core.Bool.{Bool, true, false, cond, not, ◌&&◌, ◌||◌}
use Prim.Native.Nat.{ℕ, ◌+◌, ◌-◌, ◌/◌, ◌%◌, ◌≤◌, ◌<◌}
use native.Mathlib.Nat.{div-one}
use native.Mathlib.Omega.{arith}
use lib.Dec.{eqb}
use borrow.Author.Tests.{le-leb}
use Rattle.steps.specs.Bits.{bit, merge}
use Rattle.qspi.specs.model.Fields.{spe, halt}
use Rattle.qspi.specs.model.Spsr.{falling, fallen}
use Rattle.qspi.specs.model.Registers.{spcr2_bits, write_spcr1, write_spcr2, write_spcr3_spsr}
use Rattle.qspi.specs.model.Queue.{entry_at, begun, delayed}
use Rattle.qspi.specs.claims.Run.{run, last_clock, length_in, waiting}
use Rattle.qspi.specs.claims.Laws.{Starting}
use Rattle.qspi.specs.declared.Qspi.{Qspi}
use Rattle.qspi.specs.declared.Pins.{Pins}
use Rattle.qspi.specs.declared.spsr.Spsr.{Spsr}
use Rattle.qspi.proofs.Buffered.{newqp_moves, upper_alone}
use Rattle.qspi.proofs.Delay.{field_on}
use Rattle.qspi.proofs.Edges.{fast, and_left}
use Rattle.qspi.proofs.Pending.{pending_wins}
use Rattle.qspi.proofs.Rising.{spe_rises}
use Rattle.claims_queue.specs.Numbers.{Calm, Next, is_last, ends, after}
use Rattle.claims_queue.specs.Entry.{last_at}
use Rattle.claims_queue.specs.Follows.{length}
use Rattle.claims_queue.specs.Writes.{SpeRises, NewqpBefore, NewqpWithin, UpperBefore, AsTaken, WorkingGoesOn, Ended, WorkingEnds, HaltWithin, HaltCleared}
use Rattle.claims_queue.proofs.Entry.{starting, next_of, last_is}
use Rattle.claims_queue.proofs.Complete.{complete, on}
use Rattle.claims_queue.proofs.Follows.{length_is, at_last}
use Rattle.claims_queue.proofs.Written.{holding, to_last, to_end, inside}

pub rises : SpeRises
rises q v lower off one =
    record {
      next =
          λ quick.
          next_of (write_spcr1 q v true lower) (q.registers.spcr2 % 16)
          ((spe_rises q v lower off one).next (le-leb 2 (q.registers.spcr0 % 256) quick)) (spe_rises q v lower off one).pointer;
      SCK = (spe_rises q v lower off one).rests;
      MOSI = (spe_rises q v lower off one).silent;
      Pcs = (spe_rises q v lower off one).select;
      spsr = (spe_rises q v lower off one).spsr;
      ram = (spe_rises q v lower off one).ram;
    }

still : ℕ → Pins
still c = record { levels = 0; pqspar = 0; ddrqs = 0 }

pub newqp_before : NewqpBefore
unfolding run
newqp_before q i v upper x =
    record {
      SPE = x.SPE;
      SPBR = x.SPBR;
      playing = x.playing;
      delaying = x.delaying;
      waits = x.waits;
      here = newqp_moves q v upper still 0 (λ k h. absurd (omega arith));
    }

pub upper_before : UpperBefore
upper_before q i v x =
    record {
      SPE = x.SPE;
      SPBR = x.SPBR;
      playing = x.playing;
      delaying = x.delaying;
      waits = x.waits;
      here = upper_alone q v ∙ x.here;
    }

and_true : (b : Bool) → b && true ≡ b
and_true true = refl
and_true false = refl

or_false : (b : Bool) → b || false ≡ b
or_false true = refl
or_false false = refl

-- A write of byte 1E alone lets no flag fall.
no_fall : (s : Spsr) (v : ℕ) → fallen s (falling s v false) ≡ s
no_fall s v =
    λ i.
    record {
      flags = record { spif = and_true s.flags.spif i; modf = and_true s.flags.modf i; halta = and_true s.flags.halta i };
      seen = record { spif = and_true s.seen.spif i; modf = and_true s.seen.modf i; halta = and_true s.seen.halta i };
      cptqp = s.cptqp;
    }

halt_written : (r : Qspi) (v : ℕ) → write_spcr3_spsr r v true false ≡ holding (v / 256 % 256 % 8) r.registers.spcr2 r.next.pending r
halt_written r v =
    λ i.
    record {
      registers =
          record { spcr0 = r.registers.spcr0; spcr1 = r.registers.spcr1; spcr2 = r.registers.spcr2; spcr3 = v / 256 % 256 % 8 };
      spsr = no_fall r.spsr v i;
      next = r.next;
      entry = r.entry;
      ram = r.ram;
    }

-- HALT is bit 8 of the word.
halt_bit : (v : ℕ) → halt (v / 256 % 256 % 8) ≡ bit 8 v
halt_bit v =
    let same : v / 256 % 256 % 8 % 2 ≡ v / 256 % 2 = omega arith in
    ap (λ n. eqb (n % 2) 1) (div-one (v / 256 % 256 % 8)) ∙ ap (λ n. eqb n 1) same

module _ (q : Qspi) (pins : ℕ → Pins) (s : Starting q) (calm : Calm pins) where
  module _ (goes : ends q.registers.spcr2 (entry_at q) ≡ false) where
    abbrev left : Qspi
    left = run pins (last_clock (begun q)) q

    -- After the delay with SPCR2, SPCR3 and what is pending changed.
    starts : (w3 w : ℕ) → halt w3 ≡ false → Starting (delayed true (holding w3 w false (waiting left 1)))
    starts w3 w clear =
        record {
          on = field_on q pins s calm (on q pins s calm goes) (λ r. spe r.registers.spcr1) true s.on s.on;
          not_playing = refl;
          not_delaying = refl;
          goes =
              rw clear
              (rw (le-leb 2 (left.registers.spcr0 % 256)
              (subst (λ n. 2 ≤ n % 256)
              (sym (field_on q pins s calm (on q pins s calm goes) (λ r. r.registers.spcr0) q.registers.spcr0 refl refl)) (fast q s))));
        }

    next_there : (w3 w : ℕ) (d : ℕ) → halt w3 ≡ false → 0 < d → d < length_in (begun q) →
        Next (run (λ k. pins (d + k)) (length_in (begun q) - d) (holding w3 w false (run pins d q))) (after q.registers.spcr2 (entry_at q))
    next_there w3 w d clear pos less =
        subst (λ r. Next r (after q.registers.spcr2 (entry_at q)))
        (sym (to_end q pins s calm (on q pins s calm goes) w3 w false d pos less))
        (next_of _ (after q.registers.spcr2 (entry_at q)) (starts w3 w clear)
        (pointer_there ∙ at_last q pins s calm goes))
      where
        pointer_there : left.next.pointer % 16 ≡ entry_at left
        pointer_there =
            ap (λ b. cond b (left.registers.spcr2 % 16) (left.next.pointer % 16))
            (sym (field_on q pins s calm (on q pins s calm goes) (λ r. r.next.pending) false refl refl))

    working_there : (d v : ℕ) → bit 0 q.registers.spcr3 ≡ false → 0 < d → d < length_in (begun q) →
        AsTaken q (entry_at q) (run (λ k. pins (d + k)) (length_in (begun q) - d) (write_spcr2 (run pins d q) v true false))
    working_there d v clear pos less =
        let r : Qspi = run pins d q in
        let w : ℕ = spcr2_bits (merge r.registers.spcr2 v true false) in
        let kept : (r.next.pending ≡ false) × (r.registers.spcr3 ≡ q.registers.spcr3) =
        inside q pins s calm (on q pins s calm goes) d pos less in
        subst (λ b. AsTaken q (entry_at q) (run (λ k. pins (d + k)) (length_in (begun q) - d) (holding r.registers.spcr3 w b r)))
        (sym (or_false r.next.pending ∙ kept.0))
        (record {
          SPIF =
              ap (λ x. x.spsr.flags.spif) (to_end q pins s calm (on q pins s calm goes) r.registers.spcr3 w false d pos less)
              ∙ ap (λ c. (run pins c q).spsr.flags.spif) (last_is q) ∙ (complete q pins s calm).SPIF;
          next = next_there r.registers.spcr3 w d (ap halt kept.1 ∙ clear) pos less;
        })

    halted_there : (d v : ℕ) → 0 < d → d < length_in (begun q) → bit 8 v ≡ true →
        (run (λ k. pins (d + k)) (length_in (begun q) - d) (write_spcr3_spsr (run pins d q) v true false)).spsr.flags.halta ≡ true
    halted_there d v pos less one =
        ap (λ r. (run (λ k. pins (d + k)) (length_in (begun q) - d) r).spsr.flags.halta) (halt_written (run pins d q) v)
        ∙ ap (λ r. r.spsr.flags.halta)
        (to_end q pins s calm (on q pins s calm goes) (v / 256 % 256 % 8) (run pins d q).registers.spcr2 (run pins d q).next.pending d pos less)
        ∙ ap (λ b. b || left.spsr.flags.halta) (halt_bit v ∙ one)

    cleared_there : (d v : ℕ) → 0 < d → d < length_in (begun q) → bit 8 v ≡ false →
        Next (run (λ k. pins (d + k)) (length_in (begun q) - d) (write_spcr3_spsr (run pins d q) v true false)) (after q.registers.spcr2 (entry_at q))
    cleared_there d v pos less none =
        subst
        (λ r. Next (run (λ k. pins (d + k)) (length_in (begun q) - d) r) (after q.registers.spcr2 (entry_at q)))
        (ap (λ b. holding (v / 256 % 256 % 8) (run pins d q).registers.spcr2 b (run pins d q))
        (sym (inside q pins s calm (on q pins s calm goes) d pos less).0)
        ∙ sym (halt_written (run pins d q) v))
        (next_there (v / 256 % 256 % 8) (run pins d q).registers.spcr2 d (halt_bit v ∙ none) pos less)

  ends_there : ends q.registers.spcr2 (entry_at q) ≡ true → (d v : ℕ) (lower : Bool) → 0 < d → d < last_clock (begun q) →
      Ended (run (λ k. pins (d + k)) (last_clock (begun q) - d) (write_spcr2 (run pins d q) v true lower))
  ends_there e d v lower pos less =
      let r : Qspi = run pins d q in
      let w : ℕ = spcr2_bits (merge r.registers.spcr2 v true lower) in
      let there : run (λ k. pins (d + k)) (last_clock (begun q) - d) (write_spcr2 r v true lower)
      ≡ holding r.registers.spcr3 w (r.next.pending || lower) (run pins (last_at q (entry_at q)) q) =
      to_last q pins s calm r.registers.spcr3 w (r.next.pending || lower) d pos less
      ∙ ap (λ c. holding r.registers.spcr3 w (r.next.pending || lower) (run pins c q)) (last_is q) in
      record {
        SPIF = ap (λ x. x.spsr.flags.spif) there ∙ (complete q pins s calm).SPIF ∙ ap (λ b. b || q.spsr.flags.spif) (and_left (is_last q.registers.spcr2 (entry_at q)) _ e);
        SPE = ap (λ x. spe x.registers.spcr1) there ∙ (complete q pins s calm).SPE ∙ ap not e;
      }

module _ (q : Qspi) (i : ℕ) (pins : ℕ → Pins) (x : Next q i) (calm : Calm pins) where
  -- From the half's length of an entry, and its pointer, to the paper's.
  lengths : (P : ℕ → ℕ → Type 0) → (ends q.registers.spcr2 (entry_at q) ≡ false → P (entry_at q) (length_in (begun q))) →
      ends q.registers.spcr2 i ≡ false → P i (length q i)
  lengths P h =
      subst (λ k. ends q.registers.spcr2 k ≡ false → P k (length q k)) x.here
      (λ e. subst (P (entry_at q)) (length_is q) (h e))

pub working_goes_on : WorkingGoesOn
working_goes_on q i pins x calm goes clear d v pos =
    lengths q i pins x calm
    (λ k l. d < l → AsTaken q k (run (λ j. pins (d + j)) (l - d) (write_spcr2 (run pins d q) v true false)))
    (λ e less. working_there q pins (starting q i x) calm e d v clear pos less) goes

pub working_ends : WorkingEnds
working_ends q i pins x calm ending d v lower pos =
    subst
    (λ k. ends q.registers.spcr2 k ≡ true → d < last_at q k →
    Ended (run (λ j. pins (d + j)) (last_at q k - d) (write_spcr2 (run pins d q) v true lower)))
    x.here
    (λ e.
    subst (λ l. d < l → Ended (run (λ j. pins (d + j)) (l - d) (write_spcr2 (run pins d q) v true lower))) (last_is q)
    (λ less. ends_there q pins (starting q i x) calm e d v lower pos less))
    ending

pub halt_within : HaltWithin
halt_within q i pins x calm goes d v pos less one =
    lengths q i pins x calm
    (λ k l. d < l → (run (λ j. pins (d + j)) (l - d) (write_spcr3_spsr (run pins d q) v true false)).spsr.flags.halta ≡ true)
    (λ e early. halted_there q pins (starting q i x) calm e d v pos early one) goes less

pub halt_cleared : HaltCleared
halt_cleared q i pins x calm goes d v pos less none =
    lengths q i pins x calm
    (λ k l. d < l → Next (run (λ j. pins (d + j)) (l - d) (write_spcr3_spsr (run pins d q) v true false)) (after q.registers.spcr2 k))
    (λ e early. cleared_there q pins (starting q i x) calm e d v pos early none) goes less

pub newqp_within : NewqpWithin
newqp_within q i pins x calm goes clear d v upper pos less =
    lengths q i pins x calm
    (λ k l. d < l → Next (run (λ j. pins (d + j)) (l - d) (write_spcr2 (run pins d q) v upper true)) (v % 16))
    (λ e early.
    let wins : Starting (run (λ j. pins (d + j)) (length_in (begun q) - d) (write_spcr2 (run pins d q) v upper true))
    × (entry_at (run (λ j. pins (d + j)) (length_in (begun q) - d) (write_spcr2 (run pins d q) v upper true)) ≡ v % 16) =
    pending_wins q pins (starting q i x) calm (on q pins (starting q i x) calm e) clear d v upper pos early in
    next_of _ (v % 16) wins.0 wins.1)
    goes less
