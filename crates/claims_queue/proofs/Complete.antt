-- Edge 2n and the delay by the paper's numbers. Assumes nothing.
use mathlib.Core.Path.{◌≡◌, refl, sym, ap, subst, ◌∙◌}
use mathlib.Core.Bool.{Bool, true, false, cond, not, ◌&&◌, ◌||◌, true≢false}
use Prim.Native.Nat.{ℕ, zero, suc, ◌+◌, ◌-◌, ◌*◌, ◌/◌, ◌%◌, ◌<◌}
use native.Mathlib.Omega.{arith}
use lib.Dec.{eqb}
use lib.ListN.{set}
use borrow.Author.Tests.{ne_eqb}
use Rattle.steps.specs.Bits.{bit}
use Rattle.qspi.specs.model.Fields.{cpha, spe, wren, endqp, cont, pcs_field, bits_of, pre_delay, delay_after}
use Rattle.qspi.specs.model.Queue.{entry_at, begun, stored, followed, completed, miso_of}
use Rattle.qspi.specs.model.Outputs.{sck, mosi, pcs}
use Rattle.qspi.specs.claims.Run.{run, bits_in, spbr_in, delay_in, during, bits_read, word_of, waiting}
use Rattle.qspi.specs.claims.Laws.{Starting, goes_on}
use Rattle.qspi.specs.declared.Qspi.{Qspi}
use Rattle.qspi.specs.declared.Pins.{Pins}
use Rattle.qspi.proofs.Edges.{last_edge_holds}
use Rattle.qspi.proofs.Mosi.{mosi_holds}
use Rattle.qspi.proofs.Word.{entry_small, word_stored, unused_zero, bits_in_order}
use Rattle.qspi.proofs.Delay.{delay_runs, no_spe}
use Rattle.qspi.proofs.Lines.{pcs_delay}
use Rattle.claims_queue.specs.Numbers.{Calm, is_last, ends}
use Rattle.claims_queue.specs.Entry.{Complete, Waiting, Entry, Entries, Words, n, last_at, read_at}
use Rattle.claims_queue.proofs.Entry.{starting, edge_is, last_is, before_edges, between_edges}

-- The entry at edge 2n.
abbrev pub at_end : Qspi → (ℕ → Pins) → Qspi
at_end q pins = during (begun q) pins (bits_in (begun q) * 2) (spbr_in (begun q))

pub going_on : (last wrap : Bool) → last && not wrap ≡ false → not last || wrap ≡ true
going_on true true h = refl
going_on true false h = absurd (true≢false h)
going_on false wrap h = refl

module _ (q : Qspi) (pins : ℕ → Pins) (s : Starting q) (calm : Calm pins) where
  -- What follows the store, by ENDQP and WREN as clock 1 took them.
  pub ended : run pins (last_at q (entry_at q)) q ≡ followed (is_last q.registers.spcr2 (entry_at q)) (bit 14 q.registers.spcr2) (stored (at_end q pins))
  unfolding completed
  ended =
      ap (λ c. run pins c q) (sym (last_is q)) ∙ last_edge_holds q pins s calm
      ∙ ap (λ i. followed (eqb i (endqp q.registers.spcr2)) (wren q.registers.spcr2) (stored (at_end q pins))) (entry_small q)

  positive : (b : Bool) (k : ℕ) → 0 < cond b (k * 2 + 2) (k * 2 + 1)
  positive true k = omega arith
  positive false k = omega arith

  read_same : (k : ℕ) → bits_read (begun q) pins k ≡ read_at q (entry_at q) pins k
  read_same k =
      ap (λ c. miso_of (pins c)) (edge_is q (cond (cpha q.registers.spcr0) (k * 2 + 2) (k * 2 + 1)) (positive (cpha q.registers.spcr0) k))

  word_read : (run pins (last_at q (entry_at q)) q).ram.receive
      ≡ set q.ram.receive (entry_at q) (word_of (read_at q (entry_at q) pins) (n q (entry_at q)))
  unfolding bits_of
  word_read =
      ap (λ c. (run pins c q).ram.receive) (sym (last_is q)) ∙ (word_stored q pins s calm).0
      ∙ ap (λ f. set q.ram.receive (entry_at q) (word_of f (bits_in (begun q)))) (λ i k. read_same k i)

  cptqp_is : (run pins (last_at q (entry_at q)) q).spsr.cptqp ≡ entry_at q
  cptqp_is = ap (λ c. (run pins c q).spsr.cptqp) (sym (last_is q)) ∙ (word_stored q pins s calm).1

  mosi_is : mosi (run pins (last_at q (entry_at q)) q) ≡ bit 0 (begun q).entry.word
  mosi_is = ap (λ c. mosi (run pins c q)) (sym (last_is q)) ∙ mosi_holds q pins s calm

  complete_by : (last wrap : Bool) → is_last q.registers.spcr2 (entry_at q) ≡ last → bit 14 q.registers.spcr2 ≡ wrap →
      run pins (last_at q (entry_at q)) q ≡ followed last wrap (stored (at_end q pins)) →
      Complete q (entry_at q) pins (run pins (last_at q (entry_at q)) q)
  complete_by true true l w there =
      record {
        SCK = ap sck there;
        MOSI = mosi_is;
        Pcs = λ _ portqs. ap (λ r. pcs r portqs) there;
        receive = word_read;
        transmit = ap (λ r. r.ram.transmit) there;
        commands = ap (λ r. r.ram.commands) there;
        CPTQP = cptqp_is;
        SPIF = rw l (ap (λ r. r.spsr.flags.spif) there);
        MODF = ap (λ r. r.spsr.flags.modf) there;
        HALTA = ap (λ r. r.spsr.flags.halta) there;
        seen = ap (λ r. r.spsr.seen) there;
        SPE = rw (l, w) (ap (λ r. spe r.registers.spcr1) there ∙ s.on);
        spcr1 = ap (λ r. r.registers.spcr1 % 32768) there;
        spcr0 = ap (λ r. r.registers.spcr0) there;
        spcr2 = ap (λ r. r.registers.spcr2) there;
        spcr3 = ap (λ r. r.registers.spcr3) there;
      }
  complete_by true false l w there =
      record {
        SCK = ap sck there;
        MOSI = mosi_is;
        Pcs = λ e. absurd (true≢false (sym (rw (l, w)) ∙ e));
        receive = word_read;
        transmit = ap (λ r. r.ram.transmit) there;
        commands = ap (λ r. r.ram.commands) there;
        CPTQP = cptqp_is;
        SPIF = rw l (ap (λ r. r.spsr.flags.spif) there);
        MODF = ap (λ r. r.spsr.flags.modf) there;
        HALTA = ap (λ r. r.spsr.flags.halta) there;
        seen = ap (λ r. r.spsr.seen) there;
        SPE = rw (l, w) (ap (λ r. spe r.registers.spcr1) there ∙ no_spe q.registers.spcr1);
        spcr1 = ap (λ r. r.registers.spcr1 % 32768) there ∙ twice q.registers.spcr1;
        spcr0 = ap (λ r. r.registers.spcr0) there;
        spcr2 = ap (λ r. r.registers.spcr2) there;
        spcr3 = ap (λ r. r.registers.spcr3) there;
      }
    where
      twice : (w : ℕ) → w % 32768 % 32768 ≡ w % 32768
      twice w = omega arith
  complete_by false wrap l w there =
      record {
        SCK = ap sck there;
        MOSI = mosi_is;
        Pcs = λ _ portqs. ap (λ r. pcs r portqs) there;
        receive = word_read;
        transmit = ap (λ r. r.ram.transmit) there;
        commands = ap (λ r. r.ram.commands) there;
        CPTQP = cptqp_is;
        SPIF = rw l (ap (λ r. r.spsr.flags.spif) there);
        MODF = ap (λ r. r.spsr.flags.modf) there;
        HALTA = ap (λ r. r.spsr.flags.halta) there;
        seen = ap (λ r. r.spsr.seen) there;
        SPE = rw l (ap (λ r. spe r.registers.spcr1) there ∙ s.on);
        spcr1 = ap (λ r. r.registers.spcr1 % 32768) there;
        spcr0 = ap (λ r. r.registers.spcr0) there;
        spcr2 = ap (λ r. r.registers.spcr2) there;
        spcr3 = ap (λ r. r.registers.spcr3) there;
      }

  pub complete : Complete q (entry_at q) pins (run pins (last_at q (entry_at q)) q)
  complete = complete_by _ _ refl refl ended

  module _ (goes : ends q.registers.spcr2 (entry_at q) ≡ false) where
    pub on : goes_on q ≡ true
    on = going_on (is_last q.registers.spcr2 (entry_at q)) (bit 14 q.registers.spcr2) goes

    pub waiting_there : (d : ℕ) → 0 < d → d < delay_in (begun q) →
        run pins (last_at q (entry_at q) + d) q ≡ waiting (run pins (last_at q (entry_at q)) q) (delay_in (begun q) - d)
    waiting_there d pos less =
        subst (λ c. run pins (c + d) q ≡ waiting (run pins c q) (delay_in (begun q) - d)) (last_is q) (delay_runs q pins s calm on d pos less)

    pcs_there : (d portqs : ℕ) → 0 < d → d < delay_in (begun q) →
        pcs (run pins (last_at q (entry_at q) + d) q) portqs
        ≡ cond (cont (begun q).entry.command) (pcs_field (begun q).entry.command) (portqs / 8 % 16)
    pcs_there zero portqs pos less = absurd (omega arith)
    pcs_there (suc d) portqs pos less =
        ap (λ c. pcs (run pins (c + suc d) q) portqs) (sym (last_is q)) ∙ pcs_delay q pins s calm on (suc d) portqs less
        ∙ ap (λ b. cond (b || cont (begun q).entry.command) (pcs_field (begun q).entry.command) (portqs / 8 % 16)) (not_zero d)
      where
        not_zero : (d : ℕ) → eqb (suc d) 0 ≡ false
        not_zero d = ne_eqb (suc d) 0 (λ e. omega arith)

    waits : (d : ℕ) → 0 < d → d < delay_in (begun q) →
        Waiting q (entry_at q) (run pins (last_at q (entry_at q)) q) (run pins (last_at q (entry_at q) + d) q)
    waits d pos less =
        let there : run pins (last_at q (entry_at q) + d) q ≡ waiting (run pins (last_at q (entry_at q)) q) (delay_in (begun q) - d) =
        waiting_there d pos less in
        record {
          SCK = ap sck there ∙ complete.SCK;
          MOSI = ap mosi there ∙ complete.MOSI;
          Pcs = λ portqs. pcs_there d portqs pos less;
          ram = ap (λ r. r.ram) there;
          spsr = ap (λ r. r.spsr) there;
          registers = ap (λ r. r.registers) there;
        }

  entry_here : Entry q (entry_at q) pins
  unfolding bits_of pre_delay delay_after
  entry_here =
      record {
        before = before_edges q pins s calm;
        edges = between_edges q pins s calm;
        last = complete;
        after = waits;
      }

pub entries : Entries
entries q i pins x calm = subst (λ k. Entry q k pins) x.here (entry_here q pins (starting q i x) calm)

pub words : Words
words levels n = record { bits = bits_in_order levels n; unused = unused_zero levels n }
