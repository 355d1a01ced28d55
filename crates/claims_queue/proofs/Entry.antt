-- An entry before edge 2n by the paper's numbers, from the half's laws of edges. Assumes nothing.
use mathlib.Core.Path.{◌≡◌, refl, sym, ap, subst, ◌∙◌}
use mathlib.Core.Bool.{Bool, true, false, not, ◌&&◌, true≢false}
use Prim.Native.Nat.{ℕ, zero, suc, ◌+◌, ◌-◌, ◌*◌, ◌%◌, ◌<◌}
use native.Mathlib.Nat.{zero-add}
use native.Mathlib.Omega.{arith}
use lib.Dec.{eqb, leb}
use borrow.Author.Tests.{le-leb, eqb-true, eqb-false}
use Rattle.qspi.specs.model.Fields.{cpha, bits_of, pre_delay}
use Rattle.qspi.specs.model.Entry.{mosi_after}
use Rattle.qspi.specs.model.Queue.{entry_at, begun}
use Rattle.qspi.specs.model.Outputs.{sck, mosi, pcs}
use Rattle.qspi.specs.claims.Run.{run, bits_in, pre_in, spbr_in, edge_clock, gap, last_clock, during, mosi_by}
use Rattle.qspi.specs.claims.Laws.{Starting}
use Rattle.qspi.specs.declared.Qspi.{Qspi}
use Rattle.qspi.specs.declared.Pins.{Pins}
use Rattle.qspi.proofs.Bounds.{bits_pos, pre_pos}
use Rattle.qspi.proofs.Edges.{edge_formula, edges_fall, fast}
use Rattle.qspi.proofs.Mosi.{by_test, even_holds, mosi_shows}
use Rattle.claims_queue.specs.Numbers.{Calm, Next}
use Rattle.claims_queue.specs.Entry.{Playing, edge_at, last_at, mosi_at}

-- Before clock 1 as the half says it, and back.
pub starting : (q : Qspi) (i : ℕ) → Next q i → Starting q
starting q i x =
    record {
      on = x.SPE;
      not_playing = x.playing;
      not_delaying = x.delaying;
      goes = rw (le-leb 2 (q.registers.spcr0 % 256) x.SPBR, x.waits);
    }

no_wait : (a b : Bool) → a && not b ≡ true → b ≡ false
no_wait true true h = sym h
no_wait true false h = refl
no_wait false b h = absurd (true≢false (sym h))

pub next_of : (q : Qspi) (i : ℕ) → Starting q → entry_at q ≡ i → Next q i
next_of q i s here =
    record {
      SPE = s.on;
      SPBR = fast q s;
      playing = s.not_playing;
      delaying = s.not_delaying;
      waits = no_wait (leb 2 (q.registers.spcr0 % 256)) _ s.goes;
      here = here;
    }

-- The clocks of edges.
pub edge_is : (q : Qspi) (j : ℕ) → 0 < j → edge_clock (begun q) j ≡ edge_at q (entry_at q) j
unfolding pre_delay
edge_is q j pos = edge_formula (begun q) j pos

pub last_is : (q : Qspi) → last_clock (begun q) ≡ last_at q (entry_at q)
unfolding bits_of pre_delay
last_is q =
    edge_formula (begun q) (bits_in (begun q) * 2) (omega (arith, bits_pos q.registers.spcr0 (begun q).entry.command))

module _ (q : Qspi) (pins : ℕ → Pins) (s : Starting q) (calm : Calm pins) where
  mosi_at_holds : (j d : ℕ) → j < bits_in (begun q) * 2 → d < gap (begun q) j → 0 < edge_clock (begun q) j + d →
      mosi (run pins (edge_clock (begun q) j + d) q) ≡ mosi_at q (entry_at q) j
  unfolding bits_of pre_delay mosi_by
  mosi_at_holds j d less within later =
      by_test (cpha q.registers.spcr0)
      (λ h.
      by_test (eqb j 0)
      (λ e.
      let none : j ≡ 0 = eqb-true j 0 e in
      ap (λ r. r.entry.mosi) (edges_fall q pins s calm j d less within later)
      ∙ ap (mosi_by (begun q)) none
      ∙ ap (λ b. mosi_after b (bits_in (begun q)) (begun q).entry.word 0 q.entry.mosi) h
      ∙ even_holds (bits_in (begun q)) (begun q).entry.word q.entry.mosi 0 refl
      ∙ rw (h, e))
      (λ e.
      rw (h, e) (rw h at (mosi_shows q pins s calm j d less within later (λ _. some j (eqb-false j 0 e))))))
      (λ h.
      rw h (rw h at (mosi_shows q pins s calm j d less within later (λ t. absurd (true≢false (sym t ∙ h))))))
    where
      some : (j : ℕ) → (j ≡ 0 → ⊥) → 0 < j
      some j e = omega arith

  playing : (j d : ℕ) → j < bits_in (begun q) * 2 → d < gap (begun q) j → 0 < edge_clock (begun q) j + d →
      Playing q (entry_at q) j (run pins (edge_clock (begun q) j + d) q)
  unfolding bits_of pre_delay
  playing j d less within later =
      let there : run pins (edge_clock (begun q) j + d) q ≡ during (begun q) pins j (gap (begun q) j - d) =
      edges_fall q pins s calm j d less within later in
      record {
        SCK = ap sck there;
        MOSI = mosi_at_holds j d less within later;
        Pcs = λ portqs. ap (λ r. pcs r portqs) there;
        spsr = ap (λ r. r.spsr) there;
        ram = ap (λ r. r.ram) there;
        registers = ap (λ r. r.registers) there;
      }

  pub before_edges : (c : ℕ) → 0 < c → c < pre_in (begun q) → Playing q (entry_at q) 0 (run pins c q)
  before_edges c pos less =
      subst (λ k. Playing q (entry_at q) 0 (run pins k q)) (zero-add c)
      (playing 0 c (omega (arith, bits_pos q.registers.spcr0 (begun q).entry.command)) less (omega (arith, zero-add c)))

  pub between_edges : (j d : ℕ) → 0 < j → j < bits_in (begun q) * 2 → d < spbr_in q →
      Playing q (entry_at q) j (run pins (edge_at q (entry_at q) j + d) q)
  between_edges zero d pos less within = absurd (omega arith)
  between_edges (suc j) d pos less within =
      subst (λ k. Playing q (entry_at q) (suc j) (run pins (k + d) q)) (edge_is q (suc j) pos)
      (playing (suc j) d less within (positive (edge_clock (begun q) (suc j)) d
      (omega (arith, pre_pos q.registers.spcr0 q.registers.spcr1 (begun q).entry.command (omega (arith, fast q s))))))
    where
      positive : (e d : ℕ) → 0 < e → 0 < e + d
      positive e d h = omega arith
