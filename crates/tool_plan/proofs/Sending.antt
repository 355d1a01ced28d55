-- What a loaded plan puts on MOSI, SCK and the PCS, entry by entry, from the laws of an entry. Assumes nothing.
use mathlib.Core.Path.{◌≡◌, refl, sym, ap, subst, ◌∙◌}
use mathlib.Core.Bool.{Bool, true, false, cond, not}
use Prim.Native.Nat.{ℕ, zero, suc, ◌+◌, ◌-◌, ◌*◌, ◌%◌, ◌≤◌, ◌<◌}
use native.Mathlib.Nat.{suc-mul}
use native.Mathlib.Omega.{arith}
use lib.Dec.{eqb}
use Rattle.steps.specs.Bits.{bit}
use Rattle.qspi.specs.model.Fields.{cpol, cpha, spbr, spe, pcs_field, bits_of, pre_delay}
use Rattle.qspi.specs.model.Queue.{begun}
use Rattle.qspi.specs.model.Outputs.{sck, pcs}
use Rattle.qspi.specs.claims.Run.{run, bits_in, edge_at, edge_clock, gap, bit_shown}
use Rattle.qspi.specs.claims.Laws.{Calm}
use Rattle.qspi.specs.declared.Qspi.{Qspi}
use Rattle.qspi.specs.declared.Pins.{Pins}
use Rattle.qspi.proofs.Bounds.{pre_pos}
use Rattle.qspi.proofs.Edges.{edges_fall}
use Rattle.qspi.proofs.Lines.{sck_turns, pcs_show}
use Rattle.qspi.proofs.Mosi.{mosi_shows}
use Rattle.tool_plan.specs.Check.{select_no, bits_no, word_no, command_no}
use Rattle.tool_plan.specs.Accepted.{Accepted}
use Rattle.tool_plan.specs.Running.{start_of, edge_no, Within, read_in}
use Rattle.tool_plan.specs.declared.SetPoints.{SetPoints}
use Rattle.tool_plan.specs.declared.Plan.{Plan}
use Rattle.tool_plan.proofs.AtEntry.{AtEntry}

-- The clocks from edge j to the next.
abbrev gap_by : ℕ → ℕ → ℕ → ℕ
gap_by pre rate zero = pre
gap_by pre rate (suc j) = rate

next_edge : (pre rate j : ℕ) → edge_at pre rate (suc j) ≡ edge_at pre rate j + gap_by pre rate j
next_edge pre rate zero = omega arith
next_edge pre rate (suc j) = omega (arith, suc-mul j rate)

gap_is : (e : Qspi) (j : ℕ) → gap e j ≡ gap_by (pre_delay e.registers.spcr0 e.registers.spcr1 e.entry.command) (spbr e.registers.spcr0) j
gap_is e zero = refl
gap_is e (suc j) = refl

-- What the queue puts out when j edges of entry k have fallen.
pub record Shows (s : SetPoints) (p : Plan) (k j : ℕ) (r : Qspi) : Type 0 where
  pub on : spe r.registers.spcr1 ≡ true
  pub clock : sck r ≡ cond (eqb (j % 2) 1) (not (cpol p.spcr0)) (cpol p.spcr0)
  pub select : (portqs : ℕ) → pcs r portqs ≡ select_no s k
  pub data_out : (cpha p.spcr0 ≡ true → 0 < j) →
      r.entry.mosi ≡ bit (bits_no s k - 1 - bit_shown (cpha p.spcr0) j) (word_no s k)

module _ (s : SetPoints) (window : ℕ) (p : Plan) (a : Accepted s window p) (q r : Qspi) (pins : ℕ → Pins) (calm : Calm pins)
    (k j c : ℕ) (less : k < s.count) (few : j < bits_no s k * 2) (w : Within p k j c) (at : AtEntry p q pins k r) where
  abbrev later : ℕ → Pins
  later i = pins (start_of p k + i)

  calm_later : Calm later
  calm_later i = calm (start_of p k + i)

  bits_is : bits_in (begun r) ≡ bits_no s k
  bits_is = at.like (λ x y z. bits_of x z) ∙ (a.carries k less).bits

  -- Clock c is d clocks after edge j.
  abbrev d : ℕ
  d = c - edge_no p k j

  edge_is : edge_clock (begun r) j ≡ edge_at (pre_delay p.spcr0 p.spcr1 (command_no p k)) (spbr p.spcr0) j
  edge_is = at.like (λ x y z. edge_at (pre_delay x y z) (spbr x) j)

  within_gap : d < gap (begun r) j
  within_gap =
      subst (λ (g : ℕ). d < g) (sym (gap_is (begun r) j ∙ at.like (λ x y z. gap_by (pre_delay x y z) (spbr x) j)))
      (omega (arith, w.fallen, w.next, next_edge (pre_delay p.spcr0 p.spcr1 (command_no p k)) (spbr p.spcr0) j))

  some : 0 < edge_clock (begun r) j + d
  some = omega (arith, edge_is, w.begun, w.fallen)

  few_edges : j < bits_in (begun r) * 2
  few_edges = subst (λ (n : ℕ). j < n * 2) (sym bits_is) few

  moved : run pins c q ≡ run later (edge_clock (begun r) j + d) r
  moved =
      let sum : c ≡ start_of p k + (edge_clock (begun r) j + d) = omega (arith, edge_is, w.fallen) in
      ap (λ (x : ℕ). run pins x q) sum ∙ at.moved (edge_clock (begun r) j + d)

  pub shows : Shows s p k j (run pins c q)
  shows =
      let spcr0_is : r.registers.spcr0 ≡ p.spcr0 = at.like (λ x y z. x) in
      subst (Shows s p k j) (sym moved)
      (record {
        on =
            ap (λ x. spe x.registers.spcr1) (edges_fall r later at.starts calm_later j d few_edges within_gap some)
            ∙ at.starts.on;
        clock =
            sck_turns r later at.starts calm_later j d few_edges within_gap some
            ∙ ap (λ (x : ℕ). cond (eqb (j % 2) 1) (not (cpol x)) (cpol x)) spcr0_is;
        select =
            λ portqs.
            pcs_show r later at.starts calm_later j d portqs few_edges within_gap some
            ∙ ap pcs_field (at.like (λ x y z. z)) ∙ (a.carries k less).select;
        data_out =
            λ out.
            mosi_shows r later at.starts calm_later j d few_edges within_gap some (λ e. out (sym (ap cpha spcr0_is) ∙ e))
            ∙ ap (λ (x : ℕ). bit (bits_in (begun r) - 1 - bit_shown (cpha x) j) (begun r).entry.word) spcr0_is
            ∙ ap (λ (x : ℕ). bit (x - 1 - bit_shown (cpha p.spcr0) j) (begun r).entry.word) bits_is
            ∙ ap (bit (bits_no s k - 1 - bit_shown (cpha p.spcr0) j)) (at.word ∙ (a.carries k less).word);
      })

-- ---- where bit i is read

pub bit_read : (cpha : Bool) (i : ℕ) → bit_shown cpha (i * 2 + 1) ≡ i
bit_read true i = omega arith
bit_read false i = omega arith

-- Bit i is read when edge 2i + 1 has fallen and the next hasn't.
module _ (p : Plan) (rate : 2 ≤ spbr p.spcr0) (k i : ℕ) where
  abbrev pre : ℕ
  pre = pre_delay p.spcr0 p.spcr1 (command_no p k)

  read_within : (b : Bool) → Within p k (i * 2 + 1) (cond b (edge_no p k (i * 2 + 2) - 1) (edge_no p k (i * 2 + 1)))
  read_within b =
      let odd : i * 2 + 1 ≡ suc (i * 2) = omega arith in
      let even : i * 2 + 2 ≡ suc (i * 2 + 1) = omega arith in
      let first : edge_at pre (spbr p.spcr0) (i * 2 + 1) ≡ pre + i * 2 * spbr p.spcr0 =
      ap (edge_at pre (spbr p.spcr0)) odd in
      let second : edge_at pre (spbr p.spcr0) (i * 2 + 2) ≡ edge_at pre (spbr p.spcr0) (i * 2 + 1) + spbr p.spcr0 =
      ap (edge_at pre (spbr p.spcr0)) even ∙ next_edge pre (spbr p.spcr0) (i * 2 + 1)
      ∙ ap (λ (x : ℕ). edge_at pre (spbr p.spcr0) (i * 2 + 1) + gap_by pre (spbr p.spcr0) x) odd in
      let third : edge_at pre (spbr p.spcr0) (suc (i * 2 + 1)) ≡ edge_at pre (spbr p.spcr0) (i * 2 + 2) =
      ap (edge_at pre (spbr p.spcr0)) (sym even) in
      let some : 1 ≤ pre = pre_pos p.spcr0 p.spcr1 (command_no p k) (omega arith) in
      by_phase b
      (record { begun = omega arith; fallen = omega arith; next = omega arith })
      (record { begun = omega arith; fallen = omega arith; next = omega arith })
    where
      by_phase : (b : Bool) → Within p k (i * 2 + 1) (edge_no p k (i * 2 + 2) - 1) → Within p k (i * 2 + 1) (edge_no p k (i * 2 + 1)) →
          Within p k (i * 2 + 1) (cond b (edge_no p k (i * 2 + 2) - 1) (edge_no p k (i * 2 + 1)))
      by_phase true x y = x
      by_phase false x y = y

  pub read_in_holds : Within p k (i * 2 + 1) (read_in p k i)
  read_in_holds = read_within (cpha p.spcr0)
