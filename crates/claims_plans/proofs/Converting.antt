-- A converter on the pins of a plan that does what it says. Assumes nothing.
use mathlib.Core.Path.{◌≡◌, refl, sym, ap, subst, ◌∙◌}
use mathlib.Core.Bool.{Bool, true, cond, not}
use Prim.Native.Nat.{ℕ, zero, suc, ◌+◌, ◌-◌, ◌*◌, ◌%◌, ◌^◌, ◌≤◌, ◌<◌}
use native.Mathlib.Omega.{arith}
use lib.Dec.{eqb, leb}
use borrow.Author.Tests.{leb-true, leb-false, eqb-true, eqb-false, eq-eqb, ne_eqb}
use Rattle.steps.specs.Bits.{bit, digit}
use Rattle.qspi.specs.model.Fields.{cpol, cpha}
use Rattle.qsm.specs.model.Event.{answer_of}
use Rattle.qsm.specs.claims.PinClauses.{high}
use Rattle.qsm.specs.declared.state.Module.{Module}
use Rattle.qsm.specs.declared.event.Answer.{Answer}
use Rattle.qsm.proofs.Booleans.{on}
use Rattle.tool_plan.specs.Check.{select_no, bits_no, word_no, clock_before}
use Rattle.tool_plan.specs.Accepted.{Accepted}
use Rattle.tool_plan.specs.Running.{start_of, edge_no, Within, read_in, Does}
use Rattle.tool_plan.specs.declared.SetPoints.{SetPoints}
use Rattle.tool_plan.specs.declared.Plan.{Plan}
use Rattle.tool_plan.proofs.Sending.{read_in_holds}
use Rattle.claims_plans.specs.Converter.{Converter, chosen, shifted, holds_at, converter_for, Wired}
use Rattle.claims_plans.proofs.Gathered.{gathered, gathers_in, gathered_none, gathered_again, gathered_all}
use Rattle.claims_plans.proofs.Shifting.{same_itself, same_other, leads, comes_back, kept, other_edge, taken, grows, in_order, edge_in}

module _ (s : SetPoints) (window : ℕ) (p : Plan) (a : Accepted s window p) (x : ℕ → Module) (t : ℕ)
    (ok : (c : ℕ) → c ≤ t → Does s p (x c) c) (wired : (c : ℕ) → c ≤ t → Wired (x c))
    (start : high (answer_of (x 0) 0 0) 2 ≡ cpol p.spcr0) where
  abbrev pins : ℕ → Answer
  pins c = answer_of (x c) 0 0

  at_start : (k : ℕ) → k < s.count → start_of p k ≤ t → high (pins (start_of p k)) 2 ≡ cpol p.spcr0
  unfolding clock_before
  at_start zero less until = start
  at_start (suc k) less until = ((ok (start_of p (suc k)) until).rests k less (edge_in s window p a k (omega arith)) (omega arith)).1

  -- SCK from edge j of entry k up to the next.
  pub sck_in : (k : ℕ) → k < s.count → (j c : ℕ) → j < bits_no s k * 2 → edge_no p k j ≤ c → c < edge_no p k (suc j) → c ≤ t →
      high (pins c) 2 ≡ cond (eqb (j % 2) 1) (not (cpol p.spcr0)) (cpol p.spcr0)
  sck_in k less zero c few low next in_time_holds =
      on (leb c (start_of p k))
      (λ h.
      let here : start_of p k ≡ c = omega (arith, leb-true c (start_of p k) h) in
      subst (λ (y : ℕ). high (pins y) 2 ≡ cpol p.spcr0) here (at_start k less (omega arith)))
      (λ h. ((ok c in_time_holds).clocks k 0 less few (record { begun = leb-false c (start_of p k) h; fallen = low; next = next })).1)
  sck_in k less (suc j) c few low next in_time_holds =
      let begun : start_of p k < c = omega (arith, grows p a.rate k 0, in_order p a.rate k 1 (suc j) (omega arith)) in
      ((ok c in_time_holds).clocks k (suc j) less few (record { begun = begun; fallen = low; next = next })).1

  -- The PCS in entry k.
  pub pcs_in : (k : ℕ) → k < s.count → (j c q : ℕ) → j < bits_no s k * 2 → Within p k j c → c ≤ t → q < 4 →
      high (pins c) (3 + q) ≡ bit q (select_no s k)
  pcs_in k less j c q few w in_time_holds four =
      let o = (ok c in_time_holds).selects k j q less few w four ((wired c in_time_holds).assigned q four) in
      o.1 (o.0 ∙ (wired c in_time_holds).output q four)

  module _ (k r : ℕ) (less : k < s.count) (until : edge_no p k (bits_no s k * 2) ≤ t)
      (ends : cpha p.spcr0 ≡ true → high (pins (edge_no p k (bits_no s k * 2))) 2 ≡ cpol p.spcr0) where
    abbrev n : ℕ
    n = bits_no s k

    abbrev e : ℕ → ℕ
    e j = edge_no p k j

    abbrev v : Converter
    v = converter_for s p k

    abbrev register : ℕ → ℕ
    register c = holds_at v pins r c

    abbrev level : ℕ → Bool
    level j = cond (eqb (j % 2) 1) (not (cpol p.spcr0)) (cpol p.spcr0)

    -- SCK from edge j up to the next.
    sck_at : (j c : ℕ) → j < n * 2 → e j ≤ c → c < e (suc j) → high (pins c) 2 ≡ level j
    sck_at j c few low next = sck_in k less j c few low next (omega (arith, in_order p a.rate k (suc j) (n * 2) few))

    -- No edge, no shift.
    still : (j d : ℕ) → j < n * 2 → e j + d < e (suc j) → register (e j + d) ≡ register (e j)
    unfolding holds_at
    still j zero few before = let sum : e j + 0 ≡ e j = omega arith in ap register sum
    still j (suc d) few before =
        let sum : e j + suc d ≡ suc (e j + d) = omega arith in
        ap register sum
        ∙ kept v (pins (e j + d)) (pins (suc (e j + d))) (register (e j + d))
        (sck_at j (suc (e j + d)) few (omega arith) (omega arith) ∙ sym (sck_at j (e j + d) few (omega arith) (omega arith)))
        ∙ still j d few (omega arith)

    -- From edge j to the next.
    over_edge : (j : ℕ) → j < n * 2 → register (e (suc j)) ≡ shifted v (pins (e (suc j) - 1)) (pins (e (suc j))) (register (e j))
    unfolding holds_at
    over_edge j few =
        let up = grows p a.rate k j in
        let last : e j + (e (suc j) - 1 - e j) ≡ e (suc j) - 1 = omega arith in
        let sum : suc (e (suc j) - 1) ≡ e (suc j) = omega arith in
        ap register (sym sum)
        ∙ ap (λ (y : ℕ). shifted v (pins (e (suc j) - 1)) (pins y) (register (e (suc j) - 1))) sum
        ∙ ap (shifted v (pins (e (suc j) - 1)) (pins (e (suc j)))) (ap register (sym last) ∙ still j (e (suc j) - 1 - e j) few (omega arith))

    -- What stands on the pins where bit i is read.
    on_pins : (i : ℕ) → i < n →
        (chosen (select_no s k) (pins (read_in p k i)) ≡ true) × (high (pins (read_in p k i)) 1 ≡ bit (n - 1 - i) (word_no s k))
    on_pins i few =
        let c : ℕ = read_in p k i in
        let w : Within p k (i * 2 + 1) c = read_in_holds p a.rate k i in
        let in_time_holds : c ≤ t = omega (arith, w.next, in_order p a.rate k (suc (i * 2 + 1)) (n * 2) (omega arith)) in
        let shown : (q : ℕ) → q < 4 → high (pins c) (3 + q) ≡ bit q (select_no s k) =
        (λ q four. pcs_in k less (i * 2 + 1) c q (omega arith) w in_time_holds four) in (
          rw (
            shown 0 (omega arith),
            shown 1 (omega arith),
            shown 2 (omega arith),
            shown 3 (omega arith),
            same_itself (bit 0 (select_no s k)),
            same_itself (bit 1 (select_no s k)),
            same_itself (bit 2 (select_no s k)),
            same_itself (bit 3 (select_no s k)),
          ),
          ((ok c in_time_holds).sends k i less few refl).1,
        )

    even_level : (i : ℕ) → level (i * 2) ≡ cpol p.spcr0
    even_level i = rw (ne_eqb (i * 2 % 2) 1 (omega arith))

    odd_level : (i : ℕ) → level (suc (i * 2)) ≡ not (cpol p.spcr0)
    odd_level i = rw (eq-eqb (suc (i * 2) % 2) 1 (omega arith))

    -- One bit, over its two edges.
    module _ (i : ℕ) (few : i < n) where
      abbrev j : ℕ
      j = i * 2

      before_odd : high (pins (e (suc j) - 1)) 2 ≡ cpol p.spcr0
      before_odd = sck_at j (e (suc j) - 1) (omega arith) (omega (arith, grows p a.rate k j)) (omega (arith, grows p a.rate k j)) ∙ even_level i

      at_odd : high (pins (e (suc j))) 2 ≡ not (cpol p.spcr0)
      at_odd = sck_at (suc j) (e (suc j)) (omega arith) (omega arith) (grows p a.rate k (suc j)) ∙ odd_level i

      before_even : high (pins (e (suc (suc j)) - 1)) 2 ≡ not (cpol p.spcr0)
      before_even =
          sck_at (suc j) (e (suc (suc j)) - 1) (omega arith) (omega (arith, grows p a.rate k (suc j))) (omega (arith, grows p a.rate k (suc j)))
          ∙ odd_level i

      at_even : cpha p.spcr0 ≡ true → high (pins (e (suc (suc j)))) 2 ≡ cpol p.spcr0
      at_even ph =
          let two : suc i * 2 ≡ suc (suc j) = omega arith in
          on (eqb (suc i) n)
          (λ h. subst (λ (y : ℕ). high (pins (e y)) 2 ≡ cpol p.spcr0) (ap (λ (y : ℕ). y * 2) (sym (eqb-true (suc i) n h)) ∙ two) (ends ph))
          (λ h.
          let other : suc i ≡ n → ⊥ = eqb-false (suc i) n h in
          subst (λ (y : ℕ). high (pins (e y)) 2 ≡ cpol p.spcr0) two
          (sck_at (suc i * 2) (e (suc i * 2)) (omega arith) (omega arith) (grows p a.rate k (suc i * 2)) ∙ even_level (suc i)))

      abbrev b : Bool
      b = bit (n - 1 - i) (word_no s k)

      one_bit : register (e (suc (suc j))) ≡ (register (e j) * 2 + digit b) % 2 ^ n
      one_bit =
          on (cpha p.spcr0)
          (λ ph.
          let here : read_in p k i ≡ e (suc (suc j)) - 1 =
          let even : i * 2 + 2 ≡ suc (suc j) = omega arith in
          ap (λ (y : Bool). cond y (edge_no p k (i * 2 + 2) - 1) (edge_no p k (i * 2 + 1))) ph ∙ ap (λ (y : ℕ). e y - 1) even in
          over_edge (suc j) (omega arith)
          ∙ taken v (pins (e (suc (suc j)) - 1)) (pins (e (suc (suc j)))) (register (e (suc j))) b
          (rw (ph, before_even, at_even ph) (comes_back (cpol p.spcr0)))
          (rw ph (subst (λ (y : ℕ). chosen (select_no s k) (pins y) ≡ true) here (on_pins i few).0))
          (rw ph (subst (λ (y : ℕ). high (pins y) 1 ≡ b) here (on_pins i few).1))
          ∙ ap (λ (y : ℕ). (y * 2 + digit b) % 2 ^ n)
          (over_edge j (omega arith)
          ∙ other_edge v (pins (e (suc j) - 1)) (pins (e (suc j))) (register (e j)) (rw (before_odd, ph) (same_itself (cpol p.spcr0)))))
          (λ ph.
          let here : read_in p k i ≡ e (suc j) =
          let odd : i * 2 + 1 ≡ suc j = omega arith in
          ap (λ (y : Bool). cond y (edge_no p k (i * 2 + 2) - 1) (edge_no p k (i * 2 + 1))) ph ∙ ap e odd in
          over_edge (suc j) (omega arith)
          ∙ other_edge v (pins (e (suc (suc j)) - 1)) (pins (e (suc (suc j)))) (register (e (suc j)))
          (rw (before_even, ph) (same_other (cpol p.spcr0)))
          ∙ over_edge j (omega arith)
          ∙ taken v (pins (e (suc j) - 1)) (pins (e (suc j))) (register (e j)) b
          (rw (ph, before_odd, at_odd) (leads (cpol p.spcr0)))
          (rw ph (subst (λ (y : ℕ). chosen (select_no s k) (pins y) ≡ true) here (on_pins i few).0))
          (rw ph (subst (λ (y : ℕ). high (pins y) 1 ≡ b) here (on_pins i few).1)))

    small : word_no s k < 2 ^ n
    small = (a.proper.ranges k less).word_fits

    -- The first i bits are in.
    so_far : (i : ℕ) → i ≤ n → register (e (i * 2)) % 2 ^ n ≡ gathered (word_no s k) n (register (e 0)) i
    so_far zero few = gathered_none (word_no s k) n (register (e 0)) small
    so_far (suc i) few =
        let two : suc i * 2 ≡ suc (suc (i * 2)) = omega arith in
        ap (λ (y : ℕ). register (e y) % 2 ^ n) two
        ∙ ap (λ (y : ℕ). y % 2 ^ n)
        (one_bit i few ∙ gathers_in (word_no s k) n (register (e 0)) i (register (e (i * 2))) few (so_far i (omega arith)))
        ∙ gathered_again (word_no s k) n (register (e 0)) (suc i)

    pub arrived : register (e (n * 2)) ≡ word_no s k
    arrived =
        let some : 8 ≤ n = (a.proper.ranges k less).bits_least in
        let last : n * 2 ≡ suc (suc ((n - 1) * 2)) = omega arith in
        let all : suc (n - 1) ≡ n = omega arith in
        ap (λ (y : ℕ). register (e y)) last
        ∙ one_bit (n - 1) (omega arith)
        ∙ gathers_in (word_no s k) n (register (e 0)) (n - 1) (register (e ((n - 1) * 2))) (omega arith) (so_far (n - 1) (omega arith))
        ∙ ap (gathered (word_no s k) n (register (e 0))) all
        ∙ gathered_all (word_no s k) n (register (e 0)) small
