-- A converter keeps its word while no later entry with its select has begun. Assumes nothing.
use mathlib.Core.Path.{◌≡◌, refl, sym, ap, subst, ◌∙◌}
use mathlib.Core.Bool.{Bool, true, false, cond, not, ◌&&◌, false≢true}
use Prim.Native.Nat.{ℕ, zero, suc, ◌+◌, ◌-◌, ◌*◌, ◌/◌, ◌%◌, ◌≤◌, ◌<◌}
use native.Mathlib.Nat.{div-div-eq-div-mul}
use native.Mathlib.Omega.{arith}
use lib.Dec.{eqb, leb}
use borrow.Author.Tests.{leb-true, leb-false, eqb-true, eqb-false}
use Rattle.steps.specs.Bits.{bit}
use Rattle.qspi.specs.model.Fields.{cpol, cpha}
use Rattle.qsm.specs.model.Event.{answer_of}
use Rattle.qsm.specs.claims.PinClauses.{high}
use Rattle.qsm.specs.declared.state.Module.{Module}
use Rattle.qsm.specs.declared.event.Answer.{Answer}
use Rattle.qsm.proofs.Booleans.{on}
use Rattle.tool_plan.specs.Check.{select_no, bits_no, word_no}
use Rattle.tool_plan.specs.Accepted.{Accepted}
use Rattle.tool_plan.specs.Running.{start_of, edge_no, Within, Does}
use Rattle.tool_plan.specs.declared.SetPoints.{SetPoints}
use Rattle.tool_plan.specs.declared.Plan.{Plan}
use Rattle.claims_plans.specs.Converter.{Converter, same, chosen, shifted, holds_at, converter_for, Wired}
use Rattle.claims_plans.proofs.Shifting.{same_itself, same_other, kept, other_edge, not_taken, grows, in_order}
use Rattle.claims_plans.proofs.Converting.{sck_in, pcs_in, arrived}

-- ---- another select

two_of : (a b : Bool) → a && b ≡ true → (a ≡ true) × (b ≡ true)
two_of true b h = (refl, h)
two_of false b h = absurd (false≢true h)

bits_agree : (a b : ℕ) → a < 2 → b < 2 → same (eqb a 1) (eqb b 1) ≡ true → a ≡ b
bits_agree a b few small h =
    on (eqb a 1)
    (λ e. omega (arith, eqb-true a 1 e, eqb-true b 1 (rw e at h)))
    (λ e.
    let x : a ≡ 1 → ⊥ = eqb-false a 1 e in
    on (eqb b 1) (λ f. absurd (false≢true (rw (e, f) at h))) (λ f. let y : b ≡ 1 → ⊥ = eqb-false b 1 f in omega arith))

split : (x h : ℕ) → x / 2 ≡ h → x ≡ h * 2 + x % 2
split x h e = omega arith

sums : (v a b c k l m n : ℕ) → v ≡ a * 2 + k → a ≡ b * 2 + l → b ≡ c * 2 + m → n ≡ c → v ≡ k + l * 2 + m * 4 + n * 8
sums v a b c k l m n e f g h = omega arith

-- A number of four bits by its bits.
digits : (v : ℕ) → v < 16 → v ≡ v / 1 % 2 + v / 2 % 2 * 2 + v / 4 % 2 * 4 + v / 8 % 2 * 8
digits v small =
    let two : v / 2 ≡ v / 4 * 2 + v / 2 % 2 = split (v / 2) (v / 4) (div-div-eq-div-mul v 2 2) in
    let four : v / 4 ≡ v / 8 * 2 + v / 4 % 2 = split (v / 4) (v / 8) (div-div-eq-div-mul v 4 2) in
    let eight : v / 8 % 2 ≡ v / 8 = omega arith in
    let one : v ≡ v / 2 * 2 + v / 1 % 2 = omega arith in
    sums v (v / 2) (v / 4) (v / 8) (v / 1 % 2) (v / 2 % 2) (v / 4 % 2) (v / 8 % 2) one two four eight

module _ (u v : ℕ) (few : u < 16) (small : v < 16) (other : u ≡ v → ⊥) where
  agree : same (bit 0 u) (bit 0 v) && (same (bit 1 u) (bit 1 v) && (same (bit 2 u) (bit 2 v) && same (bit 3 u) (bit 3 v))) ≡ true → ⊥
  agree h =
      let first = two_of (same (bit 0 u) (bit 0 v)) (same (bit 1 u) (bit 1 v) && (same (bit 2 u) (bit 2 v) && same (bit 3 u) (bit 3 v))) h in
      let second = two_of (same (bit 1 u) (bit 1 v)) (same (bit 2 u) (bit 2 v) && same (bit 3 u) (bit 3 v)) first.1 in
      let third = two_of (same (bit 2 u) (bit 2 v)) (same (bit 3 u) (bit 3 v)) second.1 in
      let b₀ : u / 1 % 2 ≡ v / 1 % 2 = bits_agree (u / 1 % 2) (v / 1 % 2) (omega arith) (omega arith) first.0 in
      let b₁ : u / 2 % 2 ≡ v / 2 % 2 = bits_agree (u / 2 % 2) (v / 2 % 2) (omega arith) (omega arith) second.0 in
      let b₂ : u / 4 % 2 ≡ v / 4 % 2 = bits_agree (u / 4 % 2) (v / 4 % 2) (omega arith) (omega arith) third.0 in
      let b₃ : u / 8 % 2 ≡ v / 8 % 2 = bits_agree (u / 8 % 2) (v / 8 % 2) (omega arith) (omega arith) third.1 in
      other (digits u few ∙ rw (b₀, b₁, b₂, b₃) (sym (digits v small)))

  not_chosen : (a : Answer) → ((q : ℕ) → q < 4 → high a (3 + q) ≡ bit q u) → chosen v a ≡ false
  not_chosen a shown =
      on (chosen v a)
      (λ h. absurd (agree (rw (shown 0 (omega arith), shown 1 (omega arith), shown 2 (omega arith), shown 3 (omega arith)) at h)))
      (λ h. h)

-- The edge of an entry that fell last.
edge_of : (p : Plan) (k c m : ℕ) → start_of p k ≤ c → c < edge_no p k m → (i : ℕ) × (i < m) × (edge_no p k i ≤ c) × (c < edge_no p k (suc i))
edge_of p k c zero low next = absurd (omega arith)
edge_of p k c (suc m) low next =
    on (leb (edge_no p k m) c)
    (λ h. (m, omega arith, leb-true (edge_no p k m) c h, next))
    (λ h.
    let before = edge_of p k c m low (leb-false (edge_no p k m) c h) in
    (before.0, omega (arith, before.1), before.2, before.3))

module _ (s : SetPoints) (window : ℕ) (p : Plan) (a : Accepted s window p) (x : ℕ → Module) (t : ℕ)
    (ok : (c : ℕ) → c ≤ t → Does s p (x c) c) (wired : (c : ℕ) → c ≤ t → Wired (x c))
    (start : high (answer_of (x 0) 0 0) 2 ≡ cpol p.spcr0) (rest : Bool)
    (port : (c : ℕ) → p.clock ≤ c → c ≤ t → high (answer_of (x c) 0 0) 2 ≡ rest)
    (ending : (k : ℕ) → suc k ≡ s.count → p.clock ≡ edge_no p k (bits_no s k * 2)) (k : ℕ) (less : k < s.count) where
  abbrev pins : ℕ → Answer
  pins c = answer_of (x c) 0 0

  abbrev v : Converter
  v = converter_for s p k

  -- One clock in an entry with another select.
  module _ (j c y : ℕ) (in-plan : j < s.count) (other : select_no s j ≡ select_no s k → ⊥) (low : start_of p j ≤ c)
      (next : c < edge_no p j (bits_no s j * 2)) (in_time_holds : suc c ≤ t) where
    -- Where the pins show the entry's select.
    elsewhere : (i d : ℕ) → i < bits_no s j * 2 → Within p j i d → d ≤ t → chosen (select_no s k) (pins d) ≡ false
    elsewhere i d few w most =
        not_chosen (select_no s j) (select_no s k) (omega (arith, (a.proper.ranges j in-plan).select_most)) (omega (arith, (a.proper.ranges k less).select_most)) other
        (pins d) (λ q four. pcs_in s window p a x t ok wired start j in-plan i d q few w most four)

    -- From edge i to the next.
    module _ (i : ℕ) (few : i < bits_no s j * 2) (fallen : edge_no p j i ≤ c) (before : c < edge_no p j (suc i)) where
      sck_now : high (pins c) 2 ≡ cond (eqb (i % 2) 1) (not (cpol p.spcr0)) (cpol p.spcr0)
      sck_now = sck_in s window p a x t ok wired start j in-plan i c few fallen before (omega arith)

      no_edge : suc c < edge_no p j (suc i) → shifted v (pins c) (pins (suc c)) y ≡ y
      no_edge more =
          kept v (pins c) (pins (suc c)) y
          (sck_in s window p a x t ok wired start j in-plan i (suc c) few (omega arith) more in_time_holds ∙ sym sck_now)

      at_edge : edge_no p j (suc i) ≡ suc c → shifted v (pins c) (pins (suc c)) y ≡ y
      at_edge here =
          on (cpha p.spcr0)
          (λ ph.
          on (eqb (i % 2) 1)
          (λ odd.
          let some : 1 ≤ i = omega (arith, eqb-true (i % 2) 1 odd) in
          not_taken v (pins c) (pins (suc c)) y
          (rw ph
          (elsewhere i c few
          (record {
            begun = omega (arith, grows p a.rate j 0, in_order p a.rate j 1 i some);
            fallen = fallen;
            next = before;
          })
          (omega arith))))
          (λ even. other_edge v (pins c) (pins (suc c)) y (rw (sck_now, even, ph) (same_itself (cpol p.spcr0)))))
          (λ ph.
          on (eqb (i % 2) 1)
          (λ odd. other_edge v (pins c) (pins (suc c)) y (rw (sck_now, odd, ph) (same_other (cpol p.spcr0))))
          (λ even.
          let parity : i % 2 ≡ 1 → ⊥ = eqb-false (i % 2) 1 even in
          not_taken v (pins c) (pins (suc c)) y
          (rw ph
          (elsewhere (suc i) (suc c) (omega arith)
          (record { begun = omega arith; fallen = omega (arith, here); next = omega (arith, here, grows p a.rate j (suc i)) }) in_time_holds))))

    in_entry : shifted v (pins c) (pins (suc c)) y ≡ y
    in_entry =
        let last = edge_of p j c (bits_no s j * 2) low next in
        let i : ℕ = last.0 in
        on (leb (edge_no p j (suc i)) (suc c))
        (λ h.
        at_edge i last.1 last.2 last.3 (omega (arith, leb-true (edge_no p j (suc i)) (suc c) h, last.3)))
        (λ h. no_edge i last.1 last.2 last.3 (leb-false (edge_no p j (suc i)) (suc c) h))

  -- One clock after entry k.
  module _ (c y : ℕ) (in_time_holds : suc c ≤ t) (over : edge_no p k (bits_no s k * 2) ≤ c)
      (others : (j : ℕ) → k < j → j < s.count → start_of p j < suc c → select_no s j ≡ select_no s k → ⊥) where
    from_entry : (f j : ℕ) → f + j ≡ s.count → j < s.count → k ≤ j → start_of p j ≤ c → shifted v (pins c) (pins (suc c)) y ≡ y
    from_entry zero j sum in-plan late low = absurd (omega arith)
    from_entry (suc f) j sum in-plan late low =
        on (leb (edge_no p j (bits_no s j * 2)) c)
        (λ h.
        let past : edge_no p j (bits_no s j * 2) ≤ c = leb-true _ c h in
        on (eqb (suc j) s.count)
        (λ l.
        let stated : p.clock ≡ edge_no p j (bits_no s j * 2) = ending j (eqb-true (suc j) s.count l) in
        kept v (pins c) (pins (suc c)) y (port (suc c) (omega arith) in_time_holds ∙ sym (port c (omega arith) (omega arith))))
        (λ l.
        let differs : suc j ≡ s.count → ⊥ = eqb-false (suc j) s.count l in
        let more : suc j < s.count = omega arith in
        on (leb (start_of p (suc j)) c)
        (λ b. from_entry f (suc j) (omega arith) more (omega arith) (leb-true (start_of p (suc j)) c b))
        (λ b.
        let soon : c < start_of p (suc j) = leb-false (start_of p (suc j)) c b in
        kept v (pins c) (pins (suc c)) y
        (((ok (suc c) in_time_holds).rests j more (omega arith) (omega arith)).1 ∙ sym ((ok c (omega arith)).rests j more past (omega arith)).1))))
        (λ h.
        let within : c < edge_no p j (bits_no s j * 2) = leb-false _ c h in
        on (eqb j k)
        (λ e. absurd (omega (arith, subst (λ (z : ℕ). c < edge_no p z (bits_no s z * 2)) (eqb-true j k e) within, over)))
        (λ e.
        let differs : j ≡ k → ⊥ = eqb-false j k e in
        in_entry j c y in-plan (others j (omega arith) in-plan (omega arith)) low within in_time_holds))

    one_clock_holds : shifted v (pins c) (pins (suc c)) y ≡ y
    one_clock_holds =
        from_entry (s.count - k) k (omega arith) less (omega arith)
        (omega (arith, in_order p a.rate k 0 (bits_no s k * 2) (omega arith)))

  module _ (r : ℕ) (ends : cpha p.spcr0 ≡ true → high (pins (edge_no p k (bits_no s k * 2))) 2 ≡ cpol p.spcr0) where
    pub keeps : (d : ℕ) → edge_no p k (bits_no s k * 2) + d ≤ t →
        ((j : ℕ) → k < j → j < s.count → start_of p j < edge_no p k (bits_no s k * 2) + d → select_no s j ≡ select_no s k → ⊥) →
        holds_at v pins r (edge_no p k (bits_no s k * 2) + d) ≡ word_no s k
    unfolding holds_at
    keeps zero most others =
        let sum : edge_no p k (bits_no s k * 2) + 0 ≡ edge_no p k (bits_no s k * 2) = omega arith in
        ap (holds_at v pins r) sum ∙ arrived s window p a x t ok wired start k r less (omega arith) ends
    keeps (suc d) most others =
        let c : ℕ = edge_no p k (bits_no s k * 2) + d in
        let sum : edge_no p k (bits_no s k * 2) + suc d ≡ suc c = omega arith in
        ap (holds_at v pins r) sum
        ∙ one_clock_holds c (holds_at v pins r c) (omega arith) (omega arith) (λ j late in-plan begun. others j late in-plan (omega arith))
        ∙ keeps d (omega arith) (λ j late in-plan begun. others j late in-plan (omega arith))
