-- The checker's conditions as facts, and back. Assumes nothing.
use mathlib.Core.Path.{◌≡◌, ap}
use mathlib.Core.Bool.{Bool, true, not, ◌&&◌}
use Prim.Native.Nat.{ℕ, ◌+◌, ◌%◌, ◌^◌}
use lib.Dec.{eqb, ltb, leb}
use borrow.Author.Tests.{ltb-true, leb-true, eqb-true, not-true, lt-ltb, le-leb, eq-eqb}
use Rattle.qspi.specs.model.Fields.{mstr, spbr, spe, wren, pcs_field, bits_of}
use Rattle.qspi.specs.model.Registers.{spcr0_unmodelled}
use Rattle.qsm.proofs.Booleans.{both}
use Rattle.tool_plan.specs.Check.{each, select_no, bits_no, word_no, command_no, sent_no, in_range, ranged, proper, carried, pointed, allowed, clock_of, accepts}
use Rattle.tool_plan.specs.Accepted.{InRange, Proper, Carries, Accepted, Means}
use Rattle.tool_plan.specs.declared.SetPoints.{SetPoints}
use Rattle.tool_plan.specs.declared.Plan.{Plan}
use Rattle.tool_plan.proofs.Each.{left, right, each_at, each_all}

is_in_range : (select bits word : ℕ) → in_range select bits word ≡ true → InRange select bits word
is_in_range select bits word h =
    let a : leb select 15 && leb 8 bits && leb bits 16 ≡ true = left _ (ltb word (2 ^ bits)) h in
    let b : leb select 15 && leb 8 bits ≡ true = left _ (leb bits 16) a in
    record {
      select_most = leb-true _ _ (left _ (leb 8 bits) b);
      bits_least = leb-true _ _ (right (leb select 15) _ b);
      bits_most = leb-true _ _ (right (leb select 15 && leb 8 bits) _ a);
      word_fits = ltb-true _ _ (right (leb select 15 && leb 8 bits && leb bits 16) _ h);
    }

ranged_in : (select bits word : ℕ) → InRange select bits word → in_range select bits word ≡ true
ranged_in select bits word r =
    both _ _ (both _ _ (both _ _ (le-leb _ _ r.select_most) (le-leb _ _ r.bits_least)) (le-leb _ _ r.bits_most))
    (lt-ltb _ _ r.word_fits)

pub is_proper : (s : SetPoints) → proper s ≡ true → Proper s
unfolding proper
is_proper s h =
    let a : leb 1 s.count && leb s.count 16 ≡ true = left _ (each s.count (ranged s)) h in
    record {
      some = leb-true _ _ (left _ (leb s.count 16) a);
      most = leb-true _ _ (right (leb 1 s.count) _ a);
      ranges =
          λ k less.
          is_in_range (select_no s k) (bits_no s k) (word_no s k)
          (each_at s.count (ranged s) (right (leb 1 s.count && leb s.count 16) _ h) k less);
    }

proper_is : (s : SetPoints) → Proper s → proper s ≡ true
unfolding proper
proper_is s p =
    both _ _ (both _ _ (le-leb _ _ p.some) (le-leb _ _ p.most))
    (each_all s.count (ranged s) (λ k less. ranged_in _ _ _ (p.ranges k less)))

carried_in : (s : SetPoints) (p : Plan) (k : ℕ) → carried s p k ≡ true → Carries s p k
carried_in s p k h =
    let a : eqb (pcs_field (command_no p k)) (select_no s k) && eqb (sent_no p k) (word_no s k) ≡ true =
    left _ (eqb (bits_of p.spcr0 (command_no p k)) (bits_no s k)) h in
    record {
      select = eqb-true _ _ (left _ (eqb (sent_no p k) (word_no s k)) a);
      word = eqb-true _ _ (right (eqb (pcs_field (command_no p k)) (select_no s k)) _ a);
      bits = eqb-true _ _ (right (eqb (pcs_field (command_no p k)) (select_no s k) && eqb (sent_no p k) (word_no s k)) _ h);
    }

in_carried : (s : SetPoints) (p : Plan) (k : ℕ) → Carries s p k → carried s p k ≡ true
in_carried s p k c = both _ _ (both _ _ (eq-eqb _ _ c.select) (eq-eqb _ _ c.word)) (eq-eqb _ _ c.bits)

module _ (s : SetPoints) (window : ℕ) (p : Plan) where
  -- The conditions in the checker's order, the first one to the left.
  abbrev c₁ : Bool
  c₁ = proper s

  abbrev c₂ : Bool
  c₂ = c₁ && eqb p.count s.count

  abbrev c₃ : Bool
  c₃ = c₂ && each s.count (carried s p)

  abbrev c₄ : Bool
  c₄ = c₃ && pointed p

  abbrev c₅ : Bool
  c₅ = c₄ && allowed p

  abbrev c₆ : Bool
  c₆ = c₅ && eqb p.clock (clock_of p)

  accepted : accepts s window p ≡ true → Accepted s window p
  unfolding accepts
  accepted h =
      let h₆ : c₆ ≡ true = left c₆ (leb p.clock window) h in
      let h₅ : c₅ ≡ true = left c₅ (eqb p.clock (clock_of p)) h₆ in
      let h₄ : c₄ ≡ true = left c₄ (allowed p) h₅ in
      let h₃ : c₃ ≡ true = left c₃ (pointed p) h₄ in
      let h₂ : c₂ ≡ true = left c₂ (each s.count (carried s p)) h₃ in
      let pointers : pointed p ≡ true = right c₃ (pointed p) h₄ in
      let ends : leb p.first 15 && leb p.last 15 ≡ true =
      left _ (eqb ((p.first + p.count) % 16) ((p.last + 1) % 16)) pointers in
      let a₅ : allowed p ≡ true = right c₄ (allowed p) h₅ in
      let a₄ : leb 2 (spbr p.spcr0) && mstr p.spcr0 && spe p.spcr1 && not (wren p.spcr2) ≡ true =
      left _ (not (spcr0_unmodelled p.spcr0 true)) a₅ in
      let a₃ : leb 2 (spbr p.spcr0) && mstr p.spcr0 && spe p.spcr1 ≡ true = left _ (not (wren p.spcr2)) a₄ in
      let a₂ : leb 2 (spbr p.spcr0) && mstr p.spcr0 ≡ true = left _ (spe p.spcr1) a₃ in
      record {
        proper = is_proper s (left c₁ (eqb p.count s.count) h₂);
        once = eqb-true _ _ (right c₁ (eqb p.count s.count) h₂);
        carries =
            λ k less.
            carried_in s p k (each_at s.count (carried s p) (right c₂ (each s.count (carried s p)) h₃) k less);
        first = leb-true _ _ (left _ (leb p.last 15) ends);
        last = leb-true _ _ (right (leb p.first 15) _ ends);
        consecutive = eqb-true _ _ (right (leb p.first 15 && leb p.last 15) _ pointers);
        rate = leb-true _ _ (left _ (mstr p.spcr0) a₂);
        master = right (leb 2 (spbr p.spcr0)) _ a₂;
        enabled = right (leb 2 (spbr p.spcr0) && mstr p.spcr0) _ a₃;
        no_wrap = not-true _ (right (leb 2 (spbr p.spcr0) && mstr p.spcr0 && spe p.spcr1) _ a₄);
        modelled =
            not-true _
            (right (leb 2 (spbr p.spcr0) && mstr p.spcr0 && spe p.spcr1 && not (wren p.spcr2)) _ a₅);
        clock = eqb-true _ _ (right c₅ (eqb p.clock (clock_of p)) h₆);
        within = leb-true _ _ (right c₆ (leb p.clock window) h);
      }

  accepting : Accepted s window p → accepts s window p ≡ true
  unfolding accepts
  accepting a =
      let pointers : pointed p ≡ true =
      both _ _ (both _ _ (le-leb _ _ a.first) (le-leb _ _ a.last)) (eq-eqb _ _ a.consecutive) in
      let registers : allowed p ≡ true =
      both _ _
      (both _ _ (both _ _ (both _ _ (le-leb _ _ a.rate) a.master) a.enabled) (ap not a.no_wrap))
      (ap not a.modelled) in
      both _ _
      (both _ _
      (both _ _
      (both _ _
      (both _ _ (both _ _ (proper_is s a.proper) (eq-eqb _ _ a.once))
      (each_all s.count (carried s p) (λ k less. in_carried s p k (a.carries k less))))
      pointers)
      registers)
      (eq-eqb _ _ a.clock))
      (le-leb _ _ a.within)

pub means : Means
means s window p = (accepted s window p, accepting s window p)
