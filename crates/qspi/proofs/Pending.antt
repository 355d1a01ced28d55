-- A write touching NEWQP within an entry that goes on. Assumes nothing.
use mathlib.Core.Path.{◌≡◌, sym, ap, subst, ◌∙◌}
use mathlib.Core.Bool.{true, true≢false}
use Prim.Native.Nat.{ℕ, zero, suc, ◌+◌, ◌-◌, ◌*◌, ◌<◌}
use native.Mathlib.Omega.{arith}
use lib.Dec.{ltb}
use borrow.Author.Tests.{ltb-true, ltb-false}
use Rattle.qspi.specs.model.Registers.{write_spcr2}
use Rattle.qspi.specs.model.Queue.{begun}
use Rattle.qspi.specs.claims.Run.{run, bits_in, edge_clock, gap, last_clock, length_in}
use Rattle.qspi.specs.claims.Laws.{Starting, Calm, goes_on}
use Rattle.qspi.specs.claims.Clauses.{NoClock1, Alike, PendingWins}
use Rattle.qspi.specs.declared.Qspi.{Qspi}
use Rattle.qspi.specs.declared.Pins.{Pins}
use Rattle.qspi.proofs.Buffered.{newqp_moves, buffered}
use Rattle.qspi.proofs.Delay.{run_add, in_delay_holds, next_starts}
use Rattle.qspi.proofs.Edges.{next_edge, edges_fall}
use Rattle.qspi.proofs.Mosi.{by_test}

-- Between which two edges a clock lies.
find : {A : Type 0} (e : Qspi) (m k : ℕ) → k < edge_clock e m →
    ((j d : ℕ) → j < m → d < gap e j → k ≡ edge_clock e j + d → A) → A
find e zero k less found = absurd (omega arith)
find e (suc m) k less found =
    by_test (ltb k (edge_clock e m))
    (λ h. find e m k (ltb-true k (edge_clock e m) h) (λ j d a b c. found j d (omega arith) b c))
    (λ h.
    let later : edge_clock e m + (k - edge_clock e m) ≡ k = omega (arith, ltb-false k (edge_clock e m) h) in
    found m (k - edge_clock e m) (omega arith) (omega (arith, next_edge e m, ltb-false k (edge_clock e m) h)) (sym later))

-- Within an entry that goes on, its delay included, no clock is a clock 1.
module _ (q : Qspi) (pins : ℕ → Pins) (s : Starting q) (calm : Calm pins) (goes : goes_on q ≡ true) where
  plays_within : (k : ℕ) → 0 < k → k < last_clock (begun q) → (run pins k q).entry.playing ≡ true
  plays_within k pos less =
      find (begun q) (bits_in (begun q) * 2) k less
      (λ j d early within here.
      ap (λ c. (run pins c q).entry.playing) here
      ∙ ap (λ r. r.entry.playing) (edges_fall q pins s calm j d early within (omega arith)))

  not_within : (k : ℕ) → 0 < k → k < length_in (begun q) → Starting (run pins k q) → ⊥
  not_within k pos less starts =
      by_test (ltb k (last_clock (begun q)))
      (λ h. true≢false (sym (plays_within k pos (ltb-true k (last_clock (begun q)) h)) ∙ starts.not_playing))
      (λ h.
      let here : last_clock (begun q) + (k - last_clock (begun q)) ≡ k =
      omega (arith, ltb-false k (last_clock (begun q)) h) in
      true≢false
      (sym (in_delay_holds q pins s calm goes (k - last_clock (begun q)) (omega (arith, here)))
      ∙ ap (λ c. (run pins c q).entry.delaying) here ∙ starts.not_delaying))

-- Where two are alike, both stand before clock 1 or neither does.
alike_starts : (q r : Qspi) → Alike q r → Starting q → Starting r
alike_starts q r a s =
    record {
      on = rw a.spcr1 s.on;
      not_playing = rw a.entry s.not_playing;
      not_delaying = rw a.entry s.not_delaying;
      goes = rw (a.spcr0, a.entry, a.spcr3) s.goes;
    }

alike_sym : (q r : Qspi) → Alike q r → Alike r q
alike_sym q r a =
    record {
      spcr0 = sym a.spcr0;
      spcr1 = sym a.spcr1;
      spcr3 = sym a.spcr3;
      spsr = sym a.spsr;
      ram = sym a.ram;
      working = sym a.working;
      pointer = sym a.pointer;
      entry = sym a.entry;
    }

pub pending_wins : PendingWins
pending_wins q pins s calm goes clear d v upper pos less =
    let later : ℕ → Pins = λ k. pins (d + k) in
    let m : Qspi = run pins d q in
    let c : ℕ = length_in (begun q) - d in
    let never : NoClock1 m later c =
    λ k h starts. not_within q pins s calm goes (d + k) (omega arith) (omega arith)
    (subst Starting (sym (run_add pins d k q)) starts) in
    let whole : d + c ≡ length_in (begun q) = omega arith in
    let starts : Starting (run later c m) =
    subst Starting (ap (λ k. run pins k q) (sym whole) ∙ run_add pins d c q) (next_starts q pins s calm goes clear).1 in (
      alike_starts (run later c m) (run later c (write_spcr2 m v upper true)) (buffered m v upper true later c never).0 starts,
      newqp_moves m v upper later c
          (λ k h begins. never k h
          (alike_starts (run later k (write_spcr2 m v upper true)) (run later k m)
          (alike_sym (run later k m) (run later k (write_spcr2 m v upper true))
          (buffered m v upper true later k (λ i less. never i (omega arith))).0)
          begins)),
    )
