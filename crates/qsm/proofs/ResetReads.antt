-- What a read after a reset answers: a test that computes, at every offset of the map, and refusal 2 past it. Assumes nothing.
use mathlib.Core.Path.{◌≡◌, refl, ap, ◌∙◌}
use mathlib.Core.Bool.{Bool, true, false, cond, ◌&&◌}
use mathlib.Core.List.{List, [], ◌∷◌}
use Prim.Native.Nat.{ℕ, zero, suc, ◌+◌, ◌*◌, ◌%◌, ◌<◌}
use native.Mathlib.Omega.{arith}
use lib.Dec.{eqb, ltb}
use borrow.Author.Tests.{eqb-true, eqb-false, eq-eqb, ne_eqb, ltb-true, ltb-false}
use Rattle.steps.specs.Iterate.{iterate}
use Rattle.sci.specs.model.Status.{fall, fall_seen, mark_seen}
use Rattle.sci.proofs.Membership.{and_left, and_right}
use Rattle.qspi.specs.model.Registers.{reset}
use Rattle.qsm.specs.model.State.{reset_module}
use Rattle.qsm.specs.model.Map.{decode}
use Rattle.qsm.specs.model.Lanes as lanes
use Rattle.qsm.specs.model.Pins.{mask, owned, own_levels, levels, portqs_read}
use Rattle.qsm.specs.model.Own.{peek_own}
use Rattle.qsm.specs.model.Serial.{peek_serial, serial_read}
use Rattle.qsm.specs.model.Queue.{peek_queue, queue_read}
use Rattle.qsm.specs.model.Word.{peek}
use Rattle.qsm.specs.model.Access.{fetch, fetched}
use Rattle.qsm.specs.model.Decision.{shaped, admitted, decide_read}
use Rattle.qsm.specs.model.Event.{done, answer_of, after_read, read_value, refused, resets, reads, does, step}
use Rattle.qsm.specs.claims.Registers.{Row, registers, listed, in_map, reset_value, AfterReset, ResetReads}
use Rattle.qsm.specs.declared.state.Module.{Module}
use Rattle.qsm.specs.declared.event.Done.{Done}
use Rattle.qsm.proofs.Booleans.{on}
use Rattle.qsm.proofs.Ranges.{past, past_map}

-- ---- a test of every number below n

abbrev pub every : (ℕ → Bool) → ℕ → Bool
every f zero = true
every f (suc n) = every f n && f n

pub at : (f : ℕ → Bool) (n : ℕ) → every f n ≡ true → (k : ℕ) → k < n → f k ≡ true
at f zero t k h = absurd (let no : ◌≡◌ {A = ℕ} 0 1 = omega arith in omega arith)
at f (suc n) t k h =
    on (eqb k n) (λ e. rw (eqb-true k n e) (and_right (every f n) (f n) t))
    (λ e. at f n (and_left (every f n) (f n) t) k (omega (arith, eqb-false k n e)))

-- ---- of a read: refusal and value as the map's numbers say

abbrev right : Done → ℕ → ℕ → Bool
right d width offset =
    eqb d.refusal (cond (in_map width offset) 0 2) && eqb d.value (cond (in_map width offset) (reset_value width offset) 0)

abbrev after : ℕ → ℕ → Done
after width offset = reads reset_module true width offset

bytes_right : every (λ o. right (after 1 o) 1 o) 336 ≡ true
unfolding reads refused decide_read admitted lanes.in_map decode read_value fetched fetch iterate peek peek_own peek_serial peek_queue portqs_read mask owned own_levels levels reset_module reset after_read serial_read queue_read mark_seen fall_seen fall
bytes_right = refl

words_right : every (λ k. right (after 2 (k * 2)) 2 (k * 2)) 168 ≡ true
unfolding reads refused decide_read admitted lanes.in_map decode read_value fetched fetch iterate peek peek_own peek_serial peek_queue portqs_read mask owned own_levels levels reset_module reset after_read serial_read queue_read mark_seen fall_seen fall
words_right = refl

longs_right : every (λ k. right (after 4 (k * 2)) 4 (k * 2)) 168 ≡ true
unfolding reads refused decide_read admitted lanes.in_map decode read_value fetched fetch iterate peek peek_own peek_serial peek_queue portqs_read mask owned own_levels levels reset_module reset after_read serial_read queue_read mark_seen fall_seen fall
longs_right = refl

-- ---- past the map

abbrev under : List Row → Bool
under [] = true
under (r ∷ rs) = ltb r.offset 0x14F && under rs

not_listed : (rs : List Row) (b : ℕ) → under rs ≡ true → 0x14F < b → listed rs b ≡ false
not_listed [] b t h = past 0x100 0x14F b h
not_listed (r ∷ rs) b t h =
    let less : r.offset < 0x14F = ltb-true r.offset 0x14F (and_left (ltb r.offset 0x14F) (under rs) t) in
    rw (ne_eqb b r.offset (λ e. omega arith), ne_eqb b (r.offset + 1) (λ e. omega arith))
    (not_listed rs b (and_right (ltb r.offset 0x14F) (under rs) t) h)

-- An access of so many bytes and one more.
outside : (n offset : ℕ) → 0x14F < offset → in_map (suc n) offset ≡ false
outside zero offset h = not_listed registers (offset + 0) refl (omega arith)
outside (suc n) offset h = rw (outside n offset h)

pub even : (k : ℕ) → eqb (k * 2 % 2) 0 ≡ true
even k = eq-eqb (k * 2 % 2) 0 (omega arith)

past_read : (width offset : ℕ) → 0x14F < offset → shaped width offset ≡ true →
    reads reset_module true width offset ≡ done reset_module 2 0
unfolding reads refused decide_read admitted lanes.in_map
past_read width offset h s = rw (s, past_map offset h)

past_right : (width offset : ℕ) → in_map width offset ≡ false → right (done reset_module 2 0) width offset ≡ true
past_right width offset h = rw h

module _ (m : Module) where
  as_tested : (width offset : ℕ) (d : Done) → reads reset_module true width offset ≡ d → right d width offset ≡ true →
      AfterReset m width offset
  unfolding step answer_of does resets
  as_tested width offset d e t =
      record {
        refusal =
            ap (λ (x : Done). x.refusal) e
            ∙ eqb-true d.refusal (cond (in_map width offset) 0 2)
            (and_left _ (eqb d.value (cond (in_map width offset) (reset_value width offset) 0)) t);
        value =
            ap (λ (x : Done). x.value) e
            ∙ eqb-true d.value (cond (in_map width offset) (reset_value width offset) 0)
            (and_right (eqb d.refusal (cond (in_map width offset) 0 2)) _ t);
      }

  -- Below 150 by the test, else past the map.
  of_read : (n offset : ℕ) → shaped (suc n) offset ≡ true → (offset < 0x150 → right (after (suc n) offset) (suc n) offset ≡ true) →
      AfterReset m (suc n) offset
  of_read n offset s tested =
      on (ltb offset 0x150)
      (λ e. as_tested (suc n) offset (after (suc n) offset) refl (tested (ltb-true offset 0x150 e)))
      (λ e.
      let h : 0x14F < offset = omega (arith, ltb-false offset 0x150 e) in
      as_tested (suc n) offset (done reset_module 2 0) (past_read (suc n) offset h s) (past_right (suc n) offset (outside n offset h)))

  pub reset_reads : ResetReads m
  reset_reads =
      record {
        bytes = λ o. of_read 0 o refl (λ h. at (λ o. right (after 1 o) 1 o) 336 bytes_right o h);
        words =
            λ k. of_read 1 (k * 2) (even k)
            (λ h. at (λ k. right (after 2 (k * 2)) 2 (k * 2)) 168 words_right k (omega arith));
        longs =
            λ k. of_read 3 (k * 2) (even k)
            (λ h. at (λ k. right (after 4 (k * 2)) 4 (k * 2)) 168 longs_right k (omega arith));
      }
