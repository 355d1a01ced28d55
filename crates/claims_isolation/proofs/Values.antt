-- The same read of two alike modules leaves alike ones; where it touches no masked word, it gives the same value. Assumes nothing.
use mathlib.Core.Path.{◌≡◌, refl, sym, ap, ◌∙◌}
use mathlib.Core.Bool.{Bool, true, false, cond, not, false≢true}
use Prim.Native.Nat.{ℕ}
use lib.Dec.{eqb}
use Rattle.steps.specs.Iterate.{iterate}
use Rattle.qspi.specs.declared.Qspi.{Qspi}
use Rattle.qsm.specs.model.Map.{decode}
use Rattle.qsm.specs.model.Lanes.{upper_lane, lane, touches}
use Rattle.qsm.specs.model.Queue.{queue_read}
use Rattle.qsm.specs.model.Word.{peek}
use Rattle.qsm.specs.model.Access.{next, fetch, fetched}
use Rattle.qsm.specs.model.Decision.{permits, admitted, decide_read}
use Rattle.qsm.specs.model.Event.{done, refused, after_read, read_value, reads}
use Rattle.qsm.specs.declared.map.Place.{Place}
use Rattle.qsm.specs.declared.map.Place.TheVariants.{Own, Serial, Queue, Hole}
use Rattle.qsm.specs.declared.state.Module.{Module}
use Rattle.qsm.specs.declared.decision.Decision.{Decision}
use Rattle.claims_isolation.proofs.Words.{read_alike, hides, peek_alike}
use Rattle.claims_isolation.proofs.Held.{beside, Alike, DoneAlike}

not_true : (b : Bool) → not b ≡ true → b ≡ false
not_true true h = absurd (false≢true h)
not_true false h = refl

module _ (entries : ℕ → Bool) where
  read_beside : (m : Module) (q : Qspi) (x width offset : ℕ) →
      after_read (beside m q x) width offset ≡ beside (after_read m width offset) (queue_read (touches 0x1F 1 width offset) q) x
  unfolding after_read
  read_beside m q x width offset = refl

  reading_after : (m n : Module) (width offset : ℕ) → Alike entries m n → Alike entries (after_read m width offset) (after_read n width offset)
  unfolding after_read
  reading_after m n width offset a =
      record {
        queue = queue_read (touches 0x1F 1 width offset) a.queue;
        inputs = a.inputs;
        is = ap (λ k. after_read k width offset) a.is ∙ read_beside m a.queue a.inputs width offset;
        same = read_alike entries (touches 0x1F 1 width offset) m.qspi a.queue a.same;
      }

  read_decided_holds : (permitted : Bool) (d : Decision) (m n : Module) (width offset : ℕ) → Alike entries m n →
      DoneAlike entries (cond permitted (done (after_read m width offset) 0 (read_value m width offset)) (refused d m))
      (cond permitted (done (after_read n width offset) 0 (read_value n width offset)) (refused d n))
  unfolding refused
  read_decided_holds true d m n width offset a = record { state = reading_after m n width offset a; refusal = refl }
  read_decided_holds false d m n width offset a = record { state = a; refusal = refl }

  pub read_decision : (m n : Module) (supervisor : Bool) (width offset : ℕ) → Alike entries m n →
      decide_read m supervisor width offset ≡ decide_read n supervisor width offset
  unfolding decide_read admitted
  read_decision m n supervisor width offset a = rw a.is

  pub read_same : (m n : Module) (supervisor : Bool) (width offset : ℕ) → Alike entries m n →
      DoneAlike entries (reads m supervisor width offset) (reads n supervisor width offset)
  unfolding reads
  read_same m n supervisor width offset a =
      rw (← read_decision m n supervisor width offset a)
      (read_decided_holds (permits (decide_read m supervisor width offset)) (decide_read m supervisor width offset) m n width offset a)

  -- A word of the queue half that is not masked.
  abbrev pub readable : Place → Bool
  readable (Own w) = false
  readable (Serial w) = false
  readable (Queue w) = not (hides entries w)
  readable Hole = false

  pub record Readable (width offset : ℕ) : Type 0 where
    pub first : readable (decode offset) ≡ true
    pub second : eqb width 4 ≡ true → readable (decode (next offset)) ≡ true

  peek_same : (m n : Module) (p : Place) → readable p ≡ true → Alike entries m n → peek m p ≡ peek n p
  unfolding peek
  peek_same m n (Own w) h a = absurd (false≢true h)
  peek_same m n (Serial w) h a = absurd (false≢true h)
  peek_same m n (Queue w) h a =
      peek_alike entries m.qspi a.queue w a.same (not_true (hides entries w) h) ∙ sym (ap (λ k. peek k (Queue w)) a.is)
  peek_same m n Hole h a = absurd (false≢true h)

  fetched_same : (long : Bool) (m n : Module) (at : ℕ) → readable (decode at) ≡ true →
      (long ≡ true → readable (decode (next at)) ≡ true) → Alike entries m n → fetched m at (cond long 2 1) ≡ fetched n at (cond long 2 1)
  unfolding fetched iterate fetch
  fetched_same true m n at first second a = rw (peek_same m n (decode at) first a, peek_same m n (decode (next at)) (second refl) a)
  fetched_same false m n at first second a = rw (peek_same m n (decode at) first a)

  value_same : (m n : Module) (width offset : ℕ) → Readable width offset → Alike entries m n → read_value m width offset ≡ read_value n width offset
  unfolding read_value
  value_same m n width offset h a =
      ap (lane width (upper_lane width offset)) (fetched_same (eqb width 4) m n offset h.first h.second a)

  value_decided : (permitted : Bool) (d : Decision) (m n : Module) (width offset : ℕ) → (permitted ≡ true → Readable width offset) →
      Alike entries m n →
      (cond permitted (done (after_read m width offset) 0 (read_value m width offset)) (refused d m)).value
      ≡ (cond permitted (done (after_read n width offset) 0 (read_value n width offset)) (refused d n)).value
  unfolding refused
  value_decided true d m n width offset h a = value_same m n width offset (h refl) a
  value_decided false d m n width offset h a = refl

  pub value_read : (m n : Module) (supervisor : Bool) (width offset : ℕ) →
      (permits (decide_read m supervisor width offset) ≡ true → Readable width offset) → Alike entries m n →
      (reads m supervisor width offset).value ≡ (reads n supervisor width offset).value
  unfolding reads
  value_read m n supervisor width offset h a =
      rw (← read_decision m n supervisor width offset a)
      (value_decided (permits (decide_read m supervisor width offset)) (decide_read m supervisor width offset) m n width offset h a)
