-- Reads and writes of the queue's words go by no masked data, but for what a masked word itself reads. Assumes nothing.
use mathlib.Core.Path.{◌≡◌, refl, sym, ap, ◌∙◌}
use mathlib.Core.Bool.{Bool, true, false, cond}
use mathlib.Core.List.{List}
use Prim.Native.Nat.{ℕ, ◌%◌}
use lib.ListN.{set, get_or}
use Rattle.steps.specs.Bits.{merge}
use Rattle.qspi.specs.model.Fields.{spe}
use Rattle.qspi.specs.model.Parts.{with_registers}
use Rattle.qspi.specs.model.Registers.{with_spcr1, switched, write_spcr1}
use Rattle.qspi.specs.declared.Qspi.{Qspi}
use Rattle.qsm.specs.model.Queue.{peek_queue, queue_read, put_queue, queue_unmodelled, queue_guarded}
use Rattle.qsm.specs.declared.map.QueueWord.{QueueWord}
use Rattle.qsm.specs.declared.map.QueueWord.TheVariants.{Spcr0, Spcr1, Spcr2, Spcr3Spsr, Receive, Transmit, Command}
use Rattle.claims_isolation.proofs.Blank.{blank, blank_twice, blank_set, blank_own, blank_get}
use Rattle.claims_isolation.proofs.Masked.{same, collects, masked, cond_again, masked_twice}

-- Of a word that is masked any value is, and of another one the same is written over the same.
merged_alike : (own : Bool) (old new : ℕ) (upper lower : Bool) →
    cond own 0 (merge old new upper lower) ≡ cond own 0 (merge (cond own 0 old) new upper lower)
merged_alike true old new upper lower = refl
merged_alike false old new upper lower = refl

module _ (entries : ℕ → Bool) where
  -- A word of one of the two lists written by its bytes.
  word_masked : (l : List ℕ) (i v : ℕ) (upper lower : Bool) →
      blank entries (set l i (merge (get_or l i 0) v upper lower))
      ≡ blank entries (set (blank entries l) i (merge (get_or (blank entries l) i 0) v upper lower))
  word_masked l i v upper lower =
      blank_set entries l i (merge (get_or l i 0) v upper lower)
      ∙ ap (set (blank entries l) i) (merged_alike (entries i) (get_or l i 0) v upper lower)
      ∙ ap (λ w. set (blank entries l) i (cond (entries i) 0 (merge w v upper lower))) (sym (blank_get entries l i))
      ∙ ap (λ k. set k i (cond (entries i) 0 (merge (get_or (blank entries l) i 0) v upper lower))) (sym (blank_twice entries l))
      ∙ sym (blank_set entries (blank entries l) i (merge (get_or (blank entries l) i 0) v upper lower))

  switched_masked : (before after : Bool) (q : Qspi) → masked entries (switched before after q) ≡ masked entries (switched before after (masked entries q))
  switched_masked false false q = sym (masked_twice entries q)
  switched_masked false true q = same (switched false true q) refl (sym (blank_twice entries q.ram.receive)) (sym (blank_twice entries q.ram.transmit))
  switched_masked true false q = same (switched true false q) refl (sym (blank_twice entries q.ram.receive)) (sym (blank_twice entries q.ram.transmit))
  switched_masked true true q = sym (masked_twice entries q)

  put_masked : (q : Qspi) (w : QueueWord) (v : ℕ) (upper lower : Bool) →
      masked entries (put_queue q w v upper lower) ≡ masked entries (put_queue (masked entries q) w v upper lower)
  unfolding put_queue write_spcr1
  put_masked q Spcr0 v upper lower = sym (masked_twice entries (put_queue q Spcr0 v upper lower))
  put_masked q Spcr1 v upper lower =
      switched_masked (spe q.registers.spcr1) (spe (merge q.registers.spcr1 v upper lower))
      (with_registers q (with_spcr1 q.registers (merge q.registers.spcr1 v upper lower)))
  put_masked q Spcr2 v upper lower = sym (masked_twice entries (put_queue q Spcr2 v upper lower))
  put_masked q Spcr3Spsr v upper lower = sym (masked_twice entries (put_queue q Spcr3Spsr v upper lower))
  put_masked q (Receive i) v upper lower =
      same (put_queue q (Receive i) v upper lower) (sym (cond_again (collects entries q) q.entry.collected))
      (word_masked q.ram.receive (i % 16) v upper lower) (sym (blank_twice entries q.ram.transmit))
  put_masked q (Transmit i) v upper lower =
      same (put_queue q (Transmit i) v upper lower) (sym (cond_again (collects entries q) q.entry.collected))
      (sym (blank_twice entries q.ram.receive)) (word_masked q.ram.transmit (i % 16) v upper lower)
  put_masked q (Command i) v upper lower = sym (masked_twice entries (put_queue q (Command i) v upper lower))

  -- So of two that are alike, the same write leaves two that are alike; and a write of a masked transmit word shows nowhere.
  pub put_alike : (q r : Qspi) (w : QueueWord) (v : ℕ) (upper lower : Bool) → masked entries q ≡ masked entries r →
      masked entries (put_queue q w v upper lower) ≡ masked entries (put_queue r w v upper lower)
  put_alike q r w v upper lower e =
      put_masked q w v upper lower
      ∙ ap (λ s. masked entries (put_queue s w v upper lower)) e
      ∙ sym (put_masked r w v upper lower)

  pub transmit_hidden : (q : Qspi) (i v : ℕ) (upper lower : Bool) → entries (i % 16) ≡ true →
      masked entries (put_queue q (Transmit i) v upper lower) ≡ masked entries q
  unfolding put_queue
  transmit_hidden q i v upper lower own =
      same (put_queue q (Transmit i) v upper lower) refl refl
      (blank_own entries q.ram.transmit (i % 16) (merge (get_or q.ram.transmit (i % 16) 0) v upper lower) own)

  -- What a read leaves that touches byte 1F, or not.
  pub read_alike : (status : Bool) (q r : Qspi) → masked entries q ≡ masked entries r →
      masked entries (queue_read status q) ≡ masked entries (queue_read status r)
  unfolding queue_read
  read_alike true q r e = ap (λ s. queue_read true s) e
  read_alike false q r e = e

  -- Refusals 3 and 4 go by the registers.
  pub unmodelled_alike : (q r : Qspi) (w : QueueWord) (v : ℕ) (upper : Bool) → masked entries q ≡ masked entries r →
      queue_unmodelled q w v upper ≡ queue_unmodelled r w v upper
  unfolding queue_unmodelled
  unmodelled_alike q r Spcr0 v upper e = refl
  unmodelled_alike q r Spcr1 v upper e = ap (λ s. queue_unmodelled s Spcr1 v upper) e
  unmodelled_alike q r Spcr2 v upper e = refl
  unmodelled_alike q r Spcr3Spsr v upper e = refl
  unmodelled_alike q r (Receive i) v upper e = refl
  unmodelled_alike q r (Transmit i) v upper e = refl
  unmodelled_alike q r (Command i) v upper e = refl

  pub guarded_alike : (q r : Qspi) (w : QueueWord) (v : ℕ) (upper lower : Bool) → masked entries q ≡ masked entries r →
      queue_guarded q w v upper lower ≡ queue_guarded r w v upper lower
  unfolding queue_guarded
  guarded_alike q r Spcr0 v upper lower e = ap (λ s. queue_guarded s Spcr0 v upper lower) e
  guarded_alike q r Spcr1 v upper lower e = ap (λ s. queue_guarded s Spcr1 v upper lower) e
  guarded_alike q r Spcr2 v upper lower e = refl
  guarded_alike q r Spcr3Spsr v upper lower e = refl
  guarded_alike q r (Receive i) v upper lower e = refl
  guarded_alike q r (Transmit i) v upper lower e = refl
  guarded_alike q r (Command i) v upper lower e = refl

  -- A word that is read: any but a receive or transmit word that is masked.
  abbrev pub hides : QueueWord → Bool
  hides Spcr0 = false
  hides Spcr1 = false
  hides Spcr2 = false
  hides Spcr3Spsr = false
  hides (Receive i) = entries (i % 16)
  hides (Transmit i) = entries (i % 16)
  hides (Command i) = false

  word_alike : (l k : List ℕ) (i : ℕ) → blank entries l ≡ blank entries k → entries i ≡ false → get_or l i 0 ≡ get_or k i 0
  word_alike l k i e own =
      sym (rw own at (blank_get entries l i)) ∙ ap (λ b. get_or b i 0) e ∙ (rw own at (blank_get entries k i))

  pub peek_alike : (q r : Qspi) (w : QueueWord) → masked entries q ≡ masked entries r → hides w ≡ false → peek_queue q w ≡ peek_queue r w
  unfolding peek_queue
  peek_alike q r Spcr0 e free = ap (λ s. peek_queue s Spcr0) e
  peek_alike q r Spcr1 e free = ap (λ s. peek_queue s Spcr1) e
  peek_alike q r Spcr2 e free = ap (λ s. peek_queue s Spcr2) e
  peek_alike q r Spcr3Spsr e free = ap (λ s. peek_queue s Spcr3Spsr) e
  peek_alike q r (Receive i) e free = word_alike q.ram.receive r.ram.receive (i % 16) (ap (λ s. s.ram.receive) e) free
  peek_alike q r (Transmit i) e free = word_alike q.ram.transmit r.ram.transmit (i % 16) (ap (λ s. s.ram.transmit) e) free
  peek_alike q r (Command i) e free = ap (λ s. peek_queue s (Command i)) e
