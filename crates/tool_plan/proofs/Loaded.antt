-- What the writes of a plan's entries leave: their words and commands in the RAM, and all else as it was. Assumes nothing.
use mathlib.Core.Path.{◌≡◌, refl, sym, ap, subst, ◌∙◌}
use mathlib.Core.Bool.{true}
use mathlib.Core.List.{List, foldl-append}
use Prim.Native.Nat.{ℕ, zero, suc, ◌+◌, ◌*◌, ◌/◌, ◌%◌, ◌≤◌, ◌<◌}
use native.Mathlib.Omega.{arith}
use lib.Dec.{eqb}
use lib.ListN.{get_or, set, length, length-set}
use lib.Seq.{get_or-set_same, get_or-set_other}
use borrow.Author.Tests.{eqb-true, eqb-false}
use Rattle.steps.specs.Bits.{word, upper_byte, lower_byte}
use Rattle.qsm.specs.model.Queue.{put_queue, queue_unmodelled, queue_guarded}
use Rattle.qsm.specs.model.Word.{put, unmodelled, guarded}
use Rattle.qsm.specs.model.State.{with_qspi}
use Rattle.qsm.specs.model.Event.{does}
use Rattle.qsm.specs.declared.state.Module.{Module}
use Rattle.qsm.specs.declared.event.Event.{Event}
use Rattle.qsm.specs.declared.map.QueueWord.TheVariants.{Transmit, Command}
use Rattle.qsm.specs.declared.map.Place.TheVariants.{Queue}
use Rattle.qsm.proofs.Booleans.{on}
use Rattle.tool_plan.specs.Check.{command_no, sent_no}
use Rattle.tool_plan.specs.Loading.{writing, place_no, entry_writes, entries_written}
use Rattle.tool_plan.specs.Running.{played, Ready, Sized}
use Rattle.tool_plan.specs.declared.Plan.{Plan}
use Rattle.tool_plan.proofs.Writing.{word_written_holds, byte_written, transmit_at, command_at}
use Rattle.tool_plan.proofs.Bytes.{Replaced, byte_laid}

-- The module with another queue; and what all of it but the queue's RAM is.
pub record Aside (m n : Module) : Type 0 where
  pub rest : n ≡ with_qspi m n.qspi
  pub registers : n.qspi.registers ≡ m.qspi.registers
  pub spsr : n.qspi.spsr ≡ m.qspi.spsr

-- The first k entries are in.
pub record Entries (p : Plan) (m n : Module) (k : ℕ) : Type 0 where
  pub aside : Aside m n
  pub words_long : length n.qspi.ram.transmit ≡ 16
  pub commands_long : length n.qspi.ram.commands ≡ 16
  pub bytes : (i : ℕ) → get_or n.qspi.ram.commands i 0 < 256
  pub words : (j : ℕ) → j < k → get_or n.qspi.ram.transmit (place_no p j) 0 ≡ sent_no p j
  pub commands : (j : ℕ) → j < k → get_or n.qspi.ram.commands (place_no p j) 0 ≡ command_no p j

module _ (p : Plan) (m : Module) (sized : Sized p) (sent_small : (k : ℕ) → k < p.count → sent_no p k < 65536) (few : p.count ≤ 16) where
  -- One entry: the transmit word, then the command byte.
  module _ (n : Module) (k : ℕ) (less : k < p.count) (e : Entries p m n k) where
    abbrev i : ℕ
    i = place_no p k

    apart : (j : ℕ) → j < k → place_no p j ≡ i → ⊥
    apart j l h = omega arith

    abbrev n₁ : Module
    n₁ = put n (Queue (Transmit i)) (sent_no p k) true true

    put_word : (does n (writing 2 (0x120 + i * 2) (sent_no p k))).state ≡ n₁
    unfolding unmodelled guarded queue_unmodelled queue_guarded
    put_word =
        word_written_holds n (0x120 + i * 2) (sent_no p k) (Transmit i) (transmit_at i (omega arith)) (omega arith) (sent_small k less) refl refl

    in_word : n₁.qspi.ram.transmit ≡ set n.qspi.ram.transmit i (sent_no p k)
    unfolding put put_queue
    in_word =
        let small : sent_no p k < 65536 = sent_small k less in
        let same : word (upper_byte (sent_no p k)) (lower_byte (sent_no p k)) ≡ sent_no p k = omega arith in
        let at : i % 16 ≡ i = omega arith in
        rw (same, at)

    abbrev n₂ : Module
    n₂ = put n₁ (Queue (Command (i / 2))) (command_no p k * 257) (eqb ((0x140 + i) % 2) 0) (eqb ((0x140 + i) % 2) 1)

    put_byte : (does n₁ (writing 1 (0x140 + i) (command_no p k))).state ≡ n₂
    unfolding unmodelled guarded queue_unmodelled queue_guarded
    put_byte =
        byte_written n₁ (0x140 + i) (command_no p k) (Command (i / 2)) (command_at i (omega arith)) (sized.commands k) refl refl

    same_commands : n₁.qspi.ram.commands ≡ n.qspi.ram.commands
    unfolding put put_queue
    same_commands = refl

    in_byte : Replaced n.qspi.ram.commands n₂.qspi.ram.commands i (command_no p k)
    unfolding put put_queue
    in_byte =
        let parity : (0x140 + i) % 2 ≡ i % 2 = omega arith in
        let at : i / 2 % 8 % 8 ≡ i / 2 % 8 = omega arith in
        rw parity
        (byte_laid n.qspi.ram.commands e.commands_long e.bytes i (command_no p k) (omega arith) (sized.commands k))

    same_words : n₂.qspi.ram.transmit ≡ n₁.qspi.ram.transmit
    unfolding put put_queue
    same_words = refl

    words_are : n₂.qspi.ram.transmit ≡ set n.qspi.ram.transmit i (sent_no p k)
    words_are = same_words ∙ in_word

    set_aside : Aside m n₂
    unfolding put put_queue
    set_aside =
        record {
          rest = ap (λ (x : Module). with_qspi x n₂.qspi) e.aside.rest;
          registers = e.aside.registers;
          spsr = e.aside.spsr;
        }

    entry_in : Entries p m n₂ (suc k)
    entry_in =
        record {
          aside = set_aside;
          words_long = ap length words_are ∙ length-set n.qspi.ram.transmit i (sent_no p k) ∙ e.words_long;
          commands_long = in_byte.long ∙ e.commands_long;
          bytes =
              λ j.
              on (eqb j i)
              (λ h. subst (λ (x : ℕ). x < 256) (sym (ap (λ (x : ℕ). get_or n₂.qspi.ram.commands x 0) (eqb-true j i h) ∙ in_byte.here)) (sized.commands k))
              (λ h. subst (λ (x : ℕ). x < 256) (sym (in_byte.others j (eqb-false j i h))) (e.bytes j));
          words =
              λ j l.
              ap (λ (t : List ℕ). get_or t (place_no p j) 0) words_are
              ∙ on (eqb j k)
              (λ h.
              subst (λ (x : ℕ). get_or (set n.qspi.ram.transmit i (sent_no p k)) (place_no p x) 0 ≡ sent_no p x) (sym (eqb-true j k h))
              (get_or-set_same n.qspi.ram.transmit i (sent_no p k) 0 (omega (arith, e.words_long))))
              (λ h.
              let other : j ≡ k → ⊥ = eqb-false j k h in
              let before : j < k = omega arith in
              get_or-set_other n.qspi.ram.transmit i (place_no p j) (sent_no p k) 0 (apart j before) ∙ e.words j before);
          commands =
              λ j l.
              on (eqb j k)
              (λ h.
              subst (λ (x : ℕ). get_or n₂.qspi.ram.commands (place_no p x) 0 ≡ command_no p x) (sym (eqb-true j k h))
              in_byte.here)
              (λ h.
              let other : j ≡ k → ⊥ = eqb-false j k h in
              let before : j < k = omega arith in
              in_byte.others (place_no p j) (apart j before) ∙ e.commands j before);
        }

    both_put : played (entry_writes p k) n ≡ n₂
    both_put = ap (λ (x : Module). (does x (writing 1 (0x140 + i) (command_no p k))).state) put_word ∙ put_byte

  pub entries_in : Ready m → (k : ℕ) → k ≤ p.count → Entries p m (played (entries_written p k) m) k
  unfolding entries_written
  entries_in r zero less =
      record {
        aside = record { rest = refl; registers = refl; spsr = refl };
        words_long = r.words;
        commands_long = r.commands;
        bytes = r.bytes;
        words = λ j l. absurd (omega arith);
        commands = λ j l. absurd (omega arith);
      }
  entries_in r (suc k) less =
      let n : Module = played (entries_written p k) m in
      let e : Entries p m n k = entries_in r k (omega arith) in
      subst (λ (x : Module). Entries p m x (suc k))
      (sym (foldl-append (λ (x : Module) (a : Event). (does x a).state) m (entries_written p k) (entry_writes p k) ∙ both_put n k less e))
      (entry_in n k less e)
