-- The queue with the data of some entries masked: their words, and what of the entry under way is data. Assumes nothing.
use mathlib.Core.Path.{◌≡◌, refl}
use mathlib.Core.Bool.{Bool, true, false, cond, not, ◌&&◌}
use mathlib.Core.List.{List}
use Prim.Native.Nat.{ℕ, ◌%◌}
use Rattle.qspi.specs.declared.Qspi.{Qspi}
use Rattle.claims_isolation.proofs.Blank.{blank, blank_twice}

-- The queue with this instead of the bits collected, the receive and the transmit words. The word under way and MOSI are no more than
-- data, whoever's entry runs.
abbrev pub shown : Qspi → ℕ → List ℕ → List ℕ → Qspi
shown q collected receive transmit =
    record {
      registers = q.registers;
      spsr = q.spsr;
      next = q.next;
      entry =
          record {
            command = q.entry.command;
            word = 0;
            playing = q.entry.playing;
            delaying = q.entry.delaying;
            halted = q.entry.halted;
            left = q.entry.left;
            edges = q.entry.edges;
            mosi = false;
            collected = collected;
            selecting = q.entry.selecting;
          };
      ram = record { receive = receive; transmit = transmit; commands = q.ram.commands };
    }

pub same : (q : Qspi) {a b : ℕ} {r s t u : List ℕ} → a ≡ b → r ≡ s → t ≡ u → shown q a r t ≡ shown q b s u
same q ab rs tu = rw (ab, rs, tu)

-- The bits collected are for an entry that is none of these.
abbrev pub collects : (ℕ → Bool) → Qspi → Bool
collects entries q = q.entry.playing && not (entries (q.next.pointer % 16))

abbrev pub masked : (ℕ → Bool) → Qspi → Qspi
masked entries q =
    shown q (cond (collects entries q) q.entry.collected 0) (blank entries q.ram.receive) (blank entries q.ram.transmit)

pub cond_again : (b : Bool) (x : ℕ) → cond b (cond b x 0) 0 ≡ cond b x 0
cond_again true x = refl
cond_again false x = refl

pub masked_twice : (entries : ℕ → Bool) (q : Qspi) → masked entries (masked entries q) ≡ masked entries q
masked_twice entries q =
    rw (cond_again (collects entries q) q.entry.collected, blank_twice entries q.ram.receive, blank_twice entries q.ram.transmit)
